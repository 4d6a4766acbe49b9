-- Honest messages of whatever origin keep a vector closed.
use Rattle.std.proofs.Common.{◌≡◌, ℕ, ◌<◌, ◌≤◌, ◌⊎◌, inl, inr, arith, max}
use Rattle.std.proofs.lemmas.Bool.Decides.{nat_tests}
use Rattle.pr_vectors.specs.Vector.{clock_of, join_of}
use Rattle.pr_vectors.proofs.Vectors.{length-vector_of}
use Rattle.pr_inval.specs.Points.{from_of, to_of}
use Rattle.pr_story.specs.Statements.{HonestKeepsClosed}
use Rattle.pr_story.proofs.Making.{join_clock}
use Rattle.pr_story.proofs.Points.{covered_node}
use Rattle.pr_story.proofs.Steps.{honest_within}

one_covers : (x m a b : ℕ) → m ≡ max a b → x ≤ m → (x ≤ a) ⊎ ((a < x) × (x ≤ b))
one_covers x m a b e le = grind (arith, nat_tests)

pub honest_keeps_closed : HonestKeepsClosed
honest_keeps_closed h v k closed honest start x body dep w c n lt =
    let node : x.stamp.node < 32 = covered_node (join_of v (to_of k)) x.stamp (length-vector_of _) c in
    let j : clock_of (join_of v (to_of k)) n ≡ max (clock_of v n) (clock_of (to_of k) n) = join_clock v (to_of k) n lt in
    elim (one_covers x.stamp.clock (clock_of (join_of v (to_of k)) x.stamp.node) (clock_of v x.stamp.node) (clock_of (to_of k) x.stamp.node) (join_clock v (to_of k) x.stamp.node node) c.1) [
      | inl before ↦ let d : clock_of dep n ≤ clock_of v n = closed x body dep w (c.0, before) n lt in omega arith
      | inr now ↦
          let s : clock_of (from_of k) x.stamp.node ≤ clock_of v x.stamp.node = start x.stamp.node node in
          let past : clock_of v x.stamp.node < x.stamp.clock = now.0 in
          let d : clock_of dep n ≤ clock_of (to_of k) n = (honest_within h k honest).causal x body dep w (omega arith, now.1) n lt in
          omega arith
    ]
