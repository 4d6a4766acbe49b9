-- The write that a node makes next.
use Rattle.std.proofs.Common.{◌≡◌, ℕ, ◌<◌, ◌≤◌, ◌+◌, List, refl, sym, ◌∙◌, ap, subst, arith, inl, inr}
use Rattle.std.specs.Prelude.{Bool, Option, None, Some}
use Rattle.std.specs.Option.{option_map}
use Rattle.pr_stamps.specs.Point.{Point, IsStamp, IsPrev}
use Rattle.pr_names.specs.Name.{IsName}
use Rattle.pr_vectors.specs.Vector.{clock_of, Covers, IsVector}
use Rattle.pr_vectors.proofs.Vectors.{clock_of-vector_of}
use Rattle.pr_stamps.specs.declared.newest.Newest.{Newest}
use Rattle.pr_marks.specs.Table.{Table, newest_of}
use Rattle.pr_story.specs.declared.entry.Entry.{Entry}
use Rattle.pr_story.specs.History.{current_clock, current_vector}
use Rattle.pr_story.specs.Knowledge.{IsNewestKnown}
use Rattle.pr_story.specs.Ranges.{IsStampOrNone}
use Rattle.pr_story.specs.Search.{IsNewestOf}
use Rattle.pr_node.specs.Ties.{IsMarksOf}
use Rattle.pr_node.specs.Grammar.{IsSpelled}
use Rattle.pr_node.specs.Writes.{IsClockWornIn, IsNextOwn, IsNextStamp}
use Rattle.pr_node.proofs.Clocks.{clock_out, below_or_not}
use Rattle.pr_node.proofs.Spelled.{named_covered}

clock_is : (j : List Entry) (v : List ℕ) (w : ℕ) → v ≡ current_vector j → w < 32 → clock_of v w ≡ current_clock j w
clock_is j v w is lt = ap (λ (x : List ℕ). clock_of x w) is ∙ clock_of-vector_of (current_clock j) w lt

pub clock_worn : (j : List Entry) (v : List ℕ) (great : ℕ) → v ≡ current_vector j → IsVector v → ((n : ℕ) × (n < 32) × (clock_of v n ≡ great)) → (great < 4611686018427387903 → ⊥) → IsClockWornIn j
clock_worn j v great is range held worn =
    let most : clock_of v held.0 ≤ 4611686018427387903 = range.most held.0 held.1 in
    let e : clock_of v held.0 ≡ current_clock j held.0 = clock_is j v held.0 is held.1 in
    (held.0, held.1, at (clock_of v held.0) (current_clock j held.0) great most held.2 e worn)
  where
    at : (a b great : ℕ) → a ≤ 4611686018427387903 → a ≡ great → a ≡ b → (great < 4611686018427387903 → ⊥) → b ≡ 4611686018427387903
    at a b great most h e worn = grind arith

pub newest_known : (j : List Entry) (m : Table) (o : List ℕ) (newest : Option Newest) → IsMarksOf j m → newest ≡ newest_of m o → IsNewestKnown j o (option_map (λ (n : Newest). n.stamp) newest)
newest_known j m o newest f is = by newest (f.newest o) is
  where
    by : (n : Option Newest) → IsNewestOf j o (newest_of m o) → n ≡ newest_of m o → IsNewestKnown j o (option_map (λ (n : Newest). n.stamp) n)
    by None known is = subst (λ (x : Option Newest). IsNewestOf j o x) (sym is) known
    by (Some n) known is = (subst (λ (x : Option Newest). IsNewestOf j o x) (sym is) known).0

pub next_own : (n : ℕ) (j : List Entry) (v name : List ℕ) (gone : Bool) (stamp : Point) (prev : Option Point)
    → v ≡ current_vector j → IsNextStamp n v stamp → IsStamp stamp → IsName name → IsStampOrNone prev → IsNewestKnown j name prev → IsSpelled j
    → IsNextOwn n j name gone (record { name = name; stamp = stamp; prev = prev; gone = gone })
next_own n j v name gone stamp prev is after range is_name before newest spelled =
    record {
      is_name = refl;
      is_gone = refl;
      node = after.node;
      in_range = (is_name, range, before);
      after_all = λ w lt. let e : clock_of v w ≡ current_clock j w = clock_is j v w is lt in omega (arith, e, after.after_all w lt);
      next = (after.next.0, after.next.1, after.next.2 ∙ ap (λ (k : ℕ). k + 1) (clock_is j v after.next.0 is after.next.1));
      newest = newest;
      before = follows prev before newest (λ q named. let lt : q.node < 32 = named.1 in let e : clock_of v q.node ≡ current_clock j q.node = clock_is j v q.node is lt in let k : q.clock ≤ current_clock j q.node = named.0 in let m : clock_of v q.node < stamp.clock = after.after_all q.node lt in omega (arith, e, k, m));
    }
  where
    known_node : (q : Point) → Covers (current_vector j) q → (q.clock ≤ current_clock j q.node) × (q.node < 32)
    known_node q c = elim (below_or_not q.node 32) [
      | inl lt ↦ let e : clock_of (current_vector j) q.node ≡ current_clock j q.node = clock_of-vector_of (current_clock j) q.node lt in (omega (arith, e, c.1), lt)
      | inr out ↦ let z : clock_of (current_vector j) q.node ≡ 0 = clock_out (current_clock j) q.node out in absurd (omega (arith, z, c.0, c.1))
    ]

    follows : (prev : Option Point) → IsStampOrNone prev → IsNewestKnown j name prev → ((q : Point) → (q.clock ≤ current_clock j q.node) × (q.node < 32) → q.clock < stamp.clock) → IsPrev prev stamp
    follows None range known less = tt
    follows (Some q) range known less = (range, inl (less q (known_node q (named_covered j spelled name q known.0))))
