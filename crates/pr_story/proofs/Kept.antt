-- A message that was honest stays so.
use Rattle.std.proofs.Common.{◌≡◌, ℕ, ◌<◌, ◌≤◌, List, sym, subst, arith}
use Rattle.std.specs.Prelude.{Bool}
use Rattle.pr_stamps.specs.Point.{Point}
use Rattle.pr_stamps.specs.declared.mark.Mark.{Mark}
use Rattle.pr_vectors.specs.Vector.{clock_of, Covers, zero_vector}
use Rattle.pr_names.specs.Span.{Span}
use Rattle.pr_inval.specs.declared.kind.Kind.{Kind}
use Rattle.pr_inval.specs.declared.kind.Kind.TheVariants.{Precise, Imprecise, Checkpoint, Body}
use Rattle.pr_inval.specs.declared.row.Row.{Row}
use Rattle.pr_inval.specs.declared.write_rec.WriteRec.{WriteRec}
use Rattle.pr_inval.specs.Points.{to_of, CoversPoint}
use Rattle.pr_story.specs.History.{NodeEntry, journal, WasWritten, current_clock}
use Rattle.pr_story.specs.Knowledge.{IsCoveredMark, IsCoveredWrite, IsGone}
use Rattle.pr_story.specs.Messages.{IsWithinWorld, CoversOnly, IsHonestRow, IsHonest}
use Rattle.pr_story.proofs.Basics.{clock_zero}

-- what a vector covers, a checkpoint that ends there covers
pub checkpoint_covers : (to : List ℕ) (target : List Span) (floor : List ℕ) (rows : List Row) (p : Point) → Covers to p → CoversPoint (Checkpoint to target floor rows) p
checkpoint_covers to target floor rows p c =
    let z : ◌≡◌ {A = ℕ} (clock_of zero_vector p.node) 0 = clock_zero p.node in
    let one : 1 ≤ p.clock = c.0 in
    (omega arith, c.1)

pub covers_checkpoint : (to : List ℕ) (target : List Span) (floor : List ℕ) (rows : List Row) (p : Point) → CoversPoint (Checkpoint to target floor rows) p → Covers to p
covers_checkpoint to target floor rows p c =
    let past : clock_of zero_vector p.node < p.clock = c.0 in
    (omega arith, c.1)

module _ (h g : List NodeEntry)
    (grow : (v : ℕ) → current_clock (journal h v) v ≤ current_clock (journal g v) v)
    (more : (x : WriteRec) (body dep : List ℕ) → WasWritten h x body dep → WasWritten g x body dep) where
  within_kept : (k : Kind) → ((x : WriteRec) (body dep : List ℕ) → WasWritten g x body dep → CoversPoint k x.stamp → WasWritten h x body dep) → IsWithinWorld h k → IsWithinWorld g k
  within_kept k less w = record {
    reached = λ v lt past. let r : clock_of (to_of k) v ≤ current_clock (journal h v) v = w.reached v lt past in let u : current_clock (journal h v) v ≤ current_clock (journal g v) v = grow v in omega arith;
    causal = λ x body dep wr c. w.causal x body dep (less x body dep wr c) c;
  }

  gone_more : (o : List ℕ) (s : Point) (is : Bool) → IsGone h o s is → IsGone g o s is
  gone_more o s is c = (c.0, c.1, c.2, more c.0 c.1 c.2 c.3, c.4, c.5, c.6)

  only_kept : (k : Kind) → ((x : WriteRec) (body dep : List ℕ) → WasWritten g x body dep → CoversPoint k x.stamp → WasWritten h x body dep) → CoversOnly h k → CoversOnly g k
  only_kept k less o x body dep wr c = o x body dep (less x body dep wr c) c

  module _ (to : List ℕ) (less : (x : WriteRec) (body dep : List ℕ) → WasWritten g x body dep → Covers to x.stamp → WasWritten h x body dep) where
    covered_more : (o : List ℕ) (s : Point) → IsCoveredWrite h to o s → IsCoveredWrite g to o s
    covered_more o s c = (c.0, c.1, c.2, more c.0 c.1 c.2 c.3, c.4, c.5, c.6)

    covered_less : (o : List ℕ) (s : Point) → IsCoveredWrite g to o s → IsCoveredWrite h to o s
    covered_less o s c = (c.0, c.1, c.2, less c.0 c.1 c.2 c.3 (subst (λ (t : Point). Covers to t) (sym c.5) c.6), c.4, c.5, c.6)

    mark_more : (floor o : List ℕ) (m : Mark) → IsCoveredMark h to floor o m → IsCoveredMark g to floor o m
    mark_more floor o m c = ((c.0.0, c.0.1, c.0.2, more c.0.0 c.0.1 c.0.2 c.0.3, c.0.4, c.0.5, c.0.6), c.1, c.2)

    mark_less : (floor o : List ℕ) (m : Mark) → IsCoveredMark g to floor o m → IsCoveredMark h to floor o m
    mark_less floor o m c = ((c.0.0, c.0.1, c.0.2, less c.0.0 c.0.1 c.0.2 c.0.3 (subst (λ (t : Point). Covers to t) (sym c.0.5) c.1), c.0.4, c.0.5, c.0.6), c.1, c.2)

    row_kept : (target : List Span) (floor : List ℕ) (rows : List Row) (row : Row) → IsHonestRow h (Checkpoint to target floor rows) floor row → IsHonestRow g (Checkpoint to target floor rows) floor row
    row_kept target floor rows row r = record {
      outside = r.outside;
      newest = (covered_more row.name row.newest r.newest.0, λ s c. r.newest.1 s (covered_less row.name s c));
      gone = gone_more row.name row.newest row.gone r.gone;
      marks = λ m. (λ i. mark_more floor row.name m ((r.marks m).0 i), λ c. (r.marks m).1 (mark_less floor row.name m c));
    }

  pub honest_kept : (k : Kind) → ((x : WriteRec) (body dep : List ℕ) → WasWritten g x body dep → CoversPoint k x.stamp → WasWritten h x body dep) → IsHonest h k → IsHonest g k
  honest_kept (Precise from to write) less k = (within_kept (Precise from to write) less k.0, only_kept (Precise from to write) less k.1, k.2, (k.3.0, k.3.1, more write k.3.0 k.3.1 k.3.2))
  honest_kept (Imprecise from to target) less k = (within_kept (Imprecise from to target) less k.0, only_kept (Imprecise from to target) less k.1)
  honest_kept (Checkpoint to target floor rows) less k = (
    within_kept (Checkpoint to target floor rows) less k.0,
    λ row i. row_kept to (λ x body dep w c. less x body dep w (checkpoint_covers to target floor rows x.stamp c)) target floor rows row (k.1 row i),
    λ x body dep w c o. k.2 x body dep (less x body dep w (checkpoint_covers to target floor rows x.stamp c)) c o,
  )
  honest_kept (Body name stamp bytes) less k = (k.0, k.1, more k.0 bytes k.1 k.2, k.3, k.4, k.5)
