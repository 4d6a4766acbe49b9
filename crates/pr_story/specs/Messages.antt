-- Messages that claim nothing that is not so, and messages that are of use to their stream.
use Rattle.std.specs.Prelude.{ℕ, List, ◌≡◌, ◌⊎◌, ◌≤◌, ◌<◌, ◌↔◌, IsTrue, false, Some, Contains}
use Rattle.pr_stamps.specs.declared.mark.Mark.{Mark}
use Rattle.pr_vectors.specs.Vector.{clock_of, Covers, Le, Between}
use Rattle.pr_sets.specs.Spans.{has}
use Rattle.pr_names.specs.Name.{IsName}
use Rattle.pr_names.specs.Span.{Span}
use Rattle.pr_inval.specs.declared.kind.Kind.{Kind}
use Rattle.pr_inval.specs.declared.kind.Kind.TheVariants.{Precise, Imprecise, Checkpoint, Body}
use Rattle.pr_inval.specs.declared.row.Row.{Row}
use Rattle.pr_inval.specs.declared.write_rec.WriteRec.{WriteRec}
use Rattle.pr_inval.specs.Points.{CoversPoint, from_of, to_of, target_of}
use Rattle.pr_story.specs.History.{NodeEntry, journal, WasWritten, current_clock}
use Rattle.pr_story.specs.Knowledge.{IsOf, IsNewest, IsGone, IsCoveredMark, Knows}
use Rattle.pr_story.specs.declared.entry.Entry.{Entry}
use Rattle.pr_story.specs.Told.{IsPrecise, IsDarkBetween}
use Rattle.pr_sets.specs.Sets.{set_of}

-- ---- honest messages

-- what the message covers, the writers have written, and its end holds what they had been told
pub record IsWithinWorld (h : List NodeEntry) (k : Kind) : Type 0 where
  pub reached : (v : ℕ) → v < 32 → clock_of (from_of k) v < clock_of (to_of k) v → clock_of (to_of k) v ≤ current_clock (journal h v) v
  pub causal : (x : WriteRec) (body dep : List ℕ) → WasWritten h x body dep → CoversPoint k x.stamp → Le dep (to_of k)

-- each write that is covered is the message's, or its name is in the target
abbrev pub CoversOnly : List NodeEntry → Kind → Type 0
CoversOnly h k = (x : WriteRec) (body dep : List ℕ) → WasWritten h x body dep → CoversPoint k x.stamp → IsOf k x ⊎ IsTrue (has (target_of k) x.name)

-- what the row says of its name is so
pub record IsHonestRow (h : List NodeEntry) (k : Kind) (floor : List ℕ) (row : Row) : Type 0 where
  pub outside : has (target_of k) row.name ≡ false
  pub newest : IsNewest h (to_of k) row.name (Some row.newest)
  pub gone : IsGone h row.name row.newest row.gone
  pub marks : (mark : Mark) → Contains row.marks mark ↔ IsCoveredMark h (to_of k) floor row.name mark

abbrev pub IsHonest : List NodeEntry → Kind → Type 0
IsHonest h (Precise from to write) =
    IsWithinWorld h (Precise from to write) × CoversOnly h (Precise from to write)
    × CoversPoint (Precise from to write) write.stamp
    × ((body : List ℕ) × (dep : List ℕ) × WasWritten h write body dep)
IsHonest h (Imprecise from to target) = IsWithinWorld h (Imprecise from to target) × CoversOnly h (Imprecise from to target)
IsHonest h (Checkpoint to target floor rows) =
    IsWithinWorld h (Checkpoint to target floor rows)
    × ((row : Row) → Contains rows row → IsHonestRow h (Checkpoint to target floor rows) floor row)
    × ((x : WriteRec) (body dep : List ℕ) → WasWritten h x body dep → Covers to x.stamp → has target x.name ≡ false
    → (row : Row) × Contains rows row × (row.name ≡ x.name))
IsHonest h (Body name stamp bytes) =
    (x : WriteRec) × (dep : List ℕ) × WasWritten h x bytes dep × (x.name ≡ name) × (x.stamp ≡ stamp) × (x.gone ≡ false)

-- ---- useful messages

-- the message of node n, which has these sets, for a stream of these names
abbrev pub IsUseful : List (List Span) → ℕ → List Entry → List Span → Kind → Type 0
IsUseful sets n j names (Precise from to write) = IsTrue (has names write.name)
IsUseful sets n j names (Imprecise from to target) =
    ((o : List ℕ) → IsName o → IsTrue (has names o) → IsTrue (has target o) → IsDarkBetween n j from to o)
    × ((x : WriteRec) → Knows j x → IsTrue (has names x.name) → ¬ Between from to x.stamp)
IsUseful sets n j names (Checkpoint to target floor rows) =
    ((row : Row) → Contains rows row → IsTrue (has names row.name))
    × ((o : List ℕ) → IsName o → IsTrue (has names o) → IsTrue (has target o) → ¬ IsPrecise n j (set_of sets o))
IsUseful sets n j names (Body name stamp bytes) = Unit {0}
