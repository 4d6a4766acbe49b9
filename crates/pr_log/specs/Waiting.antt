-- The next write of a stream: the first writes of the nodes, and the least of them.
use Rattle.std.specs.Prelude.{◌≡◌, ◌⊎◌, ◌≤◌, ◌<◌, ℕ, List, length, Option, None, Some, option_copied, slice_index_or}
use Rattle.std.specs.Borrow.{Bor}
use Rattle.pr_stamps.specs.Point.{Before}
use Rattle.pr_names.specs.Span.{Span}
use Rattle.pr_inval.specs.declared.write_rec.WriteRec.{WriteRec}
use Rattle.pr_log.specs.Known.{IsWaiting}

-- the least write by stamp that waits, or none
abbrev pub IsNextOf : List (List (ℕ × WriteRec)) → List ℕ → List Span → Option WriteRec → Type 0
IsNextOf rows pos sub None = (x : WriteRec) → ¬ IsWaiting rows pos sub x
IsNextOf rows pos sub (Some t) = IsWaiting rows pos sub t × ((x : WriteRec) → IsWaiting rows pos sub x → ¬ Before x.stamp t.stamp)

-- the first write of a node that is not yet looked at
abbrev pub head_of : List (Option (Bor WriteRec)) → ℕ → Option WriteRec
head_of heads n = option_copied (slice_index_or heads n None)

-- of the first n heads the least by stamp, or none
abbrev pub IsLeastHead : (ℕ → Option WriteRec) → ℕ → Option WriteRec → Type 0
IsLeastHead head n None = (k : ℕ) → k < n → head k ≡ None
IsLeastHead head n (Some w) =
    (k : ℕ) × (k < n) × (head k ≡ Some w)
    × ((j : ℕ) (u : WriteRec) → j < n → head j ≡ Some u → ¬ Before u.stamp w.stamp)

-- the node that is listed at a place
abbrev pub node_at : List ℕ → ℕ → ℕ
node_at nodes k = slice_index_or nodes k 0

-- of the nodes below n each that has a head is listed in the first places, and there stand nodes
pub record AreListed (heads : List (Option (Bor WriteRec))) (nodes : List ℕ) (count n : ℕ) : Type 0 where
  pub len : length heads ≡ 32
  pub few : count ≤ n
  pub known : (k : ℕ) → k < count → node_at nodes k < 32
  pub all : (m : ℕ) (w : WriteRec) → m < n → head_of heads m ≡ Some w → (k : ℕ) × (k < count) × (node_at nodes k ≡ m)

-- the lesser of two writes by stamp, if there are any
abbrev pub IsLesser : Option WriteRec → Option WriteRec → Option WriteRec → Type 0
IsLesser None b r = r ≡ b
IsLesser (Some a) None r = r ≡ Some a
IsLesser (Some a) (Some b) r = ((r ≡ Some b) × Before b.stamp a.stamp) ⊎ ((r ≡ Some a) × ¬ Before b.stamp a.stamp)
