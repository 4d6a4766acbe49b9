-- Where the messages of streams stand.
use Rattle.std.specs.Prelude.{ℕ, List, ◌≡◌, ◌≤◌, ◌+◌, length, get_or}
use Rattle.pr_stamps.specs.Kept.{Kept}

-- from one list of places to the other, those of one stream changed so
pub record HasNoted (before now : List (Kept ℕ)) (s : ℕ) (change : List ℕ → List ℕ) : Type 0 where
  pub many : length now ≡ length before
  pub here : (d : Kept ℕ) → (get_or now s d).items ≡ change (get_or before s d).items
  pub room : (d : Kept ℕ) → (get_or before s d).room ≤ (get_or now s d).room + 1
  pub there : (t : ℕ) (d : Kept ℕ) → (t ≡ s → ⊥) → get_or now t d ≡ get_or before t d
