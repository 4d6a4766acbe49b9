-- A list in pages.
use Rattle.std.specs.Prelude.{ℕ, List, [], ◌∷◌, ◌++◌, ◌≡◌, length, ⊤}
use Rattle.pr_stamps.specs.Kept.{Kept}

-- the items of the pages, and behind them those of the last one
abbrev pub paged : {T : Type 0} → List (Kept T) → List T → List T
paged [] last = last
paged (page ∷ pages) last = page.items ++ paged pages last

-- each page has so many items
abbrev pub AreFull : {T : Type 0} → ℕ → List (Kept T) → Type 0
AreFull most [] = ⊤
AreFull most (page ∷ pages) = (length page.items ≡ most) × AreFull most pages
