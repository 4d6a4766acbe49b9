-- What is kept of a name.
use Rattle.std.specs.Prelude.{ℕ, not, List, [], ◌∷◌, cond, filter, AllPairs, IsTrue}
use Rattle.pr_stamps.specs.Point.{is_before}
use Rattle.pr_stamps.specs.declared.mark.Mark.{Mark}
use Rattle.pr_vectors.specs.Vector.{is_covered}
use Rattle.pr_stamps.specs.declared.newest.Newest.{Newest}

-- the newest known stamp, and the marks in the order of their stamps
pub record Kept : Type 0 where
  pub newest : Newest
  pub marks : List Mark

-- each stamp comes before all later ones
abbrev pub Rises : List Mark → Type 0
Rises marks = AllPairs (λ (x : Mark) (y : Mark). IsTrue (is_before x.stamp y.stamp)) marks

-- the marks with one more, in its place; a mark with its stamp stays
abbrev pub with_mark : List Mark → Mark → List Mark
with_mark [] m = m ∷ []
with_mark (x ∷ xs) m =
    cond (is_before x.stamp m.stamp) (x ∷ with_mark xs m) (cond (is_before m.stamp x.stamp) (m ∷ x ∷ xs) (x ∷ xs))

-- the marks that the floor does not cover
abbrev pub above_floor : List ℕ → List Mark → List Mark
above_floor floor marks = filter (λ (m : Mark). not (is_covered floor m.stamp)) marks
