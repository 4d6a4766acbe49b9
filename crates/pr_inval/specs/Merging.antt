-- The merge of imprecise invalidations that follow one another.
use Rattle.std.specs.Prelude.{◌≡◌, ◌⊎◌}
use Rattle.pr_vectors.specs.Vector.{Between, Le, join_of, meet_of}
use Rattle.pr_sets.specs.Spans.{IsUnion}
use Rattle.pr_stamps.specs.Point.{Point}
use Rattle.pr_inval.specs.declared.imprecise.Imprecise.{Imprecise}

-- the points between its vectors
abbrev pub CoversIt : Imprecise → Point → Type 0
CoversIt a p = Between a.from a.to p

-- the one ends where the other starts
abbrev pub AreAdjacent : Imprecise → Imprecise → Type 0
AreAdjacent a b = (a.to ≡ b.from) ⊎ (b.to ≡ a.from)

abbrev pub Rises : Imprecise → Type 0
Rises a = Le a.from a.to

-- one invalidation for the two: the lesser starts, the greater ends, and the names of both
pub record IsMerged (a b merged : Imprecise) : Type 0 where
  pub from : merged.from ≡ meet_of a.from b.from
  pub to : merged.to ≡ join_of a.to b.to
  pub target : IsUnion a.target b.target merged.target
