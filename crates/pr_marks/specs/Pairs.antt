-- The conflicts among the marks of a name.
use Rattle.std.specs.Prelude.{List, map, filter}
use Rattle.std.specs.List.{flat_map}
use Rattle.pr_stamps.specs.Marks.{is_conflict}
use Rattle.pr_stamps.specs.Point.{Point}
use Rattle.pr_stamps.specs.declared.mark.Mark.{Mark}

abbrev pub pairs_with : List Mark → Mark → List (Point × Point)
pairs_with marks x = map (λ (y : Mark). (x.stamp, y.stamp)) (filter (is_conflict x) marks)

-- all conflicts among the marks, by the earlier one and then the later one
abbrev pub pairs_of : List Mark → List (Point × Point)
pairs_of marks = flat_map (pairs_with marks) marks
