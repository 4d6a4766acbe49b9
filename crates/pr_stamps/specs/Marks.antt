-- Newest stamps, and conflicts: two writes to a name of which the later one's node had not known the earlier one.
use Rattle.std.specs.Prelude.{Bool, ◌&&◌, cond}
use Rattle.pr_stamps.specs.Point.{is_before, is_missed}
use Rattle.pr_stamps.specs.declared.mark.Mark.{Mark}
use Rattle.pr_stamps.specs.declared.newest.Newest.{Newest}

-- the later of the two; of equal stamps the first
abbrev pub later : Newest → Newest → Newest
later a b = cond (is_before a.stamp b.stamp) b a

-- the later write's node had not known the earlier one
abbrev pub is_conflict : Mark → Mark → Bool
is_conflict earlier later = is_missed later.prev earlier.stamp && is_before earlier.stamp later.stamp
