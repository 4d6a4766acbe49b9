use Rattle.std.specs.Prelude.{◌≤◌, List, length, reverse, take}
use Rattle.pr_keep.specs.Keeping.{Keeps}
use Rattle.pr_sim.specs.Running.{Tells}
use Rattle.pr_story.specs.Counts.{Declared}
use Rattle.pr_story.specs.History.{NodeEntry}
use Rattle.pr_top.specs.Kept.{KeepsOn, placed}
use Rattle.pr_top.proofs.keeping.keep_from.Given as goal

-- the entries up to this place were kept
abbrev pub invariant-loop-at : goal.invariant-loop-at
invariant-loop-at g l =
    (d : Declared) (h : List NodeEntry) → Tells d h l.engine → l.fn.told ≤ length h → Keeps g.D.Disk.state g.D.Disk.images l.fn.keep (take l.fn.told (placed (reverse h)))
    → KeepsOn g.D.Disk.state g.D.Disk.images g.D.Disk.moment g.D.Disk.images_since l.fn.keep l.keep (placed (reverse h)) l.fn.told l.at
