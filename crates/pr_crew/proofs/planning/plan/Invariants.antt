use Rattle.std.proofs.Common.{List, All, length, take}
use Rattle.pr_story.specs.Counts.{Declared}
use Rattle.pr_story.specs.History.{NodeEntry}
use Rattle.pr_crew.specs.Works.{AreWorks, IsSmall}
use Rattle.pr_crew.proofs.planning.plan.Given as goal

abbrev pub invariant-loop-owner : goal.invariant-loop-owner
invariant-loop-owner g l = record {
  works : (d : Declared) (h : List NodeEntry) → g.H.Held.records l.held d h → AreWorks d.plan h (length (g.H.Held.state l.held).nodes) l.inside (take l.owner-index l.owners) l.works.items;
  small : All IsSmall l.works.items;
}
