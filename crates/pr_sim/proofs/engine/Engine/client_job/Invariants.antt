use Rattle.std.proofs.Common.{Ok, take}
use Rattle.std.specs.List.{AllByRecursion}
use Rattle.pr_sim.specs.Commands.{ForEachRun}
use Rattle.pr_sim.specs.Phasing.{GivesAll, IsJobLine, asked_by}
use Rattle.pr_sim.specs.Running.{IsKept}
use Rattle.pr_sim.proofs.engine.Engine.client_job.Given as goal

abbrev pub invariant-loop-line : goal.invariant-loop-line
invariant-loop-line l = record {
  kept : IsKept l.self;
  lines : AllByRecursion (IsJobLine l.self) l.inside;
  given : ForEachRun l.fn.self (λ d attached h. GivesAll (asked_by l.client (take l.line-index l.inside)) d attached h l.self (Ok tt));
}
