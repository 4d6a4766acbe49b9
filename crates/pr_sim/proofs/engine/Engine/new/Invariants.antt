use Rattle.std.proofs.Common.{take}
use Rattle.pr_sim.specs.Making.{IsMadeOf}
use Rattle.pr_sim.proofs.engine.Engine.new.Given as goal

abbrev pub invariant-loop-decl : goal.invariant-loop-decl
invariant-loop-decl l = IsMadeOf (take l.decl-index l.decls.list) l.engine
