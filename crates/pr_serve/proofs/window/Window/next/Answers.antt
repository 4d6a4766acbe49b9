use Rattle.std.proofs.Common.{rules}
use Rattle.pr_serve.specs.Inputs.{input}
use Rattle.pr_serve.proofs.Taking.{taken_after}
use Rattle.pr_serve.proofs.window.Window.next.Goals as goal

pub returns-then-self-clause-so : goal.returns-then-self-clause-so
returns-then-self-clause-so g c = c.take.ensures.so (g.S.Source.left c.args.source.now) (g.S.Source.faults c.args.source.now)

pub returns-clause-so : goal.returns-clause-so
returns-clause-so g c =
    let left = g.S.Source.left c.fill.new.source in
    let faults = g.S.Source.faults c.fill.new.source in
    taken_after (input (g.S.Source.left c.args.source.now) (g.S.Source.faults c.args.source.now) c.args.self.now)
    (input left faults c.fill.new.self) (input left faults c.take-2.new.self) c.take-2.result (search rules) (c.take-2.ensures.so left faults)
