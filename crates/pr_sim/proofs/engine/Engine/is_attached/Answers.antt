use Rattle.std.proofs.Common.{◌≡◌, ◌∙◌, sym}
use Rattle.std.specs.Prelude.{None, Some}
use Rattle.std.proofs.lemmas.List.{get_or_default}
use Rattle.pr_sim.proofs.engine.Engine.is_attached.Goals as goal

pub returns-in-Some-clause-is : goal.returns-in-Some-clause-is
returns-in-Some-clause-is c d attached h k = c.is_attached.ensures ∙ k.attached_are c.args.stream c.in-Some.session (get_or_default c.args.self.now.sessions.items c.args.stream None c.index.result.now c.requires.stream ∙ sym c.index.ensures ∙ c.in-Some.is)

pub returns-in-None-clause-is : goal.returns-in-None-clause-is
returns-in-None-clause-is c d attached h k =
    let x = k.stands.sessions c.args.stream c.requires.stream in
    let bad : Some x.0 ≡ None = sym x.1 ∙ get_or_default c.args.self.now.sessions.items c.args.stream None c.index.result.now c.requires.stream ∙ sym c.index.ensures ∙ c.in-None.is in
    absurd (cc)
