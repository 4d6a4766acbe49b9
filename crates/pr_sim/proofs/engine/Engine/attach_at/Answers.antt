use Rattle.std.proofs.Common.{◌≡◌, ◌<◌, ℕ, sym, ◌∙◌, subst, length}
use Rattle.std.specs.Prelude.{true}
use Rattle.pr_sim.specs.Commands.{GivesOne}
use Rattle.pr_sim.proofs.Attaching.{attach_attaches, none_attaches, session_at}
use Rattle.pr_story.specs.Commands.{ToAttach}
use Rattle.pr_sim.proofs.engine.Engine.attach_at.Goals as goal

pub attached_at-requires : goal.attached_at-requires
attached_at-requires c =
    let r = c.requires.kept in
    let x = session_at r.0 r.1 r.2 c.args.self.now c.args.at r.3 c.requires.within in
    (x.0, x.1)

pub attach-requires-clause-stream : goal.attach-requires-clause-stream
attach-requires-clause-stream c =
    let r = c.requires.kept in
    let x = session_at r.0 r.1 r.2 c.args.self.now c.args.at r.3 c.requires.within in
    let is = c.in-Some.ensures x.0 x.1 in
    subst (λ (i : ℕ). i < length c.args.self.now.sessions.items) (sym (is.1 ∙ x.2)) c.requires.within

pub returns-in-Some : goal.returns-in-Some
returns-in-Some c d attached h k =
    let x = session_at d attached h c.args.self.now c.args.at k c.requires.within in
    let is = c.in-Some.ensures x.0 x.1 in
    let on : attached c.args.at ≡ true = sym x.3 ∙ is.0 in
    attach_attaches d attached h c.attach.new.self c.args.at on c.attach.result
    (subst (λ (i : ℕ). GivesOne (ToAttach i) d attached h c.attach.new.self c.attach.result) (is.1 ∙ x.2) (c.attach.ensures d attached h k))

pub returns-in-None : goal.returns-in-None
returns-in-None c d attached h k =
    let x = session_at d attached h c.args.self.now c.args.at k c.requires.within in
    none_attaches d attached h c.args.self.now c.args.at (sym x.3 ∙ c.in-None.ensures x.0 x.1) k
