use Rattle.std.proofs.Common.{◌≡◌, ◌<◌, ℕ, sym, ◌∙◌, subst, length}
use Rattle.std.specs.Prelude.{true}
use Rattle.pr_story.specs.Scripts.{AreSettled}
use Rattle.pr_sim.specs.Running.{HasAttached}
use Rattle.pr_sim.specs.Settles.{MakesPart}
use Rattle.pr_sim.proofs.Attaching.{session_at}
use Rattle.pr_sim.proofs.Resting.{no_round, rest_round}
use Rattle.pr_sim.proofs.engine.Engine.rest_at.Goals as goal

pub attached_at-requires : goal.attached_at-requires
attached_at-requires c =
    let r = c.requires.settling in
    let x = session_at r.0 r.1 r.2 c.args.self.now c.args.at r.3 c.requires.within in
    (x.0, x.1)

pub rest-requires-clause-stream : goal.rest-requires-clause-stream
rest-requires-clause-stream c =
    let r = c.requires.settling in
    let x = session_at r.0 r.1 r.2 c.args.self.now c.args.at r.3 c.requires.within in
    let is = c.in-Some.ensures x.0 x.1 in
    subst (λ (i : ℕ). i < length c.args.self.now.sessions.items) (sym (is.1 ∙ x.2)) c.requires.within

pub rest-requires-clause-attached : goal.rest-requires-clause-attached
rest-requires-clause-attached c =
    let r = c.requires.settling in
    let x = session_at r.0 r.1 r.2 c.args.self.now c.args.at r.3 c.requires.within in
    let is = c.in-Some.ensures x.0 x.1 in
    subst (λ (i : ℕ). HasAttached c.args.self.now i) (sym (is.1 ∙ x.2)) (x.0, x.1, is.0)

pub returns-in-Some : goal.returns-in-Some
returns-in-Some c d attached h k in_time =
    let x = session_at d attached h c.args.self.now c.args.at k c.requires.within in
    let is = c.in-Some.ensures x.0 x.1 in
    let on : attached c.args.at ≡ true = sym x.3 ∙ is.0 in
    rest_round d attached h c.rest.new.self c.args.at on c.rest.result
    (subst (λ (i : ℕ). MakesPart (λ sent. AreSettled i) d attached h c.rest.new.self c.rest.result) (is.1 ∙ x.2) (c.rest.ensures d attached h k in_time))

pub returns-in-None : goal.returns-in-None
returns-in-None c d attached h k in_time =
    let x = session_at d attached h c.args.self.now c.args.at k c.requires.within in
    no_round d attached h c.args.self.now c.args.at (sym x.3 ∙ c.in-None.ensures x.0 x.1) k
