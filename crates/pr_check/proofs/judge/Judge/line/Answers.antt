use Rattle.std.proofs.Common.{◌≡◌, sym, ◌∙◌}
use Rattle.pr_check.proofs.Begun.{not_both}
use Rattle.pr_check.specs.declared.stage.Stage.TheVariants as stages
use Rattle.pr_check.proofs.Judged.{at_stage, good_decls, judged, new_replays, past_end, usable_then}
use Rattle.pr_check.proofs.Refused.{bad_begins_none}
use Rattle.pr_check.proofs.judge.Judge.line.Goals as goal

pub new-requires : goal.new-requires
new-requires c =
    let j = judged c.args.self.now stages.Heads c.requires.usable (sym c.replace.ensures.value ∙ c.in-Heads-2.is) (λ e. absurd (cc)) in
    record { good = good_decls c.args.self.now.decls.list j.1.decls.accepted }

pub returns-in-Heads-2-clause-verdict : goal.returns-in-Heads-2-clause-verdict
returns-in-Heads-2-clause-verdict c lines j =
    let is : c.args.self.now.stage ≡ stages.Heads = sym c.replace.ensures.value ∙ c.in-Heads-2.is in
    c.behind_heads.ensures lines (new_replays c.args.self.now.decls.list c.in_ok-engine-in-Heads-2.engine lines c.in_ok-engine-in-Heads-2.ensures (at_stage c.args.self.now lines stages.Heads j is))
    (λ head. not_both _ head.1 (sym c.begins_head.ensures ∙ c.if-begins_head.false))

pub returns-in-Heads-2-clause-usable : goal.returns-in-Heads-2-clause-usable
returns-in-Heads-2-clause-usable c =
    let j = judged c.args.self.now stages.Heads c.requires.usable (sym c.replace.ensures.value ∙ c.in-Heads-2.is) (λ e. absurd (cc)) in
    usable_then j.0 c.args.line.now c.behind_heads.new.self c.behind_heads.result (returns-in-Heads-2-clause-verdict c j.0 j.1)

pub returns-in-Events-clause-verdict : goal.returns-in-Events-clause-verdict
returns-in-Events-clause-verdict c lines j =
    let is : c.args.self.now.stage ≡ stages.Events c.in-Events.engine = sym c.replace.ensures.value ∙ c.in-Events.is in
    let stands = at_stage c.args.self.now lines (stages.Events c.in-Events.engine) j is in
    c.behind_heads-in-Events.ensures lines stands.0 (λ head. stands.1 head.0)

pub returns-in-Events-clause-usable : goal.returns-in-Events-clause-usable
returns-in-Events-clause-usable c =
    let j = judged c.args.self.now (stages.Events c.in-Events.engine) c.requires.usable (sym c.replace.ensures.value ∙ c.in-Events.is) (λ e. absurd (cc)) in
    usable_then j.0 c.args.line.now c.behind_heads-in-Events.new.self c.behind_heads-in-Events.result (returns-in-Events-clause-verdict c j.0 j.1)

pub returns-in-Ended-clause-verdict : goal.returns-in-Ended-clause-verdict
returns-in-Ended-clause-verdict c lines j =
    let ended = at_stage c.args.self.now lines (stages.Ended c.in-Ended.field-0) j (sym c.replace.ensures.value ∙ c.in-Ended.is) in
    let bad = past_end c.args.self.now.decls.list c.in-Ended.field-0 lines c.args.line.now j.decls.accepted ended in
    (bad_begins_none lines c.args.line.now 4 bad, bad, c.replace.ensures.after)
