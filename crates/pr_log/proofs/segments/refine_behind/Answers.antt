use Rattle.std.proofs.Common.{ap, ◌∙◌, ◌||◌, not}
use Rattle.pr_sets.specs.Spans.{has}
use Rattle.pr_log.proofs.Tails.{ok_more, put_lit}
use Rattle.pr_log.proofs.segments.refine_behind.Goals as goal

pub returns-clause-within : goal.returns-clause-within
returns-clause-within c = ok_more c.refine_map.result (λ t w o k name le up.
    w o k name le up ∙ ap (λ b. b || not (has c.args.target.now o)) (put_lit c.args.tail c.args.sets.now.entries c.insert.new.self.entries c.in_ok-insert.ensures.updates.0 o k))
    c.refine_map.ensures.within

pub returns-clause-others : goal.returns-clause-others
returns-clause-others c = ok_more c.refine_map.result (λ t w o k name apart.
    w o k name apart ∙ put_lit c.args.tail c.args.sets.now.entries c.insert.new.self.entries c.in_ok-insert.ensures.updates.0 o k)
    c.refine_map.ensures.others
