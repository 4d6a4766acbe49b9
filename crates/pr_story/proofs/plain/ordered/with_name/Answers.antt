use Rattle.std.proofs.Common.{ℕ, List, ◌++◌, ◌∙◌, ap}
use Rattle.pr_story.specs.Marking.{names_below, names_past}
use Rattle.pr_story.proofs.Snapshots.{placed_rise, placed_same}
use Rattle.pr_story.proofs.plain.ordered.with_name.Goals as goal

pub returns-clause-rise : goal.returns-clause-rise
returns-clause-rise c =
    placed_rise c.args.names c.add_below.new.list c.push.new.self c.add_past.new.list c.args.name.now
    (c.in_ok-add_below.ensures ∙ ap (λ (ns : List (List ℕ)). ns ++ names_below c.as_slice-2.result.now c.args.name.now) c.new-more.ensures ∙ ap (λ (ns : List (List ℕ)). names_below ns c.args.name.now) c.as_slice-2.ensures)
    c.in_ok-push.ensures.ok
    (c.in_ok-add_past.ensures ∙ ap (λ (ns : List (List ℕ)). c.push.new.self ++ names_past ns c.args.name.now) c.as_slice-3.ensures)

pub returns-clause-same : goal.returns-clause-same
returns-clause-same c =
    placed_same c.args.names c.add_below.new.list c.push.new.self c.add_past.new.list c.args.name.now
    (c.in_ok-add_below.ensures ∙ ap (λ (ns : List (List ℕ)). ns ++ names_below c.as_slice-2.result.now c.args.name.now) c.new-more.ensures ∙ ap (λ (ns : List (List ℕ)). names_below ns c.args.name.now) c.as_slice-2.ensures)
    c.in_ok-push.ensures.ok
    (c.in_ok-add_past.ensures ∙ ap (λ (ns : List (List ℕ)). c.push.new.self ++ names_past ns c.args.name.now) c.as_slice-3.ensures)
