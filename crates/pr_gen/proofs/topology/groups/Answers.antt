use Rattle.std.proofs.Common.{refl, sym, ◌∙◌}
use Rattle.pr_sets.specs.Spans.{IsSet}
use Rattle.pr_gen.proofs.Groups.{union_is_list}
use Rattle.pr_gen.proofs.Outcomes.{if_ok}
use Rattle.pr_gen.proofs.topology.groups.Goals as goal

pub returns : goal.returns
returns c =
    let first : IsSet c.in_ok-first.first = rw (sym c.first.view_is) c.first.invariant in
    let second : IsSet c.in_ok-second.second = rw (sym c.second.view_is) c.second.invariant in
    if_ok _ (λ both u. union_is_list c.in_ok-first.first c.in_ok-second.second both first second u ∙ rw (c.in_ok-first.ensures, c.in_ok-second.ensures) refl) c.union.ensures
