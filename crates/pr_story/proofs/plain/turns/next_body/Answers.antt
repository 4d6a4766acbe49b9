use Rattle.std.proofs.Common.{ℕ, List, subst, reverse}
use Rattle.std.specs.Prelude.{Option}
use Rattle.pr_inval.specs.declared.kind.Kind.{Kind}
use Rattle.pr_inval.specs.Standing.{means}
use Rattle.pr_story.specs.Sending.{IsBodyOf, IsNextName}
use Rattle.pr_story.proofs.Sendings.{body_next}
use Rattle.pr_story.proofs.plain.turns.next_body.Goals as goal

pub returns-in-Some-2 : goal.returns-in-Some-2
returns-in-Some-2 c =
    body_next (reverse c.args.entries.now) (means c.args.session.now).standing c.in-Some.name c.in-Some-2.kind
    (subst (λ (x : Option (List ℕ)). IsNextName (reverse c.args.entries.now) (means c.args.session.now).standing x) c.in-Some.is c.in_ok-name.ensures)
    (subst (λ (x : Option Kind). IsBodyOf (reverse c.args.entries.now) (means c.args.session.now).standing c.in-Some.name x) c.in-Some-2.is c.in_ok-kind.ensures)
