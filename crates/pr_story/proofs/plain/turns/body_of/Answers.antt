use Rattle.std.proofs.Common.{◌∙◌, sym, reverse}
use Rattle.pr_inval.specs.Standing.{means}
use Rattle.pr_story.proofs.Sendings.{no_newest, not_gone, was_sent, not_held}
use Rattle.pr_story.proofs.plain.turns.body_of.Goals as goal

pub returns-in-None : goal.returns-in-None
returns-in-None c = no_newest (reverse c.args.entries.now) (means c.args.session.now).standing c.args.name.now c.in-None.ensures

pub returns-then-newest : goal.returns-then-newest
returns-then-newest c = not_gone (reverse c.args.entries.now) (means c.args.session.now).standing c.args.name.now c.in-Some.newest c.in-Some.ensures c.if-newest.true

pub returns-then-has_sent : goal.returns-then-has_sent
returns-then-has_sent c =
    was_sent (reverse c.args.entries.now) (means c.args.session.now).standing c.args.name.now c.in-Some.newest c.in-Some.ensures (sym c.has_sent.ensures ∙ c.if-has_sent.true)

pub returns-in-None-held : goal.returns-in-None-held
returns-in-None-held c =
    not_held (reverse c.args.entries.now) (means c.args.session.now).standing c.args.name.now c.in-Some.newest c.in-Some.ensures (sym c.in_ok-held.ensures ∙ c.in-None-held.is)
