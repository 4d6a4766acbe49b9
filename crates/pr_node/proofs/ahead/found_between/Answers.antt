use Rattle.std.proofs.Common.{inl}
use Rattle.pr_node.proofs.Sending.{dark_set, none_dark, none_omitted, omitted_apart, omitted_set}
use Rattle.pr_node.proofs.ahead.found_between.Goals as goal

pub returns-then-le-clause-dark : goal.returns-then-le-clause-dark
returns-then-le-clause-dark c n j f = rw c.empty.ensures (none_dark n j c.args.from.now c.args.to.now c.at.ensures.range.nodes (c.le.ensures.0 c.if-le.true))

pub returns-then-le-clause-omitted : goal.returns-then-le-clause-omitted
returns-then-le-clause-omitted c n j f = rw c.empty-then-le.ensures (inl (none_omitted j c.args.names.now c.args.from.now c.args.to.now c.at.ensures.range.nodes (c.le.ensures.0 c.if-le.true)))

pub returns-clause-dark : goal.returns-clause-dark
returns-clause-dark c n j f = dark_set n j _ _ _ _ f c.requires.cut c.in_ok-dark.ensures

pub returns-clause-omitted : goal.returns-clause-omitted
returns-clause-omitted c n j f = omitted_set n j c.args.log.now c.args.from.now c.args.to.now c.args.names.now c.in_ok-dark.dark c.in_ok-omitted.omitted f c.requires.cut c.in_ok-omitted.ensures.omitted

pub returns-clause-apart : goal.returns-clause-apart
returns-clause-apart c = omitted_apart c.args.log.now c.args.from.now c.args.to.now c.args.names.now c.in_ok-dark.dark c.in_ok-omitted.omitted c.in_ok-omitted.ensures.omitted
