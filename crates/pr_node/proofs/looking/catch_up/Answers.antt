use Rattle.std.proofs.Common.{reverse, rules}
use Rattle.pr_inval.specs.Standing.{means}
use Rattle.pr_node.proofs.Scanning.{awaited, looked_more}
use Rattle.pr_node.proofs.looking.catch_up.Goals as goal

pub returns-in_err-look_at-clause-scan : goal.returns-in_err-look_at-clause-scan
returns-in_err-look_at-clause-scan c =
    awaited c.loop-scan.scan c.look_at.new.scan (means c.args.session.now).standing c.sub.result.now (reverse c.args.journal.now.items) c.sub.ensures.value c.in_err-look_at.ensures.err c.loop-scan.invariant

pub loop-scan-preserved : goal.loop-scan-preserved
loop-scan-preserved c =
    looked_more c.loop-scan.scan c.look_at.new.scan c.has_looked-in-loop-scan.new.self (means c.args.session.now).standing c.sub.result.now c.args.journal.now.items c.entry.result.now c.looked-looked.result
    c.looked-looked.ensures c.sub.ensures.value (search rules) (c.entry.ensures c.entry.result.now) c.in_ok-look_at.ensures.ok c.has_looked-in-loop-scan.ensures c.loop-scan.invariant
