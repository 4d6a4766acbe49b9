use Rattle.std.specs.Prelude.{false, true}
use Rattle.pr_check.proofs.Judged.{bad_event, event_begins, event_line, event_stands, may_not_come, replayed_so}
use Rattle.pr_check.proofs.Refused.{bad_verdict}
use Rattle.pr_check.proofs.judge.Judge.behind_heads.Goals as goal

pub returns-then-not-branch : goal.returns-then-not-branch
returns-then-not-branch c lines r head =
    bad_verdict lines c.args.line.now 3 c.args.self.now
    (bad_event c.args.self.now.decls.list c.args.engine lines c.args.line.now c.requires.decls.accepted r (event_line c.args.self.now.decls.list c.args.line.now c.in_ok-said.field-0 c.in-Some.said c.in-Some.is c.in_ok-said.ensures)
    (may_not_come c.args.self.now.decls.list c.args.engine c.replay.new.engine lines c.args.line.now c.in_ok-said.field-0 c.in-Some.said r c.in-Some.is c.in_ok-said.ensures
    (replayed_so c.args.self.now.decls.list c.in-Some.said c.args.line.now r.0 r.1 c.replay.new.engine c.in_ok-replay.field-0 false c.if-not-branch.true (c.in_ok-replay.ensures r.0 r.1 r.2))))
    c.requires.spent

pub returns : goal.returns
returns c lines r head =
    let ds = c.args.self.now.decls.list in
    let made = replayed_so ds c.in-Some.said c.args.line.now r.0 r.1 c.replay.new.engine c.in_ok-replay.field-0 true c.if-not-branch.false (c.in_ok-replay.ensures r.0 r.1 r.2) in (
      event_begins ds c.args.line.now lines made.0 r.1 made.1 c.replay.new.engine c.requires.decls.accepted r.4 made.2 made.4,
      record { decls = c.requires.decls; stands = event_stands ds c.args.line.now lines made.0 r.1 made.1 c.replay.new.engine r.4 made.2 (made.3 r.3) made.4 },
    )
