use Rattle.std.proofs.Common.{rules, ◌++◌, take, arith}
use Rattle.pr_top.proofs.Held.{consumes_more, if_went}
use Rattle.pr_top.proofs.Judgements.{judged_whole, long_read, past_room, room_left}
use Rattle.pr_top.proofs.checking.judge.Goals as goal

pub returns-then-len-eq0 : goal.returns-then-len-eq0
returns-then-len-eq0 g c =
    let held = c.loop-len.invariant.held in
    judged_whole (g.S.Source.left c.args.text.now) (g.S.Source.left c.loop-len.text) (g.S.Source.left c.read.new.self)
    (g.S.Source.faults c.args.text.now) (g.S.Source.faults c.read.new.self) c.in-Ok.len c.loop-len.room held.0 c.read.new.buf c.finish.result
    held.3 held.2 (search rules) c.in-Ok.ensures.bytes.0 (c.in-Ok.ensures.bytes.1 (search rules) (search rules)) (c.finish.ensures held.0 held.1)

pub returns-then-len-room : goal.returns-then-len-room
returns-then-len-room g c =
    let held = c.loop-len.invariant.held in
    long_read (g.S.Source.left c.args.text.now) (g.S.Source.left c.read.new.self) _
    (consumes_more (g.S.Source.left c.args.text.now) (g.S.Source.left c.loop-len.text) (g.S.Source.left c.read.new.self) held.0 (take c.in-Ok.len c.read.new.buf) held.3 c.in-Ok.ensures.bytes.0)
    (past_room held.0 c.read.new.buf c.loop-len.room c.in-Ok.len held.2 (search rules) (search rules))

pub loop-len-preserved : goal.loop-len-preserved
loop-len-preserved g c =
    let held = c.loop-len.invariant.held in
    record {
      rises = omega arith;
      usable = c.push.ensures.usable;
      held = (
        held.0 ++ take c.in-Ok.len c.read.new.buf,
        if_went c.push.result _ c.push.ensures.ok c.if-is_err.ensures.value held.0 held.1,
        room_left held.0 c.read.new.buf c.loop-len.room c.in-Ok.len held.2 (search rules) (search rules),
        consumes_more (g.S.Source.left c.args.text.now) (g.S.Source.left c.loop-len.text) (g.S.Source.left c.read.new.self) held.0 (take c.in-Ok.len c.read.new.buf) held.3 c.in-Ok.ensures.bytes.0,
      );
    }
