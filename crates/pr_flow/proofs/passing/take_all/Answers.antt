use Rattle.std.proofs.Common.{◌≤◌, ◌-◌, length, drop, arith}
use Rattle.std.proofs.lemmas.List.{length-drop, length-take}
use borrow.Rule.Slice.PartMut.{put_mid}
use Rattle.pr_flow.proofs.Growing.{take_more}
use Rattle.pr_flow.proofs.Fronts.{filled, filled_front, filled_size, taken_more, taken_other}
use Rattle.pr_flow.proofs.passing.take_all.Goals as goal

pub returns-then-ne-clause-moved : goal.returns-then-ne-clause-moved
returns-then-ne-clause-moved g c =
    let w = g.W.Wire in
    let a = w.state c.args.wire.now in
    let b = w.state c.loop-at.wire in
    let d = w.state c.take.new.self in
    let i = c.loop-at.invariant in
    let e = c.in-Ok.ensures in
    let at = c.loop-at.at in
    let n = c.in-Ok.count in
    let bytes = c.loop-at.bytes in
    let new = c.take.new.buf in
    let piece = c.args.piece.now in
    let within : at ≤ length bytes = omega (arith, i.within, i.room) in
    let after = put_mid at (length bytes - at) bytes new in
    let is = filled at bytes new within in
    let fits : n ≤ length new = omega (arith, e.count, c.take.auto.buf) in
    let size = filled_size at bytes new within (omega (arith, c.take.auto.buf, length-take (length bytes - at) (drop at bytes), length-drop at bytes)) in (
      omega (arith, size, fits, within, e.count, length-take (length bytes - at) (drop at bytes)),
      take_more a b d at n bytes new after (filled_front at n piece bytes new after within is) fits i.moved e.under e.given e.taken e.held e.causes.faults_rise e.causes.ends_rise (λ s. (e.sound s).0),
      taken_other at n piece bytes new after within is fits i.same c.if-ne.ensures,
    )

pub loop-at-preserved : goal.loop-at-preserved
loop-at-preserved g c =
    let w = g.W.Wire in
    let a = w.state c.args.wire.now in
    let b = w.state c.loop-at.wire in
    let d = w.state c.take.new.self in
    let i = c.loop-at.invariant in
    let e = c.in-Ok.ensures in
    let at = c.loop-at.at in
    let n = c.in-Ok.count in
    let bytes = c.loop-at.bytes in
    let new = c.take.new.buf in
    let piece = c.args.piece.now in
    let within : at ≤ length bytes = omega (arith, i.within, i.room) in
    let after = put_mid at (length bytes - at) bytes new in
    let is = filled at bytes new within in
    let fits : n ≤ length new = omega (arith, e.count, c.take.auto.buf) in
    let size = filled_size at bytes new within (omega (arith, c.take.auto.buf, length-take (length bytes - at) (drop at bytes), length-drop at bytes)) in
    record {
      within = omega (arith, i.room, within, e.count, length-take (length bytes - at) (drop at bytes));
      room = omega (arith, size, i.room);
      same = taken_more at n piece bytes new after within is i.same c.if-ne.ensures;
      moved = take_more a b d at n bytes new after (filled_front at n piece bytes new after within is) fits i.moved e.under e.given e.taken e.held e.causes.faults_rise e.causes.ends_rise (λ s. (e.sound s).0);
    }
