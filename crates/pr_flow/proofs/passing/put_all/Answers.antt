use Rattle.std.proofs.Common.{inr, arith}
use Rattle.pr_flow.proofs.Growing.{known_start, put_more}
use Rattle.pr_flow.proofs.passing.put_all.Goals as goal

pub loop-put-preserved : goal.loop-put-preserved
loop-put-preserved g c =
    let w = g.W.Wire in
    let a = w.state c.args.wire.now in
    let b = w.state c.loop-put.wire in
    let d = w.state c.put.new.self in
    let i = c.loop-put.invariant in
    let e = c.in-Ok.ensures in
    record {
      within = omega (arith, i.within, e.count);
      moved = put_more a b d c.args.piece.now c.loop-put.put c.in-Ok.count i.within e.count i.moved e.under e.given e.taken e.held e.causes.faults_rise e.causes.ends_rise (λ s. (e.sound s).0);
      start = inr (known_start w.state c.args.wire.now c.loop-put.wire c.loop-put.put i.start (e.just.0, λ s. (e.sound s).2));
    }
