use Rattle.std.proofs.Common.{◌++◌, take}
use Rattle.pr_wire.specs.declared.format.Format.TheVariants.{Two}
use Rattle.pr_wire.specs.Pieces.{rest_of}
use Rattle.pr_wire.specs.Spelling.{spelling}
use Rattle.pr_serve.specs.Sinks.{sink}
use Rattle.pr_serve.proofs.FrameParts.{is_stop}
use Rattle.pr_serve.proofs.Written.{failed_as, piece_done, piece_failed, split_piece, wrote_then}
use Rattle.pr_serve.proofs.writing.write_frame.Goals as goal

pub loop-pieces-preserved : goal.loop-pieces-preserved
loop-pieces-preserved g c =
    let text = g.K.Sink.text in
    let faults = g.K.Sink.faults in
    let l = c.loop-pieces in
    let n = c.next-len in
    let all = spelling Two c.args.msg.now in
    let piece = take n.result n.new.buf in (
      l.invariant.0 ++ piece,
      wrote_then (sink (text c.args.out.now) (faults c.args.out.now)) (sink (text l.out) (faults l.out)) (sink (text c.write_all.new.out) (faults c.write_all.new.out)) l.invariant.0 piece l.invariant.1 c.in_ok-write_all.ensures,
      piece_done n.result n.new.buf (rest_of l.pieces) (rest_of n.new.self) l.invariant.0 all n.ensures.bytes n.ensures.rest l.invariant.2,
    )

pub returns-in_err-write_all : goal.returns-in_err-write_all
returns-in_err-write_all g c =
    let text = g.K.Sink.text in
    let faults = g.K.Sink.faults in
    let l = c.loop-pieces in
    let n = c.next-len in
    let all = spelling Two c.args.msg.now in
    let piece = take n.result n.new.buf in
    let fault = c.in_err-write_all.field-0.0 in
    let x = sink (text c.args.out.now) (faults c.args.out.now) in
    let y = sink (text l.out) (faults l.out) in
    let z = sink (text c.write_all.new.out) (faults c.write_all.new.out) in
    failed_as x z all fault c.from_residual.result (is_stop c.from_residual.result _ fault c.from_residual.ensures (λ e p. p))
    (piece_failed x y z l.invariant.0 piece (rest_of n.new.self) all (split_piece n.result n.new.buf (rest_of l.pieces) (rest_of n.new.self) l.invariant.0 all n.ensures.bytes n.ensures.rest l.invariant.2) l.invariant.1 fault c.in_err-write_all.ensures)
