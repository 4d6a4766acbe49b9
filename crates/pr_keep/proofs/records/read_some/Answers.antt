use Rattle.std.proofs.Common.{◌<◌, ◌+◌, ◌-◌, ℕ, List, length, Ok, subst, arith}
use Rattle.std.proofs.lemmas.Result.{err_from_is_err_and}
use Rattle.pr_keep.specs.Calls.{IsPiece}
use Rattle.pr_keep.proofs.Causes.{answered, answers, then_answers, then_fails}
use Rattle.pr_keep.proofs.Moments.{untouched_more}
use Rattle.pr_keep.proofs.RecordLemmas.{more_read}
use Rattle.pr_keep.proofs.records.read_some.Goals as goal

pub loop-bytes-preserved : goal.loop-bytes-preserved
loop-bytes-preserved g c =
    let so_far = c.loop-bytes.invariant in
    let file = (g.D.Disk.state c.args.disk.now).reads in
    let old = c.loop-bytes.bytes in
    let new = c.read_piece.new.bytes in
    let count = c.in_ok-read_piece.field-0 in
    let here = subst (λ (n : ℕ). IsPiece (g.D.Disk.state c.loop-bytes.disk).reads (c.args.at + n) (c.args.len - n) old new count) c.len-done.ensures c.in_ok-read_piece.ensures.bytes in
    let piece = subst (λ (t : List ℕ). IsPiece t (c.args.at + length old) (c.args.len - length old) old new count) so_far.4.reads here in
    let below : length old < c.args.len = omega (arith, c.len.ensures, c.loop-bytes-test.true) in
    let more = more_read file c.args.at c.args.len old new count so_far.0 so_far.1 below piece in (
      more.0,
      more.1,
      more.2,
      more.3,
      untouched_more g.D.Disk.state g.D.Disk.images g.D.Disk.moment g.D.Disk.images_since c.args.disk.now c.loop-bytes.disk c.read_piece.new.disk so_far.4 c.read_piece.ensures.disk,
      then_answers (g.D.Disk.state c.args.disk.now) (g.D.Disk.state c.loop-bytes.disk) (g.D.Disk.state c.read_piece.new.disk) so_far.5 (answered c.in_ok-read_piece.ensures.cause),
    )

pub returns-in_err-read_piece-clause-cause : goal.returns-in_err-read_piece-clause-cause
returns-in_err-read_piece-clause-cause g c =
    let p = err_from_is_err_and c.from_residual.result c.from_residual.ensures.1 in
    rw (p.1, p.2) (then_fails (g.D.Disk.state c.args.disk.now) (g.D.Disk.state c.loop-bytes.disk) (g.D.Disk.state c.read_piece.new.disk) c.in_err-read_piece.field-0.0 c.loop-bytes.invariant.5 c.in_err-read_piece.ensures.cause)

pub returns-then-branch-eq0-clause-cause : goal.returns-then-branch-eq0-clause-cause
returns-then-branch-eq0-clause-cause g c =
    let all = then_answers (g.D.Disk.state c.args.disk.now) (g.D.Disk.state c.loop-bytes.disk) (g.D.Disk.state c.read_piece.new.disk) c.loop-bytes.invariant.5 (answered c.in_ok-read_piece.ensures.cause) in
    answers (g.D.Disk.state c.args.disk.now) (g.D.Disk.state c.read_piece.new.disk) 0 (Ok c.read_piece.new.bytes) all (λ e. absurd cc)

pub returns-clause-cause : goal.returns-clause-cause
returns-clause-cause g c =
    answers (g.D.Disk.state c.args.disk.now) (g.D.Disk.state c.loop-bytes.disk) 0 (Ok c.loop-bytes.bytes) c.loop-bytes.invariant.5 (λ e. absurd cc)
