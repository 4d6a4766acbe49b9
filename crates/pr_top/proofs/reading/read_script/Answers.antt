use Rattle.std.proofs.Common.{◌≡◌, rules, ◌++◌, take, arith, Err, Result, subst}
use Rattle.std.proofs.lemmas.Result.{err_from_is_err_and}
use Rattle.pr_top.specs.Fronts.{IsTaken}
use Rattle.pr_top.specs.declared.reading.ReadError.{ReadError}
use Rattle.pr_top.proofs.Held.{finished, consumes_more, not_taken}
use Rattle.pr_top.proofs.reading.read_script.Goals as goal

pub returns-then-len-eq0-clause-so : goal.returns-then-len-eq0-clause-so
returns-then-len-eq0-clause-so g c =
    let held = c.loop-len.invariant.held in
    finished (g.S.Source.left c.args.source.now) (g.S.Source.left c.loop-len.source) (g.S.Source.left c.read.new.self)
    (g.S.Source.faults c.args.source.now) (g.S.Source.faults c.read.new.self) c.in-Ok.len held.0 c.read.new.buf c.loop-len.size c.finish.result
    held.3 held.2 (search rules) c.in-Ok.ensures.bytes.0 (c.in-Ok.ensures.bytes.1 (search rules) (search rules)) (c.finish.ensures held.0 held.1)

pub returns-in_err-take-clause-so : goal.returns-in_err-take-clause-so
returns-in_err-take-clause-so g c =
    let held = c.loop-len.invariant.held in
    let piece = take c.in-Ok.len c.read.new.buf in
    let p = err_from_is_err_and c.from_residual.result c.from_residual.ensures.1 in
    let was = c.in_err-take.was in
    let same = p.2 in
    let done : c.take.result ≡ Err p.0 = cc in
    not_taken (g.S.Source.left c.args.source.now) (g.S.Source.left c.read.new.self) (g.S.Source.faults c.args.source.now) (g.S.Source.faults c.read.new.self) c.take.new.reader c.take.new.size (held.0 ++ piece) p.0 c.from_residual.result
    (consumes_more (g.S.Source.left c.args.source.now) (g.S.Source.left c.loop-len.source) (g.S.Source.left c.read.new.self) held.0 piece held.3 c.in-Ok.ensures.bytes.0)
    (subst (λ (r : Result (Unit {0}) ReadError). IsTaken c.take.new.reader c.take.new.size (held.0 ++ piece) r) done (c.take.ensures.taken held.0 held.1 held.2)) p.1

pub loop-len-preserved : goal.loop-len-preserved
loop-len-preserved g c =
    let held = c.loop-len.invariant.held in
    let piece = take c.in-Ok.len c.read.new.buf in
    let went = c.in_ok-take.ensures.taken held.0 held.1 held.2 in
    record {
      rises = omega arith;
      bytes = c.in_ok-take.ensures.more.1;
      ends = c.in_ok-take.ensures.more.2;
      held = (held.0 ++ piece, went.0, went.1, consumes_more (g.S.Source.left c.args.source.now) (g.S.Source.left c.loop-len.source) (g.S.Source.left c.read.new.self) held.0 piece held.3 c.in-Ok.ensures.bytes.0);
    }
