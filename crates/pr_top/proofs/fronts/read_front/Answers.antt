use Rattle.std.proofs.Common.{◌≡◌, ◌++◌, ◌∙◌, ◌≤◌, [], rules, ap, append_assoc, arith, length, take, Err, List, None, Result, Some, subst, sym, ℕ}
use Rattle.std.specs.Prelude.{option_map}
use Rattle.std.specs.Io.KnownBytes.{Consumes}
use Rattle.std.proofs.lemmas.List.{length-take}
use Rattle.std.proofs.lemmas.Result.{err_from_is_err_and}
use Rattle.pr_top.specs.Fronts.{IsCutAt, IsTaken}
use Rattle.pr_top.specs.declared.reading.ReadError.{ReadError}
use Rattle.pr_top.proofs.FrontBytes.{cut_front, few_behind, front_answered, front_cut, front_ended, front_not_taken, no_zero_append}
use Rattle.pr_top.proofs.Held.{consumes_more}
use Rattle.pr_top.proofs.fronts.read_front.Goals as goal

pub returns-in_err-take-clause-so : goal.returns-in_err-take-clause-so
returns-in_err-take-clause-so g c =
    let held = c.loop-len.invariant.held in
    let a = g.S.Source.left c.args.source.now in
    let b = g.S.Source.left c.read.new.self in
    let piece = take c.in-Ok.len c.read.new.buf in
    let front = c.cut.result.0.now in
    let cut = cut_front piece front _ c.cut.ensures in
    let p = err_from_is_err_and c.from_residual.result c.from_residual.ensures.1 in
    let was = c.in_err-take.was in
    let same = p.2 in
    let done : c.take.result ≡ Err p.0 = cc in
    let read : Consumes a b ((held.0 ++ front) ++ cut.0) =
    subst (λ (t : List ℕ). Consumes a b t) (ap (λ (t : List ℕ). held.0 ++ t) cut.1 ∙ sym (append_assoc held.0 front cut.0))
    (consumes_more a (g.S.Source.left c.loop-len.source) b held.0 piece held.4 c.in-Ok.ensures.bytes.0) in
    front_not_taken a b (g.S.Source.faults c.args.source.now) (g.S.Source.faults c.read.new.self) c.take.new.reader c.take.new.size (held.0 ++ front) cut.0 p.0 c.from_residual.result
    (no_zero_append held.0 front held.3 cut.2) read
    (subst (λ (r : Result (Unit {0}) ReadError). IsTaken c.take.new.reader c.take.new.size (held.0 ++ front) r) done (c.take.ensures.taken held.0 held.1 held.2)) p.1

pub returns-in-Some-clause-so : goal.returns-in-Some-clause-so
returns-in-Some-clause-so g c =
    let held = c.loop-len.invariant.held in
    let a = g.S.Source.left c.args.source.now in
    let b = g.S.Source.left c.read.new.self in
    let piece = take c.in-Ok.len c.read.new.buf in
    let front = c.cut.result.0.now in
    let ahead = c.in-Some.ahead.now in
    let most : c.in-Ok.len ≤ 4096 = search rules in
    let fits : length piece ≤ 4096 = let l = length-take c.in-Ok.len c.read.new.buf in omega (arith, l, most) in
    let cut : IsCutAt piece front (Some ahead) = subst (λ o. IsCutAt piece front (option_map (λ t. t.now) o)) c.in-Some.is c.cut.ensures in
    let went = c.in_ok-take.ensures.taken held.0 held.1 held.2 in
    front_answered a b (g.S.Source.faults c.args.source.now) (g.S.Source.faults c.read.new.self) (held.0 ++ front) ahead c.ended.result (few_behind piece front ahead cut fits)
    (front_cut a b held.0 piece front ahead held.3 (consumes_more a (g.S.Source.left c.loop-len.source) b held.0 piece held.4 c.in-Ok.ensures.bytes.0) cut went.1.fits)
    (c.ended.ensures (held.0 ++ front) went.0)

pub returns-in-None-clause-so : goal.returns-in-None-clause-so
returns-in-None-clause-so g c =
    let held = c.loop-len.invariant.held in
    let a = g.S.Source.left c.args.source.now in
    let b = g.S.Source.left c.read.new.self in
    let piece = take c.in-Ok.len c.read.new.buf in
    let front = c.cut.result.0.now in
    let cut : IsCutAt piece front None = subst (λ o. IsCutAt piece front (option_map (λ t. t.now) o)) c.in-None.is c.cut.ensures in
    let went = c.in_ok-take.ensures.taken held.0 held.1 held.2 in
    let read : Consumes a b (held.0 ++ front) = subst (λ (t : List ℕ). Consumes a b (held.0 ++ t)) cut.0 (consumes_more a (g.S.Source.left c.loop-len.source) b held.0 piece held.4 c.in-Ok.ensures.bytes.0) in
    front_answered a b (g.S.Source.faults c.args.source.now) (g.S.Source.faults c.read.new.self) (held.0 ++ front) [] c.ended-in-None.result (omega arith)
    (front_ended a b (held.0 ++ front) (no_zero_append held.0 front held.3 cut.1) read (c.in-Ok.ensures.bytes.1 (search rules) (search rules)) went.1.fits)
    (c.ended-in-None.ensures (held.0 ++ front) went.0)

pub loop-len-preserved : goal.loop-len-preserved
loop-len-preserved g c =
    let held = c.loop-len.invariant.held in
    let a = g.S.Source.left c.args.source.now in
    let b = g.S.Source.left c.read.new.self in
    let piece = take c.in-Ok.len c.read.new.buf in
    let front = c.cut.result.0.now in
    let cut : IsCutAt piece front None = subst (λ o. IsCutAt piece front (option_map (λ t. t.now) o)) c.in-None.is c.cut.ensures in
    let went = c.in_ok-take.ensures.taken held.0 held.1 held.2 in
    record {
      rises = omega arith;
      bytes = c.in_ok-take.ensures.more.1;
      ends = c.in_ok-take.ensures.more.2;
      held = (
        held.0 ++ front,
        went.0,
        went.1,
        no_zero_append held.0 front held.3 cut.1,
        subst (λ (t : List ℕ). Consumes a b (held.0 ++ t)) cut.0 (consumes_more a (g.S.Source.left c.loop-len.source) b held.0 piece held.4 c.in-Ok.ensures.bytes.0),
      );
    }
