use Rattle.std.proofs.Common.{◌≡◌, ◌++◌, ◌∙◌, Err, List, Result, ap, refl, subst, sym, ℕ}
use Rattle.std.proofs.lemmas.Result.{err_from_is_err_and}
use Rattle.pr_ports.specs.Faults.{HasRisen}
use Rattle.pr_text.specs.Heads.{heads_text}
use Rattle.pr_top.specs.Unended.{HasBegunWell}
use Rattle.pr_top.specs.declared.stepping.Run.{Run}
use Rattle.pr_top.specs.declared.stepping.Halt.{Halt}
use Rattle.pr_top.specs.declared.stepping.Halt.TheVariants as halts
use Rattle.pr_top.proofs.Coming.{start}
use Rattle.pr_top.proofs.Runs.{heads_whole}
use Rattle.pr_top.proofs.Written.{appends_none, cut_as, went_as}
use Rattle.pr_top.proofs.running.begin.Goals as goal

pub returns-in_err-heads-clause-begun : goal.returns-in_err-heads-clause-begun
returns-in_err-heads-clause-begun g c =
    let s = c.args.script.now in
    let a = g.K.Sink.text c.args.out.now in
    let failed : Type 0 = HasRisen (g.K.Sink.faults c.args.out.now) (g.K.Sink.faults c.args.out.now) in
    let p = err_from_is_err_and c.from_residual.result c.from_residual.ensures.1 in
    let is = p.1 in
    let same = p.2 in
    let done : c.from_residual.result ≡ Err halts.NoMemory = cc in
    subst (λ (r : Result Run Halt). HasBegunWell s failed a a r) (sym done) (0, appends_none a)

pub returns-in_err-write-clause-begun : goal.returns-in_err-write-clause-begun
returns-in_err-write-clause-begun g c =
    let s = c.args.script.now in
    let ds = s.decls.list in
    let a = g.K.Sink.text c.args.out.now in
    let b = g.K.Sink.text c.write.new.out in
    let failed : Type 0 = HasRisen (g.K.Sink.faults c.args.out.now) (g.K.Sink.faults c.write.new.out) in
    let text = c.as_slice.ensures ∙ c.in_ok-heads.ensures.ok ∙ ap (λ (t : List ℕ). t ++ heads_text ds) c.new-text.ensures in
    let p = err_from_is_err_and c.from_residual-in_err-write.result c.from_residual-in_err-write.ensures.1 in
    let was = c.in_err-write.was in
    let same = p.2 in
    let done : c.write.result ≡ Err p.0 = cc in
    subst (λ (r : Result Run Halt). HasBegunWell s failed a b r) (sym p.1)
    (cut_as (Unit {0}) ℕ failed a b c.as_slice.result.now (heads_text ds) c.write.result (Err p.0) p.0 text done refl c.write.ensures.told)

pub returns-in_err-engine-clause-begun : goal.returns-in_err-engine-clause-begun
returns-in_err-engine-clause-begun g c =
    let s = c.args.script.now in
    let ds = s.decls.list in
    let a = g.K.Sink.text c.args.out.now in
    let b = g.K.Sink.text c.write.new.out in
    let failed : Type 0 = HasRisen (g.K.Sink.faults c.args.out.now) (g.K.Sink.faults c.write.new.out) in
    let text = c.as_slice.ensures ∙ c.in_ok-heads.ensures.ok ∙ ap (λ (t : List ℕ). t ++ heads_text ds) c.new-text.ensures in
    let heads = went_as (Unit {0}) failed a b c.as_slice.result.now (heads_text ds) c.write.result tt text c.in_ok-write.was c.write.ensures.told in
    let p = err_from_is_err_and c.from_residual-in_err-engine.result c.from_residual-in_err-engine.ensures.1 in
    let is = p.1 in
    let same = p.2 in
    let done : c.from_residual-in_err-engine.result ≡ Err halts.NoMemory = cc in
    subst (λ (r : Result Run Halt). HasBegunWell s failed a b r) (sym done) (heads_whole failed s a b heads)

pub returns-clause-begun : goal.returns-clause-begun
returns-clause-begun g c =
    let s = c.args.script.now in
    let ds = s.decls.list in
    let a = g.K.Sink.text c.args.out.now in
    let b = g.K.Sink.text c.write.new.out in
    let failed : Type 0 = HasRisen (g.K.Sink.faults c.args.out.now) (g.K.Sink.faults c.write.new.out) in
    let text = c.as_slice.ensures ∙ c.in_ok-heads.ensures.ok ∙ ap (λ (t : List ℕ). t ++ heads_text ds) c.new-text.ensures in
    let heads = went_as (Unit {0}) failed a b c.as_slice.result.now (heads_text ds) c.write.result tt text c.in_ok-write.was c.write.ensures.told in
    (λ o. start o s c.in_ok-engine.engine c.requires c.in_ok-engine.ensures, heads)
