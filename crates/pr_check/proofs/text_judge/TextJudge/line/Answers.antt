use Rattle.std.proofs.Common.{[], Ok, refl, subst}
use Rattle.pr_check.specs.Standing.{IsVerdict}
use Rattle.pr_check.specs.declared.finding.Finding.TheVariants as findings
use Rattle.pr_check.specs.declared.verdict.Verdict.{Verdict}
use Rattle.pr_check.proofs.TextsRead.{reads_bad}
use Rattle.pr_check.proofs.text_judge.TextJudge.line.Goals as goal

pub returns-in-Bad-clause-ok : goal.returns-in-Bad-clause-ok
returns-in-Bad-clause-ok c text read =
    reads_bad c.args.self.now c.line.new.self [] c.as_slice.result.now 0 c.in_ok-number.number c.in-Bad.why text (findings.Bad c.in_ok-number.number c.in-Bad.why) c.requires.good refl c.as_slice.ensures c.in_ok-number.ensures
    (λ lines j. subst (λ (v : Verdict). IsVerdict lines c.as_slice.result.now c.line.new.self (Ok v)) c.in-Bad.is (c.in_ok-line.ensures.verdict lines j)) read
