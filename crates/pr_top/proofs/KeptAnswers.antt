-- The answer where a script was run on a disk that may stop.
use Rattle.std.proofs.Common.{◌≡◌, ℕ, List, Option, None, inl, inr, refl, subst, sym}
use Rattle.std.specs.Prelude.{IfSome}
use Rattle.pr_ports.specs.Faults.{HasRisen}
use Rattle.pr_script.specs.declared.script.Script.{Script}
use Rattle.pr_top.specs.Answers.{AnswersKept, IsOfRun, IsOfScript, Ports, Writes, fault_line}
use Rattle.pr_top.specs.Outlived.{HasRunUntil}
use Rattle.pr_top.specs.Reading.{HasScript}
use Rattle.pr_top.specs.declared.status.Status.{Status}
use Rattle.pr_top.specs.declared.status.Status.TheVariants as status

module _ (stop : ℕ) (a b : Ports) (s : Script) (script : HasScript a.left b.left s) where
  abbrev Until : Status → Type 0
  Until r = HasRunUntil stop r s (HasRisen a.write_faults b.write_faults) a.text b.text

  -- with the status of a run
  of_run : (r : Status) → IsOfRun r → IsOfScript r → fault_line r ≡ None → (r ≡ status.WriteFault → HasRisen a.write_faults b.write_faults) → Until r → AnswersKept stop a b r
  of_run r of only none write until = record {
    only = only;
    read_fault = λ is. absurd (subst IsOfRun is of);
    write_fault = write;
    too_large = λ is. absurd (subst IsOfRun is of);
    bad_script = λ at why is. absurd (subst IsOfRun is of);
    fault = subst (λ (o : Option (List ℕ)). IfSome o (λ line. Writes a b line)) (sym none) tt;
    run = λ is. (s, script, until);
    no_memory = λ is. absurd (subst IsOfRun is of);
  }

  sink_failed : Until status.WriteFault → HasRisen a.write_faults b.write_faults
  sink_failed (inl run) = run.0.written.0
  sink_failed (inr outlived) = outlived.written.0

  pub until_answers : (r : Status) → Until r → AnswersKept stop a b r
  until_answers status.Ok until = of_run status.Ok tt tt refl (λ is. absurd (cc)) until
  until_answers (status.Unmet line) until = of_run (status.Unmet line) tt tt refl (λ is. absurd (cc)) until
  until_answers (status.Worn at) until = of_run (status.Worn at) tt tt refl (λ is. absurd (cc)) until
  until_answers (status.Lied stream number sent got) until = of_run (status.Lied stream number sent got) tt tt refl (λ is. absurd (cc)) until
  until_answers status.WriteFault until = of_run status.WriteFault tt tt refl (λ is. sink_failed until) until
  until_answers status.NoMemory until = record {
    only = tt;
    read_fault = λ is. absurd (cc);
    write_fault = λ is. absurd (cc);
    too_large = λ is. absurd (cc);
    bad_script = λ at why is. absurd (cc);
    fault = tt;
    run = λ is. absurd is;
    no_memory = λ is. inl (s, script, until);
  }
  until_answers _ until = absurd (elim until [ inl run ↦ run.0.ends | inr outlived ↦ outlived.written ])
