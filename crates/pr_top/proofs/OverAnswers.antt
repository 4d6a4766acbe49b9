-- The answer where a script was run over wires.
use Rattle.std.proofs.Common.{◌≡◌, ℕ, List, Option, None, inl, refl, subst, sym}
use Rattle.std.specs.Prelude.{Bool, IfSome}
use Rattle.pr_ports.specs.Faults.{HasRisen}
use Rattle.pr_script.specs.declared.script.Script.{Script}
use Rattle.pr_top.specs.Answers.{AnswersOver, IsOfRun, IsOfScript, Ports, Writes, fault_line}
use Rattle.pr_top.specs.Carrying.{HasRunOver}
use Rattle.pr_top.specs.Reading.{HasScript}
use Rattle.pr_top.specs.declared.status.Status.{Status}
use Rattle.pr_top.specs.declared.status.Status.TheVariants as status

module _ (sound : ℕ → Bool) (carried carried_now : Option (List (List ℕ))) (a b : Ports) (s : Script) (script : HasScript a.left b.left s) where
  abbrev Over : Status → Type 0
  Over r = HasRunOver sound carried carried_now r s (HasRisen a.write_faults b.write_faults) a.text b.text

  -- with the status of a run
  of_run : (r : Status) → IsOfRun r → IsOfScript r → fault_line r ≡ None → (r ≡ status.WriteFault → HasRisen a.write_faults b.write_faults) → Over r → AnswersOver sound carried carried_now a b r
  of_run r of only none write over = record {
    only = only;
    read_fault = λ is. absurd (subst IsOfRun is of);
    write_fault = write;
    too_large = λ is. absurd (subst IsOfRun is of);
    bad_script = λ at why is. absurd (subst IsOfRun is of);
    fault = subst (λ (o : Option (List ℕ)). IfSome o (λ line. Writes a b line)) (sym none) tt;
    run = λ is. (s, script, over);
    no_memory = λ is. absurd (subst IsOfRun is of);
  }

  pub over_answers : (r : Status) → Over r → AnswersOver sound carried carried_now a b r
  over_answers status.Ok over = of_run status.Ok tt tt refl (λ is. absurd (cc)) over
  over_answers (status.Unmet line) over = of_run (status.Unmet line) tt tt refl (λ is. absurd (cc)) over
  over_answers (status.Worn at) over = of_run (status.Worn at) tt tt refl (λ is. absurd (cc)) over
  over_answers (status.Lied stream number sent got) over = of_run (status.Lied stream number sent got) tt tt refl (λ is. absurd (cc)) over
  over_answers status.WriteFault over = of_run status.WriteFault tt tt refl (λ is. over.0.written.0) over
  over_answers status.NoMemory over = record {
    only = tt;
    read_fault = λ is. absurd (cc);
    write_fault = λ is. absurd (cc);
    too_large = λ is. absurd (cc);
    bad_script = λ at why is. absurd (cc);
    fault = tt;
    run = λ is. absurd is;
    no_memory = λ is. inl (s, script, over);
  }
  over_answers _ over = absurd over.0.ends
