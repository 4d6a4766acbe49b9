-- Words that memory did not suffice to read, and jobs that need one thread.
use Rattle.std.proofs.Common.{◌≡◌, ◌≢◌, ℕ, List, Option, Some, None, Err, inl, inr, refl, codes, subst, sym}
use Rattle.std.specs.Prelude.{Bool}
use Rattle.pr_ports.specs.Faults.{HasRisen}
use Rattle.pr_text.specs.Endings.{error_line}
use Rattle.pr_words.specs.declared.job.Job.{Job}
use Rattle.pr_words.specs.declared.job.Job.TheVariants as jobs
use Rattle.pr_top.specs.Answers.{Answers, AnswersRun, IsUnreadFor, Ports, RunsOver, RunsScript, RunsUntil, Writes}
use Rattle.pr_top.specs.Reading.{HasBadLine, IsReadSo}
use Rattle.pr_top.specs.Runs.{all_sound}
use Rattle.pr_top.specs.declared.reading.ReadError.{ReadError}
use Rattle.pr_top.specs.declared.reading.ReadError.TheVariants as errors
use Rattle.pr_top.specs.declared.status.Status.{Status}
use Rattle.pr_top.specs.declared.status.Status.TheVariants as status

-- memory ran out, and the line alone was written
short_run : (Runs : Status → Type 0) (a b : Ports) → Writes a b (error_line (codes "no memory")) → AnswersRun Runs a b status.NoMemory
short_run Runs a b line = record {
  only = tt;
  read_fault = λ is. absurd (cc);
  write_fault = λ is. absurd (cc);
  too_large = λ is. absurd (cc);
  bad_script = λ at why is. absurd (cc);
  fault = tt;
  run = λ is. absurd is;
  no_memory = λ is. inr line;
}

-- no script was read
pub unread_run : (Runs : Status → Type 0) (a b : Ports) (error : ReadError) (result : Status) → IsReadSo a.left b.left a.read_faults b.read_faults (Err error)
    → IsUnreadFor error result (HasRisen a.write_faults b.write_faults) a.text b.text → AnswersRun Runs a b result
unread_run Runs a b errors.Failed result read (ended, line) = subst (λ (r : Status). AnswersRun Runs a b r) (sym ended) (record {
  only = tt;
  read_fault = λ is. read;
  write_fault = λ is. absurd (cc);
  too_large = λ is. absurd (cc);
  bad_script = λ at why is. absurd (cc);
  fault = line;
  run = λ is. absurd is;
  no_memory = λ is. absurd (cc);
})
unread_run Runs a b errors.TooLarge result read (ended, line) = subst (λ (r : Status). AnswersRun Runs a b r) (sym ended) (record {
  only = tt;
  read_fault = λ is. absurd (cc);
  write_fault = λ is. absurd (cc);
  too_large = λ is. read;
  bad_script = λ at why is. absurd (cc);
  fault = line;
  run = λ is. absurd is;
  no_memory = λ is. absurd (cc);
})
unread_run Runs a b (errors.Bad line why) result read told = elim told [
  | inl t ↦ subst (λ (r : Status). AnswersRun Runs a b r) (sym t.0) (record {
    only = tt;
    read_fault = λ is. absurd (cc);
    write_fault = λ is. absurd (cc);
    too_large = λ is. absurd (cc);
    bad_script = λ l w is.
        let there : line ≡ l = cc in
        let rule : why ≡ w = cc in
        subst (λ (n : ℕ). HasBadLine a.left b.left n w) there (subst (λ (n : ℕ). HasBadLine a.left b.left line n) rule read);
    fault = t.1;
    run = λ is. absurd is;
    no_memory = λ is. absurd (cc);
  })
  | inr t ↦ subst (λ (r : Status). AnswersRun Runs a b r) (sym t.0) (short_run Runs a b t.1)
]
unread_run Runs a b errors.NoMemory result read (ended, line) = subst (λ (r : Status). AnswersRun Runs a b r) (sym ended) (short_run Runs a b line)

-- whatever they ask for, the line alone answers
module _ (sound : ℕ → Bool) (carried carried_now : Option (List (List ℕ))) (a b : Ports) (unread : (b.left ≡ a.left) × (b.read_faults ≡ a.read_faults)) (line : Writes a b (error_line (codes "no memory"))) where
  by_job : (job : Option Job) → Answers job sound carried carried_now a b status.NoMemory
  by_job None = line
  by_job (Some jobs.Sim) = short_run (RunsScript a b) a b line
  by_job (Some jobs.Run) = short_run (RunsOver sound carried carried_now a b) a b line
  by_job (Some (jobs.Kept None)) = short_run (RunsScript a b) a b line
  by_job (Some (jobs.Kept (Some stop))) = (λ least most. short_run (RunsUntil stop a b) a b line, λ out. line)
  by_job (Some (jobs.Gen seed size)) = (λ few. record { unread = unread; run = inr (refl, line) }, λ many. line)
  by_job (Some (jobs.Ask node)) = inr (refl, line)
  by_job (Some (jobs.Serve node)) = inr (refl, line)
  by_job (Some (jobs.Pull node)) = inr (refl, line)
  by_job (Some other) = line

  pub line_answers : (job : Option Job) (result : Status) → result ≡ status.NoMemory → Answers job sound carried carried_now a b result
  line_answers job result is = subst (λ (r : Status). Answers job sound carried carried_now a b r) (sym is) (by_job job)

-- what needs no connection is answered in the same way over any
pub other_answers : (sound : ℕ → Bool) (carried carried_now : Option (List (List ℕ))) (a b : Ports) (job : Job) (result : Status) → job ≢ jobs.Run → Answers (Some job) all_sound None None a b result → Answers (Some job) sound carried carried_now a b result
other_answers sound carried carried_now a b jobs.Run result other answers = absurd (other refl)
other_answers sound carried carried_now a b (jobs.Kept None) result other answers = answers
other_answers sound carried carried_now a b (jobs.Kept (Some stop)) result other answers = answers
other_answers sound carried carried_now a b _ result other answers = answers
