-- What the engine's answer makes of a run.
use Rattle.std.proofs.Common.{◌≡◌, ℕ, suc, ◌+◌, ◌-◌, ◌<◌, ◌≤◌, List, [], ◌∷◌, ◌++◌, Result, Ok, Err, inr, refl, sym, ◌∙◌, ap, subst, cond, drop, filter, get_or, length, not, reverse, take, arith}
use Rattle.std.specs.Prelude.{true, false, Bool, IsTrue, Some, None, Option}
use Rattle.std.specs.List.{position_or_len}
use Rattle.std.proofs.lemmas.List.{get_or_push, length-reverse, reverse-reverse}
use Rattle.pr_flow.specs.declared.stop.Stop.{Stop}
use Rattle.pr_flow.specs.declared.stop.Stop.TheVariants as stops
use Rattle.pr_stamps.specs.declared.no_memory.NoMemory.{NoMemory}
use Rattle.pr_script.specs.declared.command.Command.{Command}
use Rattle.pr_script.specs.declared.command.Command.TheVariants as commands
use Rattle.pr_script.specs.declared.want.Want.{Want}
use Rattle.pr_script.specs.declared.script.Script.{Script}
use Rattle.pr_script.specs.Good.{AreGoodSteps, IsGoodCommand, IsGoodPhase}
use Rattle.pr_script.specs.Known.{is_read}
use Rattle.pr_script.specs.Known as known
use Rattle.pr_script.specs.Steps.{Alone, Numbered, Step, is_end, is_phase, steps_of}
use Rattle.pr_script.specs.Steps as script
use Rattle.pr_script.proofs.Stepping.{step_alone, step_of_phase}
use Rattle.pr_crew.specs.Phases.{is_went}
use Rattle.pr_sim.specs.Making.{declared_of}
use Rattle.pr_sim.specs.Running.{IsRunning, Tells}
use Rattle.pr_sim.specs.Stepping.{CanRun}
use Rattle.pr_sim.specs.declared.engine.Engine.{Engine}
use Rattle.pr_sim.proofs.Goods.{attached_together, good_can_run}
use Rattle.pr_sim.proofs.Telling.{many_places, reverse_more}
use Rattle.pr_story.specs.Places.{places_of}
use Rattle.pr_story.specs.History.{NodeEntry}
use Rattle.pr_story.specs.Phases.{LineBeginsAs}
use Rattle.pr_story.specs.Scripts.{ByTime, JobAfterJob, LineBegins, LineGives, Order, Phase, attached_after}
use Rattle.pr_text.specs.Histories.{HasBegunAs, first_of, is_met, is_met_by, is_unmet, streams_of, unmet_from}
use Rattle.pr_text.specs.Steps.{jobs_of, line_of, step_line}
use Rattle.pr_top.specs.Downs.{IsUnsoundIn}
use Rattle.pr_top.specs.Progress.{HasCome, HasStepped, IsAlone, IsHalt, IsLast}
use Rattle.pr_top.specs.Runs.{StopsJobs}
use Rattle.pr_top.specs.Stopping.{IsCutOff, IsReadyFor, IsWent, StepsSo}
use Rattle.pr_top.specs.declared.stepping.Halt.{Halt}
use Rattle.pr_top.specs.declared.stepping.Halt.TheVariants as halts
use Rattle.pr_top.proofs.Coming.{come_more, stop_marked, stop_more}
use Rattle.pr_top.proofs.Given.{gave_begins, made_by}
use Rattle.pr_top.proofs.Marks.{cut_begins, cut_cause}

pub went_is : (stop : Result Stop NoMemory) → IsWent stop (Ok tt) → stop ≡ Ok stops.Went
went_is (Ok stops.Went) is = refl
went_is (Ok (stops.Worn at)) is = absurd (cc)
went_is (Ok (stops.Lied stream number sent got)) is = absurd (cc)
went_is (Err refused) is = absurd (cc)

pub no_phase : (c : Command) → IsAlone c → is_phase c ≡ false
no_phase (commands.Expect want) alone = absurd alone
no_phase commands.Phase alone = absurd alone
no_phase _ alone = refl

-- no other command is judged
pub not_judged : (c : Command) (es : List NodeEntry) → IsAlone c → is_unmet c es ≡ false
not_judged (commands.Expect want) es alone = absurd alone
not_judged commands.Phase es alone = absurd alone
not_judged _ es alone = refl

last_of : (x : NodeEntry) (new h : List NodeEntry) → reverse new ≡ x ∷ [] → IsLast (reverse new) (new ++ h)
last_of x new h is = record {
  entry = x;
  before = h;
  alone = is;
  newest = ap (λ (xs : List NodeEntry). xs ++ h) (sym (reverse-reverse new) ∙ ap (λ (xs : List NodeEntry). reverse xs) is);
}

pub newest_at : (x : NodeEntry) (h before : List NodeEntry) (d : NodeEntry) (i : ℕ) → h ≡ x ∷ before → i ≡ length h - 1 → get_or (reverse h) i d ≡ x
newest_at x h before d i is at =
    let l : length h ≡ length before + 1 = ap (λ (xs : List NodeEntry). length xs) is ∙ omega arith in
    let r : length (reverse before) ≡ length before = length-reverse before in
    ap (λ (xs : List NodeEntry). get_or (reverse xs) i d) is
    ∙ ap (λ (xs : List NodeEntry). get_or xs i d) (reverse_more x before)
    ∙ get_or_push (reverse before) x d i (omega arith)

first_again : (a b c : Option ℕ) → first_of a (first_of b c) ≡ first_of (first_of a b) c
first_again None b c = refl
first_again (Some n) b c = refl

module _ (order : Order) (sound : ℕ → Bool) where
  -- a read gives one entry
  one_read : (c : Command) (streams : List ℕ) (es : List NodeEntry) → LineGives order streams (line_of c) es → IsTrue (is_read c) → (x : NodeEntry) × (es ≡ x ∷ [])
  one_read (commands.Read client name) streams [] gives is = absurd gives
  one_read (commands.Read client name) streams (x ∷ xs) gives is = (x, ap (λ (ys : List NodeEntry). x ∷ ys) gives.1)
  one_read _ streams es gives is = absurd (cc)

  module _ (s : Script) (c : Numbered) (cs : List Numbered) (h : List NodeEntry) (e : Engine) (unmet : Option ℕ) (k : HasCome order s (c ∷ cs) h e unmet) where
    -- ---- a step that stops

    module _ (step : Step) (rest : List Numbered) (f : Engine) (steps : steps_of (c ∷ cs) ≡ step ∷ steps_of rest) where
      abbrev streams : List ℕ
      streams = filter k.attached (streams_of s.decls.list)

      halted : (new : List NodeEntry) (halt : Halt) → Tells (declared_of s.decls.list) (new ++ h) f → LineBegins order streams (step_line step) (reverse new) → IsHalt order sound s (new ++ h) halt
          → HasStepped order sound s (c ∷ cs) h f unmet (Err halt)
      halted new halt tells begins cause = (
        new,
        record {
          tells = tells;
          begun = stop_more order s c cs rest h e unmet k new step steps begins;
          cause = cause;
        },
        made_by order s (c ∷ cs) (steps_of rest) k.attached k.last h new unmet step steps begins k.given,
      )

      jobs_stop : (new : List NodeEntry) (stop : Result Stop NoMemory) → IsCutOff order streams (step_line step) h new stop → StopsJobs order s (new ++ h) stop
      jobs_stop new stop cut = by order refl cut
        where
          by : (o : Order) → order ≡ o → IsCutOff o streams (step_line step) h new stop → StopsJobs o s (new ++ h) stop
          by JobAfterJob same cut = tt
          by ByTime same cut = record {
            each = cut.each;
            first = cut.first;
            causes = cut.causes;
            begun = subst (λ (o : Order). HasBegunAs (λ i. is_went (get_or cut.each i (Ok stops.Went))) o s (new ++ h)) same
                (stop_marked order s c cs rest h e unmet k new step (λ i. is_went (get_or cut.each i (Ok stops.Went))) steps
                (subst (λ (o : Order). LineBeginsAs (λ i. is_went (get_or cut.each i (Ok stops.Went))) o streams (step_line step) (reverse new)) (sym same) cut.begun));
          }

      pub step_stops : (halt : Halt) (stop : Result Stop NoMemory) → IsWent stop (Err halt) → StepsSo order (λ x. IsUnsoundIn sound s x) (step_line step) (declared_of s.decls.list) k.attached h f stop
          → HasStepped order sound s (c ∷ cs) h f unmet (Err halt)
      step_stops halt (Ok stops.Went) is so = absurd (cc)
      step_stops halt (Ok (stops.Worn at)) is (new, tells, cut) =
          let same : halt ≡ halts.Worn at = cc in
          let cause = cut_cause order streams (step_line step) h new (Ok (stops.Worn at)) cut in
          subst (λ (x : Halt). HasStepped order sound s (c ∷ cs) h f unmet (Err x)) (sym same)
          (halted new (halts.Worn at) tells (cut_begins order streams (step_line step) h new (Ok (stops.Worn at)) cut) (cause.0, cause.1, jobs_stop new (Ok (stops.Worn at)) cut))
      step_stops halt (Ok (stops.Lied stream number sent got)) is (bad, (new, tells, cut)) =
          let same : halt ≡ halts.Lied stream number sent got = cc in
          let stop : Result Stop NoMemory = Ok (stops.Lied stream number sent got) in
          subst (λ (x : Halt). HasStepped order sound s (c ∷ cs) h f unmet (Err x)) (sym same)
          (halted new (halts.Lied stream number sent got) tells (cut_begins order streams (step_line step) h new stop cut) (bad, cut_cause order streams (step_line step) h new stop cut, jobs_stop new stop cut))
      step_stops halt (Err refused) is (new, tells, begins) =
          let same : halt ≡ halts.NoMemory = cc in
          subst (λ (x : Halt). HasStepped order sound s (c ∷ cs) h f unmet (Err x)) (sym same) (halted new halts.NoMemory tells begins tt)

    -- ---- a command alone

    module _ (alone_now : is_phase c.1 ≡ false) where
      steps_alone : steps_of (c ∷ cs) ≡ Alone c ∷ steps_of cs
      steps_alone = (step_alone c cs alone_now).0

      pub good_alone : IsGoodCommand s.decls.list k.numbers k.after_read c.1 × AreGoodSteps s.decls.list (known.attached_after c.1 k.numbers) (is_read c.1) (steps_of cs)
      good_alone = subst (λ (ss : List Step). AreGoodSteps s.decls.list k.numbers k.after_read ss) steps_alone k.good

      pub can_run : CanRun e c.1
      can_run = good_can_run s.decls.list k.numbers k.attached h e k.after_read c.1 k.running k.same good_alone.0

      is_step : (f : Engine) (new : List NodeEntry) (now : Option ℕ) → IsRunning (declared_of s.decls.list) (attached_after (line_of c.1) k.attached) (new ++ h) f
          → LineGives order (filter k.attached (streams_of s.decls.list)) (line_of c.1) (reverse new)
          → ((steps : List Step) (parts : List (List NodeEntry)) → first_of unmet (unmet_from k.last (Alone c ∷ steps) (reverse new ∷ parts)) ≡ first_of now (unmet_from (reverse new) steps parts))
          → HasCome order s cs (new ++ h) f now
      is_step f new now running gave judged = come_more order s c cs cs h e f unmet now k new (Alone c) (record {
        steps = steps_alone;
        running = running;
        gave = gave;
        numbers = known.attached_after c.1 k.numbers;
        after_read = is_read c.1;
        same = attached_together k.numbers k.attached c.1 k.same;
        good = good_alone.1;
        whole = (step_alone c cs alone_now).1 k.whole;
        read = λ is. let x = one_read c.1 (filter k.attached (streams_of s.decls.list)) (reverse new) gave is in last_of x.0 new h x.1;
        judged = judged;
      })

      -- the command ran, or its line was cut off
      pub alone_steps : (f : Engine) (stop : Result Stop NoMemory) (r : Result (Unit {0}) Halt) → IsAlone c.1 → StepsSo order (λ x. IsUnsoundIn sound s x) (line_of c.1) (declared_of s.decls.list) k.attached h f stop → IsWent stop r
          → (done : r ≡ Ok tt) → HasStepped order sound s (c ∷ cs) h f unmet (Ok 0)
      alone_steps f stop r alone ends is done =
          let went : stop ≡ Ok stops.Went = went_is stop (subst (λ (x : Result (Unit {0}) Halt). IsWent stop x) done is) in
          let all = subst (λ (x : Result Stop NoMemory). StepsSo order (λ x. IsUnsoundIn sound s x) (line_of c.1) (declared_of s.decls.list) k.attached h f x) went ends in
          let long : length (c ∷ cs) ≡ length cs + 1 = omega arith in (
            omega arith,
            (
              all.0,
              is_step f all.0 unmet all.1 all.2
                  (λ steps parts. ap (λ (b : Bool). first_of unmet (first_of (cond b (Some c.0) None) (unmet_from (reverse all.0) steps parts))) (not_judged c.1 k.last alone)),
              inr (made_by order s (c ∷ cs) (steps_of cs) k.attached k.last h all.0 unmet (Alone c) steps_alone
                  (gave_begins order (filter k.attached (streams_of s.decls.list)) (line_of c.1) (reverse all.0) all.2) k.given),
            ),
          )

      pub alone_stops : (f : Engine) (stop : Result Stop NoMemory) (r : Result (Unit {0}) Halt) (halt : Halt) → StepsSo order (λ x. IsUnsoundIn sound s x) (line_of c.1) (declared_of s.decls.list) k.attached h f stop → IsWent stop r
          → (done : r ≡ Err halt) → HasStepped order sound s (c ∷ cs) h f unmet (Err halt)
      alone_stops f stop r halt ends is done = step_stops (Alone c) cs f steps_alone halt stop (subst (λ (x : Result (Unit {0}) Halt). IsWent stop x) done is) ends

    -- ---- a phase

    module _ (phase_now : is_phase c.1 ≡ true) (n : ℕ) (at : n ≡ position_or_len (λ (x : Numbered). is_end x.1) cs) where
      pub phase_within : n < length cs
      phase_within = (step_of_phase c cs n phase_now at k.whole).0

      steps_phase : steps_of (c ∷ cs) ≡ script.Phase (take n cs) ∷ steps_of (drop (n + 1) cs)
      steps_phase = (step_of_phase c cs n phase_now at k.whole).1

      pub good_phase : IsGoodPhase s.decls.list k.numbers (take n cs) × AreGoodSteps s.decls.list k.numbers false (steps_of (drop (n + 1) cs))
      good_phase = subst (λ (ss : List Step). AreGoodSteps s.decls.list k.numbers k.after_read ss) steps_phase k.good

      pub ready_for : IsReadyFor e (take n cs)
      ready_for = record {
        decls = s.decls.list;
        numbers = k.numbers;
        attached = k.attached;
        h = h;
        good_decls = k.decls;
        running = k.running;
        same = k.same;
        good = good_phase.0;
      }

      pub phase_steps : (f : Engine) (stop : Result Stop NoMemory) (r : Result (Unit {0}) Halt) → StepsSo order (λ x. IsUnsoundIn sound s x) (Phase (jobs_of (take n cs))) (declared_of s.decls.list) k.attached h f stop → IsWent stop r
          → r ≡ Ok tt → HasStepped order sound s (c ∷ cs) h f unmet (Ok (n + 1))
      phase_steps f stop r ends is done =
          let went : stop ≡ Ok stops.Went = went_is stop (subst (λ (x : Result (Unit {0}) Halt). IsWent stop x) done is) in
          let all = subst (λ (x : Result Stop NoMemory). StepsSo order (λ x. IsUnsoundIn sound s x) (Phase (jobs_of (take n cs))) (declared_of s.decls.list) k.attached h f x) went ends in
          let two : n + 1 + 1 ≡ suc (n + 1) = omega arith in
          let within : n < length cs = phase_within in
          let long : length (c ∷ cs) ≡ length cs + 1 = omega arith in (
            omega arith,
            (
              all.0,
              subst (λ (left : List Numbered). HasCome order s left (all.0 ++ h) f unmet) (sym (ap (λ (m : ℕ). drop m (c ∷ cs)) two))
                  (come_more order s c cs (drop (n + 1) cs) h e f unmet unmet k all.0 (script.Phase (take n cs)) (record {
                    steps = steps_phase;
                    running = all.1;
                    gave = all.2;
                    numbers = k.numbers;
                    after_read = false;
                    same = k.same;
                    good = good_phase.1;
                    whole = (step_of_phase c cs n phase_now at k.whole).2;
                    read = λ is. absurd (cc);
                    judged = λ steps parts. refl;
                  })),
              inr (made_by order s (c ∷ cs) (steps_of (drop (n + 1) cs)) k.attached k.last h all.0 unmet (script.Phase (take n cs)) steps_phase
                  (gave_begins order (filter k.attached (streams_of s.decls.list)) (Phase (jobs_of (take n cs))) (reverse all.0) all.2) k.given),
            ),
          )

      pub phase_stops : (f : Engine) (stop : Result Stop NoMemory) (r : Result (Unit {0}) Halt) (halt : Halt) → StepsSo order (λ x. IsUnsoundIn sound s x) (Phase (jobs_of (take n cs))) (declared_of s.decls.list) k.attached h f stop → IsWent stop r
          → r ≡ Err halt → HasStepped order sound s (c ∷ cs) h f unmet (Err halt)
      phase_stops f stop r halt ends is done =
          step_stops (script.Phase (take n cs)) (drop (n + 1) cs) f steps_phase halt stop (subst (λ (x : Result (Unit {0}) Halt). IsWent stop x) done is) ends

  -- ---- an expectation

  module _ (s : Script) (line : ℕ) (want : Want) (cs : List Numbered) (h : List NodeEntry) (e : Engine) (unmet : Option ℕ) (k : HasCome order s ((line, commands.Expect want) ∷ cs) h e unmet) where
    -- it stands behind a read
    pub behind_read : IsLast k.last h
    behind_read = k.read (good_alone s (line, commands.Expect want) cs h e unmet k refl).0.0

    pub expect_steps : (x : NodeEntry) (now : Option ℕ) → x ≡ behind_read.entry → now ≡ first_of unmet (cond (not (is_met want x.entry.event)) (Some line) None) → HasCome order s cs h e now
    expect_steps x now same is =
        is_step s (line, commands.Expect want) cs h e unmet k refl e [] now k.running refl
        (λ steps parts.
        let b : not (is_met_by want k.last) ≡ not (is_met want x.entry.event) =
        ap (λ (es : List NodeEntry). not (is_met_by want es)) behind_read.alone ∙ ap (λ (y : NodeEntry). not (is_met want y.entry.event)) (sym same) in
        first_again unmet (cond (not (is_met_by want k.last)) (Some line) None) (unmet_from [] steps parts)
        ∙ ap (λ (t : Bool). first_of (first_of unmet (cond t (Some line) None)) (unmet_from [] steps parts)) b
        ∙ ap (λ (o : Option ℕ). first_of o (unmet_from [] steps parts)) (sym is))

    pub last_within : (places : List (ℕ × ℕ)) → places ≡ places_of h → (1 ≤ length places) × (length places - 1 < length h) × (length places - 1 ≡ length h - 1)
    last_within places is =
        let l : length places ≡ length h = ap (λ (ps : List (ℕ × ℕ)). length ps) is ∙ many_places h in
        let m : length h ≡ length behind_read.before + 1 = ap (λ (xs : List NodeEntry). length xs) behind_read.newest ∙ omega arith in
        (omega arith, omega arith, omega arith)
