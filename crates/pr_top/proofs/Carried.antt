-- What was carried so far, and by one step more.
use Rattle.std.proofs.Common.{◌≡◌, ℕ, suc, ◌+◌, ◌-◌, ◌<◌, ◌≤◌, List, [], ◌∷◌, ◌++◌, refl, sym, ◌∙◌, ap, subst, append_assoc, arith, drop, filter, get_or, map, reverse, length, take, Result, Ok, Err}
use Rattle.std.specs.Prelude.{false, true, Bool, IfErr, Option}
use Rattle.std.specs.List.{position_or_len}
use Rattle.std.proofs.lemmas.List.{append-nil, append_cancel_right, drop-drop, drop_all, reverse-append, reverse-reverse}
use Rattle.pr_crew.specs.Carrying.{JobsCarryBeside, PhaseCarries}
use Rattle.pr_flow.specs.Crossing.{Carried}
use Rattle.pr_flow.specs.declared.stop.Stop.{Stop}
use Rattle.pr_flow.specs.declared.stop.Stop.TheVariants as stops
use Rattle.pr_script.specs.declared.command.Command.{Command}
use Rattle.pr_script.specs.declared.command.Command.TheVariants as commands
use Rattle.pr_script.specs.declared.script.Script.{Script}
use Rattle.pr_script.specs.declared.want.Want.{Want}
use Rattle.pr_script.specs.Steps as script
use Rattle.pr_script.specs.Steps.{Alone, Numbered, Step, is_end, is_phase, steps_from, steps_of}
use Rattle.pr_script.proofs.Stepping.{step_alone, step_of_phase}
use Rattle.pr_sim.specs.Crossing.{CommandCarries}
use Rattle.pr_sim.specs.Holding.{KeepsRecords, held_of}
use Rattle.pr_sim.specs.Making.{declared_of}
use Rattle.pr_sim.specs.Running.{IsRunning, Tells}
use Rattle.pr_sim.specs.declared.engine.Engine.{Engine}
use Rattle.pr_sim.proofs.Crossing.{one_new}
use Rattle.pr_sim.proofs.Story.{running_tells, tells_story}
use Rattle.pr_stamps.specs.declared.no_memory.NoMemory.{NoMemory}
use Rattle.pr_story.specs.Counts.{Declared}
use Rattle.pr_story.specs.History.{NodeEntry}
use Rattle.pr_story.specs.Scripts.{ByTime, Line, LineGives, Phase, attached_after, events_of}
use Rattle.pr_text.specs.Histories.{EachGives, attached_by, streams_of}
use Rattle.pr_text.specs.Steps.{jobs_of, line_of, step_line}
use Rattle.pr_text.proofs.RunsOn.{expects_more, gives_more}
use Rattle.pr_top.specs.Carrying.{HasCarried, HasCarriedSofar, LineCarries, LinesCarry, StepCarries, TellsCarried, UnendedCarries}
use Rattle.pr_top.specs.Progress.{HasCome, HasGiven}
use Rattle.pr_top.specs.Runs.{IsToEnd}
use Rattle.pr_top.specs.Stopping.{IsWent, StepsSo}
use Rattle.pr_top.specs.declared.status.Status.{Status}
use Rattle.pr_top.specs.declared.stepping.Halt.{Halt}
use Rattle.pr_top.specs.declared.stepping.Run.{Run}
use Rattle.pr_top.proofs.Given.{each_long, mapped_long, mapped_more}
use Rattle.pr_top.proofs.Runs.{rest_at}
use Rattle.pr_top.proofs.Steps.{went_is}
use Rattle.pr_top.proofs.Threads.{tells_so}

-- what is told of the wires closed, where it is told
abbrev pub Told : Type 0
Told = Option (List (List ℕ))

-- ---- a line

-- a command's line carries what the command did
pub command_carries : (c : Command) (before now : Told) (d : Declared) (attached : ℕ → Bool) (h new : List NodeEntry) (e : Engine) → IsRunning d (attached_after (line_of c) attached) (new ++ h) e
    → CommandCarries c before now d attached h e (Ok stops.Went) → LineCarries (line_of c) (reverse new) before now
command_carries (commands.Flow s turns) before now d attached h new e running (other, also, carried) =
    subst (λ (es : List NodeEntry). Carried s (events_of (reverse es)) before now) (sym (one_new d attached h new other e running also)) carried
command_carries _ before now d attached h new e running carries = carries

-- ---- lines

lines_more : (lines : List Line) (parts : List (List NodeEntry)) (line : Line) (part : List NodeEntry) (first before now : Told) → LinesCarry lines parts first before → LineCarries line part before now
    → LinesCarry (lines ++ line ∷ []) (parts ++ part ∷ []) first now
lines_more [] [] line part first before now same carries = (now, subst (λ (o : Told). LineCarries line part o now) same carries, refl)
lines_more [] (p ∷ parts) line part first before now so carries = absurd so
lines_more (l ∷ lines) [] line part first before now so carries = absurd so
lines_more (l ∷ lines) (p ∷ parts) line part first before now so carries = (so.0, so.1, lines_more lines parts line part so.0 before now so.2 carries)

-- ---- a step more

pub carried_more : (s : Script) (was rest : List Numbered) (attached : ℕ → Bool) (last h new : List NodeEntry) (unmet : Option ℕ) (step : Step) (first before now : Told)
    → HasGiven ByTime s was attached last h unmet → steps_of was ≡ step ∷ steps_of rest → LineGives ByTime (filter attached (streams_of s.decls.list)) (step_line step) (reverse new)
    → LineCarries (step_line step) (reverse new) before now → HasCarriedSofar s was h first before → HasCarriedSofar s rest (new ++ h) first now
carried_more s was rest attached last h new unmet step first before now given steps gave carries k =
    let streams : List ℕ = streams_of s.decls.list in
    let none : ℕ → Bool = λ t. false in
    let lines : List Line = map step_line k.done in
    let mapped : map step_line (k.done ++ step ∷ []) ≡ lines ++ step_line step ∷ [] = mapped_more k.done step in
    let long : length k.done ≡ length k.parts = sym (mapped_long k.done) ∙ each_long ByTime streams none lines k.parts k.each in
    let more = expects_more [] k.done k.parts step (reverse new) long in
    let same : given.before ≡ k.done = append_cancel_right given.before k.done (steps_of was) (sym given.steps ∙ k.steps) in
    let attached_are : attached ≡ attached_by lines none = given.attached_are ∙ ap (λ (ss : List Step). attached_by (map step_line ss) none) same in
    record {
      done = k.done ++ step ∷ [];
      parts = k.parts ++ reverse new ∷ [];
      steps = k.steps ∙ ap (λ (ss : List Step). k.done ++ ss) steps ∙ sym (append_assoc k.done (step ∷ []) (steps_of rest));
      each = subst (λ (ls : List Line). EachGives ByTime streams none ls (k.parts ++ reverse new ∷ [])) (sym mapped)
          (gives_more ByTime streams none lines k.parts (step_line step) (reverse new) k.each
          (subst (λ (f : ℕ → Bool). LineGives ByTime (filter f streams) (step_line step) (reverse new)) attached_are gave));
      whole = more.1 ∙ ap (λ (es : List NodeEntry). es ++ reverse new) k.whole ∙ sym (reverse-append new h);
      carried = subst (λ (ls : List Line). LinesCarry ls (k.parts ++ reverse new ∷ []) first now) (sym mapped)
          (lines_more lines k.parts (step_line step) (reverse new) first before now k.carried carries);
    }

-- ---- the beginning and the end

-- nothing was run
pub none_carried : (s : Script) (told : Told) → HasCarriedSofar s s.commands [] told told
none_carried s told = record { done = []; parts = []; steps = refl; each = tt; whole = refl; carried = refl }

pub carried_first : (s : Script) (e : Engine) (unmet : Option ℕ) (told : Told) → HasCome ByTime s s.commands [] e unmet → TellsCarried s s.commands e told told
carried_first s e unmet told come = ([], running_tells (declared_of s.decls.list) come.attached [] e come.running, none_carried s told)

-- all commands were run
pub all_carried : (s : Script) (h : List NodeEntry) (first now : Told) → HasCarriedSofar s [] h first now → HasCarried s h first now
unfolding steps_from
all_carried s h first now k =
    let done : k.done ≡ steps_of s.commands = sym (k.steps ∙ append-nil k.done) in
    record {
      parts = k.parts;
      each = subst (λ (ss : List Step). EachGives ByTime (streams_of s.decls.list) (λ t. false) (map step_line ss) k.parts) done k.each;
      whole = sym (reverse-reverse h) ∙ ap (λ (xs : List NodeEntry). reverse xs) (sym k.whole);
      carried = subst (λ (ss : List Step). LinesCarry (map step_line ss) k.parts first now) done k.carried;
    }

-- the engine tells one history
pub told_carried : (s : Script) (rest : List Numbered) (h : List NodeEntry) (e : Engine) (first now : Told) → Tells (declared_of s.decls.list) h e → TellsCarried s rest e first now → HasCarriedSofar s rest h first now
told_carried s rest h e first now tells (g, also, carried) =
    subst (λ (xs : List NodeEntry). HasCarriedSofar s rest xs first now) (tells_story (declared_of s.decls.list) g e also ∙ sym (tells_story (declared_of s.decls.list) h e tells)) carried

-- the whole script was run, or the run stopped
pub run_carries : (s : Script) (h told : List NodeEntry) (first now : Told) (ended : Result Run Halt) (result : Status) → told ≡ h → UnendedCarries s h first now ended
    → IfErr ended (λ (halt : Halt). ¬ IsToEnd result) → IsToEnd result → HasCarried s told first now
run_carries s h told first now (Ok run) result same carried stops whole = subst (λ (xs : List NodeEntry). HasCarried s xs first now) (sym same) (all_carried s h first now carried)
run_carries s h told first now (Err halt) result same carried stops whole = absurd (stops whole)

-- ---- a step

module _ (s : Script) (c : Numbered) (cs : List Numbered) (h : List NodeEntry) (e : Engine) (unmet : Option ℕ) (k : HasCome ByTime s (c ∷ cs) h e unmet) where
  abbrev d : Declared
  d = declared_of s.decls.list

  -- ---- a command alone

  module _ (alone_now : is_phase c.1 ≡ false) (f : Engine) (before now : Told) where
    gave_alone : (new : List NodeEntry) → Tells d (new ++ h) f → LineGives ByTime (filter k.attached (streams_of s.decls.list)) (line_of c.1) (reverse new) → LineCarries (line_of c.1) (reverse new) before now
        → StepCarries s (c ∷ cs) h f before now (Ok 0)
    gave_alone new tells gave carries = λ first sofar.
        (new ++ h, tells, carried_more s (c ∷ cs) cs k.attached k.last h new unmet (Alone c) first before now k.given (step_alone c cs alone_now).0 gave carries sofar)

    pub alone_carries : (P : ℕ → Type 0) (stop : Result Stop NoMemory) (r : Result (Unit {0}) Halt) → StepsSo ByTime P (line_of c.1) d k.attached h f stop
        → CommandCarries c.1 before now d k.attached h f stop → IsWent stop r → r ≡ Ok tt → StepCarries s (c ∷ cs) h f before now (Ok 0)
    alone_carries P stop r ends carries is done =
        let went : stop ≡ Ok stops.Went = went_is stop (subst (λ (x : Result (Unit {0}) Halt). IsWent stop x) done is) in
        let all = subst (λ (x : Result Stop NoMemory). StepsSo ByTime P (line_of c.1) d k.attached h f x) went ends in
        gave_alone all.0 (running_tells d (attached_after (line_of c.1) k.attached) (all.0 ++ h) f all.1) all.2
        (command_carries c.1 before now d k.attached h all.0 f all.1 (subst (λ (x : Result Stop NoMemory). CommandCarries c.1 before now d k.attached h f x) went carries))

    -- an expectation
    pub expect_carries : (want : Want) (left : Option ℕ) → c.1 ≡ commands.Expect want → now ≡ before → HasCome ByTime s cs h f left → StepCarries s (c ∷ cs) h f before now (Ok 0)
    expect_carries want left is same come =
        gave_alone [] (running_tells d come.attached h f come.running)
        (subst (λ (x : Command). LineGives ByTime (filter k.attached (streams_of s.decls.list)) (line_of x) []) (sym is) refl)
        (subst (λ (x : Command). LineCarries (line_of x) [] before now) (sym is) same)

  -- ---- a phase

  module _ (phase_now : is_phase c.1 ≡ true) (n : ℕ) (at : n ≡ position_or_len (λ (x : Numbered). is_end x.1) cs) where
    pub phase_carries : (P : ℕ → Type 0) (f : Engine) (before now : Told) (stop : Result Stop NoMemory) (r : Result (Unit {0}) Halt) → StepsSo ByTime P (Phase (jobs_of (take n cs))) d k.attached h f stop
        → PhaseCarries (λ (x : Declared) (g : List NodeEntry). KeepsRecords x g f) d h (take n cs) (held_of f) before now stop → IsWent stop r → r ≡ Ok tt → StepCarries s (c ∷ cs) h f before now (Ok (n + 1))
    phase_carries P f before now stop r ends carries is done =
        let went : stop ≡ Ok stops.Went = went_is stop (subst (λ (x : Result (Unit {0}) Halt). IsWent stop x) done is) in
        let all = subst (λ (x : Result Stop NoMemory). StepsSo ByTime P (Phase (jobs_of (take n cs))) d k.attached h f x) went ends in
        let (other, represents, carried) = subst (λ (x : Result Stop NoMemory). PhaseCarries (λ (x : Declared) (g : List NodeEntry). KeepsRecords x g f) d h (take n cs) (held_of f) before now x) went carries in
        let tells = running_tells d k.attached (all.0 ++ h) f all.1 in
        let same : all.0 ≡ other = append_cancel_right all.0 other h (tells_story d (all.0 ++ h) f tells ∙ sym (tells_story d (other ++ h) f (tells_so d h other f represents))) in
        let steps = (step_of_phase c cs n phase_now at k.whole).1 in
        let two : n + 1 + 1 ≡ suc (n + 1) = omega arith in
        λ first sofar.
        subst (λ (left : List Numbered). TellsCarried s left f first now) (sym (ap (λ (m : ℕ). drop m (c ∷ cs)) two)) (
          all.0 ++ h,
          tells,
          carried_more s (c ∷ cs) (drop (n + 1) cs) k.attached k.last h all.0 unmet (script.Phase (take n cs)) first before now k.given steps all.2
              (subst (λ (es : List NodeEntry). JobsCarryBeside (jobs_of (take n cs)) (reverse es) before now) (sym same) carried) sofar,
        )

-- ---- a turn of the loop over the commands

pub carried_turn : (s : Script) (list : List Numbered) (first : Numbered) (at n : ℕ) (h : List NodeEntry) (e f : Engine) (unmet : Option ℕ) (r : Result ℕ Halt) (start before now : Told)
    → HasCome ByTime s (drop at s.commands) h e unmet → list ≡ s.commands → at < length list → first ≡ get_or list at first → r ≡ Ok n
    → ((g : List NodeEntry) → HasCome ByTime s (first ∷ take (length list - (at + 1)) (drop (at + 1) list)) g e unmet → StepCarries s (first ∷ take (length list - (at + 1)) (drop (at + 1) list)) g f before now r)
    → TellsCarried s (drop at s.commands) e start before → TellsCarried s (drop (at + (n + 1)) s.commands) f start now
carried_turn s list first at n h e f unmet r start before now come same lt is went carries sofar =
    let rest : List Numbered = first ∷ take (length list - (at + 1)) (drop (at + 1) list) in
    let rest_is : drop at s.commands ≡ rest = rest_at s.commands list first at same lt is in
    let tells = running_tells (declared_of s.decls.list) come.attached h e come.running in
    let step = subst (λ (x : Result ℕ Halt). StepCarries s rest h f before now x) went (carries h (subst (λ (xs : List Numbered). HasCome ByTime s xs h e unmet) rest_is come)) in
    let more = step start (subst (λ (xs : List Numbered). HasCarriedSofar s xs h start before) rest_is (told_carried s (drop at s.commands) h e start before tells sofar)) in
    subst (λ (xs : List Numbered). TellsCarried s xs f start now)
    (ap (λ (xs : List Numbered). drop (n + 1) xs) (sym rest_is) ∙ drop-drop (n + 1) at s.commands ∙ ap (λ (i : ℕ). drop i s.commands) (omega arith)) more

-- all commands were run
pub carried_last : (s : Script) (at : ℕ) (e : Engine) (start now : Told) → length s.commands ≤ at → TellsCarried s (drop at s.commands) e start now → TellsCarried s [] e start now
carried_last s at e start now past sofar = subst (λ (rest : List Numbered). TellsCarried s rest e start now) (drop_all at s.commands past) sofar
