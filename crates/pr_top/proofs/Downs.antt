-- For what cause a run says that flows went down, and over which connections its flows go.
use Rattle.std.proofs.Common.{◌≡◌, ◌∙◌, ◌+◌, ℕ, List, [], ◌∷◌, ◌++◌, Result, Ok, ap, drop, length, refl, sym, subst, take}
use Rattle.std.specs.Prelude.{Bool, true, false, Option, map}
use Rattle.std.specs.List.{flat_map, position_or_len}
use Rattle.std.proofs.lemmas.List.{append-nil}
use Rattle.pr_crew.specs.Sound as crew
use Rattle.pr_flow.specs.Downs.{GoesOver, IsLieAt, IsUnsoundFor, flows_of}
use Rattle.pr_flow.specs.declared.stop.Stop.{Stop}
use Rattle.pr_flow.proofs.Downs.{downs_both, downs_more, lie_more, next_here, none_unsound, unsound_more}
use Rattle.pr_merge.specs.Holding.{HeldState}
use Rattle.pr_node.specs.Stored.{Stored}
use Rattle.pr_script.specs.declared.script.Script.{Script}
use Rattle.pr_script.specs.Steps.{AreWhole, Numbered, Step, is_end, is_phase}
use Rattle.pr_script.proofs.Stepping.{step_alone, step_of_phase}
use Rattle.pr_sim.specs.Holding.{KeepsRecords, held_of}
use Rattle.pr_sim.specs.Making.{declared_of}
use Rattle.pr_sim.specs.Running.{Tells}
use Rattle.pr_sim.specs.Sound.{AddsDownsOf}
use Rattle.pr_sim.specs.declared.engine.Engine.{Engine}
use Rattle.pr_sim.proofs.Story.{running_tells, tells_story}
use Rattle.pr_stamps.specs.declared.no_memory.NoMemory.{NoMemory}
use Rattle.pr_story.specs.Counts.{Declared}
use Rattle.pr_story.specs.History.{NodeEntry}
use Rattle.pr_story.specs.Scripts.{Order, Phase}
use Rattle.pr_text.specs.Steps.{jobs_of, line_of, step_line}
use Rattle.pr_top.specs.Downs.{AddsTrueDowns, HasTrueDowns, IsUnsoundIn, IsWithin, TellsTrueDowns, flows_in}
use Rattle.pr_top.specs.Progress.{HasCome}
use Rattle.pr_top.specs.Runs.{all_sound}
use Rattle.pr_top.specs.Stopping.{IsWent}
use Rattle.pr_top.specs.declared.stepping.Halt.{Halt}
use Rattle.pr_top.proofs.Steps.{went_is}
use Rattle.pr_top.proofs.Threads.{tells_so}

-- the engine tells one history
pub downs_of : (sound : ℕ → Bool) (s : Script) (h : List NodeEntry) (e : Engine) → Tells (declared_of s.decls.list) h e → TellsTrueDowns sound s e → HasTrueDowns sound s h
downs_of sound s h e tells told =
    let d = declared_of s.decls.list in
    subst (λ (l : List NodeEntry). HasTrueDowns sound s l) (tells_story d told.0 e told.1 ∙ sym (tells_story d h e tells)) told.2

-- a phase whose jobs ran beside each other added such entries
pub threads_add : (P : ℕ → Type 0) (d : Declared) (h : List NodeEntry) (f : Engine) → crew.AddsDownsOf P (λ (c : Declared) (g : List NodeEntry). KeepsRecords c g f) d h (held_of f) → AddsDownsOf P d h f
threads_add P d h f added = (added.0, tells_so d h added.0 f added.1, added.2)

pub adds_for : (P Q : ℕ → Type 0) → ((x : ℕ) → P x → Q x) → (d : Declared) (h : List NodeEntry) (f : Engine) → AddsDownsOf P d h f → AddsDownsOf Q d h f
adds_for P Q more d h f added = (added.0, added.1, downs_more P Q more added.0 added.2)

pub crew_adds : (P Q : ℕ → Type 0) → ((x : ℕ) → P x → Q x) → (records : Declared → List NodeEntry → Type 0) (d : Declared) (h : List NodeEntry) (held : HeldState Stored) → crew.AddsDownsOf P records d h held → crew.AddsDownsOf Q records d h held
crew_adds P Q more records d h held added = (added.0, added.1, downs_more P Q more added.0 added.2)

module _ (order : Order) (s : Script) where
  -- what the engine tells of a run that has come so far
  come_tells : (rest : List Numbered) (h : List NodeEntry) (e : Engine) (unmet : Option ℕ) → HasCome order s rest h e unmet → Tells (declared_of s.decls.list) h e
  come_tells rest h e unmet come = running_tells (declared_of s.decls.list) come.attached h e come.running

  -- nothing was run
  pub first_downs : (sound : ℕ → Bool) (e : Engine) (unmet : Option ℕ) → HasCome order s s.commands [] e unmet → TellsTrueDowns sound s e
  first_downs sound e unmet come = ([], come_tells s.commands [] e unmet come, tt)

  -- nothing was added
  pub same_downs : (sound : ℕ → Bool) (rest : List Numbered) (h : List NodeEntry) (e : Engine) (unmet : Option ℕ) → HasCome order s rest h e unmet → AddsTrueDowns sound s h e
  same_downs sound rest h e unmet come = ([], come_tells rest h e unmet come, tt)

  -- a step more was run, over connections of which the same are sound
  pub next_downs : (sound now : ℕ → Bool) (at : ℕ) (rest : List Numbered) (h : List NodeEntry) (e f : Engine) (unmet : Option ℕ) → now ≡ sound → HasCome order s (drop at s.commands) h e unmet → drop at s.commands ≡ rest
      → ((g : List NodeEntry) → HasCome order s rest g e unmet → AddsTrueDowns now s g f) → TellsTrueDowns sound s e → TellsTrueDowns sound s f
  next_downs sound now at rest h e f unmet same come rest_is adds told =
      let added = subst (λ (b : ℕ → Bool). AddsTrueDowns b s h f) same (adds h (subst (λ (xs : List Numbered). HasCome order s xs h e unmet) rest_is come)) in
      (added.0 ++ h, added.1, downs_both (λ x. IsUnsoundIn sound s x) added.0 h added.2 (downs_of sound s h e (come_tells (drop at s.commands) h e unmet come) told))

-- ---- the flows of the commands that are left

-- a command alone, and then those behind it
pub flows_alone : (c : Numbered) (cs : List Numbered) → is_phase c.1 ≡ false → flows_in (c ∷ cs) ≡ flows_of (line_of c.1) ++ flows_in cs
flows_alone c cs alone = ap (λ (steps : List Step). flat_map flows_of (map step_line steps)) (step_alone c cs alone).0

-- a phase, and then those behind its end
pub flows_phase : (c : Numbered) (cs : List Numbered) (n : ℕ) → is_phase c.1 ≡ true → n ≡ position_or_len (λ (x : Numbered). is_end x.1) cs → AreWhole (c ∷ cs)
    → flows_in (c ∷ cs) ≡ flows_of (Phase (jobs_of (take n cs))) ++ flows_in (drop (n + 1) cs)
flows_phase c cs n phase at whole = ap (λ (steps : List Step). flat_map flows_of (map step_line steps)) (step_of_phase c cs n phase at whole).1

-- before the first command
pub within_first : (sound : ℕ → Bool) (made : ℕ) (s : Script) → made ≡ 0 → IsWithin sound made s.commands s
within_first sound made s none x at = subst (λ (n : ℕ). IsUnsoundFor sound n (flows_in s.commands) x) none at

-- sound connections
pub within_sound : (made : ℕ) (rest : List Numbered) (s : Script) → IsWithin all_sound made rest s
within_sound made rest s x at = absurd (none_unsound all_sound (λ k. refl) made (flows_in rest) x at)

module _ (sound : ℕ → Bool) (made : ℕ) (rest next : List Numbered) (fs : List ℕ) (s : Script) (within : IsWithin sound made rest s) (is : flows_in rest ≡ fs ++ flows_in next) where
  -- the next flows are some of those that are left
  pub within_now : (x : ℕ) → IsUnsoundFor sound made fs x → IsUnsoundIn sound s x
  within_now x at = within x (subst (λ (l : List ℕ). IsUnsoundFor sound made l x) (sym is) (unsound_more sound made fs (flows_in next) x at))

  -- and the others are still left behind them
  pub within_next : (now : ℕ → Bool) (then : ℕ) → now ≡ sound → then ≡ made + length fs → IsWithin now then next s
  within_next now then same many x at =
      let left : flows_in rest ≡ fs ++ (flows_in next ++ []) = is ∙ ap (λ (l : List ℕ). fs ++ l) (sym (append-nil (flows_in next))) in
      subst (λ (f : ℕ → Bool). IsUnsoundIn f s x) (sym same) (within x (next_here sound now made then fs (flows_in next) [] (flows_in rest) same left many x at))

-- over connections of which the same are sound
pub within_over : (now sound : ℕ → Bool) (made : ℕ) (rest : List Numbered) (s : Script) → now ≡ sound → IsWithin sound made rest s → IsWithin now made rest s
within_over now sound made rest s same within = subst (λ (f : ℕ → Bool). IsWithin f made rest s) (sym same) within

-- where it went its way, each flow had a connection
pub made_went : {W : Type 0} (made_of : W → ℕ) (sound : W → ℕ → Bool) (fs : List ℕ) (a b : W) (stop : Result Stop NoMemory) (r : Result (Unit {0}) Halt) → GoesOver made_of sound fs a b stop → IsWent stop r → r ≡ Ok tt → made_of b ≡ made_of a + length fs
made_went made_of sound fs a b stop r goes is done = goes.each_made (went_is stop (subst (λ (x : Result (Unit {0}) Halt). IsWent stop x) done is))

-- in one thread each step goes over connections of its own, which are all sound
pub sound_lie : (made : ℕ) (fs : List ℕ) (Q : ℕ → Type 0) (stop : Result Stop NoMemory) → IsLieAt (λ x. IsUnsoundFor all_sound made fs x) stop → IsLieAt Q stop
sound_lie made fs Q stop lie = lie_more (λ x. IsUnsoundFor all_sound made fs x) Q (λ x at. absurd (none_unsound all_sound (λ k. refl) made fs x at)) stop lie

pub sound_adds_for : (made : ℕ) (fs : List ℕ) (Q : ℕ → Type 0) (d : Declared) (h : List NodeEntry) (f : Engine) → AddsDownsOf (λ x. IsUnsoundFor all_sound made fs x) d h f → AddsDownsOf Q d h f
sound_adds_for made fs Q d h f added = adds_for (λ x. IsUnsoundFor all_sound made fs x) Q (λ x at. absurd (none_unsound all_sound (λ k. refl) made fs x at)) d h f added
