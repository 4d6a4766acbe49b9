-- A command that stands outside a phase gives the same in whichever order the entries of phases come.
use Rattle.std.proofs.Common.{◌≡◌, ℕ, ◌<◌, ◌++◌, List, [], ◌∷◌, refl, sym, subst, get_or, reverse, zero, suc, Result, Ok, Err, arith}
use Rattle.std.specs.Prelude.{All, AllPairs, Bool}
use Rattle.pr_crew.specs.Phases.{IsStopCause, is_went}
use Rattle.pr_crew.specs.Tasks.{first_stop}
use Rattle.pr_flow.specs.declared.stop.Stop.{Stop}
use Rattle.pr_flow.specs.declared.stop.Stop.TheVariants as stops
use Rattle.pr_stamps.specs.declared.no_memory.NoMemory.{NoMemory}
use Rattle.pr_script.specs.declared.command.Command.{Command}
use Rattle.pr_script.specs.declared.command.Command.TheVariants as commands
use Rattle.pr_flow.specs.Downs.{IsLieAt}
use Rattle.pr_sim.specs.Commands.{StepEnds, attached_of}
use Rattle.pr_sim.specs.declared.engine.Engine.{Engine}
use Rattle.pr_story.specs.Counts.{Declared}
use Rattle.pr_story.specs.History.{NodeEntry}
use Rattle.pr_story.specs.Phases.{IsPhaseAs, LineBeginsAs}
use Rattle.pr_story.specs.Scripts.{ByTime, Detach, Expect, Flow, IsPhase, Job, JobAfterJob, JobBegins, JobEntry, JobGives, Line, LineBegins, LineGives, Order, Phase, Precedes, Settle, Single}
use Rattle.pr_text.specs.Steps.{line_of}
use Rattle.pr_top.specs.Stopping.{IsCutOff, StepsSo}

-- the line has no job
abbrev pub IsSingle : Line → Type 0
IsSingle (Phase jobs) = jobs ≡ []
IsSingle _ = Unit {0}

lines_single : (c : Command) → IsSingle (line_of c)
lines_single commands.Phase = refl
lines_single commands.End = refl
lines_single _ = tt

-- ---- a phase of no jobs

none_made : (xs : List JobEntry) → All (λ (x : JobEntry). x.job < 0) xs → xs ≡ []
none_made [] all = refl
none_made (x ∷ xs) all = let less : x.job < 0 = all 0 x (omega arith) in absurd (omega (arith, less))

pairs_none : (order : Order) (xs : List JobEntry) → xs ≡ [] → AllPairs (Precedes order) xs
pairs_none order xs none = subst (λ (ys : List JobEntry). AllPairs (Precedes order) ys) (sym none) (λ i j d less within. absurd (omega (arith, less, within)))

empty_gives : (order : Order) (jobs : List Job) (es : List NodeEntry) → jobs ≡ [] → IsPhase JobGives JobAfterJob jobs es → IsPhase JobGives order jobs es
empty_gives order [] es none p = (p.0, p.1, p.2, pairs_none order p.0 (none_made p.0 p.2))
empty_gives order (job ∷ jobs) es none p = absurd (cc)

empty_begins : (whole : ℕ → Bool) (order : Order) (jobs : List Job) (es : List NodeEntry) → jobs ≡ [] → IsPhase JobBegins JobAfterJob jobs es → IsPhaseAs whole order jobs es
empty_begins whole order [] es none p = (p.0, p.1, p.2, pairs_none order p.0 (none_made p.0 p.2))
empty_begins whole order (job ∷ jobs) es none p = absurd (cc)

-- ---- a line of no job

gives_so : (order : Order) (streams : List ℕ) (line : Line) (es : List NodeEntry) → IsSingle line → LineGives JobAfterJob streams line es → LineGives order streams line es
gives_so order streams (Phase jobs) es single gives = empty_gives order jobs es single gives
gives_so order streams (Single command) es single gives = gives
gives_so order streams Expect es single gives = gives
gives_so order streams (Detach s) es single gives = gives
gives_so order streams (Flow s turns) es single gives = gives
gives_so order streams Settle es single gives = gives

begins_so : (whole : ℕ → Bool) (order : Order) (streams : List ℕ) (line : Line) (es : List NodeEntry) → IsSingle line → LineBegins JobAfterJob streams line es → LineBeginsAs whole order streams line es
begins_so whole order streams (Phase jobs) es single begins = empty_begins whole order jobs es single begins
begins_so whole order streams (Single command) es single begins = begins
begins_so whole order streams Expect es single begins = begins
begins_so whole order streams (Detach s) es single begins = begins
begins_so whole order streams (Flow s turns) es single begins = begins
begins_so whole order streams Settle es single begins = begins

begins_in : (order : Order) (streams : List ℕ) (line : Line) (es : List NodeEntry) → IsSingle line → LineBegins JobAfterJob streams line es → LineBegins order streams line es
begins_in order streams (Phase []) es single p = (p.0, p.1, p.2, pairs_none order p.0 (none_made p.0 p.2))
begins_in order streams (Phase (job ∷ jobs)) es single p = absurd (cc)
begins_in order streams (Single command) es single begins = begins
begins_in order streams Expect es single begins = begins
begins_in order streams (Detach s) es single begins = begins
begins_in order streams (Flow s turns) es single begins = begins
begins_in order streams Settle es single begins = begins

one : (P : Result Stop NoMemory → Type 0) (stop : Result Stop NoMemory) → P stop → All P (stop ∷ [])
one P stop p zero d lt = p
one P stop p (suc i) d lt = absurd (omega (arith, lt))

cut_so : (order : Order) (streams : List ℕ) (line : Line) (h new : List NodeEntry) (stop : Result Stop NoMemory) → IsSingle line → stop ≡ first_stop (stop ∷ []) → LineBegins JobAfterJob streams line (reverse new)
    → IsStopCause (new ++ h) stop → IsCutOff order streams line h new stop
cut_so JobAfterJob streams line h new stop single first begins cause = (begins, cause)
cut_so ByTime streams line h new stop single first begins cause = record {
  each = stop ∷ [];
  first = first;
  causes = one (IsStopCause (new ++ h)) stop cause;
  begun = begins_so (λ k. is_went (get_or (stop ∷ []) k (Ok stops.Went))) ByTime streams line (reverse new) single begins;
}

-- ---- a command

pub single_steps : (order : Order) (P : ℕ → Type 0) (c : Command) (d : Declared) (attached : ℕ → Bool) (h : List NodeEntry) (f : Engine) (stop : Result Stop NoMemory)
    → IsLieAt P stop → StepEnds (line_of c) d attached h f stop → StepsSo order P (line_of c) d attached h f stop
single_steps order P c d attached h f (Ok stops.Went) lied (new, running, gives) =
    (new, running, gives_so order (attached_of d attached) (line_of c) (reverse new) (lines_single c) gives)
single_steps order P c d attached h f (Ok (stops.Worn at)) lied (new, tells, begins, cause) =
    (new, tells, cut_so order (attached_of d attached) (line_of c) h new (Ok (stops.Worn at)) (lines_single c) refl begins cause)
single_steps order P c d attached h f (Ok (stops.Lied stream number sent got)) lied (new, tells, begins, lie) =
    (lied, (new, tells, cut_so order (attached_of d attached) (line_of c) h new (Ok (stops.Lied stream number sent got)) (lines_single c) refl begins lie))
single_steps order P c d attached h f (Err refused) lied (new, tells, begins, cause) =
    (new, tells, begins_in order (attached_of d attached) (line_of c) (reverse new) (lines_single c) begins)

-- ---- a phase in one thread

pub in_order_steps : (P : ℕ → Type 0) (line : Line) (d : Declared) (attached : ℕ → Bool) (h : List NodeEntry) (f : Engine) (stop : Result Stop NoMemory)
    → IsLieAt P stop → StepEnds line d attached h f stop → StepsSo JobAfterJob P line d attached h f stop
in_order_steps P line d attached h f (Ok stops.Went) lied ends = ends
in_order_steps P line d attached h f (Ok (stops.Worn at)) lied (new, tells, begins, cause) = (new, tells, (begins, cause))
in_order_steps P line d attached h f (Ok (stops.Lied stream number sent got)) lied (new, tells, begins, lie) = (lied, (new, tells, (begins, lie)))
in_order_steps P line d attached h f (Err refused) lied (new, tells, begins, cause) = (new, tells, begins)
