-- Runs that stopped, with marks on the jobs of their last phase.
use Rattle.std.proofs.Common.{ℕ, ◌+◌, List, [], ◌∷◌, ◌++◌, inl, inr, sym, subst, filter, get_or, reverse, suc, Result, Ok, Err, arith}
use Rattle.std.specs.Prelude.{All, Bool, false}
use Rattle.pr_crew.specs.Phases.{IsStopCause, is_went}
use Rattle.pr_crew.specs.Tasks.{first_of_two, first_stop}
use Rattle.pr_flow.specs.declared.stop.Stop.{Stop}
use Rattle.pr_flow.specs.declared.stop.Stop.TheVariants as stops
use Rattle.pr_stamps.specs.declared.no_memory.NoMemory.{NoMemory}
use Rattle.pr_story.specs.History.{NodeEntry}
use Rattle.pr_story.specs.Phases.{AreBegunAs, EachJobAs, LineBeginsAs}
use Rattle.pr_story.specs.Scripts.{AreBegun, ByTime, Detach, EachJob, Expect, Flow, Job, JobAfterJob, JobBegins, JobEntry, Line, LineBegins, Order, Phase, Settle, Single, attached_after}
use Rattle.pr_story.proofs.Phases.{marked_phases}
use Rattle.pr_top.specs.Stopping.{IsCutOff}

-- ---- no job is known to be whole

abbrev pub unmarked : ℕ → Bool
unmarked k = false

jobs_unmarked : (jobs : List Job) (k : ℕ) (xs : List JobEntry) → EachJob JobBegins jobs k xs → EachJobAs unmarked jobs k xs
jobs_unmarked [] k xs each = each
jobs_unmarked (job ∷ jobs) k xs each = (each.0, jobs_unmarked jobs (k + 1) xs each.1)

pub line_unmarked : (order : Order) (attached : List ℕ) (line : Line) (es : List NodeEntry) → LineBegins order attached line es → LineBeginsAs unmarked order attached line es
line_unmarked order attached (Phase jobs) es b = (b.0, b.1, jobs_unmarked jobs 0 b.0 b.2, b.3)
line_unmarked order attached (Single command) es b = b
line_unmarked order attached Expect es b = b
line_unmarked order attached (Detach s) es b = b
line_unmarked order attached (Flow s turns) es b = b
line_unmarked order attached Settle es b = b

pub lines_unmarked : (order : Order) (streams : List ℕ) (attached : ℕ → Bool) (lines : List Line) (es : List NodeEntry) → AreBegun order streams attached lines es → AreBegunAs unmarked order streams attached lines es
lines_unmarked order streams attached [] es b = b
lines_unmarked order streams attached (line ∷ lines) es b = elim b [
  | inl here ↦ inl (line_unmarked order (filter attached streams) line es here)
  | inr later ↦ inr (later.0, later.1, later.2, later.3, lines_unmarked order streams (attached_after line attached) lines later.1 later.4)
]

-- ---- a line that was cut off

line_begun : (whole : ℕ → Bool) (order : Order) (attached : List ℕ) (line : Line) (es : List NodeEntry) → LineBeginsAs whole order attached line es → LineBegins order attached line es
line_begun whole order attached (Phase jobs) es b = marked_phases.begun whole order jobs es b
line_begun whole order attached (Single command) es b = b
line_begun whole order attached Expect es b = b
line_begun whole order attached (Detach s) es b = b
line_begun whole order attached (Flow s turns) es b = b
line_begun whole order attached Settle es b = b

-- what holds of each stop holds of the first one
first_has : (P : Result Stop NoMemory → Type 0) (each : List (Result Stop NoMemory)) → P (Ok stops.Went) → All P each → P (first_stop each)
first_has P [] went all = went
first_has P (stop ∷ each) went all = by stop (all 0 stop (omega arith)) (first_has P each went (λ i d lt. all (suc i) d (omega arith)))
  where
    by : (x : Result Stop NoMemory) → P x → P (first_stop each) → P (first_of_two x (first_stop each))
    by (Ok stops.Went) here later = later
    by (Ok (stops.Worn at)) here later = here
    by (Ok (stops.Lied stream number sent got)) here later = here
    by (Err refused) here later = here

pub cut_begins : (order : Order) (streams : List ℕ) (line : Line) (h new : List NodeEntry) (stop : Result Stop NoMemory) → IsCutOff order streams line h new stop → LineBegins order streams line (reverse new)
cut_begins JobAfterJob streams line h new stop cut = cut.0
cut_begins ByTime streams line h new stop cut = line_begun (λ k. is_went (get_or cut.each k (Ok stops.Went))) ByTime streams line (reverse new) cut.begun

pub cut_cause : (order : Order) (streams : List ℕ) (line : Line) (h new : List NodeEntry) (stop : Result Stop NoMemory) → IsCutOff order streams line h new stop → IsStopCause (new ++ h) stop
cut_cause JobAfterJob streams line h new stop cut = cut.1
cut_cause ByTime streams line h new stop cut = subst (λ (x : Result Stop NoMemory). IsStopCause (new ++ h) x) (sym cut.first) (first_has (IsStopCause (new ++ h)) cut.each tt cut.causes)
