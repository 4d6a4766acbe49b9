-- A script that is run without its lines.
use Rattle.std.proofs.Common.{ℕ, ◌+◌, ◌≤◌, List, [], refl, ◌∙◌, ap, subst, drop, length, arith}
use Rattle.std.specs.Prelude.{None, Option}
use Rattle.std.proofs.lemmas.List.{drop-drop, drop_all}
use Rattle.pr_script.specs.declared.script.Script.{Script}
use Rattle.pr_script.specs.Steps.{Numbered}
use Rattle.pr_sim.specs.declared.engine.Engine.{Engine}
use Rattle.pr_story.specs.History.{NodeEntry}
use Rattle.pr_story.specs.Scripts.{JobAfterJob}
use Rattle.pr_top.specs.Runs.{all_sound}
use Rattle.pr_top.specs.Progress.{HasCome, HasStopped}
use Rattle.pr_top.specs.Silent.{HasStoppedSo}
use Rattle.pr_top.specs.declared.stepping.Halt.{Halt}
use Rattle.pr_top.specs.declared.stepping.Halt.TheVariants as halts
use Rattle.pr_top.proofs.Runs.{IsUnderWay, history_of, no_run, stop_here}

-- a run whose lines are not written
pub silently : (s : Script) (at : ℕ) (h : List NodeEntry) (e : Engine) (unmet : Option ℕ) → HasCome JobAfterJob s (drop at s.commands) h e unmet → IsUnderWay JobAfterJob all_sound s at (length h) e unmet None None
silently s at h e unmet come = record { h = h; come = come; all_told = refl; written = tt }

pub behind : (s : Script) (at n : ℕ) (h : List NodeEntry) (e : Engine) (unmet : Option ℕ) → HasCome JobAfterJob s (drop (n + 1) (drop at s.commands)) h e unmet → (g : List NodeEntry) × HasCome JobAfterJob s (drop (at + (n + 1)) s.commands) g e unmet
behind s at n h e unmet come =
    (h, subst (λ (rest : List Numbered). HasCome JobAfterJob s rest h e unmet) (drop-drop (n + 1) at s.commands ∙ ap (λ (i : ℕ). drop i s.commands) (omega arith)) come)

pub all_run : (s : Script) (at : ℕ) (h : List NodeEntry) (e : Engine) (unmet : Option ℕ) → HasCome JobAfterJob s (drop at s.commands) h e unmet → length s.commands ≤ at → HasCome JobAfterJob s [] h e unmet
all_run s at h e unmet come past = subst (λ (rest : List Numbered). HasCome JobAfterJob s rest h e unmet) (drop_all at s.commands past) come

-- ---- where it stops

-- nothing was run
pub nothing_ran : (s : Script) → HasStoppedSo s halts.NoMemory
nothing_ran s = ([], record { valid = tt; declared = tt }, no_run JobAfterJob all_sound s, tt)

-- the run stopped
pub stopped_so : (s : Script) (e : Engine) (halt : Halt) → (h : List NodeEntry) × HasStopped JobAfterJob all_sound s h e halt → HasStoppedSo s halt
stopped_so s e halt (h, k) = (h, history_of JobAfterJob all_sound s h e halt k, k.begun, k.cause)

-- it may stop at its end
pub ended_stops : (s : Script) (e : Engine) (unmet : Option ℕ) → (h : List NodeEntry) × HasCome JobAfterJob s [] h e unmet → HasStoppedSo s halts.NoMemory
ended_stops s e unmet (h, k) = stopped_so s e halts.NoMemory (h, stop_here JobAfterJob all_sound s [] h e unmet k)
