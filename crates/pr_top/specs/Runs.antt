-- What the top call leaves, by its status.
use Rattle.std.specs.Prelude.{◌≡◌, ◌⊎◌, ◌≤◌, ◌++◌, ℕ, List, All, Bool, true, Option, Some, None, Result, Ok, get_or, take, length, codes}
use Rattle.std.specs.Io.KnownBytes.{Appends}
use Rattle.pr_crew.specs.Phases.{IsStopCause, is_went}
use Rattle.pr_crew.specs.Tasks.{first_stop}
use Rattle.pr_flow.specs.Lies.{IsLied}
use Rattle.pr_flow.specs.declared.stop.Stop.{Stop}
use Rattle.pr_flow.specs.declared.stop.Stop.TheVariants as stops
use Rattle.pr_stamps.specs.declared.no_memory.NoMemory.{NoMemory}
use Rattle.pr_script.specs.declared.script.Script.{Script}
use Rattle.pr_story.specs.History.{NodeEntry}
use Rattle.pr_story.specs.Scripts.{ByTime, JobAfterJob, Order}
use Rattle.pr_text.specs.Endings.{error_line, lied_cause, unmet_line}
use Rattle.pr_text.specs.Heads.{heads_text}
use Rattle.pr_text.specs.Histories.{HasBegun, HasBegunAs, IsHistoryOf, IsRunOf, transcript_text}
use Rattle.pr_text.specs.Numbers.{counts_of}
use Rattle.pr_text.specs.Transcripts.{lines_text, plan_of}
use Rattle.pr_top.specs.Downs.{HasTrueDowns, IsUnsoundIn}
use Rattle.pr_top.specs.Headline.{Headline}
use Rattle.pr_top.specs.declared.status.Status.{Status}
use Rattle.pr_top.specs.declared.status.Status.TheVariants as status

-- ---- the status of a run

-- each connection is sound
abbrev pub all_sound : ℕ → Bool
all_sound k = true

-- jobs ran beside each other at the run's end, and each ended so, for its cause: those that went their way gave all that
-- is theirs, and the first that did not is the one that the status tells
pub record HasStoppedJobs (s : Script) (h : List NodeEntry) (stop : Result Stop NoMemory) : Type 0 where
  pub each : List (Result Stop NoMemory)
  pub first : stop ≡ first_stop each
  pub causes : All (IsStopCause h) each
  pub begun : HasBegunAs (λ k. is_went (get_or each k (Ok stops.Went))) ByTime s h

-- the same, where it is so that jobs run
abbrev pub StopsJobs : Order → Script → List NodeEntry → Result Stop NoMemory → Type 0
StopsJobs JobAfterJob s h stop = Unit {0}
StopsJobs ByTime s h stop = HasStoppedJobs s h stop

-- why the run ended at some place: behind that many entries a node is worn; or a flow of the stream has a connection
-- that is not sound, and for the stream's last message other bytes came than were put
abbrev pub IsWorn : Order → Script → List NodeEntry → ℕ → Type 0
IsWorn order s h at = (at ≡ 4611686018427387903) × (4611686018427387903 ≤ length h) × StopsJobs order s h (Ok (stops.Worn at))

abbrev pub IsLie : Order → (ℕ → Bool) → Script → List NodeEntry → ℕ → ℕ → List ℕ → List ℕ → Type 0
IsLie order sound s h stream number sent got =
    IsUnsoundIn sound s stream × IsLied h stream number sent got × StopsJobs order s h (Ok (stops.Lied stream number sent got))

-- what the status says of the history, with phases in this order: the whole script was run, with this line's expectation
-- the first that was not met; or the run ended at some place
abbrev pub IsEnd : Order → (ℕ → Bool) → Status → Script → List NodeEntry → Type 0
IsEnd order sound status.Ok s h = IsRunOf order s h None
IsEnd order sound (status.Unmet line) s h = IsRunOf order s h (Some line)
IsEnd order sound (status.Worn at) s h = HasBegun order s h × IsWorn order s h at
IsEnd order sound (status.Lied stream number sent got) s h = HasBegun order s h × IsLie order sound s h stream number sent got
IsEnd order sound status.WriteFault s h = HasBegun order s h
IsEnd order sound status.NoMemory s h = HasBegun order s h
IsEnd order sound _ s h = ⊥

-- the whole script was run
abbrev pub IsToEnd : Status → Type 0
IsToEnd status.Ok = Unit {0}
IsToEnd (status.Unmet line) = Unit {0}
IsToEnd _ = ⊥

-- ---- what is written

-- the line, which is left out or cut short only where the sink failed
abbrev pub IsLine : Type 0 → List ℕ → List ℕ → Type 0
IsLine failed line text = (text ≡ line) ⊎ (failed × ((n : ℕ) × (text ≡ take n line)))

-- the line alone is written
abbrev pub WritesLine : Type 0 → List ℕ → Option (List ℕ) → Option (List ℕ) → Type 0
WritesLine failed line before now = (text : List ℕ) × IsLine failed line text × Appends before now text

-- the head lines and the lines of the history
abbrev pub told_text : Script → List NodeEntry → List ℕ
told_text s h = heads_text s.decls.list ++ lines_text s.decls.list h

-- what is written with this status
abbrev pub IsWritten : Order → Status → Type 0 → Script → List NodeEntry → List ℕ → Type 0
IsWritten order status.Ok failed s h text = text ≡ transcript_text s.decls.list h
IsWritten order (status.Unmet line) failed s h text =
    (last : List ℕ) × IsLine failed (unmet_line line) last × (text ≡ transcript_text s.decls.list h ++ last)
IsWritten order (status.Worn at) failed s h text =
    (last : List ℕ) × IsLine failed (error_line (codes "worn")) last × (text ≡ told_text s h ++ last)
IsWritten order (status.Lied stream number sent got) failed s h text =
    (last : List ℕ) × IsLine failed (error_line (lied_cause s.decls.list stream number sent got)) last × (text ≡ told_text s h ++ last)
IsWritten order status.NoMemory failed s h text =
    (last : List ℕ) × IsLine failed (error_line (codes "no memory")) last × ((n : ℕ) × (text ≡ take n (told_text s h) ++ last))
IsWritten order status.WriteFault failed s h text =
    failed × ((n : ℕ) × ((text ≡ take n (told_text s h)) ⊎ (IsHistoryOf order s h × (text ≡ take n (transcript_text s.decls.list h)))))
IsWritten order _ failed s h text = ⊥

-- the script was run: its history, with phases in this order, is as promised, each flow that went down did so for its
-- cause, and it is told up to where the status says
pub record HasRun (order : Order) (sound : ℕ → Bool) (result : Status) (s : Script) (failed : Type 0) (before now : Option (List ℕ)) : Type 0 where
  pub h : List NodeEntry
  pub headline : Headline (plan_of s.decls.list) (counts_of s.decls.list) h
  pub ends : IsEnd order sound result s h
  pub downs : HasTrueDowns sound s h
  pub text : List ℕ
  pub written : IsWritten order result failed s h text
  pub told : Appends before now text

-- the same, with this history
abbrev pub HasRunTo : Order → (ℕ → Bool) → Status → Script → List NodeEntry → Type 0 → Option (List ℕ) → Option (List ℕ) → Type 0
HasRunTo order sound result s h failed before now = (run : HasRun order sound result s failed before now) × (run.h ≡ h)
