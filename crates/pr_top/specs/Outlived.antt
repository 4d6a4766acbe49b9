-- What comes of a run that is kept on a disk, where the disk may stop (docs/KEPT.md).
use Rattle.std.specs.Prelude.{◌≡◌, ◌⊎◌, ◌≤◌, ◌<◌, ◌+◌, ◌*◌, ◌++◌, ℕ, List, [], ◌∷◌, Option, None, Some, codes, length, reverse, take}
use Rattle.std.specs.Io.KnownBytes.{Appends}
use Rattle.pr_node.specs.Calls.{IsStateEvent}
use Rattle.pr_script.specs.declared.script.Script.{Script}
use Rattle.pr_story.specs.History.{NodeEntry}
use Rattle.pr_story.specs.Scripts.{JobAfterJob}
use Rattle.pr_text.specs.Endings.{error_line, unmet_line}
use Rattle.pr_text.specs.Histories.{transcript_text}
use Rattle.pr_text.specs.Numbers.{counts_of, nodes_of}
use Rattle.pr_text.specs.Transcripts.{plan_of}
use Rattle.pr_top.specs.Headline.{Headline}
use Rattle.pr_top.specs.Kept.{IsStoppedIn}
use Rattle.pr_top.specs.Progress.{IsHistoryOver}
use Rattle.pr_top.specs.Runs.{HasRun, IsLine, all_sound, told_text}
use Rattle.pr_top.specs.declared.status.Status.{Status}
use Rattle.pr_top.specs.declared.status.Status.TheVariants as status

-- the run came to its end, or its sink failed or memory ran out, behind no more entries than so many calls keep
abbrev pub HasRunWithin : ℕ → Status → Script → Type 0 → Option (List ℕ) → Option (List ℕ) → Type 0
HasRunWithin stop result s failed before now = (run : HasRun JobAfterJob all_sound result s failed before now) × (2 + 4 * length run.h ≤ stop)

-- ---- what a disk held where it stopped

-- of what the script's run made, newest first, these entries were kept: the oldest, as many as so many calls keep, four for
-- each behind the two that made the file; and this is the line of the first expectation that was not met
pub record IsHeld (stop : ℕ) (s : Script) (kept : List NodeEntry) (unmet : Option ℕ) : Type 0 where
  pub made : List NodeEntry
  pub stopped : IsStoppedIn s kept made unmet
  pub is : IsHistoryOver all_sound s made
  pub more : ℕ
  pub few : more < 4
  pub calls : 2 + 4 * length kept + more ≡ stop

-- the state of each node from this number on, one entry each, in their order
abbrev pub AreStates : ℕ → List NodeEntry → Type 0
AreStates n [] = Unit {0}
AreStates n (e ∷ es) = (e.node ≡ n) × IsStateEvent e.entry.event × AreStates (n + 1) es

-- ---- what is told of it

-- what is written with this status, where g is the history to be told and all of it was made: its transcript, and what was
-- not met; or a beginning, since the sink failed or memory ran out
abbrev pub IsOutlivedText : Status → Option ℕ → Type 0 → Script → List NodeEntry → Type 0 → List ℕ → Type 0
IsOutlivedText status.Ok unmet failed s g all text = all × (unmet ≡ None) × (text ≡ transcript_text s.decls.list g)
IsOutlivedText (status.Unmet line) unmet failed s g all text =
    all × (unmet ≡ Some line)
    × ((last : List ℕ) × IsLine failed (unmet_line line) last × (text ≡ transcript_text s.decls.list g ++ last))
IsOutlivedText status.NoMemory unmet failed s g all text =
    (last : List ℕ) × IsLine failed (error_line (codes "no memory")) last × ((n : ℕ) × (text ≡ take n (told_text s g) ++ last))
IsOutlivedText status.WriteFault unmet failed s g all text =
    failed × ((n : ℕ) × ((text ≡ take n (told_text s g)) ⊎ (all × (text ≡ take n (transcript_text s.decls.list g)))))
IsOutlivedText _ unmet failed s g all text = ⊥

-- the disk stopped behind so many calls: what it held is told, and behind it each node's state, which is a history as the
-- headline says; where the call ended sooner, some of the states
pub record HasOutlived (stop : ℕ) (result : Status) (s : Script) (failed : Type 0) (before now : Option (List ℕ)) : Type 0 where
  pub kept : List NodeEntry
  pub unmet : Option ℕ
  pub held : IsHeld stop s kept unmet
  pub states : List NodeEntry
  pub are_states : AreStates 0 states
  pub headline : Headline (plan_of s.decls.list) (counts_of s.decls.list) (reverse states ++ kept)
  pub text : List ℕ
  pub written : IsOutlivedText result unmet failed s (reverse states ++ kept) (length states ≡ nodes_of s.decls.list) text
  pub told : Appends before now text

-- a run on a disk that answers so many calls
abbrev pub HasRunUntil : ℕ → Status → Script → Type 0 → Option (List ℕ) → Option (List ℕ) → Type 0
HasRunUntil stop result s failed before now =
    HasRunWithin stop result s failed before now ⊎ HasOutlived stop result s failed before now
