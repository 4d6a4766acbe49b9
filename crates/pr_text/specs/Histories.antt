-- The history of a script, what it expects of it, and the transcript.
use Rattle.std.specs.Prelude.{ℕ, ◌+◌, ◌≡◌, List, [], ◌∷◌, ◌++◌, Bool, true, false, not, cond, length, filter, reverse, Option, Some, None}
use Rattle.std.specs.List.{range_with_len}
use Rattle.std.specs.Str.{bytes_eq}
use Rattle.pr_script.specs.declared.command.Command.{Command}
use Rattle.pr_script.specs.declared.command.Command.TheVariants as commands
use Rattle.pr_script.specs.declared.decl.Decl.{Decl}
use Rattle.pr_script.specs.declared.kind.Kind.TheVariants as kinds
use Rattle.pr_script.specs.declared.script.Script.{Script}
use Rattle.pr_script.specs.declared.want.Want.{Want}
use Rattle.pr_script.specs.declared.want.Want.TheVariants as wants
use Rattle.pr_script.specs.Labels.{count_of}
use Rattle.pr_script.specs.Steps as script
use Rattle.pr_script.specs.Steps.{Numbered, Step, steps_of}
use Rattle.pr_story.specs.declared.event.Event.{Event}
use Rattle.pr_story.specs.declared.event.Event.TheVariants.{Answered, Behind}
use Rattle.pr_story.specs.declared.reply.Reply.{Reply}
use Rattle.pr_story.specs.declared.reply.Reply.TheVariants as replies
use Rattle.pr_story.specs.History.{NodeEntry}
use Rattle.pr_story.specs.Phases.{IsBegunAs}
use Rattle.pr_story.specs.Scripts.{Line, Order, LineGives, IsOfScript, IsBegunOf, attached_after}
use Rattle.pr_text.specs.Endings.{ok_line}
use Rattle.pr_text.specs.Heads.{heads_text}
use Rattle.pr_text.specs.Steps.{lines_of}
use Rattle.pr_text.specs.Transcripts.{lines_text}

-- ---- the history

-- the streams in the order of declaration
abbrev pub streams_of : List Decl → List ℕ
streams_of ds = range_with_len 0 (count_of kinds.Stream ds)

-- the history, newest first, is one of the whole script, its phases in this order
abbrev pub IsHistoryOf : Order → Script → List NodeEntry → Type 0
IsHistoryOf order s h = IsOfScript order (streams_of s.decls.list) (lines_of s.commands) h

-- it is one of a run of the script that ended at some place
abbrev pub HasBegun : Order → Script → List NodeEntry → Type 0
HasBegun order s h = IsBegunOf order (streams_of s.decls.list) (lines_of s.commands) h

-- the same, where these jobs of the phase at its end, by number, are known to be whole
abbrev pub HasBegunAs : (ℕ → Bool) → Order → Script → List NodeEntry → Type 0
HasBegunAs whole order s h = IsBegunAs whole order (streams_of s.decls.list) (lines_of s.commands) h

-- ---- expectations

-- the read answered so
abbrev pub answers : Want → Reply → Bool
answers (wants.Value text) (replies.Value stamp bytes) = bytes_eq bytes text
answers wants.Never replies.Never = true
answers wants.Imprecise (replies.Imprecise untold) = true
answers wants.Body (replies.Body stamp) = true
answers wants.Gone (replies.Gone stamp) = true
answers want reply = false

-- the event of a read is what is expected of it: for a value the bytes, whatever their stamp
abbrev pub is_met : Want → Event → Bool
is_met wants.Behind (Behind client needs has) = true
is_met want (Answered client name reply at) = answers want reply
is_met want event = false

-- where a line gave these entries, what is expected is met: there is one, and it is so
abbrev pub is_met_by : Want → List NodeEntry → Bool
is_met_by want (e ∷ []) = is_met want e.entry.event
is_met_by want es = false

-- the command is an `expect` that the entries of the line before it do not meet
abbrev pub is_unmet : Command → List NodeEntry → Bool
is_unmet (commands.Expect want) es = not (is_met_by want es)
is_unmet c es = false

-- the line of the step, where it is such an `expect`
abbrev pub unmet_at : Step → List NodeEntry → Option ℕ
unmet_at (script.Alone c) es = cond (is_unmet c.1 es) (Some c.0) None
unmet_at (script.Phase inside) es = None

abbrev pub first_of : Option ℕ → Option ℕ → Option ℕ
first_of (Some line) later = Some line
first_of None later = later

-- the line of the first expectation that is not met, where the steps give these entries, one list for each, behind those
-- of the step before
abbrev pub unmet_from : List NodeEntry → List Step → List (List NodeEntry) → Option ℕ
unmet_from es [] parts = None
unmet_from es (step ∷ steps) [] = None
unmet_from es (step ∷ steps) (part ∷ parts) = first_of (unmet_at step es) (unmet_from part steps parts)

-- the entries of the last step, behind those of a step before
abbrev pub last_part : List NodeEntry → List (List NodeEntry) → List NodeEntry
last_part es [] = es
last_part es (part ∷ parts) = last_part part parts

-- each line gives its list of entries; of all streams some are attached
abbrev pub EachGives : Order → List ℕ → (ℕ → Bool) → List Line → List (List NodeEntry) → Type 0
EachGives order streams attached [] [] = Unit {0}
EachGives order streams attached (line ∷ lines) (part ∷ parts) =
    LineGives order (filter attached streams) line part × EachGives order streams (attached_after line attached) lines parts
EachGives order streams attached [] (part ∷ parts) = ⊥
EachGives order streams attached (line ∷ lines) [] = ⊥

-- the streams that are attached after the lines
abbrev pub attached_by : List Line → (ℕ → Bool) → ℕ → Bool
attached_by [] attached = attached
attached_by (line ∷ lines) attached = attached_by lines (attached_after line attached)

abbrev pub joined : List (List NodeEntry) → List NodeEntry
joined [] = []
joined (part ∷ parts) = part ++ joined parts

-- the history, newest first, is one of the whole script, and this is the line of its first expectation that is not met
pub record IsRunOf (order : Order) (s : Script) (h : List NodeEntry) (unmet : Option ℕ) : Type 0 where
  pub parts : List (List NodeEntry)
  pub each : EachGives order (streams_of s.decls.list) (λ stream. false) (lines_of s.commands) parts
  pub whole : h ≡ reverse (joined parts)
  pub first : unmet ≡ unmet_from [] (steps_of s.commands) parts

-- ---- the transcript

-- the head lines, a line for each entry, and how many lines these are
abbrev pub transcript_text : List Decl → List NodeEntry → List ℕ
transcript_text ds h = heads_text ds ++ (lines_text ds h ++ ok_line (length ds + length h))
