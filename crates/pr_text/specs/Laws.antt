-- What holds of the histories of accepted scripts.
use Rattle.std.specs.Prelude.{ℕ, ◌≡◌, List, [], ◌∷◌, ◌++◌, Option, Bool, IsTrue, map, filter, length}
use Rattle.pr_script.specs.declared.decl.Decl.{Decl}
use Rattle.pr_script.specs.declared.script.Script.{Script}
use Rattle.pr_script.specs.Good.{IsGood, IsGoodPhase}
use Rattle.pr_script.specs.Known.{has_number}
use Rattle.pr_script.specs.Steps.{Numbered, Step, Phase, steps_of}
use Rattle.pr_story.specs.History.{NodeEntry}
use Rattle.pr_story.specs.Phases.{AreApartJobs}
use Rattle.pr_story.specs.Scripts.{Line, Order, LineGives, IsOfScript}
use Rattle.pr_story.specs.Turns.{IsAttached}
use Rattle.pr_text.specs.Histories.{IsHistoryOf, IsRunOf, EachGives, attached_by, first_of, joined, last_part, streams_of, unmet_at, unmet_from}
use Rattle.pr_text.specs.Steps.{step_line, jobs_of, client_job, stream_job}

-- a run to the script's end, whatever it leaves unmet, gives a history of the script
abbrev pub RunsAreHistories : Type 0
RunsAreHistories = (order : Order) (s : Script) (h : List NodeEntry) (unmet : Option ℕ) → IsRunOf order s h unmet → IsHistoryOf order s h

-- the jobs of a good phase share no client and no stream, where each stream that may flow is attached in the history
abbrev pub PhasesAreApart : Type 0
PhasesAreApart =
    (ds : List Decl) (attached : List ℕ) (inside : List Numbered) (h : List NodeEntry) → IsGoodPhase ds attached inside
    → ((s : ℕ) → IsTrue (has_number attached s) → IsAttached h s)
    → AreApartJobs h (stream_job inside) (client_job inside) (jobs_of inside) 0

-- so is each phase of a good script, after a history of the steps before it
abbrev pub ScriptsHaveApartJobs : Type 0
ScriptsHaveApartJobs =
    (order : Order) (s : Script) (front rest : List Step) (inside : List Numbered) (h : List NodeEntry) → IsGood s
    → steps_of s.commands ≡ front ++ Phase inside ∷ rest → IsOfScript order (streams_of s.decls.list) (map step_line front) h
    → AreApartJobs h (stream_job inside) (client_job inside) (jobs_of inside) 0

-- ---- a run that goes on

-- after lines that give these lists of entries, one line more gives one list more
abbrev pub LinesGoOn : Type 0
LinesGoOn =
    (order : Order) (streams : List ℕ) (attached : ℕ → Bool) (lines : List Line) (parts : List (List NodeEntry)) (line : Line) (part : List NodeEntry)
    → EachGives order streams attached lines parts → LineGives order (filter (attached_by lines attached) streams) line part
    → EachGives order streams attached (lines ++ line ∷ []) (parts ++ part ∷ [])

-- and the first expectation that is not met is that of the steps before, or else that of the new one
abbrev pub ExpectationsGoOn : Type 0
ExpectationsGoOn =
    (es : List NodeEntry) (steps : List Step) (parts : List (List NodeEntry)) (step : Step) (part : List NodeEntry) → length steps ≡ length parts
    → (unmet_from es (steps ++ step ∷ []) (parts ++ part ∷ []) ≡ first_of (unmet_from es steps parts) (unmet_at step (last_part es parts)))
    × (joined (parts ++ part ∷ []) ≡ joined parts ++ part)
