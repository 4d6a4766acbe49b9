-- What two runs of one script have in common.
use Rattle.std.specs.Prelude.{ℕ, List, ◌++◌, ◌≡◌, Some}
use Rattle.std.specs.Io.KnownBytes.{Appends}
use Rattle.pr_ports.specs.Faults.{HasRisen}
use Rattle.pr_text.specs.Endings.{unmet_line}
use Rattle.pr_top.specs.Answers.{AnswersScript, Ports}
use Rattle.pr_top.specs.Runs.{IsLine, IsToEnd}
use Rattle.pr_top.specs.declared.status.Status.{Status}
use Rattle.pr_top.specs.declared.status.Status.TheVariants as status

-- this transcript was written, and behind it the line of the expectation that was not met, where there is one
abbrev pub WritesTranscript : Ports → Ports → Status → List ℕ → Type 0
WritesTranscript a b (status.Unmet line) text =
    (last : List ℕ) × IsLine (HasRisen a.write_faults b.write_faults) (unmet_line line) last × Appends a.text b.text (text ++ last)
WritesTranscript a b result text = Appends a.text b.text text

-- two runs over the same bytes, in one thread and each to the script's end, have the same status and transcript
abbrev pub RunsRepeat : Type 0
RunsRepeat =
    (bytes : List ℕ) (a b c d : Ports) (one other : Status) → a.left ≡ Some bytes → c.left ≡ Some bytes → IsToEnd one → IsToEnd other
    → AnswersScript a b one → AnswersScript c d other
    → (one ≡ other) × ((text : List ℕ) × WritesTranscript a b one text × WritesTranscript c d one text)
