-- The lines and jobs that the plain program makes, as those of a history's script.
use Rattle.std.specs.Prelude.{◌≡◌, ◌≤◌, ℕ, List, ◌∷◌, drop, length, map}
use Rattle.pr_script.specs.Steps.{Numbered, AreWhole}
use Rattle.pr_story.specs.Commands as story
use Rattle.pr_story.specs.Scripts as scripts
use Rattle.pr_text.specs.Steps.{lines_of}
use Rattle.pr_text.specs.declared.plain.line.Asked.{Asked}
use Rattle.pr_text.specs.declared.plain.line.Asked.TheVariants as asks
use Rattle.pr_text.specs.declared.plain.line.Job.{Job}
use Rattle.pr_text.specs.declared.plain.line.Job.TheVariants as jobs
use Rattle.pr_text.specs.declared.plain.line.Line.{Line}
use Rattle.pr_text.specs.declared.plain.line.Line.TheVariants as lines

abbrev pub asked_seen : Asked → story.Command
asked_seen (asks.Write client name body gone) = story.ToWrite client name body gone
asked_seen (asks.Read client name) = story.ToRead client name
asked_seen (asks.Move client node) = story.ToMove client node
asked_seen (asks.Attach stream) = story.ToAttach stream
asked_seen (asks.Send stream) = story.ToSend stream
asked_seen (asks.Checkpoint stream) = story.ToCheckpoint stream
asked_seen (asks.Deliver stream number) = story.ToDeliver stream number
asked_seen (asks.Cut node) = story.ToCut node
asked_seen (asks.Drop node name) = story.ToDrop node name
asked_seen (asks.Conflicts node name) = story.ToFindConflicts node name
asked_seen (asks.State node) = story.ToTellState node

abbrev pub job_seen : Job → scripts.Job
job_seen (jobs.Client asked) = scripts.ClientJob (map asked_seen asked)
job_seen (jobs.Flow stream turns) = scripts.FlowJob stream turns

abbrev pub line_seen : Line → scripts.Line
line_seen (lines.Single asked) = scripts.Single (asked_seen asked)
line_seen lines.Expect = scripts.Expect
line_seen (lines.Detach stream) = scripts.Detach stream
line_seen (lines.Flow stream turns) = scripts.Flow stream turns
line_seen lines.Settle = scripts.Settle
line_seen (lines.Phase jobs) = scripts.Phase (map job_seen jobs)

-- the commands, of which each phase has its end, begin with this line, to which so many of those behind the first belong
pub record IsFirst (cs behind : List Numbered) (line : scripts.Line) (n : ℕ) : Type 0 where
  pub within : n ≤ length behind
  pub whole : AreWhole (drop n behind)
  pub lines : lines_of cs ≡ line ∷ lines_of (drop n behind)
