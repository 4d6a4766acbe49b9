-- What a script's steps are in its history: each command's line, and each phase's jobs.
use Rattle.std.specs.Prelude.{ℕ, List, [], ◌∷◌, map, filter, cond, Bool, true, false, Option, Some, None}
use Rattle.std.specs.List.{flat_map, position_or_len}
use Rattle.pr_script.specs.declared.command.Command.{Command}
use Rattle.pr_script.specs.declared.command.Command.TheVariants as commands
use Rattle.pr_script.specs.Known.{turns_after}
use Rattle.pr_script.specs.Steps as script
use Rattle.pr_script.specs.declared.owner.Owner.{Owner}
use Rattle.pr_script.specs.declared.owner.Owner.TheVariants as owner
use Rattle.pr_script.specs.Steps.{Numbered, Step, is_same_owner, owner_of, owners_of, steps_of, turns_in}
use Rattle.pr_story.specs.Commands as story
use Rattle.pr_story.specs.Scripts.{Job, ClientJob, FlowJob, Line, Single, Expect, Detach, Flow, Settle, Phase}

-- ---- commands

-- a command's line; the words of a phase have none of their own, and give nothing
abbrev pub line_of : Command → Line
line_of (commands.Attach stream) = Single (story.ToAttach stream)
line_of (commands.Detach stream) = Detach stream
line_of (commands.Send stream) = Single (story.ToSend stream)
line_of (commands.Checkpoint stream) = Single (story.ToCheckpoint stream)
line_of (commands.Deliver stream number) = Single (story.ToDeliver stream number)
line_of (commands.Flow stream turns) = Flow stream turns
line_of (commands.Write client name body) = Single (story.ToWrite client name body false)
line_of (commands.Delete client name) = Single (story.ToWrite client name [] true)
line_of (commands.Read client name) = Single (story.ToRead client name)
line_of (commands.Move client node) = Single (story.ToMove client node)
line_of (commands.Expect want) = Expect
line_of (commands.Cut node) = Single (story.ToCut node)
line_of (commands.State node) = Single (story.ToTellState node)
line_of (commands.Drop node name) = Single (story.ToDrop node name)
line_of (commands.Conflicts node name) = Single (story.ToFindConflicts node name)
line_of commands.Settle = Settle
line_of commands.Phase = Phase []
line_of commands.End = Phase []

-- ---- phases

abbrev pub single_of : Line → List story.Command
single_of (Single command) = command ∷ []
single_of line = []

abbrev pub is_owned_by : Owner → Option Owner → Bool
is_owned_by mine None = false
is_owned_by mine (Some other) = is_same_owner other mine

-- the lines of one job, in their order
abbrev pub lines_by : Owner → List Numbered → List Numbered
lines_by mine inside = filter (λ (c : Numbered). is_owned_by mine (owner_of c.1)) inside

-- the turns of the line, if it is of the stream's flow
abbrev pub turns_by : ℕ → Command → ℕ
turns_by stream c = cond (is_owned_by (owner.Stream stream) (owner_of c)) (turns_after c 0) 0

-- a client's job is what its lines ask for, and a stream's is the turns of its flow
abbrev pub job_of : List Numbered → Owner → Job
job_of inside (owner.Client client) = ClientJob (flat_map (λ (c : Numbered). single_of (line_of c.1)) (lines_by (owner.Client client) inside))
job_of inside (owner.Stream stream) = FlowJob stream (turns_in (lines_by (owner.Stream stream) inside))

-- the jobs of a phase, in the order of their first lines
abbrev pub jobs_of : List Numbered → List Job
jobs_of inside = map (job_of inside) (owners_of inside)

-- the number of the job that a client's lines are, and of the one that a stream's flow is
abbrev pub client_job : List Numbered → ℕ → ℕ
client_job inside client = position_or_len (λ o. is_same_owner o (owner.Client client)) (owners_of inside)

abbrev pub stream_job : List Numbered → ℕ → ℕ
stream_job inside stream = position_or_len (λ o. is_same_owner o (owner.Stream stream)) (owners_of inside)

-- ---- scripts

abbrev pub step_line : Step → Line
step_line (script.Alone c) = line_of c.1
step_line (script.Phase inside) = Phase (jobs_of inside)

-- the lines of a script's commands
abbrev pub lines_of : List Numbered → List Line
lines_of cs = map step_line (steps_of cs)
