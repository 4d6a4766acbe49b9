-- What the words of the command line ask for. An option is one word `--key=value` or two words, before or after the mode,
-- and stands once. One word `--` may stand before the mode or behind all else, and no option follows it.
use Rattle.std.specs.Prelude.{◌≡◌, ℕ, List, [], ◌∷◌, Option, Some, None, Result, Ok, Err, Bool, true, false, is_some, ◌==◌, codes, if◌then◌else◌}
use Rattle.std.specs.Str.{bytes_eq}
use Rattle.pr_words.specs.declared.fault.WordsFault.{WordsFault}
use Rattle.pr_words.specs.declared.fault.WordsFault.TheVariants as faults
use Rattle.pr_words.specs.declared.job.Job.{Job}
use Rattle.pr_words.specs.declared.job.Job.TheVariants as jobs
use Rattle.pr_words.specs.declared.mode.Mode.{Mode}
use Rattle.pr_words.specs.declared.mode.Mode.TheVariants as modes
use Rattle.pr_script.specs.Fields.{number_in}
use Rattle.pr_script.specs.Labels.{is_label}

-- ---- single words

unfoldable pub mode_of : List ℕ → Option Mode
mode_of w =
    if bytes_eq w (codes "sim") then Some modes.Sim
    else if bytes_eq w (codes "run") then Some modes.Run
    else if bytes_eq w (codes "gen") then Some modes.Gen
    else if bytes_eq w (codes "check") then Some modes.Check
    else if bytes_eq w (codes "kept") then Some modes.Kept
    else if bytes_eq w (codes "ask") then Some modes.Ask
    else if bytes_eq w (codes "serve") then Some modes.Serve
    else if bytes_eq w (codes "pull") then Some modes.Pull
    else None

-- the options
pub data Key : Type 0 where
  Seed : Key
  Size : Key
  Stop : Key
  Node : Key

unfoldable pub key_of : List ℕ → Option Key
key_of w =
    if bytes_eq w (codes "--seed") then Some Seed
    else if bytes_eq w (codes "--size") then Some Size
    else if bytes_eq w (codes "--stop") then Some Stop
    else if bytes_eq w (codes "--node") then Some Node
    else None

-- a word that begins with an option's name and `=`, seven bytes, and what stands behind them
abbrev pub keyed : Option Key → List ℕ → Option (Key × List ℕ)
keyed None value = None
keyed (Some key) value = Some (key, value)

unfoldable pub front_of : List ℕ → Option Key
front_of w =
    if bytes_eq w (codes "--seed=") then Some Seed
    else if bytes_eq w (codes "--size=") then Some Size
    else if bytes_eq w (codes "--stop=") then Some Stop
    else if bytes_eq w (codes "--node=") then Some Node
    else None

unfoldable pub option_of : List ℕ → Option (Key × List ℕ)
option_of (a ∷ b ∷ c ∷ d ∷ e ∷ f ∷ g ∷ value) = keyed (front_of (a ∷ b ∷ c ∷ d ∷ e ∷ f ∷ g ∷ [])) value
option_of w = None

-- a hyphen and more: an option or `--`, or nothing that is known
abbrev pub is_flag : List ℕ → Bool
is_flag (b ∷ c ∷ w) = b == 45
is_flag w = false

-- ---- word after word: the word for the mode, the options' values, the option whose value comes next, and whether `--`
-- ---- stood

pub record Seen : Type 0 where
  pub mode : Option (List ℕ)
  pub seed : Option (List ℕ)
  pub size : Option (List ℕ)
  pub stop : Option (List ℕ)
  pub node : Option (List ℕ)
  pub waiting : Option Key
  pub closed : Bool

abbrev pub nothing_seen : Seen
nothing_seen = record { mode = None; seed = None; size = None; stop = None; node = None; waiting = None; closed = false }

-- an option stands once
abbrev pub with_value : Seen → Key → List ℕ → Option Seen
with_value s Seed v = if is_some s.seed then None else Some (record s { seed = Some v; waiting = None })
with_value s Size v = if is_some s.size then None else Some (record s { size = Some v; waiting = None })
with_value s Stop v = if is_some s.stop then None else Some (record s { stop = Some v; waiting = None })
with_value s Node v = if is_some s.node then None else Some (record s { node = Some v; waiting = None })

-- a word that is no option is the mode, of which there is one
abbrev pub as_mode : Seen → List ℕ → Option Seen
as_mode s w = if is_some s.mode then None else Some (record s { mode = Some w })

abbrev pub as_key : Seen → Option Key → List ℕ → Option Seen
as_key s (Some key) w = Some (record s { waiting = Some key })
as_key s None w = if is_flag w then None else as_mode s w

abbrev pub as_option : Seen → Option (Key × List ℕ) → List ℕ → Option Seen
as_option s (Some o) w = with_value s o.0 o.1
as_option s None w = as_key s (key_of w) w

abbrev pub as_word : Seen → List ℕ → Option Seen
as_word s w =
    if s.closed then as_mode s w
    else if bytes_eq w (codes "--") then Some (record s { closed = true })
    else as_option s (option_of w) w

-- what stands behind an option is its value, and no hyphen with more behind it
abbrev pub as_next : Seen → Option Key → List ℕ → Option Seen
as_next s (Some key) w = if is_flag w then None else with_value s key w
as_next s None w = as_word s w

unfoldable pub next_seen : Seen → List ℕ → Option Seen
next_seen s w = as_next s s.waiting w

abbrev pub all_seen : Option Seen → List (List ℕ) → Option Seen
all_seen None ws = None
all_seen (Some s) [] = Some s
all_seen (Some s) (w ∷ ws) = all_seen (next_seen s w) ws

-- ---- jobs, each with the options that it takes: the seed, the size, the stop and the node

abbrev pub alone : Job → Option (List ℕ) → Option (List ℕ) → Option (List ℕ) → Option (List ℕ) → Option Job
alone job None None None None = Some job
alone job seed size stop label = None

abbrev pub made : Option ℕ → Option ℕ → Option Job
made (Some seed) (Some size) = Some (jobs.Gen seed size)
made seed size = None

abbrev pub made_by : Option (List ℕ) → Option (List ℕ) → Option (List ℕ) → Option (List ℕ) → Option Job
made_by (Some seed) (Some size) None None = made (number_in 0 18446744073709551615 seed) (number_in 1 90000 size)
made_by seed size stop label = None

abbrev pub stopped : Option ℕ → Option Job
stopped (Some stop) = Some (jobs.Kept (Some stop))
stopped None = None

abbrev pub kept_by : Option (List ℕ) → Option (List ℕ) → Option (List ℕ) → Option (List ℕ) → Option Job
kept_by None None None None = Some (jobs.Kept None)
kept_by None None (Some stop) None = stopped (number_in 2 1000000000 stop)
kept_by seed size stop label = None

abbrev pub at_node : Mode → List ℕ → Option Job
at_node modes.Ask label = Some (jobs.Ask label)
at_node modes.Serve label = Some (jobs.Serve label)
at_node modes.Pull label = Some (jobs.Pull label)
at_node m label = None

abbrev pub node_by : Mode → Option (List ℕ) → Option (List ℕ) → Option (List ℕ) → Option (List ℕ) → Option Job
node_by m None None None (Some label) = if is_label label then at_node m label else None
node_by m seed size stop label = None

abbrev pub job_by : Mode → Option (List ℕ) → Option (List ℕ) → Option (List ℕ) → Option (List ℕ) → Option Job
job_by modes.Sim seed size stop label = alone jobs.Sim seed size stop label
job_by modes.Run seed size stop label = alone jobs.Run seed size stop label
job_by modes.Check seed size stop label = alone jobs.Check seed size stop label
job_by modes.Gen seed size stop label = made_by seed size stop label
job_by modes.Kept seed size stop label = kept_by seed size stop label
job_by m seed size stop label = node_by m seed size stop label

abbrev pub in_mode : Option Mode → Option (List ℕ) → Option (List ℕ) → Option (List ℕ) → Option (List ℕ) → Option Job
in_mode None seed size stop label = None
in_mode (Some m) seed size stop label = job_by m seed size stop label

abbrev pub asked : Option (List ℕ) → Option (List ℕ) → Option (List ℕ) → Option (List ℕ) → Option (List ℕ) → Option Job
asked None seed size stop label = None
asked (Some w) seed size stop label = in_mode (mode_of w) seed size stop label

-- no option is without its value
abbrev pub ended : Option Key → Seen → Option Job
ended None s = asked s.mode s.seed s.size s.stop s.node
ended (Some key) s = None

abbrev pub finished : Option Seen → Option Job
finished None = None
finished (Some s) = ended s.waiting s

-- the job that the words ask for
unfoldable pub job_of : List (List ℕ) → Option Job
job_of ws = finished (all_seen (Some nothing_seen) ws)

-- the job, or Usage where the words ask for none, unless memory ran out
abbrev pub Answers : Result Job WordsFault → Option Job → Type 0
Answers (Ok job) asked = asked ≡ Some job
Answers (Err faults.Usage) asked = asked ≡ None
Answers (Err faults.NoMemory) asked = Unit {0}
