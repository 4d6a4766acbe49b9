-- The lists of words that ask for a job, as they are spelled.
use Rattle.std.specs.Prelude.{◌≡◌, ℕ, List, [], ◌∷◌, ◌++◌, Option, Some, None, Bool, true, false, codes}
use Rattle.std.specs.List.{AllByRecursion, flat_map}
use Rattle.pr_words.specs.declared.job.Job.{Job}
use Rattle.pr_words.specs.declared.mode.Mode.{Mode}
use Rattle.pr_words.specs.declared.mode.Mode.TheVariants as modes
use Rattle.pr_words.specs.Words.{Key, Seed, Size, Stop, Node, Seen, is_flag, job_by, job_of, nothing_seen, with_value}

abbrev pub mode_word : Mode → List ℕ
mode_word modes.Sim = codes "sim"
mode_word modes.Run = codes "run"
mode_word modes.Gen = codes "gen"
mode_word modes.Check = codes "check"
mode_word modes.Kept = codes "kept"
mode_word modes.Ask = codes "ask"
mode_word modes.Serve = codes "serve"
mode_word modes.Pull = codes "pull"

abbrev pub key_word : Key → List ℕ
key_word Seed = codes "--seed"
key_word Size = codes "--size"
key_word Stop = codes "--stop"
key_word Node = codes "--node"

abbrev pub front_word : Key → List ℕ
front_word Seed = codes "--seed="
front_word Size = codes "--size="
front_word Stop = codes "--stop="
front_word Node = codes "--node="

-- an option with its value, in one word or in two
pub data Use : Type 0 where
  joined : Key → List ℕ → Use
  parted : Key → List ℕ → Use

abbrev pub use_words : Use → List (List ℕ)
use_words (joined key value) = (front_word key ++ value) ∷ []
use_words (parted key value) = key_word key ∷ value ∷ []

-- a value in a word of its own is no hyphen with more behind it
abbrev pub IsUse : Use → Type 0
IsUse (joined key value) = Unit {0}
IsUse (parted key value) = is_flag value ≡ false

abbrev pub dashes_if : Bool → List (List ℕ)
dashes_if true = codes "--" ∷ []
dashes_if false = []

-- options, the mode and options; and `--` behind them all, or before the mode, where no option follows
pub data Call : Type 0 where
  plain : List Use → Mode → List Use → Bool → Call
  closed : List Use → Mode → Call

abbrev pub call_words : Call → List (List ℕ)
call_words (plain before mode after ended) = flat_map use_words before ++ (mode_word mode ∷ (flat_map use_words after ++ dashes_if ended))
call_words (closed before mode) = flat_map use_words before ++ (codes "--" ∷ mode_word mode ∷ [])

-- the values of options, each of which stands once
abbrev pub with_uses : Option Seen → List Use → Option Seen
with_uses None us = None
with_uses (Some s) [] = Some s
with_uses (Some s) (joined key value ∷ us) = with_uses (with_value s key value) us
with_uses (Some s) (parted key value ∷ us) = with_uses (with_value s key value) us

abbrev pub job_in : Mode → Option Seen → Option Job
job_in m None = None
job_in m (Some s) = job_by m s.seed s.size s.stop s.node

abbrev pub job_of_call : Call → Option Job
job_of_call (plain before mode after ended) = job_in mode (with_uses (Some nothing_seen) (before ++ after))
job_of_call (closed before mode) = job_in mode (with_uses (Some nothing_seen) before)

abbrev pub AreUses : Call → Type 0
AreUses (plain before mode after ended) = AllByRecursion IsUse before × AllByRecursion IsUse after
AreUses (closed before mode) = AllByRecursion IsUse before

-- words ask for a job exactly where they are the words of a call for it
abbrev pub AreCalls : Type 0
AreCalls =
    ((c : Call) → AreUses c → job_of (call_words c) ≡ job_of_call c)
    × ((words : List (List ℕ)) (job : Job) → job_of words ≡ Some job → (c : Call) × AreUses c × (call_words c ≡ words) × (job_of_call c ≡ Some job))
