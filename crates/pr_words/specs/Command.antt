-- The command that is handed to `clap`, as `clap` describes commands, and what the words give it.
use Rattle.std.specs.Prelude.{ℕ, List, Option, Some, true, codes, option_map}
use Rattle.std.specs.Borrow.{Bor}
use Rattle.clap.specs.Words.{App, Rule, new_app, new_rule, with_rule}
use Rattle.clap.specs.Simple.{on_top}
use Rattle.pr_words.specs.declared.given.Given.{Given}
use Rattle.pr_words.specs.declared.job.Job.{Job}
use Rattle.pr_words.specs.Words.{asked}

abbrev pub mode_rule : Rule
mode_rule = record (new_rule (codes "mode")) { required = true }

-- an option that takes one value
abbrev pub option_rule : List ℕ → Rule
option_rule name = record (new_rule name) { long = Some name }

-- no name before the words, and no help
abbrev pub bare_app : App
bare_app = on_top (λ s. record s { no_binary_name = true; disable_help_flag = true }) (new_app (codes "practi"))

abbrev pub practi : App
practi =
    with_rule (with_rule (with_rule (with_rule (with_rule bare_app mode_rule)
    (option_rule (codes "seed"))) (option_rule (codes "size"))) (option_rule (codes "stop"))) (option_rule (codes "node"))

-- the job that these values of the arguments ask for
abbrev pub job_from : (List ℕ → Option (List ℕ)) → Option Job
job_from value = asked (value (codes "mode")) (value (codes "seed")) (value (codes "size")) (value (codes "stop")) (value (codes "node"))

-- a text that was given, or none
abbrev pub text : Option (Bor (List ℕ)) → Option (List ℕ)
text = option_map (λ s. s.now)

-- the job that these options ask for
abbrev pub of_given : (Option (List ℕ) → Option (List ℕ) → Option (List ℕ) → Option (List ℕ) → Option Job) → Given → Option Job
of_given job given = job (text given.seed) (text given.size) (text given.stop) (text given.node)
