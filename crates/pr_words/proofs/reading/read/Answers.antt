use Rattle.std.proofs.Common.{◌≡◌, ◌∙◌, Option, map, string_bytes, ap, subst}
use Rattle.clap.specs.Words.{app_of, found_of, is_simple, kind_of}
use Rattle.clap.specs.Faults.{is_simple_and_free}
use Rattle.pr_words.specs.declared.job.Job.{Job}
use Rattle.pr_words.specs.Command.{practi}
use Rattle.pr_words.specs.Words.{Answers}
use Rattle.pr_words.proofs.Arguments.{free, simple}
use Rattle.pr_words.proofs.Outcomes.{all_utf8, job_is, refused_is}
use Rattle.pr_words.proofs.reading.read.Goals as goal

pub returns-in-Ok : goal.returns-in-Ok
returns-in-Ok c =
    let is : app_of c.in_ok-command.command ≡ practi = c.in_ok-command.ensures in
    let rows = (c.in-Ok.ensures.matches (ap is_simple is ∙ simple)).0 in
    let none = c.in-Ok.ensures.kinds (ap is_simple_and_free is ∙ free) in
    let job = job_is (map string_bytes c.args.words.now) (all_utf8 c.args.words.now) (app_of c.in_ok-command.command) (found_of c.in-Ok.matches) is rows none in
    subst (λ (x : Option Job). Answers c.job.result x) job c.job.ensures

pub returns-in-Err : goal.returns-in-Err
returns-in-Err c =
    let is : app_of c.in_ok-command.command ≡ practi = c.in_ok-command.ensures in
    let kinds = c.in-Err.ensures.kinds (ap is_simple_and_free is ∙ free) in
    refused_is (map string_bytes c.args.words.now) (all_utf8 c.args.words.now) (app_of c.in_ok-command.command) c.fault.result (kind_of c.in-Err.error) is c.fault.ensures.no_memory kinds
