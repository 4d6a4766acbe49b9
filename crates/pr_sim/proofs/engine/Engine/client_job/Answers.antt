use Rattle.std.proofs.Common.{◌+◌, List, ◌++◌, Ok, Err, subst, sym, reverse, take, drop}
use Rattle.std.proofs.lemmas.List.{take_all}
use Rattle.pr_script.specs.Steps.{Numbered}
use Rattle.pr_story.specs.Commands.{Command}
use Rattle.pr_story.specs.Scripts.{AreOfCommands, ClientJob, JobBegins}
use Rattle.pr_sim.specs.Phasing.{GivesAll, asked_by, asked_of}
use Rattle.pr_sim.proofs.Flows.{grows_behind, still_grown}
use Rattle.pr_sim.proofs.JobsInOrder.{asked_more, asked_split, begins_behind, begun_behind, commands_append, line_can, lines_can}
use Rattle.pr_sim.proofs.engine.Engine.client_job.Goals as goal

pub client_line-requires-clause-can : goal.client_line-requires-clause-can
client_line-requires-clause-can c =
    line_can c.loop-line.self c.args.inside.now c.loop-line.line-index c.line-item.result c.loop-line-test.true c.line-item.is c.loop-line.invariant.lines

pub returns-in_err-client_line : goal.returns-in_err-client_line
returns-in_err-client_line c d attached h k =
    let client = c.args.client in
    let inside = c.args.inside.now in
    let i = c.loop-line.line-index in
    let x = c.line-item.result in
    let first = c.loop-line.invariant.given d attached h k in
    let all = asked_split client inside i x c.loop-line-test.true c.line-item.is in
    still_grown d attached h (λ (done : Unit {0}) es. AreOfCommands (asked_by client inside) es) (λ (done : Unit {0}) es. AreOfCommands (asked_by client (take i inside) ++ asked_of client x.1) es) (λ es. JobBegins (ClientJob (asked_by client inside)) es)
    c.client_line.new.self c.in_err-client_line.field-0.0 c.from_residual.result c.from_residual.ensures.1
    (grows_behind d attached h first.0 c.client_line.new.self (λ (done : Unit {0}) es. AreOfCommands (asked_of client x.1) es) (λ (done : Unit {0}) es. AreOfCommands (asked_by client (take i inside) ++ asked_of client x.1) es)
    (λ es. JobBegins (ClientJob (asked_of client x.1)) es) (λ es. JobBegins (ClientJob (asked_by client inside)) es) (Err c.in_err-client_line.field-0.0)
    (λ done es is. commands_append (asked_by client (take i inside)) (asked_of client x.1) (reverse first.0) es first.2 is)
    (λ es is. subst (λ (cs : List Command). JobBegins (ClientJob cs) (reverse first.0 ++ es)) (sym all)
    (begins_behind (asked_by client (take i inside)) (asked_of client x.1) (asked_by client (drop (i + 1) inside)) (reverse first.0) es first.2 is))
    (c.in_err-client_line.ensures d attached (first.0 ++ h) first.1))

pub loop-line-preserved : goal.loop-line-preserved
loop-line-preserved c =
    let client = c.args.client in
    let inside = c.args.inside.now in
    let i = c.loop-line.line-index in
    let x = c.line-item.result in
    let l = c.loop-line.invariant in
    let k = l.kept in
    let then = c.in_ok-client_line.ensures k.0 k.1 k.2 k.3 in
    record {
      kept = (k.0, k.1, then.0 ++ k.2, then.1);
      lines = lines_can k.0 k.1 k.2 (then.0 ++ k.2) c.loop-line.self c.client_line.new.self inside k.3 then.1 l.lines;
      given = λ d attached h r.
          let first = l.given d attached h r in
          subst (λ (cs : List Command). GivesAll cs d attached h c.client_line.new.self (Ok tt)) (sym (asked_more client inside i x c.loop-line-test.true c.line-item.is))
          (grows_behind d attached h first.0 c.client_line.new.self (λ (done : Unit {0}) es. AreOfCommands (asked_of client x.1) es) (λ (done : Unit {0}) es. AreOfCommands (asked_by client (take i inside) ++ asked_of client x.1) es)
          (λ es. JobBegins (ClientJob (asked_of client x.1)) es) (λ es. JobBegins (ClientJob (asked_by client (take i inside) ++ asked_of client x.1)) es) (Ok tt)
          (λ done es is. commands_append (asked_by client (take i inside)) (asked_of client x.1) (reverse first.0) es first.2 is)
          (λ es is. begun_behind (asked_by client (take i inside)) (asked_of client x.1) (reverse first.0) es first.2 is)
          (c.in_ok-client_line.ensures d attached (first.0 ++ h) first.1));
    }

pub returns : goal.returns
returns c d attached h k =
    subst (λ (xs : List Numbered). GivesAll (asked_by c.args.client xs) d attached h c.loop-line.self (Ok tt)) (take_all c.loop-line.line-index c.args.inside.now c.loop-line-test.false) (c.loop-line.invariant.given d attached h k)
