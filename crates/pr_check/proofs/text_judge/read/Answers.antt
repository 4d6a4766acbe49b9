use Rattle.std.proofs.Common.{Ok, Option, inl, inr, subst}
use Rattle.pr_check.specs.Standing.{IsFinished}
use Rattle.pr_check.specs.declared.transcript.Transcript.{Transcript}
use Rattle.pr_check.proofs.TextsRead.{none_at}
use Rattle.pr_check.proofs.text_judge.read.Goals as goal

pub returns-in-Some-2 : goal.returns-in-Some-2
returns-in-Some-2 c all j count = none_at c.args.judge all c.args.whole c.args.lines c.too_short.result j count (inr c.if-whole.false) c.too_short.ensures

pub returns-in-None : goal.returns-in-None
returns-in-None c all j count =
    none_at c.args.judge all c.args.whole c.args.lines c.too_short-in-None.result j count
    (inl (subst (λ (o : Option Transcript). IsFinished all (Ok o)) c.in-None.is (c.in_ok-transcript.ensures.finished all j))) c.too_short-in-None.ensures
