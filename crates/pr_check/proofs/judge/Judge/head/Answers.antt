use Rattle.std.proofs.Common.{Option, [], subst}
use Rattle.std.specs.Prelude.{IfSome}
use Rattle.pr_script.specs.Labels.{AreLabels}
use Rattle.pr_script.specs.Listed.{Declarations}
use Rattle.pr_check.specs.Heads.{AreAccepted, Declares}
use Rattle.pr_check.proofs.Judged.{bad_head, head_begins, one_head}
use Rattle.pr_script.specs.Printing.{decl_lines}
use Rattle.pr_check.proofs.Refused.{bad_verdict}
use Rattle.pr_check.proofs.judge.Judge.head.Goals as goal

pub returns-in-Some : goal.returns-in-Some
returns-in-Some c =
    let ds = c.args.self.now.decls.list in
    let is = subst (λ (o : Option Declarations). Declares ds c.args.line.now o) c.in-Some.is c.in_ok-more.ensures.head in
    let accepted = subst (λ (o : Option Declarations). IfSome o (λ more. AreAccepted more.list)) c.in-Some.is c.in_ok-more.ensures.accepted in
    let labels = subst (λ (o : Option Declarations). IfSome o (λ more. AreLabels more.list)) c.in-Some.is c.in_ok-more.ensures.labels in
    (head_begins ds c.args.line.now c.in-Some.more accepted is, record { decls = record { accepted = accepted; labels = labels }; stands = one_head ds c.args.line.now c.in-Some.more is })

pub returns-in-None : goal.returns-in-None
returns-in-None c =
    bad_verdict (decl_lines [] c.args.self.now.decls.list) c.args.line.now 1 c.args.self.now
    (bad_head c.args.self.now.decls.list c.args.line.now c.requires.decls.accepted c.requires.head (subst (λ (o : Option Declarations). Declares c.args.self.now.decls.list c.args.line.now o) c.in-None.is c.in_ok-more.ensures.head)) c.requires.spent
