use Rattle.std.proofs.Common.{sym, subst}
use Rattle.pr_script.specs.Labels.{AreLabels}
use Rattle.pr_check.specs.Heads.{AreAccepted}
use Rattle.pr_check.proofs.HeadLines.{none_accepted, none_labels}
use Rattle.pr_check.proofs.head.no_decls.Goals as goal

pub returns-clause-accepted : goal.returns-clause-accepted
returns-clause-accepted c = subst AreAccepted (sym c.new.ensures) none_accepted

pub returns-clause-labels : goal.returns-clause-labels
returns-clause-labels c = subst AreLabels (sym c.new.ensures) none_labels
