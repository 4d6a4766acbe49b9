use Rattle.std.proofs.Common.{refl}
use Rattle.pr_sim.proofs.Scans.{attach_noted, none_noted}
use Rattle.pr_sim.proofs.holding.note_attach.Goals as goal

pub returns-in-Attached-clause-scans : goal.returns-in-Attached-clause-scans
returns-in-Attached-clause-scans c plan node h are =
    attach_noted plan node h c.args.entry.now c.args.scans.now.items c.begin.new.scans.items c.in-Attached.stream c.in-Attached.at c.in-Attached.is c.begin.ensures are

pub returns-in_default : goal.returns-in_default
returns-in_default c = record { many = refl; scans = λ plan node h are. none_noted plan node h c.args.entry.now c.args.scans.now.items c.in_default.not-Attached are }
