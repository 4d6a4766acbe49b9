use Rattle.pr_wire.proofs.FieldLaws.{bad_stays}
use Rattle.pr_wire.proofs.law.bad_bytes_stay_bad.Goals as goal

pub returns : goal.returns
returns c = bad_stays
