use Rattle.pr_wire.proofs.Fields.{eight_field, four_field}
use Rattle.pr_wire.proofs.ListFields.{target_field}
use Rattle.pr_wire.proofs.NameFields.{name_field}
use Rattle.pr_wire.proofs.StampFields.{stamp_field}
use Rattle.pr_wire.proofs.VectorFields.{vector_field}
use Rattle.pr_wire.proofs.law.fields_are_read_again.Goals as goal

pub returns-clause-fours : goal.returns-clause-fours
returns-clause-fours c = four_field.again

pub returns-clause-eights : goal.returns-clause-eights
returns-clause-eights c = eight_field.again

pub returns-clause-names : goal.returns-clause-names
returns-clause-names c = name_field.again

pub returns-clause-stamps : goal.returns-clause-stamps
returns-clause-stamps c = stamp_field.again

pub returns-clause-vectors : goal.returns-clause-vectors
returns-clause-vectors c = vector_field.again

pub returns-clause-sets : goal.returns-clause-sets
returns-clause-sets c set rest is few = target_field.again set rest (record { set = is; few = few })
