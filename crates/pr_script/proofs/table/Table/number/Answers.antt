use Rattle.pr_script.proofs.Positions.{found_key}
use Rattle.pr_script.proofs.table.Table.number.Goals as goal

pub returns-in-Some : goal.returns-in-Some
returns-in-Some c = found_key _ _ _ _ _ c.requires c.keys.ensures.labels c.packed.ensures c.keys.ensures.keys c.in-Some.ensures.place

pub returns-in-None : goal.returns-in-None
returns-in-None c = found_key _ _ _ _ _ c.requires c.keys.ensures.labels c.packed.ensures c.keys.ensures.keys c.in-None.ensures.place
