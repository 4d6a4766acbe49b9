use Rattle.pr_names.proofs.Above.{least_all, end_of_all}
use Rattle.pr_names.proofs.name.Name.after_all.Goals as goal

pub returns-clause-least : goal.returns-clause-least
returns-clause-least c = least_all c.args.self.now c.raised.result c.bytes.ensures.name (rw c.bytes.ensures.value at c.raised.ensures)

pub returns-clause-those : goal.returns-clause-those
returns-clause-those c = end_of_all c.args.self.now c.raised.result c.bytes.ensures.name (rw c.bytes.ensures.value at c.raised.ensures)
