use Rattle.pr_gen.proofs.Rings.{labels}
use Rattle.pr_gen.proofs.law.labels_tell_declarations_apart.Goals as goal

pub returns : goal.returns
returns c seed size = labels
