use Rattle.pr_merge.proofs.Tournament.{played_winner}
use Rattle.pr_merge.proofs.merging.play.Goals as goal

pub returns : goal.returns
returns c = played_winner c.args.parts.now c.args.next.now c.args.node _ _ c.earlier.result c.requires.inner.1 c.requires.left c.requires.right c.earlier.ensures.either c.earlier.ensures.one c.earlier.ensures.other
