use Rattle.std.proofs.Common.{refl}
use Rattle.pr_log.specs.Known.{row_of}
use Rattle.pr_log.proofs.Many.{node_within, row_within}
use Rattle.pr_log.proofs.index.Index.omitted_alone.Goals as goal

pub returns-clause-set : goal.returns-clause-set
returns-clause-set c = rw (← c.at.ensures.value) (
    node_within c.first_above.result c.args.most c.args.self.now c.args.writer c.at.result (row_of c.args.self.now c.args.writer) c.args.sub.now c.by_stamp.ensures refl
    (row_within c.first_above.result c.args.most c.at.result (row_of c.args.self.now c.args.writer) c.args.latest.now c.args.sub.now c.requires.latest c.first_above.ensures))
