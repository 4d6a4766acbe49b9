use Rattle.std.proofs.Common.{refl}
use Rattle.std.proofs.lemmas.Result.{on_ok_weaker}
use Rattle.pr_log.specs.Known.{row_of}
use Rattle.pr_log.specs.Sets.{is_gathered}
use Rattle.pr_log.proofs.Past.{node_omits_above, omits_above}
use Rattle.pr_log.proofs.index.Index.omit_above.Goals as goal

pub returns : goal.returns
returns c = on_ok_weaker c.gather.result (λ each o name.
    node_omits_above c.args.self.now c.args.writer c.args.clock (row_of c.args.self.now c.args.writer) o c.args.sub.now (is_gathered c.args.names.now o) (is_gathered c.gather.new.names o) c.by_stamp.ensures refl
    (omits_above (row_of c.args.self.now c.args.writer) c.args.latest.now c.args.clock o c.args.sub.now (is_gathered c.args.names.now o) (is_gathered c.gather.new.names o) c.requires.latest (each o name)))
    c.gather.ensures
