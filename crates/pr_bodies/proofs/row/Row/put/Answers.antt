use Rattle.std.proofs.lemmas.Result.{on_ok_weaker}
use Rattle.pr_bodies.proofs.Rows.{put_behind}
use Rattle.pr_bodies.proofs.row.Row.put.Goals as goal

pub returns : goal.returns
returns c =
    on_ok_weaker c.push.result (λ is t. put_behind c.args.self.now c.remove.new.self _ c.args.stamp.now t c.args.bytes (c.remove.ensures t) is)
    c.push.ensures
