use Rattle.std.proofs.lemmas.Result.{on_ok_weaker}
use Rattle.pr_bodies.proofs.Rows.{renewed_behind}
use Rattle.pr_bodies.proofs.row.Row.renew.Goals as goal

pub returns : goal.returns
returns c =
    on_ok_weaker c.push.result (λ is t. renewed_behind c.args.self.now c.keep_after.new.self _ c.args.stamp.now t c.args.bytes (c.keep_after.ensures t) is)
    c.push.ensures
