use Rattle.std.proofs.Common.{◌≡◌, arith, length}
use Rattle.pr_wire.proofs.FieldLaws.{all_given}
use Rattle.pr_wire.proofs.feed.Feed.is_empty.Goals as goal

pub returns : goal.returns
returns c =
    let is : c.len.result ≡ length c.self.inside.bytes.items = omega (arith, c.len.ensures) in
    rw (← c.self.view_is) (all_given c.self.inside.start c.len.result c.self.inside.bytes.items is c.self.invariant)
