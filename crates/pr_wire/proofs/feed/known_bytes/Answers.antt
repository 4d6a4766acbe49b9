use Rattle.std.proofs.Common.{arith}
use Rattle.pr_wire.proofs.feed.known_bytes.Goals as goal

pub returns : goal.returns
returns c i = omega (arith, c.type_inv.bytes i)
