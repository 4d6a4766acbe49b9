use Rattle.std.proofs.Common.{[]}
use Rattle.practi_bench.proofs.pair.source.Goals as goal

pub new-requires : goal.new-requires
new-requires c = (c.in_ok-attach.ensures.ok (λ _. [])).is.1.is_attached
