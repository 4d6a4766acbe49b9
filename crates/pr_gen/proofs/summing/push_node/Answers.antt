use Rattle.std.proofs.Common.{◌≡◌, sym, ◌∙◌}
use Rattle.std.specs.Prelude.{Some, None}
use Rattle.pr_gen.proofs.summing.push_node.Goals as goal

pub unreachable-requires : goal.unreachable-requires
unreachable-requires g c = let r = c.requires in let m = r.1.here c.args.node r.2 in let bad : Some m.0 ≡ None = sym m.1 ∙ c.in-None.ensures in absurd (cc)
