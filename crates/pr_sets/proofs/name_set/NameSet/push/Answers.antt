use Rattle.std.proofs.Common.{subst, sym, IsTrue}
use Rattle.pr_sets.specs.Spans.{is_behind}
use Rattle.pr_sets.proofs.Behind.{set_grows}
use Rattle.pr_sets.proofs.name_set.NameSet.push.Goals as goal

pub invariant_of-self : goal.invariant_of-self
invariant_of-self c =
    set_grows c.push.result c.self.inside.parts c.push.new.self c.args.part c.self.invariant c.lo.ensures.interval (subst (λ ts. IsTrue (is_behind ts c.args.part)) (sym c.self.view_is) c.requires) c.push.ensures.ok c.push.ensures.err
