use Rattle.std.proofs.Common.{rules, not, nat_eq}
use Rattle.std.specs.Prelude.{zip}
use Rattle.std.proofs.lemmas.Map.Made.{filter_same_pairs}
use Rattle.pr_log.proofs.Ordered.{taken_out}
use Rattle.pr_log.proofs.by_clock.ByClock.remove.Goals as goal

pub returns : goal.returns
returns c =
    rw (← c.self.view_is) (
    taken_out (zip c.self.inside.clocks.items c.self.inside.writes.items) (zip c.take_out.new.clocks.items c.take_out.new.writes.items) c.self.inside.late.entries c.retain.new.self.entries c.args.clock
    c.take_out.ensures.out
    (filter_same_pairs _ (λ e. not (nat_eq e.0 c.args.clock)) _ (λ k v b w f' t. search rules) _ _ c.retain.ensures.filtered))
