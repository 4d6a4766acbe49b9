use Rattle.std.proofs.Common.{◌≤◌, ◌<◌, ℕ, get_or, length, nat_lt, rules, subst, ◌∙◌}
use Rattle.std.specs.Prelude.{zip}
use Rattle.std.proofs.lemmas.Map.Made.{filter_same_pairs}
use Rattle.pr_log.proofs.Ordered.{forgot, zip_dropped}
use Rattle.pr_log.proofs.by_clock.ByClock.forget.Goals as goal

pub returns : goal.returns
returns c =
    rw (← c.self.view_is) (
    forgot c.args.clock (zip c.self.inside.clocks.items c.self.inside.writes.items) (zip c.drop_front.new.items.items c.drop_front-2.new.items.items) c.self.inside.late.entries c.retain.new.self.entries
    ((λ i. zip (c.drop_front.ensures i) (c.drop_front-2.ensures i))
    ∙ zip_dropped c.self.inside.clocks.items c.self.inside.writes.items c.up_to-count.result c.args.clock
    (subst (λ l. (k d : ℕ) → k < c.up_to-count.result → get_or l k d ≤ c.args.clock) c.deref.ensures.value c.up_to-count.ensures.within)
    (subst (λ l. (k d : ℕ) → c.up_to-count.result ≤ k → k < length l → c.args.clock < get_or l k d) c.deref.ensures.value c.up_to-count.ensures.above))
    (filter_same_pairs _ (λ e. nat_lt c.args.clock e.0) _ (λ k v b w f' t. search rules) _ _ c.retain.ensures.filtered))
