use Rattle.std.proofs.Common.{◌≡◌, ◌≢◌, ◌<◌, ℕ, get_or, length, subst, sym, ◌∙◌}
use Rattle.std.specs.Prelude.{zip}
use Rattle.std.proofs.lemmas.List.Quantifiers.{all_pairs_remove}
use Rattle.pr_log.specs.Entries.{Rise}
use Rattle.pr_log.proofs.Ordered.{zip_removed, zip_without}
use Rattle.pr_log.proofs.by_clock.take_out.Goals as goal

pub returns-in_default-clause-out : goal.returns-in_default-clause-out
returns-in_default-clause-out c =
    zip_without c.args.clocks.now.items c.args.writes.now.items c.args.clock
    (subst (λ l. (k d : ℕ) → k < length l → get_or l k d ≢ c.args.clock) c.deref.ensures.value c.in_default.ensures.none)

pub returns-clause-order : goal.returns-clause-order
returns-clause-order c =
    subst Rise (sym c.remove.ensures.items)
    (all_pairs_remove (λ (a : ℕ) (b : ℕ). a < b) c.args.clocks.now.items c.in-Some.at (subst (λ l. c.in-Some.at < length l) c.deref.ensures.value c.in-Some.ensures.within) c.requires.order)

pub returns-clause-out : goal.returns-clause-out
returns-clause-out c =
    (λ i. zip (c.remove.ensures.items i) (c.remove-2.ensures.items i))
    ∙ zip_removed c.args.clocks.now.items c.args.writes.now.items c.in-Some.at c.args.clock 0 c.requires.order c.requires.pairs
    (subst (λ l. c.in-Some.at < length l) c.deref.ensures.value c.in-Some.ensures.within)
    (subst (λ (l : _). get_or l c.in-Some.at 0 ≡ c.args.clock) c.deref.ensures.value (c.in-Some.ensures.found 0))
