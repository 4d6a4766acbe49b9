use Rattle.std.proofs.Common.{◌∙◌, [], ap, rules}
use Rattle.std.proofs.lemmas.List.Sorted.{answers_always}
use Rattle.pr_names.specs.Span.{Span}
use Rattle.pr_sets.specs.Joining.{puts}
use Rattle.pr_sets.proofs.Reading.{in_order_of, joined_in_order}
use Rattle.pr_sets.proofs.read.listed.Goals as goal

pub returns-clause-list : goal.returns-clause-list
returns-clause-list c =
    (joined_in_order c.args.parts.items c.sort_unstable_by_key.new.self.items c.finish.result c.requires c.sort_unstable_by_key.ensures.permutation
    (in_order_of c.sort_unstable_by_key.new.self.items (c.sort_unstable_by_key.ensures.sorted (λ (s : Span). s.lo) (answers_always _ _ _ (λ f a r g h. search rules))))
    (c.finish.ensures ∙ c.in_ok-put_all.ensures ∙ ap (λ ts. puts ts c.deref.result.now) c.new-joiner.ensures ∙ ap (puts []) c.deref.ensures.value)).0

pub returns-clause-set : goal.returns-clause-set
returns-clause-set c =
    (joined_in_order c.args.parts.items c.sort_unstable_by_key.new.self.items c.finish.result c.requires c.sort_unstable_by_key.ensures.permutation
    (in_order_of c.sort_unstable_by_key.new.self.items (c.sort_unstable_by_key.ensures.sorted (λ (s : Span). s.lo) (answers_always _ _ _ (λ f a r g h. search rules))))
    (c.finish.ensures ∙ c.in_ok-put_all.ensures ∙ ap (λ ts. puts ts c.deref.result.now) c.new-joiner.ensures ∙ ap (puts []) c.deref.ensures.value)).1
