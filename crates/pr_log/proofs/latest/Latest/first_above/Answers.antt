use Rattle.std.proofs.Common.{rules, ◌≡◌, ◌<◌, List, Some, inr, length, subst}
use Rattle.std.specs.Map.Iter.{deref_pair}
use Rattle.std.proofs.lemmas.Cmp.{nat_list_cmp_total}
use Rattle.std.proofs.lemmas.Map.Iter.{btree_map_turn, rest_more}
use Rattle.pr_names.specs.Span.{Span}
use Rattle.pr_log.specs.Latest.{clock_by}
use Rattle.pr_log.proofs.Many.{first_many, first_more, first_past}
use Rattle.pr_log.proofs.latest.Latest.first_above.Goals as goal

pub returns-then-parts-most : goal.returns-then-parts-most
returns-then-parts-most c = inr (first_many c.args.most c.args.self.now c.loop-name.name-iterator c.args.sub.now c.args.clock c.loop-name.above
    (subst (λ (ss : List Span). c.args.most < length ss) c.parts.ensures.value c.if-parts-most.true) c.parts.ensures.set c.loop-name.invariant)

pub loop-name-preserved-in-Continue-1 : goal.loop-name-preserved-in-Continue-1
loop-name-preserved-in-Continue-1 c =
    let here : clock_by c.args.self.now c.in-Some.name.now ≡ Some c.in-Some.last.now =
    rw (← c.self.view_is) (
    (btree_map_turn deref_pair c.loop-name.yielded c.into_iter-name-iterator.result c.loop-name.name-iterator c.next.new.self c.next.result (c.in-Some.name, c.in-Some.last) c.loop-name.yielded_by c.in-Some.is c.next.ensures.steps nat_list_cmp_total c.self.inside.clocks (search rules) c.iter-name-items.ensures.ordered).1) in
    first_more c.args.self.now c.loop-name.name-iterator c.next.new.self c.args.sub.now c.args.clock c.in-Some.last.now c.in-Some.name.now c.loop-name.above c.put_outside.new.set
    (rest_more deref_pair _ _ c.next.result (c.in-Some.name, c.in-Some.last) c.in-Some.is c.next.ensures.steps)
    here c.if-clock-last.true c.in_ok-put_outside.ensures c.loop-name.invariant

pub loop-name-preserved : goal.loop-name-preserved
loop-name-preserved c =
    first_past c.args.self.now c.loop-name.name-iterator c.next.new.self c.args.sub.now c.args.clock c.in-Some.last.now c.in-Some.name.now c.loop-name.above
    (rest_more deref_pair _ _ c.next.result (c.in-Some.name, c.in-Some.last) c.in-Some.is c.next.ensures.steps)
    c.if-clock-last.false c.loop-name.invariant
