use Rattle.std.proofs.Common.{rules, ◌≡◌, Some, false}
use Rattle.std.specs.Map.Iter.{deref_pair}
use Rattle.std.proofs.lemmas.Cmp.{nat_list_cmp_total}
use Rattle.std.proofs.lemmas.Map.Iter.{btree_map_turn, rest_more}
use Rattle.pr_sets.specs.Spans.{has}
use Rattle.pr_log.specs.Latest.{clock_by}
use Rattle.pr_log.proofs.LastClocks.{gathered_more}
use Rattle.pr_log.proofs.latest.Latest.above.Goals as goal

pub loop-name-preserved-in-Continue-1 : goal.loop-name-preserved-in-Continue-1
loop-name-preserved-in-Continue-1 c o name =
    let here : clock_by c.args.self.now c.in-Some.name.now ≡ Some c.in-Some.last.now =
    rw (← c.self.view_is) (
    (btree_map_turn deref_pair c.loop-name.yielded c.into_iter-name-iterator.result c.loop-name.name-iterator c.next.new.self c.next.result (c.in-Some.name, c.in-Some.last) c.loop-name.yielded_by c.in-Some.is c.next.ensures.steps nat_list_cmp_total c.self.inside.clocks (search rules) c.iter-name-items.ensures.ordered).1) in
    gathered_more c.args.self.now _ _ c.args.sub.now c.args.clock c.in-Some.last.now c.in-Some.name.now o false (has c.loop-name.above o) (has c.put_outside.new.set o)
    (rest_more deref_pair _ _ c.next.result (c.in-Some.name, c.in-Some.last) c.in-Some.is c.next.ensures.steps)
    here
    c.if-last-clock.true
    (c.in_ok-put_outside.ensures o name)
    (c.loop-name.invariant o name)
