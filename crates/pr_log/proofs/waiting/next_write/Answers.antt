use Rattle.std.proofs.Common.{arith, subst, sym, set, ◌<◌, ◌≤◌, ◌+◌, ◌∙◌, ℕ}
use Rattle.std.specs.Prelude.{option_copied}
use Rattle.pr_log.specs.Waiting.{AreListed, head_of}
use Rattle.pr_log.proofs.Merge.{IsHead, first_head, follows, least_node, left, next_is, no_heads, none_is, set_listed, start_left, turn_heads, turn_left}
use Rattle.pr_log.proofs.waiting.next_write.Given.{Over}
use Rattle.pr_log.proofs.waiting.next_write.Goals as goal

pub find_heads-requires-clause-none : goal.find_heads-requires-clause-none
find_heads-requires-clause-none g c k = no_heads k

pub loop-write-init : goal.loop-write-init
loop-write-init g c = record {
  listed = c.find_heads.ensures.listed;
  each = λ n lt. first_head c.args.index.now c.args.pos.now c.args.sub.now n (head_of c.find_heads.new.heads n) (c.find_heads.ensures.each n lt);
  few = omega (arith, start_left c.args.index.now c.args.pos.now c.find_heads.new.heads c.find_heads.ensures.each, c.find_heads.ensures.steps);
}

pub returns-then-has-clause-next : goal.returns-then-has-clause-next
returns-then-has-clause-next g c = next_is c.args.index.now c.args.pos.now c.args.sub.now c.loop-write.heads c.in-Some.write.now c.by_stamp.ensures c.loop-write.invariant.each c.in-Some.ensures (sym c.has.ensures ∙ c.if-has.true)

fewer : (g : Over) (c : goal.After-take_out g) → left c.args.index.now (set c.loop-write.heads c.node-node.result c.next.result) + 1 ≤ left c.args.index.now c.loop-write.heads
fewer g c =
    subst (λ n. left c.args.index.now (set c.loop-write.heads n c.next.result) + 1 ≤ left c.args.index.now c.loop-write.heads) (sym c.node-node.ensures.node)
    (turn_left c.args.index.now c.loop-write.heads c.in-Some.write.now c.next.result c.loop-write.invariant.listed.len c.node-node.ensures.range.known_node
    (least_node c.args.index.now c.args.pos.now c.args.sub.now c.loop-write.heads c.in-Some.write.now c.loop-write.invariant.each c.in-Some.ensures).0
    (follows c.args.index.now c.node-node.result c.clock.result c.in-Some.write.now (option_copied c.next.result) c.node-node.ensures.node c.clock.ensures.clock c.next.ensures.next))

pub take_out-requires-clause-listed : goal.take_out-requires-clause-listed
take_out-requires-clause-listed g c =
    subst (λ n. AreListed (set c.loop-write.heads n c.next.result) c.loop-write.nodes.at c.loop-write.nodes.count 32) (sym c.node-node.ensures.node)
    (set_listed c.loop-write.heads c.loop-write.nodes.at c.loop-write.nodes.count c.in-Some.write.now.stamp.node c.next.result c.in-Some.write.now c.loop-write.invariant.listed c.node-node.ensures.range.known_node
    (least_node c.args.index.now c.args.pos.now c.args.sub.now c.loop-write.heads c.in-Some.write.now c.loop-write.invariant.each c.in-Some.ensures).0)

pub loop-write-smaller : goal.loop-write-smaller
loop-write-smaller g c = omega (arith, fewer g c)

pub loop-write-preserved : goal.loop-write-preserved
loop-write-preserved g c = record {
  listed = c.take_out.ensures;
  each = subst (λ n. (k : ℕ) → k < 32 → IsHead c.args.index.now c.args.pos.now c.args.sub.now k (head_of (set c.loop-write.heads n c.next.result) k)) (sym c.node-node.ensures.node)
      (turn_heads c.args.index.now c.args.pos.now c.args.sub.now c.loop-write.heads c.in-Some.write.now c.next.result c.loop-write.invariant.listed.len c.by_stamp.ensures c.loop-write.invariant.each c.in-Some.ensures (sym c.has.ensures ∙ c.if-has.false)
      (follows c.args.index.now c.node-node.result c.clock.result c.in-Some.write.now (option_copied c.next.result) c.node-node.ensures.node c.clock.ensures.clock c.next.ensures.next));
  few = omega (arith, fewer g c, c.loop-write.invariant.few, c.next.ensures.step);
}

pub returns-clause-next : goal.returns-clause-next
returns-clause-next g c = none_is c.args.index.now c.args.pos.now c.args.sub.now c.loop-write.heads c.by_stamp.ensures c.loop-write.invariant.each c.in_default.ensures
