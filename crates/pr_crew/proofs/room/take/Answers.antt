use Rattle.std.proofs.Common.{◌≡◌, ℕ, length, refl, ap, ◌∙◌, arith}
use Rattle.pr_crew.specs.Rooms.{total_at}
use Rattle.pr_crew.proofs.Filling.{has_room, knows_more, taking_more}
use Rattle.pr_crew.proofs.room.take.Goals as goal

pub loop-node-init : goal.loop-node-init
loop-node-init g c = record {
  taking = record {
    opened = ap (λ l. length l) c.in_ok-with_capacity.ensures.items;
    times = ap (λ l. length l) c.in_ok-with_capacity-2.ensures.items;
    each = λ n any lt. absurd (omega (arith, lt));
    parts = c.in_ok-with_capacity-3.ensures.items;
    parts_fit = c.in_ok-with_capacity-3.ensures.capacity;
    merged = c.new.ensures;
    places = c.new-2.ensures;
    most_is = refl;
    most_few = omega arith;
  };
  knows = λ plan h here n any lt. absurd (omega (arith, lt));
  few = omega arith;
}

pub overflow_add-most : goal.overflow_add-most
overflow_add-most g c =
    let inv = c.loop-node.invariant in
    let so_far = inv.taking.most_few in
    let few = c.most_at-here.ensures.few in
    let next = c.loop-node-test.true in
    let small = c.requires.small.2 in
    omega (arith, so_far, few, next, small)

pub loop-node-preserved : goal.loop-node-preserved
loop-node-preserved g c =
    let inv = c.loop-node.invariant in
    let next = c.loop-node-test.true in
    record {
      taking = taking_more c.args.works.now c.args.count c.loop-node.node c.loop-node.most c.most_at-here.result c.len_of.result c.loop-node.room
          (record { alloc = c.loop-node.room.alloc; opened = c.push-in-loop-node.new.self; times = c.push.new.self; parts = c.loop-node.room.parts; merged = c.loop-node.room.merged; places = c.loop-node.room.places })
          c.in_ok-with_capacity-4.field-0 inv.taking c.most_at-here.ensures.most c.most_at-here.ensures.few c.in_ok-with_capacity-4.ensures.items c.in_ok-with_capacity-4.ensures.capacity
          c.in_ok-push.ensures.items c.in_ok-push-2.ensures.items refl refl refl;
      knows = λ plan h here. knows_more plan h c.loop-node.node c.len_of.result (g.H.Held.state c.args.held.now) c.loop-node.room.opened.items c.push-in-loop-node.new.self.items inv.taking.opened
          (inv.knows plan h here) (here c.loop-node.node next) c.len_of.ensures c.in_ok-push-2.ensures.items;
      few = omega (arith, next);
    }

pub returns-clause-room : goal.returns-clause-room
returns-clause-room g c =
    let inv = c.loop-node.invariant in
    let end : c.loop-node.node ≡ c.args.count = (let over = c.loop-node-test.false in let few = inv.few in omega (arith, over, few)) in
    has_room c.args.works.now c.args.count c.loop-node.node c.loop-node.most c.loop-node.room c.reserve.new.self c.reserve-2.new.self inv.taking end c.requires.small.2
    c.in_ok-reserve.ensures.items c.in_ok-reserve.ensures.ok c.in_ok-reserve-2.ensures.items c.in_ok-reserve-2.ensures.ok

pub returns-clause-opened : goal.returns-clause-opened
returns-clause-opened g c plan h here n any lt =
    let inv = c.loop-node.invariant in
    let over = c.loop-node-test.false in
    inv.knows plan h here n any (omega (arith, over, lt))

pub returns-clause-history : goal.returns-clause-history
returns-clause-history g c n le =
    let inv = c.loop-node.invariant in
    let end : c.loop-node.node ≡ c.args.count = (let over = c.loop-node-test.false in let few = inv.few in omega (arith, over, few)) in
    let total : c.loop-node.most ≡ total_at c.args.works.now c.args.count = inv.taking.most_is ∙ ap (λ (k : ℕ). total_at c.args.works.now k) end in
    c.in_ok-reserve-3.ensures.ok n (omega (arith, total, le))
