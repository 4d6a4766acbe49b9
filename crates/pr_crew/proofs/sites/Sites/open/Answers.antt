use Rattle.std.proofs.Common.{arith}
use Rattle.pr_crew.proofs.Opening.{all_back, can_close, next_here, opening_more, opening_same}
use Rattle.pr_crew.proofs.sites.Sites.open.Goals as goal

pub open_one-requires-clause-here : goal.open_one-requires-clause-here
open_one-requires-clause-here g c =
    let i = c.loop-node.invariant in
    let r = c.requires.here in
    let all = c.requires.all in
    let many = i.0.beside.nodes in
    let next = c.loop-node-test.true in (
      omega (arith, all, many, next),
      next_here c.args.callers (g.H.Held.state c.args.held.now) (g.H.Held.state c.loop-node.held) c.loop-node.node c.loop-node.sites i.0 r.0 r.1 (r.2 c.loop-node.node (omega (arith, next))),
    )

pub close-requires-clause-sites : goal.close-requires-clause-sites
close-requires-clause-sites g c =
    let i = c.loop-node.invariant in
    let r = c.requires.here in
    let a = g.H.Held.state c.args.held.now in
    let b = g.H.Held.state c.loop-node.held in
    let d = g.H.Held.state c.open_one.new.held in
    let same = c.in-Err.ensures.refused in
    can_close c.args.callers c.args.count a d c.loop-node.node c.open_one.new.self (opening_same c.args.callers a b d c.loop-node.node c.loop-node.sites c.open_one.new.self i.0 c.open_one.ensures.beside same.0 same.1)
    i.1 r.0 r.1 r.2

pub returns-in-Err-clause-back : goal.returns-in-Err-clause-back
returns-in-Err-clause-back g c plan h here n lt =
    let i = c.loop-node.invariant in
    let a = g.H.Held.state c.args.held.now in
    let b = g.H.Held.state c.loop-node.held in
    let d = g.H.Held.state c.open_one.new.held in
    let same = c.in-Err.ensures.refused in
    all_back c.args.callers c.args.count a d c.loop-node.node c.open_one.new.self (opening_same c.args.callers a b d c.loop-node.node c.loop-node.sites c.open_one.new.self i.0 c.open_one.ensures.beside same.0 same.1)
    i.1 (g.H.Held.state c.close.new.held) c.close.ensures.closed c.close.ensures.behind plan h here n lt

pub loop-node-preserved : goal.loop-node-preserved
loop-node-preserved g c =
    let i = c.loop-node.invariant in
    let r = c.requires.here in
    let a = g.H.Held.state c.args.held.now in
    let b = g.H.Held.state c.loop-node.held in
    let d = g.H.Held.state c.open_one.new.held in
    let next = c.loop-node-test.true in
    let all = c.requires.all in
    let few = c.requires.few in
    let cells = c.open_one.ensures.cells in
    let roots = c.open_one.ensures.roots in
    let room = i.2 in
    let space = i.3 in
    let m = next_here c.args.callers a b c.loop-node.node c.loop-node.sites i.0 r.0 r.1 (r.2 c.loop-node.node (omega (arith, next))) in (
      opening_more c.args.callers a b d c.loop-node.node c.loop-node.sites c.open_one.new.self i.0 c.open_one.ensures.beside m.0 (omega (arith, next, few)) (omega (arith, next, all)) m.1
          (c.in-Ok.ensures.opened m.0 m.1) c.in-Ok.ensures.out,
      omega (arith, next),
      omega (arith, room, cells),
      omega (arith, space, roots),
      λ x h k. c.open_one.ensures.records x h (i.4 x h k),
      λ n k. c.open_one.ensures.room n (i.5 n k),
    )

pub returns-clause-opened : goal.returns-clause-opened
returns-clause-opened g c plan h here n lt =
    let i = c.loop-node.invariant in
    let over = c.loop-node-test.false in
    let less = i.1 in
    i.0.opened plan h n (omega (arith, over, lt, less)) (here n lt)
