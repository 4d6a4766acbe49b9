use Rattle.std.proofs.Common.{◌≡◌, ◌∙◌, ℕ, ap, arith, length, subst, sym}
use Rattle.pr_crew.proofs.Closing.{HasClosed, beside_then, closed_more, front_less, is_small, last_pass, last_root, within}
use Rattle.pr_crew.proofs.sites.Sites.close.Goals as goal

pub take_root-root-requires : goal.take_root-root-requires
take_root-root-requires g c =
    let left = c.pop.new.self.items in
    let place : c.len-at.result ≡ length left = c.len-at.ensures ∙ c.pop.new.self.ok.0 in
    let i = c.loop-cell.invariant in
    let in_s = within c.args.self c.loop-cell.self left c.len-at.result c.in-Some.cell i.0 place c.in-Some.ensures.items in
    last_root c.args.self c.loop-cell.self left c.len-at.result c.in-Some.cell i.0 place c.in-Some.ensures.items (c.requires.sites c.len-at.result in_s)

pub overflow_cast-at : goal.overflow_cast-at
overflow_cast-at g c =
    let left = c.pop.new.self.items in
    let place : c.len-at.result ≡ length left = c.len-at.ensures ∙ c.pop.new.self.ok.0 in
    let i = c.loop-cell.invariant in
    let in_s = within c.args.self c.loop-cell.self left c.len-at.result c.in-Some.cell i.0 place c.in-Some.ensures.items in
    let small = is_small c.args.self c.loop-cell.self left c.len-at.result c.in-Some.cell i.0 place c.in-Some.ensures.items (c.requires.sites c.len-at.result in_s) in
    omega (arith, small)

pub close_one-requires-clause-pass : goal.close_one-requires-clause-pass
close_one-requires-clause-pass g c =
    let left = c.pop.new.self.items in
    let place : c.len-at.result ≡ length left = c.len-at.ensures ∙ c.pop.new.self.ok.0 in
    let i = c.loop-cell.invariant in
    let in_s = within c.args.self c.loop-cell.self left c.len-at.result c.in-Some.cell i.0 place c.in-Some.ensures.items in
    last_pass c.args.self c.loop-cell.self left c.len-at.result c.in-Some.cell i.0 place c.in-Some.ensures.items c.take_root-root.result c.take_root-root.ensures.root (c.requires.sites c.len-at.result in_s)

pub loop-cell-preserved : goal.loop-cell-preserved
loop-cell-preserved g c =
    let left = c.pop.new.self.items in
    let place : c.len-at.result ≡ length left = c.len-at.ensures ∙ c.pop.new.self.ok.0 in
    let i = c.loop-cell.invariant in
    let in_s = within c.args.self c.loop-cell.self left c.len-at.result c.in-Some.cell i.0 place c.in-Some.ensures.items in
    let a = g.H.Held.state c.args.held.now in
    let b = g.H.Held.state c.loop-cell.held in
    let d = g.H.Held.state c.close_one.new.held in
    let u = c.take_root-root.new.self in
    let cells : u.cells.items ≡ left = λ k. (c.take_root-root.ensures.cells k).items in
    let m = c.close_one.ensures.closed in
    let many = i.1.many in
    let slots = c.requires.slots in (
      front_less c.args.self c.loop-cell.self left c.len-at.result c.in-Some.cell i.0 place c.in-Some.ensures.items u cells c.take_root-root.ensures.roots,
      subst (λ (k : ℕ). HasClosed c.args.self k a.nodes d.nodes) (place ∙ ap length (sym cells))
          (closed_more c.args.self c.loop-cell.self left c.len-at.result c.in-Some.cell i.0 place c.in-Some.ensures.items a.nodes b.nodes d.nodes c.take_root-root.result m.0 i.1 c.take_root-root.ensures.root m.1
          (omega (arith, many, slots, in_s)) m.2),
      beside_then a b d i.2 c.close_one.ensures.beside,
      λ x h r. c.close_one.ensures.records x h (i.3 x h r),
      λ n r. c.close_one.ensures.room n (i.4 n r),
    )

pub returns-clause-closed : goal.returns-clause-closed
returns-clause-closed g c plan h n d p site of =
    let none = c.in_default.ensures.cases in
    let k = c.loop-cell.self.cells.ok.0 in
    c.loop-cell.invariant.1.closed plan h n d p (omega (arith, none.0, k)) site of
