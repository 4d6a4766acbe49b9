use Rattle.std.proofs.Common.{◌≡◌, ℕ, Global, Vec, get_or, length, sym, subst, ap, ◌∙◌, arith}
use Rattle.std.proofs.lemmas.List.{get_or-set_other, length-set}
use Rattle.pr_story.specs.History.{journal}
use Rattle.pr_crew.specs.Assembly.{parts_of}
use Rattle.pr_crew.specs.Rooms.{HasPlacesFor}
use Rattle.pr_crew.proofs.Filling.{fits_more, parts_more, pushed_length}
use Rattle.pr_crew.proofs.room.fill.Goals as goal

pub times_since-made-requires : goal.times_since-made-requires
times_since-made-requires g c =
    let n : ℕ = c.loop-node.node in
    let any : Vec ℕ Global = c.index_mut.result.now in
    let next = c.loop-node-test.true in
    let (h, nodes, made, places) = c.requires.made in
    let taken : c.replace-room.result ≡ get_or c.args.times.now.items n any = c.replace-room.ensures.value ∙ c.index_mut.ensures.value ∙ c.loop-node.invariant.later n any (omega arith) in
    record { made = (journal h n, nodes n, made n next, subst (λ (v : Vec ℕ Global). HasPlacesFor (nodes n) v) (sym taken) (places n any next)) }

pub loop-node-preserved : goal.loop-node-preserved
loop-node-preserved g c =
    let n : ℕ = c.loop-node.node in
    let inv = c.loop-node.invariant in
    let next = c.loop-node-test.true in
    let room = inv.room in
    let capacity = c.push_reserved.ensures.capacity in
    record {
      few = omega (arith, next);
      long = pushed_length c.loop-node.parts.items c.push_reserved.new.self.items c.from_vec.result n c.push_reserved.ensures.items inv.long;
      room = omega (arith, room, capacity);
      many = length-set c.loop-node.times.items n c.replace-room.new.dest ∙ inv.many;
      later = λ m any le. get_or-set_other c.loop-node.times.items n m c.replace-room.new.dest any (λ same. omega (arith, same, le)) ∙ inv.later m any (omega (arith, le));
      parts = λ h nodes made. c.push_reserved.ensures.items
          ∙ parts_more nodes n c.loop-node.parts.items c.from_vec.result (inv.parts h nodes made) (c.from_vec.ensures ∙ c.times_since-made.ensures.times (journal h n) (nodes n) (made n next));
      fits = λ h nodes made. fits_more c.args.opened.now nodes n (inv.fits h nodes made) (c.times_since-made.ensures.fits (journal h n) (nodes n) (made n next));
    }

pub returns-clause-parts : goal.returns-clause-parts
returns-clause-parts g c h nodes made =
    let inv = c.loop-node.invariant in
    let over = c.loop-node-test.false in
    let few = inv.few in
    let end : c.loop-node.node ≡ length c.args.opened.now = omega (arith, over, few) in
    inv.parts h nodes made ∙ ap (λ (k : ℕ). parts_of nodes k) end

pub returns-clause-fits : goal.returns-clause-fits
returns-clause-fits g c h nodes made n lt =
    let over = c.loop-node-test.false in
    c.loop-node.invariant.fits h nodes made n (omega (arith, over, lt))
