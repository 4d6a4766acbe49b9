use Rattle.std.proofs.Common.{◌≡◌, ℕ, ◌<◌, List, sym, ◌∙◌, ap, subst, length, get_or, reverse}
use Rattle.std.specs.Prelude.{None}
use Rattle.pr_node.specs.Stored.{Stored, means}
use Rattle.pr_story.specs.declared.entry.Entry.{Entry}
use Rattle.pr_sim.proofs.Step.{some_is}
use Rattle.pr_sim.proofs.Telling.{node_stands, place_stands, some_entry, within_places}
use Rattle.pr_sim.proofs.engine.Engine.entry.Goals as goal

pub place_at-node-requires : goal.place_at-node-requires
place_at-node-requires c = within_places c.requires.0 c.requires.1 c.args.self.now c.requires.2 c.as_slice.result.now c.args.at c.as_slice.ensures c.requires.3

pub node_at-requires : goal.node_at-requires
node_at-requires c =
    let d = c.requires.0 in
    let h = c.requires.1 in
    let e = c.args.self.now in
    let x = some_entry in
    let at = place_stands d h e c.requires.2 c.as_slice.result.now c.place_at-node.result c.args.at x c.as_slice.ensures c.requires.3 c.place_at-node.ensures in
    let m = node_stands d h e c.requires.2 c.args.at x c.requires.3 in
    (m.0, ap (λ (i : ℕ). get_or e.nodes.items i None) at.node ∙ m.1)

pub entry_at-requires : goal.entry_at-requires
entry_at-requires c =
    let d = c.requires.0 in
    let h = c.requires.1 in
    let e = c.args.self.now in
    let x = some_entry in
    let at = place_stands d h e c.requires.2 c.as_slice.result.now c.place_at-node.result c.args.at x c.as_slice.ensures c.requires.3 c.place_at-node.ensures in
    let m = node_stands d h e c.requires.2 c.args.at x c.requires.3 in
    let same : c.node_at.result.now ≡ m.0 = some_is c.node_at.result.now m.0 (get_or e.nodes.items c.place_at-node.result.0 None) c.node_at.ensures (ap (λ (i : ℕ). get_or e.nodes.items i None) at.node ∙ m.1) in
    subst (λ (j : List Entry). c.place_at-node.result.1 < length j) (sym (ap (λ (y : Stored). (means y).journal) same ∙ m.2)) at.within

pub returns : goal.returns
returns c d h x tells lt =
    let e = c.args.self.now in
    let at = place_stands d h e tells c.as_slice.result.now c.place_at-node.result c.args.at x c.as_slice.ensures lt c.place_at-node.ensures in
    let m = node_stands d h e tells c.args.at x lt in
    let same : c.node_at.result.now ≡ m.0 = some_is c.node_at.result.now m.0 (get_or e.nodes.items c.place_at-node.result.0 None) c.node_at.ensures (ap (λ (i : ℕ). get_or e.nodes.items i None) at.node ∙ m.1) in
    let none : Entry = (get_or (reverse h) c.args.at x).entry in
    c.entry_at.ensures none ∙ ap (λ (j : List Entry). get_or (reverse j) c.place_at-node.result.1 none) (ap (λ (y : Stored). (means y).journal) same ∙ m.2) ∙ at.entry none
