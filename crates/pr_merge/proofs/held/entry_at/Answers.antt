use Rattle.std.proofs.Common.{◌≡◌, ◌<◌, ◌∙◌, ℕ, List, sym, ap, subst, get_or, length, reverse}
use Rattle.std.specs.Prelude.{Some, None}
use Rattle.pr_merge.proofs.Holding.{here, node_is, place_within, stands_at}
use Rattle.pr_merge.proofs.held.entry_at.Goals as goal

pub place_at-node-requires : goal.place_at-node-requires
place_at-node-requires g c =
    let r = c.requires in
    subst (λ (ps : List (ℕ × ℕ)). c.args.at < length ps) (sym c.history.ensures) (place_within g.H.Node.Journaled.journal r.0 (g.H.Held.state c.args.held.now) r.1 c.args.at r.2)

pub entry_in-requires : goal.entry_in-requires
entry_in-requires g c =
    let r = c.requires in
    let m = c.in-Some.ensures in
    (stands_at g.H.Node.Journaled.journal r.0 (g.H.Held.state c.args.held.now) r.1 c.args.at r.2 c.place_at-node.result (c.place_at-node.ensures ∙ ap (λ (ps : List (ℕ × ℕ)). get_or ps c.args.at (0, 0)) c.history.ensures)
    c.in-Some.journal.now.items m.0 m.1 m.2).0

pub unreachable-requires : goal.unreachable-requires
unreachable-requires g c =
    let r = c.requires in
    let is = c.place_at-node.ensures ∙ ap (λ (ps : List (ℕ × ℕ)). get_or ps c.args.at (0, 0)) c.history.ensures in
    here g.H.Node.Journaled.journal r.0 (g.H.Held.state c.args.held.now) r.1 c.args.at r.2
    (subst (λ (p : ℕ × ℕ). get_or (g.H.Held.state c.args.held.now).nodes p.0 None ≡ None) is c.in-None.ensures)

pub returns-clause-node : goal.returns-clause-node
returns-clause-node g c h e a lt =
    let is = c.place_at-node.ensures ∙ ap (λ (ps : List (ℕ × ℕ)). get_or ps c.args.at (0, 0)) c.history.ensures in
    ap (λ (p : ℕ × ℕ). p.0) is ∙ node_is g.H.Node.Journaled.journal h (g.H.Held.state c.args.held.now) a c.args.at lt e

pub returns-clause-entry : goal.returns-clause-entry
returns-clause-entry g c h e a lt =
    let m = c.in-Some.ensures in
    let is = c.place_at-node.ensures ∙ ap (λ (ps : List (ℕ × ℕ)). get_or ps c.args.at (0, 0)) c.history.ensures in
    let there = stands_at g.H.Node.Journaled.journal h (g.H.Held.state c.args.held.now) a c.args.at lt c.place_at-node.result is c.in-Some.journal.now.items m.0 m.1 m.2 in
    c.entry_in.ensures (get_or (reverse h) c.args.at e).entry ∙ there.1 e (get_or (reverse h) c.args.at e).entry
