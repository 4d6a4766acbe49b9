use Rattle.std.proofs.Common.{◌≡◌, ℕ, List, ◌∙◌, sym, subst, refl, true, false, reverse}
use Rattle.pr_names.specs.Span.{Span}
use Rattle.pr_vectors.specs.Vector.{Le}
use Rattle.pr_inval.specs.Standing.{means}
use Rattle.pr_story.specs.History.{current_vector}
use Rattle.pr_story.specs.Knowledge.{cuts_of}
use Rattle.pr_story.specs.Turns.{IsTurn}
use Rattle.pr_story.specs.Sending.{IsAhead, IsBodyTurn, turn_of}
use Rattle.pr_story.proofs.Sendings.{sends, body_turn}
use Rattle.pr_story.proofs.Withholding.{if_ok}
use Rattle.pr_story.proofs.plain.turns.turn.Goals as goal

pub returns-then-not-le-2 : goal.returns-then-not-le-2
returns-then-not-le-2 c =
    let j = reverse c.args.entries.now in
    let st = (means c.args.session.now).standing in
    let low : Le (cuts_of j) st.position =
    subst (λ (v : List ℕ). Le (cuts_of j) v) c.pos-position.ensures.value (subst (λ (v : List ℕ). Le v c.pos-position.result.now) c.cuts_of-cut.ensures (c.if-not-le.ensures.0 refl)) in
    let past : Le (current_vector j) st.position → ⊥ = λ l.
    let f : false ≡ true = c.if-not-le-2.ensures.1 (subst (λ (v : List ℕ). Le v c.pos-position.result.now) (sym c.current_vector.ensures) (subst (λ (v : List ℕ). Le (current_vector j) v) (sym c.pos-position.ensures.value) l)) in cc in
    sends c.args.node j st c.in_ok-kind.kind low past
    (subst (λ (s : List Span). IsAhead c.args.node j s st.position c.in_ok-kind.kind) c.sub.ensures.value (subst (λ (v : List ℕ). IsAhead c.args.node j c.sub.result.now v c.in_ok-kind.kind) c.pos-position.ensures.value c.in_ok-kind.ensures))

pub returns-then-bodies : goal.returns-then-bodies
returns-then-bodies c =
    let j = reverse c.args.entries.now in
    let st = (means c.args.session.now).standing in
    let low : Le (cuts_of j) st.position =
    subst (λ (v : List ℕ). Le (cuts_of j) v) c.pos-position.ensures.value (subst (λ (v : List ℕ). Le v c.pos-position.result.now) c.cuts_of-cut.ensures (c.if-not-le.ensures.0 refl)) in
    let high : Le (current_vector j) st.position =
    subst (λ (v : List ℕ). Le (current_vector j) v) c.pos-position.ensures.value (subst (λ (v : List ℕ). Le v c.pos-position.result.now) c.current_vector.ensures (c.if-not-le-2.ensures.0 refl)) in
    if_ok c.next_body.result (IsBodyTurn j st) (λ next. IsTurn c.args.node j st (turn_of next))
    (λ x is. body_turn c.args.node j st x low high (sym c.bodies.ensures ∙ c.if-bodies.true) is)
    c.next_body.ensures
