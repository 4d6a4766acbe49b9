-- A stream has one turn.
use Rattle.std.proofs.Common.{◌≡◌, ℕ, ◌<◌, ◌≤◌, inl, inr, List, refl, sym, ◌∙◌, ap, subst, arith, length}
use Rattle.std.specs.Prelude.{Some}
use Rattle.pr_stamps.specs.Point.{Point}
use Rattle.pr_vectors.specs.Vector.{join_of, cut_of, below_of}
use Rattle.pr_names.specs.Span.{Span}
use Rattle.pr_inval.specs.declared.kind.Kind.TheVariants.{Precise, Imprecise, Checkpoint, Body}
use Rattle.pr_inval.specs.declared.write_rec.WriteRec.{WriteRec}
use Rattle.pr_story.specs.declared.entry.Entry.{Entry}
use Rattle.pr_story.specs.History.{current_vector, journal}
use Rattle.pr_story.specs.Knowledge.{Knows, WasNamed, IsNewestKnown, held_body}
use Rattle.pr_inval.specs.Standing.{Standing}
use Rattle.pr_story.specs.Turns.{IsNextWrite, IsWithheld, IsTarget, IsTurn, Turn, StaleTurn, IdleTurn, SendTurn}
use Rattle.pr_story.proofs.Clocks.{neither_before}
use Rattle.pr_story.proofs.Known.{same_point, known_told}
use Rattle.pr_story.proofs.World.{told_one}
use Rattle.pr_story.proofs.Steps.{valid_world}
use Rattle.pr_story.proofs.Sets.{one_set, name_order}
use Rattle.pr_story.proofs.Alike.{greatest_one}
use Rattle.pr_story.specs.Statements.{OneTurn}

-- Premise: known writes are known by their stamps.
module _ (n : ℕ) (j : List Entry) (one_write : (x y : WriteRec) → Knows j x → Knows j y → x.stamp ≡ y.stamp → x ≡ y) (st : Standing) where
  next_one : (x y : WriteRec) → IsNextWrite j st.names st.position x → IsNextWrite j st.names st.position y → x ≡ y
  next_one x y p q =
      let e : (x.stamp.clock ≡ y.stamp.clock) × (x.stamp.node ≡ y.stamp.node) = neither_before x.stamp y.stamp (q.1 x p.0) (p.1 y q.0) in
      one_write x y p.0.0 q.0.0 (same_point x.stamp y.stamp e.0 e.1)

  target_one : (end : List ℕ) (a b : List Span) → IsTarget n j st.names st.position end a → IsTarget n j st.names st.position end b → a ≡ b
  target_one end a b p q = elim p [
    | inl fine ↦ elim q [
      | inl too ↦ one_set a b (IsWithheld n j st.names st.position end) fine.0 too.0
      | inr coarse ↦ let over : 16 < length a = coarse.0 a fine.0 in let few : length a ≤ 16 = fine.1 in absurd (omega arith)
    ]
    | inr coarse ↦ elim q [
      | inl fine ↦ let over : 16 < length b = coarse.0 b fine.0 in let few : length b ≤ 16 = fine.1 in absurd (omega arith)
      | inr too ↦ one_set a b _ coarse.1 too.1
    ]
  ]

  -- an imprecise message and a precise one do not both come next
  mixed : (f v : List ℕ) (x : List Span) (g w : List ℕ) (y : WriteRec) → IsTurn n j st (SendTurn (Imprecise f v x)) → IsTurn n j st (SendTurn (Precise g w y)) → ⊥
  mixed f v x g w y p q = elim p.4 [
    | inl none ↦ none.0 y q.3.0
    | inr next ↦
        let same : next.0 ≡ y = next_one next.0 y next.1 q.3 in
        let end : v ≡ join_of st.position (below_of (current_vector j) y.stamp) = next.2 ∙ ap (λ (k : WriteRec). join_of st.position (below_of (current_vector j) k.stamp)) same in
        q.5 next.3.0 next.3.1 (subst (λ (u : List ℕ). IsWithheld n j st.names st.position u next.3.0) end next.3.2)
  ]

  pub turn_one : (a b : Turn) → IsTurn n j st a → IsTurn n j st b → a ≡ b
  turn_one (StaleTurn a) (StaleTurn b) p q = ap (λ (v : List ℕ). StaleTurn v) (p.0 ∙ sym q.0)
  turn_one IdleTurn IdleTurn p q = refl
  turn_one (SendTurn (Body o s x)) (SendTurn (Body u t y)) p q =
      let names : o ≡ u = name_order o u (q.3.1 o s x p.3.0) (p.3.1 u t y q.3.0) in
      let known : IsNewestKnown j u (Some s) = subst (λ (k : List ℕ). IsNewestKnown j k (Some s)) names p.3.0.1 in
      let stamps : Some s ≡ Some t = greatest_one (WasNamed j u) (Some s) (Some t) known q.3.0.1 in
      let st2 : s ≡ t = cc in
      let bytes : Some x ≡ Some y = sym p.3.0.3 ∙ ap (λ (k : List ℕ). held_body j k s) names ∙ ap (λ (k : Point). held_body j u k) st2 ∙ q.3.0.3 in
      cc
  turn_one (SendTurn (Imprecise f v x)) (SendTurn (Imprecise g w y)) p q =
      let ends : v ≡ w = elim p.4 [
        | inl none ↦ elim q.4 [ inl too ↦ none.1 ∙ sym too.1 | inr next ↦ absurd (none.0 next.0 next.1.0) ]
        | inr next ↦ elim q.4 [ inl none ↦ absurd (none.0 next.0 next.1.0) | inr too ↦ next.2 ∙ ap (λ (k : WriteRec). join_of st.position (below_of (current_vector j) k.stamp)) (next_one next.0 too.0 next.1 too.1) ∙ sym too.2 ]
      ] in
      let targets : x ≡ y = target_one w x y (subst (λ (k : List ℕ). IsTarget n j st.names st.position k x) ends p.3) q.3 in
      let starts : f ≡ g = p.2 ∙ sym q.2 in
      cc
  turn_one (SendTurn (Precise f v x)) (SendTurn (Precise g w y)) p q =
      let writes : x ≡ y = next_one x y p.3 q.3 in
      let ends : v ≡ w = p.4 ∙ ap (λ (k : WriteRec). join_of st.position (cut_of (current_vector j) k.stamp)) writes ∙ sym q.4 in
      let starts : f ≡ g = p.2 ∙ sym q.2 in
      cc
  turn_one (StaleTurn a) IdleTurn p q = absurd (p.1 q.0)
  turn_one (StaleTurn a) (SendTurn (Body u t y)) p q = absurd (p.1 q.0)
  turn_one (StaleTurn a) (SendTurn (Imprecise g w y)) p q = absurd (p.1 q.0)
  turn_one (StaleTurn a) (SendTurn (Precise g w y)) p q = absurd (p.1 q.0)
  turn_one IdleTurn (StaleTurn b) p q = absurd (q.1 p.0)
  turn_one (SendTurn (Body o s x)) (StaleTurn b) p q = absurd (q.1 p.0)
  turn_one (SendTurn (Imprecise f v x)) (StaleTurn b) p q = absurd (q.1 p.0)
  turn_one (SendTurn (Precise f v x)) (StaleTurn b) p q = absurd (q.1 p.0)
  turn_one IdleTurn (SendTurn (Body u t y)) p q = absurd (p.2 q.2 u t y q.3.0)
  turn_one (SendTurn (Body o s x)) IdleTurn p q = absurd (q.2 p.2 o s x p.3.0)
  turn_one IdleTurn (SendTurn (Imprecise g w y)) p q = absurd (q.1 p.1)
  turn_one IdleTurn (SendTurn (Precise g w y)) p q = absurd (q.1 p.1)
  turn_one (SendTurn (Body o s x)) (SendTurn (Imprecise g w y)) p q = absurd (q.1 p.1)
  turn_one (SendTurn (Body o s x)) (SendTurn (Precise g w y)) p q = absurd (q.1 p.1)
  turn_one (SendTurn (Imprecise f v x)) IdleTurn p q = absurd (p.1 q.1)
  turn_one (SendTurn (Precise f v x)) IdleTurn p q = absurd (p.1 q.1)
  turn_one (SendTurn (Imprecise f v x)) (SendTurn (Body u t y)) p q = absurd (p.1 q.1)
  turn_one (SendTurn (Precise f v x)) (SendTurn (Body u t y)) p q = absurd (p.1 q.1)
  turn_one (SendTurn (Imprecise f v x)) (SendTurn (Precise g w y)) p q = absurd (mixed f v x g w y p q)
  turn_one (SendTurn (Precise f v x)) (SendTurn (Imprecise g w y)) p q = absurd (mixed g w y f v x q p)
  turn_one (SendTurn (Checkpoint v x f r)) b p q = absurd p
  turn_one a (SendTurn (Checkpoint v x f r)) p q = absurd q

pub one_turn : OneTurn
one_turn plan h n st a b v p q = turn_one n (journal h n) (λ x y k l e. told_one h (valid_world plan h v) n n x y (known_told (journal h n) x k) (known_told (journal h n) y l) e) st a b p q
