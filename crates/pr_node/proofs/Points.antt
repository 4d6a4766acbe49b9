-- The told points stay tied over one more entry.
use Rattle.std.proofs.Common.{◌≡◌, ℕ, ◌<◌, ◌≤◌, ◌⊎◌, inl, inr, List, ◌∷◌, max, cond, nat_eq, sym, ◌∙◌, ap, subst, length}
use Rattle.std.specs.Prelude.{Bool, ◌↔◌}
use Rattle.pr_stamps.specs.Point.{Point}
use Rattle.pr_names.specs.Span.{Span}
use Rattle.pr_vectors.specs.Vector.{clock_of, vector_of, Covers}
use Rattle.pr_sets.specs.Spans.{has, Meet}
use Rattle.pr_inval.specs.declared.kind.Kind.{Kind}
use Rattle.pr_inval.specs.declared.msg.Msg.{Msg}
use Rattle.pr_inval.specs.declared.write_rec.WriteRec.{WriteRec}
use Rattle.pr_inval.specs.Points.{from_of, to_of, target_of, CoversPoint}
use Rattle.pr_gaps.specs.Gaps.{Told, IsTold as IsToldIn, IsCovered, IsOwnTold, set_at}
use Rattle.pr_story.specs.declared.entry.Entry.{Entry}
use Rattle.pr_story.specs.declared.event.Event.TheVariants.{Wrote, Accepted}
use Rattle.pr_story.specs.History.{Accepts, clock_brought, current_clock, current_vector}
use Rattle.pr_story.specs.Told.{IsTold}
use Rattle.pr_node.specs.Ties.{IsGapsOf}
use Rattle.pr_sets.specs.Sets.{AreApart}
use Rattle.pr_node.proofs.Clocks.{vector_grows, same_current, join_accepted, raised_is, same_covered}

pub told_step : (n : ℕ) (e : Entry) (j : List Entry) (set : List ℕ → Bool) (p : Point)
    → IsTold n (e ∷ j) set p ↔ (((p.node ≡ n) × Covers (current_vector (e ∷ j)) p) ⊎ (IsTold n j set p ⊎ ((k : Kind) × Accepts e.event k × CoversPoint k p × (Meet (has (target_of k)) set → ⊥))))
told_step n e j set p = (
  λ l. elim l [
    | inl own ↦ inl own
    | inr k ↦ elim k.1 [ inl now ↦ inr (inr (k.0, now, k.2.0, k.2.1)) | inr old ↦ inr (inl (inr (k.0, old, k.2))) ]
  ],
  λ l. elim l [
    | inl own ↦ inl own
    | inr r ↦ elim r [
      | inl old ↦ elim old [ inl own ↦ inl (own.0, vector_grows e j p own.1) | inr k ↦ inr (k.0, inr k.1, k.2) ]
      | inr k ↦ inr (k.0, inl k.1, (k.2, k.3))
    ]
  ],
)

pub wrote_gaps : (n : ℕ) (j : List Entry) (a b : Told) (time caller client clock : ℕ) (write : WriteRec) (body after : List ℕ)
    → IsGapsOf n j a → IsOwnTold a b clock → clock ≡ write.stamp.clock → write.stamp.node ≡ n → IsGapsOf n (record { time = time; caller = caller; event = Wrote client write body after } ∷ j) b
wrote_gaps n j a b time caller client clock write body after f s is at =
    let e : Entry = record { time = time; caller = caller; event = Wrote client write body after } in
    let v : b.vector ≡ current_vector (e ∷ j) =
    s.vector ∙ raised_is a.vector (current_clock j) (record { clock = clock; node = a.node }) f.vector
    ∙ ap (λ (q : Point). vector_of (λ w. max (current_clock j w) (cond (nat_eq w q.node) q.clock 0)))
    (ap (λ (c : ℕ). let q : Point = record { clock = c; node = a.node } in q) is ∙ ap (λ (m : ℕ). let q : Point = record { clock = write.stamp.clock; node = m } in q) (f.own ∙ sym at))
    in
    record {
      own = s.node ∙ f.own;
      vector = v;
      apart = subst (λ (ss : List (List Span)). AreApart ss) (sym s.sets) f.apart;
      told =
          subst (λ (ss : List (List Span)). (i : ℕ) (p : Point) → i ≤ length ss → p.node < 32 → IsToldIn b i p ↔ IsTold n (e ∷ j) (set_at ss i) p) (sym s.sets) (λ i p lt node. (
            λ t. (told_step n e j (set_at a.sets i) p).1 (elim ((s.told i p lt node).0 t) [
              | inl own ↦ inl (own.0 ∙ f.own, same_covered b.vector (current_vector (e ∷ j)) p v own.1)
              | inr old ↦ inr (inl ((f.told i p lt node).0 old))
            ]),
            λ t. (s.told i p lt node).1 (elim ((told_step n e j (set_at a.sets i) p).0 t) [
              | inl own ↦ inl (own.0 ∙ sym f.own, same_covered (current_vector (e ∷ j)) b.vector p (sym v) own.1)
              | inr r ↦ elim r [ inl old ↦ inr ((f.told i p lt node).1 old) | inr k ↦ absurd k.1 ]
            ]),
          ));
    }

pub covered_gaps : (n : ℕ) (j : List Entry) (a b : Told) (time caller : ℕ) (msg : Msg) (at : List ℕ) (k : Kind)
    → msg.kind ≡ k → IsGapsOf n j a → IsCovered a b (from_of k) (to_of k) (target_of k) → IsGapsOf n (record { time = time; caller = caller; event = Accepted msg at } ∷ j) b
covered_gaps n j a b time caller msg at k is f s =
    let e : Entry = record { time = time; caller = caller; event = Accepted msg at } in
    let v : b.vector ≡ current_vector (e ∷ j) = s.vector ∙ join_accepted e j a.vector (to_of k) f.vector (λ w. ap (λ (x : Kind). clock_of (to_of x) w) is) in
    record {
      own = s.node ∙ f.own;
      vector = v;
      apart = subst (λ (ss : List (List Span)). AreApart ss) (sym s.sets) f.apart;
      told =
          subst (λ (ss : List (List Span)). (i : ℕ) (p : Point) → i ≤ length ss → p.node < 32 → IsToldIn b i p ↔ IsTold n (e ∷ j) (set_at ss i) p) (sym s.sets) (λ i p lt node. (
            λ t. (told_step n e j (set_at a.sets i) p).1 (elim ((s.told i p lt node).0 t) [
              | inl own ↦ inl (own.0 ∙ f.own, same_covered b.vector (current_vector (e ∷ j)) p v own.1)
              | inr r ↦ elim r [
                | inl old ↦ inr (inl ((f.told i p lt node).0 old))
                | inr new ↦ inr (inr (k, is, new.0, new.1))
              ]
            ]),
            λ t. (s.told i p lt node).1 (elim ((told_step n e j (set_at a.sets i) p).0 t) [
              | inl own ↦ inl (own.0 ∙ sym f.own, same_covered (current_vector (e ∷ j)) b.vector p (sym v) own.1)
              | inr r ↦ elim r [
                | inl old ↦ inr (inl ((f.told i p lt node).1 old))
                | inr x ↦
                    let same : x.0 ≡ k = sym x.1 ∙ is in
                    inr (inr (subst (λ (y : Kind). CoversPoint y p) same x.2, subst (λ (y : Kind). Meet (has (target_of y)) (set_at a.sets i) → ⊥) same x.3))
              ]
            ]),
          ));
    }

-- an event that covers no point leaves the told points
pub same_gaps : (n : ℕ) (e : Entry) (j : List Entry) (g : Told)
    → ((k : ℕ) → clock_brought e.event k ≡ 0) → ((k : Kind) (p : Point) → Accepts e.event k → CoversPoint k p → ⊥)
    → IsGapsOf n j g → IsGapsOf n (e ∷ j) g
same_gaps n e j g brought none f = record {
  own = f.own;
  vector = f.vector ∙ same_current e j brought;
  apart = f.apart;
  told = λ i p lt node. (
    λ t. (told_step n e j (set_at g.sets i) p).1 (inr (inl ((f.told i p lt node).0 t))),
    λ t. (f.told i p lt node).1 (elim ((told_step n e j (set_at g.sets i) p).0 t) [
      | inl own ↦ inl (own.0, same_covered (current_vector (e ∷ j)) (current_vector j) p (sym (same_current e j brought)) own.1)
      | inr r ↦ elim r [ inl old ↦ old | inr k ↦ absurd (none k.0 p k.1 k.2) ]
    ]),
  );
}
