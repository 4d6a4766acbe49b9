-- A name is lit at a point, or it is dark there.
use Rattle.std.proofs.Common.{◌≡◌, ℕ, ◌<◌, ◌≤◌, ◌⊎◌, inl, inr, List, [], ◌∷◌, refl, sym, subst, arith}
use Rattle.std.specs.Prelude.{true, false, Bool, IsTrue, ◌&&◌}
use Rattle.std.proofs.lemmas.Bool.Decides.{eqb_tells}
use Rattle.pr_stamps.specs.Point.{Point}
use Rattle.pr_vectors.specs.Vector.{clock_of}
use Rattle.pr_sets.specs.Spans.{has}
use Rattle.pr_inval.specs.declared.kind.Kind.{Kind}
use Rattle.pr_story.specs.declared.entry.Entry.{Entry}
use Rattle.pr_story.specs.declared.event.Event.{Event}
use Rattle.pr_story.specs.declared.event.Event.TheVariants.{Accepted}
use Rattle.pr_inval.specs.Points.{CoversPoint, from_of, to_of, target_of, is_invalidation}
use Rattle.pr_story.specs.History.{Accepts, HasAccepted}
use Rattle.pr_story.specs.Told.{IsLit}

within : (a c b : ℕ) → ((a < c) × (c ≤ b)) ⊎ ((a < c) × (c ≤ b) → ⊥)
within a c b = grind arith

pub bool_cases : (b : Bool) → (b ≡ true) ⊎ (b ≡ false)
bool_cases true = inl refl
bool_cases false = inr refl

pub both_true : (a b : Bool) → (a && b) ≡ true → (a ≡ true) × (b ≡ true)
both_true true true e = (refl, refl)
both_true true false e = absurd (cc)
both_true false b e = absurd (cc)

module _ (o : List ℕ) (p : Point) where
  abbrev Lights : Kind → Type 0
  Lights k = IsTrue (is_invalidation k) × CoversPoint k p × (has (target_of k) o ≡ false)

  kind_lights : (k : Kind) → Lights k ⊎ (Lights k → ⊥)
  kind_lights k = elim (bool_cases (is_invalidation k)) [
    | inl is ↦ elim (within (clock_of (from_of k) p.node) p.clock (clock_of (to_of k) p.node)) [
      | inl covers ↦ elim (bool_cases (has (target_of k) o)) [
        | inl has_it ↦ inr (λ l. let bad : has (target_of k) o ≡ false = l.2 in cc)
        | inr lacks ↦ inl (is, covers, lacks)
      ]
      | inr not_covered ↦ inr (λ l. not_covered l.1)
    ]
    | inr is_none ↦ inr (λ l. let bad : is_invalidation k ≡ true = l.0 in cc)
  ]

  event_lights : (event : Event) → ((k : Kind) × Accepts event k × Lights k) ⊎ ((k : Kind) → Accepts event k → Lights k → ⊥)
  event_lights (Accepted msg at) = elim (kind_lights msg.kind) [
    | inl l ↦ inl (msg.kind, refl, l)
    | inr none ↦ inr (λ k a l. none (subst (λ (i : Kind). Lights i) (sym a) l))
  ]
  event_lights _ = inr (λ k a l. a)

  accepted_lights : (j : List Entry) → ((k : Kind) × HasAccepted j k × Lights k) ⊎ ((k : Kind) → HasAccepted j k → Lights k → ⊥)
  accepted_lights [] = inr (λ k a l. a)
  accepted_lights (e ∷ j) = elim (event_lights e.event) [
    | inl now ↦ inl (now.0, inl now.1, now.2)
    | inr not_now ↦ elim (accepted_lights j) [
      | inl old ↦ inl (old.0, inr old.1, old.2)
      | inr never ↦ inr (λ k a l. elim a [ inl now ↦ not_now k now l | inr old ↦ never k old l ])
    ]
  ]

pub lit_or_dark : (n : ℕ) (j : List Entry) (o : List ℕ) (p : Point) → IsLit n j o p ⊎ (IsLit n j o p → ⊥)
lit_or_dark n j o p = elim (eqb_tells p.node n) [
  | inl own ↦ inl (inl own.1)
  | inr other ↦ elim (accepted_lights o p j) [
    | inl a ↦ inl (inr (a.0, a.1, a.2.0, a.2.1, a.2.2))
    | inr never ↦ inr (λ l. elim l [ inl own ↦ other.1 own | inr a ↦ never a.0 a.1 (a.2, a.3, a.4) ])
  ]
]
