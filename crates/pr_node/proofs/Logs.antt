-- The log stays tied over one more entry.
use Rattle.std.proofs.Common.{◌≡◌, ℕ, ◌⊎◌, inl, inr, List, [], ◌∷◌, refl, sym, ◌∙◌, ap, subst}
use Rattle.std.specs.Prelude.{true, false, IsTrue, ◌↔◌, Option, None, Some}
use Rattle.pr_stamps.specs.Point.{Point}
use Rattle.pr_vectors.specs.Vector.{clock_of, Covers, join_of, zero_vector}
use Rattle.pr_names.specs.Span.{Span}
use Rattle.pr_sets.specs.Spans.{has}
use Rattle.pr_inval.specs.declared.kind.Kind.{Kind}
use Rattle.pr_inval.specs.declared.kind.Kind.TheVariants.{Precise}
use Rattle.pr_inval.specs.declared.msg.Msg.{Msg}
use Rattle.pr_inval.specs.declared.write_rec.WriteRec.{WriteRec}
use Rattle.pr_inval.specs.Points.{from_of, to_of, target_of, CoversPoint, is_invalidation}
use Rattle.pr_log.specs.Log.{Logged, Knows as KnowsIn, Learns, IsAddedOwn, IsRefined, IsDarkened}
use Rattle.pr_story.specs.declared.entry.Entry.{Entry}
use Rattle.pr_story.specs.declared.event.Event.{Event}
use Rattle.pr_story.specs.declared.event.Event.TheVariants.{Wrote, Accepted}
use Rattle.pr_story.specs.History.{Accepts, clock_brought, current_clock}
use Rattle.pr_story.specs.Told.{IsLit}
use Rattle.pr_story.specs.Knowledge.{IsOf, TellsOf, HeardOf, Knows, cut_in, cuts_of}
use Rattle.pr_story.proofs.Known.{points_differ, known_told}
use Rattle.pr_node.specs.Ties.{IsLogOf}
use Rattle.pr_node.proofs.Clocks.{cut_same, same_current, join_accepted, raised_is, not_covered}

-- ---- what one more entry lights

pub lit_step : (n : ℕ) (e : Entry) (j : List Entry) (o : List ℕ) (p : Point) → IsLit n (e ∷ j) o p ↔ (IsLit n j o p ⊎ ((k : Kind) × Accepts e.event k × IsTrue (is_invalidation k) × CoversPoint k p × (has (target_of k) o ≡ false)))
lit_step n e j o p = (
  λ l. elim l [
    | inl own ↦ inl (inl own)
    | inr k ↦ elim k.1 [ inl now ↦ inr (k.0, now, k.2, k.3, k.4) | inr old ↦ inl (inr (k.0, old, k.2, k.3, k.4)) ]
  ],
  λ l. elim l [
    | inl old ↦ elim old [ inl own ↦ inl own | inr k ↦ inr (k.0, inr k.1, k.2, k.3, k.4) ]
    | inr k ↦ inr (k.0, inl k.1, k.2, k.3, k.4)
  ],
)

-- ---- what it makes known

tells_kind : (k : Kind) (s : Point) → ((x : WriteRec) × IsOf k x × (x.stamp ≡ s)) ⊎ ((y : WriteRec) → IsOf k y → y.stamp ≡ s → ⊥)
tells_kind (Precise from to write) s = elim (points_differ write.stamp s) [
  | inl e ↦ inl (write, refl, e)
  | inr ne ↦ inr (λ y is same. ne (ap (λ (x : WriteRec). x.stamp) is ∙ same))
]
tells_kind _ s = inr (λ y t same. absurd t)

tells : (event : Event) (s : Point) → ((x : WriteRec) × TellsOf event x × (x.stamp ≡ s)) ⊎ ((y : WriteRec) → TellsOf event y → y.stamp ≡ s → ⊥)
tells (Wrote client write body after) s = elim (points_differ write.stamp s) [
  | inl e ↦ inl (write, refl, e)
  | inr ne ↦ inr (λ y is same. ne (ap (λ (x : WriteRec). x.stamp) is ∙ same))
]
tells (Accepted msg at) s = tells_kind msg.kind s
tells _ s = inr (λ y t same. absurd t)

-- a write with this stamp is known, or none was told
first_told : (j : List Entry) (s : Point) → ((x : WriteRec) × Knows j x × (x.stamp ≡ s)) ⊎ ((y : WriteRec) → HeardOf j y → y.stamp ≡ s → ⊥)
first_told [] s = inr (λ y t same. absurd t)
first_told (e ∷ j) s = elim (first_told j s) [
  | inl old ↦ inl (old.0, inl old.1, old.2)
  | inr none ↦ elim (tells e.event s) [
    | inl now ↦ inl (now.0, inr (now.1, λ y t same. absurd (none y t (same ∙ now.2))), now.2)
    | inr no_one ↦ inr (λ y t same. elim t [ inl now ↦ no_one y now same | inr old ↦ none y old same ])
  ]
]

knows_step : (e : Entry) (j : List Entry) (a b : Logged) (write : Option WriteRec)
    → ((x : WriteRec) → (Covers a.cut x.stamp → ⊥) → KnowsIn a x ↔ Knows j x) → Learns a b write → ((x : WriteRec) → (write ≡ Some x) ↔ TellsOf e.event x)
    → (x : WriteRec) → (Covers a.cut x.stamp → ⊥) → KnowsIn b x ↔ Knows (e ∷ j) x
knows_step e j a b write old new told x above =
    let move : (s : Point) → s ≡ x.stamp → Covers a.cut s → ⊥ = λ s is c. above (subst (λ (q : Point). Covers a.cut q) is c) in (
      λ k. elim ((new x).0 k) [
        | inl was ↦ inl ((old x above).0 was)
        | inr now ↦ inr (
          (told x).0 now.0,
          λ y t same. elim (first_told j y.stamp) [
            | inl z ↦ absurd (now.2 z.0 ((old z.0 (move z.0.stamp (z.2 ∙ same))).1 z.1) (z.2 ∙ same))
            | inr none ↦ absurd (none y t refl)
          ],
        )
      ],
      λ k. elim k [
        | inl was ↦ (new x).1 (inl ((old x above).1 was))
        | inr now ↦ elim (first_told j x.stamp) [
          | inl z ↦ (new x).1 (inl ((old x above).1 (subst (λ (w : WriteRec). Knows j w) (now.1 z.0 (known_told j z.0 z.1) z.2) z.1)))
          | inr none ↦ (new x).1 (inr ((told x).1 now.0, above, λ y u same. none y (known_told j y ((old y (move y.stamp same)).0 u)) same))
        ]
      ],
    )

pub some_same : {X : Type 0} (x y : X) → (Some x ≡ Some y) ↔ (x ≡ y)
some_same {X = X} x y = (λ e. cc, λ e. ap (λ (z : X). Some z) e)

-- ---- the log's calls

pub wrote_log : (n : ℕ) (j : List Entry) (a b : Logged) (time caller client : ℕ) (write : WriteRec) (body after : List ℕ)
    → IsLogOf n j a → IsAddedOwn a b write → IsLogOf n (record { time = time; caller = caller; event = Wrote client write body after } ∷ j) b
wrote_log n j a b time caller client write body after f s =
    let e : Entry = record { time = time; caller = caller; event = Wrote client write body after } in
    record {
      own = s.node ∙ f.own;
      vector = s.vector ∙ raised_is a.vector (current_clock j) write.stamp f.vector;
      cut = s.cut ∙ f.cut ∙ sym (cut_same j);
      lit = λ o p name above.
          let u : Covers a.cut p → ⊥ = not_covered b.cut a.cut p s.cut above in (
            λ t. (lit_step n e j o p).1 (inl ((f.lit o p name u).0 (sym (s.lit o p) ∙ t))),
            λ l. elim ((lit_step n e j o p).0 l) [ inl old ↦ s.lit o p ∙ (f.lit o p name u).1 old | inr k ↦ absurd k.1 ],
          );
      knows = λ x above. knows_step e j a b (Some write) f.knows s.knows (λ y. some_same write y) x (not_covered b.cut a.cut x.stamp s.cut above);
    }

pub refined_log : (n : ℕ) (j : List Entry) (a b : Logged) (time caller : ℕ) (msg : Msg) (at : List ℕ) (k : Kind) (write : Option WriteRec)
    → msg.kind ≡ k → IsTrue (is_invalidation k) → ((x : WriteRec) → (write ≡ Some x) ↔ IsOf k x)
    → IsLogOf n j a → IsRefined a b (from_of k) (to_of k) (target_of k) write → IsLogOf n (record { time = time; caller = caller; event = Accepted msg at } ∷ j) b
refined_log n j a b time caller msg at k write is inval given f s =
    let e : Entry = record { time = time; caller = caller; event = Accepted msg at } in
    record {
      own = s.node ∙ f.own;
      vector = s.vector ∙ join_accepted e j a.vector (to_of k) f.vector (λ w. ap (λ (x : Kind). clock_of (to_of x) w) is);
      cut = s.cut ∙ f.cut ∙ sym (cut_same j);
      lit = λ o p name above.
          let u : Covers a.cut p → ⊥ = not_covered b.cut a.cut p s.cut above in (
            λ t. (lit_step n e j o p).1 (elim ((s.lit o p name).0 t) [
              | inl old ↦ inl ((f.lit o p name u).0 old)
              | inr new ↦ inr (k, is, inval, new.0, new.1)
            ]),
            λ l. (s.lit o p name).1 (elim ((lit_step n e j o p).0 l) [
              | inl old ↦ inl ((f.lit o p name u).1 old)
              | inr x ↦
                  let same : x.0 ≡ k = sym x.1 ∙ is in
                  inr (subst (λ (y : Kind). CoversPoint y p) same x.3, subst (λ (y : Kind). has (target_of y) o ≡ false) same x.4)
            ]),
          );
      knows = λ x above. knows_step e j a b write f.knows s.knows (subst (λ (y : Kind). (z : WriteRec) → (write ≡ Some z) ↔ IsOf y z) (sym is) given) x (not_covered b.cut a.cut x.stamp s.cut above);
    }

-- a message that is no invalidation leaves what is lit and known
pub dark_log : (n : ℕ) (j : List Entry) (a b : Logged) (time caller : ℕ) (msg : Msg) (at : List ℕ) (k : Kind)
    → msg.kind ≡ k → is_invalidation k ≡ false → ((x : WriteRec) → IsOf k x → ⊥) → IsLogOf n j a → IsDarkened a b (to_of k) → IsLogOf n (record { time = time; caller = caller; event = Accepted msg at } ∷ j) b
dark_log n j a b time caller msg at k is not_inval of f s =
    let e : Entry = record { time = time; caller = caller; event = Accepted msg at } in
    record {
      own = s.node ∙ f.own;
      vector = s.vector ∙ join_accepted e j a.vector (to_of k) f.vector (λ w. ap (λ (x : Kind). clock_of (to_of x) w) is);
      cut = s.cut ∙ f.cut ∙ sym (cut_same j);
      lit = λ o p name above.
          let u : Covers a.cut p → ⊥ = not_covered b.cut a.cut p s.cut above in (
            λ t. (lit_step n e j o p).1 (inl ((f.lit o p name u).0 (sym (s.lit o p) ∙ t))),
            λ l. elim ((lit_step n e j o p).0 l) [
              | inl old ↦ s.lit o p ∙ (f.lit o p name u).1 old
              | inr x ↦
                  let same : is_invalidation x.0 ≡ false = ap is_invalidation (sym x.1 ∙ is) ∙ not_inval in
                  let yes_it : is_invalidation x.0 ≡ true = x.2 in
                  cc
            ],
          );
      knows = λ x above.
          let u : Covers a.cut x.stamp → ⊥ = not_covered b.cut a.cut x.stamp s.cut above in (
            λ t. inl ((f.knows x u).0 ((s.knows x).0 t)),
            λ t. elim t [ inl old ↦ (s.knows x).1 ((f.knows x u).1 old) | inr now ↦ absurd (subst (λ (y : Kind). (z : WriteRec) → IsOf y z → ⊥) (sym is) of x now.0) ],
          );
    }

-- an event that tells of no invalidation and of no write leaves the log
pub same_log : (n : ℕ) (e : Entry) (j : List Entry) (m : Logged)
    → ((k : ℕ) → clock_brought e.event k ≡ 0) → cut_in e.event ≡ zero_vector
    → ((k : Kind) → Accepts e.event k → is_invalidation k ≡ false) → ((x : WriteRec) → TellsOf e.event x → ⊥)
    → IsLogOf n j m → IsLogOf n (e ∷ j) m
same_log n e j m brought cut dark told f = record {
  own = f.own;
  vector = f.vector ∙ same_current e j brought;
  cut = f.cut ∙ sym (ap (λ (v : List ℕ). join_of (cuts_of j) v) cut ∙ cut_same j);
  lit = λ o p name above. (
    λ t. (lit_step n e j o p).1 (inl ((f.lit o p name above).0 t)),
    λ t. elim ((lit_step n e j o p).0 t) [
      | inl old ↦ (f.lit o p name above).1 old
      | inr k ↦
          let none : is_invalidation k.0 ≡ false = dark k.0 k.1 in
          let yes_it : is_invalidation k.0 ≡ true = k.2 in
          cc
    ],
  );
  knows = λ x above. (
    λ k. inl ((f.knows x above).0 k),
    λ k. elim k [ inl old ↦ (f.knows x above).1 old | inr now ↦ absurd (told x now.0) ],
  );
}

-- a write that was known before is learnt already
pub refined_again : (a b : Logged) (from to : List ℕ) (target : List Span) (write : WriteRec) → IsRefined a b from to target None → KnowsIn a write → IsRefined a b from to target (Some write)
refined_again a b from to target write refined known = record {
  node = refined.node;
  cut = refined.cut;
  vector = refined.vector;
  lit = refined.lit;
  knows = λ x. (
    λ k. elim ((refined.knows x).0 k) [ inl old ↦ inl old | inr new ↦ absurd (let bad : None ≡ Some x = new.0 in cc) ],
    λ k. elim k [
      | inl old ↦ (refined.knows x).1 (inl old)
      | inr new ↦ (let is : Some write ≡ Some x = new.0 in let same : write.stamp ≡ x.stamp = cc in absurd (new.2 write known same))
    ],
  );
  few = refined.few;
}
