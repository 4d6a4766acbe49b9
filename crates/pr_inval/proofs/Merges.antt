-- What is merged is the same in any order, and covers what its parts cover.
use Rattle.std.proofs.Common.{◌≡◌, ℕ, ◌<◌, ◌≤◌, ◌⊎◌, List, Bool, true, false, refl, sym, ap, ◌∙◌, arith, inl, inr}
use Rattle.std.specs.Prelude.{◌↔◌, ◌||◌, max, min}
use Rattle.std.proofs.lemmas.Bool.Decides.{nat_tests}
use Rattle.pr_names.specs.Span.{Span}
use Rattle.pr_sets.specs.Spans.{has}
use Rattle.pr_sets.proofs.Lists.{or_assoc}
use Rattle.pr_sets.proofs.Same.{same_list}
use Rattle.pr_stamps.specs.Point.{Point}
use Rattle.pr_vectors.specs.Vector.{clock_of, join_of, meet_of}
use Rattle.pr_vectors.proofs.Vectors.{clock_of-vector_of, same_vector}
use Rattle.pr_inval.specs.Merging.{AreAdjacent, CoversIt, IsMerged, Rises}
use Rattle.pr_inval.specs.declared.imprecise.Imprecise.{Imprecise}

-- ---- meets and joins

meet_clock : (v w : List ℕ) (n : ℕ) → n < 32 → clock_of (meet_of v w) n ≡ min (clock_of v n) (clock_of w n)
meet_clock v w n lt = clock_of-vector_of (λ k. min (clock_of v k) (clock_of w k)) n lt

join_clock : (v w : List ℕ) (n : ℕ) → n < 32 → clock_of (join_of v w) n ≡ max (clock_of v n) (clock_of w n)
join_clock v w n lt = clock_of-vector_of (λ k. max (clock_of v k) (clock_of w k)) n lt

meet_swapped : (v w : List ℕ) → meet_of v w ≡ meet_of w v
meet_swapped v w = same_vector (λ n. min (clock_of v n) (clock_of w n)) (λ n. min (clock_of w n) (clock_of v n)) (λ n lt. omega arith)

join_swapped : (v w : List ℕ) → join_of v w ≡ join_of w v
join_swapped v w = same_vector (λ n. max (clock_of v n) (clock_of w n)) (λ n. max (clock_of w n) (clock_of v n)) (λ n lt. omega arith)

meet_of_three : (u v w : List ℕ) → meet_of (meet_of u v) w ≡ meet_of u (meet_of v w)
meet_of_three u v w =
    same_vector (λ n. min (clock_of (meet_of u v) n) (clock_of w n)) (λ n. min (clock_of u n) (clock_of (meet_of v w) n))
    (λ n lt. omega (arith, meet_clock u v n lt, meet_clock v w n lt))

join_of_three : (u v w : List ℕ) → join_of (join_of u v) w ≡ join_of u (join_of v w)
join_of_three u v w =
    same_vector (λ n. max (clock_of (join_of u v) n) (clock_of w n)) (λ n. max (clock_of u n) (clock_of (join_of v w) n))
    (λ n lt. omega (arith, join_clock u v n lt, join_clock v w n lt))

-- ---- merged

same_imprecise : (m n : Imprecise) → m.from ≡ n.from → m.to ≡ n.to → m.target ≡ n.target → m ≡ n
same_imprecise m n from to target =
    ap (λ (v : List ℕ). let r : Imprecise = record { from = v; to = m.to; target = m.target } in r) from
    ∙ ap (λ (v : List ℕ). let r : Imprecise = record { from = n.from; to = v; target = m.target } in r) to
    ∙ ap (λ (ss : List Span). let r : Imprecise = record { from = n.from; to = n.to; target = ss } in r) target

or_swapped : (p q : Bool) → (p || q) ≡ (q || p)
or_swapped true true = refl
or_swapped true false = refl
or_swapped false true = refl
or_swapped false false = refl

pub swapped : (a b m : Imprecise) → IsMerged a b m → IsMerged b a m
swapped a b m h = record {
  from = h.from ∙ meet_swapped a.from b.from;
  to = h.to ∙ join_swapped a.to b.to;
  target = record { set = h.target.set; names = λ o name. h.target.names o name ∙ or_swapped (has a.target o) (has b.target o) };
}

pub same_merged : (a b m n : Imprecise) → IsMerged a b m → IsMerged a b n → m ≡ n
same_merged a b m n h g =
    same_imprecise m n (h.from ∙ sym g.from) (h.to ∙ sym g.to)
    (same_list m.target n.target h.target.set g.target.set (λ o name. h.target.names o name ∙ sym (g.target.names o name)))

pub commutative : (a b m n : Imprecise) → IsMerged a b m → IsMerged b a n → m ≡ n
commutative a b m n h g = same_merged a b m n h (swapped b a n g)

regrouped : (a b c ab bc m : Imprecise) → IsMerged a b ab → IsMerged b c bc → IsMerged ab c m → IsMerged a bc m
regrouped a b c ab bc m hab hbc h = record {
  from = h.from ∙ ap (λ v. meet_of v c.from) hab.from ∙ meet_of_three a.from b.from c.from ∙ ap (meet_of a.from) (sym hbc.from);
  to = h.to ∙ ap (λ v. join_of v c.to) hab.to ∙ join_of_three a.to b.to c.to ∙ ap (join_of a.to) (sym hbc.to);
  target = record {
    set = h.target.set;
    names = λ o name.
        h.target.names o name
        ∙ ap (λ t. t || has c.target o) (hab.target.names o name)
        ∙ or_assoc (has a.target o) (has b.target o) (has c.target o)
        ∙ ap (λ t. has a.target o || t) (sym (hbc.target.names o name));
  };
}

pub associative : (a b c ab bc m n : Imprecise) → IsMerged a b ab → IsMerged b c bc → IsMerged ab c m → IsMerged a bc n → m ≡ n
associative a b c ab bc m n hab hbc h g = same_merged a bc m n (regrouped a b c ab bc m hab hbc h) g

-- ---- what they cover

split : (f g s t c : ℕ) → g ≡ s → f ≤ g → s ≤ t → min f s < c → c ≤ max g t → ((f < c) × (c ≤ g)) ⊎ ((s < c) × (c ≤ t))
split f g s t c e fg st lt le = grind (arith, nat_tests)

first_in : (f g s t c : ℕ) → g ≡ s → f ≤ g → s ≤ t → f < c → c ≤ g → (min f s < c) × (c ≤ max g t)
first_in f g s t c e fg st lt le = (omega arith, omega arith)

second_in : (f g s t c : ℕ) → g ≡ s → f ≤ g → s ≤ t → s < c → c ≤ t → (min f s < c) × (c ≤ max g t)
second_in f g s t c e fg st lt le = (omega arith, omega arith)

-- a second one that begins where the first ends
covers_behind : (a b m : Imprecise) (p : Point) → a.to ≡ b.from → Rises a → Rises b → IsMerged a b m → p.node < 32 → CoversIt m p ↔ (CoversIt a p ⊎ CoversIt b p)
covers_behind a b m p e ra rb h lt =
    let n = p.node in
    let from : clock_of m.from n ≡ min (clock_of a.from n) (clock_of b.from n) = ap (λ v. clock_of v n) h.from ∙ meet_clock a.from b.from n lt in
    let to : clock_of m.to n ≡ max (clock_of a.to n) (clock_of b.to n) = ap (λ v. clock_of v n) h.to ∙ join_clock a.to b.to n lt in
    let same : clock_of a.to n ≡ clock_of b.from n = ap (λ v. clock_of v n) e in
    let rises : clock_of a.from n ≤ clock_of a.to n = ra n lt in
    let goes_on : clock_of b.from n ≤ clock_of b.to n = rb n lt in (
      λ c. split (clock_of a.from n) (clock_of a.to n) (clock_of b.from n) (clock_of b.to n) p.clock same rises goes_on (omega (arith, from, c.0)) (omega (arith, to, c.1)),
      λ c. elim c [
        | inl d ↦ let in_it = first_in (clock_of a.from n) (clock_of a.to n) (clock_of b.from n) (clock_of b.to n) p.clock same rises goes_on d.0 d.1 in (omega (arith, from, in_it.0), omega (arith, to, in_it.1))
        | inr d ↦ let in_it = second_in (clock_of a.from n) (clock_of a.to n) (clock_of b.from n) (clock_of b.to n) p.clock same rises goes_on d.0 d.1 in (omega (arith, from, in_it.0), omega (arith, to, in_it.1))
      ],
    )

or_other_way : {A B C : Type 0} → C ↔ (A ⊎ B) → C ↔ (B ⊎ A)
or_other_way h = (λ c. elim (h.0 c) [ inl a ↦ inr a | inr b ↦ inl b ], λ d. elim d [ inl b ↦ h.1 (inr b) | inr a ↦ h.1 (inl a) ])

pub covers : (a b m : Imprecise) (p : Point) → AreAdjacent a b → Rises a → Rises b → IsMerged a b m → p.node < 32 → CoversIt m p ↔ (CoversIt a p ⊎ CoversIt b p)
covers a b m p (inl e) ra rb h lt = covers_behind a b m p e ra rb h lt
covers a b m p (inr e) ra rb h lt = or_other_way (covers_behind b a m p e rb ra (swapped a b m h) lt)
