-- What two honest messages merge into is honest.
use Rattle.std.proofs.Common.{◌≡◌, ℕ, ◌<◌, ◌≤◌, ◌⊎◌, ◌∙◌, inl, inr, List, Bool, true, false, sym, ap, subst, arith}
use Rattle.std.specs.Prelude.{IsTrue, max, min, ◌||◌}
use Rattle.pr_vectors.specs.Vector.{Le, clock_of, join_of, meet_of}
use Rattle.pr_vectors.proofs.Vectors.{clock_of-vector_of}
use Rattle.pr_names.specs.Name.{IsName}
use Rattle.pr_names.specs.Span.{Span}
use Rattle.pr_sets.specs.Spans.{has}
use Rattle.pr_inval.specs.declared.imprecise.Imprecise.{Imprecise as Invalidation}
use Rattle.pr_inval.specs.declared.kind.Kind.TheVariants.{Imprecise}
use Rattle.pr_inval.specs.declared.write_rec.WriteRec.{WriteRec}
use Rattle.pr_inval.specs.Merging.{IsMerged, Rises}
use Rattle.pr_inval.proofs.Merges.{swapped}
use Rattle.pr_story.specs.History.{NodeEntry, WasWritten, journal, current_clock}
use Rattle.pr_story.specs.Messages.{IsHonest}
use Rattle.pr_story.specs.Ranges.{IsWrite}
use Rattle.pr_story.specs.Laws.{IsHonestInvalidation}
use Rattle.pr_story.specs.Statements.{MergesAreHonest}

halves : (a m t s e c : ℕ) → s ≡ a → e ≡ t → s < c → c ≤ e → ((a < c) × (c ≤ m)) ⊎ ((m < c) × (c ≤ t))
halves a m t s e c p q past upto = grind arith

reach : (a m t s e k : ℕ) → a ≤ m → m ≤ t → s ≡ a → e ≡ t → (a < m → m ≤ k) → (m < t → t ≤ k) → s < e → e ≤ k
reach a m t s e k am mt p q ra rb lt = grind arith

-- two that follow one another, and one that covers what both do
joins_honest : (h : List NodeEntry) (from mid to start end : List ℕ) (a b target : List Span)
    → Le from mid → Le mid to → ((v : ℕ) → v < 32 → clock_of start v ≡ clock_of from v) → ((v : ℕ) → v < 32 → clock_of end v ≡ clock_of to v)
    → ((o : List ℕ) → IsName o → IsTrue (has a o) ⊎ IsTrue (has b o) → IsTrue (has target o))
    → ((x : WriteRec) (body dep : List ℕ) → WasWritten h x body dep → (x.stamp.node < 32) × IsName x.name)
    → IsHonest h (Imprecise from mid a) → IsHonest h (Imprecise mid to b) → IsHonest h (Imprecise start end target)
joins_honest h from mid to start end a b target am mt starts ends both known p q = (
  record {
    reached = λ v lt past. reach (clock_of from v) (clock_of mid v) (clock_of to v) (clock_of start v) (clock_of end v) (current_clock (journal h v) v) (am v lt) (mt v lt) (starts v lt) (ends v lt) (p.0.reached v lt) (q.0.reached v lt) past;
    causal = λ x body dep w c v lt.
        let k : (x.stamp.node < 32) × IsName x.name = known x body dep w in
        let e : clock_of end v ≡ clock_of to v = ends v lt in
        let m : clock_of mid v ≤ clock_of to v = mt v lt in
        elim (halves (clock_of from x.stamp.node) (clock_of mid x.stamp.node) (clock_of to x.stamp.node) (clock_of start x.stamp.node) (clock_of end x.stamp.node) x.stamp.clock (starts x.stamp.node k.0) (ends x.stamp.node k.0) c.0 c.1) [
          | inl first ↦ let d : clock_of dep v ≤ clock_of mid v = p.0.causal x body dep w first v lt in omega arith
          | inr second ↦ let d : clock_of dep v ≤ clock_of to v = q.0.causal x body dep w second v lt in omega arith
        ];
  },
  λ x body dep w c.
      let k : (x.stamp.node < 32) × IsName x.name = known x body dep w in
      elim (halves (clock_of from x.stamp.node) (clock_of mid x.stamp.node) (clock_of to x.stamp.node) (clock_of start x.stamp.node) (clock_of end x.stamp.node) x.stamp.clock (starts x.stamp.node k.0) (ends x.stamp.node k.0) c.0 c.1) [
        | inl first ↦ elim (p.1 x body dep w first) [ inl of ↦ absurd of | inr t ↦ inr (both x.name k.1 (inl t)) ]
        | inr second ↦ elim (q.1 x body dep w second) [ inl of ↦ absurd of | inr t ↦ inr (both x.name k.1 (inr t)) ]
      ],
)

either : (p q r : Bool) → r ≡ (p || q) → IsTrue p ⊎ IsTrue q → IsTrue r
either true q r e s = e
either false q r e s = elim s [ inl p ↦ absurd (cc) | inr right ↦ e ∙ right ]

-- the first ends where the second starts
in_order : (h : List NodeEntry) (a b merged : Invalidation) → ((x : WriteRec) (body dep : List ℕ) → WasWritten h x body dep → IsWrite x) → a.to ≡ b.from → Rises a → Rises b → IsMerged a b merged
    → IsHonestInvalidation h a → IsHonestInvalidation h b → IsHonestInvalidation h merged
in_order h a b merged range next ra rb m p q =
    joins_honest h a.from a.to b.to merged.from merged.to a.target b.target merged.target ra
    (subst (λ (v : List ℕ). Le v b.to) (sym next) rb)
    (λ v lt.
    let e : clock_of merged.from v ≡ clock_of (meet_of a.from b.from) v = ap (λ (u : List ℕ). clock_of u v) m.from in
    let c : clock_of (meet_of a.from b.from) v ≡ min (clock_of a.from v) (clock_of b.from v) = clock_of-vector_of (λ k. min (clock_of a.from k) (clock_of b.from k)) v lt in
    let n : clock_of a.to v ≡ clock_of b.from v = ap (λ (u : List ℕ). clock_of u v) next in
    let le : clock_of a.from v ≤ clock_of a.to v = ra v lt in
    omega arith)
    (λ v lt.
    let e : clock_of merged.to v ≡ clock_of (join_of a.to b.to) v = ap (λ (u : List ℕ). clock_of u v) m.to in
    let c : clock_of (join_of a.to b.to) v ≡ max (clock_of a.to v) (clock_of b.to v) = clock_of-vector_of (λ k. max (clock_of a.to k) (clock_of b.to k)) v lt in
    let n : clock_of a.to v ≡ clock_of b.from v = ap (λ (u : List ℕ). clock_of u v) next in
    let le : clock_of b.from v ≤ clock_of b.to v = rb v lt in
    omega arith)
    (λ o name s. either (has a.target o) (has b.target o) (has merged.target o) (m.target.names o name) s)
    (λ x body dep w. let i : IsWrite x = range x body dep w in (i.1.known_node, i.0))
    p
    (subst (λ (v : List ℕ). IsHonest h (Imprecise v b.to b.target)) (sym next) q)

pub merges_honest : MergesAreHonest
merges_honest h a b merged range adjacent ra rb m p q = elim adjacent [
  | inl next ↦ in_order h a b merged range next ra rb m p q
  | inr back ↦ in_order h b a merged range back rb ra (swapped a b merged m) q p
]
