-- A node's vector, cut and floor over one more entry.
use Rattle.std.proofs.Common.{◌≡◌, ℕ, ◌<◌, ◌≤◌, ◌⊎◌, inl, inr, List, [], ◌∷◌, max, cond, nat_eq, refl, sym, ◌∙◌, ap, subst, arith, length}
use Rattle.std.proofs.lemmas.Bool.Decides.{nat_tests}
use Rattle.std.proofs.lemmas.List.{get_or_past}
use Rattle.pr_stamps.specs.Point.{Point}
use Rattle.pr_vectors.specs.Vector.{clock_of, vector_of, Covers, join_of, raised, zero_vector}
use Rattle.pr_vectors.proofs.Vectors.{clock_of-vector_of, length-vector_of, same_vector}
use Rattle.pr_story.specs.declared.entry.Entry.{Entry}
use Rattle.pr_story.specs.History.{clock_brought, current_clock, current_vector}
use Rattle.pr_story.specs.Knowledge.{cuts_of, floor_of}
use Rattle.pr_story.proofs.Basics.{clock_zero}

pub clock_out : (f : ℕ → ℕ) (w : ℕ) → 32 ≤ w → ◌≡◌ {A = ℕ} (clock_of (vector_of f) w) 0
clock_out f w le = let l : length (vector_of f) ≡ 32 = length-vector_of f in get_or_past (vector_of f) w 0 (omega arith)

pub below_or_not : (a b : ℕ) → (a < b) ⊎ (b ≤ a)
below_or_not a b = grind arith

-- where each clock of f is at most g's, a point that f covers is covered by g
covers_more : (f g : ℕ → ℕ) → ((w : ℕ) → w < 32 → f w ≤ g w) → (p : Point) → Covers (vector_of f) p → Covers (vector_of g) p
covers_more f g le p c = elim (below_or_not p.node 32) [
  | inl lt ↦
      let a : clock_of (vector_of f) p.node ≡ f p.node = clock_of-vector_of f p.node lt in
      let b : clock_of (vector_of g) p.node ≡ g p.node = clock_of-vector_of g p.node lt in
      let l : f p.node ≤ g p.node = le p.node lt in
      (c.0, omega arith)
  | inr out ↦ let z : clock_of (vector_of f) p.node ≡ 0 = clock_out f p.node out in absurd (omega (arith, c.0, c.1))
]

pub vector_grows : (e : Entry) (j : List Entry) (p : Point) → Covers (current_vector j) p → Covers (current_vector (e ∷ j)) p
vector_grows e j p c = covers_more (current_clock j) (current_clock (e ∷ j)) (λ w lt. omega arith) p c

join_is : (v w : List ℕ) (f g : ℕ → ℕ) → v ≡ vector_of f → ((k : ℕ) → k < 32 → max (f k) (clock_of w k) ≡ g k) → join_of v w ≡ vector_of g
join_is v w f g e each =
    same_vector (λ n. max (clock_of v n) (clock_of w n)) g
    (λ k lt. ap (λ (c : ℕ). max c (clock_of w k)) (ap (λ (x : List ℕ). clock_of x k) e ∙ clock_of-vector_of f k lt) ∙ each k lt)

-- what a message brings
pub join_accepted : (e : Entry) (j : List Entry) (v w : List ℕ) → v ≡ current_vector j → ((k : ℕ) → clock_brought e.event k ≡ clock_of w k) → join_of v w ≡ current_vector (e ∷ j)
join_accepted e j v w is brought =
    join_is v w (current_clock j) (current_clock (e ∷ j)) is (λ k lt. ap (λ (c : ℕ). max (current_clock j k) c) (sym (brought k)))

pub same_current : (e : Entry) (j : List Entry) → ((k : ℕ) → clock_brought e.event k ≡ 0) → current_vector j ≡ current_vector (e ∷ j)
same_current e j brought = same_vector (current_clock j) (current_clock (e ∷ j)) (λ k lt. let z : clock_brought e.event k ≡ 0 = brought k in omega arith)

join_zero : (f : ℕ → ℕ) → join_of (vector_of f) zero_vector ≡ vector_of f
join_zero f = join_is (vector_of f) zero_vector f f refl (λ k lt. let z : clock_of zero_vector k ≡ 0 = clock_zero k in omega arith)

pub cut_same : (j : List Entry) → join_of (cuts_of j) zero_vector ≡ cuts_of j
cut_same [] = join_zero (λ _. 0)
cut_same (e ∷ j) = join_zero _

pub floor_same : (j : List Entry) → join_of (floor_of j) zero_vector ≡ floor_of j
floor_same [] = join_zero (λ _. 0)
floor_same (e ∷ j) = join_zero _

raised_clock : (a b c k s : ℕ) → a ≡ b → cond (nat_eq k s) (max a c) a ≡ max b (cond (nat_eq k s) c 0)
raised_clock a b c k s e = grind (arith, nat_tests)

pub raised_is : (v : List ℕ) (f : ℕ → ℕ) (p : Point) → v ≡ vector_of f → raised v p ≡ vector_of (λ w. max (f w) (cond (nat_eq w p.node) p.clock 0))
raised_is v f p e =
    same_vector (λ n. cond (nat_eq n p.node) (max (clock_of v n) p.clock) (clock_of v n)) (λ w. max (f w) (cond (nat_eq w p.node) p.clock 0))
    (λ k lt. raised_clock (clock_of v k) (f k) p.clock k p.node (ap (λ (x : List ℕ). clock_of x k) e ∙ clock_of-vector_of f k lt))

pub not_covered : (v w : List ℕ) (p : Point) → v ≡ w → (Covers v p → ⊥) → Covers w p → ⊥
not_covered v w p e isnt c = isnt (subst (λ (x : List ℕ). Covers x p) (sym e) c)

pub same_covered : (v w : List ℕ) (p : Point) → v ≡ w → Covers v p → Covers w p
same_covered v w p e c = subst (λ (x : List ℕ). Covers x p) e c

pub cut_out : (j : List Entry) (w : ℕ) → 32 ≤ w → ◌≡◌ {A = ℕ} (clock_of (cuts_of j) w) 0
cut_out [] w le = clock_out (λ _. 0) w le
cut_out (e ∷ j) w le = clock_out _ w le

pub floor_out : (j : List Entry) (w : ℕ) → 32 ≤ w → ◌≡◌ {A = ℕ} (clock_of (floor_of j) w) 0
floor_out [] w le = clock_out (λ _. 0) w le
floor_out (e ∷ j) w le = clock_out _ w le
