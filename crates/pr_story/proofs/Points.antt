-- Searches through points, and what one entry more tells.
use Rattle.std.proofs.Common.{◌≡◌, ◌≢◌, ℕ, ◌<◌, ◌≤◌, ◌+◌, ◌⊎◌, inl, inr, List, ◌∷◌, Bool, true, false, refl, sym, ap, subst, ◌∙◌, arith, max, cond, nat_eq, length}
use Rattle.std.specs.Prelude.{◌↔◌, ◌||◌, IsTrue}
use Rattle.std.proofs.lemmas.Bool.Decides.{nat_tests}
use Rattle.std.proofs.lemmas.List.{get_or_past}
use Rattle.pr_stamps.specs.Point.{Point}
use Rattle.pr_vectors.specs.Vector.{clock_of, raised, Covers}
use Rattle.pr_vectors.proofs.Vectors.{clock_of-vector_of, length-vector_of}
use Rattle.pr_inval.specs.declared.kind.Kind.{Kind}
use Rattle.pr_story.specs.declared.entry.Entry.{Entry}
use Rattle.pr_story.specs.History.{Accepts, HasAccepted, current_clock, current_vector}
use Rattle.pr_story.specs.Told.{IsGreatestUpTo}
use Rattle.pr_story.specs.Search.{point}
use Rattle.pr_vectors.specs.UpTo.{IsLastClock}

-- one of the accepted messages is as wanted
abbrev pub SomeKind : (Kind → Type 0) → List Entry → Type 0
SomeKind P j = (k : Kind) × HasAccepted j k × P k

either_so : (a b : Bool) → IsTrue (a || b) → IsTrue a ⊎ IsTrue b
either_so true b e = inl refl
either_so false b e = inr e

so_either : (a b : Bool) → IsTrue a ⊎ IsTrue b → IsTrue (a || b)
so_either true b e = refl
so_either false b e = elim e [ inl p ↦ absurd (cc) | inr p ↦ p ]

pub some_more : (P : Kind → Type 0) (e : Entry) (j : List Entry) (was here : Bool) → IsTrue was ↔ SomeKind P j → IsTrue here ↔ ((k : Kind) × Accepts e.event k × P k) → IsTrue (was || here) ↔ SomeKind P (e ∷ j)
some_more P e j was here old new = (
  λ t. elim (either_so was here t) [
    | inl w ↦ let s = old.0 w in (s.0, inr s.1, s.2)
    | inr h ↦ let s = new.0 h in (s.0, inl s.1, s.2)
  ],
  λ s. so_either was here (elim s.1 [ inl now ↦ inr (new.1 (s.0, now, s.2)) | inr past ↦ inl (old.1 (s.0, past, s.2)) ]),
)

-- ---- runs

next_or : (c b : ℕ) → c ≤ b + 1 → (c ≤ b) ⊎ (c ≡ b + 1)
next_or c b le = grind (arith, nat_tests)

below_or : (a n : ℕ) → a < n + 1 → (a < n) ⊎ (a ≡ n)
below_or a n lt = grind (arith, nat_tests)

less_or : (a n : ℕ) → (a < n) ⊎ (n ≤ a)
less_or a n = grind (arith, nat_tests)

same_or : (a n : ℕ) → (a ≡ n) ⊎ (a ≢ n)
same_or a n = grind (arith, nat_tests)

-- one point more
pub run_more : (T : Point → Type 0) (v : List ℕ) (n b : ℕ) → ((c : ℕ) → 1 ≤ c → c ≤ b → T (point c n)) → b < clock_of v n → (Covers v (point (b + 1) n) → T (point (b + 1) n))
    → (c : ℕ) → 1 ≤ c → c ≤ b + 1 → T (point c n)
run_more T v n b told lt next c one le = elim (next_or c b le) [
  | inl old ↦ told c one old
  | inr now ↦ subst (λ (k : ℕ). T (point k n)) (sym now) (next (omega arith, omega arith))
]

-- all points of the node
pub run_all : (T : Point → Type 0) (v : List ℕ) (n b most : ℕ) → ((c : ℕ) → 1 ≤ c → c ≤ b → T (point c n)) → most ≡ clock_of v n → most ≤ b → IsLastClock T v n most
run_all T v n b most told is le = (omega arith, λ c one under. told c one (omega arith), λ lt. absurd (omega arith))

-- a covered point is of a known node
pub covered_node : (v : List ℕ) (p : Point) → length v ≡ 32 → Covers v p → p.node < 32
covered_node v p l c = elim (less_or p.node 32) [
  | inl lt ↦ lt
  | inr past ↦ let z : clock_of v p.node ≡ 0 = get_or_past v p.node 0 (omega arith) in let one : 1 ≤ p.clock = c.0 in let le : p.clock ≤ clock_of v p.node = c.1 in absurd (omega arith)
]

-- all points of one clock more
pub clock_more : (T : Point → Type 0) (v : List ℕ) (b : ℕ) → length v ≡ 32 → ((p : Point) → p.clock ≤ b → Covers v p → T p) → ((m : ℕ) → m < 32 → Covers v (point (b + 1) m) → T (point (b + 1) m))
    → (p : Point) → p.clock ≤ b + 1 → Covers v p → T p
clock_more T v b l told next p le c = elim (next_or p.clock b le) [
  | inl old ↦ told p old c
  | inr now ↦
      subst (λ (k : ℕ). T (point k p.node)) (sym now) (next p.node (covered_node v p l c) (subst (λ (k : ℕ). Covers v (point k p.node)) now c))
]

-- ---- vectors by their runs

raised_here : (a c : ℕ) (n m : ℕ) → a ≡ 0 → n ≡ m → cond (nat_eq n m) (max a c) a ≡ c
raised_here a c n m z e = grind (arith, nat_tests)

raised_other : (a c : ℕ) (w n m : ℕ) → w ≢ n → n ≡ m → cond (nat_eq w m) (max a c) a ≡ a
raised_other a c w n m d e = grind (arith, nat_tests)

pub raised_length : (v u : List ℕ) (p : Point) → u ≡ raised v p → length u ≡ 32
raised_length v u p e = ap (λ (x : List ℕ). length x) e ∙ length-vector_of _

pub raised_at : (v u : List ℕ) (p : Point) (n c : ℕ) → u ≡ raised v p → p ≡ point c n → n < 32 → clock_of v n ≡ 0 → clock_of u n ≡ c
raised_at v u p n c e is lt z =
    ap (λ (x : List ℕ). clock_of x n) (e ∙ ap (λ (q : Point). raised v q) is)
    ∙ clock_of-vector_of (λ k. cond (nat_eq k n) (max (clock_of v k) c) (clock_of v k)) n lt
    ∙ raised_here (clock_of v n) c n n z refl

pub raised_apart : (v u : List ℕ) (p : Point) (n c w : ℕ) → u ≡ raised v p → p ≡ point c n → w < 32 → w ≢ n → clock_of u w ≡ clock_of v w
raised_apart v u p n c w e is lt d =
    ap (λ (x : List ℕ). clock_of x w) (e ∙ ap (λ (q : Point). raised v q) is)
    ∙ clock_of-vector_of (λ k. cond (nat_eq k n) (max (clock_of v k) c) (clock_of v k)) w lt
    ∙ raised_other (clock_of v w) c w n n d refl

-- the runs of the nodes below n
pub record AreRuns (T : Point → Type 0) (v last : List ℕ) (n : ℕ) : Type 0 where
  pub long : length last ≡ 32
  pub runs : (w : ℕ) → w < n → IsLastClock T v w (clock_of last w)
  pub rest : (w : ℕ) → w < 32 → n ≤ w → clock_of last w ≡ 0

pub runs_more : (T : Point → Type 0) (v last next : List ℕ) (n most : ℕ) → n < 32 → AreRuns T v last n → IsLastClock T v n most → length next ≡ 32 → clock_of next n ≡ most
    → ((w : ℕ) → w < 32 → w ≢ n → clock_of next w ≡ clock_of last w) → AreRuns T v next (n + 1)
runs_more T v last next n most lt so run long here others = record {
  long = long;
  runs = λ w less. elim (below_or w n less) [
    | inl old ↦ subst (λ (k : ℕ). IsLastClock T v w k) (sym (others w (omega arith) (omega arith))) (so.runs w old)
    | inr now ↦ subst (λ (k : ℕ). IsLastClock T v k (clock_of next k)) (sym now) (subst (λ (k : ℕ). IsLastClock T v n k) (sym here) run)
  ];
  rest = λ w less le. others w less (omega arith) ∙ so.rest w less (omega arith);
}

pub runs_last : (T : Point → Type 0) (j : List Entry) (v last : List ℕ) (n : ℕ) → v ≡ current_vector j → 32 ≤ n → AreRuns T v last n → IsGreatestUpTo j T last
runs_last T j v last n is all so = (
  so.long,
  λ w lt.
      let r : IsLastClock T v w (clock_of last w) = so.runs w (omega arith) in
      let le : clock_of last w ≤ clock_of v w = r.0 in
      let e : clock_of v w ≡ current_clock j w = ap (λ (u : List ℕ). clock_of u w) is ∙ clock_of-vector_of (current_clock j) w lt in
      (omega arith, r.1, λ below. r.2 (omega arith)),
)
