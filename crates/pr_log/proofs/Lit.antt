-- The lit names at the points of all nodes, by those of each node.
use Rattle.std.proofs.Common.{Result, Ok, Err, ◌≡◌, ℕ, ◌≤◌, ◌<◌, ◌+◌, List, [], length, Bool, true, false, refl, sym, ◌∙◌, ap, subst, arith, nat_eq, nat_lt, nat_le, inl, inr, ◌||◌, ◌&&◌, not}
use Rattle.std.specs.Prelude.{◌⊎◌, ◌↔◌, IsTrue}
use Rattle.std.specs.Result.{IfOk}
use Rattle.std.proofs.lemmas.Bool.Decides.{nat_tests}
use Rattle.pr_stamps.specs.Point.{Point}
use Rattle.pr_names.specs.Name.{IsName}
use Rattle.pr_names.specs.Span.{Span}
use Rattle.pr_sets.specs.Spans.{has, IsSet, IsSetOf}
use Rattle.pr_vectors.specs.Vector.{Between, Covers, clock_of}
use Rattle.pr_log.specs.Sets.{is_lit_at, IsDarkAt}
use Rattle.pr_log.specs.Dark.{IsDarkBetween, IsLitToo, IsRowRefined, is_lit_in, sets_of}
use Rattle.pr_log.proofs.Clocks.{less_or}
use Rattle.pr_log.proofs.Places.{past_end, this_or_other}
use Rattle.pr_stamps.proofs.Places.{below_or}
use Rattle.pr_log.proofs.Names.{either_test}

true_false : {A : Type 0} → true ≡ false → A
true_false e = cc

-- ---- of one node

lt_is : (a b : ℕ) → a < b → nat_lt a b ≡ true
lt_is a b lt = grind (arith, nat_tests)

is_lt : (a b : ℕ) → nat_lt a b ≡ true → a < b
is_lt a b e = grind (arith, nat_tests)

le_is : (a b : ℕ) → a ≤ b → nat_le a b ≡ true
le_is a b le = grind (arith, nat_tests)

is_le : (a b : ℕ) → nat_le a b ≡ true → a ≤ b
is_le a b e = grind (arith, nat_tests)

lt_not : (a b : ℕ) → b ≤ a → nat_lt a b ≡ false
lt_not a b le = grind (arith, nat_tests)

le_not : (a b : ℕ) → b < a → nat_le a b ≡ false
le_not a b lt = grind (arith, nat_tests)

own_is : (a b : ℕ) → a ≡ b → nat_eq a b ≡ true
own_is a b e = grind (arith, nat_tests)

own_not : (a b : ℕ) → ¬ (a ≡ b) → nat_eq a b ≡ false
own_not a b h = grind (arith, nat_tests)

not_own : (a b : ℕ) → nat_eq a b ≡ false → ¬ (a ≡ b)
not_own a b e h = grind (arith, nat_tests)

or_none : (b : Bool) → (b || false) ≡ b
or_none true = refl
or_none false = refl

-- within the clocks
pub row_within : (lo hi : ℕ) (target : List Span) (a b : List (ℕ × List Span)) → ((o : List ℕ) (c : ℕ) → IsName o → lo + 1 ≤ c → c ≤ hi → is_lit_at b o c ≡ (is_lit_at a o c || not (has target o))) → ((o : List ℕ) (c : ℕ) → IsName o → ((c < lo + 1) ⊎ (hi < c)) → is_lit_at b o c ≡ is_lit_at a o c) → IsRowRefined lo hi target a b
row_within lo hi target a b within others o c name = elim (less_or lo c) [
  | inl above ↦ elim (less_or hi c) [
    | inl past ↦ others o c name (inr past) ∙ sym (ap (λ t. is_lit_at a o c || (nat_lt lo c && (t && not (has target o)))) (le_not c hi past) ∙ ap (λ t. is_lit_at a o c || t) (none (nat_lt lo c)) ∙ or_none (is_lit_at a o c))
    | inr up ↦ within o c name (omega (arith, above)) up ∙ sym (ap (λ t. is_lit_at a o c || (t && (nat_le c hi && not (has target o)))) (lt_is lo c above) ∙ ap (λ t. is_lit_at a o c || (t && not (has target o))) (le_is c hi up))
  ]
  | inr below ↦ others o c name (inl (omega (arith, below))) ∙ sym (ap (λ t. is_lit_at a o c || (t && (nat_le c hi && not (has target o)))) (lt_not lo c below) ∙ or_none (is_lit_at a o c))
]
  where
    none : (b : Bool) → (b && false) ≡ false
    none true = refl
    none false = refl

-- no clock lies between
pub row_none : (lo hi : ℕ) (target : List Span) (a : List (ℕ × List Span)) → hi ≤ lo → IsRowRefined lo hi target a a
row_none lo hi target a le o c name = elim (less_or lo c) [
  | inl above ↦ sym (ap (λ t. is_lit_at a o c || (nat_lt lo c && (t && not (has target o)))) (le_not c hi (omega (arith, le, above))) ∙ ap (λ t. is_lit_at a o c || t) (none (nat_lt lo c)) ∙ or_none (is_lit_at a o c))
  | inr below ↦ sym (ap (λ t. is_lit_at a o c || (t && (nat_le c hi && not (has target o)))) (lt_not lo c below) ∙ or_none (is_lit_at a o c))
]
  where
    none : (b : Bool) → (b && false) ≡ false
    none true = refl
    none false = refl

-- ---- of all nodes

-- past the last node a vector's clock is 0
none_between : (from to : List ℕ) (p : Point) → length to ≡ 32 → 32 ≤ p.node → ¬ Between from to p
none_between from to p len past between = omega (arith, between.0, between.1, past_end to p.node 0 (omega (arith, len, past)))

lit_own : (own : ℕ) (dark : List (List (ℕ × List Span))) (o : List ℕ) (p : Point) → p.node ≡ own → is_lit_in own dark o p ≡ true
lit_own own dark o p here = ap (λ b. b || (nat_lt 0 p.clock && is_lit_at (sets_of dark p.node) o p.clock)) (own_is p.node own here)

lit_other : (own : ℕ) (dark : List (List (ℕ × List Span))) (o : List ℕ) (p : Point) → ¬ (p.node ≡ own) → 0 < p.clock → is_lit_in own dark o p ≡ is_lit_at (sets_of dark p.node) o p.clock
lit_other own dark o p other some =
    ap (λ b. b || (nat_lt 0 p.clock && is_lit_at (sets_of dark p.node) o p.clock)) (own_not p.node own other)
    ∙ ap (λ b. b && is_lit_at (sets_of dark p.node) o p.clock) (lt_is 0 p.clock some)

lit_zero : (own : ℕ) (dark : List (List (ℕ × List Span))) (o : List ℕ) (p : Point) → ¬ (p.node ≡ own) → p.clock ≤ 0 → is_lit_in own dark o p ≡ false
lit_zero own dark o p other none =
    ap (λ b. b || (nat_lt 0 p.clock && is_lit_at (sets_of dark p.node) o p.clock)) (own_not p.node own other)
    ∙ ap (λ b. b && is_lit_at (sets_of dark p.node) o p.clock) (lt_not 0 p.clock none)

lit_past : (own : ℕ) (a b : List (List (ℕ × List Span))) (o : List ℕ) (p : Point) → length a ≡ 32 → length b ≡ 32 → 32 ≤ p.node → is_lit_in own b o p ≡ is_lit_in own a o p
lit_past own a b o p len_a len_b past =
    ap (λ (row : List (ℕ × List Span)). nat_eq p.node own || (nat_lt 0 p.clock && is_lit_at row o p.clock)) (past_end b p.node [] (omega (arith, len_b, past)) ∙ sym (past_end a p.node [] (omega (arith, len_a, past))))

either : (x s t : Bool) → (x || (s && (t && true))) ≡ true → x ≡ false → (s ≡ true) × (t ≡ true)
either true s t e n = cc
either false true true e n = (refl, refl)
either false true false e n = cc
either false false t e n = cc

lacks_it : (x s t h : Bool) → (x || (s && (t && not h))) ≡ true → x ≡ false → (s ≡ true) × (t ≡ true) × (h ≡ false)
lacks_it true s t h e n = cc
lacks_it false true true true e n = cc
lacks_it false true true false e n = (refl, refl, refl)
lacks_it false true false h e n = cc
lacks_it false false t h e n = cc

or_true : (a : Bool) → (a || true) ≡ true
or_true true = refl
or_true false = refl

pub lit_refined : (own : ℕ) (a b : List (List (ℕ × List Span))) (from to : List ℕ) (target : List Span) → length a ≡ 32 → length b ≡ 32 → length to ≡ 32 → ((n : ℕ) → n < 32 → ¬ (n ≡ own) → IsRowRefined (clock_of from n) (clock_of to n) target (sets_of a n) (sets_of b n)) → IsLitToo own a b from to target
lit_refined own a b from to target len_a len_b len_to each o p name = elim (this_or_other p.node own) [
  | inl here ↦ ((λ lit. inl (lit_own own a o p here)), (λ h. lit_own own b o p here))
  | inr other ↦ elim (less_or p.node 32) [
    | inr past ↦ (
      (λ lit. inl (sym (lit_past own a b o p len_a len_b past) ∙ lit)),
      (λ h. elim h [ inl lit ↦ lit_past own a b o p len_a len_b past ∙ lit | inr new ↦ absurd (none_between from to p len_to past new.0) ]),
    )
    | inl within ↦ elim (less_or 0 p.clock) [
      | inr none ↦ ((λ lit. true_false (sym lit ∙ lit_zero own b o p other none)), (λ h. elim h [ inl lit ↦ true_false (sym lit ∙ lit_zero own a o p other none) | inr new ↦ absurd (omega (arith, new.0.0, none)) ]))
      | inl some ↦
          let row = each p.node within other o p.clock name in (
            (λ lit. elim (either_test (is_lit_at (sets_of a p.node) o p.clock)) [
              | inl old ↦ inl (lit_other own a o p other some ∙ old)
              | inr new ↦
                  let k = lacks_it (is_lit_at (sets_of a p.node) o p.clock) (nat_lt (clock_of from p.node) p.clock) (nat_le p.clock (clock_of to p.node)) (has target o) (sym row ∙ sym (lit_other own b o p other some) ∙ lit) new in
                  inr ((is_lt (clock_of from p.node) p.clock k.0, is_le p.clock (clock_of to p.node) k.1), k.2)
            ]),
            (λ h. lit_other own b o p other some ∙ row ∙ elim h [
              | inl lit ↦ ap (λ t. t || (nat_lt (clock_of from p.node) p.clock && (nat_le p.clock (clock_of to p.node) && not (has target o)))) (sym (lit_other own a o p other some) ∙ lit)
              | inr new ↦
                  ap (λ t. is_lit_at (sets_of a p.node) o p.clock || (t && (nat_le p.clock (clock_of to p.node) && not (has target o)))) (lt_is (clock_of from p.node) p.clock new.0.0)
                  ∙ ap (λ t. is_lit_at (sets_of a p.node) o p.clock || (t && not (has target o))) (le_is p.clock (clock_of to p.node) new.0.1)
                  ∙ ap (λ t. is_lit_at (sets_of a p.node) o p.clock || not t) new.1
                  ∙ or_true (is_lit_at (sets_of a p.node) o p.clock)
            ]),
          )
    ]
  ]
]

-- past a cut
pub lit_kept : (own : ℕ) (a b : List (List (ℕ × List Span))) (cut : List ℕ) → length a ≡ 32 → length b ≡ 32 → ((n : ℕ) → n < 32 → (o : List ℕ) (c : ℕ) → clock_of cut n < c → is_lit_at (sets_of b n) o c ≡ is_lit_at (sets_of a n) o c) → (o : List ℕ) (p : Point) → ¬ Covers cut p → is_lit_in own b o p ≡ is_lit_in own a o p
lit_kept own a b cut len_a len_b each o p apart = elim (this_or_other p.node own) [
  | inl here ↦ lit_own own b o p here ∙ sym (lit_own own a o p here)
  | inr other ↦ elim (less_or p.node 32) [
    | inr past ↦ lit_past own a b o p len_a len_b past
    | inl within ↦ elim (less_or 0 p.clock) [
      | inr none ↦ lit_zero own b o p other none ∙ sym (lit_zero own a o p other none)
      | inl some ↦ elim (less_or (clock_of cut p.node) p.clock) [
        | inl above ↦ lit_other own b o p other some ∙ each p.node within o p.clock above ∙ sym (lit_other own a o p other some)
        | inr below ↦ absurd (apart (some, below))
      ]
    ]
  ]
]

-- ---- the dark names between two vectors

-- of the nodes below n
abbrev pub IsDarkBelow : ℕ → List (List (ℕ × List Span)) → List ℕ → List ℕ → ℕ → List ℕ → Type 0
IsDarkBelow own dark from to n o = (k : ℕ) × (k < n) × (nat_eq k own ≡ false) × IsDarkAt (sets_of dark k) (clock_of from k + 1) (clock_of to k) o

pub below_more : (own : ℕ) (dark : List (List (ℕ × List Span))) (from to : List ℕ) (n lo hi : ℕ) (row : List (ℕ × List Span)) (here : Bool) (o : List ℕ) (now was : Bool) → row ≡ sets_of dark n → lo ≡ clock_of from n → hi ≡ clock_of to n → here ≡ nat_eq n own → IsTrue now ↔ (IsTrue was ⊎ ((here ≡ false) × IsDarkAt row (lo + 1) hi o)) → IsTrue was ↔ IsDarkBelow own dark from to n o → IsTrue now ↔ IsDarkBelow own dark from to (n + 1) o
below_more own dark from to n lo hi row here o now was row_is lo_is hi_is here_is one so_far = (
  (λ h. elim (one.0 h) [
    | inl old ↦ let k = so_far.0 old in (k.0, omega (arith, k.1), k.2, k.3)
    | inr new ↦ (n, omega arith, sym here_is ∙ new.0, subst (λ (r : List (ℕ × List Span)). IsDarkAt r (clock_of from n + 1) (clock_of to n) o) row_is (subst (λ c. IsDarkAt row (c + 1) (clock_of to n) o) lo_is (subst (λ c. IsDarkAt row (lo + 1) c o) hi_is new.1)))
  ]),
  (λ k. one.1 (elim (below_or k.0 n k.1) [
    | inl less ↦ inl (so_far.1 (k.0, less, k.2, k.3))
    | inr same ↦ inr (here_is ∙ ap (λ x. nat_eq x own) (sym same) ∙ k.2, subst (λ c. IsDarkAt row (lo + 1) c o) (sym hi_is) (subst (λ c. IsDarkAt row (c + 1) (clock_of to n) o) (sym lo_is) (subst (λ (r : List (ℕ × List Span)). IsDarkAt r (clock_of from n + 1) (clock_of to n) o) (sym row_is) (subst (λ x. IsDarkAt (sets_of dark x) (clock_of from x + 1) (clock_of to x) o) same k.3))))
  ])),
)

pub none_below : (own : ℕ) (dark : List (List (ℕ × List Span))) (from to : List ℕ) (o : List ℕ) → IsTrue false ↔ IsDarkBelow own dark from to 0 o
none_below own dark from to o = ((λ h. true_false (sym h)), (λ k. absurd (omega (arith, k.1))))

dark_is : (own : ℕ) (dark : List (List (ℕ × List Span))) (from to : List ℕ) (o : List ℕ) → length to ≡ 32 → IsDarkBetween own dark from to o → IsDarkBelow own dark from to 32 o
dark_is own dark from to o len (p, between, out) = elim (less_or p.node 32) [
  | inr past ↦ absurd (none_between from to p len past between)
  | inl within ↦ elim (this_or_other p.node own) [
    | inl here ↦ true_false (sym (lit_own own dark o p here) ∙ out)
    | inr other ↦ (p.node, within, own_not p.node own other, (p.clock, omega (arith, between.0), between.1, sym (lit_other own dark o p other (omega (arith, between.0))) ∙ out))
  ]
]

is_dark : (own : ℕ) (dark : List (List (ℕ × List Span))) (from to : List ℕ) (o : List ℕ) → IsDarkBelow own dark from to 32 o → IsDarkBetween own dark from to o
is_dark own dark from to o (n, lt, other, (c, above, within, out)) =
    let p : Point = record { clock = c; node = n } in
    (p, (omega (arith, above), within), lit_other own dark o p (not_own n own other) (omega (arith, above)) ∙ out)

pub set_of_dark : {E : Type 0} (r : Result (List Span) E) (own : ℕ) (dark : List (List (ℕ × List Span))) (from to : List ℕ) (names : List ℕ → Bool) → length to ≡ 32 → IfOk r IsSet → IfOk r (λ set. (o : List ℕ) → IsName o → has set o ≡ names o) → ((o : List ℕ) → IsName o → IsTrue (names o) ↔ IsDarkBelow own dark from to 32 o) → IfOk r (λ set. IsSetOf set (IsDarkBetween own dark from to))
set_of_dark (Ok set) own dark from to names len one same each = record {
  one_list = one;
  has_them = λ o name is. same o name ∙ (each o name).1 (dark_is own dark from to o len is);
  no_others = λ o name is. is_dark own dark from to o ((each o name).0 (sym (same o name) ∙ is));
}
set_of_dark (Err e) own dark from to names len one same each = tt

-- behind the last node that has a clock no point lies between
pub dark_behind : (own : ℕ) (dark : List (List (ℕ × List Span))) (from to : List ℕ) (n : ℕ) (o : List ℕ) (now : Bool) → n ≤ 32 → ((k : ℕ) → n ≤ k → k < 32 → clock_of to k ≡ 0) → IsTrue now ↔ IsDarkBelow own dark from to n o → IsTrue now ↔ IsDarkBelow own dark from to 32 o
dark_behind own dark from to n o now most behind so_far = (
  (λ h. let k = so_far.0 h in (k.0, omega (arith, k.1, most), k.2, k.3)),
  (λ k. elim (less_or k.0 n) [
    | inl less ↦ so_far.1 (k.0, less, k.2, k.3)
    | inr past ↦ absurd (omega (arith, behind k.0 past k.1, k.3.1, k.3.2))
  ]),
)
