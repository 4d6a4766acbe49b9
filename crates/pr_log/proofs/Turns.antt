-- What the calls on a map of sets find and change.
use Rattle.std.proofs.Common.{Result, Ok, Err, ◌≡◌, ℕ, ◌≤◌, ◌<◌, ◌+◌, List, Option, None, Some, Bool, true, false, refl, sym, ◌∙◌, ap, subst, arith, inl, inr, ◌||◌, not, cond}
use Rattle.std.specs.Prelude.{◌⊎◌, ◌↔◌, IsTrue}
use Rattle.std.specs.Option.{IsSome}
use Rattle.std.specs.Result.{IfOk}
use Rattle.std.specs.Ordering.{is_eq, is_lt, is_gt, nat_cmp}
use Rattle.pr_names.specs.Name.{IsName}
use Rattle.pr_names.specs.Span.{Span}
use Rattle.pr_sets.specs.Spans.{has, IsIntersection}
use Rattle.pr_log.specs.Sets.{begins_at, is_lit_at, standing, lacks, IsDarkAt, IsNarrowed}
use Rattle.pr_log.proofs.Clocks.{less_or, none_of, up_to_key, key_not_less, put_in, put_here}
use Rattle.pr_log.proofs.Names.{either_test}
use Rattle.pr_stamps.proofs.Places.{below_or}
use Rattle.pr_log.proofs.Standing.{here, stands_on, none_stands}

not_not : (b : Bool) → not (not b) ≡ b
not_not true = refl
not_not false = refl

-- ---- the last set that begins

-- the same at each clock behind its beginning
pub last_within : (f : ℕ → Option (List Span)) (s c d : ℕ) (u : List Span) → f s ≡ Some u → s ≤ c → c ≤ d → ((t : ℕ) → is_gt (nat_cmp t d) ≡ false → IsSome (f t) → is_lt (nat_cmp s t) ≡ false) → Some u ≡ standing f c
last_within f s c d u is le up last =
    sym (stands_on f s c le (λ t above within. none_of (f t) (λ some. omega (arith, above, key_not_less s t (last t (up_to_key t d (omega (arith, within, up))) some)))) ∙ here f s u is)

pub last_is : (f : ℕ → Option (List Span)) (s c : ℕ) (u : List Span) → f s ≡ Some u → s ≤ c → ((t : ℕ) → is_gt (nat_cmp t c) ≡ false → IsSome (f t) → is_lt (nat_cmp s t) ≡ false) → Some u ≡ standing f c
last_is f s c u is le last = last_within f s c c u is le (omega arith) last

-- where the set has only names of the target, the names that the target lacks are lit
pub lit_already : (x : Option (List Span)) (set target : List Span) (o : List ℕ) → Some set ≡ x → (IsTrue (has set o) → IsTrue (has target o)) → lacks x o ≡ (lacks x o || not (has target o))
lit_already x set target o stands within = subst (λ y. lacks y o ≡ (lacks y o || not (has target o))) stands (covered (has set o) (has target o) within)
  where
    covered : (a b : Bool) → (IsTrue a → IsTrue b) → not a ≡ (not a || not b)
    covered false b h = refl
    covered true b h = ap not (sym (h refl))

pub none_is : (f : ℕ → Option (List Span)) (c : ℕ) → ((t : ℕ) → is_gt (nat_cmp t c) ≡ false → f t ≡ None) → None ≡ standing f c
none_is f c none = sym (none_stands f c (λ t le. none t (up_to_key t c le)))

-- ---- the dark names

pub dark_copy : {E : Type 0} (r : Result (List Span) E) (x : Option (List Span)) (u : List Span) → Some u ≡ x → IfOk r (λ set. set ≡ u) → IfOk r (λ set. (o : List ℕ) → IsName o → has set o ≡ not (lacks x o))
dark_copy (Ok set) x u stands same = λ o name. ap (λ l. has l o) same ∙ sym (not_not (has u o)) ∙ ap (λ z. not (lacks z o)) stands
dark_copy (Err e) x u stands same = tt

pub dark_all : {E : Type 0} (r : Result (List Span) E) (x : Option (List Span)) → None ≡ x → IfOk r (λ set. (o : List ℕ) → IsName o → has set o ≡ true) → IfOk r (λ set. (o : List ℕ) → IsName o → has set o ≡ not (lacks x o))
dark_all (Ok set) x stands all = λ o name. all o name ∙ ap (λ z. not (lacks z o)) stands
dark_all (Err e) x stands all = tt

-- ---- narrowing, one set more

pub narrow_more : (first now new : ℕ → Option (List Span)) (target : List Span) (lo clock start : ℕ) (set narrowed : List Span) → lo ≤ clock → clock ≤ start → now start ≡ Some set → ((s : ℕ) → clock ≤ s → s < start → now s ≡ None) → IsIntersection set target narrowed → ((q : ℕ) → new q ≡ cond (is_eq (nat_cmp start q)) (Some narrowed) (now q)) → ((c : ℕ) → lo ≤ c → c < clock → IsNarrowed target (first c) (now c)) → ((c : ℕ) → ((c < lo) ⊎ (clock ≤ c)) → now c ≡ first c) → (c : ℕ) → lo ≤ c → c < start + 1 → IsNarrowed target (first c) (new c)
narrow_more first now new target lo clock start set narrowed from up is none both in_ done rest c le lt = elim (below_or c start lt) [
  | inr at ↦
      let was : first c ≡ Some set = sym (rest c (inr (omega (arith, at, up)))) ∙ ap now at ∙ is in
      let became : new c ≡ Some narrowed = put_here start c (now c) (new c) narrowed (in_ c) (sym at) in
      subst (λ x. IsNarrowed target x (new c)) (sym was) (narrowed, became, both.names)
  | inl less ↦
      let stays : new c ≡ now c = put_in start c (now c) (new c) narrowed (in_ c) (λ e. omega (arith, e, less)) in
      elim (less_or c clock) [
        | inl before ↦ subst (IsNarrowed target (first c)) (sym stays) (done c le before)
        | inr after ↦ subst (λ x. IsNarrowed target x (new c)) (sym (sym (rest c (inr after)) ∙ none c after less)) (stays ∙ none c after less)
      ]
]

pub narrow_rest : (first now new : ℕ → Option (List Span)) (lo clock start : ℕ) (narrowed : List Span) → lo ≤ clock → clock ≤ start → ((q : ℕ) → new q ≡ cond (is_eq (nat_cmp start q)) (Some narrowed) (now q)) → ((c : ℕ) → ((c < lo) ⊎ (clock ≤ c)) → now c ≡ first c) → (c : ℕ) → ((c < lo) ⊎ (start + 1 ≤ c)) → new c ≡ first c
narrow_rest first now new lo clock start narrowed from up in_ rest c (inl below) = put_in start c (now c) (new c) narrowed (in_ c) (λ e. omega (arith, e, below, from, up)) ∙ rest c (inl below)
narrow_rest first now new lo clock start narrowed from up in_ rest c (inr above) = put_in start c (now c) (new c) narrowed (in_ c) (λ e. omega (arith, e, above)) ∙ rest c (inr (omega (arith, above, up)))

pub narrow_all : (first now : ℕ → Option (List Span)) (target : List Span) (lo clock hi : ℕ) → ((s : ℕ) → clock ≤ s → s ≤ hi → now s ≡ None) → ((c : ℕ) → lo ≤ c → c < clock → IsNarrowed target (first c) (now c)) → ((c : ℕ) → ((c < lo) ⊎ (clock ≤ c)) → now c ≡ first c) → (c : ℕ) → lo ≤ c → c ≤ hi → IsNarrowed target (first c) (now c)
narrow_all first now target lo clock hi none done rest c le within = elim (less_or c clock) [
  | inl before ↦ done c le before
  | inr after ↦ subst (λ x. IsNarrowed target x (now c)) (sym (sym (rest c (inr after)) ∙ none c after within)) (none c after within)
]

pub others_end : (first now : ℕ → Option (List Span)) (lo clock hi : ℕ) → clock ≤ hi + 1 → ((c : ℕ) → ((c < lo) ⊎ (clock ≤ c)) → now c ≡ first c) → (c : ℕ) → ((c < lo) ⊎ (hi < c)) → now c ≡ first c
others_end first now lo clock hi end rest c (inl below) = rest c (inl below)
others_end first now lo clock hi end rest c (inr above) = rest c (inr (omega (arith, above, end)))

-- ---- collecting dark names

-- at the first clock
pub dark_first : (row : List (ℕ × List Span)) (lo : ℕ) (set : List Span) (o : List ℕ) (now was : Bool) → has set o ≡ not (is_lit_at row o lo) → now ≡ (was || has set o) → IsTrue now ↔ (IsTrue was ⊎ IsDarkAt row lo lo o)
dark_first row lo set o now was dark is = (
  (λ h. elim (either_test was) [ inl old ↦ inl old | inr new ↦ inr (lo, omega arith, omega arith, lit (is_lit_at row o lo) (sym dark ∙ has_it was (has set o) (sym is ∙ h) new)) ]),
  (λ h. elim h [ inl old ↦ is ∙ ap (λ b. b || has set o) old | inr new ↦ is ∙ ap (λ b. was || b) (dark ∙ ap not (ap (is_lit_at row o) (one lo new.0 new.1 new.2) ∙ new.3)) ∙ or_true was ]),
)
  where
    lit : (b : Bool) → not b ≡ true → b ≡ false
    lit true e = cc
    lit false e = refl

    has_it : (a b : Bool) → (a || b) ≡ true → a ≡ false → b ≡ true
    has_it true b e n = cc
    has_it false b e n = e

    or_true : (a : Bool) → (a || true) ≡ true
    or_true true = refl
    or_true false = refl

    one : (lo c : ℕ) → lo ≤ c → c ≤ lo → lo ≡ c
    one lo c le ge = omega arith

-- at one set more
pub dark_more : (row : List (ℕ × List Span)) (lo clock start : ℕ) (set : List Span) (o : List ℕ) (now was : Bool) (old : Bool) → lo ≤ clock → clock < start → begins_at row start ≡ Some set → ((s : ℕ) → clock + 1 ≤ s → s < start → begins_at row s ≡ None) → now ≡ (was || has set o) → IsTrue was ↔ (IsTrue old ⊎ IsDarkAt row lo clock o) → IsTrue now ↔ (IsTrue old ⊎ IsDarkAt row lo start o)
dark_more row lo clock start set o now was old from up begins none is so_far = (
  (λ h. elim (either_test was) [
    | inl before ↦ elim (so_far.0 before) [ inl first ↦ inl first | inr dark ↦ inr (dark.0, dark.1, omega (arith, dark.2, up), dark.3) ]
    | inr new ↦ inr (start, omega (arith, from, up), omega arith, at ∙ ap not (has_it was (has set o) (sym is ∙ h) new))
  ]),
  (λ h. is ∙ elim h [
    | inl first ↦ ap (λ b. b || has set o) (so_far.1 (inl first))
    | inr dark ↦ elim (less_or clock dark.0) [
      | inr before ↦ ap (λ b. b || has set o) (so_far.1 (inr (dark.0, dark.1, before, dark.3)))
      | inl after ↦ elim (below_or dark.0 start (omega (arith, dark.2))) [
        | inl less ↦ ap (λ b. b || has set o) (so_far.1 (inr (clock, from, omega arith, ap (λ x. lacks x o) (sym (stands_on (begins_at row) clock dark.0 (omega (arith, after)) (λ t above within. none t (omega (arith, above)) (omega (arith, within, less))))) ∙ dark.3)))
        | inr last ↦ ap (λ b. was || b) (in_it (has set o) (sym at ∙ ap (is_lit_at row o) (sym last) ∙ dark.3)) ∙ or_true was
      ]
    ]
  ]),
)
  where
    at : is_lit_at row o start ≡ not (has set o)
    at = ap (λ x. lacks x o) (here (begins_at row) start set begins)

    has_it : (a b : Bool) → (a || b) ≡ true → a ≡ false → b ≡ true
    has_it true b e n = cc
    has_it false b e n = e

    in_it : (b : Bool) → not b ≡ false → b ≡ true
    in_it true e = refl
    in_it false e = cc

    or_true : (a : Bool) → (a || true) ≡ true
    or_true true = refl
    or_true false = refl

-- no set begins after the last clock
pub dark_end : (row : List (ℕ × List Span)) (lo clock hi : ℕ) (o : List ℕ) (now old : Bool) → lo ≤ clock → clock ≤ hi → ((s : ℕ) → clock + 1 ≤ s → s ≤ hi → begins_at row s ≡ None) → IsTrue now ↔ (IsTrue old ⊎ IsDarkAt row lo clock o) → IsTrue now ↔ (IsTrue old ⊎ IsDarkAt row lo hi o)
dark_end row lo clock hi o now old from up none so_far = (
  (λ h. elim (so_far.0 h) [ inl first ↦ inl first | inr dark ↦ inr (dark.0, dark.1, omega (arith, dark.2, up), dark.3) ]),
  (λ h. elim h [
    | inl first ↦ so_far.1 (inl first)
    | inr dark ↦ elim (less_or clock dark.0) [
      | inr before ↦ so_far.1 (inr (dark.0, dark.1, before, dark.3))
      | inl after ↦ so_far.1 (inr (clock, from, omega arith, ap (λ x. lacks x o) (sym (stands_on (begins_at row) clock dark.0 (omega (arith, after)) (λ t above within. none t (omega (arith, above)) (omega (arith, within, dark.2))))) ∙ dark.3))
    ]
  ]),
)
