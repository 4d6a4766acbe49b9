-- The set that begins last, beside the others.
use Rattle.std.proofs.Common.{Result, Ok, Err, ◌≡◌, ◌+◌, ◌-◌, ℕ, ◌≤◌, ◌<◌, List, [], ◌∷◌, Option, None, Some, Bool, true, false, cond, refl, sym, ◌∙◌, ap, subst, arith, inl, inr, ◌||◌, not}
use Rattle.std.specs.Prelude.{◌⊎◌, ◌↔◌, IsTrue}
use Rattle.std.specs.Option.{IsSome}
use Rattle.std.specs.Result.{IfOk, OnOk}
use Rattle.std.specs.Ordering.{is_eq, is_lt, nat_cmp}
use Rattle.pr_names.specs.Name.{IsName}
use Rattle.pr_names.specs.Span.{Span}
use Rattle.pr_sets.specs.Spans.{has}
use Rattle.pr_log.specs.Sets.{begins_at, is_lit_at, lacks, standing, IsDarkAt}
use Rattle.pr_log.specs.Tail.{AreBefore, with_tail}
use Rattle.pr_log.specs.declared.tail.Tail.{Tail}
use Rattle.pr_log.proofs.Clocks.{less_or, this_key, other_key, key_not_less, none_of, out_or_none, put_in, put_here, taken_out}
use Rattle.pr_log.proofs.Names.{either_test}
use Rattle.pr_log.proofs.Places.{this_or_other}
use Rattle.pr_log.proofs.Standing.{here, same_up_to, stands_on}
use Rattle.pr_log.proofs.Turns.{lit_already}

-- ---- what begins and what stands

pub tail_at : (t : Tail) (row : List (ℕ × List Span)) (q : ℕ) → q ≡ t.start → begins_at (with_tail (Some t) row) q ≡ Some t.set
tail_at t row q e = ap (λ b. cond b (Some t.set) (begins_at row q)) (this_key q t.start e)

pub tail_not : (t : Tail) (row : List (ℕ × List Span)) (q : ℕ) → ¬ (q ≡ t.start) → begins_at (with_tail (Some t) row) q ≡ begins_at row q
tail_not t row q h = ap (λ b. cond b (Some t.set) (begins_at row q)) (other_key q t.start h)

pub stands_behind : (t : Tail) (row : List (ℕ × List Span)) (c : ℕ) → AreBefore (Some t) row → t.start ≤ c → standing (begins_at (with_tail (Some t) row)) c ≡ Some t.set
stands_behind t row c before le =
    let f = begins_at (with_tail (Some t) row) in
    stands_on f t.start c le (λ k above within. tail_not t row k (λ e. omega (arith, e, above)) ∙ before k (omega (arith, above)))
    ∙ here f t.start t.set (tail_at t row t.start refl)

pub stands_before : (t : Tail) (row : List (ℕ × List Span)) (c : ℕ) → c < t.start → standing (begins_at (with_tail (Some t) row)) c ≡ standing (begins_at row) c
stands_before t row c lt = same_up_to (begins_at row) (begins_at (with_tail (Some t) row)) c (λ k le. tail_not t row k (λ e. omega (arith, e, le, lt)))

pub same_lit : (a b : List (ℕ × List Span)) → ((q : ℕ) → begins_at b q ≡ begins_at a q) → (o : List ℕ) (c : ℕ) → is_lit_at b o c ≡ is_lit_at a o c
same_lit a b same o c = ap (λ x. lacks x o) (same_up_to (begins_at a) (begins_at b) c (λ k le. same k))

-- ---- it is put into the map, or taken out of it

pub put_lit : (t : Tail) (a b : List (ℕ × List Span)) → ((q : ℕ) → begins_at b q ≡ cond (is_eq (nat_cmp t.start q)) (Some t.set) (begins_at a q)) → (o : List ℕ) (c : ℕ) → is_lit_at b o c ≡ is_lit_at (with_tail (Some t) a) o c
put_lit t a b in_ o c = same_lit (with_tail (Some t) a) b at o c
  where
    at : (q : ℕ) → begins_at b q ≡ begins_at (with_tail (Some t) a) q
    at q = elim (this_or_other q t.start) [
      | inl same ↦ put_here t.start q (begins_at a q) (begins_at b q) t.set (in_ q) (sym same) ∙ sym (tail_at t a q same)
      | inr other ↦ put_in t.start q (begins_at a q) (begins_at b q) t.set (in_ q) (λ e. other (sym e)) ∙ sym (tail_not t a q other)
    ]

pub out_before : (t : Tail) (a b : List (ℕ × List Span)) → ((q : ℕ) → begins_at b q ≡ cond (is_eq (nat_cmp t.start q)) None (begins_at a q)) → ((q : ℕ) → IsSome (begins_at a q) → is_lt (nat_cmp t.start q) ≡ false) → AreBefore (Some t) b
out_before t a b out last c le = elim (less_or t.start c) [
  | inl past ↦ out_or_none t.start c (begins_at a c) (begins_at b c) (out c) (none_of (begins_at a c) (λ some. omega (arith, past, key_not_less t.start c (last c some))))
  | inr up ↦ out c ∙ ap (λ x. cond x None (begins_at a c)) (this_key t.start c (omega (arith, up, le)))
]

pub out_lit : (t : Tail) (a b : List (ℕ × List Span)) → begins_at a t.start ≡ Some t.set → ((q : ℕ) → begins_at b q ≡ cond (is_eq (nat_cmp t.start q)) None (begins_at a q)) → (o : List ℕ) (c : ℕ) → is_lit_at (with_tail (Some t) b) o c ≡ is_lit_at a o c
out_lit t a b was out o c = same_lit a (with_tail (Some t) b) at o c
  where
    at : (q : ℕ) → begins_at (with_tail (Some t) b) q ≡ begins_at a q
    at q = elim (this_or_other q t.start) [
      | inl same ↦ tail_at t b q same ∙ sym (ap (begins_at a) same ∙ was)
      | inr other ↦ tail_not t b q other ∙ taken_out t.start q (begins_at a q) (begins_at b q) (out q) (λ e. other (sym e))
    ]

-- ---- forgetting

pub all_forgotten : (t : Tail) (row : List (ℕ × List Span)) (clock : ℕ) → AreBefore (Some t) row → t.start ≤ clock + 1 → (o : List ℕ) (c : ℕ) → clock < c → is_lit_at (with_tail (Some t) []) o c ≡ is_lit_at (with_tail (Some t) row) o c
all_forgotten t row clock before le o c lt = ap (λ x. lacks x o) (stands_behind t [] c (λ k h. refl) (omega (arith, le, lt)) ∙ sym (stands_behind t row c before (omega (arith, le, lt))))

pub some_forgotten : (t : Tail) (a b : List (ℕ × List Span)) (clock : ℕ) → AreBefore (Some t) a → clock + 1 < t.start → ((o : List ℕ) (c : ℕ) → clock < c → is_lit_at b o c ≡ is_lit_at a o c) → ((c : ℕ) → clock + 1 < c → begins_at b c ≡ begins_at a c) → (o : List ℕ) (c : ℕ) → clock < c → is_lit_at (with_tail (Some t) b) o c ≡ is_lit_at (with_tail (Some t) a) o c
some_forgotten t a b clock before far lit others o c lt = elim (less_or c t.start) [
  | inl less ↦ ap (λ x. lacks x o) (stands_before t b c less) ∙ lit o c lt ∙ sym (ap (λ x. lacks x o) (stands_before t a c less))
  | inr up ↦ ap (λ x. lacks x o) (stands_behind t b c (λ k h. others k (omega (arith, far, h)) ∙ before k h) up ∙ sym (stands_behind t a c before up))
]

-- ---- the dark names

or_true : (a : Bool) → (a || true) ≡ true
or_true true = refl
or_true false = refl

has_it : (a b : Bool) → (a || b) ≡ true → a ≡ false → b ≡ true
has_it true b e n = cc
has_it false b e n = e

in_it : (b : Bool) → not b ≡ false → b ≡ true
in_it true e = refl
in_it false e = cc

-- where it alone stands
pub dark_behind : (t : Tail) (row : List (ℕ × List Span)) (lo hi : ℕ) (o : List ℕ) (now was : Bool) → AreBefore (Some t) row → t.start ≤ lo → lo ≤ hi → now ≡ (was || has t.set o) → IsTrue now ↔ (IsTrue was ⊎ IsDarkAt (with_tail (Some t) row) lo hi o)
dark_behind t row lo hi o now was before le order is = (
  (λ h. elim (either_test was) [
    | inl old ↦ inl old
    | inr new ↦ inr (lo, omega arith, order, at lo (omega arith) ∙ ap not (has_it was (has t.set o) (sym is ∙ h) new))
  ]),
  (λ h. is ∙ elim h [
    | inl old ↦ ap (λ b. b || has t.set o) old
    | inr dark ↦ ap (λ b. was || b) (in_it (has t.set o) (sym (at dark.0 dark.1) ∙ dark.3)) ∙ or_true was
  ]),
)
  where
    at : (c : ℕ) → lo ≤ c → is_lit_at (with_tail (Some t) row) o c ≡ not (has t.set o)
    at c up = ap (λ x. lacks x o) (stands_behind t row c before (omega (arith, le, up)))

-- where others stand before it
pub dark_both : (t : Tail) (row : List (ℕ × List Span)) (lo hi : ℕ) (o : List ℕ) (now mid was : Bool) → AreBefore (Some t) row → lo < t.start → t.start ≤ hi → IsTrue mid ↔ (IsTrue was ⊎ IsDarkAt row lo (t.start - 1) o) → now ≡ (mid || has t.set o) → IsTrue now ↔ (IsTrue was ⊎ IsDarkAt (with_tail (Some t) row) lo hi o)
dark_both t row lo hi o now mid was before from up so_far is = (
  (λ h. elim (either_test mid) [
    | inl old ↦ elim (so_far.0 old) [
      | inl first ↦ inl first
      | inr dark ↦ inr (dark.0, dark.1, omega (arith, dark.2, up), ap (λ x. lacks x o) (stands_before t row dark.0 (omega (arith, dark.2, from))) ∙ dark.3)
    ]
    | inr new ↦ inr (t.start, omega (arith, from), up, at t.start (omega arith) ∙ ap not (has_it mid (has t.set o) (sym is ∙ h) new))
  ]),
  (λ h. is ∙ elim h [
    | inl old ↦ ap (λ b. b || has t.set o) (so_far.1 (inl old))
    | inr dark ↦ elim (less_or dark.0 t.start) [
      | inl less ↦ ap (λ b. b || has t.set o) (so_far.1 (inr (dark.0, dark.1, omega (arith, less), sym (ap (λ x. lacks x o) (stands_before t row dark.0 less)) ∙ dark.3)))
      | inr behind ↦ ap (λ b. mid || b) (in_it (has t.set o) (sym (at dark.0 behind) ∙ dark.3)) ∙ or_true mid
    ]
  ]),
)
  where
    at : (c : ℕ) → t.start ≤ c → is_lit_at (with_tail (Some t) row) o c ≡ not (has t.set o)
    at c le = ap (λ x. lacks x o) (stands_behind t row c before le)

-- where it begins behind all
pub dark_before : (t : Tail) (row : List (ℕ × List Span)) (lo hi : ℕ) (o : List ℕ) (now was : Bool) → hi < t.start → IsTrue now ↔ (IsTrue was ⊎ IsDarkAt row lo hi o) → IsTrue now ↔ (IsTrue was ⊎ IsDarkAt (with_tail (Some t) row) lo hi o)
dark_before t row lo hi o now was far so_far = (
  (λ h. elim (so_far.0 h) [
    | inl old ↦ inl old
    | inr dark ↦ inr (dark.0, dark.1, dark.2, ap (λ x. lacks x o) (stands_before t row dark.0 (omega (arith, dark.2, far))) ∙ dark.3)
  ]),
  (λ h. elim h [
    | inl old ↦ so_far.1 (inl old)
    | inr dark ↦ so_far.1 (inr (dark.0, dark.1, dark.2, sym (ap (λ x. lacks x o) (stands_before t row dark.0 (omega (arith, dark.2, far)))) ∙ dark.3))
  ]),
)

-- what holds of an answer holds in other words
pub ok_more : {A E : Type 0} {P Q : A → Type 0} (r : Result A E) → ((x : A) → P x → Q x) → IfOk r P → IfOk r Q
ok_more (Ok x) f h = f x h
ok_more (Err e) f h = tt

pub ok_or : {A E : Type 0} {P Q : Type 0} (r : Result A E) → (P → Q) → OnOk r P → OnOk r Q
ok_or (Ok x) f h = f h
ok_or (Err e) f h = tt

-- where it stands and has only names of the target, the names that the target lacks are lit
pub lit_behind : (t : Tail) (row : List (ℕ × List Span)) (target : List Span) (o : List ℕ) (c : ℕ) → AreBefore (Some t) row → t.start ≤ c → (IsTrue (has t.set o) → IsTrue (has target o)) → is_lit_at (with_tail (Some t) row) o c ≡ (is_lit_at (with_tail (Some t) row) o c || not (has target o))
lit_behind t row target o c before le within = lit_already (standing (begins_at (with_tail (Some t) row)) c) t.set target o (sym (stands_behind t row c before le)) within

pub lit_before : (t : Tail) (row : List (ℕ × List Span)) (target : List Span) (o : List ℕ) (c : ℕ) → c < t.start → is_lit_at row o c ≡ (is_lit_at row o c || not (has target o)) → is_lit_at (with_tail (Some t) row) o c ≡ (is_lit_at (with_tail (Some t) row) o c || not (has target o))
lit_before t row target o c lt so = subst (λ x. lacks x o ≡ (lacks x o || not (has target o))) (sym (stands_before t row c lt)) so
