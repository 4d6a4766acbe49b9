-- Sets of names that are made here, and sets of which the union is taken.
use Rattle.std.proofs.Common.{Result, Ok, Err, ◌≡◌, ℕ, ◌<◌, List, [], ◌∷◌, ◌++◌, Option, None, Some, Bool, true, false, refl, sym, ◌∙◌, ap, subst, arith, inl, inr, ◌||◌, Ordering, Less, Equal, Greater}
use Rattle.std.specs.Prelude.{◌⊎◌, IsTrue}
use Rattle.std.specs.Option.{is_some}
use Rattle.std.specs.Prelude.{IfSome, OnOk}
use Rattle.std.specs.Str.{bytes_eq}
use Rattle.std.proofs.lemmas.Slice.Eq.{bytes_eq-Decides}
use Rattle.std.proofs.lemmas.List.Folds.{list_any-append}
use Rattle.pr_names.specs.Name.{IsName}
use Rattle.pr_names.specs.Bound.{IsBound, is_under}
use Rattle.pr_names.specs.Above.{IsLeastAbove, after_of}
use Rattle.pr_names.specs.Span.{Span, holds}
use Rattle.pr_names.specs.declared.bound.Bound.{Bound}
use Rattle.pr_names.proofs.Place.{place}
use Rattle.pr_names.proofs.Places.{holds_tells, places_lt, not_under_places, under_places, same_place, span_of}
use Rattle.pr_names.proofs.Above.{one_some}
use Rattle.pr_sets.specs.Spans.{has}
use Rattle.pr_sets.proofs.Lists.{has_append}
use Rattle.std.specs.Cmp.Lexicographic.{slice_cmp}
use Rattle.std.specs.Ordering.{match_ordering, nat_cmp}
use Rattle.std.specs.BTreeSet.{insert_key}
use Rattle.std.proofs.lemmas.Map.Lookups.{exact_bytes}
use Rattle.pr_log.specs.Sets.{Gathered, is_any, is_gathered, is_in_any}

pub false_true : {A : Type 0} → false ≡ true → A
false_true e = cc

pub or_none : (b : Bool) → (b || false) ≡ b
or_none true = refl
or_none false = refl

pub or_assoc : (p q r : Bool) → ((p || q) || r) ≡ (p || (q || r))
or_assoc true q r = refl
or_assoc false q r = refl

pub or_swap : (p q : Bool) → (p || q) ≡ (q || p)
or_swap true true = refl
or_swap true false = refl
or_swap false true = refl
or_swap false false = refl

pub either_test : (b : Bool) → (b ≡ true) ⊎ (b ≡ false)
either_test true = inl refl
either_test false = inr refl

order : (a b : ℕ) → (a < b) ⊎ ((a ≡ b) ⊎ (b < a))
order a b = grind arith

-- from a name up to the least bound above it lies that name alone
one_holds : (n o : List ℕ) (b : Bound) → IsName n → IsName o → IsBound b → IsTrue (is_under n b) → IsLeastAbove n b → holds (record { lo = n; hi = b }) o ≡ bytes_eq n o
one_holds n o b hn ho hb under least =
    let s : Span = record { lo = n; hi = b } in
    elim (either_test (bytes_eq n o)) [
      | inl same ↦
          let e : n ≡ o = (bytes_eq-Decides n o).0 same in
          elim (holds_tells s o (span_of s hn hb (under_places n b hn hb under)) ho) [
            | inl g ↦ g.0 ∙ sym same
            | inr g ↦ elim g.1 [ inl before ↦ absurd (omega (arith, before, ap place e)) | inr after ↦ absurd (omega (arith, after, ap place e, under_places n b hn hb under)) ]
          ]
      | inr other ↦ elim (holds_tells s o (span_of s hn hb (under_places n b hn hb under)) ho) [
        | inl g ↦ elim (order (place n) (place o)) [
          | inl less ↦ absurd (omega (arith, g.2, not_under_places o b ho hb ((least o ho).0 (places_lt n o hn ho less))))
          | inr rest ↦ elim rest [
            | inl same ↦ false_true (sym other ∙ (bytes_eq-Decides n o).1 (same_place n o hn ho same))
            | inr more ↦ absurd (omega (arith, g.1, more))
          ]
        ]
        | inr g ↦ g.0 ∙ sym other
      ]
    ]

-- the interval of a name alone holds just that name
pub one_has : (n : List ℕ) (b : Bound) (r : Option Span) → IsName n → IsBound b → b ≡ after_of n → IsLeastAbove n b → IfSome r (λ s. s ≡ record { lo = n; hi = b }) → IfSome r (λ s. (o : List ℕ) → IsName o → holds s o ≡ bytes_eq n o)
one_has n b (Some s) hn hb after least is = λ o ho. ap (λ t. holds t o) is ∙ one_holds n o b hn ho hb (subst (λ x. IsTrue (is_under n x)) (sym after) (one_some n hn)) least
one_has n b None hn hb after least is = tt

-- there is such an interval
pub one_is_some : {A : Type 0} (n : List ℕ) (b : Bound) (r : Option Span) → IsName n → b ≡ after_of n → is_some r ≡ is_under n b → r ≡ None → A
one_is_some n b r hn after some none = false_true (sym (ap is_some none) ∙ some ∙ subst (λ x. IsTrue (is_under n x)) (sym after) (one_some n hn))

-- the set has the name of an interval behind it too
pub behind : {U E : Type 0} (r : Result U E) (set new : List Span) (part : Span) (n : List ℕ) → OnOk r (new ≡ set ++ part ∷ []) → ((o : List ℕ) → IsName o → holds part o ≡ bytes_eq n o) → OnOk r ((o : List ℕ) → IsName o → has new o ≡ (has set o || bytes_eq n o))
behind (Ok u) set new part n is just = λ o ho.
    ap (λ l. has l o) is ∙ has_append set (part ∷ []) o ∙ ap (λ b. has set o || b) (or_none (holds part o) ∙ just o ho)
behind (Err e) set new part n is just = tt

-- ---- names by themselves

or_again : (p q : Bool) → (p || q) ≡ ((p || q) || p)
or_again true q = refl
or_again false q = sym (or_none q)

-- a name that is put among others is one of them
pub put_among : (ns : List (List ℕ)) (n o : List ℕ) → is_any (insert_key (slice_cmp nat_cmp) ns n) o ≡ (is_any ns o || bytes_eq n o)
put_among [] n o = or_none (bytes_eq n o)
put_among (x ∷ xs) n o = placed (slice_cmp nat_cmp n x) refl (put_among xs n o)
  where
    placed : (r : Ordering) → slice_cmp nat_cmp n x ≡ r → is_any (insert_key (slice_cmp nat_cmp) xs n) o ≡ (is_any xs o || bytes_eq n o) → is_any (match_ordering r (n ∷ x ∷ xs) (x ∷ xs) (x ∷ insert_key (slice_cmp nat_cmp) xs n)) o ≡ (is_any (x ∷ xs) o || bytes_eq n o)
    placed Less at more = or_swap (bytes_eq n o) (is_any (x ∷ xs) o)
    placed Equal at more = or_again (bytes_eq x o) (is_any xs o) ∙ ap (λ m. is_any (x ∷ xs) o || bytes_eq m o) (sym (exact_bytes n x at))
    placed Greater at more = ap (λ b. bytes_eq x o || b) more ∙ sym (or_assoc (bytes_eq x o) (is_any xs o) (bytes_eq n o))

or_turn : (a b s : Bool) → ((a || b) || s) ≡ ((a || s) || b)
or_turn true b s = refl
or_turn false b s = or_swap b s

pub name_more : (g h : Gathered) (n o : List ℕ) → h.names ≡ insert_key (slice_cmp nat_cmp) g.names n → h.sets ≡ g.sets → is_gathered h o ≡ (is_gathered g o || bytes_eq n o)
name_more g h n o is same =
    ap (λ l. is_any l o || is_in_any h.sets o) is ∙ ap (λ l. is_any (insert_key (slice_cmp nat_cmp) g.names n) o || is_in_any l o) same
    ∙ ap (λ b. b || is_in_any g.sets o) (put_among g.names n o) ∙ or_turn (is_any g.names o) (bytes_eq n o) (is_in_any g.sets o)

-- ---- many sets

any_more : (sets : List (List Span)) (last : List Span) (o : List ℕ) → is_in_any (sets ++ last ∷ []) o ≡ (is_in_any sets o || has last o)
any_more sets last o = list_any-append (λ set. has set o) sets (last ∷ []) ∙ ap (λ b. is_in_any sets o || b) (or_none (has last o))

-- the last set is joined with the new one
pub joined_more : (old new : List (List Span)) (last set both : List Span) (o : List ℕ) (first : Bool) → old ≡ new ++ last ∷ [] → has both o ≡ (has last o || has set o) → (is_in_any old o || has set o) ≡ first → (is_in_any new o || has both o) ≡ first
joined_more old new last set both o first is names so_far =
    ap (λ b. is_in_any new o || b) names ∙ sym (or_assoc (is_in_any new o) (has last o) (has set o)) ∙ ap (λ b. b || has set o) (sym (any_more new last o) ∙ ap (λ l. is_in_any l o) (sym is)) ∙ so_far

pub pushed : (sets new : List (List Span)) (set : List Span) (o : List ℕ) (first : Bool) → new ≡ sets ++ set ∷ [] → (is_in_any sets o || has set o) ≡ first → is_in_any new o ≡ first
pushed sets new set o first is so_far = ap (λ l. is_in_any l o) is ∙ any_more sets set o ∙ so_far

-- the last set goes into the union
pub united : (old new : List (List Span)) (last union both : List Span) (o : List ℕ) (first : Bool) → old ≡ new ++ last ∷ [] → has both o ≡ (has union o || has last o) → (is_in_any old o || has union o) ≡ first → (is_in_any new o || has both o) ≡ first
united old new last union both o first is names so_far = joined_more old new last union both o first is (names ∙ or_swap (has union o) (has last o)) so_far
