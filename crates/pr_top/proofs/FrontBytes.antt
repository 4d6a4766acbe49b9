-- The bytes before the first byte 0.
use Rattle.std.proofs.Common.{◌≡◌, ℕ, ◌+◌, ◌-◌, ◌<◌, ◌≤◌, List, [], ◌∷◌, ◌++◌, Bool, true, false, cond, not, Option, None, Some, Result, Ok, Err, inl, inr, refl, sym, ◌∙◌, ap, subst, append_assoc, drop, length, take, arith, suc}
use Rattle.std.specs.Prelude.{◌≢◌, ◌==◌, nat_lt}
use Rattle.std.specs.Io.KnownBytes.{Consumes, IsAtEnd, prepend_known}
use Rattle.std.specs.List.{position, position_or_len}
use Rattle.std.proofs.lemmas.Bool.Decides.{nat_tests}
use Rattle.std.proofs.lemmas.List.{append-nil, length-append, take_rest}
use Rattle.pr_script.specs.Reading.{Kept}
use Rattle.pr_top.specs.Fronts.{HasLargeFront, HasNoZero, IsCutAt, IsEndedSo, IsFront, IsFrontReadSo, IsTaken, front}
use Rattle.pr_top.specs.Reading.{IsFinished}
use Rattle.pr_top.specs.Sizes.{IsTooLarge}
use Rattle.pr_top.specs.declared.fronts.Front.{Front}
use Rattle.pr_top.specs.declared.reading.ReadError.{ReadError}
use Rattle.pr_top.specs.declared.reading.ReadError.TheVariants as errors
use Rattle.pr_top.specs.declared.size.Size.{Size}
use Rattle.pr_top.proofs.Counting.{larger}

abbrev is_zero : ℕ → Bool
is_zero b = b == 0

abbrev place : List ℕ → ℕ
place xs = position_or_len is_zero xs

-- ---- where no byte is 0

pub no_zero_append : (xs ys : List ℕ) → HasNoZero xs → HasNoZero ys → HasNoZero (xs ++ ys)
no_zero_append [] ys none more = more
no_zero_append (x ∷ xs) ys none more = (none.0, no_zero_append xs ys none.1 more)

first_more : (x : ℕ) (zs : List ℕ) → x ≢ 0 → front (x ∷ zs) ≡ x ∷ front zs
first_more x zs ne = by (x == 0) refl
  where
    by : (b : Bool) → (x == 0) ≡ b → take (cond (not (x == 0)) (1 + place zs) 0) (x ∷ zs) ≡ x ∷ take (place zs) zs
    by true e = let is : x ≡ 0 = grind (arith, nat_tests) in absurd (ne is)
    by false e =
        let one : 1 + place zs ≡ suc (place zs) = omega arith in
        ap (λ (b : Bool). take (cond (not b) (1 + place zs) 0) (x ∷ zs)) e ∙ ap (λ (k : ℕ). take k (x ∷ zs)) one

-- the first byte 0 is behind them
front_behind : (xs ys : List ℕ) → HasNoZero xs → front (xs ++ ys) ≡ xs ++ front ys
front_behind [] ys none = refl
front_behind (x ∷ xs) ys none = first_more x (xs ++ ys) none.0 ∙ ap (λ (zs : List ℕ). x ∷ zs) (front_behind xs ys none.1)

-- they alone are too many
pub large_front : (a b : Option (List ℕ)) (xs ys : List ℕ) → HasNoZero xs → Consumes a b (xs ++ ys) → IsTooLarge xs → HasLargeFront a
large_front None b xs ys none p large = tt
large_front (Some x) None xs ys none p large = absurd p
large_front (Some x) (Some y) xs ys none p large =
    let is : front x ≡ xs ++ front (ys ++ y) = ap (λ (zs : List ℕ). front zs) (p ∙ append_assoc xs ys y) ∙ front_behind xs (ys ++ y) none in
    subst (λ (zs : List ℕ). IsTooLarge zs) (sym is) (larger xs (front (ys ++ y)) large)

-- ---- a piece that is cut

abbrev Parts : List ℕ → ℕ → Type 0
Parts xs k = HasNoZero (take k xs) × (k < length xs → xs ≡ take k xs ++ 0 ∷ drop (suc k) xs) × (length xs ≤ k → xs ≡ take k xs)

parts : (xs : List ℕ) → Parts xs (place xs)
parts [] = (tt, (λ lt. absurd (omega arith)), λ le. refl)
parts (x ∷ xs) = by (x == 0) refl (parts xs)
  where
    by : (b : Bool) → (x == 0) ≡ b → Parts xs (place xs) → Parts (x ∷ xs) (cond (not (x == 0)) (1 + place xs) 0)
    by true e rest =
        let is : x ≡ 0 = grind (arith, nat_tests) in
        subst (λ (c : Bool). Parts (x ∷ xs) (cond (not c) (1 + place xs) 0)) (sym e) (tt, (λ lt. ap (λ (y : ℕ). y ∷ xs) is), λ le. absurd (omega arith))
    by false e rest =
        let ne : x ≢ 0 = λ is. (let same : (x == 0) ≡ true = grind (arith, nat_tests) in absurd (cc)) in
        let one : 1 + place xs ≡ suc (place xs) = omega arith in
        subst (λ (c : Bool). Parts (x ∷ xs) (cond (not c) (1 + place xs) 0)) (sym e)
        (subst (λ (k : ℕ). Parts (x ∷ xs) k) (sym one)
        ((ne, rest.0), (λ lt. ap (λ (ys : List ℕ). x ∷ ys) (rest.1 (omega arith))), λ le. ap (λ (ys : List ℕ). x ∷ ys) (rest.2 (omega arith))))

pub cut_some : (xs : List ℕ) (i : ℕ) → position is_zero xs ≡ Some i → IsCutAt xs (take i xs) (Some (take (length xs - (i + 1)) (drop (i + 1) xs)))
cut_some xs i found = by (nat_lt (place xs) (length xs)) refl found
  where
    by : (b : Bool) → nat_lt (place xs) (length xs) ≡ b → cond b (Some (place xs)) None ≡ Some i → IsCutAt xs (take i xs) (Some (take (length xs - (i + 1)) (drop (i + 1) xs)))
    by true e same =
        let is : place xs ≡ i = cc in
        let lt : place xs < length xs = grind (arith, nat_tests) in
        let all = subst (λ (k : ℕ). Parts xs k) is (parts xs) in
        let one : suc i ≡ i + 1 = omega arith in
        (all.1 (omega arith) ∙ ap (λ (k : ℕ). take i xs ++ 0 ∷ drop k xs) one ∙ ap (λ (ys : List ℕ). take i xs ++ 0 ∷ ys) (sym (take_rest xs (i + 1))), all.0)
    by false e same = absurd (cc)

pub cut_none : (xs : List ℕ) → position is_zero xs ≡ None → IsCutAt xs xs None
cut_none xs found = by (nat_lt (place xs) (length xs)) refl found
  where
    by : (b : Bool) → nat_lt (place xs) (length xs) ≡ b → cond b (Some (place xs)) None ≡ None → IsCutAt xs xs None
    by true e same = absurd (cc)
    by false e same =
        let past : length xs ≤ place xs = grind (arith, nat_tests) in
        let all = parts xs in
        (refl, subst (λ (ys : List ℕ). HasNoZero ys) (sym (all.2 past)) all.0)

-- ---- what was read behind it

unread : (a c : Option (List ℕ)) (xs ys : List ℕ) → Consumes a c (xs ++ ys) → Consumes a (prepend_known ys c) xs
unread None c xs ys p = tt
unread (Some x) None xs ys p = absurd p
unread (Some x) (Some z) xs ys p = p ∙ append_assoc xs ys z

-- it ended with a byte 0
pub front_cut : (a c : Option (List ℕ)) (xs piece before behind : List ℕ) → HasNoZero xs → Consumes a c (xs ++ piece) → IsCutAt piece before (Some behind) → (IsTooLarge (xs ++ before) → ⊥)
    → IsFront a (prepend_known behind c) (xs ++ before)
front_cut a c xs piece before behind none p cut fits =
    let is : xs ++ piece ≡ ((xs ++ before) ++ 0 ∷ []) ++ behind =
    ap (λ (t : List ℕ). xs ++ t) (cut.0 ∙ sym (append_assoc before (0 ∷ []) behind)) ∙ sym (append_assoc xs (before ++ 0 ∷ []) behind) ∙ ap (λ (t : List ℕ). t ++ behind) (sym (append_assoc xs before (0 ∷ []))) in
    record {
      no_zero = no_zero_append xs before none cut.1;
      ended = inl (unread a c ((xs ++ before) ++ 0 ∷ []) behind (subst (λ (t : List ℕ). Consumes a c t) is p));
      fits = fits;
    }

none_ahead : (c : Option (List ℕ)) → prepend_known [] c ≡ c
none_ahead None = refl
none_ahead (Some x) = refl

-- or with the source
pub front_ended : (a c : Option (List ℕ)) (xs : List ℕ) → HasNoZero xs → Consumes a c xs → IsAtEnd c → (IsTooLarge xs → ⊥) → IsFront a (prepend_known [] c) xs
front_ended a c xs none p ended fits = record {
  no_zero = none;
  ended = inr (subst (λ (o : Option (List ℕ)). Consumes a o xs) (sym (none_ahead c)) p, subst (λ (o : Option (List ℕ)). IsAtEnd o) (sym (none_ahead c)) ended);
  fits = fits;
}

-- what is before the byte 0, or all
pub cut_front : (piece before : List ℕ) (o : Option (List ℕ)) → IsCutAt piece before o → (rest : List ℕ) × (piece ≡ before ++ rest) × HasNoZero before
cut_front piece before None cut = ([], cut.0 ∙ sym (append-nil before), cut.1)
cut_front piece before (Some behind) cut = (0 ∷ behind, cut.0, cut.1)

pub few_behind : (piece before behind : List ℕ) → IsCutAt piece before (Some behind) → length piece ≤ 4096 → length behind ≤ 4096
few_behind piece before behind cut few =
    let l = ap (λ (xs : List ℕ). length xs) cut.0 in
    let m = length-append before (0 ∷ behind) in
    omega (arith, l, m, few)

pub ended_fault : (bytes ahead : List ℕ) (e : ReadError) → IsFinished bytes (Err e) → IsEndedSo bytes ahead (Err e)
ended_fault bytes ahead (errors.Bad line why) means = means
ended_fault bytes ahead errors.NoMemory why = tt
ended_fault bytes ahead errors.Failed why = absurd why
ended_fault bytes ahead errors.TooLarge why = absurd why

-- a piece was not taken
pub front_not_taken : (a b : Option (List ℕ)) (f g : ℕ) (reader : Kept) (size : Size) (bytes rest : List ℕ) (e : ReadError) (r : Result Front ReadError) → HasNoZero bytes → Consumes a b (bytes ++ rest) → IsTaken reader size bytes (Err e) → r ≡ Err e → IsFrontReadSo a b f g r
front_not_taken a b f g reader size bytes rest e r none p why is = subst (λ (x : Result Front ReadError). IsFrontReadSo a b f g x) (sym is) (by e why)
  where
    by : (x : ReadError) → IsTaken reader size bytes (Err x) → IsFrontReadSo a b f g (Err x)
    by errors.TooLarge large = large_front a b bytes rest none p large
    by errors.NoMemory why = tt
    by errors.Failed why = absurd why
    by (errors.Bad line why) none = absurd none

-- the bytes were read, and what they mean is answered
pub front_answered : (a c : Option (List ℕ)) (f g : ℕ) (bytes ahead : List ℕ) (r : Result Front ReadError) → length ahead ≤ 4096 → IsFront a (prepend_known ahead c) bytes → IsEndedSo bytes ahead r → IsFrontReadSo a c f g r
front_answered a c f g bytes ahead (Ok x) few read (same, means, good, labels) = (
  record { bytes = bytes; read = subst (λ (t : List ℕ). IsFront a (prepend_known t c) bytes) (sym same) read; means = means },
  good,
  labels,
  subst (λ (t : List ℕ). length t ≤ 4096) (sym same) few,
)
front_answered a c f g bytes ahead (Err errors.Failed) few read why = absurd why
front_answered a c f g bytes ahead (Err errors.TooLarge) few read why = absurd why
front_answered a c f g bytes ahead (Err (errors.Bad line why)) few read means = record { bytes = bytes; behind = prepend_known ahead c; read = read; means = means }
front_answered a c f g bytes ahead (Err errors.NoMemory) few read why = tt
