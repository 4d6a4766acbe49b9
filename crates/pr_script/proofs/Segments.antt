-- What a piece does, which is cut at the ends of its lines.
use Rattle.std.proofs.Common.{◌≡◌, ℕ, ◌+◌, ◌-◌, ◌<◌, ◌≤◌, List, [], ◌∷◌, ◌++◌, Bool, true, false, cond, not, None, Some, refl, sym, ◌∙◌, ap, subst, append_assoc, drop, length, length-drop, take, arith, suc}
use Rattle.std.specs.Prelude.{◌≢◌, ◌==◌, nat_lt}
use Rattle.std.specs.List.{flat_map, position, position_or_len}
use Rattle.std.proofs.lemmas.Bool.Decides.{nat_tests}
use Rattle.std.proofs.lemmas.List.{take_rest}
use Rattle.pr_script.specs.Reading.{Sofar, ended, HasNoEnd, next, StandsFor}
use Rattle.pr_script.proofs.Folds.{one_line}

abbrev is_end : ℕ → Bool
is_end b = b == 10

abbrev place : List ℕ → ℕ
place xs = position_or_len is_end xs

-- what is behind an end at this place
abbrev pub behind : List ℕ → ℕ → List ℕ
behind xs i = take (length xs - (i + 1)) (drop (i + 1) xs)

pub behind_shorter : (xs : List ℕ) (i : ℕ) → length (behind xs i) ≤ length xs
behind_shorter xs i = omega (arith, ap length (take_rest xs (i + 1)), length-drop (i + 1) xs)

-- ---- where a piece is cut

abbrev Parts : List ℕ → ℕ → Type 0
Parts xs k = HasNoEnd (take k xs) × (k < length xs → xs ≡ take k xs ++ 10 ∷ drop (suc k) xs) × (length xs ≤ k → xs ≡ take k xs)

parts : (xs : List ℕ) → Parts xs (place xs)
parts [] = (tt, (λ lt. absurd (omega arith)), λ le. refl)
parts (x ∷ xs) = by (x == 10) refl (parts xs)
  where
    by : (b : Bool) → (x == 10) ≡ b → Parts xs (place xs) → Parts (x ∷ xs) (cond (not (x == 10)) (1 + place xs) 0)
    by true e rest =
        let is : x ≡ 10 = grind (arith, nat_tests) in
        subst (λ (c : Bool). Parts (x ∷ xs) (cond (not c) (1 + place xs) 0)) (sym e) (tt, (λ lt. ap (λ (y : ℕ). y ∷ xs) is), λ le. absurd (omega arith))
    by false e rest =
        let ne : x ≢ 10 = λ is. (let same : (x == 10) ≡ true = grind (arith, nat_tests) in absurd (cc)) in
        let one : 1 + place xs ≡ suc (place xs) = omega arith in
        subst (λ (c : Bool). Parts (x ∷ xs) (cond (not c) (1 + place xs) 0)) (sym e)
        (subst (λ (k : ℕ). Parts (x ∷ xs) k) (sym one)
        ((ne, rest.0), (λ lt. ap (λ (ys : List ℕ). x ∷ ys) (rest.1 (omega arith))), λ le. ap (λ (ys : List ℕ). x ∷ ys) (rest.2 (omega arith))))

cut_at : (xs : List ℕ) (i : ℕ) → position is_end xs ≡ Some i → (xs ≡ take i xs ++ 10 ∷ behind xs i) × HasNoEnd (take i xs)
cut_at xs i found = by (nat_lt (place xs) (length xs)) refl found
  where
    by : (b : Bool) → nat_lt (place xs) (length xs) ≡ b → cond b (Some (place xs)) None ≡ Some i → (xs ≡ take i xs ++ 10 ∷ behind xs i) × HasNoEnd (take i xs)
    by true e same =
        let is : place xs ≡ i = cc in
        let lt : place xs < length xs = grind (arith, nat_tests) in
        let all = subst (λ (k : ℕ). Parts xs k) is (parts xs) in
        let one : suc i ≡ i + 1 = omega arith in
        (all.1 (omega arith) ∙ ap (λ (k : ℕ). take i xs ++ 10 ∷ drop k xs) one ∙ ap (λ (ys : List ℕ). take i xs ++ 10 ∷ ys) (sym (take_rest xs (i + 1))), all.0)
    by false e same = absurd (cc)

no_end : (xs : List ℕ) → position is_end xs ≡ None → HasNoEnd xs
no_end xs found = by (nat_lt (place xs) (length xs)) refl found
  where
    by : (b : Bool) → nat_lt (place xs) (length xs) ≡ b → cond b (Some (place xs)) None ≡ None → HasNoEnd xs
    by true e same = absurd (cc)
    by false e same =
        let past : length xs ≤ place xs = grind (arith, nat_tests) in
        let all = parts xs in
        subst (λ (ys : List ℕ). HasNoEnd ys) (sym (all.2 past)) all.0

-- ---- what its parts do

both : (xs ys : List ℕ) → HasNoEnd xs → HasNoEnd ys → HasNoEnd (xs ++ ys)
both [] ys none more = more
both (x ∷ xs) ys none more = (none.0, both xs ys none.1 more)

-- bytes without an end
segment : (f : Sofar) (rest bytes more : List ℕ) → HasNoEnd more → StandsFor f rest bytes → StandsFor f (rest ++ more) (bytes ++ more)
segment f rest bytes more none (lines, cut, is) = (
  lines,
  record {
    whole = ap (λ (x : List ℕ). x ++ more) cut.whole ∙ append_assoc (flat_map ended lines) rest more;
    each = cut.each;
    last = both rest more cut.last none;
  },
  is,
)

-- bytes that lead to what is kept, and those that are left, are all of these
abbrev pub IsUpTo : Sofar → List ℕ → List ℕ → List ℕ → Type 0
IsUpTo f under left all = (before : List ℕ) × (before ++ left ≡ all) × StandsFor f under before

-- a line of the piece is read
pub line_turn : (f g : Sofar) (under none left all : List ℕ) (i : ℕ) → Some i ≡ position (λ b. b == 10) left → g ≡ next f (under ++ take i left) → none ≡ [] → IsUpTo f under left all
    → IsUpTo g none (behind left i) all
line_turn f g under none left all i found is e (before, whole, h) =
    let cut = cut_at left i (sym found) in
    let line : StandsFor (next f (under ++ take i left)) [] ((before ++ take i left) ++ 10 ∷ []) =
    one_line f (under ++ take i left) (before ++ take i left) (segment f under before (take i left) cut.1 h) in
    let same : ((before ++ take i left) ++ 10 ∷ []) ++ behind left i ≡ all =
    append_assoc (before ++ take i left) (10 ∷ []) (behind left i) ∙ append_assoc before (take i left) (10 ∷ behind left i) ∙ ap (λ (x : List ℕ). before ++ x) (sym cut.0) ∙ whole in
    ((before ++ take i left) ++ 10 ∷ [], same, subst (λ (x : Sofar). StandsFor x none ((before ++ take i left) ++ 10 ∷ [])) (sym is) (subst (λ (x : List ℕ). StandsFor (next f (under ++ take i left)) x ((before ++ take i left) ++ 10 ∷ [])) (sym e) line))

-- what is behind its last end is kept
pub last_turn : (f : Sofar) (under more left all : List ℕ) → None ≡ position (λ b. b == 10) left → more ≡ under ++ left → IsUpTo f under left all → StandsFor f more all
last_turn f under more left all found e (before, whole, h) =
    subst (λ (x : List ℕ). StandsFor f x all) (sym e) (subst (λ (x : List ℕ). StandsFor f (under ++ left) x) whole (segment f under before left (no_end left (sym found)) h))
