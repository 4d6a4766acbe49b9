-- The size of bytes and a piece more.
use Rattle.std.proofs.Common.{◌≡◌, ◌⊎◌, ℕ, ◌+◌, ◌-◌, ◌<◌, ◌≤◌, List, [], ◌∷◌, ◌++◌, inl, inr, refl, sym, ◌∙◌, ap, subst, length, take, drop, arith}
use Rattle.std.proofs.lemmas.List.{append-nil, length-append, take-append-drop}
use Rattle.std.proofs.lemmas.List.Sums.{sum_by-append}
use Rattle.std.proofs.lemmas.Bool.{cases_lt}
use Rattle.std.proofs.Math.Seq.{take-append-add}
use Rattle.pr_top.specs.Sizes.{IsSizeOf, IsTooLarge, but_last, line_ends}
use Rattle.pr_top.specs.declared.size.Size.{Size}

pub ends_append : (xs ys : List ℕ) → line_ends (xs ++ ys) ≡ line_ends xs + line_ends ys
ends_append xs ys = sum_by-append _ xs ys

but_last_append : (b p : List ℕ) → 0 < length p → but_last (b ++ p) ≡ b ++ take (length p - 1) p
but_last_append b p some =
    let l : length (b ++ p) ≡ length b + length p = length-append b p in
    let i : length (b ++ p) - 1 ≡ length b + (length p - 1) = omega arith in
    ap (λ (n : ℕ). take n (b ++ p)) i ∙ take-append-add b p (length p - 1)

pub ends_but_last : (b p : List ℕ) → 0 < length p → line_ends (but_last (b ++ p)) ≡ line_ends b + line_ends (take (length p - 1) p)
ends_but_last b p some = ap (λ (xs : List ℕ). line_ends xs) (but_last_append b p some) ∙ ends_append b (take (length p - 1) p)

pub ends_split : (i : ℕ) (p : List ℕ) → line_ends p ≡ line_ends (take i p) + line_ends (drop i p)
ends_split i p = ap (λ (xs : List ℕ). line_ends xs) (sym (take-append-drop i p)) ∙ ends_append (take i p) (drop i p)

pub too_many : (s : Size) (b p : List ℕ) → IsSizeOf s b → 4194304 - s.bytes < length p → IsTooLarge (b ++ p)
too_many s b p is more = let l = length-append b p in let m : s.bytes ≡ length b = is.length_is in inl (omega arith)

pub too_long : (s : Size) (b p : List ℕ) → IsSizeOf s b → 0 < length p → 100000 ≤ s.ends + line_ends (take (length p - 1) p) → IsTooLarge (b ++ p)
too_long s b p is some more = let l = ends_but_last b p some in let m : s.ends ≡ line_ends b = is.ends_are in inr (omega arith)

pub with_piece : (s t : Size) (b p : List ℕ) → IsSizeOf s b → 0 < length p → length p ≤ 4194304 - s.bytes → s.bytes ≤ 4194304 → s.ends + line_ends (take (length p - 1) p) < 100000
    → t.bytes ≡ s.bytes + length p → t.ends ≡ s.ends + line_ends (take (length p - 1) p) + line_ends (drop (length p - 1) p) → IsSizeOf t (b ++ p)
with_piece s t b p is some few most less bytes ends =
    let l = length-append b p in
    let m : s.bytes ≡ length b = is.length_is in
    let n : s.ends ≡ line_ends b = is.ends_are in
    let a = ends_append b p in
    let c = ends_split (length p - 1) p in
    let d = ends_but_last b p some in
    record {
      length_is = omega arith;
      ends_are = omega arith;
      fits = λ large. elim large [ inl many ↦ omega arith | inr long ↦ omega arith ];
    }

-- what is too large stays so
pub larger : (b c : List ℕ) → IsTooLarge b → IsTooLarge (b ++ c)
larger b c (inl many) = let l = length-append b c in inl (omega arith)
larger b c (inr long) = by (cases_lt 0 (length c))
  where
    by : (0 < length c) ⊎ (length c ≤ 0) → IsTooLarge (b ++ c)
    by (inl some) =
        let d = ends_but_last b c some in
        let e = ends_split (length b - 1) b in
        inr (omega arith)
    by (inr none) = let z : c ≡ [] = empty c none in subst (λ (xs : List ℕ). IsTooLarge (b ++ xs)) (sym z) (subst (λ (xs : List ℕ). IsTooLarge xs) (sym (append-nil b)) (inr long))
      where
        empty : (xs : List ℕ) → length xs ≤ 0 → xs ≡ []
        empty [] l = refl
        empty (x ∷ xs) l = absurd (omega arith)

pub none_yet : IsSizeOf (record { bytes = 0; ends = 0 }) []
none_yet = record { length_is = refl; ends_are = refl; fits = λ large. elim large [ inl many ↦ omega arith | inr long ↦ omega arith ] }
