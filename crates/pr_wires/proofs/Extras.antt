-- The room that bytes given twice take, and bytes that are put one by one.
use Rattle.std.proofs.Common.{◌≡◌, ℕ, ◌+◌, ◌-◌, ◌^◌, ◌<◌, ◌≤◌, ◌==◌, ◌&&◌, ◌||◌, Bool, true, false, List, [], ◌∷◌, ◌++◌, length, Option, Some, ap, sym, ◌∙◌, refl, subst, arith}
use Rattle.std.proofs.lemmas.List.{length-append}
use Rattle.std.specs.Prelude.{if◌then◌else◌, nat_lt}
use Rattle.std.specs.List.{list_any}
use Rattle.std.proofs.lemmas.Bool.Decides.{nat_tests}
use Rattle.pr_wires.specs.Counters.{one_more}
use Rattle.pr_wires.specs.Calls.{Grows, HasJust}
use Rattle.pr_wires.specs.Bends.{Bent, bent, called, told, extra, put_in, repeats, repeats_before}
use Rattle.pr_wires.proofs.Bytes.{others_keep_bytes}
use Rattle.pr_wires.specs.declared.bend.Bend.{Bend}
use Rattle.pr_wires.specs.declared.bend.Bend.TheVariants.{NoConnect, Fail, End, Flip, Again}

count_or : (p q : Bool) → (if p || q then 1 else 0) ≤ (if p then 1 else 0) + (if q then 1 else 0)
count_or true q = grind arith
count_or false q = grind arith

again_grows : (n at : ℕ) → n < 2 ^ 64 → (if nat_lt at n then 1 else 0) + (if at == n && nat_lt n (2 ^ 64 - 1) then 1 else 0) ≤ (if nat_lt at (one_more n) then 1 else 0)
again_grows n at small = grind (arith, nat_tests)

bend_grows : (n : ℕ) (bend : Bend) → n < 2 ^ 64 → (if repeats_before n bend then 1 else 0) + (if repeats n bend then 1 else 0) ≤ (if repeats_before (one_more n) bend then 1 else 0)
bend_grows n (NoConnect nth) small = omega arith
bend_grows n (Fail nth call) small = omega arith
bend_grows n (End nth after) small = omega arith
bend_grows n (Flip nth at) small = omega arith
bend_grows n (Again nth at) small = again_grows n at small

-- a byte that is given twice has a bend of its own
pub extra_grows : (n : ℕ) (bends : List Bend) → n < 2 ^ 64 → extra n bends + (if list_any (repeats n) bends then 1 else 0) ≤ extra (one_more n) bends
extra_grows n [] small = omega arith
extra_grows n (bend ∷ bends) small = omega (arith, bend_grows n bend small, extra_grows n bends small, count_or (repeats n bend) (list_any (repeats n) bends))

one : (b : Bool) (few most : ℕ) → few ≤ most → (if b then 1 else 0) + few ≤ most + 1
one true few most within = omega arith
one false few most within = omega arith

pub extra_most : (n : ℕ) (bends : List Bend) → extra n bends ≤ length bends
extra_most n [] = omega arith
extra_most n (bend ∷ bends) = let o = one (repeats_before n bend) (extra n bends) (length bends) (extra_most n bends) in omega arith

grows_by : (n : ℕ) (bends : List Bend) (again : Bool) → n < 2 ^ 64 → again ≡ list_any (repeats n) bends → extra n bends + (if again then 1 else 0) ≤ extra (one_more n) bends
grows_by n bends again small is = subst (λ (b : Bool). extra n bends + (if b then 1 else 0) ≤ extra (one_more n) bends) (sym is) (extra_grows n bends small)

-- there is room for the byte that is put next
pub room_for : (n under held : ℕ) (bends : List Bend) (again : Bool) → n < 2 ^ 64 → under < 4096 → length bends ≤ 16 → again ≡ list_any (repeats n) bends → held ≤ under + extra n bends → held + (if again then 2 else 1) ≤ 4112
room_for n under held bends true small below few is most = let g = grows_by n bends true small is in omega (arith, g, extra_most (one_more n) bends)
room_for n under held bends false small below few is most = omega (arith, extra_most n bends)

ways : (byte : ℕ) (again : Bool) → length (if again then byte ∷ byte ∷ [] else byte ∷ []) ≡ 1 + (if again then 1 else 0)
ways byte true = omega arith
ways byte false = omega arith

-- and it leaves as much room as the bends still take
pub room_kept : (n next under : ℕ) (coming new : List ℕ) (byte : ℕ) (bends : List Bend) (again : Bool) → n < 2 ^ 64 → again ≡ list_any (repeats n) bends → next ≡ one_more n
    → new ≡ coming ++ (if again then byte ∷ byte ∷ [] else byte ∷ []) → under ≤ length coming → length coming ≤ under + extra n bends
    → (under + 1 ≤ length new) × (length new ≤ under + 1 + extra next bends)
room_kept n next under coming new byte bends again small is after grown some most =
    let g = grows_by n bends again small is in
    let e : extra next bends ≡ extra (one_more n) bends = ap (λ (k : ℕ). extra k bends) after in
    let l = ap (λ (xs : List ℕ). length xs) grown ∙ length-append coming (if again then byte ∷ byte ∷ [] else byte ∷ []) in
    let w = ways byte again in (omega (arith, l, w), omega (arith, l, w, g, e))

-- ---- a wire without a bend

-- what is told grows by the bytes that are put
pub told_grows : (bends : List Bend) (n : ℕ) (coming bytes : List ℕ) → Grows (told bends coming) (told bends (coming ++ bent bends n bytes)) bytes
told_grows [] n coming bytes = ap (λ (rest : List ℕ). let o : Option (List ℕ) = Some (coming ++ rest) in o) (others_keep_bytes [] n bytes refl)
told_grows (bend ∷ bends) n coming bytes = refl

-- what is told has just the bytes under way
told_just : (bends : List Bend) (n under : ℕ) (coming : List ℕ) → under ≤ length coming → length coming ≤ under + extra n bends → HasJust (told bends coming) under
told_just [] n under coming some most = omega arith
told_just (bend ∷ bends) n under coming some most = tt

-- and it had so before bytes were put
just_before : (bends : List Bend) (n next under : ℕ) (coming bytes : List ℕ) → under + length bytes ≤ length (coming ++ bent bends n bytes) → length (coming ++ bent bends n bytes) ≤ under + length bytes + extra next bends
    → HasJust (told bends coming) under
just_before [] n next under coming bytes some most =
    let l = length-append coming (bent [] n bytes) in
    let p = ap (λ (xs : List ℕ). length xs) (others_keep_bytes [] n bytes refl) in omega (arith, l, p)
just_before (bend ∷ bends) n next under coming bytes some most = tt

-- what is told of a wire that bytes are put in
pub puts_told : (a b : Bent) (bytes : List ℕ) → b ≡ put_in (called a) bytes → b.under ≤ length b.coming → length b.coming ≤ b.under + extra b.put b.bends
    → Grows (told a.bends a.coming) (told b.bends b.coming) bytes × HasJust (told a.bends a.coming) a.under × HasJust (told b.bends b.coming) b.under
puts_told a b bytes is some most =
    let after = put_in (called a) bytes in (
      subst (λ (s : Bent). Grows (told a.bends a.coming) (told s.bends s.coming) bytes) (sym is) (told_grows a.bends a.put a.coming bytes),
      just_before a.bends a.put after.put a.under a.coming bytes
          (subst (λ (s : Bent). s.under ≤ length s.coming) is some)
          (subst (λ (s : Bent). length s.coming ≤ s.under + extra s.put s.bends) is most),
      told_just b.bends b.put b.under b.coming some most,
    )
