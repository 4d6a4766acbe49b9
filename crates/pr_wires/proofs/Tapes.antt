-- A part is taken off a tape.
use Rattle.std.proofs.Common.{◌≡◌, ℕ, ◌+◌, ◌-◌, List, ◌++◌, take, drop, sym, ap, ◌∙◌, arith}
use Rattle.std.proofs.lemmas.List.{drop-drop, length-take, take-append-drop, take_all}
use Rattle.std.proofs.Math.Seq.{take-add}

part_is : (at len : ℕ) (bytes part : List ℕ) → part ≡ take ((at + len) - at) (drop at bytes) → take len part ≡ take len (drop at bytes)
part_is at len bytes part is =
    let count : (at + len) - at ≡ len = omega arith in
    let same : part ≡ take len (drop at bytes) = is ∙ ap (λ (k : ℕ). take k (drop at bytes)) count in
    ap (λ (t : List ℕ). take len t) same ∙ take_all len (take len (drop at bytes)) (omega (arith, length-take len (drop at bytes)))

pub part_taken : (at len : ℕ) (bytes part : List ℕ) → part ≡ take ((at + len) - at) (drop at bytes) → take (at + len) bytes ≡ take at bytes ++ take len part
part_taken at len bytes part is = take-add at len bytes ∙ ap (λ (t : List ℕ). take at bytes ++ t) (sym (part_is at len bytes part is))

pub part_left : (at len : ℕ) (bytes part : List ℕ) → part ≡ take ((at + len) - at) (drop at bytes) → drop at bytes ≡ take len part ++ drop (at + len) bytes
part_left at len bytes part is =
    sym (take-append-drop len (drop at bytes))
    ∙ ap (λ (t : List ℕ). t ++ drop len (drop at bytes)) (sym (part_is at len bytes part is))
    ∙ ap (λ (t : List ℕ). take len part ++ t) (drop-drop len at bytes)
