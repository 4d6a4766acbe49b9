-- What a write leaves, and what a stop in it may leave.
use Rattle.std.proofs.Common.{◌≡◌, ℕ, ◌+◌, ◌-◌, ◌<◌, ◌≤◌, List, [], ◌++◌, length, take, drop, refl, sym, ap, ◌∙◌, append_assoc, arith}
use Rattle.std.proofs.lemmas.List.{append-nil, drop-drop, length-append, length-drop, length-take, take_at, take_all, take-take, drop_at, drop_all, take-append-drop}
use Rattle.pr_keep.specs.Disk.{IsTorn, written}
use Rattle.pr_keep.specs.Changes.{WasOver}

pub torn_same : (at count : ℕ) (c : List ℕ) → IsTorn at count c c
torn_same at count c = record { before = refl; after = refl; no_shorter = omega arith; no_longer = omega arith }

pub written_before : (at : ℕ) (piece old : List ℕ) → at ≤ length old → take at (written at piece old) ≡ take at old
written_before at piece old le = take_at (take at old) (piece ++ drop (at + length piece) old) at (omega (arith, length-take at old))

pub written_after : (at : ℕ) (piece old : List ℕ) → at ≤ length old → drop (at + length piece) (written at piece old) ≡ drop (at + length piece) old
written_after at piece old le =
    ap (drop (at + length piece)) (sym (append_assoc (take at old) piece (drop (at + length piece) old)))
    ∙ drop_at (take at old ++ piece) (drop (at + length piece) old) (at + length piece) (omega (arith, length-take at old, length-append (take at old) piece))

pub length-written : (at : ℕ) (piece old : List ℕ) → at ≤ length old → length (written at piece old) ≡ at + length piece + (length old - (at + length piece))
length-written at piece old le =
    omega (arith, length-append (take at old) (piece ++ drop (at + length piece) old), length-append piece (drop (at + length piece) old), length-take at old, length-drop (at + length piece) old)

pub written_torn : (at : ℕ) (piece old : List ℕ) → at ≤ length old → IsTorn at (length piece) old (written at piece old)
written_torn at piece old le = record {
  before = written_before at piece old le;
  after = written_after at piece old le;
  no_shorter = omega (arith, length-written at piece old le);
  no_longer = omega (arith, length-written at piece old le);
}

-- ---- a write is undone

-- the write went past the end: what it added goes first
pub undone_past : (bytes : List ℕ) (at : ℕ) (piece over old : List ℕ) → WasOver bytes at piece over old → length over < length piece → written at over (take (at + length over) bytes) ≡ old
undone_past bytes at piece over old was short =
    let size : length over ≡ length old - at = omega (arith, was.place, ap length was.over_is, length-take (length piece) (drop at old), length-drop at old) in
    let over_all : over ≡ drop at old = was.over_is ∙ take_all (length piece) (drop at old) (omega (arith, length-drop at old)) in
    let long : at + length over ≤ length bytes = omega (arith, ap length was.bytes_is, length-written at piece old was.place) in
    let cut_len : length (take (at + length over) bytes) ≡ at + length over = omega (arith, length-take (at + length over) bytes) in
    let nothing : drop (at + length over) (take (at + length over) bytes) ≡ [] = drop_all (at + length over) (take (at + length over) bytes) (omega arith) in
    let front : take at (take (at + length over) bytes) ≡ take at old =
    take-take at (at + length over) bytes (omega arith) ∙ ap (take at) was.bytes_is ∙ written_before at piece old was.place in
    ap (λ (t : List ℕ). t ++ (over ++ drop (at + length over) (take (at + length over) bytes))) front
    ∙ ap (λ (t : List ℕ). take at old ++ (over ++ t)) nothing
    ∙ ap (λ (t : List ℕ). take at old ++ t) (append-nil over ∙ over_all)
    ∙ take-append-drop at old

-- the write lay within
pub undone_within : (bytes : List ℕ) (at : ℕ) (piece over old : List ℕ) → WasOver bytes at piece over old → length piece ≤ length over → written at over bytes ≡ old
undone_within bytes at piece over old was whole =
    let size : length over ≡ length piece = omega (arith, whole, ap length was.over_is, length-take (length piece) (drop at old)) in
    let front : take at bytes ≡ take at old = ap (take at) was.bytes_is ∙ written_before at piece old was.place in
    let back : drop (at + length over) bytes ≡ drop (at + length piece) old =
    ap (λ (n : ℕ). drop (at + n) bytes) size ∙ ap (drop (at + length piece)) was.bytes_is ∙ written_after at piece old was.place in
    let rest : over ++ drop (at + length piece) old ≡ drop at old =
    ap (λ (t : List ℕ). t ++ drop (at + length piece) old) was.over_is ∙ ap (λ (t : List ℕ). take (length piece) (drop at old) ++ t) (sym (drop-drop (length piece) at old)) ∙ take-append-drop (length piece) (drop at old) in
    ap (λ (t : List ℕ). t ++ (over ++ drop (at + length over) bytes)) front
    ∙ ap (λ (t : List ℕ). take at old ++ (over ++ t)) back
    ∙ ap (λ (t : List ℕ). take at old ++ t) rest
    ∙ take-append-drop at old
