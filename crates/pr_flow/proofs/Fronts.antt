-- Beginnings of lists.
use Rattle.std.proofs.Common.{◌≡◌, ◌≤◌, ◌+◌, ◌-◌, ℕ, Bool, true, false, not, List, [], ◌∷◌, ◌++◌, length, take, drop, Option, Some, None, refl, sym, ap, ◌∙◌, min, arith}
use Rattle.std.proofs.lemmas.List.{append-nil, append_cancel_left, drop_all, length-append, length-drop, length-take, length-take-le, take-append-le, take_all}
use Rattle.std.proofs.Math.Seq.{drop-append_seam, take-add, take-append-add, take-append_seam}
use Rattle.std.specs.Cmp.Lexicographic.{other_text, same_text}
use Rattle.std.specs.Str.{bytes_eq}
use borrow.Rule.Slice.PartMut.{post_of, put_mid}
use Rattle.std.specs.Io.{StartsWith}
use Rattle.pr_wires.specs.Calls.{HasJust}
use Rattle.pr_flow.specs.Moving.{PassesThrough}

-- a list begins with its parts
pub starts_with : (front back : List ℕ) → StartsWith (front ++ back) front
starts_with front back = take-append_seam front back

pub starts_whole : (xs : List ℕ) → StartsWith xs xs
starts_whole xs = take_all (length xs) xs (omega arith)

pub starts_none : (xs : List ℕ) → StartsWith xs []
starts_none xs = λ i. []

-- behind the same front
pub starts_behind : (front xs ys : List ℕ) → StartsWith xs ys → StartsWith (front ++ xs) (front ++ ys)
starts_behind front xs ys e =
    ap (λ (n : ℕ). take n (front ++ xs)) (length-append front ys)
    ∙ take-append-add front xs (length ys)
    ∙ ap (λ (t : List ℕ). front ++ t) e

pub starts_not_behind : (front xs ys : List ℕ) → ¬ StartsWith xs ys → ¬ StartsWith (front ++ xs) (front ++ ys)
starts_not_behind front xs ys other e =
    other (append_cancel_left front (take (length ys) xs) ys
    (sym (take-append-add front xs (length ys))
    ∙ ap (λ (n : ℕ). take n (front ++ xs)) (sym (length-append front ys))
    ∙ e))

-- whatever follows
pub starts_longer : (xs ys back : List ℕ) → StartsWith xs ys → StartsWith (xs ++ back) ys
starts_longer xs ys back e =
    let size : min (length ys) (length xs) ≡ length ys = sym (length-take (length ys) xs) ∙ ap (λ (t : List ℕ). length t) e in
    take-append-le (length ys) xs back (omega (arith, size)) ∙ e

-- ---- what a call took into the rest of a buffer

pub not_true : (b : Bool) → true ≡ not b → false ≡ b
not_true true e = sym e
not_true false e = refl

pub not_false : (b : Bool) → false ≡ not b → true ≡ b
not_false true e = refl
not_false false e = sym e

-- the buffer after the call
pub filled : (at : ℕ) (bytes new : List ℕ) → at ≤ length bytes → put_mid at (length bytes - at) bytes new ≡ take at bytes ++ new
filled at bytes new within =
    let none : post_of at (length bytes - at) bytes ≡ [] = drop_all (length bytes - at) (drop at bytes) (omega (arith, length-drop at bytes)) in
    ap (λ (t : List ℕ). take at bytes ++ (new ++ t)) none ∙ ap (λ (t : List ℕ). take at bytes ++ t) (append-nil new)

pub filled_size : (at : ℕ) (bytes new : List ℕ) → at ≤ length bytes → length new ≡ length bytes - at → length (put_mid at (length bytes - at) bytes new) ≡ length bytes
filled_size at bytes new within len =
    ap (λ (t : List ℕ). length t) (filled at bytes new within)
    ∙ omega (arith, len, within, length-append (take at bytes) new, length-take-le at bytes within)

module _ (at n : ℕ) (piece bytes new after : List ℕ) (within : at ≤ length bytes) (is : after ≡ take at bytes ++ new) where
  front_len : length (take at bytes) ≡ at
  front_len = length-take-le at bytes within

  pub filled_front : take (at + n) after ≡ take at bytes ++ take n new
  filled_front =
      ap (λ (t : List ℕ). take (at + n) t) is
      ∙ ap (λ (k : ℕ). take (k + n) (take at bytes ++ new)) (sym front_len)
      ∙ take-append-add (take at bytes) new n

  filled_part : take ((at + n) - at) (drop at after) ≡ take n new
  filled_part =
      let count : (at + n) - at ≡ n = omega arith in
      ap (λ (t : List ℕ). take ((at + n) - at) (drop at t)) is
      ∙ ap (λ (k : ℕ). take ((at + n) - at) (drop k (take at bytes ++ new))) (sym front_len)
      ∙ ap (λ (t : List ℕ). take ((at + n) - at) t) (drop-append_seam (take at bytes) new)
      ∙ ap (λ (k : ℕ). take k new) count

  -- more of the piece was taken
  pub taken_more : take at bytes ≡ take at piece → false ≡ not (bytes_eq (take ((at + n) - at) (drop at after)) (take ((at + n) - at) (drop at piece))) → take (at + n) after ≡ take (at + n) piece
  taken_more same test =
      let count : (at + n) - at ≡ n = omega arith in
      let part : take ((at + n) - at) (drop at after) ≡ take ((at + n) - at) (drop at piece) =
      same_text _ _ (not_false _ test) in
      filled_front
      ∙ ap (λ (t : List ℕ). t ++ take n new) same
      ∙ ap (λ (t : List ℕ). take at piece ++ t) (sym filled_part ∙ part ∙ ap (λ (k : ℕ). take k (drop at piece)) count)
      ∙ sym (take-add at n piece)

  -- other bytes were taken
  pub taken_other : n ≤ length new → take at bytes ≡ take at piece → true ≡ not (bytes_eq (take ((at + n) - at) (drop at after)) (take ((at + n) - at) (drop at piece))) → ¬ StartsWith piece (take (at + n) after)
  taken_other fits same test starts =
      let count : (at + n) - at ≡ n = omega arith in
      let size : length (take (at + n) after) ≡ at + n = ap (λ (t : List ℕ). length t) filled_front ∙ omega (arith, fits, front_len, length-append (take at bytes) (take n new), length-take n new) in
      let whole : take (at + n) piece ≡ take (at + n) after = ap (λ (k : ℕ). take k piece) (sym size) ∙ starts in
      let split : take at piece ++ take n (drop at piece) ≡ take at piece ++ take n new =
      sym (take-add at n piece) ∙ whole ∙ filled_front ∙ ap (λ (t : List ℕ). t ++ take n new) same in
      other_text _ _ (not_true _ test)
      (filled_part ∙ sym (append_cancel_left (take at piece) (take n (drop at piece)) (take n new) split) ∙ ap (λ (k : ℕ). take k (drop at piece)) (sym count))

-- bytes behind others that stand at the front of a buffer
pub filled_behind : (n : ℕ) (front back bytes new rest : List ℕ) → bytes ≡ front ++ back → take n new ≡ take n rest → take (length front + n) (put_mid (length front) (length bytes - length front) bytes new) ≡ take (length front + n) (front ++ rest)
filled_behind n front back bytes new rest is same =
    let at = length front in
    let within : at ≤ length bytes = omega (arith, ap length is, length-append front back) in
    filled_front at n [] bytes new (put_mid at (length bytes - at) bytes new) within (filled at bytes new within)
    ∙ ap (λ (t : List ℕ). take at t ++ take n new) is
    ∙ ap (λ (t : List ℕ). t ++ take n new) (starts_with front back)
    ∙ ap (λ (t : List ℕ). front ++ t) same
    ∙ sym (take-append-add front rest n)

-- a wire that told that it held nothing gave what was put
pub told_is_true : (a b : Option (List ℕ)) (put got : List ℕ) → HasJust a 0 → PassesThrough a b put got → ¬ StartsWith put got → a ≡ None
told_is_true None b put got just passes other = λ i. None
told_is_true (Some v) None put got just passes other = absurd passes
told_is_true (Some []) (Some w) put got just passes other = absurd (other (ap (λ (t : List ℕ). take (length got) t) passes ∙ take-append_seam got w))
told_is_true (Some (x ∷ v)) (Some w) put got just passes other = absurd (none just)
  where
    none : length (x ∷ v) ≡ 0 → ⊥
    none e = omega (arith, e)
