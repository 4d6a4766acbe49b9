-- The loops that look for the end of a field.
use Rattle.std.proofs.Common.{◌≡◌, ℕ, suc, ◌+◌, ◌-◌, ◌<◌, ◌≤◌, Bool, true, false, List, [], ◌∷◌, ◌++◌, length, take, drop, get_or, refl, sym, ap, ◌∙◌, arith, add-one, append_assoc}
use Rattle.std.proofs.Math.Seq.{take-suc, drop-cons}
use Rattle.std.proofs.Math.Seq.{drop-length, take-length}
use Rattle.std.proofs.lemmas.List.{append-nil}
use Rattle.pr_check.specs.Fields.{behind, front_from, is_end, quoted_after, rest_from}

-- what is found from the front is what is found from this place on
pub record IsFrom (bytes : List ℕ) (i : ℕ) (quoted : Bool) : Type 0 where
  pub front : front_from false bytes ≡ take i bytes ++ front_from quoted (drop i bytes)
  pub rest : rest_from false bytes ≡ rest_from quoted (drop i bytes)

pub at_start : (bytes : List ℕ) → IsFrom bytes 0 false
at_start bytes = record { front = refl; rest = refl }

pub at_next : (bytes : List ℕ) (i : ℕ) (quoted : Bool) → i < length bytes → is_end quoted (get_or bytes i 0) ≡ false → IsFrom bytes i quoted
    → IsFrom bytes (i + 1) (quoted_after quoted (get_or bytes i 0))
unfolding front_from rest_from
at_next bytes i quoted l e from = record {
  front = from.front ∙ ap (λ (t : List ℕ). take i bytes ++ front_from quoted t) (drop-cons bytes i 0 l)
      ∙ rw e (rw (add-one, take-suc bytes i 0 l) (sym (append_assoc (take i bytes) (get_or bytes i 0 ∷ []) (front_from (quoted_after quoted (get_or bytes i 0)) (drop (suc i) bytes)))));
  rest = from.rest ∙ ap (λ (t : List ℕ). rest_from quoted t) (drop-cons bytes i 0 l) ∙ rw (e, add-one) refl;
}

pub front_ends : (bytes : List ℕ) (i : ℕ) (quoted : Bool) → i < length bytes → is_end quoted (get_or bytes i 0) ≡ true → IsFrom bytes i quoted → take i bytes ≡ front_from false bytes
unfolding front_from
front_ends bytes i quoted l e from =
    sym (from.front ∙ ap (λ (t : List ℕ). take i bytes ++ front_from quoted t) (drop-cons bytes i 0 l) ∙ rw e (append-nil (take i bytes)))

pub rest_ends : (bytes : List ℕ) (i : ℕ) (quoted : Bool) → i < length bytes → is_end quoted (get_or bytes i 0) ≡ true → IsFrom bytes i quoted → drop (i + 1) bytes ≡ rest_from false bytes
unfolding rest_from
rest_ends bytes i quoted l e from =
    sym (from.rest ∙ ap (λ (t : List ℕ). rest_from quoted t) (drop-cons bytes i 0 l) ∙ rw (e, add-one) refl)

pub front_whole : (bytes : List ℕ) (i : ℕ) (quoted : Bool) → i ≡ length bytes → IsFrom bytes i quoted → bytes ≡ front_from false bytes
unfolding front_from
front_whole bytes i quoted e from = sym (from.front ∙ rw (e, take-length bytes, drop-length bytes) (append-nil bytes))

pub rest_none : (bytes : List ℕ) (i : ℕ) (quoted : Bool) → i ≡ length bytes → IsFrom bytes i quoted → [] ≡ rest_from false bytes
unfolding rest_from
rest_none bytes i quoted e from = sym (from.rest ∙ rw (e, drop-length bytes) refl)

-- what is behind some fields is behind those that are left of them
pub behind_next : (count i : ℕ) (bytes : List ℕ) → i < count → behind (count - i) bytes ≡ behind (count - (i + 1)) (rest_from false bytes)
unfolding behind
behind_next count i bytes l =
    let k : count - i ≡ suc (count - (i + 1)) = omega arith in
    rw k refl

pub behind_done : (count i : ℕ) (bytes : List ℕ) → count ≤ i → behind (count - i) bytes ≡ bytes
unfolding behind
behind_done count i bytes l =
    let k : count - i ≡ 0 = omega arith in
    rw k refl
