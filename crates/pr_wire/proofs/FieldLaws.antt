-- What is bad stays bad; and what is left of a feed.
use Rattle.std.proofs.Common.{IsTrue, true, nat_eq, ◌≡◌, ℕ, ◌+◌, ◌≤◌, List, [], ◌∷◌, ◌++◌, length, take, drop, refl, sym, ap, subst, ◌∙◌, arith, inl, inr}
use Rattle.std.specs.Prelude.{slice_index}
use Rattle.std.specs.Int.{w64, from_be_bytes}
use Rattle.std.proofs.lemmas.Bool.Decides.{nat_tests}
use Rattle.std.proofs.Math.Seq.{drop-length}
use Rattle.std.proofs.lemmas.List.{drop-append-le, length-append, length-drop, take-append-le}
use Rattle.pr_wire.specs.Frames.{IsBad, IsTooLong, IsWhole, HasNoFormat, frame_of, said_length}

-- ---- more bytes behind those that are in

same_first : (x y : List ℕ) → 1 ≤ length x → slice_index (x ++ y) 0 ≡ slice_index x 0
same_first [] y some = absurd (omega (arith, some))
same_first (b ∷ x) y some = refl

same_length : (x y : List ℕ) → 9 ≤ length x → said_length (x ++ y) ≡ said_length x
unfolding said_length
same_length x y head =
    ap (λ (t : List ℕ). from_be_bytes w64 t) (ap (λ (t : List ℕ). take 8 t) (drop-append-le 1 x y (omega (arith, head))) ∙ take-append-le 8 (drop 1 x) y (omega (arith, head, length-drop 1 x)))

same_frame : (x y : List ℕ) → IsWhole x → frame_of (x ++ y) ≡ frame_of x
unfolding frame_of
same_frame x y whole = ap (λ (n : ℕ). take (9 + n) (x ++ y)) (same_length x y whole.head) ∙ take-append-le (9 + said_length x) x y whole.all

no_format : (x y : List ℕ) → HasNoFormat x → HasNoFormat (x ++ y)
no_format x y none = record {
  some = omega (arith, none.some, length-append x y);
  not_one = λ e. none.not_one (sym (same_first x y none.some) ∙ e);
  not_two = λ e. none.not_two (sym (same_first x y none.some) ∙ e);
}

too_long : (limit : ℕ) (x y : List ℕ) → IsTooLong limit x → IsTooLong limit (x ++ y)
too_long limit x y long = record {
  head = omega (arith, long.head, length-append x y);
  above = omega (arith, long.above, same_length x y long.head);
}

still_whole : (x y : List ℕ) → IsWhole x → IsWhole (x ++ y)
still_whole x y whole = record {
  head = omega (arith, whole.head, length-append x y);
  all = omega (arith, whole.all, same_length x y whole.head, length-append x y);
}

pub bad_stays : (limit : ℕ) (x y : List ℕ) → IsBad limit x → IsBad limit (x ++ y)
bad_stays limit x y (inl none) = inl (no_format x y none)
bad_stays limit x y (inr (inl long)) = inr (inl (too_long limit x y long))
bad_stays limit x y (inr (inr whole)) = inr (inr (still_whole x y whole.0, λ f m is e. whole.1 f m is (sym (same_frame x y whole.0) ∙ e)))

-- ---- what is left of a feed

same_number : (n m : ℕ) → nat_eq n m ≡ true → n ≡ m
same_number n m e = grind (arith, nat_tests)

number_same : (n m : ℕ) → n ≡ m → nat_eq n m ≡ true
number_same n m e = grind (arith, nat_tests)

pub all_given : (start len : ℕ) (bytes : List ℕ) → len ≡ length bytes → start ≤ length bytes → (IsTrue (nat_eq start len) → drop start bytes ≡ []) × (drop start bytes ≡ [] → IsTrue (nat_eq start len))
all_given start len bytes is within = (
  λ here. subst (λ (n : ℕ). drop n bytes ≡ []) (sym (same_number start len here ∙ is)) (drop-length bytes),
  λ none. number_same start len (omega (arith, is, within, length-drop start bytes, ap (λ (l : List ℕ). length l) none)),
)
