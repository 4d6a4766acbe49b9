-- The parts of a printed field are read again.
use Rattle.std.proofs.Common.{◌≡◌, ℕ, Bool, true, false, cond, List, [], ◌∷◌, ◌++◌, map, Option, Some, refl, sym, ap, ◌∙◌, append_assoc, arith}
use Rattle.std.specs.Prelude.{All, ◌==◌}
use Rattle.std.specs.List.{onto_first}
use Rattle.std.specs.Str.{bytes_eq}
use Rattle.std.proofs.lemmas.Bool.Decides.{nat_tests}
use Rattle.std.proofs.lemmas.List.{append-nil}
use Rattle.std.proofs.lemmas.List.Elements.{All-head, All-tail}
use Rattle.std.proofs.lemmas.Slice.Eq.{bytes_eq-Decides}
use Rattle.pr_text.specs.Texts.{joined, listed, more}
use Rattle.pr_text.proofs.Cut.{Lacks, is_not}
use Rattle.pr_text.proofs.Items.{AreItems, no_hyphen}
use Rattle.pr_check.specs.Fields.{items_of, listed_of, parts, read_each, with_next}
use Rattle.pr_check.specs.Parts.{after, before, is_hyphen}
use Rattle.pr_check.proofs.PartLoops.{after_here, after_later, before_here, before_later}

-- ---- where a byte stands

own_byte : (b : ℕ) → (b == b) ≡ true
own_byte b = grind (arith, nat_tests)

other_byte : (b x : ℕ) → is_not b x ≡ true → (x == b) ≡ false
other_byte b x e = grind (arith, nat_tests)

pub before_again : (b : ℕ) (xs r : List ℕ) → Lacks b xs → before b (xs ++ b ∷ r) ≡ xs
before_again b [] r p = before_here b b r (own_byte b)
before_again b (x ∷ xs) r p = before_later b x (xs ++ b ∷ r) (other_byte b x p.0) ∙ ap (λ (t : List ℕ). x ∷ t) (before_again b xs r p.1)

pub after_again : (b : ℕ) (xs r : List ℕ) → Lacks b xs → after b (xs ++ b ∷ r) ≡ r
after_again b [] r p = after_here b b r (own_byte b)
after_again b (x ∷ xs) r p = after_later b x (xs ++ b ∷ r) (other_byte b x p.0) ∙ after_again b xs r p.1

pub other_bytes : (x y : List ℕ) → (x ≡ y → ⊥) → bytes_eq x y ≡ false
other_bytes x y n = by (bytes_eq x y) refl
  where
    by : (b : Bool) → bytes_eq x y ≡ b → b ≡ false
    by true e = absurd (n (grind (arith, bytes_eq-Decides)))
    by false e = refl

-- ---- parts

part_then : (b : ℕ) (x r : List ℕ) → Lacks b x → parts b (x ++ b ∷ r) ≡ x ∷ parts b r
unfolding parts
part_then b [] r p = rw (own_byte b) refl
part_then b (c ∷ x) r p = rw (other_byte b c p.0) (ap (onto_first c) (part_then b x r p.1))

part_last : (b c : ℕ) (x : List ℕ) → Lacks b (c ∷ x) → parts b (c ∷ x) ≡ (c ∷ x) ∷ []
unfolding parts
part_last b c [] p = rw (other_byte b c p.0) refl
part_last b c (d ∷ x) p = rw (other_byte b c p.0) (ap (onto_first c) (part_last b d x p.1))

part_alone : (b : ℕ) (x : List ℕ) → (x ≡ [] → ⊥) → Lacks b x → parts b (x ++ []) ≡ x ∷ []
part_alone b [] some p = absurd (some refl)
part_alone b (c ∷ x) some p = ap (parts b) (append-nil (c ∷ x)) ∙ part_last b c x p

-- none is empty, and none has the byte
abbrev pub AreParts : ℕ → List (List ℕ) → Type 0
AreParts b [] = Unit {0}
AreParts b (x ∷ xs) = (Lacks b x × (x ≡ [] → ⊥)) × AreParts b xs

pub parts_again : (b : ℕ) (xs : List (List ℕ)) → AreParts b xs → parts b (joined b xs) ≡ xs
unfolding parts
parts_again b [] h = refl
parts_again b (x ∷ []) h = part_alone b x h.0.1 h.0.0
parts_again b (x ∷ y ∷ ys) h = part_then b x (joined b (y ∷ ys)) h.0.0 ∙ ap (λ (ps : List (List ℕ)). x ∷ ps) (parts_again b (y ∷ ys) h.1)

pub are_parts : (b : ℕ) (xs : List (List ℕ)) → AreItems b xs → AreParts b xs
are_parts b [] h = tt
are_parts b (x ∷ xs) h = ((h.0.lacks, h.0.some), are_parts b xs h.1)

-- a hyphen is read for none
pub listed_again : {A : Type 0} (none : A) (f : List (List ℕ) → A) (xs : List (List ℕ)) → AreItems 44 xs → f [] ≡ none
    → cond (is_hyphen (listed xs)) none (f (parts 44 (listed xs))) ≡ f xs
listed_again none f [] h e = sym e
listed_again none f (x ∷ xs) h e =
    let n : is_hyphen (joined 44 (x ∷ xs)) ≡ false = other_bytes (joined 44 (x ∷ xs)) (45 ∷ []) (λ k. no_hyphen x (more 44 xs) h.0.some h.0.shown (sym k)) in
    rw n (ap f (parts_again 44 (x ∷ xs) (are_parts 44 (x ∷ xs) h)))

-- ---- lists

module _ {A : Type 0} (item : List ℕ → Option A) (text : A → List ℕ) (P : A → Type 0) (again : (x : A) → P x → item (text x) ≡ Some x) where
  each_again : (so_far xs : List A) → All P xs → read_each (with_next item) so_far (map text xs) ≡ Some (so_far ++ xs)
  unfolding read_each
  each_again so_far [] h = ap (λ (l : List A). Some l) (sym (append-nil so_far))
  each_again so_far (x ∷ xs) h =
      rw (again x (All-head P x xs h))
      (each_again (so_far ++ x ∷ []) xs (All-tail P x xs h) ∙ ap (λ (l : List A). Some l) (append_assoc so_far (x ∷ []) xs))

  pub items_again : (xs : List A) → All P xs → items_of item (map text xs) ≡ Some xs
  items_again xs h = each_again [] xs h

  pub list_again : (xs : List A) → AreItems 44 (map text xs) → All P xs → listed_of item (listed (map text xs)) ≡ Some xs
  unfolding read_each
  list_again xs i h = listed_again (Some []) (items_of item) (map text xs) i refl ∙ items_again xs h

some_front : (x r : List ℕ) → (x ≡ [] → ⊥) → x ++ r ≡ [] → ⊥
some_front [] r some e = some refl
some_front (c ∷ x) r some e = cc

pub listed_some : (xs : List (List ℕ)) → AreItems 44 xs → listed xs ≡ [] → ⊥
listed_some [] h e = cc
listed_some (x ∷ xs) h e = some_front x (more 44 xs) h.0.some e
