-- Lists of intervals, one behind another.
use Rattle.std.proofs.Common.{◌≡◌, ℕ, ◌+◌, ◌<◌, ◌≤◌, ◌⊎◌, Bool, true, false, refl, sym, ap, ◌∙◌, arith, inl, inr, List, [], ◌∷◌, ◌++◌}
use Rattle.std.specs.Prelude.{◌||◌}
use Rattle.pr_names.specs.Span.{Span, holds}
use Rattle.pr_names.proofs.Place.{to_place}
use Rattle.pr_sets.specs.Spans.{has}
use Rattle.pr_sets.proofs.Apart.{Apart, weaker}

pub either_tests : (b : Bool) → (b ≡ true) ⊎ (b ≡ false)
either_tests true = inl refl
either_tests false = inr refl

pub or_assoc : (p q r : Bool) → ((p || q) || r) ≡ (p || (q || r))
or_assoc true q r = refl
or_assoc false q r = refl

pub or_none : (b : Bool) → (b || false) ≡ b
or_none true = refl
or_none false = refl

pub has_append : (ss ts : List Span) (x : List ℕ) → has (ss ++ ts) x ≡ (has ss x || has ts x)
has_append [] ts x = refl
has_append (s ∷ ss) ts x = ap (λ b. holds s x || b) (has_append ss ts x) ∙ sym (or_assoc (holds s x) (has ss x) (has ts x))

-- each interval ends below this place
abbrev pub EndsBelow : ℕ → List Span → Type 0
EndsBelow p [] = Unit {0}
EndsBelow p (s ∷ ss) = (to_place s < p) × EndsBelow p ss

pub apart_append : (p q : ℕ) (ss ts : List Span) → p ≤ q → Apart p ss → EndsBelow q ss → Apart q ts → Apart p (ss ++ ts)
apart_append p q [] ts le hs he ht = weaker p q ts le ht
apart_append p q (s ∷ ss) ts le hs he ht = (hs.0, hs.1, apart_append (to_place s + 1) q ss ts (omega (arith, he.0)) hs.2 he.1 ht)
