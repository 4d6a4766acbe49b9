-- The order of names, over any lists of numbers.
use Rattle.std.proofs.Common.{◌≡◌, ℕ, ◌⊎◌, inl, inr, List, refl, sym, ◌∙◌, ap, subst}
use Rattle.std.specs.Prelude.{Bool, true, false}
use Rattle.std.specs.Ordering.{is_lt, nat_cmp, ordering_reverse}
use Rattle.std.specs.declared.cmp.Ordering.{Ordering}
use Rattle.std.specs.declared.cmp.Ordering.TheVariants.{Less, Equal, Greater}
use Rattle.std.specs.Cmp.Lexicographic.{slice_cmp}
use Rattle.std.proofs.lemmas.Cmp.{nat_list_cmp_total}
use Rattle.std.proofs.lemmas.Map.Lookups.{exact_bytes}
use Rattle.pr_names.specs.Order.{name_lt}
use Rattle.pr_names.proofs.Places.{lt_cmp}

less_of : (r : Ordering) → is_lt r ≡ true → r ≡ Less
less_of Less h = refl
less_of Equal h = absurd (cc)
less_of Greater h = absurd (cc)

less : (a b : List ℕ) → name_lt a b ≡ true → slice_cmp nat_cmp a b ≡ Less
less a b h = less_of (slice_cmp nat_cmp a b) (sym (lt_cmp a b) ∙ h)

pub lt_trans : (a b c : List ℕ) → name_lt a b ≡ true → name_lt b c ≡ true → name_lt a c ≡ true
lt_trans a b c h g = lt_cmp a c ∙ ap is_lt (nat_list_cmp_total.trans a b c (less a b h) (less b c g))

pub one_way : (a b : List ℕ) → name_lt a b ≡ true → name_lt b a ≡ false
one_way a b h = lt_cmp b a ∙ ap is_lt (nat_list_cmp_total.antisymm b a ∙ ap ordering_reverse (less a b h))

denied : (b : Bool) → (b ≡ true → b ≡ false) → b ≡ false
denied true h = h refl
denied false h = refl

pub not_itself : (a : List ℕ) → name_lt a a ≡ false
not_itself a = denied (name_lt a a) (one_way a a)

compared : (a b : List ℕ) (r : Ordering) → slice_cmp nat_cmp a b ≡ r → (name_lt a b ≡ true) ⊎ ((a ≡ b) ⊎ (name_lt b a ≡ true))
compared a b Less is = inl (lt_cmp a b ∙ ap is_lt is)
compared a b Equal is = inr (inl (exact_bytes a b is))
compared a b Greater is = inr (inr (lt_cmp b a ∙ ap is_lt (nat_list_cmp_total.antisymm b a ∙ ap ordering_reverse is)))

pub which : (a b : List ℕ) → (name_lt a b ≡ true) ⊎ ((a ≡ b) ⊎ (name_lt b a ≡ true))
which a b = compared a b (slice_cmp nat_cmp a b) refl

-- what is before a name is before all that are not before that one
pub lt_le : (a b c : List ℕ) → name_lt a b ≡ true → name_lt c b ≡ false → name_lt a c ≡ true
lt_le a b c h g = elim (which b c) [
  | inl lt ↦ lt_trans a b c h lt
  | inr (inl e) ↦ subst (λ (x : List ℕ). name_lt a x ≡ true) e h
  | inr (inr lt) ↦ absurd (let bad : true ≡ false = sym lt ∙ g in cc)
]

-- what is not before a name is not before what is not after that one
pub not_before : (a b c : List ℕ) → name_lt a b ≡ false → name_lt b c ≡ false → name_lt a c ≡ false
not_before a b c h g = denied (name_lt a c) (λ lt. absurd (let bad : true ≡ false = sym (lt_le a c b lt g) ∙ h in cc))
