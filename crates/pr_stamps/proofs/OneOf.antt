-- One of two tests.
use Rattle.std.proofs.Common.{◌≡◌, ◌⊎◌, Bool, true, false, refl, inl, inr}
use Rattle.std.specs.Prelude.{◌||◌}

pub either : (p q : Bool) → (p || q) ≡ true → (p ≡ true) ⊎ (q ≡ true)
either true q h = inl refl
either false q h = inr h

pub or_first : (p q : Bool) → p ≡ true → (p || q) ≡ true
or_first p q h = rw h refl

pub or_second : (p q : Bool) → q ≡ true → (p || q) ≡ true
or_second true q h = refl
or_second false q h = h
