-- What follows in both cases of a test follows.
use Rattle.std.proofs.Common.{◌≡◌, refl}
use Rattle.std.specs.Prelude.{Bool, true, false}

pub by_test : {A : Type 0} (b : Bool) → (b ≡ true → A) → (b ≡ false → A) → A
by_test true then otherwise = then refl
by_test false then otherwise = otherwise refl
