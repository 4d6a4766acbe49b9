-- What is drawn is small.
use Rattle.std.proofs.Common.{ℕ, ◌*◌, ◌/◌, ◌%◌, ◌^◌, ◌-◌, ◌<◌, ◌≤◌, length, arith}
use Rattle.std.specs.Prelude.{bit_or, bit_xor, decimal}
use Rattle.std.proofs.Math.Nat.{div-le_self, mod-lt}
use Rattle.std.proofs.lemmas.Nat.{or_lt}
use Rattle.std.proofs.lemmas.Fmt.{length-decimal-le}
use Rattle.rand_pcg.specs.Lcg.{Lcg}
use Rattle.pr_gen.specs.Draws.{word, below}

pub below_range : (count : ℕ) (g : Lcg) → 0 < count → (below count g).0 < count
unfolding below
below_range count g h = mod-lt (word g).0 h

rotated : (x k s : ℕ) → x < 2 ^ 32 → bit_or (x / 2 ^ k) ((x * 2 ^ s) % 2 ^ 32) < 2 ^ 32
rotated x k s h = or_lt 32 (x / 2 ^ k) ((x * 2 ^ s) % 2 ^ 32) (let l = div-le_self x (2 ^ k) in omega (arith, l)) (mod-lt (x * 2 ^ s) (omega arith))

pub word_range : (g : Lcg) → (word g).0 < 2 ^ 32
unfolding word
word_range g =
    let x = bit_xor (g.state / 2 ^ 18) g.state / 2 ^ 27 % 2 ^ 32 in
    let by = g.state / 2 ^ 59 in
    rotated x (by % 32) ((32 - by % 32) % 32) (mod-lt (bit_xor (g.state / 2 ^ 18) g.state / 2 ^ 27) (omega arith))

pub text_is_short : (g : Lcg) → length (decimal (word g).0) ≤ 1024
text_is_short g = let w = word_range g in let l = length-decimal-le 10 (word g).0 (omega arith) (omega arith) (omega arith) in omega (arith, l)
