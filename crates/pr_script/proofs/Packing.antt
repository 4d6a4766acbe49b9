-- A label's bytes are packed from its end.
use Rattle.std.proofs.Common.{◌≡◌, ℕ, zero, suc, ◌+◌, ◌*◌, ◌-◌, ◌^◌, ◌<◌, ◌≤◌, List, length, drop, get_or, refl, arith}
use Rattle.std.proofs.Math.Nat.{pow-suc}
use Rattle.std.proofs.Math.Seq.{drop-cons, drop-length}
use Rattle.pr_script.specs.Packed.{packed}

pub power_positive : (k : ℕ) → 0 < 256 ^ k
power_positive zero = omega arith
power_positive (suc k) = omega (arith, pow-suc 256 k, power_positive k)

-- where n is below 256 ^ k, one byte more is below 256 ^ (k + 1)
pub grows : (n b k j : ℕ) → n < 256 ^ k → b < 256 → j ≡ suc k → n * 256 + b < 256 ^ j
grows n b k j h lt e = rw e (let p = pow-suc 256 k in omega (arith, p))

power_more : (k i j : ℕ) → j ≡ i + k → 256 ^ k ≤ 256 ^ j
power_more k zero j e = let h : j ≡ k = omega arith in rw h (omega arith)
power_more k (suc i) j e =
    let h : j ≡ suc (i + k) = omega arith in
    rw h (let p = pow-suc 256 (i + k) in let q = power_more k i (i + k) refl in omega (arith, p, q))

pub few_bytes : (n k : ℕ) → k ≤ 15 → n < 256 ^ k → n < 2 ^ 120
few_bytes n k le h = let p = power_more k (15 - k) 15 (omega arith) in omega (arith, p, h)

pub one_byte : (bytes : List ℕ) (i n : ℕ) → i < length bytes → n ≡ packed (drop (suc i) bytes) → n * 256 + get_or bytes i 0 ≡ packed (drop i bytes)
unfolding packed
one_byte bytes i n lt h = rw (drop-cons bytes i 0 lt) (let e = h in omega arith)

pub none_packed : (bytes : List ℕ) → 0 ≡ packed (drop (length bytes) bytes)
unfolding packed
none_packed bytes = rw (drop-length bytes) refl

pub byte_before : (bytes : List ℕ) (i n : ℕ) → 0 < i → i ≤ length bytes → n ≡ packed (drop i bytes) → n * 256 + get_or bytes (i - 1) 0 ≡ packed (drop (i - 1) bytes)
byte_before bytes i n some le h =
    let e : suc (i - 1) ≡ i = omega arith in
    one_byte bytes (i - 1) n (omega arith) (rw e h)
