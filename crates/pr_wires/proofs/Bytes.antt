-- Which bends change bytes, and which stop calls.
use Rattle.std.proofs.Common.{◌≡◌, ℕ, Bool, true, false, List, [], ◌∷◌, ◌++◌, ◌||◌, ap, ◌∙◌, refl}
use Rattle.std.specs.Prelude.{if◌then◌else◌, bit_xor}
use Rattle.std.specs.List.{list_any}
use Rattle.pr_wires.specs.BendLaws.{BytesStopNothing, OthersKeepBytes, is_of_bytes}
use Rattle.pr_wires.specs.Counters.{one_more}
use Rattle.pr_wires.specs.Bends.{bent, flips, repeats}
use Rattle.pr_wires.specs.declared.bend.Bend.{Bend}
use Rattle.pr_wires.specs.declared.bend.Bend.TheVariants.{NoConnect, Fail, End, Flip, Again}

pub bytes_stop_nothing : BytesStopNothing
bytes_stop_nothing (NoConnect nth) bends of = absurd (cc)
bytes_stop_nothing (Fail nth call) bends of = absurd (cc)
bytes_stop_nothing (End nth after) bends of = absurd (cc)
bytes_stop_nothing (Flip nth at) bends of = (λ n. refl, λ taken len. refl)
bytes_stop_nothing (Again nth at) bends of = (λ n. refl, λ taken len. refl)

no_flip : (n : ℕ) (bend : Bend) → is_of_bytes bend ≡ false → (flips n bend ≡ false) × (repeats n bend ≡ false)
no_flip n (NoConnect nth) other = (refl, refl)
no_flip n (Fail nth call) other = (refl, refl)
no_flip n (End nth after) other = (refl, refl)
no_flip n (Flip nth at) other = absurd (cc)
no_flip n (Again nth at) other = absurd (cc)

neither : (p q : Bool) → p || q ≡ false → (p ≡ false) × (q ≡ false)
neither true q is = absurd (cc)
neither false q is = (refl, is)

both : (p q : Bool) → p ≡ false → q ≡ false → p || q ≡ false
both p q first rest = ap (λ (b : Bool). b || q) first ∙ rest

none_flip : (n : ℕ) (bends : List Bend) → list_any is_of_bytes bends ≡ false → (list_any (flips n) bends ≡ false) × (list_any (repeats n) bends ≡ false)
none_flip n [] other = (refl, refl)
none_flip n (bend ∷ bends) other =
    let parts = neither (is_of_bytes bend) (list_any is_of_bytes bends) other in
    let first = no_flip n bend parts.0 in
    let rest = none_flip n bends parts.1 in
    (both (flips n bend) (list_any (flips n) bends) first.0 rest.0, both (repeats n bend) (list_any (repeats n) bends) first.1 rest.1)

given_once : (byte : ℕ) (flip again : Bool) → flip ≡ false → again ≡ false
    → (let given : ℕ = (if flip then bit_xor byte 1 else byte) in let two : List ℕ = given ∷ given ∷ [] in (if again then two else given ∷ [])) ≡ byte ∷ []
given_once byte false false flip again = refl
given_once byte true again flip is = absurd (cc)
given_once byte false true flip is = absurd (cc)

pub others_keep_bytes : OthersKeepBytes
others_keep_bytes bends n [] other = refl
others_keep_bytes bends n (byte ∷ bytes) other =
    let none = none_flip n bends other in
    ap (λ (front : List ℕ). front ++ bent bends (one_more n) bytes) (given_once byte (list_any (flips n) bends) (list_any (repeats n) bends) none.0 none.1)
    ∙ ap (λ (rest : List ℕ). byte ∷ rest) (others_keep_bytes bends (one_more n) bytes other)
