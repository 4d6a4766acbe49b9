-- Which bends change bytes, and which stop calls.
use Rattle.std.specs.Prelude.{◌≡◌, ℕ, Bool, IsTrue, true, false, List, ◌∷◌}
use Rattle.std.specs.List.{list_any}
use Rattle.pr_wires.specs.Bends.{bent, fails, left}
use Rattle.pr_wires.specs.declared.bend.Bend.{Bend}
use Rattle.pr_wires.specs.declared.bend.Bend.TheVariants.{NoConnect, Fail, End, Flip, Again}

-- a bend that changes bytes
abbrev pub is_of_bytes : Bend → Bool
is_of_bytes (NoConnect nth) = false
is_of_bytes (Fail nth call) = false
is_of_bytes (End nth after) = false
is_of_bytes (Flip nth at) = true
is_of_bytes (Again nth at) = true

-- with such a bend more the same calls fail, and as many bytes come before the wire ends
abbrev pub BytesStopNothing : Type 0
BytesStopNothing = (bend : Bend) (bends : List Bend) → IsTrue (is_of_bytes bend)
    → ((n : ℕ) → list_any (fails n) (bend ∷ bends) ≡ list_any (fails n) bends)
    × ((taken len : ℕ) → left taken (bend ∷ bends) len ≡ left taken bends len)

-- without such a bend each byte comes out as it was put
abbrev pub OthersKeepBytes : Type 0
OthersKeepBytes = (bends : List Bend) (n : ℕ) (bytes : List ℕ) → list_any is_of_bytes bends ≡ false → bent bends n bytes ≡ bytes
