-- Whether a connection is sound by its plan.
use Rattle.std.proofs.Common.{◌≡◌, ℕ, Bool, true, false, List, [], ◌∷◌, ◌||◌, cond, ap, ◌∙◌, refl}
use Rattle.std.specs.Prelude.{not}
use Rattle.std.specs.List.{list_any}
use Rattle.pr_wires.specs.Bends.{bends_of, is_sound, is_unbent, names, refuses}
use Rattle.pr_wires.specs.declared.bend.Bend.{Bend}

no_more : (named any : Bool) (bend : Bend) (rest : List Bend) → not (named || any) ≡ true → (not any ≡ true → rest ≡ []) → cond named (bend ∷ rest) rest ≡ []
no_more true any bend rest is others = absurd (cc)
no_more false any bend rest is others = others is

-- a connection that no bend names has no bend
none_named : (plan : List Bend) (k : ℕ) → is_unbent plan k ≡ true → bends_of plan k ≡ []
none_named [] k is = refl
none_named (bend ∷ plan) k is = no_more (names k bend) (list_any (names k) plan) bend (bends_of plan k) is (none_named plan k)

-- so its wire is sound
pub unbent_sound : (plan bends : List Bend) (k : ℕ) → bends ≡ bends_of plan k → is_unbent plan k ≡ true → is_sound bends ≡ true
unbent_sound plan bends k are is = ap is_sound (are ∙ none_named plan k is)

-- and one that is refused is not called sound
pub refused_bent : (plan : List Bend) (k : ℕ) → list_any refuses (bends_of plan k) ≡ true → is_unbent plan k ≡ false
refused_bent plan k refused = by_case (is_unbent plan k) refl
  where
    by_case : (unbent : Bool) → is_unbent plan k ≡ unbent → is_unbent plan k ≡ false
    by_case false is = is
    by_case true is = let none = ap (list_any refuses) (none_named plan k is) in absurd (cc)
