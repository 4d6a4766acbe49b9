-- Bytes raised from behind.
use Rattle.std.proofs.Common.{◌≡◌, ℕ, suc, ◌+◌, List, [], ◌∷◌, ◌++◌, length, take, refl, ap, sym, ◌∙◌, false, arith, eqb}
use Rattle.std.specs.Prelude.{◌≢◌}
use Rattle.std.proofs.Common.{zero, ◌-◌, ◌<◌, ◌≤◌, get_or, true, length-append}
use Rattle.std.proofs.lemmas.List.{take_more, length-take-le}
use Rattle.pr_names.specs.Name.{Allowed, IsName}
use Rattle.pr_names.specs.Byte.{allowed}
use Rattle.pr_names.proofs.Above.{allowed_append}
use Rattle.pr_names.proofs.Bytes.{allowed_most, next_byte_allowed}
use Rattle.std.proofs.lemmas.Bool.Decides.{nat_tests}
use Rattle.pr_names.specs.Byte.{next_byte}
use Rattle.pr_names.specs.Above.{raised, raised_onto, bound_of, after_all_of}
use Rattle.pr_names.specs.declared.bound.Bound.TheVariants.{At}

-- a z at the end is dropped
pub raised_z : (bs : List ℕ) → raised (bs ++ 122 ∷ []) ≡ raised bs
raised_z [] = refl
raised_z (b ∷ bs) = ap (raised_onto b) (raised_z bs)

onto_more : (b : ℕ) (bs : List ℕ) (c : ℕ) → raised_onto b (bs ++ c ∷ []) ≡ b ∷ (bs ++ c ∷ [])
onto_more b [] c = refl
onto_more b (d ∷ bs) c = refl

-- another byte at the end is raised
pub raised_other : (bs : List ℕ) (c : ℕ) → eqb c 122 ≡ false → raised (bs ++ c ∷ []) ≡ bs ++ next_byte c ∷ []
raised_other [] c h = rw h refl
raised_other (b ∷ bs) c h = ap (raised_onto b) (raised_other bs c h) ∙ onto_more b bs (next_byte c)

bound_more : (bs : List ℕ) (c : ℕ) → bound_of (bs ++ c ∷ []) ≡ At (bs ++ c ∷ [])
bound_more [] c = refl
bound_more (b ∷ bs) c = refl

pub bound_other : (bs : List ℕ) (c : ℕ) → eqb c 122 ≡ false → after_all_of (bs ++ c ∷ []) ≡ At (bs ++ next_byte c ∷ [])
bound_other bs c h = ap bound_of (raised_other bs c h) ∙ bound_more bs (next_byte c)

pub allowed_take : (n : ℕ) (bs : List ℕ) → Allowed bs → Allowed (take n bs)
allowed_take zero bs h = tt
allowed_take (suc n) [] h = tt
allowed_take (suc n) (b ∷ bs) h = (h.0, allowed_take n bs h.1)

pub allowed_at : (bs : List ℕ) (i : ℕ) → Allowed bs → i < length bs → allowed (get_or bs i 0) ≡ true
allowed_at [] i h lt = absurd (omega arith)
allowed_at (b ∷ bs) zero h lt = h.0
allowed_at (b ∷ bs) (suc i) h lt = allowed_at bs i h.1 (omega arith)

pub cut_last : (bs : List ℕ) (len : ℕ) → 0 < len → len ≤ length bs → take len bs ≡ take (len - 1) bs ++ get_or bs (len - 1) 0 ∷ []
cut_last bs len pos le =
    let e : len ≡ len - 1 + 1 = omega arith in
    ap (λ n. take n bs) e ∙ take_more bs (len - 1) 0 (omega arith)

pub raised_stop : (bs : List ℕ) (len : ℕ) → 0 < len → len ≤ length bs → raised (take len bs) ≡ raised bs → get_or bs (len - 1) 0 ≢ 122 → At (take (len - 1) bs ++ next_byte (get_or bs (len - 1) 0) ∷ []) ≡ after_all_of bs
raised_stop bs len pos le same ne =
    let f : eqb (get_or bs (len - 1) 0) 122 ≡ false = grind (arith, nat_tests) in
    sym (bound_other (take (len - 1) bs) (get_or bs (len - 1) 0) f) ∙ ap bound_of (ap raised (sym (cut_last bs len pos le)) ∙ same)

pub raised_go : (bs : List ℕ) (len : ℕ) → 0 < len → len ≤ length bs → raised (take len bs) ≡ raised bs → get_or bs (len - 1) 0 ≡ 122 → raised (take (len - 1) bs) ≡ raised bs
raised_go bs len pos le same eq =
    sym (raised_z (take (len - 1) bs)) ∙ ap (λ c. raised (take (len - 1) bs ++ c ∷ [])) (sym eq) ∙ ap raised (sym (cut_last bs len pos le)) ∙ same

pub raised_is_name : (bs : List ℕ) (len : ℕ) → IsName bs → 0 < len → len ≤ length bs → get_or bs (len - 1) 0 < 122 → IsName (take (len - 1) bs ++ next_byte (get_or bs (len - 1) 0) ∷ [])
raised_is_name bs len h pos le lt =
    let l : length (take (len - 1) bs) ≡ len - 1 = length-take-le (len - 1) bs (omega arith) in
    record {
      some = simp length-append (omega arith);
      most = simp length-append (omega (arith, h.most, l));
      each = allowed_append (take (len - 1) bs) _ (allowed_take (len - 1) bs h.each) (next_byte_allowed (get_or bs (len - 1) 0) (allowed_at bs (len - 1) h.each (omega arith)) lt, tt);
    }

pub last_below : (bs : List ℕ) (i : ℕ) → IsName bs → i < length bs → get_or bs i 0 ≢ 122 → get_or bs i 0 < 122
last_below bs i h lt ne = omega (arith, ne, allowed_most (get_or bs i 0) (allowed_at bs i h.each lt))
