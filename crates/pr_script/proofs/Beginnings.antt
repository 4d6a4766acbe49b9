-- A list that grew begins with what it had.
use Rattle.std.proofs.Common.{◌≡◌, ℕ, List, [], ◌∷◌, ◌++◌, length, take, refl, ap, ◌∙◌, append_assoc}
use Rattle.pr_script.specs.Printing.{Begins}

front_of : (old more : List ℕ) → take (length old) (old ++ more) ≡ old
front_of [] more = refl
front_of (b ∷ old) more = ap (λ (x : List ℕ). b ∷ x) (front_of old more)

-- what follows the beginning
rest_of : (old new : List ℕ) → take (length old) new ≡ old → (rest : List ℕ) × (new ≡ old ++ rest)
rest_of [] new e = (new, refl)
rest_of (b ∷ old) [] e = absurd cc
rest_of (b ∷ old) (c ∷ new) e =
    let r = rest_of old new cc in
    (r.0, cc)

pub grown : (old more mid new : List ℕ) → mid ≡ old ++ more → Begins mid new → Begins old new
grown old more mid new e h =
    let r = rest_of mid new h in
    ap (take (length old)) (r.1 ∙ (ap (λ (x : List ℕ). x ++ r.0) e ∙ append_assoc old more r.0)) ∙ front_of old (more ++ r.0)

pub further : (old mid new : List ℕ) → Begins old mid → Begins mid new → Begins old new
further old mid new h g = let r = rest_of old mid h in grown old r.0 mid new r.1 g

pub one_more : (old mid more new : List ℕ) → Begins old mid → new ≡ mid ++ more → Begins old new
one_more old mid more new h e = further old mid new h (ap (take (length mid)) e ∙ front_of mid more)
