-- A text is read byte by byte.
use Rattle.std.proofs.Common.{◌≡◌, ℕ, false, cond, eqb, ◌<◌, length, get_or, List, [], ◌∷◌, ◌++◌, Result, Ok, Err, refl, sym, ap, ◌∙◌, append_assoc, arith}
use Rattle.std.specs.Prelude.{nat_eq}
use Rattle.std.proofs.lemmas.Grind.{common_steps}
use Rattle.pr_script.specs.declared.refusal.Refusal.{Refusal}
use Rattle.pr_script.specs.declared.refusal.Refusal.TheVariants as refusals
use Rattle.std.proofs.lemmas.Bool.Decides.{nat_tests}
use Rattle.pr_script.specs.Fields.{◌>>=◌, Fails}
use Rattle.pr_script.specs.Texts.{text_at, byte_at, with_front}

-- the text is at its end, or a byte and the rest of the text
abbrev pub text_step : ℕ → List ℕ → Result (List ℕ × List ℕ) ℕ
text_step b bs = cond (nat_eq b 34) (Ok ([], bs)) (byte_at (b ∷ bs) >>= λ x. with_front (x.0 ∷ []) (text_at x.1))

pub text_is : (b : ℕ) (bs : List ℕ) → text_at (b ∷ bs) ≡ text_step b bs
unfolding text_at byte_at
text_is b [] = grind (arith, common_steps)
text_is b (c ∷ []) = grind (arith, common_steps)
text_is b (c ∷ d ∷ bs) = grind (arith, common_steps)

regroup : (front : List ℕ) (b : ℕ) (read : Result (List ℕ × List ℕ) ℕ) → with_front front (with_front (b ∷ []) read) ≡ with_front (front ++ b ∷ []) read
regroup front b (Ok x) = ap (λ (t : List ℕ). Ok (t, x.1)) (simp append_assoc)
regroup front b (Err n) = refl

pub goes_on : (front rest : List ℕ) (b : ℕ) (more : List ℕ) (total : Result (List ℕ × List ℕ) ℕ)
    → 0 < length rest → (get_or rest 0 0 ≡ 34 → ⊥) → byte_at rest ≡ Ok (b, more)
    → with_front front (text_at rest) ≡ total → with_front (front ++ b ∷ []) (text_at more) ≡ total
goes_on front [] b more total lt ne h so_far = absurd (omega arith)
goes_on front (x ∷ rest) b more total lt ne h so_far =
    let n : eqb x 34 ≡ false = grind (arith, nat_tests) in
    let one : text_at (x ∷ rest) ≡ with_front (b ∷ []) (text_at more) = rw (text_is x rest, n, h) refl in
    sym (regroup front b (text_at more)) ∙ sym (ap (with_front front) one) ∙ so_far

pub stops : (e : Refusal) (front rest : List ℕ) (total : Result (List ℕ × List ℕ) ℕ)
    → 0 < length rest → (get_or rest 0 0 ≡ 34 → ⊥) → Fails e (byte_at rest)
    → with_front front (text_at rest) ≡ total → Fails e total
stops refusals.NoMemory front rest total lt ne h so_far = tt
stops (refusals.Why k) front [] total lt ne h so_far = absurd (omega arith)
stops (refusals.Why k) front (x ∷ rest) total lt ne h so_far =
    let n : eqb x 34 ≡ false = grind (arith, nat_tests) in
    let one : text_at (x ∷ rest) ≡ Err k = rw (text_is x rest, n, h) refl in
    sym so_far ∙ ap (with_front front) one
