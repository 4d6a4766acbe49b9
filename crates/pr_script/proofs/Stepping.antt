-- A script's steps, one after the other.
use Rattle.std.proofs.Common.{◌≡◌, ℕ, suc, ◌+◌, ◌<◌, Bool, true, false, not, cond, List, [], ◌∷◌, ◌++◌, length, take, drop, Some, refl, sym, ap, subst, ◌∙◌, inl, inr, append_assoc, arith, length-append}
use Rattle.std.specs.Prelude.{◌⊎◌}
use Rattle.std.specs.List.{flat_map, position_or_len}
use Rattle.std.proofs.lemmas.List.{append-nil, map-append}
use Rattle.pr_script.specs.declared.command.Command.{Command}
use Rattle.pr_script.specs.declared.command.Command.TheVariants as commands
use Rattle.pr_script.specs.Laws.{StepAlone, StepOfPhase}
use Rattle.pr_script.specs.Steps.{Numbered, Phase, is_phase, is_end, steps_from, steps_of, unnumbered, step_commands, AreWhole}
use Rattle.pr_script.proofs.GoodScripts.{steps_alone}

abbrev rest_of : List Command → List Command
rest_of [] = []
rest_of (c ∷ cs) = cs

pub step_alone : StepAlone
step_alone c cs e =
    let split = steps_alone c cs e in
    (split, λ w. ap rest_of (sym (ap (flat_map step_commands) split) ∙ w))

-- ---- phases

abbrev ends : List Numbered → ℕ
ends cs = position_or_len (λ (x : Numbered). is_end x.1) cs

-- what is inside a phase goes on up to its end, if there is one
abbrev Reaches : List Numbered → List Numbered → ℕ → Type 0
Reaches inside cs n =
    ((n < length cs) × (steps_from (Some inside) cs ≡ Phase (inside ++ take n cs) ∷ steps_of (drop (n + 1) cs)) × (e : Numbered) × (is_end e.1 ≡ true) × (cs ≡ take n cs ++ e ∷ drop (n + 1) cs))
    ⊎ (steps_from (Some inside) cs ≡ Phase (inside ++ cs) ∷ [])

reaches_if : (t : Bool) (inside : List Numbered) (c : Numbered) (cs : List Numbered) → is_end c.1 ≡ t → Reaches (inside ++ c ∷ []) cs (ends cs) → Reaches inside (c ∷ cs) (cond (not t) (1 + ends cs) 0)
unfolding steps_from
reaches_if true inside c cs e r = inl (omega arith, rw e (ap (λ (x : List Numbered). Phase x ∷ steps_of cs) (sym (append-nil inside))), c, e, refl)
reaches_if false inside c cs e r =
    let is : steps_from (Some inside) (c ∷ cs) ≡ steps_from (Some (inside ++ c ∷ [])) cs = rw e refl in
    let one : 1 + ends cs ≡ suc (ends cs) = omega arith in
    let two : 1 + ends cs + 1 ≡ suc (ends cs + 1) = omega arith in
    elim r [
      | inl (lt, same, x, end, parts) ↦ inl (
        omega (arith, lt),
        is ∙ (same ∙ (ap (λ (y : List Numbered). Phase y ∷ steps_of (drop (ends cs + 1) cs)) (append_assoc inside (c ∷ []) (take (ends cs) cs) ∙ ap (λ (k : ℕ). inside ++ take k (c ∷ cs)) (sym one)) ∙ ap (λ (k : ℕ). Phase (inside ++ take (1 + ends cs) (c ∷ cs)) ∷ steps_of (drop k (c ∷ cs))) (sym two))),
        x,
        end,
        ap (λ (y : List Numbered). c ∷ y) parts ∙ (ap (λ (k : ℕ). take k (c ∷ cs) ++ x ∷ drop (ends cs + 1) cs) (sym one) ∙ ap (λ (k : ℕ). take (1 + ends cs) (c ∷ cs) ++ x ∷ drop k (c ∷ cs)) (sym two)),
      )
      | inr none ↦ inr (is ∙ (none ∙ ap (λ (y : List Numbered). Phase y ∷ []) (append_assoc inside (c ∷ []) cs)))
    ]

reaches : (inside cs : List Numbered) → Reaches inside cs (ends cs)
unfolding steps_from
reaches inside [] = inr (ap (λ (y : List Numbered). Phase y ∷ []) (sym (append-nil inside)))
reaches inside (c ∷ cs) = reaches_if (is_end c.1) inside c cs refl (reaches (inside ++ c ∷ []) cs)

steps_phase : (c : Numbered) (cs : List Numbered) → is_phase c.1 ≡ true → steps_of (c ∷ cs) ≡ steps_from (Some []) cs
unfolding steps_from
steps_phase c cs e = rw e refl

-- what stands behind the same beginning is the same
behind_same : (xs ys zs : List Command) → xs ++ ys ≡ xs ++ zs → ys ≡ zs
behind_same [] ys zs e = e
behind_same (x ∷ xs) ys zs e = behind_same xs ys zs (ap rest_of e)

whole_rest : (c : Numbered) (cs inside : List Numbered) (x : Numbered) (rest : List Numbered) → steps_of (c ∷ cs) ≡ Phase inside ∷ steps_of rest → cs ≡ inside ++ x ∷ rest → AreWhole (c ∷ cs) → AreWhole rest
whole_rest c cs inside x rest is parts w =
    let made : (unnumbered inside ++ commands.End ∷ []) ++ flat_map step_commands (steps_of rest) ≡ unnumbered cs = ap rest_of (sym (ap (flat_map step_commands) is) ∙ w) in
    let left : unnumbered inside ++ (commands.End ∷ flat_map step_commands (steps_of rest)) ≡ unnumbered cs = sym (append_assoc (unnumbered inside) (commands.End ∷ []) (flat_map step_commands (steps_of rest))) ∙ made in
    let right : unnumbered cs ≡ unnumbered inside ++ (x.1 ∷ unnumbered rest) = ap unnumbered parts ∙ map-append (λ (y : Numbered). y.1) inside (x ∷ rest) in
    ap rest_of (behind_same (unnumbered inside) (commands.End ∷ flat_map step_commands (steps_of rest)) (x.1 ∷ unnumbered rest) (left ∙ right))

not_ended : (c : Numbered) (cs : List Numbered) → steps_of (c ∷ cs) ≡ Phase cs ∷ [] → AreWhole (c ∷ cs) → ⊥
not_ended c cs is w =
    let made : (unnumbered cs ++ commands.End ∷ []) ++ [] ≡ unnumbered cs = ap rest_of (sym (ap (flat_map step_commands) is) ∙ w) in
    let l = ap (λ (x : List Command). length x) (sym (append-nil (unnumbered cs ++ commands.End ∷ [])) ∙ made) in
    let m = length-append (unnumbered cs) (commands.End ∷ []) in
    absurd (omega (arith, l, m))

pub step_of_phase : StepOfPhase
step_of_phase c cs n p e w =
    let is = steps_phase c cs p in
    let r : Reaches [] cs n = subst (λ (k : ℕ). Reaches [] cs k) (sym e) (reaches [] cs) in
    elim r [
      | inl (lt, same, x, end, parts) ↦ (lt, is ∙ same, whole_rest c cs (take n cs) x (drop (n + 1) cs) (is ∙ same) parts w)
      | inr none ↦ absurd (not_ended c cs (is ∙ none) w)
    ]
