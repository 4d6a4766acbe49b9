-- The lines and turns of one job of a phase, line by line.
use Rattle.std.proofs.Common.{◌≡◌, ℕ, ◌<◌, ◌≤◌, ◌+◌, List, [], ◌∷◌, ◌++◌, refl, sym, ◌∙◌, ap, cond, length, get_or, take, drop, arith}
use Rattle.std.specs.Prelude.{true, false, Bool, filter}
use Rattle.std.specs.List.{fold}
use Rattle.std.proofs.lemmas.List.{length-append, take-append-drop}
use Rattle.std.proofs.lemmas.List.Elements.{filter_more}
use Rattle.pr_script.specs.declared.command.Command.{Command as Said}
use Rattle.pr_script.specs.declared.command.Command.TheVariants as commands
use Rattle.pr_script.specs.declared.owner.Owner.{Owner}
use Rattle.pr_script.specs.declared.owner.Owner.TheVariants as owner
use Rattle.pr_script.specs.Known.{turns_after}
use Rattle.pr_script.specs.Steps.{Numbered, owner_of, turns_in}
use Rattle.pr_text.specs.Steps.{is_owned_by, lines_by, turns_by}

-- ---- turns

turns_then : (c : Said) (a : ℕ) → turns_after c a ≡ a + turns_after c 0
turns_then (commands.Flow stream turns) a = omega arith
turns_then _ a = omega arith

turns_from : (xs : List Numbered) (a : ℕ) → fold (λ turns (c : Numbered). turns_after c.1 turns) a xs ≡ a + turns_in xs
turns_from [] a = omega arith
turns_from (x ∷ xs) a =
    let e = turns_from xs (turns_after x.1 a) in
    let f = turns_from xs (turns_after x.1 0) in
    let g = turns_then x.1 a in
    omega (arith, e, f, g)

turns_append : (xs ys : List Numbered) → turns_in (xs ++ ys) ≡ turns_in xs + turns_in ys
turns_append [] ys = omega arith
turns_append (x ∷ xs) ys =
    let e = turns_from (xs ++ ys) (turns_after x.1 0) in
    let f = turns_from xs (turns_after x.1 0) in
    let g = turns_append xs ys in
    omega (arith, e, f, g)

turns_kept : (b : Bool) (x : Numbered) (xs ys : List Numbered) → turns_in ys ≤ turns_in xs → turns_in (cond b (x ∷ ys) ys) ≤ turns_in (x ∷ xs)
turns_kept true x xs ys few =
    let e = turns_from xs (turns_after x.1 0) in
    let f = turns_from ys (turns_after x.1 0) in
    omega (arith, e, f, few)
turns_kept false x xs ys few = let e = turns_from xs (turns_after x.1 0) in omega (arith, e, few)

turns_within : (p : Numbered → Bool) (xs : List Numbered) → turns_in (filter p xs) ≤ turns_in xs
turns_within p [] = omega arith
turns_within p (x ∷ xs) = turns_kept (p x) x xs (filter p xs) (turns_within p xs)

pub turns_more : (stream : ℕ) (xs : List Numbered) (i : ℕ) (d : Numbered) → i < length xs
    → turns_in (lines_by (owner.Stream stream) (take (i + 1) xs)) ≡ turns_in (lines_by (owner.Stream stream) (take i xs)) + turns_by stream (get_or xs i d).1
turns_more stream xs i d lt =
    let test : Numbered → Bool = λ c. is_owned_by (owner.Stream stream) (owner_of c.1) in
    ap (λ (ys : List Numbered). turns_in ys) (filter_more test xs i d lt)
    ∙ turns_append (filter test (take i xs)) (cond (test (get_or xs i d)) (get_or xs i d ∷ []) [])
    ∙ ap (λ (n : ℕ). turns_in (filter test (take i xs)) + n) (one (test (get_or xs i d)))
  where
    one : (b : Bool) → turns_in (cond b (get_or xs i d ∷ []) []) ≡ cond b (turns_after (get_or xs i d).1 0) 0
    one true = refl
    one false = refl

pub turns_few : (stream : ℕ) (xs : List Numbered) (i : ℕ) → turns_in (lines_by (owner.Stream stream) (take i xs)) ≤ turns_in xs
turns_few stream xs i =
    let e = turns_within (λ (c : Numbered). is_owned_by (owner.Stream stream) (owner_of c.1)) (take i xs) in
    let f = turns_append (take i xs) (drop i xs) in
    let g : turns_in (take i xs ++ drop i xs) ≡ turns_in xs = ap (λ (ys : List Numbered). turns_in ys) (take-append-drop i xs) in
    omega (arith, e, f, g)

-- the turns of one line more
pub turns_step : (stream : ℕ) (xs : List Numbered) (i : ℕ) (x : Numbered) (turns more : ℕ) → i < length xs → x ≡ get_or xs i x → turns_in xs ≤ 1000000
    → turns ≡ turns_in (lines_by (owner.Stream stream) (take i xs)) → more ≡ turns_by stream x.1
    → (turns + more ≡ turns_in (lines_by (owner.Stream stream) (take (i + 1) xs))) × (turns + more ≤ 1000000)
turns_step stream xs i x turns more lt is few so_far then =
    let e = turns_more stream xs i x lt in
    let f = turns_few stream xs (i + 1) in
    let g : turns_by stream x.1 ≡ turns_by stream (get_or xs i x).1 = ap (λ (y : Numbered). turns_by stream y.1) is in
    (omega (arith, e, g, so_far, then), omega (arith, e, f, g, so_far, then, few))

-- one line more
pub lines_more : (mine : Owner) (xs : List Numbered) (i : ℕ) (x : Numbered) → i < length xs → x ≡ get_or xs i x
    → length (lines_by mine (take (i + 1) xs)) ≡ length (lines_by mine (take i xs)) + cond (is_owned_by mine (owner_of x.1)) 1 0
lines_more mine xs i x lt is =
    let test : Numbered → Bool = λ c. is_owned_by mine (owner_of c.1) in
    ap (λ (ys : List Numbered). length ys) (filter_more test xs i x lt)
    ∙ length-append (filter test (take i xs)) (cond (test (get_or xs i x)) (get_or xs i x ∷ []) [])
    ∙ ap (λ (n : ℕ). length (filter test (take i xs)) + n) (one (test (get_or xs i x)))
    ∙ ap (λ (y : Numbered). length (filter test (take i xs)) + cond (test y) 1 0) (sym is)
  where
    one : (b : Bool) → length (cond b (get_or xs i x ∷ []) []) ≡ cond b 1 0
    one true = refl
    one false = refl
