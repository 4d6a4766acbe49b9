-- A script that is not too large has few commands.
use Rattle.std.proofs.Common.{◌≡◌, ◌⊎◌, ℕ, ◌+◌, ◌-◌, ◌<◌, ◌≤◌, List, [], ◌∷◌, ◌++◌, Result, Ok, Err, inl, inr, ◌∙◌, ap, drop, length, length-drop, take, arith}
use Rattle.std.specs.Prelude.{Bool, true, false, Option, None, Some, is_some, ◌||◌, if◌then◌else◌}
use Rattle.std.specs.List.{flat_map}
use Rattle.std.proofs.lemmas.Bool.{cases_lt}
use Rattle.std.proofs.lemmas.Bool.Decides.{nat_tests}
use Rattle.std.proofs.lemmas.List.{append-nil, length-append}
use Rattle.pr_script.specs.declared.item.Item.{Item}
use Rattle.pr_script.specs.declared.item.Item.TheVariants as items
use Rattle.pr_script.specs.declared.script.Script.{Script}
use Rattle.pr_script.specs.Lines.{line_item}
use Rattle.pr_script.specs.Reading.{Means, Sofar, after, all_lines, ended, is_skipped, next, numbered, passed, phase_fault, script_of, start, told, unless_fault}
use Rattle.pr_top.specs.Sizes.{IsTooLarge, but_last, line_ends}
use Rattle.pr_top.proofs.Counting.{ends_append, ends_but_last, ends_split}

-- ---- commands

told_few : (f : Sofar) (r : Result Item ℕ) → length (told f r).commands ≤ length f.commands + 1
told_few f (Ok (items.Decl d)) = let l = length-append f.commands (numbered (f.lines + 1) (items.Decl d)) in omega (arith, l)
told_few f (Ok (items.Command c)) = let l = length-append f.commands (numbered (f.lines + 1) (items.Command c)) in omega (arith, l)
told_few f (Err why) = omega arith

next_so : (f : Sofar) (b : Bool) (r : Result Item ℕ) → length (if b then passed f else told f r).commands ≤ length f.commands + 1
next_so f true r = omega arith
next_so f false r = told_few f r

-- a line gives at most one command
next_few : (f : Sofar) (line : List ℕ) → length (next f line).commands ≤ length f.commands + 1
unfolding next
next_few f line = next_so f (is_some f.fault || is_skipped line) (line_item f.known line)

after_few : (f : Sofar) (lines : List (List ℕ)) → length (after f lines).commands ≤ length f.commands + length lines
after_few f [] = omega arith
after_few f (line ∷ lines) =
    let one : length (next f line).commands ≤ length f.commands + 1 = next_few f line in
    let rest : length (after (next f line) lines).commands ≤ length (next f line).commands + length lines = after_few (next f line) lines in
    omega (arith, one, rest)

answered : (x y : Option (ℕ × ℕ)) (s t : Script) → Ok s ≡ unless_fault x (unless_fault y (Ok t)) → s ≡ t
answered None None s t is = cc
answered None (Some y) s t is = absurd (cc)
answered (Some x) y s t is = absurd (cc)

-- ---- lines

one_end : (b : ℕ) → line_ends (b ∷ []) ≤ 1
one_end b = grind (arith, nat_tests)

few_ends : (bytes : List ℕ) → line_ends bytes ≤ length bytes
few_ends [] = omega arith
few_ends (b ∷ bytes) =
    let split : line_ends (b ∷ bytes) ≡ line_ends (b ∷ []) + line_ends bytes = ends_append (b ∷ []) bytes in
    let one : line_ends (b ∷ []) ≤ 1 = one_end b in
    let rest : line_ends bytes ≤ length bytes = few_ends bytes in
    omega (arith, split, one, rest)

-- the last byte ends at most one line
last_end : (bytes : List ℕ) → line_ends bytes ≤ line_ends (but_last bytes) + 1
last_end bytes =
    let split : line_ends bytes ≡ line_ends (but_last bytes) + line_ends (drop (length bytes - 1) bytes) = ends_split (length bytes - 1) bytes in
    let few : line_ends (drop (length bytes - 1) bytes) ≤ length (drop (length bytes - 1) bytes) = few_ends (drop (length bytes - 1) bytes) in
    let long : length (drop (length bytes - 1) bytes) ≡ length bytes - (length bytes - 1) = length-drop (length bytes - 1) bytes in
    omega (arith, split, few, long)

each_ends : (lines : List (List ℕ)) → length lines ≤ line_ends (flat_map ended lines)
each_ends [] = omega arith
each_ends (line ∷ lines) =
    let front : line_ends (flat_map ended (line ∷ lines)) ≡ line_ends (ended line) + line_ends (flat_map ended lines) = ends_append (ended line) (flat_map ended lines) in
    let own : line_ends (ended line) ≡ line_ends line + 1 = ends_append line (10 ∷ []) in
    let rest : length lines ≤ line_ends (flat_map ended lines) = each_ends lines in
    omega (arith, front, own, rest)

lines_few : (bytes : List ℕ) (lines : List (List ℕ)) (rest : List ℕ) → bytes ≡ flat_map ended lines ++ rest → length (all_lines lines rest) ≤ line_ends (but_last bytes) + 1
lines_few bytes lines [] is =
    let whole : bytes ≡ flat_map ended lines = is ∙ append-nil (flat_map ended lines) in
    let ends : line_ends bytes ≡ line_ends (flat_map ended lines) = ap (λ (xs : List ℕ). line_ends xs) whole in
    let each = each_ends lines in
    let last = last_end bytes in
    omega (arith, ends, each, last)
lines_few bytes lines (b ∷ bs) is =
    let part : line_ends (but_last bytes) ≡ line_ends (but_last (flat_map ended lines ++ b ∷ bs)) = ap (λ (xs : List ℕ). line_ends (but_last xs)) is in
    let split : line_ends (but_last (flat_map ended lines ++ b ∷ bs)) ≡ line_ends (flat_map ended lines) + line_ends (take (length (b ∷ bs) - 1) (b ∷ bs)) = ends_but_last (flat_map ended lines) (b ∷ bs) (omega arith) in
    let each = each_ends lines in
    let more : length (lines ++ (b ∷ bs) ∷ []) ≡ length lines + 1 = length-append lines ((b ∷ bs) ∷ []) in
    omega (arith, part, split, each, more)

-- ---- both

pub few_commands : (bytes : List ℕ) (s : Script) → Means bytes (Ok s) → ¬ IsTooLarge bytes → length s.commands ≤ 100000
few_commands bytes s (lines, rest, cut, means) fits =
    let f : Sofar = after start (all_lines lines rest) in
    let same : s ≡ script_of f = answered f.fault (phase_fault f) s (script_of f) means in
    let many : length s.commands ≡ length f.commands = ap (λ (x : Script). length x.commands) same in
    let few : length f.commands ≤ 0 + length (all_lines lines rest) = after_few start (all_lines lines rest) in
    let less = lines_few bytes lines rest cut.whole in
    let short : line_ends (but_last bytes) < 100000 = not_long (cases_lt (line_ends (but_last bytes)) 100000) in
    omega (arith, many, few, less, short)
  where
    not_long : (line_ends (but_last bytes) < 100000) ⊎ (100000 ≤ line_ends (but_last bytes)) → line_ends (but_last bytes) < 100000
    not_long (inl short) = short
    not_long (inr long) = absurd (fits (inr long))
