-- The printed text of a workload is one that the reader accepts: the whole text.
use Rattle.std.proofs.Common.{◌≡◌, ℕ, zero, suc, ◌+◌, ◌*◌, ◌/◌, ◌%◌, ◌^◌, ◌<◌, ◌≤◌, Bool, true, false, ◌&&◌, cond, List, [], ◌∷◌, ◌++◌, length, None, Ok, refl, sym, ap, subst, ◌∙◌, append_assoc, arith, length-append}
use Rattle.std.specs.Prelude.{◌≢◌, decimal, nat_lt}
use Rattle.std.specs.List.{AllByRecursion, list_all}
use Rattle.std.proofs.lemmas.Bool.Decides.{nat_tests}
use Rattle.std.proofs.lemmas.Fmt.{decimal_by_steps}
use Rattle.std.proofs.lemmas.List.{append-nil, map-append}
use Rattle.rand_pcg.specs.Lcg.{Lcg}
use Rattle.pr_names.specs.Name.{IsName}
use Rattle.pr_script.specs.declared.command.Command.{Command}
use Rattle.pr_script.specs.declared.command.Command.TheVariants as commands
use Rattle.pr_script.specs.declared.item.Item.TheVariants as items
use Rattle.pr_script.specs.declared.known.Known.{Known}
use Rattle.pr_script.specs.declared.script.Script.{Script}
use Rattle.pr_script.specs.Fields.{is_plain}
use Rattle.pr_script.specs.Known.{is_read, turns_after}
use Rattle.pr_script.specs.Printing.{command_lines, command_text, decl_lines, script_lines, script_text}
use Rattle.pr_script.specs.Reading.{HasNoEnd, IsCut, Means, Sofar, after, answer_of, next, script_of, start}
use Rattle.pr_script.proofs.LinesAgain.{item_plain}
use Rattle.pr_script.proofs.Visible.{Plain}
use Rattle.pr_script.proofs.WholeScript.{next_is}
use Rattle.pr_gen.specs.Draws.{below, seeded, word}
use Rattle.pr_gen.specs.Topology.{declared, each, front}
use Rattle.pr_gen.specs.Workload as workload
use Rattle.pr_gen.specs.Workload.{numbered, step, steps, drawn}
use Rattle.pr_gen.proofs.Accepting.{IsSaid, known_at, opened, opening, opening_plain, attach_said, flow_said, read_said, settle_said, write_said}
use Rattle.pr_gen.proofs.Digits.{one_digit, two_digit}
use Rattle.pr_gen.proofs.Numbering.{script_is}
use Rattle.pr_gen.proofs.Rings.{all_joined}
use Rattle.pr_gen.proofs.Runs.{IsPlain, length-steps, settle_plain, steps_plain}
use Rattle.pr_gen.proofs.Words.{below_range, text_is_short, word_range}

-- ---- the steps

short_name : (letter n : ℕ) → letter < 8 → n < 10 → IsName (front letter ++ decimal n)
short_name letter n h lt =
    let is : IsName ((97 + letter) ∷ 47 ∷ (48 + n % 10) ∷ []) = record { some = omega arith; most = omega arith; each = (grind (arith, nat_tests), (refl, (grind (arith, nat_tests), tt))) } in
    subst (λ (o : List ℕ). IsName o) (one_digit letter n lt) is

long_name : (letter n : ℕ) → letter < 8 → 10 ≤ n → n < 100 → IsName (front letter ++ decimal n)
long_name letter n h lo hi =
    let is : IsName ((97 + letter) ∷ 47 ∷ (48 + n / 10) ∷ (48 + n % 10) ∷ []) =
    record { some = omega arith; most = omega arith; each = (grind (arith, nat_tests), (refl, (grind (arith, nat_tests), (grind (arith, nat_tests), tt)))) } in
    subst (λ (o : List ℕ). IsName o) (two_digit letter n lo hi) is

name_by : (t : Bool) (letter n : ℕ) → nat_lt n 10 ≡ t → letter < 8 → n < 50 → IsName (front letter ++ decimal n)
name_by true letter n e h lt = short_name letter n h (grind (arith, nat_tests))
name_by false letter n e h lt = long_name letter n h (grind (arith, nat_tests)) (omega arith)

name_is : (g : Lcg) → IsName (workload.name g).0
unfolding workload.name
name_is g = name_by (nat_lt (below 50 (below 8 g).1).0 10) (below 8 g).0 (below 50 (below 8 g).1).0 refl (below_range 8 g (omega arith)) (below_range 50 (below 8 g).1 (omega arith))

small_joined : (xs ys : List ℕ) → AllByRecursion (λ b. b < 256) xs → AllByRecursion (λ b. b < 256) ys → AllByRecursion (λ b. b < 256) (xs ++ ys)
small_joined xs ys h k = all_joined (λ (b : ℕ). b < 256) xs ys h k

digits_small : (n : ℕ) → n < 2 ^ 64 → AllByRecursion (λ b. b < 256) (decimal n)
digits_small n h =
    decimal_by_steps (λ m ds. AllByRecursion (λ b. b < 256) ds) (λ m lt. (omega arith, tt)) (λ m ds le v. small_joined ds ((48 + m % 10) ∷ []) v (omega arith, tt)) n h

write_is_said : (g : Lcg) → IsSaid (workload.write g).0
unfolding workload.write
write_is_said g =
    let n = (workload.name (below 8 g).1).1 in
    let w = word_range n in
    write_said (below 8 g).0 (workload.name (below 8 g).1).0 (decimal (word n).0) (below_range 8 g (omega arith)) (name_is (below 8 g).1) (digits_small (word n).0 (omega (arith, w))) (text_is_short n)

read_is_said : (g : Lcg) → IsSaid (workload.read g).0
unfolding workload.read
read_is_said g = read_said (below 8 g).0 (workload.name (below 8 g).1).0 (below_range 8 g (omega arith)) (name_is (below 8 g).1)

flow_is_said : (g : Lcg) → IsSaid (workload.flow g).0
unfolding workload.flow
flow_is_said g =
    let m = below_range 4 (below 16 g).1 (omega arith) in
    flow_said (below 16 g).0 ((below 4 (below 16 g).1).0 + 1) (below_range 16 g (omega arith)) (omega arith) (omega (arith, m))

attach_is_said : (g : Lcg) → IsSaid (workload.attach g).0
unfolding workload.attach
attach_is_said g = attach_said (below 16 g).0 (below_range 16 g (omega arith))

one_of : (a b c : Bool) (g : Lcg) → IsSaid ((cond a workload.write (cond b workload.read (cond c workload.flow workload.attach))) g).0
one_of true b c g = write_is_said g
one_of false true c g = read_is_said g
one_of false false true g = flow_is_said g
one_of false false false g = attach_is_said g

step_said : (g : Lcg) → IsSaid (step g).0
unfolding step
step_said g = let kind = (below 10 g).0 in one_of (nat_lt kind 5) (nat_lt kind 7) (nat_lt kind 9) (below 10 g).1

steps_said : (n : ℕ) (g : Lcg) → AllByRecursion IsSaid (steps n g).0
unfolding steps
steps_said zero g = tt
steps_said (suc n) g = (step_said g, steps_said n (step g).1)

-- ---- line by line

abbrev sofar : ℕ → ℕ → Bool → List (ℕ × Command) → Sofar
sofar lines turns after_read front = record { lines = lines; known = known_at turns after_read; commands = front; fault = None }

-- the lines were told without a fault, and these are the commands
record IsDone (f : Sofar) (cs : List (ℕ × Command)) : Type 0 where
  fault : f.fault ≡ None
  phase : f.known.in_phase ≡ false
  script : script_of f ≡ record { decls = record { list = declared }; commands = cs }

walk : (cs : List Command) (lines turns : ℕ) (after_read : Bool) (front : List (ℕ × Command)) → AllByRecursion IsSaid cs → AllByRecursion IsPlain cs → turns + 4 * length cs ≤ 1000000
    → IsDone (after (sofar lines turns after_read front) (command_lines declared (numbered (lines + 1) cs))) (front ++ numbered (lines + 1) cs)
unfolding numbered
walk [] lines turns after_read front said plain few =
    record { fault = refl; phase = refl; script = let made : List (ℕ × Command) → Script = λ xs. record { decls = record { list = declared }; commands = xs } in ap made (sym (append-nil front)) }
walk (c ∷ cs) lines turns after_read front said plain few =
    let s = said.0 in
    let t = plain.0.turns turns in
    let now = front ++ (lines + 1, c) ∷ [] in
    let told : Known → Sofar = λ k. record { lines = lines + 1; known = k; commands = now; fault = None } in
    let one : next (sofar lines turns after_read front) (command_text declared c) ≡ sofar (lines + 1) (turns_after c turns) (is_read c) now =
    next_is (sofar lines turns after_read front) (command_text declared c) (Ok (items.Command c)) refl s.shown (s.said turns after_read (omega (arith, t, few))) ∙ ap told (s.known turns after_read) in
    let ls = command_lines declared (numbered (lines + 1 + 1) cs) in
    let rest = walk cs (lines + 1) (turns_after c turns) (is_read c) now said.1 plain.1 (omega (arith, t, few)) in
    subst (λ (x : Sofar). IsDone (after x ls) (front ++ (lines + 1, c) ∷ numbered (lines + 1 + 1) cs)) (sym one)
    (subst (λ (xs : List (ℕ × Command)). IsDone (after (sofar (lines + 1) (turns_after c turns) (is_read c) now) ls) xs) (append_assoc front ((lines + 1, c) ∷ []) (numbered (lines + 1 + 1) cs)) rest)

-- ---- no line has an end within

both : (a b : Bool) → (a && b) ≡ true → (a ≡ true) × (b ≡ true)
both true b h = (refl, h)
both false b h = absurd cc

plain_is_none : (b : ℕ) → is_plain b ≡ true → b ≢ 10
plain_is_none b h e = absurd (grind (arith, nat_tests))

no_end : (bs : List ℕ) → Plain bs → HasNoEnd bs
no_end [] h = tt
no_end (b ∷ bs) h = let p = both (is_plain b) (list_all is_plain bs) h in (plain_is_none b p.0, no_end bs p.1)

no_ends : (ls : List (List ℕ)) → list_all (λ l. list_all is_plain l) ls ≡ true → AllByRecursion HasNoEnd ls
no_ends [] h = tt
no_ends (l ∷ ls) h = let p = both (list_all is_plain l) (list_all (λ x. list_all is_plain x) ls) h in (no_end l p.0, no_ends ls p.1)

commands_no_end : (line : ℕ) (cs : List Command) → AllByRecursion IsSaid cs → AllByRecursion IsPlain cs → AllByRecursion HasNoEnd (command_lines declared (numbered line cs))
unfolding numbered
commands_no_end line [] said plain = tt
commands_no_end line (c ∷ cs) said plain =
    let t = plain.0.turns 0 in
    (no_end (command_text declared c) (item_plain (known_at 0 false) (command_text declared c) (items.Command c) (said.0.said 0 false (omega (arith, t)))), commands_no_end (line + 1) cs said.1 plain.1)

-- ---- the whole

after_joined : (f : Sofar) (ls ms : List (List ℕ)) → after f (ls ++ ms) ≡ after (after f ls) ms
after_joined f [] ms = refl
after_joined f (l ∷ ls) ms = after_joined (next f l) ls ms

answers : (g : Sofar) (s : Script) → g.fault ≡ None → g.known.in_phase ≡ false → script_of g ≡ s → Ok s ≡ answer_of g
answers g s ef et e = rw (ef, et) (ap (λ (x : Script). Ok x) (sym e))

length-drawn : (seed size : ℕ) → length (drawn seed size) ≡ size + 1
length-drawn seed size =
    let a = length-append (steps size (seeded seed)).0 (commands.Settle ∷ []) in
    let b = length-steps size (seeded seed) in
    omega (arith, a, b)

pub reads : (seed size : ℕ) → size ≤ 90000 → Means (script_text (workload.workload seed size)) (Ok (workload.workload seed size))
reads seed size h =
    let front = numbered 33 (each 16 commands.Attach) in
    let cs = drawn seed size in
    let made : Script = record { decls = record { list = declared }; commands = front ++ numbered 49 cs } in
    let said : AllByRecursion IsSaid cs = all_joined IsSaid (steps size (seeded seed)).0 (commands.Settle ∷ []) (steps_said size (seeded seed)) (settle_said, tt) in
    let plain : AllByRecursion IsPlain cs = all_joined IsPlain (steps size (seeded seed)).0 (commands.Settle ∷ []) (steps_plain size (seeded seed)) (settle_plain, tt) in
    let count = length-drawn seed size in
    let done = walk cs 48 0 false front said plain (omega (arith, count, h)) in
    let ls = command_lines declared (numbered 49 cs) in
    let lines : script_lines made ≡ opening ++ ls =
    ap (λ (x : List (List ℕ)). decl_lines [] declared ++ x) (map-append (λ (p : ℕ × Command). command_text declared p.1) front (numbered 49 cs))
    ∙ sym (append_assoc (decl_lines [] declared) (command_lines declared front) ls) in
    let reached : after start (script_lines made) ≡ after (sofar 48 0 false front) ls =
    ap (after start) lines ∙ (after_joined start opening ls ∙ ap (λ (x : Sofar). after x ls) opened) in
    let ends : AllByRecursion HasNoEnd (script_lines made) =
    subst (λ (x : List (List ℕ)). AllByRecursion HasNoEnd x) (sym lines) (all_joined HasNoEnd opening ls (no_ends opening opening_plain) (commands_no_end 49 cs said plain)) in
    let cut : IsCut (script_text made) (script_lines made) [] = record { whole = sym (append-nil (script_text made)); each = ends; last = tt } in
    let answer : Ok made ≡ answer_of (after start (script_lines made)) = answers (after (sofar 48 0 false front) ls) made done.fault done.phase done.script ∙ ap answer_of (sym reached) in
    let there : Means (script_text made) (Ok made) = (script_lines made, [], cut, answer) in
    subst (λ (s : Script). Means (script_text s) (Ok s)) (script_is seed size declared (front ++ numbered 49 cs) refl refl) there
