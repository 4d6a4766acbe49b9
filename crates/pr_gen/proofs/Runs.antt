-- The commands of a workload are good for a run.
use Rattle.std.proofs.Common.{◌≡◌, ℕ, zero, suc, ◌+◌, ◌*◌, ◌<◌, ◌≤◌, Bool, true, false, cond, List, [], ◌∷◌, ◌++◌, length, refl, sym, ◌∙◌, ap, subst, arith, length-append}
use Rattle.std.specs.Prelude.{nat_lt, None, Option, Some}
use Rattle.std.specs.List.{AllByRecursion, fold}
use Rattle.rand_pcg.specs.Lcg.{Lcg}
use Rattle.pr_script.specs.declared.command.Command.{Command}
use Rattle.pr_script.specs.declared.command.Command.TheVariants as commands
use Rattle.pr_script.specs.declared.kind.Kind.TheVariants as kinds
use Rattle.pr_script.specs.Good.{AreGoodSteps, IsGood, IsGoodCommand}
use Rattle.pr_script.specs.Known.{attached_after, has_number, is_read, turns_after, with_number}
use Rattle.pr_script.specs.Labels.{count_of}
use Rattle.pr_script.specs.Steps.{AreWhole, Numbered, Step, Alone, is_phase, steps_from, steps_of}
use Rattle.pr_story.specs.History.{NodeEntry}
use Rattle.pr_text.specs.Histories.{first_of, is_unmet, unmet_from}
use Rattle.pr_gen.specs.Draws.{below, seeded}
use Rattle.pr_gen.specs.Topology.{declared, each}
use Rattle.pr_gen.specs.Workload as workload
use Rattle.pr_gen.specs.Workload.{numbered, step, steps, drawn}
use Rattle.pr_gen.proofs.Numbering.{length-each}
use Rattle.pr_gen.proofs.Rings.{all_joined, all_each, clients, decls, streams}
use Rattle.pr_gen.proofs.Words.{below_range, text_is_short}

-- ---- commands that stand alone and make few turns

pub record IsPlain (c : Command) : Type 0 where
  pub alone : is_phase c ≡ false
  pub silent : (es : List NodeEntry) → is_unmet c es ≡ false
  pub turns : (was : ℕ) → turns_after c was ≤ was + 4

numbered_plain : (line : ℕ) (cs : List Command) → AllByRecursion IsPlain cs → AllByRecursion (λ (c : Numbered). IsPlain c.1) (numbered line cs)
unfolding numbered
numbered_plain line [] h = tt
numbered_plain line (c ∷ cs) h = (h.0, numbered_plain (line + 1) cs h.1)

length-numbered : (line : ℕ) (cs : List Command) → length (numbered line cs) ≡ length cs
unfolding numbered
length-numbered line [] = refl
length-numbered line (c ∷ cs) = let l = length-numbered (line + 1) cs in omega (arith, l)

next_alone : (c : Numbered) (cs : List Numbered) → is_phase c.1 ≡ false → steps_of (c ∷ cs) ≡ Alone c ∷ steps_of cs
unfolding steps_from
next_alone c cs h = rw h refl

whole : (cs : List Numbered) → AllByRecursion (λ (c : Numbered). IsPlain c.1) cs → AreWhole cs
unfolding steps_from
whole [] h = refl
whole (c ∷ cs) h = rw (next_alone c cs h.0.alone) (ap (λ (xs : List Command). c.1 ∷ xs) (whole cs h.1))

few_turns : (cs : List Numbered) (was : ℕ) → AllByRecursion (λ (c : Numbered). IsPlain c.1) cs → fold (λ turns (c : Numbered). turns_after c.1 turns) was cs ≤ was + 4 * length cs
few_turns [] was h = omega arith
few_turns (c ∷ cs) was h = let t = h.0.turns was in let r = few_turns cs (turns_after c.1 was) h.1 in omega (arith, t, r)

-- ---- the steps

-- all streams are attached
unfoldable pub sixteen : List ℕ
sixteen = 0 ∷ 1 ∷ 2 ∷ 3 ∷ 4 ∷ 5 ∷ 6 ∷ 7 ∷ 8 ∷ 9 ∷ 10 ∷ 11 ∷ 12 ∷ 13 ∷ 14 ∷ 15 ∷ []

pub is_attached : (n : ℕ) → n < 16 → has_number sixteen n ≡ true
unfolding sixteen
is_attached zero h = refl
is_attached (suc zero) h = refl
is_attached (suc (suc zero)) h = refl
is_attached (suc (suc (suc zero))) h = refl
is_attached (suc (suc (suc (suc zero)))) h = refl
is_attached (suc (suc (suc (suc (suc zero))))) h = refl
is_attached (suc (suc (suc (suc (suc (suc zero)))))) h = refl
is_attached (suc (suc (suc (suc (suc (suc (suc zero))))))) h = refl
is_attached (suc (suc (suc (suc (suc (suc (suc (suc zero)))))))) h = refl
is_attached (suc (suc (suc (suc (suc (suc (suc (suc (suc zero))))))))) h = refl
is_attached (suc (suc (suc (suc (suc (suc (suc (suc (suc (suc zero)))))))))) h = refl
is_attached (suc (suc (suc (suc (suc (suc (suc (suc (suc (suc (suc zero))))))))))) h = refl
is_attached (suc (suc (suc (suc (suc (suc (suc (suc (suc (suc (suc (suc zero)))))))))))) h = refl
is_attached (suc (suc (suc (suc (suc (suc (suc (suc (suc (suc (suc (suc (suc zero))))))))))))) h = refl
is_attached (suc (suc (suc (suc (suc (suc (suc (suc (suc (suc (suc (suc (suc (suc zero)))))))))))))) h = refl
is_attached (suc (suc (suc (suc (suc (suc (suc (suc (suc (suc (suc (suc (suc (suc (suc zero))))))))))))))) h = refl
is_attached (suc (suc (suc (suc (suc (suc (suc (suc (suc (suc (suc (suc (suc (suc (suc (suc n)))))))))))))))) h = absurd (omega arith)

pub attached_stays : (n : ℕ) → n < 16 → with_number sixteen n ≡ sixteen
attached_stays n h = rw (is_attached n h) refl

-- a command that is good where all streams are attached, and leaves them so
record IsStep (c : Command) : Type 0 where
  plain : IsPlain c
  good : (after_read : Bool) → IsGoodCommand declared sixteen after_read c
  stays : attached_after c sixteen ≡ sixteen

write_is : (g : Lcg) → IsStep (workload.write g).0
unfolding workload.write
write_is g =
    let n = below_range 8 g (omega arith) in
    let k = clients in
    record { plain = record { alone = refl; silent = λ es. refl; turns = λ was. omega arith }; good = λ after_read. (omega (arith, n, k), text_is_short _); stays = refl }

read_is : (g : Lcg) → IsStep (workload.read g).0
unfolding workload.read
read_is g =
    let n = below_range 8 g (omega arith) in
    let k = clients in
    record { plain = record { alone = refl; silent = λ es. refl; turns = λ was. omega arith }; good = λ after_read. omega (arith, n, k); stays = refl }

flow_is : (g : Lcg) → IsStep (workload.flow g).0
unfolding workload.flow
flow_is g =
    let n = below_range 16 g (omega arith) in
    let m = below_range 4 (below 16 g).1 (omega arith) in
    let k = streams in
    record {
      plain = record { alone = refl; silent = λ es. refl; turns = λ was. omega (arith, m) };
      good = λ after_read. ((omega (arith, n, k), is_attached (below 16 g).0 n), omega arith, omega (arith, m));
      stays = refl;
    }

attach_is : (g : Lcg) → IsStep (workload.attach g).0
unfolding workload.attach
attach_is g =
    let n = below_range 16 g (omega arith) in
    let k = streams in
    record { plain = record { alone = refl; silent = λ es. refl; turns = λ was. omega arith }; good = λ after_read. omega (arith, n, k); stays = attached_stays (below 16 g).0 n }

one_of : (a b c : Bool) (g : Lcg) → IsStep ((cond a workload.write (cond b workload.read (cond c workload.flow workload.attach))) g).0
one_of true b c g = write_is g
one_of false true c g = read_is g
one_of false false true g = flow_is g
one_of false false false g = attach_is g

step_is : (g : Lcg) → IsStep (step g).0
unfolding step
step_is g = let kind = (below 10 g).0 in one_of (nat_lt kind 5) (nat_lt kind 7) (nat_lt kind 9) (below 10 g).1

-- ---- one after the other

pub steps_plain : (n : ℕ) (g : Lcg) → AllByRecursion IsPlain (steps n g).0
unfolding steps
steps_plain zero g = tt
steps_plain (suc n) g = ((step_is g).plain, steps_plain n (step g).1)

pub length-steps : (n : ℕ) (g : Lcg) → length (steps n g).0 ≡ n
unfolding steps
length-steps zero g = refl
length-steps (suc n) g = let l = length-steps n (step g).1 in omega (arith, l)

none_of : steps_of [] ≡ []
unfolding steps_from
none_of = refl

one_more : (attached : List ℕ) (after_read : Bool) (c : Numbered) (cs : List Numbered) → is_phase c.1 ≡ false → IsGoodCommand declared attached after_read c.1 → attached_after c.1 attached ≡ attached
    → AreGoodSteps declared attached (is_read c.1) (steps_of cs) → AreGoodSteps declared attached after_read (steps_of (c ∷ cs))
one_more attached after_read c cs alone good stays rest =
    subst (λ (x : List Step). AreGoodSteps declared attached after_read x) (sym (next_alone c cs alone))
    (good, subst (λ (x : List ℕ). AreGoodSteps declared x (is_read c.1) (steps_of cs)) (sym stays) rest)

drawn_good : (n : ℕ) (g : Lcg) (line : ℕ) (after_read : Bool) → AreGoodSteps declared sixteen after_read (steps_of (numbered line ((steps n g).0 ++ commands.Settle ∷ [])))
unfolding steps numbered
drawn_good zero g line after_read = one_more sixteen after_read (line, commands.Settle) [] refl tt refl (subst (λ (x : List Step). AreGoodSteps declared sixteen false x) (sym none_of) tt)
drawn_good (suc n) g line after_read =
    let s = step_is g in
    one_more sixteen after_read (line, (step g).0) (numbered (line + 1) ((steps n (step g).1).0 ++ commands.Settle ∷ [])) s.plain.alone (s.good after_read) s.stays
    (drawn_good n (step g).1 (line + 1) (is_read (step g).0))

stream : (n : ℕ) → n < 16 → n < count_of kinds.Stream declared
stream n h = let k = streams in omega (arith, h, k)

attached_good : (line : ℕ) (cs : List Command) → ((l : ℕ) → AreGoodSteps declared sixteen false (steps_of (numbered l cs)))
    → AreGoodSteps declared [] false (steps_of (numbered line (each 16 commands.Attach ++ cs)))
unfolding each numbered steps_from sixteen
attached_good line cs rest =
    (stream 0 (omega arith), (stream 1 (omega arith), (stream 2 (omega arith), (stream 3 (omega arith), (stream 4 (omega arith), (stream 5 (omega arith), (stream 6 (omega arith), (stream 7 (omega arith), (stream 8 (omega arith), (stream 9 (omega arith), (stream 10 (omega arith), (stream 11 (omega arith), (stream 12 (omega arith), (stream 13 (omega arith), (stream 14 (omega arith), (stream 15 (omega arith), rest _))))))))))))))))

pub attach_plain : (n : ℕ) → IsPlain (commands.Attach n)
attach_plain n = record { alone = refl; silent = λ es. refl; turns = λ was. omega arith }

pub settle_plain : IsPlain commands.Settle
settle_plain = record { alone = refl; silent = λ es. refl; turns = λ was. omega arith }

all_plain : (seed size : ℕ) → AllByRecursion IsPlain (workload.commands seed size)
all_plain seed size =
    all_joined IsPlain (each 16 commands.Attach) (drawn seed size) (all_each IsPlain 16 commands.Attach (λ i h. attach_plain i))
    (all_joined IsPlain (steps size (seeded seed)).0 (commands.Settle ∷ []) (steps_plain size (seeded seed)) (settle_plain, tt))

length-commands : (seed size : ℕ) → length (workload.commands seed size) ≡ 17 + size
length-commands seed size =
    let a = length-append (each 16 commands.Attach) (drawn seed size) in
    let b = length-each 16 commands.Attach in
    let c = length-append (steps size (seeded seed)).0 (commands.Settle ∷ []) in
    let d = length-steps size (seeded seed) in
    omega (arith, a, b, c, d)

pub good : (seed size : ℕ) → size ≤ 90000 → IsGood (workload.workload seed size)
good seed size h =
    let line = length declared + 1 in
    let cs = numbered line (workload.commands seed size) in
    let plain = numbered_plain line (workload.commands seed size) (all_plain seed size) in
    let len = length-numbered line (workload.commands seed size) in
    let count = length-commands seed size in
    let turns = few_turns cs 0 plain in
    record {
      decls = decls;
      whole = whole cs plain;
      steps = attached_good line (drawn seed size) (λ l. drawn_good size (seeded seed) l false);
      turns = omega (arith, turns, len, count, h);
    }

-- ---- no expectation

none_unmet : (cs : List Numbered) → AllByRecursion (λ (c : Numbered). IsPlain c.1) cs → (es : List NodeEntry) (parts : List (List NodeEntry)) → unmet_from es (steps_of cs) parts ≡ None
none_unmet [] h es parts = subst (λ (steps : List Step). unmet_from es steps parts ≡ None) (sym none_of) refl
none_unmet (c ∷ cs) h es [] = subst (λ (steps : List Step). unmet_from es steps [] ≡ None) (sym (next_alone c cs h.0.alone)) refl
none_unmet (c ∷ cs) h es (part ∷ parts) =
    subst (λ (steps : List Step). unmet_from es steps (part ∷ parts) ≡ None) (sym (next_alone c cs h.0.alone))
    (ap (λ (b : Bool). first_of (cond b (Some c.0) None) (unmet_from part (steps_of cs) parts)) (h.0.silent es) ∙ none_unmet cs h.1 part parts)

pub nothing_unmet : (seed size : ℕ) (es : List NodeEntry) (parts : List (List NodeEntry)) → unmet_from es (steps_of (workload.workload seed size).commands) parts ≡ None
nothing_unmet seed size es parts = none_unmet (numbered (length declared + 1) (workload.commands seed size)) (numbered_plain (length declared + 1) (workload.commands seed size) (all_plain seed size)) es parts
