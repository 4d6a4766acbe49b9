-- Numbered lines, one more.
use Rattle.std.proofs.Common.{◌≡◌, ℕ, zero, suc, ◌+◌, ◌-◌, ◌<◌, List, [], ◌∷◌, ◌++◌, length, refl, sym, ap, ◌∙◌, append_assoc, arith, length-append}
use Rattle.std.proofs.lemmas.List.{append-nil}
use Rattle.rand_pcg.specs.Lcg.{Lcg}
use Rattle.pr_script.specs.declared.command.Command.{Command}
use Rattle.pr_script.specs.declared.command.Command.TheVariants.{Attach, Settle}
use Rattle.pr_script.specs.declared.decl.Decl.{Decl}
use Rattle.pr_script.specs.declared.script.Script.{Script}
use Rattle.pr_gen.specs.Topology.{each, declared}
use Rattle.pr_gen.specs.Workload.{numbered, step, steps, drawn, commands, workload}
use Rattle.pr_gen.proofs.Each.{each_none, each_more}

pub numbered_nil : (line : ℕ) → numbered line [] ≡ []
unfolding numbered
numbered_nil line = refl

pub numbered_cons : (line : ℕ) (c : Command) (cs : List Command) → numbered line (c ∷ cs) ≡ (line, c) ∷ numbered (line + 1) cs
unfolding numbered
numbered_cons line c cs = refl

pub numbered-append : (line : ℕ) (a b : List Command) → numbered line (a ++ b) ≡ numbered line a ++ numbered (line + length a) b
numbered-append line [] b = rw (numbered_nil line) (ap (λ (n : ℕ). numbered n b) (omega arith))
numbered-append line (c ∷ a) b =
    rw (numbered_cons line c (a ++ b), numbered_cons line c a)
    (ap (λ (xs : List (ℕ × Command)). (line, c) ∷ xs)
    (numbered-append (line + 1) a b ∙ ap (λ (n : ℕ). numbered (line + 1) a ++ numbered n b) (omega arith)))

pub length-each : {A : Type 0} (n : ℕ) (f : ℕ → A) → length (each n f) ≡ n
unfolding each
length-each zero f = refl
length-each (suc n) f = let l = length-append (each n f) (f n ∷ []) in let k = length-each n f in omega (arith, l, k)

-- ---- the loops that add them

pub no_line : (f : ℕ → Command) (line : ℕ) (old : List (ℕ × Command)) → old ≡ old ++ numbered line (each 0 f)
no_line f line old = sym (ap (λ (cs : List Command). old ++ numbered line cs) (each_none f) ∙ (ap (λ (xs : List (ℕ × Command)). old ++ xs) (numbered_nil line) ∙ append-nil old))

pub one_line : (f : ℕ → Command) (line n : ℕ) (old list : List (ℕ × Command)) (c : Command) → list ≡ old ++ numbered line (each n f) → c ≡ f n
    → list ++ (line + n, c) ∷ [] ≡ old ++ numbered line (each (n + 1) f)
one_line f line n old list c is e =
    rw (is, e, each_more n f, numbered-append line (each n f) (f n ∷ []), length-each n f, numbered_cons (line + n) (f n) [], numbered_nil (line + n + 1))
    (append_assoc old (numbered line (each n f)) ((line + n, f n) ∷ []))

steps_more : (n : ℕ) (g : Lcg) → (steps (suc n) g).0 ≡ (step g).0 ∷ (steps n (step g).1).0
unfolding steps
steps_more n g = refl

none_left : (g : Lcg) → (steps 0 g).0 ≡ []
unfolding steps
none_left g = refl

left : (size i : ℕ) → i < size → size - i ≡ suc (size - (i + 1))
left size i h = omega arith

-- what is drawn, and then what is still to be drawn, is all
pub one_step : (line size i : ℕ) (g h : Lcg) (c : Command) (list all : List (ℕ × Command)) → i < size → (c, h) ≡ step g
    → list ++ numbered (line + i) ((steps (size - i) g).0 ++ Settle ∷ []) ≡ all
    → (list ++ (line + i, c) ∷ []) ++ numbered (line + (i + 1)) ((steps (size - (i + 1)) h).0 ++ Settle ∷ []) ≡ all
one_step line size i g h c list all lt e is =
    let k = size - (i + 1) in
    let rest : List Command = (steps k h).0 ++ Settle ∷ [] in
    let first : (steps (size - i) g).0 ≡ c ∷ (steps k h).0 =
    ap (λ (n : ℕ). (steps n g).0) (left size i lt) ∙ (steps_more k g ∙ ap (λ (p : Command × Lcg). p.0 ∷ (steps k p.1).0) (sym e)) in
    let lines : numbered (line + i) ((steps (size - i) g).0 ++ Settle ∷ []) ≡ (line + i, c) ∷ numbered (line + (i + 1)) rest =
    ap (λ (cs : List Command). numbered (line + i) (cs ++ Settle ∷ [])) first ∙ (numbered_cons (line + i) c rest ∙ ap (λ (n : ℕ). (line + i, c) ∷ numbered n rest) (omega arith)) in
    append_assoc list ((line + i, c) ∷ []) (numbered (line + (i + 1)) rest) ∙ (ap (λ (xs : List (ℕ × Command)). list ++ xs) (sym lines) ∙ is)

-- where none is left, the settle is
pub last_line : (line size i : ℕ) (g : Lcg) (list all : List (ℕ × Command)) → i ≡ size → list ++ numbered (line + i) ((steps (size - i) g).0 ++ Settle ∷ []) ≡ all
    → list ++ (line + size, Settle) ∷ [] ≡ all
last_line line size i g list all at_end is =
    let empty : (steps (size - i) g).0 ≡ [] = ap (λ (n : ℕ). (steps n g).0) (omega arith) ∙ none_left g in
    let lines : numbered (line + i) ((steps (size - i) g).0 ++ Settle ∷ []) ≡ (line + size, Settle) ∷ [] =
    ap (λ (cs : List Command). numbered (line + i) (cs ++ Settle ∷ [])) empty
    ∙ (numbered_cons (line + i) Settle [] ∙ (ap (λ (xs : List (ℕ × Command)). (line + i, Settle) ∷ xs) (numbered_nil (line + i + 1)) ∙ ap (λ (n : ℕ). (line + n, Settle) ∷ []) at_end)) in
    ap (λ (xs : List (ℕ × Command)). list ++ xs) (sym lines) ∙ is

-- ---- the whole script

pub length-declared : length declared ≡ 32
unfolding declared each
length-declared = refl

pub script_is : (seed size : ℕ) (ds : List Decl) (cs : List (ℕ × Command)) → ds ≡ declared → cs ≡ numbered 33 (each 16 Attach) ++ numbered 49 (drawn seed size)
    → record { decls = record { list = ds }; commands = cs } ≡ workload seed size
script_is seed size ds cs is lines =
    let all : cs ≡ numbered (length declared + 1) (commands seed size) =
    lines ∙ (ap (λ (n : ℕ). numbered 33 (each 16 Attach) ++ numbered (33 + n) (drawn seed size)) (sym (length-each 16 Attach))
    ∙ (sym (numbered-append 33 (each 16 Attach) (drawn seed size)) ∙ ap (λ (n : ℕ). numbered (n + 1) (commands seed size)) (sym length-declared))) in
    let whole : List Decl → List (ℕ × Command) → Script = λ x y. record { decls = record { list = x }; commands = y } in
    ap (λ (x : List Decl). whole x cs) is ∙ ap (λ (y : List (ℕ × Command)). whole declared y) all
