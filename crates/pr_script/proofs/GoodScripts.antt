-- An accepted script is good: line by line, with what is known of the lines before.
use Rattle.std.proofs.Common.{◌≡◌, ℕ, ◌+◌, ◌<◌, ◌≤◌, Bool, true, false, ◌||◌, cond, List, [], ◌∷◌, ◌++◌, length, Option, Some, None, Result, Ok, Err, refl, sym, ap, subst, ◌∙◌, append_assoc, arith, length-append, IfOk}
use Rattle.std.specs.Prelude.{◌≢◌, nat_eq, is_some, AllPairs, ◌==◌}
use Rattle.std.specs.List.{AllByRecursion, list_any, fold, flat_map}
use Rattle.std.proofs.lemmas.List.{append-nil, map-append}
use Rattle.std.proofs.lemmas.List.Sums.{fold-append}
use Rattle.std.proofs.lemmas.List.Concat.{flat_map-append}
use Rattle.std.proofs.lemmas.List.Folds.{list_any-append}
use Rattle.std.proofs.lemmas.List.Elements.{All-from_recursion}
use Rattle.std.proofs.lemmas.List.Quantifiers.{all_pairs_push}
use Rattle.std.proofs.lemmas.Bool.Decides.{nat_tests}
use Rattle.pr_script.specs.declared.decl.Decl.{Decl}
use Rattle.pr_script.specs.declared.decl.Decl.TheVariants as decls
use Rattle.pr_script.specs.declared.command.Command.{Command}
use Rattle.pr_script.specs.declared.command.Command.TheVariants as commands
use Rattle.pr_script.specs.declared.fault.ScriptFault.{ScriptFault}
use Rattle.pr_script.specs.declared.item.Item.{Item}
use Rattle.pr_script.specs.declared.item.Item.TheVariants as items
use Rattle.pr_script.specs.declared.kind.Kind.{Kind}
use Rattle.pr_script.specs.declared.kind.Kind.TheVariants as kinds
use Rattle.pr_script.specs.declared.known.Known.{Known}
use Rattle.pr_script.specs.declared.owner.Owner.{Owner}
use Rattle.pr_script.specs.declared.owner.Owner.TheVariants as owner
use Rattle.pr_script.specs.declared.script.Script.{Script}
use Rattle.pr_script.specs.Answers.{Answers}
use Rattle.pr_script.specs.Good.{IsGoodDecl, IsGoodCommand, IsGoodJobLine, IsGoodPhase, AreGoodSteps, IsGood}
use Rattle.pr_script.specs.Known.{has_number, with_number, turns_after, is_read, attached_after, phase_after, known_after}
use Rattle.pr_script.specs.Labels.{AreLabels, count_of, is_kind, labels_of}
use Rattle.pr_script.specs.Laws.{AreGoodScripts}
use Rattle.pr_script.specs.Lines.{line_item}
use Rattle.pr_script.specs.Reading.{Sofar, after, all_lines, is_skipped, next, numbered, passed, start, told}
use Rattle.pr_script.specs.Steps.{Numbered, Step, Alone, Phase, is_phase, is_end, steps_from, steps_of, unnumbered, step_commands, is_same_owner, owner_of, has_owner, with_owner, owners_of, flow_of, flows_in, turns_in}
use Rattle.pr_script.proofs.Accepted.{added, have_labels, labels_more}
use Rattle.pr_script.proofs.GoodLines.{IsInJob, IsTaken, IsGoodItem, item_good}
use Rattle.pr_script.proofs.LinesAgain.{IsFirst, item_again}
use Rattle.pr_script.proofs.WholeScript.{answered, next_is, no_fault}

-- ---- lists with one item more

flows_more : (cs : List Numbered) (c : Numbered) → flows_in (cs ++ c ∷ []) ≡ flows_in cs ++ flow_of c.1
flows_more cs c = flat_map-append (λ (x : Numbered). flow_of x.1) cs (c ∷ []) ∙ ap (λ (x : List ℕ). flows_in cs ++ x) (append-nil (flow_of c.1))

owners_more : (cs : List Numbered) (c : Numbered) → owners_of (cs ++ c ∷ []) ≡ with_owner (owners_of cs) (owner_of c.1)
owners_more cs c = fold-append (λ owners (x : Numbered). with_owner owners (owner_of x.1)) [] cs (c ∷ [])

turns_more : (cs : List Numbered) (c : Numbered) → turns_in (cs ++ c ∷ []) ≡ turns_after c.1 (turns_in cs)
turns_more cs c = fold-append (λ turns (x : Numbered). turns_after x.1 turns) 0 cs (c ∷ [])

all_more : {A : Type 0} (P : A → Type 0) (xs : List A) (x : A) → AllByRecursion P xs → P x → AllByRecursion P (xs ++ x ∷ [])
all_more P [] x h p = (p, tt)
all_more P (y ∷ xs) x h p = (h.0, all_more P xs x h.1 p)

or_false : (b : Bool) → (b || false) ≡ b
or_false true = refl
or_false false = refl

pub any_more : {A : Type 0} (p : A → Bool) (xs : List A) (x : A) → list_any p (xs ++ x ∷ []) ≡ (list_any p xs || p x)
any_more p xs x = list_any-append p xs (x ∷ []) ∙ ap (λ (b : Bool). list_any p xs || b) (or_false (p x))

later_turns : (c : Command) (a b : ℕ) → a ≤ b → turns_after c a ≤ turns_after c b
later_turns (commands.Flow stream turns) a b h = omega (arith, h)
later_turns c a b h = h

-- ---- a phase that is open

-- these are the lines of a phase so far, where these streams are attached, and what is known of its clients, flows and
-- turns
record IsOpen (ds : List Decl) (attached clients flows : List ℕ) (turns : ℕ) (inside : List Numbered) : Type 0 where
  lines : AllByRecursion (λ (c : Numbered). IsGoodJobLine ds attached c.1) inside
  flow_lines : flows_in inside ≡ flows
  apart : AllPairs (λ (s : ℕ) (t : ℕ). s ≢ t) flows
  few : length clients + length flows ≤ 64
  jobs : length (owners_of inside) ≡ length clients + length flows
  has_clients : (c : ℕ) → has_owner (owners_of inside) (owner.Client c) ≡ has_number clients c
  has_streams : (s : ℕ) → has_owner (owners_of inside) (owner.Stream s) ≡ has_number flows s
  sum : turns_in inside ≤ turns

none_open : (ds : List Decl) (attached : List ℕ) (turns : ℕ) → IsOpen ds attached [] [] turns []
none_open ds attached turns = record {
  lines = tt;
  flow_lines = refl;
  apart = λ i j d lt within. absurd (omega arith);
  few = omega arith;
  jobs = refl;
  has_clients = λ c. refl;
  has_streams = λ s. refl;
  sum = omega arith;
}

-- a job that is there, or one more
job_count : (b : Bool) (os : List Owner) (o : Owner) (ns : List ℕ) (n m : ℕ) → length os ≡ length ns + m
    → length (cond b os (os ++ o ∷ [])) ≡ length (cond b ns (ns ++ n ∷ [])) + m
job_count true os o ns n m h = h
job_count false os o ns n m h = let l = length-append os (o ∷ []) in let k = length-append ns (n ∷ []) in omega (arith, l, k, h)

same_job : (b : Bool) (os : List Owner) (o p : Owner) (ns : List ℕ) (n m : ℕ) → has_owner os p ≡ has_number ns m → is_same_owner o p ≡ nat_eq n m
    → has_owner (cond b os (os ++ o ∷ [])) p ≡ has_number (cond b ns (ns ++ n ∷ [])) m
same_job true os o p ns n m h e = h
same_job false os o p ns n m h e = any_more (λ q. is_same_owner q p) os o ∙ (ap (λ (x : Bool). x || is_same_owner o p) h ∙ (ap (λ (x : Bool). has_number ns m || x) e ∙ sym (any_more (λ q. q == m) ns n)))

other_job : (b : Bool) (os : List Owner) (o p : Owner) (t : Bool) → has_owner os p ≡ t → is_same_owner o p ≡ false → has_owner (cond b os (os ++ o ∷ [])) p ≡ t
other_job true os o p t h e = h
other_job false os o p t h e = any_more (λ q. is_same_owner q p) os o ∙ (ap (λ (x : Bool). x || is_same_owner o p) h ∙ (ap (λ (x : Bool). t || x) e ∙ or_false t))

-- a line of a client
client_more : (ds : List Decl) (attached clients flows : List ℕ) (turns : ℕ) (inside : List Numbered) (c : Numbered) (client : ℕ)
    → IsOpen ds attached clients flows turns inside → IsGoodJobLine ds attached c.1 → owner_of c.1 ≡ Some (owner.Client client) → flow_of c.1 ≡ [] → turns_after c.1 turns ≡ turns
    → length (with_number clients client) + length flows ≤ 64 → IsOpen ds attached (with_number clients client) flows turns (inside ++ c ∷ [])
client_more ds attached clients flows turns inside c client o line mine none same few =
    let owners : owners_of (inside ++ c ∷ []) ≡ with_owner (owners_of inside) (Some (owner.Client client)) = owners_more inside c ∙ ap (with_owner (owners_of inside)) mine in
    let there : with_owner (owners_of inside) (Some (owner.Client client)) ≡ cond (has_number clients client) (owners_of inside) (owners_of inside ++ owner.Client client ∷ []) =
    ap (λ (b : Bool). cond b (owners_of inside) (owners_of inside ++ owner.Client client ∷ [])) (o.has_clients client) in
    let now = owners ∙ there in
    record {
      lines = all_more (λ (x : Numbered). IsGoodJobLine ds attached x.1) inside c o.lines line;
      flow_lines = flows_more inside c ∙ (ap (λ (x : List ℕ). flows_in inside ++ x) none ∙ (append-nil (flows_in inside) ∙ o.flow_lines));
      apart = o.apart;
      few = few;
      jobs = ap (λ (x : List Owner). length x) now ∙ job_count (has_number clients client) (owners_of inside) (owner.Client client) clients client (length flows) o.jobs;
      has_clients = λ m. ap (λ (x : List Owner). has_owner x (owner.Client m)) now ∙ same_job (has_number clients client) (owners_of inside) (owner.Client client) (owner.Client m) clients client m (o.has_clients m) refl;
      has_streams = λ s. ap (λ (x : List Owner). has_owner x (owner.Stream s)) now ∙ other_job (has_number clients client) (owners_of inside) (owner.Client client) (owner.Stream s) (has_number flows s) (o.has_streams s) refl;
      sum = let t = later_turns c.1 (turns_in inside) turns o.sum in let m = turns_more inside c in omega (arith, t, m, same);
    }

differ : (a b : ℕ) → (a == b) ≡ false → a ≢ b
differ a b h e = absurd (grind (arith, nat_tests))

all_other : (ns : List ℕ) (n : ℕ) → has_number ns n ≡ false → AllByRecursion (λ (m : ℕ). m ≢ n) ns
all_other [] n h = tt
all_other (m ∷ ns) n h = (differ m n (left (m == n) (has_number ns n) h), all_other ns n (right (m == n) (has_number ns n) h))
  where
    left : (a b : Bool) → (a || b) ≡ false → a ≡ false
    left true b h = absurd cc
    left false b h = refl

    right : (a b : Bool) → (a || b) ≡ false → b ≡ false
    right true b h = absurd cc
    right false b h = h

-- a flow of a stream that did not flow
flow_more : (ds : List Decl) (attached clients flows : List ℕ) (turns line stream count : ℕ) (inside : List Numbered)
    → IsOpen ds attached clients flows turns inside → IsGoodJobLine ds attached (commands.Flow stream count) → has_number flows stream ≡ false
    → length clients + length (with_number flows stream) ≤ 64
    → IsOpen ds attached clients (with_number flows stream) (turns + count) (inside ++ (line, commands.Flow stream count) ∷ [])
flow_more ds attached clients flows turns line stream count inside o good new few =
    let c : Numbered = (line, commands.Flow stream count) in
    let owners : owners_of (inside ++ c ∷ []) ≡ with_owner (owners_of inside) (Some (owner.Stream stream)) = owners_more inside c in
    let there : with_owner (owners_of inside) (Some (owner.Stream stream)) ≡ cond (has_number flows stream) (owners_of inside) (owners_of inside ++ owner.Stream stream ∷ []) =
    ap (λ (b : Bool). cond b (owners_of inside) (owners_of inside ++ owner.Stream stream ∷ [])) (o.has_streams stream) in
    let now = owners ∙ there in
    let with : with_number flows stream ≡ flows ++ stream ∷ [] = ap (λ (b : Bool). cond b flows (flows ++ stream ∷ [])) new in
    record {
      lines = all_more (λ (x : Numbered). IsGoodJobLine ds attached x.1) inside c o.lines good;
      flow_lines = flows_more inside c ∙ (ap (λ (x : List ℕ). x ++ stream ∷ []) o.flow_lines ∙ sym with);
      apart = subst (AllPairs (λ (s : ℕ) (t : ℕ). s ≢ t)) (sym with) (all_pairs_push (λ (s : ℕ) (t : ℕ). s ≢ t) flows stream o.apart (All-from_recursion (λ (m : ℕ). m ≢ stream) flows (all_other flows stream new)));
      few = few;
      jobs =
          ap (λ (x : List Owner). length x) now
          ∙ (let j = job_count (has_number flows stream) (owners_of inside) (owner.Stream stream) flows stream (length clients) (let i = o.jobs in omega (arith, i)) in omega (arith, j));
      has_clients = λ m. ap (λ (x : List Owner). has_owner x (owner.Client m)) now ∙ other_job (has_number flows stream) (owners_of inside) (owner.Stream stream) (owner.Client m) (has_number clients m) (o.has_clients m) refl;
      has_streams = λ s. ap (λ (x : List Owner). has_owner x (owner.Stream s)) now ∙ same_job (has_number flows stream) (owners_of inside) (owner.Stream stream) (owner.Stream s) flows stream s (o.has_streams s) refl;
      sum = let t = o.sum in let m = turns_more inside c in omega (arith, t, m);
    }

-- ---- what is known, and the phase that it leaves open

abbrev Stands : Known → Option (List Numbered) → Type 0
Stands k None = k.in_phase ≡ false
Stands k (Some inside) = (k.in_phase ≡ true) × (k.begun ≡ true) × IsOpen k.decls k.attached k.clients k.flows k.turns inside

open_more : (k : Known) (inside : List Numbered) (line : ℕ) (c : Command) → Stands k (Some inside) → IsInJob k c → Stands (known_after k (items.Command c)) (Some (inside ++ (line, c) ∷ []))
open_more k inside line (commands.Write client name body) o j = (o.0, refl, rw o.0 (client_more k.decls k.attached k.clients k.flows k.turns inside (line, commands.Write client name body) client o.2 j.line refl refl refl j.few))
open_more k inside line (commands.Delete client name) o j = (o.0, refl, rw o.0 (client_more k.decls k.attached k.clients k.flows k.turns inside (line, commands.Delete client name) client o.2 j.line refl refl refl j.few))
open_more k inside line (commands.Read client name) o j = (o.0, refl, rw o.0 (client_more k.decls k.attached k.clients k.flows k.turns inside (line, commands.Read client name) client o.2 j.line refl refl refl j.few))
open_more k inside line (commands.Flow stream turns) o j = (o.0, refl, rw o.0 (flow_more k.decls k.attached k.clients k.flows k.turns line stream turns inside o.2 j.line j.new.0 j.few))
open_more k inside line c o j = absurd (let l = j.line.0 in cc)

phase_is : (c : Command) → is_phase c ≡ true → c ≡ commands.Phase
phase_is commands.Phase h = refl
phase_is c h = absurd cc

end_is : (c : Command) → is_end c ≡ true → c ≡ commands.End
end_is commands.End h = refl
end_is c h = absurd cc

still_none : (c : Command) → is_phase c ≡ false → phase_after c false ≡ false
still_none commands.Phase h = absurd cc
still_none commands.End h = refl
still_none c h = refl

-- ---- the declarations

settled_one : (f : Sofar) (l : List ℕ) (skip : Bool) (r : Result Item ℕ) → f.known.begun ≡ true → (is_some f.fault || is_skipped l) ≡ skip → line_item f.known l ≡ r
    → ((next f l).known.decls ≡ f.known.decls) × ((next f l).known.begun ≡ true)
unfolding next
settled_one f l true r b e h = rw e (refl, b)
settled_one f l false (Ok (items.Decl d)) b e h = absurd (let t = (item_again f.known l (items.Decl d) h).1.first in let u = sym t ∙ b in cc)
settled_one f l false (Ok (items.Command c)) b e h = rw (e, h) (refl, refl)
settled_one f l false (Err why) b e h = rw (e, h) (refl, b)

-- they are all made before the first command
settled : (f : Sofar) (ls : List (List ℕ)) → f.known.begun ≡ true → (after f ls).known.decls ≡ f.known.decls
settled f [] b = refl
settled f (l ∷ ls) b =
    let one = settled_one f l (is_some f.fault || is_skipped l) (line_item f.known l) b refl refl in
    settled (next f l) ls one.1 ∙ one.0

more_of : (k : Kind) (ds : List Decl) (d : Decl) (n : ℕ) → n < count_of k ds → n < count_of k (ds ++ d ∷ [])
more_of k ds d n h =
    let l = ap (λ (x : List (List ℕ)). length x) (labels_more k ds d) in
    let m = length-append (labels_of k ds) (added (is_kind k d) d) in
    omega (arith, h, l, m)

decl_later : (ds : List Decl) (d e : Decl) → IsGoodDecl ds e → IsGoodDecl (ds ++ d ∷ []) e
decl_later ds d (decls.Node label sets) h = h
decl_later ds d (decls.Client label node) h = more_of kinds.Node ds d node h
decl_later ds d (decls.Stream label source dest sub bodies) h = (more_of kinds.Node ds d source h.0, more_of kinds.Node ds d dest h.1, h.2, h.3)

all_later : (ds : List Decl) (d : Decl) (es : List Decl) → AllByRecursion (IsGoodDecl ds) es → AllByRecursion (IsGoodDecl (ds ++ d ∷ [])) es
all_later ds d [] h = tt
all_later ds d (e ∷ es) h = (decl_later ds d e h.0, all_later ds d es h.1)

told_decls : (f : Sofar) (line : List ℕ) (item : Item) → AllByRecursion (IsGoodDecl f.known.decls) f.known.decls → line_item f.known line ≡ Ok item
    → AllByRecursion (IsGoodDecl (told f (Ok item)).known.decls) (told f (Ok item)).known.decls
told_decls f line (items.Decl d) h e =
    all_more (IsGoodDecl (f.known.decls ++ d ∷ [])) f.known.decls d (all_later f.known.decls d f.known.decls h) (decl_later f.known.decls d d (item_good f.known line (items.Decl d) e))
told_decls f line (items.Command c) h e = h

decls_one : (f : Sofar) (l : List ℕ) (skip : Bool) (r : Result Item ℕ) → is_skipped l ≡ skip → line_item f.known l ≡ r → f.fault ≡ None
    → AllByRecursion (IsGoodDecl f.known.decls) f.known.decls → AllByRecursion (IsGoodDecl (next f l).known.decls) (next f l).known.decls
unfolding next
decls_one f l true r e h n a = rw (n, e) a
decls_one f l false (Ok item) e h n a = subst (λ (x : Sofar). AllByRecursion (IsGoodDecl x.known.decls) x.known.decls) (sym (next_is f l (Ok item) n e h)) (told_decls f l item a h)
decls_one f l false (Err why) e h n a = rw (n, e, h) a

all_decls : (f : Sofar) (ls : List (List ℕ)) → f.fault ≡ None → (after f ls).fault ≡ None → AllByRecursion (IsGoodDecl f.known.decls) f.known.decls
    → AllByRecursion (IsGoodDecl (after f ls).known.decls) (after f ls).known.decls
all_decls f [] n m a = a
all_decls f (l ∷ ls) n m a =
    all_decls (next f l) ls (no_fault (next f l) (next f l).fault ls refl m) m (decls_one f l (is_skipped l) (line_item f.known l) refl refl n a)

-- ---- the commands that lines add

abbrev said : Sofar → Bool → Result Item ℕ → List Numbered
said f true r = []
said f false (Ok item) = numbered (f.lines + 1) item
said f false (Err why) = []

abbrev saying : Sofar → List ℕ → List Numbered
saying f l = said f (is_skipped l) (line_item f.known l)

unfoldable adding : Sofar → List (List ℕ) → List Numbered
adding f [] = []
adding f (l ∷ ls) = saying f l ++ adding (next f l) ls

said_one : (f : Sofar) (l : List ℕ) (skip : Bool) (r : Result Item ℕ) → is_skipped l ≡ skip → line_item f.known l ≡ r → f.fault ≡ None
    → (next f l).commands ≡ f.commands ++ said f skip r
unfolding next
said_one f l true r e h n = rw (n, e) (sym (append-nil f.commands))
said_one f l false (Ok item) e h n = rw (n, e, h) refl
said_one f l false (Err why) e h n = rw (n, e, h) (sym (append-nil f.commands))

all_said : (f : Sofar) (ls : List (List ℕ)) → f.fault ≡ None → (after f ls).fault ≡ None → (after f ls).commands ≡ f.commands ++ adding f ls
unfolding adding
all_said f [] n m = sym (append-nil f.commands)
all_said f (l ∷ ls) n m =
    all_said (next f l) ls (no_fault (next f l) (next f l).fault ls refl m) m
    ∙ (ap (λ (x : List Numbered). x ++ adding (next f l) ls) (said_one f l (is_skipped l) (line_item f.known l) refl refl n)
    ∙ append_assoc f.commands (saying f l) (adding (next f l) ls))

-- ---- line by line

-- a line of a phase opens no stream and closes none
same_attached : (c : Command) (was : List ℕ) → is_some (owner_of c) ≡ true → attached_after c was ≡ was
same_attached (commands.Attach stream) was h = absurd cc
same_attached (commands.Detach stream) was h = absurd cc
same_attached c was h = refl

weaker_command : (ds : List Decl) (attached : List ℕ) (was : Bool) (c : Command) → IsGoodCommand ds attached false c → IsGoodCommand ds attached was c
weaker_command ds attached was (commands.Expect want) h = absurd (let t = h.0 in cc)
weaker_command ds attached was c h = h

weaker : (ds : List Decl) (attached : List ℕ) (was : Bool) (steps : List Step) → AreGoodSteps ds attached false steps → AreGoodSteps ds attached was steps
weaker ds attached was [] h = tt
weaker ds attached was (Alone c ∷ steps) h = (weaker_command ds attached was c.1 h.0, h.1)
weaker ds attached was (Phase inside ∷ steps) h = h

pub steps_alone : (c : Numbered) (cs : List Numbered) → is_phase c.1 ≡ false → steps_from None (c ∷ cs) ≡ Alone c ∷ steps_from None cs
unfolding steps_from
steps_alone c cs e = rw e refl

steps_inside : (inside : List Numbered) (c : Numbered) (cs : List Numbered) → is_end c.1 ≡ false → steps_from (Some inside) (c ∷ cs) ≡ steps_from (Some (inside ++ c ∷ [])) cs
unfolding steps_from
steps_inside inside c cs e = rw e refl

-- a phase comes first, so it does not matter what stands before it
phase_first : (ds : List Decl) (attached : List ℕ) (was now : Bool) (inside : List Numbered) (t : Bool) (a b : List Step) → (AreGoodSteps ds attached was b → AreGoodSteps ds attached now b)
    → AreGoodSteps ds attached was (cond t (Phase inside ∷ a) b) → AreGoodSteps ds attached now (cond t (Phase inside ∷ a) b)
phase_first ds attached was now inside true a b f h = h
phase_first ds attached was now inside false a b f h = f h

of_phase : (ds : List Decl) (attached : List ℕ) (was now : Bool) (inside cs : List Numbered) → AreGoodSteps ds attached was (steps_from (Some inside) cs) → AreGoodSteps ds attached now (steps_from (Some inside) cs)
unfolding steps_from
of_phase ds attached was now inside [] h = h
of_phase ds attached was now inside (c ∷ cs) h =
    phase_first ds attached was now inside (is_end c.1) (steps_from None cs) (steps_from (Some (inside ++ c ∷ [])) cs) (of_phase ds attached was now (inside ++ c ∷ []) cs) h

moved : (inside : List Numbered) (c : Numbered) (cs : List Numbered) → unnumbered (inside ++ c ∷ []) ++ unnumbered cs ≡ unnumbered inside ++ unnumbered (c ∷ cs)
moved inside c cs = ap (λ (x : List Command). x ++ unnumbered cs) (map-append (λ (x : Numbered). x.1) inside (c ∷ [])) ∙ append_assoc (unnumbered inside) (c.1 ∷ []) (unnumbered cs)

skipped_is : (f : Sofar) (l : List ℕ) → f.fault ≡ None → is_skipped l ≡ true → next f l ≡ passed f
unfolding next
skipped_is f l n e = rw (n, e) refl

faulty_is : (f : Sofar) (l : List ℕ) (why : ℕ) → f.fault ≡ None → is_skipped l ≡ false → line_item f.known l ≡ Err why → (next f l).fault ≡ Some (f.lines + 1, why)
unfolding next
faulty_is f l why n e h = rw (n, e, h) refl

told_known : (f : Sofar) (item : Item) → (told f (Ok item)).known ≡ known_after f.known item
told_known f item = refl

abbrev before : Option (List Numbered) → List Command
before None = []
before (Some inside) = commands.Phase ∷ unnumbered inside

-- the steps of these commands, behind what stands open; from these turns on they come to the sum
record AreSteps (ds : List Decl) (attached : List ℕ) (after_read : Bool) (turns : ℕ) (under : Option (List Numbered)) (cs : List Numbered) (sum : ℕ) : Type 0 where
  steps : AreGoodSteps ds attached after_read (steps_from under cs)
  whole : flat_map step_commands (steps_from under cs) ≡ before under ++ unnumbered cs
  sum_is : sum ≡ fold (λ total (c : Numbered). turns_after c.1 total) turns cs
  few : sum ≤ 1000000

-- what follows what is known, with whatever phase it leaves open
abbrev Follows : List Decl → ℕ → Known → List Numbered → Type 0
Follows ds sum k cs = (under : Option (List Numbered)) → Stands k under → k.turns ≤ 1000000 → AreSteps ds k.attached k.after_read k.turns under cs sum

-- a command alone
alone_step : (ds : List Decl) (sum line : ℕ) (k : Known) (c : Command) (cs : List Numbered) → is_phase c ≡ false → IsTaken k c → k.in_phase ≡ false → k.turns ≤ 1000000 → ds ≡ k.decls
    → Follows ds sum (known_after k (items.Command c)) cs → AreSteps ds k.attached k.after_read k.turns None ((line, c) ∷ cs) sum
alone_step ds sum line k c cs not_phase t none few same rest =
    let out : phase_after c k.in_phase ≡ false = subst (λ (b : Bool). phase_after c b ≡ false) (sym none) (still_none c not_phase) in
    let r = rest None out (t.turns few) in
    let good : IsGoodCommand ds k.attached k.after_read c = subst (λ (x : List Decl). IsGoodCommand x k.attached k.after_read c) (sym same) (t.outside none not_phase) in
    let split = steps_alone (line, c) cs not_phase in
    record {
      steps = subst (λ (x : List Step). AreGoodSteps ds k.attached k.after_read x) (sym split) (good, r.steps);
      whole = ap (λ (x : List Step). flat_map step_commands x) split ∙ ap (λ (x : List Command). c ∷ x) r.whole;
      sum_is = r.sum_is;
      few = r.few;
    }

-- the beginning of a phase
phase_step : (ds : List Decl) (sum line : ℕ) (k : Known) (cs : List Numbered) → k.turns ≤ 1000000
    → Follows ds sum (known_after k (items.Command commands.Phase)) cs → AreSteps ds k.attached k.after_read k.turns None ((line, commands.Phase) ∷ cs) sum
unfolding steps_from
phase_step ds sum line k cs few rest =
    let r = rest (Some []) (refl, refl, none_open k.decls k.attached k.turns) few in
    record { steps = weaker ds k.attached k.after_read (steps_from (Some []) cs) r.steps; whole = r.whole; sum_is = r.sum_is; few = r.few }

outside_step : (ds : List Decl) (sum line : ℕ) (k : Known) (c : Command) (cs : List Numbered) → IsTaken k c → k.in_phase ≡ false → k.turns ≤ 1000000 → ds ≡ k.decls
    → Follows ds sum (known_after k (items.Command c)) cs → AreSteps ds k.attached k.after_read k.turns None ((line, c) ∷ cs) sum
outside_step ds sum line k commands.Phase cs t none few same rest = phase_step ds sum line k cs few rest
outside_step ds sum line k c cs t none few same rest = alone_step ds sum line k c cs refl t none few same rest

-- a line of a phase
inside_step : (ds : List Decl) (sum line : ℕ) (k : Known) (inside : List Numbered) (c : Command) (cs : List Numbered) → is_end c ≡ false → IsTaken k c → Stands k (Some inside) → k.turns ≤ 1000000
    → Follows ds sum (known_after k (items.Command c)) cs → AreSteps ds k.attached k.after_read k.turns (Some inside) ((line, c) ∷ cs) sum
inside_step ds sum line k inside c cs not_end t st few rest =
    let job = t.inside st.0 not_end in
    let r = rest (Some (inside ++ (line, c) ∷ [])) (open_more k inside line c st job) (t.turns few) in
    let split = steps_inside inside (line, c) cs not_end in
    let good : AreGoodSteps ds k.attached (is_read c) (steps_from (Some (inside ++ (line, c) ∷ [])) cs) =
    subst (λ (x : List ℕ). AreGoodSteps ds x (is_read c) (steps_from (Some (inside ++ (line, c) ∷ [])) cs)) (same_attached c k.attached job.line.0) r.steps in
    record {
      steps = subst (λ (x : List Step). AreGoodSteps ds k.attached k.after_read x) (sym split) (of_phase ds k.attached (is_read c) k.after_read (inside ++ (line, c) ∷ []) cs good);
      whole = ap (λ (x : List Step). flat_map step_commands x) split ∙ (r.whole ∙ ap (λ (x : List Command). commands.Phase ∷ x) (moved inside (line, c) cs));
      sum_is = r.sum_is;
      few = r.few;
    }

-- the end of a phase
end_step : (ds : List Decl) (sum line : ℕ) (k : Known) (inside : List Numbered) (cs : List Numbered) → Stands k (Some inside) → k.turns ≤ 1000000 → ds ≡ k.decls
    → Follows ds sum (known_after k (items.Command commands.End)) cs → AreSteps ds k.attached k.after_read k.turns (Some inside) ((line, commands.End) ∷ cs) sum
unfolding steps_from
end_step ds sum line k inside cs st few same rest =
    let r = rest None refl few in
    let o = st.2 in
    let phase : IsGoodPhase k.decls k.attached inside = record {
      lines = o.lines;
      jobs = let j = o.jobs in let f = o.few in omega (arith, j, f);
      flows = subst (AllPairs (λ (s : ℕ) (t : ℕ). s ≢ t)) (sym o.flow_lines) o.apart;
      turns = let u = o.sum in omega (arith, u, few);
    } in
    record {
      steps = (subst (λ (x : List Decl). IsGoodPhase x k.attached inside) (sym same) phase, r.steps);
      whole = ap (λ (x : List Command). step_commands (Phase inside) ++ x) r.whole ∙ ap (λ (x : List Command). commands.Phase ∷ x) (append_assoc (unnumbered inside) (commands.End ∷ []) (unnumbered cs));
      sum_is = r.sum_is;
      few = r.few;
    }

during_step : (ds : List Decl) (sum line : ℕ) (k : Known) (inside : List Numbered) (c : Command) (cs : List Numbered) → IsTaken k c → Stands k (Some inside) → k.turns ≤ 1000000 → ds ≡ k.decls
    → Follows ds sum (known_after k (items.Command c)) cs → AreSteps ds k.attached k.after_read k.turns (Some inside) ((line, c) ∷ cs) sum
during_step ds sum line k inside commands.End cs t st few same rest = end_step ds sum line k inside cs st few same rest
during_step ds sum line k inside c cs t st few same rest = inside_step ds sum line k inside c cs refl t st few rest

abbrev IsCommand : Item → Type 0
IsCommand (items.Decl d) = ⊥
IsCommand (items.Command c) = Unit {0}

-- what one line says
item_step : (ds : List Decl) (sum line : ℕ) (k : Known) (item : Item) (under : Option (List Numbered)) (cs : List Numbered) → IsGoodItem k item → IsFirst k item → Stands k under → k.turns ≤ 1000000
    → (IsCommand item → ds ≡ k.decls) → Follows ds sum (known_after k item) cs → AreSteps ds k.attached k.after_read k.turns under (numbered line item ++ cs) sum
item_step ds sum line k (items.Decl d) None cs good first st few same rest =
    let r = rest None st few in
    record { steps = weaker ds k.attached k.after_read (steps_from None cs) r.steps; whole = r.whole; sum_is = r.sum_is; few = r.few }
item_step ds sum line k (items.Decl d) (Some inside) cs good first st few same rest = absurd (let t = sym first.first ∙ st.1 in cc)
item_step ds sum line k (items.Command c) None cs good first st few same rest = outside_step ds sum line k c cs good st few (same tt) rest
item_step ds sum line k (items.Command c) (Some inside) cs good first st few same rest = during_step ds sum line k inside c cs good st few (same tt) rest

line_step : (ds : List Decl) (sum : ℕ) (f : Sofar) (l : List ℕ) (skip : Bool) (r : Result Item ℕ) (under : Option (List Numbered)) (cs : List Numbered) → is_skipped l ≡ skip → line_item f.known l ≡ r
    → f.fault ≡ None → (next f l).fault ≡ None → Stands f.known under → f.known.turns ≤ 1000000
    → ((next f l).known.begun ≡ true → ds ≡ (next f l).known.decls) → Follows ds sum (next f l).known cs
    → AreSteps ds f.known.attached f.known.after_read f.known.turns under (said f skip r ++ cs) sum
line_step ds sum f l true r under cs e h n m st few same rest =
    let now : next f l ≡ passed f = skipped_is f l n e in
    subst (λ (x : Sofar). Follows ds sum x.known cs) now rest under st few
line_step ds sum f l false (Ok item) under cs e h n m st few same rest =
    let now : next f l ≡ told f (Ok item) = next_is f l (Ok item) n e h in
    item_step ds sum (f.lines + 1) f.known item under cs (item_good f.known l item h) (item_again f.known l item h).1 st few
    (decls_then f item (subst (λ (x : Sofar). x.known.begun ≡ true → ds ≡ x.known.decls) now same))
    (subst (λ (k : Known). Follows ds sum k cs) (ap (λ (x : Sofar). x.known) now ∙ told_known f item) rest)
  where
    decls_then : (f : Sofar) (item : Item) → ((told f (Ok item)).known.begun ≡ true → ds ≡ (told f (Ok item)).known.decls) → IsCommand item → ds ≡ f.known.decls
    decls_then f (items.Decl d) same c = absurd c
    decls_then f (items.Command x) same c = same refl
line_step ds sum f l false (Err why) under cs e h n m st few same rest = absurd (let q : (next f l).fault ≡ Some (f.lines + 1, why) = faulty_is f l why n e h in let t = sym q ∙ m in cc)

all_steps : (f : Sofar) (ls : List (List ℕ)) (under : Option (List Numbered)) → Stands f.known under → f.known.turns ≤ 1000000 → f.fault ≡ None → (after f ls).fault ≡ None → (after f ls).known.in_phase ≡ false
    → AreSteps (after f ls).known.decls f.known.attached f.known.after_read f.known.turns under (adding f ls) (after f ls).known.turns
unfolding adding steps_from
all_steps f [] None st few n m e = record { steps = tt; whole = refl; sum_is = refl; few = few }
all_steps f [] (Some inside) st few n m e = absurd (let t = sym st.0 ∙ e in cc)
all_steps f (l ∷ ls) under st few n m e =
    let clean : (next f l).fault ≡ None = no_fault (next f l) (next f l).fault ls refl m in
    line_step (after f (l ∷ ls)).known.decls (after f (l ∷ ls)).known.turns f l (is_skipped l) (line_item f.known l) under (adding (next f l) ls) refl refl n clean st few
    (λ b. settled (next f l) ls b)
    (λ u s t. all_steps (next f l) ls u s t clean m e)

pub are_good : AreGoodScripts
are_good bytes s (lines, rest, cut, e) =
    let f = after start (all_lines lines rest) in
    let a = answered (after start (all_lines lines rest)) s (after start (all_lines lines rest)).fault (after start (all_lines lines rest)).known.in_phase refl refl (sym e) in
    let r = all_steps start (all_lines lines rest) None refl (omega arith) refl a.0 a.1 in
    let said : (after start (all_lines lines rest)).commands ≡ adding start (all_lines lines rest) = all_said start (all_lines lines rest) refl a.0 in
    subst (λ (x : Script). IsGood x) a.2 (record {
      decls = record { few = (subst (λ (x : Script). AreLabels x.decls.list) (sym a.2) (have_labels bytes s (lines, rest, cut, e))).few; each = all_decls start (all_lines lines rest) refl a.0 tt };
      whole = subst (λ (x : List Numbered). flat_map step_commands (steps_of x) ≡ unnumbered x) (sym said) r.whole;
      steps = subst (λ (x : List Numbered). AreGoodSteps (after start (all_lines lines rest)).known.decls [] false (steps_of x)) (sym said) r.steps;
      turns = subst (λ (x : List Numbered). turns_in x ≤ 1000000) (sym said) (subst (λ (x : ℕ). x ≤ 1000000) r.sum_is r.few);
    })

pub answered_good : (r : Result Script ScriptFault) (bytes : List ℕ) → Answers r bytes → IfOk r IsGood
answered_good (Ok s) bytes h = are_good bytes s h
answered_good (Err e) bytes h = tt
