-- The jobs of a phase, one after the other.
use Rattle.std.proofs.Common.{◌≡◌, ℕ, ◌<◌, ◌+◌, List, [], ◌∷◌, ◌++◌, Result, refl, sym, ◌∙◌, ap, subst, length, get_or, take, drop, arith, zero, suc}
use Rattle.std.specs.Prelude.{true, false, Bool, cond}
use Rattle.std.specs.List.{AllByRecursion, filter, flat_map}
use Rattle.std.proofs.lemmas.Grind.{flat_map-append}
use Rattle.std.proofs.lemmas.List.{append_assoc, append-nil, take-append-drop, take_more}
use Rattle.std.proofs.lemmas.List.Elements.{filter-append}
use Rattle.pr_inval.specs.declared.node_fault.NodeFault.{NodeFault}
use Rattle.pr_script.specs.declared.command.Command.{Command as Said}
use Rattle.pr_script.specs.declared.command.Command.TheVariants as commands
use Rattle.pr_script.specs.declared.owner.Owner.TheVariants as owner
use Rattle.pr_script.specs.Steps.{Numbered, owner_of}
use Rattle.pr_story.specs.Commands.{Command}
use Rattle.pr_story.specs.History.{NodeEntry}
use Rattle.pr_story.specs.Scripts.{AreOfCommands, ClientJob, JobBegins}
use Rattle.pr_story.proofs.Begun.{nothing_begins}
use Rattle.pr_text.specs.Steps.{is_owned_by, line_of, single_of}
use Rattle.pr_sim.specs.Commands.{Ends}
use Rattle.pr_sim.specs.Phasing.{GivesAll, IsJobLine, asked_by, asked_of}
use Rattle.pr_sim.specs.Running.{IsRunning}
use Rattle.pr_story.specs.Counts.{Declared}
use Rattle.pr_sim.specs.Stepping.{CanRun, CanSend}
use Rattle.pr_sim.proofs.Flows.{stays_attached}
use Rattle.pr_sim.specs.declared.engine.Engine.{Engine}

-- ---- the lines of a client

owned_ends : (d : Declared) (attached : ℕ → Bool) (h : List NodeEntry) (e : Engine) (client : ℕ) (c : Said) (r : Result (Unit {0}) NodeFault)
    → is_owned_by (owner.Client client) (owner_of c) ≡ true → Ends (line_of c) d attached h e r → GivesAll (single_of (line_of c)) d attached h e r
owned_ends d attached h e client (commands.Write own name body) r on ends = ends
owned_ends d attached h e client (commands.Delete own name) r on ends = ends
owned_ends d attached h e client (commands.Read own name) r on ends = ends
owned_ends d attached h e client _ r on ends = absurd (cc)

-- a line that is the client's ends as what it asks for
pub line_ends : (d : Declared) (attached : ℕ → Bool) (h : List NodeEntry) (e : Engine) (client : ℕ) (c : Said) (r : Result (Unit {0}) NodeFault)
    → is_owned_by (owner.Client client) (owner_of c) ≡ true → Ends (line_of c) d attached h e r → GivesAll (asked_of client c) d attached h e r
line_ends d attached h e client c r on ends =
    subst (λ (b : Bool). GivesAll (cond b (single_of (line_of c)) []) d attached h e r) (sym on) (owned_ends d attached h e client c r on ends)

pub commands_append : (a b : List Command) (es fs : List NodeEntry) → AreOfCommands a es → AreOfCommands b fs → AreOfCommands (a ++ b) (es ++ fs)
commands_append [] b [] fs k l = l
commands_append [] b (e ∷ es) fs k l = absurd (cc)
commands_append (command ∷ a) b [] fs k l = absurd k
commands_append (command ∷ a) b (e ∷ es) fs k l = (k.0, commands_append a b es fs k.1 l)

-- the commands before are given, this much of the next ones, and nothing of the last ones
pub begins_behind : (a b rest : List Command) (es fs : List NodeEntry) → AreOfCommands a es → JobBegins (ClientJob b) fs → JobBegins (ClientJob (a ++ (b ++ rest))) (es ++ fs)
begins_behind a b rest es fs k l =
    let last = nothing_begins.job (ClientJob rest) in (
      l.0 ++ last.0,
      subst (λ (gs : List NodeEntry). AreOfCommands (a ++ (b ++ rest)) gs) (sym (append_assoc es fs (l.0 ++ last.0)))
          (commands_append a (b ++ rest) es (fs ++ (l.0 ++ last.0)) k
          (subst (λ (gs : List NodeEntry). AreOfCommands (b ++ rest) gs) (append_assoc fs l.0 last.0) (commands_append b rest (fs ++ l.0) last.0 l.1 last.1))),
    )

pub begun_behind : (a b : List Command) (es fs : List NodeEntry) → AreOfCommands a es → JobBegins (ClientJob b) fs → JobBegins (ClientJob (a ++ b)) (es ++ fs)
begun_behind a b es fs k l =
    subst (λ (cs : List Command). JobBegins (ClientJob (a ++ cs)) (es ++ fs)) (append-nil b) (begins_behind a b [] es fs k l)

asked_append : (client : ℕ) (xs ys : List Numbered) → asked_by client (xs ++ ys) ≡ asked_by client xs ++ asked_by client ys
asked_append client xs ys =
    let f : Numbered → List Command = λ c. single_of (line_of c.1) in
    let p : Numbered → Bool = λ c. is_owned_by (owner.Client client) (owner_of c.1) in
    ap (λ (zs : List Numbered). flat_map f zs) (filter-append p xs ys) ∙ flat_map-append f (filter p xs) (filter p ys)

pub asked_one : (client : ℕ) (x : Numbered) → asked_by client (x ∷ []) ≡ asked_of client x.1
asked_one client x = by (is_owned_by (owner.Client client) (owner_of x.1))
  where
    by : (b : Bool) → flat_map (λ (c : Numbered). single_of (line_of c.1)) (cond b (x ∷ []) []) ≡ cond b (single_of (line_of x.1)) []
    by true = append-nil (single_of (line_of x.1))
    by false = refl

-- ---- line by line

-- what one line more asks for
pub asked_more : (client : ℕ) (xs : List Numbered) (i : ℕ) (x : Numbered) → i < length xs → x ≡ get_or xs i x → asked_by client (take (i + 1) xs) ≡ asked_by client (take i xs) ++ asked_of client x.1
asked_more client xs i x lt is =
    ap (λ (ys : List Numbered). asked_by client ys) (take_more xs i x lt ∙ ap (λ (y : Numbered). take i xs ++ y ∷ []) (sym is))
    ∙ asked_append client (take i xs) (x ∷ []) ∙ ap (λ (cs : List Command). asked_by client (take i xs) ++ cs) (asked_one client x)

-- and all lines
pub asked_split : (client : ℕ) (xs : List Numbered) (i : ℕ) (x : Numbered) → i < length xs → x ≡ get_or xs i x
    → asked_by client xs ≡ asked_by client (take i xs) ++ (asked_of client x.1 ++ asked_by client (drop (i + 1) xs))
asked_split client xs i x lt is =
    ap (λ (ys : List Numbered). asked_by client ys) (sym (take-append-drop (i + 1) xs))
    ∙ asked_append client (take (i + 1) xs) (drop (i + 1) xs)
    ∙ ap (λ (cs : List Command). cs ++ asked_by client (drop (i + 1) xs)) (asked_more client xs i x lt is)
    ∙ append_assoc (asked_by client (take i xs)) (asked_of client x.1) (asked_by client (drop (i + 1) xs))

-- what can be run where the engine is running, can be run where it still is
pub still_can : (d : Declared) (attached : ℕ → Bool) (h g : List NodeEntry) (e f : Engine) (c : Said) → IsRunning d attached h e → IsRunning d attached g f → CanRun e c → CanRun f c
still_can d attached h g e f c k l can = by c can
  where
    node : (n : ℕ) → n < length e.nodes.items → n < length f.nodes.items
    node n lt = subst (λ (i : ℕ). n < i) (k.nodes ∙ sym l.nodes) lt

    client : (n : ℕ) → n < length e.homes.items → n < length f.homes.items
    client n lt = subst (λ (i : ℕ). n < i) (k.clients ∙ sym l.clients) lt

    stream : (n : ℕ) → n < length e.sessions.items → n < length f.sessions.items
    stream n lt = subst (λ (i : ℕ). n < i) (k.streams ∙ sym l.streams) lt

    sends : (s : ℕ) → CanSend e s → CanSend f s
    sends s (lt, has) = (stream s lt, stays_attached d attached h g e f s k l lt has)

    by : (c : Said) → CanRun e c → CanRun f c
    by (commands.Attach s) can = stream s can
    by (commands.Detach s) can = stream s can
    by (commands.Send s) can = sends s can
    by (commands.Checkpoint s) can = sends s can
    by (commands.Deliver s number) can = stream s can
    by (commands.Flow s turns) can = sends s can
    by (commands.Write c name body) can = (client c can.0, can.1)
    by (commands.Delete c name) can = client c can
    by (commands.Read c name) can = client c can
    by (commands.Move c n) can = (client c can.0, node n can.1)
    by (commands.Cut n) can = node n can
    by (commands.State n) can = node n can
    by (commands.Drop n name) can = node n can
    by (commands.Conflicts n name) can = node n can
    by (commands.Expect want) can = tt
    by commands.Settle can = tt
    by commands.Phase can = tt
    by commands.End can = tt

pub lines_can : (d : Declared) (attached : ℕ → Bool) (h g : List NodeEntry) (e f : Engine) (xs : List Numbered) → IsRunning d attached h e → IsRunning d attached g f → AllByRecursion (IsJobLine e) xs → AllByRecursion (IsJobLine f) xs
lines_can d attached h g e f [] k l can = tt
lines_can d attached h g e f (x ∷ xs) k l can = ((can.0.0, still_can d attached h g e f x.1 k l can.0.1), lines_can d attached h g e f xs k l can.1)

pub all_at : {X : Type 0} (P : X → Type 0) (xs : List X) (i : ℕ) (d : X) → AllByRecursion P xs → i < length xs → P (get_or xs i d)
all_at P [] i d all lt = absurd (omega arith)
all_at P (x ∷ xs) zero d all lt = all.0
all_at P (x ∷ xs) (suc i) d all lt = all_at P xs i d all.1 (omega arith)

-- this line can be run
pub line_can : (e : Engine) (xs : List Numbered) (i : ℕ) (x : Numbered) → i < length xs → x ≡ get_or xs i x → AllByRecursion (IsJobLine e) xs → CanRun e x.1
line_can e xs i x lt is can = subst (λ (y : Numbered). CanRun e y.1) (sym is) (all_at (IsJobLine e) xs i x can lt).1
