-- What a line gives that makes no wire tells of no wire that failed or ended.
use Rattle.std.proofs.Common.{◌≡◌, ℕ, zero, suc, ◌<◌, List, [], ◌∷◌, ◌++◌, Result, refl, sym, subst, arith}
use Rattle.std.specs.Prelude.{Bool, All}
use Rattle.std.specs.List.{AllByRecursion, flat_map}
use Rattle.std.proofs.lemmas.List.Elements.{All-contains}
use Rattle.pr_flow.specs.Sound.{AreSoundEvents, IsSoundEvent}
use Rattle.pr_inval.specs.declared.node_fault.NodeFault.{NodeFault}
use Rattle.pr_script.specs.declared.command.Command.{Command as Said}
use Rattle.pr_script.specs.declared.command.Command.TheVariants as commands
use Rattle.pr_script.specs.declared.owner.Owner.TheVariants as owner
use Rattle.pr_script.specs.Steps.{Numbered}
use Rattle.pr_stamps.proofs.Contained.{is_first}
use Rattle.pr_story.specs.Commands.{Command, Gives, ToWrite, ToRead, ToMove, ToAttach, ToSend, ToCheckpoint, ToDeliver, ToEnd, ToCut, ToDrop, ToFindConflicts, ToTellState}
use Rattle.pr_story.specs.Counts.{Declared}
use Rattle.pr_story.specs.declared.cause.Cause.{Cause}
use Rattle.pr_story.specs.declared.cause.Cause.TheVariants.{Failed, Ended}
use Rattle.pr_story.specs.declared.event.Event.{Event}
use Rattle.pr_story.specs.declared.event.Event.TheVariants.{Attached, Sent, Idle, Stale, Accepted, Down}
use Rattle.pr_story.specs.History.{NodeEntry}
use Rattle.pr_story.specs.Scripts.{AreAttaches, AreOfCommands, AreRound, AreRounds, AreSettled, ClientJob, Detach, Expect, Flow, IsSettle, JobAfterJob, JobBegins, JobEntry, Line, LineBegins, LineGives, Phase, Settle, Single, attached_after, events_of, made_of}
use Rattle.pr_text.specs.Steps.{line_of, lines_by, single_of}
use Rattle.pr_sim.specs.Commands.{Ends, attached_of}
use Rattle.pr_sim.specs.Phasing.{GivesAll, asked_by}
use Rattle.pr_sim.specs.Sound.{AddsSound}
use Rattle.pr_sim.specs.Stepping.{IsShort}
use Rattle.pr_sim.specs.declared.engine.Engine.{Engine}
use Rattle.pr_sim.proofs.Sound.{adds_of}

-- ---- commands

-- the command ends no flow
abbrev pub IsPlain : Command → Type 0
IsPlain (ToEnd s cause) = ⊥
IsPlain command = Unit {0}

abbrev ArePlain : List Command → Type 0
ArePlain commands = AllByRecursion IsPlain commands

none_down : (command : Command) (n s : ℕ) (cause : Cause) → IsPlain command → Gives command n (Down s cause) → ⊥
none_down (ToEnd t why) n s cause plain gives = plain
none_down (ToWrite c o body gone) n s cause plain gives = gives
none_down (ToRead c o) n s cause plain gives = gives
none_down (ToMove c m) n s cause plain gives = gives
none_down (ToAttach t) n s cause plain gives = gives
none_down (ToSend t) n s cause plain gives = gives
none_down (ToCheckpoint t) n s cause plain gives = gives
none_down (ToDeliver t k) n s cause plain gives = gives
none_down (ToCut m) n s cause plain gives = gives
none_down (ToDrop m o) n s cause plain gives = gives
none_down (ToFindConflicts m o) n s cause plain gives = gives
none_down (ToTellState m) n s cause plain gives = gives

gives_sound : (command : Command) (n : ℕ) (event : Event) → IsPlain command → Gives command n event → IsSoundEvent event
gives_sound command n (Down s Failed) plain gives = none_down command n s Failed plain gives
gives_sound command n (Down s Ended) plain gives = none_down command n s Ended plain gives
gives_sound command n event plain gives = tt

commands_sound : (commands : List Command) (es : List NodeEntry) → ArePlain commands → AreOfCommands commands es → AreSoundEvents es
commands_sound [] es plain are = subst (λ (l : List NodeEntry). AreSoundEvents l) (sym are) tt
commands_sound (command ∷ commands) [] plain are = tt
commands_sound (command ∷ commands) (e ∷ es) plain are = (gives_sound command e.node e.entry.event plain.0 are.0, commands_sound commands es plain.1 are.1)

plain_both : (a b : List Command) → ArePlain a → ArePlain b → ArePlain (a ++ b)
plain_both [] b p q = q
plain_both (c ∷ a) b p q = (p.0, plain_both a b p.1 q)

plain_said : (c : Said) → ArePlain (single_of (line_of c))
plain_said (commands.Attach stream) = (tt, tt)
plain_said (commands.Detach stream) = tt
plain_said (commands.Send stream) = (tt, tt)
plain_said (commands.Checkpoint stream) = (tt, tt)
plain_said (commands.Deliver stream number) = (tt, tt)
plain_said (commands.Flow stream turns) = tt
plain_said (commands.Write client name body) = (tt, tt)
plain_said (commands.Delete client name) = (tt, tt)
plain_said (commands.Read client name) = (tt, tt)
plain_said (commands.Move client node) = (tt, tt)
plain_said (commands.Expect want) = tt
plain_said (commands.Cut node) = (tt, tt)
plain_said (commands.State node) = (tt, tt)
plain_said (commands.Drop node name) = (tt, tt)
plain_said (commands.Conflicts node name) = (tt, tt)
plain_said commands.Settle = tt
plain_said commands.Phase = tt
plain_said commands.End = tt

plain_lines : (lines : List Numbered) → ArePlain (flat_map (λ (c : Numbered). single_of (line_of c.1)) lines)
plain_lines [] = tt
plain_lines (c ∷ lines) = plain_both (single_of (line_of c.1)) (flat_map (λ (c : Numbered). single_of (line_of c.1)) lines) (plain_said c.1) (plain_lines lines)

-- ---- beginnings

front_sound : (es rest : List NodeEntry) → AreSoundEvents (es ++ rest) → AreSoundEvents es
front_sound [] rest a = tt
front_sound (e ∷ es) rest a = (a.0, front_sound es rest a.1)

-- ---- settles

abbrev AreSound : List Event → Type 0
AreSound events = AllByRecursion IsSoundEvent events

of_events : (es : List NodeEntry) → AreSound (events_of es) → AreSoundEvents es
of_events [] a = tt
of_events (e ∷ es) a = (a.0, of_events es a.1)

both_events : (a b : List Event) → AreSound a → AreSound b → AreSound (a ++ b)
both_events [] b p q = q
both_events (v ∷ a) b p q = (p.0, both_events a b p.1 q)

joined : (events a b : List Event) → events ≡ a ++ b → AreSound a → AreSound b → AreSound events
joined events a b is p q = subst (λ (l : List Event). AreSound l) (sym is) (both_events a b p q)

no_events : (events : List Event) → events ≡ [] → AreSound events
no_events events is = subst (λ (l : List Event). AreSound l) (sym is) tt

attaches_sound : (streams : List ℕ) (events : List Event) → AreAttaches streams events → AreSound events
attaches_sound [] events are = no_events events are
attaches_sound (s ∷ streams) (Attached t at ∷ events) are = (tt, attaches_sound streams events are.1)
attaches_sound (s ∷ streams) _ are = absurd are

settled_sound : (s : ℕ) (events : List Event) → AreSettled s events → AreSound events
settled_sound s (Idle t ∷ []) are = (tt, tt)
settled_sound s (Sent msg ∷ (Accepted taken at ∷ events)) are = (tt, (tt, settled_sound s events are.3))
settled_sound s (Stale t cut ∷ (Sent msg ∷ (Accepted taken at ∷ events))) are = (tt, (tt, (tt, settled_sound s events are.4)))
settled_sound s _ are = absurd are

round_sound : (streams : List ℕ) (events : List Event) → AreRound streams events → AreSound events
round_sound [] events are = no_events events are
round_sound (s ∷ streams) events (turns, rest, is, settled, more) = joined events turns rest is (settled_sound s turns settled) (round_sound streams rest more)

rounds_sound : (streams : List ℕ) (rounds : ℕ) (events : List Event) → AreRounds streams rounds events → AreSound events
rounds_sound streams zero events are = round_sound streams events are.0
rounds_sound streams (suc rounds) events (round, rest, is, first, sent, more) = joined events round rest is (round_sound streams round first) (rounds_sound streams rounds rest more)

settle_sound : (streams : List ℕ) (events : List Event) → IsSettle streams events → AreSound events
settle_sound streams events (attaches, rest, rounds, is, first, more) = joined events attaches rest is (attaches_sound streams attaches first) (rounds_sound streams rounds rest more)

-- ---- lines

-- a line that makes no wire
abbrev pub IsQuiet : Line → Type 0
IsQuiet (Single command) = IsPlain command
IsQuiet (Flow s turns) = ⊥
IsQuiet (Phase jobs) = jobs ≡ []
IsQuiet line = Unit {0}

no_entries : (es : List NodeEntry) → es ≡ [] → AreSoundEvents es
no_entries es is = subst (λ (l : List NodeEntry). AreSoundEvents l) (sym is) tt

-- no job, no entry
none_below : (xs : List JobEntry) (es : List NodeEntry) → made_of xs ≡ es → All (λ (x : JobEntry). x.job < 0) xs → AreSoundEvents es
none_below [] es is below = no_entries es (sym is)
none_below (x ∷ xs) es is below = let lt : x.job < 0 = All-contains (λ (y : JobEntry). y.job < 0) (x ∷ xs) x below (is_first x xs) in absurd (omega (arith, lt))

line_sound : (attached : List ℕ) (line : Line) (es : List NodeEntry) → IsQuiet line → LineGives JobAfterJob attached line es → AreSoundEvents es
line_sound attached (Single command) es quiet gives = commands_sound (command ∷ []) es (quiet, tt) gives
line_sound attached Expect es quiet gives = no_entries es gives
line_sound attached (Detach s) es quiet gives = no_entries es gives
line_sound attached (Flow s turns) es quiet gives = absurd quiet
line_sound attached Settle es quiet gives = of_events es (settle_sound attached (events_of es) gives)
line_sound attached (Phase []) es quiet (xs, is, below, order) = none_below xs es is below
line_sound attached (Phase (job ∷ jobs)) es quiet gives = let bad : job ∷ jobs ≡ [] = quiet in absurd (cc)

begun_sound : (attached : List ℕ) (line : Line) (es : List NodeEntry) → IsQuiet line → LineBegins JobAfterJob attached line es → AreSoundEvents es
begun_sound attached (Phase []) es quiet (xs, is, below, order) = none_below xs es is below
begun_sound attached (Phase (job ∷ jobs)) es quiet begun = let bad : job ∷ jobs ≡ [] = quiet in absurd (cc)
begun_sound attached (Single command) es quiet (rest, gives) = front_sound es rest (line_sound attached (Single command) (es ++ rest) quiet gives)
begun_sound attached Expect es quiet (rest, gives) = front_sound es rest (line_sound attached Expect (es ++ rest) quiet gives)
begun_sound attached (Detach s) es quiet (rest, gives) = front_sound es rest (line_sound attached (Detach s) (es ++ rest) quiet gives)
begun_sound attached (Flow s turns) es quiet begun = absurd quiet
begun_sound attached Settle es quiet (rest, gives) = front_sound es rest (line_sound attached Settle (es ++ rest) quiet gives)

-- ---- calls

quiet_said : (c : Said) → IsShort c → IsQuiet (line_of c)
quiet_said (commands.Flow s turns) short = absurd short
quiet_said commands.Settle short = absurd short
quiet_said (commands.Attach s) short = tt
quiet_said (commands.Detach s) short = tt
quiet_said (commands.Send s) short = tt
quiet_said (commands.Checkpoint s) short = tt
quiet_said (commands.Deliver s number) short = tt
quiet_said (commands.Write client name body) short = tt
quiet_said (commands.Delete client name) short = tt
quiet_said (commands.Read client name) short = tt
quiet_said (commands.Move client node) short = tt
quiet_said (commands.Cut node) short = tt
quiet_said (commands.State node) short = tt
quiet_said (commands.Drop node name) short = tt
quiet_said (commands.Conflicts node name) short = tt
quiet_said (commands.Expect want) short = tt
quiet_said commands.Phase short = refl
quiet_said commands.End short = refl

module _ (d : Declared) (attached : ℕ → Bool) (h : List NodeEntry) (e : Engine) where
  pub line_adds : (line : Line) (r : Result (Unit {0}) NodeFault) → IsQuiet line → Ends line d attached h e r → AddsSound d h e
  line_adds line r quiet ended =
      adds_of d (attached_after line attached) h e (λ (done : Unit {0}) es. LineGives JobAfterJob (attached_of d attached) line es) (λ es. LineBegins JobAfterJob (attached_of d attached) line es) r
      (λ done es is gives. line_sound (attached_of d attached) line es quiet gives) (λ es begun. begun_sound (attached_of d attached) line es quiet begun) ended

  pub short_adds : (c : Said) (r : Result (Unit {0}) NodeFault) → IsShort c → Ends (line_of c) d attached h e r → AddsSound d h e
  short_adds c r short ended = line_adds (line_of c) r (quiet_said c short) ended

  pub client_adds_sound : (client : ℕ) (inside : List Numbered) (r : Result (Unit {0}) NodeFault) → GivesAll (asked_by client inside) d attached h e r → AddsSound d h e
  client_adds_sound client inside r gives =
      adds_of d attached h e (λ (done : Unit {0}) es. AreOfCommands (asked_by client inside) es) (λ es. JobBegins (ClientJob (asked_by client inside)) es) r
      (λ done es is are. commands_sound (asked_by client inside) es (plain_lines (lines_by (owner.Client client) inside)) are)
      (λ es begun. front_sound es begun.0 (commands_sound (asked_by client inside) (es ++ begun.0) (plain_lines (lines_by (owner.Client client) inside)) begun.1)) gives
