-- What is made of what a line says.
use Rattle.std.proofs.Common.{◌≡◌, ℕ, Bool, true, false, List, [], Result, Ok, Err, refl, sym, ap, subst, ◌∙◌}
use Rattle.std.specs.Prelude.{IsTrue, ◌&&◌}
use Rattle.pr_inval.specs.declared.node_fault.NodeFault.{NodeFault}
use Rattle.pr_stamps.specs.declared.no_memory.NoMemory.{NoMemory}
use Rattle.pr_sim.specs.Commands.{GivesOne, MakesOne}
use Rattle.pr_sim.specs.Flowing.{IsDownMade, goes_down, may_go_down}
use Rattle.pr_sim.specs.declared.engine.Engine.{Engine}
use Rattle.pr_story.specs.Commands.{Command, Gives, ToRead, ToSend, ToCheckpoint, ToEnd}
use Rattle.pr_story.specs.Counts.{Declared}
use Rattle.pr_story.specs.History.{NodeEntry, Plan, journal}
use Rattle.pr_story.specs.Lawful.{DownAfter, IsLawful, is_after_gap}
use Rattle.pr_story.specs.Turns.{IsAttached}
use Rattle.pr_story.specs.declared.cause.Cause.{Cause}
use Rattle.pr_story.specs.declared.cause.Cause.TheVariants as causes
use Rattle.pr_story.specs.declared.event.Event.{Event}
use Rattle.pr_story.specs.declared.event.Event.TheVariants.{Wrote, Attached, Sent, Idle, Stale, Accepted, Gapped, Missing, Down, Answered, Behind, Moved, Cut, Dropped, Conflicts, State}
use Rattle.pr_story.proofs.Steps.{entry_at}
use Rattle.pr_text.specs.Plain.{asked_seen}
use Rattle.pr_text.specs.declared.plain.line.Asked.{Asked}
use Rattle.pr_text.specs.declared.plain.line.Asked.TheVariants as asks
use Rattle.pr_check.specs.Asking.{GivesNone, HasAllAttached, IsAnswered, IsBy, IsMade}
use Rattle.pr_check.specs.Said.{HasItsBody, IsGivenBy}
use Rattle.pr_check.specs.declared.said.Said.{Said}
use Rattle.pr_check.specs.declared.said.Said.TheVariants as saids
use Rattle.pr_check.proofs.Given.{given}

-- ---- an entry that was made

pub by_asked : (asked a : Asked) → asked ≡ a → IsBy (saids.Asked asked) (asked_seen a)
by_asked asked a same n event body is = subst (λ (s : Said). IsGivenBy s n event) (is ∙ ap (λ (x : Asked). saids.Asked x) same) (given n event body)

pub by_end : (s : ℕ) (cause : Cause) → IsBy (saids.End s cause) (ToEnd s cause)
by_end s cause n event body is = subst (λ (x : Said). IsGivenBy x n event) is (given n event body)

pub by_behind : (c : ℕ) (o : List ℕ) → IsBy (saids.Behind c) (ToRead c o)
by_behind c o n event body is =
    let g : IsGivenBy (saids.Behind c) n event = subst (λ (x : Said). IsGivenBy x n event) is (given n event body) in
    subst (λ (e : Event). Gives (ToRead c o) n e) (sym g.2) refl

pub made_by : (said : Said) (command : Command) (d : Declared) (attached : ℕ → Bool) (h : List NodeEntry) (e : Engine) (r : Result (Unit {0}) NodeFault) (b : Result Bool NoMemory) → IsBy said command
    → GivesOne command d attached h e r → IsAnswered r b → IsMade said d attached h e b
made_by said command d attached h e (Ok done) b by made is = subst (λ (x : Result Bool NoMemory). IsMade said d attached h e x) (sym is) (command, by, (made.0, made.1, made.2))
made_by said command d attached h e (Err fault) (Err refused) by made is = tt
made_by said command d attached h e (Err fault) (Ok b) by made is = absurd is

pub made_as : (said other : Said) (d : Declared) (attached : ℕ → Bool) (h : List NodeEntry) (e : Engine) (b : Result Bool NoMemory) → said ≡ other → IsMade other d attached h e b → IsMade said d attached h e b
made_as said other d attached h e b same made = subst (λ (x : Said). IsMade x d attached h e b) (sym same) made

pub down_made : (s : ℕ) (cause : Cause) (d : Declared) (attached : ℕ → Bool) (h : List NodeEntry) (e : Engine) (r : Result (Unit {0}) NodeFault) → MakesOne d attached h (IsDownMade s cause) e r → GivesOne (ToEnd s cause) d attached h e r
down_made s cause d attached h e (Ok done) made = (made.0, made.1, subst (λ (v : Event). Gives (ToEnd s cause) made.0.node v) (sym made.2) (refl, refl))
down_made s cause d attached h e (Err fault) made = made

pub no_body : (gone : Bool) (body : List ℕ) → gone ≡ true → (IsTrue gone → body ≡ []) → body ≡ []
no_body gone body is none = none is

-- ---- what gives no entry

module _ (plan : Plan) (h : List NodeEntry) where
  its_body : (n t c : ℕ) (event : Event) → IsLawful plan h (entry_at n t c event) → HasItsBody event
  its_body n t c (Wrote client write body after) l = l.may_come.6
  its_body n t c (Attached stream at) l = tt
  its_body n t c (Sent msg) l = tt
  its_body n t c (Idle stream) l = tt
  its_body n t c (Stale stream cut) l = tt
  its_body n t c (Accepted msg at) l = tt
  its_body n t c (Gapped msg has) l = tt
  its_body n t c (Missing stream number) l = tt
  its_body n t c (Down stream cause) l = tt
  its_body n t c (Answered client name reply at) l = tt
  its_body n t c (Behind client needs has) l = tt
  its_body n t c (Moved client) l = tt
  its_body n t c (Cut at) l = tt
  its_body n t c (Dropped name) l = tt
  its_body n t c (Conflicts name found) l = tt
  its_body n t c (State at cut floor precise) l = tt

  pub has_its_body : (e : NodeEntry) → IsLawful plan h e → HasItsBody e.entry.event
  has_its_body e l = its_body e.node e.entry.time e.entry.caller e.entry.event l

  sent_on : (s n t c : ℕ) (event : Event) → IsLawful plan h (entry_at n t c event) → Gives (ToSend s) n event → IsAttached h s
  sent_on s n t c (Sent msg) l g = subst (λ (k : ℕ). IsAttached h k) g.0 l.cause
  sent_on s n t c (Idle stream) l g = subst (λ (k : ℕ). IsAttached h k) g l.cause
  sent_on s n t c (Stale stream cut) l g = subst (λ (k : ℕ). IsAttached h k) g l.cause
  sent_on s n t c _ l g = absurd g

  told_on : (s n t c : ℕ) (event : Event) → IsLawful plan h (entry_at n t c event) → Gives (ToCheckpoint s) n event → IsAttached h s
  told_on s n t c (Sent msg) l g = subst (λ (k : ℕ). IsAttached h k) g.0 l.cause
  told_on s n t c _ l g = absurd g

  ended : (s : ℕ) (cause : Cause) (n t c : ℕ) (event : Event) → IsLawful plan h (entry_at n t c event) → Gives (ToEnd s cause) n event
      → IsAttached h s × DownAfter cause (is_after_gap (journal h (plan.stream s).destination) s)
  ended s cause n t c (Down stream why) l g = (
    subst (λ (k : ℕ). IsAttached h k) g.0 l.cause.0,
    subst (λ (x : Cause). DownAfter x (is_after_gap (journal h (plan.stream s).destination) s)) g.1
        (subst (λ (k : ℕ). DownAfter why (is_after_gap (journal h (plan.stream k).destination) k)) g.0
        (subst (λ (k : ℕ). DownAfter why (is_after_gap (journal h k) stream)) l.placed l.cause.1)),
  )
  ended s cause n t c _ l g = absurd g

off : (on : Bool) (at : Bool) → on ≡ at → IsTrue at → on ≡ false → ⊥
off true at e t f = absurd (cc)
off false true e t f = absurd (cc)
off false false e t f = absurd (cc)

pub no_turn : (s : ℕ) (d : Declared) (attached : ℕ → Bool) (h : List NodeEntry) (on : Bool) → on ≡ attached s → on ≡ false → HasAllAttached attached h → GivesNone (saids.Asked (asks.Send s)) d h
no_turn s d attached h on is none all e l says =
    off on (attached s) is (all s (sent_on d.plan h s e.node e.entry.time e.entry.caller e.entry.event l (by_asked (asks.Send s) (asks.Send s) refl e.node e.entry.event (has_its_body d.plan h e l) says))) none

pub no_checkpoint : (s : ℕ) (d : Declared) (attached : ℕ → Bool) (h : List NodeEntry) (on : Bool) → on ≡ attached s → on ≡ false → HasAllAttached attached h → GivesNone (saids.Asked (asks.Checkpoint s)) d h
no_checkpoint s d attached h on is none all e l says =
    off on (attached s) is (all s (told_on d.plan h s e.node e.entry.time e.entry.caller e.entry.event l (by_asked (asks.Checkpoint s) (asks.Checkpoint s) refl e.node e.entry.event (has_its_body d.plan h e l) says))) none

may : (cause : Cause) (after : Bool) → DownAfter cause after → IsTrue (may_go_down cause after)
may causes.Gap after is = is
may causes.Failed after is = refl
may causes.Ended after is = refl

of_both : (a b : Bool) → IsTrue a → IsTrue b → IsTrue (a && b)
of_both true b p q = q
of_both false b p q = absurd (cc)

pub no_down : (s : ℕ) (cause : Cause) (d : Declared) (attached : ℕ → Bool) (h : List NodeEntry) (can : Bool) → can ≡ goes_down d attached h s cause → can ≡ false → HasAllAttached attached h → GivesNone (saids.End s cause) d h
no_down s cause d attached h can is none all e l says =
    let was = ended d.plan h s cause e.node e.entry.time e.entry.caller e.entry.event l (by_end s cause e.node e.entry.event (has_its_body d.plan h e l) says) in
    off can (goes_down d attached h s cause) is (of_both (attached s) _ (all s was.0) (may cause _ was.1)) none
