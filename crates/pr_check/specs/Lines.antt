-- Which lines are an event's, and what they say.
use Rattle.std.specs.Prelude.{ℕ, ◌≡◌, ◌≢◌, List, [], ◌∷◌, ◌++◌, Option, Some, None}
use Rattle.pr_script.specs.declared.decl.Decl.{Decl}
use Rattle.pr_script.specs.declared.kind.Kind.TheVariants as kinds
use Rattle.pr_story.specs.Counts.{HasEvent}
use Rattle.pr_story.specs.Ranges.{IsInRange}
use Rattle.pr_story.specs.declared.event.Event.{Event}
use Rattle.pr_story.specs.declared.event.Event.TheVariants.{State}
use Rattle.pr_text.specs.Lines.{line_text}
use Rattle.pr_text.specs.Numbers.{Has, counts_of}
use Rattle.pr_check.specs.declared.said.Said.{Said}
use Rattle.pr_check.specs.Said.{said_of}

-- a state tells of a set at least: each node has the set of the names that are in none of the others
abbrev pub HasSets : Event → Type 0
HasSets (State at cut floor precise) = precise ≢ []
HasSets event = Unit {0}

-- the event's values are such as their types allow, and it names what is declared alone
pub record IsTellable (ds : List Decl) (event : Event) : Type 0 where
  pub range : IsInRange event
  pub declared : HasEvent (counts_of ds) event
  pub sets : HasSets event

-- at a declared node
abbrev pub IsTellableAt : List Decl → ℕ → Event → Type 0
IsTellableAt ds n event = Has ds kinds.Node n × IsTellable ds event

-- the line, without its end, is that of this event at node n
abbrev pub IsLineOf : List Decl → List ℕ → ℕ → Event → Type 0
IsLineOf ds line n event = IsTellableAt ds n event × (line_text ds n event ≡ line ++ 10 ∷ [])

-- the line is an event's
abbrev pub IsEventLine : List Decl → List ℕ → Type 0
IsEventLine ds line = (n : ℕ) × (event : Event) × IsLineOf ds line n event

-- the line is an event's, and each event with this line was asked for so; or it is none
abbrev pub Says : List Decl → List ℕ → Option Said → Type 0
Says ds line (Some said) = IsEventLine ds line × ((n : ℕ) (event : Event) → IsLineOf ds line n event → said_of n event ≡ said)
Says ds line None = ¬ IsEventLine ds line
