-- What is told of a message for which other bytes came over a wire than were put.
use Rattle.std.specs.Prelude.{◌≡◌, ◌++◌, ◌∷◌, ℕ, List, All, false, Result, Ok}
use Rattle.std.specs.Io.{StartsWith}
use Rattle.pr_inval.specs.declared.msg.Msg.{Msg}
use Rattle.pr_story.specs.declared.event.Event.{Event}
use Rattle.pr_story.specs.declared.event.Event.TheVariants.{Sent}
use Rattle.pr_story.specs.History.{NodeEntry}
use Rattle.pr_story.specs.Turns.{is_of_stream}
use Rattle.pr_wire.specs.Spelling.{spelling}
use Rattle.pr_wire.specs.declared.format.Format.TheVariants.{Two}
use Rattle.pr_flow.specs.declared.stop.Stop.{Stop}
use Rattle.pr_flow.specs.declared.stop.Stop.TheVariants as stops

-- this is the message's number, these bytes are its encoding, and those, which were taken for it, are no beginning of it
abbrev pub IsLieOf : Msg → ℕ → List ℕ → List ℕ → Type 0
IsLieOf m number sent got = (m.number ≡ number) × (sent ≡ spelling Two m) × ¬ StartsWith sent got

-- no event of the stream came after this one
pub record IsLastOf (h : List NodeEntry) (s : ℕ) (event : Event) : Type 0 where
  pub newer : List NodeEntry
  pub this : NodeEntry
  pub older : List NodeEntry
  pub all : h ≡ newer ++ this ∷ older
  pub event_is : this.entry.event ≡ event
  pub others : All (λ (e : NodeEntry). is_of_stream e.entry.event s ≡ false) newer

-- the last event of the stream sends the message of this number, for which these other bytes came
pub record IsLied (h : List NodeEntry) (s number : ℕ) (sent got : List ℕ) : Type 0 where
  pub msg : Msg
  pub stream : msg.stream ≡ s
  pub last : IsLastOf h s (Sent msg)
  pub lie : IsLieOf msg number sent got

-- a command, or a phase, that ended so was told no lie
abbrev pub IsNoLie : {E : Type 0} → Result Stop E → Type 0
IsNoLie (Ok (stops.Lied stream number sent got)) = ⊥
IsNoLie _ = Unit {0}
