-- What the lines of a history say of it: all but the callers' numbers and the times, and of a message that comes its number alone.
use Rattle.std.specs.Prelude.{List, [], ◌∷◌, ◌≡◌}
use Rattle.pr_inval.specs.declared.msg.Msg.{Msg}
use Rattle.pr_story.specs.declared.event.Event.{Event}
use Rattle.pr_story.specs.declared.event.Event.TheVariants.{Sent, Accepted, Gapped}
use Rattle.pr_story.specs.History.{NodeEntry}

abbrev pub IsSameNumber : Msg → Msg → Type 0
IsSameNumber a b = (a.stream ≡ b.stream) × (a.number ≡ b.number)

abbrev pub SaySame : Event → Event → Type 0
SaySame (Sent a) (Sent b) = IsSameNumber a b × (a.kind ≡ b.kind)
SaySame (Accepted a at) (Accepted b to) = IsSameNumber a b × (at ≡ to)
SaySame (Gapped a has) (Gapped b had) = IsSameNumber a b × (has ≡ had)
SaySame a b = a ≡ b

abbrev pub HaveSameLines : List NodeEntry → List NodeEntry → Type 0
HaveSameLines [] [] = Unit {0}
HaveSameLines (e ∷ h) (f ∷ g) = (e.node ≡ f.node) × SaySame e.entry.event f.entry.event × HaveSameLines h g
HaveSameLines [] (f ∷ g) = ⊥
HaveSameLines (e ∷ h) [] = ⊥

-- the history without the callers' numbers
abbrev pub without_callers : List NodeEntry → List NodeEntry
without_callers [] = []
without_callers (e ∷ h) = record { node = e.node; entry = record { time = e.entry.time; caller = 0; event = e.entry.event } } ∷ without_callers h
