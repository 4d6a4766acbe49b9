-- Journals that tell of nothing but what the grammar of messages allows (docs/WIRE.md).
use Rattle.std.specs.Prelude.{List, [], ◌∷◌, ◌≡◌, ◌≤◌, length}
use Rattle.pr_stamps.specs.Point.{IsStamp, IsPrev}
use Rattle.pr_inval.specs.declared.kind.Kind.{Kind}
use Rattle.pr_inval.specs.declared.kind.Kind.TheVariants.{Body}
use Rattle.pr_inval.specs.declared.step.Step.{Step}
use Rattle.pr_inval.specs.declared.step.Step.TheVariants as step
use Rattle.pr_story.specs.declared.entry.Entry.{Entry}
use Rattle.pr_story.specs.declared.event.Event.{Event}
use Rattle.pr_story.specs.declared.event.Event.TheVariants.{Wrote, Accepted, Cut}
use Rattle.pr_story.specs.History.{current_vector}
use Rattle.pr_story.specs.Ranges.{IsBytes}
use Rattle.pr_inval.specs.Messages.{IsKind, IsMessage}

-- what the event tells after the journal j: a write past the newest one that it follows, with a body of at most 65,536
-- bytes; a message of the grammar; or a cut at the vector
abbrev pub IsSpelledEvent : List Entry → Event → Type 0
IsSpelledEvent j (Wrote client write body after) = IsStamp write.stamp × IsPrev write.prev write.stamp × (length body ≤ 65536)
IsSpelledEvent j (Accepted msg at) = IsKind msg.kind
IsSpelledEvent j (Cut at) = at ≡ current_vector j
IsSpelledEvent j _ = Unit {0}

abbrev pub IsSpelled : List Entry → Type 0
IsSpelled [] = Unit {0}
IsSpelled (e ∷ j) = IsSpelledEvent j e.event × IsSpelled j

-- the message that the step sends, if it sends one, is one of the grammar
abbrev pub IsStepSpelled : Step → Type 0
IsStepSpelled (step.Sent msg) = IsMessage msg
IsStepSpelled _ = Unit {0}

-- a body's bytes are bytes
abbrev pub HasBytes : Kind → Type 0
HasBytes (Body name stamp bytes) = IsBytes bytes
HasBytes _ = Unit {0}
