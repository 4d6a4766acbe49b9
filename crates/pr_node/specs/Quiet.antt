-- Events that tell their node of nothing.
use Rattle.pr_story.specs.declared.event.Event.{Event}
use Rattle.pr_story.specs.declared.event.Event.TheVariants.{Wrote, Accepted, Cut, Dropped}

abbrev pub IsQuiet : Event → Type 0
IsQuiet (Wrote client write body after) = ⊥
IsQuiet (Accepted msg at) = ⊥
IsQuiet (Cut at) = ⊥
IsQuiet (Dropped name) = ⊥
IsQuiet _ = Unit {0}
