-- What is told of flows whose wires are sound.
use Rattle.std.specs.Prelude.{List}
use Rattle.std.specs.List.{AllByRecursion}
use Rattle.pr_story.specs.declared.cause.Cause.TheVariants.{Failed, Ended}
use Rattle.pr_story.specs.declared.event.Event.{Event}
use Rattle.pr_story.specs.declared.event.Event.TheVariants.{Down}
use Rattle.pr_story.specs.History.{NodeEntry}

-- the event does not say that a flow went down as its wire failed or ended
abbrev pub IsSoundEvent : Event → Type 0
IsSoundEvent (Down s Failed) = ⊥
IsSoundEvent (Down s Ended) = ⊥
IsSoundEvent event = Unit {0}

-- no entry says so
abbrev pub AreSoundEvents : List NodeEntry → Type 0
AreSoundEvents es = AllByRecursion (λ (e : NodeEntry). IsSoundEvent e.entry.event) es
