-- Where one thread runs a script, the script alone determines the history.
use Rattle.std.specs.Prelude.{ℕ, List, [], ◌∷◌, ◌≡◌}
use Rattle.pr_story.specs.declared.cause.Cause.TheVariants.{Gap}
use Rattle.pr_story.specs.declared.event.Event.{Event}
use Rattle.pr_story.specs.declared.event.Event.TheVariants.{Down}
use Rattle.pr_story.specs.History.{NodeEntry}

-- no wire ended and none failed: a flow goes down by a gap alone
abbrev pub IsByNoWire : Event → Type 0
IsByNoWire (Down s cause) = cause ≡ Gap
IsByNoWire _ = Unit {0}

-- this caller made all entries, and no wire ended or failed
abbrev pub IsUndisturbed : ℕ → List NodeEntry → Type 0
IsUndisturbed caller [] = Unit {0}
IsUndisturbed caller (e ∷ h) = ((e.entry.caller ≡ caller) × IsByNoWire e.entry.event) × IsUndisturbed caller h
