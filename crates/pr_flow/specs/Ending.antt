-- How a flow, or a turn of it, ends by its wire.
use Rattle.std.specs.Prelude.{◌≡◌, ◌≤◌, ℕ, List, IsTrue, Option, Some, None, Result, Ok, Err}
use Rattle.pr_wires.specs.Calls.{WireState}
use Rattle.pr_ports.specs.Faults.{HasRisen}
use Rattle.pr_inval.specs.declared.node_fault.NodeFault.{NodeFault}
use Rattle.pr_inval.specs.Standing.{SessionMeaning}
use Rattle.pr_story.specs.declared.cause.Cause.TheVariants.{Failed, Ended, Gap}
use Rattle.pr_flow.specs.declared.flow_end.FlowEnd.{FlowEnd}
use Rattle.pr_flow.specs.declared.flow_end.FlowEnd.TheVariants as ends

-- Down for a failure, or an end, of the wire comes only where that count rose
abbrev pub IsCutBy : WireState → WireState → Result FlowEnd NodeFault → Type 0
IsCutBy a b (Ok (ends.Down Failed)) = HasRisen a.faults b.faults
IsCutBy a b (Ok (ends.Down Ended)) = HasRisen a.ends b.ends
IsCutBy a b _ = Unit {0}

-- the answers over a wire that is sound
abbrev pub IsSoundEnd : Result FlowEnd NodeFault → Type 0
IsSoundEnd (Ok (ends.Down Failed)) = ⊥
IsSoundEnd (Ok (ends.Down Ended)) = ⊥
IsSoundEnd (Ok (ends.Lied number sent got)) = ⊥
IsSoundEnd _ = Unit {0}

-- other bytes are taken only where the wire does not tell what it holds
abbrev pub IsUntold : Option (List ℕ) → Result FlowEnd NodeFault → Type 0
IsUntold held (Ok (ends.Lied number sent got)) = held ≡ None
IsUntold held _ = Unit {0}

-- nothing is under way after these ends
abbrev pub IsClean : ℕ → Result FlowEnd NodeFault → Type 0
IsClean under (Ok ends.Done) = under ≡ 0
IsClean under (Ok ends.Stale) = under ≡ 0
IsClean under (Ok (ends.Down Gap)) = under ≡ 0
IsClean under _ = Unit {0}

-- what the wire says of how a flow ended, which began while nothing was under way
pub record EndsByWire (a b : WireState) (end : Result FlowEnd NodeFault) : Type 0 where
  pub faults : a.faults ≤ b.faults
  pub ends : a.ends ≤ b.ends
  pub cut : IsCutBy a b end
  pub sound : IsTrue a.sound → IsTrue b.sound × IsSoundEnd end
  pub lied : IsUntold a.held end
  pub clean : IsClean b.under end

-- the flow goes on after a turn
pub record GoesOn (a b : WireState) (before now : SessionMeaning) : Type 0 where
  pub faults : a.faults ≤ b.faults
  pub ends : a.ends ≤ b.ends
  pub sound : IsTrue a.sound → IsTrue b.sound
  pub held : b.held ≡ None → a.held ≡ None
  pub under : b.under ≡ 0
  pub stream : now.stream ≡ before.stream
  pub attached : now.attached ≡ before.attached

-- how a turn ends by its wire
abbrev pub TurnEnds : WireState → WireState → SessionMeaning → SessionMeaning → Result (Option FlowEnd) NodeFault
    → Type 0
TurnEnds a b before now (Ok None) = GoesOn a b before now
TurnEnds a b before now (Ok (Some end)) = EndsByWire a b (Ok end)
TurnEnds a b before now (Err fault) = EndsByWire a b (Err fault)
