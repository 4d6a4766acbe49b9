-- What comes of a message that was taken, and of a wire that was cut, at the destination.
use Rattle.std.specs.Prelude.{◌≡◌, ◌⊎◌, ℕ, List, Option, Some, None, Result, Ok, Err}
use Rattle.pr_inval.specs.declared.msg.Msg.{Msg}
use Rattle.pr_inval.specs.declared.node_fault.NodeFault.{NodeFault}
use Rattle.pr_inval.specs.Standing.{SessionMeaning}
use Rattle.pr_story.specs.declared.cause.Cause.{Cause}
use Rattle.pr_story.specs.declared.cause.Cause.TheVariants.{Gap}
use Rattle.pr_story.specs.declared.entry.Entry.{Entry}
use Rattle.pr_story.specs.declared.event.Event.TheVariants.{Accepted, Gapped, Down}
use Rattle.pr_flow.specs.declared.flow_end.FlowEnd.{FlowEnd}
use Rattle.pr_flow.specs.declared.flow_end.FlowEnd.TheVariants as ends
use Rattle.pr_flow.specs.Calls.{Call, HasEnded, HasNotEnded, HasNotTaken, HasTaken, entry_of}

module _ {S : Type 0} (made : S → List Entry) (act : S → Call → Option NodeFault → S → Type 0) where
  -- the flow went down, or this was refused
  abbrev pub GoesDown : S → SessionMeaning → Cause → S → SessionMeaning → Result (Option FlowEnd) NodeFault → Type 0
  GoesDown x a cause y b (Ok None) = ⊥
  GoesDown x a cause y b (Ok (Some end)) =
      (end ≡ ends.Down cause)
      × ((time : ℕ) × (caller : ℕ) × HasEnded made act x a cause (entry_of time caller (Down a.stream cause)) y b)
  GoesDown x a cause y b (Err fault) = HasNotEnded made act x a cause fault y b

  -- there was a gap
  abbrev pub IsGap : S → SessionMeaning → Msg → S → SessionMeaning → Result (Option FlowEnd) NodeFault → Type 0
  IsGap x a m y b end =
      (z : S) × (c : SessionMeaning) × (time : ℕ) × (caller : ℕ) × (has : List ℕ)
      × HasTaken made act x a m (entry_of time caller (Gapped m has)) z c × GoesDown z c Gap y b end

  -- the message was accepted, it lies behind a gap, or it was refused
  abbrev pub Takes : S → SessionMeaning → Msg → S → SessionMeaning → Result (Option FlowEnd) NodeFault → Type 0
  Takes x a m y b (Ok None) =
      (time : ℕ) × (caller : ℕ) × (at : List ℕ) × HasTaken made act x a m (entry_of time caller (Accepted m at)) y b
  Takes x a m y b (Ok (Some end)) = IsGap x a m y b (Ok (Some end))
  Takes x a m y b (Err fault) = HasNotTaken made act x a m fault y b ⊎ IsGap x a m y b (Err fault)
