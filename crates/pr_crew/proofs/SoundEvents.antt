-- A flow that ended as over a sound wire tells of no wire that failed or ended.
use Rattle.std.proofs.Common.{◌≡◌, ◌≢◌, ℕ, ◌-◌, List, [], ◌∷◌, Result, Ok, refl, sym, subst}
use Rattle.std.specs.Prelude.{All, Option, Some, None}
use Rattle.std.specs.List.{AllByRecursion}
use Rattle.std.proofs.lemmas.List.Elements.{All-cons, All-nil}
use Rattle.pr_flow.specs.declared.flow_end.FlowEnd.{FlowEnd}
use Rattle.pr_flow.specs.declared.flow_end.FlowEnd.TheVariants as ends
use Rattle.pr_flow.specs.Calls.{Call}
use Rattle.pr_flow.specs.Ending.{IsSoundEnd}
use Rattle.pr_flow.specs.Flows.{Ends, EndsBehindGap, Rest, Sides}
use Rattle.pr_flow.specs.Sound.{IsSoundEvent}
use Rattle.pr_inval.specs.declared.msg.Msg.{Msg}
use Rattle.pr_inval.specs.declared.node_fault.NodeFault.{NodeFault}
use Rattle.pr_story.specs.declared.cause.Cause.{Cause}
use Rattle.pr_story.specs.declared.cause.Cause.TheVariants.{Failed, Ended, Gap}
use Rattle.pr_story.specs.declared.entry.Entry.{Entry}
use Rattle.pr_story.specs.declared.event.Event.{Event}
use Rattle.pr_story.specs.declared.event.Event.TheVariants.{Sent, Idle, Stale, Accepted, Gapped, Down}
use Rattle.pr_story.specs.Merging.{New, plain}
use Rattle.pr_story.specs.Scripts.{events_of}

abbrev AreSound : List Event → Type 0
AreSound events = AllByRecursion IsSoundEvent events

no_cut : (cause : Cause) (end : Result FlowEnd NodeFault) → cause ≢ Gap → end ≡ Ok (ends.Down cause) → IsSoundEnd end → ⊥
no_cut Failed end no_gap is sound = subst (λ (r : Result FlowEnd NodeFault). IsSoundEnd r) is sound
no_cut Ended end no_gap is sound = subst (λ (r : Result FlowEnd NodeFault). IsSoundEnd r) is sound
no_cut Gap end no_gap is sound = no_gap refl

module _ {A B : Type 0} (made_a : A → List Entry) (act_a : A → Call → Option NodeFault → A → Type 0) (made_b : B → List Entry) (act_b : B → Call → Option NodeFault → B → Type 0)
    (s : ℕ) (rest : Rest) (x y : Sides A B) where
  behind_gap : (events : List Event) (end : Result FlowEnd NodeFault) → EndsBehindGap made_a act_a made_b act_b s events end rest x y → AreSound events
  behind_gap [] end e = tt
  behind_gap (event ∷ events) end e = (subst (λ (v : Event). IsSoundEvent v) (sym e.0) tt, subst (λ (l : List Event). AreSound l) (sym e.1) tt)

  pub sound_events : (under : Option Msg) (turns : ℕ) (events : List Event) (end : Result FlowEnd NodeFault) → IsSoundEnd end → Ends made_a act_a made_b act_b s under turns events end rest x y → AreSound events
  sound_events None turns [] end sound e = tt
  sound_events None turns (Idle t ∷ events) end sound e = (tt, sound_events None (turns - 1) events end sound e.2)
  sound_events None turns (Stale t cut ∷ events) end sound e = (tt, subst (λ (l : List Event). AreSound l) (sym e.2) tt)
  sound_events None turns (Sent m ∷ events) end sound e = (tt, sound_events (Some m) (turns - 1) events end sound e.3)
  sound_events (Some m) turns [] end sound e = tt
  sound_events (Some m) turns (Accepted n at ∷ events) end sound e = (tt, sound_events None turns events end sound e.1)
  sound_events (Some m) turns (Gapped n has ∷ events) end sound e = (tt, behind_gap events end e.1)
  sound_events (Some m) turns (Down t cause ∷ events) end sound e = absurd (no_cut cause end e.1 e.3 sound)
  sound_events under turns (event ∷ events) end sound e = absurd e

-- so do the entries that its job made
pub sound_made : (xs : List New) → AreSound (events_of (plain xs)) → All (λ (x : New). IsSoundEvent x.made.entry.event) xs
sound_made [] all = All-nil (λ (x : New). IsSoundEvent x.made.entry.event)
sound_made (x ∷ xs) all = All-cons (λ (y : New). IsSoundEvent y.made.entry.event) x xs all.0 (sound_made xs all.1)
