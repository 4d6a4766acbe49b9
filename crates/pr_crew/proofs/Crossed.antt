-- What a flow took crossed its wire.
use Rattle.std.proofs.Common.{◌≡◌, ◌≢◌, ◌⊎◌, ℕ, ◌≤◌, ◌-◌, List, [], ◌∷◌, ◌++◌, Result, Ok, Err, inl, inr, refl, sym, ap, ◌∙◌, subst, length, take, arith}
use Rattle.std.specs.Prelude.{Option, Some, None}
use Rattle.std.specs.Io.{StartsWith}
use Rattle.std.proofs.lemmas.List.{length-take, take-take}
use Rattle.pr_flow.specs.declared.flow_end.FlowEnd.{FlowEnd}
use Rattle.pr_flow.specs.declared.flow_end.FlowEnd.TheVariants as ends
use Rattle.pr_flow.specs.Calls.{Call}
use Rattle.pr_flow.specs.Crossing.{IsCutShort}
use Rattle.pr_flow.specs.Flows.{Ends, EndsAtRest, EndsBehindGap, EndsOnTheWay, IsWhole, Rest, Sides, crossed}
use Rattle.pr_flow.specs.Moving.{IsPart}
use Rattle.pr_inval.specs.declared.msg.Msg.{Msg}
use Rattle.pr_inval.specs.declared.node_fault.NodeFault.{NodeFault}
use Rattle.pr_story.specs.declared.cause.Cause.{Cause}
use Rattle.pr_story.specs.declared.cause.Cause.TheVariants.{Failed, Ended, Gap}
use Rattle.pr_story.specs.declared.entry.Entry.{Entry}
use Rattle.pr_story.specs.declared.event.Event.{Event}
use Rattle.pr_story.specs.declared.event.Event.TheVariants.{Sent, Idle, Stale, Accepted, Gapped, Down}
use Rattle.pr_wire.specs.Spelling.{spelling}
use Rattle.pr_wire.specs.declared.format.Format.TheVariants.{Two}
use Rattle.pr_wires.specs.Calls.{Grows, IsEmptyIfTold}
use Rattle.pr_crew.specs.Crossing.{IsTakenFor}

-- a beginning of a beginning is one
part_begins : (piece put got : List ℕ) → IsPart piece put got → StartsWith piece got
part_begins piece put got (front, part) =
    let all : length (take (length got) put) ≡ length got = ap (λ (xs : List ℕ). length xs) part in
    let few = length-take (length got) put in
    let fits : length got ≤ length put = omega (arith, all, few) in
    sym (take-take (length got) (length put) piece fits) ∙ ap (λ (xs : List ℕ). take (length got) xs) front ∙ part

-- what was taken of the message that did not come whole: nothing, or a beginning of the one that was cut off
abbrev IsRest : ℕ → Option Msg → List Event → List ℕ → Type 0
IsRest s under events part = (part ≡ []) ⊎ (IsCutShort s under Failed events part ⊎ IsCutShort s under Ended events part)

cut_behind : (s : ℕ) (cause : Cause) (event : Event) (events : List Event) (part : List ℕ) → IsCutShort s None cause events part → IsCutShort s None cause (event ∷ events) part
cut_behind s cause event events part (msg, before, is, starts) = (msg, event ∷ before, ap (λ (vs : List Event). event ∷ vs) is, starts)

rest_behind : (s : ℕ) (event : Event) (events : List Event) (part : List ℕ) → IsRest s None events part → IsRest s None (event ∷ events) part
rest_behind s event events part (inl none) = inl none
rest_behind s event events part (inr (inl cut)) = inr (inl (cut_behind s Failed event events part cut))
rest_behind s event events part (inr (inr cut)) = inr (inr (cut_behind s Ended event events part cut))

module _ {A B : Type 0} (made_a : A → List Entry) (act_a : A → Call → Option NodeFault → A → Type 0) (made_b : B → List Entry) (act_b : B → Call → Option NodeFault → B → Type 0)
    (s : ℕ) (rest : Rest) (x y : Sides A B) where
  at_rest : (turns : ℕ) (end : FlowEnd) → EndsAtRest made_a act_a made_b act_b turns (Ok end) rest x y → rest.got ≡ []
  at_rest turns ends.Done e = e.1.1
  at_rest turns ends.Stale e = absurd e
  at_rest turns (ends.Down cause) e = absurd e
  at_rest turns (ends.Lied number sent got) e = absurd e

  not_whole : (m : Msg) (end : FlowEnd) → IsWhole (Ok end) → EndsOnTheWay made_a act_a made_b act_b m (Ok end) rest x y → ⊥
  not_whole m ends.Done whole e = e
  not_whole m ends.Stale whole e = e
  not_whole m (ends.Down cause) whole e = e
  not_whole m (ends.Lied number sent got) whole e = whole

  behind_gap : (events : List Event) (end : FlowEnd) → EndsBehindGap made_a act_a made_b act_b s events (Ok end) rest x y → rest.got ≡ []
  behind_gap [] end e = absurd e
  behind_gap (event ∷ events) end e = e.3.1

  cut_off : (m : Msg) (t : ℕ) (cause : Cause) (events : List Event) → t ≡ s → cause ≢ Gap → events ≡ [] → IsPart (spelling Two m) rest.put rest.got → IsRest s None (Sent m ∷ Down t cause ∷ events) rest.got
  cut_off m t Failed events of no_gap none part = inr (inl (m, [], λ i. Sent m ∷ Down (of i) Failed ∷ none i, part_begins (spelling Two m) rest.put rest.got part))
  cut_off m t Ended events of no_gap none part = inr (inr (m, [], λ i. Sent m ∷ Down (of i) Ended ∷ none i, part_begins (spelling Two m) rest.put rest.got part))
  cut_off m t Gap events of no_gap none part = absurd (no_gap refl)

  rest_of : (under : Option Msg) (turns : ℕ) (events : List Event) (end : FlowEnd) → IsWhole (Ok end) → Ends made_a act_a made_b act_b s under turns events (Ok end) rest x y → IsRest s under events rest.got
  rest_of None turns [] end whole e = inl (at_rest turns end e)
  rest_of None turns (Idle t ∷ events) end whole e = rest_behind s (Idle t) events rest.got (rest_of None (turns - 1) events end whole e.2)
  rest_of None turns (Stale t cut ∷ events) end whole e = inl e.4.1
  rest_of None turns (Sent m ∷ events) end whole e = rest_of (Some m) (turns - 1) events end whole e.3
  rest_of (Some m) turns [] end whole e = absurd (not_whole m end whole e)
  rest_of (Some m) turns (Accepted n at ∷ events) end whole e =
      rest_behind s (Sent m) (Accepted n at ∷ events) rest.got (rest_behind s (Accepted n at) events rest.got (rest_of None turns events end whole e.1))
  rest_of (Some m) turns (Gapped n has ∷ events) end whole e = inl (behind_gap events end e.1)
  rest_of (Some m) turns (Down t cause ∷ events) end whole e = cut_off m t cause events e.0 e.1 e.2 e.4
  rest_of under turns (event ∷ events) end whole e = absurd e

  -- over a wire a flow does not begin with its end
  not_at_once : (turns : ℕ) (events : List Event) (end : FlowEnd) → Ends made_a act_a made_b act_b s None turns events (Ok end) rest x y → events ≢ Down s Failed ∷ []
  not_at_once turns events end e is = subst (λ (vs : List Event). Ends made_a act_a made_b act_b s None turns vs (Ok end) rest x y) is e

  taken_for : (events : List Event) (was now : Option (List ℕ)) → IsEmptyIfTold was → Grows was now (crossed events ++ rest.got) → IsRest s None events rest.got → IsTakenFor s events now
  taken_for events None now empty grows left = subst (λ (o : Option (List ℕ)). IsTakenFor s events o) (sym grows) tt
  taken_for events (Some front) now empty grows left =
      subst (λ (o : Option (List ℕ)). IsTakenFor s events o) (sym grows) (rest.got, ap (λ (xs : List ℕ). xs ++ (crossed events ++ rest.got)) empty, left)

  pub crossed_over : (turns : ℕ) (events : List Event) (end : Result FlowEnd NodeFault) (was now : Option (List ℕ)) → IsWhole end → IsEmptyIfTold was → Ends made_a act_a made_b act_b s None turns events end rest x y
      → Grows was now (crossed events ++ rest.got) → (events ≢ Down s Failed ∷ []) × IsTakenFor s events now
  crossed_over turns events (Ok end) was now whole empty e grows =
      (not_at_once turns events end e, taken_for events was now empty grows (rest_of None turns events end whole e))
  crossed_over turns events (Err fault) was now whole empty e grows = absurd whole
