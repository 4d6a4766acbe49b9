-- What a flow leaves of its session.
use Rattle.std.proofs.Common.{◌≡◌, ◌-◌, ℕ, List, [], ◌∷◌, Option, Some, None, Result, Ok, Err, inl, inr, refl, sym, subst, ap, ◌∙◌}
use Rattle.pr_inval.specs.declared.msg.Msg.{Msg}
use Rattle.pr_inval.specs.declared.node_fault.NodeFault.{NodeFault}
use Rattle.pr_inval.specs.Standing.{HasHeard, IsSameSession, SessionMeaning, Standing}
use Rattle.pr_story.specs.declared.entry.Entry.{Entry}
use Rattle.pr_story.specs.declared.event.Event.{Event}
use Rattle.pr_story.specs.declared.event.Event.TheVariants.{Sent, Idle, Stale, Accepted, Gapped, Down}
use Rattle.pr_flow.specs.declared.flow_end.FlowEnd.{FlowEnd}
use Rattle.pr_flow.specs.declared.flow_end.FlowEnd.TheVariants as ends
use Rattle.pr_flow.specs.Calls.{Call, HasStepped, IsKept}
use Rattle.pr_flow.specs.Flows.{Calls, Ends, EndsAtRest, EndsBehindGap, EndsOnTheWay, Flows, IsStuck, Makes, Rest, Sides, events_of}

kept_more : (a b c : SessionMeaning) → IsKept a b → IsKept b c → IsKept a c
kept_more a b c p q = record {
  stream = q.stream ∙ p.stream;
  attached = q.attached ∙ p.attached;
  names = q.names ∙ p.names;
  bodies = q.bodies ∙ p.bodies;
}

kept_stepped : (a b : SessionMeaning) (e : Entry) → HasStepped a b e → IsKept a b
kept_stepped a b e p = record { stream = p.stream; attached = p.is_attached; names = p.after.names; bodies = p.after.bodies }

kept_heard : (a b : SessionMeaning) (time : ℕ) → HasHeard a b time → IsKept a b
kept_heard a b time p = record { stream = p.stream; attached = p.attached; names = p.names; bodies = p.bodies }

kept_same : (a b : SessionMeaning) → IsSameSession a b → IsKept a b
kept_same a b p = record {
  stream = p.stream;
  attached = p.attached;
  names = ap (λ (s : Standing). s.names) p.standing;
  bodies = ap (λ (s : Standing). s.bodies) p.standing;
}

kept : (a : SessionMeaning) → IsKept a a
kept a = record { stream = refl; attached = refl; names = refl; bodies = refl }

module _ {A B : Type 0} (made_a : A → List Entry) (act_a : A → Call → Option NodeFault → A → Type 0)
    (made_b : B → List Entry) (act_b : B → Call → Option NodeFault → B → Type 0) where
  same_sides : (x y : Sides A B) → y ≡ x → IsKept x.session y.session
  same_sides x y e = subst (λ (z : Sides A B). IsKept x.session z.session) (sym e) (kept x.session)

  one : (event : Event) (x y : Sides A B) (e : Entry) → Makes made_a act_a made_b act_b event x e y → IsKept x.session y.session
  one (Sent m) x y e made = kept_stepped x.session y.session e made.0.session
  one (Idle s) x y e made = kept_stepped x.session y.session e made.0.session
  one (Stale s cut) x y e made = kept_stepped x.session y.session e made.0.session
  one (Accepted m at) x y e made = kept_heard x.session y.session e.time made.0.session
  one (Gapped m has) x y e made = kept_heard x.session y.session e.time made.0.session
  one (Down s cause) x y e made = kept_stepped x.session y.session e made.0.session
  one _ x y e made = absurd made

  all : (es : List Entry) (x y : Sides A B) → Calls made_a act_a made_b act_b x es y → IsKept x.session y.session
  all [] x y calls = same_sides x y calls
  all (e ∷ es) x y calls =
      kept_more x.session calls.0.session y.session (one e.event x calls.0 e calls.1) (all es calls.0 y calls.2)

  stuck : (m : Msg) (fault : NodeFault) (rest : Rest) (x y : Sides A B) → IsStuck made_a act_a made_b act_b m fault rest x y → IsKept x.session y.session
  stuck m fault rest x y e =
      elim e [
        | inl taking ↦ subst (λ (s : SessionMeaning). IsKept x.session s) (sym taking.2.session) (kept x.session)
        | inr other ↦ elim other [ inl ending ↦ kept_same x.session y.session ending.1.2.session | inr none ↦ same_sides x y none.2 ]
      ]

  at_rest : (turns : ℕ) (end : Result FlowEnd NodeFault) (rest : Rest) (x y : Sides A B) → EndsAtRest made_a act_a made_b act_b turns end rest x y → IsKept x.session y.session
  at_rest turns (Ok ends.Done) rest x y e = same_sides x y e.2
  at_rest turns (Ok _) rest x y e = absurd e
  at_rest turns (Err fault) rest x y e = kept_same x.session y.session e.2.session

  on_the_way : (m : Msg) (end : Result FlowEnd NodeFault) (rest : Rest) (x y : Sides A B) → EndsOnTheWay made_a act_a made_b act_b m end rest x y → IsKept x.session y.session
  on_the_way m (Ok (ends.Lied number sent got)) rest x y e = same_sides x y e.3
  on_the_way m (Ok _) rest x y e = absurd e
  on_the_way m (Err fault) rest x y e = stuck m fault rest x y e

  behind_gap : (s : ℕ) (events : List Event) (end : Result FlowEnd NodeFault) (rest : Rest) (x y : Sides A B) → EndsBehindGap made_a act_a made_b act_b s events end rest x y → IsKept x.session y.session
  behind_gap s [] (Ok end) rest x y e = absurd e
  behind_gap s [] (Err fault) rest x y e = kept_same x.session y.session e.1.session
  behind_gap s (event ∷ events) end rest x y e = same_sides x y e.4

  last : (s : ℕ) (under_way : Option Msg) (turns : ℕ) (events : List Event) (end : Result FlowEnd NodeFault) (rest : Rest) (x y : Sides A B) → Ends made_a act_a made_b act_b s under_way turns events end rest x y → IsKept x.session y.session
  last s None turns [] end rest x y e = at_rest turns end rest x y e
  last s None turns (Idle t ∷ events) end rest x y e = last s None (turns - 1) events end rest x y e.2
  last s None turns (Stale t cut ∷ events) end rest x y e = same_sides x y e.5
  last s None turns (Sent m ∷ events) end rest x y e = last s (Some m) (turns - 1) events end rest x y e.3
  last s (Some m) turns [] end rest x y e = on_the_way m end rest x y e
  last s (Some m) turns (Accepted n at ∷ events) end rest x y e = last s None turns events end rest x y e.1
  last s (Some m) turns (Gapped n has ∷ events) end rest x y e = behind_gap s events end rest x y e.1
  last s (Some m) turns (Down t cause ∷ events) end rest x y e = same_sides x y e.5
  last s under_way turns _ end rest x y e = absurd e

  pub flow_keeps : (s turns : ℕ) (x y : Sides A B) (g g1 t t1 : Option (List ℕ)) (end : Result FlowEnd NodeFault) → Flows made_a act_a made_b act_b s turns x y g g1 t t1 end → IsKept x.session y.session
  flow_keeps s turns x y g g1 t t1 end flow =
      let calls = flow.2.calls in
      kept_more x.session calls.0.session y.session (all flow.0 x calls.0 calls.1) (last s None turns (events_of flow.0) end flow.1 calls.0 y calls.2)
