-- A flow, by its turns.
use Rattle.std.proofs.Common.{◌≡◌, ◌-◌, ℕ, List, Option, Some, None, Result, Ok, Err, refl, sym, subst, ◌∙◌, arith}
use Rattle.pr_wires.specs.Calls.{WireState}
use Rattle.pr_inval.specs.declared.node_fault.NodeFault.{NodeFault}
use Rattle.pr_inval.specs.Standing.{SessionMeaning}
use Rattle.pr_story.specs.declared.entry.Entry.{Entry}
use Rattle.pr_flow.specs.declared.flow_end.FlowEnd.{FlowEnd}
use Rattle.pr_flow.specs.declared.flow_end.FlowEnd.TheVariants as ends
use Rattle.pr_flow.specs.Calls.{Call}
use Rattle.pr_flow.specs.Ending.{GoesOn, TurnEnds}
use Rattle.pr_flow.specs.Flows.{Flows, Leads, Sides, SomeFlow, TurnFlows, events_of}
use Rattle.pr_flow.proofs.Scripted.{is_of_script}
use Rattle.pr_flow.proofs.Turns.{done_ends, leads_more}

pub is_none : {X : Type 0} (x : Option X) → ((y : X) → x ≡ Some y → ⊥) → x ≡ None
is_none None other = refl
is_none (Some y) other = absurd (other y refl)

pub goes_more : (a b c : WireState) (x y z : SessionMeaning) → GoesOn a b x y → GoesOn b c y z → GoesOn a c x z
goes_more a b c x y z p q = record {
  faults = omega (arith, p.faults, q.faults);
  ends = omega (arith, p.ends, q.ends);
  sound = λ s. q.sound (p.sound s);
  held = λ e. p.held (q.held e);
  under = q.under;
  stream = q.stream ∙ p.stream;
  attached = q.attached ∙ p.attached;
}

pub goes_on : (a b : WireState) (x y : SessionMeaning) (r : Option FlowEnd) → TurnEnds a b x y (Ok r) → r ≡ None → GoesOn a b x y
goes_on a b x y r turned is = subst (λ (o : Option FlowEnd). TurnEnds a b x y (Ok o)) is turned

module _ {A B : Type 0} (made_a : A → List Entry) (act_a : A → Call → Option NodeFault → A → Type 0)
    (made_b : B → List Entry) (act_b : B → Call → Option NodeFault → B → Type 0) where
  -- so far, and then one more turn
  pub one_more : (s stream turns left : ℕ) (x z w : Sides A B) (g g1 g2 t t1 t2 : Option (List ℕ)) (r : Option FlowEnd) → stream ≡ s → Leads made_a act_a made_b act_b s turns left x z g g1 t t1 → TurnFlows made_a act_a made_b act_b stream left z w g1 g2 t1 t2 (Ok r) → r ≡ None → Leads made_a act_a made_b act_b s turns (left - 1) x w g g2 t t2
  one_more s stream turns left x z w g g1 g2 t t1 t2 r same leads turned is =
      let none = subst (λ (o : Option FlowEnd). TurnFlows made_a act_a made_b act_b stream left z w g1 g2 t1 t2 (Ok o)) is turned in
      leads_more made_a act_a made_b act_b s turns left (left - 1) x z w g g1 g2 t t1 t2 leads
      (subst (λ (k : ℕ). Leads made_a act_a made_b act_b k left (left - 1) z w g1 g2 t1 t2) same none)

  whole : (s stream turns left : ℕ) (x z y : Sides A B) (g g1 g2 t t1 t2 : Option (List ℕ)) (end : Result FlowEnd NodeFault) → stream ≡ s → Leads made_a act_a made_b act_b s turns left x z g g1 t t1 → SomeFlow made_a act_a made_b act_b stream None left z y g1 g2 t1 t2 end → Flows made_a act_a made_b act_b s turns x y g g2 t t2 end
  whole s stream turns left x z y g g1 g2 t t1 t2 end same leads last =
      let f = leads y g2 t2 end (subst (λ (k : ℕ). SomeFlow made_a act_a made_b act_b k None left z y g1 g2 t1 t2 end) same last) in
      (f.0, f.1, f.2, is_of_script made_a act_a made_b act_b s f.1 f.2.calls.0 y turns (events_of f.0) end f.2.calls.2)

  pub ended : (s stream turns left : ℕ) (x z y : Sides A B) (g g1 g2 t t1 t2 : Option (List ℕ)) (r : Option FlowEnd) (end : FlowEnd) → stream ≡ s → Leads made_a act_a made_b act_b s turns left x z g g1 t t1 → TurnFlows made_a act_a made_b act_b stream left z y g1 g2 t1 t2 (Ok r) → r ≡ Some end → Flows made_a act_a made_b act_b s turns x y g g2 t t2 (Ok end)
  ended s stream turns left x z y g g1 g2 t t1 t2 r end same leads turned is =
      whole s stream turns left x z y g g1 g2 t t1 t2 (Ok end) same leads (subst (λ (o : Option FlowEnd). TurnFlows made_a act_a made_b act_b stream left z y g1 g2 t1 t2 (Ok o)) is turned)

  pub failed : (s stream turns left : ℕ) (x z y : Sides A B) (g g1 g2 t t1 t2 : Option (List ℕ)) (fault : NodeFault) (end : Result FlowEnd NodeFault) → stream ≡ s → Leads made_a act_a made_b act_b s turns left x z g g1 t t1 → SomeFlow made_a act_a made_b act_b stream None left z y g1 g2 t1 t2 (Err fault) → end ≡ Err fault → Flows made_a act_a made_b act_b s turns x y g g2 t t2 end
  failed s stream turns left x z y g g1 g2 t t1 t2 fault end same leads last is =
      subst (λ (e : Result FlowEnd NodeFault). Flows made_a act_a made_b act_b s turns x y g g2 t t2 e) (sym is)
      (whole s stream turns left x z y g g1 g2 t t1 t2 (Err fault) same leads last)

  pub finished : (s turns left : ℕ) (x z : Sides A B) (g g1 t t1 : Option (List ℕ)) → left ≡ 0 → Leads made_a act_a made_b act_b s turns left x z g g1 t t1 → Flows made_a act_a made_b act_b s turns x z g g1 t t1 (Ok ends.Done)
  finished s turns left x z g g1 t t1 none leads =
      whole s s turns left x z z g g1 g1 t t1 t1 (Ok ends.Done) refl leads
      (subst (λ (k : ℕ). SomeFlow made_a act_a made_b act_b s None k z z g1 g1 t1 t1 (Ok ends.Done)) (sym none) (done_ends made_a act_a made_b act_b s z g1 t1))
