-- The calls of a flow at a node's cell, as its turns see them.
use Rattle.std.proofs.Common.{◌≡◌, ℕ, ◌≤◌, List, [], ◌∷◌, ◌++◌, Result, Ok, Err, IfOk, OnErr, inl, refl, sym, ap, ◌∙◌, subst, arith}
use Rattle.std.specs.Prelude.{Bool, true, IsTrue, Option, Some}
use Rattle.pr_cell.specs.Passes.{since}
use Rattle.pr_flow.specs.Calls.{AcceptMakes, Call, DownMakes, IsSending, TurnMakes, entry_of, fault_of}
use Rattle.pr_inval.specs.declared.msg.Msg.{Msg}
use Rattle.pr_inval.specs.declared.node_fault.NodeFault.{NodeFault}
use Rattle.pr_inval.specs.declared.step.Step.{Step}
use Rattle.pr_inval.specs.declared.step.Step.TheVariants as steps
use Rattle.pr_inval.specs.declared.taken.Taken.{Taken}
use Rattle.pr_inval.specs.declared.taken.Taken.TheVariants as takens
use Rattle.pr_inval.specs.Standing.{IsSameSession, SessionMeaning, Standing}
use Rattle.pr_node.specs.Calls.{IsDownFor, IsStep, IsTaken, IsTimeWorn}
use Rattle.pr_node.specs.Grammar.{IsStepSpelled}
use Rattle.pr_node.specs.Stored.{NodeMeaning}
use Rattle.pr_story.specs.declared.cause.Cause.{Cause}
use Rattle.pr_story.specs.declared.entry.Entry.{Entry}
use Rattle.pr_story.specs.declared.event.Event.{Event}
use Rattle.pr_story.specs.declared.event.Event.TheVariants.{Accepted, Down, Gapped}
use Rattle.pr_story.specs.History.{NodeEntry, Plan}
use Rattle.pr_story.specs.Sessions.{HasGoneOn}
use Rattle.pr_story.specs.Turns.{event_of}
use Rattle.pr_crew.specs.Acting.{Acts, AtCell, acts, given, heard, made_by, made_through, nothing, told}
use Rattle.pr_crew.specs.Jobs.{own}
use Rattle.pr_crew.specs.Making.{HasFailed, HasMade, IsCellOf, Makes, NodeCell, NodePass}
use Rattle.pr_crew.specs.Stories.{made}
use Rattle.pr_crew.proofs.MadeMore.{own_one, own_others}

pub told_made : (es : List Entry) → told (made es) ≡ es
told_made [] = refl
told_made (e ∷ es) = ap (λ (fs : List Entry). e ∷ fs) (told_made es)

of_seen : (p : NodePass) (es : List Entry) → since p.seat ≡ made es → made_by (Some p) ≡ own p.number es
of_seen p es is = ap (λ (xs : List _). own p.number (told xs)) is ∙ ap (own p.number) (told_made es)

module _ (plan : Plan) (h : List NodeEntry) (n : ℕ) (sessions : ℕ → Standing) (needs : ℕ → List ℕ) (p q : NodePass) where
  pub through_one : (P : Entry → Type 0) (f : HasMade plan h n sessions needs P p q) → made_by (Some q) ≡ made_by (Some p) ++ f.entry ∷ []
  through_one P f =
      of_seen q ((f.before ++ f.others) ++ f.entry ∷ []) f.now ∙ ap (λ (k : ℕ). own k ((f.before ++ f.others) ++ f.entry ∷ [])) f.same.number
      ∙ own_one p.number (f.before ++ f.others) f.entry f.by ∙ ap (λ (l : List Entry). l ++ f.entry ∷ []) (own_others p.number f.before f.others f.apart ∙ sym (of_seen p f.before f.was))

  pub through_none : (C : NodeMeaning → Type 0) (fault : NodeFault) → HasFailed plan h n C fault p q → made_by (Some q) ≡ made_by (Some p)
  through_none C fault f =
      of_seen q (f.before ++ f.others) f.now ∙ ap (λ (k : ℕ). own k (f.before ++ f.others)) f.same.number ∙ own_others p.number f.before f.others f.apart ∙ sym (of_seen p f.before f.was)

  -- the entry as its event says it is
  said : (P : Entry → Type 0) (f : HasMade plan h n sessions needs P p q) (event : Event) → f.entry.event ≡ event → made_by (Some q) ≡ made_by (Some p) ++ entry_of f.entry.time f.entry.caller event ∷ []
  said P f event is = through_one P f ∙ ap (λ (v : Event). made_by (Some p) ++ entry_of f.entry.time f.entry.caller v ∷ []) is

  step_event : (stream : ℕ) (answer : Step) (e : Entry) → IsStep stream answer e → e.event ≡ event_of stream answer
  step_event stream (steps.Sent msg) e is = is.0
  step_event stream steps.Idle e is = is
  step_event stream (steps.Stale cut) e is = is

  sends : (stream : ℕ) (answer : Step) (e : Entry) → IsStep stream answer e → IsStepSpelled answer → IsSending stream (event_of stream answer)
  sends stream (steps.Sent msg) e is spelled = record { message = spelled; stream = is.1; kind = is.2 }
  sends stream steps.Idle e is spelled = tt
  sends stream (steps.Stale cut) e is spelled = tt

  stepped : (a b : SessionMeaning) (attached : Bool) (e : Entry) (event : Event) → attached ≡ a.attached → e.event ≡ event → HasGoneOn a b attached e → HasGoneOn a b a.attached (entry_of e.time e.caller event)
  stepped a b attached e event same is on = subst (λ (z : Bool × Event). HasGoneOn a b z.0 (entry_of e.time e.caller z.1)) (λ i. (same i, is i)) on

  pub turn_makes : (x : AtCell) (C : NodeMeaning → Type 0) (a b : SessionMeaning) (r : Result Step NodeFault) → x.pass ≡ Some p → IsTrue a.attached
      → Makes plan h n sessions needs (λ answer e. IsStep a.stream answer e × HasGoneOn a b true e) C p q r → IfOk r IsStepSpelled → OnErr r (IsSameSession a b) → TurnMakes (made_through x) (made_by (Some q)) a b r
  turn_makes x C a b (Ok answer) at attached f spelled same =
      let is = step_event a.stream answer f.entry f.is.0 in (
        sends a.stream answer f.entry f.is.0 spelled,
        (
          f.entry.time,
          f.entry.caller,
          said (λ e. IsStep a.stream answer e × HasGoneOn a b true e) f (event_of a.stream answer) is ∙ ap (λ (o : Option NodePass). made_by o ++ entry_of f.entry.time f.entry.caller (event_of a.stream answer) ∷ []) (sym at),
          stepped a b true f.entry (event_of a.stream answer) (sym attached) is f.is.1,
        ),
      )
  turn_makes x C a b (Err fault) at attached f spelled same = (through_none C fault f ∙ ap made_by (sym at), same)

  pub down_makes : (x : AtCell) (C : NodeMeaning → Type 0) (a b : SessionMeaning) (cause : Cause) (r : Result (Unit {0}) NodeFault) → x.pass ≡ Some p
      → Makes plan h n sessions needs (λ done e. IsDownFor a.stream cause e × HasGoneOn a b a.attached e) C p q r → OnErr r (IsSameSession a b) → DownMakes (made_through x) (made_by (Some q)) a b cause r
  down_makes x C a b cause (Ok done) at f same = (
    f.entry.time,
    f.entry.caller,
    said (λ e. IsDownFor a.stream cause e × HasGoneOn a b a.attached e) f (Down a.stream cause) f.is.0 ∙ ap (λ (o : Option NodePass). made_by o ++ entry_of f.entry.time f.entry.caller (Down a.stream cause) ∷ []) (sym at),
    stepped a b a.attached f.entry (Down a.stream cause) refl f.is.0 f.is.1,
  )
  down_makes x C a b cause (Err fault) at f same = (through_none C fault f ∙ ap made_by (sym at), same)

  timed : (P : Entry → Type 0) (f : HasMade plan h n sessions needs P p q) → 1 ≤ f.entry.time
  timed P f = let t = f.lawful.time in omega (arith, t)

  pub accept_makes : (x : AtCell) (C : NodeMeaning → Type 0) (m : Msg) (r : Result Taken NodeFault) → x.pass ≡ Some p → Makes plan h n sessions needs (IsTaken m) C p q r → AcceptMakes (made_through x) (made_by (Some q)) m r
  accept_makes x C m (Ok (takens.Accepted time)) at f =
      let t = f.is.1 in let a = timed (IsTaken m (takens.Accepted time)) f in let b = f.early in (
        record { least = omega (arith, t, a); most = omega (arith, t, b) },
        (
          f.entry.caller,
          f.is.0.0,
          said (IsTaken m (takens.Accepted time)) f (Accepted m f.is.0.0) f.is.0.1 ∙ (λ i. made_by (sym at i) ++ entry_of (f.is.1 i) f.entry.caller (Accepted m f.is.0.0) ∷ []),
        ),
      )
  accept_makes x C m (Ok (takens.Gap least has time)) at f =
      let t = f.is.2 in let a = timed (IsTaken m (takens.Gap least has time)) f in let b = f.early in (
        record { least = omega (arith, t, a); most = omega (arith, t, b) },
        (
          f.entry.caller,
          said (IsTaken m (takens.Gap least has time)) f (Gapped m has) f.is.0 ∙ (λ i. made_by (sym at i) ++ entry_of (f.is.2 i) f.entry.caller (Gapped m has) ∷ []),
        ),
      )
  accept_makes x C m (Err fault) at f = through_none C fault f ∙ ap made_by (sym at)

-- ---- what the call does

acts_at : {X : Type 0} (plan : Plan) (h : List NodeEntry) (n : ℕ) (call : Call) (P : X → Entry → Type 0) (p q : NodePass) (r : Result X NodeFault) → Makes plan h n (given call) nothing P (λ a. IsTimeWorn a (heard call)) p q r
    → Acts plan h n call (fault_of r) (Some p) (Some q)
acts_at plan h n call P p q (Ok x) f = record {
  before = f.before;
  others = f.others;
  entry = f.entry;
  was = f.was;
  now = f.now;
  apart = f.apart;
  same = f.same;
  by = f.by;
  early = f.early;
  lawful = f.lawful;
  is = tt;
}
acts_at plan h n call P p q (Err fault) f = inl f

pub acts_so : {X : Type 0} (x : AtCell) (cell : NodeCell) (call : Call) (P : X → Entry → Type 0) (p q : NodePass) (r : Result X NodeFault) → cell ≡ x.cell → x.pass ≡ Some p
    → ((plan : Plan) (h : List NodeEntry) (n : ℕ) → IsCellOf plan h n cell → Makes plan h n (given call) nothing P (λ a. IsTimeWorn a (heard call)) p q r) → acts x call (fault_of r) (record { cell = cell; pass = Some q })
acts_so x cell call P p q r same at makes = (
  same,
  λ plan h n of. subst (λ (o : Option NodePass). Acts plan h n call (fault_of r) o (Some q)) (sym at) (acts_at plan h n call P p q r (makes plan h n (subst (λ (c : NodeCell). IsCellOf plan h n c) (sym same) of))),
)
