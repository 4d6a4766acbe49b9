-- A flow's job, from its first event to its end.
use Rattle.std.proofs.Common.{◌≡◌, ◌⊎◌, ℕ, ◌≤◌, List, [], ◌++◌, All, Result, Err, inl, inr, refl, sym, ap, ◌∙◌, subst, nat_eq, append-nil}
use Rattle.std.specs.Prelude.{true, Option, Some, None, reverse}
use Rattle.std.proofs.lemmas.Bool.Decides.{Decides-eqb}
use Rattle.pr_flow.specs.declared.flow_end.FlowEnd.{FlowEnd}
use Rattle.pr_flow.specs.Calls.{Call, HasNotTurned, Turning}
use Rattle.pr_flow.specs.Flows.{Sides}
use Rattle.pr_inval.specs.declared.msg.Msg.{Msg}
use Rattle.pr_inval.specs.declared.node_fault.NodeFault.{NodeFault}
use Rattle.pr_inval.specs.declared.node_fault.NodeFault.TheVariants.{NoMemory, Worn}
use Rattle.pr_inval.specs.Standing.{IsSameSession, SessionMeaning, Standing}
use Rattle.pr_merge.specs.Phases.{times_of}
use Rattle.pr_node.specs.Calls.{IsTimeWorn}
use Rattle.pr_story.specs.declared.cause.Cause.{Cause}
use Rattle.pr_story.specs.declared.event.Event.{Event}
use Rattle.pr_story.specs.declared.event.Event.TheVariants.{Sent, Idle, Stale, Accepted, Gapped, Down}
use Rattle.pr_story.specs.History.{NodeEntry, Plan}
use Rattle.pr_story.specs.Laws.{StandsFor}
use Rattle.pr_story.specs.Merging.{New, plain}
use Rattle.pr_story.specs.Scripts.{events_of}
use Rattle.pr_story.specs.Turns.{stream_time}
use Rattle.pr_crew.specs.Acting.{Acts, AtCell, acts, heard, made_through}
use Rattle.pr_crew.specs.Jobs.{FlowFailed, FlowLied, IsWornAt, MadeAt, at_destination, at_source}
use Rattle.pr_crew.specs.Making.{HasFailed, IsCellOf, IsFaultFor, IsSameCaller, NodeCell, NodePass}
use Rattle.pr_crew.proofs.FlowMore.{Common}
use Rattle.pr_crew.proofs.FlowSteps.{IsOfFlow, Sofar, dst, src}
use Rattle.pr_crew.proofs.MadeMore.{made_still}

pub same_caller : (p : NodePass) → IsSameCaller p p
same_caller p = record { number = refl; held = refl; issued = refl }

pub then_same : (p q r : NodePass) → IsSameCaller p q → IsSameCaller q r → IsSameCaller p r
then_same p q r a b = record { number = b.number ∙ a.number; held = b.held ∙ a.held; issued = b.issued ∙ a.issued }

module _ (plan : Plan) (h : List NodeEntry) (s k : ℕ) where
  -- ---- what each event is

  pub same : (t : ℕ) → t ≡ s → nat_eq t s ≡ true
  same t is = (Decides-eqb t s).1 is

  pub sent_is : (m : Msg) → m.stream ≡ s → IsOfFlow plan h s k (src plan h s k) (Sent m)
  sent_is m is = record { timed = same m.stream is; own = (same m.stream is, tt); needs = λ c. refl; placed = λ g. ap (λ (t : ℕ). (plan.stream t).source) (sym is) }

  pub idle_is : (t : ℕ) → t ≡ s → IsOfFlow plan h s k (src plan h s k) (Idle t)
  idle_is t is = record { timed = same t is; own = (same t is, tt); needs = λ c. refl; placed = λ g. ap (λ (t : ℕ). (plan.stream t).source) (sym is) }

  pub stale_is : (t : ℕ) (cut : List ℕ) → t ≡ s → IsOfFlow plan h s k (src plan h s k) (Stale t cut)
  stale_is t cut is = record { timed = same t is; own = (same t is, tt); needs = λ c. refl; placed = λ g. ap (λ (t : ℕ). (plan.stream t).source) (sym is) }

  pub accepted_is : (m : Msg) (at : List ℕ) → m.stream ≡ s → IsOfFlow plan h s k (dst plan h s k) (Accepted m at)
  accepted_is m at is = record { timed = same m.stream is; own = (same m.stream is, tt); needs = λ c. refl; placed = λ g. ap (λ (t : ℕ). (plan.stream t).destination) (sym is) }

  pub gapped_is : (m : Msg) (has : List ℕ) → m.stream ≡ s → IsOfFlow plan h s k (dst plan h s k) (Gapped m has)
  gapped_is m has is = record { timed = same m.stream is; own = (same m.stream is, tt); needs = λ c. refl; placed = λ g. ap (λ (t : ℕ). (plan.stream t).destination) (sym is) }

  pub down_is : (t : ℕ) (cause : Cause) → t ≡ s → IsOfFlow plan h s k (dst plan h s k) (Down t cause)
  down_is t cause is = record { timed = same t is; own = (same t is, tt); needs = λ c. refl; placed = λ g. ap (λ (t : ℕ). (plan.stream t).destination) (sym is) }

  -- ---- where a walk ends

  -- from these entries on the flow made more, gave these events and ended so
  pub record Walked (x : Sides AtCell AtCell) (p q : NodePass) (xs : List New) (y : Sides AtCell AtCell) (end : Result FlowEnd NodeFault) (events : List Event) : Type 0 where
    pub source : NodePass
    pub destination : NodePass
    pub made : List New
    pub sofar : Sofar plan h s k y source destination made
    pub gives : events_of (plain made) ≡ events_of (plain xs) ++ events
    pub same_source : IsSameCaller p source
    pub same_destination : IsSameCaller q destination
    pub source_cell : y.source.cell ≡ x.source.cell
    pub destination_cell : y.destination.cell ≡ x.destination.cell
    pub lied : FlowLied plan h s made end
    pub failed : FlowFailed plan h s source destination made end

  pub stays : (x y : Sides AtCell AtCell) (p q : NodePass) (xs : List New) (end : Result FlowEnd NodeFault) → Sofar plan h s k x p q xs → y ≡ x → FlowLied plan h s xs end → FlowFailed plan h s p q xs end → Walked x p q xs y end []
  stays x y p q xs end f is lied failed = record {
    source = p;
    destination = q;
    made = xs;
    sofar = subst (λ (z : Sides AtCell AtCell). Sofar plan h s k z p q xs) (sym is) f;
    gives = sym (append-nil (events_of (plain xs)));
    same_source = same_caller p;
    same_destination = same_caller q;
    source_cell = ap (λ (z : Sides AtCell AtCell). z.source.cell) is;
    destination_cell = ap (λ (z : Sides AtCell AtCell). z.destination.cell) is;
    lied = lied;
    failed = failed;
  }

  common_still : (a b : SessionMeaning) (xs : List New) → IsSameSession a b → Common plan h s k a xs → Common plan h s k b xs
  common_still a b xs i c = record {
    run = c.run;
    rises = c.rises;
    late = subst (λ (st : Standing). All (λ t. t ≤ st.time) (times_of xs)) (sym i.standing) c.late;
    of_stream = c.of_stream;
    sides = c.sides;
    spelled = c.spelled;
    stream = i.stream ∙ c.stream;
    stands = subst (λ (st : Standing). StandsFor plan (plain (reverse xs) ++ h) s st) (sym i.standing) c.stands;
    attached = c.attached;
  }

  -- a refused call leaves the pass what it made
  record Refused (n : ℕ) (at : ℕ) (fault : NodeFault) (y : AtCell) (p : NodePass) (xs : List New) : Type 0 where
    pass : NodePass
    has : y.pass ≡ Some pass
    same : IsSameCaller p pass
    cell : IsCellOf plan h n y.cell
    made : MadeAt plan h n pass xs
    worn : IsFaultFor (IsWornAt plan h n (λ a. IsTimeWorn a at) pass) fault

  worn_by : (n at : ℕ) (fault : NodeFault) (p q : NodePass) → HasFailed plan h n (λ a. IsTimeWorn a at) fault p q → IsFaultFor (IsWornAt plan h n (λ a. IsTimeWorn a at) q) fault
  worn_by n at NoMemory p q f = tt
  worn_by n at (Worn w) p q f = (f.cause.0, (f.before ++ f.others, f.now, f.cause.1))

  pub no_memory : (C : Type 0) (fault : NodeFault) → fault ≡ NoMemory → IsFaultFor C fault
  no_memory C NoMemory is = tt
  no_memory C (Worn at) is = absurd (cc)

  refused : (n : ℕ) (call : Call) (fault : NodeFault) (x y : AtCell) (p : NodePass) (xs : List New) → x.pass ≡ Some p → IsCellOf plan h n x.cell → acts x call (Some fault) y → MadeAt plan h n p xs → Refused n (heard call) fault y p xs
  refused n call fault x y p xs at of (kept, act) made = by y.pass refl (subst (λ (o : Option NodePass). Acts plan h n call (Some fault) o y.pass) at (act plan h n of))
    where
      cell : IsCellOf plan h n y.cell
      cell = subst (λ (c : NodeCell). IsCellOf plan h n c) (sym kept) of

      by : (o : Option NodePass) → y.pass ≡ o → Acts plan h n call (Some fault) (Some p) o → Refused n (heard call) fault y p xs
      by None is a = absurd a
      by (Some q) is (inl f) = record { pass = q; has = is; same = f.same; cell = cell; made = made_still plan h n (λ a. IsTimeWorn a (heard call)) fault p q xs f made; worn = worn_by n (heard call) fault p q f }
      by (Some q) is (inr f) = record {
        pass = q;
        has = is;
        same = subst (λ (z : NodePass). IsSameCaller p z) (sym f.1) (same_caller p);
        cell = cell;
        made = subst (λ (z : NodePass). MadeAt plan h n z xs) (sym f.1) made;
        worn = no_memory _ fault f.0;
      }

  -- ---- refusals

  heard_is : (a : SessionMeaning) (xs : List New) → Common plan h s k a xs → a.standing.time ≡ stream_time (plain (reverse xs) ++ h) s
  heard_is a xs c = c.stands.time

  fault_left : (A B : Type 0) (fault : NodeFault) → IsFaultFor A fault → IsFaultFor (A ⊎ B) fault
  fault_left A B NoMemory c = tt
  fault_left A B (Worn at) c = (c.0, inl c.1)

  fault_right : (A B : Type 0) (fault : NodeFault) → IsFaultFor B fault → IsFaultFor (A ⊎ B) fault
  fault_right A B NoMemory c = tt
  fault_right A B (Worn at) c = (c.0, inr c.1)

  -- the source refused a turn
  pub not_turned : (x y : Sides AtCell AtCell) (p q : NodePass) (xs : List New) (fault : NodeFault) → Sofar plan h s k x p q xs → HasNotTurned made_through acts x.source x.session fault y.source y.session → y.destination ≡ x.destination
      → Walked x p q xs y (Err fault) []
  not_turned x y p q xs fault f t still =
      let r = refused (src plan h s k) (Turning x.session y.session) fault x.source y.source p (at_source xs) f.has_source f.source_cell t.act f.source_made in
      record {
        source = r.pass;
        destination = q;
        made = xs;
        sofar = record {
          common = common_still x.session y.session xs t.session f.common;
          has_source = r.has;
          has_destination = ap (λ (z : AtCell). z.pass) still ∙ f.has_destination;
          source_cell = r.cell;
          destination_cell = subst (λ (z : AtCell). IsCellOf plan h (dst plan h s k) z.cell) (sym still) f.destination_cell;
          source_made = r.made;
          destination_made = f.destination_made;
        };
        gives = sym (append-nil (events_of (plain xs)));
        same_source = r.same;
        same_destination = same_caller q;
        source_cell = t.act.0;
        destination_cell = ap (λ (z : AtCell). z.cell) still;
        lied = tt;
        failed = fault_left _ _ fault (subst (λ (t : ℕ). IsFaultFor (IsWornAt plan h (src plan h s k) (λ a. IsTimeWorn a t) r.pass) fault) (heard_is x.session xs f.common) r.worn);
      }

  -- the destination refused a call, in which it hears the session's time
  pub not_taken : (x y : Sides AtCell AtCell) (p q : NodePass) (xs : List New) (call : Call) (fault : NodeFault) → Sofar plan h s k x p q xs → acts x.destination call (Some fault) y.destination → IsSameSession x.session y.session
      → heard call ≡ x.session.standing.time → y.source ≡ x.source → Walked x p q xs y (Err fault) []
  not_taken x y p q xs call fault f act kept time still =
      let r = refused (dst plan h s k) call fault x.destination y.destination q (at_destination xs) f.has_destination f.destination_cell act f.destination_made in
      record {
        source = p;
        destination = r.pass;
        made = xs;
        sofar = record {
          common = common_still x.session y.session xs kept f.common;
          has_source = ap (λ (z : AtCell). z.pass) still ∙ f.has_source;
          has_destination = r.has;
          source_cell = subst (λ (z : AtCell). IsCellOf plan h (src plan h s k) z.cell) (sym still) f.source_cell;
          destination_cell = r.cell;
          source_made = f.source_made;
          destination_made = r.made;
        };
        gives = sym (append-nil (events_of (plain xs)));
        same_source = same_caller p;
        same_destination = r.same;
        source_cell = ap (λ (z : AtCell). z.cell) still;
        destination_cell = act.0;
        lied = tt;
        failed = fault_right _ _ fault (subst (λ (t : ℕ). IsFaultFor (IsWornAt plan h (dst plan h s k) (λ a. IsTimeWorn a t) r.pass) fault) (time ∙ heard_is x.session xs f.common) r.worn);
      }
