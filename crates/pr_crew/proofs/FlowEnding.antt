-- A flow's job, from its first call to its end.
use Rattle.std.proofs.Common.{◌≡◌, ◌≢◌, ◌⊎◌, ℕ, ◌-◌, List, [], ◌∷◌, ◌++◌, Result, Ok, Err, inl, inr, refl, sym, ap, ◌∙◌, subst, map, append_assoc, arith}
use Rattle.std.specs.Prelude.{IsTrue, Option, Some, None, reverse}
use Rattle.std.specs.List.{AllByRecursion}
use Rattle.std.proofs.lemmas.List.Elements.{All-contains, All-nil}
use Rattle.pr_flow.specs.declared.flow_end.FlowEnd.{FlowEnd}
use Rattle.pr_flow.specs.declared.flow_end.FlowEnd.TheVariants as ends
use Rattle.pr_flow.specs.Calls.{Accepting, DownMakes, Ending, HasEnded, entry_of}
use Rattle.pr_flow.specs.Ending.{IsSoundEnd}
use Rattle.pr_flow.specs.Sound.{IsSoundEvent}
use Rattle.pr_flow.specs.Flows.{Calls, Ends, EndsAtRest, EndsBehindGap, EndsOnTheWay, Flows, IsOfScript, IsStuck, IsWhole, Makes, Rest, Sides, is_at_destination, is_at_source}
use Rattle.pr_flow.specs.Flows.{events_of as told_of}
use Rattle.pr_inval.specs.declared.msg.Msg.{Msg}
use Rattle.pr_inval.specs.declared.node_fault.NodeFault.{NodeFault}
use Rattle.pr_inval.specs.Standing.{IsSameSession, Remembered, SessionMeaning, means}
use Rattle.pr_story.specs.declared.cause.Cause.{Cause}
use Rattle.pr_story.specs.declared.cause.Cause.TheVariants.{Failed, Ended, Gap}
use Rattle.pr_story.specs.declared.entry.Entry.{Entry}
use Rattle.pr_story.specs.declared.event.Event.{Event}
use Rattle.pr_story.specs.declared.event.Event.TheVariants.{Sent, Idle, Stale, Accepted, Gapped, Down}
use Rattle.pr_story.specs.History.{NodeEntry, Plan, journal}
use Rattle.pr_story.specs.Lawful.{DownAfter, is_after_gap}
use Rattle.pr_story.specs.Merging.{IsNoMissing, New, plain}
use Rattle.pr_story.specs.Scripts.{FlowJob, IsFlow, IsFlowBegun, JobBegins, events_of}
use Rattle.pr_story.specs.Turns.{is_of_stream}
use Rattle.pr_story.proofs.OfStreams.{after_gap}
use Rattle.pr_wires.specs.Calls.{IsEmptyIfTold}
use Rattle.pr_crew.specs.Acting.{AtCell, acts, made_through}
use Rattle.pr_crew.specs.Crossing.{IsTakenFor}
use Rattle.pr_crew.specs.Flowing.{FlowBegins, FlowEnds}
use Rattle.pr_crew.specs.Jobs.{FlowFailed, FlowGives, FlowLied, MadeAt}
use Rattle.pr_crew.specs.Making.{HasSeen, IsSameCaller, NodePass}
use Rattle.pr_crew.proofs.Crossed.{crossed_over}
use Rattle.pr_crew.proofs.FlowEvents.{IsUnderWay, accepted, gapped, idle_event, sent_event, stale_event, turned, under_way, went_down}
use Rattle.pr_crew.proofs.FlowMore.{IsSpelled}
use Rattle.pr_crew.proofs.FlowSteps.{Sofar, dst}
use Rattle.pr_crew.proofs.FlowWalk.{Walked, no_memory, not_taken, not_turned, same_caller, stays, then_same}
use Rattle.pr_crew.proofs.Plain.{plain_append}
use Rattle.pr_crew.proofs.Sofar.{news}
use Rattle.pr_crew.proofs.SoundEvents.{sound_events, sound_made}

-- ---- events

events_append : (a b : List NodeEntry) → events_of (a ++ b) ≡ events_of a ++ events_of b
events_append [] b = refl
events_append (e ∷ es) b = ap (λ (xs : List Event). e.entry.event ∷ xs) (events_append es b)

-- entries of these events
abbrev invented : List Event → List NodeEntry
invented events = map (λ (v : Event). record { node = 0; entry = record { time = 0; caller = 0; event = v } }) events

as_invented : (events : List Event) → events_of (invented events) ≡ events
as_invented [] = refl
as_invented (v ∷ events) = ap (λ (xs : List Event). v ∷ xs) (as_invented events)

module _ (s turns : ℕ) (xs : List New) (events : List Event) (is : events_of (plain xs) ≡ events) where
  begins : IsFlowBegun s turns events → JobBegins (FlowJob s turns) (plain xs)
  begins (rest, flow) = (
    invented rest,
    subst (λ (v : List Event). IsFlow s turns v) ((λ i. sym is i ++ sym (as_invented rest) i) ∙ sym (events_append (plain xs) (invented rest))) flow,
  )

  flow_gives : (end : Result FlowEnd NodeFault) → IsOfScript s turns events end → FlowGives (FlowJob s turns) xs end
  flow_gives (Ok ends.Done) of = subst (λ (v : List Event). IsFlow s turns v) (sym is) (of.1 tt)
  flow_gives (Ok ends.Stale) of = subst (λ (v : List Event). IsFlow s turns v) (sym is) (of.1 tt)
  flow_gives (Ok (ends.Down cause)) of = subst (λ (v : List Event). IsFlow s turns v) (sym is) (of.1 tt)
  flow_gives (Ok (ends.Lied number sent got)) of = begins of.0
  flow_gives (Err fault) of = begins of.0

module _ (plan : Plan) (h : List NodeEntry) (s k : ℕ) where
  -- ---- the last call

  at_rest : (x y : Sides AtCell AtCell) (p q : NodePass) (xs : List New) (turns : ℕ) (end : Result FlowEnd NodeFault) (rest : Rest) → Sofar plan h s k x p q xs
      → EndsAtRest made_through acts made_through acts turns end rest x y → Walked plan h s k x p q xs y end []
  at_rest x y p q xs turns (Ok ends.Done) rest f e = stays plan h s k x y p q xs (Ok ends.Done) f e.2 tt tt
  at_rest x y p q xs turns (Ok _) rest f e = absurd e
  at_rest x y p q xs turns (Err fault) rest f e = not_turned plan h s k x y p q xs fault f e.2 e.3

  stuck : (x y : Sides AtCell AtCell) (p q : NodePass) (xs : List New) (m : Msg) (fault : NodeFault) (rest : Rest) → Sofar plan h s k x p q xs → IsUnderWay plan h s k x.session xs m
      → IsStuck made_through acts made_through acts m fault rest x y → Walked plan h s k x p q xs y (Err fault) []
  stuck x y p q xs m fault rest f w (inl e) =
      not_taken plan h s k x y p q xs (Accepting m) fault f e.2.act
      (subst (λ (b : SessionMeaning). IsSameSession x.session b) (sym e.2.session) (record { stream = refl; attached = refl; standing = refl })) w.time e.3
  stuck x y p q xs m fault rest f w (inr (inl e)) = not_taken plan h s k x y p q xs (Ending e.1.0 x.session y.session) fault f e.1.2.act e.1.2.session refl e.2
  stuck x y p q xs m fault rest f w (inr (inr e)) = stays plan h s k x y p q xs (Err fault) f e.2 tt (no_memory plan h s k _ fault e.1)

  on_the_way : (x y : Sides AtCell AtCell) (p q : NodePass) (xs : List New) (m : Msg) (end : Result FlowEnd NodeFault) (rest : Rest) → Sofar plan h s k x p q xs → IsUnderWay plan h s k x.session xs m
      → EndsOnTheWay made_through acts made_through acts m end rest x y → Walked plan h s k x p q xs y end []
  on_the_way x y p q xs m (Ok (ends.Lied number sent got)) rest f w e =
      stays plan h s k x y p q xs (Ok (ends.Lied number sent got)) f e.3 (record { msg = m; stream = w.stream; last = w.last; lie = e.0 }) tt
  on_the_way x y p q xs m (Ok _) rest f w e = absurd e
  on_the_way x y p q xs m (Err fault) rest f w e = stuck x y p q xs m fault rest f w e

  -- the event was the last one
  ended_so : (x y : Sides AtCell AtCell) (p q : NodePass) (xs : List New) (end this : Result FlowEnd NodeFault) (events : List Event) → Sofar plan h s k x p q xs → y ≡ x → events ≡ [] → end ≡ this
      → FlowLied plan h s xs this → FlowFailed plan h s p q xs this → Walked plan h s k x p q xs y end events
  ended_so x y p q xs end this events f still none is lied failed =
      subst (λ (v : List Event). Walked plan h s k x p q xs y end v) (sym none)
      (subst (λ (r : Result FlowEnd NodeFault). Walked plan h s k x p q xs y r []) (sym is) (stays plan h s k x y p q xs this f still lied failed))

  calls_none : (es : List Entry) (x z : Sides AtCell AtCell) → told_of es ≡ [] → Calls made_through acts made_through acts x es z → z ≡ x
  calls_none [] x z none calls = calls
  calls_none (e ∷ es) x z none calls = absurd (cc)

  -- ---- an event, and then more

  walked_more : (x z y : Sides AtCell AtCell) (p p' q q' : NodePass) (xs : List New) (u : New) (end : Result FlowEnd NodeFault) (event : Event) (events : List Event) → u.made.entry.event ≡ event
      → IsSameCaller p p' → IsSameCaller q q' → z.source.cell ≡ x.source.cell → z.destination.cell ≡ x.destination.cell → Walked plan h s k z p' q' (xs ++ u ∷ []) y end events
      → Walked plan h s k x p q xs y end (event ∷ events)
  walked_more x z y p p' q q' xs u end event events is same_p same_q cell_p cell_q w = record {
    source = w.source;
    destination = w.destination;
    made = w.made;
    sofar = w.sofar;
    gives = w.gives
        ∙ ap (λ (es : List NodeEntry). events_of es ++ events) (plain_append xs (u ∷ []))
        ∙ ap (λ (vs : List Event). vs ++ events) (events_append (plain xs) (u.made ∷ []))
        ∙ append_assoc (events_of (plain xs)) (u.made.entry.event ∷ []) events
        ∙ ap (λ (v : Event). events_of (plain xs) ++ v ∷ events) is;
    same_source = then_same p p' w.source same_p w.same_source;
    same_destination = then_same q q' w.destination same_q w.same_destination;
    source_cell = w.source_cell ∙ cell_p;
    destination_cell = w.destination_cell ∙ cell_q;
    lied = w.lied;
    failed = w.failed;
  }

  made_is : (n : ℕ) (u : New) (e : Entry) (event : Event) → u.made ≡ record { node = n; entry = e } → e.event ≡ event → u.made.entry.event ≡ event
  made_is n u e event made is = ap (λ (m : NodeEntry). m.entry.event) made ∙ is

  cell_still : (a b : AtCell) → b ≡ a → b.cell ≡ a.cell
  cell_still a b is = ap (λ (c : AtCell). c.cell) is

  -- ---- behind a gap

  is_behind : (xs : List New) (u : New) (e : Entry) (m : Msg) (has : List ℕ) → u.made ≡ record { node = dst plan h s k; entry = e } → e.event ≡ Gapped m has → m.stream ≡ s
      → IsTrue (is_after_gap (journal (plain (reverse (xs ++ u ∷ [])) ++ h) (dst plan h s k)) s)
  is_behind xs u e m has made is of =
      subst (λ (g : List NodeEntry). IsTrue (is_after_gap (journal g (dst plan h s k)) s)) (sym (ap (λ (es : List NodeEntry). es ++ h) (news xs u)))
      (after_gap u.made (plain (reverse xs) ++ h) (dst plan h s k) s m has (ap (λ (n : NodeEntry). n.node) made) (made_is (dst plan h s k) u e (Gapped m has) made is) of)

  module _ (z y : Sides AtCell AtCell) (rest : Rest) (end : Result FlowEnd NodeFault) where
    -- a down for this cause was the last call
    down_ends : (x v : Sides AtCell AtCell) (p q : NodePass) (xs : List New) (e : Entry) (es : List Entry) (cause : Cause) → e.event ≡ Down s cause → Sofar plan h s k x p q xs
        → DownAfter cause (is_after_gap (journal (plain (reverse xs) ++ h) (dst plan h s k)) s) → HasEnded made_through acts x.destination x.session cause e v.destination v.session → v.source ≡ x.source
        → Calls made_through acts made_through acts v es z → told_of es ≡ [] → end ≡ Ok (ends.Down cause) → y ≡ z → Walked plan h s k x p q xs y end (Down s cause ∷ told_of es)
    down_ends x v p q xs e es cause is f after t still calls none how last =
        let b = went_down plan h s k x v p q xs e cause is f after t still in
        walked_more x v y p p q b.0 xs b.1 end (Down s cause) (told_of es) (made_is (dst plan h s k) b.1 e (Down s cause) b.2 is) (same_caller p) b.4 (cell_still x.source v.source still) t.act.0
        (ended_so v y p b.0 (xs ++ b.1 ∷ []) end (Ok (ends.Down cause)) (told_of es) b.3 (last ∙ calls_none es v z none calls) none how tt tt)

    behind_gap : (es : List Entry) (r : Result FlowEnd NodeFault) → r ≡ end → (x : Sides AtCell AtCell) (p q : NodePass) (xs : List New) → Sofar plan h s k x p q xs
        → IsTrue (is_after_gap (journal (plain (reverse xs) ++ h) (dst plan h s k)) s) → Calls made_through acts made_through acts x es z
        → EndsBehindGap made_through acts made_through acts s (told_of es) r rest z y → Walked plan h s k x p q xs y end (told_of es)
    behind_gap [] (Ok o) so x p q xs f after calls e = absurd e
    behind_gap [] (Err fault) so x p q xs f after calls e =
        let g = subst (λ (v : Sides AtCell AtCell). EndsBehindGap made_through acts made_through acts s [] (Err fault) rest v y) calls e in
        subst (λ (r : Result FlowEnd NodeFault). Walked plan h s k x p q xs y r []) so
        (not_taken plan h s k x y p q xs (Ending Gap x.session y.session) fault f g.1.act g.1.session refl g.2)
    behind_gap (d ∷ es) r so x p q xs f after (v, makes, calls) e =
        let m = subst (λ (event : Event). Makes made_through acts made_through acts event x d v) e.0 makes in
        subst (λ (event : Event). Walked plan h s k x p q xs y end (event ∷ told_of es)) (sym e.0)
        (down_ends x v p q xs d es Gap e.0 f after m.0 m.1 calls e.1 (sym so ∙ e.2) e.4)

  -- ---- all calls

  abbrev Way : SessionMeaning → List New → Option Msg → Type 0
  Way a xs None = Unit {0}
  Way a xs (Some m) = IsUnderWay plan h s k a xs m

  cut_after : (cause : Cause) (after : _) → cause ≢ Gap → DownAfter cause after
  cut_after Failed after no_gap = tt
  cut_after Ended after no_gap = tt
  cut_after Gap after no_gap = absurd (no_gap refl)

  module _ (z y : Sides AtCell AtCell) (rest : Rest) (end : Result FlowEnd NodeFault) where
    -- from wherever these calls come, the job goes on to its end
    abbrev Onward : List Entry → Type 0
    Onward es =
        (x : Sides AtCell AtCell) (p q : NodePass) (xs : List New) (under : Option Msg) (turns : ℕ) → Sofar plan h s k x p q xs → Way x.session xs under → Calls made_through acts made_through acts x es z
        → Ends made_through acts made_through acts s under turns (told_of es) end rest z y → Walked plan h s k x p q xs y end (told_of es)

    no_more : Onward []
    no_more x p q xs None turns f w calls e = at_rest x y p q xs turns end rest f (subst (λ (v : Sides AtCell AtCell). EndsAtRest made_through acts made_through acts turns end rest v y) calls e)
    no_more x p q xs (Some m) turns f w calls e = on_the_way x y p q xs m end rest f w (subst (λ (v : Sides AtCell AtCell). EndsOnTheWay made_through acts made_through acts m end rest v y) calls e)

    one_more : (e : Entry) (es : List Entry) → Onward es → (under : Option Msg) (event : Event) → e.event ≡ event → (x v : Sides AtCell AtCell) (p q : NodePass) (xs : List New) (turns : ℕ) → Sofar plan h s k x p q xs
        → Way x.session xs under → Makes made_through acts made_through acts event x e v → Calls made_through acts made_through acts v es z
        → Ends made_through acts made_through acts s under turns (event ∷ told_of es) end rest z y → Walked plan h s k x p q xs y end (event ∷ told_of es)
    one_more e es on None (Idle t) is x v p q xs turns f w makes calls how =
        let b = turned plan h s k x v p q xs e (Idle t) is (idle_event plan h s k t how.1) f makes.0 makes.1 in
        walked_more x v y p b.0 q q xs b.1 end (Idle t) (told_of es) (made_is _ b.1 e (Idle t) b.2 is) b.4 (same_caller q) makes.0.act.0 (cell_still x.destination v.destination makes.1)
        (on v b.0 q (xs ++ b.1 ∷ []) None (turns - 1) b.3 tt calls how.2)
    one_more e es on None (Stale t cut) is x v p q xs turns f w makes calls how =
        let b = turned plan h s k x v p q xs e (Stale t cut) is (stale_event plan h s k t cut how.1) f makes.0 makes.1 in
        walked_more x v y p b.0 q q xs b.1 end (Stale t cut) (told_of es) (made_is _ b.1 e (Stale t cut) b.2 is) b.4 (same_caller q) makes.0.act.0 (cell_still x.destination v.destination makes.1)
        (ended_so v y b.0 q (xs ++ b.1 ∷ []) end (Ok ends.Stale) (told_of es) b.3 (how.5 ∙ calls_none es v z how.2 calls) how.2 how.3 tt tt)
    one_more e es on None (Sent m) is x v p q xs turns f w makes calls how =
        let b = turned plan h s k x v p q xs e (Sent m) is (sent_event plan h s k m how.1) f makes.0 makes.1 in
        walked_more x v y p b.0 q q xs b.1 end (Sent m) (told_of es) (made_is _ b.1 e (Sent m) b.2 is) b.4 (same_caller q) makes.0.act.0 (cell_still x.destination v.destination makes.1)
        (on v b.0 q (xs ++ b.1 ∷ []) (Some m) (turns - 1) b.3 (under_way plan h s k x.session v.session xs b.1 m e b.5.0 how.1 b.2 is makes.0.session b.5.1) calls how.3)
    one_more e es on (Some m) (Accepted n at) is x v p q xs turns f w makes calls how =
        let way = subst (λ (i : Msg). IsUnderWay plan h s k x.session xs i) (sym how.0) w in
        let b = accepted plan h s k x v p q xs e n at is f way makes.0 makes.1 in
        walked_more x v y p p q b.0 xs b.1 end (Accepted n at) (told_of es) (made_is _ b.1 e (Accepted n at) b.2 is) (same_caller p) b.4 (cell_still x.source v.source makes.1) makes.0.act.0
        (on v p b.0 (xs ++ b.1 ∷ []) None turns b.3 tt calls how.1)
    one_more e es on (Some m) (Gapped n has) is x v p q xs turns f w makes calls how =
        let way = subst (λ (i : Msg). IsUnderWay plan h s k x.session xs i) (sym how.0) w in
        let b = gapped plan h s k x v p q xs e n has is f way makes.0 makes.1 in
        walked_more x v y p p q b.0 xs b.1 end (Gapped n has) (told_of es) (made_is _ b.1 e (Gapped n has) b.2 is) (same_caller p) b.4 (cell_still x.source v.source makes.1) makes.0.act.0
        (behind_gap z y rest end es end refl v p b.0 (xs ++ b.1 ∷ []) b.3 (is_behind xs b.1 e n has b.2 is way.stream) calls how.1)
    one_more e es on (Some m) (Down t cause) is x v p q xs turns f w makes calls how =
        subst (λ (i : ℕ). Walked plan h s k x p q xs y end (Down i cause ∷ told_of es)) (sym how.0)
        (down_ends z y rest end x v p q xs e es cause (is ∙ ap (λ (i : ℕ). Down i cause) how.0) f (cut_after cause _ how.1) makes.0 makes.1 calls how.2 how.3 how.5)
    one_more e es on under _ is x v p q xs turns f w makes calls how = absurd how

    walk : (es : List Entry) → Onward es
    walk [] x p q xs under turns f w calls how = no_more x p q xs under turns f w calls how
    walk (e ∷ es) x p q xs under turns f w (v, makes, calls) how = one_more e es (walk es) under e.event refl x v p q xs turns f w makes calls how

  -- ---- the whole job

  pub none_made : (n : ℕ) (p : NodePass) → HasSeen p [] → MadeAt plan h n p []
  none_made n p seen = record {
    all = [];
    seen = seen;
    here = All-nil (λ x. x.made.node ≡ n);
    own_are = refl;
    each = λ before e after is by. absurd (no_first before e after is);
  }
    where
      no_first : (before : List Entry) (e : Entry) (after : List Entry) → [] ≡ before ++ e ∷ after → ⊥
      no_first [] e after is = absurd (cc)
      no_first (x ∷ before) e after is = absurd (cc)

  begun : (a b : AtCell) (session : Remembered) (i : FlowBegins plan h s a b session) → IsTrue session.attached
      → Sofar plan h s k (record { source = a; destination = b; session = means session }) i.source_is.pass i.destination_is.pass []
  begun a b session i on = record {
    common = record {
      run = record { job = All-nil (λ x. x.job ≡ k); run = tt };
      rises = λ j lt. absurd (omega arith);
      late = All-nil (λ t. _);
      of_stream = All-nil (λ x. IsTrue (is_of_stream x.made.entry.event s) × IsNoMissing x.made.entry.event);
      sides = All-nil (λ x. IsTrue (is_at_source x.made.entry.event) ⊎ IsTrue (is_at_destination x.made.entry.event));
      spelled = All-nil (λ x. IsSpelled x.made.entry.event);
      stream = i.session_is.stream;
      stands = i.session_is.stands;
      attached = i.session_is.attached on;
    };
    has_source = i.source_is.has;
    has_destination = i.destination_is.has;
    source_cell = i.source_is.cell;
    destination_cell = i.destination_is.cell;
    source_made = none_made (plan.stream s).source i.source_is.pass i.source_is.seen;
    destination_made = none_made (plan.stream s).destination i.destination_is.pass i.destination_is.seen;
  }

  same_pass : (o : Option NodePass) (p q r : NodePass) → o ≡ Some p → o ≡ Some q → IsSameCaller p r → IsSameCaller q r
  same_pass o p q r has is same = subst (λ (x : NodePass). IsSameCaller x r) (let both : Some p ≡ Some q = sym has ∙ is in cc) same

  flow_ends : (turns : ℕ) (a b x y : AtCell) (old new : Remembered) (events : List Event) (end : Result FlowEnd NodeFault) (i : FlowBegins plan h s a b old)
      → Walked plan h s k (record { source = a; destination = b; session = means old }) i.source_is.pass i.destination_is.pass [] (record { source = x; destination = y; session = means new }) end events
      → IsOfScript s turns events end → (IsSoundEnd end → AllByRecursion IsSoundEvent events) → (f : FlowEnds plan h s turns k a b x y new end) × (events_of (plain f.made) ≡ events)
  flow_ends turns a b x y old new events end i w of sound =
      let c = w.sofar.common in (
        record {
          source = w.source;
          destination = w.destination;
          has_source = w.sofar.has_source;
          has_destination = w.sofar.has_destination;
          same_source = λ p is. same_pass a.pass i.source_is.pass p w.source i.source_is.has is w.same_source;
          same_destination = λ p is. same_pass b.pass i.destination_is.pass p w.destination i.destination_is.has is w.same_destination;
          source_cell = w.source_cell;
          destination_cell = w.destination_cell;
          made = w.made;
          done = record {
            run = c.run;
            source = w.sofar.source_made;
            destination = w.sofar.destination_made;
            gives = flow_gives s turns w.made events w.gives end of;
            rises = c.rises;
            of_stream = c.of_stream;
            sides = c.sides;
            stands = record { stream = c.stream; stands = c.stands; attached = λ on. c.attached };
            lied = w.lied;
            failed = w.failed;
            sound = λ ends. sound_made w.made (subst (λ (l : List Event). AllByRecursion IsSoundEvent l) (sym w.gives) (sound ends));
          };
          spelled = λ x msg at is. All-contains (λ y. IsSpelled y.made.entry.event) w.made x c.spelled at msg is;
        },
        w.gives,
      )

  pub flow_done : (turns : ℕ) (a b x y : AtCell) (old new : Remembered) (g g1 t t1 : Option (List ℕ)) (end : Result FlowEnd NodeFault) → IsTrue old.attached → IsEmptyIfTold t
      → Flows made_through acts made_through acts old.stream turns (record { source = a; destination = b; session = means old }) (record { source = x; destination = y; session = means new }) g g1 t t1 end
      → FlowBegins plan h s a b old
      → (f : FlowEnds plan h s turns k a b x y new end) × (IsWhole end → (events_of (plain f.made) ≢ Down s Failed ∷ []) × IsTakenFor s (events_of (plain f.made)) t1)
  flow_done turns a b x y old new g g1 t t1 end on empty flow i =
      let start : Sides AtCell AtCell = record { source = a; destination = b; session = means old } in
      let last : Sides AtCell AtCell = record { source = x; destination = y; session = means new } in
      let f = subst (λ (j : ℕ). Flows made_through acts made_through acts j turns start last g g1 t t1 end) i.session_is.stream flow in
      let calls = f.2.calls in
      let e = flow_ends turns a b x y old new (told_of f.0) end i
      (walk calls.0 last f.1 end f.0 start i.source_is.pass i.destination_is.pass [] None turns (begun a b old i on) tt calls.1 calls.2) f.3
      (λ ends. sound_events made_through acts made_through acts s f.1 calls.0 last None turns (told_of f.0) end ends calls.2) in (
        e.0,
        λ whole. subst (λ (events : List Event). (events ≢ Down s Failed ∷ []) × IsTakenFor s events t1) (sym e.1)
            (crossed_over made_through acts made_through acts s f.1 calls.0 last turns (told_of f.0) end t t1 whole empty calls.2 f.2.taken),
      )

  -- ---- a flow without a connection

  -- that it went down was noted
  pub unconnected_down : (turns : ℕ) (a b y : AtCell) (old new : Remembered) → IsTrue old.attached → FlowBegins plan h s a b old → DownMakes (made_through b) (made_through y) (means old) (means new) Failed (Ok tt)
      → acts b (Ending Failed (means old) (means new)) None y
      → (f : FlowEnds plan h s turns k a b a y new (Ok (ends.Down Failed))) × (events_of (plain f.made) ≡ Down s Failed ∷ [])
  unconnected_down turns a b y old new on i (time, caller, made, session) act =
      let start : Sides AtCell AtCell = record { source = a; destination = b; session = means old } in
      let last : Sides AtCell AtCell = record { source = a; destination = y; session = means new } in
      let e : Entry = entry_of time caller (Down old.stream Failed) in
      let is : e.event ≡ Down s Failed = ap (λ (t : ℕ). Down t Failed) i.session_is.stream in
      let p = i.source_is.pass in
      let q = i.destination_is.pass in
      let d = went_down plan h s k start last p q [] e Failed is (begun a b old i on) tt (record { act = act; made = made; session = session }) refl in
      let events : List Event = Down s Failed ∷ [] in
      flow_ends turns a b a y old new events (Ok (ends.Down Failed)) i
      (walked_more start last last p p q d.0 [] d.1 (Ok (ends.Down Failed)) (Down s Failed) [] (made_is (dst plan h s k) d.1 e (Down s Failed) d.2 is) (same_caller p) d.4 refl act.0
      (stays plan h s k last last p d.0 (d.1 ∷ []) (Ok (ends.Down Failed)) d.3 refl tt tt))
      (([], inr refl), λ whole. inr refl) (λ ends. absurd ends)

  -- the destination refused to note it
  pub unconnected_refused : (turns : ℕ) (a b y : AtCell) (old new : Remembered) (fault : NodeFault) → IsTrue old.attached → FlowBegins plan h s a b old
      → DownMakes (made_through b) (made_through y) (means old) (means new) Failed (Err fault) → acts b (Ending Failed (means old) (means new)) (Some fault) y
      → (f : FlowEnds plan h s turns k a b a y new (Err fault)) × (events_of (plain f.made) ≡ [])
  unconnected_refused turns a b y old new fault on i (made, session) act =
      let start : Sides AtCell AtCell = record { source = a; destination = b; session = means old } in
      let last : Sides AtCell AtCell = record { source = a; destination = y; session = means new } in
      let p = i.source_is.pass in
      let q = i.destination_is.pass in
      flow_ends turns a b a y old new [] (Err fault) i (not_taken plan h s k start last p q [] (Ending Failed (means old) (means new)) fault (begun a b old i on) act session refl refl)
      ((Down s Failed ∷ [], inr refl), λ whole. absurd whole) (λ ends. tt)
