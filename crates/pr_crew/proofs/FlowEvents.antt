-- A flow's job: what each event of its stream owes where it is made.
use Rattle.std.proofs.Common.{◌≡◌, ℕ, ◌<◌, List, [], ◌∷◌, ◌++◌, refl, sym, ap, ◌∙◌, subst, max, nat_eq, inl, arith}
use Rattle.std.specs.Prelude.{Bool, true, false, IsTrue, None, reverse}
use Rattle.std.proofs.lemmas.Bool.Decides.{Decides-eqb}
use Rattle.std.proofs.lemmas.List.Elements.{All-nil}
use Rattle.pr_flow.specs.Calls.{Accepting, Call, Ending, HasEnded, HasStepped, HasTaken, HasTurned}
use Rattle.pr_flow.specs.Flows.{Sides, is_at_destination, is_at_source}
use Rattle.pr_flow.specs.Lies.{IsLastOf}
use Rattle.pr_inval.specs.declared.msg.Msg.{Msg}
use Rattle.pr_inval.specs.Standing.{HasHeard, SessionMeaning, Standing}
use Rattle.pr_story.specs.declared.cause.Cause.{Cause}
use Rattle.pr_story.specs.declared.entry.Entry.{Entry}
use Rattle.pr_story.specs.declared.event.Event.{Event}
use Rattle.pr_story.specs.declared.event.Event.TheVariants.{Sent, Idle, Stale, Accepted, Gapped, Down}
use Rattle.pr_story.specs.History.{NodeEntry, Plan, Sends, WasSent, journal}
use Rattle.pr_story.specs.Lawful.{DownAfter, HasCause, IsOwnLawful, MayComeByJournal, heard_time, is_after_gap}
use Rattle.pr_story.specs.Laws.{StandsFor}
use Rattle.pr_story.specs.Merging.{New, plain}
use Rattle.pr_story.specs.Turns.{IsAttached, count_after, is_of_stream, is_with_session, position_after, sent_after}
use Rattle.pr_stamps.specs.Point.{Point}
use Rattle.pr_crew.specs.Acting.{AtCell, acts, given, made_through, nothing}
use Rattle.pr_crew.specs.Making.{IsSameCaller, NodePass}
use Rattle.pr_crew.proofs.FlowMore.{Common}
use Rattle.pr_crew.proofs.FlowSteps.{IsOfFlow, Sofar, destination_step, dst, source_step, src}
use Rattle.pr_crew.proofs.FlowWalk.{accepted_is, down_is, gapped_is, idle_is, sent_is, stale_is}
use Rattle.pr_crew.proofs.Sofar.{news}

-- ---- a session that hears a time

-- the event changes nothing of how its stream stands but the time
record IsQuiet (event : Event) : Type 0 where
  position : (t : ℕ) (p : List ℕ) → position_after event t p ≡ p
  number : (t i : ℕ) → count_after event t i ≡ i
  sent : (t : ℕ) (o : List ℕ) (u : Point) (was : Bool) → sent_after event t o u was ≡ was

accepted_quiet : (m : Msg) (at : List ℕ) → IsQuiet (Accepted m at)
accepted_quiet m at = record { position = λ t p. refl; number = λ t i. refl; sent = λ t o u was. refl }

gapped_quiet : (m : Msg) (has : List ℕ) → IsQuiet (Gapped m has)
gapped_quiet m has = record { position = λ t p. refl; number = λ t i. refl; sent = λ t o u was. refl }

later_is : (a e : ℕ) → a < e → max a e ≡ e
later_is a e lt = omega (arith, lt)

heard_steps : (a b : SessionMeaning) (e : Entry) → IsQuiet e.event → HasHeard a b e.time → a.standing.time < e.time → HasStepped a b e
heard_steps a b e q heard lt = record {
  stream = heard.stream;
  is_attached = heard.attached;
  after = record {
    names = heard.names;
    bodies = heard.bodies;
    position = heard.position ∙ sym (q.position a.stream a.standing.position);
    number = heard.number ∙ sym (q.number a.stream a.standing.number);
    time = heard.time ∙ later_is a.standing.time e.time lt;
    sent = λ o t. heard.sent o t ∙ sym (q.sent a.stream o t (a.standing.sent o t));
  };
}

module _ (plan : Plan) (h : List NodeEntry) (s k : ℕ) where
  -- ---- at the source

  pub record IsSourceEvent (event : Event) : Type 0 where
    pub here : IsOfFlow plan h s k (src plan h s k) event
    pub on : is_at_source event ≡ true
    pub off : is_at_destination event ≡ false
    pub heard : (sessions : ℕ → Standing) → heard_time sessions event ≡ (sessions s).time
    pub with : (t : ℕ) → IsTrue (is_with_session event t) → t ≡ s
    pub cause : (g : List NodeEntry) → IsAttached g s → HasCause g (src plan h s k) event

  same_stream : (s t : ℕ) → IsTrue (nat_eq s t) → t ≡ s
  same_stream s t on = sym ((Decides-eqb s t).0 on)

  pub sent_event : (m : Msg) → m.stream ≡ s → IsSourceEvent (Sent m)
  sent_event m is = record {
    here = sent_is plan h s k m is;
    on = refl;
    off = refl;
    heard = λ sessions. ap (λ (t : ℕ). (sessions t).time) is;
    with = λ t on. same_stream m.stream t on ∙ is;
    cause = λ g attached. subst (λ (t : ℕ). IsAttached g t) (sym is) attached;
  }

  pub idle_event : (t : ℕ) → t ≡ s → IsSourceEvent (Idle t)
  idle_event t is = record {
    here = idle_is plan h s k t is;
    on = refl;
    off = refl;
    heard = λ sessions. ap (λ (j : ℕ). (sessions j).time) is;
    with = λ j on. same_stream t j on ∙ is;
    cause = λ g attached. subst (λ (j : ℕ). IsAttached g j) (sym is) attached;
  }

  pub stale_event : (t : ℕ) (cut : List ℕ) → t ≡ s → IsSourceEvent (Stale t cut)
  stale_event t cut is = record {
    here = stale_is plan h s k t cut is;
    on = refl;
    off = refl;
    heard = λ sessions. ap (λ (j : ℕ). (sessions j).time) is;
    with = λ j on. same_stream t j on ∙ is;
    cause = λ g attached. subst (λ (j : ℕ). IsAttached g j) (sym is) attached;
  }

  -- the source made the entry of a turn
  pub turned : (x z : Sides AtCell AtCell) (p q : NodePass) (xs : List New) (e : Entry) (event : Event) → e.event ≡ event → IsSourceEvent event → Sofar plan h s k x p q xs
      → HasTurned made_through acts x.source x.session e z.source z.session → z.destination ≡ x.destination
      → (p' : NodePass) × (u : New) × (u.made ≡ record { node = src plan h s k; entry = e }) × Sofar plan h s k z p' q (xs ++ u ∷ []) × IsSameCaller p p'
      × ((j : List Entry) × IsOwnLawful (λ t. x.session.standing) nothing (plan.sets (src plan h s k)) (src plan h s k) j e)
  turned x z p q xs e event is of f t still =
      let a : IsSourceEvent e.event = subst (λ (v : Event). IsSourceEvent v) (sym is) of in
      source_step plan h s k x z p q xs e f t still a.here a.on a.off a.heard a.with a.cause

  -- ---- a message under way

  -- it was sent last, at the session's time
  pub record IsUnderWay (a : SessionMeaning) (xs : List New) (m : Msg) : Type 0 where
    pub stream : m.stream ≡ s
    pub time : m.time ≡ a.standing.time
    pub sent : WasSent (plain (reverse xs) ++ h) m
    pub last : IsLastOf (plain (reverse xs) ++ h) s (Sent m)

  history_with : (xs : List New) (u : New) → plain (reverse (xs ++ u ∷ [])) ++ h ≡ u.made ∷ (plain (reverse xs) ++ h)
  history_with xs u = ap (λ (es : List NodeEntry). es ++ h) (news xs u)

  pub under_way : (a b : SessionMeaning) (xs : List New) (u : New) (m : Msg) (e : Entry) (j : List Entry) → m.stream ≡ s → u.made ≡ record { node = src plan h s k; entry = e } → e.event ≡ Sent m → HasStepped a b e
      → IsOwnLawful (λ t. a.standing) nothing (plan.sets (src plan h s k)) (src plan h s k) j e → IsUnderWay b (xs ++ u ∷ []) m
  under_way a b xs u m e j of made is stepped lawful =
      let may = subst (λ (v : Event). MayComeByJournal (λ t. a.standing) nothing (plan.sets (src plan h s k)) (src plan h s k) j e.time v) is lawful.may_come in
      let event : u.made.entry.event ≡ Sent m = ap (λ (n : NodeEntry). n.entry.event) made ∙ is in
      record {
        stream = of;
        time = may.1 ∙ sym stepped.after.time;
        sent = subst (λ (g : List NodeEntry). WasSent g m) (sym (history_with xs u)) (inl (subst (λ (v : Event). Sends v m) (sym event) refl));
        last = record {
          newer = [];
          this = u.made;
          older = plain (reverse xs) ++ h;
          all = history_with xs u;
          event_is = event;
          others = All-nil (λ (n : NodeEntry). is_of_stream n.entry.event s ≡ false);
        };
      }

  -- ---- at the destination

  record IsDestinationEvent (a : SessionMeaning) (call : Call) (g : List NodeEntry) (event : Event) : Type 0 where
    here : IsOfFlow plan h s k (dst plan h s k) event
    on : is_at_source event ≡ false
    at : is_at_destination event ≡ true
    heard : heard_time (given call) event ≡ a.standing.time
    with : (t : ℕ) → IsTrue (is_with_session event t) → StandsFor plan g t (given call 0)
    cause : HasCause g (dst plan h s k) event

  destined : (x z : Sides AtCell AtCell) (p q : NodePass) (xs : List New) (e : Entry) (event : Event) (call : Call) → e.event ≡ event → IsDestinationEvent x.session call (plain (reverse xs) ++ h) event → Sofar plan h s k x p q xs
      → ((t : ℕ) → given call t ≡ given call 0) → acts x.destination call None z.destination → made_through z.destination ≡ made_through x.destination ++ e ∷ [] → z.source ≡ x.source
      → (x.session.standing.time < e.time → HasStepped x.session z.session e)
      → (q' : NodePass) × (u : New) × (u.made ≡ record { node = dst plan h s k; entry = e }) × Sofar plan h s k z p q' (xs ++ u ∷ []) × IsSameCaller q q'
  destined x z p q xs e event call is of f flat act made still on =
      let a : IsDestinationEvent x.session call (plain (reverse xs) ++ h) e.event = subst (λ (v : Event). IsDestinationEvent x.session call (plain (reverse xs) ++ h) v) (sym is) of in
      destination_step plan h s k x z p q xs e call f flat act made still on a.here a.on a.at a.heard a.with a.cause

  accepted_event : (a : SessionMeaning) (xs : List New) (m : Msg) (at : List ℕ) → IsUnderWay a xs m → IsDestinationEvent a (Accepting m) (plain (reverse xs) ++ h) (Accepted m at)
  accepted_event a xs m at w = record {
    here = accepted_is plan h s k m at w.stream;
    on = refl;
    at = refl;
    heard = w.time;
    with = λ t on. let bad : false ≡ true = on in absurd (cc);
    cause = w.sent;
  }

  gapped_event : (a : SessionMeaning) (xs : List New) (m : Msg) (has : List ℕ) → IsUnderWay a xs m → IsDestinationEvent a (Accepting m) (plain (reverse xs) ++ h) (Gapped m has)
  gapped_event a xs m has w = record {
    here = gapped_is plan h s k m has w.stream;
    on = refl;
    at = refl;
    heard = w.time;
    with = λ t on. let bad : false ≡ true = on in absurd (cc);
    cause = w.sent;
  }

  down_event : (a b : SessionMeaning) (xs : List New) (cause : Cause) → Common plan h s k a xs → DownAfter cause (is_after_gap (journal (plain (reverse xs) ++ h) (dst plan h s k)) s)
      → IsDestinationEvent a (Ending cause a b) (plain (reverse xs) ++ h) (Down s cause)
  down_event a b xs cause c after = record {
    here = down_is plan h s k s cause refl;
    on = refl;
    at = refl;
    heard = refl;
    with = λ t on. subst (λ (i : ℕ). StandsFor plan (plain (reverse xs) ++ h) i a.standing) (sym (same_stream s t on)) c.stands;
    cause = (c.attached, after);
  }

  -- the destination accepted the message
  pub accepted : (x z : Sides AtCell AtCell) (p q : NodePass) (xs : List New) (e : Entry) (m : Msg) (at : List ℕ) → e.event ≡ Accepted m at → Sofar plan h s k x p q xs → IsUnderWay x.session xs m
      → HasTaken made_through acts x.destination x.session m e z.destination z.session → z.source ≡ x.source
      → (q' : NodePass) × (u : New) × (u.made ≡ record { node = dst plan h s k; entry = e }) × Sofar plan h s k z p q' (xs ++ u ∷ []) × IsSameCaller q q'
  accepted x z p q xs e m at is f w t still =
      destined x z p q xs e (Accepted m at) (Accepting m) is (accepted_event x.session xs m at w) f (λ j. refl) t.act t.made still
      (heard_steps x.session z.session e (subst (λ (v : Event). IsQuiet v) (sym is) (accepted_quiet m at)) t.session)

  -- it found that the message lies behind a gap
  pub gapped : (x z : Sides AtCell AtCell) (p q : NodePass) (xs : List New) (e : Entry) (m : Msg) (has : List ℕ) → e.event ≡ Gapped m has → Sofar plan h s k x p q xs → IsUnderWay x.session xs m
      → HasTaken made_through acts x.destination x.session m e z.destination z.session → z.source ≡ x.source
      → (q' : NodePass) × (u : New) × (u.made ≡ record { node = dst plan h s k; entry = e }) × Sofar plan h s k z p q' (xs ++ u ∷ []) × IsSameCaller q q'
  gapped x z p q xs e m has is f w t still =
      destined x z p q xs e (Gapped m has) (Accepting m) is (gapped_event x.session xs m has w) f (λ j. refl) t.act t.made still
      (heard_steps x.session z.session e (subst (λ (v : Event). IsQuiet v) (sym is) (gapped_quiet m has)) t.session)

  -- it noted that the flow went down
  pub went_down : (x z : Sides AtCell AtCell) (p q : NodePass) (xs : List New) (e : Entry) (cause : Cause) → e.event ≡ Down s cause → Sofar plan h s k x p q xs
      → DownAfter cause (is_after_gap (journal (plain (reverse xs) ++ h) (dst plan h s k)) s)
      → HasEnded made_through acts x.destination x.session cause e z.destination z.session → z.source ≡ x.source
      → (q' : NodePass) × (u : New) × (u.made ≡ record { node = dst plan h s k; entry = e }) × Sofar plan h s k z p q' (xs ++ u ∷ []) × IsSameCaller q q'
  went_down x z p q xs e cause is f after t still =
      destined x z p q xs e (Down s cause) (Ending cause x.session z.session) is (down_event x.session z.session xs cause f.common after) f (λ j. refl) t.act t.made still (λ lt. t.session)
