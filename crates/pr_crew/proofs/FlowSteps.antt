-- A flow's job, event by event.
use Rattle.std.proofs.Common.{◌≡◌, ℕ, ◌<◌, ◌+◌, List, [], ◌∷◌, ◌++◌, inl, inr, refl, sym, ap, ◌∙◌, subst, max, arith}
use Rattle.std.specs.Prelude.{true, false, IsTrue, Some, None, reverse}
use Rattle.pr_flow.specs.Calls.{Call, HasStepped, HasTurned, IsSending, Turning}
use Rattle.pr_flow.specs.Flows.{Sides, is_at_destination, is_at_source}
use Rattle.pr_inval.specs.Standing.{Standing}
use Rattle.pr_story.specs.declared.entry.Entry.{Entry}
use Rattle.pr_story.specs.declared.event.Event.{Event}
use Rattle.pr_story.specs.Clients.{is_with_needs}
use Rattle.pr_story.specs.History.{NodeEntry, Plan}
use Rattle.pr_story.specs.Lawful.{HasCause, IsOwnLawful, IsPlaced, heard_time, last_time}
use Rattle.pr_story.specs.Laws.{StandsFor}
use Rattle.pr_story.specs.Merging.{IsNoMissing, New, plain}
use Rattle.pr_story.specs.Turns.{IsAttached, is_of_stream, is_timed, is_with_session}
use Rattle.pr_crew.specs.Acting.{AtCell, acts, given, made_through, nothing}
use Rattle.pr_crew.specs.Jobs.{MadeAt, at_destination, at_source}
use Rattle.pr_crew.specs.Making.{IsCellOf, IsSameCaller, NodePass}
use Rattle.pr_crew.proofs.FlowMore.{Common, IsSpelled, common_more, destination_none, destination_one, next, side_more, source_none, source_one}

module _ (plan : Plan) (h : List NodeEntry) (s k : ℕ) where
  abbrev pub src : ℕ
  src = (plan.stream s).source

  abbrev pub dst : ℕ
  dst = (plan.stream s).destination

  -- both sides and the session, where the job has made these
  pub record Sofar (x : Sides AtCell AtCell) (p q : NodePass) (xs : List New) : Type 0 where
    pub common : Common plan h s k x.session xs
    pub has_source : x.source.pass ≡ Some p
    pub has_destination : x.destination.pass ≡ Some q
    pub source_cell : IsCellOf plan h src x.source.cell
    pub destination_cell : IsCellOf plan h dst x.destination.cell
    pub source_made : MadeAt plan h src p (at_source xs)
    pub destination_made : MadeAt plan h dst q (at_destination xs)

  -- what is so of each event of the stream at node n
  pub record IsOfFlow (n : ℕ) (event : Event) : Type 0 where
    pub timed : is_timed event s ≡ true
    pub own : IsTrue (is_of_stream event s) × IsNoMissing event
    pub needs : (c : ℕ) → is_with_needs event c ≡ false
    pub placed : (g : List NodeEntry) → IsPlaced plan g n event

  sent_spelled : (stream : ℕ) (event : Event) → IsSending stream event → IsSpelled event
  sent_spelled stream event sends msg is = let m = subst (λ (v : Event). IsSending stream v) is sends in m.message

  unsent : (event : Event) → is_at_source event ≡ false → IsSpelled event
  unsent event off msg is = let bad : true ≡ false = ap (λ (v : Event). is_at_source v) (sym is) ∙ off in absurd (cc)

  after_time : (a e last : ℕ) → e ≡ max last a + 1 → a < e
  after_time a e last is = omega (arith, is)

  -- the source made an entry
  pub source_step : (x z : Sides AtCell AtCell) (p q : NodePass) (xs : List New) (e : Entry) → Sofar x p q xs → HasTurned made_through acts x.source x.session e z.source z.session → z.destination ≡ x.destination
      → IsOfFlow src e.event → is_at_source e.event ≡ true → is_at_destination e.event ≡ false → ((sessions : ℕ → Standing) → heard_time sessions e.event ≡ (sessions s).time)
      → ((t : ℕ) → IsTrue (is_with_session e.event t) → t ≡ s) → ((g : List NodeEntry) → IsAttached g s → HasCause g src e.event)
      → (p' : NodePass) × (u : New) × (u.made ≡ record { node = src; entry = e }) × Sofar z p' q (xs ++ u ∷ []) × IsSameCaller p p'
      × ((j : List Entry) × IsOwnLawful (λ t. x.session.standing) nothing (plan.sets src) src j e)
  source_step x z p q xs e f t still here on off heard with cause =
      let call = Turning x.session z.session in
      let m = side_more plan h s k src call x.source z.source p (at_source xs) e (λ j. refl) f.has_source f.source_cell t.act t.made f.source_made in
      let u = next plan h s k src call e in
      let a = x.session.standing.time in
      let time : e.time ≡ max (last_time m.before) a + 1 = m.lawful.time ∙ ap (λ (b : ℕ). max (last_time m.before) b + 1) (heard (given call)) in (
        m.pass,
        u,
        refl,
        record {
          common = common_more plan h s k x.session z.session xs u f.common (record {
            job = refl;
            few = f.source_cell.node;
            placed = here.placed (plain (reverse xs) ++ h);
            cause = cause (plain (reverse xs) ++ h) f.common.attached;
            session = λ j at. subst (λ (i : ℕ). StandsFor plan (plain (reverse xs) ++ h) i x.session.standing) (sym (with j at)) f.common.stands;
            needs = here.needs;
            on = t.session;
            timed = here.timed;
            own = here.own;
            side = inl on;
            spelled = sent_spelled x.session.stream e.event t.sends;
            later = after_time a e.time (last_time m.before) time;
          });
          has_source = m.has;
          has_destination = ap (λ (y : AtCell). y.pass) still ∙ f.has_destination;
          source_cell = m.cell;
          destination_cell = subst (λ (y : AtCell). IsCellOf plan h dst y.cell) (sym still) f.destination_cell;
          source_made = subst (λ (ys : List New). MadeAt plan h src m.pass ys) (sym (source_one xs u on)) m.made;
          destination_made = subst (λ (ys : List New). MadeAt plan h dst q ys) (sym (destination_none xs u off)) f.destination_made;
        },
        m.same,
        (m.before, m.lawful),
      )

  -- the destination made an entry, in a call that hears a time which is the session's
  pub destination_step : (x z : Sides AtCell AtCell) (p q : NodePass) (xs : List New) (e : Entry) (call : Call) → Sofar x p q xs → ((t : ℕ) → given call t ≡ given call 0) → acts x.destination call None z.destination
      → made_through z.destination ≡ made_through x.destination ++ e ∷ [] → z.source ≡ x.source → (x.session.standing.time < e.time → HasStepped x.session z.session e)
      → IsOfFlow dst e.event → is_at_source e.event ≡ false → is_at_destination e.event ≡ true → heard_time (given call) e.event ≡ x.session.standing.time
      → ((t : ℕ) → IsTrue (is_with_session e.event t) → StandsFor plan (plain (reverse xs) ++ h) t (given call 0)) → HasCause (plain (reverse xs) ++ h) dst e.event
      → (q' : NodePass) × (u : New) × (u.made ≡ record { node = dst; entry = e }) × Sofar z p q' (xs ++ u ∷ []) × IsSameCaller q q'
  destination_step x z p q xs e call f flat act made still on here off at heard with cause =
      let m = side_more plan h s k dst call x.destination z.destination q (at_destination xs) e flat f.has_destination f.destination_cell act made f.destination_made in
      let u = next plan h s k dst call e in
      let a = x.session.standing.time in
      let time : e.time ≡ max (last_time m.before) a + 1 = m.lawful.time ∙ ap (λ (b : ℕ). max (last_time m.before) b + 1) heard in (
        m.pass,
        u,
        refl,
        record {
          common = common_more plan h s k x.session z.session xs u f.common (record {
            job = refl;
            few = f.destination_cell.node;
            placed = here.placed (plain (reverse xs) ++ h);
            cause = cause;
            session = with;
            needs = here.needs;
            on = on (after_time a e.time (last_time m.before) time);
            timed = here.timed;
            own = here.own;
            side = inr at;
            spelled = unsent e.event off;
            later = after_time a e.time (last_time m.before) time;
          });
          has_source = ap (λ (y : AtCell). y.pass) still ∙ f.has_source;
          has_destination = m.has;
          source_cell = subst (λ (y : AtCell). IsCellOf plan h src y.cell) (sym still) f.source_cell;
          destination_cell = m.cell;
          source_made = subst (λ (ys : List New). MadeAt plan h src p ys) (sym (source_none xs u off)) f.source_made;
          destination_made = subst (λ (ys : List New). MadeAt plan h dst m.pass ys) (sym (destination_one xs u at)) m.made;
        },
        m.same,
      )
