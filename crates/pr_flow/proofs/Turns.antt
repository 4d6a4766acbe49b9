-- The turns of a flow: what each gives, and how it leads to the next.
use Rattle.std.proofs.Common.{◌≡◌, ◌≢◌, ◌≤◌, ◌-◌, ℕ, List, [], ◌∷◌, ◌++◌, Option, None, Ok, Err, inl, inr, sym, subst, refl, ap, ◌∙◌, append_assoc}
use Rattle.std.proofs.lemmas.List.{append-nil}
use Rattle.std.specs.Io.{StartsWith}
use Rattle.pr_inval.specs.declared.msg.Msg.{Msg}
use Rattle.pr_inval.specs.declared.node_fault.NodeFault.{NodeFault}
use Rattle.pr_inval.specs.declared.node_fault.NodeFault.TheVariants.{NoMemory}
use Rattle.pr_inval.specs.Standing.{SessionMeaning}
use Rattle.pr_story.specs.declared.cause.Cause.{Cause}
use Rattle.pr_story.specs.declared.cause.Cause.TheVariants.{Gap}
use Rattle.pr_story.specs.declared.entry.Entry.{Entry}
use Rattle.pr_story.specs.declared.event.Event.TheVariants.{Sent, Idle, Stale, Accepted, Gapped, Down}
use Rattle.pr_wire.specs.Spelling.{spelling}
use Rattle.pr_wire.specs.declared.format.Format.TheVariants.{Two}
use Rattle.pr_wires.specs.Calls.{Grows}
use Rattle.pr_flow.specs.declared.flow_end.FlowEnd.TheVariants as ends
use Rattle.pr_flow.specs.Calls.{Call, HasEnded, HasNotEnded, HasNotTaken, HasNotTurned, HasTaken, HasTurned, IsSendable, entry_of}
use Rattle.pr_flow.specs.Flows.{Leads, Rest, Sides, SomeFlow, at_destination, at_source, crossed, events_of}
use Rattle.pr_flow.specs.Moving.{IsPart}
use Rattle.pr_flow.proofs.Growing.{grows_more, grows_none}

-- entries that were made after one
pub made_more : {S : Type 0} (made : S → List Entry) (x y z : S) (e : Entry) (es : List Entry) → made y ≡ made x ++ e ∷ [] → made z ≡ made y ++ es → made z ≡ made x ++ (e ∷ es)
made_more made x y z e es one more = more ∙ ap (λ (l : List Entry). l ++ es) one ∙ append_assoc (made x) (e ∷ []) es

pub made_none : {S : Type 0} (made : S → List Entry) (x y : S) → made y ≡ made x → made y ≡ made x ++ []
made_none made x y same = same ∙ sym (append-nil (made x))

grows_first : (a b c : Option (List ℕ)) (x y z : List ℕ) → Grows a b x → Grows b c (y ++ z) → Grows a c ((x ++ y) ++ z)
grows_first a b c x y z p q = subst (λ (t : List ℕ). Grows a c t) (sym (append_assoc x y z)) (grows_more a b c x (y ++ z) p q)

grows_alone : (a b : Option (List ℕ)) (x : List ℕ) → Grows a b x → Grows a b ((x ++ []) ++ [])
grows_alone a b x p = subst (λ (t : List ℕ). Grows a b t) (sym (append-nil (x ++ []) ∙ append-nil x)) p

module _ {A B : Type 0} (made_a : A → List Entry) (act_a : A → Call → Option NodeFault → A → Type 0)
    (made_b : B → List Entry) (act_b : B → Call → Option NodeFault → B → Type 0) where
  abbrev sides : A → B → SessionMeaning → Sides A B
  sides a b session = record { source = a; destination = b; session = session }

  -- ---- to the next turn

  pub leads_nowhere : (s turns : ℕ) (x : Sides A B) (given taken : Option (List ℕ)) → Leads made_a act_a made_b act_b s turns turns x x given given taken taken
  leads_nowhere s turns x given taken = λ y given_now taken_now end f. f

  pub leads_more : (s turns left last : ℕ) (x z w : Sides A B) (g g1 g2 t t1 t2 : Option (List ℕ)) → Leads made_a act_a made_b act_b s turns left x z g g1 t t1 → Leads made_a act_a made_b act_b s left last z w g1 g2 t1 t2 → Leads made_a act_a made_b act_b s turns last x w g g2 t t2
  leads_more s turns left last x z w g g1 g2 t t1 t2 p q = λ y given_now taken_now end f. p y given_now taken_now end (q y given_now taken_now end f)

  pub idle_leads : (s turns : ℕ) (a a1 : A) (b : B) (c c1 : SessionMeaning) (g t : Option (List ℕ)) (time caller : ℕ) → 1 ≤ turns → HasTurned made_a act_a a c (entry_of time caller (Idle s)) a1 c1 → Leads made_a act_a made_b act_b s turns (turns - 1) (sides a b c) (sides a1 b c1) g g t t
  idle_leads s turns a a1 b c c1 g t time caller some turned = λ y given_now taken_now end f.
      let e = entry_of time caller (Idle s) in (
        e ∷ f.0,
        f.1,
        record {
          calls = (f.2.calls.0, (sides a1 b c1, (turned, refl), f.2.calls.1), (some, refl, f.2.calls.2));
          source = made_more made_a a a1 y.source e (at_source f.0) turned.made f.2.source;
          destination = f.2.destination;
          given = f.2.given;
          taken = f.2.taken;
        },
      )

  pub accepted_leads : (s turns : ℕ) (a a1 : A) (b b1 : B) (c c1 c2 : SessionMeaning) (m : Msg) (g g1 t t1 : Option (List ℕ)) (time caller then taker : ℕ) (vector : List ℕ) → 1 ≤ turns → IsSendable s m → HasTurned made_a act_a a c (entry_of time caller (Sent m)) a1 c1 → HasTaken made_b act_b b c1 m (entry_of then taker (Accepted m vector)) b1 c2 → Grows g g1 (spelling Two m) → Grows t t1 (spelling Two m) → Leads made_a act_a made_b act_b s turns (turns - 1) (sides a b c) (sides a1 b1 c2) g g1 t t1
  accepted_leads s turns a a1 b b1 c c1 c2 m g g1 t t1 time caller then taker vector some sendable turned taken given_grows taken_grows = λ y given_now taken_now end f.
      let e = entry_of time caller (Sent m) in
      let d = entry_of then taker (Accepted m vector) in (
        e ∷ d ∷ f.0,
        f.1,
        record {
          calls = (f.2.calls.0, (sides a1 b c1, (turned, refl), (sides a1 b1 c2, (taken, refl), f.2.calls.1)), (some, sendable.stream, sendable.kind, (refl, f.2.calls.2)));
          source = made_more made_a a a1 y.source e (at_source f.0) turned.made f.2.source;
          destination = made_more made_b b b1 y.destination d (at_destination f.0) taken.made f.2.destination;
          given = grows_first g g1 given_now (spelling Two m) (crossed (events_of f.0)) f.1.put given_grows f.2.given;
          taken = grows_first t t1 taken_now (spelling Two m) (crossed (events_of f.0)) f.1.got taken_grows f.2.taken;
        },
      )

  -- ---- to the end

  abbrev nothing : Rest
  nothing = record { put = []; got = [] }

  pub done_ends : (s : ℕ) (x : Sides A B) (g t : Option (List ℕ)) → SomeFlow made_a act_a made_b act_b s None 0 x x g g t t (Ok ends.Done)
  done_ends s x g t = (
    [],
    nothing,
    record {
      calls = (x, refl, (refl, (refl, refl), refl));
      source = made_none made_a x.source x.source refl;
      destination = made_none made_b x.destination x.destination refl;
      given = grows_none g g refl;
      taken = grows_none t t refl;
    },
  )

  pub stale_ends : (s turns : ℕ) (a a1 : A) (b : B) (c c1 : SessionMeaning) (g t : Option (List ℕ)) (time caller : ℕ) (cut : List ℕ) → 1 ≤ turns → HasTurned made_a act_a a c (entry_of time caller (Stale s cut)) a1 c1 → SomeFlow made_a act_a made_b act_b s None turns (sides a b c) (sides a1 b c1) g g t t (Ok ends.Stale)
  stale_ends s turns a a1 b c c1 g t time caller cut some turned = (
    entry_of time caller (Stale s cut) ∷ [],
    nothing,
    record {
      calls = (sides a1 b c1, (sides a1 b c1, (turned, refl), refl), (some, refl, refl, refl, (refl, refl), refl));
      source = turned.made;
      destination = made_none made_b b b refl;
      given = grows_none g g refl;
      taken = grows_none t t refl;
    },
  )

  pub turn_refused : (s turns : ℕ) (a a1 : A) (b : B) (c c1 : SessionMeaning) (g t : Option (List ℕ)) (fault : NodeFault) → 1 ≤ turns → HasNotTurned made_a act_a a c fault a1 c1 → SomeFlow made_a act_a made_b act_b s None turns (sides a b c) (sides a1 b c1) g g t t (Err fault)
  turn_refused s turns a a1 b c c1 g t fault some refused = (
    [],
    nothing,
    record {
      calls = (sides a b c, refl, (some, (refl, refl), refused, refl));
      source = made_none made_a a a1 refused.made;
      destination = made_none made_b b b refl;
      given = grows_none g g refl;
      taken = grows_none t t refl;
    },
  )

  module _ (s turns : ℕ) (a a1 : A) (b b1 : B) (c c1 c2 : SessionMeaning) (m : Msg) (g g1 t t1 : Option (List ℕ)) (time caller : ℕ) (some : 1 ≤ turns) (sendable : IsSendable s m) (turned : HasTurned made_a act_a a c (entry_of time caller (Sent m)) a1 c1) where
    -- behind the message that was sent, these bytes were put and taken
    pub cut_ends : (cause : Cause) (put got : List ℕ) (then taker : ℕ) → cause ≢ Gap → IsPart (spelling Two m) put got → HasEnded made_b act_b b c1 cause (entry_of then taker (Down s cause)) b1 c2 → Grows g g1 put → Grows t t1 got → SomeFlow made_a act_a made_b act_b s None turns (sides a b c) (sides a1 b1 c2) g g1 t t1 (Ok (ends.Down cause))
    cut_ends cause put got then taker no_gap part ended given_grows taken_grows = (
      entry_of time caller (Sent m) ∷ entry_of then taker (Down s cause) ∷ [],
      record { put = put; got = got },
      record {
        calls = (sides a1 b1 c2, (sides a1 b c1, (turned, refl), (sides a1 b1 c2, (ended, refl), refl)), (some, sendable.stream, sendable.kind, (refl, no_gap, refl, refl, part, refl)));
        source = turned.made;
        destination = ended.made;
        given = given_grows;
        taken = taken_grows;
      },
    )

    pub cut_refused : (fault : NodeFault) (cause : Cause) (put got : List ℕ) → cause ≢ Gap → IsPart (spelling Two m) put got → HasNotEnded made_b act_b b c1 cause fault b1 c2 → Grows g g1 put → Grows t t1 got → SomeFlow made_a act_a made_b act_b s None turns (sides a b c) (sides a1 b1 c2) g g1 t t1 (Err fault)
    cut_refused fault cause put got no_gap part refused given_grows taken_grows = (
      entry_of time caller (Sent m) ∷ [],
      record { put = put; got = got },
      record {
        calls = (sides a1 b c1, (sides a1 b c1, (turned, refl), refl), (some, sendable.stream, sendable.kind, inr (inl (part, (cause, no_gap, refused), refl))));
        source = turned.made;
        destination = made_none made_b b b1 refused.made;
        given = given_grows;
        taken = taken_grows;
      },
    )

    pub taking_refused : (fault : NodeFault) → HasNotTaken made_b act_b b c1 m fault b1 c2 → Grows g g1 (spelling Two m) → Grows t t1 (spelling Two m) → SomeFlow made_a act_a made_b act_b s None turns (sides a b c) (sides a1 b1 c2) g g1 t t1 (Err fault)
    taking_refused fault refused given_grows taken_grows = (
      entry_of time caller (Sent m) ∷ [],
      record { put = spelling Two m; got = spelling Two m },
      record {
        calls = (sides a1 b c1, (sides a1 b c1, (turned, refl), refl), (some, sendable.stream, sendable.kind, inl (refl, refl, refused, refl)));
        source = turned.made;
        destination = made_none made_b b b1 refused.made;
        given = given_grows;
        taken = taken_grows;
      },
    )

    pub gap_ends : (b2 : B) (c3 : SessionMeaning) (then taker later noter : ℕ) (has : List ℕ) → HasTaken made_b act_b b c1 m (entry_of then taker (Gapped m has)) b2 c3 → HasEnded made_b act_b b2 c3 Gap (entry_of later noter (Down s Gap)) b1 c2 → Grows g g1 (spelling Two m) → Grows t t1 (spelling Two m) → SomeFlow made_a act_a made_b act_b s None turns (sides a b c) (sides a1 b1 c2) g g1 t t1 (Ok (ends.Down Gap))
    gap_ends b2 c3 then taker later noter has taken ended given_grows taken_grows =
        let d = entry_of then taker (Gapped m has) in
        let e = entry_of later noter (Down s Gap) in (
          entry_of time caller (Sent m) ∷ d ∷ e ∷ [],
          nothing,
          record {
            calls = (sides a1 b1 c2, (sides a1 b c1, (turned, refl), (sides a1 b2 c3, (taken, refl), (sides a1 b1 c2, (ended, refl), refl))), (some, sendable.stream, sendable.kind, (refl, (refl, refl, refl, (refl, refl), refl))));
            source = turned.made;
            destination = made_more made_b b b2 b1 d (e ∷ []) taken.made ended.made;
            given = grows_alone g g1 (spelling Two m) given_grows;
            taken = grows_alone t t1 (spelling Two m) taken_grows;
          },
        )

    pub gap_refused : (b2 : B) (c3 : SessionMeaning) (fault : NodeFault) (then taker : ℕ) (has : List ℕ) → HasTaken made_b act_b b c1 m (entry_of then taker (Gapped m has)) b2 c3 → HasNotEnded made_b act_b b2 c3 Gap fault b1 c2 → Grows g g1 (spelling Two m) → Grows t t1 (spelling Two m) → SomeFlow made_a act_a made_b act_b s None turns (sides a b c) (sides a1 b1 c2) g g1 t t1 (Err fault)
    gap_refused b2 c3 fault then taker has taken refused given_grows taken_grows =
        let d = entry_of then taker (Gapped m has) in (
          entry_of time caller (Sent m) ∷ d ∷ [],
          nothing,
          record {
            calls = (sides a1 b2 c3, (sides a1 b c1, (turned, refl), (sides a1 b2 c3, (taken, refl), refl)), (some, sendable.stream, sendable.kind, (refl, ((refl, refl), refused, refl))));
            source = turned.made;
            destination = refused.made ∙ taken.made;
            given = grows_alone g g1 (spelling Two m) given_grows;
            taken = grows_alone t t1 (spelling Two m) taken_grows;
          },
        )

  module _ (s turns : ℕ) (a a1 : A) (b : B) (c c1 : SessionMeaning) (m : Msg) (g g1 t t1 : Option (List ℕ)) (time caller : ℕ) (some : 1 ≤ turns) (sendable : IsSendable s m) (turned : HasTurned made_a act_a a c (entry_of time caller (Sent m)) a1 c1) where
    pub lied_ends : (put sent got : List ℕ) → sent ≡ spelling Two m → StartsWith sent put → ¬ StartsWith sent got → Grows g g1 put → Grows t t1 got → SomeFlow made_a act_a made_b act_b s None turns (sides a b c) (sides a1 b c1) g g1 t t1 (Ok (ends.Lied m.number sent got))
    lied_ends put sent got is starts other given_grows taken_grows = (
      entry_of time caller (Sent m) ∷ [],
      record { put = put; got = got },
      record {
        calls = (sides a1 b c1, (sides a1 b c1, (turned, refl), refl), (some, sendable.stream, sendable.kind, ((refl, is, other), starts, refl, refl)));
        source = turned.made;
        destination = made_none made_b b b refl;
        given = given_grows;
        taken = taken_grows;
      },
    )

    pub memory_ends : (fault : NodeFault) (put got : List ℕ) → fault ≡ NoMemory → StartsWith (spelling Two m) put → Grows g g1 put → Grows t t1 got → SomeFlow made_a act_a made_b act_b s None turns (sides a b c) (sides a1 b c1) g g1 t t1 (Err fault)
    memory_ends fault put got is starts given_grows taken_grows = (
      entry_of time caller (Sent m) ∷ [],
      record { put = put; got = got },
      record {
        calls = (sides a1 b c1, (sides a1 b c1, (turned, refl), refl), (some, sendable.stream, sendable.kind, inr (inr (starts, is, refl))));
        source = turned.made;
        destination = made_none made_b b b refl;
        given = given_grows;
        taken = taken_grows;
      },
    )
