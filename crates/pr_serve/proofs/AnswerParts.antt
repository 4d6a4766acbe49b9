-- The entries of an answer, one after the other.
use Rattle.std.proofs.Common.{◌≡◌, ◌≤◌, ◌-◌, ℕ, List, [], ◌∷◌, ◌++◌, true, Option, Some, None, Result, Ok, Err, refl, sym, ap, subst, ◌∙◌, arith}
use Rattle.std.proofs.lemmas.List.{append-nil}
use Rattle.pr_names.specs.Span.{Span}
use Rattle.pr_inval.specs.declared.msg.Msg.{Msg}
use Rattle.pr_inval.specs.declared.node_fault.NodeFault.{NodeFault}
use Rattle.pr_inval.specs.declared.node_fault.NodeFault.TheVariants as node_faults
use Rattle.pr_inval.specs.declared.step.Step.{Step}
use Rattle.pr_inval.specs.declared.step.Step.TheVariants as steps
use Rattle.pr_inval.specs.Messages.{IsMessage}
use Rattle.pr_inval.specs.Standing.{SessionMeaning, Standing}
use Rattle.pr_node.specs.Calls.{Adds, AddsOfStream, IsCheckpointSent, IsFault, IsStep, IsTimeWorn}
use Rattle.pr_node.specs.Stored.{NodeMeaning}
use Rattle.pr_story.specs.declared.entry.Entry.{Entry}
use Rattle.pr_story.specs.declared.event.Event.{Event}
use Rattle.pr_story.specs.declared.event.Event.TheVariants.{Sent, Idle, Stale}
use Rattle.pr_story.specs.Lawful.{IsOwnLawful, last_time}
use Rattle.pr_story.specs.Sessions.{HasGoneOn, IsAfter}
use Rattle.pr_serve.specs.Answers.{IsMade, IsSessionAt, IsStoppedBy, place}
use Rattle.pr_serve.specs.Output.{Answering, Leads, Makes, Next, Nothing, Snapshot, Turn, frame_of, frames}

first_is : (a b : Entry) (x y : List Entry) → a ∷ x ≡ b ∷ y → a ≡ b
first_is a b x y e = cc

abbrev answering : List Entry → Standing → ℕ → Next → Answering
answering j s left next = record { journal = j; standing = s; left = left; next = next }

-- ---- one entry

module _ (x y : NodeMeaning) (s t : SessionMeaning) (P : Entry → Type 0) (adds : AddsOfStream x y s.standing 0 (λ e. P e × HasGoneOn s t true e)) where
  abbrev made : Adds x y (λ c. s.standing) (λ c. []) 0 (λ e. P e × HasGoneOn s t true e)
  made = adds (λ c. [])

  -- behind other entries of the same answer
  module _ (sets : List (List Span)) (n stream : ℕ) (j : List Entry) (same_sets : x.sets ≡ sets) (same_id : x.id ≡ n) (same_stream : s.stream ≡ stream) (same_journal : x.journal ≡ j) where
    lawful_here : (needs : ℕ → List ℕ) → IsOwnLawful (λ c. s.standing) needs sets n j made.entry
    lawful_here needs =
        let other : Adds x y (λ c. s.standing) needs 0 (λ e. P e × HasGoneOn s t true e) = adds needs in
        let one : IsOwnLawful (λ c. s.standing) needs x.sets x.id x.journal made.entry = subst (λ (e : Entry). IsOwnLawful (λ c. s.standing) needs x.sets x.id x.journal e) (first_is other.entry made.entry x.journal x.journal (sym other.follows ∙ made.follows)) other.lawful in
        let by_sets : IsOwnLawful (λ c. s.standing) needs sets x.id x.journal made.entry = subst (λ (k : List (List Span)). IsOwnLawful (λ c. s.standing) needs k x.id x.journal made.entry) same_sets one in
        let by_id : IsOwnLawful (λ c. s.standing) needs sets n x.journal made.entry = subst (λ (k : ℕ). IsOwnLawful (λ c. s.standing) needs sets k x.journal made.entry) same_id by_sets in
        subst (λ (k : List Entry). IsOwnLawful (λ c. s.standing) needs sets n k made.entry) same_journal by_id

    pub makes : (left after : ℕ) (next then : Next) → Leads sets n stream made.entry.event (answering j s.standing left next) (answering (made.entry ∷ j) t.standing after then) → Makes sets n stream (answering j s.standing left next) made.entry (answering (made.entry ∷ j) t.standing after then)
    makes left after next then leads = record {
      lawful = lawful_here;
      caller = made.by;
      early = made.early;
      leads = leads;
      standing = subst (λ (k : ℕ). IsAfter k made.entry s.standing t.standing) same_stream made.is.1.after;
      journal = refl;
    }

    pub stands : (after : ℕ) (then : Next) → IsSessionAt s t (answering (made.entry ∷ j) t.standing after then)
    stands after then = record {
      standing = refl;
      stream = made.is.1.stream;
      attached = made.is.1.is_attached;
      timely = omega (arith, made.is.1.after.time);
    }

-- ---- what a turn makes

pub frames_one : (e : Entry) (event : Event) → e.event ≡ event → frames (e ∷ []) ≡ frame_of event
frames_one e event is = append-nil (frame_of e.event) ∙ ap frame_of is

module _ (x y : NodeMeaning) (s t : SessionMeaning) (left : ℕ) (some : 1 ≤ left) where
  abbrev of_step : Step → Type 0
  of_step step = AddsOfStream x y s.standing 0 (λ e. IsStep s.stream step e × HasGoneOn s t true e)

  pub sent_made : (m : Msg) → of_step (steps.Sent m) → IsMessage m → IsMade x y s t left (Ok (Some m))
  sent_made m adds spelled =
      let P : Entry → Type 0 = λ e. IsStep s.stream (steps.Sent m) e in
      let one = made x y s t P adds in
      let is = one.is.0 in
      let to = answering (one.entry ∷ x.journal) t.standing (left - 1) Turn in
      let leads : Leads x.sets x.id s.stream one.entry.event (place x s left) to = subst (λ (event : Event). Leads x.sets x.id s.stream event (place x s left) to) (sym is.0) (is.1, is.2, omega (arith, some), refl) in (
        spelled,
        (
          one.entry ∷ [],
          to,
          record {
            run = (to, makes x y s t P adds x.sets x.id s.stream x.journal refl refl refl refl left (left - 1) Turn Turn leads, refl);
            journal = one.follows;
            same_id = one.same_id;
            same_sets = one.same_sets;
          },
          stands x y s t P adds x.sets x.id s.stream x.journal refl refl refl refl (left - 1) Turn,
          frames_one one.entry (Sent m) is.0,
          refl,
          omega (arith, some),
        ),
      )

  pub idle_made : of_step steps.Idle → IsMade x y s t left (Ok None)
  idle_made adds =
      let P : Entry → Type 0 = λ e. IsStep s.stream steps.Idle e in
      let one = made x y s t P adds in
      let is = one.is.0 in
      let to = answering (one.entry ∷ x.journal) t.standing (left - 1) Nothing in
      let leads : Leads x.sets x.id s.stream one.entry.event (place x s left) to = subst (λ (event : Event). Leads x.sets x.id s.stream event (place x s left) to) (sym is) (refl, refl, omega (arith, some), refl) in (
        one.entry ∷ [],
        to,
        record {
          run = (to, makes x y s t P adds x.sets x.id s.stream x.journal refl refl refl refl left (left - 1) Turn Nothing leads, refl);
          journal = one.follows;
          same_id = one.same_id;
          same_sets = one.same_sets;
        },
        stands x y s t P adds x.sets x.id s.stream x.journal refl refl refl refl (left - 1) Nothing,
        frames_one one.entry (Idle s.stream) is,
        refl,
      )

  not_whole : left ≡ 0 → ⊥
  not_whole none = omega (arith, some)

  stopped_by : (fault : NodeFault) → s.standing.time ≤ last_time x.journal → IsFault x y (IsTimeWorn x s.standing.time) fault → (y.journal ≡ x.journal) × (y.id ≡ x.id) × (y.sets ≡ x.sets) × IsStoppedBy (place x s left) fault
  stopped_by (node_faults.Worn at) timely f = (ap (λ (n : NodeMeaning). n.journal) f.1, ap (λ (n : NodeMeaning). n.id) f.1, ap (λ (n : NodeMeaning). n.sets) f.1, (f.0, omega (arith, f.2, timely)))
  stopped_by node_faults.NoMemory timely f = (f.same_journal, f.same_id, f.same_sets, tt)

  pub turn_refused : (fault : NodeFault) → s.standing.time ≤ last_time x.journal → IsFault x y (IsTimeWorn x s.standing.time) fault → IsMade x y s t left (Err fault)
  turn_refused fault timely f =
      let r = stopped_by fault timely f in
      ([], place x s left, record { run = refl; journal = r.0; same_id = r.1; same_sets = r.2 }, refl, not_whole, r.3)

  -- ---- a stale turn

  module _ (z : NodeMeaning) (u : SessionMeaning) (cut : List ℕ) (adds : of_step (steps.Stale cut)) where
    abbrev stale : Entry → Type 0
    stale e = IsStep s.stream (steps.Stale cut) e

    abbrev entry : Entry
    entry = (made x y s t stale adds).entry

    abbrev behind : Answering
    behind = answering (entry ∷ x.journal) t.standing left Snapshot

    went : Makes x.sets x.id s.stream (place x s left) entry behind
    went =
        let one = made x y s t stale adds in
        makes x y s t stale adds x.sets x.id s.stream x.journal refl refl refl refl left left Turn Snapshot
        (subst (λ (event : Event). Leads x.sets x.id s.stream event (place x s left) behind) (sym one.is.0) (refl, refl, some, refl, refl))

    pub snapshot_made : (m : Msg) → AddsOfStream y z t.standing 0 (λ e. IsCheckpointSent t.stream m e × HasGoneOn t u true e) → IsMessage m → IsMade x z s u left (Ok (Some m))
    snapshot_made m more spelled =
        let one = made x y s t stale adds in
        let Q : Entry → Type 0 = λ e. IsCheckpointSent t.stream m e in
        let two = made y z t u Q more in
        let is = two.is.0 in
        let same_stream : t.stream ≡ s.stream = one.is.1.stream in
        let to = answering (two.entry ∷ entry ∷ x.journal) u.standing (left - 1) Turn in
        let leads : Leads x.sets x.id s.stream two.entry.event behind to = subst (λ (event : Event). Leads x.sets x.id s.stream event behind to) (sym is.0) (is.1 ∙ same_stream, is.2, omega (arith, some), refl) in
        let stood = stands y z t u Q more x.sets x.id s.stream (entry ∷ x.journal) one.same_sets one.same_id same_stream one.follows (left - 1) Turn in (
          spelled,
          (
            entry ∷ two.entry ∷ [],
            to,
            record {
              run = (behind, went, (to, makes y z t u Q more x.sets x.id s.stream (entry ∷ x.journal) one.same_sets one.same_id same_stream one.follows left (left - 1) Snapshot Turn leads, refl));
              journal = two.follows ∙ ap (λ (j : List Entry). two.entry ∷ j) one.follows;
              same_id = two.same_id ∙ one.same_id;
              same_sets = two.same_sets ∙ one.same_sets;
            },
            record { standing = stood.standing; stream = stood.stream ∙ same_stream; attached = stood.attached; timely = stood.timely },
            ap (λ (t : List ℕ). t ++ frames (two.entry ∷ [])) (ap frame_of one.is.0) ∙ frames_one two.entry (Sent m) is.0,
            refl,
            omega (arith, some),
          ),
        )

    worn_behind : (fault : NodeFault) → IsFault y z (IsTimeWorn y t.standing.time) fault → (z.journal ≡ y.journal) × (z.id ≡ y.id) × (z.sets ≡ y.sets) × IsStoppedBy behind fault
    worn_behind (node_faults.Worn at) f =
        let one = made x y s t stale adds in
        let last : last_time y.journal ≡ entry.time = ap last_time one.follows in
        let time : t.standing.time ≡ entry.time = one.is.1.after.time in
        (ap (λ (n : NodeMeaning). n.journal) f.1, ap (λ (n : NodeMeaning). n.id) f.1, ap (λ (n : NodeMeaning). n.sets) f.1, (f.0, omega (arith, f.2, last, time)))
    worn_behind node_faults.NoMemory f = (f.same_journal, f.same_id, f.same_sets, tt)

    pub snapshot_refused : (fault : NodeFault) → IsFault y z (IsTimeWorn y t.standing.time) fault → IsMade x z s u left (Err fault)
    snapshot_refused fault f =
        let one = made x y s t stale adds in
        let r = worn_behind fault f in (
          entry ∷ [],
          behind,
          record {
            run = (behind, went, refl);
            journal = r.0 ∙ one.follows;
            same_id = r.1 ∙ one.same_id;
            same_sets = r.2 ∙ one.same_sets;
          },
          frames_one entry (Stale s.stream cut) one.is.0,
          λ whole. whole,
          r.3,
        )

-- ---- as the result was answered

pub made_is : (x y : NodeMeaning) (s t : SessionMeaning) (left : ℕ) (r : Result (Option Msg) NodeFault) (fault : NodeFault) → r ≡ Err fault → IsMade x y s t left (Err fault) → IsMade x y s t left r
made_is x y s t left r fault is f = subst (λ (q : Result (Option Msg) NodeFault). IsMade x y s t left q) (sym is) f

pub step_is : (x y : NodeMeaning) (s t : SessionMeaning) (step other : Step) → step ≡ other → AddsOfStream x y s.standing 0 (λ e. IsStep s.stream step e × HasGoneOn s t true e) → AddsOfStream x y s.standing 0 (λ e. IsStep s.stream other e × HasGoneOn s t true e)
step_is x y s t step other is adds = subst (λ (k : Step). AddsOfStream x y s.standing 0 (λ e. IsStep s.stream k e × HasGoneOn s t true e)) is adds

pub goes_on : (x y : NodeMeaning) (s t : SessionMeaning) (step : Step) → AddsOfStream x y s.standing 0 (λ e. IsStep s.stream step e × HasGoneOn s t true e) → t.attached ≡ true
goes_on x y s t step adds = (adds (λ c. [])).is.1.is_attached
