-- A flow, turn by turn.
use Rattle.std.proofs.Common.{◌≡◌, ◌≢◌, ℕ, ◌+◌, ◌-◌, ◌<◌, List, [], ◌∷◌, ◌++◌, Result, Ok, Err, IsErrAnd, inr, refl, sym, ◌∙◌, ap, subst, length, get_or, reverse, arith}
use Rattle.std.specs.Prelude.{Bool, IsTrue, Some, None, Option}
use Rattle.std.proofs.lemmas.List.{append_assoc, reverse-append}
use Rattle.std.proofs.lemmas.Result.{err_from_is_err_and}
use Rattle.pr_inval.specs.declared.msg.Msg.{Msg}
use Rattle.pr_inval.specs.declared.node_fault.NodeFault.{NodeFault}
use Rattle.pr_inval.specs.declared.step.Step.TheVariants as steps
use Rattle.pr_node.specs.declared.answers.turned.Turned.{Turned}
use Rattle.pr_node.specs.declared.answers.turned.Turned.TheVariants as turned
use Rattle.pr_inval.specs.declared.taken.Taken.{Taken}
use Rattle.pr_inval.specs.declared.taken.Taken.TheVariants as taken
use Rattle.pr_inval.specs.Standing.{Remembered}
use Rattle.pr_inval.specs.Standing as session
use Rattle.pr_flow.specs.declared.flow_end.FlowEnd.{FlowEnd}
use Rattle.pr_flow.specs.declared.flow_end.FlowEnd.TheVariants as ends
use Rattle.pr_flow.specs.Moving.{IsCut}
use Rattle.pr_node.specs.Calls.{Adds, IsDownFor, IsStep, IsTaken}
use Rattle.pr_node.specs.Stored.{Stored, means}
use Rattle.pr_story.specs.declared.cause.Cause.{Cause}
use Rattle.pr_story.specs.declared.cause.Cause.TheVariants.{Failed, Ended, Gap}
use Rattle.pr_story.specs.declared.entry.Entry.{Entry}
use Rattle.pr_story.specs.declared.event.Event.{Event}
use Rattle.pr_story.specs.declared.event.Event.TheVariants.{Down, Gapped, Stale}
use Rattle.pr_story.specs.Clients.{client_vector}
use Rattle.pr_story.specs.History.{Plan, NodeEntry, Sends, journal}
use Rattle.pr_story.specs.Lawful.{HasCause, IsPlaced}
use Rattle.pr_story.specs.Places as story
use Rattle.pr_story.specs.Places.{sent_places}
use Rattle.pr_story.specs.Scripts.{AreTurns, events_of}
use Rattle.pr_story.specs.Sessions.{HasGoneOn}
use Rattle.pr_story.specs.Turns.{IsAttached, Attaches}
use Rattle.pr_inval.specs.Messages.{IsMessage}
use Rattle.pr_wires.specs.Calls.{WireState}
use Rattle.pr_sim.proofs.Scans.{scans_more}
use Rattle.pr_sim.specs.Commands.{Grows, IsCause, IsTurnMade, MakesOne}
use Rattle.pr_sim.specs.Flowing.{CanGoDown, IsBegun, IsDownMade, IsJustSent, IsOnTheWay, LeadsTo, TurnsEnd}
use Rattle.pr_merge.specs.Holding.{IsSession}
use Rattle.pr_sim.specs.Running.{HasAttached, IsRunning, Tells, AreScans}
use Rattle.pr_story.specs.Counts.{Declared}
use Rattle.pr_sim.specs.declared.engine.Engine.{Engine}
use Rattle.pr_story.proofs.OfStreams.{IsOfStream, after_gap, down_is as is_down}
use Rattle.pr_sim.proofs.OfStreams.{session_of, stream_ends}
use Rattle.pr_sim.proofs.Step.{HasMoved, put}

-- ---- growing

-- nothing was made, for this cause
pub not_grown : {X : Type 0} (d : Declared) (after : ℕ → Bool) (h : List NodeEntry) (P : X → List NodeEntry → Type 0) (B : List NodeEntry → Type 0) (f : Engine) (Q : NodeFault → Type 0) (r : Result X NodeFault)
    → IsErrAnd r Q → ((fault : NodeFault) → Q fault → IsCause h fault) → Tells d h f → B [] → Grows P B d after h f r
not_grown {X = X} d after h P B f Q r err cause tells begun =
    let p = err_from_is_err_and r err in
    subst (λ (x : Result X NodeFault). Grows P B d after h f x) (sym p.1) ([], tells, begun, cause p.0 p.2)

-- it grew no further, and this is answered again
pub still_grown : {X Y : Type 0} (d : Declared) (after : ℕ → Bool) (h : List NodeEntry) (P : X → List NodeEntry → Type 0) (R : Y → List NodeEntry → Type 0) (B : List NodeEntry → Type 0) (f : Engine) (was : NodeFault) (r : Result X NodeFault)
    → IsErrAnd r (λ fault. fault ≡ was) → Grows R B d after h f (Err was) → Grows P B d after h f r
still_grown {X = X} d after h P R B f was r err (new, tells, begun, cause) =
    let p = err_from_is_err_and r err in
    subst (λ (x : Result X NodeFault). Grows P B d after h f x) (sym p.1) (new, tells, begun, subst (λ (x : NodeFault). IsCause (new ++ h) x) (sym p.2) cause)

-- it grew by the first entries, and then by others
pub grows_behind : {X : Type 0} (d : Declared) (after : ℕ → Bool) (h first : List NodeEntry) (f : Engine) (P Q : X → List NodeEntry → Type 0) (B C : List NodeEntry → Type 0) (r : Result X NodeFault)
    → ((x : X) (es : List NodeEntry) → P x es → Q x (reverse first ++ es)) → ((es : List NodeEntry) → B es → C (reverse first ++ es))
    → Grows P B d after (first ++ h) f r → Grows Q C d after h f r
grows_behind d after h first f P Q B C (Ok x) more begun (new, running, is) = (
  new ++ first,
  subst (λ (g : List NodeEntry). IsRunning d after g f) (sym (append_assoc new first h)) running,
  subst (λ (es : List NodeEntry). Q x es) (sym (reverse-append new first)) (more x (reverse new) is),
)
grows_behind d after h first f P Q B C (Err fault) more begun (new, tells, is, cause) = (
  new ++ first,
  subst (λ (g : List NodeEntry). Tells d g f) (sym (append_assoc new first h)) tells,
  subst (λ (es : List NodeEntry). C es) (sym (reverse-append new first)) (begun (reverse new) is),
  subst (λ (g : List NodeEntry). IsCause g fault) (sym (append_assoc new first h)) cause,
)

pub events_append : (a b : List NodeEntry) → events_of (a ++ b) ≡ events_of a ++ events_of b
events_append [] b = refl
events_append (e ∷ es) b = ap (λ (xs : List Event). e.entry.event ∷ xs) (events_append es b)

-- ---- what stays

pub same_streams : (d : Declared) (a b : ℕ → Bool) (h g : List NodeEntry) (e f : Engine) → IsRunning d a h e → IsRunning d b g f → length f.sessions.items ≡ length e.sessions.items
same_streams d a b h g e f k l = l.streams ∙ sym k.streams

pub is_attached : (d : Declared) (a : ℕ → Bool) (h : List NodeEntry) (e : Engine) (s : ℕ) → IsRunning d a h e → s < length e.sessions.items → HasAttached e s → IsAttached h s
is_attached d a h e s k known (x, is, on) = (session_of d.plan h e.sessions.items s x k.stands.sessions known is).attached on

pub stays_attached : (d : Declared) (a : ℕ → Bool) (h g : List NodeEntry) (e f : Engine) (s : ℕ) → IsRunning d a h e → IsRunning d a g f → s < length e.sessions.items → HasAttached e s → HasAttached f s
stays_attached d a h g e f s k l known (x, is, on) =
    let y = l.stands.sessions s (let same : length f.sessions.items ≡ length e.sessions.items = same_streams d a a h g e f k l in omega arith) in
    (y.0, y.1, subst (λ (b : Bool). IsTrue b) (sym (l.attached_are s y.0 y.1 ∙ sym (k.attached_are s x is))) on)

-- ---- a flow goes down

pub down_ends : (d : Declared) (attached : ℕ → Bool) (h : List NodeEntry) (e f : Engine) (k : IsRunning d attached h e) (n : ℕ) (m x : Stored) (place : ℕ) (moved : HasMoved e f n m x place) (caller : ℕ)
    (s : ℕ) (old new : Remembered) (known : s < length e.sessions.items) (was : get_or e.sessions.items s None ≡ Some old) (cause : Cause)
    (a : Adds (means m) (means x) (λ _. (session.means old).standing) (client_vector h) caller (λ entry. IsDownFor old.stream cause entry × HasGoneOn (session.means old) (session.means new) old.attached entry))
    → f.sessions.items ≡ put e.sessions.items s new → f.routes ≡ e.routes → f.homes ≡ e.homes → f.seen ≡ e.seen → f.sent ≡ e.sent → f.scans ≡ e.scans
    → n ≡ (d.plan.stream s).destination → CanGoDown d.plan h s cause → MakesOne d attached h (IsDownMade s cause) f (Ok tt)
down_ends d attached h e f k n m x place moved caller s old new known was cause a same_sessions same_routes same_homes same_seen same_sent same_scans placed can =
    let i : IsSession d.plan h s old = session_of d.plan h e.sessions.items s old k.stands.sessions known was in
    let is : Down s cause ≡ a.entry.event = sym (a.is.0 ∙ ap (λ (t : ℕ). Down t cause) i.stream) in
    stream_ends d attached h e f k n m x place moved caller s old new known was (IsDownMade s cause tt)
    (λ entry. IsDownFor old.stream cause entry × HasGoneOn (session.means old) (session.means new) old.attached entry) a old.attached attached same_sessions same_routes same_homes same_seen
    (subst (λ (v : Event). IsOfStream s v) is (is_down s cause)) a.is.1 (λ yes. inr (i.attached yes)) (k.attached_are s old was) (λ t other. refl)
    (subst (λ (v : Event). IsPlaced d.plan h n v) is placed)
    (subst (λ (v : Event). HasCause h n v) is (subst (λ (j : ℕ). HasCause h j (Down s cause)) (sym placed) can)) (sym is)
    (subst (λ (v : Event). (msg : Msg) → Sends v msg → IsMessage msg) is (λ msg bad. absurd bad))
    (ap (λ xs. length xs.items) same_sent)
    (λ at_place t d lt.
    ap (λ xs. (get_or xs.items t d).items) same_sent ∙ k.stands.sent t d (let l : length f.sent.items ≡ length e.sent.items = ap (λ xs. length xs.items) same_sent in omega arith)
    ∙ ap (λ (v : Event). story.sent_after v t (length (journal h n)) (sent_places h t)) is)
    (ap (λ xs. length xs.items) same_scans)
    (λ i j are. subst (λ xs. AreScans d.plan (record { node = n; entry = a.entry } ∷ h) xs.items) (sym same_scans)
    (scans_more d.plan (record { node = n; entry = a.entry }) h e.scans.items (λ t to. subst (λ (v : Event). Attaches v t) (sym is) to) are))

-- ---- where turns begin

pub none_begun : (s left : ℕ) → IsBegun s None (left + 1) []
none_begun s left = (Stale s [] ∷ [], (omega arith, refl, refl))

failed_is_no_gap : Failed ≢ Gap
failed_is_no_gap is = absurd (cc)

pub sent_begun : (s left : ℕ) (m : Msg) → IsBegun s (Some m) left []
sent_begun s left m = (Down s Failed ∷ [], (refl, failed_is_no_gap, refl))

-- ---- a message arrives

pub accepted_leads : (s left : ℕ) (m : Msg) (answer : Taken) (time : ℕ) (made : NodeEntry) → answer ≡ taken.Accepted time → IsTaken m answer made.entry → LeadsTo s (Some m) left left (made.entry.event ∷ [])
accepted_leads s left m answer time made is took rest next =
    let t : IsTaken m (taken.Accepted time) made.entry = subst (λ (x : Taken). IsTaken m x made.entry) is took in
    subst (λ (v : Event). AreTurns s (Some m) left (v ∷ rest)) (sym t.0.1) (refl, next)

pub gapped_is : (m : Msg) (answer : Taken) (needs has : List ℕ) (time : ℕ) (e : Entry) → answer ≡ taken.Gap needs has time → IsTaken m answer e → e.event ≡ Gapped m has
gapped_is m answer needs has time e is took = (subst (λ (x : Taken). IsTaken m x e) is took).0

pub gapped_begun : (s left : ℕ) (m : Msg) (has : List ℕ) (made : NodeEntry) → made.entry.event ≡ Gapped m has → IsBegun s (Some m) left (made.entry.event ∷ [])
gapped_begun s left m has made is = subst (λ (v : Event). IsBegun s (Some m) left (v ∷ [])) (sym is) (Down s Gap ∷ [], (refl, refl))

pub gapped_ends : (s left : ℕ) (m : Msg) (has : List ℕ) (made then : NodeEntry) → made.entry.event ≡ Gapped m has → then.entry.event ≡ Down s Gap → AreTurns s (Some m) left (made.entry.event ∷ then.entry.event ∷ [])
gapped_ends s left m has made then is down =
    subst (λ (v : Event). AreTurns s (Some m) left (v ∷ then.entry.event ∷ [])) (sym is)
    (subst (λ (v : Event). AreTurns s (Some m) left (Gapped m has ∷ v ∷ [])) (sym down) (refl, refl))

pub can_go_down : (d : Declared) (attached : ℕ → Bool) (h : List NodeEntry) (f : Engine) (made : NodeEntry) (s : ℕ) (m : Msg) (has : List ℕ) → IsRunning d attached (made ∷ h) f → made.entry.event ≡ Gapped m has → IsOnTheWay h s m
    → CanGoDown d.plan (made ∷ h) s Gap
can_go_down d attached h f made s m has k is way =
    let placed : made.node ≡ (d.plan.stream m.stream).destination = subst (λ (v : Event). IsPlaced d.plan h made.node v) is k.stands.valid.0.placed in
    let at : made.node ≡ (d.plan.stream s).destination = placed ∙ ap (λ (t : ℕ). (d.plan.stream t).destination) way.1 in
    (inr way.2, after_gap made h (d.plan.stream s).destination s m has at is way.1)

-- ---- a message is cut off

pub cut_is_no_gap : (cause : Cause) (a b : WireState) → IsCut cause a b → cause ≢ Gap
cut_is_no_gap Failed a b cut is = absurd (cc)
cut_is_no_gap Ended a b cut is = absurd (cc)
cut_is_no_gap Gap a b cut is = cut

pub cut_can : (plan : Plan) (h : List NodeEntry) (s : ℕ) (cause : Cause) (a b : WireState) → IsCut cause a b → IsAttached h s → CanGoDown plan h s cause
cut_can plan h s Failed a b cut on = (on, tt)
cut_can plan h s Ended a b cut on = (on, tt)
cut_can plan h s Gap a b cut on = absurd cut

pub down_is : (s left : ℕ) (m : Msg) (cause : Cause) (made : NodeEntry) → cause ≢ Gap → made.entry.event ≡ Down s cause → AreTurns s (Some m) left (made.entry.event ∷ [])
down_is s left m cause made no_gap is = subst (λ (v : Event). AreTurns s (Some m) left (v ∷ [])) (sym is) (refl, no_gap, refl)

-- ---- a turn

less_one : (s left : ℕ) (under : Option Msg) (events : List Event) → AreTurns s under left events → AreTurns s under (left + 1 - 1) events
less_one s left under events are = subst (λ (k : ℕ). AreTurns s under k events) (let e : left ≡ left + 1 - 1 = omega arith in e) are

pub idle_leads : (s left : ℕ) (made : NodeEntry) → IsTurnMade s turned.Idle made → LeadsTo s None (left + 1) left (made.entry.event ∷ [])
idle_leads s left made event rest next = subst (λ (v : Event). AreTurns s None (left + 1) (v ∷ rest)) (sym event) (omega arith, refl, less_one s left None rest next)

pub stale_ends : (s left : ℕ) (made : NodeEntry) → IsTurnMade s turned.Stale made → AreTurns s None (left + 1) (made.entry.event ∷ [])
stale_ends s left made (cut, event) = subst (λ (v : Event). AreTurns s None (left + 1) (v ∷ [])) (sym event) (omega arith, refl, refl)

-- a turn of this kind
pub turn_as : (s : ℕ) (t kind : Turned) (made : NodeEntry) → t ≡ kind → IsTurnMade s t made → IsTurnMade s kind made
turn_as s t kind made is turn = subst (λ (x : Turned). IsTurnMade s x made) is turn

-- the message that it sent
pub just_sent : (s : ℕ) (made : NodeEntry) (h : List NodeEntry) (turn : IsTurnMade s turned.Sent made) → IsJustSent (made ∷ h) s turn.0
just_sent s made h (msg, (event, of, kind), good) = (made, h, refl, event, of)

sent_more : (s left : ℕ) (m : Msg) (made : NodeEntry) (events : List Event) → IsStep s (steps.Sent m) made.entry → AreTurns s (Some m) left events → AreTurns s None (left + 1) (made.entry.event ∷ events)
sent_more s left m made events (event, of, kind) are =
    subst (λ (v : Event). AreTurns s None (left + 1) (v ∷ events)) (sym event) (omega arith, of, kind, less_one s left (Some m) events are)

pub sent_ends : (s left : ℕ) (m : Msg) (made : NodeEntry) (end : FlowEnd) (events : List Event) → IsStep s (steps.Sent m) made.entry → TurnsEnd s (Some m) left left end events → TurnsEnd s None (left + 1) left end (made.entry.event ∷ events)
sent_ends s left m made ends.Done events turned leads = λ rest next. sent_more s left m made (events ++ rest) turned (leads rest next)
sent_ends s left m made (ends.Lied number sent got) events turned ((rest, are), (msg, of, lie, (before, is))) =
    ((rest, sent_more s left m made (events ++ rest) turned are), (msg, of, lie, (before, ap (λ (v : Event). v ∷ events) turned.0 ∙ is)))
sent_ends s left m made ends.Stale events turned are = sent_more s left m made events turned are
sent_ends s left m made (ends.Down cause) events turned are = sent_more s left m made events turned are

pub sent_begins : (s left : ℕ) (m : Msg) (made : NodeEntry) (events : List Event) → IsStep s (steps.Sent m) made.entry → IsBegun s (Some m) left events → IsBegun s None (left + 1) (made.entry.event ∷ events)
sent_begins s left m made events turned (rest, are) = (rest, sent_more s left m made (events ++ rest) turned are)
