-- What crosses the wire of a flow, turn by turn.
use Rattle.std.proofs.Common.{◌≡◌, ◌≢◌, ℕ, ◌≤◌, List, [], ◌∷◌, ◌++◌, Result, Ok, Err, inl, inr, refl, sym, ◌∙◌, ap, subst, length, reverse, take, arith}
use Rattle.std.specs.Prelude.{Bool, Some, None, Option}
use Rattle.std.proofs.lemmas.List.{append-nil, append_assoc, append_cancel_right, reverse-append, take-take}
use Rattle.std.specs.Io.{StartsWith}
use Rattle.pr_inval.specs.declared.msg.Msg.{Msg}
use Rattle.pr_inval.specs.declared.node_fault.NodeFault.{NodeFault}
use Rattle.pr_node.specs.declared.answers.turned.Turned.TheVariants as turned
use Rattle.pr_inval.specs.declared.taken.Taken.{Taken}
use Rattle.pr_inval.specs.declared.taken.Taken.TheVariants as taken
use Rattle.pr_flow.specs.declared.flow_end.FlowEnd.{FlowEnd}
use Rattle.pr_flow.specs.declared.flow_end.FlowEnd.TheVariants as ends
use Rattle.pr_flow.specs.declared.stop.Stop.{Stop}
use Rattle.pr_flow.specs.declared.stop.Stop.TheVariants as stops
use Rattle.pr_flow.specs.Crossing.{IsCutShort, IsItem, with_item}
use Rattle.pr_flow.specs.Flows.{crossed}
use Rattle.pr_flow.specs.Moving.{IsCut, Moves, MovesPart}
use Rattle.pr_flow.proofs.Growing.{grows_more, grows_none}
use Rattle.pr_node.specs.Calls.{IsTaken}
use Rattle.pr_story.specs.declared.cause.Cause.{Cause}
use Rattle.pr_story.specs.declared.cause.Cause.TheVariants.{Failed, Ended, Gap}
use Rattle.pr_story.specs.declared.event.Event.{Event}
use Rattle.pr_story.specs.declared.event.Event.TheVariants.{Wrote, Attached, Sent, Idle, Stale, Accepted, Gapped, Missing, Down, Answered, Behind, Moved, Cut, Dropped, Conflicts, State}
use Rattle.pr_story.specs.History.{NodeEntry}
use Rattle.pr_story.specs.Scripts.{AreTurns, events_of}
use Rattle.pr_sim.specs.Commands.{IsTurnMade}
use Rattle.pr_story.specs.Counts.{Declared}
use Rattle.pr_wire.specs.Spelling.{spelling}
use Rattle.pr_wire.specs.declared.format.Format.TheVariants.{Two}
use Rattle.pr_wires.specs.Calls.{Grows, IsEmptyIfTold, WireState}
use Rattle.pr_wires.specs.Made.{Carries}
use Rattle.pr_sim.specs.Crossing.{Adds, Crosses, FlowCarries, IsRest, IsRestOfCut}
use Rattle.pr_sim.specs.Flowing.{IsArrival, StopsSo, TurnsEnd}
use Rattle.pr_sim.specs.Running.{IsRunning}
use Rattle.pr_sim.specs.declared.engine.Engine.{Engine}
use Rattle.pr_sim.proofs.Flows.{events_append}
use Rattle.pr_sim.proofs.Story.{running_story}

-- ---- lists

some_of : (x y : List ℕ) → x ≡ y → let a : Option (List ℕ) = Some x in let b : Option (List ℕ) = Some y in a ≡ b
some_of x y is = ap (λ (t : List ℕ). let o : Option (List ℕ) = Some t in o) is

crossed_append : (xs ys : List Event) → crossed (xs ++ ys) ≡ crossed xs ++ crossed ys
crossed_append [] ys = refl
crossed_append (Accepted m at ∷ xs) ys = ap (λ (t : List ℕ). spelling Two m ++ t) (crossed_append xs ys) ∙ sym (append_assoc (spelling Two m) (crossed xs) (crossed ys))
crossed_append (Gapped m has ∷ xs) ys = ap (λ (t : List ℕ). spelling Two m ++ t) (crossed_append xs ys) ∙ sym (append_assoc (spelling Two m) (crossed xs) (crossed ys))
crossed_append (Wrote client write body after ∷ xs) ys = crossed_append xs ys
crossed_append (Attached s at ∷ xs) ys = crossed_append xs ys
crossed_append (Sent m ∷ xs) ys = crossed_append xs ys
crossed_append (Idle s ∷ xs) ys = crossed_append xs ys
crossed_append (Stale s cut ∷ xs) ys = crossed_append xs ys
crossed_append (Missing s number ∷ xs) ys = crossed_append xs ys
crossed_append (Down s cause ∷ xs) ys = crossed_append xs ys
crossed_append (Answered client o answer at ∷ xs) ys = crossed_append xs ys
crossed_append (Behind client needs has ∷ xs) ys = crossed_append xs ys
crossed_append (Moved client ∷ xs) ys = crossed_append xs ys
crossed_append (Cut at ∷ xs) ys = crossed_append xs ys
crossed_append (Dropped o ∷ xs) ys = crossed_append xs ys
crossed_append (Conflicts o found ∷ xs) ys = crossed_append xs ys
crossed_append (State at cut floor precise ∷ xs) ys = crossed_append xs ys

-- the entries that came to a history are one list
pub one_new : (d : Declared) (a : ℕ → Bool) (h new other : List NodeEntry) (e : Engine) → IsRunning d a (new ++ h) e → IsRunning d a (other ++ h) e → new ≡ other
one_new d a h new other e k l = append_cancel_right new other h (running_story d a (new ++ h) e k ∙ sym (running_story d a (other ++ h) e l))

pub adds_behind : {X : Type 0} (d : Declared) (after : ℕ → Bool) (h first : List NodeEntry) (f : Engine) (P Q : X → List NodeEntry → Type 0) (r : Result X NodeFault)
    → ((x : X) (es : List NodeEntry) → P x es → Q x (reverse first ++ es)) → Adds P d after (first ++ h) f r → Adds Q d after h f r
adds_behind d after h first f P Q (Ok x) more (new, running, is) = (
  new ++ first,
  subst (λ (g : List NodeEntry). IsRunning d after g f) (sym (append_assoc new first h)) running,
  subst (λ (es : List NodeEntry). Q x es) (sym (reverse-append new first)) (more x (reverse new) is),
)
adds_behind d after h first f P Q (Err fault) more added = tt

-- ---- a message arrives

pub accepted_crosses : (m : Msg) (answer : Taken) (time : ℕ) (made : NodeEntry) → answer ≡ taken.Accepted time → IsTaken m answer made.entry → crossed (made.entry.event ∷ []) ≡ spelling Two m
accepted_crosses m answer time made is took =
    let t : IsTaken m (taken.Accepted time) made.entry = subst (λ (x : Taken). IsTaken m x made.entry) is took in
    ap (λ (v : Event). crossed (v ∷ [])) t.0.1 ∙ append-nil (spelling Two m)

pub gapped_crosses : (m : Msg) (s : ℕ) (has : List ℕ) (made then : NodeEntry) → made.entry.event ≡ Gapped m has → then.entry.event ≡ Down s Gap → crossed (made.entry.event ∷ then.entry.event ∷ []) ≡ spelling Two m
gapped_crosses m s has made then is down = (λ i. crossed (is i ∷ down i ∷ [])) ∙ append-nil (spelling Two m)

-- ---- a message over the wire

module _ (d : Declared) (attached : ℕ → Bool) (h : List NodeEntry) (e : Engine) (a b : WireState) (s : ℕ) (m n : Msg) (same : n ≡ m) (grows : Grows a.taken b.taken (spelling Two m)) where
  whole_crosses : (end : FlowEnd) (es : List NodeEntry) → IsRest s (Some m) end (events_of es) [] → crossed (events_of es) ≡ spelling Two n → Crosses a b s (Some m) end (events_of es)
  whole_crosses end es nothing is =
      ([], subst (λ (xs : List ℕ). Grows a.taken b.taken xs) (sym (append-nil (crossed (events_of es)) ∙ is ∙ ap (λ (k : Msg). spelling Two k) same)) grows, nothing)

  pub arrival_crosses : (r : Result FlowEnd NodeFault) → IsArrival r → Adds (λ (end : FlowEnd) es. crossed (events_of es) ≡ spelling Two n) d attached h e r → Adds (λ end es. Crosses a b s (Some m) end (events_of es)) d attached h e r
  arrival_crosses (Ok ends.Done) arrives (new, running, is) = (new, running, whole_crosses ends.Done (reverse new) refl is)
  arrival_crosses (Ok (ends.Down Gap)) arrives (new, running, is) = (new, running, whole_crosses (ends.Down Gap) (reverse new) refl is)
  arrival_crosses (Ok (ends.Down Failed)) arrives added = absurd arrives
  arrival_crosses (Ok (ends.Down Ended)) arrives added = absurd arrives
  arrival_crosses (Ok ends.Stale) arrives added = absurd arrives
  arrival_crosses (Ok (ends.Lied number sent got)) arrives added = absurd arrives
  arrival_crosses (Err fault) arrives added = tt

begins_with : (a b : WireState) (piece put got : List ℕ) → a.under ≡ 0 → Moves a b put got → StartsWith piece put → StartsWith put got → StartsWith piece got
begins_with a b piece put got none moves front part =
    let m = moves.under in
    let fits : length got ≤ length put = omega arith in
    sym (take-take (length got) (length put) piece fits) ∙ ap (λ (xs : List ℕ). take (length got) xs) front ∙ part

pub cut_crosses : (s : ℕ) (m : Msg) (cause : Cause) (a b : WireState) (made : NodeEntry) → a.under ≡ 0 → IsCut cause a b → MovesPart a b (spelling Two m) → made.entry.event ≡ Down s cause
    → Crosses a b s (Some m) (ends.Down cause) (made.entry.event ∷ [])
cut_crosses s m cause a b made none cut (put, got, moves, (front, part)) is =
    subst (λ (v : Event). Crosses a b s (Some m) (ends.Down cause) (v ∷ [])) (sym is) (got, moves.taken, rest cause cut)
  where
    rest : (c : Cause) → IsCut c a b → IsRestOfCut s (Some m) c (Down s c ∷ []) got
    rest Failed cut = (m, [], refl, begins_with a b (spelling Two m) put got none moves front part)
    rest Ended cut = (m, [], refl, begins_with a b (spelling Two m) put got none moves front part)
    rest Gap cut = absurd cut

-- ---- a turn

pub idle_crosses : (s : ℕ) (a : WireState) (made : NodeEntry) → IsTurnMade s turned.Idle made → Crosses a a s None ends.Done (made.entry.event ∷ [])
idle_crosses s a made event = subst (λ (v : Event). Crosses a a s None ends.Done (v ∷ [])) (sym event) ([], grows_none a.taken a.taken refl, refl)

pub stale_crosses : (s : ℕ) (a : WireState) (made : NodeEntry) → IsTurnMade s turned.Stale made → Crosses a a s None ends.Stale (made.entry.event ∷ [])
stale_crosses s a made (cut, event) = subst (λ (v : Event). Crosses a a s None ends.Stale (v ∷ [])) (sym event) ([], grows_none a.taken a.taken refl, refl)

pub sent_crosses : (a b : WireState) (s : ℕ) (m : Msg) (made : NodeEntry) (end : FlowEnd) (events : List Event) → made.entry.event ≡ Sent m → Crosses a b s (Some m) end events → Crosses a b s None end (made.entry.event ∷ events)
sent_crosses a b s m made end events is (part, grows, left) = subst (λ (v : Event). Crosses a b s None end (v ∷ events)) (sym is) (part, grows, rest end left)
  where
    rest : (x : FlowEnd) → IsRest s (Some m) x events part → IsRest s None x (Sent m ∷ events) part
    rest ends.Done left = left
    rest ends.Stale left = left
    rest (ends.Down Gap) left = left
    rest (ends.Down Failed) left = left
    rest (ends.Down Ended) left = left
    rest (ends.Lied number sent got) left = left

-- ---- turn after turn

cut_behind : (s : ℕ) (cause : Cause) (first events : List Event) (part : List ℕ) → IsCutShort s None cause events part → IsCutShort s None cause (first ++ events) part
cut_behind s cause first events part (msg, before, is, starts) =
    (msg, first ++ before, ap (λ (vs : List Event). first ++ vs) is ∙ sym (append_assoc first before (Sent msg ∷ Down s cause ∷ [])), starts)

pub crosses_behind : (a b c : WireState) (s : ℕ) (first es : List NodeEntry) (end : FlowEnd) → Grows a.taken b.taken (crossed (events_of first)) → Crosses b c s None end (events_of es) → Crosses a c s None end (events_of (first ++ es))
crosses_behind a b c s first es end so_far (part, grows, left) =
    subst (λ (events : List Event). Crosses a c s None end events) (sym (events_append first es)) (
      part,
      subst (λ (xs : List ℕ). Grows a.taken c.taken xs)
          (sym (append_assoc (crossed (events_of first)) (crossed (events_of es)) part) ∙ ap (λ (xs : List ℕ). xs ++ part) (sym (crossed_append (events_of first) (events_of es))))
          (grows_more a.taken b.taken c.taken (crossed (events_of first)) (crossed (events_of es) ++ part) so_far grows),
      rest end left,
    )
  where
    rest : (x : FlowEnd) → IsRest s None x (events_of es) part → IsRest s None x (events_of first ++ events_of es) part
    rest ends.Done left = left
    rest ends.Stale left = left
    rest (ends.Down Gap) left = left
    rest (ends.Down Failed) left = cut_behind s Failed (events_of first) (events_of es) part left
    rest (ends.Down Ended) left = cut_behind s Ended (events_of first) (events_of es) part left
    rest (ends.Lied number sent got) left = left

-- where the flow goes on nothing else was taken
pub crosses_on : (a b : WireState) (s : ℕ) (end : FlowEnd) (events : List Event) → end ≡ ends.Done → Crosses a b s None end events → Grows a.taken b.taken (crossed events)
crosses_on a b s end events done all =
    let c = subst (λ (x : FlowEnd). Crosses a b s None x events) done all in
    subst (λ (xs : List ℕ). Grows a.taken b.taken xs) (ap (λ (part : List ℕ). crossed events ++ part) c.2 ∙ append-nil (crossed events)) c.1

pub crosses_done : (a b : WireState) (s : ℕ) (events : List Event) → Grows a.taken b.taken (crossed events) → Crosses a b s None ends.Done events
crosses_done a b s events grows = ([], subst (λ (xs : List ℕ). Grows a.taken b.taken xs) (sym (append-nil (crossed events))) grows, refl)

-- ---- the wire is closed

closed : (before now : Option (List (List ℕ))) (a b : Option (List ℕ)) (item : List ℕ) → IsEmptyIfTold a → Grows a b item → Carries before now b → now ≡ with_item before item
closed None now a b item empty grows carries = carries
closed (Some items) now a None item empty grows carries = absurd carries
closed (Some items) now None (Some bytes) item empty grows carries = absurd (cc)
closed (Some items) now (Some front) (Some bytes) item empty grows carries =
    let is : bytes ≡ front ++ item = cc in
    carries ∙ ap (λ (t : List ℕ). with_item (Some items) t) (is ∙ ap (λ (t : List ℕ). t ++ item) empty)

no_failure : (s turns : ℕ) (events : List Event) → AreTurns s None turns events → events ≢ Down s Failed ∷ []
no_failure s turns events are is = subst (λ (vs : List Event). AreTurns s None turns vs) is are

module _ (s turns : ℕ) (d : Declared) (attached : ℕ → Bool) (h : List NodeEntry) (e : Engine) (before then now : Option (List (List ℕ))) (a b : WireState) (empty : IsEmptyIfTold a.taken) (same : then ≡ before) (carries : Carries then now b.taken) where
  went : (stop : Stop) (new : List NodeEntry) (part : List ℕ) → stop ≡ stops.Went → IsRunning d attached (new ++ h) e → AreTurns s None turns (events_of (reverse new)) → Grows a.taken b.taken (crossed (events_of (reverse new)) ++ part)
      → IsItem s (events_of (reverse new)) (crossed (events_of (reverse new)) ++ part) → FlowCarries {E = NodeFault} s before now d attached h e (Ok stop)
  went stop new part is running are grows item =
      subst (λ (x : Stop). FlowCarries {E = NodeFault} s before now d attached h e (Ok x)) (sym is)
      (new, running, inr (no_failure s turns (events_of (reverse new)) are, (crossed (events_of (reverse new)) ++ part, item, closed before now a.taken b.taken (crossed (events_of (reverse new)) ++ part) empty grows (subst (λ (o : Option (List (List ℕ))). Carries o now b.taken) same carries))))

  pub stop_carries : (end : FlowEnd) (stop : Stop) → StopsSo s end stop
      → (new : List NodeEntry) × IsRunning d attached (new ++ h) e × TurnsEnd s None turns 0 end (events_of (reverse new))
      → (new : List NodeEntry) × IsRunning d attached (new ++ h) e × Crosses a b s None end (events_of (reverse new)) → FlowCarries {E = NodeFault} s before now d attached h e (Ok stop)
  stop_carries end stop is (new, running, turned) (other, also, crosses) =
      by end is turned (subst (λ (es : List NodeEntry). Crosses a b s None end (events_of (reverse es))) (sym (one_new d attached h new other e running also)) crosses)
    where
      by : (x : FlowEnd) → StopsSo s x stop → TurnsEnd s None turns 0 x (events_of (reverse new)) → Crosses a b s None x (events_of (reverse new)) → FlowCarries {E = NodeFault} s before now d attached h e (Ok stop)
      by ends.Done is t (part, grows, left) =
          went stop new part is running (subst (λ (events : List Event). AreTurns s None turns events) (append-nil (events_of (reverse new))) (t [] refl)) grows (part, refl, inl left)
      by ends.Stale is t (part, grows, left) = went stop new part is running t grows (part, refl, inl left)
      by (ends.Down Gap) is t (part, grows, left) = went stop new part is running t grows (part, refl, inl left)
      by (ends.Down Failed) is t (part, grows, left) = went stop new part is running t grows (part, refl, inr (inl left))
      by (ends.Down Ended) is t (part, grows, left) = went stop new part is running t grows (part, refl, inr (inr left))
      by (ends.Lied number sent got) is t crosses = subst (λ (x : Stop). FlowCarries {E = NodeFault} s before now d attached h e (Ok x)) (sym is) tt

-- no wire was given
pub failed_carries : (s : ℕ) (d : Declared) (attached : ℕ → Bool) (h : List NodeEntry) (e : Engine) (made : NodeEntry) (before now : Option (List (List ℕ))) → IsRunning d attached (made ∷ h) e → made.entry.event ≡ Down s Failed → now ≡ before
    → FlowCarries {E = NodeFault} s before now d attached h e (Ok stops.Went)
failed_carries s d attached h e made before now running is same = (made ∷ [], running, inl (ap (λ (v : Event). v ∷ []) is, same))
