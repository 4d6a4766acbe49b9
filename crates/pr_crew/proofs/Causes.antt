-- Each job's end has its cause in the history with all jobs' entries.
use Rattle.std.proofs.Common.{◌≡◌, ℕ, ◌<◌, ◌≤◌, List, [], ◌∷◌, ◌++◌, Result, Ok, Err, inl, inr, sym, ◌∙◌, ap, subst, cond, nat_eq, max, length, suc, append_assoc, arith}
use Rattle.std.specs.Prelude.{All, Bool, true, false, reverse}
use Rattle.std.proofs.lemmas.List.{reverse-append}
use Rattle.std.proofs.lemmas.List.Elements.{All-nil, All-cons, All-head, All-tail}
use Rattle.pr_flow.specs.declared.flow_end.FlowEnd.{FlowEnd}
use Rattle.pr_flow.specs.declared.flow_end.FlowEnd.TheVariants as ends
use Rattle.pr_flow.specs.Lies.{IsLied}
use Rattle.pr_inval.specs.declared.node_fault.NodeFault.{NodeFault}
use Rattle.pr_inval.specs.declared.node_fault.NodeFault.TheVariants.{NoMemory, Worn}
use Rattle.pr_node.specs.Calls.{IsClockWorn, IsTimeWorn, IsWriteWorn}
use Rattle.pr_story.specs.declared.entry.Entry.{Entry}
use Rattle.pr_story.specs.declared.event.Event.{Event}
use Rattle.pr_story.specs.declared.event.Event.TheVariants.{Wrote}
use Rattle.pr_story.specs.History.{NodeEntry, Plan, current_clock, journal}
use Rattle.pr_story.specs.Lawful.{Valid, last_time}
use Rattle.pr_story.specs.Laws.{write_count, writes_after}
use Rattle.pr_story.specs.Merging.{New, plain}
use Rattle.pr_story.specs.Turns.{stream_time}
use Rattle.pr_story.proofs.OneMore.{itself}
use Rattle.pr_story.proofs.Short.{valid_short}
use Rattle.pr_crew.specs.Jobs.{ClientFailed, FlowFailed, FlowLied, IsWornAt}
use Rattle.pr_crew.specs.Making.{HasSeen, NodePass}
use Rattle.pr_crew.specs.Phases.{IsStopCause}
use Rattle.pr_crew.specs.Tasks.{stop_of_client, stop_of_flow}
use Rattle.pr_crew.proofs.Entries.{same_made}

-- ---- times and clocks along a journal

abbrev IsEarly : ℕ → Entry → Type 0
IsEarly k e = e.time ≤ k

early_by : (b : Bool) (e : Entry) (j : List Entry) (k : ℕ) → e.time ≤ k → All (IsEarly k) j → All (IsEarly k) (cond b (e ∷ j) j)
early_by true e j k early rest = All-cons (IsEarly k) e j early rest
early_by false e j k early rest = rest

-- no time in a journal is above the number of all entries
all_early : (plan : Plan) (g : List NodeEntry) → Valid plan g → (n k : ℕ) → length g ≤ k → All (IsEarly k) (journal g n)
all_early plan [] v n k le = All-nil (IsEarly k)
all_early plan (e ∷ g) v n k le =
    let more : suc (length g) ≤ k = le in
    let own : last_time (journal (e ∷ g) e.node) ≤ suc (length g) = (valid_short plan (e ∷ g) v).nodes e.node in
    let early : e.entry.time ≤ suc (length g) = subst (λ (b : Bool). last_time (cond b (e.entry ∷ journal g e.node) (journal g e.node)) ≤ suc (length g)) (itself e.node) own in
    early_by (nat_eq e.node n) e.entry (journal g n) k (omega arith) (all_early plan g v.1 n k (omega arith))

last_early : (k : ℕ) (later earlier : List Entry) → All (IsEarly k) (later ++ earlier) → last_time earlier ≤ k
last_early k [] [] early = omega arith
last_early k [] (e ∷ earlier) early = All-head (IsEarly k) e earlier early
last_early k (e ∷ later) earlier early = last_early k later earlier (All-tail (IsEarly k) e (later ++ earlier) early)

clock_rises : (later earlier : List Entry) (w : ℕ) → current_clock earlier w ≤ current_clock (later ++ earlier) w
clock_rises [] earlier w = omega arith
clock_rises (e ∷ later) earlier w = let rest : current_clock earlier w ≤ current_clock (later ++ earlier) w = clock_rises later earlier w in omega arith

few_writes : (event : Event) (k n : ℕ) → k ≤ n → writes_after event k ≤ suc n
few_writes (Wrote client write body after) k n le = omega arith
few_writes _ k n le = omega arith

writes_are_entries : (h : List NodeEntry) → write_count h ≤ length h
writes_are_entries [] = omega arith
writes_are_entries (e ∷ h) = few_writes e.entry.event (write_count h) (length h) (writes_are_entries h)

-- ---- why a node is worn

-- after h the history is g, and the pass has seen a beginning of what node n made
module _ (plan : Plan) (h g : List NodeEntry) (v : Valid plan g) (n : ℕ) (p : NodePass) (part rest : List Entry) (seen : HasSeen p part) (made : journal g n ≡ reverse (part ++ rest) ++ journal h n) where
  behind : journal g n ≡ reverse rest ++ (reverse part ++ journal h n)
  behind = made ∙ ap (λ (es : List Entry). es ++ journal h n) (reverse-append part rest) ∙ append_assoc (reverse rest) (reverse part) (journal h n)

  last_short : last_time (reverse part ++ journal h n) ≤ length g
  last_short = last_early (length g) (reverse rest) (reverse part ++ journal h n) (subst (λ (es : List Entry). All (IsEarly (length g)) es) behind (all_early plan g v n (length g) (omega arith)))

  clock_short : (w : ℕ) → w < 32 → current_clock (reverse part ++ journal h n) w ≤ length g
  clock_short w lt =
      let some : current_clock (reverse part ++ journal h n) w ≤ current_clock (reverse rest ++ (reverse part ++ journal h n)) w = clock_rises (reverse rest) (reverse part ++ journal h n) w in
      let same : current_clock (journal g n) w ≡ current_clock (reverse rest ++ (reverse part ++ journal h n)) w = ap (λ (es : List Entry). current_clock es w) behind in
      let short : current_clock (journal g n) w ≤ write_count g = (valid_short plan g v).clocks n w lt in
      let few : write_count g ≤ length g = writes_are_entries g in
      omega arith

  same_seen : (es : List Entry) → HasSeen p es → es ≡ part
  same_seen es sees = same_made es part (sym sees ∙ seen)

  pub time_worn : (heard : ℕ) → heard ≤ length g → IsWornAt plan h n (λ a. IsTimeWorn a heard) p → 4611686018427387903 ≤ length g
  time_worn heard few worn =
      let is : max (last_time (reverse part ++ journal h n)) heard ≡ 4611686018427387903 = subst (λ (es : List Entry). max (last_time (reverse es ++ journal h n)) heard ≡ 4611686018427387903) (same_seen worn.0 worn.1) worn.2 in
      let short : last_time (reverse part ++ journal h n) ≤ length g = last_short in
      omega arith

  clock_worn : IsWornAt plan h n IsClockWorn p → 4611686018427387903 ≤ length g
  clock_worn worn =
      let w : ℕ = worn.2.0 in
      let is : current_clock (reverse part ++ journal h n) w ≡ 4611686018427387903 = subst (λ (es : List Entry). current_clock (reverse es ++ journal h n) w ≡ 4611686018427387903) (same_seen worn.0 worn.1) worn.2.2 in
      let short : current_clock (reverse part ++ journal h n) w ≤ length g = clock_short w worn.2.1 in
      omega arith

  pub write_worn : (needs : List ℕ) → IsWornAt plan h n (λ a. IsWriteWorn a needs) p → 4611686018427387903 ≤ length g
  write_worn needs worn = elim worn.2 [
    | inl time ↦ time_worn 0 (omega arith) (worn.0, worn.1, time)
    | inr clock ↦ clock_worn (worn.0, worn.1, clock.1)
  ]

  -- a client's job that ended so
  pub client_cause : (needs : List ℕ) (end : Result (Unit {0}) NodeFault) → ClientFailed plan h n needs p end → IsStopCause g (stop_of_client end)
  client_cause needs (Ok went) failed = tt
  client_cause needs (Err NoMemory) failed = tt
  client_cause needs (Err (Worn at)) failed = (failed.0, write_worn needs failed.1)

-- a flow's job that ended so
module _ (plan : Plan) (h g : List NodeEntry) (v : Valid plan g) (s : ℕ) (xs : List New) where
  abbrev source : ℕ
  source = (plan.stream s).source

  abbrev destination : ℕ
  destination = (plan.stream s).destination

  pub flow_cause : (p q : NodePass) (sent to_come taken left : List Entry) → HasSeen p sent → journal g source ≡ reverse (sent ++ to_come) ++ journal h source
      → HasSeen q taken → journal g destination ≡ reverse (taken ++ left) ++ journal h destination → stream_time (plain (reverse xs) ++ h) s ≤ length g
      → ((number : ℕ) (spelled got : List ℕ) → IsLied (plain (reverse xs) ++ h) s number spelled got → IsLied g s number spelled got) → (end : Result FlowEnd NodeFault)
      → FlowLied plan h s xs end → FlowFailed plan h s p q xs end → IsStopCause g (stop_of_flow s end)
  flow_cause p q sent to_come taken left saw made has_seen made_there few lies (Ok (ends.Lied number spelled got)) lied failed = lies number spelled got lied
  flow_cause p q sent to_come taken left saw made has_seen made_there few lies (Ok ends.Done) lied failed = tt
  flow_cause p q sent to_come taken left saw made has_seen made_there few lies (Ok (ends.Down cause)) lied failed = tt
  flow_cause p q sent to_come taken left saw made has_seen made_there few lies (Ok ends.Stale) lied failed = tt
  flow_cause p q sent to_come taken left saw made has_seen made_there few lies (Err NoMemory) lied failed = tt
  flow_cause p q sent to_come taken left saw made has_seen made_there few lies (Err (Worn at)) lied failed = (
    failed.0,
    elim failed.1 [
      | inl worn ↦ time_worn plan h g v source p sent to_come saw made (stream_time (plain (reverse xs) ++ h) s) few worn
      | inr worn ↦ time_worn plan h g v destination q taken left has_seen made_there (stream_time (plain (reverse xs) ++ h) s) few worn
    ],
  )
