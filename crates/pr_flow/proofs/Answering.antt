-- What a turn answers, by what came of its calls.
use Rattle.std.proofs.Common.{◌≡◌, ◌≢◌, ◌≤◌, ℕ, List, [], ◌∷◌, ◌++◌, Option, Some, None, Result, Ok, Err, inl, inr, false, true, sym, subst, refl, ap, ◌∙◌}
use Rattle.std.specs.Io.{StartsWith}
use Rattle.std.specs.Result.{IsErr, IsErrAnd}
use Rattle.pr_inval.specs.declared.msg.Msg.{Msg}
use Rattle.pr_inval.specs.declared.node_fault.NodeFault.{NodeFault}
use Rattle.pr_inval.specs.declared.node_fault.NodeFault.TheVariants.{NoMemory}
use Rattle.pr_inval.specs.declared.step.Step.{Step}
use Rattle.pr_inval.specs.declared.step.Step.TheVariants as steps
use Rattle.pr_inval.specs.Standing.{SessionMeaning}
use Rattle.pr_story.specs.declared.cause.Cause.{Cause}
use Rattle.pr_story.specs.declared.cause.Cause.TheVariants.{Gap}
use Rattle.pr_story.specs.declared.entry.Entry.{Entry}
use Rattle.pr_story.specs.declared.event.Event.TheVariants.{Down}
use Rattle.pr_story.specs.Turns.{event_of}
use Rattle.pr_wire.specs.Spelling.{spelling}
use Rattle.pr_wire.specs.declared.format.Format.TheVariants.{Two}
use Rattle.pr_wires.specs.Calls.{Grows, WireState}
use Rattle.pr_flow.specs.declared.flow_end.FlowEnd.{FlowEnd}
use Rattle.pr_flow.specs.Calls.{Call, HasEnded, HasNotTurned, HasStepped, HasTurned, IsSending, Turning, entry_of}
use Rattle.pr_flow.specs.Flows.{Sides, SomeFlow, TurnFlows}
use Rattle.pr_flow.specs.Moving.{IsCut, MovesPart}
use Rattle.pr_flow.specs.Taking.{GoesDown, IsGap, Takes}
use Rattle.pr_flow.proofs.Turns.{accepted_leads, cut_ends, cut_refused, gap_ends, gap_refused, memory_ends, taking_refused, turn_refused}

-- an answer that an error was turned into
pub is_fault : {X : Type 0} (r : Result X NodeFault) (P : NodeFault → Type 0) (fault : NodeFault) → IsErr r × IsErrAnd r P → ((e : NodeFault) → P e → e ≡ fault) → r ≡ Err fault
is_fault {X = X} (Ok x) P fault err all = let bad : false ≡ true = err.0 in absurd (cc)
is_fault {X = X} (Err e) P fault err all = ap (λ (f : NodeFault). let r : Result X NodeFault = Err f in r) (all e err.1)

module _ {A B : Type 0} (made_a : A → List Entry) (act_a : A → Call → Option NodeFault → A → Type 0)
    (made_b : B → List Entry) (act_b : B → Call → Option NodeFault → B → Type 0) where
  abbrev sides : A → B → SessionMeaning → Sides A B
  sides a b session = record { source = a; destination = b; session = session }

  -- a turn made the entry of this step
  abbrev pub HasMade : A → A → SessionMeaning → SessionMeaning → Step → Type 0
  HasMade a a1 c c1 step = IsSending c.stream (event_of c.stream step) × ((time : ℕ) × (caller : ℕ) × HasTurned made_a act_a a c (entry_of time caller (event_of c.stream step)) a1 c1)

  pub has_made : (a a1 : A) (c c1 : SessionMeaning) (step other : Step) → IsSending c.stream (event_of c.stream step) × ((time : ℕ) × (caller : ℕ) × (made_a a1 ≡ made_a a ++ entry_of time caller (event_of c.stream step) ∷ []) × HasStepped c c1 (entry_of time caller (event_of c.stream step))) → act_a a (Turning c c1) None a1 → step ≡ other → HasMade a a1 c c1 other
  has_made a a1 c c1 step other made acts is =
      subst (λ (s : Step). HasMade a a1 c c1 s) is (made.0, (made.1.0, made.1.1, record { act = acts; made = made.1.2; sends = made.0; session = made.1.3 }))

  pub refused_flows : (turns : ℕ) (a a1 : A) (b : B) (c c1 : SessionMeaning) (g t : Option (List ℕ)) (fault : NodeFault) (r : Result (Option FlowEnd) NodeFault) → 1 ≤ turns → HasNotTurned made_a act_a a c fault a1 c1 → r ≡ Err fault → TurnFlows made_a act_a made_b act_b c.stream turns (sides a b c) (sides a1 b c1) g g t t r
  refused_flows turns a a1 b c c1 g t fault r some refused is =
      subst (λ (x : Result (Option FlowEnd) NodeFault). TurnFlows made_a act_a made_b act_b c.stream turns (sides a b c) (sides a1 b c1) g g t t x) (sym is)
      (turn_refused made_a act_a made_b act_b c.stream turns a a1 b c c1 g t fault some refused)

  module _ (turns : ℕ) (a a1 : A) (b b1 : B) (c c1 c2 : SessionMeaning) (m : Msg) (g g1 t t1 : Option (List ℕ)) (some : 1 ≤ turns) (made : HasMade a a1 c c1 (steps.Sent m)) where
    -- the entry of a down is that of the flow's stream
    down_here : (x y : B) (d e : SessionMeaning) (cause : Cause) (time caller : ℕ) → d.stream ≡ c.stream → HasEnded made_b act_b x d cause (entry_of time caller (Down d.stream cause)) y e → HasEnded made_b act_b x d cause (entry_of time caller (Down c.stream cause)) y e
    down_here x y d e cause time caller stream ended =
        subst (λ (s : ℕ). HasEnded made_b act_b x d cause (entry_of time caller (Down s cause)) y e) stream ended

    gap_flows : (end : Result (Option FlowEnd) NodeFault) → IsGap made_b act_b b c1 m b1 c2 end → Grows g g1 (spelling Two m) → Grows t t1 (spelling Two m) → TurnFlows made_a act_a made_b act_b c.stream turns (sides a b c) (sides a1 b1 c2) g g1 t t1 end
    gap_flows (Ok None) gap given taken = absurd gap.6
    gap_flows (Ok (Some end)) gap given taken =
        let down = gap.6 in
        let stream : gap.1.stream ≡ c.stream = gap.5.session.stream ∙ made.1.2.session.stream in
        subst (λ (x : FlowEnd). SomeFlow made_a act_a made_b act_b c.stream None turns (sides a b c) (sides a1 b1 c2) g g1 t t1 (Ok x)) (sym down.0)
        (gap_ends made_a act_a made_b act_b c.stream turns a a1 b b1 c c1 c2 m g g1 t t1 made.1.0 made.1.1 some made.0 made.1.2 gap.0 gap.1 gap.2 gap.3 down.1.0 down.1.1 gap.4 gap.5
        (down_here gap.0 b1 gap.1 c2 Gap down.1.0 down.1.1 stream down.1.2) given taken)
    gap_flows (Err fault) gap given taken =
        gap_refused made_a act_a made_b act_b c.stream turns a a1 b b1 c c1 c2 m g g1 t t1 made.1.0 made.1.1 some made.0 made.1.2 gap.0 gap.1 fault gap.2 gap.3 gap.4 gap.5 gap.6 given taken

    pub taken_flows : (end : Result (Option FlowEnd) NodeFault) → Takes made_b act_b b c1 m b1 c2 end → Grows g g1 (spelling Two m) → Grows t t1 (spelling Two m) → TurnFlows made_a act_a made_b act_b c.stream turns (sides a b c) (sides a1 b1 c2) g g1 t t1 end
    taken_flows (Ok None) takes given taken =
        accepted_leads made_a act_a made_b act_b c.stream turns a a1 b b1 c c1 c2 m g g1 t t1 made.1.0 made.1.1 takes.0 takes.1 takes.2 some made.0 made.1.2 takes.3 given taken
    taken_flows (Ok (Some end)) takes given taken = gap_flows (Ok (Some end)) takes given taken
    taken_flows (Err fault) (inl refused) given taken =
        taking_refused made_a act_a made_b act_b c.stream turns a a1 b b1 c c1 c2 m g g1 t t1 made.1.0 made.1.1 some made.0 made.1.2 fault refused given taken
    taken_flows (Err fault) (inr gap) given taken = gap_flows (Err fault) gap given taken

    no_gap : (cause : Cause) (x y : WireState) → IsCut cause x y → cause ≢ Gap
    no_gap cause x y cut is = subst (λ (k : Cause). IsCut k x y) is cut

    pub cut_flows : (cause : Cause) (x y : WireState) (end : Result (Option FlowEnd) NodeFault) → x.given ≡ g → y.given ≡ g1 → x.taken ≡ t → y.taken ≡ t1 → IsCut cause x y → MovesPart x y (spelling Two m) → GoesDown made_b act_b b c1 cause b1 c2 end → TurnFlows made_a act_a made_b act_b c.stream turns (sides a b c) (sides a1 b1 c2) g g1 t t1 end
    cut_flows cause x y (Ok None) x_given y_given x_taken y_taken cut part down = absurd down
    cut_flows cause x y (Ok (Some end)) x_given y_given x_taken y_taken cut part down =
        let given : Grows g g1 part.0 = subst (λ (o : Option (List ℕ)). Grows g o part.0) y_given (subst (λ (o : Option (List ℕ)). Grows o y.given part.0) x_given part.2.given) in
        let taken : Grows t t1 part.1 = subst (λ (o : Option (List ℕ)). Grows t o part.1) y_taken (subst (λ (o : Option (List ℕ)). Grows o y.taken part.1) x_taken part.2.taken) in
        subst (λ (e : FlowEnd). SomeFlow made_a act_a made_b act_b c.stream None turns (sides a b c) (sides a1 b1 c2) g g1 t t1 (Ok e)) (sym down.0)
        (cut_ends made_a act_a made_b act_b c.stream turns a a1 b b1 c c1 c2 m g g1 t t1 made.1.0 made.1.1 some made.0 made.1.2 cause part.0 part.1 down.1.0 down.1.1 (no_gap cause x y cut) part.3
        (down_here b b1 c1 c2 cause down.1.0 down.1.1 made.1.2.session.stream down.1.2) given taken)
    cut_flows cause x y (Err fault) x_given y_given x_taken y_taken cut part down =
        let given : Grows g g1 part.0 = subst (λ (o : Option (List ℕ)). Grows g o part.0) y_given (subst (λ (o : Option (List ℕ)). Grows o y.given part.0) x_given part.2.given) in
        let taken : Grows t t1 part.1 = subst (λ (o : Option (List ℕ)). Grows t o part.1) y_taken (subst (λ (o : Option (List ℕ)). Grows o y.taken part.1) x_taken part.2.taken) in
        cut_refused made_a act_a made_b act_b c.stream turns a a1 b b1 c c1 c2 m g g1 t t1 made.1.0 made.1.1 some made.0 made.1.2 fault cause part.0 part.1 (no_gap cause x y cut) part.3 down given taken

  pub memory_flows : (turns : ℕ) (a a1 : A) (b : B) (c c1 : SessionMeaning) (m : Msg) (g g1 t t1 : Option (List ℕ)) (put got : List ℕ) (r : Result (Option FlowEnd) NodeFault) → 1 ≤ turns → HasMade a a1 c c1 (steps.Sent m) → StartsWith (spelling Two m) put → Grows g g1 put → Grows t t1 got → r ≡ Err NoMemory → TurnFlows made_a act_a made_b act_b c.stream turns (sides a b c) (sides a1 b c1) g g1 t t1 r
  memory_flows turns a a1 b c c1 m g g1 t t1 put got r some made starts given taken is =
      subst (λ (x : Result (Option FlowEnd) NodeFault). TurnFlows made_a act_a made_b act_b c.stream turns (sides a b c) (sides a1 b c1) g g1 t t1 x) (sym is)
      (memory_ends made_a act_a made_b act_b c.stream turns a a1 b c c1 m g g1 t t1 made.1.0 made.1.1 some made.0 made.1.2 NoMemory put got refl starts given taken)
