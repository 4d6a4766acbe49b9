-- The events of a flow are those of a script's flow.
use Rattle.std.proofs.Common.{◌≡◌, ◌≢◌, ◌-◌, ℕ, zero, suc, List, [], ◌∷◌, ◌++◌, Option, Some, None, Result, Ok, Err, inl, sym, ◌∙◌, subst, refl, arith}
use Rattle.std.proofs.lemmas.List.{append-nil}
use Rattle.pr_inval.specs.declared.msg.Msg.{Msg}
use Rattle.pr_inval.specs.declared.node_fault.NodeFault.{NodeFault}
use Rattle.pr_story.specs.declared.cause.Cause.TheVariants.{Failed, Gap}
use Rattle.pr_story.specs.declared.entry.Entry.{Entry}
use Rattle.pr_story.specs.declared.event.Event.{Event}
use Rattle.pr_story.specs.declared.event.Event.TheVariants.{Sent, Idle, Stale, Accepted, Gapped, Down}
use Rattle.pr_story.specs.Scripts.{AreTurns}
use Rattle.pr_flow.specs.declared.flow_end.FlowEnd.{FlowEnd}
use Rattle.pr_flow.specs.declared.flow_end.FlowEnd.TheVariants as ends
use Rattle.pr_flow.specs.Calls.{Call}
use Rattle.pr_flow.specs.Flows.{Ends, EndsAtRest, EndsBehindGap, EndsOnTheWay, IsOfScript, IsWhole, Rest, Sides}

-- turns in which nothing is sent
abbrev idles : ℕ → ℕ → List Event
idles s zero = []
idles s (suc k) = Idle s ∷ idles s k

are_idle : (s k : ℕ) → AreTurns s None k (idles s k)
are_idle s zero = refl
are_idle s (suc k) =
    let less : suc k - 1 ≡ k = omega arith in
    (omega arith, refl, subst (λ (n : ℕ). AreTurns s None n (idles s k)) (sym less) (are_idle s k))

-- the turns are whole, or more can follow that make them whole
pub record Scripted (s : ℕ) (under_way : Option Msg) (turns : ℕ) (events : List Event) (end : Result FlowEnd NodeFault) : Type 0 where
  pub begun : (more : List Event) × AreTurns s under_way turns (events ++ more)
  pub whole : IsWhole end → AreTurns s under_way turns events

module _ {A B : Type 0} (made_a : A → List Entry) (act_a : A → Call → Option NodeFault → A → Type 0)
    (made_b : B → List Entry) (act_b : B → Call → Option NodeFault → B → Type 0) (s : ℕ) (rest : Rest) (x y : Sides A B) where
  at_rest : (turns : ℕ) (end : Result FlowEnd NodeFault) → EndsAtRest made_a act_a made_b act_b turns end rest x y → Scripted s None turns [] end
  at_rest turns (Ok ends.Done) e = record { begun = ([], e.0); whole = λ w. e.0 }
  at_rest turns (Ok _) e = absurd e
  at_rest turns (Err fault) e = record { begun = (idles s turns, are_idle s turns); whole = λ w. absurd w }

  on_the_way : (m : Msg) (turns : ℕ) (end : Result FlowEnd NodeFault) → EndsOnTheWay made_a act_a made_b act_b m end rest x y → Scripted s (Some m) turns [] end
  on_the_way m turns (Ok (ends.Lied number sent got)) e = record { begun = (Down s Failed ∷ [], (refl, no_gap, refl)); whole = λ w. absurd w }
    where
      no_gap : Failed ≢ Gap
      no_gap e = cc
  on_the_way m turns (Ok _) e = absurd e
  on_the_way m turns (Err fault) e = record { begun = (Down s Failed ∷ [], (refl, no_gap, refl)); whole = λ w. absurd w }
    where
      no_gap : Failed ≢ Gap
      no_gap e = cc

  behind_gap : (m : Msg) (turns : ℕ) (has : List ℕ) (events : List Event) (end : Result FlowEnd NodeFault) → EndsBehindGap made_a act_a made_b act_b s events end rest x y → Scripted s (Some m) turns (Gapped m has ∷ events) end
  behind_gap m turns has [] (Ok end) e = absurd e
  behind_gap m turns has [] (Err fault) e = record { begun = (Down s Gap ∷ [], (refl, refl)); whole = λ w. absurd w }
  behind_gap m turns has (event ∷ events) end e =
      let all : event ∷ events ≡ Down s Gap ∷ [] = cc in
      record { begun = ([], (refl, append-nil (event ∷ events) ∙ all)); whole = λ w. (refl, all) }

  pub scripted : (under_way : Option Msg) (turns : ℕ) (events : List Event) (end : Result FlowEnd NodeFault) → Ends made_a act_a made_b act_b s under_way turns events end rest x y → Scripted s under_way turns events end
  scripted None turns [] end e = at_rest turns end e
  scripted None turns (Idle t ∷ events) end e =
      let more = scripted None (turns - 1) events end e.2 in
      record { begun = (more.begun.0, (e.0, e.1, more.begun.1)); whole = λ w. (e.0, e.1, more.whole w) }
  scripted None turns (Stale t cut ∷ events) end e =
      record { begun = ([], (e.0, e.1, append-nil events ∙ e.2)); whole = λ w. (e.0, e.1, e.2) }
  scripted None turns (Sent m ∷ events) end e =
      let more = scripted (Some m) (turns - 1) events end e.3 in
      record { begun = (more.begun.0, (e.0, e.1, e.2, more.begun.1)); whole = λ w. (e.0, e.1, e.2, more.whole w) }
  scripted (Some m) turns [] end e = on_the_way m turns end e
  scripted (Some m) turns (Accepted n at ∷ events) end e =
      let more = scripted None turns events end e.1 in
      record { begun = (more.begun.0, (e.0, more.begun.1)); whole = λ w. (e.0, more.whole w) }
  scripted (Some m) turns (Gapped n has ∷ events) end e =
      let more = behind_gap m turns has events end e.1 in
      record { begun = (more.begun.0, (e.0, more.begun.1.1)); whole = λ w. (e.0, (more.whole w).1) }
  scripted (Some m) turns (Down t cause ∷ events) end e =
      record { begun = ([], (e.0, e.1, append-nil events ∙ e.2)); whole = λ w. (e.0, e.1, e.2) }
  scripted under_way turns _ end e = absurd e

  pub is_of_script : (turns : ℕ) (events : List Event) (end : Result FlowEnd NodeFault) → Ends made_a act_a made_b act_b s None turns events end rest x y → IsOfScript s turns events end
  is_of_script turns events end e =
      let more = scripted None turns events end e in
      ((more.begun.0, inl more.begun.1), λ w. inl (more.whole w))
