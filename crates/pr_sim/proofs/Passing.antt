-- A message that was just sent is taken, and leaves no gap.
use Rattle.std.proofs.Common.{◌≡◌, ℕ, ◌≤◌, List, ◌∷◌, inl, refl, sym, ◌∙◌, ap, subst, max, cond, nat_eq, arith}
use Rattle.pr_vectors.specs.Vector.{Le, clock_of}
use Rattle.pr_inval.specs.declared.msg.Msg.{Msg}
use Rattle.pr_inval.specs.declared.taken.Taken.{Taken}
use Rattle.pr_inval.specs.declared.taken.Taken.TheVariants as taken
use Rattle.pr_inval.specs.Points.{from_of}
use Rattle.pr_story.specs.declared.event.Event.{Event}
use Rattle.pr_story.specs.declared.event.Event.TheVariants.{Gapped, Sent}
use Rattle.pr_story.specs.History.{Plan, NodeEntry, Sends, WasSent, clock_brought, current_vector, journal}
use Rattle.pr_story.specs.Lawful.{IsLawful, IsPlaced, MayComeByWorld, Valid}
use Rattle.pr_story.specs.Settling.{IsInTime}
use Rattle.pr_story.proofs.Basics.{clock_at, vector_clock}
use Rattle.pr_story.proofs.InTime.{stays_in_time}
use Rattle.pr_sim.specs.Commands.{IsTakingMade}
use Rattle.pr_sim.specs.Settles.{IsAcceptOf}

risen : (x y a b c : ℕ) → x ≡ a → y ≡ max a c → x ≤ y
risen x y a b c e f = omega arith

-- a node's vector never falls
vector_more : (e : NodeEntry) (h : List NodeEntry) (n : ℕ) → Le (current_vector (journal h n)) (current_vector (journal (e ∷ h) n))
vector_more e h n w lt =
    risen (clock_of (current_vector (journal h n)) w) (clock_of (current_vector (journal (e ∷ h) n)) w) (clock_at h n w) 0 (cond (nat_eq e.node n) (clock_brought e.entry.event w) 0)
    (vector_clock h n w lt) (vector_clock (e ∷ h) n w lt)

module _ (plan : Plan) (before : List NodeEntry) (sent : NodeEntry) (msg : Msg) (s : ℕ) (valid : Valid plan (sent ∷ before)) (event : sent.entry.event ≡ Sent msg) (of : msg.stream ≡ s) where
  pub was_sent : WasSent (sent ∷ before) msg
  was_sent = inl (subst (λ (v : Event). Sends v msg) (sym event) refl)

  -- the destination has all that the message starts from
  no_gap_here : IsInTime plan before s → (n : ℕ) → n ≡ (plan.stream s).destination → Le (from_of msg.kind) (current_vector (journal (sent ∷ before) n))
  no_gap_here in_time n at w lt =
      let a : clock_of (from_of msg.kind) w ≤ clock_of (current_vector (journal before (plan.stream s).destination)) w = (stays_in_time plan s).no_gap before sent msg valid event of in_time w lt in
      let b : clock_of (current_vector (journal before (plan.stream s).destination)) w ≤ clock_of (current_vector (journal (sent ∷ before) (plan.stream s).destination)) w =
      vector_more sent before (plan.stream s).destination w lt in
      let c : clock_of (current_vector (journal (sent ∷ before) (plan.stream s).destination)) w ≡ clock_of (current_vector (journal (sent ∷ before) n)) w =
      ap (λ (m : ℕ). clock_of (current_vector (journal (sent ∷ before) m)) w) (sym at) in
      omega arith

  pub passes : IsInTime plan before s → (answer : Taken) (made : NodeEntry) → IsLawful plan (sent ∷ before) made → IsTakingMade msg answer made → IsAcceptOf msg made
  passes in_time (taken.Accepted time) made lawful is = is.0
  passes in_time (taken.Gap needs has time) made lawful is =
      let placed : IsPlaced plan (sent ∷ before) made.node (Gapped msg has) = subst (λ (v : Event). IsPlaced plan (sent ∷ before) made.node v) is.0 lawful.placed in
      let may : MayComeByWorld plan (sent ∷ before) made.node made.entry.time (Gapped msg has) = subst (λ (v : Event). MayComeByWorld plan (sent ∷ before) made.node made.entry.time v) is.0 lawful.may_come in
      absurd (may.1 (no_gap_here in_time made.node (placed ∙ ap (λ (t : ℕ). (plan.stream t).destination) of)))
