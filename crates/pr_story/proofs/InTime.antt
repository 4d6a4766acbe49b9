-- A stream whose messages are taken one by one is in time, and leaves no gap.
use Rattle.std.proofs.Common.{◌≡◌, ℕ, ◌≤◌, inl, inr, List, ◌∷◌, refl, sym, ap, subst, arith, max, cond, nat_eq}
use Rattle.std.specs.Prelude.{Some, None, Bool, true, false, IsTrue}
use Rattle.std.proofs.lemmas.Bool.Decides.{Decides-eqb}
use Rattle.pr_vectors.specs.Vector.{clock_of, Le, zero_vector}
use Rattle.pr_inval.specs.declared.kind.Kind.{Kind}
use Rattle.pr_inval.specs.declared.kind.Kind.TheVariants.{Precise, Imprecise, Checkpoint, Body}
use Rattle.pr_inval.specs.declared.msg.Msg.{Msg}
use Rattle.pr_inval.specs.Points.{from_of, to_of}
use Rattle.pr_inval.specs.Standing.{Standing}
use Rattle.pr_story.specs.declared.entry.Entry.{Entry}
use Rattle.pr_story.specs.declared.event.Event.{Event}
use Rattle.pr_story.specs.declared.event.Event.TheVariants.{Attached, Sent, Accepted}
use Rattle.pr_story.specs.History.{Plan, NodeEntry, Sends, journal, current_vector}
use Rattle.pr_story.specs.Turns.{position, standing, IsTurn, IsSnapshot, SendTurn}
use Rattle.pr_story.specs.Lawful.{IsLawful, Valid}
use Rattle.pr_story.specs.Settling.{IsInTime}
use Rattle.pr_story.specs.Statements.{StaysInTime}
use Rattle.pr_story.proofs.Basics.{clock_zero, clock_at, vector_clock}
use Rattle.pr_story.proofs.Settling.{Arrives, arrives_begins, arrives_sends, arrives_stays, arrives_takes}
use Rattle.pr_story.proofs.Steps.{entry_at}

module _ (plan : Plan) (s : ℕ) where
  arrived : (h : List NodeEntry) → IsInTime plan h s → Arrives plan s h None
  arrived h t w lt =
      let a : clock_of (position h s) w ≤ clock_of (current_vector (journal h (plan.stream s).destination)) w = t w lt in
      let b : clock_of (current_vector (journal h (plan.stream s).destination)) w ≡ clock_at h (plan.stream s).destination w = vector_clock h (plan.stream s).destination w lt in
      omega arith

  in_time : (h : List NodeEntry) → Arrives plan s h None → IsInTime plan h s
  in_time h a w lt =
      let le : clock_of (position h s) w ≤ max (clock_at h (plan.stream s).destination w) 0 = a w lt in
      let b : clock_of (current_vector (journal h (plan.stream s).destination)) w ≡ clock_at h (plan.stream s).destination w = vector_clock h (plan.stream s).destination w lt in
      omega arith

  -- a message of another stream, or one that comes late, changes nothing
  waits_more : (h : List NodeEntry) (msg : Msg) → Arrives plan s h None → Arrives plan s h (Some msg)
  waits_more h msg a w lt = let le : clock_of (position h s) w ≤ max (clock_at h (plan.stream s).destination w) 0 = a w lt in omega arith

  none_waits : (h : List NodeEntry) (msg : Msg) → (msg.stream ≡ s → ⊥) → Arrives plan s h (Some msg) → Arrives plan s h None
  none_waits h msg other a w lt = by (nat_eq msg.stream s) (Decides-eqb msg.stream s).0 (a w lt)
    where
      by : (b : Bool) → (IsTrue b → msg.stream ≡ s) → clock_of (position h s) w ≤ max (clock_at h (plan.stream s).destination w) (cond b (clock_of (to_of msg.kind) w) 0)
          → clock_of (position h s) w ≤ max (clock_at h (plan.stream s).destination w) 0
      by true is le = absurd (other (is refl))
      by false is le = le

  one_other : (h : List NodeEntry) (n time caller : ℕ) (event : Event) → Valid plan h → IsLawful plan h (entry_at n time caller event)
      → ((msg : Msg) → Sends event msg → msg.stream ≡ s → ⊥) → Arrives plan s h None → Arrives plan s (entry_at n time caller event ∷ h) None
  one_other h n time caller (Sent msg) v l other a =
      none_waits (entry_at n time caller (Sent msg) ∷ h) msg (other msg refl) (arrives_sends plan s h n time caller msg v l tt a)
  one_other h n time caller (Accepted msg at) v l other a = arrives_takes plan s h n time caller msg at v l (waits_more h msg a)
  one_other h n time caller event v l other a = arrives_stays plan s h n time caller event v l tt a

  -- what a turn or a checkpoint sends starts at the position, or nowhere
  starts_here : (n : ℕ) (j : List Entry) (session : Standing) (kind : Kind) → IsTurn n j session (SendTurn kind) → Le (from_of kind) session.position
  starts_here n j session (Precise from to write) t w lt = let e : clock_of from w ≡ clock_of session.position w = ap (λ (v : List ℕ). clock_of v w) t.2 in omega arith
  starts_here n j session (Imprecise from to target) t w lt = let e : clock_of from w ≡ clock_of session.position w = ap (λ (v : List ℕ). clock_of v w) t.2 in omega arith
  starts_here n j session (Checkpoint to target floor rows) t w lt = absurd t
  starts_here n j session (Body o stamp bytes) t w lt = let z : ◌≡◌ {A = ℕ} (clock_of zero_vector w) 0 = clock_zero w in omega arith

  starts_nowhere : (h : List NodeEntry) (n : ℕ) (position : List ℕ) (kind : Kind) → IsSnapshot (plan.sets n) n (journal h n) (plan.stream s).names kind → Le (from_of kind) position
  starts_nowhere h n position (Checkpoint to target floor rows) t w lt = let z : ◌≡◌ {A = ℕ} (clock_of zero_vector w) 0 = clock_zero w in omega arith
  starts_nowhere h n position _ t w lt = absurd t

  starts : (h : List NodeEntry) (n time caller : ℕ) (msg : Msg) → IsLawful plan h (entry_at n time caller (Sent msg)) → msg.stream ≡ s → Le (from_of msg.kind) (position h s)
  starts h n time caller msg l is = elim l.may_come.2 [
    | inl turn ↦ starts_here n (journal h n) (standing plan h s) msg.kind (subst (λ (x : ℕ). IsTurn n (journal h n) (standing plan h x) (SendTurn msg.kind)) is turn)
    | inr snap ↦ starts_nowhere h n (position h s) msg.kind (subst (λ (x : ℕ). IsSnapshot (plan.sets n) n (journal h n) (plan.stream x).names msg.kind) is snap)
  ]

  lawful_as : (h : List NodeEntry) (e : NodeEntry) (event : Event) → e.entry.event ≡ event → IsLawful plan h e → IsLawful plan h (entry_at e.node e.entry.time e.entry.caller event)
  lawful_as h e event is l = subst (λ (x : Event). IsLawful plan h (entry_at e.node e.entry.time e.entry.caller x)) is l

  pub stays_in_time : StaysInTime plan s
  stays_in_time = record {
    attached = λ h e at v is. in_time (e ∷ h)
        (subst (λ (x : Event). Arrives plan s (entry_at e.node e.entry.time e.entry.caller x ∷ h) None) (sym is)
        (arrives_begins plan s h e.node e.entry.time e.entry.caller s at v.1 (lawful_as h e (Attached s at) is v.0) refl));
    other = λ h e v none t. in_time (e ∷ h) (one_other h e.node e.entry.time e.entry.caller e.entry.event v.1 v.0 none (arrived h t));
    taken = λ h sent took msg at v is_sent is_taken t. in_time (took ∷ (sent ∷ h))
        (subst (λ (x : Event). Arrives plan s (entry_at took.node took.entry.time took.entry.caller x ∷ (sent ∷ h)) None) (sym is_taken)
        (arrives_takes plan s (sent ∷ h) took.node took.entry.time took.entry.caller msg at v.1 (lawful_as (sent ∷ h) took (Accepted msg at) is_taken v.0)
        (subst (λ (x : Event). Arrives plan s (entry_at sent.node sent.entry.time sent.entry.caller x ∷ h) (Some msg)) (sym is_sent)
        (arrives_sends plan s h sent.node sent.entry.time sent.entry.caller msg v.1.1 (lawful_as h sent (Sent msg) is_sent v.1.0) tt (arrived h t)))));
    no_gap = λ h e msg v is_sent is t w lt.
        let a : clock_of (from_of msg.kind) w ≤ clock_of (position h s) w = starts h e.node e.entry.time e.entry.caller msg (lawful_as h e (Sent msg) is_sent v.0) is w lt in
        let b : clock_of (position h s) w ≤ clock_of (current_vector (journal h (plan.stream s).destination)) w = t w lt in
        omega arith;
  }
