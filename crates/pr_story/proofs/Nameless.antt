-- Sets without names are told, so a settle tells all sets.
use Rattle.std.proofs.Common.{◌≡◌, ℕ, ◌<◌, ◌≤◌, ◌⊎◌, inl, inr, List, [], ◌∷◌, ◌++◌, refl, sym, ◌∙◌, subst, arith, cond, nat_eq}
use Rattle.std.proofs.lemmas.Bool.Decides.{nat_tests}
use Rattle.pr_stamps.specs.Point.{Point}
use Rattle.pr_vectors.specs.Vector.{clock_of}
use Rattle.pr_vectors.proofs.Vectors.{length-vector_of}
use Rattle.pr_inval.specs.declared.kind.Kind.{Kind}
use Rattle.pr_inval.specs.Points.{from_of, CoversPoint}
use Rattle.pr_story.specs.declared.event.Event.{Event}
use Rattle.pr_story.specs.declared.event.Event.TheVariants.{Wrote, Accepted}
use Rattle.pr_story.specs.History.{Plan, NodeEntry, journal, HasAccepted, Accepts, clock_brought, current_clock, current_vector}
use Rattle.pr_story.specs.Lawful.{IsLawful, Valid}
use Rattle.pr_story.proofs.Clocks.{either_covers}
use Rattle.pr_story.proofs.Basics.{clock_at, vector_clock, newer_event, older_event}
use Rattle.pr_story.proofs.Points.{covered_node}
use Rattle.pr_story.proofs.Settling.{settles_settle}
use Rattle.pr_story.proofs.SettlingTells.{named_told}
use Rattle.pr_story.proofs.Steps.{entry_at}
use Rattle.pr_story.specs.Statements.{NamelessIsTold, SettlesTell}

own_point : (x c w m n : ℕ) → 1 ≤ x → m ≡ n → x ≤ cond (nat_eq w m) c 0 → w ≡ n
own_point x c w m n one is le = grind (arith, nat_tests)

new_point : (plan : Plan) (h : List NodeEntry) (n time caller : ℕ) (event : Event) (p : Point) → p.node < 32 → 1 ≤ p.clock → IsLawful plan h (entry_at n time caller event) → p.clock ≤ clock_brought event p.node → clock_at h n p.node < p.clock
    → (p.node ≡ n) ⊎ ((k : Kind) × Accepts event k × CoversPoint k p)
new_point plan h n time caller (Wrote client write body after) p lt one l le past = inl (own_point p.clock write.stamp.clock p.node write.stamp.node n one l.may_come.2 le)
new_point plan h n time caller (Accepted msg at) p lt one l le past =
    let a : clock_of (from_of msg.kind) p.node ≤ clock_of (current_vector (journal h n)) p.node = l.may_come.0 p.node lt in
    let b : clock_of (current_vector (journal h n)) p.node ≡ clock_at h n p.node = vector_clock h n p.node lt in
    inr (msg.kind, refl, (omega arith, le))
new_point plan h n time caller _ p lt one l le past = absurd (omega arith)

-- a covered point is the node's own, or an accepted message covers it
covered_how : (plan : Plan) (h : List NodeEntry) → Valid plan h → (n : ℕ) (p : Point) → p.node < 32 → 1 ≤ p.clock → p.clock ≤ clock_at h n p.node → (p.node ≡ n) ⊎ ((k : Kind) × HasAccepted (journal h n) k × CoversPoint k p)
covered_how plan [] v n p lt one le = absurd (omega arith)
covered_how plan (e ∷ h) v n p lt one le = elim (either_covers p.clock (clock_at h n p.node) (clock_brought e.entry.event p.node) n e.node le) [
  | inl old ↦ elim (covered_how plan h v.1 n p lt one old) [
    | inl own ↦ inl own
    | inr some ↦ inr (some.0, older_event (λ event. Accepts event some.0) e h n some.1, some.2)
  ]
  | inr now ↦
      let past : clock_at h e.node p.node < p.clock = subst (λ (m : ℕ). clock_at h m p.node < p.clock) now.0 now.2 in
      elim (new_point plan h e.node e.entry.time e.entry.caller e.entry.event p lt one v.0 now.1 past) [
        | inl own ↦ inl (own ∙ sym now.0)
        | inr some ↦ inr (some.0, newer_event (λ event. Accepts event some.0) e h n (sym now.0) some.1, some.2)
      ]
]

pub nameless_told : NamelessIsTold
nameless_told plan h n set v none p c =
    let lt : p.node < 32 = covered_node (current_vector (journal h n)) p (length-vector_of (current_clock (journal h n))) c in
    let e : clock_of (current_vector (journal h n)) p.node ≡ clock_at h n p.node = vector_clock h n p.node lt in
    let le : p.clock ≤ clock_of (current_vector (journal h n)) p.node = c.1 in
    elim (covered_how plan h v n p lt c.0 (omega arith)) [
      | inl own ↦ inl (own, c)
      | inr some ↦ inr (some.0, some.1, (some.2, λ m. none m.0 m.1 m.3))
    ]

pub settles_tell : SettlesTell
settles_tell plan h later streams v i s c lit set declared within either q covers = elim either [
  | inl some ↦ named_told plan h later streams v i s c lit set declared within some q covers
  | inr none ↦
      let lt : q.node < 32 = covered_node (current_vector (journal (later ++ h) (plan.stream s).source)) q (length-vector_of (current_clock (journal (later ++ h) (plan.stream s).source))) covers in
      let up : clock_of (current_vector (journal (later ++ h) (plan.stream s).source)) q.node ≤ clock_of (current_vector (journal (later ++ h) (plan.stream s).destination)) q.node = (settles_settle plan h later streams v i s c).1 q.node lt in
      let le : q.clock ≤ clock_of (current_vector (journal (later ++ h) (plan.stream s).source)) q.node = covers.1 in
      nameless_told plan (later ++ h) (plan.stream s).destination set v none q (covers.0, omega arith)
]
