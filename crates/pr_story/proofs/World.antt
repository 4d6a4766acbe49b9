-- What every valid history meets, and what follows of single nodes.
use Rattle.std.proofs.Common.{◌≡◌, ℕ, ◌<◌, ◌≤◌, ◌⊎◌, inl, inr, List, [], ◌∷◌, refl, sym, ap, subst, arith}
use Rattle.std.specs.Prelude.{false, IsTrue}
use Rattle.pr_stamps.specs.Point.{Point}
use Rattle.pr_vectors.specs.Vector.{clock_of}
use Rattle.pr_sets.specs.Spans.{has}
use Rattle.pr_names.specs.Name.{IsName}
use Rattle.pr_inval.specs.declared.kind.Kind.{Kind}
use Rattle.pr_inval.specs.declared.kind.Kind.TheVariants.{Precise, Imprecise, Checkpoint, Body}
use Rattle.pr_inval.specs.declared.msg.Msg.{Msg}
use Rattle.pr_inval.specs.declared.write_rec.WriteRec.{WriteRec}
use Rattle.pr_story.specs.declared.event.Event.{Event}
use Rattle.pr_story.specs.declared.event.Event.TheVariants.{Wrote, Accepted}
use Rattle.pr_inval.specs.Points.{to_of, target_of, CoversPoint, is_invalidation}
use Rattle.pr_story.specs.declared.entry.Entry.{Entry}
use Rattle.pr_story.specs.History.{NodeEntry, SomeEvent, journal, Writes, Accepts, WasWritten, WasSent, HasAccepted, current_clock}
use Rattle.pr_story.specs.Told.{IsLit}
use Rattle.pr_story.specs.Knowledge.{IsOf, TellsOf, HeardOf}
use Rattle.pr_story.specs.Messages.{IsHonest}
use Rattle.pr_story.proofs.Basics.{clock_at, clock_is, split, newer_event, older_event, accepted_reached}

-- what is so of a write of the world
pub record IsOwn (h : List NodeEntry) (x : WriteRec) (dep : List ℕ) : Type 0 where
  pub one : 1 ≤ x.stamp.clock
  pub node : x.stamp.node < 32
  pub reached : x.stamp.clock ≤ clock_at h x.stamp.node x.stamp.node
  pub above : (w : ℕ) → w < 32 → clock_of dep w < x.stamp.clock
  pub name : IsName x.name

-- the journal has the write
abbrev pub WroteIn : List Entry → WriteRec → List ℕ → List ℕ → Type 0
WroteIn j x body dep = SomeEvent (λ event. Writes event x body dep) j

pub record World (h : List NodeEntry) : Type 0 where
  pub own : (n v : ℕ) → v < 32 → clock_at h n v ≤ clock_at h v v
  pub closed : (n : ℕ) (x : WriteRec) (body dep : List ℕ) → WasWritten h x body dep → x.stamp.clock ≤ clock_at h n x.stamp.node → (w : ℕ) → w < 32 → clock_of dep w ≤ clock_at h n w
  pub is_own : (x : WriteRec) (body dep : List ℕ) → WasWritten h x body dep → IsOwn h x dep
  pub at_home : (n : ℕ) (x : WriteRec) (body dep : List ℕ) → WroteIn (journal h n) x body dep → n ≡ x.stamp.node
  pub one : (x y : WriteRec) (b c d e : List ℕ) → WasWritten h x b d → WasWritten h y c e → x.stamp.clock ≡ y.stamp.clock → x.stamp.node ≡ y.stamp.node → (x ≡ y) × (b ≡ c)
  pub arrived : (n : ℕ) (k : Kind) → HasAccepted (journal h n) k → (msg : Msg) × WasSent h msg × (msg.kind ≡ k)
  pub honest : (msg : Msg) → WasSent h msg → IsHonest h msg.kind

-- ---- told writes

told_event : (event : Event) (x : WriteRec) → TellsOf event x → ((k : Kind) × Accepts event k × IsOf k x) ⊎ ((body : List ℕ) × (dep : List ℕ) × Writes event x body dep)
told_event (Wrote client write body after) x t = inr (body, after, (t, refl, refl))
told_event (Accepted msg at) x t = inl (msg.kind, refl, t)
told_event _ x t = absurd t

-- by a message, or its own
pub told_how : (j : List Entry) (x : WriteRec) → HeardOf j x → ((k : Kind) × HasAccepted j k × IsOf k x) ⊎ ((body : List ℕ) × (dep : List ℕ) × WroteIn j x body dep)
told_how [] x t = absurd t
told_how (e ∷ j) x t = elim t [
  | inl now ↦ elim (told_event e.event x now) [
    | inl a ↦ inl (a.0, inl a.1, a.2)
    | inr w ↦ inr (w.0, w.1, inl w.2)
  ]
  | inr old ↦ elim (told_how j x old) [
    | inl a ↦ inl (a.0, inr a.1, a.2)
    | inr w ↦ inr (w.0, w.1, inr w.2)
  ]
]

pub wrote_written : (h : List NodeEntry) (n : ℕ) (x : WriteRec) (body dep : List ℕ) → WroteIn (journal h n) x body dep → WasWritten h x body dep
wrote_written [] n x body dep w = absurd w
wrote_written (e ∷ h) n x body dep w = elim (split (λ event. Writes event x body dep) e h n w) [ inl now ↦ inl now.1 | inr old ↦ inr (wrote_written h n x body dep old) ]

pub written_wrote : (h : List NodeEntry) (x : WriteRec) (body dep : List ℕ) → WasWritten h x body dep → (n : ℕ) × WroteIn (journal h n) x body dep
written_wrote [] x body dep w = absurd w
written_wrote (e ∷ h) x body dep w = elim w [
  | inl now ↦ (e.node, newer_event (λ event. Writes event x body dep) e h e.node refl now)
  | inr old ↦ let r : (n : ℕ) × WroteIn (journal h n) x body dep = written_wrote h x body dep old in (r.0, older_event (λ event. Writes event x body dep) e h r.0 r.1)
]

tells_own : (event : Event) (x : WriteRec) (body dep : List ℕ) → Writes event x body dep → TellsOf event x
tells_own (Wrote client write bytes after) x body dep w = w.0
tells_own _ x body dep w = absurd w

pub own_told : (j : List Entry) (x : WriteRec) (body dep : List ℕ) → WroteIn j x body dep → HeardOf j x
own_told [] x body dep w = absurd w
own_told (e ∷ j) x body dep w = elim w [ inl now ↦ inl (tells_own e.event x body dep now) | inr old ↦ inr (own_told j x body dep old) ]

tells_accepted : (event : Event) (k : Kind) (x : WriteRec) → Accepts event k → IsOf k x → TellsOf event x
tells_accepted (Accepted msg at) k x a i = subst (λ (j : Kind). IsOf j x) (sym a) i
tells_accepted _ k x a i = absurd a

pub accepted_told : (j : List Entry) (k : Kind) (x : WriteRec) → HasAccepted j k → IsOf k x → HeardOf j x
accepted_told [] k x a i = absurd a
accepted_told (e ∷ j) k x a i = elim a [ inl now ↦ inl (tells_accepted e.event k x now i) | inr old ↦ inr (accepted_told j k x old i) ]

-- an honest message of a write
pub honest_write : (h : List NodeEntry) (k : Kind) (x : WriteRec) → IsHonest h k → IsOf k x → CoversPoint k x.stamp × ((body : List ℕ) × (dep : List ℕ) × WasWritten h x body dep)
honest_write h (Precise from to write) x k i = (subst (λ (y : WriteRec). CoversPoint (Precise from to write) y.stamp) i k.2, subst (λ (y : WriteRec). (body : List ℕ) × (dep : List ℕ) × WasWritten h y body dep) i k.3)
honest_write h (Imprecise from to target) x k i = absurd i
honest_write h (Checkpoint to target floor rows) x k i = absurd i
honest_write h (Body name stamp bytes) x k i = absurd i

-- an honest invalidation whose target lacks a covered write's name is of that write
pub honest_only : (h : List NodeEntry) (k : Kind) (x : WriteRec) (body dep : List ℕ) → IsHonest h k → IsTrue (is_invalidation k) → WasWritten h x body dep → CoversPoint k x.stamp → has (target_of k) x.name ≡ false → IsOf k x
honest_only h (Precise from to write) x body dep k i w c f = elim (k.1 x body dep w c) [ inl o ↦ o | inr t ↦ cc ]
honest_only h (Imprecise from to target) x body dep k i w c f = elim (k.1 x body dep w c) [ inl o ↦ o | inr t ↦ cc ]
honest_only h (Checkpoint to target floor rows) x body dep k i w c f = cc
honest_only h (Body name stamp bytes) x body dep k i w c f = cc

module _ (h : List NodeEntry) (f : World h) where
  pub accepted_honest : (n : ℕ) (k : Kind) → HasAccepted (journal h n) k → IsHonest h k
  accepted_honest n k a = let s : (msg : Msg) × WasSent h msg × (msg.kind ≡ k) = f.arrived n k a in subst (λ (j : Kind). IsHonest h j) s.2 (f.honest s.0 s.1)

  pub told_written : (n : ℕ) (x : WriteRec) → HeardOf (journal h n) x → (body : List ℕ) × (dep : List ℕ) × WasWritten h x body dep
  told_written n x t = elim (told_how (journal h n) x t) [
    | inl a ↦ (honest_write h a.0 x (accepted_honest n a.0 a.1) a.2).1
    | inr w ↦ (w.0, w.1, wrote_written h n x w.0 w.1 w.2)
  ]

  -- a node has been told of the writes that it knows of
  pub told_covered : (n : ℕ) (x : WriteRec) → HeardOf (journal h n) x → x.stamp.clock ≤ clock_at h n x.stamp.node
  told_covered n x t = elim (told_how (journal h n) x t) [
    | inl a ↦
        let c : CoversPoint a.0 x.stamp = (honest_write h a.0 x (accepted_honest n a.0 a.1) a.2).0 in
        let le : x.stamp.clock ≤ clock_of (to_of a.0) x.stamp.node = c.1 in
        let r : clock_of (to_of a.0) x.stamp.node ≤ current_clock (journal h n) x.stamp.node = accepted_reached (journal h n) a.0 x.stamp.node a.1 in
        let i : current_clock (journal h n) x.stamp.node ≡ clock_at h n x.stamp.node = clock_is h n x.stamp.node in
        omega arith
    | inr w ↦
        let r : x.stamp.clock ≤ clock_at h x.stamp.node x.stamp.node = (f.is_own x w.0 w.1 (wrote_written h n x w.0 w.1 w.2)).reached in
        subst (λ (m : ℕ). x.stamp.clock ≤ clock_at h m x.stamp.node) (sym (f.at_home n x w.0 w.1 w.2)) r
  ]

  -- a write was told to its own node
  pub home_told : (x : WriteRec) (body dep : List ℕ) → WasWritten h x body dep → HeardOf (journal h x.stamp.node) x
  home_told x body dep w =
      let m : (n : ℕ) × WroteIn (journal h n) x body dep = written_wrote h x body dep w in
      subst (λ (n : ℕ). HeardOf (journal h n) x) (f.at_home m.0 x body dep m.1) (own_told (journal h m.0) x body dep m.1)

  -- a write at a lit point was told
  pub lit_told : (n : ℕ) (x : WriteRec) (body dep : List ℕ) → WasWritten h x body dep → IsLit n (journal h n) x.name x.stamp → HeardOf (journal h n) x
  lit_told n x body dep w l = elim l [
    | inl own ↦ subst (λ (m : ℕ). HeardOf (journal h m) x) own (home_told x body dep w)
    | inr a ↦ accepted_told (journal h n) a.0 x a.1 (honest_only h a.0 x body dep (accepted_honest n a.0 a.1) a.2 w a.3 a.4)
  ]

  -- of one stamp there is one write
  pub told_one : (n m : ℕ) (x y : WriteRec) → HeardOf (journal h n) x → HeardOf (journal h m) y → x.stamp ≡ y.stamp → x ≡ y
  told_one n m x y t u e =
      let a : (body : List ℕ) × (dep : List ℕ) × WasWritten h x body dep = told_written n x t in
      let b : (body : List ℕ) × (dep : List ℕ) × WasWritten h y body dep = told_written m y u in
      (f.one x y a.0 b.0 a.1 b.1 a.2 b.2 (ap (λ (s : Point). s.clock) e) (ap (λ (s : Point). s.node) e)).0
