-- What was told is known, and what is held is what was written.
use Rattle.std.proofs.Common.{◌≡◌, ℕ, ◌⊎◌, inl, inr, List, [], ◌∷◌, refl, ◌∙◌, ap, cond, nat_eq}
use Rattle.std.specs.Prelude.{false, true, Some, None, Option, Bool, ◌&&◌, not, Decides}
use Rattle.std.specs.Str.{bytes_eq}
use Rattle.std.proofs.lemmas.Bool.Decides.{eqb_tells, Decides-eqb, Decides-and}
use Rattle.std.proofs.lemmas.Slice.Eq.{bytes_eq-Decides}
use Rattle.pr_stamps.specs.Point.{Point, is_this}
use Rattle.pr_inval.specs.declared.kind.Kind.{Kind}
use Rattle.pr_inval.specs.declared.kind.Kind.TheVariants.{Precise, Imprecise, Checkpoint, Body}
use Rattle.pr_inval.specs.declared.write_rec.WriteRec.{WriteRec}
use Rattle.pr_story.specs.declared.event.Event.{Event}
use Rattle.pr_story.specs.declared.event.Event.TheVariants.{Wrote, Accepted, Dropped}
use Rattle.pr_story.specs.declared.entry.Entry.{Entry}
use Rattle.pr_story.specs.History.{NodeEntry, journal, Writes, Accepts, WasWritten, HasAccepted}
use Rattle.pr_story.specs.Knowledge.{HeardOf, Knows, body_in, body_after, held_body}
use Rattle.pr_story.proofs.World.{World, WroteIn, told_one, accepted_honest, wrote_written}

pub same_point : (s t : Point) → s.clock ≡ t.clock → s.node ≡ t.node → s ≡ t
same_point s t c n = ap (λ (k : ℕ). let p : Point = record { clock = k; node = s.node } in p) c ∙ ap (λ (k : ℕ). let p : Point = record { clock = t.clock; node = k } in p) n

pub points_differ : (s t : Point) → (s ≡ t) ⊎ (s ≡ t → ⊥)
points_differ s t = elim (eqb_tells s.clock t.clock) [
  | inl c ↦ elim (eqb_tells s.node t.node) [
    | inl n ↦ inl (same_point s t c.1 n.1)
    | inr n ↦ inr (λ e. n.1 (ap (λ (p : Point). p.node) e))
  ]
  | inr c ↦ inr (λ e. c.1 (ap (λ (p : Point). p.clock) e))
]

told_known_where : (j : List Entry) (x : WriteRec) → ((y : WriteRec) → HeardOf j y → y.stamp ≡ x.stamp → y ≡ x) → HeardOf j x → Knows j x
told_known_where [] x one t = absurd t
told_known_where (e ∷ j) x one t = elim t [
  | inl now ↦ inr (now, λ y u. one y (inr u))
  | inr old ↦ inl (told_known_where j x (λ y u. one y (inr u)) old)
]

pub known_told : (j : List Entry) (x : WriteRec) → Knows j x → HeardOf j x
known_told [] x k = absurd k
known_told (e ∷ j) x k = elim k [ inl old ↦ inr (known_told j x old) | inr now ↦ inl now.0 ]

pub told_known : (h : List NodeEntry) → World h → (n : ℕ) (x : WriteRec) → HeardOf (journal h n) x → Knows (journal h n) x
told_known h f n x t = told_known_where (journal h n) x (λ y u e. told_one h f n n y x u t e) t

-- ---- bodies

pub Decides-is_this : (name : List ℕ) (stamp : Point) (o : List ℕ) (t : Point) → Decides (is_this name stamp o t) ((name ≡ o) × ((stamp.clock ≡ t.clock) × (stamp.node ≡ t.node)))
Decides-is_this name stamp o t =
    Decides-and (bytes_eq name o) (nat_eq stamp.clock t.clock && nat_eq stamp.node t.node) (bytes_eq-Decides name o)
    (Decides-and (nat_eq stamp.clock t.clock) (nat_eq stamp.node t.node) (Decides-eqb stamp.clock t.clock) (Decides-eqb stamp.node t.node))

-- the test picked the body, or what was held before
picked : (b : Bool) (body bytes : List ℕ) (before : Option (List ℕ)) → cond b (Some body) before ≡ Some bytes → ((b ≡ true) × (body ≡ bytes)) ⊎ (before ≡ Some bytes)
picked true body bytes before e = inl (refl, cc)
picked false body bytes before e = inr e

both_tests : (a g : Bool) → (a && not g) ≡ true → (a ≡ true) × (g ≡ false)
both_tests true false e = (refl, refl)
both_tests true true e = cc
both_tests false g e = cc

dropped : (b : Bool) (bytes : List ℕ) (before : Option (List ℕ)) → cond b None before ≡ Some bytes → before ≡ Some bytes
dropped true bytes before e = cc
dropped false bytes before e = e

kind_body : (k : Kind) (o : List ℕ) (t : Point) (before : Option (List ℕ)) (bytes : List ℕ) → body_in k o t before ≡ Some bytes → (k ≡ Body o t bytes) ⊎ (before ≡ Some bytes)
kind_body (Precise from to write) o t before bytes e = inr e
kind_body (Imprecise from to target) o t before bytes e = inr e
kind_body (Checkpoint to target floor rows) o t before bytes e = inr e
kind_body (Body name stamp body) o t before bytes e = elim (picked (is_this name stamp o t) body bytes before e) [
  | inl is ↦
      let d : (name ≡ o) × ((stamp.clock ≡ t.clock) × (stamp.node ≡ t.node)) = (Decides-is_this name stamp o t).0 is.0 in
      let p : stamp ≡ t = same_point stamp t d.1.0 d.1.1 in
      let n : name ≡ o = d.0 in
      let b : body ≡ bytes = is.1 in
      inl cc
  | inr old ↦ inr old
]

-- a body that an event leaves was held, written or taken from a message
event_body : (event : Event) (o : List ℕ) (t : Point) (before : Option (List ℕ)) (bytes : List ℕ) → body_after event o t before ≡ Some bytes →
    (Accepts event (Body o t bytes) ⊎ ((x : WriteRec) × (dep : List ℕ) × Writes event x bytes dep × (x.name ≡ o) × (x.stamp ≡ t) × (x.gone ≡ false))) ⊎ (before ≡ Some bytes)
event_body (Wrote client write body after) o t before bytes e = elim (picked (is_this write.name write.stamp o t && not write.gone) body bytes before e) [
  | inl is ↦
      let two : (is_this write.name write.stamp o t ≡ true) × (write.gone ≡ false) = both_tests (is_this write.name write.stamp o t) write.gone is.0 in
      let d : (write.name ≡ o) × ((write.stamp.clock ≡ t.clock) × (write.stamp.node ≡ t.node)) = (Decides-is_this write.name write.stamp o t).0 two.0 in
      inl (inr (write, after, (refl, is.1, refl), d.0, same_point write.stamp t d.1.0 d.1.1, two.1))
  | inr old ↦ inr old
]
event_body (Accepted msg at) o t before bytes e = elim (kind_body msg.kind o t before bytes e) [ inl is ↦ inl (inl is) | inr old ↦ inr old ]
event_body (Dropped name) o t before bytes e = inr (dropped (bytes_eq name o) bytes before e)
event_body _ o t before bytes e = inr e

-- what a node holds, it wrote or was sent
pub held_how : (j : List Entry) (o : List ℕ) (t : Point) (bytes : List ℕ) → held_body j o t ≡ Some bytes →
    HasAccepted j (Body o t bytes) ⊎ ((x : WriteRec) × (dep : List ℕ) × WroteIn j x bytes dep × (x.name ≡ o) × (x.stamp ≡ t) × (x.gone ≡ false))
held_how [] o t bytes e = cc
held_how (e ∷ j) o t bytes is = elim (event_body e.event o t (held_body j o t) bytes is) [
  | inl now ↦ elim now [
    | inl a ↦ inl (inl a)
    | inr w ↦ inr (w.0, w.1, inl w.2, w.3, w.4, w.5)
  ]
  | inr old ↦ elim (held_how j o t bytes old) [ inl a ↦ inl (inr a) | inr w ↦ inr (w.0, w.1, inr w.2, w.3, w.4, w.5) ]
]

pub held_written : (h : List NodeEntry) → World h → (n : ℕ) (o : List ℕ) (t : Point) (bytes : List ℕ) → held_body (journal h n) o t ≡ Some bytes →
    (x : WriteRec) × (dep : List ℕ) × WasWritten h x bytes dep × (x.name ≡ o) × (x.stamp ≡ t) × (x.gone ≡ false)
held_written h f n o t bytes e = elim (held_how (journal h n) o t bytes e) [
  | inl a ↦ accepted_honest h f n (Body o t bytes) a
  | inr w ↦ (w.0, w.1, wrote_written h n w.0 bytes w.1 w.2, w.3, w.4, w.5)
]
