-- What a node knows of a name whose set is precise, and what a checkpoint says.
use Rattle.std.proofs.Common.{◌≡◌, ℕ, ◌<◌, ◌≤◌, ◌⊎◌, inl, inr, List, [], ◌∷◌, refl, sym, ◌∙◌, ap, subst, arith, max}
use Rattle.std.specs.Prelude.{false, true, Contains, Some, None, IsTrue, Option, ◌↔◌, Bool}
use Rattle.std.specs.List.{list_any}
use Rattle.pr_stamps.specs.Point.{Point, Before}
use Rattle.pr_stamps.specs.declared.mark.Mark.{Mark}
use Rattle.pr_vectors.specs.Vector.{clock_of, Covers, zero_vector}
use Rattle.pr_sets.specs.Spans.{has}
use Rattle.pr_names.specs.Name.{IsName}
use Rattle.pr_names.specs.Span.{Span}
use Rattle.pr_inval.specs.declared.kind.Kind.{Kind}
use Rattle.pr_inval.specs.declared.kind.Kind.TheVariants.{Precise, Imprecise, Checkpoint, Body}
use Rattle.pr_inval.specs.declared.row.Row.{Row}
use Rattle.pr_inval.specs.declared.write_rec.WriteRec.{WriteRec}
use Rattle.pr_story.specs.declared.event.Event.{Event}
use Rattle.pr_story.specs.declared.event.Event.TheVariants.{Wrote, Accepted}
use Rattle.pr_inval.specs.Points.{to_of, target_of, CoversPoint}
use Rattle.pr_story.specs.declared.entry.Entry.{Entry}
use Rattle.pr_story.specs.History.{NodeEntry, journal, Accepts, WasWritten, HasAccepted, current_clock, current_vector}
use Rattle.pr_story.specs.Told.{IsTold, IsPrecise}
use Rattle.pr_sets.specs.Sets.{rest_of, first_with, set_of}
use Rattle.pr_story.specs.Knowledge.{IsOf, HasRow, TellsOf, HeardOf, NamesStamp, WasNamed, KnowsGone, IsGone, IsNewestKnown, IsNewest, IsCoveredWrite, IsCoveredMark, IsMark, floor_in, floor_after, floor_of}
use Rattle.pr_story.specs.Messages.{IsWithinWorld, IsHonestRow, IsHonest}
use Rattle.pr_story.specs.Turns.{IsSnapshot, IsSnapshotRow}
use Rattle.pr_story.proofs.Naming.{NamesGone, WasNamedGone, TellsMark, WasToldMark, known_gone_told, known_gone_where, known_mark_told, known_mark_where}
use Rattle.pr_story.proofs.Clocks.{before_not_before, neither_before}
use Rattle.pr_story.proofs.Basics.{clock_zero, clock_at, clock_is, vector_clock, accepted_reached}
use Rattle.pr_story.proofs.Kept.{covers_checkpoint}
use Rattle.pr_story.proofs.World.{World, IsOwn, told_written, told_covered, home_told, accepted_honest, accepted_told, honest_only}
use Rattle.pr_story.proofs.Known.{same_point}
use Rattle.pr_story.proofs.Making.{join_clock}

-- ---- the set that has a name

first_has : (sets : List (List Span)) (rest : List ℕ → Bool) (o : List ℕ) → (list_any (λ set. has set o) sets ≡ false → rest o ≡ true) → IsTrue (first_with sets rest o o)
first_has [] rest o none = none refl
first_has (set ∷ sets) rest o none =
    let by : (b : Bool) → has set o ≡ b → IsTrue (first_with (set ∷ sets) rest o o) = λ b. elim b as (λ (b : Bool). has set o ≡ b → IsTrue (first_with (set ∷ sets) rest o o)) [
      | true ↦ λ is. rw is is
      | false ↦ λ is. rw is (first_has sets rest o (λ later. none (rw is later)))
    ] in
    by (has set o) refl

pub set_has : (sets : List (List Span)) (o : List ℕ) → IsTrue (set_of sets o o)
set_has sets o = first_has sets (rest_of sets) o (λ none. rw none refl)

-- ---- floors

accepts_floor : (event : Event) (k : Kind) → Accepts event k → floor_after event ≡ floor_in k
accepts_floor (Accepted msg at) k a = ap (λ (j : Kind). floor_in j) a
accepts_floor _ k a = absurd a

pub accepted_floor : (j : List Entry) (k : Kind) (w : ℕ) → w < 32 → HasAccepted j k → clock_of (floor_in k) w ≤ clock_of (floor_of j) w
accepted_floor [] k w lt a = absurd a
accepted_floor (e ∷ j) k w lt a =
    let c : clock_of (floor_of (e ∷ j)) w ≡ max (clock_of (floor_of j) w) (clock_of (floor_after e.event) w) = join_clock (floor_of j) (floor_after e.event) w lt in
    elim a [
      | inl now ↦ let d : clock_of (floor_after e.event) w ≡ clock_of (floor_in k) w = ap (λ (u : List ℕ). clock_of u w) (accepts_floor e.event k now) in omega arith
      | inr old ↦ let b : clock_of (floor_in k) w ≤ clock_of (floor_of j) w = accepted_floor j k w lt old in omega arith
    ]

-- ---- named stamps

names_own : (event : Event) (x : WriteRec) → TellsOf event x → NamesStamp event x.name x.stamp
names_own (Wrote client write body after) x t = (ap (λ (y : WriteRec). y.name) t, ap (λ (y : WriteRec). y.stamp) t)
names_own (Accepted msg at) x t = inl (x, t, refl, refl)
names_own _ x t = absurd t

pub told_named : (j : List Entry) (x : WriteRec) → HeardOf j x → WasNamed j x.name x.stamp
told_named [] x t = absurd t
told_named (e ∷ j) x t = elim t [ inl now ↦ inl (names_own e.event x now) | inr old ↦ inr (told_named j x old) ]

names_row : (event : Event) (k : Kind) (row : Row) → Accepts event k → HasRow k row → NamesStamp event row.name row.newest
names_row (Accepted msg at) k row a r = inr (row, subst (λ (j : Kind). HasRow j row) (sym a) r, refl, refl)
names_row _ k row a r = absurd a

pub row_named : (j : List Entry) (k : Kind) (row : Row) → HasAccepted j k → HasRow k row → WasNamed j row.name row.newest
row_named [] k row a r = absurd a
row_named (e ∷ j) k row a r = elim a [ inl now ↦ inl (names_row e.event k row now r) | inr old ↦ inr (row_named j k row old r) ]

stamp_event : (event : Event) (o : List ℕ) (s : Point) → NamesStamp event o s → ((x : WriteRec) × TellsOf event x × (x.name ≡ o) × (x.stamp ≡ s)) ⊎ ((k : Kind) × (row : Row) × Accepts event k × HasRow k row × (row.name ≡ o) × (row.newest ≡ s))
stamp_event (Wrote client write body after) o s t = inl (write, refl, t.0, t.1)
stamp_event (Accepted msg at) o s t = elim t [
  | inl x ↦ inl (x.0, x.1, x.2, x.3)
  | inr r ↦ inr (msg.kind, r.0, refl, r.1, r.2, r.3)
]
stamp_event _ o s t = absurd t

-- by a told write, or by a row
named_how : (j : List Entry) (o : List ℕ) (s : Point) → WasNamed j o s → ((x : WriteRec) × HeardOf j x × (x.name ≡ o) × (x.stamp ≡ s)) ⊎ ((k : Kind) × (row : Row) × HasAccepted j k × HasRow k row × (row.name ≡ o) × (row.newest ≡ s))
named_how [] o s t = absurd t
named_how (e ∷ j) o s t = elim t [
  | inl now ↦ elim (stamp_event e.event o s now) [
    | inl x ↦ inl (x.0, inl x.1, x.2, x.3)
    | inr r ↦ inr (r.0, r.1, inl r.2, r.3, r.4, r.5)
  ]
  | inr old ↦ elim (named_how j o s old) [
    | inl x ↦ inl (x.0, inr x.1, x.2, x.3)
    | inr r ↦ inr (r.0, r.1, inr r.2, r.3, r.4, r.5)
  ]
]

-- ---- gone

stamp_gone : (event : Event) (o : List ℕ) (s : Point) → NamesStamp event o s → (gone : Bool) × NamesGone event o s gone
stamp_gone (Wrote client write body after) o s t = (write.gone, (t.0, t.1, refl))
stamp_gone (Accepted msg at) o s t = elim t [
  | inl x ↦ (x.0.gone, inl (x.0, x.1, x.2, x.3, refl))
  | inr r ↦ (r.0.gone, inr (r.0, r.1, r.2, r.3, refl))
]
stamp_gone _ o s t = absurd t

named_gone : (j : List Entry) (o : List ℕ) (s : Point) → WasNamed j o s → (gone : Bool) × WasNamedGone j o s gone
named_gone [] o s t = absurd t
named_gone (e ∷ j) o s t = elim t [
  | inl now ↦ let g : (gone : Bool) × NamesGone e.event o s gone = stamp_gone e.event o s now in (g.0, inl g.1)
  | inr old ↦ let g : (gone : Bool) × WasNamedGone j o s gone = named_gone j o s old in (g.0, inr g.1)
]

gone_event : (event : Event) (o : List ℕ) (s : Point) (gone : Bool) → NamesGone event o s gone → ((x : WriteRec) × TellsOf event x × (x.name ≡ o) × (x.stamp ≡ s) × (x.gone ≡ gone)) ⊎ ((k : Kind) × (row : Row) × Accepts event k × HasRow k row × (row.name ≡ o) × (row.newest ≡ s) × (row.gone ≡ gone))
gone_event (Wrote client write body after) o s gone t = inl (write, refl, t.0, t.1, t.2)
gone_event (Accepted msg at) o s gone t = elim t [
  | inl x ↦ inl (x.0, x.1, x.2, x.3, x.4)
  | inr r ↦ inr (msg.kind, r.0, refl, r.1, r.2, r.3, r.4)
]
gone_event _ o s gone t = absurd t

gone_how : (j : List Entry) (o : List ℕ) (s : Point) (gone : Bool) → WasNamedGone j o s gone → ((x : WriteRec) × HeardOf j x × (x.name ≡ o) × (x.stamp ≡ s) × (x.gone ≡ gone)) ⊎ ((k : Kind) × (row : Row) × HasAccepted j k × HasRow k row × (row.name ≡ o) × (row.newest ≡ s) × (row.gone ≡ gone))
gone_how [] o s gone t = absurd t
gone_how (e ∷ j) o s gone t = elim t [
  | inl now ↦ elim (gone_event e.event o s gone now) [
    | inl x ↦ inl (x.0, inl x.1, x.2, x.3, x.4)
    | inr r ↦ inr (r.0, r.1, inl r.2, r.3, r.4, r.5, r.6)
  ]
  | inr old ↦ elim (gone_how j o s gone old) [
    | inl x ↦ inl (x.0, inr x.1, x.2, x.3, x.4)
    | inr r ↦ inr (r.0, r.1, inr r.2, r.3, r.4, r.5, r.6)
  ]
]

-- ---- told marks

marks_own : (event : Event) (x : WriteRec) (mark : Mark) → TellsOf event x → x.stamp ≡ mark.stamp → x.prev ≡ mark.prev → TellsMark event x.name mark
marks_own (Wrote client write body after) x mark t s p = (ap (λ (y : WriteRec). y.name) t, ap (λ (y : WriteRec). y.stamp) t ∙ s, ap (λ (y : WriteRec). y.prev) t ∙ p)
marks_own (Accepted msg at) x mark t s p = inl (x, t, refl, s, p)
marks_own _ x mark t s p = absurd t

pub told_marked : (j : List Entry) (x : WriteRec) (mark : Mark) → HeardOf j x → x.stamp ≡ mark.stamp → x.prev ≡ mark.prev → WasToldMark j x.name mark
told_marked [] x mark t s p = absurd t
told_marked (e ∷ j) x mark t s p = elim t [ inl now ↦ inl (marks_own e.event x mark now s p) | inr old ↦ inr (told_marked j x mark old s p) ]

marks_row : (event : Event) (k : Kind) (row : Row) (mark : Mark) → Accepts event k → HasRow k row → Contains row.marks mark → TellsMark event row.name mark
marks_row (Accepted msg at) k row mark a r c = inr (row, subst (λ (j : Kind). HasRow j row) (sym a) r, refl, c)
marks_row _ k row mark a r c = absurd a

pub row_marked : (j : List Entry) (k : Kind) (row : Row) (mark : Mark) → HasAccepted j k → HasRow k row → Contains row.marks mark → WasToldMark j row.name mark
row_marked [] k row mark a r c = absurd a
row_marked (e ∷ j) k row mark a r c = elim a [ inl now ↦ inl (marks_row e.event k row mark now r c) | inr old ↦ inr (row_marked j k row mark old r c) ]

mark_event : (event : Event) (o : List ℕ) (mark : Mark) → TellsMark event o mark → ((x : WriteRec) × TellsOf event x × (x.name ≡ o) × (x.stamp ≡ mark.stamp) × (x.prev ≡ mark.prev)) ⊎ ((k : Kind) × (row : Row) × Accepts event k × HasRow k row × (row.name ≡ o) × Contains row.marks mark)
mark_event (Wrote client write body after) o mark t = inl (write, refl, t.0, t.1, t.2)
mark_event (Accepted msg at) o mark t = elim t [
  | inl x ↦ inl (x.0, x.1, x.2, x.3, x.4)
  | inr r ↦ inr (msg.kind, r.0, refl, r.1, r.2, r.3)
]
mark_event _ o mark t = absurd t

marked_how : (j : List Entry) (o : List ℕ) (mark : Mark) → WasToldMark j o mark → ((x : WriteRec) × HeardOf j x × (x.name ≡ o) × (x.stamp ≡ mark.stamp) × (x.prev ≡ mark.prev)) ⊎ ((k : Kind) × (row : Row) × HasAccepted j k × HasRow k row × (row.name ≡ o) × Contains row.marks mark)
marked_how [] o mark t = absurd t
marked_how (e ∷ j) o mark t = elim t [
  | inl now ↦ elim (mark_event e.event o mark now) [
    | inl x ↦ inl (x.0, inl x.1, x.2, x.3, x.4)
    | inr r ↦ inr (r.0, r.1, inl r.2, r.3, r.4, r.5)
  ]
  | inr old ↦ elim (marked_how j o mark old) [
    | inl x ↦ inl (x.0, inr x.1, x.2, x.3, x.4)
    | inr r ↦ inr (r.0, r.1, inr r.2, r.3, r.4, r.5)
  ]
]

-- ---- rows of honest checkpoints

row_honest : (h : List NodeEntry) (k : Kind) (row : Row) → IsHonest h k → HasRow k row → IsHonestRow h k (floor_in k) row
row_honest h (Precise from to write) row k r = absurd r
row_honest h (Imprecise from to target) row k r = absurd r
row_honest h (Checkpoint to target floor rows) row k r = k.1 row r
row_honest h (Body name stamp bytes) row k r = absurd r

-- an honest message that covers a write and whose target lacks its name is of it, or has a row for the name
tells_it : (h : List NodeEntry) (k : Kind) (x : WriteRec) (body dep : List ℕ) → IsHonest h k → WasWritten h x body dep → CoversPoint k x.stamp → has (target_of k) x.name ≡ false →
    IsOf k x ⊎ ((row : Row) × HasRow k row × (row.name ≡ x.name) × Covers (to_of k) x.stamp)
tells_it h (Precise from to write) x body dep k w c f = inl (honest_only h (Precise from to write) x body dep k refl w c f)
tells_it h (Imprecise from to target) x body dep k w c f = inl (honest_only h (Imprecise from to target) x body dep k refl w c f)
tells_it h (Checkpoint to target floor rows) x body dep k w c f =
    let cov : Covers to x.stamp = covers_checkpoint to target floor rows x.stamp c in
    let r : (row : Row) × Contains rows row × (row.name ≡ x.name) = k.2 x body dep w cov f in
    inr (r.0, r.1, r.2, cov)
tells_it h (Body name stamp bytes) x body dep k w c f =
    let z : ◌≡◌ {A = ℕ} (clock_of zero_vector x.stamp.node) 0 = clock_zero x.stamp.node in
    let a : clock_of zero_vector x.stamp.node < x.stamp.clock = c.0 in
    let b : x.stamp.clock ≤ clock_of zero_vector x.stamp.node = c.1 in
    absurd (omega arith)

module _ (h : List NodeEntry) (f : World h) (n : ℕ) where
  covers_vector : (x : WriteRec) (body dep : List ℕ) → WasWritten h x body dep → x.stamp.clock ≤ clock_at h n x.stamp.node → Covers (current_vector (journal h n)) x.stamp
  covers_vector x body dep w le =
      let i : IsOwn h x dep = f.is_own x body dep w in
      let e : clock_of (current_vector (journal h n)) x.stamp.node ≡ clock_at h n x.stamp.node = vector_clock h n x.stamp.node i.node in
      (i.one, omega arith)

  -- a told write is a covered one
  told_is_covered : (x : WriteRec) → HeardOf (journal h n) x → IsCoveredWrite h (current_vector (journal h n)) x.name x.stamp
  told_is_covered x t =
      let w : (body : List ℕ) × (dep : List ℕ) × WasWritten h x body dep = told_written h f n x t in
      (x, w.0, w.1, w.2, refl, refl, covers_vector x w.0 w.1 w.2 (told_covered h f n x t))

  -- what a checkpoint covers, its receiver covers
  upto_covered : (k : Kind) (o : List ℕ) (s : Point) → HasAccepted (journal h n) k → IsCoveredWrite h (to_of k) o s → IsCoveredWrite h (current_vector (journal h n)) o s
  upto_covered k o s a c =
      let e : c.0.stamp ≡ s = c.5 in
      let le : s.clock ≤ clock_of (to_of k) s.node = c.6.1 in
      let r : clock_of (to_of k) s.node ≤ current_clock (journal h n) s.node = accepted_reached (journal h n) k s.node a in
      let i : current_clock (journal h n) s.node ≡ clock_at h n s.node = clock_is h n s.node in
      let le2 : s.clock ≤ clock_at h n s.node = omega arith in
      (c.0, c.1, c.2, c.3, c.4, c.5, subst (λ (t : Point). Covers (current_vector (journal h n)) t) c.5 (covers_vector c.0 c.1 c.2 c.3 (subst (λ (t : Point). t.clock ≤ clock_at h n t.node) (sym c.5) le2)))

  -- each stamp that was named is a covered write's
  pub named_covered : (o : List ℕ) (s : Point) → WasNamed (journal h n) o s → IsCoveredWrite h (current_vector (journal h n)) o s
  named_covered o s t = elim (named_how (journal h n) o s t) [
    | inl x ↦ subst (λ (p : Point). IsCoveredWrite h (current_vector (journal h n)) o p) x.3 (subst (λ (q : List ℕ). IsCoveredWrite h (current_vector (journal h n)) q x.0.stamp) x.2 (told_is_covered x.0 x.1))
    | inr r ↦
        let i : IsHonestRow h r.0 (floor_in r.0) r.1 = row_honest h r.0 r.1 (accepted_honest h f n r.0 r.2) r.3 in
        upto_covered r.0 o s r.2 (subst (λ (p : Point). IsCoveredWrite h (to_of r.0) o p) r.5 (subst (λ (q : List ℕ). IsCoveredWrite h (to_of r.0) q r.1.newest) r.4 i.newest.0))
  ]

  -- whether a named write is gone, the world says too
  gone_written : (o : List ℕ) (s : Point) (gone : Bool) → WasNamedGone (journal h n) o s gone → IsGone h o s gone
  gone_written o s gone t = elim (gone_how (journal h n) o s gone t) [
    | inl x ↦ let w : (body : List ℕ) × (dep : List ℕ) × WasWritten h x.0 body dep = told_written h f n x.0 x.1 in (x.0, w.0, w.1, w.2, x.2, x.3, x.4)
    | inr r ↦
        let i : IsHonestRow h r.0 (floor_in r.0) r.1 = row_honest h r.0 r.1 (accepted_honest h f n r.0 r.2) r.3 in
        let g : IsGone h r.1.name r.1.newest r.1.gone = i.gone in
        (g.0, g.1, g.2, g.3, g.4 ∙ r.4, g.5 ∙ r.5, g.6 ∙ r.6)
  ]

  pub gone_one : (o : List ℕ) (s : Point) (a b : Bool) → IsGone h o s a → IsGone h o s b → a ≡ b
  gone_one o s a b p q =
      let st : p.0.stamp ≡ q.0.stamp = p.5 ∙ sym q.5 in
      let one : p.0 ≡ q.0 = (f.one p.0 q.0 p.1 q.1 p.2 q.2 p.3 q.3 (ap (λ (t : Point). t.clock) st) (ap (λ (t : Point). t.node) st)).0 in
      sym p.6 ∙ ap (λ (w : WriteRec). w.gone) one ∙ q.6

  pub gone_both : (o : List ℕ) (t : Point) (gone : Bool) → WasNamed (journal h n) o t → KnowsGone (journal h n) o t gone ↔ IsGone h o t gone
  gone_both o t gone named = (
    λ k. gone_written o t gone (known_gone_told (journal h n) o t gone k),
    λ g.
        let some : (is : Bool) × WasNamedGone (journal h n) o t is = named_gone (journal h n) o t named in
        let same : some.0 ≡ gone = gone_one o t some.0 gone (gone_written o t some.0 some.1) g in
        known_gone_where (journal h n) o t gone (λ other u. gone_one o t other gone (gone_written o t other u) g) (subst (λ (is : Bool). WasNamedGone (journal h n) o t is) same some.1),
  )

  -- a point that is told for a set with the name: it is n's own, or a message covers it whose target lacks the name
  told_for : (set : List ℕ → Bool) (o : List ℕ) (p : Point) → IsName o → IsTrue (set o) → IsTold n (journal h n) set p → (p.node ≡ n) ⊎ ((k : Kind) × HasAccepted (journal h n) k × CoversPoint k p × (has (target_of k) o ≡ false))
  told_for set o p name i t = elim t [
    | inl own ↦ inl own.0
    | inr a ↦
        let by : (b : Bool) → has (target_of a.0) o ≡ b → has (target_of a.0) o ≡ false = λ b. elim b as (λ (b : Bool). has (target_of a.0) o ≡ b → has (target_of a.0) o ≡ false) [
          | true ↦ λ is. absurd (a.2.1 (o, name, is, i))
          | false ↦ λ is. is
        ] in
        inr (a.0, a.1, a.2.0, by (has (target_of a.0) o) refl)
  ]

  module _ (set : List ℕ → Bool) (o : List ℕ) (in_set : IsTrue (set o)) (precise : IsPrecise n (journal h n) set) where
    -- a covered write was told, or a row has its name
    told_or_row : (x : WriteRec) (body dep : List ℕ) → WasWritten h x body dep → x.name ≡ o → Covers (current_vector (journal h n)) x.stamp →
        HeardOf (journal h n) x ⊎ ((k : Kind) × (row : Row) × HasAccepted (journal h n) k × HasRow k row × (row.name ≡ x.name) × Covers (to_of k) x.stamp)
    told_or_row x body dep w name c = elim (told_for set o x.stamp (subst (λ (q : List ℕ). IsName q) name (f.is_own x body dep w).name) in_set (precise x.stamp c)) [
      | inl own ↦ inl (subst (λ (m : ℕ). HeardOf (journal h m) x) own (home_told h f x body dep w))
      | inr a ↦ elim (tells_it h a.0 x body dep (accepted_honest h f n a.0 a.1) w a.2 (subst (λ (q : List ℕ). has (target_of a.0) q ≡ false) (sym name) a.3)) [
        | inl is ↦ inl (accepted_told (journal h n) a.0 x a.1 is)
        | inr r ↦ inr (a.0, r.0, a.1, r.1, r.2, r.3)
      ]
    ]

    -- no covered write is newer than all that was named
    covered_named : (s : Point) → IsCoveredWrite h (current_vector (journal h n)) o s → (t : Point) × WasNamed (journal h n) o t × (Before t s → ⊥)
    covered_named s c =
        let cov : Covers (current_vector (journal h n)) c.0.stamp = subst (λ (p : Point). Covers (current_vector (journal h n)) p) (sym c.5) c.6 in
        elim (told_or_row c.0 c.1 c.2 c.3 c.4 cov) [
          | inl t ↦ (s, subst (λ (p : Point). WasNamed (journal h n) o p) c.5 (subst (λ (q : List ℕ). WasNamed (journal h n) q c.0.stamp) c.4 (told_named (journal h n) c.0 t)), λ b. omega arith)
          | inr r ↦
              let i : IsHonestRow h r.0 (floor_in r.0) r.1 = row_honest h r.0 r.1 (accepted_honest h f n r.0 r.2) r.3 in (
                r.1.newest,
                subst (λ (q : List ℕ). WasNamed (journal h n) q r.1.newest) (r.4 ∙ c.4) (row_named (journal h n) r.0 r.1 r.2 r.3),
                λ b. i.newest.1 s (c.0, c.1, c.2, c.3, sym r.4, c.5, subst (λ (p : Point). Covers (to_of r.0) p) c.5 r.5) b,
              )
        ]

    pub newest_both : (t : Option Point) → IsNewestKnown (journal h n) o t ↔ IsNewest h (current_vector (journal h n)) o t
    newest_both None = (
      λ known s c. let a : (t : Point) × WasNamed (journal h n) o t × (Before t s → ⊥) = covered_named s c in known a.0 a.1,
      λ none s t. none s (named_covered o s t),
    )
    newest_both (Some t) = (
      λ known. (named_covered o t known.0, λ s c b. let a : (r : Point) × WasNamed (journal h n) o r × (Before r s → ⊥) = covered_named s c in known.1 a.0 a.1 (before_not_before t s a.0 b a.2)),
      λ newest.
          let a : (r : Point) × WasNamed (journal h n) o r × (Before r t → ⊥) = covered_named t newest.0 in
          let same : (a.0.clock ≡ t.clock) × (a.0.node ≡ t.node) = neither_before a.0 t a.2 (newest.1 a.0 (named_covered o a.0 a.1)) in
          (subst (λ (p : Point). WasNamed (journal h n) o p) (same_point a.0 t same.0 same.1) a.1, λ s c. newest.1 s (named_covered o s c)),
    )

  -- ---- marks

  -- each told mark is a covered write's
  marked_written : (o : List ℕ) (mark : Mark) → WasToldMark (journal h n) o mark →
      ((x : WriteRec) × (body : List ℕ) × (dep : List ℕ) × WasWritten h x body dep × (x.name ≡ o) × (x.stamp ≡ mark.stamp) × (x.prev ≡ mark.prev)) × Covers (current_vector (journal h n)) mark.stamp
  marked_written o mark t = elim (marked_how (journal h n) o mark t) [
    | inl x ↦
        let w : (body : List ℕ) × (dep : List ℕ) × WasWritten h x.0 body dep = told_written h f n x.0 x.1 in
        ((x.0, w.0, w.1, w.2, x.2, x.3, x.4), subst (λ (p : Point). Covers (current_vector (journal h n)) p) x.3 (covers_vector x.0 w.0 w.1 w.2 (told_covered h f n x.0 x.1)))
    | inr r ↦
        let i : IsHonestRow h r.0 (floor_in r.0) r.1 = row_honest h r.0 r.1 (accepted_honest h f n r.0 r.2) r.3 in
        let c : IsCoveredMark h (to_of r.0) (floor_in r.0) r.1.name mark = (i.marks mark).0 r.5 in
        let u : IsCoveredWrite h (current_vector (journal h n)) r.1.name mark.stamp = upto_covered r.0 r.1.name mark.stamp r.2 (c.0.0, c.0.1, c.0.2, c.0.3, c.0.4, c.0.5, c.1) in
        ((c.0.0, c.0.1, c.0.2, c.0.3, c.0.4 ∙ r.4, c.0.5, c.0.6), u.6)
  ]

  same_mark : (a b : Mark) → a.stamp ≡ b.stamp → a.prev ≡ b.prev → a ≡ b
  same_mark a b s p = ap (λ (t : Point). let m : Mark = record { stamp = t; prev = a.prev } in m) s ∙ ap (λ (q : Option Point). let m : Mark = record { stamp = b.stamp; prev = q } in m) p

  marks_one : (o : List ℕ) (a b : Mark) → WasToldMark (journal h n) o a → WasToldMark (journal h n) o b → a.stamp ≡ b.stamp → a ≡ b
  marks_one o a b s t e =
      let x = marked_written o a s in
      let y = marked_written o b t in
      let st : x.0.0.stamp ≡ y.0.0.stamp = x.0.5 ∙ e ∙ sym y.0.5 in
      let one : x.0.0 ≡ y.0.0 = (f.one x.0.0 y.0.0 x.0.1 y.0.1 x.0.2 y.0.2 x.0.3 y.0.3 (ap (λ (p : Point). p.clock) st) (ap (λ (p : Point). p.node) st)).0 in
      same_mark a b e (sym x.0.6 ∙ ap (λ (w : WriteRec). w.prev) one ∙ y.0.6)

  module _ (set : List ℕ → Bool) (o : List ℕ) (in_set : IsTrue (set o)) (precise : IsPrecise n (journal h n) set) where
    covered_marked : (mark : Mark) → IsCoveredMark h (current_vector (journal h n)) (floor_of (journal h n)) o mark → WasToldMark (journal h n) o mark
    covered_marked mark c =
        let x : WriteRec = c.0.0 in
        let i : IsOwn h c.0.0 c.0.2 = f.is_own c.0.0 c.0.1 c.0.2 c.0.3 in
        let cov : Covers (current_vector (journal h n)) c.0.0.stamp = subst (λ (p : Point). Covers (current_vector (journal h n)) p) (sym c.0.5) c.1 in
        elim (told_or_row set o in_set precise c.0.0 c.0.1 c.0.2 c.0.3 c.0.4 cov) [
          | inl t ↦ subst (λ (q : List ℕ). WasToldMark (journal h n) q mark) c.0.4 (told_marked (journal h n) c.0.0 mark t c.0.5 c.0.6)
          | inr r ↦
              let hr : IsHonestRow h r.0 (floor_in r.0) r.1 = row_honest h r.0 r.1 (accepted_honest h f n r.0 r.2) r.3 in
              let node : mark.stamp.node < 32 = subst (λ (p : Point). p.node < 32) c.0.5 i.node in
              let le : clock_of (floor_in r.0) mark.stamp.node ≤ clock_of (floor_of (journal h n)) mark.stamp.node = accepted_floor (journal h n) r.0 mark.stamp.node node r.2 in
              let above : ¬ Covers (floor_in r.0) mark.stamp = λ u. let b : mark.stamp.clock ≤ clock_of (floor_in r.0) mark.stamp.node = u.1 in c.2 (u.0, omega arith) in
              let m : Contains r.1.marks mark = (hr.marks mark).1 ((c.0.0, c.0.1, c.0.2, c.0.3, sym r.4, c.0.5, c.0.6), subst (λ (p : Point). Covers (to_of r.0) p) c.0.5 r.5, above) in
              subst (λ (q : List ℕ). WasToldMark (journal h n) q mark) (r.4 ∙ c.0.4) (row_marked (journal h n) r.0 r.1 mark r.2 r.3 m)
        ]

    pub marks_both : (mark : Mark) → IsMark (journal h n) o mark ↔ IsCoveredMark h (current_vector (journal h n)) (floor_of (journal h n)) o mark
    marks_both mark = (
      λ k. let w = marked_written o mark (known_mark_told (journal h n) o mark k.0) in (w.0, w.1, k.1),
      λ c. let t : WasToldMark (journal h n) o mark = covered_marked mark c in (known_mark_where (journal h n) o mark (λ other u e. marks_one o other mark u t e) t, c.2),
    )

-- ---- checkpoints

pub snapshot_honest : (sets : List (List Span)) (h : List NodeEntry) → World h → (m : ℕ) (names : List Span) (k : Kind) → IsSnapshot sets m (journal h m) names k → IsHonest h k
snapshot_honest sets h f m names (Precise from to write) s = absurd s
snapshot_honest sets h f m names (Imprecise from to target) s = absurd s
snapshot_honest sets h f m names (Body name stamp bytes) s = absurd s
snapshot_honest sets h f m names (Checkpoint to target floor rows) s =
    let v : List ℕ = current_vector (journal h m) in
    let fl : List ℕ = floor_of (journal h m) in
    let precise : (o : List ℕ) → IsName o → has target o ≡ false → IsPrecise m (journal h m) (set_of sets o) = λ o name lacks. (s.2.no_others o name lacks).1 in
    let within : IsWithinWorld h (Checkpoint (current_vector (journal h m)) target (floor_of (journal h m)) rows) = record {
      reached = λ w lt past. let e : clock_of (current_vector (journal h m)) w ≡ clock_at h m w = vector_clock h m w lt in let o : clock_at h m w ≤ clock_at h w w = f.own m w lt in let i : current_clock (journal h w) w ≡ clock_at h w w = clock_is h w w in omega arith;
      causal = λ x body dep wr c w lt.
          let i : IsOwn h x dep = f.is_own x body dep wr in
          let e : clock_of (current_vector (journal h m)) x.stamp.node ≡ clock_at h m x.stamp.node = vector_clock h m x.stamp.node i.node in
          let g : clock_of (current_vector (journal h m)) w ≡ clock_at h m w = vector_clock h m w lt in
          let le : x.stamp.clock ≤ clock_of (current_vector (journal h m)) x.stamp.node = c.1 in
          let d : clock_of dep w ≤ clock_at h m w = f.closed m x body dep wr (omega arith) w lt in
          omega arith;
    } in
    let row_of : (row : Row) → Contains rows row → IsHonestRow h (Checkpoint (current_vector (journal h m)) target (floor_of (journal h m)) rows) (floor_of (journal h m)) row = λ row r.
    let sr : IsSnapshotRow (journal h m) target row = s.3 row r in
    let c : IsCoveredWrite h (current_vector (journal h m)) row.name row.newest = named_covered h f m row.name row.newest sr.newest.0 in
    let name : IsName row.name = subst (λ (q : List ℕ). IsName q) c.4 (f.is_own c.0 c.1 c.2 c.3).name in
    let p : IsPrecise m (journal h m) (set_of sets row.name) = precise row.name name sr.outside in
    record {
      outside = sr.outside;
      newest = (newest_both h f m (set_of sets row.name) row.name (set_has sets row.name) p (Some row.newest)).0 sr.newest;
      gone = (gone_both h f m row.name row.newest row.gone sr.newest.0).0 sr.gone;
      marks = λ mark.
          let both = marks_both h f m (set_of sets row.name) row.name (set_has sets row.name) p mark in
          (λ i. both.0 ((sr.marks mark).0 i), λ c. (sr.marks mark).1 (both.1 c));
    } in
    let at_v : IsHonest h (Checkpoint (current_vector (journal h m)) target (floor_of (journal h m)) rows) = (
      within,
      row_of,
      λ x body dep w c lacks.
          let name : IsName x.name = (f.is_own x body dep w).name in
          let n : (t : Point) × WasNamed (journal h m) x.name t × (Before t x.stamp → ⊥) = covered_named h f m (set_of sets x.name) x.name (set_has sets x.name) (precise x.name name lacks) x.stamp (x, body, dep, w, refl, refl, c) in
          s.4 x.name n.0 name lacks n.1,
    ) in
    subst (λ (u : List ℕ). IsHonest h (Checkpoint u target floor rows)) (sym s.0) (subst (λ (u : List ℕ). IsHonest h (Checkpoint (current_vector (journal h m)) target u rows)) (sym s.1) at_v)
