-- A stream sends few invalidations while its source hears nothing new.
use Rattle.std.proofs.Common.{◌≡◌, ℕ, ◌<◌, ◌≤◌, ◌+◌, ◌-◌, ◌*◌, ◌⊎◌, inl, inr, List, [], ◌∷◌, ◌++◌, refl, sym, ◌∙◌, ap, subst, arith, max, cond, nat_eq, length, suc, zero, get_or}
use Rattle.std.specs.Prelude.{false, true, Bool, min, nat_lt, ◌&&◌}
use Rattle.std.proofs.lemmas.Bool.Decides.{nat_tests, Decides-eqb}
use Rattle.pr_stamps.specs.Point.{Point}
use Rattle.pr_vectors.specs.Vector.{clock_of, vector_of, Covers, Le, join_of, last_of, cut_of, Between, below_of, zero_vector}
use Rattle.pr_vectors.proofs.Vectors.{clock_of-vector_of, length-vector_of}
use Rattle.pr_names.specs.Span.{Span}
use Rattle.pr_inval.specs.declared.kind.Kind.{Kind}
use Rattle.pr_inval.specs.declared.kind.Kind.TheVariants.{Precise, Imprecise, Checkpoint, Body}
use Rattle.pr_inval.specs.declared.write_rec.WriteRec.{WriteRec}
use Rattle.pr_story.specs.declared.entry.Entry.{Entry}
use Rattle.pr_story.specs.declared.event.Event.{Event}
use Rattle.pr_story.specs.declared.event.Event.TheVariants.{Wrote, Attached, Sent, Accepted}
use Rattle.pr_inval.specs.Points.{to_of, is_invalidation}
use Rattle.pr_story.specs.History.{Plan, NodeEntry, journal, WasWritten, clock_brought, current_clock, current_vector}
use Rattle.pr_story.specs.Knowledge.{TellsOf, WasTold, Knows}
use Rattle.pr_story.specs.Turns.{standing, Attaches, position, IsWriteToSend, IsNextWrite, IsTurn, IsSnapshot, SendTurn}
use Rattle.pr_story.specs.Lawful.{IsLawful, Valid}
use Rattle.pr_story.specs.Economy.{IsNoNews, IsQuiet, counts_invalidation, invalidations, IsAmong}
use Rattle.pr_story.proofs.Clocks.{neither_before, at_last}
use Rattle.pr_story.proofs.Basics.{clock_zero, clock_at}
use Rattle.pr_story.proofs.World.{World, told_written, told_covered, told_one}
use Rattle.pr_story.proofs.Known.{known_told, same_point}
use Rattle.pr_story.proofs.Making.{join_clock, below_clock, cut_clock}
use Rattle.pr_story.proofs.Steps.{valid_world, entry_at}
use Rattle.pr_story.specs.Statements.{FewInvalidations}

-- ---- lists

-- the list without one item that it has
without : (y : WriteRec) (ws : List WriteRec) → IsAmong y ws → (rest : List WriteRec) × (length rest + 1 ≡ length ws) × ((x : WriteRec) → IsAmong x ws → (x ≡ y → ⊥) → IsAmong x rest)
without y [] i = absurd i
without y (w ∷ ws) i = elim i [
  | inl is ↦ (ws, omega arith, λ x a no_one. elim a [ inl e ↦ absurd (no_one (sym e ∙ is)) | inr later ↦ later ])
  | inr later ↦
      let r : (rest : List WriteRec) × (length rest + 1 ≡ length ws) × ((x : WriteRec) → IsAmong x ws → (x ≡ y → ⊥) → IsAmong x rest) = without y ws later in
      let n : length r.0 + 1 ≡ length ws = r.1 in
      (w ∷ r.0, omega arith, λ x a no_one. elim a [ inl e ↦ inl e | inr b ↦ inr (r.2 x b no_one) ])
]

-- ---- what an event without news leaves

no_told : (event : Event) (x : WriteRec) → IsNoNews event → TellsOf event x → ⊥
no_told (Wrote client write body after) x q t = q
no_told (Accepted msg at) x q t = q
no_told _ x q t = t

no_clock : (event : Event) (w : ℕ) → IsNoNews event → clock_brought event w ≡ 0
no_clock (Wrote client write body after) w q = absurd q
no_clock (Accepted msg at) w q = absurd q
no_clock _ w q = refl

known_cond : (b : Bool) (e : Entry) (j : List Entry) (x : WriteRec) → (b ≡ true → IsNoNews e.event) → Knows (cond b (e ∷ j) j) x → Knows j x
known_cond true e j x q k = elim k [ inl old ↦ old | inr now ↦ absurd (no_told e.event x (q refl) now.0) ]
known_cond false e j x q k = k

known_more : (b : Bool) (e : Entry) (j : List Entry) (x : WriteRec) → Knows j x → Knows (cond b (e ∷ j) j) x
known_more true e j x k = inl k
known_more false e j x k = k

clock_cond : (b : Bool) (e : Entry) (j : List Entry) (w : ℕ) → (b ≡ true → IsNoNews e.event) → current_clock (cond b (e ∷ j) j) w ≡ current_clock j w
clock_cond true e j w q = let z : clock_brought e.event w ≡ 0 = no_clock e.event w (q refl) in omega arith
clock_cond false e j w q = refl

-- ---- how much there is still to send

-- at most b more invalidations follow
record Owes (j : List Entry) (names : List Span) (p : List ℕ) (b : ℕ) : Type 0 where
  left : List WriteRec
  all : (x : WriteRec) → IsWriteToSend j names p x → IsAmong x left
  bound : Le (current_vector j) p
      ⊎ ((2 * length left + 1 ≤ b)
      ⊎ ((t : WriteRec) × IsNextWrite j names p t × ((v : ℕ) → v < 32 → clock_of (below_of (current_vector j) t.stamp) v ≤ clock_of p v) × (2 * length left ≤ b)))

module _ (plan : Plan) (g : List NodeEntry) (f : World g) (m : ℕ) (names : List Span) where
  known_node : (x : WriteRec) → Knows (journal g m) x → x.stamp.node < 32
  known_node x k = let w : (body : List ℕ) × (dep : List ℕ) × WasWritten g x body dep = told_written g f m x (known_told (journal g m) x k) in (f.is_own x w.0 w.1 w.2).node

  -- another journal that knows the same, and a position with the same clocks
  module _ (j : List Entry) (less : (x : WriteRec) → Knows j x → Knows (journal g m) x) (more : (x : WriteRec) → Knows (journal g m) x → Knows j x)
      (clocks : (w : ℕ) → current_clock j w ≡ current_clock (journal g m) w) where
    vector_same : (v : ℕ) → v < 32 → clock_of (current_vector j) v ≡ clock_of (current_vector (journal g m)) v
    vector_same v lt = clock_of-vector_of (current_clock j) v lt ∙ clocks v ∙ sym (clock_of-vector_of (current_clock (journal g m)) v lt)

    below_same : (t : Point) (v : ℕ) → v < 32 → clock_of (below_of (current_vector j) t) v ≡ clock_of (below_of (current_vector (journal g m)) t) v
    below_same t v lt =
        clock_of-vector_of (λ k. min (clock_of (current_vector j) k) (cond (nat_lt k t.node) t.clock (t.clock - 1))) v lt
        ∙ ap (λ (k : ℕ). min k (cond (nat_lt v t.node) t.clock (t.clock - 1))) (vector_same v lt)
        ∙ sym (clock_of-vector_of (λ k. min (clock_of (current_vector (journal g m)) k) (cond (nat_lt k t.node) t.clock (t.clock - 1))) v lt)

    due_less : (p q : List ℕ) → ((v : ℕ) → v < 32 → clock_of p v ≤ clock_of q v) → (x : WriteRec) → IsWriteToSend j names q x → IsWriteToSend (journal g m) names p x
    due_less p q le x d = (less x d.0, d.1, λ c. let a : clock_of p x.stamp.node ≤ clock_of q x.stamp.node = le x.stamp.node (known_node x (less x d.0)) in let b : x.stamp.clock ≤ clock_of p x.stamp.node = c.1 in d.2 (c.0, omega arith))

    due_more : (p q : List ℕ) → ((v : ℕ) → v < 32 → clock_of q v ≤ clock_of p v) → (x : WriteRec) → IsWriteToSend (journal g m) names p x → IsWriteToSend j names q x
    due_more p q le x d = (more x d.0, d.1, λ c. let a : clock_of q x.stamp.node ≤ clock_of p x.stamp.node = le x.stamp.node (known_node x d.0) in let b : x.stamp.clock ≤ clock_of q x.stamp.node = c.1 in d.2 (c.0, omega arith))

    -- nothing changes where the position keeps its clocks
    owes_same : (p q : List ℕ) (b : ℕ) → ((v : ℕ) → v < 32 → clock_of q v ≡ clock_of p v) → Owes (journal g m) names p b → Owes j names q b
    owes_same p q b same o = record {
      left = o.left;
      all = λ x d. o.all x (due_less p q (λ v lt. let e : clock_of q v ≡ clock_of p v = same v lt in omega arith) x d);
      bound = elim o.bound [
        | inl done ↦ inl (λ v lt. let a : clock_of (current_vector (journal g m)) v ≤ clock_of p v = done v lt in let e : clock_of q v ≡ clock_of p v = same v lt in let c = vector_same v lt in omega arith)
        | inr rest ↦ elim rest [
          | inl many ↦ inr (inl many)
          | inr ready ↦ inr (inr (
            ready.0,
            (due_more p q (λ v lt. let e : clock_of q v ≡ clock_of p v = same v lt in omega arith) ready.0 ready.1.0, λ y d. ready.1.1 y (due_less p q (λ v lt. let e : clock_of q v ≡ clock_of p v = same v lt in omega arith) y d)),
            λ v lt. let a : clock_of (below_of (current_vector (journal g m)) ready.0.stamp) v ≤ clock_of p v = ready.2 v lt in let e : clock_of q v ≡ clock_of p v = same v lt in let c = below_same ready.0.stamp v lt in omega arith,
            ready.3,
          ))
        ]
      ];
    }

    -- where the position rises to the vector, nothing is left
    owes_done : (p q : List ℕ) (b c : ℕ) → ((v : ℕ) → v < 32 → clock_of q v ≡ max (clock_of p v) (clock_of (current_vector (journal g m)) v)) → Owes (journal g m) names p b → Owes j names q c
    owes_done p q b c up o = record {
      left = o.left;
      all = λ x d. o.all x (due_less p q (λ v lt. let e : clock_of q v ≡ max (clock_of p v) (clock_of (current_vector (journal g m)) v) = up v lt in omega arith) x d);
      bound = inl (λ v lt. let e : clock_of q v ≡ max (clock_of p v) (clock_of (current_vector (journal g m)) v) = up v lt in let s = vector_same v lt in omega arith);
    }

    -- an imprecise message up to the next write
    owes_ready : (p q : List ℕ) (b : ℕ) (t : WriteRec) → IsNextWrite (journal g m) names p t
        → ((v : ℕ) → v < 32 → clock_of q v ≡ max (clock_of p v) (clock_of (below_of (current_vector (journal g m)) t.stamp) v))
        → (o : Owes (journal g m) names p b) → 2 * length o.left ≤ b - 1 → Owes j names q (b - 1)
    owes_ready p q b t next up o le =
        let grow : (v : ℕ) → v < 32 → clock_of p v ≤ clock_of q v = λ v lt. let e : clock_of q v ≡ max (clock_of p v) (clock_of (below_of (current_vector (journal g m)) t.stamp) v) = up v lt in omega arith in
        let still : IsWriteToSend j names q t = (
          more t next.0.0,
          next.0.1,
          λ c.
              let n : t.stamp.node < 32 = known_node t next.0.0 in
              let e : clock_of q t.stamp.node ≡ max (clock_of p t.stamp.node) (clock_of (below_of (current_vector (journal g m)) t.stamp) t.stamp.node) = up t.stamp.node n in
              let d : clock_of (below_of (current_vector (journal g m)) t.stamp) t.stamp.node ≡ min (clock_at g m t.stamp.node) (cond (nat_lt t.stamp.node t.stamp.node) t.stamp.clock (t.stamp.clock - 1)) = below_clock g f m t.stamp t.stamp.node n in
              let under : cond (nat_lt t.stamp.node t.stamp.node) t.stamp.clock (t.stamp.clock - 1) ≡ t.stamp.clock - 1 = grind (arith, nat_tests) in
              let one : 1 ≤ t.stamp.clock = c.0 in
              let cov : t.stamp.clock ≤ clock_of q t.stamp.node = c.1 in
              next.0.2 (c.0, omega arith),
        ) in
        record {
          left = o.left;
          all = λ x d. o.all x (due_less p q grow x d);
          bound = inr (inr (
            t,
            (still, λ y d. next.1 y (due_less p q grow y d)),
            λ v lt. let e : clock_of q v ≡ max (clock_of p v) (clock_of (below_of (current_vector (journal g m)) t.stamp) v) = up v lt in let c = below_same t.stamp v lt in omega arith,
            le,
          ));
        }

    -- the precise message of the next write
    owes_less : (p q : List ℕ) (b : ℕ) (t : WriteRec) → IsNextWrite (journal g m) names p t
        → ((v : ℕ) → v < 32 → clock_of q v ≡ max (clock_of p v) (clock_of (cut_of (current_vector (journal g m)) t.stamp) v))
        → (o : Owes (journal g m) names p b) → 2 * length o.left ≤ b → Owes j names q (b - 1)
    owes_less p q b t next up o le =
        let grow : (v : ℕ) → v < 32 → clock_of p v ≤ clock_of q v = λ v lt. let e : clock_of q v ≡ max (clock_of p v) (clock_of (cut_of (current_vector (journal g m)) t.stamp) v) = up v lt in omega arith in
        let r : (rest : List WriteRec) × (length rest + 1 ≡ length o.left) × ((x : WriteRec) → IsAmong x o.left → (x ≡ t → ⊥) → IsAmong x rest) = without t o.left (o.all t next.0) in
        let n : t.stamp.node < 32 = known_node t next.0.0 in
        let told : WasTold (journal g m) t = known_told (journal g m) t next.0.0 in
        let reach : t.stamp.clock ≤ clock_at g m t.stamp.node = told_covered g f m t told in
        let w : (body : List ℕ) × (dep : List ℕ) × WasWritten g t body dep = told_written g f m t told in
        let one : 1 ≤ t.stamp.clock = (f.is_own t w.0 w.1 w.2).one in
        let covered : t.stamp.clock ≤ clock_of q t.stamp.node =
        let e : clock_of q t.stamp.node ≡ max (clock_of p t.stamp.node) (clock_of (cut_of (current_vector (journal g m)) t.stamp) t.stamp.node) = up t.stamp.node n in
        let d : clock_of (cut_of (current_vector (journal g m)) t.stamp) t.stamp.node ≡ min (clock_at g m t.stamp.node) (last_of t.stamp t.stamp.node) = cut_clock g f m t.stamp t.stamp.node n in
        let l : t.stamp.clock ≤ last_of t.stamp t.stamp.node = at_last t.stamp in
        omega arith in
        let size : length r.0 + 1 ≡ length o.left = r.1 in
        record {
          left = r.0;
          all = λ x d. r.2 x (o.all x (due_less p q grow x d)) (λ is. d.2 (subst (λ (y : WriteRec). Covers q y.stamp) (sym is) (one, covered)));
          bound = inr (inl (omega arith));
        }

    next_same : (p : List ℕ) (x y : WriteRec) → IsNextWrite (journal g m) names p x → IsNextWrite (journal g m) names p y → x ≡ y
    next_same p x y a b =
        let e : (x.stamp.clock ≡ y.stamp.clock) × (x.stamp.node ≡ y.stamp.node) = neither_before x.stamp y.stamp (b.1 x a.0) (a.1 y b.0) in
        told_one g f m m x y (known_told (journal g m) x a.0.0) (known_told (journal g m) y b.0.0) (same_point x.stamp y.stamp e.0 e.1)

-- nothing lies between a position and itself joined with less
none_between : (p w : List ℕ) (s : Point) → ((v : ℕ) → v < 32 → clock_of w v ≤ clock_of p v) → s.node < 32 → Between p (join_of p w) s → ⊥
none_between p w s le lt b =
    let j : clock_of (join_of p w) s.node ≡ max (clock_of p s.node) (clock_of w s.node) = join_clock p w s.node lt in
    let a : clock_of w s.node ≤ clock_of p s.node = le s.node lt in
    let past : clock_of p s.node < s.clock = b.0 in
    let upto : s.clock ≤ clock_of (join_of p w) s.node = b.1 in
    omega arith

-- a vector has no clock past the nodes
past_end : (xs : List ℕ) (n : ℕ) → length xs ≤ n → ◌≡◌ {A = ℕ} (get_or xs n 0) 0
past_end [] n le = refl
past_end (x ∷ xs) zero le = absurd (omega arith)
past_end (x ∷ xs) (suc n) le = past_end xs n (omega arith)

beyond : (fn : ℕ → ℕ) (n : ℕ) → 32 ≤ n → ◌≡◌ {A = ℕ} (clock_of (vector_of fn) n) 0
beyond fn n le = let l : length (vector_of fn) ≡ 32 = length-vector_of fn in past_end (vector_of fn) n (omega arith)

side : (n : ℕ) → (n < 32) ⊎ (32 ≤ n)
side n = grind arith

none_at : (p w : List ℕ) (q : Point) → ((v : ℕ) → v < 32 → clock_of w v ≤ clock_of p v) → Between p (join_of p w) q → ⊥
none_at p w q le b = elim (side q.node) [
  | inl lt ↦ none_between p w q le lt b
  | inr out ↦
      let z : ◌≡◌ {A = ℕ} (clock_of (join_of p w) q.node) 0 = beyond (λ n. max (clock_of p n) (clock_of w n)) q.node out in
      let past : clock_of p q.node < q.clock = b.0 in
      let upto : q.clock ≤ clock_of (join_of p w) q.node = b.1 in
      omega arith
]

joined : (p to w : List ℕ) → to ≡ join_of p w → (v : ℕ) → v < 32 → clock_of (join_of p to) v ≡ max (clock_of p v) (clock_of w v)
joined p to w is v lt =
    let a : clock_of (join_of p to) v ≡ max (clock_of p v) (clock_of to v) = join_clock p to v lt in
    let b : clock_of to v ≡ clock_of (join_of p w) v = ap (λ (u : List ℕ). clock_of u v) is in
    let c : clock_of (join_of p w) v ≡ max (clock_of p v) (clock_of w v) = join_clock p w v lt in
    omega arith

module _ (plan : Plan) (g : List NodeEntry) (f : World g) (s m : ℕ) (is_source : m ≡ (plan.stream s).source) (j : List Entry)
    (less : (x : WriteRec) → Knows j x → Knows (journal g m) x) (more : (x : WriteRec) → Knows (journal g m) x → Knows j x)
    (clocks : (w : ℕ) → current_clock j w ≡ current_clock (journal g m) w) where
  send_step : (b : ℕ) (k : Kind) → Owes (journal g m) (plan.stream s).names (position g s) b
      → IsTurn m (journal g m) (standing plan g s) (SendTurn k) ⊎ IsSnapshot (plan.sets m) m (journal g m) (plan.stream s).names k
      → (c : ℕ) × Owes j (plan.stream s).names (join_of (position g s) (to_of k)) c × ((i : ℕ) → cond (is_invalidation k) (i + 1) i + c ≤ i + b)
  send_step b (Body o t bytes) owes u = (
    b,
    owes_same plan g f m (plan.stream s).names j less more clocks (position g s) (join_of (position g s) zero_vector) b
        (λ v lt. let e : clock_of (join_of (position g s) zero_vector) v ≡ max (clock_of (position g s) v) (clock_of zero_vector v) = join_clock (position g s) zero_vector v lt in let z : ◌≡◌ {A = ℕ} (clock_of zero_vector v) 0 = clock_zero v in omega arith) owes,
    λ i. omega arith,
  )
  send_step b (Checkpoint to target floor rows) owes u = elim u [
    | inl turn ↦ absurd turn
    | inr snap ↦ (
      b,
      owes_done plan g f m (plan.stream s).names j less more clocks (position g s) (join_of (position g s) to) b b
          (λ v lt. join_clock (position g s) to v lt ∙ ap (λ (w : List ℕ). max (clock_of (position g s) v) (clock_of w v)) snap.0) owes,
      λ i. omega arith,
    )
  ]
  send_step b (Imprecise from to target) owes u = elim u [
    | inr snap ↦ absurd snap
    | inl turn ↦ elim turn.4 [
      | inl none ↦ elim owes.bound [
        | inl done ↦ absurd (turn.1 done)
        | inr rest ↦ elim rest [
          | inl many ↦ (
            b - 1,
            owes_done plan g f m (plan.stream s).names j less more clocks (position g s) (join_of (position g s) to) b (b - 1)
                (λ v lt. joined (position g s) to (current_vector (journal g m)) none.1 v lt) owes,
            λ i. omega arith,
          )
          | inr ready ↦ absurd (none.0 ready.0 ready.1.0)
        ]
      ]
      | inr next ↦ elim owes.bound [
        | inl done ↦ absurd (turn.1 done)
        | inr rest ↦ elim rest [
          | inl many ↦ (
            b - 1,
            owes_ready plan g f m (plan.stream s).names j less more clocks (position g s) (join_of (position g s) to) b next.0 next.1
                (λ v lt. joined (position g s) to (below_of (current_vector (journal g m)) next.0.stamp) next.2 v lt) owes (omega arith),
            λ i. omega arith,
          )
          | inr ready ↦ absurd (
              let same : ready.0 ≡ next.0 = next_same plan g f m (plan.stream s).names j less more clocks (position g s) ready.0 next.0 ready.1 next.1 in
              let under : (v : ℕ) → v < 32 → clock_of (below_of (current_vector (journal g m)) next.0.stamp) v ≤ clock_of (position g s) v =
              subst (λ (t : WriteRec). (v : ℕ) → v < 32 → clock_of (below_of (current_vector (journal g m)) t.stamp) v ≤ clock_of (position g s) v) same ready.2 in
              let empty : (q : Point) → Between (position g s) to q → ⊥ = λ q between.
              let moved : Between (position g s) (join_of (position g s) (below_of (current_vector (journal g m)) next.0.stamp)) q = subst (λ (w : List ℕ). Between (position g s) w q) next.2 between in
              none_at (position g s) (below_of (current_vector (journal g m)) next.0.stamp) q under moved in
              elim next.3.2 [ inl dark ↦ empty dark.0 dark.1 | inr omitted ↦ empty omitted.1.0.stamp omitted.1.3 ])
        ]
      ]
    ]
  ]
  send_step b (Precise from to write) owes u = elim u [
    | inr snap ↦ absurd snap
    | inl turn ↦
        let le : 2 * length owes.left ≤ b = elim owes.bound [
          | inl done ↦ absurd (turn.1 done)
          | inr rest ↦ elim rest [ inl many ↦ omega arith | inr ready ↦ ready.3 ]
        ] in
        let some : 1 ≤ b = elim owes.bound [
          | inl done ↦ absurd (turn.1 done)
          | inr rest ↦ elim rest [ inl many ↦ omega arith | inr ready ↦ let r = without ready.0 owes.left (owes.all ready.0 ready.1.0) in let n : length r.0 + 1 ≡ length owes.left = r.1 in let d : 2 * length owes.left ≤ b = ready.3 in omega arith ]
        ] in (
          b - 1,
          owes_less plan g f m (plan.stream s).names j less more clocks (position g s) (join_of (position g s) to) b write turn.3
              (λ v lt. joined (position g s) to (cut_of (current_vector (journal g m)) write.stamp) turn.4 v lt) owes le,
          λ i. omega arith,
        )
  ]

event_step : (plan : Plan) (g : List NodeEntry) (s n time caller : ℕ) (event : Event) → World g → IsLawful plan g (entry_at n time caller event)
    → (n ≡ (plan.stream s).source → IsNoNews event) → ¬ Attaches event s → (b : ℕ) → Owes (journal g (plan.stream s).source) (plan.stream s).names (position g s) b
    → (c : ℕ) × Owes (journal (entry_at n time caller event ∷ g) (plan.stream s).source) (plan.stream s).names (position (entry_at n time caller event ∷ g) s) c × ((i : ℕ) → counts_invalidation event s i + c ≤ i + b)
event_step plan g s n time caller event f l quiet apart b owes =
    let news : nat_eq n (plan.stream s).source ≡ true → IsNoNews event = λ t. quiet ((Decides-eqb n (plan.stream s).source).0 t) in
    by event l quiet apart
    (λ x k. known_cond (nat_eq n (plan.stream s).source) (entry_at n time caller event).entry (journal g (plan.stream s).source) x news k)
    (λ x k. known_more (nat_eq n (plan.stream s).source) (entry_at n time caller event).entry (journal g (plan.stream s).source) x k)
    (λ w. clock_cond (nat_eq n (plan.stream s).source) (entry_at n time caller event).entry (journal g (plan.stream s).source) w news)
  where
    by : (event : Event) → IsLawful plan g (entry_at n time caller event) → (n ≡ (plan.stream s).source → IsNoNews event) → ¬ Attaches event s
        → ((x : WriteRec) → Knows (journal (entry_at n time caller event ∷ g) (plan.stream s).source) x → Knows (journal g (plan.stream s).source) x)
        → ((x : WriteRec) → Knows (journal g (plan.stream s).source) x → Knows (journal (entry_at n time caller event ∷ g) (plan.stream s).source) x)
        → ((w : ℕ) → current_clock (journal (entry_at n time caller event ∷ g) (plan.stream s).source) w ≡ current_clock (journal g (plan.stream s).source) w)
        → (c : ℕ) × Owes (journal (entry_at n time caller event ∷ g) (plan.stream s).source) (plan.stream s).names (position (entry_at n time caller event ∷ g) s) c × ((i : ℕ) → counts_invalidation event s i + c ≤ i + b)
    by (Sent msg) l quiet apart less more clocks = sent (nat_eq msg.stream s) refl
      where
        sent : (d : Bool) → nat_eq msg.stream s ≡ d
            → (c : ℕ) × Owes (journal (entry_at n time caller (Sent msg) ∷ g) (plan.stream s).source) (plan.stream s).names (cond d (join_of (position g s) (to_of msg.kind)) (position g s)) c × ((i : ℕ) → cond (d && is_invalidation msg.kind) (i + 1) i + c ≤ i + b)
        sent false is = (b, owes_same plan g f (plan.stream s).source (plan.stream s).names (journal (entry_at n time caller (Sent msg) ∷ g) (plan.stream s).source) less more clocks (position g s) (position g s) b (λ v lt. refl) owes, λ i. omega arith)
        sent true is =
            let here : IsTurn (plan.stream msg.stream).source (journal g (plan.stream msg.stream).source) (standing plan g msg.stream) (SendTurn msg.kind) ⊎ IsSnapshot (plan.sets (plan.stream msg.stream).source) (plan.stream msg.stream).source (journal g (plan.stream msg.stream).source) (plan.stream msg.stream).names msg.kind =
            subst (λ (q : ℕ). IsTurn q (journal g q) (standing plan g msg.stream) (SendTurn msg.kind) ⊎ IsSnapshot (plan.sets q) q (journal g q) (plan.stream msg.stream).names msg.kind) l.placed l.may_come.2 in
            let mine : IsTurn (plan.stream s).source (journal g (plan.stream s).source) (standing plan g s) (SendTurn msg.kind) ⊎ IsSnapshot (plan.sets (plan.stream s).source) (plan.stream s).source (journal g (plan.stream s).source) (plan.stream s).names msg.kind =
            subst (λ (r : ℕ). IsTurn (plan.stream r).source (journal g (plan.stream r).source) (standing plan g r) (SendTurn msg.kind) ⊎ IsSnapshot (plan.sets (plan.stream r).source) (plan.stream r).source (journal g (plan.stream r).source) (plan.stream r).names msg.kind) ((Decides-eqb msg.stream s).0 is) here in
            send_step plan g f s (plan.stream s).source refl (journal (entry_at n time caller (Sent msg) ∷ g) (plan.stream s).source) less more clocks b msg.kind owes mine
    by (Attached t at) l quiet apart less more clocks = attached (nat_eq t s) refl
      where
        attached : (d : Bool) → nat_eq t s ≡ d
            → (c : ℕ) × Owes (journal (entry_at n time caller (Attached t at) ∷ g) (plan.stream s).source) (plan.stream s).names (cond d at (position g s)) c × ((i : ℕ) → i + c ≤ i + b)
        attached true is = absurd (apart ((Decides-eqb t s).0 is))
        attached false is = (b, owes_same plan g f (plan.stream s).source (plan.stream s).names (journal (entry_at n time caller (Attached t at) ∷ g) (plan.stream s).source) less more clocks (position g s) (position g s) b (λ v lt. refl) owes, λ i. omega arith)
    by event l quiet apart less more clocks = (b, owes_same plan g f (plan.stream s).source (plan.stream s).names (journal (entry_at n time caller event ∷ g) (plan.stream s).source) less more clocks (position g s) (position g s) b (λ v lt. refl) owes, λ i. omega arith)

owes_later : (plan : Plan) (h later : List NodeEntry) (s b : ℕ) → Valid plan (later ++ h) → IsQuiet (plan.stream s).source s later → Owes (journal h (plan.stream s).source) (plan.stream s).names (position h s) b
    → (c : ℕ) × Owes (journal (later ++ h) (plan.stream s).source) (plan.stream s).names (position (later ++ h) s) c × (invalidations later s + c ≤ b)
owes_later plan h [] s b v quiet owes = (b, owes, omega arith)
owes_later plan h (e ∷ later) s b v quiet owes =
    let before : (c : ℕ) × Owes (journal (later ++ h) (plan.stream s).source) (plan.stream s).names (position (later ++ h) s) c × (invalidations later s + c ≤ b) = owes_later plan h later s b v.1 quiet.1 owes in
    let now = event_step plan (later ++ h) s e.node e.entry.time e.entry.caller e.entry.event (valid_world plan (later ++ h) v.1) v.0 quiet.0.0 quiet.0.1 before.0 before.1 in
    let le : invalidations later s + before.0 ≤ b = before.2 in
    let more : counts_invalidation e.entry.event s (invalidations later s) + now.0 ≤ invalidations later s + before.0 = now.2 (invalidations later s) in
    (now.0, now.1, omega arith)

pub few_invalidations : FewInvalidations
few_invalidations plan h later s ws v quiet all =
    let start : Owes (journal h (plan.stream s).source) (plan.stream s).names (position h s) (2 * length ws + 1) = record { left = ws; all = all; bound = inr (inl (omega arith)) } in
    let end : (c : ℕ) × Owes (journal (later ++ h) (plan.stream s).source) (plan.stream s).names (position (later ++ h) s) c × (invalidations later s + c ≤ 2 * length ws + 1) = owes_later plan h later s (2 * length ws + 1) v quiet start in
    let le : invalidations later s + end.0 ≤ 2 * length ws + 1 = end.2 in
    omega arith
