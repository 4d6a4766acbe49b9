-- What a turn sends is honest.
use Rattle.std.proofs.Common.{◌≡◌, ℕ, ◌<◌, ◌≤◌, ◌-◌, ◌⊎◌, inl, inr, List, refl, sym, ◌∙◌, ap, subst, arith, max, cond}
use Rattle.std.specs.Prelude.{false, true, IsTrue, Bool, min, nat_lt}
use Rattle.pr_stamps.specs.Point.{Point}
use Rattle.pr_vectors.specs.Vector.{clock_of, join_of, last_of, cut_of, Between, below_of}
use Rattle.pr_vectors.proofs.Vectors.{clock_of-vector_of}
use Rattle.pr_sets.specs.Spans.{has}
use Rattle.pr_names.specs.Name.{IsName}
use Rattle.pr_names.specs.Span.{Span}
use Rattle.pr_inval.specs.declared.kind.Kind.{Kind}
use Rattle.pr_inval.specs.declared.kind.Kind.TheVariants.{Precise, Imprecise, Checkpoint, Body}
use Rattle.pr_inval.specs.declared.write_rec.WriteRec.{WriteRec}
use Rattle.pr_inval.specs.Points.{from_of, to_of, CoversPoint}
use Rattle.pr_story.specs.History.{NodeEntry, journal, WasWritten, current_clock, current_vector}
use Rattle.pr_story.specs.Told.{IsLit}
use Rattle.pr_story.specs.Knowledge.{IsOf, Knows, HeardOf}
use Rattle.pr_story.specs.Turns.{IsWriteToSend, IsWithheld, IsTarget, IsTurn, SendTurn}
use Rattle.pr_inval.specs.Standing.{Standing}
use Rattle.pr_story.specs.Messages.{IsWithinWorld, CoversOnly, IsHonest}
use Rattle.pr_story.proofs.Clocks.{below_before, before_below, under_below, under_last, at_last, last_cases, last_under, below_under}
use Rattle.pr_story.proofs.Basics.{clock_at, clock_is, vector_clock}
use Rattle.pr_story.proofs.World.{World, IsOwn, told_written, told_covered, lit_told}
use Rattle.pr_story.proofs.Known.{told_known, known_told, held_written}

pub join_clock : (p v : List ℕ) (n : ℕ) → n < 32 → clock_of (join_of p v) n ≡ max (clock_of p n) (clock_of v n)
join_clock p v n lt = clock_of-vector_of (λ k. max (clock_of p k) (clock_of v k)) n lt

module _ (h : List NodeEntry) (f : World h) (m : ℕ) where
  pub below_clock : (t : Point) (n : ℕ) → n < 32 → clock_of (below_of (current_vector (journal h m)) t) n ≡ min (clock_at h m n) (cond (nat_lt n t.node) t.clock (t.clock - 1))
  below_clock t n lt = clock_of-vector_of (λ k. min (clock_of (current_vector (journal h m)) k) (cond (nat_lt k t.node) t.clock (t.clock - 1))) n lt ∙ ap (λ (k : ℕ). min k (cond (nat_lt n t.node) t.clock (t.clock - 1))) (vector_clock h m n lt)

  pub cut_clock : (t : Point) (n : ℕ) → n < 32 → clock_of (cut_of (current_vector (journal h m)) t) n ≡ min (clock_at h m n) (last_of t n)
  cut_clock t n lt = clock_of-vector_of (λ k. min (clock_of (current_vector (journal h m)) k) (last_of t k)) n lt ∙ ap (λ (k : ℕ). min k (last_of t n)) (vector_clock h m n lt)

  -- the message goes from the position to the join of it with a vector that m has reached
  module _ (p w : List ℕ) (k : Kind) (from_is : from_of k ≡ p) (to_is : to_of k ≡ join_of p w)
      (within : (v : ℕ) → v < 32 → clock_of w v ≤ clock_at h m v)
      (holds : (x : WriteRec) (body dep : List ℕ) → WasWritten h x body dep → x.stamp.clock ≤ clock_of w x.stamp.node → (v : ℕ) → v < 32 → clock_of dep v ≤ clock_of w v) where
    covered_within : (s : Point) → s.node < 32 → CoversPoint k s → Between p (join_of p w) s × (s.clock ≤ clock_of w s.node)
    covered_within s lt c =
        let a : clock_of p s.node < s.clock = subst (λ (u : List ℕ). clock_of u s.node < s.clock) from_is c.0 in
        let b : s.clock ≤ clock_of (join_of p w) s.node = subst (λ (u : List ℕ). s.clock ≤ clock_of u s.node) to_is c.1 in
        let j : clock_of (join_of p w) s.node ≡ max (clock_of p s.node) (clock_of w s.node) = join_clock p w s.node lt in
        ((a, b), omega arith)

    is_within : IsWithinWorld h k
    is_within = record {
      reached = λ v lt past.
          let a : clock_of p v < clock_of (join_of p w) v = subst (λ (u : List ℕ). clock_of u v < clock_of (join_of p w) v) from_is (subst (λ (u : List ℕ). clock_of (from_of k) v < clock_of u v) to_is past) in
          let j : clock_of (join_of p w) v ≡ max (clock_of p v) (clock_of w v) = join_clock p w v lt in
          let l : clock_of w v ≤ clock_at h m v = within v lt in
          let o : clock_at h m v ≤ clock_at h v v = f.own m v lt in
          let e : current_clock (journal h v) v ≡ clock_at h v v = clock_is h v v in
          subst (λ (u : List ℕ). clock_of u v ≤ current_clock (journal h v) v) (sym to_is) (omega arith);
      causal = λ x body dep wr c v lt.
          let i : IsOwn h x dep = f.is_own x body dep wr in
          let cw : Between p (join_of p w) x.stamp × (x.stamp.clock ≤ clock_of w x.stamp.node) = covered_within x.stamp i.node c in
          let d : clock_of dep v ≤ clock_of w v = holds x body dep wr cw.1 v lt in
          let j : clock_of (join_of p w) v ≡ max (clock_of p v) (clock_of w v) = join_clock p w v lt in
          subst (λ (u : List ℕ). clock_of dep v ≤ clock_of u v) (sym to_is) (omega arith);
    }

  -- the three ends
  whole_within : (v : ℕ) → v < 32 → clock_of (current_vector (journal h m)) v ≤ clock_at h m v
  whole_within v lt = let e : clock_of (current_vector (journal h m)) v ≡ clock_at h m v = vector_clock h m v lt in omega arith

  whole_holds : (x : WriteRec) (body dep : List ℕ) → WasWritten h x body dep → x.stamp.clock ≤ clock_of (current_vector (journal h m)) x.stamp.node → (v : ℕ) → v < 32 → clock_of dep v ≤ clock_of (current_vector (journal h m)) v
  whole_holds x body dep w le v lt =
      let i : IsOwn h x dep = f.is_own x body dep w in
      let e : clock_of (current_vector (journal h m)) x.stamp.node ≡ clock_at h m x.stamp.node = vector_clock h m x.stamp.node i.node in
      let g : clock_of (current_vector (journal h m)) v ≡ clock_at h m v = vector_clock h m v lt in
      let d : clock_of dep v ≤ clock_at h m v = f.closed m x body dep w (omega arith) v lt in
      omega arith

  below_within : (t : Point) (v : ℕ) → v < 32 → clock_of (below_of (current_vector (journal h m)) t) v ≤ clock_at h m v
  below_within t v lt = let e : clock_of (below_of (current_vector (journal h m)) t) v ≡ min (clock_at h m v) (cond (nat_lt v t.node) t.clock (t.clock - 1)) = below_clock t v lt in omega arith

  below_holds : (t : Point) (x : WriteRec) (body dep : List ℕ) → WasWritten h x body dep → x.stamp.clock ≤ clock_of (below_of (current_vector (journal h m)) t) x.stamp.node → (v : ℕ) → v < 32 → clock_of dep v ≤ clock_of (below_of (current_vector (journal h m)) t) v
  below_holds t x body dep w le v lt =
      let i : IsOwn h x dep = f.is_own x body dep w in
      let e : clock_of (below_of (current_vector (journal h m)) t) x.stamp.node ≡ min (clock_at h m x.stamp.node) (cond (nat_lt x.stamp.node t.node) t.clock (t.clock - 1)) = below_clock t x.stamp.node i.node in
      let g : clock_of (below_of (current_vector (journal h m)) t) v ≡ min (clock_at h m v) (cond (nat_lt v t.node) t.clock (t.clock - 1)) = below_clock t v lt in
      let d : clock_of dep v ≤ clock_at h m v = f.closed m x body dep w (omega arith) v lt in
      let a : clock_of dep v < x.stamp.clock = i.above v lt in
      let u : x.stamp.clock ≤ t.clock = below_under x.stamp t (omega arith) in
      let b : clock_of dep v ≤ cond (nat_lt v t.node) t.clock (t.clock - 1) = under_below (clock_of dep v) x.stamp t v a u in
      omega arith

  cut_within : (t : Point) (v : ℕ) → v < 32 → clock_of (cut_of (current_vector (journal h m)) t) v ≤ clock_at h m v
  cut_within t v lt = let e : clock_of (cut_of (current_vector (journal h m)) t) v ≡ min (clock_at h m v) (last_of t v) = cut_clock t v lt in omega arith

  cut_holds : (t : Point) (x : WriteRec) (body dep : List ℕ) → WasWritten h x body dep → x.stamp.clock ≤ clock_of (cut_of (current_vector (journal h m)) t) x.stamp.node → (v : ℕ) → v < 32 → clock_of dep v ≤ clock_of (cut_of (current_vector (journal h m)) t) v
  cut_holds t x body dep w le v lt =
      let i : IsOwn h x dep = f.is_own x body dep w in
      let e : clock_of (cut_of (current_vector (journal h m)) t) x.stamp.node ≡ min (clock_at h m x.stamp.node) (last_of t x.stamp.node) = cut_clock t x.stamp.node i.node in
      let g : clock_of (cut_of (current_vector (journal h m)) t) v ≡ min (clock_at h m v) (last_of t v) = cut_clock t v lt in
      let d : clock_of dep v ≤ clock_at h m v = f.closed m x body dep w (omega arith) v lt in
      let a : clock_of dep v < x.stamp.clock = i.above v lt in
      let u : x.stamp.clock ≤ t.clock = last_under x.stamp t (omega arith) in
      let b : clock_of dep v ≤ last_of t v = under_last (clock_of dep v) t v (omega arith) in
      omega arith

  module _ (st : Standing) where
    -- a write past the position that is neither withheld nor to send: there is none
    none_hidden : (end : List ℕ) (x : WriteRec) (body dep : List ℕ) → WasWritten h x body dep → Between st.position end x.stamp → ¬ IsWithheld m (journal h m) st.names st.position end x.name → ¬ IsWriteToSend (journal h m) st.names st.position x → ⊥
    none_hidden end x body dep w b hidden due =
        let lit : (IsLit m (journal h m) x.name x.stamp → ⊥) = λ l.
        let k : Knows (journal h m) x = told_known h f m x (lit_told h f m x body dep w l) in
        let by : (b : Bool) → has st.names x.name ≡ b → ⊥ = λ c. elim c as (λ (c : Bool). has st.names x.name ≡ c → ⊥) [
          | true ↦ λ is. due (k, is, λ c. let past : clock_of st.position x.stamp.node < x.stamp.clock = b.0 in let le : x.stamp.clock ≤ clock_of st.position x.stamp.node = c.1 in omega arith)
          | false ↦ λ is. hidden (inr (is, (x, k, refl, b)))
        ] in
        by (has st.names x.name) refl in
        hidden (inl (x.stamp, b, lit))

    -- a name that the target lacks is not withheld
    target_has : (end : List ℕ) (target : List Span) (o : List ℕ) → IsTarget m (journal h m) st.names st.position end target → IsName o → has target o ≡ false → ¬ IsWithheld m (journal h m) st.names st.position end o
    target_has end target o t name lacks w = elim t [
      | inl fine ↦ let i : IsTrue (has target o) = fine.0.has_them o name w in cc
      | inr coarse ↦ let i : IsTrue (has target o) = coarse.1.has_them o name (elim w [ inl dark ↦ inr dark | inr omitted ↦ inl omitted.0 ]) in cc
    ]

    imprecise_only : (w end : List ℕ) (target : List Span) → IsTarget m (journal h m) st.names st.position end target → end ≡ join_of st.position w
        → ((x : WriteRec) (body dep : List ℕ) → WasWritten h x body dep → x.stamp.clock ≤ clock_of w x.stamp.node → ¬ IsWriteToSend (journal h m) st.names st.position x)
        → CoversOnly h (Imprecise st.position end target)
    imprecise_only w end target t end_is due x body dep wr c =
        let i : IsOwn h x dep = f.is_own x body dep wr in
        let j : clock_of (join_of st.position w) x.stamp.node ≡ max (clock_of st.position x.stamp.node) (clock_of w x.stamp.node) = join_clock st.position w x.stamp.node i.node in
        let past : clock_of st.position x.stamp.node < x.stamp.clock = c.0 in
        let upto : x.stamp.clock ≤ clock_of (join_of st.position w) x.stamp.node = subst (λ (u : List ℕ). x.stamp.clock ≤ clock_of u x.stamp.node) end_is c.1 in
        let by : (b : Bool) → has target x.name ≡ b → IsOf (Imprecise st.position end target) x ⊎ IsTrue (has target x.name) = λ b. elim b as (λ (b : Bool). has target x.name ≡ b → IsOf (Imprecise st.position end target) x ⊎ IsTrue (has target x.name)) [
          | true ↦ λ is. inr is
          | false ↦ λ is. absurd (none_hidden end x body dep wr c (target_has end target x.name t i.name is) (due x body dep wr (omega arith)))
        ] in
        by (has target x.name) refl

    imprecise_honest : (from to : List ℕ) (target : List Span) → IsTurn m (journal h m) st (SendTurn (Imprecise from to target)) → IsHonest h (Imprecise from to target)
    imprecise_honest from to target t =
        let at_p : IsHonest h (Imprecise st.position to target) = elim t.4 [
          | inl none ↦ (
            is_within st.position (current_vector (journal h m)) (Imprecise st.position to target) refl none.1 whole_within whole_holds,
            imprecise_only (current_vector (journal h m)) to target t.3 none.1 (λ x body dep w le. none.0 x),
          )
          | inr next ↦ (
            is_within st.position (below_of (current_vector (journal h m)) next.0.stamp) (Imprecise st.position to target) refl next.2 (below_within next.0.stamp) (below_holds next.0.stamp),
            imprecise_only (below_of (current_vector (journal h m)) next.0.stamp) to target t.3 next.2
                (λ x body dep w le due.
                let i : IsOwn h x dep = f.is_own x body dep w in
                let e : clock_of (below_of (current_vector (journal h m)) next.0.stamp) x.stamp.node ≡ min (clock_at h m x.stamp.node) (cond (nat_lt x.stamp.node next.0.stamp.node) next.0.stamp.clock (next.0.stamp.clock - 1)) = below_clock next.0.stamp x.stamp.node i.node in
                let n : (body : List ℕ) × (dep : List ℕ) × WasWritten h next.0 body dep = told_written h f m next.0 (known_told (journal h m) next.0 next.1.0.0) in
                let one : 1 ≤ next.0.stamp.clock = (f.is_own next.0 n.0 n.1 n.2).one in
                next.1.1 x due (below_before x.stamp next.0.stamp one (omega arith))),
          )
        ] in
        subst (λ (u : List ℕ). IsHonest h (Imprecise u to target)) (sym t.2) at_p

    precise_honest : (from to : List ℕ) (write : WriteRec) → IsTurn m (journal h m) st (SendTurn (Precise from to write)) → IsHonest h (Precise from to write)
    precise_honest from to write t =
        let v : List ℕ = current_vector (journal h m) in
        let told : HeardOf (journal h m) write = known_told (journal h m) write t.3.0.0 in
        let mine : (body : List ℕ) × (dep : List ℕ) × WasWritten h write body dep = told_written h f m write told in
        let own : IsOwn h write mine.1 = f.is_own write mine.0 mine.1 mine.2 in
        let ends : clock_of (join_of st.position (cut_of (current_vector (journal h m)) write.stamp)) write.stamp.node ≡ max (clock_of st.position write.stamp.node) (clock_of (cut_of (current_vector (journal h m)) write.stamp) write.stamp.node) = join_clock st.position (cut_of (current_vector (journal h m)) write.stamp) write.stamp.node own.node in
        let cut : clock_of (cut_of (current_vector (journal h m)) write.stamp) write.stamp.node ≡ min (clock_at h m write.stamp.node) (last_of write.stamp write.stamp.node) = cut_clock write.stamp write.stamp.node own.node in
        let last : write.stamp.clock ≤ last_of write.stamp write.stamp.node = at_last write.stamp in
        let reached : write.stamp.clock ≤ clock_at h m write.stamp.node = told_covered h f m write told in
        let past : (write.stamp.clock ≤ clock_of st.position write.stamp.node → ⊥) = λ le. t.3.0.2 (own.one, le) in
        let only : CoversOnly h (Precise st.position (join_of st.position (cut_of (current_vector (journal h m)) write.stamp)) write) = λ x body dep w c.
        let i : IsOwn h x dep = f.is_own x body dep w in
        let j : clock_of (join_of st.position (cut_of (current_vector (journal h m)) write.stamp)) x.stamp.node ≡ max (clock_of st.position x.stamp.node) (clock_of (cut_of (current_vector (journal h m)) write.stamp) x.stamp.node) = join_clock st.position (cut_of (current_vector (journal h m)) write.stamp) x.stamp.node i.node in
        let e : clock_of (cut_of (current_vector (journal h m)) write.stamp) x.stamp.node ≡ min (clock_at h m x.stamp.node) (last_of write.stamp x.stamp.node) = cut_clock write.stamp x.stamp.node i.node in
        let a : clock_of st.position x.stamp.node < x.stamp.clock = c.0 in
        let b : x.stamp.clock ≤ clock_of (join_of st.position (cut_of (current_vector (journal h m)) write.stamp)) x.stamp.node = c.1 in
        elim (last_cases x.stamp write.stamp own.one (omega arith)) [
          | inl before ↦
              let u : x.stamp.clock ≤ cond (nat_lt x.stamp.node write.stamp.node) write.stamp.clock (write.stamp.clock - 1) = before_below x.stamp write.stamp before in
              let g : clock_of (below_of (current_vector (journal h m)) write.stamp) x.stamp.node ≡ min (clock_at h m x.stamp.node) (cond (nat_lt x.stamp.node write.stamp.node) write.stamp.clock (write.stamp.clock - 1)) = below_clock write.stamp x.stamp.node i.node in
              let k : clock_of (join_of st.position (below_of (current_vector (journal h m)) write.stamp)) x.stamp.node ≡ max (clock_of st.position x.stamp.node) (clock_of (below_of (current_vector (journal h m)) write.stamp) x.stamp.node) = join_clock st.position (below_of (current_vector (journal h m)) write.stamp) x.stamp.node i.node in
              absurd (none_hidden (join_of st.position (below_of (current_vector (journal h m)) write.stamp)) x body dep w (a, omega arith) (t.5 x.name i.name) (λ due. t.3.1 x due before))
          | inr same ↦ inl (sym (f.one x write body mine.0 dep mine.1 w mine.2 same.0 same.1).0)
        ] in
        let at_p : IsHonest h (Precise st.position (join_of st.position (cut_of (current_vector (journal h m)) write.stamp)) write) = (
          is_within st.position (cut_of (current_vector (journal h m)) write.stamp) (Precise st.position (join_of st.position (cut_of (current_vector (journal h m)) write.stamp)) write) refl refl (cut_within write.stamp) (cut_holds write.stamp),
          only,
          (omega arith, omega arith),
          mine,
        ) in
        subst (λ (u : List ℕ). IsHonest h (Precise u to write)) (sym t.2) (subst (λ (u : List ℕ). IsHonest h (Precise st.position u write)) (sym t.4) at_p)

    pub turn_honest : (k : Kind) → IsTurn m (journal h m) st (SendTurn k) → IsHonest h k
    turn_honest (Precise from to write) t = precise_honest from to write t
    turn_honest (Imprecise from to target) t = imprecise_honest from to target t
    turn_honest (Checkpoint to target floor rows) t = absurd t
    turn_honest (Body o stamp bytes) t = held_written h f m o stamp bytes t.3.0.3
