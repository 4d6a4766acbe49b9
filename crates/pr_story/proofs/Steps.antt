-- Each lawful entry keeps what holds of the world.
use Rattle.std.proofs.Common.{◌≡◌, ℕ, ◌<◌, ◌≤◌, inl, inr, List, [], ◌∷◌, refl, sym, ◌∙◌, ap, subst, arith, cond, nat_eq}
use Rattle.pr_vectors.specs.Vector.{clock_of, Le, zero_vector}
use Rattle.pr_names.specs.Name.{IsName}
use Rattle.pr_inval.specs.declared.kind.Kind.{Kind}
use Rattle.pr_inval.specs.declared.kind.Kind.TheVariants.{Precise, Imprecise, Checkpoint, Body}
use Rattle.pr_inval.specs.declared.msg.Msg.{Msg}
use Rattle.pr_inval.specs.declared.write_rec.WriteRec.{WriteRec}
use Rattle.pr_story.specs.declared.event.Event.{Event}
use Rattle.pr_story.specs.declared.event.Event.TheVariants.{Wrote, Sent, Accepted}
use Rattle.pr_inval.specs.Points.{from_of, to_of, CoversPoint}
use Rattle.pr_story.specs.History.{Plan, NodeEntry, journal, Writes, Accepts, Sends, WasWritten, WasSent, clock_brought, current_clock, current_vector}
use Rattle.pr_story.specs.Turns.{standing}
use Rattle.pr_story.specs.Messages.{IsWithinWorld, IsHonest}
use Rattle.pr_story.specs.Lawful.{IsLawful, Valid}
use Rattle.pr_story.proofs.Clocks.{same_clock, clock_grows, own_write, own_accept, covered_before, fresh_here, fresh_reached, either_covers, here_grows, end_reached}
use Rattle.pr_story.proofs.Basics.{clock_at, clock_is, split, vector_clock}
use Rattle.pr_story.proofs.Kept.{honest_kept}
use Rattle.pr_story.proofs.World.{World, IsOwn}
use Rattle.pr_story.proofs.Making.{turn_honest}
use Rattle.pr_story.proofs.Precise.{snapshot_honest}

abbrev pub entry_at : ℕ → ℕ → ℕ → Event → NodeEntry
entry_at n time caller event = record { node = n; entry = record { time = time; caller = caller; event = event } }

-- by the journals
grows : (h g : List NodeEntry) → ((v : ℕ) → clock_at h v v ≤ clock_at g v v) → (v : ℕ) → current_clock (journal h v) v ≤ current_clock (journal g v) v
grows h g le v =
    let a : current_clock (journal h v) v ≡ clock_at h v v = clock_is h v v in
    let b : current_clock (journal g v) v ≡ clock_at g v v = clock_is g v v in
    let c : clock_at h v v ≤ clock_at g v v = le v in
    omega arith

pub honest_within : (h : List NodeEntry) (k : Kind) → IsHonest h k → IsWithinWorld h k
honest_within h (Precise from to write) k = k.0
honest_within h (Imprecise from to target) k = k.0
honest_within h (Checkpoint to target floor rows) k = k.0
honest_within h (Body name stamp bytes) k = record {
  reached = λ v lt past. absurd (omega arith);
  causal = λ x body dep w c.
      let a : clock_of zero_vector x.stamp.node < x.stamp.clock = c.0 in
      let b : x.stamp.clock ≤ clock_of zero_vector x.stamp.node = c.1 in
      absurd (omega arith);
}

-- an event that neither writes nor accepts
module _ (h : List NodeEntry) (e : NodeEntry)
    (no_write : (x : WriteRec) (body dep : List ℕ) → Writes e.entry.event x body dep → ⊥)
    (no_accept : (k : Kind) → Accepts e.entry.event k → ⊥)
    (nothing : (w : ℕ) → clock_brought e.entry.event w ≡ 0)
    (sent : (msg : Msg) → Sends e.entry.event msg → IsHonest h msg.kind) where
  still_written : (x : WriteRec) (body dep : List ℕ) → WasWritten (e ∷ h) x body dep → WasWritten h x body dep
  still_written x body dep w = elim w [ inl now ↦ absurd (no_write x body dep now) | inr old ↦ old ]

  still : (n w : ℕ) → clock_at (e ∷ h) n w ≡ clock_at h n w
  still n w = same_clock (clock_at h n w) (clock_brought e.entry.event w) e.node n (nothing w)

  pub quiet_world : World h → World (e ∷ h)
  quiet_world f = record {
    own = λ n v lt. let a : clock_at h n v ≤ clock_at h v v = f.own n v lt in let s : clock_at (e ∷ h) n v ≡ clock_at h n v = still n v in let t : clock_at (e ∷ h) v v ≡ clock_at h v v = still v v in omega arith;
    closed = λ n x body dep w le v lt.
        let s : clock_at (e ∷ h) n x.stamp.node ≡ clock_at h n x.stamp.node = still n x.stamp.node in
        let t : clock_at (e ∷ h) n v ≡ clock_at h n v = still n v in
        let a : clock_of dep v ≤ clock_at h n v = f.closed n x body dep (still_written x body dep w) (omega arith) v lt in
        omega arith;
    is_own = λ x body dep w.
        let o : IsOwn h x dep = f.is_own x body dep (still_written x body dep w) in
        let s : clock_at (e ∷ h) x.stamp.node x.stamp.node ≡ clock_at h x.stamp.node x.stamp.node = still x.stamp.node x.stamp.node in
        let r : x.stamp.clock ≤ clock_at h x.stamp.node x.stamp.node = o.reached in
        record { one = o.one; node = o.node; reached = omega arith; above = o.above; name = o.name };
    at_home = λ n x body dep w. elim (split (λ event. Writes event x body dep) e h n w) [ inl now ↦ absurd (no_write x body dep now.1) | inr old ↦ f.at_home n x body dep old ];
    one = λ x y b c d e2 w z clocks nodes. f.one x y b c d e2 (still_written x b d w) (still_written y c e2 z) clocks nodes;
    arrived = λ n k a. elim (split (λ event. Accepts event k) e h n a) [ inl now ↦ absurd (no_accept k now.1) | inr old ↦ let s : (msg : Msg) × WasSent h msg × (msg.kind ≡ k) = f.arrived n k old in (s.0, inr s.1, s.2) ];
    honest = λ msg s.
        let was : IsHonest h msg.kind = elim s [ inl now ↦ sent msg now | inr old ↦ f.honest msg old ] in
        honest_kept h (e ∷ h) (grows h (e ∷ h) (λ v. let t : clock_at (e ∷ h) v v ≡ clock_at h v v = still v v in omega arith)) (λ x body dep w. inr w) msg.kind (λ x body dep w c. still_written x body dep w) was;
  }

accepted_world : (h : List NodeEntry) (n time caller : ℕ) (msg : Msg) (at : List ℕ) → WasSent h msg → Le (from_of msg.kind) (current_vector (journal h n)) → World h → World (entry_at n time caller (Accepted msg at) ∷ h)
accepted_world h n time caller msg at sent from f =
    let hon : IsHonest h msg.kind = f.honest msg sent in
    let within : IsWithinWorld h msg.kind = honest_within h msg.kind hon in
    let start : (v : ℕ) → v < 32 → clock_of (from_of msg.kind) v ≤ clock_at h n v = λ v lt.
    let le : clock_of (from_of msg.kind) v ≤ clock_of (current_vector (journal h n)) v = from v lt in
    let e : clock_of (current_vector (journal h n)) v ≡ clock_at h n v = vector_clock h n v lt in omega arith in
    let grow : (m v : ℕ) → clock_at h m v ≤ clock_at (entry_at n time caller (Accepted msg at) ∷ h) m v = λ m v. clock_grows (clock_at h m v) (clock_of (to_of msg.kind) v) n m in
    record {
      own = λ m v lt. own_accept (clock_at h m v) (clock_at h v v) (clock_of (to_of msg.kind) v) (clock_of (to_of msg.kind) v) m n v (f.own m v lt)
          (λ here. end_reached (clock_of (from_of msg.kind) v) (clock_of (to_of msg.kind) v) (clock_at h v v) (λ past. let r : clock_of (to_of msg.kind) v ≤ current_clock (journal h v) v = within.reached v lt past in let i : current_clock (journal h v) v ≡ clock_at h v v = clock_is h v v in omega arith)
          (let a : clock_of (from_of msg.kind) v ≤ clock_at h n v = start v lt in let b : clock_at h n v ≤ clock_at h v v = f.own n v lt in omega arith));
      closed = λ m x body dep w le v lt. elim w [
        | inl never ↦ absurd never
        | inr old ↦ elim (either_covers x.stamp.clock (clock_at h m x.stamp.node) (clock_of (to_of msg.kind) x.stamp.node) m n le) [
          | inl before ↦ let d : clock_of dep v ≤ clock_at h m v = f.closed m x body dep old before v lt in let u : clock_at h m v ≤ clock_at (entry_at n time caller (Accepted msg at) ∷ h) m v = grow m v in omega arith
          | inr now ↦
              let i : IsOwn h x dep = f.is_own x body dep old in
              let s : clock_of (from_of msg.kind) x.stamp.node ≤ clock_at h n x.stamp.node = start x.stamp.node i.node in
              let same : clock_at h m x.stamp.node ≡ clock_at h n x.stamp.node = ap (λ (k : ℕ). clock_at h k x.stamp.node) now.0 in
              let past : clock_at h m x.stamp.node < x.stamp.clock = now.2 in
              let upto : x.stamp.clock ≤ clock_of (to_of msg.kind) x.stamp.node = now.1 in
              let d : clock_of dep v ≤ clock_of (to_of msg.kind) v = within.causal x body dep old (omega arith, upto) v lt in
              let u : clock_of (to_of msg.kind) v ≤ clock_at (entry_at n time caller (Accepted msg at) ∷ h) m v = here_grows (clock_at h m v) (clock_of (to_of msg.kind) v) m n now.0 in
              omega arith
        ]
      ];
      is_own = λ x body dep w. elim w [
        | inl never ↦ absurd never
        | inr old ↦
            let o : IsOwn h x dep = f.is_own x body dep old in
            let r : x.stamp.clock ≤ clock_at h x.stamp.node x.stamp.node = o.reached in
            let u : clock_at h x.stamp.node x.stamp.node ≤ clock_at (entry_at n time caller (Accepted msg at) ∷ h) x.stamp.node x.stamp.node = grow x.stamp.node x.stamp.node in
            record { one = o.one; node = o.node; reached = omega arith; above = o.above; name = o.name }
      ];
      at_home = λ m x body dep w. elim (split (λ event. Writes event x body dep) (entry_at n time caller (Accepted msg at)) h m w) [ inl now ↦ absurd now.1 | inr old ↦ f.at_home m x body dep old ];
      one = λ x y b c d e w z clocks nodes. elim w [ inl never ↦ absurd never | inr old ↦ elim z [ inl never ↦ absurd never | inr too ↦ f.one x y b c d e old too clocks nodes ] ];
      arrived = λ m k a. elim (split (λ event. Accepts event k) (entry_at n time caller (Accepted msg at)) h m a) [ inl now ↦ (msg, inr sent, now.1) | inr old ↦ let s : (msg : Msg) × WasSent h msg × (msg.kind ≡ k) = f.arrived m k old in (s.0, inr s.1, s.2) ];
      honest = λ other s. elim s [
        | inl never ↦ absurd never
        | inr old ↦ honest_kept h (entry_at n time caller (Accepted msg at) ∷ h) (grows h (entry_at n time caller (Accepted msg at) ∷ h) (λ v. grow v v)) (λ x body dep w. inr w) other.kind (λ x body dep w c. elim w [ inl never ↦ absurd never | inr o ↦ o ]) (f.honest other old)
      ];
    }

wrote_world : (h : List NodeEntry) (n time caller client : ℕ) (write : WriteRec) (bytes after : List ℕ) → n < 32 → IsName write.name
    → after ≡ current_vector (journal h n) → write.stamp.node ≡ n → ((w : ℕ) → w < 32 → current_clock (journal h n) w < write.stamp.clock) → World h →
    World (entry_at n time caller (Wrote client write bytes after) ∷ h)
wrote_world h n time caller client write bytes after n_lt name after_is node_is over f =
    let node_in : write.stamp.node < 32 = omega arith in
    let above : (w : ℕ) → w < 32 → clock_at h n w < write.stamp.clock = λ w lt. let o : current_clock (journal h n) w < write.stamp.clock = over w lt in let i : current_clock (journal h n) w ≡ clock_at h n w = clock_is h n w in omega arith in
    let grow : (m v : ℕ) → clock_at h m v ≤ clock_at (entry_at n time caller (Wrote client write bytes after) ∷ h) m v = λ m v. clock_grows (clock_at h m v) (cond (nat_eq v write.stamp.node) write.stamp.clock 0) n m in
    -- no node has the new clock yet
    let fresh : (m : ℕ) → clock_at h m write.stamp.node < write.stamp.clock = λ m.
    let o : clock_at h m write.stamp.node ≤ clock_at h write.stamp.node write.stamp.node = f.own m write.stamp.node node_in in
    let same : clock_at h write.stamp.node write.stamp.node ≡ clock_at h n write.stamp.node = ap (λ (k : ℕ). clock_at h k write.stamp.node) node_is in
    let a : clock_at h n write.stamp.node < write.stamp.clock = above write.stamp.node node_in in omega arith in
    -- an older write that is covered now was covered before
    let older : (m : ℕ) (x : WriteRec) (body dep : List ℕ) → WasWritten h x body dep → x.stamp.clock ≤ clock_at (entry_at n time caller (Wrote client write bytes after) ∷ h) m x.stamp.node → x.stamp.clock ≤ clock_at h m x.stamp.node = λ m x body dep w le.
    covered_before x.stamp.clock (clock_at h m x.stamp.node) write.stamp.clock m n x.stamp.node write.stamp.node node_is le
    (λ here at.
    let r : x.stamp.clock ≤ clock_at h x.stamp.node x.stamp.node = (f.is_own x body dep w).reached in
    let e : clock_at h x.stamp.node x.stamp.node ≡ clock_at h m x.stamp.node = ap (λ (k : ℕ). clock_at h k x.stamp.node) (at ∙ node_is ∙ sym here) in
    omega arith) in
    -- the new write is covered at its node alone
    let here : (m : ℕ) (x : WriteRec) → write ≡ x → x.stamp.clock ≤ clock_at (entry_at n time caller (Wrote client write bytes after) ∷ h) m x.stamp.node → m ≡ n = λ m x is le.
    fresh_here (clock_at h m write.stamp.node) write.stamp.clock m n write.stamp.node (fresh m)
    (subst (λ (y : WriteRec). y.stamp.clock ≤ clock_at (entry_at n time caller (Wrote client write bytes after) ∷ h) m y.stamp.node) (sym is) le) in
    -- no older write has its stamp
    let differs : (y : WriteRec) (c e : List ℕ) → WasWritten h y c e → write.stamp.clock ≡ y.stamp.clock → write.stamp.node ≡ y.stamp.node → ⊥ = λ y c e w clocks nodes.
    let r : y.stamp.clock ≤ clock_at h y.stamp.node y.stamp.node = (f.is_own y c e w).reached in
    let b : clock_at h y.stamp.node write.stamp.node < write.stamp.clock = fresh y.stamp.node in
    let s : clock_at h y.stamp.node write.stamp.node ≡ clock_at h y.stamp.node y.stamp.node = ap (λ (k : ℕ). clock_at h y.stamp.node k) nodes in
    omega arith in
    record {
      own = λ m v lt. own_write (clock_at h m v) (clock_at h v v) write.stamp.clock m n v write.stamp.node (f.own m v lt) node_is;
      closed = λ m x body dep w le v lt. elim w [
        | inl is ↦
            let at : m ≡ n = here m x is.0 le in
            let d : clock_of dep v ≡ clock_at h n v = ap (λ (u : List ℕ). clock_of u v) (sym is.2 ∙ after_is) ∙ vector_clock h n v lt in
            let e : clock_at h m v ≡ clock_at h n v = ap (λ (k : ℕ). clock_at h k v) at in
            let u : clock_at h m v ≤ clock_at (entry_at n time caller (Wrote client write bytes after) ∷ h) m v = grow m v in omega arith
        | inr old ↦
            let b : clock_of dep v ≤ clock_at h m v = f.closed m x body dep old (older m x body dep old le) v lt in
            let u : clock_at h m v ≤ clock_at (entry_at n time caller (Wrote client write bytes after) ∷ h) m v = grow m v in omega arith
      ];
      is_own = λ x body dep w. elim w [
        | inl is ↦
            let made : IsOwn (entry_at n time caller (Wrote client write bytes after) ∷ h) write dep = record {
              one = let a : clock_at h n write.stamp.node < write.stamp.clock = above write.stamp.node node_in in omega arith;
              node = node_in;
              reached = fresh_reached (clock_at h write.stamp.node write.stamp.node) write.stamp.clock n write.stamp.node node_is;
              above = λ v lt. let d : clock_of dep v ≡ clock_at h n v = ap (λ (u : List ℕ). clock_of u v) (sym is.2 ∙ after_is) ∙ vector_clock h n v lt in let a : clock_at h n v < write.stamp.clock = above v lt in omega arith;
              name = name;
            } in
            subst (λ (y : WriteRec). IsOwn (entry_at n time caller (Wrote client write bytes after) ∷ h) y dep) is.0 made
        | inr old ↦
            let o : IsOwn h x dep = f.is_own x body dep old in
            let r : x.stamp.clock ≤ clock_at h x.stamp.node x.stamp.node = o.reached in
            let u : clock_at h x.stamp.node x.stamp.node ≤ clock_at (entry_at n time caller (Wrote client write bytes after) ∷ h) x.stamp.node x.stamp.node = grow x.stamp.node x.stamp.node in
            record { one = o.one; node = o.node; reached = omega arith; above = o.above; name = o.name }
      ];
      at_home = λ m x body dep w. elim (split (λ event. Writes event x body dep) (entry_at n time caller (Wrote client write bytes after)) h m w) [ inl now ↦ sym now.0 ∙ sym node_is ∙ ap (λ (y : WriteRec). y.stamp.node) now.1.0 | inr old ↦ f.at_home m x body dep old ];
      one = λ x y b c d e w z clocks nodes. elim w [
        | inl is ↦ elim z [
          | inl it ↦ (sym is.0 ∙ it.0, sym is.1 ∙ it.1)
          | inr old ↦ absurd (differs y c e old (ap (λ (k : WriteRec). k.stamp.clock) is.0 ∙ clocks) (ap (λ (k : WriteRec). k.stamp.node) is.0 ∙ nodes))
        ]
        | inr old ↦ elim z [
          | inl it ↦ absurd (differs x b d old (ap (λ (k : WriteRec). k.stamp.clock) it.0 ∙ sym clocks) (ap (λ (k : WriteRec). k.stamp.node) it.0 ∙ sym nodes))
          | inr too ↦ f.one x y b c d e old too clocks nodes
        ]
      ];
      arrived = λ m k a. elim (split (λ event. Accepts event k) (entry_at n time caller (Wrote client write bytes after)) h m a) [ inl now ↦ absurd now.1 | inr old ↦ let s : (msg : Msg) × WasSent h msg × (msg.kind ≡ k) = f.arrived m k old in (s.0, inr s.1, s.2) ];
      honest = λ other s. elim s [
        | inl never ↦ absurd never
        | inr old ↦
            let was : IsHonest h other.kind = f.honest other old in
            honest_kept h (entry_at n time caller (Wrote client write bytes after) ∷ h) (grows h (entry_at n time caller (Wrote client write bytes after) ∷ h) (λ v. grow v v)) (λ x body dep w. inr w) other.kind
            (λ x body dep w c. elim w [
              | inl is ↦
                  let c2 : CoversPoint other.kind write.stamp = subst (λ (y : WriteRec). CoversPoint other.kind y.stamp) (sym is.0) c in
                  let past : clock_of (from_of other.kind) write.stamp.node < write.stamp.clock = c2.0 in
                  let upto : write.stamp.clock ≤ clock_of (to_of other.kind) write.stamp.node = c2.1 in
                  let i : current_clock (journal h write.stamp.node) write.stamp.node ≡ clock_at h write.stamp.node write.stamp.node = clock_is h write.stamp.node write.stamp.node in
                  let r : clock_of (to_of other.kind) write.stamp.node ≤ current_clock (journal h write.stamp.node) write.stamp.node = (honest_within h other.kind was).reached write.stamp.node node_in (omega arith) in
                  let b : clock_at h write.stamp.node write.stamp.node < write.stamp.clock = fresh write.stamp.node in
                  absurd (omega arith)
              | inr o ↦ o
            ])
            was
      ];
    }

step : (plan : Plan) (h : List NodeEntry) (n time caller : ℕ) (event : Event) → IsLawful plan h (entry_at n time caller event) → World h → World (entry_at n time caller event ∷ h)
step plan h n time caller (Wrote client write body after) l f = wrote_world h n time caller client write body after l.node l.in_range.0.0 l.may_come.1 l.may_come.2 l.may_come.3 f
step plan h n time caller (Accepted msg at) l f = accepted_world h n time caller msg at l.cause l.may_come.0 f
step plan h n time caller (Sent msg) l f =
    let honest : IsHonest h msg.kind = elim l.may_come.2 [
      | inl turn ↦ turn_honest h f n (standing plan h msg.stream) msg.kind turn
      | inr snap ↦ snapshot_honest (plan.sets n) h f n (plan.stream msg.stream).names msg.kind snap
    ] in
    quiet_world h (entry_at n time caller (Sent msg)) (λ x body dep w. w) (λ k a. a) (λ w. refl) (λ m s. subst (λ (k : Msg). IsHonest h k.kind) s honest) f
step plan h n time caller event l f = quiet_world h (entry_at n time caller event) (λ x body dep w. w) (λ k a. a) (λ w. refl) (λ m s. absurd s) f

world_none : World []
world_none = record {
  own = λ n v lt. omega arith;
  closed = λ n x body dep w le v lt. absurd w;
  is_own = λ x body dep w. absurd w;
  at_home = λ n x body dep w. absurd w;
  one = λ x y b c d e w z clocks nodes. absurd w;
  arrived = λ n k a. absurd a;
  honest = λ msg s. absurd s;
}

pub valid_world : (plan : Plan) (h : List NodeEntry) → Valid plan h → World h
valid_world plan [] v = world_none
valid_world plan (e ∷ h) v = step plan h e.node e.entry.time e.entry.caller e.entry.event v.0 (valid_world plan h v.1)
