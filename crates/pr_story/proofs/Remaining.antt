-- Why a settle ends.
use Rattle.std.proofs.Common.{◌≡◌, ℕ, ◌<◌, ◌≤◌, ◌+◌, ◌-◌, ◌⊎◌, inl, inr, List, [], ◌∷◌, length, refl, sym, ◌∙◌, ap, subst, arith, max, cond, nat_eq, get_or, zero, suc}
use Rattle.std.specs.Prelude.{Bool, true, false, ◌||◌, ◌&&◌}
use Rattle.std.proofs.lemmas.Bool.Decides.{nat_tests, Decides-eqb}
use Rattle.pr_stamps.specs.Point.{Point}
use Rattle.pr_vectors.specs.Vector.{clock_of, Between, Le, join_of, below_of, zero_vector}
use Rattle.pr_vectors.proofs.Vectors.{length-vector_of}
use Rattle.pr_names.specs.Span.{Span}
use Rattle.pr_inval.specs.declared.kind.Kind.{Kind}
use Rattle.pr_inval.specs.declared.kind.Kind.TheVariants.{Precise, Imprecise, Checkpoint, Body}
use Rattle.pr_inval.specs.declared.msg.Msg.{Msg}
use Rattle.pr_inval.specs.declared.write_rec.WriteRec.{WriteRec}
use Rattle.pr_inval.specs.Points.{from_of, to_of, CoversPoint}
use Rattle.pr_story.specs.declared.entry.Entry.{Entry}
use Rattle.pr_story.specs.declared.event.Event.{Event}
use Rattle.pr_story.specs.declared.event.Event.TheVariants.{Wrote, Attached, Sent, Accepted, Cut}
use Rattle.pr_story.specs.History.{Plan, NodeEntry, journal, WasWritten, Writes, clock_brought, current_clock, current_vector}
use Rattle.pr_story.specs.Knowledge.{cuts_of, cut_in}
use Rattle.pr_story.specs.Turns.{standing, position, position_after, has_sent, sent_after, is_body, IsTurn, IsSnapshot, SendTurn}
use Rattle.pr_story.specs.Commands.{IsNoCheckpoint}
use Rattle.pr_story.specs.Lawful.{IsLawful, Valid}
use Rattle.pr_story.specs.Messages.{IsWithinWorld}
use Rattle.pr_story.specs.Remaining.{sum_below, lag, counts_unsent, unsent, left_to_send, IsNoStart, SendsOn}
use Rattle.pr_story.proofs.Clocks.{end_reached}
use Rattle.pr_story.proofs.Basics.{clock_zero, clock_at, clock_is, vector_clock}
use Rattle.pr_story.proofs.World.{World, told_written}
use Rattle.pr_story.proofs.Known.{known_told, held_written, Decides-is_this}
use Rattle.pr_story.proofs.Making.{join_clock, turn_honest}
use Rattle.pr_story.proofs.Clients.{joined}
use Rattle.pr_story.proofs.Points.{covered_node}
use Rattle.pr_story.proofs.Reading.{lesser}
use Rattle.pr_story.proofs.Settling.{picks}
use Rattle.pr_story.proofs.Steps.{valid_world, honest_within, entry_at}
use Rattle.pr_story.specs.Statements.{LessIsLeft}

-- ---- sums

last_or : (i n : ℕ) → i < suc n → (i < n) ⊎ (i ≡ n)
last_or i n lt = grind (arith, nat_tests)

sum_le : (f g : ℕ → ℕ) (n : ℕ) → ((w : ℕ) → w < n → f w ≤ g w) → sum_below f n ≤ sum_below g n
sum_le f g zero le = omega arith
sum_le f g (suc n) le =
    let a : sum_below f n ≤ sum_below g n = sum_le f g n (λ w lt. le w (omega arith)) in
    let b : f n ≤ g n = le n (omega arith) in
    omega arith

sum_lt : (f g : ℕ → ℕ) (n i : ℕ) → ((w : ℕ) → w < n → f w ≤ g w) → i < n → f i < g i → sum_below f n < sum_below g n
sum_lt f g zero i le lt less = absurd (omega arith)
sum_lt f g (suc n) i le lt less =
    let b : f n ≤ g n = le n (omega arith) in
    elim (last_or i n lt) [
      | inl old ↦ let a : sum_below f n < sum_below g n = sum_lt f g n i (λ w u. le w (omega arith)) old less in omega arith
      | inr now ↦
          let a : sum_below f n ≤ sum_below g n = sum_le f g n (λ w u. le w (omega arith)) in
          let c : f n < g n = subst (λ (k : ℕ). f k < g k) now less in
          omega arith
    ]

diff_le : (a b p q : ℕ) → a ≤ b → p ≤ q → a - q ≤ b - p
diff_le a b p q x y = omega arith

diff_lt : (a b p q : ℕ) → a ≤ b → p < q → q ≤ b → a - q < b - p
diff_lt a b p q x y z = omega arith

-- ---- what was not sent

count_le : (a b : Bool) (z u : ℕ) → z ≤ u → (a ≡ true → b ≡ true) → cond b z u ≤ cond a z u
count_le true true z u le more = omega arith
count_le true false z u le more = let is : false ≡ true = more refl in cc
count_le false true z u le more = le
count_le false false z u le more = omega arith

counts_le : (event : Event) (f g : List ℕ → Point → Bool) → ((o : List ℕ) (t : Point) → f o t ≡ true → g o t ≡ true) → counts_unsent event g ≤ counts_unsent event f
counts_le (Wrote client write body after) f g more = count_le (f write.name write.stamp) (g write.name write.stamp) 0 1 (omega arith) (more write.name write.stamp)
counts_le _ f g more = omega arith

unsent_le : (h : List NodeEntry) (f g : List ℕ → Point → Bool) → ((o : List ℕ) (t : Point) → f o t ≡ true → g o t ≡ true) → unsent h g ≤ unsent h f
unsent_le [] f g more = omega arith
unsent_le (e ∷ h) f g more =
    let a : unsent h g ≤ unsent h f = unsent_le h f g more in
    let b : counts_unsent e.entry.event g ≤ counts_unsent e.entry.event f = counts_le e.entry.event f g more in
    omega arith

count_lt : (a b : Bool) (z u : ℕ) → z < u → a ≡ false → b ≡ true → cond b z u < cond a z u
count_lt false true z u lt p q = lt
count_lt true b z u lt p q = cc
count_lt a false z u lt p q = cc

counts_lt : (event : Event) (x : WriteRec) (body dep : List ℕ) (f g : List ℕ → Point → Bool) → Writes event x body dep → f x.name x.stamp ≡ false → g x.name x.stamp ≡ true → counts_unsent event g < counts_unsent event f
counts_lt (Wrote client write bytes after) x body dep f g w unsaid said =
    count_lt (f write.name write.stamp) (g write.name write.stamp) 0 1 (omega arith) (ap (λ (y : WriteRec). f y.name y.stamp) w.0 ∙ unsaid) (ap (λ (y : WriteRec). g y.name y.stamp) w.0 ∙ said)
counts_lt _ x body dep f g w unsaid said = absurd w

unsent_lt : (h : List NodeEntry) (x : WriteRec) (body dep : List ℕ) (f g : List ℕ → Point → Bool) → ((o : List ℕ) (t : Point) → f o t ≡ true → g o t ≡ true) → WasWritten h x body dep → f x.name x.stamp ≡ false → g x.name x.stamp ≡ true → unsent h g < unsent h f
unsent_lt [] x body dep f g more w unsaid said = absurd w
unsent_lt (e ∷ h) x body dep f g more w unsaid said = elim w [
  | inl now ↦
      let a : unsent h g ≤ unsent h f = unsent_le h f g more in
      let b : counts_unsent e.entry.event g < counts_unsent e.entry.event f = counts_lt e.entry.event x body dep f g now unsaid said in
      omega arith
  | inr old ↦
      let a : unsent h g < unsent h f = unsent_lt h x body dep f g more old unsaid said in
      let b : counts_unsent e.entry.event g ≤ counts_unsent e.entry.event f = counts_le e.entry.event f g more in
      omega arith
]

none_counted : (event : Event) (f : List ℕ → Point → Bool) → IsNoStart event → counts_unsent event f ≡ 0
none_counted (Wrote client write body after) f n = absurd n
none_counted _ f n = refl

right_true : (a b : Bool) → b ≡ true → (a || b) ≡ true
right_true true b e = refl
right_true false b e = e

sent_grows : (event : Event) (s : ℕ) (before : List ℕ → Point → Bool) (o : List ℕ) (t : Point) → IsNoStart event → before o t ≡ true → sent_after event s o t (before o t) ≡ true
sent_grows (Attached stream at) s before o t n e = absurd n
sent_grows (Sent msg) s before o t n e = right_true (nat_eq msg.stream s && is_body msg.kind o t) (before o t) e
sent_grows _ s before o t n e = e

-- ---- positions

pos_grows : (event : Event) (s : ℕ) (p : List ℕ) (w : ℕ) → w < 32 → IsNoStart event → clock_of p w ≤ clock_of (position_after event s p) w
pos_grows (Attached stream at) s p w lt n = absurd n
pos_grows (Sent msg) s p w lt n = let j = joined (nat_eq msg.stream s) p (to_of msg.kind) w lt in grind (arith, nat_tests)
pos_grows _ s p w lt n = omega arith

turn_from : (n : ℕ) (j : List Entry) (st : _) (sets : List (List Span)) (names : List Span) (kind : Kind) (w top : ℕ) → IsTurn n j st (SendTurn kind) ⊎ IsSnapshot sets n j names kind → clock_of st.position w ≤ top → clock_of (from_of kind) w ≤ top
turn_from n j st sets names (Precise from to write) w top t le = elim t [ inl turn ↦ subst (λ (x : List ℕ). clock_of x w ≤ top) (sym turn.2) le | inr snap ↦ absurd snap ]
turn_from n j st sets names (Imprecise from to target) w top t le = elim t [ inl turn ↦ subst (λ (x : List ℕ). clock_of x w ≤ top) (sym turn.2) le | inr snap ↦ absurd snap ]
turn_from n j st sets names (Checkpoint to target floor rows) w top t le = let z : ◌≡◌ {A = ℕ} (clock_of zero_vector w) 0 = clock_zero w in omega arith
turn_from n j st sets names (Body o stamp bytes) w top t le = let z : ◌≡◌ {A = ℕ} (clock_of zero_vector w) 0 = clock_zero w in omega arith

picked_upto : (x a p top : ℕ) (b : Bool) → x ≡ cond b a p → a ≤ top → p ≤ top → x ≤ top
picked_upto x a p top true e q r = omega arith
picked_upto x a p top false e q r = omega arith

module _ (plan : Plan) where
  pos_step : (h : List NodeEntry) (n time caller : ℕ) (event : Event) (s w : ℕ) → w < 32 → Valid plan (entry_at n time caller event ∷ h) → IsLawful plan h (entry_at n time caller event) → ((t : ℕ) → clock_of (position h t) w ≤ clock_at h w w)
      → clock_of (position_after event s (position h s)) w ≤ clock_at (entry_at n time caller event ∷ h) w w
  pos_step h n time caller (Attached t at) s w lt v l old =
      let a : clock_of at w ≤ current_clock (journal h n) w = (l.may_come.1 w lt).0 in
      let b : current_clock (journal h n) w ≡ clock_at h n w = clock_is h n w in
      let c : clock_at h n w ≤ clock_at h w w = (valid_world plan h v.1).own n w lt in
      let p : clock_of (position h s) w ≤ clock_at h w w = old s in
      picked_upto (clock_of (cond (nat_eq t s) at (position h s)) w) (clock_of at w) (clock_of (position h s) w) (clock_at (entry_at n time caller (Attached t at) ∷ h) w w) (nat_eq t s) (picks (nat_eq t s) at (position h s) w) (omega arith) (omega arith)
  pos_step h n time caller (Sent msg) s w lt v l old =
      let i : IsWithinWorld (entry_at n time caller (Sent msg) ∷ h) msg.kind = honest_within (entry_at n time caller (Sent msg) ∷ h) msg.kind ((valid_world plan (entry_at n time caller (Sent msg) ∷ h) v).honest msg (inl refl)) in
      let c : current_clock (journal (entry_at n time caller (Sent msg) ∷ h) w) w ≡ clock_at (entry_at n time caller (Sent msg) ∷ h) w w = clock_is (entry_at n time caller (Sent msg) ∷ h) w w in
      let f : clock_of (from_of msg.kind) w ≤ clock_at h w w = turn_from n (journal h n) (standing plan h msg.stream) (plan.sets n) (plan.stream msg.stream).names msg.kind w (clock_at h w w) l.may_come.2 (old msg.stream) in
      let t : clock_of (to_of msg.kind) w ≤ clock_at (entry_at n time caller (Sent msg) ∷ h) w w = end_reached (clock_of (from_of msg.kind) w) (clock_of (to_of msg.kind) w) (clock_at (entry_at n time caller (Sent msg) ∷ h) w w) (λ past. let r : clock_of (to_of msg.kind) w ≤ current_clock (journal (entry_at n time caller (Sent msg) ∷ h) w) w = i.reached w lt past in omega arith) (omega arith) in
      let p : clock_of (position h s) w ≤ clock_at h w w = old s in
      picked_upto (clock_of (cond (nat_eq msg.stream s) (join_of (position h s) (to_of msg.kind)) (position h s)) w) (max (clock_of (position h s) w) (clock_of (to_of msg.kind) w)) (clock_of (position h s) w) (clock_at (entry_at n time caller (Sent msg) ∷ h) w w) (nat_eq msg.stream s)
      (joined (nat_eq msg.stream s) (position h s) (to_of msg.kind) w lt) (omega arith) (omega arith)
  pos_step h n time caller event s w lt v l old = kept event refl
    where
      kept : (event : Event) → position_after event s (position h s) ≡ position h s → clock_of (position_after event s (position h s)) w ≤ clock_at (entry_at n time caller event ∷ h) w w
      kept event same = let p : clock_of (position h s) w ≤ clock_at h w w = old s in subst (λ (x : List ℕ). clock_of x w ≤ clock_at (entry_at n time caller event ∷ h) w w) (sym same) (omega arith)

  -- a position is not past what was written
  pos_upto : (h : List NodeEntry) → Valid plan h → (s w : ℕ) → w < 32 → clock_of (position h s) w ≤ clock_at h w w
  pos_upto [] v s w lt = let z : ◌≡◌ {A = ℕ} (clock_of zero_vector w) 0 = clock_zero w in omega arith
  pos_upto (e ∷ h) v s w lt = pos_step h e.node e.entry.time e.entry.caller e.entry.event s w lt v v.0 (λ t. pos_upto h v.1 t w lt)

  -- ---- cuts

  cut_upto : (h : List NodeEntry) (n time caller : ℕ) (event : Event) (w : ℕ) → w < 32 → IsLawful plan h (entry_at n time caller event) → clock_of (cut_in event) w ≤ clock_at h n w
  cut_upto h n time caller (Cut at) w lt l = let e : clock_of at w ≡ clock_at h n w = ap (λ (x : List ℕ). clock_of x w) l.may_come ∙ vector_clock h n w lt in omega arith
  cut_upto h n time caller _ w lt l = let z : ◌≡◌ {A = ℕ} (clock_of zero_vector w) 0 = clock_zero w in omega arith

  cuts_step : (b : Bool) (e : Entry) (j : List Entry) (w : ℕ) → w < 32 → clock_of (cuts_of (cond b (e ∷ j) j)) w ≡ max (clock_of (cuts_of j) w) (cond b (clock_of (cut_in e.event) w) 0)
  cuts_step true e j w lt = join_clock (cuts_of j) (cut_in e.event) w lt
  cuts_step false e j w lt = omega arith

  cut_here : (c t a b n m : ℕ) → c ≤ a → (n ≡ m → t ≤ a) → max c (cond (nat_eq n m) t 0) ≤ max a (cond (nat_eq n m) b 0)
  cut_here c t a b n m p q = grind (arith, nat_tests)

  cuts_upto : (h : List NodeEntry) → Valid plan h → (n w : ℕ) → w < 32 → clock_of (cuts_of (journal h n)) w ≤ clock_at h n w
  cuts_upto [] v n w lt = let z : ◌≡◌ {A = ℕ} (clock_of zero_vector w) 0 = clock_zero w in omega arith
  cuts_upto (e ∷ h) v n w lt =
      let s : clock_of (cuts_of (journal (e ∷ h) n)) w ≡ max (clock_of (cuts_of (journal h n)) w) (cond (nat_eq e.node n) (clock_of (cut_in e.entry.event) w) 0) = cuts_step (nat_eq e.node n) e.entry (journal h n) w lt in
      let m : max (clock_of (cuts_of (journal h n)) w) (cond (nat_eq e.node n) (clock_of (cut_in e.entry.event) w) 0) ≤ clock_at (e ∷ h) n w =
      cut_here (clock_of (cuts_of (journal h n)) w) (clock_of (cut_in e.entry.event) w) (clock_at h n w) (clock_brought e.entry.event w) e.node n (cuts_upto h v.1 n w lt)
      (λ here. let c : clock_of (cut_in e.entry.event) w ≤ clock_at h e.node w = cut_upto h e.node e.entry.time e.entry.caller e.entry.event w lt v.0 in let d : clock_at h e.node w ≡ clock_at h n w = ap (λ (k : ℕ). clock_at h k w) here in omega arith) in
      omega arith

  -- ---- writers learn nothing of themselves

  brought_upto : (h : List NodeEntry) (n time caller : ℕ) (event : Event) (w : ℕ) → w < 32 → Valid plan h → IsLawful plan h (entry_at n time caller event) → IsNoStart event → clock_brought event w ≤ clock_at h w w
  brought_upto h n time caller (Wrote client write body after) w lt v l s = absurd s
  brought_upto h n time caller (Accepted msg at) w lt v l s =
      let f : World h = valid_world plan h v in
      let a : clock_of (from_of msg.kind) w ≤ clock_of (current_vector (journal h n)) w = l.may_come.0 w lt in
      let b : clock_of (current_vector (journal h n)) w ≡ clock_at h n w = vector_clock h n w lt in
      let c : clock_at h n w ≤ clock_at h w w = f.own n w lt in
      let d : current_clock (journal h w) w ≡ clock_at h w w = clock_is h w w in
      end_reached (clock_of (from_of msg.kind) w) (clock_of (to_of msg.kind) w) (clock_at h w w)
      (λ past. let r : clock_of (to_of msg.kind) w ≤ current_clock (journal h w) w = (honest_within h msg.kind (f.honest msg l.cause)).reached w lt past in omega arith) (omega arith)
  brought_upto h n time caller _ w lt v l s = omega arith

  own_same : (a b n m : ℕ) → b ≤ a → max a (cond (nat_eq n m) b 0) ≤ a
  own_same a b n m le = grind (arith, nat_tests)

  top_same : (h : List NodeEntry) (e : NodeEntry) (w : ℕ) → w < 32 → Valid plan (e ∷ h) → IsNoStart e.entry.event → current_clock (journal (e ∷ h) w) w ≤ current_clock (journal h w) w
  top_same h e w lt v s =
      let a : current_clock (journal (e ∷ h) w) w ≡ clock_at (e ∷ h) w w = clock_is (e ∷ h) w w in
      let b : current_clock (journal h w) w ≡ clock_at h w w = clock_is h w w in
      let c : clock_at (e ∷ h) w w ≤ clock_at h w w = own_same (clock_at h w w) (clock_brought e.entry.event w) e.node w (brought_upto h e.node e.entry.time e.entry.caller e.entry.event w lt v.1 v.0 s) in
      omega arith

  -- ---- each message raises the position, or sends a new body

  abbrev Raises : List NodeEntry → ℕ → Kind → Type 0
  Raises h s kind = (w : ℕ) × (w < 32) × (clock_of (position h s) w < clock_of (to_of kind) w)

  abbrev IsNewBody : List NodeEntry → ℕ → Kind → Type 0
  IsNewBody h s kind = (x : WriteRec) × (body : List ℕ) × (dep : List ℕ) × WasWritten h x body dep × (has_sent h s x.name x.stamp ≡ false) × (is_body kind x.name x.stamp ≡ true)

  raised_to : (p v u : List ℕ) (w : ℕ) → w < 32 → u ≡ join_of p v → clock_of p w < clock_of v w → clock_of p w < clock_of u w
  raised_to p v u w lt e less =
      let j : clock_of (join_of p v) w ≡ max (clock_of p w) (clock_of v w) = join_clock p v w lt in
      let s : clock_of u w ≡ clock_of (join_of p v) w = ap (λ (x : List ℕ). clock_of x w) e in
      omega arith

  between_node : (p v u : List ℕ) (q : Point) → u ≡ join_of p v → Between p u q → q.node < 32
  between_node p v u q e b =
      let past : clock_of p q.node < q.clock = b.0 in
      covered_node u q (ap (λ (x : List ℕ). length x) e ∙ length-vector_of (λ n. max (clock_of p n) (clock_of v n))) (omega arith, b.1)

  turn_works : (h : List NodeEntry) → World h → (n s : ℕ) (kind : Kind) → IsTurn n (journal h n) (standing plan h s) (SendTurn kind) → Raises h s kind ⊎ IsNewBody h s kind
  turn_works h f n s (Precise from to write) t =
      let c : CoversPoint (Precise from to write) write.stamp = (turn_honest h f n (standing plan h s) (Precise from to write) t).2 in
      let w : (body : List ℕ) × (dep : List ℕ) × WasWritten h write body dep = told_written h f n write (known_told (journal h n) write t.3.0.0) in
      let past : clock_of (position h s) write.stamp.node < write.stamp.clock = subst (λ (x : List ℕ). clock_of x write.stamp.node < write.stamp.clock) t.2 c.0 in
      let le : write.stamp.clock ≤ clock_of to write.stamp.node = c.1 in
      inl (write.stamp.node, (f.is_own write w.0 w.1 w.2).node, omega arith)
  turn_works h f n s (Imprecise from to target) t = elim t.4 [
    | inl all ↦ let less = lesser (current_vector (journal h n)) (position h s) t.1 in inl (less.0, less.1, raised_to (position h s) (current_vector (journal h n)) to less.0 less.1 all.1 less.2)
    | inr next ↦ elim next.3.2 [
      | inl dark ↦
          let past : clock_of (position h s) dark.0.node < dark.0.clock = dark.1.0 in
          let le : dark.0.clock ≤ clock_of to dark.0.node = dark.1.1 in
          inl (dark.0.node, between_node (position h s) (below_of (current_vector (journal h n)) next.0.stamp) to dark.0 next.2 dark.1, omega arith)
      | inr omitted ↦
          let x : WriteRec = omitted.1.0 in
          let past : clock_of (position h s) omitted.1.0.stamp.node < omitted.1.0.stamp.clock = omitted.1.3.0 in
          let le : omitted.1.0.stamp.clock ≤ clock_of to omitted.1.0.stamp.node = omitted.1.3.1 in
          inl (omitted.1.0.stamp.node, between_node (position h s) (below_of (current_vector (journal h n)) next.0.stamp) to omitted.1.0.stamp next.2 omitted.1.3, omega arith)
    ]
  ]
  turn_works h f n s (Checkpoint to target floor rows) t = absurd t
  turn_works h f n s (Body o stamp bytes) t =
      let x = held_written h f n o stamp bytes t.3.0.3 in
      let unsaid : has_sent h s o stamp ≡ false = t.3.0.4 in
      inr (
        x.0,
        bytes,
        x.1,
        x.2,
        ap (λ (q : List ℕ). has_sent h s q x.0.stamp) x.3 ∙ ap (λ (p : Point). has_sent h s o p) x.4 ∙ unsaid,
        (Decides-is_this o stamp x.0.name x.0.stamp).1 (sym x.3, (ap (λ (p : Point). p.clock) (sym x.4), ap (λ (p : Point). p.node) (sym x.4))),
      )

  stale_works : (h : List NodeEntry) → Valid plan h → (n s : ℕ) (names : List Span) (kind : Kind) → IsSnapshot (plan.sets n) n (journal h n) names kind → ¬ Le (cuts_of (journal h n)) (position h s) → Raises h s kind
  stale_works h v n s names (Checkpoint to target floor rows) snap stale =
      let less = lesser (cuts_of (journal h n)) (position h s) stale in
      let a : clock_of (cuts_of (journal h n)) less.0 ≤ clock_at h n less.0 = cuts_upto h v n less.0 less.1 in
      let b : clock_of to less.0 ≡ clock_at h n less.0 = ap (λ (x : List ℕ). clock_of x less.0) snap.0 ∙ vector_clock h n less.0 less.1 in
      let c : clock_of (position h s) less.0 < clock_of (cuts_of (journal h n)) less.0 = less.2 in
      (less.0, less.1, omega arith)
  stale_works h v n s names (Precise a b d) snap stale = absurd snap
  stale_works h v n s names (Imprecise a b d) snap stale = absurd snap
  stale_works h v n s names (Body a b d) snap stale = absurd snap

  not_snap : (sets : List (List Span)) (n : ℕ) (j : List Entry) (names : List Span) (k : Kind) → IsNoCheckpoint k → IsSnapshot sets n j names k → ⊥
  not_snap sets n j names (Checkpoint to target floor rows) c x = c
  not_snap sets n j names (Precise a b d) c x = x
  not_snap sets n j names (Imprecise a b d) c x = x
  not_snap sets n j names (Body a b d) c x = x

  msg_works : (h : List NodeEntry) (n time caller : ℕ) (msg : Msg) → Valid plan h → IsLawful plan h (entry_at n time caller (Sent msg)) → IsNoCheckpoint msg.kind ⊎ ¬ Le (cuts_of (journal h (plan.stream msg.stream).source)) (position h msg.stream)
      → Raises h msg.stream msg.kind ⊎ IsNewBody h msg.stream msg.kind
  msg_works h n time caller msg v l how = elim l.may_come.2 [
    | inl turn ↦ turn_works h (valid_world plan h v) n msg.stream msg.kind turn
    | inr snap ↦ elim how [
      | inl unsaid ↦ absurd (not_snap (plan.sets n) n (journal h n) (plan.stream msg.stream).names msg.kind unsaid snap)
      | inr stale ↦ inl (stale_works h v n msg.stream (plan.stream msg.stream).names msg.kind snap (subst (λ (m : ℕ). ¬ Le (cuts_of (journal h m)) (position h msg.stream)) (sym l.placed) stale))
    ]
  ]

  -- ---- what is left

  lag_le : (h : List NodeEntry) (e : NodeEntry) (s : ℕ) → Valid plan (e ∷ h) → IsNoStart e.entry.event → lag (e ∷ h) s ≤ lag h s
  lag_le h e s v n = sum_le (λ w. current_clock (journal (e ∷ h) w) w - clock_of (position (e ∷ h) s) w) (λ w. current_clock (journal h w) w - clock_of (position h s) w) 32
      (λ w lt. diff_le (current_clock (journal (e ∷ h) w) w) (current_clock (journal h w) w) (clock_of (position h s) w) (clock_of (position (e ∷ h) s) w) (top_same h e w lt v n) (pos_grows e.entry.event s (position h s) w lt n))

  one_le : (h : List NodeEntry) (e : NodeEntry) (s : ℕ) → Valid plan (e ∷ h) → IsNoStart e.entry.event → lag (e ∷ h) s + unsent (e ∷ h) (has_sent (e ∷ h) s) ≤ lag h s + unsent h (has_sent h s)
  one_le h e s v n =
      let a : lag (e ∷ h) s ≤ lag h s = lag_le h e s v n in
      let b : unsent h (has_sent (e ∷ h) s) ≤ unsent h (has_sent h s) = unsent_le h (has_sent h s) (has_sent (e ∷ h) s) (λ o t was. sent_grows e.entry.event s (has_sent h s) o t n was) in
      let c : counts_unsent e.entry.event (has_sent (e ∷ h) s) ≡ 0 = none_counted e.entry.event (has_sent (e ∷ h) s) n in
      omega arith

  all_le : (h : List NodeEntry) (e : NodeEntry) (streams : List ℕ) → Valid plan (e ∷ h) → IsNoStart e.entry.event → left_to_send (e ∷ h) streams ≤ left_to_send h streams
  all_le h e [] v n = omega arith
  all_le h e (s ∷ streams) v n =
      let a : left_to_send (e ∷ h) streams ≤ left_to_send h streams = all_le h e streams v n in
      let b : lag (e ∷ h) s + unsent (e ∷ h) (has_sent (e ∷ h) s) ≤ lag h s + unsent h (has_sent h s) = one_le h e s v n in
      omega arith

  one_lt : (h : List NodeEntry) (n time caller : ℕ) (msg : Msg) → Valid plan (entry_at n time caller (Sent msg) ∷ h) → Raises h msg.stream msg.kind ⊎ IsNewBody h msg.stream msg.kind
      → lag (entry_at n time caller (Sent msg) ∷ h) msg.stream + unsent (entry_at n time caller (Sent msg) ∷ h) (has_sent (entry_at n time caller (Sent msg) ∷ h) msg.stream) < lag h msg.stream + unsent h (has_sent h msg.stream)
  one_lt h n time caller msg v how =
      let e : NodeEntry = entry_at n time caller (Sent msg) in
      let mine : nat_eq msg.stream msg.stream ≡ true = (Decides-eqb msg.stream msg.stream).1 refl in
      let less : unsent h (has_sent (entry_at n time caller (Sent msg) ∷ h) msg.stream) ≤ unsent h (has_sent h msg.stream) = unsent_le h (has_sent h msg.stream) (has_sent (entry_at n time caller (Sent msg) ∷ h) msg.stream) (λ o t was. sent_grows (Sent msg) msg.stream (has_sent h msg.stream) o t tt was) in
      let le : lag (entry_at n time caller (Sent msg) ∷ h) msg.stream ≤ lag h msg.stream = lag_le h (entry_at n time caller (Sent msg)) msg.stream v tt in
      elim how [
        | inl r ↦
            let j : clock_of (cond (nat_eq msg.stream msg.stream) (join_of (position h msg.stream) (to_of msg.kind)) (position h msg.stream)) r.0 ≡ cond (nat_eq msg.stream msg.stream) (max (clock_of (position h msg.stream) r.0) (clock_of (to_of msg.kind) r.0)) (clock_of (position h msg.stream) r.0) = joined (nat_eq msg.stream msg.stream) (position h msg.stream) (to_of msg.kind) r.0 r.1 in
            let k : clock_of (position (entry_at n time caller (Sent msg) ∷ h) msg.stream) r.0 ≡ max (clock_of (position h msg.stream) r.0) (clock_of (to_of msg.kind) r.0) = j ∙ ap (λ (b : Bool). cond b (max (clock_of (position h msg.stream) r.0) (clock_of (to_of msg.kind) r.0)) (clock_of (position h msg.stream) r.0)) mine in
            let up : clock_of (position h msg.stream) r.0 < clock_of (to_of msg.kind) r.0 = r.2 in
            let top : clock_of (position (entry_at n time caller (Sent msg) ∷ h) msg.stream) r.0 ≤ clock_at (entry_at n time caller (Sent msg) ∷ h) r.0 r.0 = pos_upto (entry_at n time caller (Sent msg) ∷ h) v msg.stream r.0 r.1 in
            let now : current_clock (journal (entry_at n time caller (Sent msg) ∷ h) r.0) r.0 ≡ clock_at (entry_at n time caller (Sent msg) ∷ h) r.0 r.0 = clock_is (entry_at n time caller (Sent msg) ∷ h) r.0 r.0 in
            let same : current_clock (journal (entry_at n time caller (Sent msg) ∷ h) r.0) r.0 ≤ current_clock (journal h r.0) r.0 = top_same h (entry_at n time caller (Sent msg)) r.0 r.1 v tt in
            let l : lag (entry_at n time caller (Sent msg) ∷ h) msg.stream < lag h msg.stream = sum_lt (λ w. current_clock (journal (entry_at n time caller (Sent msg) ∷ h) w) w - clock_of (position (entry_at n time caller (Sent msg) ∷ h) msg.stream) w) (λ w. current_clock (journal h w) w - clock_of (position h msg.stream) w) 32 r.0
            (λ w lt. diff_le (current_clock (journal (entry_at n time caller (Sent msg) ∷ h) w) w) (current_clock (journal h w) w) (clock_of (position h msg.stream) w) (clock_of (position (entry_at n time caller (Sent msg) ∷ h) msg.stream) w) (top_same h (entry_at n time caller (Sent msg)) w lt v tt) (pos_grows (Sent msg) msg.stream (position h msg.stream) w lt tt))
            r.1
            (diff_lt (current_clock (journal (entry_at n time caller (Sent msg) ∷ h) r.0) r.0) (current_clock (journal h r.0) r.0) (clock_of (position h msg.stream) r.0) (clock_of (position (entry_at n time caller (Sent msg) ∷ h) msg.stream) r.0) same (omega arith) (omega arith)) in
            omega arith
        | inr b ↦
            let said : ((nat_eq msg.stream msg.stream && is_body msg.kind b.0.name b.0.stamp) || has_sent h msg.stream b.0.name b.0.stamp) ≡ true = left_true (nat_eq msg.stream msg.stream) (is_body msg.kind b.0.name b.0.stamp) (has_sent h msg.stream b.0.name b.0.stamp) mine b.5 in
            let u : unsent h (has_sent (entry_at n time caller (Sent msg) ∷ h) msg.stream) < unsent h (has_sent h msg.stream) = unsent_lt h b.0 b.1 b.2 (has_sent h msg.stream) (has_sent (entry_at n time caller (Sent msg) ∷ h) msg.stream) (λ o t was. sent_grows (Sent msg) msg.stream (has_sent h msg.stream) o t tt was) b.3 b.4 said in
            omega arith
      ]
    where
      left_true : (a b c : Bool) → a ≡ true → b ≡ true → ((a && b) || c) ≡ true
      left_true true true c p q = refl
      left_true false b c p q = cc
      left_true a false c p q = cc

  all_lt : (h : List NodeEntry) (n time caller : ℕ) (msg : Msg) (streams : List ℕ) → Valid plan (entry_at n time caller (Sent msg) ∷ h) → Raises h msg.stream msg.kind ⊎ IsNewBody h msg.stream msg.kind
      → (i : ℕ) → i < length streams → get_or streams i msg.stream ≡ msg.stream → left_to_send (entry_at n time caller (Sent msg) ∷ h) streams < left_to_send h streams
  all_lt h n time caller msg [] v how i lt is = absurd (omega arith)
  all_lt h n time caller msg (s ∷ streams) v how zero lt is =
      let a : left_to_send (entry_at n time caller (Sent msg) ∷ h) streams ≤ left_to_send h streams = all_le h (entry_at n time caller (Sent msg)) streams v tt in
      let b : lag (entry_at n time caller (Sent msg) ∷ h) s + unsent (entry_at n time caller (Sent msg) ∷ h) (has_sent (entry_at n time caller (Sent msg) ∷ h) s) < lag h s + unsent h (has_sent h s) =
      subst (λ (k : ℕ). lag (entry_at n time caller (Sent msg) ∷ h) k + unsent (entry_at n time caller (Sent msg) ∷ h) (has_sent (entry_at n time caller (Sent msg) ∷ h) k) < lag h k + unsent h (has_sent h k)) (sym is) (one_lt h n time caller msg v how) in
      omega arith
  all_lt h n time caller msg (s ∷ streams) v how (suc i) lt is =
      let a : left_to_send (entry_at n time caller (Sent msg) ∷ h) streams < left_to_send h streams = all_lt h n time caller msg streams v how i (omega arith) is in
      let b : lag (entry_at n time caller (Sent msg) ∷ h) s + unsent (entry_at n time caller (Sent msg) ∷ h) (has_sent (entry_at n time caller (Sent msg) ∷ h) s) ≤ lag h s + unsent h (has_sent h s) = one_le h (entry_at n time caller (Sent msg)) s v tt in
      omega arith

  falls : (h : List NodeEntry) (n time caller : ℕ) (event : Event) (streams : List ℕ) → Valid plan (entry_at n time caller event ∷ h) → SendsOn plan h streams event → left_to_send (entry_at n time caller event ∷ h) streams < left_to_send h streams
  falls h n time caller (Sent msg) streams v on = all_lt h n time caller msg streams v (msg_works h n time caller msg v.1 v.0 on.1) on.0.0 on.0.1 on.0.2
  falls h n time caller _ streams v on = absurd on

pub less_is_left : LessIsLeft
less_is_left plan h e streams v n = (all_le plan h e streams v n, λ on. falls plan h e.node e.entry.time e.entry.caller e.entry.event streams v on)
