-- Vectors, and what one has above another.
use Rattle.std.proofs.Common.{◌≡◌, ◌≢◌, ℕ, zero, suc, ◌+◌, ◌-◌, ◌<◌, ◌≤◌, Bool, true, false, cond, List, [], ◌∷◌, ◌++◌, length, Option, Some, None, refl, sym, ap, subst, ◌∙◌, append_assoc, arith, inl, inr}
use Rattle.std.specs.Prelude.{nat_lt, nat_le, nat_eq, ◌&&◌, max, flat_map}
use Rattle.std.proofs.lemmas.Bool.{and_parts, and_from, cases_lt, eq-eqb, ne_eqb, leb-true, le-leb, ltb-true, lt-ltb}
use Rattle.std.proofs.lemmas.List.{nil_from_length}
use Rattle.pr_stamps.specs.Point.{Point, IsStamp}
use Rattle.pr_vectors.specs.Vector.{IsVector, Le, clock_of, raised, zero_vector}
use Rattle.pr_vectors.proofs.Vectors.{clock_of-vector_of, is-vector_of, is_in_range, length-vector_of}
use Rattle.pr_wire.specs.declared.format.Format.{Format}
use Rattle.pr_wire.specs.declared.format.Format.TheVariants.{One, Two}
use Rattle.pr_wire.specs.Spelling.{above, eight, end_text, entry_text, rise_text, vector_text}
use Rattle.pr_wire.specs.Reading.{◌>>=◌, byte_at, eight_at, end_at, entries_at, entry_at, given, rise_at, stamp_of, vector_at, vector_le}
use Rattle.pr_wire.proofs.Above.{above_rise, above_same, le_true, none_above, true_le}
use Rattle.pr_wire.proofs.Fields.{IsBytes, IsField, Read, bind_some, byte_field, eight_field, given_some, glue, one_byte, some_is}
use Rattle.pr_wire.proofs.StampFields.{is_stamp, stamp_is}

-- ---- raised vectors

pub raised_here : (v : List ℕ) (p : Point) → p.node < 32 → clock_of v p.node ≤ p.clock → clock_of (raised v p) p.node ≡ p.clock
raised_here v p known le =
    let e : nat_eq p.node p.node ≡ true = eq-eqb p.node p.node refl in
    clock_of-vector_of (λ n. cond (nat_eq n p.node) (max (clock_of v n) p.clock) (clock_of v n)) p.node known ∙ rw e (omega arith)

pub raised_other : (v : List ℕ) (p : Point) (m : ℕ) → m < 32 → m ≢ p.node → clock_of (raised v p) m ≡ clock_of v m
raised_other v p m known other =
    let e : nat_eq m p.node ≡ false = ne_eqb m p.node other in
    clock_of-vector_of (λ n. cond (nat_eq n p.node) (max (clock_of v n) p.clock) (clock_of v n)) m known ∙ rw e refl

most_of : (b : Bool) (x c most : ℕ) → x ≤ most → c ≤ most → cond b (max x c) x ≤ most
most_of true x c most h g = omega arith
most_of false x c most h g = h

pub raised_vector : (v : List ℕ) (p : Point) → IsVector v → IsStamp p → IsVector (raised v p)
raised_vector v p vector stamp =
    let f : ℕ → ℕ = λ n. cond (nat_eq n p.node) (max (clock_of v n) p.clock) (clock_of v n) in
    is_in_range f (raised v p) (length-vector_of f) (λ k lt. clock_of-vector_of f k lt) (λ k lt. most_of (nat_eq k p.node) (clock_of v k) p.clock 4611686018427387903 (vector.most k lt) stamp.most)

pub same_clocks : (v w : List ℕ) → IsVector v → IsVector w → ((m : ℕ) → m < 32 → clock_of v m ≡ clock_of w m) → v ≡ w
same_clocks v w vector other same = is-vector_of (clock_of w) v vector.nodes same ∙ sym (is-vector_of (clock_of w) w other.nodes (λ m lt. refl))

pub zero_is : IsVector zero_vector
zero_is = is_in_range (λ _. 0) zero_vector (length-vector_of (λ _. 0)) (λ k lt. clock_of-vector_of (λ _. 0) k lt) (λ k lt. omega arith)

pub zero_le : (v : List ℕ) → Le zero_vector v
zero_le v n lt = rw (clock_of-vector_of (λ _. 0) n lt) (omega arith)

-- ---- what is above

-- nodes at which nothing rises may be passed over
above_skip : (v w : List ℕ) (j a n b k : ℕ) → b ≡ a + j → n ≡ j + k → ((m : ℕ) → a ≤ m → m < b → clock_of w m ≤ clock_of v m) → above v w a n ≡ above v w b k
above_skip v w zero a n b k eb en le =
    let same : b ≡ a = omega arith in
    let count : n ≡ k = omega arith in
    rw (same, count) refl
above_skip v w (suc j) a n b k eb en le =
    let count : n ≡ suc (j + k) = omega arith in
    rw count (above_same v w a (j + k) (le a (omega arith) (omega arith)) ∙ above_skip v w j (a + 1) (j + k) b k (omega arith) refl (λ m from to. le m (omega arith) to))

pub nothing_above : (v w : List ℕ) (a k : ℕ) → ((m : ℕ) → a ≤ m → m < a + k → clock_of w m ≤ clock_of v m) → above v w a k ≡ []
nothing_above v w a k le = nil_from_length (above v w a k) (none_above v w a k le)

-- ---- one entry

pub record IsEntry (next : ℕ) (from : List ℕ) (p : Point) : Type 0 where
  pub stamp : IsStamp p
  pub later : next ≤ p.node
  pub rises : clock_of from p.node < p.clock

entry_takes : (next : ℕ) (from bytes : List ℕ) (y : Point × List ℕ) → IsBytes bytes → entry_at next from bytes ≡ Some y → Read entry_text (IsEntry next from) bytes y
unfolding entry_at entry_text
entry_takes next from bytes y fits e =
    let a = bind_some (byte_at bytes) (λ node. eight_at node.1 >>= λ clock. stamp_of clock.0 node.0 >>= λ stamp. given (nat_le next stamp.node && nat_lt (clock_of from stamp.node) stamp.clock) (stamp, clock.1)) y e in
    let b = bind_some (eight_at a.0.1) (λ clock. stamp_of clock.0 a.0.0 >>= λ stamp. given (nat_le next stamp.node && nat_lt (clock_of from stamp.node) stamp.clock) (stamp, clock.1)) y a.2 in
    let c = bind_some (stamp_of b.0.0 a.0.0) (λ stamp. given (nat_le next stamp.node && nat_lt (clock_of from stamp.node) stamp.clock) (stamp, b.0.1)) y b.2 in
    let made : Point × List ℕ = (c.0, b.0.1) in
    let g = given_some (nat_le next c.0.node && nat_lt (clock_of from c.0.node) c.0.clock) made y c.2 in
    let tests = and_parts (nat_le next c.0.node) (nat_lt (clock_of from c.0.node) c.0.clock) g.0 in
    let node = byte_field.takes bytes a.0 fits a.1 in
    let clock = eight_field.takes a.0.1 b.0 node.fits b.1 in
    let is = stamp_is b.0.0 a.0.0 c.0 c.1 in
    let parts : bytes ≡ entry_text (record { clock = b.0.0; node = a.0.0 }) ++ b.0.1 = glue bytes (one_byte a.0.0) a.0.1 (eight b.0.0) b.0.1 node.parts clock.parts in
    subst (Read entry_text (IsEntry next from) bytes) g.1 (record {
      parts = subst (λ (p : Point). bytes ≡ entry_text p ++ b.0.1) is.0 parts;
      fits = clock.fits;
      holds = record { stamp = is.1; later = leb-true _ _ tests.0; rises = ltb-true _ _ tests.1 };
    })

entry_again : (next : ℕ) (from : List ℕ) (p : Point) (rest : List ℕ) → IsEntry next from p → entry_at next from (entry_text p ++ rest) ≡ Some (p, rest)
unfolding entry_at entry_text
entry_again next from p rest h =
    let tests : (nat_le next p.node && nat_lt (clock_of from p.node) p.clock) ≡ true = and_from _ _ (le-leb _ _ h.later) (lt-ltb _ _ h.rises) in
    rw (eight_field.again p.clock rest (omega (arith, h.stamp.most)), is_stamp p h.stamp, tests) refl

-- an entry is one above another vector that has the same clocks from the node on
bind_same : {A B : Type 0} (o : Option A) (f g : A → Option B) → ((x : A) → o ≡ Some x → f x ≡ g x) → (o >>= f) ≡ (o >>= g)
bind_same None f g same = refl
bind_same (Some x) f g same = same x refl

and_same : (a b c : Bool) → (a ≡ true → b ≡ c) → (a && b) ≡ (a && c)
and_same true b c same = same refl
and_same false b c same = refl

pub same_entry : (next : ℕ) (v w bytes : List ℕ) → ((n : ℕ) → next ≤ n → n < 32 → clock_of v n ≡ clock_of w n) → entry_at next v bytes ≡ entry_at next w bytes
unfolding entry_at
same_entry next v w bytes later =
    bind_same (byte_at bytes) (λ node. eight_at node.1 >>= λ clock. stamp_of clock.0 node.0 >>= λ stamp. given (nat_le next stamp.node && nat_lt (clock_of v stamp.node) stamp.clock) (stamp, clock.1)) (λ node. eight_at node.1 >>= λ clock. stamp_of clock.0 node.0 >>= λ stamp. given (nat_le next stamp.node && nat_lt (clock_of w stamp.node) stamp.clock) (stamp, clock.1)) (λ node _.
    bind_same (eight_at node.1) (λ clock. stamp_of clock.0 node.0 >>= λ stamp. given (nat_le next stamp.node && nat_lt (clock_of v stamp.node) stamp.clock) (stamp, clock.1)) (λ clock. stamp_of clock.0 node.0 >>= λ stamp. given (nat_le next stamp.node && nat_lt (clock_of w stamp.node) stamp.clock) (stamp, clock.1)) (λ clock _.
    bind_same (stamp_of clock.0 node.0) (λ stamp. given (nat_le next stamp.node && nat_lt (clock_of v stamp.node) stamp.clock) (stamp, clock.1)) (λ stamp. given (nat_le next stamp.node && nat_lt (clock_of w stamp.node) stamp.clock) (stamp, clock.1)) (λ stamp is.
    let known = (stamp_is clock.0 node.0 stamp is).1.known_node in
    let made : Point × List ℕ = (stamp, clock.1) in
    ap (λ (test : Bool). given test made) (and_same (nat_le next stamp.node) (nat_lt (clock_of v stamp.node) stamp.clock) (nat_lt (clock_of w stamp.node) stamp.clock) (λ e. ap (λ (k : ℕ). nat_lt k stamp.clock) (later stamp.node (leb-true _ _ e) known))))))

-- a vector that was raised at a node is as it was from the next one on
pub later_same : (next : ℕ) (from to : List ℕ) (p : Point) → next ≤ p.node → ((n : ℕ) → next ≤ n → n < 32 → clock_of to n ≡ clock_of from n)
    → (n : ℕ) → p.node + 1 ≤ n → n < 32 → clock_of (raised to p) n ≡ clock_of from n
later_same next from to p later same n behind lt = raised_other to p n lt (λ e. omega arith) ∙ same n (omega arith) lt

-- the node of an entry is not before the next one
pub entry_later : (next : ℕ) (from bytes : List ℕ) (p : Point) (rest : List ℕ) → entry_at next from bytes ≡ Some (p, rest) → next ≤ p.node
unfolding entry_at
entry_later next from bytes p rest e =
    let y : Point × List ℕ = (p, rest) in
    let a = bind_some (byte_at bytes) (λ node. eight_at node.1 >>= λ clock. stamp_of clock.0 node.0 >>= λ stamp. given (nat_le next stamp.node && nat_lt (clock_of from stamp.node) stamp.clock) (stamp, clock.1)) y e in
    let b = bind_some (eight_at a.0.1) (λ clock. stamp_of clock.0 a.0.0 >>= λ stamp. given (nat_le next stamp.node && nat_lt (clock_of from stamp.node) stamp.clock) (stamp, clock.1)) y a.2 in
    let c = bind_some (stamp_of b.0.0 a.0.0) (λ stamp. given (nat_le next stamp.node && nat_lt (clock_of from stamp.node) stamp.clock) (stamp, b.0.1)) y b.2 in
    let made : Point × List ℕ = (c.0, b.0.1) in
    let g = given_some (nat_le next c.0.node && nat_lt (clock_of from c.0.node) c.0.clock) made y c.2 in
    let tests = and_parts (nat_le next c.0.node) (nat_lt (clock_of from c.0.node) c.0.clock) g.0 in
    subst (λ (q : Point × List ℕ). next ≤ q.0.node) g.1 (leb-true _ _ tests.0)

-- ---- entries

record IsRaised (next : ℕ) (from to bytes : List ℕ) (n : ℕ) (y : List ℕ × List ℕ) : Type 0 where
  pub parts : bytes ≡ flat_map entry_text (above from y.0 next (32 - next)) ++ y.1
  pub count : length (above from y.0 next (32 - next)) ≡ n
  pub fits : IsBytes y.1
  pub vector : IsVector y.0
  pub le : Le from y.0
  pub kept : (m : ℕ) → m < next → clock_of y.0 m ≡ clock_of to m

-- a vector that is the first one from a node on, and at least that before
record IsBegun (next : ℕ) (from to : List ℕ) : Type 0 where
  pub vector : IsVector to
  pub le : Le from to
  pub same : (m : ℕ) → next ≤ m → m < 32 → clock_of to m ≡ clock_of from m

raised_begins : (next : ℕ) (from to : List ℕ) (p : Point) → IsBegun next from to → IsEntry next from p → IsBegun (p.node + 1) from (raised to p)
raised_begins next from to p h entry = record {
  vector = raised_vector to p h.vector entry.stamp;
  le = λ m lt. elim (cases_lt m p.node) [
    | inl before ↦ rw (raised_other to p m lt (λ e. omega arith)) (h.le m lt)
    | inr after ↦ elim (cases_lt p.node m) [
      | inl later ↦ rw (raised_other to p m lt (λ e. omega arith)) (h.le m lt)
      | inr here ↦
          let at : m ≡ p.node = omega arith in
          let low : clock_of to p.node ≡ clock_of from p.node = h.same p.node entry.later entry.stamp.known_node in
          rw at (rw (raised_here to p entry.stamp.known_node (omega (arith, entry.rises))) (omega (arith, entry.rises)))
    ]
  ];
  same = λ m later lt. rw (raised_other to p m lt (λ e. omega arith)) (h.same m (omega (arith, entry.later)) lt);
}

-- an entry, and what was raised behind it
entry_behind : (n next : ℕ) (from to bytes : List ℕ) (p : Point) (rest : List ℕ) (y : List ℕ × List ℕ) → IsBegun next from to → IsEntry next from p → bytes ≡ entry_text p ++ rest → IsRaised (p.node + 1) from (raised to p) rest n y → IsRaised next from to bytes (suc n) y
entry_behind n next from to bytes p rest y h entry parts later =
    let w = y.0 in
    let low : clock_of to p.node ≡ clock_of from p.node = h.same p.node entry.later entry.stamp.known_node in
    let here : clock_of w p.node ≡ p.clock = later.kept p.node (omega arith) ∙ raised_here to p entry.stamp.known_node (omega (arith, entry.rises)) in
    let between : (m : ℕ) → next ≤ m → m < p.node → clock_of w m ≤ clock_of from m = λ m from_next lt. rw (later.kept m (omega arith) ∙ raised_other to p m (omega (arith, entry.stamp.known_node)) (λ e. omega arith) ∙ h.same m from_next (omega (arith, entry.stamp.known_node))) (omega arith) in
    let skip : above from w next (32 - next) ≡ above from w p.node (suc (32 - (p.node + 1))) = above_skip from w (p.node - next) next (32 - next) p.node (suc (32 - (p.node + 1))) (omega (arith, entry.later)) (omega (arith, entry.later, entry.stamp.known_node)) between in
    let rise : above from w p.node (suc (32 - (p.node + 1))) ≡ record { clock = clock_of w p.node; node = p.node } ∷ above from w (p.node + 1) (32 - (p.node + 1)) = above_rise from w p.node (32 - (p.node + 1)) (omega (arith, here, entry.rises)) in
    let one : above from w next (32 - next) ≡ p ∷ above from w (p.node + 1) (32 - (p.node + 1)) = skip ∙ rise ∙ ap (λ (c : ℕ). let q : Point = record { clock = c; node = p.node } in q ∷ above from w (p.node + 1) (32 - (p.node + 1))) here in
    record {
      parts = glue bytes (entry_text p) rest (flat_map entry_text (above from w (p.node + 1) (32 - (p.node + 1)))) y.1 parts later.parts ∙ ap (λ (ps : List Point). flat_map entry_text ps ++ y.1) (sym one);
      count = ap length one ∙ ap suc later.count;
      fits = later.fits;
      vector = later.vector;
      le = later.le;
      kept = λ m lt. later.kept m (omega (arith, entry.later)) ∙ raised_other to p m (omega (arith, entry.later, entry.stamp.known_node)) (λ e. omega (arith, entry.later));
    }

entries_take : (n next : ℕ) (from to bytes : List ℕ) (y : List ℕ × List ℕ) → IsBegun next from to → IsBytes bytes → entries_at n next from to bytes ≡ Some y → IsRaised next from to bytes n y
unfolding entries_at
entries_take zero next from to bytes y h fits e =
    let none : above from to next (32 - next) ≡ [] = nothing_above from to next (32 - next) (λ m later lt. rw (h.same m later (omega arith)) (omega arith)) in
    subst (IsRaised next from to bytes zero) (some_is (to, bytes) y e) (record {
      parts = ap (λ (ps : List Point). flat_map entry_text ps ++ bytes) (sym none);
      count = ap length none;
      fits = fits;
      vector = h.vector;
      le = h.le;
      kept = λ m lt. refl;
    })
entries_take (suc n) next from to bytes y h fits e =
    let a = bind_some (entry_at next from bytes) (λ entry. entries_at n (entry.0.node + 1) from (raised to entry.0) entry.1) y e in
    let entry = entry_takes next from bytes a.0 fits a.1 in
    let later = entries_take n (a.0.0.node + 1) from (raised to a.0.0) a.0.1 y (raised_begins next from to a.0.0 h entry.holds) entry.fits a.2 in
    entry_behind n next from to bytes a.0.0 a.0.1 y h entry.holds entry.parts later

-- a vector that is the last one before a node, and the first one from it on
record IsOnWay (a : ℕ) (from to cur : List ℕ) : Type 0 where
  pub start : IsVector from
  pub end : IsVector to
  pub le : Le from to
  pub vector : IsVector cur
  pub done : (m : ℕ) → m < a → clock_of cur m ≡ clock_of to m
  pub left : (m : ℕ) → a ≤ m → m < 32 → clock_of cur m ≡ clock_of from m

entries_again : (k a next : ℕ) (from to cur rest : List ℕ) → IsOnWay a from to cur → a + k ≡ 32 → next ≤ a → entries_at (length (above from to a k)) next from cur (flat_map entry_text (above from to a k) ++ rest) ≡ Some (to, rest)
unfolding entries_at above
entries_again zero a next from to cur rest h e le =
    ap (λ (v : List ℕ). let r : Option (List ℕ × List ℕ) = Some (v, rest) in r) (same_clocks cur to h.vector h.end (λ m lt. h.done m (omega arith)))
entries_again (suc k) a next from to cur rest h e le =
    elim (cases_lt (clock_of from a) (clock_of to a)) [
      | inl lt ↦
          let p : Point = record { clock = clock_of to a; node = a } in
          let stamp : IsStamp p = record { from_one = omega arith; most = h.end.most a (omega arith); known_node = omega arith } in
          let entry : IsEntry next from p = record { stamp = stamp; later = le; rises = lt } in
          let here : clock_of cur a ≡ clock_of from a = h.left a (omega arith) (omega arith) in
          let onward : IsOnWay (a + 1) from to (raised cur p) = record {
            start = h.start;
            end = h.end;
            le = h.le;
            vector = raised_vector cur p h.vector stamp;
            done = λ m less. elim (cases_lt m a) [
              | inl before ↦ raised_other cur p m (omega arith) (λ q. omega arith) ∙ h.done m before
              | inr after ↦ let at : m ≡ a = omega arith in rw at (raised_here cur p stamp.known_node (omega arith))
            ];
            left = λ m more below. raised_other cur p m below (λ q. omega arith) ∙ h.left m (omega arith) below;
          } in
          let later = entries_again k (a + 1) (a + 1) from to (raised cur p) rest onward (omega arith) (omega arith) in
          let texts : flat_map entry_text (p ∷ above from to (a + 1) k) ++ rest ≡ entry_text p ++ (flat_map entry_text (above from to (a + 1) k) ++ rest) = append_assoc (entry_text p) (flat_map entry_text (above from to (a + 1) k)) rest in
          let P : List Point → Type 0 = λ ps. entries_at (length ps) next from cur (flat_map entry_text ps ++ rest) ≡ Some (to, rest) in
          subst P (sym (above_rise from to a k lt)) (ap (λ (bs : List ℕ). entries_at (suc (length (above from to (a + 1) k))) next from cur bs) texts ∙ rw (entry_again next from p (flat_map entry_text (above from to (a + 1) k) ++ rest) entry) later)
      | inr same ↦
          let equal : clock_of to a ≡ clock_of from a = omega (arith, h.le a (omega arith)) in
          let onward : IsOnWay (a + 1) from to cur = record {
            start = h.start;
            end = h.end;
            le = h.le;
            vector = h.vector;
            done = λ m less. elim (cases_lt m a) [
              | inl before ↦ h.done m before
              | inr after ↦ let at : m ≡ a = omega arith in rw at (h.left a (omega arith) (omega arith) ∙ sym equal)
            ];
            left = λ m more below. h.left m (omega arith) below;
          } in
          let P : List Point → Type 0 = λ ps. entries_at (length ps) next from cur (flat_map entry_text ps ++ rest) ≡ Some (to, rest) in
          subst P (sym (above_same from to a k same)) (entries_again k (a + 1) next from to cur rest onward (omega arith) (omega arith))
    ]

-- ---- rises and vectors

pub record IsEnd (from to : List ℕ) : Type 0 where
  pub vector : IsVector to
  pub le : Le from to

rise_takes : (from : List ℕ) → IsVector from → (bytes : List ℕ) (y : List ℕ × List ℕ) → IsBytes bytes → rise_at from bytes ≡ Some y → Read (rise_text from) (IsEnd from) bytes y
unfolding rise_at rise_text
rise_takes from vector bytes y fits e =
    let a = bind_some (byte_at bytes) (λ count. entries_at count.0 0 from from count.1) y e in
    let count = byte_field.takes bytes a.0 fits a.1 in
    let begun : IsBegun 0 from from = record { vector = vector; le = λ m lt. omega arith; same = λ m later lt. refl } in
    let entries = entries_take a.0.0 0 from from a.0.1 y begun count.fits a.2 in
    record {
      parts = count.parts ∙ ap (λ (t : List ℕ). a.0.0 ∷ t) entries.parts ∙ ap (λ (k : ℕ). k ∷ (flat_map entry_text (above from y.0 0 32) ++ y.1)) (sym entries.count);
      fits = entries.fits;
      holds = record { vector = entries.vector; le = entries.le };
    }

rise_again : (from : List ℕ) → IsVector from → (to rest : List ℕ) → IsEnd from to → rise_at from (rise_text from to ++ rest) ≡ Some (to, rest)
unfolding rise_at rise_text
rise_again from vector to rest h =
    entries_again 32 0 0 from to from rest (record { start = vector; end = h.vector; le = h.le; vector = vector; done = λ m lt. absurd (omega arith); left = λ m more lt. refl }) refl (omega arith)

pub rise_field : (from : List ℕ) → IsVector from → IsField (rise_at from) (rise_text from) (IsEnd from)
rise_field from vector = record { takes = rise_takes from vector; again = rise_again from vector }

vector_takes : (bytes : List ℕ) (y : List ℕ × List ℕ) → IsBytes bytes → vector_at bytes ≡ Some y → Read vector_text IsVector bytes y
unfolding vector_at vector_text
vector_takes bytes y fits e = let r = rise_takes zero_vector zero_is bytes y fits e in record { parts = r.parts; fits = r.fits; holds = r.holds.vector }

vector_again : (v rest : List ℕ) → IsVector v → vector_at (vector_text v ++ rest) ≡ Some (v, rest)
unfolding vector_at vector_text
vector_again v rest h = rise_again zero_vector zero_is v rest (record { vector = h; le = zero_le v })

pub vector_field : IsField vector_at vector_text IsVector
vector_field = record { takes = vector_takes; again = vector_again }

-- ---- the end of points

end_takes : (f : Format) (from : List ℕ) → IsVector from → (bytes : List ℕ) (y : List ℕ × List ℕ) → IsBytes bytes → end_at f from bytes ≡ Some y → Read (end_text f from) (IsEnd from) bytes y
unfolding end_at end_text
end_takes One from vector bytes y fits e =
    let a = bind_some (vector_at bytes) (λ to. given (vector_le from to.0) to) y e in
    let to = vector_field.takes bytes a.0 fits a.1 in
    let g = given_some (vector_le from a.0.0) a.0 y a.2 in
    subst (Read (end_text One from) (IsEnd from) bytes) g.1 (record { parts = to.parts; fits = to.fits; holds = record { vector = to.holds; le = le_true from a.0.0 g.0 } })
end_takes Two from vector bytes y fits e = let r = rise_takes from vector bytes y fits e in record { parts = r.parts; fits = r.fits; holds = r.holds }

end_again : (f : Format) (from : List ℕ) → IsVector from → (to rest : List ℕ) → IsEnd from to → end_at f from (end_text f from to ++ rest) ≡ Some (to, rest)
unfolding end_at end_text
end_again One from vector to rest h = let test = true_le from to h.le in rw (vector_field.again to rest h.vector, test) refl
end_again Two from vector to rest h = rise_again from vector to rest h

pub end_field : (f : Format) (from : List ℕ) → IsVector from → IsField (end_at f from) (end_text f from) (IsEnd from)
end_field f from vector = record { takes = end_takes f from vector; again = end_again f from vector }
