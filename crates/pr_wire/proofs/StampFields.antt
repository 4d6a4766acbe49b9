-- Stamps, marks, and whether a write is a delete.
use Rattle.std.proofs.Common.{◌≡◌, ℕ, zero, suc, Bool, true, false, List, [], ◌∷◌, ◌++◌, Option, Some, None, refl, sym, ap, subst, ◌∙◌, append_assoc, arith, inl, inr}
use Rattle.std.specs.Prelude.{nat_lt, nat_le, ◌==◌, ◌&&◌}
use Rattle.std.proofs.lemmas.Bool.{and_parts, and_from, or_cases, or_left, or_right, eqb-true, eq-eqb, leb-true, le-leb, ltb-true, lt-ltb}
use Rattle.pr_stamps.specs.Point.{Point, IsStamp, Before, IsPrev, is_before}
use Rattle.pr_stamps.specs.declared.mark.Mark.{Mark}
use Rattle.pr_vectors.specs.Vector.{Between, clock_of}
use Rattle.pr_wire.specs.declared.format.Format.{Format}
use Rattle.pr_wire.specs.declared.format.Format.TheVariants.{One, Two}
use Rattle.pr_wire.specs.Spelling.{eight, gone_text, mark_text, prev_text, stamp_text}
use Rattle.pr_wire.specs.Reading.{◌>>=◌, byte_at, eight_at, given, gone_at, is_between, is_prev, mark_at, prev_at, stamp_at, stamp_of}
use Rattle.pr_wire.proofs.Fields.{IsBytes, IsBytes-rest, IsField, Read, bind_some, byte_field, eight_field, given_some, glue, one_byte, some_is}

pub stamp_is : (clock node : ℕ) (p : Point) → stamp_of clock node ≡ Some p → (record { clock = clock; node = node } ≡ p) × IsStamp p
unfolding stamp_of
stamp_is clock node p e =
    let made : Point = record { clock = clock; node = node } in
    let g = given_some (nat_le 1 clock && (nat_le clock 4611686018427387903 && nat_lt node 32)) made p e in
    let a = and_parts (nat_le 1 clock) (nat_le clock 4611686018427387903 && nat_lt node 32) g.0 in
    let b = and_parts (nat_le clock 4611686018427387903) (nat_lt node 32) a.1 in
    let is : IsStamp made = record { from_one = leb-true _ _ a.0; most = leb-true _ _ b.0; known_node = ltb-true _ _ b.1 } in
    (g.1, subst IsStamp g.1 is)

pub is_stamp : (p : Point) → IsStamp p → stamp_of p.clock p.node ≡ Some p
unfolding stamp_of
is_stamp p h =
    let test : (nat_le 1 p.clock && (nat_le p.clock 4611686018427387903 && nat_lt p.node 32)) ≡ true = and_from _ _ (le-leb _ _ h.from_one) (and_from _ _ (le-leb _ _ h.most) (lt-ltb _ _ h.known_node)) in
    rw test refl

stamp_takes : (bytes : List ℕ) (y : Point × List ℕ) → IsBytes bytes → stamp_at bytes ≡ Some y → Read stamp_text IsStamp bytes y
unfolding stamp_at stamp_text
stamp_takes bytes y fits e =
    let a = bind_some (eight_at bytes) (λ clock. byte_at clock.1 >>= λ node. stamp_of clock.0 node.0 >>= λ stamp. Some (stamp, node.1)) y e in
    let b = bind_some (byte_at a.0.1) (λ node. stamp_of a.0.0 node.0 >>= λ stamp. Some (stamp, node.1)) y a.2 in
    let c = bind_some (stamp_of a.0.0 b.0.0) (λ stamp. Some (stamp, b.0.1)) y b.2 in
    let clock = eight_field.takes bytes a.0 fits a.1 in
    let node = byte_field.takes a.0.1 b.0 clock.fits b.1 in
    let is = stamp_is a.0.0 b.0.0 c.0 c.1 in
    let parts : bytes ≡ stamp_text (record { clock = a.0.0; node = b.0.0 }) ++ b.0.1 = glue bytes (eight a.0.0) a.0.1 (one_byte b.0.0) b.0.1 clock.parts node.parts in
    subst (Read stamp_text IsStamp bytes) (some_is (c.0, b.0.1) y c.2) (record {
      parts = subst (λ (p : Point). bytes ≡ stamp_text p ++ b.0.1) is.0 parts;
      fits = node.fits;
      holds = is.1;
    })

stamp_again : (p : Point) (rest : List ℕ) → IsStamp p → stamp_at (stamp_text p ++ rest) ≡ Some (p, rest)
unfolding stamp_at stamp_text
stamp_again p rest h =
    ap stamp_at (append_assoc (eight p.clock) (one_byte p.node) rest)
    ∙ rw (eight_field.again p.clock (p.node ∷ rest) (omega (arith, h.most)), is_stamp p h) refl

pub stamp_field : IsField stamp_at stamp_text IsStamp
stamp_field = record { takes = stamp_takes; again = stamp_again }

-- ---- a stamp or none

abbrev pub IsSomeStamp : Option Point → Type 0
IsSomeStamp None = Unit {0}
IsSomeStamp (Some p) = IsStamp p

prev_takes : (bytes : List ℕ) (y : Option Point × List ℕ) → IsBytes bytes → prev_at bytes ≡ Some y → Read prev_text IsSomeStamp bytes y
unfolding prev_at prev_text
prev_takes [] y fits e = absurd cc
prev_takes (zero ∷ bytes) y fits e =
    subst (Read prev_text IsSomeStamp (zero ∷ bytes)) (some_is (None, bytes) y e) (record { parts = refl; fits = IsBytes-rest 0 bytes fits; holds = tt })
prev_takes (suc zero ∷ bytes) y fits e =
    let a = bind_some (stamp_at bytes) (λ stamp. Some (Some stamp.0, stamp.1)) y e in
    let stamp = stamp_field.takes bytes a.0 (IsBytes-rest 1 bytes fits) a.1 in
    subst (Read prev_text IsSomeStamp (suc zero ∷ bytes)) (some_is (Some a.0.0, a.0.1) y a.2) (record { parts = ap (λ (t : List ℕ). 1 ∷ t) stamp.parts; fits = stamp.fits; holds = stamp.holds })
prev_takes (suc (suc b) ∷ bytes) y fits e = absurd cc

prev_again : (o : Option Point) (rest : List ℕ) → IsSomeStamp o → prev_at (prev_text o ++ rest) ≡ Some (o, rest)
unfolding prev_at prev_text
prev_again None rest h = refl
prev_again (Some p) rest h = rw (stamp_field.again p rest h) refl

pub prev_field : IsField prev_at prev_text IsSomeStamp
prev_field = record { takes = prev_takes; again = prev_again }

-- ---- the order of stamps

pub before_true : (s t : Point) → Before s t → is_before s t ≡ true
before_true s t (inl lt) = or_left _ _ (lt-ltb s.clock t.clock lt)
before_true s t (inr same) = or_right _ _ (and_from _ _ (eq-eqb s.clock t.clock same.0) (lt-ltb s.node t.node same.1))

pub true_before : (s t : Point) → is_before s t ≡ true → Before s t
true_before s t e =
    elim (or_cases (nat_lt s.clock t.clock) (s.clock == t.clock && nat_lt s.node t.node) e) [
      | inl lt ↦ inl (ltb-true _ _ lt)
      | inr both ↦ let p = and_parts (s.clock == t.clock) (nat_lt s.node t.node) both in inr (eqb-true _ _ p.0, ltb-true _ _ p.1)
    ]

pub prev_true : (o : Option Point) (p : Point) → IsPrev o p → is_prev o p ≡ true
prev_true None p h = refl
prev_true (Some q) p h = before_true q p h.1

pub true_prev : (o : Option Point) (p : Point) → IsSomeStamp o → is_prev o p ≡ true → IsPrev o p
true_prev None p is e = tt
true_prev (Some q) p is e = (is, true_before q p e)

pub prev_is : (o : Option Point) (p : Point) → IsPrev o p → IsSomeStamp o
prev_is None p h = tt
prev_is (Some q) p h = h.0

pub between_true : (v w : List ℕ) (p : Point) → Between v w p → is_between v w p ≡ true
unfolding is_between
between_true v w p h = and_from _ _ (lt-ltb _ _ h.0) (le-leb _ _ h.1)

pub true_between : (v w : List ℕ) (p : Point) → is_between v w p ≡ true → Between v w p
unfolding is_between
true_between v w p e = let a = and_parts (nat_lt (clock_of v p.node) p.clock) (nat_le p.clock (clock_of w p.node)) e in (ltb-true _ _ a.0, leb-true _ _ a.1)

-- ---- marks

pub record IsAnyMark (m : Mark) : Type 0 where
  pub stamp : IsStamp m.stamp
  pub prev : IsPrev m.prev m.stamp

mark_takes : (bytes : List ℕ) (y : Mark × List ℕ) → IsBytes bytes → mark_at bytes ≡ Some y → Read mark_text IsAnyMark bytes y
unfolding mark_at mark_text
mark_takes bytes y fits e =
    let a = bind_some (stamp_at bytes) (λ stamp. prev_at stamp.1 >>= λ prev. given (is_prev prev.0 stamp.0) (record { stamp = stamp.0; prev = prev.0 }, prev.1)) y e in
    let b = bind_some (prev_at a.0.1) (λ prev. given (is_prev prev.0 a.0.0) (record { stamp = a.0.0; prev = prev.0 }, prev.1)) y a.2 in
    let made : Mark × List ℕ = (record { stamp = a.0.0; prev = b.0.0 }, b.0.1) in
    let g = given_some (is_prev b.0.0 a.0.0) made y b.2 in
    let stamp = stamp_field.takes bytes a.0 fits a.1 in
    let prev = prev_field.takes a.0.1 b.0 stamp.fits b.1 in
    subst (Read mark_text IsAnyMark bytes) g.1 (record {
      parts = glue bytes (stamp_text a.0.0) a.0.1 (prev_text b.0.0) b.0.1 stamp.parts prev.parts;
      fits = prev.fits;
      holds = record { stamp = stamp.holds; prev = true_prev b.0.0 a.0.0 prev.holds g.0 };
    })

mark_again : (m : Mark) (rest : List ℕ) → IsAnyMark m → mark_at (mark_text m ++ rest) ≡ Some (m, rest)
unfolding mark_at mark_text
mark_again m rest h =
    let test = prev_true m.prev m.stamp h.prev in
    ap mark_at (append_assoc (stamp_text m.stamp) (prev_text m.prev) rest)
    ∙ rw (stamp_field.again m.stamp (prev_text m.prev ++ rest) h.stamp, prev_field.again m.prev rest (prev_is m.prev m.stamp h.prev), test) refl

pub mark_field : IsField mark_at mark_text IsAnyMark
mark_field = record { takes = mark_takes; again = mark_again }

-- ---- deletes

-- format 1 is for what is no delete
abbrev pub IsGoneIn : Format → Bool → Type 0
IsGoneIn One gone = gone ≡ false
IsGoneIn Two gone = Unit {0}

gone_takes : (f : Format) (bytes : List ℕ) (y : Bool × List ℕ) → IsBytes bytes → gone_at f bytes ≡ Some y → Read (gone_text f) (IsGoneIn f) bytes y
unfolding gone_at gone_text
gone_takes One bytes y fits e = subst (Read (gone_text One) (IsGoneIn One) bytes) (some_is (false, bytes) y e) (record { parts = refl; fits = fits; holds = refl })
gone_takes Two [] y fits e = absurd cc
gone_takes Two (zero ∷ bytes) y fits e = subst (Read (gone_text Two) (IsGoneIn Two) (zero ∷ bytes)) (some_is (false, bytes) y e) (record { parts = refl; fits = IsBytes-rest 0 bytes fits; holds = tt })
gone_takes Two (suc zero ∷ bytes) y fits e = subst (Read (gone_text Two) (IsGoneIn Two) (suc zero ∷ bytes)) (some_is (true, bytes) y e) (record { parts = refl; fits = IsBytes-rest 1 bytes fits; holds = tt })
gone_takes Two (suc (suc b) ∷ bytes) y fits e = absurd cc

gone_again : (f : Format) (g : Bool) (rest : List ℕ) → IsGoneIn f g → gone_at f (gone_text f g ++ rest) ≡ Some (g, rest)
unfolding gone_at gone_text
gone_again One g rest h = ap (λ (b : Bool). let r : Option (Bool × List ℕ) = Some (b, rest) in r) (sym h)
gone_again Two false rest h = refl
gone_again Two true rest h = refl

pub gone_field : (f : Format) → IsField (gone_at f) (gone_text f) (IsGoneIn f)
gone_field f = record { takes = gone_takes f; again = gone_again f }
