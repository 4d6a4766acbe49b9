-- What wires tell, call after call.
use Rattle.std.proofs.Common.{◌≡◌, ◌≤◌, ◌⊎◌, ◌+◌, ◌-◌, ℕ, List, [], ◌++◌, length, take, drop, Option, Some, None, IsSome, IsTrue, inl, inr, sym, ap, ◌∙◌, subst, append_assoc, arith}
use Rattle.std.proofs.lemmas.List.{append-nil, length-append, length-drop, length-take, take-take, take_all}
use Rattle.std.proofs.Math.Seq.{take-add}
use Rattle.std.specs.Io.{StartsWith}
use Rattle.pr_wires.specs.Calls.{Grows, HasJust, Shrinks, WireState}
use Rattle.pr_flow.specs.Moving.{Moves, MovesOther, PassesThrough}

some_is : (x y : List ℕ) → x ≡ y → let a : Option (List ℕ) = Some x in let b : Option (List ℕ) = Some y in a ≡ b
some_is x y e = ap (λ (t : List ℕ). let o : Option (List ℕ) = Some t in o) e

pub grows_none : (a b : Option (List ℕ)) → b ≡ a → Grows a b []
grows_none None b e = e
grows_none (Some x) b e = e ∙ some_is x (x ++ []) (sym (append-nil x))

pub grows_more : (a b c : Option (List ℕ)) (x y : List ℕ) → Grows a b x → Grows b c y → Grows a c (x ++ y)
grows_more None b c x y p q = subst (λ (o : Option (List ℕ)). Grows o c y) p q
grows_more (Some v) b c x y p q =
    subst (λ (o : Option (List ℕ)). Grows o c y) p q ∙ some_is ((v ++ x) ++ y) (v ++ (x ++ y)) (append_assoc v x y)

passes_put : (a b : Option (List ℕ)) (put : List ℕ) → Grows a b put → PassesThrough a b put []
passes_put None b put p = p
passes_put (Some v) b put p = subst (λ (o : Option (List ℕ)). PassesThrough (Some v) o put []) (sym p) (λ i. v ++ put)

passes_take : (a b : Option (List ℕ)) (got : List ℕ) → Shrinks a b got → PassesThrough a b [] got
passes_take None b got p = p
passes_take (Some v) None got p = absurd p
passes_take (Some v) (Some w) got p = append-nil v ∙ p

passes_more : (a b c : Option (List ℕ)) (put got put2 got2 : List ℕ) → PassesThrough a b put got → PassesThrough b c put2 got2 → PassesThrough a c (put ++ put2) (got ++ got2)
passes_more None b c put got put2 got2 p q = subst (λ (o : Option (List ℕ)). PassesThrough o c put2 got2) p q
passes_more (Some v) None c put got put2 got2 p q = absurd p
passes_more (Some v) (Some w) None put got put2 got2 p q = absurd q
passes_more (Some v) (Some w) (Some z) put got put2 got2 p q =
    sym (append_assoc v put put2)
    ∙ ap (λ (t : List ℕ). t ++ put2) p
    ∙ append_assoc got w put2
    ∙ ap (λ (t : List ℕ). got ++ t) q
    ∙ sym (append_assoc got got2 z)

passes_nothing : (a : Option (List ℕ)) → PassesThrough a a [] []
passes_nothing None = λ i. None
passes_nothing (Some v) = append-nil v

pub moves_nothing : (a : WireState) → Moves a a [] []
moves_nothing a = record {
  faults = omega arith;
  ends = omega arith;
  under = omega arith;
  given = grows_none a.given a.given (λ i. a.given);
  taken = grows_none a.taken a.taken (λ i. a.taken);
  held = passes_nothing a.held;
  sound = λ s. s;
}

pub moves_more : (a b c : WireState) (put got put2 got2 : List ℕ) → Moves a b put got → Moves b c put2 got2 → Moves a c (put ++ put2) (got ++ got2)
moves_more a b c put got put2 got2 p q = record {
  faults = omega (arith, p.faults, q.faults);
  ends = omega (arith, p.ends, q.ends);
  under = omega (arith, p.under, q.under, length-append put put2, length-append got got2);
  given = grows_more a.given b.given c.given put put2 p.given q.given;
  taken = grows_more a.taken b.taken c.taken got got2 p.taken q.taken;
  held = passes_more a.held b.held c.held put got put2 got2 p.held q.held;
  sound = λ s. q.sound (p.sound s);
}

-- a call that put these bytes
pub moves_put : (a b : WireState) (put : List ℕ) (n : ℕ) → length put ≡ n → b.under ≡ a.under + n → Grows a.given b.given put → b.taken ≡ a.taken → Grows a.held b.held put → a.faults ≤ b.faults → a.ends ≤ b.ends → (IsTrue a.sound → IsTrue b.sound) → Moves a b put []
moves_put a b put n len under given taken held faults ends sound = record {
  faults = faults;
  ends = ends;
  under = omega (arith, len, under);
  given = given;
  taken = grows_none a.taken b.taken taken;
  held = passes_put a.held b.held put held;
  sound = sound;
}

-- a call that took these bytes
pub moves_take : (a b : WireState) (got : List ℕ) (n : ℕ) → length got ≡ n → b.under + n ≡ a.under → b.given ≡ a.given → Grows a.taken b.taken got → Shrinks a.held b.held got → a.faults ≤ b.faults → a.ends ≤ b.ends → (IsTrue a.sound → IsTrue b.sound) → Moves a b [] got
moves_take a b got n len under given taken held faults ends sound = record {
  faults = faults;
  ends = ends;
  under = omega (arith, len, under);
  given = grows_none a.given b.given given;
  taken = taken;
  held = passes_take a.held b.held got held;
  sound = sound;
}

-- what a wire tells it goes on to tell
pub told_on : (a b : Option (List ℕ)) (put got : List ℕ) → PassesThrough a b put got → b ≡ None → a ≡ None
told_on None b put got p e = λ i. None
told_on (Some v) None put got p e = absurd p
told_on (Some v) (Some w) put got p e = absurd (some_none e)
  where
    some_none : Some w ≡ None → ⊥
    some_none bad = cc

-- other bytes than were put are no beginning of the message's either
pub is_no_beginning : (a b : WireState) (sent got : List ℕ) → a.under ≡ 0 → MovesOther a b sent got → ¬ StartsWith sent got
is_no_beginning a b sent got none (put, moves, front, other) starts =
    let m = moves.under in
    let fits : length got ≤ length put = omega arith in
    other (ap (λ (xs : List ℕ). take (length got) xs) (sym front) ∙ take-take (length got) (length put) sent fits ∙ starts)

-- ---- what the first call tells of the wire

module _ {W : Type 0} (state : W → WireState) where
  abbrev pub IsKnown : W → Type 0
  IsKnown w = HasJust (state w).held (state w).under × (IsTrue (state w).sound → IsSome (state w).held)

  pub known_start : (first w : W) (at : ℕ) → ((at ≡ 0) × (w ≡ first)) ⊎ IsKnown first → IsKnown w → IsKnown first
  known_start first w at start now = elim start [ inl same ↦ subst (λ (x : W). IsKnown x) same.1 now | inr known ↦ known ]

-- one more call put so many bytes of what is left of a piece
pub put_more : (a b c : WireState) (piece : List ℕ) (at n : ℕ) → at ≤ length piece → n ≤ length (take (length piece - at) (drop at piece)) → Moves a b (take at piece) [] → c.under ≡ b.under + n → Grows b.given c.given (take n (take (length piece - at) (drop at piece))) → c.taken ≡ b.taken → Grows b.held c.held (take n (take (length piece - at) (drop at piece))) → b.faults ≤ c.faults → b.ends ≤ c.ends → (IsTrue b.sound → IsTrue c.sound) → Moves a c (take (at + n) piece) []
put_more a b c piece at n within fits before under given taken held faults ends sound =
    let tail : take (length piece - at) (drop at piece) ≡ drop at piece = take_all (length piece - at) (drop at piece) (omega (arith, length-drop at piece)) in
    let part = take n (take (length piece - at) (drop at piece)) in
    let len : length part ≡ n = omega (arith, fits, length-take n (take (length piece - at) (drop at piece))) in
    let all : take at piece ++ part ≡ take (at + n) piece = ap (λ (t : List ℕ). take at piece ++ take n t) tail ∙ sym (take-add at n piece) in
    subst (λ (t : List ℕ). Moves a c t []) all (moves_more a b c (take at piece) [] part [] before (moves_put b c part n len under given taken held faults ends sound))

-- one more call took so many bytes into what is left of a buffer
pub take_more : (a b c : WireState) (at n : ℕ) (bytes new after : List ℕ) → take (at + n) after ≡ take at bytes ++ take n new → n ≤ length new → Moves a b [] (take at bytes) → c.under + n ≡ b.under → c.given ≡ b.given → Grows b.taken c.taken (take n new) → Shrinks b.held c.held (take n new) → b.faults ≤ c.faults → b.ends ≤ c.ends → (IsTrue b.sound → IsTrue c.sound) → Moves a c [] (take (at + n) after)
take_more a b c at n bytes new after front fits before under given taken held faults ends sound =
    let len : length (take n new) ≡ n = omega (arith, fits, length-take n new) in
    subst (λ (t : List ℕ). Moves a c [] t) (sym front) (moves_more a b c [] (take at bytes) [] (take n new) before (moves_take b c (take n new) n len under given taken held faults ends sound))
