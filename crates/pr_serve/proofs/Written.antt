-- Bytes that are written, piece after piece.
use Rattle.std.proofs.Common.{◌≡◌, ◌<◌, ◌+◌, ◌-◌, ℕ, List, [], ◌++◌, length, take, drop, Option, Some, None, Result, Err, sym, ap, subst, ◌∙◌, append_assoc, arith, length-drop}
use Rattle.std.specs.Io.KnownBytes.{Appends, Keeps}
use Rattle.std.proofs.lemmas.List.{append-nil, length-append, take_all, take-append-drop, take-append-le}
use Rattle.std.proofs.Math.Seq.{take-add, take-append-add}
use Rattle.pr_serve.specs.declared.serve_fault.ServeFault.{ServeFault}
use Rattle.pr_serve.specs.declared.serve_fault.ServeFault.TheVariants as faults
use Rattle.pr_serve.specs.Sinks.{IsWritten, Sink, Wrote, WroteSome}
use Rattle.pr_serve.proofs.Taking.{risen_then}

pub appends_then : (a b c : Option (List ℕ)) (xs ys : List ℕ) → Appends a b xs → Appends b c ys → Appends a c (xs ++ ys)
appends_then None b c xs ys p q = tt
appends_then (Some x) None c xs ys p q = absurd p
appends_then (Some x) (Some y) None xs ys p q = absurd q
appends_then (Some x) (Some y) (Some z) xs ys p q = q ∙ ap (λ (u : List ℕ). u ++ ys) p ∙ append_assoc x xs ys

pub appends_none : (a : Option (List ℕ)) → Appends a a []
appends_none None = tt
appends_none (Some x) = sym (append-nil x)

pub appends_kept : (a b c : Option (List ℕ)) (xs : List ℕ) → Appends a b xs → Keeps b c → Appends a c xs
appends_kept None b c xs p q = tt
appends_kept (Some x) None c xs p q = absurd p
appends_kept (Some x) (Some y) None xs p q = absurd q
appends_kept (Some x) (Some y) (Some z) xs p q = q ∙ p

-- so many bytes of the rest of a slice, as `&s[i..]` is seen
pub appends_rest : (a b c : Option (List ℕ)) (xs : List ℕ) (i n : ℕ) → Appends a b (take i xs) → Appends b c (take n (take (length xs - i) (drop i xs))) → Appends a c (take (i + n) xs)
appends_rest a b c xs i n p q =
    let rest : Appends b c (take n (drop i xs)) = subst (λ (ys : List ℕ). Appends b c (take n ys)) (take_all (length xs - i) (drop i xs) (omega (arith, length-drop i xs))) q in
    subst (λ (t : List ℕ). Appends a c t) (sym (take-add i n xs)) (appends_then a b c (take i xs) (take n (drop i xs)) p rest)

-- ---- sinks

pub wrote_none : (a : Sink) → Wrote a a []
wrote_none a = record { text = appends_none a.text; rises = omega arith }

pub wrote_then : (a b c : Sink) (xs ys : List ℕ) → Wrote a b xs → Wrote b c ys → Wrote a c (xs ++ ys)
wrote_then a b c xs ys p q = record { text = appends_then a.text b.text c.text xs ys p.text q.text; rises = omega (arith, p.rises, q.rises) }

pub wrote_some_then : (a b c : Sink) (xs ys : List ℕ) (count : ℕ) → Wrote a b xs → WroteSome b c ys count → WroteSome a c (xs ++ ys) (length xs + count)
wrote_some_then a b c xs ys count p q = record {
  text = subst (λ (t : List ℕ). Appends a.text c.text t) (sym (take-append-add xs ys count)) (appends_then a.text b.text c.text xs (take count ys) p.text q.text);
  risen = risen_then a.faults b.faults c.faults p.rises q.risen;
}

-- a beginning of the front of a text is one of the text
pub wrote_front : (a b : Sink) (xs ys : List ℕ) (count : ℕ) → count < length xs → WroteSome a b xs count → WroteSome a b (xs ++ ys) count
wrote_front a b xs ys count lt p = record {
  text = subst (λ (t : List ℕ). Appends a.text b.text t) (sym (take-append-le count xs ys (omega arith))) p.text;
  risen = p.risen;
}

-- ---- pieces

module _ (a b c : Sink) (front piece rest all : List ℕ) (is : all ≡ front ++ (piece ++ rest)) (done : Wrote a b front) where
  whole : all ≡ (front ++ piece) ++ rest
  whole = is ∙ sym (append_assoc front piece rest)

  pub piece_failed : (answer : ServeFault) → IsWritten b c piece (Err answer) → IsWritten a c all (Err answer)
  piece_failed faults.WriteFault (count, lt, some) = (
    length front + count,
    omega (arith, lt, ap (λ (t : List ℕ). length t) whole, length-append (front ++ piece) rest, length-append front piece),
    subst (λ (t : List ℕ). WroteSome a c t (length front + count)) (sym whole)
        (wrote_front a c (front ++ piece) rest (length front + count) (omega (arith, lt, length-append front piece)) (wrote_some_then a b c front piece count done some)),
  )
  piece_failed (faults.BadBytes at) w = absurd w
  piece_failed faults.ReadFault w = absurd w
  piece_failed faults.TooLarge w = absurd w
  piece_failed (faults.Worn at) w = absurd w
  piece_failed faults.NoMemory w = absurd w

pub failed_as : (a b : Sink) (all : List ℕ) (answer : ServeFault) (r : Result (Unit {0}) ServeFault) → r ≡ Err answer → IsWritten a b all (Err answer) → IsWritten a b all r
failed_as a b all answer r is w = subst (λ (x : Result (Unit {0}) ServeFault). IsWritten a b all x) (sym is) w

-- a buffer holds the front of what is left
module _ (n : ℕ) (buf rest now done all : List ℕ) (is_piece : take n buf ≡ take n rest) (is_now : now ≡ drop n rest) (is : done ++ rest ≡ all) where
  pub split_piece : all ≡ done ++ (take n buf ++ now)
  split_piece = sym is ∙ ap (λ (t : List ℕ). done ++ t) (sym (take-append-drop n rest) ∙ ap (λ (t : List ℕ). t ++ drop n rest) (sym is_piece) ∙ ap (λ (t : List ℕ). take n buf ++ t) (sym is_now))

  pub piece_done : (done ++ take n buf) ++ now ≡ all
  piece_done = append_assoc done (take n buf) now ∙ sym split_piece
