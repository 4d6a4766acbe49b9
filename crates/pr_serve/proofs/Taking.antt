-- Bytes that are taken off an input, one after the other.
use Rattle.std.proofs.Common.{◌≡◌, ◌≤◌, ℕ, List, [], ◌∷◌, ◌++◌, Option, Some, None, Result, Ok, Err, refl, sym, ap, subst, ◌∙◌, append_assoc, arith, inl, inr}
use Rattle.std.specs.Io.KnownBytes.{Consumes, prepend_known}
use Rattle.std.proofs.lemmas.List.{append-nil, length-append}
use Rattle.pr_ports.specs.Faults.{HasRisen}
use Rattle.pr_serve.specs.Inputs.{HasFailed, Input, IsNextByte, NoneStands, Stops, Takes, ahead}
use Rattle.pr_serve.specs.declared.stop.Stop.{Stop}
use Rattle.pr_serve.specs.declared.stop.Stop.TheVariants as stops

pub consumes_more : (a b c : Option (List ℕ)) (xs ys : List ℕ) → Consumes a b xs → Consumes b c ys → Consumes a c (xs ++ ys)
consumes_more None b c xs ys p q = tt
consumes_more (Some x) None c xs ys p q = absurd p
consumes_more (Some x) (Some y) None xs ys p q = absurd q
consumes_more (Some x) (Some y) (Some z) xs ys p q = p ∙ ap (λ (u : List ℕ). xs ++ u) q ∙ sym (append_assoc xs ys z)

pub consumes_none : (a : Option (List ℕ)) → Consumes a a []
consumes_none None = tt
consumes_none (Some x) = refl

pub takes_then : (a b c : Input) (xs ys : List ℕ) → Takes a b xs → Takes b c ys → Takes a c (xs ++ ys)
takes_then a b c xs ys p q = record {
  ahead = consumes_more (ahead a) (ahead b) (ahead c) xs ys p.ahead q.ahead;
  count = omega (arith, p.count, q.count, length-append xs ys);
  rises = omega (arith, p.rises, q.rises);
}

pub takes_none : (a : Input) → Takes a a []
takes_none a = record { ahead = consumes_none (ahead a); count = omega arith; rises = omega arith }

pub takes_no_more : (a b c : Input) (xs : List ℕ) → Takes a b xs → Takes b c [] → Takes a c xs
takes_no_more a b c xs p q = subst (λ (t : List ℕ). Takes a c t) (append-nil xs) (takes_then a b c xs [] p q)

pub risen_then : (a b c : ℕ) → a ≤ b → HasRisen b c → HasRisen a c
risen_then a b c le (inl up) = inl (omega arith)
risen_then a b c le (inr last) = inr last

pub failed_then : (a b c : Input) → a.faults ≤ b.faults → HasFailed b c → HasFailed a c
failed_then a b c le f = record { rises = risen_then a.faults b.faults c.faults le f.rises; held = f.held }

-- ---- stops

module _ (IsText IsUnderWay : List ℕ → Type 0) where
  pub stopped_next : (a b c : Input) (bytes all : List ℕ) (stop : Stop) → Takes a b bytes → IsUnderWay all → NoneStands IsText all → IsNextByte b c (Err stop) → Takes a c bytes × Stops IsText IsUnderWay a c all stop
  stopped_next a b c bytes all stops.Bad taken under none next = absurd next
  stopped_next a b c bytes all stops.NoMemory taken under none next = absurd next
  stopped_next a b c bytes all stops.Failed taken under none next = (takes_no_more a b c bytes taken next.0, (none, failed_then a b c taken.rises next.1))
  stopped_next a b c bytes all stops.TooLarge taken under none next = (takes_no_more a b c bytes taken next.0, (under, none, next.1))

  pub stopped_before : (a b c : Input) (all : List ℕ) (stop : Stop) → a.faults ≤ b.faults → Stops IsText IsUnderWay b c all stop → Stops IsText IsUnderWay a c all stop
  stopped_before a b c all stops.Bad rises s = s
  stopped_before a b c all stops.NoMemory rises s = tt
  stopped_before a b c all stops.Failed rises s = (s.0, failed_then a b c rises s.1)
  stopped_before a b c all stops.TooLarge rises s = s

-- ---- what was read

-- what was taken of an input and what is held of it, is what was read
pub read_so_far : (left now : Option (List ℕ)) (held bytes : List ℕ) → Consumes left (prepend_known held now) bytes → Consumes left now (bytes ++ held)
read_so_far None now held bytes p = tt
read_so_far (Some x) None held bytes p = absurd p
read_so_far (Some x) (Some y) held bytes p = p ∙ sym (append_assoc bytes held y)

-- nothing was read ahead
pub none_ahead : (left : Option (List ℕ)) → prepend_known [] left ≡ left
none_ahead None = refl
none_ahead (Some x) = refl

-- a byte that was taken, or none, after a read
pub taken_after : (a b c : Input) (r : Result (Option ℕ) Stop) → Takes a b [] → IsNextByte b c r → IsNextByte a c r
taken_after a b c (Ok (Some byte)) p q = takes_then a b c [] (byte ∷ []) p q
taken_after a b c (Ok None) p q = (takes_then a b c [] [] p q.0, q.1)
taken_after a b c (Err stops.Failed) p q = (takes_then a b c [] [] p q.0, failed_then a b c p.rises q.1)
taken_after a b c (Err stops.TooLarge) p q = (takes_then a b c [] [] p q.0, q.1)
taken_after a b c (Err stops.Bad) p q = absurd q
taken_after a b c (Err stops.NoMemory) p q = absurd q
