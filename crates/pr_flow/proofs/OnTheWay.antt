-- A message goes over a wire, piece by piece.
use Rattle.std.proofs.Common.{◌≡◌, ◌≤◌, ◌<◌, ◌+◌, ℕ, List, ◌++◌, length, take, drop, min, None, false, true, Result, Ok, Err, inl, inr, sym, ap, ◌∙◌, subst, append_assoc, arith}
use Rattle.std.proofs.lemmas.List.{length-append, take-append-drop, take-append-le}
use Rattle.std.specs.Io.{StartsWith}
use Rattle.std.specs.Result.{IfOk, IsErr}
use Rattle.pr_wires.specs.Calls.{WireState}
use Rattle.pr_ports.specs.Faults.{HasRisen}
use Rattle.pr_inval.specs.declared.msg.Msg.{Msg}
use Rattle.pr_story.specs.declared.cause.Cause.{Cause}
use Rattle.pr_story.specs.declared.cause.Cause.TheVariants as causes
use Rattle.pr_wire.specs.Spelling.{spelling}
use Rattle.pr_wire.specs.Feeding.{Fed, pushed}
use Rattle.pr_wire.specs.declared.format.Format.TheVariants.{Two}
use Rattle.pr_flow.specs.declared.carrying.Carried.{Carried}
use Rattle.pr_flow.specs.declared.carrying.Carried.TheVariants as carried
use Rattle.pr_flow.specs.Moving.{IsCarried, IsCut, IsLie, Moves, MovesPart}
use Rattle.pr_flow.proofs.Fronts.{starts_behind, starts_longer, starts_not_behind, starts_with}
use Rattle.pr_flow.proofs.Growing.{moves_more, told_on}

risen_from : (a b c : ℕ) → a ≤ b → HasRisen b c → HasRisen a c
risen_from a b c le risen = elim risen [ inl less ↦ inl (omega (arith, le, less)) | inr last ↦ inr last ]

pub cut_from : (cause : Cause) (a b c : WireState) → a.faults ≤ b.faults → a.ends ≤ b.ends → IsCut cause b c → IsCut cause a c
cut_from causes.Failed a b c faults ends cut = risen_from a.faults b.faults c.faults faults cut
cut_from causes.Ended a b c faults ends cut = risen_from a.ends b.ends c.ends ends cut
cut_from causes.Gap a b c faults ends cut = cut

-- a beginning of the message was put and taken, and there was no memory
pub no_memory : {E : Type 0} (a b : WireState) (m : Msg) (put rest : List ℕ) (r : Result Carried E) → IsErr r → put ++ rest ≡ spelling Two m → Moves a b put put → IsCarried a b m r
no_memory a b m put rest (Ok x) err all moved = let bad : false ≡ true = err in absurd (cc)
no_memory a b m put rest (Err e) err all moved = (put, put, moved, subst (λ (t : List ℕ). StartsWith t put) all (starts_with put rest))

module _ (a b c : WireState) (m : Msg) (front piece rest : List ℕ) (all : front ++ (piece ++ rest) ≡ spelling Two m) (before : Moves a b front front) where
  -- the piece is the next of the message
  pub piece_more : (front ++ piece) ++ rest ≡ spelling Two m
  piece_more = append_assoc front piece rest ∙ all

  front_of : (put : List ℕ) → StartsWith piece put → StartsWith (spelling Two m) (front ++ put)
  front_of put starts =
      subst (λ (t : List ℕ). StartsWith t (front ++ put)) all
      (starts_behind front (piece ++ rest) put (starts_longer piece put rest starts))

  pub cut_here : MovesPart b c piece → MovesPart a c (spelling Two m)
  cut_here part =
      let put = part.0 in
      let got = part.1 in
      (front ++ put, front ++ got, moves_more a b c front front put got before part.2, (front_of put part.3.0, starts_behind front put got part.3.1))

  pub refused_here : {E : Type 0} (r : Result Carried E) → IsErr r → Moves b c piece piece → IsCarried a c m r
  refused_here r err moved = no_memory a c m (front ++ piece) rest r err piece_more (moves_more a b c front front piece piece before moved)

  -- other bytes were taken
  pub other_here : {E : Type 0} (done : ℕ) (got : List ℕ) (r : Result Carried E) → done ≡ min (length front) 18446744073709551615 → Moves b c piece got → ¬ StartsWith piece got → b.held ≡ None → IfOk r (IsLie m (take done (spelling Two m) ++ got)) → IsCarried a c m r
  other_here done got (Err e) count moved other held lie =
      (front ++ piece, front ++ got, moves_more a b c front front piece got before moved, subst (λ (t : List ℕ). StartsWith t (front ++ piece)) piece_more (starts_with (front ++ piece) rest))
  other_here done got (Ok (carried.Whole n)) count moved other held lie = absurd lie
  other_here done got (Ok (carried.Cut cause)) count moved other held lie = absurd lie
  other_here done got (Ok (carried.Lied sent bytes)) count moved other held lie =
      let size : length front + length (piece ++ rest) ≡ length (spelling Two m) = sym (length-append front (piece ++ rest)) ∙ ap (λ (t : List ℕ). length t) all in
      let in_memory : length sent ≡ length (spelling Two m) = ap (λ (t : List ℕ). length t) lie.0 in
      let exact : done ≡ length front = omega (arith, count, size, in_memory, lie.2) in
      let begins : take done (spelling Two m) ≡ front =
      ap (λ (k : ℕ). take k (spelling Two m)) exact ∙ ap (λ (t : List ℕ). take (length front) t) (sym all) ∙ starts_with front (piece ++ rest) in
      let is_got : front ++ got ≡ bytes = ap (λ (t : List ℕ). t ++ got) (sym begins) ∙ sym lie.1 in
      let moved_all : Moves a c (front ++ piece) (front ++ got) = moves_more a b c front front piece got before moved in
      let starts : StartsWith (spelling Two m) (front ++ piece) = subst (λ (t : List ℕ). StartsWith t (front ++ piece)) piece_more (starts_with (front ++ piece) rest) in (
        lie.0,
        (
          front ++ piece,
          subst (λ (t : List ℕ). Moves a c (front ++ piece) t) is_got moved_all,
          subst (λ (t : List ℕ). StartsWith t (front ++ piece)) (sym lie.0) starts,
          subst (λ (t : List ℕ). ¬ StartsWith (front ++ piece) t) is_got (starts_not_behind front piece got other),
        ),
        told_on a.held b.held front front before.held held,
      )

-- the bytes of a buffer that a call filled at its front
pub front_bytes : (len : ℕ) (bytes back piece : List ℕ) → bytes ≡ piece → len ≡ length piece → take len (bytes ++ back) ≡ piece
front_bytes len bytes back piece is size =
    ap (λ (t : List ℕ). take len (t ++ back)) is ∙ ap (λ (k : ℕ). take k (piece ++ back)) size ∙ starts_with piece back

pub other_bytes : (n : ℕ) (bytes back : List ℕ) → n ≤ length bytes → take n (bytes ++ back) ≡ take n bytes
other_bytes n bytes back within = take-append-le n bytes back within

pub count_more : (done sum len : ℕ) (front piece : List ℕ) → done ≡ min (length front) 18446744073709551615 → sum ≡ min (done + len) 18446744073709551615 → len ≡ length piece → sum ≡ min (length (front ++ piece)) 18446744073709551615
count_more done sum len front piece count more size = omega (arith, count, more, size, length-append front piece)

pub pushed_rest : (feed after : Fed) (bytes piece : List ℕ) → after ≡ pushed feed bytes → bytes ≡ piece → after.rest ≡ feed.rest ++ piece
pushed_rest feed after bytes piece is same = ap (λ (f : Fed). f.rest) is ∙ ap (λ (t : List ℕ). feed.rest ++ t) same

pub pushed_limit : (feed after : Fed) (bytes : List ℕ) → after ≡ pushed feed bytes → after.limit ≡ feed.limit
pushed_limit feed after bytes is = ap (λ (f : Fed). f.limit) is

-- a buffer has the next bytes of a rest, and the others are left
pub next_of : (k : ℕ) (buf rest after : List ℕ) → take k buf ≡ take k rest → after ≡ drop k rest → take k buf ++ after ≡ rest
next_of k buf rest after is left = ap (λ (t : List ℕ). t ++ after) is ∙ ap (λ (t : List ℕ). take k rest ++ t) left ∙ take-append-drop k rest

-- no frame is empty
pub some_bytes : (m : Msg) → 0 < length (spelling Two m)
unfolding spelling
some_bytes m = omega arith
