-- A frame that comes byte by byte.
use Rattle.std.proofs.Common.{◌≡◌, ◌≢◌, ◌⊎◌, ◌<◌, ◌≤◌, ◌+◌, ◌^◌, ℕ, List, [], ◌∷◌, ◌++◌, length, take, Option, Result, Ok, Err, false, true, refl, sym, ap, subst, ◌∙◌, arith, inl, inr}
use Rattle.std.specs.Result.{IsErr, IsErrAnd}
use Rattle.std.proofs.lemmas.List.{append-nil, length-append, take_at}
use Rattle.std.proofs.Math.Seq.{take-append-add}
use Rattle.pr_inval.specs.declared.msg.Msg.{Msg}
use Rattle.pr_wire.specs.declared.format.Format.{Format}
use Rattle.pr_wire.specs.declared.next.Next.{Next}
use Rattle.pr_wire.specs.declared.next.Next.TheVariants.{Message, More, Bad}
use Rattle.pr_wire.specs.Feeding.{Fed, HasAnswered, HasGiven, pushed}
use Rattle.pr_wire.specs.Frames.{IsBad, IsPartial}
use Rattle.pr_wire.specs.declared.format.Format.TheVariants.{One, Two}
use Rattle.pr_wire.specs.Spelling.{content, eight, format_byte, spelling}
use Rattle.pr_wire.proofs.FieldLaws.{bad_stays}
use Rattle.pr_wire.proofs.FrameLemmas.{length-spelling, never_bad, never_part, nothing_in, one_front}
use Rattle.pr_serve.specs.declared.stop.Stop.{Stop}
use Rattle.pr_serve.specs.declared.stop.Stop.TheVariants as stops
use Rattle.pr_serve.specs.declared.framing.Part.{Part}
use Rattle.pr_serve.specs.Frames.{IsFoundPart, IsFrame, IsFrameUnderWay, IsFramed, IsPart, IsRestOfFrame, IsWanted}
use Rattle.pr_serve.specs.Inputs.{Input, IsNextByte, NoneBegins, NoneStands, Stops, Takes}
use Rattle.pr_serve.proofs.Taking.{failed_then, stopped_next, takes_none, takes_then}

abbrev most : ℕ
most = 18446744073709551615

-- ---- what is in of a frame

-- no frame stands at the front of less than a frame
pub partial_stands : (bytes : List ℕ) → IsPartial most bytes → NoneStands IsFrame bytes
partial_stands bytes part text x (f, m, framed, is) e =
    never_part most f m x (omega arith) (omega (arith, framed.fits)) (subst (λ (t : List ℕ). IsPartial most t) (sym e ∙ ap (λ (t : List ℕ). t ++ x) is) part)

-- no frame begins with what is bad
pub bad_begins : (bytes : List ℕ) → IsBad most bytes → NoneBegins IsFrame bytes
bad_begins bytes bad text x y (f, m, framed, is) e =
    never_bad most f m x framed.spelled (omega arith) (omega (arith, framed.fits)) (subst (λ (t : List ℕ). IsBad most t) (sym e ∙ ap (λ (t : List ℕ). t ++ x) is) (bad_stays most bytes y bad))

-- a frame that was not in before the last byte ends with it
ends_here : (rest xs ys : List ℕ) (byte k : ℕ) → k ≡ length ys → rest ++ byte ∷ [] ≡ xs ++ ys → (ys ≡ []) ⊎ ((zs : List ℕ) × (rest ≡ xs ++ zs))
ends_here rest xs [] byte k is e = inl refl
ends_here rest xs (y ∷ ys) byte k is e =
    let size : length rest + 1 ≡ length xs + (length ys + 1) = sym (length-append rest (byte ∷ [])) ∙ ap (λ (t : List ℕ). length t) e ∙ length-append xs (y ∷ ys) ∙ omega arith in
    let len : length rest ≡ length xs + length ys = omega (arith, size) in
    inr (take (length ys) (y ∷ ys), sym (take_at rest (byte ∷ []) (length rest) refl) ∙ ap (λ (t : List ℕ). take (length rest) t) e ∙ ap (λ (n : ℕ). take n (xs ++ (y ∷ ys))) len ∙ take-append-add xs (y ∷ ys) (length ys))

-- the frame is just what is in
pub whole_frame : (rest bytes : List ℕ) (first byte : ℕ) (a b : Fed) (f : Format) (m : Msg) → IsPartial most rest → first ∷ bytes ≡ rest ++ byte ∷ [] → a.limit ≡ most → a.rest ≡ rest ++ byte ∷ [] → HasGiven a b f m → IsFramed f m × (first ∷ bytes ≡ spelling f m)
whole_frame rest bytes first byte a b f m part e limit is given =
    let fits : length (content f m) < 2 ^ 64 = omega (arith, given.short, limit) in
    let front : rest ++ byte ∷ [] ≡ spelling f m ++ b.rest = sym is ∙ given.front in (
      record { spelled = given.spelled; fits = fits },
      elim (ends_here rest (spelling f m) b.rest byte (length b.rest) refl front) [
        | inl none ↦ e ∙ front ∙ ap (λ (t : List ℕ). spelling f m ++ t) none ∙ append-nil (spelling f m)
        | inr (zs, more) ↦ absurd (never_part most f m zs (omega arith) (omega (arith, fits)) (subst (λ (t : List ℕ). IsPartial most t) more part))
      ],
    )

-- ---- what a feed says of a byte more

module _ (feed a b : Fed) (first byte : ℕ) (bytes : List ℕ) (limit : feed.limit ≡ most) (part : IsPartial most feed.rest) (in_it : first ∷ bytes ≡ feed.rest ++ byte ∷ []) (is : a ≡ pushed feed (byte ∷ [])) where
  limit_is : a.limit ≡ most
  limit_is = ap (λ (x : Fed). x.limit) is ∙ limit

  rest_is : a.rest ≡ first ∷ bytes
  rest_is = ap (λ (x : Fed). x.rest) is ∙ sym in_it

  pub message_in : (next : Next) (m : Msg) → HasAnswered a b next → next ≡ Message m → (f : Format) × IsFramed f m × (first ∷ bytes ≡ spelling f m)
  message_in next m answer was =
      let here : HasAnswered a b (Message m) = subst (λ (x : Next). HasAnswered a b x) was answer in
      let whole = whole_frame feed.rest bytes first byte a b here.0 m part in_it limit_is (rest_is ∙ in_it) here.1 in
      (here.0, whole.0, whole.1)

  pub bad_in : (next : Next) (at : ℕ) → HasAnswered a b next → next ≡ Bad at → NoneBegins IsFrame (first ∷ bytes)
  bad_in next at answer was =
      let here : HasAnswered a b (Bad at) = subst (λ (x : Next). HasAnswered a b x) was answer in
      bad_begins (first ∷ bytes) (subst (λ (n : ℕ). IsBad n (first ∷ bytes)) limit_is (subst (λ (t : List ℕ). IsBad a.limit t) rest_is here.2))

  pub more_in : (next : Next) → HasAnswered a b next → next ≡ More → (b.limit ≡ most) × (b.rest ≡ first ∷ bytes) × IsPartial most (first ∷ bytes)
  more_in next answer was =
      let here : HasAnswered a b More = subst (λ (x : Next). HasAnswered a b x) was answer in (
        ap (λ (x : Fed). x.limit) here.0 ∙ limit_is,
        ap (λ (x : Fed). x.rest) here.0 ∙ rest_is,
        subst (λ (n : ℕ). IsPartial n (first ∷ bytes)) limit_is (subst (λ (t : List ℕ). IsPartial a.limit t) rest_is here.1),
      )

-- ---- how reading a frame stops

pub frame_stops : (first : ℕ) (a b c : Input) (bytes : List ℕ) (stop : Stop) (r : Result Msg Stop) → r ≡ Err stop → Takes a b bytes → IsPartial most (first ∷ bytes) → IsNextByte b c (Err stop) → IsRestOfFrame first a c r
frame_stops first a b c bytes stop r is taken part next = subst (λ (x : Result Msg Stop). IsRestOfFrame first a c x) (sym is) (let s = stopped_next IsFrame IsFrameUnderWay a b c bytes (first ∷ bytes) stop taken part (partial_stands (first ∷ bytes) part) next in (bytes, s.0, s.1))

-- ---- a part

starts_no_frame : (f : Format) (m : Msg) (x : List ℕ) → spelling f m ++ x ≡ [] → ⊥
starts_no_frame f m x e = let size : length (spelling f m ++ x) ≡ 0 = ap (λ (t : List ℕ). length t) e in omega (arith, size, length-append (spelling f m) x, length-spelling f m)

-- nothing stands where nothing is in
pub nothing_stands : (nodes : ℕ) (streams : List ℕ) → NoneStands (IsPart nodes streams) []
nothing_stands nodes streams text x (inl is) e = let bad : 0 ∷ x ≡ [] = sym (ap (λ (t : List ℕ). t ++ x) is) ∙ e in absurd cc
nothing_stands nodes streams text x (inr (f, m, framed, wanted, is)) e = starts_no_frame f m x (sym (ap (λ (t : List ℕ). t ++ x) is) ∙ e)

head_is : (a b : ℕ) (x y : List ℕ) → a ∷ x ≡ b ∷ y → a ≡ b
head_is a b x y e = cc

part_begins : (nodes : ℕ) (streams : List ℕ) (first : ℕ) (bytes : List ℕ) → first ≢ 0 → NoneBegins IsFrame (first ∷ bytes) → NoneBegins (IsPart nodes streams) (first ∷ bytes)
part_begins nodes streams first bytes no_end none text x y (inl is) e = no_end (sym (head_is 0 first x (bytes ++ y) (sym (ap (λ (t : List ℕ). t ++ x) is) ∙ e)))
part_begins nodes streams first bytes no_end none text x y (inr (f, m, framed, wanted, is)) e = none text x y (f, m, framed, is) e

part_stands : (nodes : ℕ) (streams : List ℕ) (first : ℕ) (bytes : List ℕ) → first ≢ 0 → NoneStands IsFrame (first ∷ bytes) → NoneStands (IsPart nodes streams) (first ∷ bytes)
part_stands nodes streams first bytes no_end none text x (inl is) e = no_end (sym (head_is 0 first x bytes (sym (ap (λ (t : List ℕ). t ++ x) is) ∙ e)))
part_stands nodes streams first bytes no_end none text x (inr (f, m, framed, wanted, is)) e = none text x (f, m, framed, is) e

-- what stops a frame stops what may stand there
pub part_stops : (nodes : ℕ) (streams : List ℕ) (first : ℕ) (a b c : Input) (bytes : List ℕ) (stop : Stop) → first ≢ 0 → a.faults ≤ b.faults → Stops IsFrame IsFrameUnderWay b c (first ∷ bytes) stop → Stops (IsPart nodes streams) IsFrameUnderWay a c (first ∷ bytes) stop
part_stops nodes streams first a b c bytes stops.Bad no_end rises (some, inl none) = (some, inl (part_begins nodes streams first bytes no_end none))
part_stops nodes streams first a b c bytes stops.Bad no_end rises (some, inr over) = (some, inr (part_stands nodes streams first bytes no_end over.0, over.1))
part_stops nodes streams first a b c bytes stops.Failed no_end rises s = (part_stands nodes streams first bytes no_end s.0, failed_then a b c rises s.1)
part_stops nodes streams first a b c bytes stops.TooLarge no_end rises s = (s.0, part_stands nodes streams first bytes no_end s.1, s.2)
part_stops nodes streams first a b c bytes stops.NoMemory no_end rises s = tt

no_end_byte : (f : Format) (x y : List ℕ) → 0 ∷ x ≡ format_byte f ∷ y → ⊥
no_end_byte One x y e = absurd (omega (arith, head_is 0 1 x y e))
no_end_byte Two x y e = absurd (omega (arith, head_is 0 2 x y e))

-- the frame of a message that is not wanted begins no part
pub unwanted_begins : (nodes : ℕ) (streams : List ℕ) (f : Format) (m : Msg) → IsFramed f m → ¬ IsWanted nodes streams m → NoneBegins (IsPart nodes streams) (spelling f m)
unfolding spelling
unwanted_begins nodes streams f m framed unwanted text x y (inl is) e = no_end_byte f x ((eight (length (content f m)) ++ content f m) ++ y) (sym (ap (λ (t : List ℕ). t ++ x) is) ∙ e)
unwanted_begins nodes streams f m framed unwanted text x y (inr (g, n, other, wanted, is)) e =
    let same = one_front g f n m x y other.spelled framed.spelled (sym (ap (λ (t : List ℕ). t ++ x) is) ∙ e) in
    unwanted (subst (λ (k : Msg). IsWanted nodes streams k) same.1 wanted)

-- ---- what ends a part

pub is_stop : {X E : Type 0} (r : Result X E) (P : E → Type 0) (stop : E) → IsErr r × IsErrAnd r P → ((e : E) → P e → e ≡ stop) → r ≡ Err stop
is_stop {X = X} {E = E} (Ok x) P stop err all = let bad : false ≡ true = err.0 in absurd (cc)
is_stop {X = X} {E = E} (Err e) P stop err all = ap (λ (f : E). let r : Result X E = Err f in r) (all e err.1)

pub byte_is : (a b : Input) (next other : Option ℕ) → next ≡ other → IsNextByte a b (Ok next) → IsNextByte a b (Ok other)
byte_is a b next other e is = subst (λ (o : Option ℕ). IsNextByte a b (Ok o)) e is

pub first_stops : (nodes : ℕ) (streams : List ℕ) (a b : Input) (stop : Stop) (r : Result Part Stop) → r ≡ Err stop → IsNextByte a b (Err stop) → IsFoundPart nodes streams a b r
first_stops nodes streams a b stop r is next = subst (λ (x : Result Part Stop). IsFoundPart nodes streams a b x) (sym is) (let s = stopped_next (IsPart nodes streams) IsFrameUnderWay a a b [] [] stop (takes_none a) (nothing_in most) (nothing_stands nodes streams) next in ([], s.0, s.1))

pub rest_stops : (nodes : ℕ) (streams : List ℕ) (first : ℕ) (a b c : Input) (stop : Stop) (r : Result Part Stop) → r ≡ Err stop → first ≢ 0 → Takes a b (first ∷ []) → IsRestOfFrame first b c (Err stop) → IsFoundPart nodes streams a c r
rest_stops nodes streams first a b c stop r is no_end taken (bytes, more, why) = subst (λ (x : Result Part Stop). IsFoundPart nodes streams a c x) (sym is) (first ∷ bytes, takes_then a b c (first ∷ []) bytes taken more, part_stops nodes streams first a b c bytes stop no_end taken.rises why)
