-- What a reader holds of the source's bytes.
use Rattle.std.proofs.Common.{◌≡◌, ℕ, List, [], ◌++◌, Option, None, Some, Result, Ok, Err, refl, sym, ◌∙◌, ap, subst, append_assoc, take}
use Rattle.std.specs.Prelude.{IfSome, OnOk, is_err, false}
use Rattle.std.specs.Io.KnownBytes.{Consumes, IsAtEnd}
use Rattle.std.proofs.lemmas.List.{append-nil}
use Rattle.pr_script.specs.Reading.{Kept}
use Rattle.pr_script.specs.declared.script.Script.{Script}
use Rattle.pr_top.specs.Fronts.{IsTaken}
use Rattle.pr_top.specs.Reading.{IsFinished, IsRead, IsReadSo}
use Rattle.pr_top.specs.Sizes.{IsSizeOf, IsTooLarge}
use Rattle.pr_top.specs.declared.reading.ReadError.{ReadError}
use Rattle.pr_top.specs.declared.reading.ReadError.TheVariants as errors
use Rattle.pr_top.specs.declared.size.Size.{Size}
use Rattle.pr_top.proofs.Counting.{larger}

pub consumes_more : (a b c : Option (List ℕ)) (xs ys : List ℕ) → Consumes a b xs → Consumes b c ys → Consumes a c (xs ++ ys)
consumes_more None b c xs ys p q = tt
consumes_more (Some x) None c xs ys p q = absurd p
consumes_more (Some x) (Some y) None xs ys p q = absurd q
consumes_more (Some x) (Some y) (Some z) xs ys p q = p ∙ ap (λ (u : List ℕ). xs ++ u) q ∙ sym (append_assoc xs ys z)

-- all was read
pub all_read : (a b : Option (List ℕ)) (xs : List ℕ) → Consumes a b xs → IsAtEnd b → IfSome a (λ known. known ≡ xs)
all_read None b xs p e = tt
all_read (Some x) None xs p e = absurd p
all_read (Some x) (Some y) xs p e = p ∙ ap (λ (u : List ℕ). xs ++ u) e ∙ append-nil xs

-- too much was read
pub large_read : (a b : Option (List ℕ)) (xs : List ℕ) → Consumes a b xs → IsTooLarge xs → IfSome a IsTooLarge
large_read None b xs p large = tt
large_read (Some x) None xs p large = absurd p
large_read (Some x) (Some y) xs p large = subst (λ (u : List ℕ). IsTooLarge u) (sym p) (larger xs y large)

pub none_read : (a : Option (List ℕ)) → Consumes a a []
none_read None = tt
none_read (Some x) = append_nil_left x
  where
    append_nil_left : (u : List ℕ) → u ≡ [] ++ u
    append_nil_left u = refl

-- the source ended behind these
pub finished : (a b c : Option (List ℕ)) (f g n : ℕ) (xs buf : List ℕ) (s : Size) (r : Result Script ReadError)
    → Consumes a b xs → IsSizeOf s xs → n ≡ 0 → Consumes b c (take n buf) → IsAtEnd c → IsFinished xs r → IsReadSo a c f g r
finished a b c f g n xs buf s r p size none q ended is = by r is
  where
    none_more : Consumes a c xs
    none_more =
        let zero : take n buf ≡ [] = ap (λ (k : ℕ). take k buf) none in
        subst (λ (ys : List ℕ). Consumes a c ys) (ap (λ (ys : List ℕ). xs ++ ys) zero ∙ append-nil xs) (consumes_more a b c xs (take n buf) p q)

    read : IsRead a c xs
    read = record { all = all_read a c xs none_more ended; ended = ended; fits = size.fits }

    by : (t : Result Script ReadError) → IsFinished xs t → IsReadSo a c f g t
    by (Ok script) (means, good, labels) = (record { bytes = xs; read = read; means = means }, good, labels)
    by (Err errors.Failed) is = absurd is
    by (Err errors.TooLarge) is = absurd is
    by (Err (errors.Bad line why)) means = record { bytes = xs; read = read; means = means }
    by (Err errors.NoMemory) is = tt

pub if_went : {X E : Type 0} (r : Result X E) (P : Type 0) → OnOk r P → false ≡ is_err r → P
if_went (Ok x) P p is = p
if_went (Err e) P p is = absurd (cc)

-- a piece was not taken
pub not_taken : (a b : Option (List ℕ)) (f g : ℕ) (reader : Kept) (size : Size) (bytes : List ℕ) (e : ReadError) (r : Result Script ReadError) → Consumes a b bytes → IsTaken reader size bytes (Err e) → r ≡ Err e → IsReadSo a b f g r
not_taken a b f g reader size bytes e r p why is = subst (λ (x : Result Script ReadError). IsReadSo a b f g x) (sym is) (by e why)
  where
    by : (x : ReadError) → IsTaken reader size bytes (Err x) → IsReadSo a b f g (Err x)
    by errors.TooLarge large = large_read a b bytes p large
    by errors.NoMemory why = tt
    by errors.Failed why = absurd why
    by (errors.Bad line why) none = absurd none
