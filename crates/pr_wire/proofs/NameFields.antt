-- Names, bounds and intervals.
use Rattle.std.proofs.Common.{◌≡◌, ℕ, zero, suc, ◌≤◌, Bool, true, false, cond, List, [], ◌∷◌, ◌++◌, length, Option, Some, None, Err, refl, sym, ap, subst, ◌∙◌, append_assoc, arith}
use Rattle.std.specs.Prelude.{not, nat_lt, ◌==◌}
use Rattle.std.specs.List.{position}
use Rattle.std.proofs.lemmas.Bool.{eqb-false, ltb-false}
use Rattle.pr_names.specs.Byte.{allowed}
use Rattle.pr_names.specs.Name.{IsName}
use Rattle.pr_names.specs.Bound.{IsBound, is_under}
use Rattle.pr_names.specs.Span.{Span, IsSpan}
use Rattle.pr_names.specs.Read.{name_read, unless_bad}
use Rattle.pr_names.specs.declared.bound.Bound.{Bound}
use Rattle.pr_names.specs.declared.bound.Bound.TheVariants.{At, End}
use Rattle.pr_names.specs.declared.name.NameFault.TheVariants.{Empty, TooLong}
use Rattle.pr_names.proofs.Reading.{none_bad}
use Rattle.pr_names.proofs.Texts.{name_read_ok}
use Rattle.pr_wire.specs.Spelling.{bound_text, name_text, span_text}
use Rattle.pr_wire.specs.Reading.{◌>>=◌, bound_at, byte_at, bytes_at, given, name_at, name_or_none, span_at}
use Rattle.pr_wire.proofs.Fields.{IsBytes, IsBytes-rest, IsField, Read, bind_some, byte_field, given_some, glue, run_field, some_is}

unbad : (o : Option ℕ) (bs n : List ℕ) → name_or_none (unless_bad bs o) ≡ Some n → (o ≡ None) × (bs ≡ n)
unbad None bs n e = (refl, cc)
unbad (Some at) bs n e = absurd cc

read_passes : (a b : Bool) (o : Option ℕ) (k : ℕ) (bs n : List ℕ) → name_or_none (cond a (Err Empty) (cond b (Err (TooLong k)) (unless_bad bs o))) ≡ Some n → (a ≡ false) × (b ≡ false) × (o ≡ None) × (bs ≡ n)
read_passes true b o k bs n e = absurd cc
read_passes false true o k bs n e = absurd cc
read_passes false false o k bs n e = let u = unbad o bs n e in (refl, refl, u.0, u.1)

name_is : (bs n : List ℕ) → name_or_none (name_read bs) ≡ Some n → (bs ≡ n) × IsName bs
name_is bs n e =
    let p = read_passes (length bs == 0) (nat_lt 64 (length bs)) (position (λ b. not (allowed b)) bs) (length bs) bs n e in
    let some : length bs ≡ 0 → ⊥ = eqb-false (length bs) 0 p.0 in
    let most : length bs ≤ 64 = ltb-false 64 (length bs) p.1 in
    (p.3, record { some = omega arith; most = most; each = none_bad bs (sym p.2) })

name_takes : (bytes : List ℕ) (y : List ℕ × List ℕ) → IsBytes bytes → name_at bytes ≡ Some y → Read name_text IsName bytes y
unfolding name_at name_text
name_takes bytes y fits e =
    let a = bind_some (byte_at bytes) (λ len. bytes_at len.0 len.1 >>= λ text. name_or_none (name_read text.0) >>= λ name. Some (name, text.1)) y e in
    let b = bind_some (bytes_at a.0.0 a.0.1) (λ text. name_or_none (name_read text.0) >>= λ name. Some (name, text.1)) y a.2 in
    let c = bind_some (name_or_none (name_read b.0.0)) (λ name. Some (name, b.0.1)) y b.2 in
    let len = byte_field.takes bytes a.0 fits a.1 in
    let text = (run_field a.0.0).takes a.0.1 b.0 len.fits b.1 in
    let name = name_is b.0.0 c.0 c.1 in
    let made : List ℕ × List ℕ = (b.0.0, b.0.1) in
    subst (Read name_text IsName bytes) (ap (λ (n : List ℕ). let r : List ℕ × List ℕ = (n, b.0.1) in r) name.0 ∙ some_is (c.0, b.0.1) y c.2) (record {
      parts = len.parts ∙ ap (λ (t : List ℕ). a.0.0 ∷ t) text.parts ∙ ap (λ (k : ℕ). k ∷ (b.0.0 ++ b.0.1)) (sym text.holds);
      fits = text.fits;
      holds = name.1;
    })

name_again : (n rest : List ℕ) → IsName n → name_at (name_text n ++ rest) ≡ Some (n, rest)
unfolding name_at name_text
name_again n rest h = rw ((run_field (length n)).again n rest refl, name_read_ok n h) refl

pub name_field : IsField name_at name_text IsName
name_field = record { takes = name_takes; again = name_again }

-- ---- bounds

bound_takes : (bytes : List ℕ) (y : Bound × List ℕ) → IsBytes bytes → bound_at bytes ≡ Some y → Read bound_text IsBound bytes y
unfolding bound_at bound_text
bound_takes [] y fits e = absurd cc
bound_takes (zero ∷ bytes) y fits e =
    subst (Read bound_text IsBound (zero ∷ bytes)) (some_is (End, bytes) y e) (record { parts = refl; fits = IsBytes-rest 0 bytes fits; holds = tt })
bound_takes (suc len ∷ bytes) y fits e =
    let a = bind_some (name_at (suc len ∷ bytes)) (λ name. Some (At name.0, name.1)) y e in
    let name = name_field.takes (suc len ∷ bytes) a.0 fits a.1 in
    subst (Read bound_text IsBound (suc len ∷ bytes)) (some_is (At a.0.0, a.0.1) y a.2) (record { parts = name.parts; fits = name.fits; holds = name.holds })

bound_again : (b : Bound) (rest : List ℕ) → IsBound b → bound_at (bound_text b ++ rest) ≡ Some (b, rest)
unfolding bound_at bound_text name_text
bound_again End rest h = refl
bound_again (At []) rest h = absurd (omega (arith, h.some))
bound_again (At (c ∷ cs)) rest h = rw (name_field.again (c ∷ cs) rest h) refl

pub bound_field : IsField bound_at bound_text IsBound
bound_field = record { takes = bound_takes; again = bound_again }

-- ---- intervals

span_takes : (bytes : List ℕ) (y : Span × List ℕ) → IsBytes bytes → span_at bytes ≡ Some y → Read span_text IsSpan bytes y
unfolding span_at span_text
span_takes bytes y fits e =
    let a = bind_some (name_at bytes) (λ lo. bound_at lo.1 >>= λ hi. given (is_under lo.0 hi.0) (record { lo = lo.0; hi = hi.0 }, hi.1)) y e in
    let b = bind_some (bound_at a.0.1) (λ hi. given (is_under a.0.0 hi.0) (record { lo = a.0.0; hi = hi.0 }, hi.1)) y a.2 in
    let made : Span × List ℕ = (record { lo = a.0.0; hi = b.0.0 }, b.0.1) in
    let g = given_some (is_under a.0.0 b.0.0) made y b.2 in
    let lo = name_field.takes bytes a.0 fits a.1 in
    let hi = bound_field.takes a.0.1 b.0 lo.fits b.1 in
    subst (Read span_text IsSpan bytes) g.1 (record {
      parts = glue bytes (name_text a.0.0) a.0.1 (bound_text b.0.0) b.0.1 lo.parts hi.parts;
      fits = hi.fits;
      holds = record { lo = lo.holds; hi = hi.holds; some = g.0 };
    })

span_again : (s : Span) (rest : List ℕ) → IsSpan s → span_at (span_text s ++ rest) ≡ Some (s, rest)
unfolding span_at span_text
span_again s rest h =
    let under : is_under s.lo s.hi ≡ true = h.some in
    ap span_at (append_assoc (name_text s.lo) (bound_text s.hi) rest) ∙ rw (name_field.again s.lo (bound_text s.hi ++ rest) h.lo, bound_field.again s.hi rest h.hi, under) refl

pub span_field : IsField span_at span_text IsSpan
span_field = record { takes = span_takes; again = span_again }
