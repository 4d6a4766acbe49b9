-- A set that was read, printed, is read again.
use Rattle.std.proofs.Common.{◌≡◌, ℕ, ◌<◌, Bool, true, false, cond, List, [], ◌∷◌, ◌++◌, length, Some, Ok, refl, ap, subst, arith, length-append}
use Rattle.std.specs.List.{AllByRecursion}
use Rattle.pr_names.specs.Name.{IsName}
use Rattle.pr_names.specs.Bound.{IsBound}
use Rattle.pr_names.specs.Span.{Span, IsSpan}
use Rattle.pr_names.specs.Text.{interval_text, end_text, bound_text, is_whole, is_one, is_all_from}
use Rattle.pr_names.specs.declared.bound.Bound.{Bound}
use Rattle.pr_names.specs.declared.bound.Bound.TheVariants.{At, End}
use Rattle.pr_sets.specs.Spans.{IsSet}
use Rattle.pr_sets.specs.Text.{set_text, more_text}
use Rattle.pr_sets.proofs.Texts.{reads_back}
use Rattle.pr_script.specs.Fields.{◌>>=◌, field_at, fields_of}
use Rattle.pr_script.specs.Sets.{some_set, set_of, sets_of}
use Rattle.pr_script.specs.Printing.{sets_text}
use Rattle.pr_script.proofs.FieldsAgain.{IsField, bind_ok, wanted_ok, ok_is, field_again, field_alone}
use Rattle.pr_script.proofs.AllFields.{field_first}
use Rattle.pr_script.proofs.Visible.{Visible, Plain, visible_append, visible_plain, plain_more, plain_append, all_allowed, field_of}
use Rattle.pr_script.proofs.SpansRead.{IsShort, set_short}

-- ---- a printed set is one field

bound_visible : (b : Bound) → IsBound b → Visible (bound_text b)
bound_visible (At n) h = all_allowed n h.each
bound_visible End h = ((refl, refl), tt)

end_if : (t u : Bool) (b : Bound) → IsBound b → Visible (cond t [] (cond u (42 ∷ []) (58 ∷ bound_text b)))
end_if true u b h = tt
end_if false true b h = ((refl, refl), tt)
end_if false false b h = ((refl, refl), bound_visible b h)

end_visible : (s : Span) → IsSpan s → Visible (end_text s)
unfolding end_text
end_visible s h = end_if (is_one s) (is_all_from s) s.hi h.hi

span_if : (t : Bool) (lo more : List ℕ) → IsName lo → Visible more → Visible (cond t (42 ∷ []) (lo ++ more)) × (0 < length (cond t (42 ∷ []) (lo ++ more)))
span_if true lo more h v = (((refl, refl), tt), omega arith)
span_if false lo more h v = (visible_append lo more (all_allowed lo h.each) v, let l = length-append lo more in let m = h.some in omega (arith, l, m))

span_visible : (s : Span) → IsSpan s → Visible (interval_text s) × (0 < length (interval_text s))
unfolding interval_text
span_visible s h = span_if (is_whole s) s.lo (end_text s) h.lo (end_visible s h)

more_visible : (ss : List Span) → IsSet ss → Visible (more_text ss)
unfolding more_text
more_visible [] h = tt
more_visible (s ∷ ss) h = ((refl, refl), visible_append (interval_text s) (more_text ss) ((span_visible s h.0).0) (more_visible ss h.2))

pub set_visible : (ss : List Span) → IsSet ss → Visible (set_text ss) × (0 < length (set_text ss))
unfolding set_text
set_visible [] h = (((refl, refl), tt), omega arith)
set_visible (s ∷ ss) h =
    let v = span_visible s h.0 in
    (visible_append (interval_text s) (more_text ss) v.0 (more_visible ss h.2), let l = length-append (interval_text s) (more_text ss) in let m = v.1 in omega (arith, l, m))

pub set_field : (ss : List Span) → IsShort ss → IsField (set_text ss)
set_field ss h = let v = set_visible ss h.set in field_of (set_text ss) v.1 v.0

pub set_plain : (ss : List Span) → IsShort ss → Plain (set_text ss)
set_plain ss h = visible_plain (set_text ss) ((set_visible ss h.set).0)

pub set_again : (ss : List Span) → IsShort ss → set_of (set_text ss) ≡ Some ss
set_again [] h = absurd (let l = h.some in omega (arith, l))
set_again (s ∷ ss) h = ap some_set (reads_back (s ∷ ss) 16 h.set h.few)

-- ---- the sets of a line

abbrev pub AreShort : List (List Span) → Type 0
AreShort sets = AllByRecursion IsShort sets

pub sets_short : (fs : List (List ℕ)) (sets : List (List Span)) → sets_of fs ≡ Ok sets → AreShort sets
unfolding sets_of
sets_short [] sets e = subst (λ (x : List (List Span)). AreShort x) (ok_is [] sets e) tt
sets_short (f ∷ fs) sets e =
    let a = wanted_ok 6 (set_of f) (λ s. sets_of fs >>= λ ss. Ok (s ∷ ss)) sets e in
    let b = bind_ok (sets_of fs) (λ ss. Ok (a.0 ∷ ss)) sets a.2 in
    subst (λ (x : List (List Span)). AreShort x) (ok_is (a.0 ∷ b.0) sets b.2) (set_short f a.0 a.1, sets_short fs b.0 b.1)

first_field : (s : List Span) (ss : List (List Span)) → IsShort s → field_at (32 ∷ (set_text s ++ sets_text ss)) ≡ Ok (set_text s, sets_text ss)
unfolding sets_text
first_field s [] h = field_alone (set_text s) (set_field s h)
first_field s (t ∷ ts) h = field_again (set_text s) (set_text t ++ sets_text ts) (set_field s h)

pub sets_again : (sets : List (List Span)) → AreShort sets → sets_of (fields_of (sets_text sets)) ≡ Ok sets
unfolding sets_of fields_of sets_text
sets_again [] h = refl
sets_again (s ∷ ss) h =
    let p = field_first (32 ∷ (set_text s ++ sets_text ss)) (set_text s, sets_text ss) (first_field s ss h.0) in
    rw (p.0, set_again s h.0, sets_again ss h.1) refl

pub sets_plain : (sets : List (List Span)) → AreShort sets → Plain (sets_text sets)
unfolding sets_text
sets_plain [] h = refl
sets_plain (s ∷ ss) h = plain_more 32 (set_text s ++ sets_text ss) refl (plain_append (set_text s) (sets_text ss) (set_plain s h.0) (sets_plain ss h.1))
