-- The sets on a line, one after the other.
use Rattle.std.proofs.Common.{◌≡◌, ℕ, List, [], ◌∷◌, ◌++◌, length, Result, Ok, Err, refl, sym, ap, ◌∙◌, append_assoc, arith}
use Rattle.std.proofs.lemmas.List.{append-nil}
use Rattle.pr_names.specs.Span.{Span}
use Rattle.pr_script.specs.declared.refusal.Refusal.{Refusal}
use Rattle.pr_script.specs.declared.refusal.Refusal.TheVariants as refusals
use Rattle.pr_script.specs.Fields.{◌>>=◌, Fails, field_at, fields_of, wanted}
use Rattle.pr_script.specs.Sets.{set_of, sets_of, after_sets}
use Rattle.pr_script.proofs.AllFields.{field_first, no_field}

regroup : (front : List (List Span)) (o : List Span) (read : Result (List (List Span)) ℕ) → after_sets front (read >>= λ ss. Ok (o ∷ ss)) ≡ after_sets (front ++ o ∷ []) read
regroup front o (Ok ss) = ap (λ (x : List (List Span)). Ok x) (simp append_assoc)
regroup front o (Err n) = refl

pub one_set : (front : List (List Span)) (rest more one : List ℕ) (o : List Span) (total : Result (List (List Span)) ℕ) → field_at rest ≡ Ok (one, more) → wanted 6 (set_of one) ≡ Ok o
    → after_sets front (sets_of (fields_of rest)) ≡ total → after_sets (front ++ o ∷ []) (sets_of (fields_of more)) ≡ total
unfolding sets_of
one_set front rest more one o total f n so_far =
    let p = field_first rest (one, more) f in
    let e : sets_of (fields_of rest) ≡ (sets_of (fields_of more) >>= λ ss. Ok (o ∷ ss)) = rw (p.0, n) refl in
    sym (regroup front o (sets_of (fields_of more))) ∙ sym (ap (after_sets front) e) ∙ so_far

pub set_stops : (e : Refusal) (front : List (List Span)) (rest more one : List ℕ) (total : Result (List (List Span)) ℕ) → field_at rest ≡ Ok (one, more) → Fails e (wanted 6 (set_of one))
    → after_sets front (sets_of (fields_of rest)) ≡ total → Fails e total
unfolding sets_of
set_stops refusals.NoMemory front rest more one total f n so_far = tt
set_stops (refusals.Why k) front rest more one total f n so_far =
    let p = field_first rest (one, more) f in
    let e : sets_of (fields_of rest) ≡ Err k = rw (p.0, n) refl in
    sym so_far ∙ ap (after_sets front) e

pub no_more : (front : List (List Span)) (rest : List ℕ) (n : ℕ) (total : Result (List (List Span)) ℕ) → field_at rest ≡ Err n
    → after_sets front (sets_of (fields_of rest)) ≡ total → total ≡ Ok front
unfolding sets_of
no_more front rest n total f so_far =
    let e : sets_of (fields_of rest) ≡ Ok [] = rw (no_field rest n f) refl in
    sym so_far ∙ ap (after_sets front) e ∙ ap (λ (x : List (List Span)). Ok x) (append-nil front)

pub no_rest : (front : List (List Span)) (rest : List ℕ) (total : Result (List (List Span)) ℕ) → length rest ≡ 0 → after_sets front (sets_of (fields_of rest)) ≡ total → total ≡ Ok front
unfolding sets_of fields_of
no_rest front [] total e so_far = sym so_far ∙ ap (λ (x : List (List Span)). Ok x) (append-nil front)
no_rest front (b ∷ bs) total e so_far = absurd (omega arith)

pub none_left : (e : Refusal) (n : ℕ) (front : List (List Span)) (rest : List ℕ) (total : Result (List (List Span)) ℕ) → e ≡ refusals.Why n → Fails e (field_at rest)
    → after_sets front (sets_of (fields_of rest)) ≡ total → total ≡ Ok front
none_left refusals.NoMemory n front rest total e f so_far = absurd cc
none_left (refusals.Why m) n front rest total e f so_far = no_more front rest m total f so_far
