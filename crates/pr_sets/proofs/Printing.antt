-- The turns of the loops that print sets.
use Rattle.std.proofs.Common.{◌≡◌, ℕ, ◌+◌, ◌-◌, ◌<◌, ◌≤◌, true, false, refl, sym, ap, ◌∙◌, subst, arith, inl, inr, List, [], ◌∷◌, ◌++◌, length, take, drop, get_or, append_assoc}
use Rattle.std.specs.Prelude.{◌==◌, Result, Ok, Err, OnErr}
use Rattle.std.proofs.lemmas.Bool.Decides.{eqb_tells}
use Rattle.std.proofs.lemmas.List.{append-nil, take_all, take_more}
use Rattle.std.proofs.Common.{take-append-drop}
use Rattle.pr_names.specs.Span.{Span}
use Rattle.pr_names.specs.Text.{bound_text, end_text, interval_text, is_all_from, is_one, is_whole}
use Rattle.pr_sets.specs.Text.{AddsFront, more_text, set_text}
use Rattle.pr_sets.proofs.Turns.{drop_is}

-- ---- a beginning of a text

pub front_first : (old new text more : List ℕ) → AddsFront old new text → AddsFront old new (text ++ more)
front_first old new text more h = record {
  front = h.front;
  left = h.left ++ more;
  is_front = ap (λ t. t ++ more) h.is_front ∙ append_assoc h.front h.left more;
  adds = h.adds;
}

pub front_behind : (old mid new text more : List ℕ) → mid ≡ old ++ text → AddsFront mid new more → AddsFront old new (text ++ more)
front_behind old mid new text more e h = record {
  front = text ++ h.front;
  left = h.left;
  is_front = ap (λ t. text ++ t) h.is_front ∙ sym (append_assoc text h.front h.left);
  adds = h.adds ∙ ap (λ t. t ++ h.front) e ∙ append_assoc old text h.front;
}

pub front_none : (old new text : List ℕ) → new ≡ old → AddsFront old new text
front_none old new text e = record { front = []; left = text; is_front = refl; adds = e ∙ sym (append-nil old) }

pub on_err_none : {E : Type 0} (r : Result (Unit {0}) E) (old new text : List ℕ) → OnErr r (new ≡ old) → OnErr r (AddsFront old new text)
on_err_none (Ok u) old new text h = tt
on_err_none (Err e) old new text h = front_none old new text h

pub on_err : {E : Type 0} (r : Result (Unit {0}) E) (old new text : List ℕ) → AddsFront old new text → OnErr r (AddsFront old new text)
on_err (Ok u) old new text h = tt
on_err (Err e) old new text h = h

pub on_err_first : {E : Type 0} (r : Result (Unit {0}) E) (old new text more : List ℕ) → OnErr r (AddsFront old new text) → OnErr r (AddsFront old new (text ++ more))
on_err_first (Ok u) old new text more h = tt
on_err_first (Err e) old new text more h = front_first old new text more h

pub on_err_behind : {E : Type 0} (r : Result (Unit {0}) E) (old mid new text more : List ℕ) → mid ≡ old ++ text → OnErr r (AddsFront mid new more) → OnErr r (AddsFront old new (text ++ more))
on_err_behind (Ok u) old mid new text more e h = tt
on_err_behind (Err f) old mid new text more e h = front_behind old mid new text more e h

-- ---- intervals behind one another

more_append : (ss ts : List Span) → more_text (ss ++ ts) ≡ more_text ss ++ more_text ts
unfolding more_text
more_append [] ts = refl
more_append (s ∷ ss) ts = ap (λ t. 44 ∷ (interval_text s ++ t)) (more_append ss ts) ∙ ap (λ t. 44 ∷ t) (sym (append_assoc (interval_text s) (more_text ss) (more_text ts)))

-- what is printed so far, the next interval and the rest
more_parts : (parts : List Span) (i : ℕ) (s : Span) → i < length parts → s ≡ get_or parts i s → more_text parts ≡ more_text (take i parts) ++ 44 ∷ (interval_text s ++ more_text (drop (i + 1) parts))
unfolding more_text
more_parts parts i s lt is =
    ap more_text (sym (take-append-drop i parts))
    ∙ more_append (take i parts) (drop i parts)
    ∙ ap (λ ss. more_text (take i parts) ++ more_text ss) (drop_is parts i s lt is)

pub more_turn : (parts : List Span) (i : ℕ) (s : Span) (old out mid new : List ℕ) → i < length parts → s ≡ get_or parts i s → mid ≡ out ++ 44 ∷ [] → new ≡ mid ++ interval_text s → out ≡ old ++ more_text (take i parts) → new ≡ old ++ more_text (take (i + 1) parts)
unfolding more_text
more_turn parts i s old out mid new lt is em en told =
    en
    ∙ ap (λ t. t ++ interval_text s) (em ∙ ap (λ t. t ++ 44 ∷ []) told)
    ∙ append_assoc (old ++ more_text (take i parts)) (44 ∷ []) (interval_text s)
    ∙ append_assoc old (more_text (take i parts)) (44 ∷ interval_text s)
    ∙ ap (λ t. old ++ (more_text (take i parts) ++ 44 ∷ t)) (sym (append-nil (interval_text s)))
    ∙ ap (λ t. old ++ t) (sym (more_append (take i parts) (s ∷ [])))
    ∙ ap (λ u. old ++ more_text (take i parts ++ u ∷ [])) is
    ∙ ap (λ ss. old ++ more_text ss) (sym (take_more parts i s lt))

pub more_end : (parts : List Span) (i : ℕ) (old out : List ℕ) → length parts ≤ i → out ≡ old ++ more_text (take i parts) → out ≡ old ++ more_text parts
more_end parts i old out le told = told ∙ ap (λ ss. old ++ more_text ss) (take_all i parts le)

pub comma_refused : {E : Type 0} (r : Result (Unit {0}) E) (parts : List Span) (i : ℕ) (s : Span) (old out new : List ℕ) → i < length parts → s ≡ get_or parts i s → out ≡ old ++ more_text (take i parts) → AddsFront out new (44 ∷ []) → OnErr r (AddsFront old new (more_text parts))
comma_refused r parts i s old out new lt is told h =
    let P : List ℕ → Type 0 = λ text. OnErr r (AddsFront old new text) in
    subst P (sym (more_parts parts i s lt is))
    (on_err r old new (more_text (take i parts) ++ 44 ∷ (interval_text s ++ more_text (drop (i + 1) parts)))
    (front_behind old out new (more_text (take i parts)) (44 ∷ (interval_text s ++ more_text (drop (i + 1) parts))) told
    (front_first out new (44 ∷ []) (interval_text s ++ more_text (drop (i + 1) parts)) h)))

pub interval_refused : {E : Type 0} (r : Result (Unit {0}) E) (parts : List Span) (i : ℕ) (s : Span) (old out mid new : List ℕ) → i < length parts → s ≡ get_or parts i s → out ≡ old ++ more_text (take i parts) → mid ≡ out ++ 44 ∷ [] → AddsFront mid new (interval_text s) → OnErr r (AddsFront old new (more_text parts))
interval_refused r parts i s old out mid new lt is told em h =
    let P : List ℕ → Type 0 = λ text. OnErr r (AddsFront old new text) in
    let more = interval_text s ++ more_text (drop (i + 1) parts) in
    subst P (sym (more_parts parts i s lt is))
    (on_err r old new (more_text (take i parts) ++ 44 ∷ more)
    (front_behind old out new (more_text (take i parts)) (44 ∷ more) told
    (front_behind out mid new (44 ∷ []) more em
    (front_first mid new (interval_text s) (more_text (drop (i + 1) parts)) h))))

-- an interval that is printed by both its ends
pub end_is : (s : Span) → is_one s ≡ false → is_all_from s ≡ false → 58 ∷ bound_text s.hi ≡ end_text s
unfolding end_text
end_is s e f = rw (e, f) refl

pub text_is : (s : Span) → is_whole s ≡ false → s.lo ++ end_text s ≡ interval_text s
unfolding interval_text
text_is s e = rw e refl

pub empty_text : (ss : List Span) → (length ss == 0) ≡ true → 126 ∷ [] ≡ set_text ss
unfolding set_text
empty_text [] h = refl
empty_text (s ∷ ss) h = absurd (elim (eqb_tells (length (s ∷ ss)) 0) [ inl e ↦ omega (arith, e.1) | inr e ↦ cc ])

pub first_text : (ss : List Span) (s : Span) → 0 < length ss → s ≡ get_or ss 0 s → set_text ss ≡ interval_text s ++ more_text (take (length ss - 1) (drop 1 ss))
unfolding set_text
first_text [] s lt is = absurd (omega arith)
first_text (t ∷ ts) s lt is = ap (λ u. interval_text u ++ more_text ts) (sym is) ∙ ap (λ us. interval_text s ++ more_text us) (sym (take_all (length (t ∷ ts) - 1) ts (omega arith)))

pub some_where_not : (n : ℕ) → (n == 0) ≡ false → 0 < n
some_where_not n h = elim (eqb_tells n 0) [ inl e ↦ absurd (cc) | inr e ↦ omega (arith, e.1) ]
