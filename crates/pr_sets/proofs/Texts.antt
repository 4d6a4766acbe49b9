-- Printed sets are read back.
use Rattle.std.proofs.Common.{◌≡◌, ℕ, suc, ◌+◌, ◌≤◌, Bool, true, false, refl, sym, ap, ◌∙◌, arith, inl, inr, List, [], ◌∷◌, ◌++◌, length, map, append_assoc}
use Rattle.std.proofs.lemmas.List.{append-nil, length-map}
use Rattle.std.specs.Prelude.{◌==◌, nat_lt, cond, Ok, Err}
use Rattle.std.specs.List.{slice_split, onto_first}
use Rattle.std.proofs.lemmas.Bool.Decides.{leb_tells}
use Rattle.pr_names.specs.Span.{Span}
use Rattle.pr_names.specs.Text.{interval_text}
use Rattle.pr_names.proofs.Texts as names
use Rattle.pr_names.proofs.Texts.{Lacks}
use Rattle.pr_sets.specs.Spans.{IsSet}
use Rattle.pr_sets.specs.Text.{items, items_read, list_of, listed, more_text, set_read, set_text, with_item}
use Rattle.pr_sets.specs.declared.fault.SetFault.TheVariants.{TooMany}
use Rattle.pr_sets.proofs.Adding.{apart_spans, list_is}
use Rattle.pr_sets.proofs.Apart.{apart_of}
use Rattle.pr_sets.proofs.Same.{same_list}

-- the list of a set's intervals is the set
list_itself : (ss : List Span) → IsSet ss → list_of ss ≡ ss
list_itself ss h =
    let is = list_is ss (apart_spans 0 ss (apart_of ss h)) in
    same_list (list_of ss) ss is.set h is.names

texts_read : (ss : List Span) (k : ℕ) (parts : List Span) → IsSet ss → items_read (map interval_text ss) k parts ≡ Ok (parts ++ ss)
unfolding items_read
texts_read [] k parts h = ap Ok (sym (append-nil parts))
texts_read (s ∷ ss) k parts h =
    ap (λ r. with_item k r (λ t. items_read (map interval_text ss) (k + 1) (parts ++ t ∷ []))) (names.reads_back s h.0)
    ∙ texts_read ss (k + 1) (parts ++ s ∷ []) h.2
    ∙ ap Ok (append_assoc parts (s ∷ []) ss)

split_none : (p : ℕ → Bool) (bs : List ℕ) → Lacks p bs → slice_split p bs ≡ bs ∷ []
split_none p [] h = refl
split_none p (b ∷ bs) h = ap (λ t. cond t ([] ∷ slice_split p bs) (onto_first b (slice_split p bs))) h.0 ∙ ap (onto_first b) (split_none p bs h.1)

split_at : (p : ℕ → Bool) (bs : List ℕ) (c : ℕ) (cs : List ℕ) → Lacks p bs → p c ≡ true → slice_split p (bs ++ c ∷ cs) ≡ bs ∷ slice_split p cs
split_at p [] c cs h e = ap (λ t. cond t ([] ∷ slice_split p cs) (onto_first c (slice_split p cs))) e
split_at p (b ∷ bs) c cs h e =
    ap (λ t. cond t ([] ∷ slice_split p (bs ++ c ∷ cs)) (onto_first b (slice_split p (bs ++ c ∷ cs)))) h.0
    ∙ ap (onto_first b) (split_at p bs c cs h.1 e)

items_are : (s : Span) (ss : List Span) → IsSet (s ∷ ss) → items (interval_text s ++ more_text ss) ≡ map interval_text (s ∷ ss)
unfolding more_text
items_are s [] h = ap items (append-nil (interval_text s)) ∙ split_none (λ b. b == 44) (interval_text s) (names.text_lacks_comma s h.0)
items_are s (t ∷ ts) h =
    split_at (λ b. b == 44) (interval_text s) 44 (interval_text t ++ more_text ts) (names.text_lacks_comma s h.0) refl
    ∙ ap (λ us. interval_text s ∷ us) (items_are t ts h.2)

few_enough : (most : ℕ) (s : Span) (ss : List Span) → length (s ∷ ss) ≤ most → nat_lt most (length (map interval_text (s ∷ ss))) ≡ false
few_enough most s ss le = elim (leb_tells (suc most) (length (map interval_text (s ∷ ss)))) [
  | inl g ↦ absurd (omega (arith, g.1, length-map (s ∷ ss) interval_text))
  | inr g ↦ g.0
]

pub reads_back : (ss : List Span) (most : ℕ) → IsSet ss → length ss ≤ most → set_read (set_text ss) most ≡ Ok ss
unfolding set_read set_text
reads_back [] most h le = refl
reads_back (s ∷ ss) most h le =
    let text = interval_text s ++ more_text ss in
    ap (λ t. cond t (Ok []) (cond (nat_lt most (length (items text))) (Err TooMany) (listed (items_read (items text) 0 [])))) (names.text_is_no_end s (more_text ss) h.0)
    ∙ ap (λ us. cond (nat_lt most (length us)) (Err TooMany) (listed (items_read us 0 []))) (items_are s ss h)
    ∙ ap (λ t. cond t (Err TooMany) (listed (items_read (map interval_text (s ∷ ss)) 0 []))) (few_enough most s ss le)
    ∙ ap listed (texts_read (s ∷ ss) 0 [] h)
    ∙ ap Ok (list_itself (s ∷ ss) h)
