-- The turns of the loops that print.
use Rattle.std.proofs.Common.{◌≡◌, ℕ, zero, suc, ◌+◌, ◌-◌, ◌<◌, ◌≤◌, true, false, List, [], ◌∷◌, ◌++◌, length, get_or, take, drop, refl, sym, ap, ◌∙◌, append_assoc, arith}
use Rattle.std.specs.List.{flat_map}
use Rattle.std.proofs.Math.Seq.{drop-cons}
use Rattle.std.proofs.lemmas.List.{append-nil, drop_all, take_more}
use Rattle.std.proofs.lemmas.List.Concat.{flat_map-cons}
use Rattle.pr_names.specs.Span.{Span}
use Rattle.pr_sets.specs.Text.{set_text}
use Rattle.pr_script.specs.declared.decl.Decl.{Decl}
use Rattle.pr_script.specs.declared.kind.Kind.{Kind}
use Rattle.pr_script.specs.Labels.{is_kind, label_of, labels_of}
use Rattle.pr_script.specs.Reading.{ended}
use Rattle.pr_script.specs.Printing.{sets_text, decl_text, decl_lines}

drop_next : {A : Type 0} (xs : List A) (i : ℕ) (x : A) → i < length xs → x ≡ get_or xs i x → drop i xs ≡ x ∷ drop (i + 1) xs
drop_next {A = A} xs i x lt at =
    let e : suc i ≡ i + 1 = omega arith in
    drop-cons xs i x lt ∙ ap (λ (t : A). t ∷ drop (suc i) xs) (sym at) ∙ ap (λ (n : ℕ). x ∷ drop n xs) e

pub sets_turn : (xs : List (List Span)) (i : ℕ) (s : List Span) (out new all : List ℕ) → i < length xs → s ≡ get_or xs i s → new ≡ out ++ 32 ∷ set_text s
    → out ++ sets_text (drop i xs) ≡ all → new ++ sets_text (drop (i + 1) xs) ≡ all
unfolding sets_text
sets_turn xs i s out new all lt at is h =
    let e : sets_text (drop i xs) ≡ (32 ∷ set_text s) ++ sets_text (drop (i + 1) xs) = ap sets_text (drop_next xs i s lt at) in
    ap (λ (x : List ℕ). x ++ sets_text (drop (i + 1) xs)) is ∙ append_assoc out (32 ∷ set_text s) (sets_text (drop (i + 1) xs)) ∙ ap (λ (x : List ℕ). out ++ x) (sym e) ∙ h

pub sets_end : (xs : List (List Span)) (i : ℕ) (out all : List ℕ) → length xs ≤ i → out ++ sets_text (drop i xs) ≡ all → out ≡ all
unfolding sets_text
sets_end xs i out all le h = sym (append-nil out) ∙ ap (λ (x : List (List Span)). out ++ sets_text x) (sym (drop_all i xs le)) ∙ h

pub decl_turn : (ds : List Decl) (i : ℕ) (d : Decl) (out new all : List ℕ) → i < length ds → d ≡ get_or ds i d → new ≡ out ++ ended (decl_text (take i ds) d)
    → out ++ flat_map ended (decl_lines (take i ds) (drop i ds)) ≡ all → new ++ flat_map ended (decl_lines (take (i + 1) ds) (drop (i + 1) ds)) ≡ all
unfolding decl_lines
decl_turn ds i d out new all lt at is h =
    let line = ended (decl_text (take i ds) d) in
    let behind : drop i ds ≡ d ∷ drop (i + 1) ds = drop_next ds i d lt at in
    let front : take (i + 1) ds ≡ take i ds ++ d ∷ [] = take_more ds i d lt ∙ ap (λ (t : Decl). take i ds ++ t ∷ []) (sym at) in
    let rest : List (List ℕ) = decl_lines (take i ds ++ d ∷ []) (drop (i + 1) ds) in
    let e : flat_map ended (decl_lines (take i ds) (drop i ds)) ≡ ended (decl_text (take i ds) d) ++ flat_map ended (decl_lines (take i ds ++ d ∷ []) (drop (i + 1) ds)) =
    ap (λ (x : List Decl). flat_map ended (decl_lines (take i ds) x)) behind ∙ flat_map-cons ended (decl_text (take i ds) d) (decl_lines (take i ds ++ d ∷ []) (drop (i + 1) ds)) in
    ap (λ (x : List ℕ). x ++ flat_map ended (decl_lines (take (i + 1) ds) (drop (i + 1) ds))) is
    ∙ append_assoc out (ended (decl_text (take i ds) d)) (flat_map ended (decl_lines (take (i + 1) ds) (drop (i + 1) ds)))
    ∙ ap (λ (x : List Decl). out ++ (ended (decl_text (take i ds) d) ++ flat_map ended (decl_lines x (drop (i + 1) ds)))) front
    ∙ ap (λ (x : List ℕ). out ++ x) (sym e) ∙ h

pub decl_end : (ds : List Decl) (i : ℕ) (out all : List ℕ) → length ds ≤ i → out ++ flat_map ended (decl_lines (take i ds) (drop i ds)) ≡ all → out ≡ all
unfolding decl_lines
decl_end ds i out all le h = sym (append-nil out) ∙ ap (λ (x : List Decl). out ++ flat_map ended (decl_lines (take i ds) x)) (sym (drop_all i ds le)) ∙ h

-- ---- a label by its number

labels_first : (k : Kind) (d : Decl) (ds : List Decl) → is_kind k d ≡ true → labels_of k (d ∷ ds) ≡ label_of d ∷ labels_of k ds
unfolding labels_of
labels_first k d ds e = rw e refl

labels_skip : (k : Kind) (d : Decl) (ds : List Decl) → is_kind k d ≡ false → labels_of k (d ∷ ds) ≡ labels_of k ds
unfolding labels_of
labels_skip k d ds e = rw e refl

decl_at : (ds : List Decl) (i : ℕ) (d : Decl) → i < length ds → d ≡ get_or ds i d → drop i ds ≡ d ∷ drop (i + 1) ds
decl_at ds i d lt at = drop_next ds i d lt at

pub label_found : (k : Kind) (ds : List Decl) (i : ℕ) (d : Decl) (left : ℕ) (all : List ℕ) → i < length ds → d ≡ get_or ds i d → is_kind k d ≡ true → left ≡ 0
    → get_or (labels_of k (drop i ds)) left [] ≡ all → label_of d ≡ all
label_found k ds i d left all lt at e z h =
    let l : labels_of k (drop i ds) ≡ label_of d ∷ labels_of k (drop (i + 1) ds) = ap (labels_of k) (decl_at ds i d lt at) ∙ labels_first k d (drop (i + 1) ds) e in
    sym (ap (λ (x : List (List ℕ)). get_or x 0 []) l) ∙ ap (λ (n : ℕ). get_or (labels_of k (drop i ds)) n []) (sym z) ∙ h

less_one : (x : List ℕ) (xs : List (List ℕ)) (n : ℕ) → (n ≡ 0 → ⊥) → get_or (x ∷ xs) n [] ≡ get_or xs (n - 1) []
less_one x xs zero ne = absurd (ne refl)
less_one x xs (suc n) ne = let e : n ≡ suc n - 1 = omega arith in ap (λ (m : ℕ). get_or xs m []) e

pub label_passed : (k : Kind) (ds : List Decl) (i : ℕ) (d : Decl) (left less : ℕ) (all : List ℕ) → i < length ds → d ≡ get_or ds i d → is_kind k d ≡ true → (left ≡ 0 → ⊥) → less ≡ left - 1
    → get_or (labels_of k (drop i ds)) left [] ≡ all → get_or (labels_of k (drop (i + 1) ds)) less [] ≡ all
label_passed k ds i d left less all lt at e ne is h =
    let l : labels_of k (drop i ds) ≡ label_of d ∷ labels_of k (drop (i + 1) ds) = ap (labels_of k) (decl_at ds i d lt at) ∙ labels_first k d (drop (i + 1) ds) e in
    ap (λ (n : ℕ). get_or (labels_of k (drop (i + 1) ds)) n []) is
    ∙ sym (less_one (label_of d) (labels_of k (drop (i + 1) ds)) left ne)
    ∙ sym (ap (λ (x : List (List ℕ)). get_or x left []) l) ∙ h

pub label_skipped : (k : Kind) (ds : List Decl) (i : ℕ) (d : Decl) (left less : ℕ) (all : List ℕ) → i < length ds → d ≡ get_or ds i d → is_kind k d ≡ false → less ≡ left
    → get_or (labels_of k (drop i ds)) left [] ≡ all → get_or (labels_of k (drop (i + 1) ds)) less [] ≡ all
label_skipped k ds i d left less all lt at e is h =
    let l : labels_of k (drop i ds) ≡ labels_of k (drop (i + 1) ds) = ap (labels_of k) (decl_at ds i d lt at) ∙ labels_skip k d (drop (i + 1) ds) e in
    ap (λ (n : ℕ). get_or (labels_of k (drop (i + 1) ds)) n []) is ∙ sym (ap (λ (x : List (List ℕ)). get_or x left []) l) ∙ h

pub label_none : (k : Kind) (ds : List Decl) (i left : ℕ) (none all : List ℕ) → length ds ≤ i → none ≡ [] → get_or (labels_of k (drop i ds)) left [] ≡ all → none ≡ all
unfolding labels_of
label_none k ds i left none all le z h = z ∙ ap (λ (x : List Decl). get_or (labels_of k x) left []) (sym (drop_all i ds le)) ∙ h
