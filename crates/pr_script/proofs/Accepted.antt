-- The labels of an accepted script.
use Rattle.std.proofs.Common.{◌≡◌, ℕ, ◌+◌, ◌≤◌, Bool, true, false, ◌||◌, cond, List, [], ◌∷◌, ◌++◌, length, map, None, Result, Ok, Err, refl, sym, ap, subst, ◌∙◌, arith, length-append, IfOk}
use Rattle.std.specs.Prelude.{nat_lt, is_some}
use Rattle.std.specs.List.{AllByRecursion, list_any, filter}
use Rattle.std.specs.Str.{bytes_eq}
use Rattle.std.proofs.lemmas.List.{map-append, append-nil}
use Rattle.std.proofs.lemmas.List.Elements.{filter-append}
use Rattle.std.proofs.lemmas.Bool.Decides.{nat_tests}
use Rattle.pr_script.specs.declared.decl.Decl.{Decl}
use Rattle.pr_script.specs.declared.decl.Decl.TheVariants as decls
use Rattle.pr_script.specs.declared.item.Item.{Item}
use Rattle.pr_script.specs.declared.item.Item.TheVariants as items
use Rattle.pr_script.specs.declared.kind.Kind.{Kind}
use Rattle.pr_script.specs.declared.kind.Kind.TheVariants as kinds
use Rattle.pr_script.specs.declared.fault.ScriptFault.{ScriptFault}
use Rattle.pr_script.specs.declared.script.Script.{Script}
use Rattle.pr_script.specs.Answers.{Answers}
use Rattle.pr_script.specs.Labels.{AreDistinct, AreLabels, count_of, is_declared, is_kind, is_label, kind_of, label_of, labels_of, most_of, number_among}
use Rattle.pr_script.specs.Laws.{HaveLabels}
use Rattle.pr_script.specs.Lines.{line_item}
use Rattle.pr_script.specs.Reading.{Sofar, after, all_lines, is_skipped, next, start, told}
use Rattle.pr_script.proofs.LinesAgain.{IsAdded, item_again}
use Rattle.pr_script.proofs.Positions.{bytes_differ, none_passes}
use Rattle.pr_script.proofs.WholeScript.{answered, next_is, no_fault}

-- ---- one label more

neither : (a b : Bool) → (a || b) ≡ false → (a ≡ false) × (b ≡ false)
neither false b h = (refl, h)
neither true b h = absurd cc

other : (l m : List ℕ) → bytes_eq l m ≡ false → m ≡ l → ⊥
other l m h e = absurd (let t = bytes_differ l m (sym e) in cc)

all_more : (P : List ℕ → Type 0) (ls : List (List ℕ)) (l : List ℕ) → AllByRecursion P ls → P l → AllByRecursion P (ls ++ l ∷ [])
all_more P [] l h p = (p, tt)
all_more P (m ∷ ls) l h p = (h.0, all_more P ls l h.1 p)

distinct_more : (ls : List (List ℕ)) (l : List ℕ) → AreDistinct ls → list_any (bytes_eq l) ls ≡ false → AreDistinct (ls ++ l ∷ [])
distinct_more [] l h n = (tt, tt)
distinct_more (m ∷ ls) l h n =
    let p = neither (bytes_eq l m) (list_any (bytes_eq l) ls) n in
    (all_more (λ x. ¬ (m ≡ x)) ls l h.0 (other l m p.0), distinct_more ls l h.1 p.1)

-- what one more declaration adds to the labels of a kind
abbrev pub added : Bool → Decl → List (List ℕ)
added true d = label_of d ∷ []
added false d = []

labels_one : (t : Bool) (d : Decl) → map label_of (cond t (d ∷ []) []) ≡ added t d
labels_one true d = refl
labels_one false d = refl

pub labels_more : (k : Kind) (ds : List Decl) (d : Decl) → labels_of k (ds ++ d ∷ []) ≡ labels_of k ds ++ added (is_kind k d) d
unfolding labels_of
labels_more k ds d =
    ap (map label_of) (filter-append (is_kind k) ds (d ∷ []))
    ∙ map-append label_of (filter (is_kind k) ds) (filter (is_kind k) (d ∷ []))
    ∙ ap (λ (x : List (List ℕ)). map label_of (filter (is_kind k) ds) ++ x) (labels_one (is_kind k d) d)

undeclared : (k : Kind) (ds : List Decl) (l : List ℕ) → is_declared ds l ≡ false → is_some (number_among k ds l) ≡ false
undeclared k ds l h =
    let a = neither (is_some (number_among kinds.Node ds l) || is_some (number_among kinds.Client ds l)) (is_some (number_among kinds.Stream ds l)) h in
    let b = neither (is_some (number_among kinds.Node ds l)) (is_some (number_among kinds.Client ds l)) a.0 in
    of_kind k a b
  where
    of_kind : (k : Kind)
        → ((is_some (number_among kinds.Node ds l) || is_some (number_among kinds.Client ds l)) ≡ false) × (is_some (number_among kinds.Stream ds l) ≡ false)
        → (is_some (number_among kinds.Node ds l) ≡ false) × (is_some (number_among kinds.Client ds l) ≡ false)
        → is_some (number_among k ds l) ≡ false
    of_kind kinds.Node a b = b.0
    of_kind kinds.Client a b = b.1
    of_kind kinds.Stream a b = a.1

is_kind_of : (k : Kind) (d : Decl) → is_kind k d ≡ true → kind_of d ≡ k
is_kind_of kinds.Node (decls.Node label sets) h = refl
is_kind_of kinds.Client (decls.Client label node) h = refl
is_kind_of kinds.Stream (decls.Stream label source dest sub bodies) h = refl
is_kind_of kinds.Node (decls.Client label node) h = absurd cc
is_kind_of kinds.Node (decls.Stream label source dest sub bodies) h = absurd cc
is_kind_of kinds.Client (decls.Node label sets) h = absurd cc
is_kind_of kinds.Client (decls.Stream label source dest sub bodies) h = absurd cc
is_kind_of kinds.Stream (decls.Node label sets) h = absurd cc
is_kind_of kinds.Stream (decls.Client label node) h = absurd cc

count_more : (a b : ℕ) → nat_lt a b ≡ true → a + 1 ≤ b
count_more a b h = grind (arith, nat_tests)

-- ---- the labels of a kind, with one declaration more

few_more : (ls : List (List ℕ)) (t : Bool) (d : Decl) (most : ℕ) → length ls ≤ most → (t ≡ true → nat_lt (length ls) most ≡ true) → length (ls ++ added t d) ≤ most
few_more ls true d most h p = let e = length-append ls (label_of d ∷ []) in let q = count_more (length ls) most (p refl) in omega (arith, e, q)
few_more ls false d most h p = subst (λ (x : List (List ℕ)). length x ≤ most) (sym (append-nil ls)) h

each_more : (ls : List (List ℕ)) (t : Bool) (d : Decl) → AllByRecursion (λ l. is_label l ≡ true) ls → is_label (label_of d) ≡ true
    → AllByRecursion (λ l. is_label l ≡ true) (ls ++ added t d)
each_more ls true d h p = all_more (λ l. is_label l ≡ true) ls (label_of d) h p
each_more ls false d h p = subst (λ (x : List (List ℕ)). AllByRecursion (λ l. is_label l ≡ true) x) (sym (append-nil ls)) h

all_distinct : (ls : List (List ℕ)) (t : Bool) (d : Decl) → AreDistinct ls → list_any (bytes_eq (label_of d)) ls ≡ false → AreDistinct (ls ++ added t d)
all_distinct ls true d h p = distinct_more ls (label_of d) h p
all_distinct ls false d h p = subst (λ (x : List (List ℕ)). AreDistinct x) (sym (append-nil ls)) h

decl_more : (f : Sofar) (d : Decl) → AreLabels f.known.decls → IsAdded f.known d → AreLabels (f.known.decls ++ d ∷ [])
decl_more f d h a =
    let ds : List Decl = f.known.decls in
    let l : List ℕ = label_of d in
    let fits : (k : Kind) → is_kind k d ≡ true → nat_lt (count_of k f.known.decls) (most_of k) ≡ true = λ k e.
    subst (λ (x : Kind). nat_lt (count_of x f.known.decls) (most_of x) ≡ true) (is_kind_of k d e) a.few in
    record {
      few = λ k. subst (λ (x : List (List ℕ)). length x ≤ most_of k) (sym (labels_more k f.known.decls d)) (few_more (labels_of k f.known.decls) (is_kind k d) d (most_of k) (h.few k) (fits k));
      each = λ k. subst (λ (x : List (List ℕ)). AllByRecursion (λ y. is_label y ≡ true) x) (sym (labels_more k f.known.decls d)) (each_more (labels_of k f.known.decls) (is_kind k d) d (h.each k) a.label);
      distinct = λ k. subst (λ (x : List (List ℕ)). AreDistinct x) (sym (labels_more k f.known.decls d))
          (all_distinct (labels_of k f.known.decls) (is_kind k d) d (h.distinct k) (none_passes (bytes_eq (label_of d)) (labels_of k f.known.decls) (undeclared k f.known.decls (label_of d) a.undeclared)));
    }

-- ---- line by line

no_labels : AreLabels []
unfolding labels_of
no_labels = record { few = λ k. none k; each = λ k. tt; distinct = λ k. tt }
  where
    none : (k : Kind) → 0 ≤ most_of k
    none kinds.Node = omega arith
    none kinds.Client = omega arith
    none kinds.Stream = omega arith

told_labels : (f : Sofar) (line : List ℕ) (item : Item) → AreLabels f.known.decls → line_item f.known line ≡ Ok item → AreLabels (told f (Ok item)).known.decls
told_labels f line (items.Decl d) h e = decl_more f d h ((item_again f.known line (items.Decl d) e).1)
told_labels f line (items.Command c) h e = h

one_line : (f : Sofar) (l : List ℕ) (skip : Bool) (r : Result Item ℕ) → is_skipped l ≡ skip → line_item f.known l ≡ r → f.fault ≡ None
    → AreLabels f.known.decls → AreLabels (next f l).known.decls
unfolding next
one_line f l true r e h n a = rw (n, e) a
one_line f l false (Ok item) e h n a = subst (λ (x : Sofar). AreLabels x.known.decls) (sym (next_is f l (Ok item) n e h)) (told_labels f l item a h)
one_line f l false (Err why) e h n a = rw (n, e, h) a

all_labels : (f : Sofar) (ls : List (List ℕ)) → f.fault ≡ None → (after f ls).fault ≡ None → AreLabels f.known.decls → AreLabels (after f ls).known.decls
all_labels f [] n m a = a
all_labels f (l ∷ ls) n m a =
    all_labels (next f l) ls (no_fault (next f l) (next f l).fault ls refl m) m (one_line f l (is_skipped l) (line_item f.known l) refl refl n a)

pub have_labels : HaveLabels
have_labels bytes s (lines, rest, cut, e) =
    let f = after start (all_lines lines rest) in
    let a = answered (after start (all_lines lines rest)) s (after start (all_lines lines rest)).fault (after start (all_lines lines rest)).known.in_phase refl refl (sym e) in
    subst (λ (x : Script). AreLabels x.decls.list) a.2 (all_labels start (all_lines lines rest) refl a.0 no_labels)

pub answered_labels : (r : Result Script ScriptFault) (bytes : List ℕ) → Answers r bytes → IfOk r (λ s. AreLabels s.decls.list)
answered_labels (Ok s) bytes h = have_labels bytes s h
answered_labels (Err e) bytes h = tt
