-- The rows of the known names that a target lacks.
use Rattle.std.proofs.Common.{◌≡◌, ℕ, List, [], ◌∷◌, ◌++◌, cond, filter, find, length, ◌<◌, refl, sym, ◌∙◌, ap, subst}
use Rattle.std.specs.Prelude.{Bool, true, false, ◌&&◌, not, Option, None, Some, Contains}
use Rattle.std.proofs.lemmas.List.{append_assoc, append-nil}
use Rattle.pr_names.specs.Order.{name_lt}
use Rattle.pr_names.specs.Span.{Span}
use Rattle.pr_sets.specs.Spans.{has}
use Rattle.pr_inval.specs.declared.row.Row.{Row}
use Rattle.pr_marks.specs.Table.{Table, is_after, newest_of}
use Rattle.pr_snap.specs.Build.{row_in, row_with, rows_at}
use Rattle.pr_snap.proofs.Choice.{by_test}
use Rattle.pr_snap.proofs.Found.{comes_first, found_is_one, names_later}
use Rattle.pr_stamps.proofs.Contained.{is_first, is_later}
use Rattle.pr_snap.proofs.Known.{after_later, fewer_past}
use Rattle.pr_snap.proofs.NameOrder.{not_itself, one_way}
use Rattle.pr_snap.proofs.Names.{Rise}
use Rattle.pr_snap.proofs.Outside.{is_next_out}
use Rattle.pr_snap.proofs.Targets.{both_of}

-- a step of `rows_at` over the names that pass a test
rows_kept : (m : Table) (target : List Span) (p : List ℕ → Bool) (n : List ℕ) (ns : List (List ℕ)) → p n ≡ true → rows_at m target (filter p (n ∷ ns)) ≡ row_in m target n ++ rows_at m target (filter p ns)
rows_kept m target p n ns t = ap (λ (b : Bool). rows_at m target (cond b (n ∷ filter p ns) (filter p ns))) t

rows_dropped : (m : Table) (target : List Span) (p : List ℕ → Bool) (n : List ℕ) (ns : List (List ℕ)) → p n ≡ false → rows_at m target (filter p (n ∷ ns)) ≡ rows_at m target (filter p ns)
rows_dropped m target p n ns f = ap (λ (b : Bool). rows_at m target (cond b (n ∷ filter p ns) (filter p ns))) f

no_row : (m : Table) (target : List Span) (n : List ℕ) (rows : List Row) → has target n ≡ true → row_in m target n ++ rows ≡ rows
no_row m target n rows t = ap (λ (b : Bool). cond b [] (row_with m n (newest_of m n)) ++ rows) t

a_row : (m : Table) (target : List Span) (n : List ℕ) → has target n ≡ false → row_in m target n ≡ row_with m n (newest_of m n)
a_row m target n f = ap (λ (b : Bool). cond b [] (row_with m n (newest_of m n))) f

step_found : (p : List ℕ → Bool) (n : List ℕ) (ns : List (List ℕ)) (r : Option (List ℕ)) → p n ≡ false → find p (n ∷ ns) ≡ r → find p ns ≡ r
step_found p n ns r f is = sym (ap (λ (b : Bool). cond b (Some n) (find p ns)) f) ∙ is

not_next : (last : Option (List ℕ)) (target : List Span) (n : List ℕ) → has target n ≡ true → is_next_out last target n ≡ false
not_next last target n t = ap (λ (b : Bool). is_after last n && not b) t ∙ and_false (is_after last n)
  where
    and_false : (p : Bool) → (p && false) ≡ false
    and_false true = refl
    and_false false = refl

-- with a name after which all others come the tests by it and by an earlier one are alike
same_after : (last : Option (List ℕ)) (n : List ℕ) (ns : List (List ℕ)) → is_after last n ≡ true → ((o : List ℕ) → Contains ns o → name_lt n o ≡ true) → filter (is_after last) ns ≡ filter (name_lt n) ns
same_after last n ns after all = both ns all
  where
    all_of : (p : List ℕ → Bool) (x : List ℕ) (xs rest : List (List ℕ)) → p x ≡ true → filter p xs ≡ rest → filter p (x ∷ xs) ≡ x ∷ rest
    all_of p x xs rest t same = ap (λ (b : Bool). cond b (x ∷ filter p xs) (filter p xs)) t ∙ ap (λ (ys : List (List ℕ)). x ∷ ys) same

    both : (xs : List (List ℕ)) → ((o : List ℕ) → Contains xs o → name_lt n o ≡ true) → filter (is_after last) xs ≡ filter (name_lt n) xs
    both [] later = refl
    both (x ∷ xs) later =
        let lt : name_lt n x ≡ true = later x (is_first x xs) in
        all_of (is_after last) x xs (filter (name_lt n) xs) (after_later last n x after lt) (both xs (λ o c. later o (is_later x xs o c)))
        ∙ sym (all_of (name_lt n) x xs (filter (name_lt n) xs) lt refl)

-- the names between the last one and the next that the target lacks have no row
rows_from : (m : Table) (target : List Span) (last : Option (List ℕ)) (ns : List (List ℕ)) (o : List ℕ) → Rise ns → find (is_next_out last target) ns ≡ Some o
    → rows_at m target (filter (is_after last) ns) ≡ row_in m target o ++ rows_at m target (filter (is_after (Some o)) ns)
rows_from m target last [] o rise is = absurd (cc)
rows_from m target last (n ∷ ns) o rise is = by_test (is_next_out last target n)
    (λ t.
    let parts = both_of (is_after last n) (not (has target n)) t in
    let e : n ≡ o = some_is n o (sym (ap (λ (b : Bool). cond b (Some n) (find (is_next_out last target) ns)) t) ∙ is) in
    subst (λ (x : List ℕ). rows_at m target (filter (is_after last) (n ∷ ns)) ≡ row_in m target x ++ rows_at m target (filter (name_lt x) (n ∷ ns))) e
    (rows_kept m target (is_after last) n ns parts.0
    ∙ ap (λ (xs : List (List ℕ)). row_in m target n ++ rows_at m target xs) (same_after last n ns parts.0 (λ x c. comes_first n ns x rise c))
    ∙ sym (ap (λ (rows : List Row). row_in m target n ++ rows) (rows_dropped m target (name_lt n) n ns (not_itself n)))))
    (λ f.
    let found : find (is_next_out last target) ns ≡ Some o = step_found (is_next_out last target) n ns (Some o) f is in
    let one = found_is_one (is_next_out last target) ns o found in
    let later : name_lt o n ≡ false = one_way n o (comes_first n ns o rise one.0) in
    let rest = rows_from m target last ns o (names_later n ns rise) found in
    let end : row_in m target o ++ rows_at m target (filter (name_lt o) ns) ≡ row_in m target o ++ rows_at m target (filter (name_lt o) (n ∷ ns))
    = sym (ap (λ (rows : List Row). row_in m target o ++ rows) (rows_dropped m target (name_lt o) n ns later)) in
    by_test (is_after last n)
    (λ t. rows_kept m target (is_after last) n ns t ∙ no_row m target n (rows_at m target (filter (is_after last) ns)) (in_target n t f) ∙ rest ∙ end)
    (λ g. rows_dropped m target (is_after last) n ns g ∙ rest ∙ end))
  where
    some_is : (x y : List ℕ) → Some x ≡ Some y → x ≡ y
    some_is x y e = cc

    in_target : (x : List ℕ) → is_after last x ≡ true → is_next_out last target x ≡ false → has target x ≡ true
    in_target x t f = by_test (has target x)
        (λ h. h)
        (λ h. absurd (let bad : true ≡ false = sym (ap (λ (b : Bool). b && not (has target x)) t ∙ ap not h) ∙ f in cc))

-- where the target has all that are left, no row is left
rows_none : (m : Table) (target : List Span) (last : Option (List ℕ)) (ns : List (List ℕ)) → find (is_next_out last target) ns ≡ None → rows_at m target (filter (is_after last) ns) ≡ []
rows_none m target last [] is = refl
rows_none m target last (n ∷ ns) is = by_test (is_next_out last target n)
    (λ t. absurd (let bad : Some n ≡ None = sym (ap (λ (b : Bool). cond b (Some n) (find (is_next_out last target) ns)) t) ∙ is in cc))
    (λ f.
    let rest = rows_none m target last ns (step_found (is_next_out last target) n ns None f is) in
    by_test (is_after last n)
    (λ t. by_test (has target n)
    (λ h. rows_kept m target (is_after last) n ns t ∙ no_row m target n (rows_at m target (filter (is_after last) ns)) h ∙ rest)
    (λ h. absurd (let bad : true ≡ false = sym (ap (λ (b : Bool). b && not (has target n)) t ∙ ap not h) ∙ f in cc)))
    (λ g. rows_dropped m target (is_after last) n ns g ∙ rest))

-- one name's row more
pub rows_turn : (m : Table) (target : List Span) (last : Option (List ℕ)) (ns : List (List ℕ)) (o : List ℕ) (so_far more : List Row) → Rise ns → Some o ≡ find (is_next_out last target) ns
    → more ≡ so_far ++ row_with m o (newest_of m o) → so_far ++ rows_at m target (filter (is_after last) ns) ≡ rows_at m target ns → more ++ rows_at m target (filter (is_after (Some o)) ns) ≡ rows_at m target ns
rows_turn m target last ns o so_far more rise is added h =
    let out : has target o ≡ false = not_true (has target o) (both_of (is_after last o) (not (has target o)) (found_is_one (is_next_out last target) ns o (sym is)).1).1 in
    ap (λ t. t ++ rows_at m target (filter (is_after (Some o)) ns)) (added ∙ ap (λ (rows : List Row). so_far ++ rows) (sym (a_row m target o out)))
    ∙ append_assoc so_far (row_in m target o) (rows_at m target (filter (is_after (Some o)) ns))
    ∙ ap (λ t. so_far ++ t) (sym (rows_from m target last ns o rise (sym is))) ∙ h
  where
    not_true : (b : Bool) → not b ≡ true → b ≡ false
    not_true true h = absurd (cc)
    not_true false h = refl

pub rows_end : (m : Table) (target : List Span) (last : Option (List ℕ)) (ns : List (List ℕ)) (so_far : List Row) → None ≡ find (is_next_out last target) ns
    → so_far ++ rows_at m target (filter (is_after last) ns) ≡ rows_at m target ns → so_far ≡ rows_at m target ns
rows_end m target last ns so_far is h = sym (append-nil so_far) ∙ ap (λ t. so_far ++ t) (sym (rows_none m target last ns (sym is))) ∙ h

pub fewer_out : (target : List Span) (last : Option (List ℕ)) (ns : List (List ℕ)) (o : List ℕ) → Some o ≡ find (is_next_out last target) ns → length (filter (is_after (Some o)) ns) < length (filter (is_after last) ns)
fewer_out target last ns o is =
    let one = found_is_one (is_next_out last target) ns o (sym is) in
    fewer_past last ns o one.0 (both_of (is_after last o) (not (has target o)) one.1).0
