-- The names that a table knows, and a walk over some of them.
use Rattle.std.proofs.Common.{◌≡◌, ℕ, ◌<◌, ◌≤◌, inl, inr, List, [], ◌∷◌, cond, find, filter, map, length, refl, sym, ◌∙◌, ap, subst, arith}
use Rattle.std.specs.Prelude.{Bool, true, false, ◌&&◌, Option, None, Some, Contains}
use Rattle.std.specs.Map.{lookup}
use Rattle.std.specs.Option.{is_some, option_map}
use Rattle.std.specs.Str.{bytes_eq}
use Rattle.std.proofs.lemmas.Slice.Eq.{bytes_eq-Decides}
use Rattle.pr_names.specs.Order.{name_lt}
use Rattle.pr_stamps.specs.declared.newest.Newest.{Newest}
use Rattle.pr_marks.specs.Row.{Kept}
use Rattle.pr_marks.specs.Table.{Table, is_after, names_of, newest_of}
use Rattle.pr_snap.proofs.Choice.{by_test}
use Rattle.pr_stamps.proofs.Contained.{contains_none, first_or_later, is_first, is_later}
use Rattle.pr_snap.proofs.NameOrder.{lt_trans, not_itself}
use Rattle.pr_snap.proofs.Names.{Rise, fewer}

-- ---- the names of the table

key_held : {X : Type 0} (rows : List (List ℕ × X)) (o : List ℕ) (x : X) → lookup (bytes_eq o) rows ≡ Some x → Contains (map (λ (r : List ℕ × X). r.0) rows) o
key_held [] o x is = cc
key_held {X = X} (r ∷ rows) o x is = by_test (bytes_eq o r.0)
    (λ t. subst (λ (n : List ℕ). Contains (n ∷ map (λ (r : List ℕ × X). r.0) rows) o) ((bytes_eq-Decides o r.0).0 t) (is_first o (map (λ (r : List ℕ × X). r.0) rows)))
    (λ t. is_later r.0 (map (λ (r : List ℕ × X). r.0) rows) o (key_held rows o x (sym (ap (λ (b : Bool). cond b (Some r.1) (lookup (bytes_eq o) rows)) t) ∙ is)))

pub newest_held : (m : Table) (o : List ℕ) (row : Option Kept) (n : Newest) → lookup (bytes_eq o) m.rows ≡ row → option_map (λ (k : Kept). k.newest) row ≡ Some n → Contains (names_of m) o
newest_held m o None n is e = cc
newest_held m o (Some row) n is e = key_held m.rows o row is

unheld : {X : Type 0} (rows : List (List ℕ × X)) (o : List ℕ) → lookup (bytes_eq o) rows ≡ None → Contains (map (λ (r : List ℕ × X). r.0) rows) o → ⊥
unheld [] o is c = contains_none o c
unheld {X = X} (r ∷ rows) o is c = by_test (bytes_eq o r.0)
    (λ t. let bad : Some r.1 ≡ None = sym (ap (λ (b : Bool). cond b (Some r.1) (lookup (bytes_eq o) rows)) t) ∙ is in cc)
    (λ f. elim (first_or_later r.0 (map (λ (r : List ℕ × X). r.0) rows) o c) [
      | inl same ↦ let bad : true ≡ false = sym ((bytes_eq-Decides o r.0).1 (sym same)) ∙ f in cc
      | inr later ↦ unheld rows o (sym (ap (λ (b : Bool). cond b (Some r.1) (lookup (bytes_eq o) rows)) f) ∙ is) later
    ])

pub is_known : (m : Table) (o : List ℕ) (newest : Option Newest) → newest ≡ newest_of m o → true ≡ is_some newest → Contains (names_of m) o
is_known m o None is some = absurd (cc)
is_known m o (Some n) is some = newest_held m o (lookup (bytes_eq o) m.rows) n refl (sym is)

pub is_unknown : (m : Table) (o : List ℕ) (newest : Option Newest) → newest ≡ newest_of m o → false ≡ is_some newest → Contains (names_of m) o → ⊥
is_unknown m o (Some n) is none c = absurd (cc)
is_unknown m o None is none c = by (lookup (bytes_eq o) m.rows) refl is
  where
    by : (row : Option Kept) → lookup (bytes_eq o) m.rows ≡ row → None ≡ option_map (λ (k : Kept). k.newest) row → ⊥
    by None held e = unheld m.rows o held c
    by (Some row) held e = absurd (cc)

-- ---- two tests

pub and_false : (p : Bool) → (p && false) ≡ false
and_false true = refl
and_false false = refl

pub after_later : (last : Option (List ℕ)) (a b : List ℕ) → is_after last a ≡ true → name_lt a b ≡ true → is_after last b ≡ true
after_later None a b h g = refl
after_later (Some l) a b h g = lt_trans l a b h g

-- ---- fewer names are left

kept_too : (p q : List ℕ → Bool) (ns : List (List ℕ)) → ((o : List ℕ) → p o ≡ true → q o ≡ true) → length (filter p ns) ≤ length (filter q ns)
kept_too p q [] more = omega arith
kept_too p q (n ∷ ns) more = by_test (p n)
    (λ t. rw (t, more n t) (omega (arith, kept_too p q ns more)))
    (λ f. rw f (by_test (q n) (λ t. rw t (omega (arith, kept_too p q ns more))) (λ g. rw g (kept_too p q ns more))))

pub fewer_behind : (last : Option (List ℕ)) (ns : List (List ℕ)) (name first : List ℕ) → Rise ns → Some name ≡ find (is_after last) ns → name_lt name first ≡ true
    → length (filter (is_after (Some first)) ns) < length (filter (is_after last) ns)
fewer_behind last ns name first rise is lt = omega (arith, kept_too (name_lt first) (name_lt name) ns (λ o h. lt_trans name first o lt h), fewer last ns name rise is)

pub fewer_past : (last : Option (List ℕ)) (ns : List (List ℕ)) (name : List ℕ) → Contains ns name → is_after last name ≡ true → length (filter (is_after (Some name)) ns) < length (filter (is_after last) ns)
fewer_past last [] name c after = absurd (contains_none name c)
fewer_past last (x ∷ ns) name c after = elim (first_or_later x ns name c) [
  | inl same ↦
      let self : name_lt name x ≡ false = ap (name_lt name) same ∙ not_itself name in
      let there : is_after last x ≡ true = ap (is_after last) same ∙ after in
      rw (self, there) (omega (arith, kept_too (name_lt name) (is_after last) ns (λ o h. after_later last name o after h)))
  | inr later ↦ by_test (name_lt name x)
      (λ t. rw (t, after_later last name x after t) (omega (arith, fewer_past last ns name later after)))
      (λ f. rw f (by_test (is_after last x)
      (λ t. rw t (omega (arith, fewer_past last ns name later after)))
      (λ g. rw g (fewer_past last ns name later after))))
]
