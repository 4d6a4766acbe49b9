-- The names that wait, as an ordered set.
use Rattle.std.proofs.Common.{◌≡◌, ◌⊎◌, inl, inr, ℕ, List, [], ◌∷◌, ◌++◌, cond, refl, sym, ◌∙◌, ap, subst}
use Rattle.std.specs.Prelude.{All, Bool, true, false, not, IsTrue, Option, Contains, OnErr, Result, Ok, Err}
use Rattle.std.specs.BTreeSet.{BTreeSet, contains, Updates}
use Rattle.std.specs.BTreeMap.Range.{IsLeBy}
use Rattle.std.specs.Cmp.Lexicographic.{slice_cmp}
use Rattle.std.specs.Ordering.{is_eq, is_gt, is_lt, nat_cmp, ordering_reverse}
use Rattle.std.specs.declared.cmp.Ordering.{Ordering}
use Rattle.std.specs.declared.cmp.Ordering.TheVariants.{Less, Equal, Greater}
use Rattle.std.proofs.lemmas.Cmp.{nat_list_cmp_total}
use Rattle.std.proofs.lemmas.Map.Lookups.{exact_bytes}
use Rattle.std.proofs.lemmas.Map.Text.{is_eq-slice_cmp}
use Rattle.std.proofs.lemmas.Map.Views.{btree_set_contains_iff}
use Rattle.std.proofs.lemmas.Slice.Eq.{bytes_eq-Decides}
use Rattle.std.proofs.lemmas.List.Elements.{Contains-append_cases}
use Rattle.pr_names.specs.Order.{name_lt}
use Rattle.pr_names.specs.Span.{Span}
use Rattle.pr_names.proofs.Places.{lt_cmp}
use Rattle.pr_sets.specs.Spans.{has}
use Rattle.pr_marks.specs.Table.{is_after}
use Rattle.pr_stamps.proofs.Contained.{contains_none, first_or_later}
use Rattle.pr_inval.specs.declared.row.Row.{Row}
use Rattle.pr_story.specs.Sending.{row_names}
use Rattle.pr_story.proofs.Sendings.{pushed_row}
use Rattle.pr_node.specs.Scanning.{HasAwaited, Scanned}

abbrev Keys : Type 0
Keys = BTreeSet (List ℕ)

waits : (s : Keys) (o : List ℕ) → IsTrue (contains (slice_cmp nat_cmp) s o) → Contains s.keys o
waits s o = (btree_set_contains_iff nat_list_cmp_total exact_bytes s o).0

in_set : (s : Keys) (o : List ℕ) → Contains s.keys o → IsTrue (contains (slice_cmp nat_cmp) s o)
in_set s o = (btree_set_contains_iff nat_list_cmp_total exact_bytes s o).1

is_name : (name o : List ℕ) → is_eq (slice_cmp nat_cmp name o) ≡ true → name ≡ o
is_name name o e = (bytes_eq-Decides name o).0 (sym (is_eq-slice_cmp name o) ∙ e)

picked : (b was now : Bool) → now ≡ cond b true was → IsTrue now → (b ≡ true) ⊎ IsTrue was
picked true was now is t = inl refl
picked false was now is t = inr (sym is ∙ t)

stays : (b was now : Bool) → now ≡ cond b true was → IsTrue was → IsTrue now
stays true was now is t = is
stays false was now is t = is ∙ t

-- a name was put in
pub put_in : (a b : Keys) (name o : List ℕ) → Updates (slice_cmp nat_cmp) a b name true → Contains b.keys o → (name ≡ o) ⊎ Contains a.keys o
put_in a b name o u c = elim (picked (is_eq (slice_cmp nat_cmp name o)) (contains (slice_cmp nat_cmp) a o) (contains (slice_cmp nat_cmp) b o) (u.0 o) (in_set b o c)) [
  | inl same ↦ inl (is_name name o same)
  | inr old ↦ inr (waits a o old)
]

pub stays_in : (a b : Keys) (name o : List ℕ) → Updates (slice_cmp nat_cmp) a b name true → Contains a.keys o → Contains b.keys o
stays_in a b name o u c = waits b o (stays (is_eq (slice_cmp nat_cmp name o)) (contains (slice_cmp nat_cmp) a o) (contains (slice_cmp nat_cmp) b o) (u.0 o) (in_set a o c))

pub is_in : (a b : Keys) (name : List ℕ) → Updates (slice_cmp nat_cmp) a b name true → Contains b.keys name
is_in a b name u = waits b name u.1

-- a name of these that was passed waits
pub name_awaited : (scan now : Scanned) (names : List Span) (name : List ℕ) (a b : Keys) → Updates (slice_cmp nat_cmp) a b name true
    → scan.waiting ≡ a.keys → now ≡ record { looked = scan.looked; last = scan.last; waiting = b.keys } → IsTrue (has names name) → is_after scan.last name ≡ false → HasAwaited names (name ∷ []) scan now
name_awaited scan now names name a b u was so known low = subst (λ (x : Scanned). HasAwaited names (name ∷ []) scan x) (sym so) (record {
  looked = refl;
  last = refl;
  kept = λ o c. stays_in a b name o u (subst (λ (x : List (List ℕ)). Contains x o) was c);
  only = λ o c. elim (put_in a b name o u c) [
    | inl same ↦ inr (subst (λ (x : List ℕ). IsTrue (has names x)) same known, subst (λ (x : List ℕ). is_after scan.last x ≡ false) same low)
    | inr old ↦ inl (subst (λ (x : List (List ℕ)). Contains x o) (sym was) old)
  ];
  added = λ o c known low. elim (first_or_later name [] o c) [
    | inl same ↦ subst (λ (x : List ℕ). Contains b.keys x) same (is_in a b name u)
    | inr none ↦ absurd (contains_none o none)
  ];
})

-- a name that is none of these, or was not passed, need not wait
pub name_left : (scan : Scanned) (names : List Span) (name : List ℕ) → ((IsTrue (has names name) → is_after scan.last name ≡ false → ⊥)) → HasAwaited names (name ∷ []) scan scan
name_left scan names name not = record {
  looked = refl;
  last = refl;
  kept = λ o c. c;
  only = λ o c. inl c;
  added = λ o c known low. elim (first_or_later name [] o c) [
    | inl same ↦ absurd (not (subst (λ (x : List ℕ). IsTrue (has names x)) (sym same) known) (subst (λ (x : List ℕ). is_after scan.last x ≡ false) (sym same) low))
    | inr none ↦ absurd (contains_none o none)
  ];
}

-- no name comes before the least key
reversed : (r : Ordering) → is_lt (ordering_reverse r) ≡ is_gt r
reversed Less = refl
reversed Equal = refl
reversed Greater = refl

not_before : (name o : List ℕ) → IsLeBy (slice_cmp nat_cmp) name o → name_lt o name ≡ false
not_before name o le = lt_cmp o name ∙ ap is_lt (nat_list_cmp_total.antisymm o name) ∙ reversed (slice_cmp nat_cmp name o) ∙ le

pub none_before : (keys : List (List ℕ)) (name : List ℕ) → All (IsLeBy (slice_cmp nat_cmp) name) keys → All (λ (o : List ℕ). name_lt o name ≡ false) keys
none_before keys name all k d lt = not_before name _ (all k d lt)

-- the test said that a name was passed
pub is_passed : (after said : Bool) → said ≡ not after → said ≡ true → after ≡ false
is_passed true said is so = absurd (let bad : false ≡ true = sym is ∙ so in cc)
is_passed false said is so = refl

-- ---- one after the other

pub awaited_both : (a b c : Scanned) (names : List Span) (xs ys : List (List ℕ)) → HasAwaited names xs a b → HasAwaited names ys b c → HasAwaited names (xs ++ ys) a c
awaited_both a b c names xs ys first then = record {
  looked = then.looked ∙ first.looked;
  last = then.last ∙ first.last;
  kept = λ o w. then.kept o (first.kept o w);
  only = λ o w. elim (then.only o w) [
    | inl old ↦ first.only o old
    | inr new ↦ inr (new.0, subst (λ (l : Option (List ℕ)). is_after l o ≡ false) first.last new.1)
  ];
  added = λ o w known low. elim (Contains-append_cases xs ys o w) [
    | inl before ↦ then.kept o (first.added o before known low)
    | inr after ↦ then.added o after known (subst (λ (l : Option (List ℕ)). is_after l o ≡ false) (sym first.last) low)
  ];
}

pub awaited_fewer : (a b : Scanned) (names : List Span) (xs : List (List ℕ)) → HasAwaited names xs a b → HasAwaited names [] a b
awaited_fewer a b names xs w = record { looked = w.looked; last = w.last; kept = w.kept; only = w.only; added = λ o c. absurd (contains_none o c) }

pub refused : {X Y : Type 0} (r : Result X Y) (a b c : Scanned) (names : List Span) (xs : List (List ℕ)) → HasAwaited names xs a b → HasAwaited names [] b c → OnErr r (HasAwaited names [] a c)
refused (Ok x) a b c names xs first then = tt
refused (Err y) a b c names xs first then = awaited_both a b c names [] [] (awaited_fewer a b names xs first) then

pub row_awaited : (a b c : Scanned) (names : List Span) (rows : List Row) (row : Row) → HasAwaited names (row_names rows) a b → HasAwaited names (row.name ∷ []) b c → HasAwaited names (row_names (rows ++ row ∷ [])) a c
row_awaited a b c names rows row first then =
    subst (λ (xs : List (List ℕ)). HasAwaited names xs a c) (pushed_row [] (row_names rows) (row_names rows ++ row.name ∷ []) rows row refl refl)
    (awaited_both a b c names (row_names rows) (row.name ∷ []) first then)
