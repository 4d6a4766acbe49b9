-- Names in order, precise names, and the rows of a checkpoint.
use Rattle.std.proofs.Common.{◌≡◌, ℕ, ◌<◌, ◌≤◌, ◌+◌, ◌-◌, length, get_or, drop, ◌⊎◌, inl, inr, List, [], ◌∷◌, ◌++◌, Bool, true, false, refl, sym, ap, subst, ◌∙◌, arith, cond, nat_eq, append_assoc}
use Rattle.std.specs.Prelude.{Option, None, Some, Contains, ◌↔◌, ◌&&◌, ◌||◌, not, nat_lt, IsTrue}
use Rattle.std.specs.Option.{option_to_list}
use Rattle.std.proofs.lemmas.Bool.Decides.{nat_tests}
use Rattle.std.proofs.lemmas.List.Elements.{Contains-append_left, Contains-append_right, Contains-append_cases}
use Rattle.std.proofs.lemmas.List.{append-nil, drop_all, drop_more}
use Rattle.pr_names.specs.Name.{IsName}
use Rattle.pr_names.specs.Order.{name_lt, NamesRise}
use Rattle.pr_names.specs.Span.{Span}
use Rattle.pr_sets.specs.Spans.{has, IsAllBut, IsComplement, IsIntersection}
use Rattle.pr_inval.specs.declared.row.Row.{Row}
use Rattle.pr_story.specs.declared.entry.Entry.{Entry}
use Rattle.pr_story.specs.Knowledge.{WasNamed}
use Rattle.pr_story.specs.Marking.{AreInOrder, AreRowsOf, AreAllRows, IsRowAdded, IsRowOf, names_below, names_past}
use Rattle.pr_story.specs.Sending.{IsNamedList}
use Rattle.pr_story.specs.Told.{IsPrecise}
use Rattle.pr_sets.specs.Sets.{first_with, rest_of, set_of}
use Rattle.pr_story.specs.Turns.{IsSnapshotRow}
use Rattle.pr_story.proofs.InOrder.{is_kept, kept_is, last_pairs, pairs_before, pairs_last, placed_pairs}
use Rattle.pr_story.proofs.Lit.{both_true}
use Rattle.pr_story.proofs.SameNames.{agree_back, precise_same}
use Rattle.pr_story.proofs.Sendings.{transitive}
use Rattle.pr_story.proofs.Sorted.{first_or_later, is_first, is_later, one_item}

-- ---- names in order

nat_three : (x y : ℕ) → (x < y) ⊎ ((x ≡ y) ⊎ (y < x))
nat_three x y = grind arith

lt_left : (x y : ℕ) (p : Bool) → x < y → (nat_lt x y || (nat_eq x y && p)) ≡ true
lt_left x y p lt = grind (arith, nat_tests)

lt_same : (x y : ℕ) (p : Bool) → x ≡ y → p ≡ true → (nat_lt x y || (nat_eq x y && p)) ≡ true
lt_same x y p e f = grind (arith, nat_tests)

names_three : (a b : List ℕ) → (name_lt a b ≡ true) ⊎ ((a ≡ b) ⊎ (name_lt b a ≡ true))
unfolding name_lt
names_three [] [] = inr (inl refl)
names_three [] (y ∷ b) = inl refl
names_three (x ∷ a) [] = inr (inr refl)
names_three (x ∷ a) (y ∷ b) = elim (nat_three x y) [
  | inl lt ↦ inl (lt_left x y (name_lt a b) lt)
  | inr rest ↦ elim rest [
    | inl e ↦ elim (names_three a b) [
      | inl lt ↦ inl (lt_same x y (name_lt a b) e lt)
      | inr other ↦ elim other [
        | inl same ↦ inr (inl (ap (λ (z : ℕ). z ∷ a) e ∙ ap (λ (zs : List ℕ). y ∷ zs) same))
        | inr gt ↦ inr (inr (lt_same y x (name_lt b a) (sym e) gt))
      ]
    ]
    | inr gt ↦ inr (inr (lt_left y x (name_lt b a) gt))
  ]
]

placed_is : (names one two now : List (List ℕ)) (n : List ℕ) → one ≡ names_below names n → two ≡ one ++ n ∷ [] → now ≡ two ++ names_past names n → now ≡ names_below names n ++ n ∷ names_past names n
placed_is names one two now n a b c =
    c ∙ ap (λ (ns : List (List ℕ)). ns ++ names_past names n) (b ∙ ap (λ (ns : List (List ℕ)). ns ++ n ∷ []) a) ∙ append_assoc (names_below names n) (n ∷ []) (names_past names n)

pub placed_rise : (names one two now : List (List ℕ)) (n : List ℕ) → one ≡ names_below names n → two ≡ one ++ n ∷ [] → now ≡ two ++ names_past names n → NamesRise names → NamesRise now
placed_rise names one two now n a b c rise =
    subst (λ (ns : List (List ℕ)). NamesRise ns) (sym (placed_is names one two now n a b c))
    (placed_pairs (λ (x y : List ℕ). IsTrue (name_lt x y)) (λ (o : List ℕ). name_lt o n) (λ (o : List ℕ). name_lt n o) names n rise (λ o e. e) (λ o e. e) (λ x y e f. transitive x n y e f))

pub placed_same : (names one two now : List (List ℕ)) (n : List ℕ) → one ≡ names_below names n → two ≡ one ++ n ∷ [] → now ≡ two ++ names_past names n → (o : List ℕ) → Contains now o ↔ (Contains names o ⊎ (o ≡ n))
placed_same names one two now n a b c o = subst (λ (ns : List (List ℕ)). Contains ns o ↔ (Contains names o ⊎ (o ≡ n))) (sym (placed_is names one two now n a b c)) (there, back)
  where
    there : Contains (names_below names n ++ n ∷ names_past names n) o → Contains names o ⊎ (o ≡ n)
    there d = elim (Contains-append_cases (names_below names n) (n ∷ names_past names n) o d) [
      | inl below ↦ inl (kept_is (λ (x : List ℕ). name_lt x n) names o below).0
      | inr rest ↦ elim (first_or_later n (names_past names n) o rest) [
        | inl same ↦ inr (sym same)
        | inr past ↦ inl (kept_is (λ (x : List ℕ). name_lt n x) names o past).0
      ]
    ]

    itself : o ≡ n → Contains (names_below names n ++ n ∷ names_past names n) o
    itself e = Contains-append_right (names_below names n) (n ∷ names_past names n) o (subst (λ (x : List ℕ). Contains (n ∷ names_past names n) x) (sym e) (is_first n (names_past names n)))

    back : Contains names o ⊎ (o ≡ n) → Contains (names_below names n ++ n ∷ names_past names n) o
    back d = elim d [
      | inl old ↦ elim (names_three o n) [
        | inl below ↦ Contains-append_left (names_below names n) (n ∷ names_past names n) o (is_kept (λ (x : List ℕ). name_lt x n) names o old below)
        | inr rest ↦ elim rest [
          | inl same ↦ itself same
          | inr past ↦ Contains-append_right (names_below names n) (n ∷ names_past names n) o (is_later n (names_past names n) o (is_kept (λ (x : List ℕ). name_lt n x) names o old past))
        ]
      ]
      | inr same ↦ itself same
    ]

pub order_more : (names was now : List (List ℕ)) (n : List ℕ) → (NamesRise was → NamesRise now) → ((o : List ℕ) → Contains now o ↔ (Contains was o ⊎ (o ≡ n))) → AreInOrder names was → AreInOrder (names ++ n ∷ []) now
order_more names was now n rise same so = record {
  rise = rise so.rise;
  same = λ o. (
    λ c. elim ((same o).0 c) [
      | inl old ↦ Contains-append_left names (n ∷ []) o ((so.same o).0 old)
      | inr new ↦ Contains-append_right names (n ∷ []) o (subst (λ (x : List ℕ). Contains (n ∷ []) x) (sym new) (is_first n []))
    ],
    λ c. elim (Contains-append_cases names (n ∷ []) o c) [
      | inl old ↦ (same o).1 (inl ((so.same o).1 old))
      | inr new ↦ (same o).1 (inr (sym (one_item n o new)))
    ],
  );
}

-- ---- precise names

pub first_precise : (n : ℕ) (j : List Entry) (set : List Span) (sets : List (List Span)) (rest : List ℕ → Bool) (o : List ℕ) (precise was now : Bool)
    → IsTrue precise ↔ IsPrecise n j (has set) → now ≡ cond (has set o) precise was → IsTrue was ↔ IsPrecise n j (first_with sets rest o) → IsTrue now ↔ IsPrecise n j (first_with (set ∷ sets) rest o)
first_precise n j set sets rest o precise was now here is old = subst (λ (b : Bool). IsTrue b ↔ IsPrecise n j (first_with (set ∷ sets) rest o)) (sym is) (by (has set o))
  where
    by : (b : Bool) → IsTrue (cond b precise was) ↔ IsPrecise n j (cond b (has set) (first_with sets rest o))
    by true = here
    by false = old

pub precise_rest : (n : ℕ) (j : List Entry) (sets : List (List Span)) (rest : List Span) (o : List ℕ) (is now : Bool)
    → ((x : List ℕ) → IsName x → has rest x ≡ rest_of sets x) → IsTrue is ↔ IsPrecise n j (has rest) → now ≡ is → IsTrue now ↔ IsPrecise n j (first_with (drop (length sets) sets) (rest_of sets) o)
precise_rest n j sets rest o is now same so e =
    subst (λ (ss : List (List Span)). IsTrue now ↔ IsPrecise n j (first_with ss (rest_of sets) o)) (sym (drop_all (length sets) sets (omega arith)))
    (subst (λ (b : Bool). IsTrue b ↔ IsPrecise n j (rest_of sets)) (sym e) (
      λ t. precise_same n j (has rest) (rest_of sets) same (so.0 t),
      λ p. so.1 (precise_same n j (rest_of sets) (has rest) (agree_back (has rest) (rest_of sets) same) p),
    ))

pub precise_more : (n : ℕ) (j : List Entry) (sets : List (List Span)) (left : ℕ) (set : List Span) (o : List ℕ) (precise was now : Bool) → 0 < left → left ≤ length sets → set ≡ get_or sets (left - 1) set
    → IsTrue precise ↔ IsPrecise n j (has set) → now ≡ cond (has set o) precise was → IsTrue was ↔ IsPrecise n j (first_with (drop left sets) (rest_of sets) o)
    → IsTrue now ↔ IsPrecise n j (first_with (drop (left - 1) sets) (rest_of sets) o)
precise_more n j sets left set o precise was now some le is here so old =
    let next : left - 1 + 1 ≡ left = omega arith in
    let opened : drop (left - 1) sets ≡ set ∷ drop left sets =
    drop_more sets (left - 1) set (omega arith) ∙ ap (λ (s : List Span). s ∷ drop (left - 1 + 1) sets) (sym is) ∙ ap (λ (k : ℕ). set ∷ drop k sets) next in
    subst (λ (ss : List (List Span)). IsTrue now ↔ IsPrecise n j (first_with ss (rest_of sets) o)) (sym opened)
    (first_precise n j set (drop left sets) (rest_of sets) o precise was now here so old)

pub precise_all : (n : ℕ) (j : List Entry) (sets : List (List Span)) (left : ℕ) (o : List ℕ) (now : Bool) → left ≤ 0 → IsTrue now ↔ IsPrecise n j (first_with (drop left sets) (rest_of sets) o) → IsTrue now ↔ IsPrecise n j (set_of sets o)
precise_all n j sets left o now le is = let e : left ≡ 0 = omega (arith, le) in subst (λ (k : ℕ). IsTrue now ↔ IsPrecise n j (first_with (drop k sets) (rest_of sets) o)) e is

true_both : (a b : Bool) → a ≡ true → b ≡ true → (a && b) ≡ true
true_both true true e f = refl
true_both true false e f = absurd (cc)
true_both false b e f = absurd (cc)

not_true : (b : Bool) → not b ≡ false → b ≡ true
not_true true e = refl
not_true false e = absurd (cc)

true_not : (b : Bool) → b ≡ true → not b ≡ false
true_not true e = refl
true_not false e = absurd (cc)

pub all_but_precise : (n : ℕ) (j : List Entry) (find : List ℕ → List ℕ → Bool) (names precise part target : List Span)
    → ((o : List ℕ) → IsName o → IsTrue (has precise o) ↔ IsPrecise n j (find o)) → IsIntersection names precise part → IsComplement part target
    → IsAllBut target (λ o. IsTrue (has names o) × IsPrecise n j (find o))
all_but_precise n j find names precise part target are both rest = record {
  one_list = rest.set;
  lacks_them = λ o name t. rest.names o name ∙ true_not (has part o) (both.names o name ∙ true_both (has names o) (has precise o) t.0 ((are o name).1 t.1));
  no_others = λ o name e.
      let t = both_true (has names o) (has precise o) (sym (both.names o name) ∙ not_true (has part o) (sym (rest.names o name) ∙ e)) in
      (t.0, (are o name).0 t.1);
}

-- ---- rows

abbrev RowOrder : Row → Row → Type 0
RowOrder a b = IsTrue (name_lt a.name b.name)

abbrev NameOrder : List ℕ → List ℕ → Type 0
NameOrder a b = IsTrue (name_lt a b)

no_row : (j : List Entry) (target : List Span) (names : List (List ℕ)) (n : List ℕ) (rows : List Row) → IsRowOf j target n None → AreRowsOf j target names rows → AreRowsOf j target (names ++ n ∷ []) rows
no_row j target names n rows none are = record {
  each = λ row c. let r = are.each row c in (r.0, Contains-append_left names (n ∷ []) row.name r.1);
  all = λ o c out t named. elim (Contains-append_cases names (n ∷ []) o c) [
    | inl old ↦ are.all o old out t named
    | inr new ↦
        let e : n ≡ o = one_item n o new in
        absurd (elim none [
          | inl inside ↦ (let f : has target n ≡ false = subst (λ (x : List ℕ). has target x ≡ false) (sym e) out in cc)
          | inr unnamed ↦ unnamed t (subst (λ (x : List ℕ). WasNamed j x t) (sym e) named)
        ])
  ];
  rise = λ r. are.rise (pairs_before NameOrder names n r);
}

one_row : (j : List Entry) (target : List Span) (names : List (List ℕ)) (n : List ℕ) (rows : List Row) (row : Row) → IsRowOf j target n (Some row) → AreRowsOf j target names rows → AreRowsOf j target (names ++ n ∷ []) (rows ++ row ∷ [])
one_row j target names n rows row is are = record {
  each = λ x c. elim (Contains-append_cases rows (row ∷ []) x c) [
    | inl old ↦ let r = are.each x old in (r.0, Contains-append_left names (n ∷ []) x.name r.1)
    | inr new ↦ subst (λ (y : Row). IsSnapshotRow j target y × Contains (names ++ n ∷ []) y.name) (one_item row x new) (
      is.1,
      Contains-append_right names (n ∷ []) row.name (subst (λ (x : List ℕ). Contains (n ∷ []) x) (sym is.0) (is_first n [])),
    )
  ];
  all = λ o c out t named. elim (Contains-append_cases names (n ∷ []) o c) [
    | inl old ↦ let r = are.all o old out t named in (r.0, Contains-append_left rows (row ∷ []) r.0 r.1, r.2)
    | inr new ↦ (row, Contains-append_right rows (row ∷ []) row (is_first row []), is.0 ∙ one_item n o new)
  ];
  rise = λ r. last_pairs RowOrder rows row (are.rise (pairs_before NameOrder names n r))
      (λ x c. subst (λ (y : List ℕ). IsTrue (name_lt x.name y)) (sym is.0) (pairs_last NameOrder names n x.name r (are.each x c).1));
}

pub rows_more : (j : List Entry) (target : List Span) (names : List (List ℕ)) (n : List ℕ) (was now : List Row) → IsRowAdded j target n was now → AreRowsOf j target names was → AreRowsOf j target (names ++ n ∷ []) now
rows_more j target names n was now added are = subst (λ (rows : List Row). AreRowsOf j target (names ++ n ∷ []) rows) (sym added.2) (by added.0 added.1)
  where
    by : (row : Option Row) → IsRowOf j target n row → AreRowsOf j target (names ++ n ∷ []) (was ++ option_to_list row)
    by None none = subst (λ (rows : List Row). AreRowsOf j target (names ++ n ∷ []) rows) (sym (append-nil was)) (no_row j target names n was none are)
    by (Some row) is = one_row j target names n was row is are

pub rows_all : (j : List Entry) (target : List Span) (known ordered : List (List ℕ)) (rows : List Row) → IsNamedList j known → AreInOrder known ordered → AreRowsOf j target ordered rows → AreAllRows j target rows
rows_all j target known ordered rows named order are = record {
  each = λ row c. (are.each row c).0;
  all = λ o out t was. are.all o ((order.same o).1 ((named o).1 (t, was))) out t was;
  rise = are.rise order.rise;
}
