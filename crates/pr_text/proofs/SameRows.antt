-- Rows and pairs say one thing.
use Rattle.std.proofs.Common.{◌≡◌, ℕ, ◌<◌, List, [], ◌∷◌, ◌++◌, cond, Bool, true, false, refl, ap, ◌∙◌, arith, map, ◌⊎◌, inl, inr}
use Rattle.std.specs.Prelude.{All, Option}
use Rattle.std.proofs.lemmas.Bool.Decides.{nat_tests}
use Rattle.std.proofs.lemmas.List.Elements.{All-head, All-tail}
use Rattle.pr_stamps.specs.Point.{Point, IsStamp}
use Rattle.pr_stamps.specs.declared.mark.Mark.{Mark}
use Rattle.pr_names.specs.Name.{IsName}
use Rattle.pr_names.specs.Byte.{allowed}
use Rattle.pr_inval.specs.declared.row.Row.{Row}
use Rattle.pr_script.specs.declared.decl.Decl.{Decl}
use Rattle.pr_script.specs.Labels.{AreLabels}
use Rattle.pr_text.specs.Texts.{joined, mark_text, pair_text, pairs_text, prev_text, row_text, rows_text, stamp_text}
use Rattle.pr_text.proofs.Cut.{IsOf, cut, cut_at, is_not, is_plain, of_append, both_same}
use Rattle.pr_text.proofs.Items.{AllOf, AreItems, IsItem, joined_same, listed_same, not_empty, not_hyphen, nothing_here, nothing_there, of_joined, of_listed}
use Rattle.pr_text.proofs.Same.{IsDeclaredNode, IsPrev, alnum, digits_plain, is_digit, letters_plain, prev_of, prev_same, stamp_of, stamp_same}
use Rattle.pr_text.proofs.SameQuotes.{allowed_plain, name_bytes}

-- ---- lists

pub map_same : {T : Type 0} (f : T → List ℕ) (P : T → Type 0) → ((x y : T) → P x → P y → f x ≡ f y → x ≡ y) → (xs ys : List T) → All P xs → All P ys → map f xs ≡ map f ys → xs ≡ ys
map_same f P one [] [] p q e = refl
map_same f P one [] (y ∷ ys) p q e = nothing_here (f y) (map f ys) e
map_same f P one (x ∷ xs) [] p q e = nothing_there (f x) (map f xs) e
map_same f P one (x ∷ xs) (y ∷ ys) p q e =
    let b = both_same (f x) (f y) (map f xs) (map f ys) e in
    ap (λ k. k ∷ xs) (one x y (All-head P x xs p) (All-head P y ys q) b.0)
    ∙ ap (λ k. y ∷ k) (map_same f P one xs ys (All-tail P x xs p) (All-tail P y ys q) b.1)

pub map_items : {T : Type 0} (b : ℕ) (f : T → List ℕ) (P : T → Type 0) → ((x : T) → P x → IsItem b (f x)) → (xs : List T) → All P xs → AreItems b (map f xs)
map_items b f P one [] p = tt
map_items b f P one (x ∷ xs) p = (one x (All-head P x xs p), map_items b f P one xs (All-tail P x xs p))

pub map_of : {T : Type 0} (r : ℕ → Bool) (f : T → List ℕ) (P : T → Type 0) → ((x : T) → P x → IsOf r (f x)) → (xs : List T) → All P xs → AllOf r (map f xs)
map_of r f P one [] p = tt
map_of r f P one (x ∷ xs) p = (one x (All-head P x xs p), map_of r f P one xs (All-tail P x xs p))

-- ---- tests that pass digits, letters and the bytes that join them

pub record Takes (r : ℕ → Bool) : Type 0 where
  pub digits : (b : ℕ) → is_digit b ≡ true → r b ≡ true
  pub letters : (b : ℕ) → alnum b ≡ true → r b ≡ true
  pub at : r 64 ≡ true
  pub hyphen : r 45 ≡ true

-- a byte that is none of these
joiner : (s : ℕ) → (b : ℕ) → ((s < 45) ⊎ ((57 < s) × (s < 64))) → (is_digit b ≡ true → is_not s b ≡ true) × (alnum b ≡ true → is_not s b ≡ true)
joiner s b (inl l) = (λ e. grind (arith, nat_tests), λ e. grind (arith, nat_tests))
joiner s b (inr l) = (λ e. grind (arith, nat_tests), λ e. grind (arith, nat_tests))

pub takes_plain : Takes is_plain
takes_plain = record { digits = digits_plain; letters = letters_plain; at = refl; hyphen = refl }

pub takes_low : (s : ℕ) → s < 45 → Takes (is_not s)
takes_low s l = record {
  digits = λ b. (joiner s b (inl l)).0;
  letters = λ b. (joiner s b (inl l)).1;
  at = grind (arith, nat_tests);
  hyphen = grind (arith, nat_tests);
}

pub takes_mid : (s : ℕ) → 57 < s → s < 64 → Takes (is_not s)
takes_mid s l m = record {
  digits = λ b. (joiner s b (inr (l, m))).0;
  letters = λ b. (joiner s b (inr (l, m))).1;
  at = grind (arith, nat_tests);
  hyphen = grind (arith, nat_tests);
}

bar_digits : (b : ℕ) → is_digit b ≡ true → is_not 124 b ≡ true
bar_digits b e = grind (arith, nat_tests)

bar_letters : (b : ℕ) → alnum b ≡ true → is_not 124 b ≡ true
bar_letters b e = grind (arith, nat_tests)

pub takes_bar : Takes (is_not 124)
takes_bar = record { digits = bar_digits; letters = bar_letters; at = refl; hyphen = refl }

module _ (ds : List Decl) (a : AreLabels ds) where
  -- a stamp of a declared node
  abbrev pub IsStampIn : Point → Type 0
  IsStampIn p = IsStamp p × IsDeclaredNode ds p.node

  pub stamp_in : (r : ℕ → Bool) → Takes r → (p : Point) → IsStampIn p → IsOf r (stamp_text ds p)
  stamp_in r t p s = stamp_of r ds a p s.0 s.1 t.digits t.letters t.at

  pub prev_in : (r : ℕ → Bool) → Takes r → (p : Option Point) → IsPrev ds p → IsOf r (prev_text ds p)
  prev_in r t p s = prev_of r ds a p s t.digits t.letters t.at t.hyphen

  pub one_stamp : (p q : Point) → IsStampIn p → IsStampIn q → stamp_text ds p ≡ stamp_text ds q → p ≡ q
  one_stamp p q s t e = stamp_same ds a p q s.0 t.0 s.1 t.1 e

  -- ---- marks

  abbrev pub IsMarkIn : Mark → Type 0
  IsMarkIn m = IsStampIn m.stamp × IsPrev ds m.prev

  mark_of : (r : ℕ → Bool) → Takes r → r 60 ≡ true → (m : Mark) → IsMarkIn m → IsOf r (mark_text ds m)
  mark_of r t l m i = of_append r (stamp_text ds m.stamp) (60 ∷ prev_text ds m.prev) (stamp_in r t m.stamp i.0) (l, prev_in r t m.prev i.1)

  mark_same : (m n : Mark) → IsMarkIn m → IsMarkIn n → mark_text ds m ≡ mark_text ds n → m ≡ n
  mark_same m n i j e =
      let t = takes_mid 60 (omega arith) (omega arith) in
      let c = cut_at 60 (stamp_text ds m.stamp) (stamp_text ds n.stamp) (prev_text ds m.prev) (prev_text ds n.prev) (stamp_in (is_not 60) t m.stamp i.0) (stamp_in (is_not 60) t n.stamp j.0) e in
      ap (λ (s : Point). let k : Mark = record { stamp = s; prev = m.prev } in k) (one_stamp m.stamp n.stamp i.0 j.0 c.0)
      ∙ ap (λ (p : Option Point). let k : Mark = record { stamp = n.stamp; prev = p } in k) (prev_same ds a m.prev n.prev i.1 j.1 c.1)

  pub mark_item : (m : Mark) → IsMarkIn m → IsItem 59 (mark_text ds m)
  mark_item m i = record {
    lacks = mark_of (is_not 59) (takes_mid 59 (omega arith) (omega arith)) refl m i;
    some = not_empty (stamp_text ds m.stamp) 60 (prev_text ds m.prev);
    shown = not_hyphen (stamp_text ds m.stamp) 60 (prev_text ds m.prev) (λ k. absurd (omega (arith, k)));
  }

  pub marks_of : (r : ℕ → Bool) → Takes r → r 60 ≡ true → r 59 ≡ true → (ms : List Mark) → All IsMarkIn ms → IsOf r (joined 59 (map (mark_text ds) ms))
  marks_of r t l s ms i = of_joined r 59 (map (mark_text ds) ms) s (map_of r (mark_text ds) IsMarkIn (mark_of r t l) ms i)

  marks_same : (ms ns : List Mark) → All IsMarkIn ms → All IsMarkIn ns → joined 59 (map (mark_text ds) ms) ≡ joined 59 (map (mark_text ds) ns) → ms ≡ ns
  marks_same ms ns i j e =
      map_same (mark_text ds) IsMarkIn mark_same ms ns i j
      (joined_same 59 (map (mark_text ds) ms) (map (mark_text ds) ns) (map_items 59 (mark_text ds) IsMarkIn mark_item ms i) (map_items 59 (mark_text ds) IsMarkIn mark_item ns j) e)

  -- ---- rows

  abbrev pub IsRowIn : Row → Type 0
  IsRowIn r = IsName r.name × IsStampIn r.newest × All IsMarkIn r.marks

  abbrev sign : Bool → ℕ
  sign gone = cond gone 33 61

  abbrev marks_text : Row → List ℕ
  marks_text r = joined 59 (map (mark_text ds) r.marks)

  abbrev behind_name : Row → List ℕ
  behind_name r = stamp_text ds r.newest ++ 40 ∷ (marks_text r ++ 41 ∷ [])

  sign_same : (x y : Bool) → sign x ≡ sign y → x ≡ y
  sign_same true true e = refl
  sign_same true false e = absurd (omega (arith, e))
  sign_same false true e = absurd (omega (arith, e))
  sign_same false false e = refl

  sign_ends : (x : Bool) → allowed (sign x) ≡ false
  sign_ends true = refl
  sign_ends false = refl

  sign_no_hyphen : (x : Bool) → sign x ≡ 45 → ⊥
  sign_no_hyphen true e = absurd (omega (arith, e))
  sign_no_hyphen false e = absurd (omega (arith, e))

  sign_of : (r : ℕ → Bool) (x : Bool) → r 33 ≡ true → r 61 ≡ true → r (sign x) ≡ true
  sign_of r true a b = a
  sign_of r false a b = b

  row_of : (r : ℕ → Bool) → Takes r → ((b : ℕ) → allowed b ≡ true → r b ≡ true) → r 33 ≡ true → r 61 ≡ true → r 40 ≡ true → r 41 ≡ true → r 60 ≡ true → r 59 ≡ true
      → (row : Row) → IsRowIn row → IsOf r (row_text ds row)
  row_of r t n bang equal opens closes less semi row i =
      of_append r row.name (sign row.gone ∷ behind_name row) (name_bytes r row.name i.0 n) (
        sign_of r row.gone bang equal,
        of_append r (stamp_text ds row.newest) (40 ∷ (marks_text row ++ 41 ∷ [])) (stamp_in r t row.newest i.1)
            (opens, of_append r (marks_text row) (41 ∷ []) (marks_of r t less semi row.marks i.2) (closes, tt)),
      )

  row_same : (x y : Row) → IsRowIn x → IsRowIn y → row_text ds x ≡ row_text ds y → x ≡ y
  row_same x y i j e =
      let c = cut allowed x.name y.name (sign x.gone ∷ behind_name x) (sign y.gone ∷ behind_name y) (name_bytes allowed x.name i.0 (λ b h. h)) (name_bytes allowed y.name j.0 (λ b h. h)) (sign_ends x.gone) (sign_ends y.gone) e in
      let g = both_same (sign x.gone) (sign y.gone) (behind_name x) (behind_name y) c.1 in
      let t = takes_low 40 (omega arith) in
      let s = cut_at 40 (stamp_text ds x.newest) (stamp_text ds y.newest) (marks_text x ++ 41 ∷ []) (marks_text y ++ 41 ∷ []) (stamp_in (is_not 40) t x.newest i.1) (stamp_in (is_not 40) t y.newest j.1) g.1 in
      let u = takes_low 41 (omega arith) in
      let m = cut_at 41 (marks_text x) (marks_text y) [] [] (marks_of (is_not 41) u refl refl x.marks i.2) (marks_of (is_not 41) u refl refl y.marks j.2) s.1 in
      ap (λ (k : List ℕ). let r : Row = record { name = k; newest = x.newest; gone = x.gone; marks = x.marks } in r) c.0
      ∙ ap (λ (k : Point). let r : Row = record { name = y.name; newest = k; gone = x.gone; marks = x.marks } in r) (one_stamp x.newest y.newest i.1 j.1 s.0)
      ∙ ap (λ (k : Bool). let r : Row = record { name = y.name; newest = y.newest; gone = k; marks = x.marks } in r) (sign_same x.gone y.gone g.0)
      ∙ ap (λ (k : List Mark). let r : Row = record { name = y.name; newest = y.newest; gone = y.gone; marks = k } in r) (marks_same x.marks y.marks i.2 j.2 m.0)

  comma_name : (b : ℕ) → allowed b ≡ true → is_not 44 b ≡ true
  comma_name b h = grind (arith, nat_tests)

  pub row_item : (row : Row) → IsRowIn row → IsItem 44 (row_text ds row)
  row_item row i = record {
    lacks = row_of (is_not 44) (takes_low 44 (omega arith)) comma_name refl refl refl refl refl refl row i;
    some = not_empty row.name (sign row.gone) (behind_name row);
    shown = not_hyphen row.name (sign row.gone) (behind_name row) (sign_no_hyphen row.gone);
  }

  pub rows_same : (xs ys : List Row) → All IsRowIn xs → All IsRowIn ys → rows_text ds xs ≡ rows_text ds ys → xs ≡ ys
  rows_same xs ys i j e =
      map_same (row_text ds) IsRowIn row_same xs ys i j
      (listed_same (map (row_text ds) xs) (map (row_text ds) ys) (map_items 44 (row_text ds) IsRowIn row_item xs i) (map_items 44 (row_text ds) IsRowIn row_item ys j) e)

  pub rows_plain : (xs : List Row) → All IsRowIn xs → IsOf is_plain (rows_text ds xs)
  rows_plain xs i = of_listed is_plain (map (row_text ds) xs) refl refl (map_of is_plain (row_text ds) IsRowIn (row_of is_plain takes_plain allowed_plain refl refl refl refl refl refl) xs i)

  -- ---- pairs

  abbrev pub IsPairIn : Point × Point → Type 0
  IsPairIn p = IsStampIn p.0 × IsStampIn p.1

  pair_of : (r : ℕ → Bool) → Takes r → r 124 ≡ true → (p : Point × Point) → IsPairIn p → IsOf r (pair_text ds p)
  pair_of r t bar p i = of_append r (stamp_text ds p.0) (124 ∷ stamp_text ds p.1) (stamp_in r t p.0 i.0) (bar, stamp_in r t p.1 i.1)

  pair_same : (p q : Point × Point) → IsPairIn p → IsPairIn q → pair_text ds p ≡ pair_text ds q → p ≡ q
  pair_same p q i j e =
      let c = cut_at 124 (stamp_text ds p.0) (stamp_text ds q.0) (stamp_text ds p.1) (stamp_text ds q.1) (stamp_in (is_not 124) takes_bar p.0 i.0) (stamp_in (is_not 124) takes_bar q.0 j.0) e in
      ap (λ (k : Point). let r : Point × Point = (k, p.1) in r) (one_stamp p.0 q.0 i.0 j.0 c.0)
      ∙ ap (λ (k : Point). let r : Point × Point = (q.0, k) in r) (one_stamp p.1 q.1 i.1 j.1 c.1)

  pub pair_item : (p : Point × Point) → IsPairIn p → IsItem 44 (pair_text ds p)
  pair_item p i = record {
    lacks = pair_of (is_not 44) (takes_low 44 (omega arith)) refl p i;
    some = not_empty (stamp_text ds p.0) 124 (stamp_text ds p.1);
    shown = not_hyphen (stamp_text ds p.0) 124 (stamp_text ds p.1) (λ k. absurd (omega (arith, k)));
  }

  pub pairs_same : (xs ys : List (Point × Point)) → All IsPairIn xs → All IsPairIn ys → pairs_text ds xs ≡ pairs_text ds ys → xs ≡ ys
  pairs_same xs ys i j e =
      map_same (pair_text ds) IsPairIn pair_same xs ys i j
      (listed_same (map (pair_text ds) xs) (map (pair_text ds) ys) (map_items 44 (pair_text ds) IsPairIn pair_item xs i) (map_items 44 (pair_text ds) IsPairIn pair_item ys j) e)

  pub pairs_plain : (xs : List (Point × Point)) → All IsPairIn xs → IsOf is_plain (pairs_text ds xs)
  pairs_plain xs i = of_listed is_plain (map (pair_text ds) xs) refl refl (map_of is_plain (pair_text ds) IsPairIn (pair_of is_plain takes_plain refl) xs i)
