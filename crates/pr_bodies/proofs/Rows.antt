-- The bodies of a name.
use Rattle.std.proofs.Common.{◌≡◌, ℕ, List, [], ◌∷◌, ◌++◌, Option, None, Some, Bool, true, false, cond, refl, sym, ◌∙◌, ap, arith, nat_eq, nat_lt, not, ◌&&◌, ◌||◌, inl, inr}
use Rattle.std.specs.Prelude.{◌⊎◌}
use Rattle.std.specs.Cmp.Lexicographic.{slice_cmp}
use Rattle.std.specs.Ordering.{is_eq, nat_cmp}
use Rattle.std.specs.Str.{bytes_eq}
use Rattle.std.proofs.lemmas.Map.Text.{is_eq-slice_cmp}
use Rattle.std.proofs.lemmas.Slice.Eq.{bytes_eq-Decides}
use Rattle.std.specs.List.{filter}
use Rattle.std.specs.Map.{lookup}
use Rattle.std.specs.Option.{option_or, unwrap_or}
use Rattle.std.proofs.lemmas.Bool.Decides.{nat_tests}
use Rattle.std.proofs.lemmas.Map.Entries.{lookup-filter-keys}
use Rattle.pr_stamps.specs.Point.{Point, is_before, is_same, is_this}
use Rattle.pr_bodies.specs.Bodies.{body_of, renewed, row_of}

abbrev Row : Type 0
Row = List (Point × List ℕ)

alike_nat : (ac an bc bn : ℕ) → (nat_eq ac bc && nat_eq an bn) ≡ true → ac ≡ bc
alike_nat ac an bc bn e = grind (arith, nat_tests)

alike_nodes : (ac an bc bn : ℕ) → (nat_eq ac bc && nat_eq an bn) ≡ true → an ≡ bn
alike_nodes ac an bc bn e = grind (arith, nat_tests)

point_is : (p q : Point) → is_same p q ≡ true → p ≡ q
point_is p q e = λ i. record { clock = alike_nat p.clock p.node q.clock q.node e i; node = alike_nodes p.clock p.node q.clock q.node e i }

turned : (p q : Point) → is_same p q ≡ is_same q p
turned p q = grind (arith, nat_tests)

-- the bodies whose stamps pass a test
pub kept : (test : Point → Bool) (row : Row) (t : Point) → body_of (filter (λ e. test e.0) row) t ≡ cond (test t) (body_of row t) None
kept test row t = lookup-filter-keys (is_same t) test (test t) (λ k e. ap test (sym (point_is t k e))) row

pub removed : (s : Point) (row : Row) (t : Point) → body_of (filter (λ e. not (is_same e.0 s)) row) t ≡ cond (is_same s t) None (body_of row t)
removed s row t = kept (λ p. not (is_same p s)) row t ∙ ap (λ b. cond (not b) (body_of row t) None) (turned t s) ∙ negated (is_same s t) (body_of row t)
  where
    negated : (b : Bool) (x : Option (List ℕ)) → cond (not b) x None ≡ cond b None x
    negated true x = refl
    negated false x = refl

pub settled : (s : Point) (row : Row) (t : Point) → body_of (filter (λ e. not (is_before e.0 s)) row) t ≡ cond (is_before t s) None (body_of row t)
settled s row t = kept (λ p. not (is_before p s)) row t ∙ negated (is_before t s) (body_of row t)
  where
    negated : (b : Bool) (x : Option (List ℕ)) → cond (not b) x None ≡ cond b None x
    negated true x = refl
    negated false x = refl

-- a body behind the others
pushed : (row : Row) (s t : Point) (bytes : List ℕ) → body_of (row ++ (s, bytes) ∷ []) t ≡ option_or (body_of row t) (cond (is_same t s) (Some bytes) None)
pushed [] s t bytes = refl
pushed (e ∷ row) s t bytes = first _ _ _ (is_same t e.0) (pushed row s t bytes)
  where
    first : (x y z : Option (List ℕ)) (b : Bool) → x ≡ option_or y z → cond b (Some e.1) x ≡ option_or (cond b (Some e.1) y) z
    first x y z true h = refl
    first x y z false h = h

pub put_behind : (old row new : Row) (s t : Point) (bytes : List ℕ) → body_of row t ≡ cond (is_same s t) None (body_of old t) → new ≡ row ++ (s, bytes) ∷ [] → body_of new t ≡ cond (is_same s t) (Some bytes) (body_of old t)
put_behind old row new s t bytes was is =
    ap (λ r. body_of r t) is ∙ pushed row s t bytes ∙ ap (λ x. option_or x (cond (is_same t s) (Some bytes) None)) was
    ∙ ap (λ b. option_or (cond (is_same s t) None (body_of old t)) (cond b (Some bytes) None)) (turned t s) ∙ put (is_same s t) (body_of old t)
  where
    put : (b : Bool) (x : Option (List ℕ)) → option_or (cond b None x) (cond b (Some bytes) None) ≡ cond b (Some bytes) x
    put true x = refl
    put false None = refl
    put false (Some y) = refl

-- ---- the bodies with greater stamps, and one behind them

pub later : (s : Point) (row : Row) (t : Point) → body_of (filter (λ e. is_before s e.0) row) t ≡ cond (is_before s t) (body_of row t) None
later s row t = kept (is_before s) row t

before_nat : (ac an bc bn : ℕ) → (nat_lt bc ac || (nat_eq bc ac && nat_lt bn an)) ≡ (not (nat_lt ac bc || (nat_eq ac bc && nat_lt an bn)) && not (nat_eq ac bc && nat_eq an bn))
before_nat ac an bc bn = grind (arith, nat_tests)

one_nat : (ac an bc bn : ℕ) → ((nat_lt ac bc || (nat_eq ac bc && nat_lt an bn)) && (nat_eq ac bc && nat_eq an bn)) ≡ false
one_nat ac an bc bn = grind (arith, nat_tests)

-- of two stamps one is before the other, or they are the same
before : (s t : Point) → is_before t s ≡ (not (is_before s t) && not (is_same s t))
before s t = before_nat s.clock s.node t.clock t.node

not_both : (s t : Point) → (is_before s t && is_same s t) ≡ false
not_both s t = one_nat s.clock s.node t.clock t.node

renewed_by : (bytes : List ℕ) (after same : Bool) (x : Option (List ℕ)) → (after && same) ≡ false → option_or (cond after x None) (cond same (Some bytes) None) ≡ cond (not after && not same) None (cond same (Some bytes) x)
renewed_by bytes true true x e = cc
renewed_by bytes true false None e = refl
renewed_by bytes true false (Some y) e = refl
renewed_by bytes false true x e = refl
renewed_by bytes false false x e = refl

pub renewed_behind : (old row new : Row) (s t : Point) (bytes : List ℕ) → body_of row t ≡ cond (is_before s t) (body_of old t) None → new ≡ row ++ (s, bytes) ∷ [] → body_of new t ≡ renewed s bytes t (body_of old t)
renewed_behind old row new s t bytes was is =
    ap (λ r. body_of r t) is ∙ pushed row s t bytes ∙ ap (λ x. option_or x (cond (is_same t s) (Some bytes) None)) was
    ∙ ap (λ b. option_or (cond (is_before s t) (body_of old t) None) (cond b (Some bytes) None)) (turned t s)
    ∙ renewed_by bytes (is_before s t) (is_same s t) (body_of old t) (not_both s t)
    ∙ ap (λ b. cond b None (cond (is_same s t) (Some bytes) (body_of old t))) (sym (before s t))

-- ---- the first body of this stamp

pub found_here : (row rest : Row) (s t : Point) (bytes : List ℕ) → row ≡ (s, bytes) ∷ rest → is_same s t ≡ true → body_of row t ≡ Some bytes
found_here row rest s t bytes is same = ap (λ r. body_of r t) is ∙ ap (λ b. cond b (Some bytes) (body_of rest t)) (turned t s ∙ same)

pub found_later : (row rest : Row) (s t : Point) (bytes : List ℕ) → row ≡ (s, bytes) ∷ rest → is_same s t ≡ false → body_of row t ≡ body_of rest t
found_later row rest s t bytes is other = ap (λ r. body_of r t) is ∙ ap (λ b. cond b (Some bytes) (body_of rest t)) (turned t s ∙ other)

-- ---- the rows by name

abbrev Table : Type 0
Table = List (List ℕ × Row)

abbrev is_key : List ℕ → List ℕ → Bool
is_key o k = is_eq (slice_cmp nat_cmp o k)

abbrev pub row_by : Table → List ℕ → Option Row
row_by table o = lookup (is_key o) table

either_test : (b : Bool) → (b ≡ true) ⊎ (b ≡ false)
either_test true = inl refl
either_test false = inr refl

same_name : (a b : List ℕ) → is_key a b ≡ true → a ≡ b
same_name a b e = (bytes_eq-Decides a b).0 (sym (is_eq-slice_cmp a b) ∙ e)

-- a row is changed, stamp by stamp
row_changed : (old new : Table) (name : List ℕ) (row : Row) (step : Point → Option (List ℕ) → Option (List ℕ)) → ((o : List ℕ) → row_by new o ≡ cond (is_key name o) (Some row) (row_by old o)) → ((t : Point) → body_of row t ≡ step t (body_of (row_of old name) t)) → (o : List ℕ) (t : Point) → body_of (row_of new o) t ≡ cond (bytes_eq name o) (step t (body_of (row_of old o) t)) (body_of (row_of old o) t)
row_changed old new name row step is body o t = elim (either_test (is_key name o)) [
  | inl this ↦
      ap (λ r. body_of (unwrap_or r []) t) (is o ∙ ap (λ b. cond b (Some row) (row_by old o)) this)
      ∙ body t
      ∙ ap (λ n. step t (body_of (row_of old n) t)) (same_name name o this)
      ∙ ap (λ b. cond b (step t (body_of (row_of old o) t)) (body_of (row_of old o) t)) (sym this ∙ is_eq-slice_cmp name o)
  | inr other ↦
      ap (λ r. body_of (unwrap_or r []) t) (is o ∙ ap (λ b. cond b (Some row) (row_by old o)) other)
      ∙ ap (λ b. cond b (step t (body_of (row_of old o) t)) (body_of (row_of old o) t)) (sym other ∙ is_eq-slice_cmp name o)
]

-- by a test of its stamps
pub changed : (old new : Table) (name : List ℕ) (row : Row) (test : Point → Bool) (then : Option (List ℕ)) → ((o : List ℕ) → row_by new o ≡ cond (is_key name o) (Some row) (row_by old o)) → ((t : Point) → body_of row t ≡ cond (test t) then (body_of (row_of old name) t)) → (o : List ℕ) (t : Point) → body_of (row_of new o) t ≡ cond (bytes_eq name o && test t) then (body_of (row_of old o) t)
changed old new name row test then is body o t =
    row_changed old new name row (λ s x. cond (test s) then x) is body o t ∙ both (bytes_eq name o) (body_of (row_of old o) t)
  where
    both : (b : Bool) (x : Option (List ℕ)) → cond b (cond (test t) then x) x ≡ cond (b && test t) then x
    both true x = refl
    both false x = refl

-- by a newer body
pub renewed_row : (old new : Table) (name : List ℕ) (row : Row) (s : Point) (bytes : List ℕ) → ((o : List ℕ) → row_by new o ≡ cond (is_key name o) (Some row) (row_by old o)) → ((t : Point) → body_of row t ≡ renewed s bytes t (body_of (row_of old name) t)) → (o : List ℕ) (t : Point) → body_of (row_of new o) t ≡ cond (bytes_eq name o && is_before t s) None (cond (is_this name s o t) (Some bytes) (body_of (row_of old o) t))
renewed_row old new name row s bytes is body o t =
    row_changed old new name row (renewed s bytes) is body o t ∙ both (bytes_eq name o) (body_of (row_of old o) t)
  where
    both : (b : Bool) (x : Option (List ℕ)) → cond b (renewed s bytes t x) x ≡ cond (b && is_before t s) None (cond (b && is_same s t) (Some bytes) x)
    both true x = refl
    both false x = refl

-- a name without a row has no body that a test could take
pub absent : (table : Table) (name : List ℕ) (test : Point → Bool) → row_by table name ≡ None → (o : List ℕ) (t : Point) → body_of (row_of table o) t ≡ cond (bytes_eq name o && test t) None (body_of (row_of table o) t)
absent table name test none o t = elim (either_test (bytes_eq name o)) [
  | inl this ↦
      let out : body_of (row_of table o) t ≡ None = ap (λ n. body_of (row_of table n) t) (sym ((bytes_eq-Decides name o).0 this)) ∙ ap (λ r. body_of (unwrap_or r []) t) none in
      out ∙ sym (either (bytes_eq name o && test t) (body_of (row_of table o) t) out)
  | inr other ↦ ap (λ b. cond (b && test t) None (body_of (row_of table o) t)) (sym other)
]
  where
    either : (b : Bool) (x : Option (List ℕ)) → x ≡ None → cond b None x ≡ None
    either true x e = refl
    either false x e = e

pub dropped : (old new : Table) (name : List ℕ) → ((o : List ℕ) → row_by new o ≡ cond (is_key name o) None (row_by old o)) → (o : List ℕ) (t : Point) → body_of (row_of new o) t ≡ cond (bytes_eq name o) None (body_of (row_of old o) t)
dropped old new name is o t =
    ap (λ r. body_of (unwrap_or r []) t) (is o ∙ ap (λ b. cond b None (row_by old o)) (is_eq-slice_cmp name o))
    ∙ by (bytes_eq name o) (row_by old o)
  where
    by : (b : Bool) (r : Option Row) → body_of (unwrap_or (cond b None r) []) t ≡ cond b None (body_of (unwrap_or r []) t)
    by true r = refl
    by false r = refl

pub found_row : (r : Option Row) (row : Row) (t : Point) → r ≡ Some row → body_of (unwrap_or r []) t ≡ body_of row t
found_row r row t e = ap (λ x. body_of (unwrap_or x []) t) e
