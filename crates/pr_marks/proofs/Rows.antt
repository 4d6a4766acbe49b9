-- What the map of rows has at a name.
use Rattle.std.proofs.Common.{◌≡◌, ℕ, List, [], ◌∷◌, Option, None, Some, Bool, true, false, cond, refl, sym, ◌∙◌, ap, filter, find, not, ◌&&◌, get_or, subst, arith}
use Rattle.std.specs.Prelude.{AllPairs, IsTrue}
use Rattle.std.specs.List.Sorted.{IsStrictlySortedBy}
use Rattle.std.specs.declared.cmp.Ordering.TheVariants.{Less}
use Rattle.std.proofs.lemmas.List.Kept.{AllPairs-cons}
use Rattle.std.proofs.lemmas.List.Elements.{All-from_recursion}
use Rattle.std.specs.Map.{lookup, keys_of}
use Rattle.std.specs.List.{slice_get}
use Rattle.std.specs.Option.{option_map}
use Rattle.std.specs.Ordering.{is_eq, is_lt, nat_cmp}
use Rattle.std.specs.Cmp.Lexicographic.{slice_cmp}
use Rattle.std.specs.Str.{bytes_eq}
use Rattle.std.proofs.lemmas.Map.Text.{is_eq-slice_cmp}
use Rattle.std.proofs.lemmas.Slice.Eq.{bytes_eq-Decides}
use Rattle.pr_names.specs.Order.{name_lt}
use Rattle.pr_names.proofs.Places.{lt_cmp}
use Rattle.pr_stamps.specs.Point.{Point}
use Rattle.pr_stamps.specs.declared.mark.Mark.{Mark}
use Rattle.pr_vectors.specs.Vector.{is_covered}
use Rattle.pr_stamps.specs.declared.newest.Newest.{Newest}
use Rattle.pr_marks.specs.Row.{Kept, with_mark}
use Rattle.pr_marks.specs.Table.{Table, IsRaised, IsMarked, marks_in, raised_to, row_of}

same_lookup : {K X : Type 0} (f g : K → Bool) → ((k : K) → f k ≡ g k) → (es : List (K × X)) → lookup f es ≡ lookup g es
same_lookup f g same [] = refl
same_lookup f g same (e ∷ es) = rw (same e.0) (rw (same_lookup f g same es) refl)

-- what the map has at a name, by the order of names
abbrev pub at_name : {X : Type 0} → List (List ℕ × X) → List ℕ → Option X
at_name es o = lookup (λ k. is_eq (slice_cmp nat_cmp o k)) es

pub row_at : {X : Type 0} (o : List ℕ) (es : List (List ℕ × X)) → lookup (bytes_eq o) es ≡ at_name es o
row_at o es = same_lookup _ _ (λ k. sym (is_eq-slice_cmp o k)) es

-- a row was written at the name
pub written : {X : Type 0} (name : List ℕ) (before after : List (List ℕ × X)) (row : X) → ((q : List ℕ) → at_name after q ≡ cond (is_eq (slice_cmp nat_cmp name q)) (Some row) (at_name before q)) → (o : List ℕ) → lookup (bytes_eq o) after ≡ cond (bytes_eq name o) (Some row) (lookup (bytes_eq o) before)
written name before after row is o =
    row_at o after ∙ is o ∙ ap (λ b. cond b (Some row) (at_name before o)) (is_eq-slice_cmp name o) ∙ ap (λ r. cond (bytes_eq name o) (Some row) r) (sym (row_at o before))

pub newest_cond : (b : Bool) (row : Kept) (r : Option Kept) → option_map (λ (k : Kept). k.newest) (cond b (Some row) r) ≡ cond b (Some row.newest) (option_map (λ (k : Kept). k.newest) r)
newest_cond true row r = refl
newest_cond false row r = refl

pub marks_cond : (b : Bool) (row : Kept) (r : Option Kept) → marks_in (cond b (Some row) r) ≡ cond b row.marks (marks_in r)
marks_cond true row r = refl
marks_cond false row r = refl

-- at the name itself it is the name's own
own : {X : Type 0} (f : List ℕ → X) (name o : List ℕ) (b : Bool) → b ≡ bytes_eq name o → cond b (f name) (f o) ≡ f o
own f name o true e = ap f ((bytes_eq-Decides name o).0 (sym e))
own f name o false e = refl

pub is_raised : (a b : Table) (name : List ℕ) (to : Newest) (row : Kept) (old : Option Kept) → b.floor ≡ a.floor → ((o : List ℕ) → row_of b o ≡ cond (bytes_eq name o) (Some row) (row_of a o)) → old ≡ row_of a name → row.newest ≡ raised_to (option_map (λ (k : Kept). k.newest) old) to → row.marks ≡ marks_in old → IsRaised a b name to
is_raised a b name to row old floor rows was newest marks = record {
  floor = floor;
  newest = λ o. ap (option_map (λ (k : Kept). k.newest)) (rows o) ∙ newest_cond (bytes_eq name o) row (row_of a o) ∙ ap (λ n. cond (bytes_eq name o) (Some n) (option_map (λ (k : Kept). k.newest) (row_of a o))) (newest ∙ ap (λ r. raised_to (option_map (λ (k : Kept). k.newest) r) to) was);
  marks = λ o. ap marks_in (rows o) ∙ marks_cond (bytes_eq name o) row (row_of a o) ∙ ap (λ m. cond (bytes_eq name o) m (marks_in (row_of a o))) (marks ∙ ap marks_in was) ∙ own (λ n. marks_in (row_of a n)) name o (bytes_eq name o) refl;
}

pub is_marked : (a b : Table) (name : List ℕ) (mark : Mark) (gone : Bool) (row first : Kept) (old : Option Kept) (to : Newest) → b.floor ≡ a.floor → ((o : List ℕ) → row_of b o ≡ cond (bytes_eq name o) (Some row) (row_of a o)) → old ≡ row_of a name → to ≡ record { stamp = mark.stamp; gone = gone } → first.newest ≡ raised_to (option_map (λ (k : Kept). k.newest) old) to → first.marks ≡ marks_in old → row.newest ≡ first.newest → row.marks ≡ cond (is_covered a.floor mark.stamp) first.marks (with_mark first.marks mark) → IsMarked a b name mark gone
is_marked a b name mark gone row first old to floor rows was is newest marks kept added = record {
  floor = floor;
  newest = λ o. ap (option_map (λ (k : Kept). k.newest)) (rows o) ∙ newest_cond (bytes_eq name o) row (row_of a o) ∙ ap (λ n. cond (bytes_eq name o) (Some n) (option_map (λ (k : Kept). k.newest) (row_of a o))) (kept ∙ newest ∙ ap (λ r. raised_to (option_map (λ (k : Kept). k.newest) r) to) was ∙ ap (raised_to (option_map (λ (k : Kept). k.newest) (row_of a name))) is);
  marks = λ o. ap marks_in (rows o) ∙ marks_cond (bytes_eq name o) row (row_of a o) ∙ ap (λ m. cond (bytes_eq name o) m (marks_in (row_of a o))) (added ∙ ap (λ m. cond (is_covered a.floor mark.stamp) m (with_mark m mark)) (marks ∙ ap marks_in was));
}

-- a mark is its stamp and the one before it
pub marked_as : (a b : Table) (name : List ℕ) (mark : Mark) (stamp : Point) (gone : Bool) → mark.stamp ≡ stamp → IsMarked a b name mark gone → IsMarked a b name (record { stamp = stamp; prev = mark.prev }) gone
marked_as a b name mark stamp gone is marked = subst (λ s. IsMarked a b name (record { stamp = s; prev = mark.prev }) gone) is marked

-- ---- the next name

heads : {A : Type 0} (x e : A) (xs t : List A) → x ∷ xs ≡ e ∷ t → x ≡ e
heads x e xs t is = cc

-- the first entry whose key passes has the first key that passes
pub first_passing : {X : Type 0} (p q : List ℕ → Bool) → ((k : List ℕ) → p k ≡ q k) → (es t : List (List ℕ × X)) (e : List ℕ × X) → filter (λ (x : List ℕ × X). p x.0) es ≡ e ∷ t → find q (keys_of es) ≡ Some e.0
first_passing p q same [] t e is = cc
first_passing {X = X} p q same (x ∷ es) t e is = step (p x.0) (same x.0) is (first_passing p q same es t e)
  where
    step : (b : Bool) → b ≡ q x.0 → cond b (x ∷ filter (λ (y : List ℕ × X). p y.0) es) (filter (λ (y : List ℕ × X). p y.0) es) ≡ e ∷ t → (filter (λ (y : List ℕ × X). p y.0) es ≡ e ∷ t → find q (keys_of es) ≡ Some e.0) → cond (q x.0) (Some x.0) (find q (keys_of es)) ≡ Some e.0
    step true said is more = rw (← said) (ap (λ (y : List ℕ × X). Some y.0) (heads x e _ t is))
    step false said is more = rw (← said) (more is)

pub none_passing : {X : Type 0} (p q : List ℕ → Bool) → ((k : List ℕ) → p k ≡ q k) → (es : List (List ℕ × X)) → filter (λ (x : List ℕ × X). p x.0) es ≡ [] → find q (keys_of es) ≡ None
none_passing p q same [] is = refl
none_passing {X = X} p q same (x ∷ es) is = step (p x.0) (same x.0) is (none_passing p q same es)
  where
    step : (b : Bool) → b ≡ q x.0 → cond b (x ∷ filter (λ (y : List ℕ × X). p y.0) es) (filter (λ (y : List ℕ × X). p y.0) es) ≡ [] → (filter (λ (y : List ℕ × X). p y.0) es ≡ [] → find q (keys_of es) ≡ None) → cond (q x.0) (Some x.0) (find q (keys_of es)) ≡ None
    step true said is more = cc
    step false said is more = rw (← said) (more is)

pub head_key : {X : Type 0} (es : List (List ℕ × X)) (k : List ℕ) (v : X) → slice_get es 0 ≡ Some (k, v) → Some k ≡ find (λ (_ : List ℕ). true) (keys_of es)
head_key [] k v is = cc
head_key (e ∷ es) k v is = cc

-- the map's keys are in the order of names
pub keys_rise : (ks : List (List ℕ)) → IsStrictlySortedBy (slice_cmp nat_cmp) ks → AllPairs (λ (a : List ℕ) (b : List ℕ). IsTrue (name_lt a b)) ks
unfolding IsStrictlySortedBy
keys_rise [] h = λ i j d lt within. absurd (omega arith)
keys_rise (k ∷ ks) h =
    AllPairs-cons (λ (a : List ℕ) (b : List ℕ). IsTrue (name_lt a b)) k ks
    (λ i d lt. lt_cmp k (get_or ks i d) ∙ ap is_lt (All-from_recursion (λ (y : List ℕ). slice_cmp nat_cmp k y ≡ Less) ks h.0 i d lt))
    (keys_rise ks h.1)

pub after_name : (a o : List ℕ) → (is_lt (slice_cmp nat_cmp a o) && not false) ≡ name_lt a o
after_name a o = and_true (is_lt (slice_cmp nat_cmp a o)) ∙ sym (lt_cmp a o)
  where
    and_true : (b : Bool) → (b && true) ≡ b
    and_true true = refl
    and_true false = refl
