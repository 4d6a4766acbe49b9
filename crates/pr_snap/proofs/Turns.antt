-- Marks and rows that are taken one after the other.
use Rattle.std.proofs.Common.{◌≡◌, ℕ, List, [], ◌∷◌, Some, Bool, true, false, cond, refl, sym, ◌∙◌, ap, subst}
use Rattle.std.specs.Prelude.{Result, Ok, Err, OnOk}
use Rattle.std.specs.Str.{bytes_eq}
use Rattle.std.proofs.lemmas.Slice.Eq.{bytes_eq-Decides}
use Rattle.pr_stamps.specs.declared.mark.Mark.{Mark}
use Rattle.pr_inval.specs.declared.row.Row.{Row}
use Rattle.pr_gaps.specs.Gaps.{Told, IsCovered}
use Rattle.pr_names.specs.Span.{Span}
use Rattle.pr_vectors.specs.Vector.{join_of, zero_vector, is_covered}
use Rattle.pr_stamps.specs.declared.newest.Newest.{Newest}
use Rattle.pr_marks.specs.Row.{above_floor, with_mark}
use Rattle.pr_marks.specs.Table.{Table, IsForgotten, IsMarked, IsRaised, marks_of, newest_of, raised_to}
use Rattle.pr_snap.specs.Apply.{AreMarked, AreRowsTaken, IsApplied, IsRowTaken, marks_among, marks_by, newest_among, newest_by}

-- what stands at the name itself, and stays elsewhere, in a later function
turn : {X : Type 0} (f : List ℕ → X) (y : X) (F step : X → X) (name o : List ℕ) (b : Bool) → b ≡ bytes_eq name o → (R : X) → y ≡ cond b (step (f name)) (f o) → cond b (F (step (f o))) (f o) ≡ R → cond b (F y) y ≡ R
turn f y F step name o true e R is h = ap F (is ∙ ap (λ n. step (f n)) ((bytes_eq-Decides name o).0 (sym e))) ∙ h
turn f y F step name o false e R is h = is ∙ h

-- one step, and then others
composed : {X : Type 0} (f : List ℕ → X) (y z : X) (F step : X → X) (name o : List ℕ) (b : Bool) → b ≡ bytes_eq name o → y ≡ cond b (step (f name)) (f o) → z ≡ cond b (F y) y → z ≡ cond b (F (step (f o))) (f o)
composed f y z F step name o true e is h = h ∙ ap F (is ∙ ap (λ n. step (f n)) ((bytes_eq-Decides name o).0 (sym e)))
composed f y z F step name o false e is h = h ∙ is

same_cond : {X : Type 0} (b : Bool) (x : X) → x ≡ cond b x x
same_cond true x = refl
same_cond false x = refl

-- ---- marks of a name

-- with the rest of the marks the table becomes what all make of the old one
pub record ToMark (old now : Table) (name : List ℕ) (all rest : List Mark) : Type 0 where
  pub floor : now.floor ≡ old.floor
  pub newest : (o : List ℕ) → cond (bytes_eq name o) (newest_by rest (newest_of now o)) (newest_of now o) ≡ cond (bytes_eq name o) (newest_by all (newest_of old o)) (newest_of old o)
  pub marks : (o : List ℕ) → cond (bytes_eq name o) (marks_by old.floor rest (marks_of now o)) (marks_of now o) ≡ cond (bytes_eq name o) (marks_by old.floor all (marks_of old o)) (marks_of old o)

pub mark_start : (old : Table) (name : List ℕ) (all : List Mark) → ToMark old old name all all
mark_start old name all = record { floor = refl; newest = λ o. refl; marks = λ o. refl }

pub mark_turn : (old now next : Table) (name : List ℕ) (all rest : List Mark) (x : Mark) → ToMark old now name all (x ∷ rest) → IsMarked now next name x false → ToMark old next name all rest
mark_turn old now next name all rest x h m = record {
  floor = m.floor ∙ h.floor;
  newest = λ o. turn (newest_of now) (newest_of next o) (newest_by rest) (λ n. Some (raised_to n (record { stamp = x.stamp; gone = false }))) name o (bytes_eq name o) refl _ (m.newest o) (h.newest o);
  marks = λ o. turn (marks_of now) (marks_of next o) (marks_by old.floor rest) (λ ms. cond (is_covered old.floor x.stamp) ms (with_mark ms x)) name o (bytes_eq name o) refl _
      (subst (λ fl. marks_of next o ≡ cond (bytes_eq name o) (cond (is_covered fl x.stamp) (marks_of now name) (with_mark (marks_of now name) x)) (marks_of now o)) h.floor (m.marks o)) (h.marks o);
}

pub mark_end : (old now : Table) (name : List ℕ) (all rest : List Mark) → rest ≡ [] → ToMark old now name all rest → AreMarked old now name all
mark_end old now name all rest none h =
    let e : ToMark old now name all [] = subst (λ r. ToMark old now name all r) none h in
    record {
      floor = e.floor;
      newest = λ o. same_cond (bytes_eq name o) (newest_of now o) ∙ e.newest o;
      marks = λ o. same_cond (bytes_eq name o) (marks_of now o) ∙ e.marks o;
    }

-- ---- a row

pub row_taken : (a mid b : Table) (row : Row) (to : Newest) → to ≡ record { stamp = row.newest; gone = row.gone } → IsRaised a mid row.name to → AreMarked mid b row.name row.marks → IsRowTaken a b row
row_taken a mid b row to is r m = record {
  floor = m.floor ∙ r.floor;
  newest = λ o. composed (newest_of a) (newest_of mid o) (newest_of b o) (newest_by row.marks) (λ n. Some (raised_to n (record { stamp = row.newest; gone = row.gone }))) row.name o (bytes_eq row.name o) refl
      (subst (λ t. newest_of mid o ≡ cond (bytes_eq row.name o) (Some (raised_to (newest_of a row.name) t)) (newest_of a o)) is (r.newest o)) (m.newest o);
  marks = λ o. m.marks o ∙ ap (λ ms. cond (bytes_eq row.name o) (marks_by mid.floor row.marks ms) ms) (r.marks o) ∙ ap (λ fl. cond (bytes_eq row.name o) (marks_by fl row.marks (marks_of a o)) (marks_of a o)) r.floor;
}

-- ---- rows

pub record ToTake (old now : Table) (all rest : List Row) : Type 0 where
  pub floor : now.floor ≡ old.floor
  pub newest : (o : List ℕ) → newest_among rest o (newest_of now o) ≡ newest_among all o (newest_of old o)
  pub marks : (o : List ℕ) → marks_among old.floor rest o (marks_of now o) ≡ marks_among old.floor all o (marks_of old o)

pub take_start : (old : Table) (all : List Row) → ToTake old old all all
take_start old all = record { floor = refl; newest = λ o. refl; marks = λ o. refl }

pub take_turn : (old now next : Table) (all rest : List Row) (row : Row) → ToTake old now all (row ∷ rest) → IsRowTaken now next row → ToTake old next all rest
take_turn old now next all rest row h t = record {
  floor = t.floor ∙ h.floor;
  newest = λ o. ap (newest_among rest o) (t.newest o) ∙ h.newest o;
  marks = λ o. ap (marks_among old.floor rest o) (t.marks o ∙ ap (λ fl. cond (bytes_eq row.name o) (marks_by fl row.marks (marks_of now o)) (marks_of now o)) h.floor) ∙ h.marks o;
}

pub take_end : (old now : Table) (all rest : List Row) → rest ≡ [] → ToTake old now all rest → AreRowsTaken old now all
take_end old now all rest none h =
    let e : ToTake old now all [] = subst (λ r. ToTake old now all r) none h in
    record { floor = e.floor; newest = e.newest; marks = e.marks }

pub is_applied : (g h : Told) (m mid n : Table) (to : List ℕ) (target : List Span) (by : List ℕ) (rows : List Row) → IsCovered g h zero_vector to target → AreRowsTaken m mid rows → IsForgotten mid n by → IsApplied g h m n to target by rows
is_applied g h m mid n to target by rows covered taken forgotten = record {
  gaps = covered;
  floor = forgotten.floor ∙ ap (λ fl. join_of fl by) taken.floor;
  newest = λ o. forgotten.newest o ∙ taken.newest o;
  marks = λ o. forgotten.marks o ∙ ap (above_floor by) (taken.marks o);
}

pub if_row_taken : {A E : Type 0} (a mid b : Table) (row : Row) (marks : List Mark) (r : Result A E) → IsRaised a mid row.name (record { stamp = row.newest; gone = row.gone }) → marks ≡ row.marks → OnOk r (AreMarked mid b row.name marks) → OnOk r (IsRowTaken a b row)
if_row_taken a mid b row marks (Ok u) raised is h = row_taken a mid b row _ refl raised (subst (λ ms. AreMarked mid b row.name ms) is h)
if_row_taken a mid b row marks (Err e) raised is h = tt
