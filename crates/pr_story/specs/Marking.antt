-- The marks of a name, its conflicts and the rows of a checkpoint, as the plain program finds them.
use Rattle.std.specs.Prelude.{ℕ, List, [], ◌∷◌, ◌++◌, ◌≡◌, ◌⊎◌, ◌↔◌, ◌&&◌, IsTrue, false, nat_eq, cond, Option, None, Some, Contains, AllPairs, filter}
use Rattle.std.specs.Option.{option_to_list}
use Rattle.std.specs.Str.{bytes_eq}
use Rattle.pr_stamps.specs.Marks.{is_conflict}
use Rattle.pr_stamps.specs.Point.{Point, Before, is_before, is_this}
use Rattle.pr_stamps.specs.declared.mark.Mark.{Mark}
use Rattle.pr_names.specs.Order.{NamesRise, name_lt}
use Rattle.pr_names.specs.Span.{Span}
use Rattle.pr_sets.specs.Spans.{has}
use Rattle.pr_inval.specs.declared.row.Row.{Row}
use Rattle.pr_inval.specs.declared.write_rec.WriteRec.{WriteRec}
use Rattle.pr_story.specs.declared.entry.Entry.{Entry}
use Rattle.pr_story.specs.Knowledge.{WasNamed, first_of, mark_at, mark_of}
use Rattle.pr_story.specs.Turns.{IsSnapshotRow}

-- ---- marks

-- the mark, if it has the stamp
abbrev pub if_at : Mark → Point → Option Mark
if_at mark s = cond (nat_eq mark.stamp.clock s.clock && nat_eq mark.stamp.node s.node) (Some mark) None

-- the write's mark, if it is to the name and has the stamp
abbrev pub mark_by_write : WriteRec → List ℕ → Point → Option Mark
mark_by_write write o s = cond (is_this write.name write.stamp o s) (Some (mark_of write)) None

-- the row's mark with the stamp, if the row is of the name
abbrev pub mark_by_row : Row → List ℕ → Point → Option Mark
mark_by_row row o s = cond (bytes_eq row.name o) (mark_at row.marks s) None

-- each stamp comes before all later ones
abbrev pub MarksRise : List Mark → Type 0
MarksRise marks = AllPairs (λ (a : Mark) (b : Mark). Before a.stamp b.stamp) marks

-- the marks stand in the order of stamps, and at each stamp the mark is the one that was told
pub record AreMarks (told : Point → Option Mark) (marks : List Mark) : Type 0 where
  pub rise : MarksRise marks
  pub each : (s : Point) → mark_at marks s ≡ told s

-- the marks now are the ones before and more; a stamp that had a mark keeps it
abbrev pub IsMarkedBy : List Mark → (Point → Option Mark) → List Mark → Type 0
IsMarkedBy was more now = (told : Point → Option Mark) → AreMarks told was → AreMarks (λ s. first_of (told s) (more s)) now

abbrev pub marks_below : List Mark → Point → List Mark
marks_below marks s = filter (λ (m : Mark). is_before m.stamp s) marks

abbrev pub marks_past : List Mark → Point → List Mark
marks_past marks s = filter (λ (m : Mark). is_before s m.stamp) marks

-- ---- conflicts

-- the pairs of this mark with those later ones that conflict with it
abbrev pub pairs_with : Mark → List Mark → List (Point × Point)
pairs_with x [] = []
pairs_with x (y ∷ ys) = cond (is_conflict x y) ((x.stamp, y.stamp) ∷ pairs_with x ys) (pairs_with x ys)

-- the pairs of each of these marks with those of all
abbrev pub pairs_of : List Mark → List Mark → List (Point × Point)
pairs_of [] marks = []
pairs_of (x ∷ xs) marks = pairs_with x marks ++ pairs_of xs marks

-- ---- names in order

abbrev pub names_below : List (List ℕ) → List ℕ → List (List ℕ)
names_below names n = filter (λ (o : List ℕ). name_lt o n) names

abbrev pub names_past : List (List ℕ) → List ℕ → List (List ℕ)
names_past names n = filter (λ (o : List ℕ). name_lt n o) names

-- the names in their order, each of them once
pub record AreInOrder (names ordered : List (List ℕ)) : Type 0 where
  pub rise : NamesRise ordered
  pub same : (o : List ℕ) → Contains ordered o ↔ Contains names o

-- ---- rows

-- the row of the name, if the target lacks the name and a stamp of it is known
abbrev pub IsRowOf : List Entry → List Span → List ℕ → Option Row → Type 0
IsRowOf j target o None = IsTrue (has target o) ⊎ ((t : Point) → ¬ WasNamed j o t)
IsRowOf j target o (Some row) = (row.name ≡ o) × IsSnapshotRow j target row

-- the rows with that of the name, if there is one
abbrev pub IsRowAdded : List Entry → List Span → List ℕ → List Row → List Row → Type 0
IsRowAdded j target o was now = (row : Option Row) × IsRowOf j target o row × (now ≡ was ++ option_to_list row)

-- the rows of these names
pub record AreRowsOf (j : List Entry) (target : List Span) (names : List (List ℕ)) (rows : List Row) : Type 0 where
  pub each : (row : Row) → Contains rows row → IsSnapshotRow j target row × Contains names row.name
  pub all : (o : List ℕ) → Contains names o → has target o ≡ false → (t : Point) → WasNamed j o t → (row : Row) × Contains rows row × (row.name ≡ o)
  pub rise : NamesRise names → AllPairs (λ (a : Row) (b : Row). IsTrue (name_lt a.name b.name)) rows

-- the rows of all names
pub record AreAllRows (j : List Entry) (target : List Span) (rows : List Row) : Type 0 where
  pub each : (row : Row) → Contains rows row → IsSnapshotRow j target row
  pub all : (o : List ℕ) → has target o ≡ false → (t : Point) → WasNamed j o t → (row : Row) × Contains rows row × (row.name ≡ o)
  pub rise : AllPairs (λ (a : Row) (b : Row). IsTrue (name_lt a.name b.name)) rows
