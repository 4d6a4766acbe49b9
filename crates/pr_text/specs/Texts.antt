-- The texts of a line's fields.
use Rattle.std.specs.Prelude.{◌≡◌, ◌<◌, ◌⊎◌, ℕ, ◌+◌, List, [], ◌∷◌, ◌++◌, map, Option, None, Some, decimal, nat_eq, cond}
use Rattle.pr_stamps.specs.Point.{Point}
use Rattle.pr_stamps.specs.declared.mark.Mark.{Mark}
use Rattle.pr_vectors.specs.Vector.{clock_of}
use Rattle.pr_inval.specs.declared.row.Row.{Row}
use Rattle.pr_script.specs.declared.decl.Decl.{Decl}
use Rattle.pr_script.specs.declared.kind.Kind.TheVariants as kinds
use Rattle.pr_script.specs.Labels.{labels_of}
use Rattle.pr_script.specs.Printing.{label_text as label}

-- ---- lists

-- each behind a byte
abbrev pub more : ℕ → List (List ℕ) → List ℕ
more b [] = []
more b (x ∷ xs) = b ∷ (x ++ more b xs)

-- one after another, with a byte between
abbrev pub joined : ℕ → List (List ℕ) → List ℕ
joined b [] = []
joined b (x ∷ xs) = x ++ more b xs

-- what stands before the item at this place
abbrev pub between : ℕ → ℕ → List ℕ
between i b = cond (nat_eq i 0) [] (b ∷ [])

-- joined by commas; a hyphen where there are none
abbrev pub listed : List (List ℕ) → List ℕ
listed [] = 45 ∷ []
listed (x ∷ xs) = joined 44 (x ∷ xs)

-- ---- stamps and vectors

-- CLOCK@LABEL
abbrev pub stamp_text : List Decl → Point → List ℕ
stamp_text ds p = decimal p.clock ++ 64 ∷ label kinds.Node ds p.node

abbrev pub prev_text : List Decl → Option Point → List ℕ
prev_text ds None = 45 ∷ []
prev_text ds (Some p) = stamp_text ds p

-- LABEL:CLOCK for each of the nodes from this number on that has a clock
abbrev pub clocks : List (List ℕ) → ℕ → List ℕ → List (List ℕ)
clocks [] w v = []
clocks (l ∷ ls) w v = cond (nat_eq (clock_of v w) 0) (clocks ls (w + 1) v) ((l ++ 58 ∷ decimal (clock_of v w)) ∷ clocks ls (w + 1) v)

-- LABEL:CLOCK behind a comma, or nothing where the clock is 0
abbrev pub part : List ℕ → ℕ → List ℕ
part l c = cond (nat_eq c 0) [] (44 ∷ (l ++ 58 ∷ decimal c))

abbrev pub vector_text : List Decl → List ℕ → List ℕ
vector_text ds v = listed (clocks (labels_of kinds.Node ds) 0 v)

-- the text is that of the label's clock behind a comma, where that is not 0
abbrev pub IsKept : List ℕ → ℕ → List ℕ → Type 0
IsKept label clock text = 0 < clock → text ≡ 44 ∷ (label ++ 58 ∷ decimal clock)

-- these are no labels, or those of the nodes
abbrev pub AreOfNodes : List Decl → List (List ℕ) → Type 0
AreOfNodes ds labels = (labels ≡ []) ⊎ (labels ≡ labels_of kinds.Node ds)

-- ---- rows and pairs

-- STAMP<PREV
abbrev pub mark_text : List Decl → Mark → List ℕ
mark_text ds m = stamp_text ds m.stamp ++ 60 ∷ prev_text ds m.prev

-- NAME=STAMP(MARKS), or NAME!STAMP(MARKS) where the newest write deletes
abbrev pub row_text : List Decl → Row → List ℕ
row_text ds r = r.name ++ cond r.gone 33 61 ∷ (stamp_text ds r.newest ++ 40 ∷ (joined 59 (map (mark_text ds) r.marks) ++ 41 ∷ []))

abbrev pub rows_text : List Decl → List Row → List ℕ
rows_text ds rows = listed (map (row_text ds) rows)

-- STAMP|STAMP
abbrev pub pair_text : List Decl → Point × Point → List ℕ
pair_text ds p = stamp_text ds p.0 ++ 124 ∷ stamp_text ds p.1

abbrev pub pairs_text : List Decl → List (Point × Point) → List ℕ
pairs_text ds pairs = listed (map (pair_text ds) pairs)
