-- What the fields of a line are read as.
use Rattle.std.specs.Prelude.{ℕ, Bool, ◌==◌, ◌&&◌, nat_le, nat_lt, cond, List, [], ◌∷◌, length, Option, Some, None}
use Rattle.std.specs.List.{after_first, before_first, list_any}
use Rattle.std.specs.Str.{bytes_eq}
use Rattle.pr_stamps.specs.Point.{Point}
use Rattle.pr_stamps.specs.declared.mark.Mark.{Mark}
use Rattle.pr_vectors.specs.Vector.{raised, zero_vector}
use Rattle.pr_names.specs.Span.{Span}
use Rattle.pr_sets.specs.Text.{set_read}
use Rattle.pr_inval.specs.declared.row.Row.{Row}
use Rattle.pr_script.specs.declared.decl.Decl.{Decl}
use Rattle.pr_script.specs.declared.kind.Kind.TheVariants as kinds
use Rattle.pr_script.specs.Fields.{name_of, number_in, value_of}
use Rattle.pr_script.specs.Labels.{number_among}
use Rattle.pr_check.specs.Fields.{◌>>=◌, items_of, listed_of, parts, read_each}

-- what stands before the first byte of this value, and behind it
abbrev pub before : ℕ → List ℕ → List ℕ
before b bytes = before_first (λ x. x == b) bytes

abbrev pub after : ℕ → List ℕ → List ℕ
after b bytes = after_first (λ x. x == b) bytes

abbrev pub is_hyphen : List ℕ → Bool
is_hyphen bytes = bytes_eq bytes (45 ∷ [])

-- ---- stamps and vectors

-- a clock and a node, where they are a stamp's
unfoldable pub stamp_with : ℕ → ℕ → Option Point
stamp_with clock node = cond (nat_le 1 clock && (nat_le clock 4611686018427387903 && nat_lt node 32)) (Some (record { clock = clock; node = node })) None

-- a clock and a node's label, with this byte between
unfoldable pub point_read : List Decl → List ℕ → List ℕ → Option Point
point_read ds clock label = do
  c ← number_in 1 4611686018427387903 clock
  n ← number_among kinds.Node ds label
  stamp_with c n

-- CLOCK@LABEL
unfoldable pub stamp_read : List Decl → List ℕ → Option Point
stamp_read ds bytes = point_read ds (before 64 bytes) (after 64 bytes)

-- a hyphen, or a stamp
unfoldable pub prev_read : List Decl → List ℕ → Option (Option Point)
prev_read ds bytes = cond (is_hyphen bytes) (Some None) (stamp_read ds bytes >>= λ p. Some (Some p))

-- the vector, with the clock of LABEL:CLOCK
unfoldable pub with_clock : List Decl → List ℕ → List ℕ → Option (List ℕ)
with_clock ds v bytes = point_read ds (after 58 bytes) (before 58 bytes) >>= λ p. Some (raised v p)

-- a hyphen, or clocks joined by commas
unfoldable pub vector_read : List Decl → List ℕ → Option (List ℕ)
vector_read ds bytes = cond (is_hyphen bytes) (Some zero_vector) (read_each (with_clock ds) zero_vector (parts 44 bytes))

-- ---- sets

unfoldable pub target_read : List ℕ → Option (List Span)
target_read bytes = value_of (set_read bytes (length bytes))

-- ---- pairs and rows

-- STAMP|STAMP
unfoldable pub pair_read : List Decl → List ℕ → Option (Point × Point)
pair_read ds bytes = do
  p ← stamp_read ds (before 124 bytes)
  q ← stamp_read ds (after 124 bytes)
  Some (p, q)

-- STAMP<PREV
unfoldable pub mark_read : List Decl → List ℕ → Option Mark
mark_read ds bytes = do
  stamp ← stamp_read ds (before 60 bytes)
  prev ← prev_read ds (after 60 bytes)
  Some (record { stamp = stamp; prev = prev })

-- what stands between a name and its newest stamp
abbrev pub sign_of : Bool → ℕ
sign_of gone = cond gone 33 61

-- a newest write is a delete where an exclamation mark stands behind its name
abbrev pub is_gone : List ℕ → Bool
is_gone written = list_any (λ x. x == 33) written

-- NAME=STAMP or NAME!STAMP, with its marks
unfoldable pub row_with : List Decl → List ℕ → Bool → List Mark → Option Row
row_with ds written gone marks = do
  name ← name_of (before (sign_of gone) written)
  newest ← stamp_read ds (after (sign_of gone) written)
  Some (record { name = name; newest = newest; gone = gone; marks = marks })

-- the same, with the marks in brackets
unfoldable pub row_read : List Decl → List ℕ → Option Row
row_read ds bytes = do
  marks ← items_of (mark_read ds) (parts 59 (before 41 (after 40 bytes)))
  row_with ds (before 40 bytes) (is_gone (before 40 bytes)) marks

abbrev pub pairs_read : List Decl → List ℕ → Option (List (Point × Point))
pairs_read ds bytes = listed_of (pair_read ds) bytes

abbrev pub rows_read : List Decl → List ℕ → Option (List Row)
rows_read ds bytes = listed_of (row_read ds) bytes
