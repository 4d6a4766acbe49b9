-- The bodies that are held, by name and stamp.
use Rattle.std.specs.Prelude.{◌≡◌, ℕ, Bool, List, [], Option, None, Some, cond, ◌&&◌}
use Rattle.std.specs.Cmp.Lexicographic.{slice_cmp}
use Rattle.std.specs.Map.{lookup}
use Rattle.std.specs.Option.{unwrap_or}
use Rattle.std.specs.Ordering.{is_eq, nat_cmp}
use Rattle.std.specs.Str.{bytes_eq}
use Rattle.pr_stamps.specs.Point.{Point, is_before, is_same, is_this}

-- by name its bodies with their stamps, and whether a call was refused memory
pub record Held : Type 0 where
  pub rows : List (List ℕ × List (Point × List ℕ))
  pub spent : Bool

-- the bodies of a name
abbrev pub row_of : List (List ℕ × List (Point × List ℕ)) → List ℕ → List (Point × List ℕ)
row_of rows o = unwrap_or (lookup (λ k. is_eq (slice_cmp nat_cmp o k)) rows) []

-- of a name's bodies the one of this stamp
abbrev pub body_of : List (Point × List ℕ) → Point → Option (List ℕ)
body_of row t = lookup (is_same t) row

-- the body of this name and stamp
abbrev pub held : Held → List ℕ → Point → Option (List ℕ)
held h o t = body_of (row_of h.rows o) t

-- a body is put, in place of one with its name and stamp
abbrev pub IsPut : Held → Held → List ℕ → Point → List ℕ → Type 0
IsPut a b name stamp bytes = (o : List ℕ) (t : Point) → held b o t ≡ cond (is_this name stamp o t) (Some bytes) (held a o t)

-- what is held of a name at t, by what was held there: a body is put, and the smaller stamps are gone
abbrev pub renewed : Point → List ℕ → Point → Option (List ℕ) → Option (List ℕ)
renewed stamp bytes t was = cond (is_before t stamp) None (cond (is_same stamp t) (Some bytes) was)

-- a body is put, and the name's bodies with smaller stamps are gone
abbrev pub IsRenewed : Held → Held → List ℕ → Point → List ℕ → Type 0
IsRenewed a b name stamp bytes = (o : List ℕ) (t : Point) → held b o t ≡ cond (bytes_eq name o && is_before t stamp) None (cond (is_this name stamp o t) (Some bytes) (held a o t))

-- the name's bodies with smaller stamps are gone
abbrev pub IsSettled : Held → Held → List ℕ → Point → Type 0
IsSettled a b name stamp = (o : List ℕ) (t : Point) → held b o t ≡ cond (bytes_eq name o && is_before t stamp) None (held a o t)

-- the name's bodies are gone
abbrev pub IsDroppedAll : Held → Held → List ℕ → Type 0
IsDroppedAll a b name = (o : List ℕ) (t : Point) → held b o t ≡ cond (bytes_eq name o) None (held a o t)
