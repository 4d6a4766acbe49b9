-- Lists of intervals as sets of names.
use Rattle.std.specs.Prelude.{◌≡◌, ℕ, Bool, IsTrue, true, false, List, [], ◌∷◌, ◌||◌, ◌&&◌, not}
use Rattle.pr_names.specs.Name.{IsName}
use Rattle.pr_names.specs.Bound.{bound_lt}
use Rattle.pr_names.specs.Span.{Span, IsSpan, holds}
use Rattle.pr_names.specs.declared.bound.Bound.{Bound}
use Rattle.pr_names.specs.declared.bound.Bound.TheVariants.{At}

-- the name is in one of the intervals
abbrev pub has : List Span → List ℕ → Bool
has [] o = false
has (s ∷ ss) o = holds s o || has ss o

-- the first interval begins behind this end, so that a name lies between
abbrev pub IsBehind : Bound → List Span → Type 0
IsBehind end [] = Unit {0}
IsBehind end (s ∷ ss) = IsTrue (bound_lt end (At s.lo))

-- the one list of a set: each interval ends before the next begins
abbrev pub IsSet : List Span → Type 0
IsSet [] = Unit {0}
IsSet (s ∷ ss) = IsSpan s × IsBehind s.hi ss × IsSet ss

-- the interval can stand behind the last of these, with a name between
unfoldable pub is_behind : List Span → Span → Bool
is_behind [] s = true
is_behind (t ∷ []) s = bound_lt t.hi (At s.lo)
is_behind (t ∷ (u ∷ ts)) s = is_behind (u ∷ ts) s

-- some name passes both tests
abbrev pub Meet : (List ℕ → Bool) → (List ℕ → Bool) → Type 0
Meet a b = (o : List ℕ) × IsName o × IsTrue (a o) × IsTrue (b o)

-- each name that passes the one passes the other
abbrev pub Within : (List ℕ → Bool) → (List ℕ → Bool) → Type 0
Within a b = (o : List ℕ) → IsName o → IsTrue (a o) → IsTrue (b o)

-- ---- what operations give: a set is its test

-- the names that are in one of the two
pub record IsUnion (a b union : List Span) : Type 0 where
  pub set : IsSet union
  pub names : (o : List ℕ) → IsName o → has union o ≡ (has a o || has b o)

-- the names that are in both
pub record IsIntersection (a b both : List Span) : Type 0 where
  pub set : IsSet both
  pub names : (o : List ℕ) → IsName o → has both o ≡ (has a o && has b o)

-- the names that are not in it
pub record IsComplement (a rest : List Span) : Type 0 where
  pub set : IsSet rest
  pub names : (o : List ℕ) → IsName o → has rest o ≡ not (has a o)

-- ---- sets of the names that meet a condition

-- the set's names are those that meet it
pub record IsSetOf (set : List Span) (test : List ℕ → Type 0) : Type 0 where
  pub one_list : IsSet set
  pub has_them : (o : List ℕ) → IsName o → test o → IsTrue (has set o)
  pub no_others : (o : List ℕ) → IsName o → IsTrue (has set o) → test o

-- the set lacks just the names that meet it
pub record IsAllBut (set : List Span) (test : List ℕ → Type 0) : Type 0 where
  pub one_list : IsSet set
  pub lacks_them : (o : List ℕ) → IsName o → test o → has set o ≡ false
  pub no_others : (o : List ℕ) → IsName o → has set o ≡ false → test o
