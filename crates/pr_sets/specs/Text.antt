-- How sets are written.
use Rattle.std.specs.Prelude.{◌≡◌, ℕ, ◌+◌, nat_lt, ◌==◌, cond, List, [], ◌∷◌, ◌++◌, length, Result, Ok, Err}
use Rattle.std.specs.List.{slice_split}
use Rattle.std.specs.Str.{bytes_eq}
use Rattle.pr_names.specs.Name.{IsName}
use Rattle.pr_names.specs.Bound.{bound_lt}
use Rattle.pr_names.specs.Span.{Span}
use Rattle.pr_names.specs.Text.{interval_read, interval_text}
use Rattle.pr_names.specs.declared.bound.Bound.TheVariants.{At}
use Rattle.pr_names.specs.declared.fault.IntervalFault.{IntervalFault}
use Rattle.pr_sets.specs.Ends.{joined}
use Rattle.pr_sets.specs.Spans.{has, IsSet}
use Rattle.pr_sets.specs.declared.fault.SetFault.{SetFault}
use Rattle.pr_sets.specs.declared.fault.SetFault.TheVariants.{TooMany, Item}

-- ---- the one list of intervals that are given in any order

-- the one list of the names in these intervals
pub record IsListOf (parts list : List Span) : Type 0 where
  pub set : IsSet list
  pub names : (o : List ℕ) → IsName o → has list o ≡ has parts o

-- a set with the names of one interval more: it is joined with those that it overlaps or touches
unfoldable pub with_part : List Span → Span → List Span
with_part [] s = s ∷ []
with_part (t ∷ ts) s =
    cond (bound_lt s.hi (At t.lo)) (s ∷ t ∷ ts)
    (cond (bound_lt t.hi (At s.lo)) (t ∷ with_part ts s) (with_part ts (joined s t)))

unfoldable pub list_of : List Span → List Span
list_of [] = []
list_of (s ∷ ss) = with_part (list_of ss) s

-- ---- reading

-- the items between commas
abbrev pub items : List ℕ → List (List ℕ)
items bs = slice_split (λ b. b == 44) bs

abbrev pub with_item : ℕ → Result Span IntervalFault → (Span → Result (List Span) SetFault) → Result (List Span) SetFault
with_item k (Ok s) f = f s
with_item k (Err e) f = Err (Item k e)

-- the items' intervals behind these, in the order written, or the first fault
unfoldable pub items_read : List (List ℕ) → ℕ → List Span → Result (List Span) SetFault
items_read [] k parts = Ok parts
items_read (x ∷ xs) k parts = with_item k (interval_read x) (λ s. items_read xs (k + 1) (parts ++ s ∷ []))

abbrev pub listed : Result (List Span) SetFault → Result (List Span) SetFault
listed (Ok parts) = Ok (list_of parts)
listed (Err e) = Err e

-- ~ is the empty set, and else there are at most so many items
unfoldable pub set_read : List ℕ → ℕ → Result (List Span) SetFault
set_read bs most =
    cond (bytes_eq bs (126 ∷ [])) (Ok [])
    (cond (nat_lt most (length (items bs))) (Err TooMany) (listed (items_read (items bs) 0 [])))

-- ---- printing

-- more intervals, each behind a comma
unfoldable pub more_text : List Span → List ℕ
more_text [] = []
more_text (s ∷ ss) = 44 ∷ (interval_text s ++ more_text ss)

unfoldable pub set_text : List Span → List ℕ
set_text [] = 126 ∷ []
set_text (s ∷ ss) = interval_text s ++ more_text ss

-- a beginning of the text was added, the whole of it or less
pub record AddsFront (old new text : List ℕ) : Type 0 where
  pub front : List ℕ
  pub left : List ℕ
  pub is_front : text ≡ front ++ left
  pub adds : new ≡ old ++ front
