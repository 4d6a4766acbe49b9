-- The sets that a line names.
use Rattle.std.specs.Prelude.{ℕ, List, [], ◌∷◌, ◌++◌, Option, Some, None, Result, Ok, Err, Bool, true, ◌&&◌, not}
use Rattle.std.specs.List.{list_any}
use Rattle.pr_names.specs.Span.{Span}
use Rattle.pr_names.specs.Bound.{is_under}
use Rattle.pr_sets.specs.Text.{set_read}
use Rattle.pr_sets.specs.declared.fault.SetFault.{SetFault}
use Rattle.pr_script.specs.Fields.{◌>>=◌, wanted}

-- the empty set is none that a line may name
abbrev pub some_set : Result (List Span) SetFault → Option (List Span)
some_set (Ok []) = None
some_set (Ok (s ∷ ss)) = Some (s ∷ ss)
some_set (Err e) = None

-- a set of at most 16 items
abbrev pub set_of : List ℕ → Option (List Span)
set_of f = some_set (set_read f 16)

-- the sets that the fields are
unfoldable pub sets_of : List (List ℕ) → Result (List (List Span)) ℕ
sets_of [] = Ok []
sets_of (f ∷ fs) = do
  s ← wanted 6 (set_of f)
  ss ← sets_of fs
  Ok (s ∷ ss)

abbrev pub after_sets : List (List Span) → Result (List (List Span)) ℕ → Result (List (List Span)) ℕ
after_sets front read = read >>= λ ss. Ok (front ++ ss)

-- ---- sets that share a name

-- each interval begins before the other ends
abbrev pub overlap : Span → Span → Bool
overlap s t = is_under s.lo t.hi && is_under t.lo s.hi

abbrev pub share : List Span → List Span → Bool
share a b = list_any (λ s. list_any (λ t. overlap s t) b) a

-- no two of the sets share a name
unfoldable pub are_apart : List (List Span) → Bool
are_apart [] = true
are_apart (a ∷ others) = not (list_any (λ b. share a b) others) && are_apart others
