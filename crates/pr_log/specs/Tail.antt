-- The dark set that begins last, beside the others.
use Rattle.std.specs.Prelude.{◌≡◌, ◌≤◌, ℕ, List, ◌∷◌, Option, None, Some}
use Rattle.pr_names.specs.Span.{Span}
use Rattle.pr_log.specs.Sets.{begins_at}
use Rattle.pr_log.specs.declared.tail.Tail.{Tail}

-- all sets by the clocks at which they begin
abbrev pub with_tail : Option Tail → List (ℕ × List Span) → List (ℕ × List Span)
with_tail None row = row
with_tail (Some t) row = (t.start, t.set) ∷ row

-- the others begin before it
abbrev pub AreBefore : Option Tail → List (ℕ × List Span) → Type 0
AreBefore None row = Unit {0}
AreBefore (Some t) row = (c : ℕ) → t.start ≤ c → begins_at row c ≡ None
