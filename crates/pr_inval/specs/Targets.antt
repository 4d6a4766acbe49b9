-- The target of an imprecise invalidation.
use Rattle.std.specs.Prelude.{◌≡◌, ◌⊎◌, ◌≤◌, ◌<◌, List, false, length, IsTrue}
use Rattle.pr_names.specs.Span.{Span}
use Rattle.pr_sets.specs.Spans.{IsSetOf, has}

-- the names that are outside the subscription or dark
abbrev pub IsOutsideOrDark : List Span → List Span → List Span → Type 0
IsOutsideOrDark dark sub target = IsSetOf target (λ o. (has sub o ≡ false) ⊎ IsTrue (has dark o))

-- the names that are omitted or dark, where at most 16 intervals hold them; and else those that are outside the
-- subscription or dark
abbrev pub IsTargetFor : List Span → List Span → List Span → List Span → Type 0
IsTargetFor omitted dark sub target =
    (IsSetOf target (λ o. IsTrue (has dark o) ⊎ IsTrue (has omitted o)) × (length target ≤ 16))
    ⊎ (((fine : List Span) → IsSetOf fine (λ o. IsTrue (has dark o) ⊎ IsTrue (has omitted o)) → 16 < length fine)
    × IsOutsideOrDark dark sub target)
