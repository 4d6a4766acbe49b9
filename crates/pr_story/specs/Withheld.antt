-- Sets that grow by a name.
use Rattle.std.specs.Prelude.{ℕ, List, ◌≡◌, ◌⊎◌, ◌↔◌, IsTrue, Option, None, Some}
use Rattle.pr_names.specs.Name.{IsName}
use Rattle.pr_names.specs.Span.{Span}
use Rattle.pr_sets.specs.Spans.{has, IsSet}

-- the set with this name too, if there is one
abbrev pub HasMore : List Span → Option (List ℕ) → List Span → Type 0
HasMore set None more = more ≡ set
HasMore set (Some n) more = IsSet more × ((o : List ℕ) → IsName o → IsTrue (has more o) ↔ (IsTrue (has set o) ⊎ (o ≡ n)))
