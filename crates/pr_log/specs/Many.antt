-- Sets of which the first intervals are enough, where there are many.
use Rattle.std.specs.Prelude.{◌⊎◌, ◌<◌, ℕ, List, IsTrue, length}
use Rattle.pr_names.specs.Name.{IsName}
use Rattle.pr_names.specs.Span.{Span}
use Rattle.pr_sets.specs.Spans.{has, IsSet, IsSetOf}

-- each set of the names that meet a condition has more than so many intervals, and so has this one, of some of them
pub record HasMany (most : ℕ) (set : List Span) (test : List ℕ → Type 0) : Type 0 where
  pub one_list : IsSet set
  pub no_others : (o : List ℕ) → IsName o → IsTrue (has set o) → test o
  pub many : most < length set
  pub all_many : (fine : List Span) → IsSetOf fine test → most < length fine

-- the set's names are those that meet the condition, or there are many of them
abbrev pub IsSetWithin : ℕ → List Span → (List ℕ → Type 0) → Type 0
IsSetWithin most set test = IsSetOf set test ⊎ HasMany most set test
