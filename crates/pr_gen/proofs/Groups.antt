-- Sets of names with two beginnings.
use Rattle.std.proofs.Common.{◌≡◌, ℕ, Bool, true, false, ◌||◌, List, [], ◌∷◌, ◌++◌, refl, sym, ap, ◌∙◌}
use Rattle.std.specs.List.{AllByRecursion}
use Rattle.std.proofs.lemmas.List.Elements.{All-from_recursion}
use Rattle.pr_names.specs.Span.{Span, IsSpan, holds}
use Rattle.pr_sets.specs.Spans.{has, IsSet, IsUnion}
use Rattle.pr_sets.specs.Text.{list_of}
use Rattle.pr_sets.proofs.Adding.{list_is}
use Rattle.pr_sets.proofs.Reading.{spans_of}
use Rattle.pr_sets.proofs.Same.{same_list}

has_either : (a b : List Span) (o : List ℕ) → has (a ++ b) o ≡ (has a o || has b o)
has_either [] b o = refl
has_either (s ∷ a) b o = ap (λ (t : Bool). holds s o || t) (has_either a b o) ∙ sym (either (holds s o) (has a o) (has b o))
  where
    either : (x y z : Bool) → ((x || y) || z) ≡ (x || (y || z))
    either true y z = refl
    either false y z = refl

all_of : (a b : List Span) → IsSet a → IsSet b → AllByRecursion IsSpan (a ++ b)
all_of [] [] sa sb = tt
all_of [] (s ∷ b) sa sb = (sb.0, all_of [] b tt sb.2)
all_of (s ∷ a) b sa sb = (sa.0, all_of a b sa.2 sb)

-- a union is the one list of the intervals of both
pub union_is_list : (a b union : List Span) → IsSet a → IsSet b → IsUnion a b union → union ≡ list_of (a ++ b)
union_is_list a b union sa sb u =
    let parts = All-from_recursion IsSpan (a ++ b) (all_of a b sa sb) in
    let l = list_is (a ++ b) (spans_of (a ++ b) parts) in
    same_list union (list_of (a ++ b)) u.set l.set (λ o n. u.names o n ∙ (sym (has_either a b o) ∙ sym (l.names o n)))
