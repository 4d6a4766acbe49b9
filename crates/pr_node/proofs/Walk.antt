-- The walk over known names for a body to send.
use Rattle.std.proofs.Common.{◌≡◌, ℕ, inl, inr, List, find, refl, sym, ◌∙◌, subst}
use Rattle.std.specs.Prelude.{true, false, Option, None, Some, Contains}
use Rattle.std.specs.Map.{lookup}
use Rattle.std.specs.Str.{bytes_eq}
use Rattle.pr_names.specs.Order.{name_lt}
use Rattle.pr_inval.specs.declared.kind.Kind.{Kind}
use Rattle.pr_inval.specs.declared.kind.Kind.TheVariants.{Precise, Imprecise, Checkpoint, Body}
use Rattle.pr_inval.specs.Standing.{Standing}
use Rattle.pr_stamps.specs.declared.newest.Newest.{Newest}
use Rattle.pr_marks.specs.Table.{Table, is_after, names_of, newest_of}
use Rattle.pr_snap.proofs.Names.{Rise}
use Rattle.pr_story.specs.declared.entry.Entry.{Entry}
use Rattle.pr_story.specs.Search.{IsNewestOf}
use Rattle.pr_story.specs.Sending.{HasBody, IsBodyOf}
use Rattle.pr_story.specs.Turns.{IsBodyToSend}
use Rattle.pr_node.specs.Sending.{IsNextBodyOf}
use Rattle.pr_node.specs.Ties.{IsMarksOf}
use Rattle.pr_snap.proofs.Choice.{by_test}
use Rattle.pr_snap.proofs.Found.{found_first, none_found}
use Rattle.pr_snap.proofs.KnownNames.{is_next, is_next_of}
use Rattle.pr_snap.proofs.Known.{newest_held}
use Rattle.pr_snap.proofs.NameOrder.{not_itself, one_way}

-- a name with a body to send is one of the table
pub body_known : (j : List Entry) (m : Table) (session : Standing) (o : List ℕ) → IsMarksOf j m → HasBody j session o → Contains (names_of m) o
body_known j m session o f b = by (newest_of m o) refl (f.newest o)
  where
    by : (newest : Option Newest) → newest_of m o ≡ newest → IsNewestOf j o newest → Contains (names_of m) o
    by None is none = absurd (none b.0 b.2.1.0)
    by (Some n) is some = newest_held m o (lookup (bytes_eq o) m.rows) n refl is

-- ---- the walk

-- no name up to the last one has a body to send
abbrev pub IsPassed : List Entry → Standing → Option (List ℕ) → Type 0
IsPassed j session last = (o : List ℕ) → is_after last o ≡ false → ¬ HasBody j session o

pub passed_more : (j : List Entry) (m : Table) (session : Standing) (last : Option (List ℕ)) (name : List ℕ)
    → IsMarksOf j m → Rise (names_of m) → Some name ≡ find (is_next last session.names) (names_of m) → IsBodyOf j session name None → IsPassed j session last → IsPassed j session (Some name)
passed_more j m session last name f rise is none old o low b = by_test (is_after last o)
    (λ t. elim (found_first (is_next last session.names) (names_of m) name o rise (sym is) (body_known j m session o f b) (is_next_of last session.names o t b.2.0)) [
      | inl same ↦ let w : HasBody j session name = subst (λ (x : List ℕ). HasBody j session x) (sym same) b in none w.0 w.1 w.2
      | inr lt ↦ let bad : name_lt name o ≡ true = lt in cc
    ])
    (λ t. old o t b)

pub passed_all : (j : List Entry) (m : Table) (session : Standing) (last : Option (List ℕ))
    → IsMarksOf j m → None ≡ find (is_next last session.names) (names_of m) → IsPassed j session last → IsNextBodyOf j session None
passed_all j m session last f is old o b = by_test (is_after last o)
    (λ t. let bad : true ≡ false = sym (is_next_of last session.names o t b.2.0) ∙ none_found (is_next last session.names) (names_of m) o (sym is) (body_known j m session o f b) in cc)
    (λ low. old o low b)

pub passed_to : (j : List Entry) (m : Table) (session : Standing) (last : Option (List ℕ)) (name : List ℕ) (kind : Kind)
    → IsMarksOf j m → Rise (names_of m) → Some name ≡ find (is_next last session.names) (names_of m) → IsBodyOf j session name (Some kind) → IsPassed j session last → IsNextBodyOf j session (Some kind)
passed_to j m session last name (Body o t bytes) f rise is b old = (
  subst (λ (x : List ℕ). IsBodyToSend j session x t bytes) (sym b.0) b.1,
  λ other stamp body w. subst (λ (x : List ℕ). name_lt other x ≡ false) (sym b.0) (by_test (is_after last other)
      (λ after. elim (found_first (is_next last session.names) (names_of m) name other rise (sym is) (body_known j m session other f (stamp, body, w)) (is_next_of last session.names other after w.0)) [
        | inl same ↦ subst (λ (x : List ℕ). name_lt x name ≡ false) same (not_itself name)
        | inr lt ↦ one_way name other lt
      ])
      (λ low. absurd (old other low (stamp, body, w)))),
)
passed_to j m session last name (Precise from to write) f rise is b old = absurd b
passed_to j m session last name (Imprecise from to target) f rise is b old = absurd b
passed_to j m session last name (Checkpoint to target floor rows) f rise is b old = absurd b
