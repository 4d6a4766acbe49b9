-- Labels, and what they stand for.
use Rattle.std.specs.Prelude.{◌≡◌, ◌<◌, ◌≤◌, ℕ, List, [], ◌∷◌, Option, Bool, true, false, ◌&&◌, ◌||◌, nat_le, length, is_some, map}
use Rattle.std.specs.List.{AllByRecursion, list_all, position, filter}
use Rattle.std.specs.Str.{bytes_eq}
use Rattle.std.specs.Char.{is_ascii_alphanumeric}
use Rattle.pr_script.specs.declared.decl.Decl.{Decl}
use Rattle.pr_script.specs.declared.decl.Decl.TheVariants as decls
use Rattle.pr_script.specs.declared.kind.Kind.{Kind}
use Rattle.pr_script.specs.declared.kind.Kind.TheVariants as kinds

-- 1 to 16 letters and digits
abbrev pub is_label : List ℕ → Bool
is_label f = nat_le 1 (length f) && nat_le (length f) 16 && list_all is_ascii_alphanumeric f

abbrev pub label_of : Decl → List ℕ
label_of (decls.Node label sets) = label
label_of (decls.Client label node) = label
label_of (decls.Stream label source dest sub bodies) = label

abbrev pub kind_of : Decl → Kind
kind_of (decls.Node label sets) = kinds.Node
kind_of (decls.Client label node) = kinds.Client
kind_of (decls.Stream label source dest sub bodies) = kinds.Stream

abbrev pub is_kind : Kind → Decl → Bool
is_kind kinds.Node (decls.Node label sets) = true
is_kind kinds.Client (decls.Client label node) = true
is_kind kinds.Stream (decls.Stream label source dest sub bodies) = true
is_kind k d = false

-- the labels of a kind, in the order of declaration: a label's number is its place
unfoldable pub labels_of : Kind → List Decl → List (List ℕ)
labels_of k ds = map label_of (filter (is_kind k) ds)

abbrev pub number_among : Kind → List Decl → List ℕ → Option ℕ
number_among k ds label = position (bytes_eq label) (labels_of k ds)

abbrev pub count_of : Kind → List Decl → ℕ
count_of k ds = length (labels_of k ds)

-- the label was declared, as whatever it be
abbrev pub is_declared : List Decl → List ℕ → Bool
is_declared ds label = is_some (number_among kinds.Node ds label) || is_some (number_among kinds.Client ds label) || is_some (number_among kinds.Stream ds label)

-- a declaration that can be added
pub record IsNew (ds : List Decl) (d : Decl) : Type 0 where
  pub label : is_label (label_of d) ≡ true
  pub undeclared : is_declared ds (label_of d) ≡ false
  pub few : count_of (kind_of d) ds < 256

-- how many of a kind there may be
abbrev pub most_of : Kind → ℕ
most_of kinds.Node = 32
most_of kinds.Client = 256
most_of kinds.Stream = 64

-- none stands twice
abbrev pub AreDistinct : List (List ℕ) → Type 0
AreDistinct [] = Unit {0}
AreDistinct (l ∷ ls) = AllByRecursion (λ m. ¬ (l ≡ m)) ls × AreDistinct ls

-- the labels of an accepted script: each is one, none stands twice among those of its kind, and there are few of a kind
pub record AreLabels (ds : List Decl) : Type 0 where
  pub few : (k : Kind) → count_of k ds ≤ most_of k
  pub each : (k : Kind) → AllByRecursion (λ l. is_label l ≡ true) (labels_of k ds)
  pub distinct : (k : Kind) → AreDistinct (labels_of k ds)
