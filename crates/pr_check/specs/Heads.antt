-- Which lines are head lines.
use Rattle.std.specs.Prelude.{ℕ, ◌≡◌, ◌+◌, List, [], ◌∷◌, ◌++◌, Option, Some, None, Ok, Bool, ◌||◌, ◌&&◌, cond, codes, length, nat_eq}
use Rattle.std.specs.List.{starts_with}
use Rattle.std.specs.Str.{bytes_eq}
use Rattle.pr_script.specs.declared.decl.Decl.{Decl}
use Rattle.pr_script.specs.Listed.{Declarations}
use Rattle.pr_script.specs.declared.script.Script.{Script}
use Rattle.pr_script.specs.Printing.{decl_text}
use Rattle.pr_script.specs.Reading.{Means}
use Rattle.pr_text.specs.Heads.{heads_text}

-- the line begins as a head line does
abbrev pub begins_head : List ℕ → Bool
begins_head line = starts_with nat_eq line (codes "node ") || (starts_with nat_eq line (codes "client ") || starts_with nat_eq line (codes "stream "))

-- their head lines are a script that declares just these
abbrev pub AreAccepted : List Decl → Type 0
AreAccepted ds = (s : Script) × Means (heads_text ds) (Ok s) × (s.decls.list ≡ ds)

-- the line, without its end, is the head line of this declaration behind these, with which it is accepted
pub record IsHead (ds : List Decl) (line : List ℕ) (d : Decl) : Type 0 where
  pub accepted : AreAccepted (ds ++ d ∷ [])
  pub text : line ≡ decl_text ds d

-- the declarations with the one whose head line it is; or it is none
abbrev pub Declares : List Decl → List ℕ → Option Declarations → Type 0
Declares ds line (Some more) = (d : Decl) × (more.list ≡ ds ++ d ∷ []) × IsHead ds line d
Declares ds line None = (d : Decl) → ¬ IsHead ds line d

-- one more than there were, where the text is their head lines
abbrev pub more_if : Declarations → ℕ → List ℕ → Option Declarations
more_if more count text = cond (nat_eq (length more.list) (count + 1) && bytes_eq (heads_text more.list) text) (Some more) None
