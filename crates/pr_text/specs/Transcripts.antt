-- The transcript of a history, and what it is a history of.
use Rattle.std.specs.Prelude.{◌≡◌, ◌++◌, ℕ, List, [], ◌∷◌, false, get_or, filter}
use Rattle.pr_names.specs.Span.{Span}
use Rattle.pr_script.specs.declared.decl.Decl.{Decl}
use Rattle.pr_script.specs.declared.decl.Decl.TheVariants as decls
use Rattle.pr_story.specs.History.{NodeEntry, Plan, Stream}
use Rattle.pr_story.specs.Counts.{IsHistory}
use Rattle.pr_story.specs.Lines.{without_callers}
use Rattle.pr_script.specs.declared.kind.Kind.TheVariants as kinds
use Rattle.pr_script.specs.Labels.{AreLabels, is_kind as is_of}
use Rattle.pr_text.specs.Lines.{line_text}
use Rattle.pr_text.specs.Numbers.{counts_of}

-- ---- what is declared

abbrev pub sets_of : Decl → List (List Span)
sets_of (decls.Node label sets) = sets
sets_of d = []

abbrev pub home_of : Decl → ℕ
home_of (decls.Client label node) = node
home_of d = 0

abbrev pub stream_of : Decl → Stream
stream_of (decls.Stream label source dest sub bodies) = record { source = source; destination = dest; names = sub; bodies = bodies }
stream_of d = record { source = 0; destination = 0; names = []; bodies = false }

abbrev pub no_decl : Decl
no_decl = decls.Client [] 0

-- the declarations as a plan: each node's sets, each client's node and each stream, by number
abbrev pub plan_of : List Decl → Plan
plan_of ds = record {
  sets = λ n. sets_of (get_or (filter (is_of kinds.Node) ds) n no_decl);
  home = λ n. home_of (get_or (filter (is_of kinds.Client) ds) n no_decl);
  stream = λ n. stream_of (get_or (filter (is_of kinds.Stream) ds) n no_decl);
}

-- ---- the lines

-- the lines of a history, the oldest first
abbrev pub lines_text : List Decl → List NodeEntry → List ℕ
lines_text ds [] = []
lines_text ds (e ∷ h) = lines_text ds h ++ line_text ds e.node e.entry.event

-- two histories of one script's declarations with the same lines are the same but for the callers' numbers
abbrev pub LinesTell : Type 0
LinesTell =
    (ds : List Decl) (h g : List NodeEntry) → AreLabels ds → IsHistory (plan_of ds) (counts_of ds) h → IsHistory (plan_of ds) (counts_of ds) g
    → lines_text ds h ≡ lines_text ds g → without_callers h ≡ without_callers g
