-- How much is declared.
use Rattle.std.specs.Prelude.{ℕ, ◌<◌, List, length}
use Rattle.pr_script.specs.declared.decl.Decl.{Decl}
use Rattle.pr_script.specs.declared.kind.Kind.{Kind as What}
use Rattle.pr_script.specs.declared.kind.Kind.TheVariants as kinds
use Rattle.pr_script.specs.Labels.{labels_of}
use Rattle.pr_story.specs.Counts.{Counts}

-- something of this kind has the number
abbrev pub Has : List Decl → What → ℕ → Type 0
Has ds k n = n < length (labels_of k ds)

-- how many nodes are declared
abbrev pub nodes_of : List Decl → ℕ
nodes_of ds = length (labels_of kinds.Node ds)

-- how many nodes, clients and streams are
abbrev pub counts_of : List Decl → Counts
counts_of ds = record {
  nodes = nodes_of ds;
  clients = length (labels_of kinds.Client ds);
  streams = length (labels_of kinds.Stream ds);
}
