-- The declarations of a script with their labels.
use Rattle.std.specs.Prelude.{◌≡◌, ℕ, List}
use Rattle.pr_script.specs.declared.decl.Decl.{Decl}
use Rattle.pr_script.specs.declared.kind.Kind.TheVariants as kinds
use Rattle.pr_script.specs.Labels.{labels_of}

-- the declarations, in the script's order
pub record Declarations : Type 0 where
  pub list : List Decl

-- these are the labels of each kind, each at its number
pub record AreByNumber (ds : List Decl) (nodes clients streams : List (List ℕ)) : Type 0 where
  pub of_nodes : nodes ≡ labels_of kinds.Node ds
  pub of_clients : clients ≡ labels_of kinds.Client ds
  pub of_streams : streams ≡ labels_of kinds.Stream ds
