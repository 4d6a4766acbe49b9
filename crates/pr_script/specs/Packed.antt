-- Labels as numbers, by which they are looked up.
use Rattle.std.specs.Prelude.{◌≡◌, ◌≤◌, ℕ, ◌+◌, ◌*◌, List, [], ◌∷◌, true, map}
use Rattle.std.specs.List.{AllByRecursion}
use Rattle.pr_script.specs.declared.decl.Decl.{Decl}
use Rattle.pr_script.specs.declared.kind.Kind.TheVariants as kinds
use Rattle.pr_script.specs.Labels.{is_label, label_of, labels_of, count_of}

-- a label's bytes as one number
unfoldable pub packed : List ℕ → ℕ
packed [] = 0
packed (b ∷ bs) = b + 256 * packed bs

-- the keys are the packed labels of each kind, in their order
pub record IsIndex (ds : List Decl) (nodes clients streams : List ℕ) : Type 0 where
  pub each : AllByRecursion (λ d. is_label (label_of d) ≡ true) ds
  pub of_nodes : nodes ≡ map packed (labels_of kinds.Node ds)
  pub of_clients : clients ≡ map packed (labels_of kinds.Client ds)
  pub of_streams : streams ≡ map packed (labels_of kinds.Stream ds)
  pub few_nodes : count_of kinds.Node ds ≤ 256
  pub few_clients : count_of kinds.Client ds ≤ 256
  pub few_streams : count_of kinds.Stream ds ≤ 256
