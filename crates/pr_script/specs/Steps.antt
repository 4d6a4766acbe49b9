-- A script's commands as its steps: a command alone, or a phase with what stands between its `phase` and its `end`.
use Rattle.std.specs.Prelude.{◌≡◌, ℕ, List, [], ◌∷◌, ◌++◌, Option, Some, None, Bool, true, false, map, nat_eq, if◌then◌else◌}
use Rattle.std.specs.List.{fold, list_any, flat_map}
use Rattle.pr_script.specs.declared.command.Command.{Command}
use Rattle.pr_script.specs.declared.command.Command.TheVariants as commands
use Rattle.pr_script.specs.declared.owner.Owner.{Owner}
use Rattle.pr_script.specs.declared.owner.Owner.TheVariants as owner
use Rattle.pr_script.specs.Known.{turns_after}

-- each command with the number of its line
abbrev pub Numbered : Type 0
Numbered = ℕ × Command

pub data Step : Type 0 where
  Alone : Numbered → Step
  Phase : List Numbered → Step

-- ---- the steps of a script

abbrev pub is_phase : Command → Bool
is_phase commands.Phase = true
is_phase c = false

abbrev pub is_end : Command → Bool
is_end commands.End = true
is_end c = false

-- the steps of the commands, where this much of a phase stands before them, or none is open
unfoldable pub steps_from : Option (List Numbered) → List Numbered → List Step
steps_from None [] = []
steps_from (Some inside) [] = Phase inside ∷ []
steps_from None (c ∷ cs) = if is_phase c.1 then steps_from (Some []) cs else Alone c ∷ steps_from None cs
steps_from (Some inside) (c ∷ cs) = if is_end c.1 then Phase inside ∷ steps_from None cs else steps_from (Some (inside ++ c ∷ [])) cs

abbrev pub steps_of : List Numbered → List Step
steps_of cs = steps_from None cs

abbrev pub unnumbered : List Numbered → List Command
unnumbered cs = map (λ (c : Numbered). c.1) cs

-- a step's commands, as they stand in the script
abbrev pub step_commands : Step → List Command
step_commands (Alone c) = c.1 ∷ []
step_commands (Phase inside) = commands.Phase ∷ (unnumbered inside ++ commands.End ∷ [])

-- the steps are the commands: each phase has its end
abbrev pub AreWhole : List Numbered → Type 0
AreWhole cs = flat_map step_commands (steps_of cs) ≡ unnumbered cs

-- ---- the jobs of a phase

-- all lines of a client are one job, and each flow of a stream is one
abbrev pub is_same_owner : Owner → Owner → Bool
is_same_owner (owner.Client a) (owner.Client b) = nat_eq a b
is_same_owner (owner.Stream a) (owner.Stream b) = nat_eq a b
is_same_owner a b = false

-- whose the line is, where it may stand in a phase
abbrev pub owner_of : Command → Option Owner
owner_of (commands.Write client name body) = Some (owner.Client client)
owner_of (commands.Delete client name) = Some (owner.Client client)
owner_of (commands.Read client name) = Some (owner.Client client)
owner_of (commands.Flow stream turns) = Some (owner.Stream stream)
owner_of c = None

abbrev pub has_owner : List Owner → Owner → Bool
has_owner owners o = list_any (λ p. is_same_owner p o) owners

abbrev pub with_owner : List Owner → Option Owner → List Owner
with_owner owners None = owners
with_owner owners (Some o) = if has_owner owners o then owners else owners ++ o ∷ []

-- the jobs of these lines, in the order of their first lines
abbrev pub owners_of : List Numbered → List Owner
owners_of inside = fold (λ owners (c : Numbered). with_owner owners (owner_of c.1)) [] inside

-- ---- flows

abbrev pub flow_of : Command → List ℕ
flow_of (commands.Flow stream turns) = stream ∷ []
flow_of c = []

-- the streams that flow, line by line
abbrev pub flows_in : List Numbered → List ℕ
flows_in cs = flat_map (λ (c : Numbered). flow_of c.1) cs

-- the turns of all flows
abbrev pub turns_in : List Numbered → ℕ
turns_in cs = fold (λ turns (c : Numbered). turns_after c.1 turns) 0 cs
