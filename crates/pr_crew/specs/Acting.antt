-- What a flow's calls do at a node's cell.
use Rattle.std.specs.Prelude.{ℕ, List, [], ◌∷◌, ◌≡◌, ◌⊎◌, Option, Some, None, false}
use Rattle.pr_cell.specs.Passes.{since}
use Rattle.pr_flow.specs.Calls.{Call, Turning, Accepting, Ending}
use Rattle.pr_inval.specs.declared.node_fault.NodeFault.{NodeFault}
use Rattle.pr_inval.specs.declared.node_fault.NodeFault.TheVariants.{NoMemory}
use Rattle.pr_inval.specs.Standing.{Standing}
use Rattle.pr_node.specs.Calls.{IsTimeWorn}
use Rattle.pr_story.specs.declared.entry.Entry.{Entry}
use Rattle.pr_story.specs.History.{NodeEntry, Plan}
use Rattle.pr_crew.specs.declared.story.Story.{Story}
use Rattle.pr_crew.specs.declared.story.Story.TheVariants.{Opened, Made}
use Rattle.pr_crew.specs.Jobs.{own}
use Rattle.pr_crew.specs.Making.{HasFailed, HasMade, IsCellOf, NodeCell, NodePass}

-- the entries that were told of
abbrev pub told : List Story → List Entry
told [] = []
told (Opened number sets journal ∷ xs) = told xs
told (Made e ∷ xs) = e ∷ told xs

-- what was made by a pass, if there is one
abbrev pub made_by : Option NodePass → List Entry
made_by None = []
made_by (Some p) = own p.number (told (since p.seat))

-- the cell was opened with some node as a phase begins
abbrev pub IsNodeCell : NodeCell → Type 0
IsNodeCell c = (plan : Plan) × (h : List NodeEntry) × (n : ℕ) × IsCellOf plan h n c

-- a stream and clients, where any will do
abbrev pub nowhere : ℕ → Standing
nowhere s = record { names = []; bodies = false; position = []; number = 0; time = 0; sent = λ o t. false }

abbrev pub nothing : ℕ → List ℕ
nothing c = []

-- how the stream stands that a call is given, and the time that the node hears
abbrev pub given : Call → ℕ → Standing
given (Turning a b) s = a.standing
given (Accepting m) s = nowhere s
given (Ending cause a b) s = a.standing

abbrev pub heard : Call → ℕ
heard (Turning a b) = a.standing.time
heard (Accepting m) = m.time
heard (Ending cause a b) = a.standing.time

-- the call made an entry, or has its fault; for want of memory it may not have come to the cell
abbrev pub Acts : Plan → List NodeEntry → ℕ → Call → Option NodeFault → Option NodePass → Option NodePass → Type 0
Acts plan h n call None (Some p) (Some q) = HasMade plan h n (given call) nothing (λ e. Unit {0}) p q
Acts plan h n call (Some fault) (Some p) (Some q) =
    HasFailed plan h n (λ a. IsTimeWorn a (heard call)) fault p q ⊎ ((fault ≡ NoMemory) × (q ≡ p))
Acts plan h n call (Some fault) None None = Unit {0}
Acts plan h n call fault p q = ⊥

-- a side of a flow: the cell, and the pass if there is one
pub record AtCell : Type 0 where
  pub cell : NodeCell
  pub pass : Option NodePass

abbrev pub made_through : AtCell → List Entry
made_through x = made_by x.pass

-- from one moment of the side to the next, at the cell of whatever node it is
abbrev pub acts : AtCell → Call → Option NodeFault → AtCell → Type 0
acts x call fault y = (y.cell ≡ x.cell) × ((plan : Plan) (h : List NodeEntry) (n : ℕ) → IsCellOf plan h n x.cell → Acts plan h n call fault x.pass y.pass)
