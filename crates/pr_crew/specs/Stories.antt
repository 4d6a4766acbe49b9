-- What the list of a node's cell tells: the node as the phase began, and each entry that was made since then.
use Rattle.std.specs.Prelude.{ℕ, List, ◌∷◌, map, take, drop}
use Rattle.pr_node.specs.Stored.{Stored}
use Rattle.pr_story.specs.declared.entry.Entry.{Entry}
use Rattle.pr_crew.specs.declared.story.Story.{Story}
use Rattle.pr_crew.specs.declared.story.Story.TheVariants.{Opened, Made}
use Rattle.pr_crew.specs.declared.phase_node.PhaseNode.{PhaseNode}

-- these entries were made
abbrev pub made : List Entry → List Story
made es = map Made es

-- the node as it is now
abbrev pub opened_of : Stored → Story
opened_of n = Opened n.id n.stores.gaps.sets n.journal.items

-- a node as it was when its journal had so many entries, and what it has made since
abbrev pub stories_of : Stored → ℕ → List Story
stories_of n opened = Opened n.id n.stores.gaps.sets (take opened n.journal.items) ∷ made (drop opened n.journal.items)

-- the node as the phase began, and what it has made since
abbrev pub stories : PhaseNode → List Story
stories x = stories_of x.node x.opened

-- whose the entry is
abbrev pub caller_of : Story → ℕ
caller_of (Opened number sets journal) = 0
caller_of (Made e) = e.caller
