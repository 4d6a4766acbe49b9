-- The memory of a phase, and what its nodes made, as it is added to the history.
use Rattle.std.specs.Prelude.{ℕ, List, [], ◌++◌, ◌≡◌, ◌≤◌, ◌<◌, ◌+◌, Some, None, get_or, length, map, reverse, sum_by, vec_capacity, Vec}
use Rattle.std.specs.List.{range_with_len}
use Rattle.pr_merge.specs.Holding.{HeldState}
use Rattle.pr_merge.specs.Merged.{IsMerged}
use Rattle.pr_node.specs.Stored.{Stored, means}
use Rattle.pr_story.specs.declared.entry.Entry.{Entry}
use Rattle.pr_story.specs.Counts.{AreDeclared, Declared}
use Rattle.pr_story.specs.History.{NodeEntry, journal}
use Rattle.pr_story.specs.Merging.{New}
use Rattle.pr_story.specs.Places.{places_of}
use Rattle.pr_crew.specs.declared.room.Room.{Room}
use Rattle.pr_crew.specs.declared.work.Work.{Work}
use Rattle.pr_crew.specs.Assembly.{AreMadeBy, made_at, parts_of}
use Rattle.pr_crew.specs.Sites.{HasMadeAll}
use Rattle.pr_crew.specs.Works.{all_at}

-- the most entries that the jobs can make at so many nodes
abbrev pub total_at : List Work → ℕ → ℕ
total_at ws count = sum_by (all_at ws) (range_with_len 0 count)

-- there is room for all that the jobs can make at so many nodes
pub record HasRoomFor (ws : List Work) (count : ℕ) (r : Room) : Type 0 where
  pub few : count ≤ 32
  pub opened : length r.opened.items ≡ count
  pub times : length r.times.items ≡ count
  pub each : (n : ℕ) (any : _) → n < count → ((get_or r.times.items n any).items ≡ []) × (all_at ws n ≤ vec_capacity (get_or r.times.items n any))
  pub parts : r.parts.items ≡ []
  pub parts_fit : count ≤ vec_capacity r.parts
  pub merged : r.merged.items ≡ []
  pub merged_fit : total_at ws count ≤ r.merged.room
  pub places : r.places.items ≡ []
  pub places_fit : total_at ws count ≤ r.places.room

-- it knows how many entries each node had as a phase began after h
abbrev pub KnowsOpening : List NodeEntry → ℕ → Room → Type 0
KnowsOpening h count r = (n any : ℕ) → n < count → get_or r.opened.items n any ≡ length (journal h n)

-- ---- what a node has made

-- the node has made this list of entries, the oldest first, behind so many before
abbrev pub IsBehind : List Entry → List Entry → ℕ → ℕ → HeldState Stored → Type 0
IsBehind before made n many s = (m : Stored) × (get_or s.nodes n None ≡ Some m) × ((means m).journal ≡ reverse made ++ before) × (length before ≡ many)

-- behind h, of which it had so many
abbrev pub HasMadeSince : List NodeEntry → (ℕ → List Entry) → List ℕ → ℕ → HeldState Stored → Type 0
HasMadeSince h nodes opened n s = IsBehind (journal h n) (nodes n) n (get_or opened n 0) s

-- there are free places for their times
abbrev pub HasPlacesFor : {Z : Type 0} → List Entry → Vec ℕ Z → Type 0
HasPlacesFor es times = (times.items ≡ []) × (length es ≤ vec_capacity times)

-- after h the nodes made these lists, which the jobs made, within the room; whatever the merged order is, all are of what is
-- declared
pub record CanAppend (d : Declared) (h : List NodeEntry) (ws : List Work) (count : ℕ) (nodes : ℕ → List Entry) (jobs : ℕ → List New) (s : HeldState Stored) : Type 0 where
  pub made : AreMadeBy d.plan h nodes jobs
  pub none : (n : ℕ) → count ≤ n → nodes n ≡ []
  pub here : (n : ℕ) → n < count → (m : Stored) × (get_or s.nodes n None ≡ Some m) × HasMadeAll d.plan h n (nodes n) m
  pub few : (n : ℕ) → n < count → length (nodes n) ≤ all_at ws n
  pub many : length s.nodes ≡ count
  pub nodes_are : length s.nodes ≡ d.counts.nodes
  pub streams_are : length s.sessions ≡ d.counts.streams
  pub clients_are : s.clients ≡ d.counts.clients
  pub places : s.places ≡ places_of h
  pub speaks : (places : List (ℕ × ℕ)) → IsMerged (parts_of nodes count) places → AreDeclared d.counts (reverse (made_at nodes places) ++ h)

-- they were added in the merged order
abbrev pub HasAppended : (Declared → List NodeEntry → Type 0) → Declared → List NodeEntry → ℕ → (ℕ → List Entry) → HeldState Stored → HeldState Stored → Type 0
HasAppended records d h count nodes was now =
    (places : List (ℕ × ℕ)) × IsMerged (parts_of nodes count) places
    × (now ≡ record { nodes = was.nodes; sessions = was.sessions; clients = was.clients; places = was.places ++ map (λ (p : ℕ × ℕ). (p.0, length (journal h p.0) + p.1)) places })
    × records d (reverse (made_at nodes places) ++ h)
