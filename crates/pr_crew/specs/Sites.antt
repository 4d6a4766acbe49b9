-- The cells of a phase's nodes, and the phase's own passes of them.
use Rattle.std.specs.Prelude.{ℕ, List, [], ◌∷◌, ◌++◌, ◌≡◌, ◌<◌, ◌+◌, All, Contains, Option, Some, None, get_or, length, reverse, slice_get, slice_set}
use Rattle.pr_cell.specs.Passes.{Begins, HoldsAll, IsFirst, IsPassOf, KeepsMine, held, mine, opening_of, seen}
use Rattle.pr_merge.specs.Holding.{HeldState, IsNodeOf}
use Rattle.pr_node.specs.Stored.{Stored, means}
use Rattle.pr_story.specs.declared.entry.Entry.{Entry}
use Rattle.pr_story.specs.History.{NodeEntry, Plan, journal}
use Rattle.pr_crew.specs.declared.sites.Sites.{Sites}
use Rattle.pr_crew.specs.Making.{HasSeen, IsCellOf, NodeCell, NodePass}
use Rattle.pr_crew.specs.Stories.{caller_of, opened_of, stories}
use Rattle.pr_crew.specs.Tasks.{numbers_of}

-- the cell of node n, and the phase's own pass of it
pub record IsSite (s : Sites) (n : ℕ) (c : NodeCell) (p : NodePass) : Type 0 where
  pub cell : slice_get s.cells.items n ≡ Some c
  pub root : slice_get s.roots.items n ≡ Some (Some p)

-- the phase's own pass of this cell
pub record IsRoot (c : NodeCell) (p : NodePass) : Type 0 where
  pub of_cell : IsPassOf stories c p
  pub number : p.number ≡ 0

-- only the phase's own pass of node n is another than before
abbrev pub ChangesRoot : Sites → Sites → ℕ → NodePass → Type 0
ChangesRoot s t n q = (t.cells ≡ s.cells) × (t.roots.items ≡ slice_set s.roots.items n (Some q))

-- ---- passes for jobs

-- from the phase's own pass p, which is q then, the pass r was split
pub record HasSplit (c : NodeCell) (p q r : NodePass) : Type 0 where
  pub root : IsRoot c q
  pub held_is : held q.seat ≡ held p.seat
  pub issued : q.issued ≡ p.issued + 1
  pub seen_is : seen q.seat ≡ seen p.seat
  pub of_cell : IsPassOf stories c r
  pub unused : r.turns ≡ 0
  pub number : r.number ≡ p.issued
  pub alone : held r.seat ≡ r.number ∷ []
  pub issues : r.issued ≡ 0
  pub sees : seen r.seat ≡ seen p.seat

abbrev pub CanSplit : Sites → ℕ → Type 0
CanSplit s n = (c : NodeCell) × (p : NodePass) × IsSite s n c p × IsRoot c p × (p.issued < c.callers)

abbrev pub Splits : Sites → Sites → ℕ → Option NodePass → Type 0
Splits s t n result = (c : NodeCell) (p : NodePass) → IsSite s n c p → (q : NodePass) × (r : NodePass) × (result ≡ Some r) × HasSplit c p q r × ChangesRoot s t n q

-- into the phase's own pass p, which is r then, the pass q was joined
pub record HasJoined (c : NodeCell) (p q r : NodePass) : Type 0 where
  pub root : IsRoot c r
  pub held_is : held r.seat ≡ held p.seat ++ held q.seat
  pub issued : r.issued ≡ p.issued + q.issued
  pub begins : Begins (seen p.seat) (seen r.seat)
  pub begins_own : Begins (seen q.seat) (seen r.seat)
  pub same : KeepsMine caller_of p.seat r.seat
  pub same_own : KeepsMine caller_of q.seat r.seat

-- r has seen all that q has, and of q's number nothing else
pub record IsWithin (q r : NodePass) : Type 0 where
  pub begins : Begins (seen q.seat) (seen r.seat)
  pub own : mine caller_of r.seat q.number ≡ mine caller_of q.seat q.number

-- into the phase's own pass of this cell, from which passes of so many numbers were split, these were joined
pub record AreJoined (c : NodeCell) (many : ℕ) (ps : List NodePass) (r : NodePass) : Type 0 where
  pub root : IsRoot c r
  pub held_is : held r.seat ≡ 0 ∷ numbers_of ps
  pub issued : r.issued ≡ many + 1
  pub none : mine caller_of r.seat 0 ≡ []
  pub within : (q : NodePass) → Contains ps q → IsWithin q r

abbrev pub CanJoin : Sites → ℕ → Option NodePass → Type 0
CanJoin s n pass = (c : NodeCell) × (p : NodePass) × (q : NodePass) × IsSite s n c p × IsRoot c p × (pass ≡ Some q) × IsPassOf stories c q

abbrev pub Joins : Sites → Sites → ℕ → Option NodePass → Type 0
Joins s t n pass = (c : NodeCell) (p q : NodePass) → IsSite s n c p → pass ≡ Some q → (r : NodePass) × HasJoined c p q r × ChangesRoot s t n r

-- ---- nodes

abbrev pub nodes_of : {N : Type 0} → HeldState N → List (Option N)
nodes_of s = s.nodes

-- all else of what is held is as it was
pub record IsBeside {N : Type 0} (a b : HeldState N) : Type 0 where
  pub sessions : b.sessions ≡ a.sessions
  pub clients : b.clients ≡ a.clients
  pub places : b.places ≡ a.places
  pub nodes : length b.nodes ≡ length a.nodes

-- the node of number n is here, as the history has it
abbrev pub IsHere : Plan → List NodeEntry → HeldState Stored → ℕ → Type 0
IsHere plan h s n = (m : Stored) × (get_or s.nodes n None ≡ Some m) × IsNodeOf (λ (x : Stored). x.id) (λ (x : Stored). (means x).sets) (λ (x : Stored). (means x).journal) plan h n m

-- the first cells are those of the first nodes as a phase begins after h, and no pass but the phase's own was made of them
pub record IsOpened (plan : Plan) (h : List NodeEntry) (callers : ℕ) (s : Sites) (n : ℕ) : Type 0 where
  pub cell : NodeCell
  pub pass : NodePass
  pub site : IsSite s n cell pass
  pub of_node : IsCellOf plan h n cell
  pub root : IsRoot cell pass
  pub many : cell.callers ≡ callers
  pub held_is : held pass.seat ≡ 0 ∷ []
  pub issued : pass.issued ≡ 1
  pub sees : HasSeen pass []

-- one cell more is this node's, and no pass but the phase's own was made of it
pub record HasOpened (callers : ℕ) (m : Stored) (s t : Sites) : Type 0 where
  pub cell : NodeCell
  pub pass : NodePass
  pub cells : t.cells.items ≡ s.cells.items ++ cell ∷ []
  pub roots : t.roots.items ≡ s.roots.items ++ Some pass ∷ []
  pub opening : opening_of stories cell ≡ opened_of m ∷ []
  pub of_cell : IsPassOf stories cell pass
  pub first : IsFirst (opened_of m ∷ []) pass
  pub many : cell.callers ≡ callers

-- the phase's own pass of the cell of node n holds all numbers
abbrev pub CanClose : Sites → ℕ → Type 0
CanClose s n = (plan : Plan) × (h : List NodeEntry) × (c : NodeCell) × (p : NodePass) × IsSite s n c p × IsCellOf plan h n c × IsRoot c p × HoldsAll p

-- node n made these entries in a phase after h, each of a caller of which P holds
pub record HasMadeAll (plan : Plan) (h : List NodeEntry) (n : ℕ) (es : List Entry) (m : Stored) : Type 0 where
  pub number_is : m.id ≡ n
  pub sets_are : (means m).sets ≡ plan.sets n
  pub journal_is : (means m).journal ≡ reverse es ++ journal h n

-- the node that was closed with this pass
pub record IsClosed (plan : Plan) (h : List NodeEntry) (n : ℕ) (p : NodePass) (m : Stored) : Type 0 where
  pub made : List Entry
  pub seen_is : HasSeen p made
  pub node : HasMadeAll plan h n made m
  pub callers : All (λ (e : Entry). Contains (held p.seat) e.caller) made
