-- The declarations of a workload: eight nodes in a ring, each with a client, and streams both ways between neighbours.
use Rattle.std.specs.Prelude.{ℕ, suc, zero, ◌+◌, ◌%◌, List, [], ◌∷◌, ◌++◌, true, false}
use Rattle.pr_names.specs.Span.{Span}
use Rattle.pr_names.specs.Text.{all_from, whole}
use Rattle.pr_sets.specs.Text.{list_of}
use Rattle.pr_script.specs.declared.decl.Decl.{Decl}
use Rattle.pr_script.specs.declared.decl.Decl.TheVariants.{Node, Client, Stream}

-- what each number below n gives, in their order
unfoldable pub each : {A : Type 0} → ℕ → (ℕ → A) → List A
each zero f = []
each (suc n) f = each n f ++ f n ∷ []

-- the node behind this one
abbrev pub next : ℕ → ℕ
next i = (i + 1) % 8

-- a letter and a number: N0, C0, S0 and so on
abbrev pub label : ℕ → ℕ → List ℕ
label letter i = letter ∷ (48 + i) ∷ []

-- a/, b/ and so on to h/
abbrev pub front : ℕ → List ℕ
front i = (97 + i) ∷ 47 ∷ []

-- the names that begin so
abbrev pub group : ℕ → List Span
group i = all_from (front i) ∷ []

-- a node has the names of its own letter in one set, and those of the next one's in another
abbrev pub node : ℕ → Decl
node i = Node (label 78 i) (group i ∷ group (next i) ∷ [])

-- each node has a client
abbrev pub client : ℕ → Decl
client i = Client (label 67 i) i

-- from a node to the next one goes what that is interested in, with bodies
abbrev pub forth : ℕ → Decl
forth i = Stream (label 83 i) i (next i) (list_of (group (next i) ++ group (next (next i)))) true

-- and back goes everything, without bodies
abbrev pub back : ℕ → Decl
back i = Stream (label 84 i) (next i) i (whole ∷ []) false

unfoldable pub declared : List Decl
declared = each 8 node ++ each 8 client ++ each 8 forth ++ each 8 back
