-- What a node keeps, and how a contract sees it.
use Rattle.std.specs.Prelude.{ℕ, List, Bool, reverse}
use Rattle.pr_stamps.specs.Kept.{Kept}
use Rattle.pr_names.specs.Span.{Span}
use Rattle.pr_story.specs.declared.entry.Entry.{Entry}
use Rattle.pr_node.specs.declared.stores.Stores.{Stores}

-- what a node has done, with the oldest entry first, and whether it is spent
pub record Noted : Type 0 where
  pub entries : Kept Entry
  pub spent : Bool

-- a node as data: its number, its journal with the oldest entry first, its stores, and whether a call was refused memory
pub record Stored : Type 0 where
  pub id : ℕ
  pub journal : Kept Entry
  pub stores : Stores
  pub spent : Bool

-- a node, as its callers see it: its number, its sets, its journal with the newest entry first, and whether it is spent
pub record NodeMeaning : Type 0 where
  pub id : ℕ
  pub sets : List (List Span)
  pub journal : List Entry
  pub spent : Bool

abbrev pub means : Stored → NodeMeaning
means n = record { id = n.id; sets = n.stores.gaps.sets; journal = reverse n.journal.items; spent = n.spent }
