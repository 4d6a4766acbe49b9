-- What an engine is made of, and what a new one stands for.
use Rattle.std.specs.Prelude.{ℕ, List, [], ◌≡◌, ◌<◌, false, Option, Some, length, get_or, filter}
use Rattle.pr_stamps.specs.Kept.{Kept}
use Rattle.pr_vectors.specs.Vector.{zero_vector}
use Rattle.pr_inval.specs.Standing as Standing
use Rattle.pr_inval.specs.Standing.{IsNewSession, Remembered}
use Rattle.pr_node.specs.Scanning.{Scanned, fresh}
use Rattle.pr_node.specs.Stored.{Stored, means}
use Rattle.pr_sets.specs.Sets.{AreApart}
use Rattle.pr_script.specs.declared.decl.Decl.{Decl}
use Rattle.pr_script.specs.declared.decl.Decl.TheVariants as decls
use Rattle.pr_script.specs.declared.kind.Kind.TheVariants as kinds
use Rattle.pr_script.specs.Labels.{is_kind}
use Rattle.pr_text.specs.Numbers.{counts_of}
use Rattle.pr_text.specs.Transcripts.{home_of, no_decl, plan_of, sets_of, stream_of}
use Rattle.pr_story.specs.Counts.{Declared}
use Rattle.pr_sim.specs.declared.engine.Engine.{Engine}
use Rattle.pr_sim.specs.declared.engine.Route.{Route}

-- what a script declares
abbrev pub declared_of : List Decl → Declared
declared_of ds = record { plan = plan_of ds; counts = counts_of ds }

-- ---- what is made of each declaration

-- number by number, what stands in the list is made of the declaration
pub record Each {X : Type 0} (P : ℕ → Decl → X → Type 0) (ds : List Decl) (xs : List X) : Type 0 where
  pub many : length xs ≡ length ds
  pub at : (n : ℕ) (d : X) → n < length ds → P n (get_or ds n no_decl) (get_or xs n d)

-- a node that has done nothing
abbrev pub IsNewNode : ℕ → Decl → Option Stored → Type 0
IsNewNode n d slot = (m : Stored) × (slot ≡ Some m) × (means m ≡ record { id = n; sets = sets_of d; journal = []; spent = false })

-- a session that was never attached
abbrev pub IsNew : ℕ → Decl → Option Remembered → Type 0
IsNew s d slot = (x : Remembered) × (slot ≡ Some x) × IsNewSession (Standing.means x) s (stream_of d).names (stream_of d).bodies

abbrev pub IsRoute : ℕ → Decl → Route → Type 0
IsRoute s d route = (route.source ≡ (stream_of d).source) × (route.destination ≡ (stream_of d).destination)

abbrev pub IsHome : ℕ → Decl → ℕ → Type 0
IsHome c d node = node ≡ home_of d

abbrev pub HasSeenNothing : ℕ → Decl → List ℕ → Type 0
HasSeenNothing c d seen = seen ≡ zero_vector

abbrev pub HasSentNothing : ℕ → Decl → Kept ℕ → Type 0
HasSentNothing s d places = places.items ≡ []

abbrev pub HasLookedAtNothing : ℕ → Decl → Scanned → Type 0
HasLookedAtNothing s d scan = scan ≡ fresh

-- the engine has what these declare, and has done nothing
pub record IsMadeOf (ds : List Decl) (e : Engine) : Type 0 where
  pub nodes : Each IsNewNode (filter (is_kind kinds.Node) ds) e.nodes.items
  pub homes : Each IsHome (filter (is_kind kinds.Client) ds) e.homes.items
  pub seen : Each HasSeenNothing (filter (is_kind kinds.Client) ds) e.seen.items
  pub sessions : Each IsNew (filter (is_kind kinds.Stream) ds) e.sessions.items
  pub routes : Each IsRoute (filter (is_kind kinds.Stream) ds) e.routes.items
  pub sent : Each HasSentNothing (filter (is_kind kinds.Stream) ds) e.sent.items
  pub scans : Each HasLookedAtNothing (filter (is_kind kinds.Stream) ds) e.scans.items
  pub history : e.history.items ≡ []

-- there is room for what it declares
abbrev pub HasRoom : Engine → Decl → Type 0
HasRoom e (decls.Node label sets) = (length e.nodes.items < 32) × AreApart sets
HasRoom e (decls.Client label node) = Unit {0}
HasRoom e (decls.Stream label source dest sub bodies) = (length e.sessions.items < 64) × (0 < length sub)
