-- For what cause a history says that flows went down.
use Rattle.std.specs.Prelude.{ℕ, Bool, List}
use Rattle.std.specs.List.{flat_map}
use Rattle.pr_flow.specs.Downs.{AreDownsOf, IsUnsoundFor, flows_of}
use Rattle.pr_script.specs.declared.script.Script.{Script}
use Rattle.pr_script.specs.Steps.{Numbered}
use Rattle.pr_sim.specs.Making.{declared_of}
use Rattle.pr_sim.specs.Running.{Tells}
use Rattle.pr_sim.specs.Sound.{AddsDownsOf}
use Rattle.pr_sim.specs.declared.engine.Engine.{Engine}
use Rattle.pr_story.specs.History.{NodeEntry}
use Rattle.pr_text.specs.Steps.{lines_of}

-- the streams that flow in these commands, in order, each over a connection of its own
abbrev pub flows_in : List Numbered → List ℕ
flows_in cs = flat_map flows_of (lines_of cs)

-- the script has a flow of this stream whose connection is not sound
abbrev pub IsUnsoundIn : (ℕ → Bool) → Script → ℕ → Type 0
IsUnsoundIn sound s x = IsUnsoundFor sound 0 (flows_in s.commands) x

-- where so many connections were made: what is not sound for the commands that are left, is so for the script
abbrev pub IsWithin : (ℕ → Bool) → ℕ → List Numbered → Script → Type 0
IsWithin sound made rest s = (x : ℕ) → IsUnsoundFor sound made (flows_in rest) x → IsUnsoundIn sound s x

-- entries say that a flow went down as its wire failed or ended for such streams alone
abbrev pub HasTrueDowns : (ℕ → Bool) → Script → List NodeEntry → Type 0
HasTrueDowns sound s h = AreDownsOf (λ x. IsUnsoundIn sound s x) h

-- so it is in the history that the engine tells
abbrev pub TellsTrueDowns : (ℕ → Bool) → Script → Engine → Type 0
TellsTrueDowns sound s e = (h : List NodeEntry) × Tells (declared_of s.decls.list) h e × HasTrueDowns sound s h

-- so it is in what was added to h
abbrev pub AddsTrueDowns : (ℕ → Bool) → Script → List NodeEntry → Engine → Type 0
AddsTrueDowns sound s h e = AddsDownsOf (λ x. IsUnsoundIn sound s x) (declared_of s.decls.list) h e
