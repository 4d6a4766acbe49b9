-- What an accepted script is good for: all that is asked of it by what runs it.
use Rattle.std.specs.Prelude.{◌≢◌, ◌<◌, ◌≤◌, ℕ, List, [], ◌∷◌, Bool, false, length, is_some, IsTrue, AllPairs}
use Rattle.std.specs.List.{AllByRecursion}
use Rattle.pr_names.specs.Span.{Span}
use Rattle.pr_sets.specs.Spans.{has, Meet}
use Rattle.pr_script.specs.declared.decl.Decl.{Decl}
use Rattle.pr_script.specs.declared.decl.Decl.TheVariants as decls
use Rattle.pr_script.specs.declared.command.Command.{Command}
use Rattle.pr_script.specs.declared.command.Command.TheVariants as commands
use Rattle.pr_script.specs.declared.kind.Kind.{Kind}
use Rattle.pr_script.specs.declared.kind.Kind.TheVariants as kinds
use Rattle.pr_script.specs.declared.script.Script.{Script}
use Rattle.pr_script.specs.declared.want.Want.{Want}
use Rattle.pr_script.specs.declared.want.Want.TheVariants as wants
use Rattle.pr_script.specs.Labels.{count_of, most_of}
use Rattle.pr_script.specs.Known.{has_number, attached_after, is_read}
use Rattle.pr_script.specs.Steps.{Numbered, Step, Alone, Phase, steps_of, AreWhole, owner_of, owners_of, flows_in, turns_in}

-- what the expectation names has at most as many bytes as a script may write
abbrev pub IsShortWant : Want → Type 0
IsShortWant (wants.Value text) = length text ≤ 1024
IsShortWant w = Unit {0}

module _ (ds : List Decl) where
  -- the number is that of a declared node, client or stream
  abbrev pub IsNumberOf : Kind → ℕ → Type 0
  IsNumberOf kind n = n < count_of kind ds

  -- ---- declarations

  -- a node's sets are few, each has a name and no two have one in common; a client has a node, and a stream two and names
  abbrev pub IsGoodDecl : Decl → Type 0
  IsGoodDecl (decls.Node label sets) =
      (length sets ≤ 16) × AllByRecursion (λ s. 0 < length s) sets
      × AllPairs (λ (a : List Span) (b : List Span). ¬ Meet (has a) (has b)) sets
  IsGoodDecl (decls.Client label node) = IsNumberOf kinds.Node node
  IsGoodDecl (decls.Stream label source dest sub bodies) =
      IsNumberOf kinds.Node source × IsNumberOf kinds.Node dest × (source ≢ dest) × (0 < length sub)

  pub record AreGoodDecls : Type 0 where
    pub few : (k : Kind) → count_of k ds ≤ most_of k
    pub each : AllByRecursion IsGoodDecl ds

  -- ---- commands

  -- a declared stream that is attached
  abbrev pub IsReady : List ℕ → ℕ → Type 0
  IsReady attached stream = IsNumberOf kinds.Stream stream × IsTrue (has_number attached stream)

  -- the command names what is declared, in its ranges, and may stand where these streams are attached and the line
  -- before it is a `read` or not
  abbrev pub IsGoodCommand : List ℕ → Bool → Command → Type 0
  IsGoodCommand attached after_read (commands.Attach stream) = IsNumberOf kinds.Stream stream
  IsGoodCommand attached after_read (commands.Detach stream) = IsReady attached stream
  IsGoodCommand attached after_read (commands.Send stream) = IsReady attached stream
  IsGoodCommand attached after_read (commands.Checkpoint stream) = IsReady attached stream
  IsGoodCommand attached after_read (commands.Deliver stream number) =
      IsNumberOf kinds.Stream stream × (1 ≤ number) × (number ≤ 4611686018427387903)
  IsGoodCommand attached after_read (commands.Flow stream turns) = IsReady attached stream × (1 ≤ turns) × (turns ≤ 1000000)
  IsGoodCommand attached after_read (commands.Write client name body) = IsNumberOf kinds.Client client × (length body ≤ 1024)
  IsGoodCommand attached after_read (commands.Delete client name) = IsNumberOf kinds.Client client
  IsGoodCommand attached after_read (commands.Read client name) = IsNumberOf kinds.Client client
  IsGoodCommand attached after_read (commands.Move client node) = IsNumberOf kinds.Client client × IsNumberOf kinds.Node node
  IsGoodCommand attached after_read (commands.Expect want) = IsTrue after_read × IsShortWant want
  IsGoodCommand attached after_read (commands.Cut node) = IsNumberOf kinds.Node node
  IsGoodCommand attached after_read (commands.State node) = IsNumberOf kinds.Node node
  IsGoodCommand attached after_read (commands.Drop node name) = IsNumberOf kinds.Node node
  IsGoodCommand attached after_read (commands.Conflicts node name) = IsNumberOf kinds.Node node
  IsGoodCommand attached after_read commands.Settle = Unit {0}
  IsGoodCommand attached after_read commands.Phase = ⊥
  IsGoodCommand attached after_read commands.End = ⊥

  -- a line of a phase is one of a job
  abbrev pub IsGoodJobLine : List ℕ → Command → Type 0
  IsGoodJobLine attached c = IsTrue (is_some (owner_of c)) × IsGoodCommand attached false c

  -- a phase has few jobs of few turns, and no stream flows twice
  pub record IsGoodPhase (attached : List ℕ) (inside : List Numbered) : Type 0 where
    pub lines : AllByRecursion (λ (c : Numbered). IsGoodJobLine attached c.1) inside
    pub jobs : length (owners_of inside) ≤ 64
    pub flows : AllPairs (λ (s : ℕ) (t : ℕ). s ≢ t) (flows_in inside)
    pub turns : turns_in inside ≤ 1000000

  -- step by step, where these streams are attached, behind a `read` or not
  abbrev pub AreGoodSteps : List ℕ → Bool → List Step → Type 0
  AreGoodSteps attached after_read [] = Unit {0}
  AreGoodSteps attached after_read (Alone c ∷ steps) =
      IsGoodCommand attached after_read c.1 × AreGoodSteps (attached_after c.1 attached) (is_read c.1) steps
  AreGoodSteps attached after_read (Phase inside ∷ steps) = IsGoodPhase attached inside × AreGoodSteps attached false steps

-- a script's declarations are good, its steps are its commands, each phase with its end, and good one after the other
pub record IsGood (s : Script) : Type 0 where
  pub decls : AreGoodDecls s.decls.list
  pub whole : AreWhole s.commands
  pub steps : AreGoodSteps s.decls.list [] false (steps_of s.commands)
  pub turns : turns_in s.commands ≤ 1000000
