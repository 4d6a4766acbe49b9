-- What a line of a client makes, and where the client stands between its lines.
use Rattle.std.specs.Prelude.{ℕ, List, ◌∷◌, ◌++◌, ◌≡◌, All, IsTrue, Result, Ok, Err, drop, reverse}
use Rattle.pr_inval.specs.declared.node_fault.NodeFault.{NodeFault}
use Rattle.pr_inval.specs.Standing.{Standing}
use Rattle.pr_node.specs.Calls.{IsWriteWorn}
use Rattle.pr_script.specs.declared.command.Command.{Command}
use Rattle.pr_script.specs.declared.owner.Owner.TheVariants as owner
use Rattle.pr_script.specs.Steps.{Numbered}
use Rattle.pr_story.specs.Clients.{client_node, client_vector, is_of_client}
use Rattle.pr_story.specs.History.{NodeEntry, Plan}
use Rattle.pr_story.specs.Merging.{New, plain}
use Rattle.pr_story.specs.Scripts.{JobGives}
use Rattle.pr_text.specs.Steps.{job_of}
use Rattle.pr_crew.specs.Asking.{IsLineOf}
use Rattle.pr_crew.specs.Jobs.{ClientFailed, IsRun, MadeAt}
use Rattle.pr_crew.specs.Making.{Makes, NodePass}

-- what the call of a line makes
abbrev pub CallsLine : Plan → List NodeEntry → ℕ → (ℕ → Standing) → ℕ → Command → List ℕ → NodePass → NodePass → Result (List ℕ) NodeFault → Type 0
CallsLine plan h n sessions client command needs p q r =
    Makes plan h n sessions (λ _. needs) (IsLineOf client command needs) (λ a. IsWriteWorn a needs) p q r

-- with these entries, what the later lines of the client give, the earlier ones give too
abbrev pub LeadsTo : ℕ → List Numbered → List Numbered → List New → Type 0
LeadsTo client lines rest xs =
    (es : List NodeEntry) → JobGives (job_of rest (owner.Client client)) es → JobGives (job_of lines (owner.Client client)) (plain xs ++ es)

-- in a phase after h job k has made these entries of a client at node n, where it stands and has seen this vector
pub record IsSofar (plan : Plan) (h : List NodeEntry) (n client k : ℕ) (p : NodePass) (seen : List ℕ) (xs : List New) : Type 0 where
  pub run : IsRun plan h k xs
  pub made : MadeAt plan h n p xs
  pub of_client : All (λ x. IsTrue (is_of_client x.made.entry.event client)) xs
  pub at : n ≡ client_node plan (plain (reverse xs) ++ h) client
  pub needs : seen ≡ client_vector (plain (reverse xs) ++ h) client

-- the line was run, and made what it asks for; or it was refused
abbrev pub EndsLine : Plan → List NodeEntry → ℕ → ℕ → ℕ → Numbered → List New → NodePass → List ℕ → Result (Unit {0}) NodeFault → Type 0
EndsLine plan h n client k line xs q seen (Ok done) =
    (new : List New) × IsSofar plan h n client k q seen (xs ++ new) × ((rest : List Numbered) → LeadsTo client (line ∷ rest) rest new)
EndsLine plan h n client k line xs q seen (Err fault) = IsSofar plan h n client k q seen xs × ClientFailed plan h n seen q (Err fault)

-- so many of the lines were run
abbrev pub EndsLines : Plan → List NodeEntry → ℕ → ℕ → ℕ → List Numbered → ℕ → NodePass → List ℕ → Type 0
EndsLines plan h n client k lines i q seen =
    (xs : List New) × IsSofar plan h n client k q seen xs × LeadsTo client lines (drop i lines) xs
