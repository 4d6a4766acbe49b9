-- A client's job at a new node's cell.
use Rattle.std.proofs.Common.{◌≡◌, ℕ, zero, suc, ◌<◌, List, [], ◌∷◌, refl, sym, ◌∙◌, ap, subst}
use Rattle.std.specs.Prelude.{Option, Some, false, reverse, slice_get}
use Rattle.std.proofs.lemmas.List.{reverse-reverse}
use Rattle.pr_cell.specs.Passes.{IsPassOf, held, opening_of}
use Rattle.pr_node.specs.Stored.{NodeMeaning, Stored, means}
use Rattle.pr_story.specs.History.{Plan}
use Rattle.pr_vectors.specs.Vector.{zero_vector}
use Rattle.pr_wires.specs.Calls.{WireState}
use Rattle.pr_crew.specs.declared.phase_node.PhaseNode.{PhaseNode}
use Rattle.pr_crew.specs.declared.story.Story.TheVariants.{Opened}
use Rattle.pr_crew.specs.declared.task.ClientTask.{ClientTask}
use Rattle.pr_crew.specs.declared.task.Task.{Task}
use Rattle.pr_crew.specs.declared.task.Task.TheVariants as tasks
use Rattle.pr_crew.specs.Making.{HasSeen, IsCellOf, NodeCell, NodePass}
use Rattle.pr_crew.specs.Stories.{opened_of, stories}
use Rattle.pr_crew.specs.Tasks.{IsFresh, IsReady}

-- all clients stand at node n, which has no sets
pub one_node : ℕ → Plan
one_node n = record { sets = λ m. []; home = λ c. n; stream = λ s. record { source = n; destination = n; names = []; bodies = false } }

-- the cell of a new node
pub new_cell : (n : ℕ) (x : PhaseNode) (node : Stored) (cell : NodeCell) → n < 32 → means node ≡ record { id = n; sets = []; journal = []; spent = false } → stories x ≡ opened_of node ∷ [] → opening_of stories cell ≡ stories x
    → (plan : Plan) × ((k : ℕ) → plan.home k ≡ n) × IsCellOf plan [] n cell
unfolding one_node
new_cell n x node cell small new told opening =
    let journal_is : node.journal.items ≡ [] = sym (reverse-reverse node.journal.items) ∙ ap (λ (m : NodeMeaning). reverse m.journal) new in (
      one_node n,
      λ k. refl,
      record { opening = opening ∙ told ∙ (λ i. Opened ((new i).id) ((new i).sets) (journal_is i) ∷ []); node = small },
    )

-- the pass was split from one that has seen nothing
pub record IsNewPass (cell : NodeCell) (pass : NodePass) : Type 0 where
  pub of_cell : IsPassOf stories cell pass
  pub unused : pass.turns ≡ 0
  pub alone : held pass.seat ≡ pass.number ∷ []
  pub issues : pass.issued ≡ 0
  pub sees : HasSeen pass []

module _ {W : Type 0} (state : W → WireState) (plan : Plan) (cell : NodeCell) (home : (k : ℕ) → plan.home k ≡ 0) (of_node : IsCellOf plan [] 0 cell) (cells : List NodeCell) (cells_are : cells ≡ cell ∷ []) where
  fresh : (pass : NodePass) → IsNewPass cell pass → IsFresh plan [] cells 0 (Some pass)
  fresh pass new = record {
    cell = cell;
    cell_is = ap (λ (l : List NodeCell). slice_get l 0) cells_are;
    opened = of_node;
    own = pass;
    has = refl;
    of_cell = new.of_cell;
    unused = new.unused;
    alone = new.alone;
    issues = new.issues;
    seen = new.sees;
  }

  -- the job of a client that has seen nothing
  pub job_ready : (client : ℕ) (pass : NodePass) (task : Task W) → IsNewPass cell pass
      → (t : ClientTask) × (task ≡ tasks.Client t) × (t.work.node ≡ 0) × (t.work.client ≡ client) × (t.work.seen ≡ zero_vector) × (t.pass ≡ Some pass) → IsReady plan [] cells state task
  job_ready client pass task new (t, is, node, own, sees, has) =
      subst (λ (z : Task W). IsReady plan [] cells state z) (sym is) (record {
        fresh = subst (λ (n : ℕ). IsFresh plan [] cells n t.pass) (sym node) (subst (λ (o : Option NodePass). IsFresh plan [] cells 0 o) (sym has) (fresh pass new));
        node_is = node ∙ sym (home t.work.client);
        seen_is = sees;
      })

  pub both_ready : (one two : Task W) (all : List (Task W)) → all ≡ one ∷ two ∷ [] → IsReady plan [] cells state one → IsReady plan [] cells state two → (k : ℕ) (t : Task W) → slice_get all k ≡ Some t → IsReady plan [] cells state t
  both_ready one two all are first second k t at = by k (ap (λ (l : List (Task W)). slice_get l k) (sym are) ∙ at)
    where
      by : (k : ℕ) → slice_get (one ∷ two ∷ []) k ≡ Some t → IsReady plan [] cells state t
      by zero at = let same : one ≡ t = cc in subst (λ (z : Task W). IsReady plan [] cells state z) same first
      by (suc zero) at = let same : two ≡ t = cc in subst (λ (z : Task W). IsReady plan [] cells state z) same second
      by (suc (suc k)) at = absurd (cc)
