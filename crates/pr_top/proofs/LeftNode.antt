-- The node that a run left.
use Rattle.std.proofs.Common.{◌≡◌, ℕ, ◌<◌, List, [], Bool, Option, Some, None, Ok, ◌∙◌, ap, get_or, length, arith}
use Rattle.pr_names.specs.Span.{Span}
use Rattle.pr_node.specs.Stored.{Stored, means}
use Rattle.pr_script.specs.declared.script.Script.{Script}
use Rattle.pr_sim.specs.Running.{IsNode}
use Rattle.pr_sim.specs.declared.engine.Engine.{Engine}
use Rattle.pr_story.specs.declared.entry.Entry.{Entry}
use Rattle.pr_story.specs.History.{NodeEntry, Plan}
use Rattle.pr_story.specs.Scripts.{JobAfterJob}
use Rattle.pr_text.proofs.Runs.{runs_give}
use Rattle.pr_text.specs.Numbers.{nodes_of}
use Rattle.pr_text.specs.Transcripts.{plan_of}
use Rattle.pr_top.specs.Progress.{HasCome}
use Rattle.pr_top.specs.Served.{HasLeft, node_after}
use Rattle.pr_top.proofs.AskedRuns.{tells_run}
use Rattle.pr_top.proofs.Coming.{ended}

same_node : (plan : Plan) (h : List NodeEntry) (n : ℕ) (m : Stored) → IsNode plan h n m → means m ≡ node_after plan h n
same_node plan h n m is =
    ap (λ (id : ℕ). record { id = id; sets = (means m).sets; journal = (means m).journal; spent = m.spent }) is.id
    ∙ ap (λ (sets : List (List Span)). record { id = n; sets = sets; journal = (means m).journal; spent = m.spent }) is.sets
    ∙ ap (λ (j : List Entry). record { id = n; sets = plan.sets n; journal = j; spent = m.spent }) is.journal_is
    ∙ ap (λ (spent : Bool). record { id = n; sets = plan.sets n; journal = (node_after plan h n).journal; spent = spent }) is.works

module _ (s : Script) (h : List NodeEntry) (e : Engine) (unmet : Option ℕ) (n : ℕ) (k : HasCome JobAfterJob s [] h e unmet) (known : n < nodes_of s.decls.list) where
  pub left_within : n < length e.nodes.items
  left_within = let many : length e.nodes.items ≡ nodes_of s.decls.list = k.running.nodes in omega arith

  pub left_few : n < 32
  left_few = let few = k.running.stands.nodes.few in let within = left_within in omega (arith, few, within)

  -- the node that is taken out is the one that the history left
  pub left_is : (m : Stored) → Some m ≡ get_or e.nodes.items n None → means m ≡ node_after (plan_of s.decls.list) h n
  left_is m taken =
      let here = k.running.stands.nodes.each n left_within in
      let there = here.1 in
      let is : m ≡ here.0 = cc in
      ap (λ (x : Stored). means x) is ∙ same_node (plan_of s.decls.list) h n here.0 here.2

  pub left_here : None ≡ get_or e.nodes.items n None → ⊥
  left_here none =
      let here = k.running.stands.nodes.each n left_within in
      let there = here.1 in
      absurd (cc)

-- it is that of the whole run
pub has_left : (s : Script) (h : List NodeEntry) (e : Engine) (unmet : Option ℕ) (n : ℕ) (m : Stored) → HasCome JobAfterJob s [] h e unmet → means m ≡ node_after (plan_of s.decls.list) h n → HasLeft s n (Ok m)
has_left s h e unmet n m k same =
    let told = tells_run s h e unmet k in
    (h, record { valid = told.told.valid; declared = told.speaks }, runs_give JobAfterJob s h unmet (ended JobAfterJob s h e unmet k), same)
