-- A script that is told by the summary of its run.
use Rattle.std.proofs.Common.{◌≡◌, ℕ, ◌<◌, ◌≤◌, List, [], ◌∷◌, Ok, Err, sym, ◌∙◌, ap, subst, length, arith}
use Rattle.std.specs.Prelude.{None, Option, All, Bool, codes, take}
use Rattle.std.proofs.lemmas.List.Elements.{All-append, All-cons, All-nil}
use Rattle.pr_gen.specs.Summary.{node_count, summary_text}
use Rattle.pr_gen.specs.Workload.{workload}
use Rattle.pr_gen.proofs.Runs.{nothing_unmet}
use Rattle.pr_merge.specs.Holding.{HasHistory}
use Rattle.pr_script.specs.declared.script.Script.{Script}
use Rattle.pr_script.specs.declared.decl.Decl.{Decl}
use Rattle.pr_script.specs.declared.kind.Kind.TheVariants as kinds
use Rattle.pr_script.specs.Labels.{count_of}
use Rattle.pr_sim.specs.Holding.{held_of, journal_of}
use Rattle.pr_sim.specs.Making.{declared_of}
use Rattle.pr_sim.specs.Running.{IsRunning}
use Rattle.pr_sim.proofs.Makings.{count_is}
use Rattle.pr_sim.specs.declared.engine.Engine.{Engine}
use Rattle.pr_sim.proofs.Story.{running_tells}
use Rattle.pr_story.specs.Counts.{AreDeclared, Counts, Declared}
use Rattle.pr_story.specs.History.{NodeEntry, journal}
use Rattle.pr_story.specs.Places.{places_of}
use Rattle.pr_story.specs.Scripts.{JobAfterJob}
use Rattle.pr_text.specs.Histories.{IsRunOf}
use Rattle.pr_text.specs.Endings.{error_line}
use Rattle.pr_top.specs.Generated.{HasGenerated, HasSummed}
use Rattle.pr_top.specs.Runs.{WritesLine}
use Rattle.pr_top.specs.declared.status.Status.TheVariants as status
use Rattle.pr_top.proofs.Promised.{headline}
use Rattle.pr_top.specs.Progress.{HasCome, Writes}
use Rattle.pr_top.specs.declared.stepping.Halt.{Halt}
use Rattle.pr_top.specs.declared.stepping.Halt.TheVariants as halts
use Rattle.pr_top.proofs.Coming.{begun, ended}

-- ---- what is summed

nodes_within : (n : ℕ) (k : Counts) (h : List NodeEntry) → k.nodes ≡ n → AreDeclared k h → All (λ (p : ℕ × ℕ). p.0 < n) (places_of h)
nodes_within n k [] same are = All-nil (λ (p : ℕ × ℕ). p.0 < n)
nodes_within n k (e ∷ h) same are =
    All-append (λ (p : ℕ × ℕ). p.0 < n) (places_of h) ((e.node, length (journal h e.node)) ∷ []) (nodes_within n k h same are.1)
    (All-cons (λ (p : ℕ × ℕ). p.0 < n) (e.node, length (journal h e.node)) [] (subst (λ (m : ℕ). e.node < m) same are.0.0) (All-nil (λ (p : ℕ × ℕ). p.0 < n)))

-- an engine that runs holds its history
pub has_history : (d : Declared) (attached : ℕ → Bool) (h : List NodeEntry) (e : Engine) → IsRunning d attached h e → HasHistory journal_of h (held_of e)
has_history d attached h e k =
    let t = running_tells d attached h e k in
    record {
      here = t.told.all_here;
      journals = t.told.journals;
      places = t.told.places_are;
      within = subst (λ (ps : List (ℕ × ℕ)). All (λ (p : ℕ × ℕ). p.0 < length e.nodes.items) ps) (sym t.told.places_are) (nodes_within (length e.nodes.items) d.counts h (sym t.nodes) t.speaks);
    }

-- there is a node for each that is declared, and there are few
pub nodes_are : (ds : List Decl) (attached : ℕ → Bool) (h : List NodeEntry) (e : Engine) → IsRunning (declared_of ds) attached h e → (node_count ds ≤ length e.nodes.items) × (node_count ds ≤ 32)
nodes_are ds attached h e k =
    let many : length e.nodes.items ≡ count_of kinds.Node ds = k.nodes in
    let same : count_of kinds.Node ds ≡ node_count ds = count_is kinds.Node ds in
    let few = k.stands.nodes.few in
    (omega arith, omega arith)

-- a workload was run to its end
pub all_summed : (seed size : ℕ) (e : Engine) (unmet : Option ℕ) (text : List ℕ) (h : List NodeEntry) → HasCome JobAfterJob (workload seed size) [] h e unmet → text ≡ summary_text (workload seed size).decls.list h → HasSummed (workload seed size) (Ok text)
all_summed seed size e unmet text h k is =
    let run = ended JobAfterJob (workload seed size) h e unmet k in
    let none : unmet ≡ None = run.first ∙ nothing_unmet seed size [] run.parts in
    let told = running_tells (declared_of (workload seed size).decls.list) k.attached h e k.running in
    (h, record { valid = told.told.valid; declared = told.speaks }, subst (λ (o : Option ℕ). IsRunOf JobAfterJob (workload seed size) h o) none run, begun JobAfterJob (workload seed size) [] h e unmet k, is)

-- ---- what is written

-- the summary was written, or a beginning of it
pub summary_written : (seed size : ℕ) (failed : Type 0) (a b : Option (List ℕ)) (text : List ℕ) → HasSummed (workload seed size) (Ok text) → Writes {X = Unit {0}} text failed a b (Ok tt) → HasGenerated status.Ok (workload seed size) failed a b
summary_written seed size failed a b text (h, is, run, begun, same) told = record { h = h; headline = headline _ _ h is; ends = run; text = text; written = same; told = told }

pub summary_cut : (seed size : ℕ) (failed : Type 0) (a b : Option (List ℕ)) (text : List ℕ) → HasSummed (workload seed size) (Ok text) → Writes {X = Unit {0}} text failed a b (Err halts.WriteFault) → HasGenerated status.WriteFault (workload seed size) failed a b
summary_cut seed size failed a b text (h, is, run, begun, same) (bad, (n, told)) =
    record { h = h; headline = headline _ _ h is; ends = begun; text = take n text; written = (bad, (n, ap (λ (t : List ℕ). take n t) same)); told = told }

-- the run stopped, and this is told alone
pub stopped_worn : (s : Script) (failed : Type 0) (a b : Option (List ℕ)) (at : ℕ) → HasSummed s (Err (halts.Worn at)) → WritesLine failed (error_line (codes "worn")) a b → HasGenerated (status.Worn at) s failed a b
stopped_worn s failed a b at (h, is, begun, cause) (text, line, told) = record { h = h; headline = headline _ _ h is; ends = (begun, cause); text = text; written = line; told = told }

pub stopped_short : (s : Script) (failed : Type 0) (a b : Option (List ℕ)) (halt : Halt) → HasSummed s (Err halt) → WritesLine failed (error_line (codes "no memory")) a b → HasGenerated status.NoMemory s failed a b
stopped_short s failed a b halt (h, is, begun, cause) (text, line, told) = record { h = h; headline = headline _ _ h is; ends = begun; text = text; written = line; told = told }
