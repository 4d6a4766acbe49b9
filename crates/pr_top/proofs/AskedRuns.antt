-- The asks of a node after a run.
use Rattle.std.proofs.Common.{◌≡◌, ℕ, List, [], Ok, Err, Option, refl, subst, take}
use Rattle.pr_node.specs.Stored.{NodeMeaning}
use Rattle.pr_script.specs.declared.decl.Decl.{Decl}
use Rattle.pr_script.specs.declared.script.Script.{Script}
use Rattle.pr_sim.specs.Making.{declared_of}
use Rattle.pr_sim.specs.Running.{Tells}
use Rattle.pr_sim.specs.declared.engine.Engine.{Engine}
use Rattle.pr_sim.proofs.Story.{running_tells}
use Rattle.pr_story.specs.History.{NodeEntry, journal}
use Rattle.pr_story.specs.Scripts.{JobAfterJob}
use Rattle.pr_text.specs.Numbers.{counts_of}
use Rattle.pr_text.specs.Transcripts.{plan_of}
use Rattle.pr_text.proofs.Runs.{runs_give}
use Rattle.pr_top.specs.Asked.{HasAsked, HasAsks, IsAsksText}
use Rattle.pr_top.specs.Progress.{HasCome, Writes}
use Rattle.pr_top.specs.Served.{node_after}
use Rattle.pr_top.specs.declared.status.Status.TheVariants as status
use Rattle.pr_top.specs.declared.stepping.Halt.{Halt}
use Rattle.pr_top.specs.declared.stepping.Halt.TheVariants as halts
use Rattle.pr_top.proofs.Coming.{begun, ended}
use Rattle.pr_top.proofs.Promised.{headline}
use Rattle.pr_top.proofs.Written.{appends_none}

-- ---- a script was run

-- an engine that has run it tells the history
pub tells_run : (s : Script) (h : List NodeEntry) (e : Engine) (unmet : Option ℕ) → HasCome JobAfterJob s [] h e unmet → Tells (declared_of s.decls.list) h e
tells_run s h e unmet k = running_tells (declared_of s.decls.list) k.attached h e k.running

-- the asks are those of the node as the history left it
pub asked_after : (s : Script) (h : List NodeEntry) (e : Engine) (unmet : Option ℕ) (n : ℕ) (ds : List Decl) (m : NodeMeaning) (text : List ℕ) → HasCome JobAfterJob s [] h e unmet
    → ds ≡ s.decls.list → m ≡ node_after (plan_of s.decls.list) h n → IsAsksText ds m.sets n m.journal text → HasAsks s n (Ok text)
asked_after s h e unmet n ds m text k same left asked =
    let told = tells_run s h e unmet k in
    let all : IsAsksText ds ((plan_of s.decls.list).sets n) n (journal h n) text = subst (λ (x : NodeMeaning). IsAsksText ds x.sets n x.journal text) left asked in (
      h,
      record { valid = told.told.valid; declared = told.speaks },
      runs_give JobAfterJob s h unmet (ended JobAfterJob s h e unmet k),
      begun JobAfterJob s [] h e unmet k,
      subst (λ (xs : List Decl). IsAsksText xs ((plan_of s.decls.list).sets n) n (journal h n) text) same all,
    )

-- ---- what is written

pub asks_written : (s : Script) (n : ℕ) (failed : Type 0) (a b : Option (List ℕ)) (text : List ℕ) → HasAsks s n (Ok text) → Writes {X = Unit {0}} text failed a b (Ok tt) → HasAsked status.Ok s n failed a b
asks_written s n failed a b text (h, is, whole, begun, asks) told = record {
  h = h;
  headline = headline (plan_of s.decls.list) (counts_of s.decls.list) h is;
  text = text;
  written = (whole, asks);
  told = told;
}

pub asks_cut : (s : Script) (n : ℕ) (failed : Type 0) (a b : Option (List ℕ)) (text : List ℕ) → HasAsks s n (Ok text) → Writes {X = Unit {0}} text failed a b (Err halts.WriteFault) → HasAsked status.WriteFault s n failed a b
asks_cut s n failed a b text (h, is, whole, begun, asks) (bad, (count, told)) = record {
  h = h;
  headline = headline (plan_of s.decls.list) (counts_of s.decls.list) h is;
  text = take count text;
  written = (bad, whole, (text, count, asks, refl));
  told = told;
}

pub asks_worn : (s : Script) (n : ℕ) (failed : Type 0) (a : Option (List ℕ)) (at : ℕ) → HasAsks s n (Err (halts.Worn at)) → HasAsked (status.Worn at) s n failed a a
asks_worn s n failed a at (h, is, begun, cause) = record {
  h = h;
  headline = headline (plan_of s.decls.list) (counts_of s.decls.list) h is;
  text = [];
  written = (begun, cause.0, cause.1, refl);
  told = appends_none a;
}

pub asks_short : (s : Script) (n : ℕ) (failed : Type 0) (a : Option (List ℕ)) (halt : Halt) → HasAsks s n (Err halt) → HasAsked status.NoMemory s n failed a a
asks_short s n failed a halt (h, is, begun, cause) = record {
  h = h;
  headline = headline (plan_of s.decls.list) (counts_of s.decls.list) h is;
  text = [];
  written = (begun, refl);
  told = appends_none a;
}
