use Rattle.std.proofs.Common.{◌≡◌, Result, Ok, Err, [], false, sym, subst}
use Rattle.std.specs.Prelude.{Option, IfOk, IfSome}
use Rattle.std.specs.Result.{result_ok}
use Rattle.pr_story.specs.Counts.{Declared}
use Rattle.pr_sim.specs.Running.{IsKept, IsRunning}
use Rattle.pr_sim.specs.declared.engine.Engine.{Engine}
use Rattle.pr_sim.proofs.tests.settling.made.Goals as goal

begun_kept : {E : Type 0} (d : Declared) (r : Result Engine E) (o : Option Engine) → IfOk r (λ e. IsRunning d (λ s. false) [] e) → o ≡ result_ok r → IfSome o IsKept
begun_kept d (Ok e) o begun is = subst (λ (x : Option Engine). IfSome x IsKept) (sym is) (d, (λ s. false), [], begun)
begun_kept d (Err f) o begun is = subst (λ (x : Option Engine). IfSome x IsKept) (sym is) tt

pub returns : goal.returns
returns c = begun_kept _ c.new.result c.ok-2.result c.new.ensures c.ok-2.ensures.value
