-- An engine that ran a command is kept.
use Rattle.std.proofs.Common.{◌≡◌, ◌∷◌, Result, Ok, Err, sym, subst}
use Rattle.std.specs.Prelude.{Option, OnSome}
use Rattle.std.specs.Result.{result_ok}
use Rattle.pr_inval.specs.declared.node_fault.NodeFault.{NodeFault}
use Rattle.pr_story.specs.Commands.{Command}
use Rattle.pr_story.specs.Scripts.{Single, attached_after}
use Rattle.pr_sim.specs.Commands.{ForEachRun, GivesOne}
use Rattle.pr_sim.specs.Running.{IsKept}
use Rattle.pr_sim.specs.declared.engine.Engine.{Engine}

pub still_kept : (command : Command) (e f : Engine) (r : Result (Unit {0}) NodeFault) (o : Option (Unit {0})) → IsKept e → ForEachRun e (λ d attached h. GivesOne command d attached h f r) → o ≡ result_ok r → OnSome o (IsKept f)
still_kept command e f (Ok done) o (d, attached, h, k) gives is =
    let made = gives d attached h k in
    subst (λ (x : Option (Unit {0})). OnSome x (IsKept f)) (sym is) (d, attached_after (Single command) attached, made.0 ∷ h, made.1)
still_kept command e f (Err fault) o kept gives is = subst (λ (x : Option (Unit {0})). OnSome x (IsKept f)) (sym is) tt
