use Rattle.std.proofs.Common.{◌≡◌, ◌+◌, ◌∷◌, [], ◌++◌, ◌∙◌, arith}
use Rattle.pr_script.specs.declared.command.Command.TheVariants.{Settle}
use Rattle.pr_gen.proofs.Numbering.{one_step, last_line}
use Rattle.pr_gen.proofs.Outcomes.{on_ok}
use Rattle.pr_gen.proofs.making.stepped.Goals as goal

pub loop-i-preserved : goal.loop-i-preserved
loop-i-preserved c = rw c.in_ok-push.ensures.ok (one_step 49 c.args.size c.loop-i.i _ _ _ _ _ c.loop-i-test.true c.in_ok-command.ensures c.loop-i.invariant)

pub returns : goal.returns
returns c =
    let at_end : c.loop-i.i ≡ c.args.size = omega arith in
    let last = last_line 49 c.args.size c.loop-i.i _ c.loop-i.commands _ at_end c.loop-i.invariant in
    on_ok c.push-2.result {P = c.push-2.new.self ≡ c.loop-i.commands ++ (49 + c.args.size, Settle) ∷ []} (λ pushed. pushed ∙ last) c.push-2.ensures.ok
