use Rattle.std.proofs.Common.{◌≡◌, List, ℕ, [], Bool, ◌∙◌, ap, true, false}
use Rattle.pr_check.proofs.Remade.{by_asked, made_by, no_body}
use Rattle.pr_check.specs.declared.said.Said.TheVariants as saids
use Rattle.pr_text.specs.declared.plain.line.Asked.TheVariants as asks
use Rattle.pr_story.specs.Commands.{ToWrite}
use Rattle.pr_check.proofs.making.write.Goals as goal

pub returns-then-gone : goal.returns-then-gone
returns-then-gone c d attached h k =
    let body : c.args.body.now ≡ [] = no_body c.args.gone c.args.body.now c.if-gone.true c.requires.gone in
    made_by (saids.Asked (asks.Write c.args.client c.args.name.now c.args.body.now c.args.gone)) (ToWrite c.args.client c.args.name.now [] true) d attached h c.delete.new.self c.delete.result c.made.result
    (by_asked (asks.Write c.args.client c.args.name.now c.args.body.now c.args.gone) (asks.Write c.args.client c.args.name.now [] true)
    (ap (λ (b : List ℕ). asks.Write c.args.client c.args.name.now b c.args.gone) body ∙ ap (λ (g : Bool). asks.Write c.args.client c.args.name.now [] g) c.if-gone.true))
    (c.delete.ensures d attached h k) c.made.ensures

pub returns : goal.returns
returns c d attached h k =
    made_by (saids.Asked (asks.Write c.args.client c.args.name.now c.args.body.now c.args.gone)) (ToWrite c.args.client c.args.name.now c.args.body.now false) d attached h c.write.new.self c.write.result c.made-2.result
    (by_asked (asks.Write c.args.client c.args.name.now c.args.body.now c.args.gone) (asks.Write c.args.client c.args.name.now c.args.body.now false)
    (ap (λ (g : Bool). asks.Write c.args.client c.args.name.now c.args.body.now g) c.if-gone.false))
    (c.write.ensures d attached h k) c.made-2.ensures
