use Rattle.pr_story.proofs.Points.{raised_length, raised_at, raised_apart}
use Rattle.pr_story.proofs.plain.told.with_clock.Goals as goal

pub returns-in-Some-clause-length : goal.returns-in-Some-clause-length
returns-in-Some-clause-length c = raised_length _ _ _ c.raise.ensures

pub returns-in-Some-clause-here : goal.returns-in-Some-clause-here
returns-in-Some-clause-here c = raised_at _ _ _ c.args.n c.args.clock c.raise.ensures c.in-Some.ensures.value c.requires.node c.requires.lacks

pub returns-in-Some-clause-others : goal.returns-in-Some-clause-others
returns-in-Some-clause-others c = λ w lt d. raised_apart _ _ _ c.args.n c.args.clock w c.raise.ensures c.in-Some.ensures.value lt d
