use Rattle.std.proofs.Common.{◌≡◌, arith}
use Rattle.pr_draw.proofs.Answered.{answered}
use Rattle.pr_draw.proofs.drawing.draw.Goals as goal

pub returns-in-Ok-clause-answers : goal.returns-in-Ok-clause-answers
returns-in-Ok-clause-answers g c =
    let none : c.args.words ≡ 0 = omega arith in
    answered c.args.words _ _ c.in-Ok.text c.as_slice.result.now c.draw_text.result none c.as_slice.ensures c.in-Ok.ensures c.draw_text.ensures
