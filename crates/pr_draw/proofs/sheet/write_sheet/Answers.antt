use Rattle.pr_draw.proofs.Grammar.{adds_more}
use Rattle.pr_draw.proofs.Tagging.{adds_on}
use Rattle.pr_draw.proofs.sheet.write_sheet.Goals as goal

pub returns : goal.returns
returns c =
    adds_on c.args.out.now c.write_definitions.new.out c.write_paper.new.out c.write_paper.result
    (adds_more c.args.out.now c.write_style.new.out c.write_definitions.new.out c.in_ok-write_style.ensures c.in_ok-write_definitions.ensures) c.write_paper.ensures
