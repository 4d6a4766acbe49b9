use Rattle.std.proofs.Common.{refl}
use Rattle.std.specs.Prelude.{codes}
use Rattle.pr_draw.specs.Tags.{escaped}
use Rattle.pr_draw.specs.declared.sheet.TheConstants.{STYLE}
use Rattle.pr_draw.proofs.Grammar.{a_text, text_content}
use Rattle.pr_draw.proofs.Tagging.{adds_block}
use Rattle.pr_draw.proofs.sheet.write_style.Goals as goal

pub returns : goal.returns
returns c =
    adds_block c.args.out.now c.extend.new.self c.escape.new.out c.extend-2.new.self (codes "style") (escaped STYLE.now) c.extend-2.result refl
    (text_content (escaped STYLE.now) (a_text STYLE.now)) c.in_ok-extend.ensures.ok c.in_ok-escape.ensures c.extend-2.ensures.ok
