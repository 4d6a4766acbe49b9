use Rattle.std.proofs.Common.{refl}
use Rattle.std.specs.Prelude.{codes}
use Rattle.pr_draw.proofs.Grammar.{adds_more}
use Rattle.pr_draw.proofs.Tagging.{adds_block}
use Rattle.pr_draw.proofs.sheet.write_definitions.Goals as goal

pub returns : goal.returns
returns c =
    let inner = adds_more c.extend.new.self c.write_symbols.new.out c.write_heads.new.out c.in_ok-write_symbols.ensures c.in_ok-write_heads.ensures in
    adds_block c.args.out.now c.extend.new.self c.write_heads.new.out c.extend-2.new.self (codes "defs") inner.0 c.extend-2.result refl
    inner.1 c.in_ok-extend.ensures.ok inner.2 c.extend-2.ensures.ok
