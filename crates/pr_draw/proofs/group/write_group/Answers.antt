use Rattle.pr_draw.proofs.Groups.{is_group}
use Rattle.pr_draw.proofs.group.write_group.Goals as goal

pub returns : goal.returns
returns c =
    is_group c.args.line.now c.args.out.now c.extend.new.self c.escape.new.out c.extend-2.new.self c.write_shapes.new.out c.extend-3.new.self c.extend-3.result
    c.in_ok-extend.ensures.ok c.in_ok-escape.ensures c.in_ok-extend-2.ensures.ok c.in_ok-write_shapes.ensures c.extend-3.ensures.ok
