use Rattle.std.proofs.Common.{◌∷◌, true, false}
use Rattle.pr_sim.specs.Making.{declared_of}
use Rattle.pr_check.proofs.Compared.{compared, made_of, none_made, tells}
use Rattle.pr_check.proofs.replay.replay.Goals as goal

pub has_line-requires : goal.has_line-requires
has_line-requires c =
    let k = c.requires.kept in
    let made = made_of c.args.said (declared_of c.args.decls.now.list) k.0 k.1 c.make.new.engine c.in_ok-make.field-0 true c.if-branch.true (c.in_ok-make.ensures (declared_of c.args.decls.now.list) k.0 k.1 k.2) in
    (k.1, made.2.0, tells (declared_of c.args.decls.now.list) _ (made.2.0 ∷ k.1) c.make.new.engine made.2.1)

pub returns-then-branch : goal.returns-then-branch
returns-then-branch c attached h k =
    compared c.args.decls.now.list c.args.said c.args.line.now attached h c.make.new.engine
    (made_of c.args.said (declared_of c.args.decls.now.list) attached h c.make.new.engine c.in_ok-make.field-0 true c.if-branch.true (c.in_ok-make.ensures (declared_of c.args.decls.now.list) attached h k)) c.has_line.result c.has_line.ensures

pub returns-else-branch : goal.returns-else-branch
returns-else-branch c attached h k =
    none_made c.args.decls.now.list c.args.said c.args.line.now attached h c.make.new.engine
    (made_of c.args.said (declared_of c.args.decls.now.list) attached h c.make.new.engine c.in_ok-make.field-0 false c.if-branch.false (c.in_ok-make.ensures (declared_of c.args.decls.now.list) attached h k))
