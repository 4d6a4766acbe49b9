use Rattle.pr_inval.specs.declared.imprecise.Imprecise.{Imprecise}
use Rattle.pr_inval.proofs.Merges.{covers}
use Rattle.pr_inval.proofs.merging.merge.Goals as goal

pub returns-clause-covers : goal.returns-clause-covers
returns-clause-covers c p lt =
    let m : Imprecise = record { from = c.meet.result; to = c.join.result; target = c.in_ok-target.target } in
    covers c.args.a.now c.args.b.now m p c.requires.adjacent c.requires.a_rises c.requires.b_rises
    (record { from = c.meet.ensures; to = c.join.ensures; target = c.in_ok-target.ensures }) lt
