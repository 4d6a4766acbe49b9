use Rattle.std.proofs.Common.{refl, sym, subst}
use Rattle.pr_script.specs.declared.script.Script.{Script}
use Rattle.pr_script.specs.Good.{IsGood}
use Rattle.pr_script.specs.Labels.{AreLabels}
use Rattle.pr_gen.proofs.Numbering.{script_is}
use Rattle.pr_gen.proofs.Rings.{labels}
use Rattle.pr_gen.proofs.Runs.{good}
use Rattle.pr_gen.proofs.making.script.Goals as goal

pub returns : goal.returns
returns c =
    let is = script_is c.args.seed c.args.size c.in_ok-decls.decls.list c.stepped.new.commands c.in_ok-decls.ensures
    (rw (c.in_ok-stepped.ensures, c.in_ok-attached.ensures, c.new-commands.ensures) refl) in
    record {
      script = is;
      labels = subst (λ (s : Script). AreLabels s.decls.list) (sym is) labels;
      good = subst (λ (s : Script). IsGood s) (sym is) (good c.args.seed c.args.size c.requires);
    }
