use Rattle.std.proofs.Common.{List, refl, subst, sym, ◌∙◌, ℕ}
use Rattle.pr_names.specs.Span.{Span}
use Rattle.pr_node.specs.Stored.{means}
use Rattle.pr_story.specs.Told.{IsStart}
use Rattle.pr_top.proofs.asker.Asker.ask.Goals as goal

pub returns : goal.returns
returns c = λ of names bodies.
    let m = means c.args.self.now.node.now in
    record {
      number_is = refl;
      start = subst (λ (n : ℕ). IsStart m.sets n m.journal of.names c.start-start.result) (sym c.requires.own)
          (subst (λ (o : List Span). IsStart m.sets m.id m.journal o c.start-start.result) (sym names) c.start-start.ensures);
      names = c.in_ok-copy.ensures ∙ sym names;
      bodies = sym bodies;
      turns = refl;
    }
