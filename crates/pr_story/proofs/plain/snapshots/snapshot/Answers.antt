use Rattle.std.proofs.Common.{◌≡◌, reverse, refl}
use Rattle.pr_inval.specs.declared.kind.Kind.{Kind}
use Rattle.pr_inval.specs.declared.kind.Kind.TheVariants.{Checkpoint}
use Rattle.pr_story.specs.History.{current_vector}
use Rattle.pr_story.specs.Knowledge.{floor_of}
use Rattle.pr_story.specs.Turns.{IsSnapshot}
use Rattle.pr_story.proofs.Withholding.{if_ok}
use Rattle.pr_story.proofs.plain.snapshots.snapshot.Goals as goal

pub returns : goal.returns
returns c =
    let j = reverse c.args.entries.now in
    if_ok c.checkpoint.result (λ kind. kind ≡ Checkpoint (current_vector j) c.in_ok-target.target (floor_of j) c.in_ok-rows.rows) (IsSnapshot c.args.sets.now c.args.node j c.args.names.now)
    (λ kind is. rw is (
      refl,
      refl,
      c.in_ok-target.ensures,
      c.in_ok-rows.ensures.each,
      λ o t name out was. c.in_ok-rows.ensures.all o out t was,
      c.in_ok-rows.ensures.rise,
    ))
    c.checkpoint.ensures
