use Rattle.std.proofs.Common.{reverse}
use Rattle.std.specs.Prelude.{IsTrue}
use Rattle.pr_sets.specs.Spans.{IsAllBut, IsComplement, has}
use Rattle.pr_story.specs.Told.{IsPrecise}
use Rattle.pr_sets.specs.Sets.{set_of}
use Rattle.pr_story.proofs.Snapshots.{all_but_precise}
use Rattle.pr_story.proofs.Withholding.{if_ok}
use Rattle.pr_story.proofs.plain.snapshots.target.Goals as goal

pub returns : goal.returns
returns c =
    if_ok c.complement.result (IsComplement c.in_ok-part.part) (λ target. IsAllBut target (λ o. IsTrue (has c.args.names.now o) × IsPrecise c.args.node (reverse c.args.entries.now) (set_of c.args.sets.now o)))
    (λ target rest. all_but_precise c.args.node (reverse c.args.entries.now) (set_of c.args.sets.now) c.args.names.now c.in_ok-precise.precise c.in_ok-part.part target c.in_ok-precise.ensures c.in_ok-part.ensures rest)
    c.complement.ensures
