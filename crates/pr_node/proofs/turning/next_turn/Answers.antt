use Rattle.std.proofs.Common.{ℕ, ◌≡◌, ◌≤◌, ◌<◌, subst, sym, reverse}
use Rattle.pr_inval.specs.Standing.{Standing, means}
use Rattle.pr_inval.specs.declared.step.Step.{Step}
use Rattle.pr_story.specs.Turns.{event_of}
use Rattle.pr_story.proofs.Withholding.{if_ok}
use Rattle.pr_node.specs.Sending.{IsNextTurn}
use Rattle.pr_node.specs.Ties.{IsTied}
use Rattle.pr_node.proofs.Spelled.{any_spelled}
use Rattle.pr_node.proofs.Stepping.{turn_at}
use Rattle.pr_node.proofs.turning.next_turn.Goals as goal

pub returns-clause-next : goal.returns-clause-next
returns-clause-next c =
    let j = reverse c.args.journal.now.items in
    let N : Step → Type 0 = λ s. (n : ℕ) → IsTied n (reverse c.args.journal.now.items) c.args.stores.now → IsNextTurn n (reverse c.args.journal.now.items) (means c.room.new.self) c.args.time (event_of (means c.room.new.self).stream s) in
    if_ok c.next_step.result N _ (λ s so n tied. turn_at n j (means c.args.session.now) (means c.room.new.self) c.args.time s c.room.ensures.same (so n tied)) c.next_step.ensures.next

pub returns-clause-spelled : goal.returns-clause-spelled
returns-clause-spelled c =
    let same : (means c.room.new.self).standing ≡ (means c.args.session.now).standing = c.room.ensures.same.standing in
    any_spelled c.next_step.result (reverse c.args.journal.now.items) c.args.stores.now (means c.room.new.self) c.args.time
    (subst (λ (x : Standing). x.number ≤ x.time) (sym same) (subst (λ (k : ℕ). k ≤ (means c.args.session.now).standing.time) c.number.ensures.value c.number.ensures.less))
    (subst (λ (x : Standing). x.time < c.args.time) (sym same) c.requires.later) c.requires.most c.next_step.ensures.next c.next_step.ensures.range
