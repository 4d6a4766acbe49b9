use Rattle.pr_text.proofs.Loops.{on_front}
use Rattle.pr_text.proofs.message.push_imprecise.Goals as goal

pub returns : goal.returns
returns c =
    let r = c.push_span.result in
    let t = c.push_span.new.text in
    on_front r t c.push_word.new.text c.args.text.now _ _ c.in_ok-push_word.ensures
    (on_front r t c.push_set.new.text c.push_word.new.text _ _ c.in_ok-push_set.ensures c.push_span.ensures)
