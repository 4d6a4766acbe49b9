use Rattle.std.proofs.Common.{◌≡◌, ◌++◌, [], subst, sym, List}
use Rattle.std.specs.Prelude.{ℕ, OnOk}
use Rattle.std.proofs.lemmas.List.{append-nil}
use Rattle.pr_script.specs.Listed.{Declarations}
use Rattle.pr_text.specs.Texts.{rows_text}
use Rattle.pr_text.proofs.Loops.{on_front}
use Rattle.pr_text.proofs.message.push_checkpoint.Goals as goal

pub returns : goal.returns
returns c =
    let r = c.push_rows.result in
    let t = c.push_rows.new.text in
    let rows : OnOk r (t ≡ c.extend.new.self ++ (rows_text c.args.stock.now.list c.args.rows.now ++ [])) =
    subst (λ (k : List ℕ). OnOk r (t ≡ c.extend.new.self ++ k)) (sym (append-nil (rows_text c.args.stock.now.list c.args.rows.now)))
    (subst (λ (d : Declarations). OnOk r (t ≡ c.extend.new.self ++ rows_text d.list c.args.rows.now)) c.decls.ensures c.push_rows.ensures) in
    on_front r t c.push_word.new.text c.args.text.now _ _ c.in_ok-push_word.ensures
    (on_front r t c.push_set.new.text c.push_word.new.text _ _ c.in_ok-push_set.ensures
    (on_front r t c.push_at.new.text c.push_set.new.text _ _ c.in_ok-push_at.ensures
    (on_front r t c.push_at-2.new.text c.push_at.new.text _ _ c.in_ok-push_at-2.ensures
    (on_front r t c.extend.new.self c.push_at-2.new.text _ _ c.in_ok-extend.ensures.ok rows))))
