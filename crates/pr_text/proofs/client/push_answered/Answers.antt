use Rattle.std.proofs.Common.{◌≡◌, ◌++◌, ◌∷◌, ◌∙◌, [], ap, subst, sym, List}
use Rattle.std.specs.Prelude.{ℕ, OnOk, codes}
use Rattle.std.proofs.lemmas.List.{append-nil}
use Rattle.pr_script.specs.Listed.{Declarations}
use Rattle.pr_script.specs.Printing.{label_text}
use Rattle.pr_script.specs.declared.kind.Kind.TheVariants as kinds
use Rattle.pr_text.specs.Texts.{more, vector_text}
use Rattle.pr_text.specs.Lines.{reply_fields}
use Rattle.pr_text.proofs.Loops.{more_append, on_front}
use Rattle.pr_text.proofs.client.push_answered.Goals as goal

pub returns : goal.returns
returns c =
    let r = c.push_at.result in
    let t = c.push_at.new.text in
    let reply = reply_fields c.args.stock.now.list c.args.reply.now in
    let vector = vector_text c.args.stock.now.list c.args.at.now in
    let at : OnOk r (t ≡ c.push_reply.new.text ++ more 32 (codes "at" ∷ vector ∷ [])) =
    subst (λ (k : List ℕ). OnOk r (t ≡ c.push_reply.new.text ++ 32 ∷ (codes "at" ++ 32 ∷ k))) (sym (append-nil vector)) c.push_at.ensures in
    let answer : OnOk r (t ≡ c.push_name.new.text ++ more 32 (reply ++ codes "at" ∷ vector ∷ [])) =
    subst (λ (k : List ℕ). OnOk r (t ≡ c.push_name.new.text ++ k)) (sym (more_append 32 reply (codes "at" ∷ vector ∷ [])))
    (on_front r t c.push_reply.new.text c.push_name.new.text _ _
    (c.in_ok-push_reply.ensures ∙ ap (λ (d : Declarations). c.push_name.new.text ++ more 32 (reply_fields d.list c.args.reply.now)) c.decls-2.ensures) at) in
    on_front r t c.push_about.new.text c.args.text.now _ _
    (c.in_ok-push_about.ensures.ok ∙ ap (λ (d : Declarations). c.args.text.now ++ (codes "read " ++ label_text kinds.Client d.list c.args.client)) c.decls.ensures)
    (on_front r t c.push_name.new.text c.push_about.new.text _ _ c.in_ok-push_name.ensures answer)
