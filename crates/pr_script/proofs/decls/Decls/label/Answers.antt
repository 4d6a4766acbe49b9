use Rattle.std.proofs.Common.{List, [], ℕ, ap, get_or, sym, ◌∙◌}
use Rattle.std.proofs.lemmas.List.{get_or_past}
use Rattle.pr_script.specs.Printing.{label_text}
use Rattle.pr_script.proofs.decls.Decls.label.Goals as goal

pub returns-in-Some : goal.returns-in-Some
unfolding label_text
returns-in-Some c = c.as_slice.ensures ∙ c.in-Some.ensures.lookup.3.1 [] ∙ ap (λ (ls : List (List ℕ)). get_or ls c.args.number []) c.labels.ensures

pub returns-in-None : goal.returns-in-None
unfolding label_text
returns-in-None c = c.as_slice-in-None.ensures ∙ sym (get_or_past _ c.args.number [] c.in-None.ensures.lookup.3) ∙ ap (λ (ls : List (List ℕ)). get_or ls c.args.number []) c.labels.ensures
