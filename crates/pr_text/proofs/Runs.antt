-- The lists of entries that lines give, joined, are the entries of the lines.
use Rattle.std.proofs.Common.{◌≡◌, ℕ, Bool, false, List, [], ◌∷◌, refl, sym, ap, subst, ◌∙◌}
use Rattle.std.specs.Prelude.{reverse}
use Rattle.std.proofs.lemmas.List.{reverse-reverse}
use Rattle.pr_story.specs.History.{NodeEntry}
use Rattle.pr_story.specs.Scripts.{Line, Order, AreOfLines, attached_after}
use Rattle.pr_text.specs.Histories.{EachGives, joined, streams_of}
use Rattle.pr_text.specs.Laws.{RunsAreHistories}
use Rattle.pr_text.specs.Steps.{lines_of}

lines_give : (order : Order) (streams : List ℕ) (attached : ℕ → Bool) (lines : List Line) (parts : List (List NodeEntry)) → EachGives order streams attached lines parts
    → AreOfLines order streams attached lines (joined parts)
lines_give order streams attached [] [] h = refl
lines_give order streams attached [] (part ∷ parts) h = absurd h
lines_give order streams attached (line ∷ lines) [] h = absurd h
lines_give order streams attached (line ∷ lines) (part ∷ parts) h = (part, joined parts, refl, h.0, lines_give order streams (attached_after line attached) lines parts h.1)

pub runs_give : RunsAreHistories
runs_give order s h unmet run =
    let is : joined run.parts ≡ reverse h = sym (reverse-reverse (joined run.parts)) ∙ ap reverse (sym run.whole) in
    subst (λ (x : List NodeEntry). AreOfLines order (streams_of s.decls.list) (λ stream. false) (lines_of s.commands) x) is
    (lines_give order (streams_of s.decls.list) (λ stream. false) (lines_of s.commands) run.parts run.each)
