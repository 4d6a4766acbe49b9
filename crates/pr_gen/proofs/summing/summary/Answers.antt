use Rattle.std.proofs.Common.{◌≡◌, ◌++◌, ◌∙◌, ℕ, List, ap, sym, subst, length}
use Rattle.std.specs.List.{flat_map, range_with_len}
use Rattle.std.specs.Prelude.{OnOk}
use Rattle.pr_story.proofs.Places.{entries_placed}
use Rattle.pr_text.proofs.Loops.{on_front}
use Rattle.pr_text.specs.Endings.{ok_line}
use Rattle.pr_gen.specs.Summary.{count_line, node_count, vector_line, words}
use Rattle.pr_gen.proofs.summing.summary.Goals as goal

pub returns : goal.returns
returns g c h a =
    let ds = c.args.decls.now.list in
    let counts = flat_map (count_line h) words in
    let vectors = flat_map (vector_line ds h) (range_with_len 0 (node_count ds)) in
    let first : c.push_counts.new.out ≡ c.args.out.now ++ counts = c.in_ok-push_counts.ensures h (c.tally.ensures h a) in
    let second : c.push_vectors.new.out ≡ c.push_counts.new.out ++ vectors =
    c.in_ok-push_vectors.ensures h a in
    let many = ap (λ (ps : List (ℕ × ℕ)). length ps) (c.history.ensures ∙ a.places) ∙ (entries_placed h).many in
    let third = subst (λ (n : ℕ). OnOk c.ok.result (c.ok.new.out ≡ c.push_vectors.new.out ++ ok_line n)) many c.ok.ensures.ok in
    on_front c.ok.result c.ok.new.out c.push_counts.new.out c.args.out.now counts (vectors ++ ok_line (length h)) first
    (on_front c.ok.result c.ok.new.out c.push_vectors.new.out c.push_counts.new.out vectors (ok_line (length h)) second third)
