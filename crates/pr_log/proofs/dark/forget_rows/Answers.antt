use Rattle.std.proofs.Common.{◌≡◌, [], ℕ, List, ◌<◌, ap, arith, inl, inr, length-set, ◌∙◌, subst}
use Rattle.pr_vectors.specs.Vector.{clock_of}
use Rattle.pr_names.specs.Span.{Span}
use Rattle.pr_log.specs.Sets.{is_lit_at}
use Rattle.pr_stamps.proofs.Places.{done_more, rest_more}
use Rattle.pr_log.proofs.Clocks.{less_or}
use Rattle.pr_log.proofs.dark.forget_rows.Goals as goal

pub loop-n-preserved : goal.loop-n-preserved
loop-n-preserved c = record {
  len = length-set c.loop-n.rows.items c.loop-n.n c.forget.new.self ∙ c.loop-n.invariant.len;
  done = done_more (λ k (new : List (ℕ × List Span)) (old : List (ℕ × List Span)). (o : List ℕ) (x : ℕ) → clock_of c.args.cut.now k < x → is_lit_at new o x ≡ is_lit_at old o x) c.loop-n.rows.items c.args.rows.now.items [] c.loop-n.n c.index_mut-row.result.now c.forget.new.self (omega (arith, c.loop-n.invariant.len, c.loop-n.auto.n-end, c.nodes-n-end.ensures.most)) c.index_mut-row.ensures.value
      (subst (λ m. (o : List ℕ) (x : ℕ) → m < x → is_lit_at c.forget.new.self o x ≡ is_lit_at c.index_mut-row.result.now o x) c.at.ensures.value c.forget.ensures)
      c.loop-n.invariant.done c.loop-n.invariant.rest;
  rest = rest_more c.loop-n.rows.items c.args.rows.now.items [] c.loop-n.n c.forget.new.self c.loop-n.invariant.rest;
}

pub returns-clause-each : goal.returns-clause-each
returns-clause-each c n lt = elim (less_or n c.loop-n.n) [
  | inl below ↦ c.loop-n.invariant.done n below
  | inr on ↦ λ o x above. ap (λ row. is_lit_at row o x) (c.loop-n.invariant.rest n on)
]
