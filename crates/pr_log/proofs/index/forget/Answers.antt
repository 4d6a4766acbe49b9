use Rattle.std.proofs.Common.{[], ℕ, List, arith, inl, inr, length-set, sym, ◌∙◌, subst}
use Rattle.pr_vectors.specs.Vector.{clock_of}
use Rattle.pr_inval.specs.declared.write_rec.WriteRec.{WriteRec}
use Rattle.pr_log.specs.Known.{IsForgottenUpTo, row_of}
use Rattle.pr_stamps.proofs.Places.{done_more, rest_more}
use Rattle.pr_log.proofs.Clocks.{less_or}
use Rattle.pr_log.proofs.Stamped.{none_forgotten}
use Rattle.pr_log.proofs.index.forget.Goals as goal

pub loop-n-preserved : goal.loop-n-preserved
loop-n-preserved c = record {
  len = length-set c.loop-n.rows.items c.loop-n.n c.forget.new.self ∙ c.loop-n.invariant.len;
  done = done_more (λ k (new : List (ℕ × WriteRec)) (old : List (ℕ × WriteRec)). IsForgottenUpTo (clock_of c.args.cut.now k) old new) c.loop-n.rows.items c.args.rows.now.items [] c.loop-n.n c.index_mut-row.result.now c.forget.new.self (omega (arith, c.loop-n.invariant.len, c.requires.most)) c.index_mut-row.ensures.value
      (subst (λ m. IsForgottenUpTo m c.index_mut-row.result.now c.forget.new.self) c.at.ensures.value c.forget.ensures)
      c.loop-n.invariant.done c.loop-n.invariant.rest;
  rest = rest_more c.loop-n.rows.items c.args.rows.now.items [] c.loop-n.n c.forget.new.self c.loop-n.invariant.rest;
}

pub returns-clause-each : goal.returns-clause-each
returns-clause-each c n lt = elim (less_or n c.loop-n.n) [
  | inl below ↦ c.loop-n.invariant.done n below
  | inr on ↦ subst (λ row. IsForgottenUpTo (clock_of c.args.cut.now n) (row_of c.args.rows.now.items n) row) (sym (c.loop-n.invariant.rest n on)) (none_forgotten c.args.rows.now.items c.args.nodes n (clock_of c.args.cut.now n) c.requires.within (omega (arith, on, c.loop-n-test.false)))
]
