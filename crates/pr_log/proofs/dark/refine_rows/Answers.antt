use Rattle.std.proofs.Common.{◌≡◌, ◌≤◌, ◌<◌, [], ℕ, List, inl, inr, arith, get_or, length-set, ◌∙◌, refl, subst}
use Rattle.std.proofs.lemmas.Bool.{cases_lt}
use Rattle.pr_vectors.specs.Vector.{clock_of}
use Rattle.pr_names.specs.Span.{Span}
use Rattle.pr_log.specs.Dark.{IsRowRefined}
use Rattle.pr_log.proofs.Lit.{row_none, row_within}
use Rattle.pr_stamps.proofs.Places.{done_more, done_same, rest_more}
use Rattle.pr_log.proofs.dark.refine_rows.Goals as goal
use Rattle.pr_log.proofs.dark.refine_rows.Goals.{then-n-own+in_ok-refine, else-n-own}

pub loop-n-smaller : goal.loop-n-smaller
loop-n-smaller c = omega (arith, c.in-Some.ensures.from, c.in-Some.ensures.range)

pub loop-n-preserved : goal.loop-n-preserved
loop-n-preserved c =
    let items = c.loop-n.rows.items in
    let first = c.args.rows.now.items in
    let n = c.in-Some.n in
    let from = clock_of c.args.from.now in
    let to = clock_of c.args.to.now in
    let target = c.args.target.now in
    let C : ℕ → List (ℕ × List Span) → List (ℕ × List Span) → Type 0 = λ k new old. ¬ (k ≡ c.args.own) → IsRowRefined (from k) (to k) target old new in
    let rest : (k : ℕ) → n ≤ k → get_or items k [] ≡ get_or first k [] = λ k le. c.loop-n.invariant.rest k (omega (arith, le, c.in-Some.ensures.from)) in
    let done : (k : ℕ) → k < n → C k (get_or items k []) (get_or first k []) = λ k lt. elim (cases_lt k c.loop-n.start) [
      | inl here ↦ c.loop-n.invariant.done k here
      | inr past ↦ λ other. rw (c.loop-n.invariant.rest k past) (row_none (from k) (to k) target (get_or first k []) (c.in-Some.ensures.least k past lt))
    ] in
    elim c.if-n-own.branch [
      | then-n-own+in_ok-refine w ↦
          let old = w.index_mut-row.result.now in
          let new = w.refine.new.self in
          record {
            len = rw w.rows-is (length-set items n new ∙ c.loop-n.invariant.len);
            done = rw w.rows-is (done_more C items first [] n old new (omega (arith, c.loop-n.invariant.len, c.in-Some.ensures.range)) w.index_mut-row.ensures.value
                (λ other. subst (λ m. IsRowRefined (from n) m target old new) w.at-then-n-own.ensures.value (subst (λ m. IsRowRefined m w.at-then-n-own.result target old new) w.at.ensures.value (row_within w.at.result w.at-then-n-own.result target old new w.in_ok-refine.ensures.within w.in_ok-refine.ensures.others)))
                done rest);
            rest = rw w.rows-is (rest_more items first [] n new rest);
          }
      | else-n-own w ↦ record {
        len = rw w.rows-is c.loop-n.invariant.len;
        done = rw w.rows-is (done_same C items first [] n (λ x other. absurd (other w.if-n-own.false)) done rest);
        rest = rw w.rows-is (λ k le. rest k (omega (arith, le)));
      }
    ]

pub returns-clause-each : goal.returns-clause-each
returns-clause-each c n lt other = elim (cases_lt n c.loop-n.start) [
  | inl here ↦ c.loop-n.invariant.done n here other
  | inr past ↦ rw (c.loop-n.invariant.rest n past) (row_none (clock_of c.args.from.now n) (clock_of c.args.to.now n) c.args.target.now _ (c.in_default.ensures.none refl n past lt))
]
