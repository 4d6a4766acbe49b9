use Rattle.std.proofs.Common.{◌≡◌, List, arith, ap, subst, sym, ◌∙◌, drop}
use Rattle.pr_names.specs.Span.{Span}
use Rattle.pr_names.proofs.Places.{le_places, lt_places}
use Rattle.pr_sets.specs.Joining.{puts}
use Rattle.pr_sets.specs.Spans.{IsUnion}
use Rattle.pr_sets.proofs.Merges.{Merging, merge_begins, merge_left, merge_right, left_ends, right_ends}
use Rattle.pr_sets.proofs.Turns.{rest_is}
use Rattle.pr_sets.proofs.union.merged.Goals as goal
use Rattle.pr_sets.proofs.union.merged.Goals.{then-loop-i-test+else-j-b, else-loop-i-test}

pub loop-i-init : goal.loop-i-init
loop-i-init c =
    let P : List Span → Type 0 = λ k. Merging c.args.a.now c.args.b.now 0 0 k in
    subst P (sym c.in_ok-joiner.ensures) (merge_begins c.args.a.now c.args.b.now c.requires.a c.requires.b)

pub loop-i-preserved-then-begins_before : goal.loop-i-preserved-then-begins_before
loop-i-preserved-then-begins_before c =
    merge_right c.args.a.now c.args.b.now c.loop-i.i c.loop-i.j c.loop-i.joiner c.put.new.self c.index-a-i.result c.index-b-j.result
    (omega arith) (omega arith) c.index-a-i.is c.index-b-j.is
    (lt_places c.index-b-j.result.lo c.index-a-i.result.lo c.begins_before.ensures.interval.lo c.begins_before.ensures.other.lo (sym c.begins_before.ensures.value ∙ c.if-begins_before.true))
    c.in_ok-put.ensures c.loop-i.invariant

pub loop-i-preserved : goal.loop-i-preserved
loop-i-preserved c =
    merge_left c.args.a.now c.args.b.now c.loop-i.i c.loop-i.j c.loop-i.joiner c.put-else-begins_before.new.self c.index-a-i.result c.index-b-j.result
    (omega arith) (omega arith) c.index-a-i.is c.index-b-j.is
    (le_places c.index-b-j.result.lo c.index-a-i.result.lo c.begins_before.ensures.interval.lo c.begins_before.ensures.other.lo (sym c.begins_before.ensures.value ∙ c.if-begins_before.false))
    c.in_ok-put-2.ensures c.loop-i.invariant

pub returns : goal.returns
returns c =
    let merged : IsUnion c.args.a.now c.args.b.now (puts (puts c.loop-i.joiner (drop c.loop-i.i c.args.a.now)) (drop c.loop-i.j c.args.b.now)) =
    elim c.loop-i-test.branch [
      | then-loop-i-test+else-j-b w ↦ right_ends c.args.a.now c.args.b.now c.loop-i.i c.loop-i.j c.loop-i.joiner (omega arith) c.loop-i.invariant
      | else-loop-i-test w ↦ left_ends c.args.a.now c.args.b.now c.loop-i.i c.loop-i.j c.loop-i.joiner (omega arith) c.loop-i.invariant
    ]
    in
    let a_put : c.put_all.new.self ≡ puts c.loop-i.joiner (drop c.loop-i.i c.args.a.now) =
    c.in_ok-put_all.ensures ∙ ap (puts c.loop-i.joiner) (rest_is c.args.a.now c.loop-i.i) in
    let b_put : c.put_all-2.new.self ≡ puts c.put_all.new.self (drop c.loop-i.j c.args.b.now) =
    c.in_ok-put_all-2.ensures ∙ ap (puts c.put_all.new.self) (rest_is c.args.b.now c.loop-i.j) in
    let P : List Span → Type 0 = λ k. IsUnion c.args.a.now c.args.b.now k in
    subst P (sym (c.finish.ensures ∙ b_put ∙ ap (λ k. puts k (drop c.loop-i.j c.args.b.now)) a_put)) merged
