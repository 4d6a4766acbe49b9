use Rattle.std.proofs.Common.{◌≡◌, ◌∙◌, ℕ, ap, drop, subst, sym, arith}
use Rattle.pr_crew.specs.Lines.{IsMarked, bits_of}
use Rattle.pr_crew.proofs.Bits.{bits_room, marked, none_set, none_there}
use Rattle.pr_crew.proofs.meet_gate.bits.Goals as goal

pub overflow_mul-bits : goal.overflow_mul-bits
overflow_mul-bits c =
    omega (arith, bits_room c.args.lines.now c.args.line c.loop-k.k 0 c.loop-k.bits c.bit-own.result c.loop-k.invariant c.bit-own.ensures c.loop-k-test.true c.loop-k.auto.k c.requires)

pub overflow_add-bits : goal.overflow_add-bits
overflow_add-bits c =
    omega (arith, bits_room c.args.lines.now c.args.line c.loop-k.k 0 c.loop-k.bits c.bit-own.result c.loop-k.invariant c.bit-own.ensures c.loop-k-test.true c.loop-k.auto.k c.requires)

pub returns-clause-marked : goal.returns-clause-marked
returns-clause-marked c =
    let lines = c.args.lines.now in
    let at : c.loop-k.k ≡ 0 = omega (arith, c.loop-k-test.false) in
    let all : c.loop-k.bits ≡ bits_of lines c.args.line = c.loop-k.invariant ∙ ap (λ (n : ℕ). bits_of (drop n lines) c.args.line) at in
    subst (IsMarked lines c.args.line) (sym all) (marked lines c.args.line)

pub returns-clause-absent : goal.returns-clause-absent
returns-clause-absent c =
    let lines = c.args.lines.now in
    let at : c.loop-k.k ≡ 0 = omega (arith, c.loop-k-test.false) in
    let all : c.loop-k.bits ≡ bits_of lines c.args.line = c.loop-k.invariant ∙ ap (λ (n : ℕ). bits_of (drop n lines) c.args.line) at in (
      λ none (k, within, is). none_there lines c.args.line k (sym all ∙ none) within is,
      λ absent. all ∙ none_set lines c.args.line absent,
    )
