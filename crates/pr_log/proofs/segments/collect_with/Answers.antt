use Rattle.std.proofs.Common.{arith}
use Rattle.pr_log.specs.Sets.{is_gathered}
use Rattle.pr_log.proofs.Tails.{dark_before, dark_behind, dark_both, ok_or}
use Rattle.pr_log.proofs.segments.collect_with.Goals as goal

pub returns-then-tail-lo : goal.returns-then-tail-lo
returns-then-tail-lo c = ok_or c.add_copy.result (λ w o name.
    dark_behind c.args.tail.now c.args.sets.now.entries c.args.lo c.args.hi o (is_gathered c.add_copy.new.self o) (is_gathered c.args.names.now o) c.requires.before c.if-tail-lo.true c.requires.order (w o name))
    c.add_copy.ensures

pub returns-then-hi-tail : goal.returns-then-hi-tail
returns-then-hi-tail c = ok_or c.collect.result (λ w o name.
    dark_before c.args.tail.now c.args.sets.now.entries c.args.lo c.args.hi o (is_gathered c.collect.new.names o) (is_gathered c.args.names.now o) c.if-hi-tail.true (w o name))
    c.collect.ensures

pub returns : goal.returns
returns c = ok_or c.add_copy-2.result (λ w o name.
    dark_both c.args.tail.now c.args.sets.now.entries c.args.lo c.args.hi o (is_gathered c.add_copy-2.new.self o) (is_gathered c.collect-2.new.names o) (is_gathered c.args.names.now o) c.requires.before
    (omega (arith, c.if-tail-lo.false)) (omega (arith, c.if-hi-tail.false)) (c.in_ok-collect.ensures o name) (w o name))
    c.add_copy-2.ensures
