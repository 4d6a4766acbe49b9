use Rattle.std.proofs.Common.{◌+◌, refl, sym, ap, ◌∙◌, arith, ◌≡◌, List, ℕ}
use Rattle.pr_log.specs.Sets.{begins_at, lacks}
use Rattle.pr_log.specs.Tail.{with_tail}
use Rattle.pr_log.specs.declared.tail.Tail.{Tail}
use Rattle.pr_names.specs.Span.{Span}
use Rattle.std.specs.Prelude.{Some}
use Rattle.pr_log.proofs.Standing.{put_off_within, put_off_others}
use Rattle.pr_log.proofs.Tails.{tail_at, tail_not}
use Rattle.pr_log.proofs.segments.put_off.Goals as goal

pub returns-clause-within : goal.returns-clause-within
returns-clause-within c o k name le within =
    let row : List (ℕ × List Span) = c.args.sets.now.entries in
    let mid : List (ℕ × List Span) = c.begin_unless_same.new.sets.entries in
    let last : Tail = record { start = c.args.hi + 1; set = c.args.tail.set } in
    put_off_within (begins_at (with_tail (Some c.args.tail) row)) (begins_at mid) (begins_at (with_tail (Some last) mid)) c.args.tail.start c.args.hi
    c.args.tail.set c.in_ok-left.left c.args.target.now o name c.requires.some (tail_at c.args.tail row c.args.tail.start refl)
    (λ t above to. tail_not c.args.tail row t (λ e. omega (arith, e, above)) ∙ c.requires.before t (omega (arith, above)))
    (c.in_ok-left.ensures.names o name) c.in_ok-begin_unless_same.ensures.begins
    (λ q other. c.in_ok-begin_unless_same.ensures.others q other ∙ sym (tail_not c.args.tail row q other))
    (λ q other. tail_not last mid q other)
    k le within

pub returns-clause-others : goal.returns-clause-others
returns-clause-others c o k name apart =
    let row : List (ℕ × List Span) = c.args.sets.now.entries in
    let mid : List (ℕ × List Span) = c.begin_unless_same.new.sets.entries in
    let last : Tail = record { start = c.args.hi + 1; set = c.args.tail.set } in
    ap (λ x. lacks x o) (put_off_others (begins_at (with_tail (Some c.args.tail) row)) (begins_at mid) (begins_at (with_tail (Some last) mid)) c.args.tail.start c.args.hi
    c.args.tail.set c.requires.order (tail_at c.args.tail row c.args.tail.start refl)
    (λ t above to. tail_not c.args.tail row t (λ e. omega (arith, e, above)) ∙ c.requires.before t (omega (arith, above)))
    (λ q other. c.in_ok-begin_unless_same.ensures.others q other ∙ sym (tail_not c.args.tail row q other))
    (tail_at last mid (c.args.hi + 1) refl)
    (λ q other. tail_not last mid q other)
    k apart)
