use Rattle.std.proofs.Common.{ℕ, List, arith, subst, sym}
use Rattle.pr_keep.specs.Files.{StandsFor}
use Rattle.pr_keep.specs.Keeping.{Keeps}
use Rattle.pr_keep.specs.Memory.{IsImage, Memory, state_of}
use Rattle.pr_story.specs.declared.entry.Entry.{Entry}
use Rattle.pr_top.proofs.StoppedDisks.{image_lasts, memory_wanted}
use Rattle.pr_top.proofs.reopening.reopened.Goals as goal

pub wanted-requires : goal.wanted-requires
wanted-requires c =
    let es = c.requires.0 in
    let stands = subst (λ (m : Memory). StandsFor (state_of m).reads es) (sym c.image.ensures) c.requires.1 in
    memory_wanted c.in-Err.field-0.fault (c.in-Err.ensures.same es stands).1
    (image_lasts c.args.disk c.image.result c.in-Err.field-0.disk c.in-Err.field-0.fault c.image.ensures c.in-Err.ensures.cause (omega (arith, c.good.type_inv, c.good.ensures.value)))

pub returns-in-Ok : goal.returns-in-Ok
returns-in-Ok c = λ es stands.
    let same = (c.in-Ok.ensures.same es (subst (λ (m : Memory). StandsFor (state_of m).reads es) (sym c.image.ensures) stands)).0 in
    (same, subst (λ (xs : List (ℕ × Entry)). Keeps state_of (λ (m : Memory). IsImage m.changes) c.in-Ok.opened.0 xs) same c.in-Ok.ensures.ok.0)
