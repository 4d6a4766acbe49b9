use Rattle.std.proofs.Common.{ℕ, Vec, Global, ap, ◌∙◌, arith}
use Rattle.pr_keep.specs.Disk.{written}
use Rattle.pr_keep.proofs.DiskLemmas.{undone_past, undone_within}
use Rattle.pr_keep.proofs.change.undo.Goals as goal
use Rattle.pr_keep.proofs.change.undo.Goals.{then-over-len, else-over-len}

pub returns : goal.returns
returns c = λ piece old was len.
    let over = c.args.over.now in
    let bytes = c.args.bytes.now.items in
    elim c.if-over-len.branch [
      | then-over-len w ↦ c.lay.ensures
          ∙ ap (λ (v : Vec ℕ Global). written c.args.at over v.items) w.bytes-is
          ∙ ap (written c.args.at over) w.truncate.ensures.items
          ∙ undone_past bytes c.args.at piece over old was (omega (arith, w.if-over-len.true, len))
      | else-over-len w ↦ c.lay.ensures
          ∙ ap (λ (v : Vec ℕ Global). written c.args.at over v.items) w.bytes-is
          ∙ undone_within bytes c.args.at piece over old was (omega (arith, w.if-over-len.false, len))
    ]
