use Rattle.std.proofs.Common.{◌≡◌, ◌≤◌, ℕ, List, ◌∷◌, length, take, drop, sym, ap, subst, ◌∙◌}
use Rattle.std.specs.Prelude.{reverse}
use Rattle.pr_keep.specs.declared.change.Change.{Change}
use Rattle.pr_keep.specs.declared.change.Change.TheVariants.{Wrote}
use Rattle.pr_keep.specs.Memory.{IsImage, Memory, reads_of}
use Rattle.pr_keep.proofs.MemoryLemmas.{newest_first, same_images, still_made, wrote_images}
use Rattle.pr_keep.proofs.memory_disk.MemoryDiskDisk.write.Goals as goal

pub overwrite-requires : goal.overwrite-requires
overwrite-requires c = record {
  place = subst (λ (t : List ℕ). c.args.at ≤ length t) (ap (λ (m : Memory). reads_of m.changes) (sym c.self.view_is) ∙ sym c.self.invariant.0.reads) c.requires;
}

pub returns-in_err-overwrite-clause-images : goal.returns-in_err-overwrite-clause-images
returns-in_err-overwrite-clause-images c = λ image now.
    let same : reverse c.overwrite.new.changes.items ≡ c.args.self.now.changes = ap reverse c.in_err-overwrite.ensures.err.1 ∙ ap (λ (m : Memory). m.changes) c.self.view_is in
    same_images c.args.at (length c.args.piece.now) c.args.self.now.changes image (subst (λ (l : List Change). IsImage l image) same now)

pub invariant_of-self-2 : goal.invariant_of-self-2
invariant_of-self-2 c = (
  still_made c.self.inside.bytes.items c.overwrite.new.bytes.items c.self.inside.changes.items c.overwrite.new.changes.items c.args.at c.args.piece.now
      c.self.invariant.0 (subst (λ (t : List ℕ). c.args.at ≤ length t) (ap (λ (m : Memory). reads_of m.changes) (sym c.self.view_is) ∙ sym c.self.invariant.0.reads) c.requires) c.in_ok-overwrite.ensures.ok,
  c.self.invariant.1,
)

pub returns-clause-images : goal.returns-clause-images
returns-clause-images c = λ image now.
    let old = c.self.inside.bytes.items in
    let change : Change = Wrote c.args.at c.args.piece.now (take (length c.args.piece.now) (drop c.args.at old)) in
    let is : c.count_good.new.self.changes ≡ change ∷ c.args.self.now.changes =
    ap (λ (m : Memory). m.changes) c.count_good.ensures
    ∙ ap reverse c.in_ok-overwrite.ensures.ok.changes
    ∙ newest_first c.self.inside.changes.items change
    ∙ ap (λ (m : Memory). change ∷ m.changes) c.self.view_is in
    wrote_images c.args.at c.args.piece.now (take (length c.args.piece.now) (drop c.args.at old)) c.args.self.now.changes c.requires image (subst (λ (l : List Change). IsImage l image) is now)
