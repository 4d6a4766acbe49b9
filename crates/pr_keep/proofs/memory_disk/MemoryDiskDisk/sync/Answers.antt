use Rattle.std.proofs.Common.{◌≡◌, List, ◌∷◌, ap, subst, ◌∙◌}
use Rattle.std.specs.Prelude.{reverse}
use Rattle.pr_keep.specs.declared.change.Change.{Change}
use Rattle.pr_keep.specs.declared.change.Change.TheVariants.{Synced}
use Rattle.pr_keep.specs.Memory.{IsImage, Memory}
use Rattle.pr_keep.proofs.MemoryLemmas.{newest_first, synced_images}
use Rattle.pr_keep.proofs.memory_disk.MemoryDiskDisk.sync.Goals as goal

pub returns-clause-images : goal.returns-clause-images
returns-clause-images c = λ image now.
    let is : c.count_good.new.self.changes ≡ Synced ∷ c.args.self.now.changes =
    ap (λ (m : Memory). m.changes) c.count_good.ensures
    ∙ ap reverse c.in_ok-push.ensures.items
    ∙ newest_first c.self.inside.changes.items Synced
    ∙ ap (λ (m : Memory). Synced ∷ m.changes) c.self.view_is in
    synced_images c.args.self.now.changes image (subst (λ (l : List Change). IsImage l image) is now)
