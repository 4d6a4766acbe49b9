-- One change more of a disk in memory.
use Rattle.std.proofs.Common.{◌≡◌, inl, inr, ℕ, ◌≤◌, List, [], ◌∷◌, ◌++◌, length, take, drop, sym, ap, subst, ◌∙◌}
use Rattle.std.specs.Prelude.{reverse}
use Rattle.std.proofs.lemmas.List.{reverse-append}
use Rattle.pr_keep.specs.declared.change.Change.{Change}
use Rattle.pr_keep.specs.declared.change.Change.TheVariants.{Wrote, Synced}
use Rattle.pr_keep.specs.Changes.{HasOverwritten}
use Rattle.pr_keep.specs.Disk.{Follows, IsTorn, NoneNew, written}
use Rattle.pr_keep.specs.Memory.{IsImage, IsMade, reads_as_image, reads_of}
use Rattle.pr_keep.proofs.DiskLemmas.{torn_same, written_torn}

pub same_images : (at count : ℕ) (changes : List Change) → Follows (IsTorn at count) (IsImage changes) (IsImage changes)
same_images at count changes c now = (c, now, torn_same at count c)

pub wrote_images : (at : ℕ) (piece over : List ℕ) (changes : List Change) → at ≤ length (reads_of changes) → Follows (IsTorn at (length piece)) (IsImage changes) (IsImage (Wrote at piece over ∷ changes))
wrote_images at piece over changes le c (inl is) = (reads_of changes, reads_as_image changes, subst (IsTorn at (length piece) (reads_of changes)) (sym is) (written_torn at piece (reads_of changes) le))
wrote_images at piece over changes le c (inr torn) = torn

pub synced_images : (changes : List Change) → NoneNew (IsImage changes) (IsImage (Synced ∷ changes))
synced_images changes c is = subst (IsImage changes) (sym is) (reads_as_image changes)

pub newest_first : (old : List Change) (change : Change) → reverse (old ++ change ∷ []) ≡ change ∷ reverse old
newest_first old change = reverse-append old (change ∷ [])

pub still_made : (old new : List ℕ) (before now : List Change) (at : ℕ) (piece : List ℕ) → IsMade old (reverse before) → at ≤ length old → HasOverwritten old new before now at piece → IsMade new (reverse now)
still_made old new before now at piece made le over =
    let le' : at ≤ length (reads_of (reverse before)) = subst (λ (t : List ℕ). at ≤ length t) made.reads le in
    subst (IsMade new) (sym (ap reverse over.changes ∙ newest_first before (Wrote at piece (take (length piece) (drop at old))))) (record {
      reads = over.bytes ∙ ap (written at piece) made.reads;
      undo = (le', ap (λ (t : List ℕ). take (length piece) (drop at t)) made.reads, made.undo);
    })
