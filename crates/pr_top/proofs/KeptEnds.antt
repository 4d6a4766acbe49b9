-- What a kept run leaves of its disk.
use Rattle.std.proofs.Common.{◌≡◌, ◌+◌, ◌*◌, ◌-◌, inl, inr, ℕ, List, [], Option, None, refl, sym, ◌∙◌, ap, subst, arith, length, reverse, take}
use Rattle.std.proofs.lemmas.List.{take-map}
use Rattle.pr_keep.specs.Calls.{HasCause, HasCountedBelow, IsNotDamaged, fails, succeeds}
use Rattle.pr_keep.specs.Disk.{State, counted}
use Rattle.pr_keep.specs.Files.{StandsFor}
use Rattle.pr_keep.specs.Keeping.{Keeps, disk_of}
use Rattle.pr_keep.specs.declared.fault.KeepFault.{KeepFault}
use Rattle.pr_keep.specs.declared.fault.KeepFault.TheVariants as faults
use Rattle.pr_keep.specs.declared.keep.Keep.{Keep}
use Rattle.pr_script.specs.declared.script.Script.{Script}
use Rattle.pr_story.specs.declared.entry.Entry.{Entry}
use Rattle.pr_story.specs.History.{NodeEntry}
use Rattle.pr_top.specs.Kept.{EndsOn, HasMadeFile, HasRunKept, StopsOn, placed}
use Rattle.pr_top.specs.KeptProgress.{HasEndedSo, HasStoppedAt, IsUnmade, KeepsEnded}
use Rattle.pr_top.specs.declared.keeping.KeptEnd.{KeptEnd}
use Rattle.pr_top.specs.declared.keeping.KeptEnd.TheVariants as ends
use Rattle.pr_top.specs.declared.status.Status.{Status}
use Rattle.pr_top.proofs.KeptTold.{none_halted}
use Rattle.pr_top.proofs.Written.{appends_none, risen_then}

-- want of memory is no failure of the disk
no_failure : (old new : State) → HasCause old new (fails faults.NoMemory) → HasCause old new succeeds
no_failure old new c = record {
  later = c.later;
  failed = λ e. absurd (cc);
  lasts = c.lasts;
  stopped = λ n is e. absurd (cc);
  quiet = λ n is other. c.quiet n is (λ e. absurd (cc));
}

module _ {D : Type 0} (state : D → State) (images : D → List ℕ → Type 0) (moment : D → ℕ) (images_since : D → ℕ → List ℕ → Type 0) where
  -- the file that a new one is
  pub file_made : (old : D) (keep : Keep D) → Keeps state images keep [] → (state (disk_of keep)).good ≡ counted (state old).good 2 → HasCause (state old) (state (disk_of keep)) succeeds → HasMadeFile state images moment images_since old (disk_of keep)
  file_made old keep kept good cause = record { stands = kept.stands; only = kept.settled; good = good; cause = cause }

  ended_on : (disk : D) (old new : Keep D) (result : Status) (h : List NodeEntry) → HasMadeFile state images moment images_since disk (disk_of old) → KeepsEnded state images moment images_since old new result h
      → EndsOn state images moment images_since disk (disk_of new) result h
  ended_on disk old new result h file (inl k) =
      let calls : k.calls ≡ 4 * length h + 0 = omega (arith, k.many) in
      record {
        made = disk_of old;
        file = file;
        later = [];
        moments = k.moments;
        more = 0;
        good = k.good ∙ ap (λ (n : ℕ). counted (state (disk_of old)).good n) calls;
        exact = λ other. (refl, refl);
        cause = k.cause;
      }
  ended_on disk old new result h file (inr (same, (later, upto, le, k))) =
      let more : ℕ = 4 * (upto - length h) + k.more in
      let calls : k.calls ≡ 4 * length h + more = omega (arith, k.many, le) in
      record {
        made = disk_of old;
        file = file;
        later = later;
        moments = k.moments;
        more = more;
        good = k.good ∙ ap (λ (n : ℕ). counted (state (disk_of old)).good n) calls;
        exact = λ other. absurd (other same);
        cause = no_failure (state (disk_of old)) (state (disk_of new)) k.cause;
      }

  stopped_on : (disk : D) (old new : Keep D) (s : Script) (kept : List NodeEntry) (told : ℕ) (unmet : Option ℕ) → HasMadeFile state images moment images_since disk (disk_of old) → (at : HasStoppedAt state images moment images_since old new s kept told unmet)
      → StopsOn state images moment images_since disk (disk_of new) kept at.made
  stopped_on disk old new s kept told unmet file at =
      let k = at.short in
      let calls : k.calls ≡ 4 * length kept + k.more = omega (arith, k.many) in
      let front : take (length kept) (placed (reverse at.made)) ≡ placed (reverse kept) =
      take-map (λ (y : NodeEntry). let p : ℕ × Entry = (y.node, y.entry) in p) (length kept) (reverse at.made) ∙ ap placed (sym at.front) in
      record {
        empty = disk_of old;
        file = file;
        moments = k.moments;
        synced = subst (λ (es : List (ℕ × Entry)). StandsFor (state (disk_of new)).synced es) front k.synced;
        more = k.more;
        few = k.few;
        good = k.good ∙ ap (λ (n : ℕ). counted (state (disk_of old)).good n) calls;
        cause = k.cause;
      }

  pub run_on : (disk : D) (old new : Keep D) (s : Script) (failed : Type 0) (a b : Option (List ℕ)) (end : KeptEnd) → HasMadeFile state images moment images_since disk (disk_of old)
      → HasEndedSo state images moment images_since old new s failed a b end → HasRunKept state images moment images_since disk (disk_of new) end s failed a b
  run_on disk old new s failed a b (ends.Ended result) file (run, kept) = (run, inl (ended_on disk old new result run.h file kept))
  run_on disk old new s failed a b (ends.Stopped lines line) file (kept, told, lines_are, at, written) =
      let rose = risen_then (state disk).faults (state (disk_of old)).faults (state (disk_of new)).faults file.cause.later (at.short.cause.failed refl) in
      (rose, inr (kept, at.made, at.stopped, at.is, stopped_on disk old new s kept told line file at, (told, at.within, lines_are, written)))

  -- no file was made
  pub unmade_on : (disk new : D) (s : Script) (failed : Type 0) (a b : Option (List ℕ)) (fault : KeepFault) (end : KeptEnd) → IsNotDamaged fault × HasCountedBelow 2 (state disk).good (state new).good
      → HasCause (state disk) (state new) (fails fault) → IsUnmade failed fault a b end → HasRunKept state images moment images_since disk new end s failed a b
  unmade_on disk new s failed a b faults.Failed end (fine, count) cause (is, same) =
      subst (λ (x : KeptEnd). HasRunKept state images moment images_since disk new x s failed a b) (sym is)
      (subst (λ (o : Option (List ℕ)). HasRunKept state images moment images_since disk new (ends.Stopped 0 None) s failed a o) (sym same)
      (cause.failed refl, inl (refl, refl, appends_none a, record { good = count; cause = cause })))
  unmade_on disk new s failed a b faults.NoMemory end (fine, count) cause (is, line) =
      let none = none_halted state images moment images_since failed failed s a b (λ rose. rose) line in
      subst (λ (x : KeptEnd). HasRunKept state images moment images_since disk new x s failed a b) (sym is)
      (none.0, inr (refl, none.1, (faults.NoMemory, record { good = count; cause = cause })))
  unmade_on disk new s failed a b (faults.Damaged at) end (fine, count) cause made = absurd fine
