use Rattle.std.proofs.Common.{◌≡◌, ◌<◌, [], ℕ, get_or, length}
use Rattle.pr_stamps.specs.Kept.{Kept}
use Rattle.pr_story.specs.declared.entry.Entry.{Entry}
use Rattle.pr_top.proofs.reopening.new_journals.Given as goal

abbrev pub invariant-loop : goal.invariant-loop
invariant-loop l = record {
  many : length l.journals.items ≡ l.counter;
  each : (n : ℕ) (d : Kept Entry) → n < length l.journals.items → (get_or l.journals.items n d).items ≡ [];
}
