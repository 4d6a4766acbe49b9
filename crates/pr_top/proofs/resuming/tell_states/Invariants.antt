use Rattle.std.proofs.Common.{◌≡◌, ◌≤◌, List, length, reverse}
use Rattle.pr_keep.specs.Keeping.{Keeps}
use Rattle.pr_keep.specs.Memory.{IsImage, Memory, state_of}
use Rattle.pr_story.specs.History.{NodeEntry}
use Rattle.pr_top.specs.Kept.{placed}
use Rattle.pr_top.specs.Resuming.{AreJournals, CanResume}
use Rattle.pr_top.proofs.StatesTold.{HasResumed}
use Rattle.pr_top.proofs.resuming.tell_states.Given as goal

abbrev pub invariant-loop-journal : goal.invariant-loop-journal
invariant-loop-journal g l = record {
  can_next : (goal.iterator-loop-journal g).can_next l.journal-iterator;
  is_finite : (goal.iterator-loop-journal g).is_finite l.journal-iterator;
  rises : g.K.Sink.faults l.fn.out ≤ g.K.Sink.faults l.out;
  at : l.number ≡ length l.yielded;
  told : (h : List NodeEntry) → CanResume l.decls.list h → AreJournals l.decls.list h l.fn.journals.items → Keeps state_of (λ (m : Memory). IsImage m.changes) l.fn.keep (placed (reverse h))
      → HasResumed l.decls.list h l.number l.keep (g.K.Sink.text l.fn.out) (g.K.Sink.text l.out);
}
