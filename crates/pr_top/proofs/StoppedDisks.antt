-- Where a disk in memory stops, and how many entries it holds then.
use Rattle.std.proofs.Common.{◌≡◌, ℕ, ◌+◌, ◌*◌, ◌<◌, ◌≤◌, zero, suc, List, ◌++◌, Option, Some, inl, inr, refl, sym, ◌∙◌, ap, subst, append_assoc, arith, cond, drop, length, reverse, take, take-append-drop}
use Rattle.std.specs.Prelude.{Bool, true, false, ◌==◌}
use Rattle.std.proofs.lemmas.Bool.Decides.{nat_tests}
use Rattle.std.proofs.lemmas.List.{reverse-append}
use Rattle.pr_keep.specs.Calls.{HasCause, IsNotDamaged, fails}
use Rattle.pr_keep.specs.Disk.{counted}
use Rattle.pr_keep.specs.Memory.{IsImage, IsWithin, Memory, WasImage, image_of, lasts_of, new_memory, state_of}
use Rattle.pr_keep.specs.declared.fault.KeepFault.{KeepFault}
use Rattle.pr_keep.specs.declared.fault.KeepFault.TheVariants.{Damaged, Failed, NoMemory}
use Rattle.pr_script.specs.declared.script.Script.{Script}
use Rattle.pr_script.specs.Good.{AreGoodDecls}
use Rattle.pr_story.specs.Counts.{IsHistory}
use Rattle.pr_story.specs.History.{NodeEntry}
use Rattle.pr_text.specs.Histories.{joined}
use Rattle.pr_text.specs.Numbers.{counts_of}
use Rattle.pr_text.specs.Transcripts.{plan_of}
use Rattle.pr_top.specs.Kept.{HasEndedKept, HasRunKept, HasStoppedKept, IsStoppedIn}
use Rattle.pr_top.specs.Outlived.{HasRunWithin}
use Rattle.pr_top.specs.Resuming.{CanResume, HoldsRest}
use Rattle.pr_top.specs.declared.keeping.KeptEnd.{KeptEnd}
use Rattle.pr_top.specs.declared.keeping.KeptEnd.TheVariants as ends
use Rattle.pr_top.specs.declared.status.Status.{Status}
use Rattle.pr_top.proofs.Resumed.{history_before}
use Rattle.pr_top.proofs.StreamLists.{few_decls}

-- ---- counts

counted_is : (c m n : ℕ) → counted c m ≡ n → n < 18446744073709551615 → c + m ≡ n
counted_is c zero n is lt = omega (arith, is)
counted_is c (suc m) n is lt = omega (arith, is, lt)

counted_within : (c m n : ℕ) → counted c m ≤ n → n < 18446744073709551615 → c + m ≤ n
counted_within c zero n le lt = omega (arith, le)
counted_within c (suc m) n le lt = omega (arith, le, lt)

lasts_is : (stop : ℕ) → stop < 18446744073709551615 → lasts_of stop ≡ stop
lasts_is stop lt = by (stop == 18446744073709551615) (grind (arith, nat_tests))
  where
    by : (b : Bool) → b ≡ false → cond b 18446744073709551616 stop ≡ stop
    by true is = absurd (cc)
    by false is = refl

some_is : (a b : ℕ) → Some a ≡ Some b → a ≡ b
some_is a b same = cc

-- ---- a disk in memory that answers so many calls

abbrev images : Memory → List ℕ → Type 0
images m = IsImage m.changes

abbrev moment : Memory → ℕ
moment m = length m.changes

abbrev images_since : Memory → ℕ → List ℕ → Type 0
images_since m = WasImage m.changes

-- as long as it answers no more than that
good_within : (stop : ℕ) (d : Memory) → (state_of d).lasts ≡ Some (lasts_of stop) → IsWithin d → d.good ≤ lasts_of stop
good_within stop d same within = let e : lasts_of d.stop ≡ lasts_of stop = some_is (lasts_of d.stop) (lasts_of stop) same in omega (arith, e, within)

module _ (stop : ℕ) (least : 2 ≤ stop) (small : stop < 18446744073709551615) (d : Memory) (s : Script) where
  -- a run that ended on it made no more entries than it keeps
  pub ended_within : (result : Status) (failed : Type 0) (a b : Option (List ℕ)) → IsWithin d → HasEndedKept state_of images moment images_since (new_memory stop) d result s failed a b → HasRunWithin stop result s failed a b
  ended_within result failed a b within (run, inl k) =
      let two : (state_of k.made).good ≡ 2 = k.file.good in
      let count : d.good ≡ counted 2 (4 * length run.h + k.more) = k.good ∙ ap (λ (n : ℕ). counted n (4 * length run.h + k.more)) two in
      let few : d.good ≤ lasts_of stop = good_within stop d (k.cause.lasts ∙ k.file.cause.lasts) within in
      let stops = lasts_is stop small in
      let le = counted_within 2 (4 * length run.h + k.more) stop (omega (arith, count, few, stops)) small in
      (run, omega (arith, le))
  ended_within result failed a b within (run, inr (is, none, made)) =
      let zero : length run.h ≡ 0 = ap (λ (es : List NodeEntry). length es) none in (run, omega (arith, zero, least))

  -- where it stopped, it had answered so many
  stopped_so : (from : Memory) → (state_of from).lasts ≡ Some (lasts_of stop) → HasCause (state_of from) (state_of d) (fails Failed) → d.good ≡ stop
  stopped_so from lasts cause = cause.stopped (lasts_of stop) lasts refl ∙ lasts_is stop small

  pub holds_rest : (lines : ℕ) (unmet : Option ℕ) (a b : Option (List ℕ)) → length s.decls.list ≤ 1000000 → HasStoppedKept state_of images moment images_since (new_memory stop) d lines unmet s a b → stop ≤ 1000000000 → HoldsRest stop s d lines unmet a b
  holds_rest lines unmet a b few (rose, inl (none, no_line, written, made)) most =
      let at = stopped_so (new_memory stop) refl made.cause in
      let count = counted_is 0 made.good.count stop (sym made.good.good ∙ at) small in
      let below = made.good.below in
      absurd (omega (arith, count, below, least))
  holds_rest lines unmet a b few (rose, inr (kept, made, stopped, is, on, (told, within, lines_is, written))) most =
      let two : (state_of on.empty).good ≡ 2 = on.file.good in
      let at = stopped_so on.empty on.file.cause.lasts on.cause in
      let count = counted_is 2 (4 * length kept + on.more) stop (ap (λ (n : ℕ). counted n (4 * length kept + on.more)) (sym two) ∙ sym on.good ∙ at) small in
      record {
        kept = kept;
        held = record { made = made; stopped = stopped; is = is; more = on.more; few = on.few; calls = omega (arith, count) };
        stands = on.synced;
        told = told;
        within = within;
        lines_is = omega (arith, lines_is, within, few, count, most);
        written = written;
      }

-- one that does not stop never fails
pub never_stopped : (d : Memory) (lines : ℕ) (unmet : Option ℕ) (s : Script) (a b : Option (List ℕ)) → d.good < 18446744073709551616
    → HasStoppedKept state_of images moment images_since (new_memory 18446744073709551615) d lines unmet s a b → ⊥
never_stopped d lines unmet s a b small (rose, inl (none, no_line, written, made)) =
    let at : d.good ≡ 18446744073709551616 = made.cause.stopped 18446744073709551616 refl refl in absurd (omega (arith, at, small))
never_stopped d lines unmet s a b small (rose, inr (kept, made, stopped, is, on, rest)) =
    let at : d.good ≡ 18446744073709551616 = on.cause.stopped 18446744073709551616 on.file.cause.lasts refl in absurd (omega (arith, at, small))

-- ---- what it holds can be gone on from

pub made_before : (s : Script) (kept made : List NodeEntry) (unmet : Option ℕ) → IsStoppedIn s kept made unmet → (later : List NodeEntry) × (made ≡ later ++ kept)
made_before s kept made unmet k = (
  reverse (drop k.first k.part),
  k.made_is ∙ ap (λ (es : List NodeEntry). reverse (joined k.parts ++ es)) (sym (take-append-drop k.first k.part))
      ∙ ap (λ (es : List NodeEntry). reverse es) (sym (append_assoc (joined k.parts) (take k.first k.part) (drop k.first k.part)))
      ∙ reverse-append (joined k.parts ++ take k.first k.part) (drop k.first k.part)
      ∙ ap (λ (es : List NodeEntry). reverse (drop k.first k.part) ++ es) (sym k.kept_is),
)

pub can_resume : (stop : ℕ) (s : Script) (d : Memory) (lines : ℕ) (unmet : Option ℕ) (a b : Option (List ℕ)) → stop ≤ 1000000000 → (k : HoldsRest stop s d lines unmet a b) → CanResume s.decls.list k.kept
can_resume stop s d lines unmet a b most k =
    let later = made_before s k.kept k.held.made unmet k.held.stopped in
    let calls = k.held.calls in
    record {
      is = history_before (plan_of s.decls.list) (counts_of s.decls.list) later.0 k.kept (subst (λ (es : List NodeEntry). IsHistory (plan_of s.decls.list) (counts_of s.decls.list) es) later.1 k.held.is.0);
      keepable = k.stands.each;
      few = omega (arith, calls, most);
    }

-- ---- the file opened again

-- where neither the disk failed nor the file is damaged, memory was wanted
pub memory_wanted : (fault : KeepFault) → IsNotDamaged fault → (fault ≡ Failed → ⊥) → fault ≡ NoMemory
memory_wanted Failed fine not = absurd (not refl)
memory_wanted NoMemory fine not = refl
memory_wanted (Damaged at) fine not = absurd fine

-- the image has no stop
pub image_lasts : (m from to : Memory) (fault : KeepFault) → from ≡ image_of m → HasCause (state_of from) (state_of to) (fails fault) → to.good < 18446744073709551616 → fault ≡ Failed → ⊥
image_lasts m from to fault is cause small failed =
    let lasts : (state_of from).lasts ≡ Some 18446744073709551616 = ap (λ (d : Memory). (state_of d).lasts) is in
    let at : to.good ≡ 18446744073709551616 = cause.stopped 18446744073709551616 lasts (ap (λ (x : KeepFault). fails x) failed) in
    absurd (omega (arith, at, small))

-- ---- how a run on it ended

module _ (stop : ℕ) (least : 2 ≤ stop) (most : stop ≤ 1000000000) (s : Script) (from d : Memory) (new : from ≡ new_memory stop) (end : KeptEnd) (failed : Type 0) (a b : Option (List ℕ))
    (run : HasRunKept state_of images moment images_since from d end s failed a b) where
  run_now : (e : KeptEnd) → end ≡ e → HasRunKept state_of images moment images_since (new_memory stop) d e s failed a b
  run_now e is =
      subst (λ (m : Memory). HasRunKept state_of images moment images_since m d e s failed a b) new
      (subst (λ (x : KeptEnd). HasRunKept state_of images moment images_since from d x s failed a b) is run)

  pub it_ended : (result : Status) → end ≡ ends.Ended result → IsWithin d → HasRunWithin stop result s failed a b
  it_ended result is within = ended_within stop least (omega (arith, most)) d s result failed a b within (run_now (ends.Ended result) is)

  pub it_stopped : (lines : ℕ) (unmet : Option ℕ) → end ≡ ends.Stopped lines unmet → AreGoodDecls s.decls.list → HoldsRest stop s d lines unmet a b
  it_stopped lines unmet is good = let few = few_decls s.decls.list good in holds_rest stop least (omega (arith, most)) d s lines unmet a b (omega (arith, few)) (run_now (ends.Stopped lines unmet) is) most
