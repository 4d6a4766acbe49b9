-- All stores stay tied over an own write, and over an event that tells its node of nothing.
use Rattle.std.proofs.Common.{◌≡◌, ℕ, inl, List, ◌∷◌, refl, ◌∙◌, subst, length, ◌≤◌}
use Rattle.pr_stamps.specs.Point.{IsStamp, IsPrev}
use Rattle.pr_stamps.specs.declared.mark.Mark.{Mark}
use Rattle.pr_inval.specs.declared.write_rec.WriteRec.{WriteRec}
use Rattle.pr_log.specs.Log.{IsAddedOwn}
use Rattle.pr_gaps.specs.Gaps.{IsOwnTold}
use Rattle.pr_marks.specs.Table.{IsMarked}
use Rattle.pr_story.specs.declared.entry.Entry.{Entry}
use Rattle.pr_story.specs.declared.event.Event.TheVariants.{Wrote}
use Rattle.pr_story.specs.Knowledge.{mark_of}
use Rattle.pr_story.proofs.NewestNow.{wrote_newest}
use Rattle.pr_node.specs.declared.stores.Stores.{Stores}
use Rattle.pr_node.specs.Ties.{IsTied}
use Rattle.pr_node.specs.Writes.{IsBodyKept}
use Rattle.pr_node.proofs.Logs.{wrote_log}
use Rattle.pr_node.proofs.Points.{wrote_gaps}
use Rattle.pr_node.proofs.Held.{body_step, settled_by}
use Rattle.pr_node.proofs.Tables.{write_marked}
use Rattle.pr_node.proofs.Spelled.{prev_range}

pub wrote_tied : (j : List Entry) (a b : Stores) (time caller client clock : ℕ) (mark : Mark) (write : WriteRec) (body after : List ℕ)
    → mark ≡ mark_of write
    → IsTied write.stamp.node j a → IsStamp write.stamp → IsPrev write.prev write.stamp → length body ≤ 65536 → clock ≡ write.stamp.clock
    → IsAddedOwn a.log b.log write → IsOwnTold a.gaps b.gaps clock → IsBodyKept a.bodies b.bodies write body → IsMarked a.marks b.marks write.name mark write.gone
    → IsTied write.stamp.node (record { time = time; caller = caller; event = Wrote client write body after } ∷ j) b
wrote_tied j a b time caller client clock mark write body after is_mark f stamp before short is logged told kept marked =
    let e : Entry = record { time = time; caller = caller; event = Wrote client write body after } in
    record {
      log = wrote_log write.stamp.node j a.log b.log time caller client write body after f.log logged;
      gaps = wrote_gaps write.stamp.node j a.gaps b.gaps time caller client clock write body after f.gaps told is refl;
      bodies = body_step e j a.bodies b.bodies (λ o t latest. kept o t ∙ settled_by write.name o write.stamp t (λ same before. latest write.stamp (inl (same, refl)) before)) f.bodies;
      marks = write_marked e j a.marks b.marks write f.marks (subst (λ (m : Mark). IsMarked a.marks b.marks write.name m write.gone) is_mark marked) (stamp, prev_range write.prev write.stamp before) (λ o r only. wrote_newest client write body after o r only) (λ o s. refl) refl;
      spelled = ((stamp, before, short), f.spelled);
    }
