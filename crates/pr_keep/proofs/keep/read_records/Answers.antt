use Rattle.std.proofs.Common.{ℕ, List, drop, Option, Ok, Err, sym, subst}
use Rattle.std.proofs.lemmas.Result.{err_from_is_err_and}
use Rattle.pr_story.specs.declared.entry.Entry.{Entry}
use Rattle.pr_keep.specs.declared.records.Record.{Record}
use Rattle.pr_keep.specs.declared.fault.KeepFault.TheVariants.{NoMemory}
use Rattle.pr_keep.specs.Calls.{IsRecord, PlaceIs}
use Rattle.pr_keep.proofs.Causes.{answered, answers, no_call, then_answers, then_fails}
use Rattle.pr_keep.proofs.KeepLemmas.{IsFront, no_entries, one_more, shrinks}
use Rattle.pr_keep.proofs.Moments.{untouched, untouched_more}
use Rattle.pr_keep.proofs.keep.read_records.Goals as goal

pub loop-entries-init : goal.loop-entries-init
loop-entries-init g c = (
  subst (λ (es : List (ℕ × Entry)). IsFront (g.D.Disk.state c.args.disk.now).reads es 8) (sym c.new-entries.ensures) (no_entries (g.D.Disk.state c.args.disk.now).reads c.requires),
  untouched g.D.Disk.state g.D.Disk.images g.D.Disk.moment g.D.Disk.images_since c.args.disk.now (λ i was. g.met.D.Disk.only_now c.args.disk.now i was),
  no_call (g.D.Disk.state c.args.disk.now),
)

pub loop-entries-smaller : goal.loop-entries-smaller
loop-entries-smaller g c =
    let file = (g.D.Disk.state c.args.disk.now).reads in
    let so_far = c.loop-entries.invariant in
    let at = c.loop-entries.at in
    let record_is = c.in-Some.record in
    let here = subst (λ (o : Option Record). PlaceIs (drop at (g.D.Disk.state c.loop-entries.disk).reads) at (Ok o)) c.in-Some.is c.in_ok-record.ensures.place in
    let stands = subst (λ (t : List ℕ). IsRecord (drop at t) at record_is) so_far.1.reads here in
    shrinks file c.loop-entries.entries at record_is so_far.0 stands

pub loop-entries-preserved : goal.loop-entries-preserved
loop-entries-preserved g c =
    let file = (g.D.Disk.state c.args.disk.now).reads in
    let so_far = c.loop-entries.invariant in
    let at = c.loop-entries.at in
    let record_is = c.in-Some.record in
    let here = subst (λ (o : Option Record). PlaceIs (drop at (g.D.Disk.state c.loop-entries.disk).reads) at (Ok o)) c.in-Some.is c.in_ok-record.ensures.place in
    let stands = subst (λ (t : List ℕ). IsRecord (drop at t) at record_is) so_far.1.reads here in (
      subst (λ (es : List (ℕ × Entry)). IsFront file es record_is.next) (sym c.in_ok-push.ensures.ok) (one_more file c.loop-entries.entries at record_is so_far.0 stands),
      untouched_more g.D.Disk.state g.D.Disk.images g.D.Disk.moment g.D.Disk.images_since c.args.disk.now c.loop-entries.disk c.record_at.new.disk so_far.1 c.record_at.ensures.disk,
      then_answers (g.D.Disk.state c.args.disk.now) (g.D.Disk.state c.loop-entries.disk) (g.D.Disk.state c.record_at.new.disk) so_far.2 (answered c.in_ok-record.ensures.cause),
    )

pub returns-in_err-record-clause-cause : goal.returns-in_err-record-clause-cause
returns-in_err-record-clause-cause g c =
    let p = err_from_is_err_and c.from_residual.result c.from_residual.ensures.1 in
    rw (p.1, p.2) (then_fails (g.D.Disk.state c.args.disk.now) (g.D.Disk.state c.loop-entries.disk) (g.D.Disk.state c.record_at.new.disk) c.in_err-record.field-0.0 c.loop-entries.invariant.2 c.in_err-record.ensures.cause)

pub returns-in_err-push-clause-cause : goal.returns-in_err-push-clause-cause
returns-in_err-push-clause-cause g c =
    let p = err_from_is_err_and c.from_residual-in_err-push.result c.from_residual-in_err-push.ensures.1 in
    let all = then_answers (g.D.Disk.state c.args.disk.now) (g.D.Disk.state c.loop-entries.disk) (g.D.Disk.state c.record_at.new.disk) c.loop-entries.invariant.2 (answered c.in_ok-record.ensures.cause) in
    rw (p.1, p.2) (answers (g.D.Disk.state c.args.disk.now) (g.D.Disk.state c.record_at.new.disk) 0 (Err NoMemory) all (λ e. absurd cc))

pub returns-clause-cause : goal.returns-clause-cause
returns-clause-cause g c =
    let all = then_answers (g.D.Disk.state c.args.disk.now) (g.D.Disk.state c.loop-entries.disk) (g.D.Disk.state c.record_at.new.disk) c.loop-entries.invariant.2 (answered c.in_ok-record.ensures.cause) in
    answers (g.D.Disk.state c.args.disk.now) (g.D.Disk.state c.record_at.new.disk) 0 (Ok (c.loop-entries.entries, c.loop-entries.at)) all (λ e. absurd cc)
