use Rattle.std.proofs.Common.{ℕ, List, sym, subst, ◌∙◌, arith}
use Rattle.std.proofs.lemmas.Result.{err_from_is_err_and}
use Rattle.pr_keep.specs.Files.{StandsFor}
use Rattle.pr_keep.proofs.AppendLemmas.{both_moments, first_moments, kept_more, none_counted, staged_disk, synced_stands, two_more}
use Rattle.pr_keep.proofs.KeepLemmas.{staged_stands}
use Rattle.pr_keep.proofs.keep.Keep.append.Goals as goal

pub returns-in_err-record-clause-err : goal.returns-in_err-record-clause-err
returns-in_err-record-clause-err g c = λ es kept.
    let p = err_from_is_err_and c.from_residual.result c.from_residual.ensures.1 in
    rw p.1 (synced_stands g.D.Disk.state g.D.Disk.images c.args.self.now es kept, none_counted 4 (g.D.Disk.state c.args.self.now.disk).good (omega arith))

pub returns-in_default-clause-err : goal.returns-in_default-clause-err
returns-in_default-clause-err g c = λ es kept.
    (synced_stands g.D.Disk.state g.D.Disk.images c.args.self.now es kept, none_counted 4 (g.D.Disk.state c.args.self.now.disk).good (omega arith))

pub returns-in_err-write_synced-clause-moments : goal.returns-in_err-write_synced-clause-moments
returns-in_err-write_synced-clause-moments g c = λ es kept.
    first_moments g.D.Disk.state g.D.Disk.images c.args.self.now es kept g.D.Disk.moment g.D.Disk.images_since c.write_synced.new.disk (c.args.node, c.args.entry.now) _ c.write_synced.ensures.moments

pub returns-in_err-write_synced-2-clause-err : goal.returns-in_err-write_synced-2-clause-err
returns-in_err-write_synced-2-clause-err g c = λ es kept.
    let p = err_from_is_err_and c.from_residual-in_err-write_synced-2.result c.from_residual-in_err-write_synced-2.ensures.1 in
    let first = c.in_ok-write_synced.ensures.ok in
    let second = c.in_err-write_synced-2.ensures.err in
    let at_stage = staged_disk g.D.Disk.state g.D.Disk.images c.args.self.now es kept c.write_synced.new.disk (c.args.node, c.args.entry.now) c.deref.result.now c.in_ok-record.ensures.keepable (c.deref.ensures.value ∙ c.in_ok-record.ensures.text) first in
    rw p.1 (
      subst (λ (t : List ℕ). StandsFor t es) (sym (second.synced ∙ first.synced)) (staged_stands (g.D.Disk.state c.write_synced.new.disk).reads es (c.args.node, c.args.entry.now) at_stage),
      two_more (g.D.Disk.state c.args.self.now.disk).good (g.D.Disk.state c.write_synced.new.disk).good (g.D.Disk.state c.write_synced-2.new.disk).good first.good second.good,
    )

pub returns-in_err-write_synced-2-clause-moments : goal.returns-in_err-write_synced-2-clause-moments
returns-in_err-write_synced-2-clause-moments g c = λ es kept.
    let first = c.in_ok-write_synced.ensures.ok in
    let at_stage = staged_disk g.D.Disk.state g.D.Disk.images c.args.self.now es kept c.write_synced.new.disk (c.args.node, c.args.entry.now) c.deref.result.now c.in_ok-record.ensures.keepable (c.deref.ensures.value ∙ c.in_ok-record.ensures.text) first in
    both_moments g.D.Disk.state g.D.Disk.images c.args.self.now es kept g.D.Disk.moment g.D.Disk.images_since c.write_synced.new.disk c.write_synced-2.new.disk (c.args.node, c.args.entry.now) _ at_stage first.only c.write_synced.ensures.moments c.write_synced-2.ensures.moments

pub returns-clause-ok : goal.returns-clause-ok
returns-clause-ok g c = λ es kept.
    let first = c.in_ok-write_synced.ensures.ok in
    let is = c.deref.ensures.value ∙ c.in_ok-record.ensures.text in
    let at_stage = staged_disk g.D.Disk.state g.D.Disk.images c.args.self.now es kept c.write_synced.new.disk (c.args.node, c.args.entry.now) c.deref.result.now c.in_ok-record.ensures.keepable is first in
    kept_more g.D.Disk.state g.D.Disk.images c.args.self.now es kept c.write_synced.new.disk (record { alloc = c.args.self.now.alloc; disk = c.write_synced-2.new.disk; gate = c.in-Some.gate }) (c.args.node, c.args.entry.now) c.deref.result.now at_stage is (omega (arith, c.in-Some.ensures, c.len.ensures, c.deref.ensures.len)) c.in_ok-write_synced-2.ensures.ok

pub returns-clause-moments : goal.returns-clause-moments
returns-clause-moments g c = λ es kept.
    let first = c.in_ok-write_synced.ensures.ok in
    let at_stage = staged_disk g.D.Disk.state g.D.Disk.images c.args.self.now es kept c.write_synced.new.disk (c.args.node, c.args.entry.now) c.deref.result.now c.in_ok-record.ensures.keepable (c.deref.ensures.value ∙ c.in_ok-record.ensures.text) first in
    both_moments g.D.Disk.state g.D.Disk.images c.args.self.now es kept g.D.Disk.moment g.D.Disk.images_since c.write_synced.new.disk c.write_synced-2.new.disk (c.args.node, c.args.entry.now) _ at_stage first.only c.write_synced.ensures.moments c.write_synced-2.ensures.moments
