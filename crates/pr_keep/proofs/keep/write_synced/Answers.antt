use Rattle.std.proofs.Common.{◌∙◌, arith}
use Rattle.std.proofs.lemmas.Result.{err_from_is_err_and}
use Rattle.pr_keep.proofs.Moments.{synced_too, wrote}
use Rattle.pr_keep.proofs.keep.write_synced.Goals as goal

pub returns-in_err-write-clause-moments : goal.returns-in_err-write-clause-moments
returns-in_err-write-clause-moments g c =
    wrote g.D.Disk.state g.D.Disk.images g.D.Disk.moment g.D.Disk.images_since g.met.D.Disk.only_now c.args.disk.now c.write.new.self c.args.at _ c.write.ensures.images c.write.ensures.time

pub returns-in_err-sync-clause-moments : goal.returns-in_err-sync-clause-moments
returns-in_err-sync-clause-moments g c =
    synced_too g.D.Disk.state g.D.Disk.images g.D.Disk.moment g.D.Disk.images_since g.met.D.Disk.only_now c.args.disk.now c.write.new.self c.sync.new.self c.args.at _
    c.write.ensures.images c.write.ensures.time c.sync.ensures.images c.sync.ensures.time

pub returns-clause-moments : goal.returns-clause-moments
returns-clause-moments g c =
    synced_too g.D.Disk.state g.D.Disk.images g.D.Disk.moment g.D.Disk.images_since g.met.D.Disk.only_now c.args.disk.now c.write.new.self c.sync.new.self c.args.at _
    c.write.ensures.images c.write.ensures.time c.sync.ensures.images c.sync.ensures.time

pub returns-in_err-sync-clause-err : goal.returns-in_err-sync-clause-err
returns-in_err-sync-clause-err g c =
    let p = err_from_is_err_and c.from_residual-in_err-sync.result c.from_residual-in_err-sync.ensures.1 in
    let sync = c.in_err-sync.ensures.synced in
    let write = c.in_ok-write.ensures.written in
    rw p.1 (record {
      synced = sync.err ∙ write.synced;
      good = record { count = 1; below = omega arith; good = sync.answered.good ∙ write.answered.good };
    })
