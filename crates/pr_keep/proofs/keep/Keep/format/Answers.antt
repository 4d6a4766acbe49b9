use Rattle.pr_keep.proofs.KeepLemmas.{empty_file, length-empty}
use Rattle.pr_keep.proofs.keep.Keep.format.Goals as goal

pub returns-in-Ok-clause-ok : goal.returns-in-Ok-clause-ok
returns-in-Ok-clause-ok g c =
    let settled = c.in-Ok.ensures.ok in (
      record {
        stands = empty_file (g.D.Disk.state c.args.disk).reads (g.D.Disk.state c.write_synced.new.disk).reads c.requires settled.reads;
        gate = length-empty;
        settled = settled.only;
        synced = settled.synced;
      },
      settled.good,
    )
