use Rattle.pr_story.specs.Scripts.{JobAfterJob}
use Rattle.pr_top.specs.Runs.{all_sound}
use Rattle.pr_top.proofs.Runs.{ends_well}
use Rattle.pr_top.proofs.running.run.Goals as goal

pub finish-requires : goal.finish-requires
finish-requires g c = ends_well JobAfterJob all_sound _ c.args.script.now _ _ c.unended-ended.result c.unended-ended.ensures.told

pub returns-clause-run : goal.returns-clause-run
returns-clause-run g c =
    let told = c.unended-ended.ensures.told in
    (c.finish.ensures.run JobAfterJob all_sound told.0 (g.K.Sink.text c.args.out.now) (g.K.Sink.faults c.args.out.now) c.unended-ended.ensures.rises told.1).0
