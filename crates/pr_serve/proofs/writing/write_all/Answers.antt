use Rattle.std.proofs.Common.{arith}
use Rattle.std.proofs.lemmas.Grind.{common_steps}
use Rattle.pr_serve.proofs.Written.{appends_rest}
use Rattle.pr_serve.proofs.writing.write_all.Goals as goal

pub loop-at-preserved : goal.loop-at-preserved
loop-at-preserved g c = record {
  within = grind (arith, common_steps);
  told = appends_rest (g.K.Sink.text c.args.out.now) (g.K.Sink.text c.loop-at.out) (g.K.Sink.text c.write.new.self) c.args.bytes.now c.loop-at.at c.in-Ok.count c.loop-at.invariant.told c.in-Ok.ensures.bytes;
  rises = grind (arith, common_steps);
}
