use Rattle.std.proofs.Common.{refl}
use Rattle.pr_sim.proofs.Step.{never_empty, stood}
use Rattle.pr_sim.proofs.OfStreams.{detach_ends}
use Rattle.std.specs.Vec.{with_item}
use Rattle.std.specs.Prelude.{Some}
use Rattle.pr_sim.proofs.engine.Engine.detach.Goals as goal

pub unreachable-requires : goal.unreachable-requires
unreachable-requires c =
    let x = c.requires.kept.3.stands.sessions c.args.stream c.requires.stream in
    never_empty _ _ _ x.0 c.requires.stream c.index_mut.ensures.value x.1 c.in_default.is

pub returns : goal.returns
returns c d attached h k =
    let held = stood _ _ _ _ c.requires.stream c.index_mut.ensures.value c.in-Some.is in
    detach_ends d attached h c.args.self.now (record c.args.self.now { sessions = with_item c.args.self.now.sessions c.args.stream (Some c.detach.new.self) }) c.args.stream c.in-Some.session c.detach.new.self k c.requires.stream held
    refl c.detach.ensures refl refl refl refl refl refl refl
