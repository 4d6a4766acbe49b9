use Rattle.pr_sim.proofs.Telling.{place_stands, within_places}
use Rattle.pr_sim.proofs.engine.Engine.node_of.Goals as goal

pub place_at-node-requires : goal.place_at-node-requires
place_at-node-requires c = within_places c.requires.0 c.requires.1 c.args.self.now c.requires.2 c.as_slice.result.now c.args.at c.as_slice.ensures c.requires.3

pub returns : goal.returns
returns c d h e tells lt = (place_stands d h c.args.self.now tells c.as_slice.result.now c.place_at-node.result c.args.at e c.as_slice.ensures lt c.place_at-node.ensures).node
