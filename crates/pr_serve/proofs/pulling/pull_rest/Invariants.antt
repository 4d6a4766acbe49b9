use Rattle.std.proofs.Common.{◌≤◌, ◌-◌}
use Rattle.pr_node.specs.Stored.{means}
use Rattle.pr_serve.specs.Inputs.{input}
use Rattle.pr_serve.proofs.PullEnds.{Sofar, read_ahead}
use Rattle.pr_serve.proofs.pulling.pull_rest.Given as goal

abbrev pub invariant-loop-msg : goal.invariant-loop-msg
invariant-loop-msg g l =
    let left = g.S.Source.left in
    let faults = g.S.Source.faults in
    record {
      sofar : Sofar l.nodes l.streams (input (left l.fn.source) (faults l.fn.source) (read_ahead l.ahead)) (input (left l.source) (faults l.source) l.window) (means l.fn.node) (means l.node) l.count;
      most : l.window.taken ≤ 67108864;
    }

abbrev pub decreases-loop-msg : goal.decreases-loop-msg
decreases-loop-msg g l = 67108864 - l.window.taken
