use Rattle.std.proofs.Common.{◌≡◌, ◌++◌, List, ℕ, length}
use Rattle.pr_wire.specs.declared.format.Format.TheVariants.{Two}
use Rattle.pr_wire.specs.Pieces.{rest_of}
use Rattle.pr_wire.specs.Spelling.{spelling}
use Rattle.pr_serve.specs.Sinks.{Wrote, sink}
use Rattle.pr_serve.proofs.writing.write_frame.Given as goal

abbrev pub invariant-loop-pieces : goal.invariant-loop-pieces
invariant-loop-pieces g l =
    (done : List ℕ) × Wrote (sink (g.K.Sink.text l.initial.out) (g.K.Sink.faults l.initial.out)) (sink (g.K.Sink.text l.out) (g.K.Sink.faults l.out)) done
    × (done ++ rest_of l.pieces ≡ spelling Two l.msg)

abbrev pub decreases-loop-pieces : goal.decreases-loop-pieces
decreases-loop-pieces g l = length (rest_of l.pieces)
