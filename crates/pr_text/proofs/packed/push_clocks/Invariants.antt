use Rattle.std.proofs.Common.{◌≡◌, ◌++◌, ◌≤◌, drop}
use Rattle.pr_text.specs.Texts.{clocks, listed}
use Rattle.pr_text.proofs.Loops.{list_behind}
use Rattle.pr_text.proofs.packed.push_clocks.Given as goal

-- what is written, then what is still to be written, is all; and no more nodes than labels were passed
abbrev pub invariant-loop-label : goal.invariant-loop-label
invariant-loop-label l =
    (l.text ++ list_behind l.some (clocks (drop l.label-index l.fn.labels) l.node l.fn.vector) ≡ l.fn.text ++ listed (clocks l.fn.labels 0 l.fn.vector))
    × (l.node ≤ l.label-index)
