use Rattle.std.proofs.Common.{◌≡◌, ◌≢◌, ◌≤◌, ◌-◌, ℕ, List, [], ◌∷◌, ◌++◌}
use Rattle.pr_serve.specs.declared.coming.Coming.TheVariants.{Nothing}
use Rattle.pr_serve.specs.Inputs.{Takes, input}
use Rattle.pr_serve.proofs.AskExtent.{Extends}
use Rattle.pr_serve.proofs.asking.ask_bytes.Given as goal

abbrev pub invariant-loop-bytes : goal.invariant-loop-bytes
invariant-loop-bytes g l =
    let left = g.S.Source.left in
    let faults = g.S.Source.faults in
    record {
      got : (taken : List ℕ) × Takes (input (left l.fn.source) (faults l.fn.source) l.fn.window) (input (left l.source) (faults l.source) l.window) taken × (81 ∷ taken ≡ l.bytes ++ l.byte ∷ []);
      extends : Extends l.bytes l.coming;
      more : l.coming ≢ Nothing;
      most : l.window.taken ≤ 67108864;
    }

abbrev pub decreases-loop-bytes : goal.decreases-loop-bytes
decreases-loop-bytes g l = 67108864 - l.window.taken
