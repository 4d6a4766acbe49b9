use Rattle.std.proofs.Common.{◌≡◌, ◌≤◌, ◌-◌, ℕ, List, [], ◌∷◌, ◌++◌}
use Rattle.pr_wire.specs.Frames.{IsPartial}
use Rattle.pr_serve.specs.Inputs.{Takes, input}
use Rattle.pr_serve.proofs.framing.frame.Given as goal

abbrev pub invariant-loop-feed : goal.invariant-loop-feed
invariant-loop-feed g l =
    let left = g.S.Source.left in
    let faults = g.S.Source.faults in
    record {
      limit : l.feed.limit ≡ 18446744073709551615;
      got : (bytes : List ℕ) × Takes (input (left l.fn.source) (faults l.fn.source) l.fn.window) (input (left l.source) (faults l.source) l.window) bytes × (l.first ∷ bytes ≡ l.feed.rest ++ l.byte ∷ []);
      part : IsPartial 18446744073709551615 l.feed.rest;
      most : l.window.taken ≤ 67108864;
    }

abbrev pub decreases-loop-feed : goal.decreases-loop-feed
decreases-loop-feed g l = 67108864 - l.window.taken
