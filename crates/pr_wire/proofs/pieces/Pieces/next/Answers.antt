use Rattle.std.proofs.Common.{◌≡◌, ◌+◌, ◌++◌, ◌∙◌, ap, List, ℕ, take, drop, arith}
use Rattle.pr_wire.specs.Pieces.{left_text, rest_of}
use Rattle.pr_wire.proofs.WriteLemmas.{part_given, slice_from}
use Rattle.pr_wire.proofs.pieces.Pieces.next.Goals as goal

pub loop-filled-preserved : goal.loop-filled-preserved
loop-filled-preserved c =
    let filled = c.loop-filled.filled in
    let old = c.loop-filled.buf in
    let at = c.refill.new.self.at in
    let chunk = c.refill.new.self.chunk.items in
    let left = left_text c.refill.new.self.left in
    let count = c.copy_front-count.result in
    let new = c.copy_front-count.new.buf in
    let given : take (filled + count) new ≡ take filled old ++ take count (drop at chunk) =
    c.copy_front-count.ensures.bytes ∙ ap (λ (t : List ℕ). take filled old ++ take count t) (slice_from at c.as_slice.result.now ∙ ap (λ (t : List ℕ). drop at t) c.as_slice.ensures.value) in
    let rest : take filled old ++ (drop at chunk ++ left) ≡ rest_of c.args.self.now = ap (λ (t : List ℕ). take filled old ++ t) c.refill.ensures.rest ∙ c.loop-filled.invariant.all in
    record {
      within = omega (arith, c.copy_front-count.ensures.count, c.loop-filled.invariant.within);
      all = part_given filled count at old new chunk left (rest_of c.args.self.now) given rest;
    }
