use Rattle.std.proofs.Common.{◌∙◌, ◌++◌, ap, sym, List, ℕ, length, drop}
use Rattle.std.proofs.Math.Seq.{drop-append-add}
use Rattle.pr_wire.specs.Pieces.{rest_of}
use Rattle.pr_flow.proofs.Fronts.{filled_behind}
use Rattle.pr_flow.proofs.carrying.first_piece.Goals as goal

pub returns-clause-bytes : goal.returns-clause-bytes
returns-clause-bytes c =
    let front = c.args.front.now in
    let back = drop (length front) c.args.piece.now in
    filled_behind c.next.result front back (c.copy_from_slice.new.self ++ back) c.next.new.buf (rest_of c.args.pieces.now) (ap (λ (t : List ℕ). t ++ back) c.copy_from_slice.ensures.after) c.next.ensures.bytes

pub returns-clause-rest : goal.returns-clause-rest
returns-clause-rest c = c.next.ensures.rest ∙ sym (drop-append-add c.args.front.now (rest_of c.args.pieces.now) c.next.result)
