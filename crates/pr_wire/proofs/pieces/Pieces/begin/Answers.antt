use Rattle.std.proofs.Common.{◌∙◌, ◌+◌, ◌-◌, ◌^◌, ap, ℕ, length}
use Rattle.std.specs.Prelude.{◌%◌}
use Rattle.pr_wire.specs.Pieces.{left_text}
use Rattle.pr_wire.proofs.WriteLemmas.{frame_begins}
use Rattle.pr_wire.proofs.pieces.Pieces.begin.Goals as goal

pub returns-clause-rest : goal.returns-clause-rest
returns-clause-rest c =
    let left = left_text c.open-self.result in
    let filled = c.open-self.new.chunk.items in
    frame_begins c.args.msg.now ((c.len_of.result + (c.len.result - 9)) % 2 ^ 64) c.put_head.new.chunk.items filled c.set_length.new.chunk.items left
    c.put_head.ensures.text
    c.put_head.ensures.size
    c.open-self.ensures.grows
    c.open-self.ensures.text
    (ap (λ (n : ℕ). (n + (c.len.result - 9)) % 2 ^ 64) c.len_of.ensures ∙ ap (λ (n : ℕ). (length left % 2 ^ 64 + (n - 9)) % 2 ^ 64) c.len.ensures.value)
    c.set_length.ensures
