use Rattle.std.proofs.Common.{◌≡◌, ◌∙◌, None, Some, sym}
use Rattle.pr_wire.specs.Reading.{message_at}
use Rattle.pr_wire.specs.declared.format.Format.TheVariants.{Two}
use Rattle.pr_wire.proofs.Fields.{some_is}
use Rattle.pr_wire.proofs.FrameLemmas.{frame_gives, frame_has_head}
use Rattle.pr_wire.proofs.Loops.{bad_fails}
use Rattle.pr_wire.proofs.decoding.decode.Goals as goal

pub split_at-requires : goal.split_at-requires
split_at-requires c = frame_has_head Two c.requires.0 c.args.bytes.now c.requires.1

pub unreachable-requires : goal.unreachable-requires
unreachable-requires c =
    let m = c.requires.0 in
    let behind = c.split_at.result.1.now in
    let none : message_at Two behind ≡ None = bad_fails c.in-Err-Bad.field-0 (message_at Two behind) c.in-Err-Bad.field-0-is c.in-Err-Bad.ensures in
    let both : None ≡ Some m = sym none ∙ frame_gives Two m c.args.bytes.now behind c.requires.1 c.split_at.ensures.back in
    absurd cc

pub returns-in-Ok : goal.returns-in-Ok
returns-in-Ok c m is = some_is c.in-Ok.msg m (sym c.in-Ok.ensures ∙ frame_gives Two m c.args.bytes.now c.split_at.result.1.now is c.split_at.ensures.back)
