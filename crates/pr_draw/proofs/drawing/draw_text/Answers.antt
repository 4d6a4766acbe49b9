use Rattle.pr_draw.proofs.Answered.{judged_none, said_drawn, transcript_of}
use Rattle.pr_draw.proofs.drawing.draw_text.Goals as goal

pub draw_transcript-requires : goal.draw_transcript-requires
draw_transcript-requires g c = transcript_of c.args.text.now c.in-Ok-Transcript.field-0 c.in-Ok-Transcript.transcript c.in-Ok-Transcript.field-0-is c.in-Ok-Transcript.ensures

pub returns-in-Ok-No : goal.returns-in-Ok-No
returns-in-Ok-No g c =
    said_drawn c.args.text.now _ (g.K.Sink.text c.args.out.now) (g.K.Sink.text c.say.new.out) c.in-Ok-No.line c.in-Ok-No.why c.say.result
    (judged_none c.args.text.now c.in-Ok-No.field-0 c.in-Ok-No.line c.in-Ok-No.why c.in-Ok-No.field-0-is c.in-Ok-No.ensures) c.say.ensures
