use Rattle.std.proofs.Common.{map, refl}
use Rattle.std.specs.Prelude.{string_bytes}
use Rattle.pr_words.specs.Words.{job_of}
use Rattle.pr_top.specs.Answers.{ports_of}
use Rattle.pr_top.proofs.Unread.{line_answers}
use Rattle.pr_top.proofs.top.practi.Goals as goal

pub returns-in-Err-NoMemory : goal.returns-in-Err-NoMemory
returns-in-Err-NoMemory g c =
    line_answers (g.W.Wires.sound c.args.wires.now) (g.W.Wires.carried c.args.wires.now) (g.W.Wires.carried c.args.wires.now) (ports_of g.S.Source.left g.S.Source.faults g.K.Sink.text g.K.Sink.faults c.args.script.now c.args.out.now)
    (ports_of g.S.Source.left g.S.Source.faults g.K.Sink.text g.K.Sink.faults c.args.script.now c.no_memory.new.out) (refl, refl) c.no_memory.ensures.line
    (job_of (map string_bytes c.args.words.now)) c.no_memory.result c.no_memory.ensures.status
