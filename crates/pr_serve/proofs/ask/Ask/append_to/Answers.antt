use Rattle.std.proofs.Common.{rules}
use Rattle.pr_wire.specs.Spelling.{gone_text}
use Rattle.pr_serve.proofs.AskField.{all_added}
use Rattle.pr_serve.proofs.ask.Ask.append_to.Goals as goal

pub returns-clause-ok : goal.returns-clause-ok
unfolding gone_text
returns-clause-ok c = all_added c.append_eight.result c.args.self.now c.args.out.now c.push.new.self c.append_four.new.out c.append_vector.new.out c.append_set.new.out c.push-2.new.self c.append_eight.new.out (search rules) (search rules) (search rules) (search rules) (search rules) c.append_eight.ensures.ok
