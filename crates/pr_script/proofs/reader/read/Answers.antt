use Rattle.std.proofs.Common.{[]}
use Rattle.pr_script.proofs.Accepted.{answered_labels}
use Rattle.pr_script.proofs.GoodScripts.{answered_good}
use Rattle.pr_script.proofs.reader.read.Goals as goal

pub returns-in-Ok : goal.returns-in-Ok
returns-in-Ok c =
    let exact = c.finish.ensures.exact c.args.bytes.now (c.in-Ok.ensures.ok [] c.new-reader.ensures) in
    record { exact = exact; labels = answered_labels c.finish.result c.args.bytes.now exact; good = answered_good c.finish.result c.args.bytes.now exact }
