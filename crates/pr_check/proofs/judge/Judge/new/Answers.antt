use Rattle.pr_check.proofs.Judged.{fresh}
use Rattle.pr_check.proofs.judge.Judge.new.Goals as goal

pub returns : goal.returns
returns c = record {
  decls = record { accepted = c.no_decls.ensures.accepted; labels = c.no_decls.ensures.labels };
  stands = fresh c.no_decls.result.list c.no_decls.ensures.list;
}
