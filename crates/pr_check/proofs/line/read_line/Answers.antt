use Rattle.pr_check.proofs.LineRead.{says_if, says_nothing}
use Rattle.pr_check.proofs.line.read_line.Goals as goal

pub returns-in-Ok : goal.returns-in-Ok
returns-in-Ok c =
    says_if c.args.decls.now.list c.requires c.args.line.now c.as_slice-list.result.now c.in-Ok.told c.as_slice-list.ensures c.in-Ok.ensures.reads c.in-Ok.ensures.told c.said_if_printed.result c.said_if_printed.ensures

pub returns-in-Err-Unread : goal.returns-in-Err-Unread
returns-in-Err-Unread c =
    says_nothing c.args.decls.now.list c.requires c.args.line.now c.as_slice-list.result.now c.in-Err-Unread.field-0 c.as_slice-list.ensures c.in-Err-Unread.field-0-is c.in-Err-Unread.ensures.reads
