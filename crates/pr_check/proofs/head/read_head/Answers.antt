use Rattle.std.proofs.Common.{◌∙◌, List, ap, length}
use Rattle.pr_script.specs.declared.decl.Decl.{Decl}
use Rattle.pr_check.proofs.HeadLines.{accepted_if, declares_if, no_head_if}
use Rattle.pr_check.proofs.head.read_head.Goals as goal

pub returns-in-Ok-clause-head : goal.returns-in-Ok-clause-head
returns-in-Ok-clause-head c =
    declares_if c.args.decls.now.list c.requires c.args.line.now c.in-Ok.script (length c.as_slice.result.now) c.as_slice-bytes.result.now (ap (λ (xs : List Decl). length xs) c.as_slice.ensures) (c.as_slice-bytes.ensures ∙ c.in_ok-text.ensures) c.in-Ok.ensures.exact c.more_if.result c.more_if.ensures.value

pub returns-in-Ok-clause-accepted : goal.returns-in-Ok-clause-accepted
returns-in-Ok-clause-accepted c = accepted_if c.args.decls.now.list c.requires c.args.line.now c.more_if.result (returns-in-Ok-clause-head c)

pub returns-clause-head : goal.returns-clause-head
returns-clause-head c =
    no_head_if c.args.decls.now.list c.requires c.args.line.now c.as_slice-bytes.result.now c.in-Err-Bad.field-0 c.in-Err-Bad.field-0-0 c.in-Err-Bad.field-0-1 (c.as_slice-bytes.ensures ∙ c.in_ok-text.ensures) c.in-Err-Bad.field-0-is c.in-Err-Bad.ensures.exact
