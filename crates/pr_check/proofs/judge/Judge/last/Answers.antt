use Rattle.std.proofs.Common.{◌≡◌, ◌+◌, ◌∙◌, length, sym}
use Rattle.pr_script.proofs.Positions.{bytes_are}
use Rattle.pr_sim.specs.Making.{declared_of}
use Rattle.pr_check.specs.Judging.{end_line}
use Rattle.pr_check.proofs.Compared.{tells}
use Rattle.pr_check.proofs.Judged.{bad_end, end_begins, end_stands, no_line, not_ok, other_end}
use Rattle.pr_check.proofs.Refused.{bad_verdict}
use Rattle.pr_check.proofs.judge.Judge.last.Goals as goal

pub returns-then-not-starts_with : goal.returns-then-not-starts_with
returns-then-not-starts_with c lines r head =
    bad_verdict lines c.args.line.now 2 c.args.self.now
    (no_line c.args.self.now.decls.list c.args.engine lines c.args.line.now c.requires.decls.accepted r head c.requires.none (not_ok _ c.args.line.now (sym c.starts_with.ensures.value ∙ c.if-not-starts_with.true)))
    c.requires.spent

pub is_last_line-requires : goal.is_last_line-requires
is_last_line-requires c = let r = c.requires.replayed.1 in (r.1, tells (declared_of c.args.self.now.decls.list) r.0 r.1 c.args.engine r.2)

pub returns-then-not-branch : goal.returns-then-not-branch
returns-then-not-branch c lines r head =
    bad_verdict lines c.args.line.now 4 c.args.self.now
    (bad_end c.args.self.now.decls.list c.args.engine lines c.args.line.now c.requires.decls.accepted r c.requires.none (sym c.starts_with.ensures.value ∙ c.if-not-starts_with.false)
    (other_end c.args.self.now.decls.list r.1 lines c.args.line.now c.in_ok-is_last_line.field-0 r.4 (c.in_ok-is_last_line.ensures r.1 (tells (declared_of c.args.self.now.decls.list) r.0 r.1 c.args.engine r.2)) c.if-not-branch.true))
    c.requires.spent

pub returns : goal.returns
returns c lines r head =
    let ds = c.args.self.now.decls.list in
    let is = c.in_ok-is_last_line.ensures r.1 (tells (declared_of ds) r.0 r.1 c.args.engine r.2) in
    let same : end_line (length ds + length r.1) ≡ c.args.line.now = bytes_are (end_line (length ds + length r.1)) c.args.line.now (sym is ∙ c.if-not-branch.false) in
    let stands = end_stands ds c.args.line.now lines r.0 r.1 c.args.engine r.4 r.2 (sym same) in
    (end_begins ds c.args.engine _ c.requires.decls.accepted stands, record { decls = c.requires.decls; stands = stands })
