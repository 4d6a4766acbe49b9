use Rattle.std.proofs.Common.{◌≡◌, ◌+◌, ◌≤◌, ℕ, List, length, take, drop, refl, sym, ap, subst, ◌∙◌, arith}
use Rattle.std.proofs.lemmas.List.{drop-drop}
use Rattle.pr_wire.proofs.Fields.{IsBytes}
use Rattle.pr_wire.proofs.Loops.{bad_fails}
use Rattle.pr_keep.specs.Reading.{whole_entry_at}
use Rattle.pr_keep.proofs.RecordLemmas.{head_in, nothing_bad, nothing_short, record_good}
use Rattle.pr_keep.proofs.records.record_behind.Goals as goal

pub read_some-requires : goal.read_some-requires
read_some-requires g c = head_in c.args.at c.args.len (g.D.Disk.state c.args.disk.now).reads c.requires.head

-- the text is that behind the head
behind : (at len : ℕ) (file text : List ℕ) → text ≡ take len (drop (at + 9) file) → text ≡ take len (drop 9 (drop at file))
behind at len file text is = is ∙ ap (take len) (sym (drop-drop 9 at file))

pub returns-then-len-clause-record : goal.returns-then-len-clause-record
returns-then-len-clause-record g c =
    let file = (g.D.Disk.state c.args.disk.now).reads in
    let is = behind c.args.at c.args.len file c.in_ok-text.text c.in_ok-text.ensures.bytes in
    (refl, nothing_short (drop c.args.at file) c.args.len (omega arith) c.requires.head (omega (arith, c.len.ensures, c.if-len.true, ap length is)))

pub returns-in-Ok-clause-record : goal.returns-in-Ok-clause-record
returns-in-Ok-clause-record g c =
    let file = (g.D.Disk.state c.args.disk.now).reads in
    let is = c.as_slice.ensures ∙ behind c.args.at c.args.len file c.in_ok-text.text c.in_ok-text.ensures.bytes in
    let whole : c.args.len ≤ length (take c.args.len (drop 9 (drop c.args.at file))) = omega (arith, c.len.ensures, c.if-len.false, ap length (behind c.args.at c.args.len file c.in_ok-text.text c.in_ok-text.ensures.bytes)) in
    record_good (drop c.args.at file) c.args.len (omega arith) c.requires.head c.args.at (record { entry = c.in-Ok.entry; next = c.args.at + 9 + c.args.len })
    whole (subst IsBytes is c.whole_entry.ensures.bytes) (ap whole_entry_at (sym is) ∙ c.in-Ok.ensures.entry) refl

pub returns-clause-record : goal.returns-clause-record
returns-clause-record g c =
    let file = (g.D.Disk.state c.args.disk.now).reads in
    let is = c.as_slice.ensures ∙ behind c.args.at c.args.len file c.in_ok-text.text c.in_ok-text.ensures.bytes in
    (refl, nothing_bad (drop c.args.at file) c.args.len (omega arith) c.requires.head (ap whole_entry_at (sym is) ∙ bad_fails c.in-Err-Bad.field-0 (whole_entry_at c.as_slice.result.now) c.in-Err-Bad.field-0-is c.in-Err-Bad.ensures.entry))
