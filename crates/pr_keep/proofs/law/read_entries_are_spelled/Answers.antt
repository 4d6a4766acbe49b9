use Rattle.pr_keep.proofs.EntryFields.{entry_field}
use Rattle.pr_keep.proofs.law.read_entries_are_spelled.Goals as goal

pub returns : goal.returns
returns c = λ bytes e rest fits is. let r = entry_field.takes bytes (e, rest) fits is in (r.parts, r.holds)
