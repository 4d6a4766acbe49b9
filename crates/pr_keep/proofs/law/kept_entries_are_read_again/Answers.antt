use Rattle.pr_keep.proofs.EntryFields.{entry_field, one_entry, whole_again}
use Rattle.pr_keep.proofs.law.kept_entries_are_read_again.Goals as goal

pub returns-clause-again : goal.returns-clause-again
returns-clause-again c = λ e rest h. entry_field.again e rest h

pub returns-clause-whole : goal.returns-clause-whole
returns-clause-whole c = λ e h. whole_again e h

pub returns-clause-one : goal.returns-clause-one
returns-clause-one c = λ e d he hd same. one_entry e d he hd same
