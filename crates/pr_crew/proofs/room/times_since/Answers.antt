use Rattle.std.proofs.Common.{List, map, ap, ◌∙◌}
use Rattle.pr_story.specs.declared.entry.Entry.{Entry}
use Rattle.pr_crew.proofs.Filling.{behind_so}
use Rattle.pr_crew.proofs.room.times_since.Goals as goal

pub returns-clause-times : goal.returns-clause-times
returns-clause-times g c before made behind =
    let (m, here, told) = c.in-Some.ensures in
    let rest = behind_so before made c.in-Some.journal.now.items c.args.node c.args.opened (g.H.Held.state c.args.held.now) m here told behind in
    c.times_behind.ensures.times ∙ ap (λ (l : List Entry). map (λ (e : Entry). e.time) l) rest
