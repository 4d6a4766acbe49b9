use Rattle.std.proofs.Common.{[], ◌∷◌}
use Rattle.pr_story.proofs.Pages.{paged_put}
use Rattle.pr_story.proofs.paged.Paged.push.Goals as goal

pub returns-clause-items : goal.returns-clause-items
returns-clause-items g c = rw (c.push.ensures.items, ← c.self.view_is) (paged_put c.self.inside.full.items c.self.inside.last.items (c.args.item ∷ []))
