use Rattle.std.proofs.Common.{arith}
use Rattle.pr_story.proofs.Pages.{length_paged}
use Rattle.pr_story.proofs.paged.Paged.len.Goals as goal

pub returns : goal.returns
returns g c = rw (← c.self.view_is) omega (arith, length_paged 256 c.self.inside.full.items c.self.inside.last.items c.self.invariant.0, c.len.ensures, c.len-2.ensures)
