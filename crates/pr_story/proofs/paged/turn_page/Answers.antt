use Rattle.std.proofs.Common.{[], ◌∷◌, ◌++◌, ◌∙◌, ap, arith}
use lib.ListN.{length-append}
use Rattle.std.proofs.Common.{append-nil}
use Rattle.pr_stamps.specs.Kept.{Kept}
use Rattle.pr_story.specs.Paged.{paged}
use Rattle.pr_story.proofs.Pages.{full_more, paged_more}
use Rattle.pr_story.proofs.paged.turn_page.Goals as goal

pub returns-clause-full : goal.returns-clause-full
returns-clause-full g c = rw (c.push.ensures.items, c.reserve.ensures.items, c.replace.ensures.value) (full_more 256 c.args.full.now.items c.args.last.now c.requires.full.0 c.requires.last, omega (arith, length-append c.args.full.now.items (c.args.last.now ∷ []), c.requires.full.1, c.if-len-eq-PAGES.false, c.len.ensures))

pub returns-clause-items : goal.returns-clause-items
returns-clause-items g c = rw (c.push.ensures.items, c.reserve.ensures.items, c.replace.ensures.value) (paged_more c.args.full.now.items c.args.last.now c.replace.new.dest.items ∙ ap (λ l. paged c.args.full.now.items (c.args.last.now.items ++ l)) (ap (λ (k : Kept _). k.items) c.replace.ensures.after ∙ c.reserve-2.ensures.items ∙ c.new-page.ensures) ∙ ap (paged c.args.full.now.items) (append-nil c.args.last.now.items))
