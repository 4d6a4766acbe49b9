use Rattle.std.proofs.Common.{◌<◌, ◌/◌, ◌%◌, get_or, length, sym, ◌∙◌, ap, subst, arith}
use Rattle.std.proofs.lemmas.List.{get_or_default}
use Rattle.pr_stamps.specs.Kept.{Kept}
use Rattle.pr_story.specs.Paged.{paged}
use Rattle.pr_story.proofs.Pages.{on_page, within}
use Rattle.pr_story.proofs.paged.Paged.get.Goals as goal

pub bounds-as_slice-place : goal.bounds-as_slice-place
bounds-as_slice-place g c =
    let some : c.args.place < length (paged c.self.inside.full.items c.self.inside.last.items) = subst (λ (s : Kept _). c.args.place < length s.items) (sym c.self.view_is) c.requires in
    rw (c.as_slice-2.ensures, c.page_at-page.ensures, c.as_slice.ensures)
    (within 256 c.self.inside.full.items c.self.inside.last (c.args.place / 256) (c.args.place % 256) c.self.invariant.0 c.self.invariant.2 (omega arith) (omega (arith, some))).1

pub offset_bounds-as_slice-place : goal.offset_bounds-as_slice-place
offset_bounds-as_slice-place g c = omega (arith, bounds-as_slice-place g c)

pub returns : goal.returns
returns g c d =
    let some : c.args.place < length (paged c.self.inside.full.items c.self.inside.last.items) = subst (λ (s : Kept _). c.args.place < length s.items) (sym c.self.view_is) c.requires in
    let lies = within 256 c.self.inside.full.items c.self.inside.last (c.args.place / 256) (c.args.place % 256) c.self.invariant.0 c.self.invariant.2 (omega arith) (omega (arith, some)) in
    rw (c.index-as_slice-place.is, c.as_slice-2.ensures, c.page_at-page.ensures, c.as_slice.ensures, ← c.self.view_is)
    (get_or_default (get_or c.self.inside.full.items (c.args.place / 256) c.self.inside.last).items (c.args.place % 256) c.index-as_slice-place.result d lies.1
    ∙ sym (on_page 256 c.self.inside.full.items c.self.inside.last (c.args.place / 256) (c.args.place % 256) d c.self.invariant.0 lies.0 (omega arith))
    ∙ ap (λ i. get_or (paged c.self.inside.full.items c.self.inside.last.items) i d) (omega arith))
