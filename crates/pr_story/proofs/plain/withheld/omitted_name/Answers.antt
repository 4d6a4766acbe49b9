use Rattle.std.proofs.Common.{◌≡◌, ℕ, List, sym, subst, ap, refl, false, reverse}
use Rattle.pr_inval.specs.declared.write_rec.WriteRec.{WriteRec}
use Rattle.std.specs.Prelude.{Option}
use Rattle.pr_story.specs.Search.{IsOmittedIn}
use Rattle.pr_sets.specs.Spans.{has}
use Rattle.pr_vectors.specs.Vector.{Between}
use Rattle.pr_story.proofs.Writing.{told_known_one, told_unknown}
use Rattle.pr_story.proofs.plain.withheld.omitted_name.Goals as goal

pub returns-in_err-write : goal.returns-in_err-write
returns-in_err-write c =
    subst (λ (r : Option (List ℕ)). IsOmittedIn (reverse c.args.entries.now) c.args.event.now c.args.names.now c.args.from.now c.args.to.now r) (sym c.from_residual-in_err-write.ensures)
    (λ x t k out b. told_unknown (reverse c.args.entries.now) c.in_ok-told.told x c.in_err-write.ensures (c.in_ok-told.ensures.1 x t) k)

pub returns-then-is_omitted : goal.returns-then-is_omitted
returns-then-is_omitted c =
    let found = c.is_omitted.ensures.here.0 c.if-is_omitted.true in (
      c.is_omitted.ensures.name,
      (found.0, (c.in_ok-write.write, c.in_ok-write.ensures.0, refl, found.1)),
      λ x t k. ap (λ (w : WriteRec). w.name) (told_known_one (reverse c.args.entries.now) c.in_ok-told.told c.in_ok-write.write x c.in_ok-write.ensures.1 c.in_ok-write.ensures.0 (c.in_ok-told.ensures.1 x t) k),
    )

pub returns-else-is_omitted : goal.returns-else-is_omitted
returns-else-is_omitted c = λ x t k out b.
    let e : x ≡ c.in_ok-write.write = told_known_one (reverse c.args.entries.now) c.in_ok-told.told c.in_ok-write.write x c.in_ok-write.ensures.1 c.in_ok-write.ensures.0 (c.in_ok-told.ensures.1 x t) k in
    let is = c.is_omitted.ensures.here.1 (
      subst (λ (w : WriteRec). has c.args.names.now w.name ≡ false) e out,
      subst (λ (w : WriteRec). Between c.args.from.now c.args.to.now w.stamp) e b,
    ) in
    let no_it = c.if-is_omitted.false in
    absurd (cc)
