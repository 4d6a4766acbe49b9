use Rattle.std.proofs.Common.{◌≡◌, sym, subst, ap, reverse}
use Rattle.std.specs.Prelude.{IsTrue, Some}
use Rattle.pr_inval.specs.declared.write_rec.WriteRec.{WriteRec}
use Rattle.pr_sets.specs.Spans.{has}
use Rattle.pr_vectors.specs.Vector.{Covers}
use Rattle.pr_story.proofs.Writing.{told_known_one, told_unknown}
use Rattle.pr_story.proofs.plain.writes.to_send.Goals as goal

pub returns-in_err-write-clause-all : goal.returns-in_err-write-clause-all
returns-in_err-write-clause-all c = λ x t w. absurd (told_unknown (reverse c.args.entries.now) c.in_ok-told.told x c.in_err-write.ensures (c.in_ok-told.ensures.1 x t) w.0)

pub returns-then-is_to_send-clause-all : goal.returns-then-is_to_send-clause-all
returns-then-is_to_send-clause-all c = λ x t w.
    ap (λ (y : WriteRec). Some y) (sym (told_known_one (reverse c.args.entries.now) c.in_ok-told.told c.in_ok-write.write x c.in_ok-write.ensures.1 c.in_ok-write.ensures.0 (c.in_ok-told.ensures.1 x t) w.0))

pub returns-else-is_to_send-clause-all : goal.returns-else-is_to_send-clause-all
returns-else-is_to_send-clause-all c = λ x t w.
    let e : x ≡ c.in_ok-write.write = told_known_one (reverse c.args.entries.now) c.in_ok-told.told c.in_ok-write.write x c.in_ok-write.ensures.1 c.in_ok-write.ensures.0 (c.in_ok-told.ensures.1 x t) w.0 in
    let is = c.is_to_send.ensures.1 (
      subst (λ (y : WriteRec). IsTrue (has c.args.names.now y.name)) e w.1,
      subst (λ (y : WriteRec). Covers c.args.position.now y.stamp → ⊥) e w.2,
    ) in
    let no_it = c.if-is_to_send.false in
    absurd (cc)
