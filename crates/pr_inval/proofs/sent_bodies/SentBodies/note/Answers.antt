use Rattle.std.proofs.Common.{◌<◌, ap, ◌∙◌, sym, subst, map}
use Rattle.std.specs.Prelude.{◌||◌}
use Rattle.pr_stamps.specs.Kept.{Kept}
use Rattle.pr_stamps.specs.Point.{is_this}
use Rattle.pr_inval.specs.Standing.{SentBody, was_sent}
use Rattle.pr_inval.specs.declared.sent_body.SentBody as declared
use Rattle.pr_inval.proofs.Bodies.{body_of, noted}
use Rattle.pr_inval.proofs.sent_bodies.SentBodies.note.Goals as goal

pub returns-clause-noted : goal.returns-clause-noted
returns-clause-noted c o t =
    let keys = c.self.inside.bodies.keys in
    let HasRoom : Kept SentBody → Type 0 = λ v. 0 < v.room in
    noted c.insert.result keys c.insert.new.self.keys c.of.result (c.insert.ensures.succeeds (subst HasRoom (sym c.self.view_is) c.requires)) c.insert.ensures.keys c.insert.ensures.added o t
    ∙ ap (λ (b : declared.SentBody). is_this b.name (body_of b).stamp o t || was_sent (map body_of keys) o t) c.of.ensures
    ∙ ap (λ v. is_this c.args.name.now c.args.stamp.now o t || was_sent v.items o t) c.self.view_is
