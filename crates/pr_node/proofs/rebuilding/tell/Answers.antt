use Rattle.std.proofs.Common.{◌≤◌, ◌∙◌, List, ℕ, length, refl, subst, sym}
use Rattle.std.specs.Prelude.{OnOk}
use Rattle.pr_vectors.specs.Vector.{Le}
use Rattle.pr_inval.specs.Points.{from_of}
use Rattle.pr_story.specs.declared.event.Event.{Event}
use Rattle.pr_node.specs.Rebuilding.{MayTell}
use Rattle.pr_node.proofs.Rebuilt.{IsToldIn, above, accepted_told, if_on, other_quiet, own_at, quiet_told, wrote_told}
use Rattle.pr_node.proofs.rebuilding.tell.Goals as goal

pub keep_write-requires-clause-before : goal.keep_write-requires-clause-before
keep_write-requires-clause-before c = (subst (λ (e : Event). MayTell c.requires.0 c.requires.1 e) c.in-Wrote.is c.requires.3).2

pub keep_write-requires-clause-short : goal.keep_write-requires-clause-short
keep_write-requires-clause-short c =
    subst (λ (b : List ℕ). length b ≤ 65536) (sym c.as_slice.ensures) (subst (λ (e : Event). MayTell c.requires.0 c.requires.1 e) c.in-Wrote.is c.requires.3).3

pub keep_write-requires-clause-own : goal.keep_write-requires-clause-own
keep_write-requires-clause-own c = own_at c.requires.0 c.requires.1 c.args.stores.now c.in-Wrote.client c.in-Wrote.write c.in-Wrote.body c.in-Wrote.after c.requires.2 (subst (λ (e : Event). MayTell c.requires.0 c.requires.1 e) c.in-Wrote.is c.requires.3)

pub keep_write-requires-clause-above : goal.keep_write-requires-clause-above
keep_write-requires-clause-above c = above c.requires.0 c.requires.1 c.args.stores.now c.in-Wrote.client c.in-Wrote.write c.in-Wrote.body c.in-Wrote.after c.requires.2 (subst (λ (e : Event). MayTell c.requires.0 c.requires.1 e) c.in-Wrote.is c.requires.3)

pub returns-in-Wrote-clause-tied : goal.returns-in-Wrote-clause-tied
returns-in-Wrote-clause-tied c =
    subst (λ (e : Event). OnOk c.keep_write.result (IsToldIn c.args.stores.now c.keep_write.new.stores e)) (sym c.in-Wrote.is)
    (if_on c.keep_write.result _ _ (wrote_told c.args.stores.now c.keep_write.new.stores c.in-Wrote.client c.in-Wrote.write c.in-Wrote.body c.in-Wrote.after c.as_slice.result.now c.as_slice.ensures) c.keep_write.ensures.tied)

pub take-requires-clause-grammar : goal.take-requires-clause-grammar
take-requires-clause-grammar c = (subst (λ (e : Event). MayTell c.requires.0 c.requires.1 e) c.in-Accepted.is c.requires.3).0

pub take-requires-clause-log : goal.take-requires-clause-log
take-requires-clause-log c =
    subst (λ (v : List ℕ). Le (from_of c.in-Accepted.msg.kind) v) (sym c.requires.2.log.vector) (subst (λ (e : Event). MayTell c.requires.0 c.requires.1 e) c.in-Accepted.is c.requires.3).1

pub take-requires-clause-gaps : goal.take-requires-clause-gaps
take-requires-clause-gaps c = c.requires.2.gaps.vector ∙ sym c.requires.2.log.vector

pub returns-in-Accepted-clause-tied : goal.returns-in-Accepted-clause-tied
returns-in-Accepted-clause-tied c =
    subst (λ (e : Event). OnOk c.take.result (IsToldIn c.args.stores.now c.take.new.stores e)) (sym c.in-Accepted.is)
    (if_on c.take.result _ _ (accepted_told c.args.stores.now c.take.new.stores c.in-Accepted.msg c.in-Accepted.at) c.take.ensures.taken)

pub returns-in-Cut-clause-tied : goal.returns-in-Cut-clause-tied
returns-in-Cut-clause-tied c =
    subst (λ (e : Event). IsToldIn c.args.stores.now c.cut.new.stores e) (sym c.in-Cut.is)
    (λ n j time caller tied may. c.cut.ensures.tied n j time caller c.in-Cut.at tied may)

pub returns-in-Dropped-clause-tied : goal.returns-in-Dropped-clause-tied
returns-in-Dropped-clause-tied c =
    subst (λ (e : Event). IsToldIn c.args.stores.now c.drop_body.new.stores e) (sym c.in-Dropped.is)
    (λ n j time caller tied may. c.drop_body.ensures.tied n j time caller tied)

pub returns-in_default : goal.returns-in_default
returns-in_default c = record {
  tied = quiet_told c.args.stores.now c.args.event.now (other_quiet c.args.event.now c.in_default.not-Wrote c.in_default.not-Accepted c.in_default.not-Cut c.in_default.not-Dropped);
  sets = refl;
}
