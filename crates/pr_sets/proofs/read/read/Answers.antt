use Rattle.std.proofs.Common.{◌≡◌, ◌⊎◌, inr, Ok, Err, arith, sym, ap, ◌∙◌}
use Rattle.pr_sets.specs.Text.{set_read}
use Rattle.pr_sets.specs.declared.fault.SetFault.TheVariants.{NoMemory}
use Rattle.pr_sets.proofs.Reading.{few_enough, handed_on, item_refused, none_read, too_many}
use Rattle.pr_sets.proofs.read.read.Goals as goal

pub returns-then-eq-clause-ok : goal.returns-then-eq-clause-ok
returns-then-eq-clause-ok c =
    none_read c.args.bytes.now c.args.most (sym (rw c.as_slice.ensures at c.eq.ensures) ∙ c.if-eq.true) ∙ ap Ok (sym c.new.ensures)

pub returns-then-commas-most-clause-err : goal.returns-then-commas-most-clause-err
returns-then-commas-most-clause-err c =
    inr (too_many c.args.bytes.now c.args.most (sym (rw c.as_slice.ensures at c.eq.ensures) ∙ c.if-eq.false) (omega (arith, c.commas.ensures, c.if-commas-most.true)))

pub returns-in_err-parts-clause-err : goal.returns-in_err-parts-clause-err
returns-in_err-parts-clause-err c =
    handed_on c.from_residual.result c.in_err-parts.field-0.0
    (λ fault. (fault ≡ NoMemory) ⊎ (set_read c.args.bytes.now c.args.most ≡ Err fault))
    c.from_residual.ensures.1
    (item_refused c.args.bytes.now c.args.most c.in_err-parts.field-0.0 (sym (rw c.as_slice.ensures at c.eq.ensures) ∙ c.if-eq.false)
    (omega (arith, c.commas.ensures, c.if-commas-most.false)) c.in_err-parts.ensures.err)

pub returns-clause-ok : goal.returns-clause-ok
returns-clause-ok c =
    few_enough c.args.bytes.now c.args.most (Ok c.in_ok-parts.parts.items) (sym (rw c.as_slice.ensures at c.eq.ensures) ∙ c.if-eq.false)
    (omega (arith, c.commas.ensures, c.if-commas-most.false)) c.in_ok-parts.ensures.ok
    ∙ ap Ok (sym c.in_ok-listed.ensures.list)
