use Rattle.std.proofs.Common.{ℕ, List, length, drop, refl, ap, subst, ◌∙◌, arith}
use Rattle.pr_wire.proofs.Fields.{length-eight}
use Rattle.pr_keep.specs.declared.records.Gate.TheVariants.{Missing}
use Rattle.pr_keep.specs.Calls.{GateIs}
use Rattle.pr_keep.proofs.RecordLemmas.{missing}
use Rattle.pr_keep.proofs.records.record_at.Goals as goal

pub returns-in-Missing-clause-place : goal.returns-in-Missing-clause-place
returns-in-Missing-clause-place g c =
    (refl, missing (drop c.args.at (g.D.Disk.state c.args.disk.now).reads) (subst (λ (t : List ℕ). GateIs t Missing) (c.as_slice.ensures ∙ c.in_ok-head.ensures.bytes) c.in-Missing.ensures))

pub record_behind-requires-clause-place : goal.record_behind-requires-clause-place
record_behind-requires-clause-place g c =
    omega (arith, c.in_ok-head.ensures.fits, ap length c.in-Open.ensures, ap length c.as_slice.ensures, length-eight c.in-Open.len)
