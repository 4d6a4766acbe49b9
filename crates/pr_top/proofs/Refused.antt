-- No script was run, and a line tells why.
use Rattle.std.proofs.Common.{◌≡◌, ◌⊎◌, ℕ, List, inl, inr, codes, subst, sym}
use Rattle.pr_text.specs.Endings.{bad_cause, error_line}
use Rattle.pr_top.specs.Answers.{AnswersPull, IsRefused, Ports, Writes, refusal_line}
use Rattle.pr_top.specs.Fronts.{HasBadFront}
use Rattle.pr_top.specs.declared.status.Status.{Status}
use Rattle.pr_top.specs.declared.status.Status.TheVariants as status

module _ (label : List ℕ) (a b : Ports) (result : Status) where
  pub refused_line : (r : Status) → result ≡ r → IsRefused label a b r → Writes a b (refusal_line r) → AnswersPull label a b result
  refused_line r is why line = subst (λ (x : Status). AnswersPull label a b x) (sym is) (inl (why, line))

  pub refused_bad : (line why : ℕ) → HasBadFront a.left line why → (result ≡ status.BadScript line why) ⊎ (result ≡ status.NoMemory)
      → (result ≡ status.BadScript line why → Writes a b (error_line (bad_cause line why))) → (result ≡ status.NoMemory → Writes a b (error_line (codes "no memory"))) → AnswersPull label a b result
  refused_bad line why bad (inl is) told short = refused_line (status.BadScript line why) is bad (told is)
  refused_bad line why bad (inr is) told short = refused_line status.NoMemory is tt (short is)
