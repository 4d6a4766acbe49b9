-- The last line of a pull.
use Rattle.std.proofs.Common.{◌≡◌, ◌⊎◌, ℕ, ◌+◌, List, Option, Ok, Err, inl, inr, refl, sym, codes, subst}
use Rattle.pr_serve.specs.declared.serve_fault.ServeFault.{ServeFault}
use Rattle.pr_serve.specs.declared.serve_fault.ServeFault.TheVariants as faults
use Rattle.pr_text.specs.Endings.{error_line, ok_line}
use Rattle.pr_top.specs.Pulled.{IsClosed, IsOkTold, bytes_cause, cause_of}
use Rattle.pr_top.specs.Runs.{WritesLine}
use Rattle.pr_top.specs.Served.{status_of}
use Rattle.pr_top.specs.declared.status.Status.{Status}
use Rattle.pr_top.specs.declared.status.Status.TheVariants as status

module _ (failed : Type 0) (lines : ℕ) (a b : Option (List ℕ)) where
  pub ok_closed : (count : ℕ) (result : Status) → IsOkTold result (lines + count) failed a b → IsClosed result (Ok count) failed lines a b
  ok_closed count status.Ok told = (refl, (ok_line (lines + count), refl, told))
  ok_closed count status.WriteFault cut = (count, refl, cut)
  ok_closed count status.NoMemory line = line
  ok_closed count status.Usage none = absurd none
  ok_closed count (status.BadScript line why) none = absurd none
  ok_closed count status.ReadFault none = absurd none
  ok_closed count status.TooLarge none = absurd none
  ok_closed count (status.Lied stream number sent got) none = absurd none
  ok_closed count (status.Unmet line) none = absurd none
  ok_closed count (status.Worn at) none = absurd none
  ok_closed count (status.BadBytes at) none = absurd none
  ok_closed count status.NoNode none = absurd none
  ok_closed count (status.No line why) none = absurd none

  pub bytes_closed : (at : ℕ) (result : Status) → (result ≡ status.BadBytes at) ⊎ (result ≡ status.NoMemory)
      → (result ≡ status.BadBytes at → WritesLine failed (error_line (bytes_cause at)) a b) → (result ≡ status.NoMemory → WritesLine failed (error_line (codes "no memory")) a b)
      → IsClosed result (Err (faults.BadBytes at)) failed lines a b
  bytes_closed at result (inl is) told short = subst (λ (r : Status). IsClosed r (Err (faults.BadBytes at)) failed lines a b) (sym is) (refl, told is)
  bytes_closed at result (inr is) told short = subst (λ (r : Status). IsClosed r (Err (faults.BadBytes at)) failed lines a b) (sym is) (short is)

  -- the line of another fault
  pub fault_closed : (fault : ServeFault) (result : Status) → (fault ≡ faults.WriteFault → ⊥) → result ≡ status_of (Err fault) → WritesLine failed (error_line (cause_of fault)) a b → IsClosed result (Err fault) failed lines a b
  fault_closed fault result read is line = subst (λ (r : Status). IsClosed r (Err fault) failed lines a b) (sym is) (by fault read line)
    where
      by : (f : ServeFault) → (f ≡ faults.WriteFault → ⊥) → WritesLine failed (error_line (cause_of f)) a b → IsClosed (status_of (Err f)) (Err f) failed lines a b
      by (faults.BadBytes at) read line = (refl, line)
      by faults.ReadFault read line = (refl, line)
      by faults.WriteFault read line = absurd (read refl)
      by faults.TooLarge read line = (refl, line)
      by (faults.Worn at) read line = (refl, line)
      by faults.NoMemory read line = line
