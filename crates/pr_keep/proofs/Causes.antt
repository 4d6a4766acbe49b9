-- How calls of a disk count, one behind another.
use Rattle.std.proofs.Common.{◌≡◌, ◌≤◌, inl, inr, ℕ, Result, Ok, Err, refl, ap, ◌∙◌, arith}
use Rattle.std.specs.Prelude.{IsErrOf}
use Rattle.pr_ports.specs.Faults.{HasRisen}
use Rattle.pr_keep.specs.declared.fault.KeepFault.{KeepFault}
use Rattle.pr_keep.specs.declared.fault.KeepFault.TheVariants.{Failed}
use Rattle.pr_keep.specs.Calls.{HasCause}
use Rattle.pr_keep.specs.Disk.{State}

-- the calls so far answered
abbrev pub HasAnsweredSo : State → State → Type 0
HasAnsweredSo old new = HasCause {T = ℕ} old new (Ok 0)

rose_later : (before mid now : ℕ) → before ≤ mid → HasRisen mid now → HasRisen before now
rose_later before mid now le (inl more) = inl (omega arith)
rose_later before mid now le (inr end) = inr end

pub no_call : (old : State) → HasAnsweredSo old old
no_call old = record {
  later = omega arith;
  failed = λ e. absurd cc;
  lasts = refl;
  stopped = λ n is e. absurd cc;
  quiet = λ n is other. refl;
}

-- what is answered in the end is no failure of the disk
pub answers : {S T : Type 0} (old new : State) (s : S) (result : Result T KeepFault) → HasCause old new (Ok s) → (IsErrOf result Failed → ⊥) → HasCause old new result
answers old new s result a other = record {
  later = a.later;
  failed = λ e. absurd (other e);
  lasts = a.lasts;
  stopped = λ n is e. absurd (other e);
  quiet = λ n is no_failure. a.quiet n is (λ e. absurd cc);
}

-- a call that answered, whatever it answered
pub answered : {S : Type 0} {old new : State} {s : S} → HasCause old new (Ok s) → HasAnsweredSo old new
answered {S} {old} {new} {s} a = answers old new s (Ok 0) a (λ e. absurd cc)

pub then_answers : (old mid new : State) → HasAnsweredSo old mid → HasAnsweredSo mid new → HasAnsweredSo old new
then_answers old mid new a b = record {
  later = omega (arith, a.later, b.later);
  failed = λ e. absurd cc;
  lasts = b.lasts ∙ a.lasts;
  stopped = λ n is e. absurd cc;
  quiet = λ n is other. b.quiet n (a.lasts ∙ is) (λ e. absurd cc) ∙ a.quiet n is (λ e. absurd cc);
}

-- the last call fails
pub then_fails : {S T : Type 0} (old mid new : State) (fault : KeepFault) → HasAnsweredSo old mid → HasCause {T = S} mid new (Err fault) → HasCause {T = T} old new (Err fault)
then_fails {S} {T} old mid new fault a b = record {
  later = omega (arith, a.later, b.later);
  failed = λ e. rose_later old.faults mid.faults new.faults a.later (b.failed (same e));
  lasts = b.lasts ∙ a.lasts;
  stopped = λ n is e. b.stopped n (a.lasts ∙ is) (same e);
  quiet = λ n is other. b.quiet n (a.lasts ∙ is) (λ e. other (back e)) ∙ a.quiet n is (λ e. absurd cc);
}
  where
    same : IsErrOf {T = T} (Err fault) Failed → IsErrOf {T = S} (Err fault) Failed
    same e = let f : fault ≡ Failed = cc in ap (λ (k : KeepFault). let r : Result S KeepFault = Err k in r) f

    back : IsErrOf {T = S} (Err fault) Failed → IsErrOf {T = T} (Err fault) Failed
    back e = let f : fault ≡ Failed = cc in ap (λ (k : KeepFault). let r : Result T KeepFault = Err k in r) f
