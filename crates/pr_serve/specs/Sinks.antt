-- What a sink took.
use Rattle.std.specs.Prelude.{◌≤◌, ◌<◌, ℕ, List, length, take, Option, Result, Ok, Err}
use Rattle.std.specs.Io.KnownBytes.{Appends}
use Rattle.pr_ports.specs.Faults.{HasRisen}
use Rattle.pr_serve.specs.declared.serve_fault.ServeFault.{ServeFault}
use Rattle.pr_serve.specs.declared.serve_fault.ServeFault.TheVariants as faults

-- a sink at some moment: the bytes that it took, where it tells them, and how often it has failed
pub record Sink : Type 0 where
  pub text : Option (List ℕ)
  pub faults : ℕ

abbrev pub sink : Option (List ℕ) → ℕ → Sink
sink text faults = record { text = text; faults = faults }

-- these bytes were taken
pub record Wrote (a b : Sink) (bytes : List ℕ) : Type 0 where
  pub text : Appends a.text b.text bytes
  pub rises : a.faults ≤ b.faults

-- so many of these bytes were taken, and then the sink failed
pub record WroteSome (a b : Sink) (bytes : List ℕ) (count : ℕ) : Type 0 where
  pub text : Appends a.text b.text (take count bytes)
  pub risen : HasRisen a.faults b.faults

-- what comes of writing these bytes
abbrev pub IsWritten : Sink → Sink → List ℕ → Result (Unit {0}) ServeFault → Type 0
IsWritten a b bytes (Ok done) = Wrote a b bytes
IsWritten a b bytes (Err faults.WriteFault) = (count : ℕ) × (count < length bytes) × WroteSome a b bytes count
IsWritten a b bytes (Err _) = ⊥
