-- Wires over TCP, which tell counts alone.
use Rattle.std.specs.Prelude.{◌≡◌, ℕ, false, None, Result, Ok, Err}
use Rattle.pr_wires.specs.Calls.{WireState}
use Rattle.pr_wires.specs.Counters.{ends_after, one_more}

-- how often a wire has failed, and ended, and how many bytes are under way
pub record Loop : Type 0 where
  pub faults : ℕ
  pub ends : ℕ
  pub under : ℕ

-- a wire over TCP tells none of its bytes, and is not sound
abbrev pub loop_state : Loop → WireState
loop_state a = record {
  faults = a.faults;
  ends = a.ends;
  under = a.under;
  given = None;
  taken = None;
  held = None;
  sound = false;
}

-- a call of so many bytes that failed is one fault more, and nothing else; any other is no fault, and one end more just
-- where it moved none of some
abbrev pub IsCounted : {E : Type 0} → Loop → Loop → ℕ → Result ℕ E → Type 0
IsCounted a b len (Ok n) = (b.faults ≡ a.faults) × (b.ends ≡ ends_after a.ends n len)
IsCounted a b len (Err e) = b ≡ record a { faults = one_more a.faults }

-- a maker of such wires: those asked for, those that are out, and how often none could be made
pub record Makers : Type 0 where
  pub made : ℕ
  pub out : ℕ
  pub faults : ℕ

-- the faults rise just where no wire was given
abbrev pub CountsRefused : {W E : Type 0} → ℕ → ℕ → Result W E → Type 0
CountsRefused faults faults_now (Ok w) = faults_now ≡ faults
CountsRefused faults faults_now (Err e) = faults_now ≡ one_more faults
