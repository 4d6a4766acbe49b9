-- What comes of reading a script.
use Rattle.std.specs.Prelude.{◌≡◌, ℕ, List, Option, Result, Ok, Err, IfSome}
use Rattle.std.specs.Io.KnownBytes.{IsAtEnd}
use Rattle.pr_ports.specs.Faults.{HasRisen}
use Rattle.pr_script.specs.Good.{IsGood}
use Rattle.pr_script.specs.Labels.{AreLabels}
use Rattle.pr_script.specs.Reading.{Means}
use Rattle.pr_script.specs.declared.script.Script.{Script}
use Rattle.pr_top.specs.Sizes.{IsTooLarge}
use Rattle.pr_top.specs.declared.reading.ReadError.{ReadError}
use Rattle.pr_top.specs.declared.reading.ReadError.TheVariants as errors

-- the source was read to its end, these are all its bytes, and they are not too many
pub record IsRead (left left_now : Option (List ℕ)) (bytes : List ℕ) : Type 0 where
  pub all : IfSome left (λ known. known ≡ bytes)
  pub ended : IsAtEnd left_now
  pub fits : ¬ IsTooLarge bytes

-- the source was read to its end, and its bytes mean this script
pub record HasScript (left left_now : Option (List ℕ)) (s : Script) : Type 0 where
  pub bytes : List ℕ
  pub read : IsRead left left_now bytes
  pub means : Means bytes (Ok s)

-- or this first bad line, with the rule that it breaks
pub record HasBadLine (left left_now : Option (List ℕ)) (line why : ℕ) : Type 0 where
  pub bytes : List ℕ
  pub read : IsRead left left_now bytes
  pub means : Means bytes (Err (line, why))

abbrev pub IsReadSo : Option (List ℕ) → Option (List ℕ) → ℕ → ℕ → Result Script ReadError → Type 0
IsReadSo left left_now faults faults_now (Ok s) = HasScript left left_now s × IsGood s × AreLabels s.decls.list
IsReadSo left left_now faults faults_now (Err errors.Failed) = HasRisen faults faults_now
IsReadSo left left_now faults faults_now (Err errors.TooLarge) = IfSome left IsTooLarge
IsReadSo left left_now faults faults_now (Err (errors.Bad line why)) = HasBadLine left left_now line why
IsReadSo left left_now faults faults_now (Err errors.NoMemory) = Unit {0}

-- these are all the bytes
abbrev pub IsFinished : List ℕ → Result Script ReadError → Type 0
IsFinished bytes (Ok s) = Means bytes (Ok s) × IsGood s × AreLabels s.decls.list
IsFinished bytes (Err (errors.Bad line why)) = Means bytes (Err (line, why))
IsFinished bytes (Err errors.NoMemory) = Unit {0}
IsFinished bytes (Err error) = ⊥
