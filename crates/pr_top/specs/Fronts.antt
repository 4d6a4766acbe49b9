-- A script that a byte 0 ends, and what stands behind it.
use Rattle.std.specs.Prelude.{◌≡◌, ◌≢◌, ◌⊎◌, ◌≤◌, ◌==◌, ◌++◌, ℕ, List, [], ◌∷◌, length, Option, Some, None, Result, Ok, Err, IfSome}
use Rattle.std.specs.Io.KnownBytes.{Consumes, IsAtEnd, prepend_known}
use Rattle.std.specs.List.{AllByRecursion, before_first}
use Rattle.pr_ports.specs.Faults.{HasRisen}
use Rattle.pr_script.specs.Answers.{Holds}
use Rattle.pr_script.specs.Good.{IsGood}
use Rattle.pr_script.specs.Labels.{AreLabels}
use Rattle.pr_script.specs.Reading.{Kept, Means}
use Rattle.pr_script.specs.declared.script.Script.{Script}
use Rattle.pr_top.specs.Sizes.{IsSizeOf, IsTooLarge}
use Rattle.pr_top.specs.declared.fronts.Front.{Front}
use Rattle.pr_top.specs.declared.reading.ReadError.{ReadError}
use Rattle.pr_top.specs.declared.reading.ReadError.TheVariants as errors
use Rattle.pr_top.specs.declared.size.Size.{Size}

-- the bytes before the first byte 0, or all
abbrev pub front : List ℕ → List ℕ
front bytes = before_first (λ b. b == 0) bytes

abbrev pub HasNoZero : List ℕ → Type 0
HasNoZero bytes = AllByRecursion (λ b. b ≢ 0) bytes

-- these are the source's bytes up to the first byte 0, or to its end where there is none; what is behind is left
pub record IsFront (left behind : Option (List ℕ)) (bytes : List ℕ) : Type 0 where
  pub no_zero : HasNoZero bytes
  pub ended : Consumes left behind (bytes ++ 0 ∷ []) ⊎ (Consumes left behind bytes × IsAtEnd behind)
  pub fits : ¬ IsTooLarge bytes

-- the bytes mean this script
pub record HasFront (left behind : Option (List ℕ)) (s : Script) : Type 0 where
  pub bytes : List ℕ
  pub read : IsFront left behind bytes
  pub means : Means bytes (Ok s)

-- or this first bad line, with the rule that it breaks
pub record HasBadFront (left : Option (List ℕ)) (line why : ℕ) : Type 0 where
  pub bytes : List ℕ
  pub behind : Option (List ℕ)
  pub read : IsFront left behind bytes
  pub means : Means bytes (Err (line, why))

-- too many bytes stand before the first byte 0
abbrev pub HasLargeFront : Option (List ℕ) → Type 0
HasLargeFront left = IfSome left (λ known. IsTooLarge (front known))

-- what was read behind the byte 0 comes before what the source has left
abbrev pub IsFrontReadSo : Option (List ℕ) → Option (List ℕ) → ℕ → ℕ → Result Front ReadError → Type 0
IsFrontReadSo left left_now faults faults_now (Ok f) =
    HasFront left (prepend_known f.ahead left_now) f.script × IsGood f.script × AreLabels f.script.decls.list × (length f.ahead ≤ 4096)
IsFrontReadSo left left_now faults faults_now (Err errors.Failed) = HasRisen faults faults_now
IsFrontReadSo left left_now faults faults_now (Err errors.TooLarge) = HasLargeFront left
IsFrontReadSo left left_now faults faults_now (Err (errors.Bad line why)) = HasBadFront left line why
IsFrontReadSo left left_now faults faults_now (Err errors.NoMemory) = Unit {0}

-- ---- within

-- what comes of taking a piece more: these are all the bytes then
abbrev pub IsTaken : Kept → Size → List ℕ → Result (Unit {0}) ReadError → Type 0
IsTaken reader size bytes (Ok done) = Holds reader bytes × IsSizeOf size bytes
IsTaken reader size bytes (Err errors.TooLarge) = IsTooLarge bytes
IsTaken reader size bytes (Err errors.NoMemory) = Unit {0}
IsTaken reader size bytes (Err _) = ⊥

-- a piece is cut at its first byte 0, where it has one
abbrev pub IsCutAt : List ℕ → List ℕ → Option (List ℕ) → Type 0
IsCutAt piece before None = (piece ≡ before) × HasNoZero before
IsCutAt piece before (Some behind) = (piece ≡ before ++ 0 ∷ behind) × HasNoZero before

-- these are all the bytes, and those were read behind them
abbrev pub IsEndedSo : List ℕ → List ℕ → Result Front ReadError → Type 0
IsEndedSo bytes ahead (Ok f) = (f.ahead ≡ ahead) × Means bytes (Ok f.script) × IsGood f.script × AreLabels f.script.decls.list
IsEndedSo bytes ahead (Err (errors.Bad line why)) = Means bytes (Err (line, why))
IsEndedSo bytes ahead (Err errors.NoMemory) = Unit {0}
IsEndedSo bytes ahead (Err error) = ⊥
