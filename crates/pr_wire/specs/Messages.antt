-- Which messages have a spelling.
use Rattle.std.specs.Prelude.{◌≡◌, ◌<◌, ◌^◌, false, length}
use Rattle.std.specs.List.{AllByRecursion}
use Rattle.pr_inval.specs.declared.row.Row.{Row}
use Rattle.pr_inval.specs.declared.kind.Kind.{Kind}
use Rattle.pr_inval.specs.declared.kind.Kind.TheVariants.{Precise, Imprecise, Checkpoint, Body}
use Rattle.pr_inval.specs.declared.msg.Msg.{Msg}
use Rattle.pr_wire.specs.declared.format.Format.{Format}
use Rattle.pr_wire.specs.declared.format.Format.TheVariants.{One, Two}
pub use Rattle.pr_inval.specs.Messages.{IsMessage}

-- ---- what each message in memory meets

-- the counts of a kind are below 2^64
abbrev pub HasFewMarks : Row → Type 0
HasFewMarks r = length r.marks < 2 ^ 64

abbrev pub IsCounted : Kind → Type 0
IsCounted (Precise from to write) = Unit {0}
IsCounted (Imprecise from to target) = length target < 2 ^ 64
IsCounted (Checkpoint to target floor rows) = (length target < 2 ^ 64) × (length rows < 2 ^ 64) × AllByRecursion HasFewMarks rows
IsCounted (Body name stamp bytes) = Unit {0}

-- each number is below the end of its field
pub record IsInWidth (m : Msg) : Type 0 where
  pub stream : m.stream < 2 ^ 32
  pub kind : IsCounted m.kind

-- ---- formats

-- nothing of it is a delete
abbrev pub IsKept : Row → Type 0
IsKept r = r.gone ≡ false

abbrev pub HasNoDelete : Kind → Type 0
HasNoDelete (Precise from to write) = write.gone ≡ false
HasNoDelete (Imprecise from to target) = Unit {0}
HasNoDelete (Checkpoint to target floor rows) = AllByRecursion IsKept rows
HasNoDelete (Body name stamp bytes) = Unit {0}

-- format 2 is for all messages, and format 1 for those without a delete
abbrev pub IsIn : Format → Kind → Type 0
IsIn One k = HasNoDelete k
IsIn Two k = Unit {0}

pub record HasSpelling (f : Format) (m : Msg) : Type 0 where
  pub message : IsMessage m
  pub width : IsInWidth m
  pub format : IsIn f m.kind
