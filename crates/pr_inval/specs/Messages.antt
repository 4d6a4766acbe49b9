-- The grammar of messages, by their values.
use Rattle.std.specs.Prelude.{◌≡◌, ◌≤◌, ℕ, Bool, false, List, [], ◌∷◌, length, IsTrue}
use Rattle.std.specs.List.{AllByRecursion}
use Rattle.pr_stamps.specs.Point.{Point, IsStamp, Before, IsPrev}
use Rattle.pr_stamps.specs.declared.mark.Mark.{Mark}
use Rattle.pr_vectors.specs.Vector.{IsVector, Le, Covers, Between}
use Rattle.pr_names.specs.Name.{IsName}
use Rattle.pr_names.specs.Order.{name_lt}
use Rattle.pr_sets.specs.Spans.{IsSet, has}
use Rattle.pr_inval.specs.declared.write_rec.WriteRec.{WriteRec}
use Rattle.pr_inval.specs.declared.row.Row.{Row}
use Rattle.pr_inval.specs.declared.kind.Kind.{Kind}
use Rattle.pr_inval.specs.declared.kind.Kind.TheVariants.{Precise, Imprecise, Checkpoint, Body}
use Rattle.pr_inval.specs.declared.msg.Msg.{Msg}

-- each item comes before the next
abbrev pub Precedes : {A : Type 0} → (A → A → Type 0) → A → List A → Type 0
Precedes r x [] = Unit {0}
Precedes r x (y ∷ ys) = r x y

abbrev pub IsAscending : {A : Type 0} → (A → A → Type 0) → List A → Type 0
IsAscending r [] = Unit {0}
IsAscending r (x ∷ xs) = Precedes r x xs × IsAscending r xs

-- a write between two vectors
pub record IsWrite (from to : List ℕ) (w : WriteRec) : Type 0 where
  pub name : IsName w.name
  pub stamp : IsStamp w.stamp
  pub prev : IsPrev w.prev w.stamp
  pub between : Between from to w.stamp

-- a mark that the first vector does not cover and the second does, up to the newest stamp of its name
pub record IsMark (floor to : List ℕ) (newest : Point) (m : Mark) : Type 0 where
  pub stamp : IsStamp m.stamp
  pub prev : IsPrev m.prev m.stamp
  pub between : Between floor to m.stamp
  pub known : ¬ Before newest m.stamp

abbrev pub IsEarlierMark : Mark → Mark → Type 0
IsEarlierMark a b = Before a.stamp b.stamp

abbrev pub IsEarlierRow : Row → Row → Type 0
IsEarlierRow a b = IsTrue (name_lt a.name b.name)

-- a row of a name that the target lacks
pub record IsRow (floor to : List ℕ) (target : List ℕ → Bool) (r : Row) : Type 0 where
  pub name : IsName r.name
  pub outside : target r.name ≡ false
  pub newest : IsStamp r.newest
  pub covered : Covers to r.newest
  pub each : AllByRecursion (IsMark floor to r.newest) r.marks
  pub in_order : IsAscending IsEarlierMark r.marks

pub record IsCheckpoint (to : List ℕ) (target : List ℕ → Bool) (floor : List ℕ) (rows : List Row) : Type 0 where
  pub end_is : IsVector to
  pub floor_is : IsVector floor
  pub rises : Le floor to
  pub each : AllByRecursion (IsRow floor to target) rows
  pub in_order : IsAscending IsEarlierRow rows

abbrev pub IsKind : Kind → Type 0
IsKind (Precise from to write) = IsVector from × IsVector to × Le from to × IsWrite from to write
IsKind (Imprecise from to target) = IsVector from × IsVector to × Le from to × IsSet target
IsKind (Checkpoint to target floor rows) = IsSet target × IsCheckpoint to (has target) floor rows
IsKind (Body name stamp bytes) = IsName name × IsStamp stamp × (length bytes ≤ 65536)

-- a message of the grammar, by its values
pub record IsMessage (m : Msg) : Type 0 where
  pub from_one : 1 ≤ m.time
  pub most : m.time ≤ 4611686018427387903
  pub number_from_one : 1 ≤ m.number
  pub number_most : m.number ≤ 4611686018427387903
  pub kind : IsKind m.kind
