-- Reading a message from the front of bytes, field by field.
use Rattle.std.specs.Prelude.{◌≡◌, ℕ, zero, suc, ◌+◌, Bool, true, false, not, cond, nat_lt, nat_le, ◌==◌, ◌&&◌, List, [], ◌∷◌, ◌++◌, length, take, drop, Option, Some, None, Result, Ok, Err}
use Rattle.std.specs.Int.{w32, w64, from_be_bytes}
use Rattle.pr_stamps.specs.Point.{Point, is_before}
use Rattle.pr_stamps.specs.declared.mark.Mark.{Mark}
use Rattle.pr_vectors.specs.Vector.{clock_of, raised, zero_vector}
use Rattle.pr_names.specs.Bound.{is_under}
use Rattle.pr_names.specs.Order.{name_lt}
use Rattle.pr_names.specs.Read.{name_read}
use Rattle.pr_names.specs.Span.{Span}
use Rattle.pr_names.specs.declared.bound.Bound.{Bound}
use Rattle.pr_names.specs.declared.bound.Bound.TheVariants.{At, End}
use Rattle.pr_names.specs.declared.name.NameFault.{NameFault}
use Rattle.pr_sets.specs.Spans.{has, is_behind}
use Rattle.pr_inval.specs.declared.write_rec.WriteRec.{WriteRec}
use Rattle.pr_inval.specs.declared.row.Row.{Row}
use Rattle.pr_inval.specs.declared.kind.Kind.{Kind}
use Rattle.pr_inval.specs.declared.kind.Kind.TheVariants.{Precise, Imprecise, Checkpoint, Body}
use Rattle.pr_inval.specs.declared.msg.Msg.{Msg}
use Rattle.pr_wire.specs.Spelling.{above}
use Rattle.pr_wire.specs.declared.fault.Fault.{Fault}
use Rattle.pr_wire.specs.declared.fault.Fault.TheVariants.{NoMemory, Bad}
use Rattle.pr_wire.specs.declared.format.Format.{Format}
use Rattle.pr_wire.specs.declared.reading.kinds.Header.{Header}
use Rattle.pr_wire.specs.declared.format.Format.TheVariants.{One, Two}

-- what a function answered, seen by view, is what reading gives, unless memory ran out
abbrev pub Fails : {Y : Type 0} → Fault → Option Y → Type 0
Fails NoMemory read = Unit {0}
Fails Bad read = read ≡ None

abbrev pub Gives : {X Y : Type 0} → (X → Y) → Result X Fault → Option Y → Type 0
Gives view (Ok x) read = read ≡ Some (view x)
Gives view (Err e) read = Fails e read

infixl 10 ◌>>=◌
abbrev pub ◌>>=◌ : {A B : Type 0} → Option A → (A → Option B) → Option B
None >>= f = None
(Some x) >>= f = f x

-- a value, where the test holds
abbrev pub given : {A : Type 0} → Bool → A → Option A
given test x = cond test (Some x) None

-- ---- numbers and bytes, each with the bytes after it

abbrev pub byte_at : List ℕ → Option (ℕ × List ℕ)
byte_at [] = None
byte_at (b ∷ bytes) = Some (b, bytes)

unfoldable pub bytes_at : ℕ → List ℕ → Option (List ℕ × List ℕ)
bytes_at n bytes = cond (nat_lt (length bytes) n) None (Some (take n bytes, drop n bytes))

unfoldable pub eight_at : List ℕ → Option (ℕ × List ℕ)
eight_at bytes = cond (nat_lt (length bytes) 8) None (Some (from_be_bytes w64 (take 8 bytes), drop 8 bytes))

unfoldable pub four_at : List ℕ → Option (ℕ × List ℕ)
four_at bytes = cond (nat_lt (length bytes) 4) None (Some (from_be_bytes w32 (take 4 bytes), drop 4 bytes))

-- ---- names

abbrev pub name_or_none : Result (List ℕ) NameFault → Option (List ℕ)
name_or_none (Ok n) = Some n
name_or_none (Err e) = None

unfoldable pub name_at : List ℕ → Option (List ℕ × List ℕ)
name_at bytes = do
  len ← byte_at bytes
  text ← bytes_at len.0 len.1
  name ← name_or_none (name_read text.0)
  Some (name, text.1)

unfoldable pub bound_at : List ℕ → Option (Bound × List ℕ)
bound_at [] = None
bound_at (zero ∷ bytes) = Some (End, bytes)
bound_at (suc len ∷ bytes) = do
  name ← name_at (suc len ∷ bytes)
  Some (At name.0, name.1)

unfoldable pub span_at : List ℕ → Option (Span × List ℕ)
span_at bytes = do
  lo ← name_at bytes
  hi ← bound_at lo.1
  given (is_under lo.0 hi.0) (record { lo = lo.0; hi = hi.0 }, hi.1)

-- ---- stamps

unfoldable pub stamp_of : ℕ → ℕ → Option Point
stamp_of clock node = given (nat_le 1 clock && (nat_le clock 4611686018427387903 && nat_lt node 32)) (record { clock = clock; node = node })

unfoldable pub stamp_at : List ℕ → Option (Point × List ℕ)
stamp_at bytes = do
  clock ← eight_at bytes
  node ← byte_at clock.1
  stamp ← stamp_of clock.0 node.0
  Some (stamp, node.1)

unfoldable pub prev_at : List ℕ → Option (Option Point × List ℕ)
prev_at [] = None
prev_at (zero ∷ bytes) = Some (None, bytes)
prev_at (suc zero ∷ bytes) = do
  stamp ← stamp_at bytes
  Some (Some stamp.0, stamp.1)
prev_at (suc (suc flag) ∷ bytes) = None

-- the stamp before this one is before it, if there is one
abbrev pub is_prev : Option Point → Point → Bool
is_prev None p = true
is_prev (Some q) p = is_before q p

unfoldable pub is_between : List ℕ → List ℕ → Point → Bool
is_between from to p = nat_lt (clock_of from p.node) p.clock && nat_le p.clock (clock_of to p.node)

-- a stamp with the stamp before it
unfoldable pub mark_at : List ℕ → Option (Mark × List ℕ)
mark_at bytes = do
  stamp ← stamp_at bytes
  prev ← prev_at stamp.1
  given (is_prev prev.0 stamp.0) (record { stamp = stamp.0; prev = prev.0 }, prev.1)

unfoldable pub gone_at : Format → List ℕ → Option (Bool × List ℕ)
gone_at One bytes = Some (false, bytes)
gone_at Two [] = None
gone_at Two (zero ∷ bytes) = Some (false, bytes)
gone_at Two (suc zero ∷ bytes) = Some (true, bytes)
gone_at Two (suc (suc flag) ∷ bytes) = None

-- ---- vectors

-- the clock of a node from this one on, above the vector's
unfoldable pub entry_at : ℕ → List ℕ → List ℕ → Option (Point × List ℕ)
entry_at next from bytes = do
  node ← byte_at bytes
  clock ← eight_at node.1
  stamp ← stamp_of clock.0 node.0
  given (nat_le next stamp.node && nat_lt (clock_of from stamp.node) stamp.clock) (stamp, clock.1)

-- the vector so far, raised by so many entries of nodes from the next one on
unfoldable pub entries_at : ℕ → ℕ → List ℕ → List ℕ → List ℕ → Option (List ℕ × List ℕ)
entries_at zero next from to bytes = Some (to, bytes)
entries_at (suc n) next from to bytes = do
  entry ← entry_at next from bytes
  entries_at n (entry.0.node + 1) from (raised to entry.0) entry.1

unfoldable pub rise_at : List ℕ → List ℕ → Option (List ℕ × List ℕ)
rise_at from bytes = do
  count ← byte_at bytes
  entries_at count.0 0 from from count.1

unfoldable pub vector_at : List ℕ → Option (List ℕ × List ℕ)
vector_at bytes = rise_at zero_vector bytes

-- no clock of the first vector is above the second's
unfoldable pub vector_le : List ℕ → List ℕ → Bool
vector_le v w = length (above w v 0 32) == 0

unfoldable pub end_at : Format → List ℕ → List ℕ → Option (List ℕ × List ℕ)
end_at One from bytes = do
  to ← vector_at bytes
  given (vector_le from to.0) to
end_at Two from bytes = rise_at from bytes

-- ---- lists

-- so many items more, each of which may stand behind those before it
unfoldable pub items_at : {A : Type 0} → (List ℕ → Option (A × List ℕ)) → (List A → A → Bool) → ℕ → List A → List ℕ → Option (List A × List ℕ)
items_at item follows zero xs bytes = Some (xs, bytes)
items_at item follows (suc n) xs bytes = do
  x ← item bytes
  next ← given (follows xs x.0) x
  items_at item follows n (xs ++ next.0 ∷ []) next.1

unfoldable pub list_at : {A : Type 0} → (List ℕ → Option (A × List ℕ)) → (List A → A → Bool) → List ℕ → Option (List A × List ℕ)
list_at item follows bytes = do
  count ← eight_at bytes
  items_at item follows count.0 [] count.1

-- the last item comes before this one
unfoldable pub last_before : {A : Type 0} → (A → A → Bool) → List A → A → Bool
last_before before [] x = true
last_before before (y ∷ []) x = before y x
last_before before (y ∷ (z ∷ zs)) x = last_before before (z ∷ zs) x

abbrev pub target_at : List ℕ → Option (List Span × List ℕ)
target_at bytes = list_at span_at is_behind bytes

-- ---- checkpoints

abbrev pub mark_before : Mark → Mark → Bool
mark_before a b = is_before a.stamp b.stamp

abbrev pub row_before : Row → Row → Bool
row_before a b = name_lt a.name b.name

unfoldable pub known_mark_at : List ℕ → List ℕ → Point → List ℕ → Option (Mark × List ℕ)
known_mark_at floor to newest bytes = do
  mark ← mark_at bytes
  given (is_between floor to mark.0.stamp && not (is_before newest mark.0.stamp)) mark

-- a name outside the target, and a stamp that the vector covers
abbrev pub is_known : List ℕ → List Span → List ℕ → Point → Bool
is_known to target name newest = not (has target name) && nat_le newest.clock (clock_of to newest.node)

unfoldable pub row_at : Format → List ℕ → List ℕ → List Span → List ℕ → Option (Row × List ℕ)
row_at f floor to target bytes = do
  name ← name_at bytes
  newest ← stamp_at name.1
  gone ← gone_at f newest.1
  known ← given (is_known to target name.0 newest.0) newest.0
  marks ← list_at (known_mark_at floor to known) (last_before mark_before) gone.1
  Some (record { name = name.0; newest = known; gone = gone.0; marks = marks.0 }, marks.1)

abbrev pub rows_at : Format → List ℕ → List ℕ → List Span → List ℕ → Option (List Row × List ℕ)
rows_at f floor to target bytes = list_at (row_at f floor to target) (last_before row_before) bytes

-- ---- the fields of a message

unfoldable pub write_at : Format → List ℕ → Option (WriteRec × List ℕ)
write_at f bytes = do
  name ← name_at bytes
  mark ← mark_at name.1
  gone ← gone_at f mark.1
  Some (record { name = name.0; stamp = mark.0.stamp; prev = mark.0.prev; gone = gone.0 }, gone.1)

unfoldable pub precise_at : Format → List ℕ → Option (Kind × List ℕ)
precise_at f bytes = do
  from ← vector_at bytes
  to ← end_at f from.0 from.1
  write ← write_at f to.1
  given (is_between from.0 to.0 write.0.stamp) (Precise from.0 to.0 write.0, write.1)

unfoldable pub imprecise_at : Format → List ℕ → Option (Kind × List ℕ)
imprecise_at f bytes = do
  from ← vector_at bytes
  to ← end_at f from.0 from.1
  target ← target_at to.1
  Some (Imprecise from.0 to.0 target.0, target.1)

unfoldable pub checkpoint_at : Format → List ℕ → Option (Kind × List ℕ)
checkpoint_at f bytes = do
  to ← vector_at bytes
  target ← target_at to.1
  floor ← vector_at target.1
  below ← given (vector_le floor.0 to.0) floor
  rows ← list_at (row_at f below.0 to.0 target.0) (last_before row_before) below.1
  Some (Checkpoint to.0 target.0 below.0 rows.0, rows.1)

unfoldable pub body_at : List ℕ → Option (Kind × List ℕ)
body_at bytes = do
  name ← name_at bytes
  stamp ← stamp_at name.1
  len ← eight_at stamp.1
  known ← given (nat_le len.0 65536) len
  text ← bytes_at known.0 known.1
  Some (Body name.0 stamp.0 text.0, text.1)

unfoldable pub kind_at : Format → ℕ → List ℕ → Option (Kind × List ℕ)
kind_at f kind bytes =
    cond (kind == 1) (precise_at f bytes)
    (cond (kind == 2) (imprecise_at f bytes)
    (cond (kind == 3) (checkpoint_at f bytes)
    (cond (kind == 4) (body_at bytes) None)))

-- a time or a message number
abbrev pub is_number : ℕ → Bool
is_number n = nat_le 1 n && nat_le n 4611686018427387903

unfoldable pub header_at : List ℕ → Option (Header × List ℕ)
header_at bytes = do
  time ← eight_at bytes
  stream ← four_at time.1
  number ← eight_at stream.1
  given (is_number time.0 && is_number number.0) (record { time = time.0; stream = stream.0; number = number.0 }, number.1)

unfoldable pub content_at : Format → List ℕ → Option (Msg × List ℕ)
content_at f bytes = do
  kind ← byte_at bytes
  time ← eight_at kind.1
  stream ← four_at time.1
  number ← eight_at stream.1
  known ← given (is_number time.0 && is_number number.0) number
  fields ← kind_at f kind.0 known.1
  Some (record { time = time.0; stream = stream.0; number = known.0; kind = fields.0 }, fields.1)

-- the message of this header and kind
abbrev pub message_of : Header → Kind → Msg
message_of header kind = record { time = header.time; stream = header.stream; number = header.number; kind = kind }

-- the same, where no bytes are left
unfoldable pub whole : Header → Option (Kind × List ℕ) → Option Msg
whole header read = do
  fields ← read
  given (length fields.1 == 0) (message_of header fields.0)

-- the message of which all the bytes are the content
unfoldable pub message_at : Format → List ℕ → Option Msg
message_at f bytes = do
  msg ← content_at f bytes
  given (length msg.1 == 0) msg.0
