-- The one spelling of a message in each of the two formats (docs/WIRE.md).
use Rattle.std.specs.Prelude.{ℕ, zero, suc, ◌+◌, Bool, cond, nat_lt, List, [], ◌∷◌, ◌++◌, length, Option, Some, None}
use Rattle.std.specs.List.{flat_map}
use Rattle.std.specs.Int.{w32, w64, to_be_bytes}
use Rattle.pr_stamps.specs.Point.{Point}
use Rattle.pr_stamps.specs.declared.mark.Mark.{Mark}
use Rattle.pr_vectors.specs.Vector.{clock_of, zero_vector}
use Rattle.pr_names.specs.Span.{Span}
use Rattle.pr_names.specs.declared.bound.Bound.{Bound}
use Rattle.pr_names.specs.declared.bound.Bound.TheVariants.{At, End}
use Rattle.pr_inval.specs.declared.write_rec.WriteRec.{WriteRec}
use Rattle.pr_inval.specs.declared.row.Row.{Row}
use Rattle.pr_inval.specs.declared.kind.Kind.{Kind}
use Rattle.pr_inval.specs.declared.kind.Kind.TheVariants.{Precise, Imprecise, Checkpoint, Body}
use Rattle.pr_inval.specs.declared.msg.Msg.{Msg}
use Rattle.pr_wire.specs.declared.format.Format.{Format}
use Rattle.pr_wire.specs.declared.format.Format.TheVariants.{One, Two}

-- a number in 8 bytes, and one in 4, the highest byte first
unfoldable pub eight : ℕ → List ℕ
eight n = to_be_bytes w64 n

unfoldable pub four : ℕ → List ℕ
four n = to_be_bytes w32 n

-- a name: its length, and its bytes
unfoldable pub name_text : List ℕ → List ℕ
name_text n = length n ∷ n

-- a stamp: its clock, and its node
unfoldable pub stamp_text : Point → List ℕ
stamp_text p = eight p.clock ++ p.node ∷ []

unfoldable pub prev_text : Option Point → List ℕ
prev_text None = 0 ∷ []
prev_text (Some p) = 1 ∷ stamp_text p

-- a name, or the byte 0 for the end
unfoldable pub bound_text : Bound → List ℕ
bound_text End = 0 ∷ []
bound_text (At n) = name_text n

unfoldable pub span_text : Span → List ℕ
span_text s = name_text s.lo ++ bound_text s.hi

-- a list: how many items, and the items
unfoldable pub list_text : {A : Type 0} → (A → List ℕ) → List A → List ℕ
list_text text xs = eight (length xs) ++ flat_map text xs

-- the clock of a node in a vector or a rise: the node first
unfoldable pub entry_text : Point → List ℕ
entry_text p = p.node ∷ eight p.clock

-- of so many nodes, from one on, those at which the second vector is above the first, each with its clock there
unfoldable pub above : List ℕ → List ℕ → ℕ → ℕ → List Point
above v w n zero = []
above v w n (suc k) =
    cond (nat_lt (clock_of v n) (clock_of w n)) (record { clock = clock_of w n; node = n } ∷ above v w (n + 1) k) (above v w (n + 1) k)

-- what a vector has above another: how many nodes, and their clocks
unfoldable pub rise_text : List ℕ → List ℕ → List ℕ
rise_text v w = length (above v w 0 32) ∷ flat_map entry_text (above v w 0 32)

-- a vector is what it has above the zero vector
unfoldable pub vector_text : List ℕ → List ℕ
vector_text v = rise_text zero_vector v

-- the end of a message's points: a vector in format 1, and what rises above the start in format 2
unfoldable pub end_text : Format → List ℕ → List ℕ → List ℕ
end_text One from to = vector_text to
end_text Two from to = rise_text from to

-- whether a write is a delete, which format 1 does not say
unfoldable pub gone_text : Format → Bool → List ℕ
gone_text One gone = []
gone_text Two gone = cond gone 1 0 ∷ []

unfoldable pub mark_text : Mark → List ℕ
mark_text m = stamp_text m.stamp ++ prev_text m.prev

unfoldable pub row_text : Format → Row → List ℕ
row_text f r = name_text r.name ++ (stamp_text r.newest ++ (gone_text f r.gone ++ list_text mark_text r.marks))

unfoldable pub write_text : Format → WriteRec → List ℕ
write_text f w = name_text w.name ++ (stamp_text w.stamp ++ (prev_text w.prev ++ gone_text f w.gone))

abbrev pub kind_byte : Kind → ℕ
kind_byte (Precise from to write) = 1
kind_byte (Imprecise from to target) = 2
kind_byte (Checkpoint to target floor rows) = 3
kind_byte (Body name stamp bytes) = 4

unfoldable pub kind_text : Format → Kind → List ℕ
kind_text f (Precise from to write) = vector_text from ++ (end_text f from to ++ write_text f write)
kind_text f (Imprecise from to target) = vector_text from ++ (end_text f from to ++ list_text span_text target)
kind_text f (Checkpoint to target floor rows) =
    vector_text to ++ (list_text span_text target ++ (vector_text floor ++ list_text (row_text f) rows))
kind_text f (Body name stamp bytes) = name_text name ++ (stamp_text stamp ++ (eight (length bytes) ++ bytes))

-- what follows the length of a frame
unfoldable pub content : Format → Msg → List ℕ
content f m = kind_byte m.kind ∷ (eight m.time ++ (four m.stream ++ (eight m.number ++ kind_text f m.kind)))

abbrev pub format_byte : Format → ℕ
format_byte One = 1
format_byte Two = 2

-- the frame of a message: the format, the length of the content, and the content
unfoldable pub spelling : Format → Msg → List ℕ
spelling f m = format_byte f ∷ (eight (length (content f m)) ++ content f m)
