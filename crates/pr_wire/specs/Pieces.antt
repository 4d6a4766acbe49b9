-- What is still to be written of a message.
use Rattle.std.specs.Prelude.{ℕ, List, [], ◌++◌, drop, flat_map}
use Rattle.pr_wire.specs.declared.format.Format.TheVariants.{Two}
use Rattle.pr_wire.specs.declared.writing.left.Left.{Left}
use Rattle.pr_wire.specs.declared.writing.left.Left.TheVariants.{Nothing, Target, Checkpoint, Rows, Marks, Bytes}
use Rattle.pr_wire.specs.declared.pieces.Pieces.{Pieces}
use Rattle.pr_wire.specs.Spelling.{list_text, mark_text, row_text, span_text, vector_text}

-- the spelling of what is left, in format 2
abbrev pub left_text : Left → List ℕ
left_text Nothing = []
left_text (Target parts) = flat_map span_text parts.now
left_text (Checkpoint target floor rows) = flat_map span_text target.now ++ (vector_text floor.now ++ list_text (row_text Two) rows.now)
left_text (Rows rows) = flat_map (row_text Two) rows.now
left_text (Marks marks rows) = flat_map mark_text marks.now ++ flat_map (row_text Two) rows.now
left_text (Bytes bytes) = bytes.now

-- the bytes that are still to be given
abbrev pub rest_of : Pieces → List ℕ
rest_of p = drop p.at p.chunk.items ++ left_text p.left
