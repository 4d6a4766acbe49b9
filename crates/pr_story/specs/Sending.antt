-- The turn of a stream, as the plain program finds it.
use Rattle.std.specs.Prelude.{ℕ, List, [], ◌∷◌, ◌≡◌, ◌⊎◌, ◌↔◌, cond, false, Option, None, Some, Contains}
use Rattle.pr_stamps.specs.Point.{Point}
use Rattle.pr_names.specs.Name.{IsName}
use Rattle.pr_names.specs.Order.{name_lt}
use Rattle.pr_names.specs.Span.{Span}
use Rattle.pr_vectors.specs.Vector.{join_of, cut_of, below_of}
use Rattle.pr_inval.specs.declared.kind.Kind.{Kind}
use Rattle.pr_inval.specs.declared.kind.Kind.TheVariants.{Precise, Imprecise, Checkpoint, Body}
use Rattle.pr_inval.specs.declared.row.Row.{Row}
use Rattle.pr_story.specs.declared.event.Event.{Event}
use Rattle.pr_story.specs.declared.event.Event.TheVariants.{Wrote, Accepted}
use Rattle.pr_inval.specs.declared.write_rec.WriteRec.{WriteRec}
use Rattle.pr_inval.specs.Standing.{Standing}
use Rattle.pr_story.specs.declared.entry.Entry.{Entry}
use Rattle.pr_story.specs.declared.plain.next.Next.{Next}
use Rattle.pr_story.specs.declared.plain.next.Next.TheVariants as next
use Rattle.pr_story.specs.History.{current_vector}
use Rattle.pr_story.specs.Knowledge.{WasNamed}
use Rattle.pr_story.specs.Turns.{IsTarget, IsWriteToSend, IsNextWrite, IsWithheld, IsBodyToSend, IsNextBody, Turn, StaleTurn, IdleTurn, SendTurn}

abbrev pub turn_of : Next → Turn
turn_of (next.Stale cut) = StaleTurn cut
turn_of next.Idle = IdleTurn
turn_of (next.Send kind) = SendTurn kind

-- the invalidation that a stream at this position sends where the vector is past it
abbrev pub IsAhead : ℕ → List Entry → List Span → List ℕ → Kind → Type 0
IsAhead n j names position (Imprecise from to target) =
    (from ≡ position) × IsTarget n j names position to target
    × ((((x : WriteRec) → ¬ IsWriteToSend j names position x) × (to ≡ join_of position (current_vector j)))
    ⊎ ((t : WriteRec) × IsNextWrite j names position t × (to ≡ join_of position (below_of (current_vector j) t.stamp))
    × ((o : List ℕ) × IsName o × IsWithheld n j names position to o)))
IsAhead n j names position (Precise from to write) =
    (from ≡ position) × IsNextWrite j names position write
    × (to ≡ join_of position (cut_of (current_vector j) write.stamp))
    × ((o : List ℕ) → IsName o → ¬ IsWithheld n j names position (join_of position (below_of (current_vector j) write.stamp)) o)
IsAhead n j names position _ = ⊥

-- the body of the name that is to be sent, if there is one
abbrev pub IsBodyOf : List Entry → Standing → List ℕ → Option Kind → Type 0
IsBodyOf j session o None = (t : Point) (bytes : List ℕ) → ¬ IsBodyToSend j session o t bytes
IsBodyOf j session o (Some (Body name t bytes)) = (name ≡ o) × IsBodyToSend j session o t bytes
IsBodyOf j session o (Some _) = ⊥

-- ---- names

abbrev pub row_names : List Row → List (List ℕ)
row_names [] = []
row_names (row ∷ rows) = row.name ∷ row_names rows

abbrev pub names_in_kind : Kind → List (List ℕ)
names_in_kind (Precise from to write) = write.name ∷ []
names_in_kind (Checkpoint to target floor rows) = row_names rows
names_in_kind _ = []

-- the names that the event names stamps of, in order
abbrev pub names_in : Event → List (List ℕ)
names_in (Wrote client write body after) = write.name ∷ []
names_in (Accepted msg at) = names_in_kind msg.kind
names_in _ = []

-- the names of which the node knows a stamp
abbrev pub IsNamedList : List Entry → List (List ℕ) → Type 0
IsNamedList j names = (o : List ℕ) → Contains names o ↔ ((t : Point) × WasNamed j o t)

abbrev pub lesser_name : Option (List ℕ) → List ℕ → Option (List ℕ)
lesser_name None n = Some n
lesser_name (Some b) n = cond (name_lt n b) (Some n) (Some b)

-- a body of the name is to be sent
abbrev pub HasBody : List Entry → Standing → List ℕ → Type 0
HasBody j session o = (t : Point) × (bytes : List ℕ) × IsBodyToSend j session o t bytes

-- the least name of which a body is to be sent
abbrev pub IsNextName : List Entry → Standing → Option (List ℕ) → Type 0
IsNextName j session None = (o : List ℕ) → ¬ HasBody j session o
IsNextName j session (Some n) = HasBody j session n × ((o : List ℕ) → HasBody j session o → name_lt o n ≡ false)

-- what is sent where the position holds the vector and the stream sends bodies
abbrev pub IsBodyTurn : List Entry → Standing → Next → Type 0
IsBodyTurn j session (next.Stale cut) = ⊥
IsBodyTurn j session next.Idle = (o : List ℕ) → ¬ HasBody j session o
IsBodyTurn j session (next.Send (Body o t bytes)) = IsNextBody j session o t bytes
IsBodyTurn j session (next.Send _) = ⊥
