-- What a node knows of writes, and what it answers.
use Rattle.std.specs.Prelude.{ℕ, List, [], ◌∷◌, ◌≡◌, ◌⊎◌, ◌&&◌, not, cond, nat_eq, Bool, true, false, Option, Some, None, Contains, AllPairs}
use Rattle.std.specs.Str.{bytes_eq}
use Rattle.pr_stamps.specs.Point.{Point, Before, is_this}
use Rattle.pr_stamps.specs.declared.mark.Mark.{Mark}
use Rattle.pr_vectors.specs.Vector.{Covers, join_of, zero_vector}
use Rattle.pr_inval.specs.declared.kind.Kind.{Kind}
use Rattle.pr_inval.specs.declared.kind.Kind.TheVariants.{Precise, Checkpoint, Body}
use Rattle.pr_inval.specs.declared.row.Row.{Row}
use Rattle.pr_inval.specs.declared.write_rec.WriteRec.{WriteRec}
use Rattle.pr_story.specs.declared.event.Event.{Event}
use Rattle.pr_story.specs.declared.event.Event.TheVariants.{Wrote, Accepted, Cut, Dropped}
use Rattle.pr_story.specs.declared.reply.Reply.{Reply}
use Rattle.pr_story.specs.declared.reply.Reply.TheVariants as reply
use Rattle.pr_story.specs.declared.found.Found.{Found}
use Rattle.pr_story.specs.declared.found.Found.TheVariants as found
use Rattle.pr_names.specs.Span.{Span}
use Rattle.pr_story.specs.declared.entry.Entry.{Entry}
use Rattle.pr_story.specs.History.{NodeEntry, SomeEvent, WasWritten}
use Rattle.pr_story.specs.Told.{IsPrecise, IsUntold}
use Rattle.pr_sets.specs.Sets.{set_of}

-- ---- writes

-- the message is of this write
abbrev pub IsOf : Kind → WriteRec → Type 0
IsOf (Precise from to write) x = write ≡ x
IsOf _ x = ⊥

-- the event tells its node of the write
abbrev pub TellsOf : Event → WriteRec → Type 0
TellsOf (Wrote client write body after) x = write ≡ x
TellsOf (Accepted msg at) x = IsOf msg.kind x
TellsOf _ x = ⊥

-- the node heard of the write
abbrev pub HeardOf : List Entry → WriteRec → Type 0
HeardOf j x = SomeEvent (λ event. TellsOf event x) j

-- the node knows the write: it heard of it before any other write with its stamp
abbrev pub Knows : List Entry → WriteRec → Type 0
Knows [] x = ⊥
Knows (e ∷ j) x =
    Knows j x
    ⊎ (TellsOf e.event x × ((y : WriteRec) → HeardOf j y → y.stamp ≡ x.stamp → y ≡ x))

-- ---- newest stamps

-- the checkpoint has the row
abbrev pub HasRow : Kind → Row → Type 0
HasRow (Checkpoint to target floor rows) row = Contains rows row
HasRow _ row = ⊥

-- the event names the stamp as one of the name's
abbrev pub NamesStamp : Event → List ℕ → Point → Type 0
NamesStamp (Wrote client write body after) o s = (write.name ≡ o) × (write.stamp ≡ s)
NamesStamp (Accepted msg at) o s =
    ((x : WriteRec) × IsOf msg.kind x × (x.name ≡ o) × (x.stamp ≡ s))
    ⊎ ((row : Row) × HasRow msg.kind row × (row.name ≡ o) × (row.newest ≡ s))
NamesStamp _ o s = ⊥

-- the node was told of a write to the name with this stamp, by the write itself or by a row
abbrev pub WasNamed : List Entry → List ℕ → Point → Type 0
WasNamed j o s = SomeEvent (λ event. NamesStamp event o s) j

-- of two that may be told, the first
abbrev pub first_of : {X : Type 0} → Option X → Option X → Option X
first_of (Some x) later = Some x
first_of None later = later

-- whether the first of the rows with this name and stamp is gone
abbrev pub gone_in_rows : List Row → List ℕ → Point → Option Bool
gone_in_rows [] o s = None
gone_in_rows (row ∷ rows) o s = first_of (cond (is_this row.name row.newest o s) (Some row.gone) None) (gone_in_rows rows o s)

abbrev pub gone_in : Kind → List ℕ → Point → Option Bool
gone_in (Precise from to write) o s = cond (is_this write.name write.stamp o s) (Some write.gone) None
gone_in (Checkpoint to target floor rows) o s = gone_in_rows rows o s
gone_in _ o s = None

-- what the event tells of the write to the name with this stamp: whether it is gone
abbrev pub gone_told : Event → List ℕ → Point → Option Bool
gone_told (Wrote client write body after) o s = cond (is_this write.name write.stamp o s) (Some write.gone) None
gone_told (Accepted msg at) o s = gone_in msg.kind o s
gone_told _ o s = None

-- whether the write to the name with this stamp is gone, as the node was first told
abbrev pub known_gone : List Entry → List ℕ → Point → Option Bool
known_gone [] o s = None
known_gone (e ∷ j) o s = first_of (known_gone j o s) (gone_told e.event o s)

abbrev pub KnowsGone : List Entry → List ℕ → Point → Bool → Type 0
KnowsGone j o s gone = known_gone j o s ≡ Some gone

-- the greatest of the stamps, or none where there is none
abbrev pub IsGreatest : (Point → Type 0) → Option Point → Type 0
IsGreatest P None = (s : Point) → ¬ P s
IsGreatest P (Some t) = P t × ((s : Point) → P s → ¬ Before t s)

-- the newest stamp that the node knows for the name
abbrev pub IsNewestKnown : List Entry → List ℕ → Option Point → Type 0
IsNewestKnown j o t = IsGreatest (WasNamed j o) t

-- the vector covers a write of the world to the name, with this stamp
abbrev pub IsCoveredWrite : List NodeEntry → List ℕ → List ℕ → Point → Type 0
IsCoveredWrite h v o s =
    (x : WriteRec) × (body : List ℕ) × (dep : List ℕ) × WasWritten h x body dep × (x.name ≡ o) × (x.stamp ≡ s) × Covers v s

-- the stamp of the newest write of the world to the name that the vector covers
abbrev pub IsNewest : List NodeEntry → List ℕ → List ℕ → Option Point → Type 0
IsNewest h v o t = IsGreatest (IsCoveredWrite h v o) t

-- whether a write of the world to the name with this stamp is gone
abbrev pub IsGone : List NodeEntry → List ℕ → Point → Bool → Type 0
IsGone h o s gone =
    (x : WriteRec) × (body : List ℕ) × (dep : List ℕ) × WasWritten h x body dep × (x.name ≡ o) × (x.stamp ≡ s) × (x.gone ≡ gone)

-- ---- bodies

abbrev pub body_in : Kind → List ℕ → Point → Option (List ℕ) → Option (List ℕ)
body_in (Body name stamp bytes) o t before = cond (is_this name stamp o t) (Some bytes) before
body_in _ o t before = before

abbrev pub body_after : Event → List ℕ → Point → Option (List ℕ) → Option (List ℕ)
body_after (Wrote client write body after) o t before = cond (is_this write.name write.stamp o t && not write.gone) (Some body) before
body_after (Accepted msg at) o t before = body_in msg.kind o t before
body_after (Dropped name) o t before = cond (bytes_eq name o) None before
body_after _ o t before = before

-- the body of this write that the node holds
abbrev pub held_body : List Entry → List ℕ → Point → Option (List ℕ)
held_body [] o t = None
held_body (e ∷ j) o t = body_after e.event o t (held_body j o t)

-- ---- answers

-- the answer of node n, where the newest write that counts is this, and whether it is gone
abbrev pub IsAnswer : (Option Point → Type 0) → (Point → Bool → Type 0) → List (List Span) → ℕ → List Entry → List ℕ → Reply → Type 0
IsAnswer Newest Gone sets n j o (reply.Imprecise p) = IsUntold n j (set_of sets o) p
IsAnswer Newest Gone sets n j o reply.Never = IsPrecise n j (set_of sets o) × Newest None
IsAnswer Newest Gone sets n j o (reply.Gone t) = IsPrecise n j (set_of sets o) × Newest (Some t) × Gone t true
IsAnswer Newest Gone sets n j o (reply.Body t) = IsPrecise n j (set_of sets o) × Newest (Some t) × Gone t false × (held_body j o t ≡ None)
IsAnswer Newest Gone sets n j o (reply.Value t bytes) = IsPrecise n j (set_of sets o) × Newest (Some t) × Gone t false × (held_body j o t ≡ Some bytes)

-- ---- cuts, floors and marks

abbrev pub cut_in : Event → List ℕ
cut_in (Cut at) = at
cut_in _ = zero_vector

-- the join of the node's cuts
abbrev pub cuts_of : List Entry → List ℕ
cuts_of [] = zero_vector
cuts_of (e ∷ j) = join_of (cuts_of j) (cut_in e.event)

abbrev pub floor_in : Kind → List ℕ
floor_in (Checkpoint to target floor rows) = floor
floor_in _ = zero_vector

abbrev pub floor_after : Event → List ℕ
floor_after (Cut at) = at
floor_after (Accepted msg at) = floor_in msg.kind
floor_after _ = zero_vector

-- the join of the node's cuts and of the floors of the checkpoints that it accepted
abbrev pub floor_of : List Entry → List ℕ
floor_of [] = zero_vector
floor_of (e ∷ j) = join_of (floor_of j) (floor_after e.event)

abbrev pub mark_of : WriteRec → Mark
mark_of write = record { stamp = write.stamp; prev = write.prev }

-- the first of the marks with this stamp
abbrev pub mark_at : List Mark → Point → Option Mark
mark_at [] s = None
mark_at (mark ∷ marks) s = first_of (cond (nat_eq mark.stamp.clock s.clock && nat_eq mark.stamp.node s.node) (Some mark) None) (mark_at marks s)

-- the first mark with this stamp that the rows have for the name
abbrev pub mark_in_rows : List Row → List ℕ → Point → Option Mark
mark_in_rows [] o s = None
mark_in_rows (row ∷ rows) o s = first_of (cond (bytes_eq row.name o) (mark_at row.marks s) None) (mark_in_rows rows o s)

abbrev pub mark_in : Kind → List ℕ → Point → Option Mark
mark_in (Precise from to write) o s = cond (is_this write.name write.stamp o s) (Some (mark_of write)) None
mark_in (Checkpoint to target floor rows) o s = mark_in_rows rows o s
mark_in _ o s = None

-- the mark of the name with this stamp that the event tells
abbrev pub mark_told : Event → List ℕ → Point → Option Mark
mark_told (Wrote client write body after) o s = cond (is_this write.name write.stamp o s) (Some (mark_of write)) None
mark_told (Accepted msg at) o s = mark_in msg.kind o s
mark_told _ o s = None

-- the mark of the name with this stamp, as the node was first told
abbrev pub known_mark : List Entry → List ℕ → Point → Option Mark
known_mark [] o s = None
known_mark (e ∷ j) o s = first_of (known_mark j o s) (mark_told e.event o s)

abbrev pub KnowsMark : List Entry → List ℕ → Mark → Type 0
KnowsMark j o mark = known_mark j o mark.stamp ≡ Some mark

-- a mark of the name that the floor does not cover
abbrev pub IsMark : List Entry → List ℕ → Mark → Type 0
IsMark j o mark = KnowsMark j o mark × ¬ Covers (floor_of j) mark.stamp

-- the mark of a write of the world to the name that the vector covers and the floor does not
abbrev pub IsCoveredMark : List NodeEntry → List ℕ → List ℕ → List ℕ → Mark → Type 0
IsCoveredMark h v floor o mark =
    ((x : WriteRec) × (body : List ℕ) × (dep : List ℕ) × WasWritten h x body dep × (x.name ≡ o) × (x.stamp ≡ mark.stamp) × (x.prev ≡ mark.prev))
    × Covers v mark.stamp × ¬ Covers floor mark.stamp

-- ---- conflicts

-- the later write did not know of the earlier one
abbrev pub MissedBy : Option Point → Point → Type 0
MissedBy None s = Unit {0}
MissedBy (Some p) s = Before p s

-- the pairs of the marks that conflict: all of them, each once, by the first stamp and then the second
abbrev pub AreConflicts : (Mark → Type 0) → List (Point × Point) → Type 0
AreConflicts P pairs =
    ((x y : Mark) → P x → P y → MissedBy y.prev x.stamp → Before x.stamp y.stamp → Contains pairs (x.stamp, y.stamp))
    × ((s t : Point) → Contains pairs (s, t) → (x : Mark) × (y : Mark) × P x × P y × (x.stamp ≡ s) × (y.stamp ≡ t) × MissedBy y.prev s × Before s t)
    × AllPairs (λ p q. Before p.0 q.0 ⊎ ((p.0 ≡ q.0) × Before p.1 q.1)) pairs

-- what node n finds, where the marks that count are these
abbrev pub IsFound : (Mark → Type 0) → List (List Span) → ℕ → List Entry → List ℕ → Found → Type 0
IsFound P sets n j o (found.Imprecise p) = IsUntold n j (set_of sets o) p
IsFound P sets n j o (found.Pairs pairs) = IsPrecise n j (set_of sets o) × AreConflicts P pairs
