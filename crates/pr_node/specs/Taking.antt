-- What a message changes of the stores.
use Rattle.std.specs.Prelude.{ℕ, List, ◌∷◌, ◌≡◌, ◌⊎◌, IsTrue, Contains, Option, None, Some}
use Rattle.pr_stamps.specs.Point.{Point, Before}
use Rattle.pr_vectors.specs.Vector.{Le}
use Rattle.pr_inval.specs.declared.kind.Kind.{Kind}
use Rattle.pr_inval.specs.declared.kind.Kind.TheVariants.{Precise, Imprecise, Checkpoint, Body}
use Rattle.pr_inval.specs.declared.msg.Msg.{Msg}
use Rattle.pr_inval.specs.declared.row.Row.{Row}
use Rattle.pr_inval.specs.Points.{from_of}
use Rattle.pr_log.specs.Log.{Knows}
use Rattle.pr_bodies.specs.Bodies.{Held, held, IsPut, IsSettled}
use Rattle.pr_marks.specs.Table.{Table, newest_of}
use Rattle.pr_stamps.specs.declared.newest.Newest.{Newest}
use Rattle.pr_story.specs.declared.entry.Entry.{Entry}
use Rattle.pr_story.specs.declared.event.Event.TheVariants.{Accepted}
use Rattle.pr_story.specs.Lawful.{has_from}
use Rattle.pr_node.specs.declared.stores.Stores.{Stores}
use Rattle.pr_node.specs.Ties.{IsTied}

-- from a to b the stores have taken a message of this kind
abbrev pub HasTaken : Stores → Stores → Kind → Type 0
HasTaken a b kind =
    (n : ℕ) (j : List Entry) (time caller : ℕ) (msg : Msg) (at : List ℕ)
    → msg.kind ≡ kind → IsTied n j a → IsTied n (record { time = time; caller = caller; event = Accepted msg at } ∷ j) b

-- the start of a message that a node with this vector has a gap before; none where it has none
abbrev pub IsGap : Kind → List ℕ → Option (List ℕ) → Type 0
IsGap kind has None = Le (from_of kind) has
IsGap kind has (Some needs) = (needs ≡ from_of kind) × IsTrue (has_from kind) × ¬ Le (from_of kind) has

-- the newest stamp is after this one
abbrev pub IsLate : Option Newest → Point → Type 0
IsLate None stamp = ⊥
IsLate (Some newest) stamp = Before stamp newest.stamp

-- the body is held just where no later write to the name is known
abbrev pub IsBodyTaken : Held → Held → Table → List ℕ → Point → List ℕ → Type 0
IsBodyTaken a b m name stamp bytes =
    (IsPut a b name stamp bytes × ¬ IsLate (newest_of m name) stamp) ⊎ ((b ≡ a) × IsLate (newest_of m name) stamp)

-- a row tells a later write to the name
abbrev pub IsOutdated : List Row → List ℕ → Point → Type 0
IsOutdated rows o t = (row : Row) × Contains rows row × (row.name ≡ o) × Before t row.newest

-- the bodies with stamps before a row's newest are gone, and the others stay
abbrev pub AreSettled : Held → Held → List Row → Type 0
AreSettled a b rows =
    (o : List ℕ) (t : Point)
    → ((held b o t ≡ held a o t) × ¬ IsOutdated rows o t) ⊎ ((held b o t ≡ None) × IsOutdated rows o t)

-- what a message of this kind leaves of the bodies; a write that was known before leaves them as they are
abbrev pub LeavesBodies : Stores → Stores → Kind → Type 0
LeavesBodies a b (Precise from to write) = IsSettled a.bodies b.bodies write.name write.stamp ⊎ ((b.bodies ≡ a.bodies) × Knows a.log write)
LeavesBodies a b (Imprecise from to target) = b.bodies ≡ a.bodies
LeavesBodies a b (Checkpoint to target floor rows) = AreSettled a.bodies b.bodies rows
LeavesBodies a b (Body name stamp bytes) = IsBodyTaken a.bodies b.bodies a.marks name stamp bytes
