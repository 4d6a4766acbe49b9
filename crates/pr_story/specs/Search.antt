-- What a search through a journal has found.
use Rattle.std.specs.Prelude.{ℕ, Bool, List, ◌≡◌, ◌≢◌, ◌≤◌, ◌<◌, ◌⊎◌, ◌↔◌, IsTrue, false, cond, Option, None, Some, Contains}
use Rattle.pr_stamps.specs.Point.{Point, Before, is_before}
use Rattle.pr_vectors.specs.Vector.{Covers}
use Rattle.pr_story.specs.declared.entry.Entry.{Entry}
use Rattle.pr_names.specs.Span.{Span}
use Rattle.pr_sets.specs.Spans.{has, IsSet, Meet}
use Rattle.pr_names.specs.Name.{IsName}
use Rattle.pr_inval.specs.declared.kind.Kind.{Kind}
use Rattle.pr_inval.specs.Points.{CoversPoint, is_invalidation, target_of}
use Rattle.pr_vectors.specs.Vector.{Between}
use Rattle.pr_story.specs.History.{HasAccepted}
use Rattle.pr_inval.specs.declared.row.Row.{Row}
use Rattle.pr_inval.specs.declared.write_rec.WriteRec.{WriteRec}
use Rattle.pr_story.specs.declared.event.Event.{Event}
use Rattle.pr_stamps.specs.declared.newest.Newest.{Newest}
use Rattle.pr_story.specs.Turns.{IsWriteToSend, IsNextWrite, IsOmitted}
use Rattle.pr_story.specs.Told.{IsGreatestUpTo, IsLit, IsPrecise, IsTold, IsUntold}
use Rattle.pr_story.specs.Knowledge.{TellsOf, HeardOf, Knows, NamesStamp, gone_in_rows, gone_told, IsNewestKnown, KnowsGone}

abbrev pub point : ℕ → ℕ → Point
point c n = record { clock = c; node = n }

-- ---- points; T says of a point that it is as wanted

-- the point is T, or else it is the one that was found
abbrev pub IsOutside : (Point → Type 0) → List ℕ → Point → Option Point → Type 0
IsOutside T v p None = Covers v p → T p
IsOutside T v p (Some q) = (q ≡ p) × Covers v p × ¬ T p

-- of the covered points with this clock at nodes below n the first that is not T, or none where all are
abbrev pub IsFirstAt : (Point → Type 0) → List ℕ → ℕ → ℕ → Option Point → Type 0
IsFirstAt T v c n None = (m : ℕ) → m < n → Covers v (point c m) → T (point c m)
IsFirstAt T v c n (Some p) =
    (p.clock ≡ c) × (p.node < n) × Covers v p × (¬ T p)
    × ((m : ℕ) → m < p.node → Covers v (point c m) → T (point c m))

-- the least untold point, or none where the set is precise
abbrev pub IsFirstUntold : ℕ → List Entry → List Span → Option Point → Type 0
IsFirstUntold n j set None = IsPrecise n j (has set)
IsFirstUntold n j set (Some p) = IsUntold n j (has set) p

-- ---- starts

-- each point is told for each of these sets that shares a name with those
abbrev pub AreTold : ℕ → List Entry → List (List ℕ → Bool) → List Span → Point → Type 0
AreTold n j sets names p = (set : List ℕ → Bool) → Contains sets set → Meet set (has names) → IsTold n j set p

-- where a stream of these names starts, if these are the node's sets
abbrev pub IsStartOf : ℕ → List Entry → List (List ℕ → Bool) → List Span → List ℕ → Type 0
IsStartOf n j sets names v = IsGreatestUpTo j (AreTold n j sets names) v

-- ---- newest stamps

-- the later of two; of equal stamps the first
abbrev pub later_of : Option Newest → Option Newest → Option Newest
later_of None b = b
later_of (Some x) None = Some x
later_of (Some x) (Some y) = cond (is_before x.stamp y.stamp) (Some y) (Some x)

-- what a write names for the name
abbrev pub IsOnly : WriteRec → List ℕ → Option Newest → Type 0
IsOnly write o None = write.name ≢ o
IsOnly write o (Some n) = (write.name ≡ o) × (write.stamp ≡ n.stamp) × (write.gone ≡ n.gone)

-- the greatest stamp that the rows name for the name, and whether the first row with it is gone
abbrev pub IsNewestRow : List Row → List ℕ → Option Newest → Type 0
IsNewestRow rows o None = (row : Row) → Contains rows row → row.name ≢ o
IsNewestRow rows o (Some n) =
    ((row : Row) × Contains rows row × (row.name ≡ o) × (row.newest ≡ n.stamp))
    × ((row : Row) → Contains rows row → row.name ≡ o → ¬ Before n.stamp row.newest)
    × (gone_in_rows rows o n.stamp ≡ Some n.gone)

-- the greatest stamp that the event names for the name, and whether its write is gone
abbrev pub IsNewestIn : Event → List ℕ → Option Newest → Type 0
IsNewestIn event o None = (s : Point) → ¬ NamesStamp event o s
IsNewestIn event o (Some n) =
    NamesStamp event o n.stamp × ((s : Point) → NamesStamp event o s → ¬ Before n.stamp s)
    × (gone_told event o n.stamp ≡ Some n.gone)

-- the newest known stamp of the name, and whether its write is gone
abbrev pub IsNewestOf : List Entry → List ℕ → Option Newest → Type 0
IsNewestOf j o None = IsNewestKnown j o None
IsNewestOf j o (Some n) = IsNewestKnown j o (Some n.stamp) × KnowsGone j o n.stamp n.gone

-- ---- writes

-- the write that the event tells of
abbrev pub IsWriteIn : Event → Option WriteRec → Type 0
IsWriteIn event None = (x : WriteRec) → ¬ TellsOf event x
IsWriteIn event (Some w) = TellsOf event w × ((x : WriteRec) → TellsOf event x → x ≡ w)

-- the known write with this stamp
abbrev pub IsKnownAt : List Entry → Point → Option WriteRec → Type 0
IsKnownAt j s None = (x : WriteRec) → HeardOf j x → x.stamp ≢ s
IsKnownAt j s (Some w) = Knows j w × (w.stamp ≡ s)

-- the one of two writes with the lesser stamp
abbrev pub IsLesserWrite : Option WriteRec → Option WriteRec → Option WriteRec → Type 0
IsLesserWrite None b r = r ≡ b
IsLesserWrite (Some x) None r = r ≡ Some x
IsLesserWrite (Some x) (Some y) r = (Before y.stamp x.stamp × (r ≡ Some y)) ⊎ (¬ Before y.stamp x.stamp × (r ≡ Some x))

-- the next write that is to be sent, or none where there is none
abbrev pub IsNextOf : List Entry → List Span → List ℕ → Option WriteRec → Type 0
IsNextOf j names p None = (x : WriteRec) → ¬ IsWriteToSend j names p x
IsNextOf j names p (Some x) = IsNextWrite j names p x

-- ---- withheld names

-- an accepted invalidation lights the name at the point
abbrev pub IsLitBy : List Entry → List ℕ → Point → Type 0
IsLitBy j o p = (k : Kind) × HasAccepted j k × IsTrue (is_invalidation k) × CoversPoint k p × (has (target_of k) o ≡ false)

-- the set lacks just the names that some accepted invalidation lights at the point
abbrev pub IsUnlit : List Entry → Point → List Span → Type 0
IsUnlit j p set = IsSet set × ((o : List ℕ) → IsName o → (has set o ≡ false) ↔ IsLitBy j o p)

-- the name is dark at some point between the vectors, of a node from one up to another
abbrev pub IsDarkUpTo : ℕ → List Entry → List ℕ → List ℕ → ℕ → ℕ → List ℕ → Type 0
IsDarkUpTo n j v w low high o = (p : Point) × (low ≤ p.node) × (p.node < high) × Between v w p × ¬ IsLit n j o p

-- the name of the event's write, where that is known and omitted
abbrev pub IsOmittedIn : List Entry → Event → List Span → List ℕ → List ℕ → Option (List ℕ) → Type 0
IsOmittedIn j event names v w None = (x : WriteRec) → TellsOf event x → Knows j x → has names x.name ≡ false → ¬ Between v w x.stamp
IsOmittedIn j event names v w (Some o) = IsName o × IsOmitted j names v w o × ((x : WriteRec) → TellsOf event x → Knows j x → x.name ≡ o)
