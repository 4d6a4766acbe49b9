-- Histories. A history has its newest entry first, so what is earlier is its tail.
use Rattle.std.specs.Prelude.{ℕ, List, [], ◌∷◌, ◌≡◌, ◌⊎◌, max, cond, nat_eq, Bool}
use Rattle.pr_vectors.specs.Vector.{clock_of, vector_of, Covers, Le}
use Rattle.pr_names.specs.Span.{Span}
use Rattle.pr_inval.specs.declared.kind.Kind.{Kind}
use Rattle.pr_inval.specs.declared.msg.Msg.{Msg}
use Rattle.pr_inval.specs.declared.write_rec.WriteRec.{WriteRec}
use Rattle.pr_story.specs.declared.entry.Entry.{Entry}
use Rattle.pr_story.specs.declared.event.Event.{Event}
use Rattle.pr_story.specs.declared.event.Event.TheVariants.{Wrote, Sent, Accepted}
use Rattle.pr_inval.specs.Points.{to_of}

-- ---- what is declared

pub record Stream : Type 0 where
  pub source : ℕ
  pub destination : ℕ
  pub names : List Span
  pub bodies : Bool

-- each node's sets, each client's node and each stream, by number
pub record Plan : Type 0 where
  pub sets : ℕ → List (List Span)
  pub home : ℕ → ℕ
  pub stream : ℕ → Stream

-- ---- lists of entries

-- an entry, and the node that made it
pub record NodeEntry : Type 0 where
  pub node : ℕ
  pub entry : Entry

-- the entries of node n alone: its journal
abbrev pub journal : List NodeEntry → ℕ → List Entry
journal [] n = []
journal (e ∷ h) n = cond (nat_eq e.node n) (e.entry ∷ journal h n) (journal h n)

abbrev pub entries : List NodeEntry → List Entry
entries [] = []
entries (e ∷ h) = e.entry ∷ entries h

-- P holds of the event of some entry
abbrev pub SomeEvent : (Event → Type 0) → List Entry → Type 0
SomeEvent P [] = ⊥
SomeEvent P (e ∷ j) = P e.event ⊎ SomeEvent P j

-- P holds of the history, and did at each place before
abbrev pub AtEveryPlace : (List NodeEntry → Type 0) → List NodeEntry → Type 0
AtEveryPlace P [] = P []
AtEveryPlace P (e ∷ h) = P (e ∷ h) × AtEveryPlace P h

-- ---- the world

-- it is this write, with this body, made where its node had the vector dep
abbrev pub Writes : Event → WriteRec → List ℕ → List ℕ → Type 0
Writes (Wrote client write body after) x bytes dep = (write ≡ x) × (body ≡ bytes) × (after ≡ dep)
Writes _ x bytes dep = ⊥

-- the world has this write
abbrev pub WasWritten : List NodeEntry → WriteRec → List ℕ → List ℕ → Type 0
WasWritten h x body dep = SomeEvent (λ event. Writes event x body dep) (entries h)

abbrev pub Sends : Event → Msg → Type 0
Sends (Sent msg) m = msg ≡ m
Sends _ m = ⊥

abbrev pub WasSent : List NodeEntry → Msg → Type 0
WasSent h msg = SomeEvent (λ event. Sends event msg) (entries h)

-- with each write that it covers, the vector holds all that the write's node had been told before it
abbrev pub IsClosed : List NodeEntry → List ℕ → Type 0
IsClosed h v = (x : WriteRec) (body dep : List ℕ) → WasWritten h x body dep → Covers v x.stamp → Le dep v

-- ---- what a journal tells of its node

abbrev pub Accepts : Event → Kind → Type 0
Accepts (Accepted msg at) k = msg.kind ≡ k
Accepts _ k = ⊥

-- the node accepted a message of this kind
abbrev pub HasAccepted : List Entry → Kind → Type 0
HasAccepted j k = SomeEvent (λ event. Accepts event k) j

-- the clock of w that the event brings to its node
abbrev pub clock_brought : Event → ℕ → ℕ
clock_brought (Wrote client write body after) w = cond (nat_eq w write.stamp.node) write.stamp.clock 0
clock_brought (Accepted msg at) w = clock_of (to_of msg.kind) w
clock_brought _ w = 0

-- how much of the writes of w the node has been told
abbrev pub current_clock : List Entry → ℕ → ℕ
current_clock [] w = 0
current_clock (e ∷ j) w = max (current_clock j w) (clock_brought e.event w)

abbrev pub current_vector : List Entry → List ℕ
current_vector j = vector_of (current_clock j)
