-- What a session keeps of its stream, and how a contract sees it.
use Rattle.std.specs.Prelude.{ℕ, List, Bool, ◌≡◌, ◌≤◌, ◌+◌, ◌||◌, max, true, false}
use Rattle.std.specs.List.{list_any}
use Rattle.pr_stamps.specs.Point.{Point, is_this}
use Rattle.pr_stamps.specs.Kept.{Kept}
use Rattle.pr_names.specs.Span.{Span}
use Rattle.pr_vectors.specs.Vector.{join_of, zero_vector}

-- a stream's subscription, whether it sends bodies, the end of what it has told, the number of its last message, the
-- time of its last event, and whether a body was sent since its last attach
pub record Standing : Type 0 where
  pub names : List Span
  pub bodies : Bool
  pub position : List ℕ
  pub number : ℕ
  pub time : ℕ
  pub sent : List ℕ → Point → Bool

-- a session: its stream and how it stands for it, whether that is attached, and room for so many bodies more
pub record SessionMeaning : Type 0 where
  pub stream : ℕ
  pub attached : Bool
  pub room : ℕ
  pub standing : Standing

-- ---- the data behind it

-- a body that was sent
pub record SentBody : Type 0 where
  pub name : List ℕ
  pub stamp : Point

-- a session as data, with the bodies sent as a list with room
pub record Remembered : Type 0 where
  pub stream : ℕ
  pub attached : Bool
  pub names : List Span
  pub bodies : Bool
  pub position : List ℕ
  pub number : ℕ
  pub time : ℕ
  pub sent : Kept SentBody

abbrev pub was_sent : List SentBody → List ℕ → Point → Bool
was_sent sent o t = list_any (λ body. is_this body.name body.stamp o t) sent

abbrev pub standing_of : Remembered → Standing
standing_of s = record {
  names = s.names;
  bodies = s.bodies;
  position = s.position;
  number = s.number;
  time = s.time;
  sent = was_sent s.sent.items;
}

abbrev pub means : Remembered → SessionMeaning
means s = record { stream = s.stream; attached = s.attached; room = s.sent.room; standing = standing_of s }

-- ---- what the calls change

-- a new session: nothing was told or sent
pub record IsNewSession (a : SessionMeaning) (stream : ℕ) (names : List Span) (bodies : Bool) : Type 0 where
  pub is_stream : a.stream ≡ stream
  pub attached : a.attached ≡ false
  pub is_names : a.standing.names ≡ names
  pub is_bodies : a.standing.bodies ≡ bodies
  pub position : a.standing.position ≡ zero_vector
  pub number : a.standing.number ≡ 0
  pub time : a.standing.time ≡ 0
  pub sent : (o : List ℕ) (t : Point) → a.standing.sent o t ≡ false

-- attached at a start; the bodies sent are forgotten, and no room is lost
pub record HasBegun (a b : SessionMeaning) (start : List ℕ) : Type 0 where
  pub stream : b.stream ≡ a.stream
  pub attached : b.attached ≡ true
  pub room : a.room ≤ b.room
  pub names : b.standing.names ≡ a.standing.names
  pub bodies : b.standing.bodies ≡ a.standing.bodies
  pub number : b.standing.number ≡ a.standing.number
  pub time : b.standing.time ≡ a.standing.time
  pub position : b.standing.position ≡ start
  pub sent : (o : List ℕ) (t : Point) → b.standing.sent o t ≡ false

-- not attached
pub record HasDetached (a b : SessionMeaning) : Type 0 where
  pub stream : b.stream ≡ a.stream
  pub attached : b.attached ≡ false
  pub room : b.room ≡ a.room
  pub standing : b.standing ≡ a.standing

-- the time is raised to this one
pub record HasHeard (a b : SessionMeaning) (at : ℕ) : Type 0 where
  pub stream : b.stream ≡ a.stream
  pub attached : b.attached ≡ a.attached
  pub room : b.room ≡ a.room
  pub names : b.standing.names ≡ a.standing.names
  pub bodies : b.standing.bodies ≡ a.standing.bodies
  pub number : b.standing.number ≡ a.standing.number
  pub time : b.standing.time ≡ max a.standing.time at
  pub position : b.standing.position ≡ a.standing.position
  pub sent : (o : List ℕ) (t : Point) → b.standing.sent o t ≡ a.standing.sent o t

-- a message that ends at this vector was sent
pub record HasSent (a b : SessionMeaning) (to : List ℕ) (at : ℕ) : Type 0 where
  pub stream : b.stream ≡ a.stream
  pub attached : b.attached ≡ a.attached
  pub room : b.room ≡ a.room
  pub names : b.standing.names ≡ a.standing.names
  pub bodies : b.standing.bodies ≡ a.standing.bodies
  pub number : b.standing.number ≡ a.standing.number + 1
  pub time : b.standing.time ≡ at
  pub position : b.standing.position ≡ join_of a.standing.position to
  pub sent : (o : List ℕ) (t : Point) → b.standing.sent o t ≡ a.standing.sent o t

-- this body was sent, which takes room for one at most
pub record HasSentBody (a b : SessionMeaning) (name : List ℕ) (stamp : Point) (at : ℕ) : Type 0 where
  pub stream : b.stream ≡ a.stream
  pub attached : b.attached ≡ a.attached
  pub room : a.room ≤ b.room + 1
  pub names : b.standing.names ≡ a.standing.names
  pub bodies : b.standing.bodies ≡ a.standing.bodies
  pub number : b.standing.number ≡ a.standing.number + 1
  pub time : b.standing.time ≡ at
  pub position : b.standing.position ≡ a.standing.position
  pub sent : (o : List ℕ) (t : Point) → b.standing.sent o t ≡ (is_this name stamp o t || a.standing.sent o t)

-- nothing but the room may differ
pub record IsSameSession (a b : SessionMeaning) : Type 0 where
  pub stream : b.stream ≡ a.stream
  pub attached : b.attached ≡ a.attached
  pub standing : b.standing ≡ a.standing
