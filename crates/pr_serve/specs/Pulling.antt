-- What a puller takes in.
use Rattle.std.specs.Prelude.{◌≡◌, ◌⊎◌, ◌≤◌, ◌<◌, ◌+◌, max, ℕ, List, [], ◌∷◌, ◌++◌, length, Option, Result, Ok, Err}
use Rattle.std.specs.Io.KnownBytes.{Consumes, IsAtEnd}
use Rattle.pr_names.specs.Span.{Span}
use Rattle.pr_inval.specs.declared.msg.Msg.{Msg}
use Rattle.pr_inval.specs.Standing.{Standing}
use Rattle.pr_node.specs.Stored.{NodeMeaning}
use Rattle.pr_ports.specs.Faults.{HasRisen}
use Rattle.pr_story.specs.declared.entry.Entry.{Entry}
use Rattle.pr_story.specs.declared.event.Event.{Event}
use Rattle.pr_story.specs.declared.event.Event.TheVariants.{Accepted, Gapped}
use Rattle.pr_story.specs.Lawful.{IsOwnLawful, last_time}
use Rattle.pr_wire.specs.declared.format.Format.{Format}
use Rattle.pr_wire.specs.Spelling.{spelling}
use Rattle.pr_serve.specs.Frames.{IsFrameUnderWay, IsFramed, IsPart, IsWanted}
use Rattle.pr_serve.specs.Inputs.{NoneBegins, NoneStands}
use Rattle.pr_serve.specs.declared.serve_fault.ServeFault.{ServeFault}
use Rattle.pr_serve.specs.declared.serve_fault.ServeFault.TheVariants as faults

-- ---- what is pulled: messages, each in one of the formats, and end bytes between them

pub data Pulled : Type 0 where
  Frame : Format → Msg → Pulled
  EndByte : Pulled

abbrev pub pulled_text : List Pulled → List ℕ
pulled_text [] = []
pulled_text (Frame f m ∷ parts) = spelling f m ++ pulled_text parts
pulled_text (EndByte ∷ parts) = 0 ∷ pulled_text parts

abbrev pub messages : List Pulled → List Msg
messages [] = []
messages (Frame f m ∷ parts) = m ∷ messages parts
messages (EndByte ∷ parts) = messages parts

-- each message is one that is wanted
abbrev pub AreWanted : ℕ → List ℕ → List Pulled → Type 0
AreWanted nodes streams [] = Unit {0}
AreWanted nodes streams (Frame f m ∷ parts) = (IsFramed f m × IsWanted nodes streams m) × AreWanted nodes streams parts
AreWanted nodes streams (EndByte ∷ parts) = AreWanted nodes streams parts

-- ---- what the node makes of the messages

abbrev pub TakesIn : Msg → Event → Type 0
TakesIn m (Accepted msg at) = msg ≡ m
TakesIn m (Gapped msg has) = msg ≡ m
TakesIn m _ = ⊥

-- node n, which has these sets, accepts the message or finds its gap after the journal j
pub record IsTakenBy (sets : List (List Span)) (n : ℕ) (j : List Entry) (m : Msg) (e : Entry) : Type 0 where
  pub lawful : (sessions : ℕ → Standing) (needs : ℕ → List ℕ) → IsOwnLawful sessions needs sets n j e
  pub event : TakesIn m e.event
  pub caller : e.caller ≡ 0
  pub early : e.time ≤ 4611686018427387903

-- what comes of giving the node a message
abbrev pub TakesOne : NodeMeaning → NodeMeaning → Msg → Result (Unit {0}) ServeFault → Type 0
TakesOne a b m (Ok done) =
    (e : Entry) × IsTakenBy a.sets a.id a.journal m e × (b.journal ≡ e ∷ a.journal) × (b.id ≡ a.id) × (b.sets ≡ a.sets)
TakesOne a b m (Err (faults.Worn at)) =
    (at ≡ 4611686018427387903) × (b ≡ a) × (max (last_time a.journal) m.time ≡ 4611686018427387903)
TakesOne a b m (Err faults.NoMemory) = (b.journal ≡ a.journal) × (b.id ≡ a.id) × (b.sets ≡ a.sets)
TakesOne a b m (Err _) = ⊥

-- one entry for each message, in order, the oldest first
abbrev pub AreTakenBy : List (List Span) → ℕ → List Entry → List Msg → List Entry → Type 0
AreTakenBy sets n j [] [] = Unit {0}
AreTakenBy sets n j (m ∷ ms) (e ∷ es) = IsTakenBy sets n j m e × AreTakenBy sets n (e ∷ j) ms es
AreTakenBy sets n j _ _ = ⊥

-- the journal after these entries, the oldest of them first
abbrev pub after : List Entry → List Entry → List Entry
after [] j = j
after (e ∷ es) j = after es (e ∷ j)

-- from a to b the node took in these messages, and did nothing else
pub record TookIn (a b : NodeMeaning) (ms : List Msg) : Type 0 where
  pub entries : List Entry
  pub taken : AreTakenBy a.sets a.id a.journal ms entries
  pub journal : b.journal ≡ after entries a.journal
  pub same_id : b.id ≡ a.id
  pub same_sets : b.sets ≡ a.sets

-- ---- how a pull ends

-- the source and the node before and after
pub record Pull : Type 0 where
  pub left : Option (List ℕ)
  pub faults : ℕ
  pub node : NodeMeaning

-- these were pulled, then these bytes were read, and the node took in just the messages
pub record HasPulled (nodes : ℕ) (streams : List ℕ) (a b : Pull) (parts : List Pulled) (rest : List ℕ) : Type 0 where
  pub wanted : AreWanted nodes streams parts
  pub read : Consumes a.left b.left (pulled_text parts ++ rest)
  pub node : TookIn a.node b.node (messages parts)

module _ (nodes : ℕ) (streams : List ℕ) (a b : Pull) where
  -- all was pulled
  abbrev pub PulledAll : ℕ → Type 0
  PulledAll count = (parts : List Pulled) × HasPulled nodes streams a b parts [] × (count ≡ length (messages parts)) × (length (pulled_text parts) ≤ 67108864) × IsAtEnd b.left

  -- at this place, none of what may stand there does
  abbrev pub IsBadAt : ℕ → Type 0
  IsBadAt at =
      (parts : List Pulled) × (rest : List ℕ) × HasPulled nodes streams a b parts rest
      × (at ≡ length (pulled_text parts)) × (at < 67108864) × (1 ≤ length rest)
      × (NoneBegins (IsPart nodes streams) rest ⊎ (NoneStands (IsPart nodes streams) rest × IsAtEnd b.left))

  -- the source failed, within what may stand there or before it
  abbrev pub IsReadFault : Type 0
  IsReadFault =
      HasRisen a.faults b.faults
      × ((parts : List Pulled) × (rest : List ℕ) × HasPulled nodes streams a b parts rest × NoneStands (IsPart nodes streams) rest)

  -- one byte more was read than may be taken, and a frame was under way before it, or nothing
  abbrev pub IsTooLarge : Type 0
  IsTooLarge =
      (parts : List Pulled) × (rest : List ℕ) × (more : List ℕ) × HasPulled nodes streams a b parts (rest ++ more)
      × (length (pulled_text parts) + length rest ≡ 67108864) × (1 ≤ length more)
      × IsFrameUnderWay rest × NoneStands (IsPart nodes streams) rest

  -- the next message or the node's last entry has the greatest time
  abbrev pub IsWorn : Type 0
  IsWorn =
      (parts : List Pulled) × (f : Format) × (m : Msg) × (more : List ℕ)
      × IsFramed f m × IsWanted nodes streams m × HasPulled nodes streams a b parts (spelling f m ++ more)
      × (max (last_time b.node.journal) m.time ≡ 4611686018427387903)

  abbrev pub PullsSo : Result ℕ ServeFault → Type 0
  PullsSo (Ok count) = PulledAll count
  PullsSo (Err (faults.BadBytes at)) = IsBadAt at
  PullsSo (Err faults.ReadFault) = IsReadFault
  PullsSo (Err faults.WriteFault) = ⊥
  PullsSo (Err faults.TooLarge) = IsTooLarge
  PullsSo (Err (faults.Worn at)) = (at ≡ 4611686018427387903) × IsWorn
  PullsSo (Err faults.NoMemory) = (parts : List Pulled) × (rest : List ℕ) × HasPulled nodes streams a b parts rest
