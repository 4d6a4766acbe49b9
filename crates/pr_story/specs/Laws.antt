-- What holds of every valid history, at each of its places.
use Rattle.std.specs.Prelude.{ℕ, List, [], ◌∷◌, ◌≡◌, ◌⊎◌, ◌≤◌, ◌<◌, ◌+◌, ◌↔◌, Bool, false, Option, Some, length}
use Rattle.pr_stamps.specs.Point.{Point}
use Rattle.pr_stamps.specs.declared.mark.Mark.{Mark}
use Rattle.pr_vectors.specs.Vector.{Covers, Le}
use Rattle.pr_inval.specs.declared.imprecise.Imprecise.{Imprecise as Invalidation}
use Rattle.pr_inval.specs.declared.kind.Kind.TheVariants.{Imprecise}
use Rattle.pr_inval.specs.declared.msg.Msg.{Msg}
use Rattle.pr_inval.specs.declared.write_rec.WriteRec.{WriteRec}
use Rattle.pr_story.specs.declared.reply.Reply.{Reply}
use Rattle.pr_story.specs.declared.reply.Reply.TheVariants as reply
use Rattle.pr_story.specs.declared.event.Event.{Event}
use Rattle.pr_story.specs.declared.event.Event.TheVariants.{Wrote, Answered, Behind, Moved}
use Rattle.pr_story.specs.History.{Plan, NodeEntry, SomeEvent, entries, journal, WasWritten, WasSent, Sends, IsClosed, current_clock, current_vector, AtEveryPlace}
use Rattle.pr_story.specs.Told.{IsPrecise, IsLit}
use Rattle.pr_sets.specs.Sets.{set_of}
use Rattle.pr_story.specs.Knowledge.{Knows, IsAnswer, IsNewest, IsNewestKnown, WasNamed, KnowsGone, IsGone, IsMark, IsCoveredMark, floor_of, held_body}
use Rattle.pr_story.specs.Messages.{IsHonest, IsUseful}
use Rattle.pr_inval.specs.Standing.{Standing}
use Rattle.pr_story.specs.Turns.{position, sent_count, stream_time, has_sent}
use Rattle.pr_story.specs.Lawful.{last_time}

-- what holds of each place of a valid history
pub record Facts (plan : Plan) (h : List NodeEntry) : Type 0 where
  -- every node's vector covers, with each write, all that the write's node had been told
  pub closed : (n : ℕ) → IsClosed h (current_vector (journal h n))
  -- no node has been told more of a writer than the writer itself
  pub own : (n v : ℕ) → v < 32 → current_clock (journal h n) v ≤ current_clock (journal h v) v
  -- every message that was sent is honest
  pub honest : (msg : Msg) → WasSent h msg → IsHonest h msg.kind
  -- each write of the world is known, or its name is dark at its point
  pub known : (n : ℕ) (x : WriteRec) (body dep : List ℕ) → WasWritten h x body dep → Knows (journal h n) x ⊎ ¬ IsLit n (journal h n) x.name x.stamp
  -- and what is known is written and covered
  pub written : (n : ℕ) (x : WriteRec) → Knows (journal h n) x → ((body : List ℕ) × (dep : List ℕ) × WasWritten h x body dep) × Covers (current_vector (journal h n)) x.stamp
  -- where the set of a name is precise, the newest known stamp is that of the newest covered write
  pub newest : (n : ℕ) (o : List ℕ) (t : Option Point) → IsPrecise n (journal h n) (set_of (plan.sets n) o) → IsNewestKnown (journal h n) o t ↔ IsNewest h (current_vector (journal h n)) o t
  -- whether a write with a known stamp is gone, is known
  pub gone : (n : ℕ) (o : List ℕ) (t : Point) (is : Bool) → WasNamed (journal h n) o t → KnowsGone (journal h n) o t is ↔ IsGone h o t is
  -- and the marks are those of the covered writes past the floor
  pub marks : (n : ℕ) (o : List ℕ) (mark : Mark) → IsPrecise n (journal h n) (set_of (plan.sets n) o) → IsMark (journal h n) o mark ↔ IsCoveredMark h (current_vector (journal h n)) (floor_of (journal h n)) o mark
  -- a body that is held is the body of the write, which is not gone
  pub body : (n : ℕ) (o : List ℕ) (t : Point) (bytes : List ℕ) → held_body (journal h n) o t ≡ Some bytes → (x : WriteRec) × (dep : List ℕ) × WasWritten h x bytes dep × (x.name ≡ o) × (x.stamp ≡ t) × (x.gone ≡ false)
  -- of one stamp there is one write, with one body
  pub one : (x y : WriteRec) (b c d e : List ℕ) → WasWritten h x b d → WasWritten h y c e → x.stamp ≡ y.stamp → (x ≡ y) × (b ≡ c)

abbrev pub FactsThroughout : Plan → List NodeEntry → Type 0
FactsThroughout plan h = AtEveryPlace (Facts plan) h

-- every message is of use to its stream when it is sent
abbrev pub SentUseful : Plan → List NodeEntry → Type 0
SentUseful plan [] = Unit {0}
SentUseful plan (e ∷ h) =
    ((msg : Msg) → Sends e.entry.event msg
    → IsUseful (plan.sets (plan.stream msg.stream).source) (plan.stream msg.stream).source (journal h (plan.stream msg.stream).source) (plan.stream msg.stream).names msg.kind)
    × SentUseful plan h

abbrev pub writes_after : Event → ℕ → ℕ
writes_after (Wrote client write body after) k = k + 1
writes_after _ k = k

abbrev pub write_count : List NodeEntry → ℕ
write_count [] = 0
write_count (e ∷ h) = writes_after e.entry.event (write_count h)

-- no clock is above the number of writes, and no time above the number of entries
pub record IsShort (h : List NodeEntry) : Type 0 where
  pub clocks : (n w : ℕ) → w < 32 → current_clock (journal h n) w ≤ write_count h
  pub nodes : (n : ℕ) → last_time (journal h n) ≤ length h
  pub streams : (s : ℕ) → stream_time h s ≤ length h
  pub messages : (msg : Msg) → WasSent h msg → msg.time ≤ length h

-- ---- one more entry

-- the session stands for the stream in this history
pub record StandsFor (plan : Plan) (h : List NodeEntry) (s : ℕ) (session : Standing) : Type 0 where
  pub names : session.names ≡ (plan.stream s).names
  pub bodies : session.bodies ≡ (plan.stream s).bodies
  pub position : session.position ≡ position h s
  pub number : session.number ≡ sent_count h s
  pub time : session.time ≡ stream_time h s
  pub sent : (o : List ℕ) (t : Point) → session.sent o t ≡ has_sent h s o t

-- ---- clients

-- the client's write or answer, and its node's vector
abbrev pub Sees : Event → ℕ → List ℕ → Type 0
Sees (Wrote client write body after) c v = (client ≡ c) × (after ≡ v)
Sees (Answered client o answer at) c v = (client ≡ c) × (at ≡ v)
Sees _ c v = ⊥

abbrev pub WritesFor : Event → ℕ → Point → Type 0
WritesFor (Wrote client write body after) c p = (client ≡ c) × (write.stamp ≡ p)
WritesFor _ c p = ⊥

-- over a client's writes and answers, at whatever nodes, the vectors never fall, and each covers the client's earlier writes
abbrev pub NoneGoesBack : List NodeEntry → Type 0
NoneGoesBack [] = Unit {0}
NoneGoesBack (e ∷ h) =
    ((c : ℕ) (v : List ℕ) → Sees e.entry.event c v
    → ((w : List ℕ) → SomeEvent (λ event. Sees event c w) (entries h) → Le w v)
    × ((p : Point) → SomeEvent (λ event. WritesFor event c p) (entries h) → Covers v p))
    × NoneGoesBack h

abbrev pub Moves : Event → ℕ → Type 0
Moves (Moved client) c = client ≡ c
Moves _ c = ⊥

abbrev pub IsLate : Event → ℕ → Type 0
IsLate (Behind client needs has) c = client ≡ c
IsLate _ c = ⊥

-- ---- answers

-- two answers that say the same of a name, but that one may lack the body; both are Gone or neither is
abbrev pub AreAlike : Reply → Reply → Type 0
AreAlike (reply.Imprecise p) _ = Unit {0}
AreAlike _ (reply.Imprecise p) = Unit {0}
AreAlike reply.Never reply.Never = Unit {0}
AreAlike reply.Never _ = ⊥
AreAlike _ reply.Never = ⊥
AreAlike (reply.Gone s) (reply.Gone t) = s ≡ t
AreAlike (reply.Gone s) _ = ⊥
AreAlike _ (reply.Gone t) = ⊥
AreAlike (reply.Value s bytes) (reply.Value t others) = (s ≡ t) × (bytes ≡ others)
AreAlike (reply.Value s bytes) (reply.Body t) = s ≡ t
AreAlike (reply.Body s) (reply.Value t bytes) = s ≡ t
AreAlike (reply.Body s) (reply.Body t) = s ≡ t

-- what node n may answer after h
abbrev pub IsAnswerOf : Plan → List NodeEntry → ℕ → List ℕ → Reply → Type 0
IsAnswerOf plan h n o answer = IsAnswer (IsNewest h (current_vector (journal h n)) o) (IsGone h o) (plan.sets n) n (journal h n) o answer

-- the event answers a read of the name so, where the node's vector is this
abbrev pub Answers : Event → List ℕ → Reply → List ℕ → Type 0
Answers (Answered client name answer at) o a v = (name ≡ o) × (answer ≡ a) × (at ≡ v)
Answers _ o a v = ⊥

-- each answer is alike with each earlier one for its name at an equal vector, at whatever nodes
abbrev pub AnswersAlike : List NodeEntry → Type 0
AnswersAlike [] = Unit {0}
AnswersAlike (e ∷ h) =
    ((o v : List ℕ) (a b : Reply) → Answers e.entry.event o b v → SomeEvent (λ event. Answers event o a v) (entries h) → AreAlike a b)
    × AnswersAlike h

-- ---- merged messages

abbrev pub IsHonestInvalidation : List NodeEntry → Invalidation → Type 0
IsHonestInvalidation h a = IsHonest h (Imprecise a.from a.to a.target)
