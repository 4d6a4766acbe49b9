-- What reads say, in the world's words.
use Rattle.std.specs.Prelude.{ℕ, List, [], ◌∷◌, ◌≡◌, ◌<◌, Bool, true, false, None}
use Rattle.pr_sets.specs.Sets.{set_of}
use Rattle.pr_stamps.specs.Point.{Point, Before}
use Rattle.pr_vectors.specs.Vector.{clock_of, Covers}
use Rattle.pr_inval.specs.declared.write_rec.WriteRec.{WriteRec}
use Rattle.pr_story.specs.declared.event.Event.{Event}
use Rattle.pr_story.specs.declared.event.Event.TheVariants.{Answered, Behind}
use Rattle.pr_story.specs.declared.reply.Reply.{Reply}
use Rattle.pr_story.specs.declared.reply.Reply.TheVariants as reply
use Rattle.pr_story.specs.History.{Plan, NodeEntry, journal, WasWritten, current_vector}
use Rattle.pr_story.specs.Told.{IsTold}
use Rattle.pr_story.specs.Knowledge.{held_body}
use Rattle.pr_story.specs.Clients.{client_node, client_vector}

-- a write of the world to the name, with this stamp and body, which is gone or not
abbrev pub IsWriteTo : List NodeEntry → List ℕ → Point → List ℕ → Bool → Type 0
IsWriteTo h o t bytes gone =
    (x : WriteRec) × (dep : List ℕ) × WasWritten h x bytes dep × (x.name ≡ o) × (x.stamp ≡ t) × (x.gone ≡ gone)

-- the vector covers the point, and no write of the world to the name at a covered point has a greater stamp
abbrev pub IsLastCovered : List NodeEntry → List ℕ → List ℕ → Point → Type 0
IsLastCovered h v o t =
    Covers v t × ((x : WriteRec) (body dep : List ℕ) → WasWritten h x body dep → x.name ≡ o → Covers v x.stamp → ¬ Before t x.stamp)

-- what the answer says of the name, where node n's vector is v
abbrev pub SaysOf : Plan → List NodeEntry → ℕ → List ℕ → List ℕ → Reply → Type 0
SaysOf plan h n v o reply.Never = (x : WriteRec) (body dep : List ℕ) → WasWritten h x body dep → x.name ≡ o → ¬ Covers v x.stamp
SaysOf plan h n v o (reply.Value t bytes) = IsLastCovered h v o t × IsWriteTo h o t bytes false
SaysOf plan h n v o (reply.Gone t) = IsLastCovered h v o t × ((bytes : List ℕ) × IsWriteTo h o t bytes true)
SaysOf plan h n v o (reply.Body t) = IsLastCovered h v o t × ((bytes : List ℕ) × IsWriteTo h o t bytes false) × (held_body (journal h n) o t ≡ None)
SaysOf plan h n v o (reply.Imprecise p) =
    Covers v p × ¬ IsTold n (journal h n) (set_of (plan.sets n) o) p
    × ((q : Point) → Covers v q → ¬ IsTold n (journal h n) (set_of (plan.sets n) o) q → ¬ Before q p)

-- what a read's event says, at node n, where h is what came before
abbrev pub ReadsSo : Plan → List NodeEntry → ℕ → Event → Type 0
ReadsSo plan h n (Answered client o answer at) =
    (n ≡ client_node plan h client) × (at ≡ current_vector (journal h n)) × SaysOf plan h n at o answer
ReadsSo plan h n (Behind client needs has) =
    (n ≡ client_node plan h client) × (needs ≡ client_vector h client) × (has ≡ current_vector (journal h n)) × ((w : ℕ) × (w < 32) × (clock_of has w < clock_of needs w))
ReadsSo plan h n event = Unit {0}

-- each read of the history says what is so at its place
abbrev pub AllReadSo : Plan → List NodeEntry → Type 0
AllReadSo plan [] = Unit {0}
AllReadSo plan (e ∷ h) = ReadsSo plan h e.node e.entry.event × AllReadSo plan h
