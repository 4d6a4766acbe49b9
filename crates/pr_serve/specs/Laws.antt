-- What holds of the entries that a node makes of messages that it pulls. Each is the statement of a law.
use Rattle.std.specs.Prelude.{◌≡◌, ◌<◌, ℕ, List, [], ◌∷◌}
use Rattle.pr_names.specs.Span.{Span}
use Rattle.pr_inval.specs.declared.msg.Msg.{Msg}
use Rattle.pr_story.specs.declared.entry.Entry.{Entry}
use Rattle.pr_story.specs.History.{IsClosed, NodeEntry, Plan, WasSent, current_vector, journal}
use Rattle.pr_story.specs.Lawful.{Valid}
use Rattle.pr_story.specs.Messages.{IsHonest}
use Rattle.pr_serve.specs.Pulling.{AreTakenBy, after}

-- the history after these entries of node n, the oldest of them first
abbrev pub with_entries : ℕ → List Entry → List NodeEntry → List NodeEntry
with_entries n [] h = h
with_entries n (e ∷ es) h = with_entries n es (record { node = n; entry = e } ∷ h)

-- each message was sent, on a stream that ends at node n
abbrev pub WereSentTo : Plan → List NodeEntry → ℕ → List Msg → Type 0
WereSentTo plan h n [] = Unit {0}
WereSentTo plan h n (m ∷ ms) = (WasSent h m × ((plan.stream m.stream).destination ≡ n)) × WereSentTo plan h n ms

-- each message claims nothing that is not so, whoever made it
abbrev pub AreHonest : List NodeEntry → List Msg → Type 0
AreHonest h [] = Unit {0}
AreHonest h (m ∷ ms) = IsHonest h m.kind × AreHonest h ms

-- the vector of the journal j is closed after each of these entries, the oldest first
abbrev pub StaysClosed : List NodeEntry → List Entry → List Entry → Type 0
StaysClosed h j [] = Unit {0}
StaysClosed h j (e ∷ es) = IsClosed h (current_vector (e ∷ j)) × StaysClosed h (e ∷ j) es

-- what holds of a history with the entries that node n made of messages
pub record IsGoodWith (plan : Plan) (h : List NodeEntry) (n : ℕ) (es : List Entry) : Type 0 where
  pub valid : Valid plan (with_entries n es h)
  pub journal_is : journal (with_entries n es h) n ≡ after es (journal h n)
  pub closed : (m : ℕ) → IsClosed (with_entries n es h) (current_vector (journal (with_entries n es h) m))

-- where the messages are ones that were sent to the node, the history with its entries is valid, and each node's vector
-- is closed in it
abbrev pub SentStayValid : Type 0
SentStayValid =
    (plan : Plan) (h : List NodeEntry) (n : ℕ) (ms : List Msg) (es : List Entry) → Valid plan h → n < 32
    → WereSentTo plan h n ms → AreTakenBy (plan.sets n) n (journal h n) ms es → IsGoodWith plan h n es

-- where the messages are honest in the history, whether or not they were sent there, the node's vector is closed in it
-- after each entry
abbrev pub HonestStayClosed : Type 0
HonestStayClosed =
    (plan : Plan) (h : List NodeEntry) (n : ℕ) (sets : List (List Span)) (ms : List Msg) (es : List Entry) → Valid plan h
    → AreHonest h ms → AreTakenBy sets n (journal h n) ms es → StaysClosed h (journal h n) es
