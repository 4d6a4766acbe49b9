-- Where the entries of a history stand in the journals of its nodes. Places are counted from a journal's oldest entry on.
use Rattle.std.specs.Prelude.{ℕ, List, [], ◌∷◌, ◌++◌, ◌≡◌, ◌≤◌, ◌<◌, ◌+◌, cond, nat_eq, length, get_or, reverse}
use Rattle.pr_inval.specs.declared.msg.Msg.{Msg}
use Rattle.pr_story.specs.declared.entry.Entry.{Entry}
use Rattle.pr_story.specs.declared.event.Event.{Event}
use Rattle.pr_story.specs.declared.event.Event.TheVariants.{Sent}
use Rattle.pr_story.specs.History.{Plan, NodeEntry, WasSent, journal}

-- the node of each entry and its place in that node's journal, the oldest entry first
abbrev pub places_of : List NodeEntry → List (ℕ × ℕ)
places_of [] = []
places_of (e ∷ h) = places_of h ++ (e.node, length (journal h e.node)) ∷ []

-- the list, which has its oldest entry first, has this one at this place
abbrev pub IsAt : List Entry → ℕ → Entry → Type 0
IsAt entries place e = (place < length entries) × ((d : Entry) → get_or entries place d ≡ e)

-- the k-th entry of the history, the oldest first, stands at the k-th place: in the journal of its node
pub record EntriesHavePlaces (h : List NodeEntry) : Type 0 where
  pub many : length (places_of h) ≡ length h
  pub node : (k : ℕ) (p : ℕ × ℕ) (d : NodeEntry) → k < length h → (get_or (places_of h) k p).0 ≡ (get_or (reverse h) k d).node
  pub at : (k : ℕ) (p : ℕ × ℕ) (d : NodeEntry) → k < length h
      → IsAt (reverse (journal h (get_or (places_of h) k p).0)) (get_or (places_of h) k p).1 (get_or (reverse h) k d).entry

abbrev pub sent_after : Event → ℕ → ℕ → List ℕ → List ℕ
sent_after (Sent msg) s place places = cond (nat_eq msg.stream s) (places ++ place ∷ []) places
sent_after _ s place places = places

-- where the messages of stream s stand in its source's journal, the first message first
abbrev pub sent_places : List NodeEntry → ℕ → List ℕ
sent_places [] s = []
sent_places (e ∷ h) s = sent_after e.entry.event s (length (journal h e.node)) (sent_places h s)

-- the entry at this place of the list, which has its oldest entry first, sends the message
abbrev pub SendsAt : List Entry → ℕ → Msg → Type 0
SendsAt entries place msg = (place < length entries) × ((d : Entry) → (get_or entries place d).event ≡ Sent msg)

-- the message of stream s with this number was sent, and stands at this place of its source's journal
pub record IsSending (plan : Plan) (h : List NodeEntry) (s number place : ℕ) : Type 0 where
  pub msg : Msg
  pub sent : WasSent h msg
  pub stream : msg.stream ≡ s
  pub number_is : msg.number ≡ number
  pub at : SendsAt (reverse (journal h (plan.stream s).source)) place msg

-- the k-th place of a stream is that of its message k, counted from 1, and it has no other messages
pub record SentHavePlaces (plan : Plan) (h : List NodeEntry) (s : ℕ) : Type 0 where
  pub sending : (k : ℕ) → k < length (sent_places h s) → IsSending plan h s (k + 1) (get_or (sent_places h s) k 0)
  pub only : (msg : Msg) → WasSent h msg → msg.stream ≡ s → (1 ≤ msg.number) × (msg.number ≤ length (sent_places h s))
