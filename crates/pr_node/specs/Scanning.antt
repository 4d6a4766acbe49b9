-- How far a stream's source has looked for bodies to send.
use Rattle.std.specs.Prelude.{ℕ, List, [], ◌∷◌, ◌≡◌, ◌≤◌, ◌⊎◌, false, IsTrue, Option, None, Contains, length, reverse, take}
use Rattle.pr_names.specs.Span.{Span}
use Rattle.pr_sets.specs.Spans.{has}
use Rattle.pr_inval.specs.declared.kind.Kind.{Kind}
use Rattle.pr_inval.specs.declared.kind.Kind.TheVariants.{Body}
use Rattle.pr_inval.specs.Standing.{Standing}
use Rattle.pr_marks.specs.Table.{is_after}
use Rattle.pr_story.specs.declared.entry.Entry.{Entry}
use Rattle.pr_story.specs.declared.event.Event.{Event}
use Rattle.pr_story.specs.declared.event.Event.TheVariants.{Wrote, Accepted}
use Rattle.pr_story.specs.Sending.{HasBody, names_in_kind}

-- at how many of the node's entries it has looked, the last name that it has passed, and the names that wait to be
-- looked at again
pub record Scanned : Type 0 where
  pub looked : ℕ
  pub last : Option (List ℕ)
  pub waiting : List (List ℕ)

abbrev pub fresh : Scanned
fresh = record { looked = 0; last = None; waiting = [] }

-- the oldest n entries of a journal
abbrev pub oldest : ℕ → List Entry → List Entry
oldest n j = reverse (take n (reverse j))

-- the names that wait are the stream's, and were passed
abbrev pub AreWaiting : Scanned → Standing → Type 0
AreWaiting scan session = (o : List ℕ) → Contains scan.waiting o → IsTrue (has session.names o) × (is_after scan.last o ≡ false)

-- each name that was passed and has a body to send waits
abbrev pub HasPassed : Scanned → Standing → List Entry → Type 0
HasPassed scan session j = (o : List ℕ) → is_after scan.last o ≡ false → HasBody j session o → Contains scan.waiting o

-- the scan is right for a stream that stands so, at a node with this journal: it was right when the node had the entries
-- that were looked at
pub record IsScanOf (scan : Scanned) (session : Standing) (j : List Entry) : Type 0 where
  pub looked : scan.looked ≤ length j
  pub waiting : AreWaiting scan session
  pub passed : HasPassed scan session (oldest scan.looked j)

-- ---- looking at an entry

abbrev pub changed_in_kind : Kind → List (List ℕ)
changed_in_kind (Body name stamp bytes) = name ∷ []
changed_in_kind kind = names_in_kind kind

-- the names of which the event may bring a body to send
abbrev pub changed_in : Event → List (List ℕ)
changed_in (Wrote client write body after) = write.name ∷ []
changed_in (Accepted msg at) = changed_in_kind msg.kind
changed_in _ = []

-- of these names those that are the stream's and were passed wait too
pub record HasAwaited (names : List Span) (changed : List (List ℕ)) (a b : Scanned) : Type 0 where
  pub looked : b.looked ≡ a.looked
  pub last : b.last ≡ a.last
  pub kept : (o : List ℕ) → Contains a.waiting o → Contains b.waiting o
  pub only : (o : List ℕ) → Contains b.waiting o → Contains a.waiting o ⊎ (IsTrue (has names o) × (is_after a.last o ≡ false))
  pub added : (o : List ℕ) → Contains changed o → IsTrue (has names o) → is_after a.last o ≡ false → Contains b.waiting o
