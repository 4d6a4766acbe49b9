-- The output of an ask, by what its node does to answer it.
use Rattle.std.specs.Prelude.{◌≡◌, ◌≤◌, ◌+◌, ℕ, false, List, [], ◌∷◌, ◌++◌}
use Rattle.pr_names.specs.Span.{Span}
use Rattle.pr_inval.specs.declared.kind.Kind.{Kind}
use Rattle.pr_inval.specs.Standing.{Standing}
use Rattle.pr_story.specs.declared.entry.Entry.{Entry}
use Rattle.pr_story.specs.declared.event.Event.{Event}
use Rattle.pr_story.specs.declared.event.Event.TheVariants.{Sent, Idle, Stale}
use Rattle.pr_story.specs.Commands.{IsCheckpoint, IsNoCheckpoint}
use Rattle.pr_story.specs.Lawful.{IsOwnLawful}
use Rattle.pr_story.specs.Sessions.{IsAfter}
use Rattle.pr_wire.specs.declared.format.Format.TheVariants.{Two}
use Rattle.pr_wire.specs.Spelling.{spelling}
use Rattle.pr_serve.specs.declared.ask.Ask.{Ask}

-- what comes next in an answer: a turn of the stream, the checkpoint that a stale one wants, or nothing after an idle one
pub data Next : Type 0 where
  Turn : Next
  Snapshot : Next
  Nothing : Next

-- how far an answer has come: the node's journal, how the stream stands, and the turns that are left
pub record Answering : Type 0 where
  pub journal : List Entry
  pub standing : Standing
  pub left : ℕ
  pub next : Next

-- the stream begins where the ask does, and has sent nothing
abbrev pub begun : List Entry → Ask → Answering
begun j q = record {
  journal = j;
  standing = record { names = q.sub; bodies = q.bodies; position = q.start; number = 0; time = 0; sent = λ o t. false };
  left = q.turns;
  next = Turn;
}

-- a message of this kind comes next
abbrev pub IsSentNext : Next → Kind → Type 0
IsSentNext Turn kind = IsNoCheckpoint kind
IsSentNext Snapshot kind = IsCheckpoint kind
IsSentNext Nothing kind = ⊥

module _ (sets : List (List Span)) (n stream : ℕ) where
  -- an event of the stream leads from a to b: a message and an idle turn are counted, a stale one is not
  abbrev pub Leads : Event → Answering → Answering → Type 0
  Leads (Sent m) a b = (m.stream ≡ stream) × IsSentNext a.next m.kind × (a.left ≡ b.left + 1) × (b.next ≡ Turn)
  Leads (Idle s) a b = (s ≡ stream) × (a.next ≡ Turn) × (a.left ≡ b.left + 1) × (b.next ≡ Nothing)
  Leads (Stale s cut) a b = (s ≡ stream) × (a.next ≡ Turn) × (1 ≤ a.left) × (b.left ≡ a.left) × (b.next ≡ Snapshot)
  Leads _ a b = ⊥

  -- node n, which has these sets, makes the entry, and the stream stands by it
  pub record Makes (a : Answering) (e : Entry) (b : Answering) : Type 0 where
    pub lawful : (needs : ℕ → List ℕ) → IsOwnLawful (λ s. a.standing) needs sets n a.journal e
    pub caller : e.caller ≡ 0
    pub early : e.time ≤ 4611686018427387903
    pub leads : Leads e.event a b
    pub standing : IsAfter stream e a.standing b.standing
    pub journal : b.journal ≡ e ∷ a.journal

  -- one entry after the other, the oldest first
  abbrev pub Run : Answering → List Entry → Answering → Type 0
  Run a [] b = b ≡ a
  Run a (e ∷ es) b = (c : Answering) × Makes a e c × Run c es b

-- nothing more is to come
abbrev pub IsWholeAt : Next → ℕ → Type 0
IsWholeAt Turn left = left ≡ 0
IsWholeAt Snapshot left = ⊥
IsWholeAt Nothing left = Unit {0}

abbrev pub IsWhole : Answering → Type 0
IsWhole a = IsWholeAt a.next a.left

-- the frames of what was sent
abbrev pub frame_of : Event → List ℕ
frame_of (Sent m) = spelling Two m
frame_of _ = []

abbrev pub frames : List Entry → List ℕ
frames [] = []
frames (e ∷ es) = frame_of e.event ++ frames es

module _ (sets : List (List Span)) (n : ℕ) where
  -- what an ask gets from the journal j, which is k then: the frames of the answer, and an end byte
  abbrev pub IsOutput : List Entry → Ask → List ℕ → List Entry → Type 0
  IsOutput j q text k =
      (es : List Entry) × (b : Answering) × Run sets n q.stream (begun j q) es b × IsWhole b
      × (text ≡ frames es ++ 0 ∷ []) × (k ≡ b.journal)

  -- what asks get one after the other
  abbrev pub AreOutputs : List Entry → List Ask → List ℕ → List Entry → Type 0
  AreOutputs j [] text k = (text ≡ []) × (k ≡ j)
  AreOutputs j (q ∷ qs) text k =
      (front : List ℕ) × (rest : List ℕ) × (i : List Entry) × (text ≡ front ++ rest)
      × IsOutput j q front i × AreOutputs i qs rest k
