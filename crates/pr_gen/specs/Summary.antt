-- The summary of a run: how many of its events are of each kind, what each node has been told, and how many entries there are.
use Rattle.std.specs.Prelude.{◌≡◌, ◌≤◌, ◌<◌, ◌⊎◌, ℕ, List, [], ◌∷◌, ◌++◌, Bool, true, false, codes, decimal, count_by, filter, get_or, length}
use Rattle.std.specs.List.{flat_map, range_with_len}
use Rattle.pr_inval.specs.declared.kind.Kind.{Kind}
use Rattle.pr_inval.specs.declared.kind.Kind.TheVariants as sent
use Rattle.pr_script.specs.declared.decl.Decl.{Decl}
use Rattle.pr_script.specs.declared.kind.Kind.TheVariants as kinds
use Rattle.pr_script.specs.Labels.{is_kind}
use Rattle.pr_script.specs.Printing.{label_text}
use Rattle.pr_story.specs.declared.event.Event.{Event}
use Rattle.pr_story.specs.declared.event.Event.TheVariants.{Wrote, Attached, Sent, Idle, Stale, Accepted, Gapped, Down, Answered}
use Rattle.pr_story.specs.declared.reply.Reply.{Reply}
use Rattle.pr_story.specs.declared.reply.Reply.TheVariants as replies
use Rattle.pr_story.specs.History.{NodeEntry, current_vector, journal}
use Rattle.pr_text.specs.Endings.{ok_line}
use Rattle.pr_text.specs.Texts.{vector_text}
use Rattle.pr_gen.specs.declared.counted.Counted.{Counted}
use Rattle.pr_gen.specs.declared.counted.Counted.TheVariants.{Writes, Reads, Values, Nevers, Imprecises, Bodies, Attaches, Precise, Imprecise, Body, Checkpoint, Accepts, Gaps, Idles, Stales, Downs}

-- whether the word counts a read that was answered so, and a message of this kind
abbrev pub is_answered : Counted → Reply → Bool
is_answered Reads reply = true
is_answered Values (replies.Value stamp bytes) = true
is_answered Nevers replies.Never = true
is_answered Imprecises (replies.Imprecise untold) = true
is_answered Bodies (replies.Body stamp) = true
is_answered word reply = false

abbrev pub is_sent : Counted → Kind → Bool
is_sent Precise (sent.Precise from to write) = true
is_sent Imprecise (sent.Imprecise from to target) = true
is_sent Body (sent.Body name stamp bytes) = true
is_sent Checkpoint (sent.Checkpoint to target floor rows) = true
is_sent word kind = false

-- whether the word counts the event
abbrev pub is_counted : Counted → Event → Bool
is_counted Writes (Wrote client write body after) = true
is_counted Attaches (Attached stream at) = true
is_counted Accepts (Accepted msg at) = true
is_counted Gaps (Gapped msg has) = true
is_counted Idles (Idle stream) = true
is_counted Stales (Stale stream cut) = true
is_counted Downs (Down stream cause) = true
is_counted word (Answered client name reply at) = is_answered word reply
is_counted word (Sent msg) = is_sent word msg.kind
is_counted word event = false

abbrev pub word_of : Counted → List ℕ
word_of Writes = codes "writes"
word_of Reads = codes "reads"
word_of Values = codes "values"
word_of Nevers = codes "nevers"
word_of Imprecises = codes "imprecises"
word_of Bodies = codes "bodies"
word_of Attaches = codes "attaches"
word_of Precise = codes "precise"
word_of Imprecise = codes "imprecise"
word_of Body = codes "body"
word_of Checkpoint = codes "checkpoint"
word_of Accepts = codes "accepts"
word_of Gaps = codes "gaps"
word_of Idles = codes "idles"
word_of Stales = codes "stales"
word_of Downs = codes "downs"

-- the words, in the order of their lines
abbrev pub words : List Counted
words =
    Writes ∷ Reads ∷ Values ∷ Nevers ∷ Imprecises ∷ Bodies ∷ Attaches ∷ Precise ∷ Imprecise ∷ Body ∷ Checkpoint ∷ Accepts
    ∷ Gaps ∷ Idles ∷ Stales ∷ Downs ∷ []

-- each word that counts the event stands from the first of these places on, before the second
abbrev pub AreOf : Event → ℕ × ℕ → Type 0
AreOf event span = (i : ℕ) → i < 16 → (i < span.0) ⊎ (span.1 ≤ i) → is_counted (get_or words i Writes) event ≡ false

-- how many entries of the history the word counts
abbrev pub count_of : List NodeEntry → Counted → ℕ
count_of h word = count_by (λ (e : NodeEntry). is_counted word e.entry.event) h

abbrev pub count_line : List NodeEntry → Counted → List ℕ
count_line h word = word_of word ++ 32 ∷ (decimal (count_of h word) ++ 10 ∷ [])

-- what a node has been told at the end
abbrev pub vector_line : List Decl → List NodeEntry → ℕ → List ℕ
vector_line ds h n = codes "vector " ++ (label_text kinds.Node ds n ++ 32 ∷ (vector_text ds (current_vector (journal h n)) ++ 10 ∷ []))

abbrev pub node_count : List Decl → ℕ
node_count ds = length (filter (is_kind kinds.Node) ds)

abbrev pub summary_text : List Decl → List NodeEntry → List ℕ
summary_text ds h = flat_map (count_line h) words ++ (flat_map (vector_line ds h) (range_with_len 0 (node_count ds)) ++ ok_line (length h))
