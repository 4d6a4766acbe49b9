-- The stores of a node are tied to its journal again, entry by entry.
use Rattle.std.proofs.Common.{◌≡◌, ℕ, ◌<◌, ◌≤◌, ◌+◌, List, [], ◌∷◌, ◌++◌, Result, Ok, Err, refl, sym, ◌∙◌, ap, subst, arith, length, get_or, take, drop}
use Rattle.std.specs.Prelude.{OnOk, reverse}
use Rattle.std.proofs.lemmas.List.{reverse-append, take-append-drop}
use Rattle.pr_vectors.specs.Vector.{IsVector, clock_of}
use Rattle.pr_vectors.proofs.Vectors.{clock_of-vector_of}
use Rattle.pr_log.specs.Log.{IsCut}
use Rattle.pr_marks.specs.Table.{IsForgotten}
use Rattle.pr_inval.specs.declared.msg.Msg.{Msg}
use Rattle.pr_inval.specs.declared.write_rec.WriteRec.{WriteRec}
use Rattle.pr_story.specs.declared.entry.Entry.{Entry}
use Rattle.pr_story.specs.declared.event.Event.{Event}
use Rattle.pr_story.specs.declared.event.Event.TheVariants.{Wrote, Accepted, Cut, Dropped}
use Rattle.pr_story.specs.History.{current_clock, current_vector}
use Rattle.pr_story.specs.Lawful.{last_time}
use Rattle.pr_story.proofs.NewestFirst.{reverse-take_more}
use Rattle.pr_node.specs.declared.stores.Stores.{Stores}
use Rattle.pr_node.specs.Quiet.{IsQuiet}
use Rattle.pr_node.specs.Taking.{HasTaken}
use Rattle.pr_node.specs.Rebuilding.{IsOfNode, MayTell}
use Rattle.pr_node.specs.Ties.{IsTied}
use Rattle.pr_node.proofs.Forgetting.{cut_tied}
use Rattle.pr_node.proofs.Quiet.{quiet_tied}

-- ---- a journal and what it began with

of_node_tail : (n : ℕ) (later j : List Entry) → IsOfNode n (later ++ j) → IsOfNode n j
of_node_tail n [] j all = all
of_node_tail n (e ∷ later) j all = of_node_tail n later j all.2

split_at : (entries : List Entry) (i : ℕ) → i ≤ length entries → (later : List Entry) × (reverse entries ≡ later ++ reverse (take i entries))
split_at entries i le = (
  reverse (drop i entries),
  ap reverse (sym (take-append-drop i entries)) ∙ reverse-append (take i entries) (drop i entries),
)

-- the event at this place may tell what it does after those before it
pub may_tell : (n : ℕ) (entries : List Entry) (i : ℕ) (e : Entry) → i < length entries → e ≡ get_or entries i e → IsOfNode n (reverse entries) → MayTell n (reverse (take i entries)) e.event
may_tell n entries i e lt is all =
    let front = split_at entries (i + 1) (omega arith) in
    (of_node_tail n front.0 (e ∷ reverse (take i entries)) (subst (λ (j : List Entry). IsOfNode n j) (front.1 ∙ ap (λ (j : List Entry). front.0 ++ j) (reverse-take_more entries i e lt is)) all)).0

-- no time is past the greatest
pub early : (n : ℕ) (j : List Entry) → IsOfNode n j → last_time j ≤ 4611686018427387903
early n [] all = omega arith
early n (e ∷ j) all = all.1

-- ---- what a step needs

-- the write is past what the log was told
pub above : (n : ℕ) (j : List Entry) (s : Stores) (client : ℕ) (write : WriteRec) (body after : List ℕ) → IsTied n j s → MayTell n j (Wrote client write body after) → clock_of s.log.vector write.stamp.node < write.stamp.clock
above n j s client write body after tied may =
    let lt : write.stamp.node < 32 = may.1.known_node in
    let e : clock_of s.log.vector write.stamp.node ≡ current_clock j write.stamp.node = ap (λ (v : List ℕ). clock_of v write.stamp.node) tied.log.vector ∙ clock_of-vector_of (current_clock j) write.stamp.node lt in
    let a : current_clock j write.stamp.node < write.stamp.clock = may.4 write.stamp.node lt in
    omega (arith, e, a)

-- and of the log's own node
pub own_at : (n : ℕ) (j : List Entry) (s : Stores) (client : ℕ) (write : WriteRec) (body after : List ℕ) → IsTied n j s → MayTell n j (Wrote client write body after) → write.stamp.node ≡ s.log.node
own_at n j s client write body after tied may = may.0 ∙ sym tied.log.own

-- ---- what a step leaves

pub if_on : {X E : Type 0} (r : Result X E) (P Q : Type 0) → (P → Q) → OnOk r P → OnOk r Q
if_on (Ok x) P Q f p = f p
if_on (Err e) P Q f p = tt

-- from a to b the stores have the event besides
abbrev pub IsToldIn : Stores → Stores → Event → Type 0
IsToldIn a b event =
    (n : ℕ) (j : List Entry) (time caller : ℕ) → IsTied n j a → MayTell n j event → IsTied n (record { time = time; caller = caller; event = event } ∷ j) b

pub wrote_told : (a b : Stores) (client : ℕ) (write : WriteRec) (body after bytes : List ℕ) → bytes ≡ body
    → ((j : List Entry) (time caller client : ℕ) (after : List ℕ) → IsTied write.stamp.node j a → IsTied write.stamp.node (record { time = time; caller = caller; event = Wrote client write bytes after } ∷ j) b)
    → IsToldIn a b (Wrote client write body after)
wrote_told a b client write body after bytes same step = λ n j time caller tied may.
    subst (λ (m : ℕ). IsTied m (record { time = time; caller = caller; event = Wrote client write body after } ∷ j) b) may.0
    (subst (λ (x : List ℕ). IsTied write.stamp.node (record { time = time; caller = caller; event = Wrote client write x after } ∷ j) b) same
    (step j time caller client after (subst (λ (m : ℕ). IsTied m j a) (sym may.0) tied)))

pub accepted_told : (a b : Stores) (msg : Msg) (at : List ℕ) → HasTaken a b msg.kind → IsToldIn a b (Accepted msg at)
accepted_told a b msg at step = λ n j time caller tied may. step n j time caller msg at refl tied

pub quiet_told : (a : Stores) (event : Event) → IsQuiet event → IsToldIn a a event
quiet_told a event quiet = λ n j time caller tied may. quiet_tied n (record { time = time; caller = caller; event = event }) j a quiet tied

-- the cut is at the vector that the log has
pub cut_told : (n : ℕ) (j : List Entry) (a b : Stores) (time caller : ℕ) (now at : List ℕ) → IsVector now → now ≡ a.log.vector → at ≡ current_vector j → IsTied n j a → IsCut a.log b.log → IsForgotten a.marks b.marks now
    → b.gaps ≡ a.gaps → b.bodies ≡ a.bodies → IsTied n (record { time = time; caller = caller; event = Cut at } ∷ j) b
cut_told n j a b time caller now at range is cut_is tied cut gone gaps bodies =
    subst (λ (v : List ℕ). IsTied n (record { time = time; caller = caller; event = Cut v } ∷ j) b) (is ∙ tied.log.vector ∙ sym cut_is)
    (cut_tied n j a b time caller now range is tied cut gone gaps bodies)

-- every other event tells its node of nothing
pub other_quiet : (event : Event) → ((client : ℕ) (write : WriteRec) (body after : List ℕ) → event ≡ Wrote client write body after → ⊥) → ((msg : Msg) (at : List ℕ) → event ≡ Accepted msg at → ⊥)
    → ((at : List ℕ) → event ≡ Cut at → ⊥) → ((name : List ℕ) → event ≡ Dropped name → ⊥) → IsQuiet event
other_quiet (Wrote client write body after) w a c d = absurd (w client write body after refl)
other_quiet (Accepted msg at) w a c d = absurd (a msg at refl)
other_quiet (Cut at) w a c d = absurd (c at refl)
other_quiet (Dropped name) w a c d = absurd (d name refl)
other_quiet _ w a c d = tt
