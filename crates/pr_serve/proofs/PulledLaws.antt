-- Entries that a node makes of messages, in a history.
use Rattle.std.proofs.Common.{◌≡◌, ◌<◌, ◌≤◌, max, cond, ℕ, List, [], ◌∷◌, IsTrue, Bool, refl, sym, ap, subst, ◌∙◌, arith, inr}
use Rattle.std.proofs.lemmas.Bool.Decides.{Decides-eqb}
use Rattle.pr_names.specs.Span.{Span}
use Rattle.pr_vectors.specs.Vector.{clock_of, join_of}
use Rattle.pr_vectors.proofs.Vectors.{clock_of-vector_of, length-vector_of}
use Rattle.pr_inval.specs.declared.msg.Msg.{Msg}
use Rattle.pr_inval.specs.Points.{to_of}
use Rattle.pr_story.specs.declared.entry.Entry.{Entry}
use Rattle.pr_story.specs.declared.event.Event.{Event}
use Rattle.pr_story.specs.declared.event.Event.TheVariants.{Accepted, Gapped}
use Rattle.pr_story.specs.Clients.{is_with_needs}
use Rattle.pr_story.specs.History.{AtEveryPlace, IsClosed, NodeEntry, Plan, WasSent, current_clock, current_vector, journal}
use Rattle.pr_story.specs.Laws.{Facts}
use Rattle.pr_story.specs.Lawful.{HasCause, IsPlaced, MayComeByJournal, Valid}
use Rattle.pr_story.specs.Messages.{IsHonest}
use Rattle.pr_story.specs.Turns.{is_with_session}
use Rattle.pr_story.proofs.Foreign.{honest_keeps_closed}
use Rattle.pr_story.proofs.Laws.{facts_throughout}
use Rattle.pr_story.proofs.Making.{join_clock}
use Rattle.pr_story.proofs.OneMore.{one_more}
use Rattle.pr_story.proofs.Points.{covered_node}
use Rattle.pr_serve.specs.Laws.{AreHonest, HonestStayClosed, SentStayValid, StaysClosed, WereSentTo, with_entries}
use Rattle.pr_serve.specs.Pulling.{AreTakenBy, IsTakenBy, TakesIn, after}
use Rattle.pr_serve.proofs.TakenIn.{nobody}

-- ---- one entry of a message

no_session : (m : Msg) (event : Event) (s : ℕ) → TakesIn m event → IsTrue (is_with_session event s) → ⊥
no_session m (Accepted msg at) s is with = absurd cc
no_session m (Gapped msg has) s is with = absurd cc
no_session m _ s is with = absurd is

no_needs : (m : Msg) (event : Event) (c : ℕ) → TakesIn m event → IsTrue (is_with_needs event c) → ⊥
no_needs m (Accepted msg at) c is with = absurd cc
no_needs m (Gapped msg has) c is with = absurd cc
no_needs m _ c is with = absurd is

placed : (plan : Plan) (h : List NodeEntry) (n : ℕ) (m : Msg) (event : Event) → TakesIn m event → (plan.stream m.stream).destination ≡ n → IsPlaced plan h n event
placed plan h n m (Accepted msg at) is here = sym (ap (λ (k : Msg). (plan.stream k.stream).destination) is ∙ here)
placed plan h n m (Gapped msg has) is here = sym (ap (λ (k : Msg). (plan.stream k.stream).destination) is ∙ here)
placed plan h n m _ is here = absurd is

caused : (h : List NodeEntry) (n : ℕ) (m : Msg) (event : Event) → TakesIn m event → WasSent h m → HasCause h n event
caused h n m (Accepted msg at) is sent = subst (λ (k : Msg). WasSent h k) (sym is) sent
caused h n m (Gapped msg has) is sent = subst (λ (k : Msg). WasSent h k) (sym is) sent
caused h n m _ is sent = absurd is

abbrev at_node : ℕ → Entry → NodeEntry
at_node n e = record { node = n; entry = e }

one_valid : (plan : Plan) (h : List NodeEntry) (n : ℕ) (m : Msg) (e : Entry) → Valid plan h → n < 32 → WasSent h m → (plan.stream m.stream).destination ≡ n → IsTakenBy (plan.sets n) n (journal h n) m e → Valid plan (at_node n e ∷ h)
one_valid plan h n m e valid node sent here taken =
    one_more plan h (at_node n e) nobody (λ c. []) valid (λ s with. absurd (no_session m e.event s taken.event with)) (λ c with. absurd (no_needs m e.event c taken.event with)) node
    (placed plan h n m e.event taken.event here) (caused h n m e.event taken.event sent) (taken.lawful nobody (λ c. []))

own_entry : (h : List NodeEntry) (n : ℕ) (e : Entry) → journal (at_node n e ∷ h) n ≡ e ∷ journal h n
own_entry h n e = ap (λ (b : Bool). cond b (e ∷ journal h n) (journal h n)) ((Decides-eqb n n).1 refl)

sent_later : (plan : Plan) (h : List NodeEntry) (n : ℕ) (ms : List Msg) (e : NodeEntry) → WereSentTo plan h n ms → WereSentTo plan (e ∷ h) n ms
sent_later plan h n [] e sent = tt
sent_later plan h n (m ∷ ms) e sent = ((inr sent.0.0, sent.0.1), sent_later plan h n ms e sent.1)

facts_here : (plan : Plan) (h : List NodeEntry) → AtEveryPlace (Facts plan) h → Facts plan h
facts_here plan [] f = f
facts_here plan (e ∷ h) f = f.0

all_valid : (plan : Plan) (h : List NodeEntry) (n : ℕ) (ms : List Msg) (es : List Entry) → Valid plan h → n < 32 → WereSentTo plan h n ms → AreTakenBy (plan.sets n) n (journal h n) ms es → Valid plan (with_entries n es h) × (journal (with_entries n es h) n ≡ after es (journal h n))
all_valid plan h n [] [] valid node sent taken = (valid, refl)
all_valid plan h n [] (e ∷ es) valid node sent taken = absurd taken
all_valid plan h n (m ∷ ms) [] valid node sent taken = absurd taken
all_valid plan h n (m ∷ ms) (e ∷ es) valid node sent taken =
    let g = at_node n e ∷ h in
    let own = own_entry h n e in
    let rest : AreTakenBy (plan.sets n) n (journal g n) ms es = subst (λ (j : List Entry). AreTakenBy (plan.sets n) n j ms es) (sym own) taken.1 in
    let r = all_valid plan g n ms es (one_valid plan h n m e valid node sent.0.0 sent.0.1 taken.0) node (sent_later plan h n ms (at_node n e) sent.1) rest in
    (r.0, r.1 ∙ ap (λ (j : List Entry). after es j) own)

pub sent_stay_valid : SentStayValid
sent_stay_valid plan h n ms es valid node sent taken =
    let r = all_valid plan h n ms es valid node sent taken in
    record { valid = r.0; journal_is = r.1; closed = (facts_here plan (with_entries n es h) (facts_throughout plan (with_entries n es h) r.0)).closed }

-- ---- vectors that stay closed

closed_alike : (h : List NodeEntry) (u : List ℕ) (k : List Entry) → IsClosed h u → ((w : ℕ) → w < 32 → clock_of u w ≡ clock_of (current_vector k) w) → IsClosed h (current_vector k)
closed_alike h u k closed same x body dep written covers n lt =
    let node : x.stamp.node < 32 = covered_node (current_vector k) x.stamp (length-vector_of _) covers in
    let le : clock_of dep n ≤ clock_of u n = closed x body dep written (covers.0, omega (arith, covers.1, same x.stamp.node node)) n lt in
    omega (arith, le, same n lt)

one_closed : (h : List NodeEntry) (sets : List (List Span)) (n : ℕ) (j : List Entry) (m : Msg) (time caller : ℕ) (event : Event) → IsClosed h (current_vector j) → IsHonest h m.kind → TakesIn m event → MayComeByJournal nobody (λ c. []) sets n j time event → IsClosed h (current_vector (record { time = time; caller = caller; event = event } ∷ j))
one_closed h sets n j m time caller (Accepted msg at) closed honest is may =
    let kind_honest : IsHonest h msg.kind = subst (λ (k : Msg). IsHonest h k.kind) (sym is) honest in
    closed_alike h (join_of (current_vector j) (to_of msg.kind)) (record { time = time; caller = caller; event = Accepted msg at } ∷ j)
    (honest_keeps_closed h (current_vector j) msg.kind closed kind_honest may.0)
    (λ w lt. join_clock (current_vector j) (to_of msg.kind) w lt ∙ ap (λ (k : ℕ). max k (clock_of (to_of msg.kind) w)) (clock_of-vector_of (current_clock j) w lt)
    ∙ sym (clock_of-vector_of (current_clock (record { time = time; caller = caller; event = Accepted msg at } ∷ j)) w lt))
one_closed h sets n j m time caller (Gapped msg has) closed honest is may =
    closed_alike h (current_vector j) (record { time = time; caller = caller; event = Gapped msg has } ∷ j) closed
    (λ w lt. clock_of-vector_of (current_clock j) w lt ∙ sym (clock_of-vector_of (current_clock (record { time = time; caller = caller; event = Gapped msg has } ∷ j)) w lt ∙ omega arith))
one_closed h sets n j m time caller _ closed honest is may = absurd is

all_closed : (h : List NodeEntry) (sets : List (List Span)) (n : ℕ) (j : List Entry) (ms : List Msg) (es : List Entry) → IsClosed h (current_vector j) → AreHonest h ms → AreTakenBy sets n j ms es → StaysClosed h j es
all_closed h sets n j [] [] closed honest taken = tt
all_closed h sets n j [] (e ∷ es) closed honest taken = absurd taken
all_closed h sets n j (m ∷ ms) [] closed honest taken = absurd taken
all_closed h sets n j (m ∷ ms) (e ∷ es) closed honest taken =
    let now = one_closed h sets n j m e.time e.caller e.event closed honest.0 taken.0.event (taken.0.lawful nobody (λ c. [])).may_come in
    (now, all_closed h sets n (e ∷ j) ms es now honest.1 taken.1)

pub honest_stay_closed : HonestStayClosed
honest_stay_closed plan h n sets ms es valid honest taken =
    all_closed h sets n (journal h n) ms es ((facts_here plan h (facts_throughout plan h valid)).closed n) honest taken
