-- A transcript says one history, but for the callers' numbers.
use Rattle.std.proofs.Common.{◌≡◌, ℕ, List, [], ◌∷◌, ◌++◌, cond, refl, sym, ap, ◌∙◌, arith}
use Rattle.std.specs.Prelude.{nat_eq}
use Rattle.pr_script.specs.declared.decl.Decl.{Decl}
use Rattle.pr_story.specs.Clients.{client_node, node_after}
use Rattle.pr_story.specs.History.{NodeEntry, Plan}
use Rattle.pr_story.specs.Lawful.{IsLawful, IsPlaced, Valid}
use Rattle.pr_story.specs.Lines.{HaveSameLines, SaySame}
use Rattle.pr_story.specs.declared.event.Event.{Event}
use Rattle.pr_story.specs.declared.event.Event.TheVariants.{Wrote, Attached, Sent, Idle, Stale, Accepted, Gapped, Missing, Down, Answered, Behind, Moved, Cut, Dropped, Conflicts, State}
use Rattle.pr_story.proofs.Lines.{lines_determine}
use Rattle.pr_story.proofs.Steps.{entry_at}
use Rattle.pr_script.specs.Labels.{AreLabels}
use Rattle.pr_script.specs.Printing.{label_text as label}
use Rattle.pr_text.specs.Lines.{fields_of, line_text, sentence, word_of}
use Rattle.pr_story.specs.Counts.{AllNamed, HasEvent}
use Rattle.pr_story.proofs.Counts.{histories_name}
use Rattle.pr_text.specs.Numbers.{Has, counts_of}
use Rattle.pr_text.specs.Transcripts.{LinesTell, lines_text, plan_of}
use Rattle.pr_script.specs.declared.kind.Kind.TheVariants as kinds
use Rattle.pr_text.proofs.Cut.{Lacks}
use Rattle.pr_text.proofs.Items.{nothing_here}
use Rattle.pr_text.proofs.Fields.{AllLack, ended, ended_more, lack_more, last_same, lines_same, sentence_lacks, sentence_same}
use Rattle.pr_text.proofs.Messages.{at_0, at_1}
use Rattle.pr_text.proofs.Same.{label_same}
use Rattle.pr_text.proofs.Sentences.{HasNoBody, IsTold, event_closed, place, same_place, say_same, shown, word_plain}

-- ---- what an event names

client_in : Event → ℕ
client_in (Wrote client write body after) = client
client_in (Answered client name reply at) = client
client_in (Behind client needs has) = client
client_in (Moved client) = client
client_in e = 0

stream_in : Event → ℕ
stream_in (Attached s at) = s
stream_in (Idle s) = s
stream_in (Stale s cut) = s
stream_in (Missing s number) = s
stream_in (Down s cause) = s
stream_in e = 0

module _ (ds : List Decl) (a : AreLabels ds) (plan : Plan) where
  -- ---- the node of an event

  at_node : (n m : ℕ) (x y : Event) → IsTold ds n x → IsTold ds m y → label kinds.Node ds n ≡ label kinds.Node ds m → n ≡ m
  at_node n m x y s t e = label_same ds a kinds.Node n m s.node t.node e

  by_client : (h g : List NodeEntry) → ((c : ℕ) → client_node plan h c ≡ client_node plan g c) → (n m c d : ℕ) → n ≡ client_node plan h c → m ≡ client_node plan g d → c ≡ d → n ≡ m
  by_client h g f n m c d p q e = p ∙ f c ∙ ap (λ (k : ℕ). client_node plan g k) e ∙ sym q

  to_node : (n m s t : ℕ) → n ≡ (plan.stream s).destination → m ≡ (plan.stream t).destination → s ≡ t → n ≡ m
  to_node n m s t p q e = p ∙ ap (λ (k : ℕ). (plan.stream k).destination) e ∙ sym q

  from_node : (n m s t : ℕ) → n ≡ (plan.stream s).source → m ≡ (plan.stream t).source → s ≡ t → n ≡ m
  from_node n m s t p q e = p ∙ ap (λ (k : ℕ). (plan.stream k).source) e ∙ sym q

  node_same : (h g : List NodeEntry) → ((c : ℕ) → client_node plan h c ≡ client_node plan g c) → (n m : ℕ) (x y : Event) → IsTold ds n x → IsTold ds m y
      → IsPlaced plan h n x → IsPlaced plan g m y → place x ≡ place y → SaySame x y → fields_of ds n x ≡ fields_of ds m y → n ≡ m
  unfolding client_in stream_in
  node_same h g f n m (Wrote c w b v) (Wrote d x k u) s t p q o y e = by_client h g f n m c d p q (ap client_in y)
  node_same h g f n m (Answered c o r v) (Answered d i j u) s t p q w y e = by_client h g f n m c d p q (ap client_in y)
  node_same h g f n m (Behind c v k) (Behind d u l) s t p q o y e = by_client h g f n m c d p q (ap client_in y)
  node_same h g f n m (Attached c v) (Attached d u) s t p q o y e = to_node n m c d p q (ap stream_in y)
  node_same h g f n m (Accepted c v) (Accepted d u) s t p q o y e = to_node n m c.stream d.stream p q y.0.0
  node_same h g f n m (Gapped c v) (Gapped d u) s t p q o y e = to_node n m c.stream d.stream p q y.0.0
  node_same h g f n m (Missing c v) (Missing d u) s t p q o y e = to_node n m c d p q (ap stream_in y)
  node_same h g f n m (Down c v) (Down d u) s t p q o y e = to_node n m c d p q (ap stream_in y)
  node_same h g f n m (Sent c) (Sent d) s t p q o y e = from_node n m c.stream d.stream p q y.0.0
  node_same h g f n m (Idle c) (Idle d) s t p q o y e = from_node n m c d p q (ap stream_in y)
  node_same h g f n m (Stale c v) (Stale d u) s t p q o y e = from_node n m c d p q (ap stream_in y)
  node_same h g f n m (Moved c) (Moved d) s t p q o y e = at_node n m (Moved c) (Moved d) s t (at_1 (fields_of ds n (Moved c)) (fields_of ds m (Moved d)) e)
  node_same h g f n m (Cut v) (Cut u) s t p q o y e = at_node n m (Cut v) (Cut u) s t (at_0 (fields_of ds n (Cut v)) (fields_of ds m (Cut u)) e)
  node_same h g f n m (Dropped v) (Dropped u) s t p q o y e = at_node n m (Dropped v) (Dropped u) s t (at_0 (fields_of ds n (Dropped v)) (fields_of ds m (Dropped u)) e)
  node_same h g f n m (Conflicts v c) (Conflicts u d) s t p q o y e = at_node n m (Conflicts v c) (Conflicts u d) s t (at_0 (fields_of ds n (Conflicts v c)) (fields_of ds m (Conflicts u d)) e)
  node_same h g f n m (State v c k l) (State u d i j) s t p q o y e = at_node n m (State v c k l) (State u d i j) s t (at_0 (fields_of ds n (State v c k l)) (fields_of ds m (State u d i j)) e)
  node_same h g f n m x z s t p q o y e = absurd (omega (arith, o))

  -- ---- where clients stand

  moved_same : (n m k l c : ℕ) (x y : Event) → place x ≡ place y → SaySame x y → n ≡ m → k ≡ l → node_after x n c k ≡ node_after y m c l
  unfolding client_in
  moved_same n m k l c (Moved d) (Moved e) p s f g =
      ap (λ (z : ℕ). cond (nat_eq z c) n k) (ap client_in s) ∙ ap (λ (z : ℕ). cond (nat_eq e c) z k) f ∙ ap (λ (z : ℕ). cond (nat_eq e c) m z) g
  moved_same n m k l c (Moved d) y p s f g = absurd (omega (arith, p))
  moved_same n m k l c x (Moved e) p s f g = absurd (omega (arith, p))
  moved_same n m k l c x y p s f g = g

  -- ---- what is told in a valid history

  no_body : (h : List NodeEntry) (n t c : ℕ) (e : Event) → IsLawful plan h (entry_at n t c e) → HasNoBody e
  no_body h n t c (Wrote client write body after) l = l.may_come.6
  no_body h n t c e l = tt

  told : (h : List NodeEntry) (e : NodeEntry) → IsLawful plan h e → Has ds kinds.Node e.node → HasEvent (counts_of ds) e.entry.event → IsTold ds e.node e.entry.event
  told h e l n k = record {
    node = n;
    range = l.in_range;
    numbers = k;
    body = no_body h e.node e.entry.time e.entry.caller e.entry.event l;
  }

  -- ---- the lines one by one

  said : List NodeEntry → List (List ℕ)
  said [] = []
  said (e ∷ h) = said h ++ sentence ds e.node e.entry.event ∷ []

  text_said : (h : List NodeEntry) → lines_text ds h ≡ ended (said h)
  unfolding said
  text_said [] = refl
  text_said (e ∷ h) = ap (λ (t : List ℕ). t ++ line_text ds e.node e.entry.event) (text_said h) ∙ sym (ended_more (said h) (sentence ds e.node e.entry.event))

  line_lacks : (e : NodeEntry) → IsTold ds e.node e.entry.event → Lacks 10 (sentence ds e.node e.entry.event)
  line_lacks e t = sentence_lacks (word_of e.entry.event) (fields_of ds e.node e.entry.event) (word_plain e.entry.event) (event_closed ds a e.node e.entry.event (shown ds e.node e.entry.event t))

  said_lack : (h : List NodeEntry) → Valid plan h → AllNamed (counts_of ds) h → AllLack (said h)
  unfolding said
  said_lack [] v d = tt
  said_lack (e ∷ h) v d = lack_more (said h) (sentence ds e.node e.entry.event) (said_lack h v.1 d.2) (line_lacks e (told h e v.0 d.0 d.1))

  no_last : (ls : List (List ℕ)) (l : List ℕ) → [] ≡ ls ++ l ∷ [] → ⊥
  no_last [] l e = nothing_here l [] e
  no_last (m ∷ ls) l e = nothing_here m (ls ++ l ∷ []) e

  have_same : (h g : List NodeEntry) → Valid plan h → Valid plan g → AllNamed (counts_of ds) h → AllNamed (counts_of ds) g → said h ≡ said g
      → HaveSameLines h g × ((c : ℕ) → client_node plan h c ≡ client_node plan g c)
  unfolding said
  have_same [] [] v w d k e = (tt, λ c. refl)
  have_same [] (f ∷ g) v w d k e = absurd (no_last (said g) (sentence ds f.node f.entry.event) e)
  have_same (f ∷ h) [] v w d k e = absurd (no_last (said h) (sentence ds f.node f.entry.event) (sym e))
  have_same (x ∷ h) (y ∷ g) v w d k e =
      let last = last_same (said h) (said g) (sentence ds x.node x.entry.event) (sentence ds y.node y.entry.event) e in
      let rest = have_same h g v.1 w.1 d.2 k.2 last.0 in
      let s = told h x v.0 d.0 d.1 in
      let t = told g y w.0 k.0 k.1 in
      let parts = sentence_same (word_of x.entry.event) (word_of y.entry.event) (fields_of ds x.node x.entry.event) (fields_of ds y.node y.entry.event)
      (word_plain x.entry.event) (word_plain y.entry.event) (event_closed ds a x.node x.entry.event (shown ds x.node x.entry.event s)) (event_closed ds a y.node y.entry.event (shown ds y.node y.entry.event t)) last.1 in
      let o = same_place x.entry.event y.entry.event parts.0 in
      let say = say_same ds a x.node y.node x.entry.event y.entry.event s t parts.0 parts.1 in
      let node = node_same h g rest.1 x.node y.node x.entry.event y.entry.event s t v.0.placed w.0.placed o say parts.1 in
      ((node, say, rest.0), λ c. moved_same x.node y.node (client_node plan h c) (client_node plan g c) c x.entry.event y.entry.event o say node (rest.1 c))

pub lines_tell : LinesTell
lines_tell ds h g a v w e =
    let plan = plan_of ds in
    let d = histories_name plan (counts_of ds) h v in
    let k = histories_name plan (counts_of ds) g w in
    let same = lines_same (said ds a plan h) (said ds a plan g) (said_lack ds a plan h v.valid d) (said_lack ds a plan g w.valid k) (sym (text_said ds a plan h) ∙ e ∙ text_said ds a plan g) in
    lines_determine plan h g v.valid w.valid (have_same ds a plan h g v.valid w.valid d k same).0
