-- The line of what was made, beside a line that says the same.
use Rattle.std.proofs.Common.{◌≡◌, ◌+◌, ℕ, Bool, true, false, nat_eq, List, [], ◌∷◌, length, get_or, reverse, take, ◌++◌, ◌-◌, length-append, inl, inr, Result, Ok, Err, refl, sym, ap, subst, ◌∙◌, arith}
use Rattle.std.specs.Prelude.{IsTrue, IfOk, ◌||◌}
use Rattle.std.specs.Str.{bytes_eq}
use Rattle.std.proofs.lemmas.Bool.Decides.{Decides-eqb}
use Rattle.pr_script.specs.declared.decl.Decl.{Decl}
use Rattle.pr_script.proofs.Positions.{bytes_are, bytes_differ}
use Rattle.pr_stamps.specs.declared.no_memory.NoMemory.{NoMemory}
use Rattle.pr_sim.specs.Making.{declared_of}
use Rattle.pr_sim.specs.Running.{IsRunning, Tells}
use Rattle.pr_sim.specs.declared.engine.Engine.{Engine}
use Rattle.pr_sim.proofs.Faults.{stopped_same}
use Rattle.pr_sim.proofs.Telling.{many_places, reverse_more}
use Rattle.pr_story.specs.Places.{places_of}
use Rattle.std.proofs.lemmas.List.{get_or_push, length-reverse}
use Rattle.std.proofs.Math.Seq.{take-append_seam}
use Rattle.pr_check.specs.Judging.{end_line}
use Rattle.pr_text.specs.Endings.{ok_line}
use Rattle.pr_story.specs.Commands.{Command, Gives, ToAttach}
use Rattle.pr_story.specs.Counts.{Declared}
use Rattle.pr_story.specs.History.{NodeEntry, Plan}
use Rattle.pr_story.specs.Lawful.{IsLawful, Valid}
use Rattle.pr_story.specs.Scripts.{Single, attached_after}
use Rattle.pr_story.specs.Turns.{Attaches}
use Rattle.pr_story.specs.declared.event.Event.{Event}
use Rattle.pr_story.specs.declared.event.Event.TheVariants.{Attached}
use Rattle.pr_story.proofs.Commands.{node_is, one_event}
use Rattle.pr_story.proofs.Steps.{entry_at}
use Rattle.pr_text.specs.Lines.{sentence}
use Rattle.pr_text.specs.Transcripts.{plan_of}
use Rattle.pr_check.specs.Asking.{HasAllAttached, IsMade, IsReplayed}
use Rattle.pr_check.specs.declared.said.Said.{Said}
use Rattle.pr_check.proofs.Remade.{has_its_body}

-- ---- streams stay attached

or_left : (a b : Bool) → IsTrue a → IsTrue (a || b)
or_left true b t = refl
or_left false b t = absurd (cc)

or_right : (a b : Bool) → IsTrue b → IsTrue (a || b)
or_right true b t = refl
or_right false b t = t

attaches : (command : Command) (n : ℕ) (event : Event) (s : ℕ) (attached : ℕ → Bool) → Gives command n event → Attaches event s → IsTrue (attached_after (Single command) attached s)
attaches (ToAttach t) n (Attached stream at) s attached g a = or_left (nat_eq t s) (attached s) ((Decides-eqb t s).1 (sym g ∙ a))
attaches _ n (Attached stream at) s attached g a = absurd g
attaches command n _ s attached g a = absurd a

stays : (command : Command) (s : ℕ) (attached : ℕ → Bool) → IsTrue (attached s) → IsTrue (attached_after (Single command) attached s)
stays (ToAttach t) s attached on = or_right (nat_eq t s) (attached s) on
stays _ s attached on = on

all_attached : (command : Command) (attached : ℕ → Bool) (h : List NodeEntry) (made : NodeEntry) → Gives command made.node made.entry.event → HasAllAttached attached h
    → HasAllAttached (attached_after (Single command) attached) (made ∷ h)
all_attached command attached h made g all s was = elim was [
  | inl now ↦ attaches command made.node made.entry.event s attached g now
  | inr old ↦ stays command s attached (all s old)
]

-- ---- one command gives one line

module _ (plan : Plan) (h : List NodeEntry) (valid : Valid plan h) (command : Command) (a b : NodeEntry) (l : IsLawful plan h a) (k : IsLawful plan h b)
    (g : Gives command a.node a.entry.event) (i : Gives command b.node b.entry.event) where
  same_node : a.node ≡ b.node
  same_node = node_is plan h command a.node a.entry.event l.placed g ∙ sym (node_is plan h command b.node b.entry.event k.placed i)

  same_event : a.entry.event ≡ b.entry.event
  same_event =
      let here : IsLawful plan h (entry_at a.node b.entry.time b.entry.caller b.entry.event) = subst (λ (n : ℕ). IsLawful plan h (entry_at n b.entry.time b.entry.caller b.entry.event)) (sym same_node) k in
      let gives : Gives command a.node b.entry.event = subst (λ (n : ℕ). Gives command n b.entry.event) (sym same_node) i in
      (one_event plan h valid a.node a.entry.time b.entry.time a.entry.caller b.entry.caller command a.entry.event b.entry.event l here g gives).1

  pub same_sentence : (ds : List Decl) → sentence ds a.node a.entry.event ≡ sentence ds b.node b.entry.event
  same_sentence ds = ap (λ (n : ℕ). sentence ds n a.entry.event) same_node ∙ ap (λ (e : Event). sentence ds b.node e) same_event

-- ---- the answer

pub tells : (d : Declared) (attached : ℕ → Bool) (h : List NodeEntry) (e : Engine) → IsRunning d attached h e → Tells d h e
tells d attached h e k = stopped_same d attached h e e k refl refl

module _ (ds : List Decl) (said : Said) (line : List ℕ) (attached : ℕ → Bool) (h : List NodeEntry) (e : Engine) where
  pub compared : IsMade said (declared_of ds) attached h e (Ok true) → (r : Result Bool NoMemory)
      → ((g : List NodeEntry) (f : NodeEntry) → Tells (declared_of ds) (f ∷ g) e → IfOk r (λ is. is ≡ bytes_eq (sentence ds f.node f.entry.event) line))
      → IsReplayed ds said line attached h e r
  compared (command, by, (made, runs, gives)) (Ok true) says = (
    attached_after (Single command) attached,
    made,
    runs,
    all_attached command attached h made gives,
    bytes_are (sentence ds made.node made.entry.event) line (sym (says h made (tells (declared_of ds) _ (made ∷ h) e runs))),
  )
  compared (command, by, (made, runs, gives)) (Ok false) says = λ all other lawful says_so same.
      let valid : Valid (plan_of ds) (made ∷ h) = runs.stands.valid in
      let too : Gives command other.node other.entry.event = by other.node other.entry.event (has_its_body (plan_of ds) h other lawful) says_so in
      let line_is : sentence ds made.node made.entry.event ≡ line = same_sentence (plan_of ds) h valid.1 command made other valid.0 lawful gives too ds ∙ same in
      let differs : false ≡ bytes_eq (sentence ds made.node made.entry.event) line = says h made (tells (declared_of ds) _ (made ∷ h) e runs) in
      let agrees : bytes_eq (sentence ds made.node made.entry.event) line ≡ true = bytes_differ (sentence ds made.node made.entry.event) line line_is in
      absurd (cc)
  compared made (Err fault) says = tt

  pub none_made : IsMade said (declared_of ds) attached h e (Ok false) → IsReplayed ds said line attached h e (Ok false)
  none_made none all other lawful says same = none all other lawful says

pub made_of : (said : Said) (d : Declared) (attached : ℕ → Bool) (h : List NodeEntry) (e : Engine) (a b : Bool) → a ≡ b → IsMade said d attached h e (Ok a) → IsMade said d attached h e (Ok b)
made_of said d attached h e a b same made = subst (λ (x : Bool). IsMade said d attached h e (Ok x)) same made

-- ---- the last entry

module _ (h : List NodeEntry) (e : NodeEntry) (places : List (ℕ × ℕ)) (all : places ≡ places_of (e ∷ h)) where
  pub many : length places ≡ length h + 1
  many =
      let l : length places ≡ length (e ∷ h) = ap (λ (xs : List (ℕ × ℕ)). length xs) all ∙ many_places (e ∷ h) in
      omega arith

  pub last_is : (x : NodeEntry) → get_or (reverse (e ∷ h)) (length places - 1) x ≡ e
  last_is x =
      let at : length places - 1 ≡ length h = let m = many in omega arith in
      ap (λ (i : ℕ). get_or (reverse (e ∷ h)) i x) at ∙ ap (λ (xs : List NodeEntry). get_or xs (length h) x) (reverse_more e h)
      ∙ get_or_push (reverse h) e x (length h) (length-reverse h)

pub one_sentence : (ds : List Decl) (n m : ℕ) (a b : Event) (line : List ℕ) (r : Result Bool NoMemory) → n ≡ m → a ≡ b → IfOk r (λ is. is ≡ bytes_eq (sentence ds n a) line) → IfOk r (λ is. is ≡ bytes_eq (sentence ds m b) line)
one_sentence ds n m a b line (Ok is) p q says = says ∙ ap (λ (k : ℕ). bytes_eq (sentence ds k a) line) p ∙ ap (λ (v : Event). bytes_eq (sentence ds m v) line) q
one_sentence ds n m a b line (Err fault) p q says = tt

pub one_end : (n m : ℕ) (line : List ℕ) (r : Result Bool NoMemory) → n ≡ m → IfOk r (λ is. is ≡ bytes_eq (end_line n) line) → IfOk r (λ is. is ≡ bytes_eq (end_line m) line)
one_end n m line (Ok is) p says = says ∙ ap (λ (k : ℕ). bytes_eq (end_line k) line) p
one_end n m line (Err fault) p says = tt

-- the bytes before the end of a line
pub end_off : (line : List ℕ) → take (length (line ++ 10 ∷ []) - 1) (line ++ 10 ∷ []) ≡ line
end_off line =
    let l : length (line ++ 10 ∷ []) ≡ length line + 1 = length-append line (10 ∷ []) in
    let n : length (line ++ 10 ∷ []) - 1 ≡ length line = omega arith in
    ap (λ (k : ℕ). take k (line ++ 10 ∷ [])) n ∙ take-append_seam line (10 ∷ [])

pub is_end : (n : ℕ) (line text cut : List ℕ) (eq : Bool) → text ≡ ok_line n → cut ≡ take (length text - 1) text → eq ≡ bytes_eq cut line → eq ≡ bytes_eq (end_line n) line
is_end n line text cut eq is short says =
    let whole : text ≡ end_line n ++ 10 ∷ [] = is in
    let front : cut ≡ end_line n = short ∙ ap (λ (xs : List ℕ). take (length xs - 1) xs) whole ∙ end_off (end_line n) in
    says ∙ ap (λ (xs : List ℕ). bytes_eq xs line) front
