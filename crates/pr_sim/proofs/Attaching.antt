-- Streams are attached anew, one after another.
use Rattle.std.proofs.Common.{◌≡◌, ℕ, ◌<◌, List, [], ◌∷◌, ◌++◌, Result, Ok, Err, refl, sym, ◌∙◌, ap, subst, cond, nat_eq, length, get_or, reverse}
use Rattle.std.specs.Prelude.{true, false, Bool, IsTrue, Some, None, ◌||◌}
use Rattle.std.proofs.lemmas.List.{append_assoc}
use Rattle.std.proofs.lemmas.Bool.Decides.{Decides-eqb}
use Rattle.pr_inval.specs.declared.node_fault.NodeFault.{NodeFault}
use Rattle.pr_inval.specs.Standing.{Remembered}
use Rattle.pr_story.specs.declared.event.Event.{Event}
use Rattle.pr_story.specs.declared.event.Event.TheVariants.{Attached}
use Rattle.pr_story.specs.Commands.{Gives, ToAttach}
use Rattle.pr_story.specs.History.{NodeEntry}
use Rattle.pr_story.specs.Scripts.{AreAttaches, Single, attached_after, events_of}
use Rattle.pr_sim.specs.Commands.{GivesOne, IsCause}
use Rattle.pr_sim.specs.Running.{IsRunning, Tells}
use Rattle.pr_story.specs.Counts.{Declared}
use Rattle.pr_sim.specs.Settles.{AttachesAnew, just}
use Rattle.pr_sim.proofs.Settles.{events_both}
use Rattle.pr_sim.specs.declared.engine.Engine.{Engine}

-- the session of the stream of this number
pub session_at : (d : Declared) (attached : ℕ → Bool) (h : List NodeEntry) (e : Engine) (s : ℕ) → IsRunning d attached h e → s < length e.sessions.items
    → (x : Remembered) × (get_or e.sessions.items s None ≡ Some x) × (x.stream ≡ s) × (x.attached ≡ attached s)
session_at d attached h e s k within = let x = k.stands.sessions s within in (x.0, x.1, x.2.stream, k.attached_are s x.0 x.1)

-- which streams are attached is the same
pub same_attached : (d : Declared) (before after : ℕ → Bool) (h : List NodeEntry) (e : Engine) → ((t : ℕ) → before t ≡ after t) → IsRunning d before h e → IsRunning d after h e
same_attached d before after h e same running = record {
  stands = running.stands;
  speaks = running.speaks;
  nodes = running.nodes;
  clients = running.clients;
  streams = running.streams;
  attached_are = λ s x is. running.attached_are s x is ∙ same s;
}

attached_again : (attached : ℕ → Bool) (s t : ℕ) (b : Bool) → (IsTrue b → s ≡ t) → attached s ≡ true → (b || attached t) ≡ attached t
attached_again attached s t true is on = sym (ap (λ (i : ℕ). attached i) (sym (is refl)) ∙ on)
attached_again attached s t false is on = refl

one_attach : (s n : ℕ) (event : Event) → Gives (ToAttach s) n event → AreAttaches (s ∷ []) (event ∷ [])
one_attach s n (Attached t at) g = (g, refl)
one_attach s n _ g = absurd g

pub just_one : (attached : ℕ → Bool) (s : ℕ) → attached s ≡ true → just attached s ≡ s ∷ []
just_one attached s on = ap (λ (b : Bool). cond b (s ∷ []) []) on

pub just_none : (attached : ℕ → Bool) (s : ℕ) → attached s ≡ false → just attached s ≡ []
just_none attached s off = ap (λ (b : Bool). cond b (s ∷ []) []) off

pub attach_attaches : (d : Declared) (attached : ℕ → Bool) (h : List NodeEntry) (f : Engine) (s : ℕ) → attached s ≡ true → (r : Result (Unit {0}) NodeFault)
    → GivesOne (ToAttach s) d attached h f r → AttachesAnew (just attached s) d attached h f r
attach_attaches d attached h f s on (Ok done) (made, running, gives) = (
  made ∷ [],
  same_attached d (attached_after (Single (ToAttach s)) attached) attached (made ∷ h) f (λ t. attached_again attached s t (nat_eq s t) (Decides-eqb s t).0 on) running,
  subst (λ (xs : List ℕ). AreAttaches xs (made.entry.event ∷ [])) (sym (just_one attached s on)) (one_attach s made.node made.entry.event gives),
)
attach_attaches d attached h f s on (Err fault) (tells, cause) = (
  [],
  tells,
  (Attached s [] ∷ [], subst (λ (xs : List ℕ). AreAttaches xs (Attached s [] ∷ [])) (sym (just_one attached s on)) (refl, refl)),
  cause,
)

pub none_attaches : (d : Declared) (attached : ℕ → Bool) (h : List NodeEntry) (e : Engine) (s : ℕ) → attached s ≡ false → IsRunning d attached h e → AttachesAnew (just attached s) d attached h e (Ok tt)
none_attaches d attached h e s off running = ([], running, subst (λ (xs : List ℕ). AreAttaches xs []) (sym (just_none attached s off)) refl)

-- ---- one after another

attaches_first : (event : Event) (s : ℕ) (xs ys : List ℕ) (a b : List Event) → (AreAttaches xs a → AreAttaches (xs ++ ys) (a ++ b)) → AreAttaches (s ∷ xs) (event ∷ a) → AreAttaches (s ∷ (xs ++ ys)) (event ∷ (a ++ b))
attaches_first (Attached t at) s xs ys a b f p = (p.0, f p.1)
attaches_first _ s xs ys a b f p = absurd p

attaches_both : (xs ys : List ℕ) (a b : List Event) → AreAttaches xs a → AreAttaches ys b → AreAttaches (xs ++ ys) (a ++ b)
attaches_both [] ys a b p q = subst (λ (es : List Event). AreAttaches ys (es ++ b)) (sym p) q
attaches_both (s ∷ xs) ys [] b p q = absurd p
attaches_both (s ∷ xs) ys (event ∷ a) b p q = attaches_first event s xs ys a b (λ r. attaches_both xs ys a b r q) p

some_attaches : (xs : List ℕ) → (events : List Event) × AreAttaches xs events
some_attaches [] = ([], refl)
some_attaches (s ∷ xs) = let more = some_attaches xs in (Attached s [] ∷ more.0, (refl, more.1))

module _ (d : Declared) (attached : ℕ → Bool) (h : List NodeEntry) (e f : Engine) (xs ys : List ℕ) where
  pub attaches_more : AttachesAnew xs d attached h e (Ok tt) → ((a : List NodeEntry) → IsRunning d attached (a ++ h) e → AttachesAnew ys d attached (a ++ h) f (Ok tt)) → AttachesAnew (xs ++ ys) d attached h f (Ok tt)
  attaches_more (a, was, p) next =
      let n = next a was in
      let b : List NodeEntry = n.0 in (
        b ++ a,
        subst (λ (es : List NodeEntry). IsRunning d attached es f) (sym (append_assoc b a h)) n.1,
        subst (λ (es : List Event). AreAttaches (xs ++ ys) es) (sym (events_both a b)) (attaches_both xs ys (events_of (reverse a)) (events_of (reverse b)) p n.2),
      )

  pub attaches_fail : (zs : List ℕ) (fault : NodeFault) → AttachesAnew xs d attached h e (Ok tt) → ((a : List NodeEntry) → IsRunning d attached (a ++ h) e → AttachesAnew ys d attached (a ++ h) f (Err fault))
      → AttachesAnew ((xs ++ ys) ++ zs) d attached h f (Err fault)
  attaches_fail zs fault (a, was, p) next =
      let n = next a was in
      let b : List NodeEntry = n.0 in
      let more = some_attaches zs in
      let rest : List Event = n.2.0 in
      let first : List Event = events_of (reverse a) in
      let then : List Event = events_of (reverse b) in
      let whole = attaches_both (xs ++ ys) zs (first ++ (then ++ rest)) more.0 (attaches_both xs ys first (then ++ rest) p n.2.1) more.1 in
      let same : (first ++ (then ++ rest)) ++ more.0 ≡ events_of (reverse (b ++ a)) ++ (rest ++ more.0) =
      ap (λ (es : List Event). es ++ more.0) (sym (append_assoc first then rest)) ∙ append_assoc (first ++ then) rest more.0
      ∙ ap (λ (es : List Event). es ++ (rest ++ more.0)) (sym (events_both a b)) in (
        b ++ a,
        subst (λ (es : List NodeEntry). Tells d es f) (sym (append_assoc b a h)) n.1,
        (rest ++ more.0, subst (λ (es : List Event). AreAttaches ((xs ++ ys) ++ zs) es) same whole),
        subst (λ (es : List NodeEntry). IsCause es fault) (sym (append_assoc b a h)) n.3,
      )
