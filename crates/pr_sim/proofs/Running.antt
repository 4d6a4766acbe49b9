-- The engine goes on behind one entry.
use Rattle.std.proofs.Common.{◌≡◌, ◌⊎◌, ℕ, ◌<◌, List, ◌∷◌, inl, inr, sym, ◌∙◌, ap, subst, length, get_or, arith}
use Rattle.std.specs.Prelude.{true, false, Bool, Some, None, Option}
use Rattle.std.proofs.lemmas.Bool.{cases_eq}
use Rattle.pr_inval.specs.Standing.{Remembered}
use Rattle.pr_story.specs.declared.event.Event.{Event}
use Rattle.pr_story.specs.declared.event.Event.TheVariants.{Wrote, Attached, Sent, Idle, Stale, Accepted, Gapped, Missing, Down, Answered, Behind, Moved, Cut, Dropped, Conflicts, State}
use Rattle.pr_story.specs.Clients.{is_of_client}
use Rattle.pr_story.specs.Counts.{Counts, Declared, IsDeclared}
use Rattle.pr_story.specs.History.{NodeEntry}
use Rattle.pr_story.specs.Turns.{is_of_stream}
use Rattle.pr_sim.specs.Running.{IsRunning, Stands}
use Rattle.pr_story.proofs.OfStreams.{same_is}
use Rattle.pr_sim.proofs.Step.{here, put, some_is, there}
use Rattle.pr_sim.specs.declared.engine.Engine.{Engine}

-- ---- what is declared

-- what is so of no number is so of declared ones alone
pub never : (count : ℕ) (test : ℕ → Bool) → ((i : ℕ) → test i ≡ false) → (i : ℕ) → test i ≡ true → i < count
never count test none i is = let no : test i ≡ false = none i in absurd (cc)

-- and what is so of one declared number alone
pub only : (count one : ℕ) (test : ℕ → Bool) → one < count → ((i : ℕ) → (i ≡ one → ⊥) → test i ≡ false) → (i : ℕ) → test i ≡ true → i < count
only count one test known others i is = by (cases_eq i one)
  where
    by : (i ≡ one) ⊎ (i ≡ one → ⊥) → i < count
    by (inl same) = omega arith
    by (inr other) = let no : test i ≡ false = others i other in absurd (cc)

-- the event speaks of what is declared
speaks : (k : Counts) (event : Event) → ((c : ℕ) → is_of_client event c ≡ true → c < k.clients) → ((s : ℕ) → is_of_stream event s ≡ true → s < k.streams) → IsDeclared k event
speaks k (Wrote client write body after) of on = of client (same_is client)
speaks k (Attached stream at) of on = on stream (same_is stream)
speaks k (Sent msg) of on = on msg.stream (same_is msg.stream)
speaks k (Idle stream) of on = on stream (same_is stream)
speaks k (Stale stream cut) of on = on stream (same_is stream)
speaks k (Accepted msg at) of on = on msg.stream (same_is msg.stream)
speaks k (Gapped msg has) of on = on msg.stream (same_is msg.stream)
speaks k (Missing stream number) of on = on stream (same_is stream)
speaks k (Down stream cause) of on = on stream (same_is stream)
speaks k (Answered client name answer at) of on = of client (same_is client)
speaks k (Behind client needs has) of on = of client (same_is client)
speaks k (Moved client) of on = of client (same_is client)
speaks k (Cut at) of on = tt
speaks k (Dropped name) of on = tt
speaks k (Conflicts name found) of on = tt
speaks k (State at cut floor precise) of on = tt

-- ---- one entry more

-- an engine that stands for one entry more, with as many nodes, clients and streams, is running
pub runs_more : (d : Declared) (attached after : ℕ → Bool) (h : List NodeEntry) (e f : Engine) (made : NodeEntry) → IsRunning d attached h e → Stands d.plan (made ∷ h) f
    → made.node < length e.nodes.items
    → ((c : ℕ) → is_of_client made.entry.event c ≡ true → c < length e.homes.items)
    → ((s : ℕ) → is_of_stream made.entry.event s ≡ true → s < length e.sessions.items)
    → length f.nodes.items ≡ length e.nodes.items → length f.homes.items ≡ length e.homes.items → length f.sessions.items ≡ length e.sessions.items
    → ((s : ℕ) (x : Remembered) → get_or f.sessions.items s None ≡ Some x → x.attached ≡ after s)
    → IsRunning d after (made ∷ h) f
runs_more d attached after h e f made k stands within clients streams same_nodes same_clients same_streams are =
    let nodes : length e.nodes.items ≡ d.counts.nodes = k.nodes in
    let homes : length e.homes.items ≡ d.counts.clients = k.clients in
    let sessions : length e.sessions.items ≡ d.counts.streams = k.streams in
    record {
      stands = stands;
      speaks = (
        (omega arith, speaks d.counts made.entry.event (λ c of. subst (λ (i : ℕ). c < i) homes (clients c of)) (λ s on. subst (λ (i : ℕ). s < i) sessions (streams s on))),
        k.speaks,
      );
      nodes = same_nodes ∙ nodes;
      clients = same_clients ∙ homes;
      streams = same_streams ∙ sessions;
      attached_are = are;
    }

-- one session was changed
pub attached_put : (sessions : List (Option Remembered)) (s : ℕ) (new : Remembered) (before after : ℕ → Bool) → s < length sessions
    → ((t : ℕ) (x : Remembered) → get_or sessions t None ≡ Some x → x.attached ≡ before t) → new.attached ≡ after s → ((t : ℕ) → (t ≡ s → ⊥) → before t ≡ after t)
    → (t : ℕ) (x : Remembered) → get_or (put sessions s new) t None ≡ Some x → x.attached ≡ after t
attached_put sessions s new before after known are now stays t x is = by (cases_eq t s)
  where
    by : (t ≡ s) ⊎ (t ≡ s → ⊥) → x.attached ≡ after t
    by (inl same) =
        let at : get_or (put sessions s new) s None ≡ Some x = subst (λ (i : ℕ). get_or (put sessions s new) i None ≡ Some x) same is in
        let e : new ≡ x = some_is new x (get_or (put sessions s new) s None) (here sessions s new known) at in
        ap (λ (y : Remembered). y.attached) (sym e) ∙ now ∙ ap (λ (i : ℕ). after i) (sym same)
    by (inr other) = are t x (sym (there sessions s t new other) ∙ is) ∙ stays t other
