-- Whether a flow may go down.
use Rattle.std.proofs.Common.{◌≡◌, ℕ, ◌+◌, ◌<◌, List, refl, sym, ◌∙◌, ap, cond, length, get_or, reverse, take, arith}
use Rattle.std.specs.Prelude.{true, false, Bool, IsTrue, ◌&&◌, Some, None}
use Rattle.pr_node.specs.Stored.{Stored, means}
use Rattle.pr_story.specs.declared.cause.Cause.{Cause}
use Rattle.pr_story.specs.declared.cause.Cause.TheVariants as causes
use Rattle.pr_story.specs.declared.entry.Entry.{Entry}
use Rattle.pr_story.specs.Counts.{Declared}
use Rattle.pr_story.specs.History.{NodeEntry, journal}
use Rattle.pr_story.specs.Lawful.{DownAfter, is_after_gap, is_gap}
use Rattle.pr_story.specs.Turns.{is_of_stream}
use Rattle.pr_story.proofs.NewestFirst.{reverse-take_more}
use Rattle.pr_sim.specs.Flowing.{CanGoDown, goes_down, may_go_down}
use Rattle.pr_sim.specs.Running.{HasAttached, IsRunning}
use Rattle.pr_sim.specs.declared.engine.Engine.{Engine}
use Rattle.pr_sim.specs.declared.engine.Route.{Route}
use Rattle.pr_sim.proofs.Flows.{is_attached}
use Rattle.pr_sim.proofs.OfStreams.{ends_of}
use Rattle.pr_sim.proofs.Step.{some_is}

-- ---- from the end of a journal

last_entry : (xs : List Entry) (i s : ℕ) (e : Entry) → i < length xs → e ≡ get_or xs i e
    → is_after_gap (reverse (take (i + 1) xs)) s ≡ cond (is_of_stream e.event s) (is_gap e.event) (is_after_gap (reverse (take i xs)) s)
last_entry xs i s e lt is = ap (λ (ys : List Entry). is_after_gap ys s) (reverse-take_more xs i e lt is)

pub found : (xs : List Entry) (i s : ℕ) (e : Entry) → i < length xs → e ≡ get_or xs i e → is_after_gap (reverse (take (i + 1) xs)) s ≡ is_after_gap (reverse xs) s
    → is_of_stream e.event s ≡ true → is_gap e.event ≡ is_after_gap (reverse xs) s
found xs i s e lt is all of = ap (λ (b : Bool). cond b (is_gap e.event) (is_after_gap (reverse (take i xs)) s)) (sym of) ∙ sym (last_entry xs i s e lt is) ∙ all

pub passed : (xs : List Entry) (i s : ℕ) (e : Entry) → i < length xs → e ≡ get_or xs i e → is_after_gap (reverse (take (i + 1) xs)) s ≡ is_after_gap (reverse xs) s
    → is_of_stream e.event s ≡ false → is_after_gap (reverse (take i xs)) s ≡ is_after_gap (reverse xs) s
passed xs i s e lt is all of = ap (λ (b : Bool). cond b (is_gap e.event) (is_after_gap (reverse (take i xs)) s)) (sym of) ∙ sym (last_entry xs i s e lt is) ∙ all

-- ---- what the answer says

both : (a b : Bool) → IsTrue (a && b) → IsTrue a × IsTrue b
both true b t = (refl, t)
both false b t = absurd (cc)

caused : (cause : Cause) (after : Bool) → IsTrue (may_go_down cause after) → DownAfter cause after
caused causes.Gap after t = t
caused causes.Failed after t = tt
caused causes.Ended after t = tt

pub can : (d : Declared) (attached : ℕ → Bool) (h : List NodeEntry) (e : Engine) (s : ℕ) (cause : Cause) → IsRunning d attached h e → s < length e.sessions.items → HasAttached e s
    → IsTrue (goes_down d attached h s cause) → CanGoDown d.plan h s cause
can d attached h e s cause k lt on t = (is_attached d attached h e s k lt on, caused cause _ (both (attached s) _ t).1)

-- what the destination's entries say is what the history says
pub after_is : (d : Declared) (attached : ℕ → Bool) (h : List NodeEntry) (e : Engine) (s : ℕ) (route : Route) (m : Stored) (entries : List Entry) (after : Bool) → IsRunning d attached h e → s < length e.sessions.items
    → ((r : Route) → route ≡ get_or e.routes.items s r) → get_or e.nodes.items route.destination None ≡ Some m → reverse entries ≡ (means m).journal → after ≡ is_after_gap (reverse entries) s
    → after ≡ is_after_gap (journal h (d.plan.stream s).destination) s
after_is d attached h e s route m entries after k lt is there same says =
    let r = ends_of d.plan _ _ s route k.stands.routes (let l = k.stands.many in omega arith) is in
    let x = k.stands.nodes.each route.destination r.3 in
    let one : x.0 ≡ m = some_is x.0 m (get_or e.nodes.items route.destination None) x.1 there in
    says ∙ ap (λ (j : List Entry). is_after_gap j s) (same ∙ ap (λ (y : Stored). (means y).journal) (sym one) ∙ x.2.journal_is)
    ∙ ap (λ (n : ℕ). is_after_gap (journal h n) s) r.1

pub goes_is : (d : Declared) (attached : ℕ → Bool) (h : List NodeEntry) (s : ℕ) (cause : Cause) (on after may : Bool) → on ≡ attached s → after ≡ is_after_gap (journal h (d.plan.stream s).destination) s
    → may ≡ may_go_down cause after → (on && may) ≡ goes_down d attached h s cause
goes_is d attached h s cause on after may is gap says =
    ap (λ (b : Bool). on && b) (says ∙ ap (λ (b : Bool). may_go_down cause b) gap)
    ∙ ap (λ (b : Bool). b && may_go_down cause (is_after_gap (journal h (d.plan.stream s).destination) s)) is
