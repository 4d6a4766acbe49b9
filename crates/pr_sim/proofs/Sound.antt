-- Entries over sound wires.
use Rattle.std.proofs.Common.{◌≡◌, ℕ, List, [], ◌∷◌, ◌++◌, Result, Ok, Err, refl, sym, ◌∙◌, subst, reverse}
use Rattle.std.specs.Prelude.{Bool, false, true, IsTrue}
use Rattle.std.proofs.lemmas.List.{reverse-append, reverse-reverse}
use Rattle.pr_inval.specs.declared.msg.Msg.{Msg}
use Rattle.pr_inval.specs.declared.node_fault.NodeFault.{NodeFault}
use Rattle.pr_node.specs.declared.answers.turned.Turned.{Turned}
use Rattle.pr_node.specs.declared.answers.turned.Turned.TheVariants as turned
use Rattle.pr_inval.specs.declared.taken.Taken.{Taken}
use Rattle.pr_inval.specs.declared.taken.Taken.TheVariants as taken
use Rattle.pr_flow.specs.declared.flow_end.FlowEnd.{FlowEnd}
use Rattle.pr_flow.specs.declared.flow_end.FlowEnd.TheVariants as ends
use Rattle.pr_flow.specs.Ending.{IsSoundEnd}
use Rattle.pr_flow.specs.Moving.{IsCut}
use Rattle.pr_flow.specs.Sound.{AreSoundEvents, IsSoundEvent}
use Rattle.pr_node.specs.Calls.{IsTaken}
use Rattle.pr_story.specs.Counts.{Declared}
use Rattle.pr_story.specs.declared.cause.Cause.{Cause}
use Rattle.pr_story.specs.declared.cause.Cause.TheVariants.{Failed, Ended, Gap}
use Rattle.pr_story.specs.declared.event.Event.{Event}
use Rattle.pr_story.specs.declared.event.Event.TheVariants.{Down, Gapped}
use Rattle.pr_story.specs.History.{NodeEntry}
use Rattle.pr_wires.specs.Calls.{WireState}
use Rattle.pr_sim.specs.Commands.{Grows, IsTurnMade}
use Rattle.pr_sim.specs.Running.{IsRunning}
use Rattle.pr_sim.specs.Sound.{AddsSound, GrowsSound}
use Rattle.pr_sim.specs.declared.engine.Engine.{Engine}
use Rattle.pr_sim.proofs.Flows.{grows_behind}
use Rattle.pr_sim.proofs.Story.{running_tells}

-- ---- lists

pub sound_both : (es fs : List NodeEntry) → AreSoundEvents es → AreSoundEvents fs → AreSoundEvents (es ++ fs)
sound_both [] fs a b = b
sound_both (e ∷ es) fs a b = (a.0, sound_both es fs a.1 b)

sound_back : (es : List NodeEntry) → AreSoundEvents es → AreSoundEvents (reverse es)
sound_back [] a = tt
sound_back (e ∷ es) a = subst (λ (l : List NodeEntry). AreSoundEvents l) (sym (reverse-append (e ∷ []) es)) (sound_both (reverse es) (e ∷ []) (sound_back es a.1) (a.0, tt))

pub sound_reversed : (es : List NodeEntry) → AreSoundEvents (reverse es) → AreSoundEvents es
sound_reversed es a = subst (λ (l : List NodeEntry). AreSoundEvents l) (reverse-reverse es) (sound_back (reverse es) a)

-- ---- one entry

pub accepted_sound : (m : Msg) (answer : Taken) (time : ℕ) (made : NodeEntry) → answer ≡ taken.Accepted time → IsTaken m answer made.entry → IsSoundEvent made.entry.event
accepted_sound m answer time made is took =
    let t : IsTaken m (taken.Accepted time) made.entry = subst (λ (x : Taken). IsTaken m x made.entry) is took in
    subst (λ (v : Event). IsSoundEvent v) (sym t.0.1) tt

pub gapped_sound : (m : Msg) (has : List ℕ) (made : NodeEntry) → made.entry.event ≡ Gapped m has → IsSoundEvent made.entry.event
gapped_sound m has made is = subst (λ (v : Event). IsSoundEvent v) (sym is) tt

pub gap_sound : (s : ℕ) (made : NodeEntry) → made.entry.event ≡ Down s Gap → IsSoundEvent made.entry.event
gap_sound s made is = subst (λ (v : Event). IsSoundEvent v) (sym is) tt

pub turn_sound : (s : ℕ) (t : Turned) (made : NodeEntry) → IsTurnMade s t made → IsSoundEvent made.entry.event
turn_sound s turned.Sent made (msg, (event, of, kind), good) = subst (λ (v : Event). IsSoundEvent v) (sym event) tt
turn_sound s turned.Idle made event = subst (λ (v : Event). IsSoundEvent v) (sym event) tt
turn_sound s turned.Stale made (cut, event) = subst (λ (v : Event). IsSoundEvent v) (sym event) tt

pub not_sound : (b : Bool) → IsTrue b → b ≡ false → ⊥
not_sound b is other = let bad : true ≡ false = sym is ∙ other in absurd (cc)

-- no wire that is cut is sound
pub cut_unsound : (cause : Cause) (a b : WireState) → IsCut cause a b → IsSoundEnd (Ok (ends.Down cause)) → ⊥
cut_unsound Failed a b cut sound = sound
cut_unsound Ended a b cut sound = sound
cut_unsound Gap a b cut sound = cut

-- ---- many entries

-- sound entries stand in front
pub sound_behind : (d : Declared) (attached : ℕ → Bool) (h first : List NodeEntry) (f : Engine) (r : Result FlowEnd NodeFault) → AreSoundEvents (reverse first) → GrowsSound d attached (first ++ h) f r → GrowsSound d attached h f r
sound_behind d attached h first f r front grows =
    grows_behind d attached h first f (λ (end : FlowEnd) es. IsSoundEnd (Ok end) → AreSoundEvents es) (λ (end : FlowEnd) es. IsSoundEnd (Ok end) → AreSoundEvents es) (λ es. AreSoundEvents es) (λ es. AreSoundEvents es) r
    (λ end es is ends. sound_both (reverse first) es front (is ends)) (λ es is. sound_both (reverse first) es front is) grows

pub nothing_added : (d : Declared) (attached : ℕ → Bool) (h : List NodeEntry) (e : Engine) → IsRunning d attached h e → AddsSound d h e
nothing_added d attached h e k = ([], running_tells d attached h e k, tt)

pub adds_of : {X : Type 0} (d : Declared) (attached : ℕ → Bool) (h : List NodeEntry) (e : Engine) (P : X → List NodeEntry → Type 0) (B : List NodeEntry → Type 0) (r : Result X NodeFault) → ((x : X) (es : List NodeEntry) → r ≡ Ok x → P x es → AreSoundEvents es)
    → ((es : List NodeEntry) → B es → AreSoundEvents es) → Grows P B d attached h e r → AddsSound d h e
adds_of d attached h e P B (Ok x) whole begun (new, running, is) = (new, running_tells d attached (new ++ h) e running, sound_reversed new (whole x (reverse new) refl is))
adds_of d attached h e P B (Err fault) whole begun (new, tells, is, cause) = (new, tells, sound_reversed new (begun (reverse new) is))

pub flow_adds_sound : (d : Declared) (attached : ℕ → Bool) (h : List NodeEntry) (e : Engine) (r : Result FlowEnd NodeFault) → GrowsSound d attached h e r → IsSoundEnd r → AddsSound d h e
flow_adds_sound d attached h e (Ok end) (new, running, is) ends = (new, running_tells d attached (new ++ h) e running, sound_reversed new (is ends))
flow_adds_sound d attached h e (Err fault) (new, tells, is, cause) ends = (new, tells, sound_reversed new is)
