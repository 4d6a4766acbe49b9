-- The message that the newest entry sends.
use Rattle.std.proofs.Common.{◌≡◌, ℕ, ◌+◌, ◌-◌, ◌<◌, ◌≤◌, List, [], ◌∷◌, ◌++◌, inl, inr, refl, sym, ◌∙◌, ap, subst, cond, length, get_or, reverse, arith, length-append}
use Rattle.std.specs.Prelude.{Bool, Some, None, Option}
use Rattle.std.proofs.lemmas.Bool.Decides.{Decides-eqb}
use Rattle.std.proofs.lemmas.List.{get_or_push, reverse-append, reverse-reverse}
use Rattle.pr_inval.specs.declared.msg.Msg.{Msg}
use Rattle.pr_inval.specs.Messages.{IsMessage}
use Rattle.pr_flow.specs.declared.carrying.Carried.{Carried}
use Rattle.pr_flow.specs.Moving.{HasCarried}
use Rattle.pr_node.specs.Stored.{Stored, means}
use Rattle.pr_story.specs.declared.entry.Entry.{Entry}
use Rattle.pr_story.specs.declared.event.Event.{Event}
use Rattle.pr_story.specs.History.{NodeEntry, Sends, journal}
use Rattle.pr_story.specs.Lawful.{HasCause, IsPlaced, Valid}
use Rattle.pr_story.specs.Places.{SendsAt}
use Rattle.pr_story.specs.Turns.{IsAttached}
use Rattle.pr_sim.specs.Flowing.{IsJustSent, IsOnTheWay}
use Rattle.pr_sim.specs.Messages.{IsSentLast, SendsLast}
use Rattle.pr_sim.specs.Running.{IsRunning}
use Rattle.pr_story.specs.Counts.{Declared}
use Rattle.pr_wires.specs.Calls.{WireState}
use Rattle.pr_sim.proofs.Step.{some_is}
use Rattle.pr_sim.specs.declared.engine.Engine.{Engine}

-- ---- in the history

module _ (d : Declared) (attached : ℕ → Bool) (h : List NodeEntry) (e : Engine) (s : ℕ) (m : Msg) (k : IsRunning d attached h e) (just : IsJustSent h s m) where
  valid : Valid d.plan (just.0 ∷ just.1)
  valid = subst (λ (g : List NodeEntry). Valid d.plan g) just.2 k.stands.valid

  pub on_the_way : IsOnTheWay h s m
  on_the_way =
      let cause : IsAttached just.1 m.stream = subst (λ (v : Event). HasCause just.1 just.0.node v) just.3 valid.0.cause in
      subst (λ (g : List NodeEntry). IsOnTheWay g s m) (sym just.2)
      (inl (subst (λ (v : Event). Sends v m) (sym just.3) refl), just.4, inr (subst (λ (t : ℕ). IsAttached just.1 t) just.4 cause))

  pub is_good : IsMessage m
  is_good = k.stands.grammar m on_the_way.0

  -- it is the newest one at its source
  pub stands_last : (n : ℕ) → n ≡ (d.plan.stream s).source → n < length e.nodes.items → IsSentLast e.nodes.items n m
  stands_last n at within =
      let placed : just.0.node ≡ (d.plan.stream m.stream).source = subst (λ (v : Event). IsPlaced d.plan just.1 just.0.node v) just.3 valid.0.placed in
      let here : just.0.node ≡ n = placed ∙ ap (λ (t : ℕ). (d.plan.stream t).source) just.4 ∙ sym at in
      let y = k.stands.nodes.each n within in (
        y.0,
        y.1,
        (just.0.entry, journal just.1 n, y.2.journal_is ∙ ap (λ (g : List NodeEntry). journal g n) just.2 ∙ ap (λ (b : Bool). cond b (just.0.entry ∷ journal just.1 n) (journal just.1 n)) ((Decides-eqb just.0.node n).1 here), just.3),
      )

-- what was carried of a message equal to it, was carried of it
pub carried_as : (a b : WireState) (y m : Msg) (x z : Carried) → y ≡ m → x ≡ z → HasCarried a b y x → HasCarried a b m z
carried_as a b y m x z same is so = subst (λ (v : Msg). HasCarried a b v z) same (subst (λ (v : Carried). HasCarried a b y v) is so)

-- ---- in the node's list of entries, which has its oldest one first

newest_last : (list : List Entry) (j : List Entry) (m : Msg) → reverse list ≡ j → SendsLast j m → SendsAt list (length list - 1) m × (1 ≤ length list)
newest_last list j m is (e, older, first, event) =
    let es : list ≡ reverse older ++ e ∷ [] = sym (reverse-reverse list) ∙ ap (λ (l : List Entry). reverse l) (is ∙ first) ∙ reverse-append (e ∷ []) older in
    let len : length list ≡ length (reverse older) + 1 = ap (λ (l : List Entry). length l) es ∙ length-append (reverse older) (e ∷ []) in
    let here : length (reverse older) ≡ length list - 1 = omega (arith, len) in (
      (
        omega (arith, len),
        λ d. ap (λ (l : List Entry). (get_or l (length list - 1) d).event) es ∙ ap (λ (x : Entry). x.event) (get_or_push (reverse older) e d (length list - 1) here) ∙ event,
      ),
      omega (arith, len),
    )

pub told_last : (nodes : List (Option Stored)) (n : ℕ) (m : Stored) (msg : Msg) (list : List Entry) → get_or nodes n None ≡ Some m → reverse list ≡ (means m).journal → IsSentLast nodes n msg
    → SendsAt list (length list - 1) msg × (1 ≤ length list)
told_last nodes n m msg list was is last =
    let e : last.0 ≡ m = some_is last.0 m (get_or nodes n None) last.1 was in
    newest_last list (means m).journal msg is (subst (λ (y : Stored). SendsLast (means y).journal msg) e last.2)
