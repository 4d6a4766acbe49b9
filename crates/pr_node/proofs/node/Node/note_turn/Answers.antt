use Rattle.std.proofs.Common.{ap, refl, sym, subst, ◌∙◌, ℕ, List, reverse, rules}
use Rattle.std.specs.Prelude.{Bool}
use Rattle.pr_inval.specs.Standing.{means, SessionMeaning}
use Rattle.pr_stamps.specs.Kept.{Kept}
use Rattle.pr_story.specs.Sessions.{HasGoneOn}
use Rattle.pr_story.specs.declared.entry.Entry.{Entry}
use Rattle.pr_node.specs.Scanning.{IsScanOf}
use Rattle.pr_node.specs.Grammar.{IsStepSpelled}
use Rattle.pr_node.specs.Sending.{IsNextTurn, IsTurnOf}
use Rattle.pr_node.specs.Stored.{Stored}
use Rattle.pr_node.proofs.Adding.{stands, adds}
use Rattle.pr_node.proofs.Quiet.{quiet_tied}
use Rattle.pr_node.proofs.Scanning.{scan_turned}
use Rattle.pr_story.specs.Turns.{event_of}
use Rattle.pr_node.proofs.Stepping.{has_gone_on, step_in_range, tied_so, turn_heard, turn_told, turn_of, turn_quiet, turn_ready}
use Rattle.pr_story.specs.declared.event.Event.{Event}
use Rattle.pr_story.specs.declared.event.Event.TheVariants.{Idle}
use Rattle.pr_node.specs.declared.stores.Stores.{Stores}
use Rattle.pr_node.proofs.node.Node.note_turn.Goals as goal

pub invariant_of-self-then-is_idle : goal.invariant_of-self-then-is_idle
invariant_of-self-then-is_idle c =
    stands c.self.inside.id _ _ _ _ _ _ c.self.invariant.0 c.in_ok-time.ensures.items c.finish.ensures.items
    (quiet_tied c.self.inside.id _ _ _ tt (c.self.invariant.1 c.in_ok-time.ensures.worked))

pub returns-then-is_idle-clause-ok : goal.returns-then-is_idle-clause-ok
returns-then-is_idle-clause-ok c needs =
    let n = c.self.inside.id in
    let a : SessionMeaning = means c.args.session.now in
    let j : List Entry = reverse c.self.inside.diary.entries.items in
    let event : Event = Idle c.stream-stream.result in
    let next : IsNextTurn n j a c.in_ok-time.time event = (c.stream-stream.ensures, c.is_idle.ensures c.if-is_idle.true n j (c.self.invariant.1 c.in_ok-time.ensures.worked)) in
    rw (← c.self.view_is) (adds _ _ _ _ _ _ _ _ _ (λ x. a.standing) needs _ c.time.result _ c.in_ok-time.ensures.items c.finish.ensures.items refl c.finish.ensures.spent
    (turn_ready needs n _ _ a _ _ event (search rules) next)
    c.ranges.caller.fits refl c.time.ensures.value c.in_ok-time.ensures.time (
      ap (λ (k : ℕ). Idle k) c.stream-stream.ensures,
      subst (λ (x : Bool). HasGoneOn a (means c.note_idle.new.session) x (record { time = c.in_ok-time.time; caller = c.args.caller; event = event })) c.requires.attached (c.note_idle.ensures c.args.caller c.stream-stream.result),
    ))

pub returns-then-is_idle-clause-scan : goal.returns-then-is_idle-clause-scan
returns-then-is_idle-clause-scan c =
    scan_turned c.args.scan.now (means c.args.session.now) (means c.note_idle.new.session) _ _ c.begin.new.self.entries.items _ (c.note_idle.ensures c.args.caller c.stream-stream.result)
    c.stream-stream.ensures c.finish.ensures.items
    (subst (λ (es : List Entry). IsScanOf c.args.scan.now (means c.args.session.now).standing (reverse es)) (sym c.in_ok-time.ensures.items)
    (subst (λ (s : Stored). IsScanOf c.args.scan.now (means c.args.session.now).standing (reverse s.journal.items)) (sym c.self.view_is) c.requires.scan))

pub invariant_of-self-2 : goal.invariant_of-self-2
invariant_of-self-2 c =
    let n = c.self.inside.id in
    let a : SessionMeaning = means c.args.session.now in
    let event = event_of c.stream-stream.result c.in_ok-step.step in
    let next = subst (λ (k : ℕ). IsNextTurn n (reverse c.self.inside.diary.entries.items) a c.in_ok-time.time (event_of k c.in_ok-step.step)) (sym c.stream-stream.ensures)
    (tied_so n _ _ c.list_names.new.stores (λ j. IsNextTurn n j a c.in_ok-time.time (event_of a.stream c.in_ok-step.step)) (ap (λ (x : Kept Entry). x.items) c.journal-journal.ensures ∙ c.in_ok-time.ensures.items) (c.in_ok-step.ensures.next n) (rw c.list_names.ensures (c.self.invariant.1 c.in_ok-time.ensures.worked))) in
    stands n _ _ _ _ _ _ c.self.invariant.0 c.in_ok-time.ensures.items c.turned.ensures.items
    (quiet_tied n _ _ _ (turn_quiet n _ a c.in_ok-time.time event next) (rw c.list_names.ensures (c.self.invariant.1 c.in_ok-time.ensures.worked)))

pub returns-clause-ok : goal.returns-clause-ok
returns-clause-ok c needs =
    let n = c.self.inside.id in
    let a : SessionMeaning = means c.args.session.now in
    let event = event_of c.stream-stream.result c.in_ok-step.step in
    let next = subst (λ (k : ℕ). IsNextTurn n (reverse c.self.inside.diary.entries.items) a c.in_ok-time.time (event_of k c.in_ok-step.step)) (sym c.stream-stream.ensures)
    (tied_so n _ _ c.list_names.new.stores (λ j. IsNextTurn n j a c.in_ok-time.time (event_of a.stream c.in_ok-step.step)) (ap (λ (x : Kept Entry). x.items) c.journal-journal.ensures ∙ c.in_ok-time.ensures.items) (c.in_ok-step.ensures.next n) (rw c.list_names.ensures (c.self.invariant.1 c.in_ok-time.ensures.worked))) in
    rw (← c.self.view_is) (adds _ _ _ _ _ _ _ _ _ (λ x. a.standing) needs _ c.time.result _ c.in_ok-time.ensures.items c.turned.ensures.items (ap (λ (s : Stores). s.gaps.sets) c.list_names.ensures) c.turned.ensures.spent
    (turn_ready needs n _ _ a _ _ event (step_in_range c.stream-stream.result c.in_ok-step.step (search rules) c.in_ok-step.ensures.range) next)
    c.ranges.caller.fits refl (c.time.ensures.value ∙ turn_heard n _ a c.in_ok-time.time event next) c.in_ok-time.ensures.time (
      turn_told n _ a _ _ c.stream-stream.result c.kind_of-turned.result c.in_ok-step.step (c.kind_of-turned.ensures c.stream-stream.result) c.stream-stream.ensures next
          (tied_so n _ _ c.list_names.new.stores (λ j. IsStepSpelled c.in_ok-step.step) (ap (λ (x : Kept Entry). x.items) c.journal-journal.ensures ∙ c.in_ok-time.ensures.items) (c.in_ok-step.ensures.spelled n) (rw c.list_names.ensures (c.self.invariant.1 c.in_ok-time.ensures.worked))),
      has_gone_on a (means c.next_turn.new.session) (means c.note.new.session) _ c.in_ok-step.ensures.same c.requires.attached (c.note.ensures c.args.caller c.stream-stream.result (c.stream-stream.ensures ∙ sym c.in_ok-step.ensures.same.stream)),
    ))

pub returns-in_err-step-clause-scan : goal.returns-in_err-step-clause-scan
returns-in_err-step-clause-scan c =
    subst (λ (es : List Entry). IsScanOf c.next_turn.new.scan (means c.next_turn.new.session).standing (reverse es)) (sym c.in_ok-time.ensures.items)
    (tied_so c.self.inside.id _ _ c.list_names.new.stores (λ j. IsScanOf c.next_turn.new.scan (means c.next_turn.new.session).standing j) (ap (λ (x : Kept Entry). x.items) c.journal-journal.ensures ∙ c.in_ok-time.ensures.items) (c.next_turn.ensures.scan c.self.inside.id) (rw c.list_names.ensures (c.self.invariant.1 c.in_ok-time.ensures.worked)))

pub returns-clause-scan : goal.returns-clause-scan
returns-clause-scan c =
    let n = c.self.inside.id in
    let a : SessionMeaning = means c.args.session.now in
    let event = event_of c.stream-stream.result c.in_ok-step.step in
    let next = subst (λ (k : ℕ). IsNextTurn n (reverse c.self.inside.diary.entries.items) a c.in_ok-time.time (event_of k c.in_ok-step.step)) (sym c.stream-stream.ensures)
    (tied_so n _ _ c.list_names.new.stores (λ j. IsNextTurn n j a c.in_ok-time.time (event_of a.stream c.in_ok-step.step)) (ap (λ (x : Kept Entry). x.items) c.journal-journal.ensures ∙ c.in_ok-time.ensures.items) (c.in_ok-step.ensures.next n) (rw c.list_names.ensures (c.self.invariant.1 c.in_ok-time.ensures.worked))) in
    scan_turned c.next_turn.new.scan (means c.next_turn.new.session) (means c.note.new.session) _ _ c.begin.new.self.entries.items _ (c.note.ensures c.args.caller c.stream-stream.result (c.stream-stream.ensures ∙ sym c.in_ok-step.ensures.same.stream))
    (subst (λ k. IsTurnOf k event) (sym c.in_ok-step.ensures.same.stream) (turn_of n _ a c.in_ok-time.time event next)) c.turned.ensures.items
    (subst (λ (es : List Entry). IsScanOf c.next_turn.new.scan (means c.next_turn.new.session).standing (reverse es)) (sym c.in_ok-time.ensures.items)
    (tied_so c.self.inside.id _ _ c.list_names.new.stores (λ j. IsScanOf c.next_turn.new.scan (means c.next_turn.new.session).standing j) (ap (λ (x : Kept Entry). x.items) c.journal-journal.ensures ∙ c.in_ok-time.ensures.items) (c.next_turn.ensures.scan c.self.inside.id) (rw c.list_names.ensures (c.self.invariant.1 c.in_ok-time.ensures.worked))))
