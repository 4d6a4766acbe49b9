-- The script alone determines the history of one thread.
use Rattle.std.proofs.Common.{◌≡◌, ℕ, ◌≤◌, ◌-◌, ◌⊎◌, inl, inr, List, [], ◌∷◌, ◌++◌, refl, sym, ◌∙◌, ap, subst, arith, zero, suc, reverse}
use Rattle.std.specs.Prelude.{Some, None, Bool, false, filter}
use Rattle.std.proofs.lemmas.List.{reverse-reverse, reverse-append}
use Rattle.pr_inval.specs.declared.msg.Msg.{Msg}
use Rattle.pr_story.specs.declared.cause.Cause.TheVariants.{Failed, Gap}
use Rattle.pr_story.specs.declared.event.Event.{Event}
use Rattle.pr_story.specs.declared.event.Event.TheVariants.{Attached, Sent, Idle, Stale, Accepted, Gapped, Down}
use Rattle.pr_story.specs.History.{Plan, NodeEntry}
use Rattle.pr_story.specs.Commands.{Command, ToAttach, ToSend, ToCheckpoint, ToDeliver, ToEnd, Gives, IsCheckpoint, IsNoCheckpoint}
use Rattle.pr_story.specs.Scripts.{Job, ClientJob, FlowJob, Line, Single, Expect, Detach, Flow, Settle, Phase, attached_after, AreTurns, IsFlow, AreAttaches, AreSettled, AreRound, AreRounds, HasSent, IsSettle, events_of, AreOfCommands, JobGives, JobAfterJob, LineGives, AreOfLines}
use Rattle.pr_story.specs.Lawful.{IsLawful, Valid}
use Rattle.pr_story.specs.OneThread.{IsByNoWire, IsUndisturbed}
use Rattle.pr_story.proofs.Commands.{one_event, node_is}
use Rattle.pr_story.proofs.Settling.{after, after_append, after_reversed, valid_before, parts}
use Rattle.pr_story.proofs.Steps.{entry_at}
use Rattle.pr_story.specs.Statements.{ScriptDetermines}
use Rattle.pr_story.proofs.JobAfterJob.{AreOfJobs, phase_apart}

-- ---- one entry

one_entry : (plan : Plan) (h : List NodeEntry) (e f : NodeEntry) (command : Command) → Valid plan (e ∷ h) → Valid plan (f ∷ h) → e.entry.caller ≡ f.entry.caller → Gives command e.node e.entry.event → Gives command f.node f.entry.event → e ≡ f
one_entry plan h e f command v w callers p q =
    let node : e.node ≡ f.node = node_is plan h command e.node e.entry.event v.0.placed p ∙ sym (node_is plan h command f.node f.entry.event w.0.placed q) in
    let k : IsLawful plan h (entry_at f.node f.entry.time f.entry.caller f.entry.event) = w.0 in
    let here : IsLawful plan h (entry_at e.node f.entry.time f.entry.caller f.entry.event) = subst (λ (z : ℕ). IsLawful plan h (entry_at z f.entry.time f.entry.caller f.entry.event)) (sym node) k in
    let gives : Gives command e.node f.entry.event = subst (λ (z : ℕ). Gives command z f.entry.event) (sym node) q in
    let same : (e.entry.time ≡ f.entry.time) × (e.entry.event ≡ f.entry.event) = one_event plan h v.1 e.node e.entry.time f.entry.time e.entry.caller f.entry.caller command e.entry.event f.entry.event v.0 here p gives in
    ap (λ (z : ℕ). entry_at z e.entry.time e.entry.caller e.entry.event) node
    ∙ ap (λ (z : ℕ). entry_at f.node z e.entry.caller e.entry.event) same.0
    ∙ ap (λ (z : ℕ). entry_at f.node f.entry.time z e.entry.event) callers
    ∙ ap (λ (z : Event). entry_at f.node f.entry.time f.entry.caller z) same.1

-- ---- lists without a wire's fault

undisturbed_left : (c : ℕ) (a b : List NodeEntry) → IsUndisturbed c (a ++ b) → IsUndisturbed c a
undisturbed_left c [] b u = tt
undisturbed_left c (e ∷ a) b u = (u.0, undisturbed_left c a b u.1)

undisturbed_right : (c : ℕ) (a b : List NodeEntry) → IsUndisturbed c (a ++ b) → IsUndisturbed c b
undisturbed_right c [] b u = u
undisturbed_right c (e ∷ a) b u = undisturbed_right c a b u.1

undisturbed_append : (c : ℕ) (a b : List NodeEntry) → IsUndisturbed c a → IsUndisturbed c b → IsUndisturbed c (a ++ b)
undisturbed_append c [] b u v = v
undisturbed_append c (e ∷ a) b u v = (u.0, undisturbed_append c a b u.1 v)

undisturbed_reverse : (c : ℕ) (a : List NodeEntry) → IsUndisturbed c a → IsUndisturbed c (reverse a)
undisturbed_reverse c [] u = tt
undisturbed_reverse c (e ∷ a) u = subst (λ (x : List NodeEntry). IsUndisturbed c x) (sym (reverse-append (e ∷ []) a)) (undisturbed_append c (reverse a) (e ∷ []) (undisturbed_reverse c a u.1) (u.0, tt))

-- ---- machines: what comes next is one command's

module _ (plan : Plan) (c : ℕ) where
  -- of two continuations of one history that fit, there is one
  abbrev IsFixed : (List NodeEntry → Type 0) → Type 0
  IsFixed P = (h es fs : List NodeEntry) → Valid plan (after h es) → Valid plan (after h fs) → IsUndisturbed c es → IsUndisturbed c fs → P es → P fs → es ≡ fs

  module _ (X : Type 0) (Fits : X → List NodeEntry → Type 0) (command : X → Command)
      (gives : (x : X) (n time caller : ℕ) (event : Event) (rest : List NodeEntry) → IsByNoWire event → Fits x (entry_at n time caller event ∷ rest) → Gives (command x) n event)
      (next : (x : X) (n time caller : ℕ) (event : Event) (rest other : List NodeEntry) → IsByNoWire event → Fits x (entry_at n time caller event ∷ rest) → Fits x (entry_at n time caller event ∷ other) → ((rest ≡ []) × (other ≡ [])) ⊎ ((y : X) × Fits y rest × Fits y other))
      (ends : (x : X) (n time caller : ℕ) (event : Event) (rest : List NodeEntry) → Fits x [] → Fits x (entry_at n time caller event ∷ rest) → ⊥) where
    machine : (x : X) (h es fs : List NodeEntry) → Valid plan (after h es) → Valid plan (after h fs) → IsUndisturbed c es → IsUndisturbed c fs → Fits x es → Fits x fs → es ≡ fs
    machine x h [] [] v w u t p q = refl
    machine x h [] (f ∷ fs) v w u t p q = absurd (ends x f.node f.entry.time f.entry.caller f.entry.event fs p q)
    machine x h (e ∷ es) [] v w u t p q = absurd (ends x e.node e.entry.time e.entry.caller e.entry.event es q p)
    machine x h (e ∷ es) (f ∷ fs) v w u t p q =
        let same : e ≡ f = one_entry plan h e f (command x) (valid_before plan (e ∷ h) es v) (valid_before plan (f ∷ h) fs w) (u.0.0 ∙ sym t.0.0)
        (gives x e.node e.entry.time e.entry.caller e.entry.event es u.0.1 p) (gives x f.node f.entry.time f.entry.caller f.entry.event fs t.0.1 q) in
        let w2 : Valid plan (after (e ∷ h) fs) = subst (λ (z : NodeEntry). Valid plan (after (z ∷ h) fs)) (sym same) w in
        let q2 : Fits x (e ∷ fs) = subst (λ (z : NodeEntry). Fits x (z ∷ fs)) (sym same) q in
        let rest : es ≡ fs = elim (next x e.node e.entry.time e.entry.caller e.entry.event es fs u.0.1 p q2) [
          | inl over ↦ over.0 ∙ sym over.1
          | inr more ↦ machine more.0 (e ∷ h) es fs v w2 u.1 t.1 more.1 more.2
        ] in
        ap (λ (z : NodeEntry). z ∷ es) same ∙ ap (λ (z : List NodeEntry). f ∷ z) rest

  -- one after another
  both_fixed : (P Q : List NodeEntry → Type 0) → IsFixed P → IsFixed Q → (h es fs a b x y : List NodeEntry) → Valid plan (after h es) → Valid plan (after h fs) → IsUndisturbed c es → IsUndisturbed c fs
      → es ≡ a ++ b → fs ≡ x ++ y → P a → Q b → P x → Q y → es ≡ fs
  both_fixed P Q one two h es fs a b x y v w u t p q pa qb px qy =
      let va : Valid plan (after (after h a) b) = subst (λ (z : List NodeEntry). Valid plan z) (ap (λ (z : List NodeEntry). after h z) p ∙ after_append h a b) v in
      let wx : Valid plan (after (after h x) y) = subst (λ (z : List NodeEntry). Valid plan z) (ap (λ (z : List NodeEntry). after h z) q ∙ after_append h x y) w in
      let ua : IsUndisturbed c (a ++ b) = subst (λ (z : List NodeEntry). IsUndisturbed c z) p u in
      let tx : IsUndisturbed c (x ++ y) = subst (λ (z : List NodeEntry). IsUndisturbed c z) q t in
      let first : a ≡ x = one h a x (valid_before plan (after h a) b va) (valid_before plan (after h x) y wx) (undisturbed_left c a b ua) (undisturbed_left c x y tx) pa px in
      let wa : Valid plan (after (after h a) y) = subst (λ (z : List NodeEntry). Valid plan (after (after h z) y)) (sym first) wx in
      let rest : b ≡ y = two (after h a) b y va wa (undisturbed_right c a b ua) (undisturbed_right c x y tx) qb qy in
      p ∙ ap (λ (z : List NodeEntry). z ++ b) first ∙ ap (λ (z : List NodeEntry). x ++ z) rest ∙ sym q

  empty_fixed : IsFixed (λ es. es ≡ [])
  empty_fixed h es fs v w u t p q = p ∙ sym q

  -- ---- commands

  abbrev first_command : List Command → Command
  first_command [] = ToAttach 0
  first_command (command ∷ commands) = command

  commands_fixed : (commands : List Command) → IsFixed (AreOfCommands commands)
  commands_fixed commands h es fs v w u t p q = machine (List Command) AreOfCommands first_command gives next ends commands h es fs v w u t p q
    where
      gives : (x : List Command) (n time caller : ℕ) (event : Event) (rest : List NodeEntry) → IsByNoWire event → AreOfCommands x (entry_at n time caller event ∷ rest) → Gives (first_command x) n event
      gives [] n time caller event rest k a = absurd (cc)
      gives (command ∷ commands) n time caller event rest k a = a.0

      next : (x : List Command) (n time caller : ℕ) (event : Event) (rest other : List NodeEntry) → IsByNoWire event → AreOfCommands x (entry_at n time caller event ∷ rest) → AreOfCommands x (entry_at n time caller event ∷ other) → ((rest ≡ []) × (other ≡ [])) ⊎ ((y : List Command) × AreOfCommands y rest × AreOfCommands y other)
      next [] n time caller event rest other k a b = absurd (cc)
      next (command ∷ commands) n time caller event rest other k a b = inr (commands, a.1, b.1)

      ends : (x : List Command) (n time caller : ℕ) (event : Event) (rest : List NodeEntry) → AreOfCommands x [] → AreOfCommands x (entry_at n time caller event ∷ rest) → ⊥
      ends [] n time caller event rest a b = cc
      ends (command ∷ commands) n time caller event rest a b = a

  -- ---- flows

  module _ (s : ℕ) where
    data FlowAt : Type 0 where
      Turning : ℕ → FlowAt
      Taking : ℕ → Msg → FlowAt
      Ending : FlowAt

    abbrev FlowFits : FlowAt → List Event → Type 0
    FlowFits (Turning turns) events = AreTurns s None turns events
    FlowFits (Taking turns msg) events = AreTurns s (Some msg) turns events
    FlowFits Ending events = events ≡ Down s Gap ∷ []

    abbrev flow_command : FlowAt → Command
    flow_command (Turning turns) = ToSend s
    flow_command (Taking turns msg) = ToDeliver msg.stream msg.number
    flow_command Ending = ToEnd s Gap

    down_given : (n : ℕ) (event : Event) → event ≡ Down s Gap → Gives (ToEnd s Gap) n event
    down_given n event e = subst (λ (x : Event). Gives (ToEnd s Gap) n x) (sym e) (refl, refl)

    flow_gives : (x : FlowAt) (n : ℕ) (event : Event) (rest : List Event) → IsByNoWire event → FlowFits x (event ∷ rest) → Gives (flow_command x) n event
    flow_gives (Turning turns) n (Idle t) rest k a = a.1
    flow_gives (Turning turns) n (Stale t cut) rest k a = a.1
    flow_gives (Turning turns) n (Sent msg) rest k a = (a.1, a.2)
    flow_gives (Turning turns) n _ rest k a = absurd a
    flow_gives (Taking turns m) n (Accepted msg at) rest k a = (ap (λ (x : Msg). x.stream) a.0, ap (λ (x : Msg). x.number) a.0)
    flow_gives (Taking turns m) n (Gapped msg has) rest k a = (ap (λ (x : Msg). x.stream) a.0, ap (λ (x : Msg). x.number) a.0)
    flow_gives (Taking turns m) n (Down t cause) rest k a = absurd (a.1 k)
    flow_gives (Taking turns m) n _ rest k a = absurd a
    flow_gives Ending n event rest k a = down_given n event (cc)

    flow_next : (x : FlowAt) (event : Event) (rest other : List Event) → IsByNoWire event → FlowFits x (event ∷ rest) → FlowFits x (event ∷ other) → ((rest ≡ []) × (other ≡ [])) ⊎ ((y : FlowAt) × FlowFits y rest × FlowFits y other)
    flow_next (Turning turns) (Idle t) rest other k a b = inr (Turning (turns - 1), a.2, b.2)
    flow_next (Turning turns) (Stale t cut) rest other k a b = inl (a.2, b.2)
    flow_next (Turning turns) (Sent msg) rest other k a b = inr (Taking (turns - 1) msg, a.3, b.3)
    flow_next (Turning turns) _ rest other k a b = absurd a
    flow_next (Taking turns m) (Accepted msg at) rest other k a b = inr (Turning turns, a.1, b.1)
    flow_next (Taking turns m) (Gapped msg has) rest other k a b = inr (Ending, a.1, b.1)
    flow_next (Taking turns m) (Down t cause) rest other k a b = absurd (a.1 k)
    flow_next (Taking turns m) _ rest other k a b = absurd a
    flow_next Ending event rest other k a b = inl (cc, cc)

    flow_ends : (x : FlowAt) (event : Event) (rest : List Event) → FlowFits x [] → FlowFits x (event ∷ rest) → ⊥
    flow_ends (Turning turns) (Idle t) rest a b = let z : turns ≡ 0 = a in let o : 1 ≤ turns = b.0 in omega arith
    flow_ends (Turning turns) (Stale t cut) rest a b = let z : turns ≡ 0 = a in let o : 1 ≤ turns = b.0 in omega arith
    flow_ends (Turning turns) (Sent msg) rest a b = let z : turns ≡ 0 = a in let o : 1 ≤ turns = b.0 in omega arith
    flow_ends (Turning turns) _ rest a b = b
    flow_ends (Taking turns m) event rest a b = a
    flow_ends Ending event rest a b = cc

    none_left : (es : List NodeEntry) → events_of es ≡ [] → es ≡ []
    none_left [] e = refl
    none_left (x ∷ es) e = absurd (cc)

    events_next : (X : Type 0) (Fits : X → List Event → Type 0) (rest other : List NodeEntry)
        → ((events_of rest ≡ []) × (events_of other ≡ [])) ⊎ ((y : X) × Fits y (events_of rest) × Fits y (events_of other))
        → ((rest ≡ []) × (other ≡ [])) ⊎ ((y : X) × Fits y (events_of rest) × Fits y (events_of other))
    events_next X Fits rest other n = elim n [ inl over ↦ inl (none_left rest over.0, none_left other over.1) | inr more ↦ inr more ]

    turns_fixed : (turns : ℕ) → IsFixed (λ es. AreTurns s None turns (events_of es))
    turns_fixed turns h es fs v w u t p q = machine FlowAt (λ x es. FlowFits x (events_of es)) flow_command
        (λ x n time caller event rest k a. flow_gives x n event (events_of rest) k a)
        (λ x n time caller event rest other k a b. events_next FlowAt FlowFits rest other (flow_next x event (events_of rest) (events_of other) k a b))
        (λ x n time caller event rest a b. flow_ends x event (events_of rest) a b)
        (Turning turns) h es fs v w u t p q

    not_failed : (es : List NodeEntry) → IsUndisturbed c es → events_of es ≡ Down s Failed ∷ [] → ⊥
    not_failed [] u e = cc
    not_failed (x ∷ es) u e =
        let head : x.entry.event ≡ Down s Failed = cc in
        let gap : Failed ≡ Gap = subst (λ (y : Event). IsByNoWire y) head u.0.1 in
        cc

    flow_fixed : (turns : ℕ) → IsFixed (λ es. IsFlow s turns (events_of es))
    flow_fixed turns h es fs v w u t p q = elim p [
      | inr failed ↦ absurd (not_failed es u failed)
      | inl a ↦ elim q [
        | inr failed ↦ absurd (not_failed fs t failed)
        | inl b ↦ turns_fixed turns h es fs v w u t a b
      ]
    ]

    -- ---- the turns of a settle

    data SettleAt : Type 0 where
      AtTurn : SettleAt
      AtStale : SettleAt
      AtTaking : Msg → SettleAt

    abbrev SettleFits : SettleAt → List Event → Type 0
    SettleFits AtTurn (Idle t ∷ events) = (t ≡ s) × (events ≡ [])
    SettleFits AtTurn (Sent msg ∷ events) = (msg.stream ≡ s) × IsNoCheckpoint msg.kind × SettleFits (AtTaking msg) events
    SettleFits AtTurn (Stale t cut ∷ events) = (t ≡ s) × SettleFits AtStale events
    SettleFits AtStale (Sent msg ∷ events) = (msg.stream ≡ s) × IsCheckpoint msg.kind × SettleFits (AtTaking msg) events
    SettleFits (AtTaking m) (Accepted msg at ∷ events) = (msg ≡ m) × SettleFits AtTurn events
    SettleFits x _ = ⊥

    abbrev settle_command : SettleAt → Command
    settle_command AtTurn = ToSend s
    settle_command AtStale = ToCheckpoint s
    settle_command (AtTaking msg) = ToDeliver msg.stream msg.number

    settled_fits : (events : List Event) → AreSettled s events → SettleFits AtTurn events
    settled_fits (Idle t ∷ []) a = (a, refl)
    settled_fits (Sent msg ∷ (Accepted taken at ∷ events)) a = (a.0, a.1, (a.2, settled_fits events a.3))
    settled_fits (Stale t cut ∷ (Sent msg ∷ (Accepted taken at ∷ events))) a = (a.0, (a.1, a.2, (a.3, settled_fits events a.4)))
    settled_fits _ a = absurd a

    settle_gives : (x : SettleAt) (n : ℕ) (event : Event) (rest : List Event) → SettleFits x (event ∷ rest) → Gives (settle_command x) n event
    settle_gives AtTurn n (Idle t) rest a = a.0
    settle_gives AtTurn n (Sent msg) rest a = (a.0, a.1)
    settle_gives AtTurn n (Stale t cut) rest a = a.0
    settle_gives AtTurn n _ rest a = absurd a
    settle_gives AtStale n (Sent msg) rest a = (a.0, a.1)
    settle_gives AtStale n _ rest a = absurd a
    settle_gives (AtTaking m) n (Accepted msg at) rest a = (ap (λ (x : Msg). x.stream) a.0, ap (λ (x : Msg). x.number) a.0)
    settle_gives (AtTaking m) n _ rest a = absurd a

    settle_next : (x : SettleAt) (event : Event) (rest other : List Event) → SettleFits x (event ∷ rest) → SettleFits x (event ∷ other) → ((rest ≡ []) × (other ≡ [])) ⊎ ((y : SettleAt) × SettleFits y rest × SettleFits y other)
    settle_next AtTurn (Idle t) rest other a b = inl (a.1, b.1)
    settle_next AtTurn (Sent msg) rest other a b = inr (AtTaking msg, a.2, b.2)
    settle_next AtTurn (Stale t cut) rest other a b = inr (AtStale, a.1, b.1)
    settle_next AtTurn _ rest other a b = absurd a
    settle_next AtStale (Sent msg) rest other a b = inr (AtTaking msg, a.2, b.2)
    settle_next AtStale _ rest other a b = absurd a
    settle_next (AtTaking m) (Accepted msg at) rest other a b = inr (AtTurn, a.1, b.1)
    settle_next (AtTaking m) _ rest other a b = absurd a

    settle_ends : (x : SettleAt) → SettleFits x [] → ⊥
    settle_ends AtTurn a = a
    settle_ends AtStale a = a
    settle_ends (AtTaking m) a = a

    settled_fixed : IsFixed (λ es. AreSettled s (events_of es))
    settled_fixed h es fs v w u t p q = machine SettleAt (λ x es. SettleFits x (events_of es)) settle_command
        (λ x n time caller event rest k a. settle_gives x n event (events_of rest) a)
        (λ x n time caller event rest other k a b. events_next SettleAt SettleFits rest other (settle_next x event (events_of rest) (events_of other) a b))
        (λ x n time caller event rest a b. settle_ends x a)
        AtTurn h es fs v w u t (settled_fits (events_of es) p) (settled_fits (events_of fs) q)

  abbrev first_attach : List ℕ → Command
  first_attach [] = ToAttach 0
  first_attach (s ∷ streams) = ToAttach s

  attach_gives : (x : List ℕ) (n : ℕ) (event : Event) (rest : List Event) → AreAttaches x (event ∷ rest) → Gives (first_attach x) n event
  attach_gives [] n event rest a = absurd (cc)
  attach_gives (s ∷ streams) n (Attached t at) rest a = a.0
  attach_gives (s ∷ streams) n _ rest a = absurd a

  attach_next : (x : List ℕ) (event : Event) (rest other : List Event) → AreAttaches x (event ∷ rest) → AreAttaches x (event ∷ other) → ((rest ≡ []) × (other ≡ [])) ⊎ ((y : List ℕ) × AreAttaches y rest × AreAttaches y other)
  attach_next [] event rest other a b = absurd (cc)
  attach_next (s ∷ streams) (Attached t at) rest other a b = inr (streams, a.1, b.1)
  attach_next (s ∷ streams) _ rest other a b = absurd a

  attach_ends : (x : List ℕ) (event : Event) (rest : List Event) → AreAttaches x [] → AreAttaches x (event ∷ rest) → ⊥
  attach_ends [] event rest a b = cc
  attach_ends (s ∷ streams) event rest a b = a

  attaches_fixed : (streams : List ℕ) → IsFixed (λ es. AreAttaches streams (events_of es))
  attaches_fixed streams h es fs v w u t p q = machine (List ℕ) (λ x es. AreAttaches x (events_of es)) first_attach
      (λ x n time caller event rest k a. attach_gives x n event (events_of rest) a)
      (λ x n time caller event rest other k a b. events_next 0 (List ℕ) AreAttaches rest other (attach_next x event (events_of rest) (events_of other) a b))
      (λ x n time caller event rest a b. attach_ends x event (events_of rest) a b)
      streams h es fs v w u t p q

  -- ---- rounds

  round_fixed : (streams : List ℕ) → IsFixed (λ es. AreRound streams (events_of es))
  round_fixed [] h es fs v w u t p q = none_left 0 es p ∙ sym (none_left 0 fs q)
  round_fixed (s ∷ streams) h es fs v w u t p q =
      let a = parts es p.0 p.1 p.2 in
      let b = parts fs q.0 q.1 q.2 in
      both_fixed (λ x. AreSettled s (events_of x)) (λ x. AreRound streams (events_of x)) (settled_fixed s) (round_fixed streams) h es fs a.0 a.1 b.0 b.1 v w u t a.2 b.2
      (subst (λ (x : List Event). AreSettled s x) (sym a.3) p.3) (subst (λ (x : List Event). AreRound streams x) (sym a.4) p.4)
      (subst (λ (x : List Event). AreSettled s x) (sym b.3) q.3) (subst (λ (x : List Event). AreRound streams x) (sym b.4) q.4)

  -- a round that is all and one that is followed by others are not of one history
  ends_or_not : (streams : List ℕ) (h es fs a b : List NodeEntry) → Valid plan (after h es) → Valid plan (after h fs) → IsUndisturbed c es → IsUndisturbed c fs → AreRound streams (events_of es) → (HasSent (events_of es) → ⊥)
      → fs ≡ a ++ b → AreRound streams (events_of a) → HasSent (events_of a) → ⊥
  ends_or_not streams h es fs a b v w u t p none e q some =
      let wa : Valid plan (after (after h a) b) = subst (λ (z : List NodeEntry). Valid plan z) (ap (λ (z : List NodeEntry). after h z) e ∙ after_append h a b) w in
      let ta : IsUndisturbed c (a ++ b) = subst (λ (z : List NodeEntry). IsUndisturbed c z) e t in
      let same : es ≡ a = round_fixed streams h es a v (valid_before plan (after h a) b wa) u (undisturbed_left c a b ta) p q in
      none (subst (λ (z : List NodeEntry). HasSent (events_of z)) (sym same) some)

  rounds_fixed : (streams : List ℕ) (m k : ℕ) (h es fs : List NodeEntry) → Valid plan (after h es) → Valid plan (after h fs) → IsUndisturbed c es → IsUndisturbed c fs → AreRounds streams m (events_of es) → AreRounds streams k (events_of fs) → es ≡ fs
  rounds_fixed streams zero zero h es fs v w u t p q = round_fixed streams h es fs v w u t p.0 q.0
  rounds_fixed streams zero (suc k) h es fs v w u t p q =
      let b = parts fs q.0 q.1 q.2 in
      absurd (ends_or_not streams h es fs b.0 b.1 v w u t p.0 p.1 b.2 (subst (λ (x : List Event). AreRound streams x) (sym b.3) q.3) (subst (λ (x : List Event). HasSent x) (sym b.3) q.4))
  rounds_fixed streams (suc m) zero h es fs v w u t p q =
      let a = parts es p.0 p.1 p.2 in
      absurd (ends_or_not streams h fs es a.0 a.1 w v t u q.0 q.1 a.2 (subst (λ (x : List Event). AreRound streams x) (sym a.3) p.3) (subst (λ (x : List Event). HasSent x) (sym a.3) p.4))
  rounds_fixed streams (suc m) (suc k) h es fs v w u t p q =
      let a = parts es p.0 p.1 p.2 in
      let b = parts fs q.0 q.1 q.2 in
      let va : Valid plan (after (after h a.0) a.1) = subst (λ (z : List NodeEntry). Valid plan z) (ap (λ (z : List NodeEntry). after h z) a.2 ∙ after_append h a.0 a.1) v in
      let wb : Valid plan (after (after h b.0) b.1) = subst (λ (z : List NodeEntry). Valid plan z) (ap (λ (z : List NodeEntry). after h z) b.2 ∙ after_append h b.0 b.1) w in
      let ua : IsUndisturbed c (a.0 ++ a.1) = subst (λ (z : List NodeEntry). IsUndisturbed c z) a.2 u in
      let tb : IsUndisturbed c (b.0 ++ b.1) = subst (λ (z : List NodeEntry). IsUndisturbed c z) b.2 t in
      let first : a.0 ≡ b.0 = round_fixed streams h a.0 b.0 (valid_before plan (after h a.0) a.1 va) (valid_before plan (after h b.0) b.1 wb) (undisturbed_left c a.0 a.1 ua) (undisturbed_left c b.0 b.1 tb)
      (subst (λ (x : List Event). AreRound streams x) (sym a.3) p.3) (subst (λ (x : List Event). AreRound streams x) (sym b.3) q.3) in
      let wa : Valid plan (after (after h a.0) b.1) = subst (λ (z : List NodeEntry). Valid plan (after (after h z) b.1)) (sym first) wb in
      let rest : a.1 ≡ b.1 = rounds_fixed streams m k (after h a.0) a.1 b.1 va wa (undisturbed_right c a.0 a.1 ua) (undisturbed_right c b.0 b.1 tb)
      (subst (λ (x : List Event). AreRounds streams m x) (sym a.4) p.5) (subst (λ (x : List Event). AreRounds streams k x) (sym b.4) q.5) in
      a.2 ∙ ap (λ (z : List NodeEntry). z ++ a.1) first ∙ ap (λ (z : List NodeEntry). b.0 ++ z) rest ∙ sym b.2

  abbrev SomeRounds : List ℕ → List NodeEntry → Type 0
  SomeRounds streams es = (k : ℕ) × AreRounds streams k (events_of es)

  settle_fixed : (streams : List ℕ) → IsFixed (λ es. IsSettle streams (events_of es))
  settle_fixed streams h es fs v w u t p q =
      let a = parts es p.0 p.1 p.3 in
      let b = parts fs q.0 q.1 q.3 in
      both_fixed (λ x. AreAttaches streams (events_of x)) (SomeRounds streams) (attaches_fixed streams)
      (λ g x y v w u t m n. rounds_fixed streams m.0 n.0 g x y v w u t m.1 n.1)
      h es fs a.0 a.1 b.0 b.1 v w u t a.2 b.2
      (subst (λ (x : List Event). AreAttaches streams x) (sym a.3) p.4) (p.2, subst (λ (x : List Event). AreRounds streams p.2 x) (sym a.4) p.5)
      (subst (λ (x : List Event). AreAttaches streams x) (sym b.3) q.4) (q.2, subst (λ (x : List Event). AreRounds streams q.2 x) (sym b.4) q.5)

-- ---- jobs, lines and scripts

module _ (plan : Plan) (c : ℕ) where
  job_fixed : (job : Job) → IsFixed plan c (JobGives job)
  job_fixed (ClientJob commands) = commands_fixed plan c commands
  job_fixed (FlowJob s turns) = flow_fixed plan c s turns

  jobs_fixed : (jobs : List Job) → IsFixed plan c (AreOfJobs JobGives jobs)
  jobs_fixed [] h es fs v w u t p q = p ∙ sym q
  jobs_fixed (job ∷ jobs) h es fs v w u t p q =
      both_fixed plan c (JobGives job) (AreOfJobs JobGives jobs) (job_fixed job) (jobs_fixed jobs) h es fs p.0 p.1 q.0 q.1 v w u t p.2 q.2 p.3 p.4 q.3 q.4

  line_fixed : (attached : List ℕ) (line : Line) → IsFixed plan c (LineGives JobAfterJob attached line)
  line_fixed attached (Single command) = commands_fixed plan c (command ∷ [])
  line_fixed attached Expect = empty_fixed plan c
  line_fixed attached (Detach s) = empty_fixed plan c
  line_fixed attached (Flow s turns) = flow_fixed plan c s turns
  line_fixed attached Settle = settle_fixed plan c attached
  line_fixed attached (Phase jobs) = λ h es fs v w u t p q. jobs_fixed jobs h es fs v w u t (phase_apart JobGives jobs es p) (phase_apart JobGives jobs fs q)

  lines_fixed : (streams : List ℕ) (attached : ℕ → Bool) (lines : List Line) → IsFixed plan c (AreOfLines JobAfterJob streams attached lines)
  lines_fixed streams attached [] h es fs v w u t p q = p ∙ sym q
  lines_fixed streams attached (line ∷ lines) h es fs v w u t p q =
      both_fixed plan c (LineGives JobAfterJob (filter attached streams) line) (AreOfLines JobAfterJob streams (attached_after line attached) lines) (line_fixed (filter attached streams) line) (lines_fixed streams (attached_after line attached) lines)
      h es fs p.0 p.1 q.0 q.1 v w u t p.2 q.2 p.3 p.4 q.3 q.4

append_none : (xs : List NodeEntry) → xs ++ [] ≡ xs
append_none [] = refl
append_none (x ∷ xs) = ap (λ (z : List NodeEntry). x ∷ z) (append_none xs)

pub script_determines : ScriptDetermines
script_determines plan streams lines c h g v w u t p q =
    let back : (k : List NodeEntry) → after [] (reverse k) ≡ k = λ k. after_reversed [] (reverse k) ∙ append_none (reverse (reverse k)) ∙ reverse-reverse k in
    let same : reverse h ≡ reverse g = lines_fixed plan c streams (λ s. false) lines [] (reverse h) (reverse g)
    (subst (λ (k : List NodeEntry). Valid plan k) (sym (back h)) v) (subst (λ (k : List NodeEntry). Valid plan k) (sym (back g)) w)
    (undisturbed_reverse c h u) (undisturbed_reverse c g t) p q in
    sym (reverse-reverse h) ∙ ap (λ (k : List NodeEntry). reverse k) same ∙ reverse-reverse g
