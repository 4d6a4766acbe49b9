-- What a settle tells.
use Rattle.std.proofs.Common.{◌≡◌, ℕ, ◌<◌, ◌≤◌, ◌⊎◌, inl, inr, List, [], ◌∷◌, ◌++◌, refl, sym, ◌∙◌, ap, subst, arith, max, cond, nat_eq, reverse}
use Rattle.std.specs.Prelude.{Some, None, Option, Bool, true, false, IsTrue, Contains}
use Rattle.std.proofs.lemmas.Bool.Decides.{nat_tests, Decides-eqb}
use Rattle.std.proofs.lemmas.List.{reverse-reverse, reverse-append}
use Rattle.pr_stamps.specs.Point.{Point}
use Rattle.pr_vectors.specs.Vector.{clock_of, Covers, join_of, zero_vector}
use Rattle.pr_vectors.proofs.Vectors.{length-vector_of}
use Rattle.pr_sets.specs.Spans.{has, Meet, Within}
use Rattle.pr_names.specs.Name.{IsName}
use Rattle.pr_names.specs.Span.{Span}
use Rattle.pr_inval.specs.declared.kind.Kind.{Kind}
use Rattle.pr_inval.specs.declared.kind.Kind.TheVariants.{Precise, Imprecise, Checkpoint, Body}
use Rattle.pr_inval.specs.declared.msg.Msg.{Msg}
use Rattle.pr_inval.specs.Points.{to_of, CoversPoint, is_invalidation}
use Rattle.pr_story.specs.declared.entry.Entry.{Entry}
use Rattle.pr_story.specs.declared.event.Event.{Event}
use Rattle.pr_story.specs.declared.event.Event.TheVariants.{Attached, Sent, Accepted}
use Rattle.pr_story.specs.History.{Plan, NodeEntry, journal, Accepts, current_clock, current_vector}
use Rattle.pr_story.specs.Told.{all_sets, IsTold, IsLit, IsStart, IsDarkBetween, TellsPoint}
use Rattle.pr_story.specs.Turns.{standing, position, position_after, IsTurn, IsSnapshot, SendTurn}
use Rattle.pr_story.specs.Commands.{IsNoCheckpoint}
use Rattle.pr_story.specs.Scripts.{IsSettle, events_of}
use Rattle.pr_story.specs.Lawful.{IsLawful, Valid}
use Rattle.pr_story.specs.Settling.{SendsLit, AllSendLit, HasName}
use Rattle.pr_story.proofs.Basics.{clock_zero, clock_at, vector_clock, newer_event, older_event}
use Rattle.pr_story.proofs.Making.{join_clock}
use Rattle.pr_story.proofs.Points.{covered_node}
use Rattle.pr_story.proofs.Laws.{target_dark}
use Rattle.pr_story.proofs.Steps.{valid_world, entry_at}
use Rattle.pr_story.proofs.Settling.{AreTaken, AllAfter, IsNeither, Rests, Settled, after, after_reversed, after_append, all_attached, all_rest, all_steps, idles_taken, settle_parts, valid_before}

-- ---- what is told

both_cases : (b : Bool) → (b ≡ true) ⊎ (b ≡ false)
both_cases true = inl refl
both_cases false = inr refl

point_side : (x a b m : ℕ) → m ≡ max a b → x ≤ m → (x ≤ a) ⊎ ((a < x) × (x ≤ b))
point_side x a b m e le = grind (arith, nat_tests)

module _ (plan : Plan) (s : ℕ) (set : List ℕ → Bool) (declared : Contains (all_sets (plan.sets (plan.stream s).destination)) set)
    (within : Within set (has (plan.stream s).names)) (meets : Meet set (has (plan.stream s).names)) where
  -- the message that is under way tells the point
  abbrev Waits : Option Msg → Point → Type 0
  Waits None p = ⊥
  Waits (Some msg) p = (msg.stream ≡ s) × TellsPoint msg.kind set p

  -- all that the position covers is told, or will be by the message that is under way
  abbrev Tells : List NodeEntry → Option Msg → Type 0
  Tells h o = (p : Point) → p.node < 32 → Covers (position h s) p → IsTold (plan.stream s).destination (journal h (plan.stream s).destination) set p ⊎ Waits o p

  told_more : (m : ℕ) (e : NodeEntry) (h : List NodeEntry) (p : Point) → p.node < 32 → IsTold m (journal h m) set p → IsTold m (journal (e ∷ h) m) set p
  told_more m e h p lt t = elim t [
    | inl own ↦
        let a : clock_of (current_vector (journal h m)) p.node ≡ clock_at h m p.node = vector_clock h m p.node lt in
        let b : clock_of (current_vector (journal (e ∷ h) m)) p.node ≡ clock_at (e ∷ h) m p.node = vector_clock (e ∷ h) m p.node lt in
        let le : p.clock ≤ clock_of (current_vector (journal h m)) p.node = own.1.1 in
        inl (own.0, (own.1.0, omega arith))
    | inr some ↦ inr (some.0, older_event (λ event. Accepts event some.0) e h m some.1, some.2)
  ]

  still_tells : (e : NodeEntry) (h : List NodeEntry) (o : Option Msg) (p : Point) → p.node < 32 → IsTold (plan.stream s).destination (journal h (plan.stream s).destination) set p ⊎ ⊥
      → IsTold (plan.stream s).destination (journal (e ∷ h) (plan.stream s).destination) set p ⊎ Waits o p
  still_tells e h o p lt t = elim t [ inl told ↦ inl (told_more (plan.stream s).destination e h p lt told) | inr never ↦ absurd never ]

  no_target : (msg_target : List Span) → msg_target ≡ [] → ¬ Meet (has msg_target) set
  no_target msg_target e m = let i : has msg_target m.0 ≡ true = m.2 in let z : has msg_target m.0 ≡ false = ap (λ (x : List Span). has x m.0) e in cc

  -- a message of the stream tells all that it brings
  turn_tells : (h : List NodeEntry) (n : ℕ) (kind : Kind) (p : Point) → n ≡ (plan.stream s).source → Valid plan h → IsTurn n (journal h n) (standing plan h s) (SendTurn kind)
      → (IsTrue (is_invalidation kind) → (o : List ℕ) (q : Point) → IsName o → IsTrue (has (plan.stream s).names o) → CoversPoint kind q → IsLit (plan.stream s).source (journal h (plan.stream s).source) o q)
      → (clock_of (position h s) p.node < p.clock) × (p.clock ≤ clock_of (to_of kind) p.node) → TellsPoint kind set p
  turn_tells h n (Precise from to write) p placed v t lit c = (
    (subst (λ (x : List ℕ). clock_of x p.node < p.clock) (sym t.2) c.0, c.1),
    no_target [] refl,
  )
  turn_tells h n (Imprecise from to target) p placed v t lit c = (
    (subst (λ (x : List ℕ). clock_of x p.node < p.clock) (sym t.2) c.0, c.1),
    λ m.
        let mine : IsTrue (has (plan.stream s).names m.0) = within m.0 m.1 m.3 in
        let dark : IsDarkBetween n (journal h n) (position h s) to m.0 = target_dark (plan.sets n) h (valid_world plan h v) n (standing plan h s) to target m.0 t.3 m.1 mine m.2 in
        dark.2 (subst (λ (k : ℕ). IsLit k (journal h k) m.0 dark.0) (sym placed) (lit refl m.0 dark.0 m.1 mine (subst (λ (x : List ℕ). clock_of x dark.0.node < dark.0.clock) (sym t.2) dark.1.0, dark.1.1))),
  )
  turn_tells h n (Checkpoint to target floor rows) p placed v t lit c = absurd t
  turn_tells h n (Body o stamp bytes) p placed v t lit c =
      let z : ◌≡◌ {A = ℕ} (clock_of zero_vector p.node) 0 = clock_zero p.node in
      let a : clock_of (position h s) p.node < p.clock = c.0 in
      let b : p.clock ≤ clock_of zero_vector p.node = c.1 in
      absurd (omega arith)

  no_snap : (sets : List (List Span)) (n : ℕ) (j : List Entry) (names : List Span) (k : Kind) → IsNoCheckpoint k → IsSnapshot sets n j names k → ⊥
  no_snap sets n j names (Checkpoint to target floor rows) c x = c
  no_snap sets n j names (Precise a b d) c x = x
  no_snap sets n j names (Imprecise a b d) c x = x
  no_snap sets n j names (Body a b d) c x = x

  tells_sends : (h : List NodeEntry) (n time caller : ℕ) (msg : Msg) → Valid plan h → IsLawful plan h (entry_at n time caller (Sent msg)) → SendsLit plan h s (Sent msg) → Tells h None → Tells (entry_at n time caller (Sent msg) ∷ h) (Some msg)
  tells_sends h n time caller msg v l q t p lt c = elim (both_cases (nat_eq msg.stream s)) [
    | inr other ↦
        let same : cond (nat_eq msg.stream s) (join_of (position h s) (to_of msg.kind)) (position h s) ≡ position h s = ap (λ (b : Bool). cond b (join_of (position h s) (to_of msg.kind)) (position h s)) other in
        still_tells (entry_at n time caller (Sent msg)) h (Some msg) p lt (t p lt (subst (λ (x : List ℕ). Covers x p) same c))
    | inl mine ↦
        let is : msg.stream ≡ s = (Decides-eqb msg.stream s).0 mine in
        let same : cond (nat_eq msg.stream s) (join_of (position h s) (to_of msg.kind)) (position h s) ≡ join_of (position h s) (to_of msg.kind) = ap (λ (b : Bool). cond b (join_of (position h s) (to_of msg.kind)) (position h s)) mine in
        let d : Covers (join_of (position h s) (to_of msg.kind)) p = subst (λ (x : List ℕ). Covers x p) same c in
        elim (point_side p.clock (clock_of (position h s) p.node) (clock_of (to_of msg.kind) p.node) (clock_of (join_of (position h s) (to_of msg.kind)) p.node) (join_clock (position h s) (to_of msg.kind) p.node lt) d.1) [
          | inl old ↦ still_tells (entry_at n time caller (Sent msg)) h (Some msg) p lt (t p lt (c.0, old))
          | inr new ↦
              let turn : IsTurn n (journal h n) (standing plan h msg.stream) (SendTurn msg.kind) = elim l.may_come.2 [
                | inl turn ↦ turn
                | inr snap ↦ absurd (no_snap (plan.sets n) n (journal h n) (plan.stream msg.stream).names msg.kind (q is).0 snap)
              ] in
              inr (is, turn_tells h n msg.kind p (l.placed ∙ ap (λ (x : ℕ). (plan.stream x).source) is) v (subst (λ (x : ℕ). IsTurn n (journal h n) (standing plan h x) (SendTurn msg.kind)) is turn) (q is).1 new)
        ]
  ]

  tells_takes : (h : List NodeEntry) (n time caller : ℕ) (msg : Msg) (at : List ℕ) → Valid plan h → IsLawful plan h (entry_at n time caller (Accepted msg at)) → Tells h (Some msg) → Tells (entry_at n time caller (Accepted msg at) ∷ h) None
  tells_takes h n time caller msg at v l t p lt c = elim (t p lt c) [
    | inl told ↦ inl (told_more (plan.stream s).destination (entry_at n time caller (Accepted msg at)) h p lt told)
    | inr waits ↦
        let here : n ≡ (plan.stream s).destination = l.placed ∙ ap (λ (x : ℕ). (plan.stream x).destination) waits.0 in
        inl (inr (msg.kind, newer_event (λ event. Accepts event msg.kind) (entry_at n time caller (Accepted msg at)) h (plan.stream s).destination here refl, waits.1))
  ]

  start_told : (h : List NodeEntry) (n t : ℕ) (at : List ℕ) → IsStart (plan.sets n) n (journal h n) (plan.stream t).names at → n ≡ (plan.stream t).destination → t ≡ s
      → (p : Point) → p.node < 32 → Covers at p → IsTold (plan.stream s).destination (journal h (plan.stream s).destination) set p
  start_told h n t at i placed is p lt c =
      let here : n ≡ (plan.stream s).destination = placed ∙ ap (λ (x : ℕ). (plan.stream x).destination) is in
      let told : IsTold n (journal h n) set p = (i.1 p.node lt).1 p.clock c.0 c.1 set
      (subst (λ (m : ℕ). Contains (all_sets (plan.sets m)) set) (sym here) declared)
      (subst (λ (x : ℕ). Meet set (has (plan.stream x).names)) (sym is) meets) in
      subst (λ (m : ℕ). IsTold m (journal h m) set p) here told

  tells_stays : (h : List NodeEntry) (n time caller : ℕ) (event : Event) → Valid plan h → IsLawful plan h (entry_at n time caller event) → IsNeither event → Tells h None → Tells (entry_at n time caller event ∷ h) None
  tells_stays h n time caller (Attached x at) v l neither t p lt c = elim (both_cases (nat_eq x s)) [
    | inl mine ↦
        let same : cond (nat_eq x s) at (position h s) ≡ at = ap (λ (b : Bool). cond b at (position h s)) mine in
        inl (told_more (plan.stream s).destination (entry_at n time caller (Attached x at)) h p lt (start_told h n x at l.may_come l.placed ((Decides-eqb x s).0 mine) p lt (subst (λ (y : List ℕ). Covers y p) same c)))
    | inr other ↦
        let same : cond (nat_eq x s) at (position h s) ≡ position h s = ap (λ (b : Bool). cond b at (position h s)) other in
        still_tells (entry_at n time caller (Attached x at)) h None p lt (t p lt (subst (λ (y : List ℕ). Covers y p) same c))
  ]
  tells_stays h n time caller (Sent msg) v l neither t p lt c = absurd neither
  tells_stays h n time caller (Accepted msg at) v l neither t p lt c = absurd neither
  tells_stays h n time caller event v l neither t p lt c = kept event refl c
    where
      kept : (event : Event) → position_after event s (position h s) ≡ position h s → Covers (position_after event s (position h s)) p → IsTold (plan.stream s).destination (journal (entry_at n time caller event ∷ h) (plan.stream s).destination) set p ⊎ ⊥
      kept event same c = still_tells (entry_at n time caller event) h None p lt (t p lt (subst (λ (y : List ℕ). Covers y p) same c))

  tells_begins : (h : List NodeEntry) (n time caller : ℕ) (t : ℕ) (at : List ℕ) → Valid plan h → IsLawful plan h (entry_at n time caller (Attached t at)) → t ≡ s → Tells (entry_at n time caller (Attached t at) ∷ h) None
  tells_begins h n time caller t at v l is p lt c =
      let same : cond (nat_eq t s) at (position h s) ≡ at = ap (λ (b : Bool). cond b at (position h s)) ((Decides-eqb t s).1 is) in
      inl (told_more (plan.stream s).destination (entry_at n time caller (Attached t at)) h p lt (start_told h n t at l.may_come l.placed is p lt (subst (λ (y : List ℕ). Covers y p) same c)))

-- the premise on what is lit, from the oldest entry on
split_lit : (plan : Plan) (h : List NodeEntry) (s : ℕ) (a b : List NodeEntry) → AllAfter (λ g e. SendsLit plan g s e) h (a ++ b) → AllAfter (λ g e. SendsLit plan g s e) h a × AllAfter (λ g e. SendsLit plan g s e) (after h a) b
split_lit plan h s [] b l = (tt, l)
split_lit plan h s (e ∷ a) b l = let r = split_lit plan (e ∷ h) s a b l.1 in ((l.0, r.0), r.1)

join_lit : (plan : Plan) (h : List NodeEntry) (s : ℕ) (a b : List NodeEntry) → AllAfter (λ g e. SendsLit plan g s e) h a → AllAfter (λ g e. SendsLit plan g s e) (after h a) b → AllAfter (λ g e. SendsLit plan g s e) h (a ++ b)
join_lit plan h s [] b l m = m
join_lit plan h s (e ∷ a) b l m = (l.0, join_lit plan (e ∷ h) s a b l.1 m)

lit_in_order : (plan : Plan) (h : List NodeEntry) (s : ℕ) (later : List NodeEntry) → AllSendLit plan h s later → AllAfter (λ g e. SendsLit plan g s e) h (reverse later)
lit_in_order plan h s [] l = tt
lit_in_order plan h s (e ∷ later) l =
    let before : after h (reverse later) ≡ later ++ h = after_reversed h (reverse later) ∙ ap (λ (x : List NodeEntry). x ++ h) (reverse-reverse later) in
    subst (λ (x : List NodeEntry). AllAfter (λ g f. SendsLit plan g s f) h x) (sym (reverse-append (e ∷ []) later))
    (join_lit plan h s (reverse later) (e ∷ []) (lit_in_order plan h s later l.1) (subst (λ (x : List NodeEntry). SendsLit plan x s e.entry.event) (sym before) l.0, tt))

abbrev NamedIsTold : Type 0
NamedIsTold =
    (plan : Plan) (h later : List NodeEntry) (streams : List ℕ) → Valid plan (later ++ h) → IsSettle streams (events_of (reverse later))
    → (s : ℕ) → Contains streams s → AllSendLit plan h s later
    → (set : List ℕ → Bool) → Contains (all_sets (plan.sets (plan.stream s).destination)) set
    → Within set (has (plan.stream s).names) → HasName set
    → (p : Point) → Covers (current_vector (journal (later ++ h) (plan.stream s).source)) p
    → IsTold (plan.stream s).destination (journal (later ++ h) (plan.stream s).destination) set p

pub named_told : NamedIsTold
named_told plan h later streams v i s c lit set declared within some q covers =
    let meets : Meet set (has (plan.stream s).names) = (some.0, some.1, some.2, within some.0 some.1 some.2) in
    let es : List NodeEntry = reverse later in
    let back : after h (reverse later) ≡ later ++ h = after_reversed h (reverse later) ∙ ap (λ (x : List NodeEntry). x ++ h) (reverse-reverse later) in
    let p : Settled plan h (reverse later) streams = settle_parts plan h (reverse later) streams i in
    let a : List NodeEntry = after h p.attaches in
    let b : List NodeEntry = after a p.turns in
    let same : after h (reverse later) ≡ after b p.last = ap (λ (x : List NodeEntry). after h x) p.all ∙ after_append h p.attaches (p.turns ++ p.last) ∙ after_append a p.turns p.last in
    let end : later ++ h ≡ after b p.last = sym back ∙ same in
    let vc : Valid plan (after b p.last) = subst (λ (x : List NodeEntry). Valid plan x) end v in
    let vb : Valid plan b = valid_before plan b p.last vc in
    let va : Valid plan a = valid_before plan a p.turns vb in
    let lits : AllAfter (λ g e. SendsLit plan g s e) h (p.attaches ++ (p.turns ++ p.last)) = subst (λ (x : List NodeEntry). AllAfter (λ g e. SendsLit plan g s e) h x) p.all (lit_in_order plan h s later lit) in
    let la = split_lit plan h s p.attaches (p.turns ++ p.last) lits in
    let lb = split_lit plan a s p.turns p.last la.1 in
    let one : Tells plan s set declared within meets a None = all_attached plan s (λ g e. SendsLit plan g s e) (Tells plan s set declared within meets) (tells_sends plan s set declared within meets) (tells_takes plan s set declared within meets) (tells_stays plan s set declared within meets) (tells_begins plan s set declared within meets) h p.attaches streams va la.0 p.attached c.0 c.1 c.2 in
    let two : Tells plan s set declared within meets b None = all_steps plan s (λ g e. SendsLit plan g s e) (Tells plan s set declared within meets) (tells_sends plan s set declared within meets) (tells_takes plan s set declared within meets) (tells_stays plan s set declared within meets) (tells_begins plan s set declared within meets) a p.turns None vb lb.0 p.taken one in
    let all : Tells plan s set declared within meets (after b p.last) None = all_steps plan s (λ g e. SendsLit plan g s e) (Tells plan s set declared within meets) (tells_sends plan s set declared within meets) (tells_takes plan s set declared within meets) (tells_stays plan s set declared within meets) (tells_begins plan s set declared within meets) b p.last None vc lb.1 (subst (λ (x : List Event). AreTaken None x) (sym p.idle) (idles_taken streams)) two in
    let rest : Rests plan s (after b p.last) = all_rest plan s b p.last streams vc p.idle c.0 c.1 c.2 in
    let here : Covers (current_vector (journal (after b p.last) (plan.stream s).source)) q = subst (λ (x : List NodeEntry). Covers (current_vector (journal x (plan.stream s).source)) q) end covers in
    let lt : q.node < 32 = covered_node (current_vector (journal (after b p.last) (plan.stream s).source)) q (length-vector_of (current_clock (journal (after b p.last) (plan.stream s).source))) here in
    let up : clock_of (current_vector (journal (after b p.last) (plan.stream s).source)) q.node ≤ clock_of (position (after b p.last) s) q.node = rest.1 q.node lt in
    let le : q.clock ≤ clock_of (current_vector (journal (after b p.last) (plan.stream s).source)) q.node = here.1 in
    let told : IsTold (plan.stream s).destination (journal (after b p.last) (plan.stream s).destination) set q = elim (all q lt (here.0, omega arith)) [ inl t ↦ t | inr never ↦ absurd never ] in
    subst (λ (x : List NodeEntry). IsTold (plan.stream s).destination (journal x (plan.stream s).destination) set q) (sym end) told
