-- The laws.
use Rattle.std.proofs.Common.{◌≡◌, ℕ, ◌<◌, ◌≤◌, inl, inr, List, [], ◌∷◌, sym, ap, subst, arith}
use Rattle.std.specs.Prelude.{false, IsTrue}
use Rattle.pr_stamps.specs.Point.{Point}
use Rattle.pr_vectors.specs.Vector.{clock_of, join_of, below_of}
use Rattle.pr_sets.specs.Spans.{has}
use Rattle.pr_names.specs.Name.{IsName}
use Rattle.pr_names.specs.Span.{Span}
use Rattle.pr_inval.specs.declared.kind.Kind.{Kind}
use Rattle.pr_inval.specs.declared.kind.Kind.TheVariants.{Precise, Imprecise, Checkpoint, Body}
use Rattle.pr_inval.specs.declared.msg.Msg.{Msg}
use Rattle.pr_story.specs.declared.event.Event.{Event}
use Rattle.pr_story.specs.declared.event.Event.TheVariants.{Sent}
use Rattle.pr_story.specs.History.{Plan, NodeEntry, journal, WasWritten, Sends, current_clock, current_vector}
use Rattle.pr_story.specs.Told.{IsDarkBetween}
use Rattle.pr_sets.specs.Sets.{set_of}
use Rattle.pr_inval.specs.Standing.{Standing}
use Rattle.pr_story.specs.Turns.{standing, IsTarget, IsWriteToSend, IsTurn, IsSnapshot, SendTurn}
use Rattle.pr_story.specs.Messages.{IsUseful}
use Rattle.pr_story.specs.Lawful.{Valid, IsLawful}
use Rattle.pr_story.specs.Laws.{Facts, FactsThroughout, SentUseful}
use Rattle.pr_story.proofs.Clocks.{below_before}
use Rattle.pr_story.proofs.Basics.{clock_at, clock_is, vector_clock}
use Rattle.pr_story.proofs.World.{World, IsOwn, told_written, told_covered, lit_told}
use Rattle.pr_story.proofs.Known.{told_known, known_told, held_written}
use Rattle.pr_story.proofs.Lit.{lit_or_dark}
use Rattle.pr_story.proofs.Making.{join_clock, below_clock}
use Rattle.pr_story.proofs.Precise.{newest_both, gone_both, marks_both, set_has, named_covered}
use Rattle.pr_story.proofs.Steps.{valid_world, entry_at}

pub world_facts : (plan : Plan) (h : List NodeEntry) → World h → Facts plan h
world_facts plan h f = record {
  closed = λ n x body dep w c v lt.
      let i : IsOwn h x dep = f.is_own x body dep w in
      let e : clock_of (current_vector (journal h n)) x.stamp.node ≡ clock_at h n x.stamp.node = vector_clock h n x.stamp.node i.node in
      let g : clock_of (current_vector (journal h n)) v ≡ clock_at h n v = vector_clock h n v lt in
      let le : x.stamp.clock ≤ clock_of (current_vector (journal h n)) x.stamp.node = c.1 in
      let d : clock_of dep v ≤ clock_at h n v = f.closed n x body dep w (omega arith) v lt in
      omega arith;
  own = λ n v lt.
      let a : current_clock (journal h n) v ≡ clock_at h n v = clock_is h n v in
      let b : current_clock (journal h v) v ≡ clock_at h v v = clock_is h v v in
      let c : clock_at h n v ≤ clock_at h v v = f.own n v lt in omega arith;
  honest = f.honest;
  known = λ n x body dep w. elim (lit_or_dark n (journal h n) x.name x.stamp) [ inl l ↦ inl (told_known h f n x (lit_told h f n x body dep w l)) | inr dark ↦ inr dark ];
  written = λ n x k.
      let t = known_told (journal h n) x k in
      let w : (body : List ℕ) × (dep : List ℕ) × WasWritten h x body dep = told_written h f n x t in
      let i : IsOwn h x w.1 = f.is_own x w.0 w.1 w.2 in
      let e : clock_of (current_vector (journal h n)) x.stamp.node ≡ clock_at h n x.stamp.node = vector_clock h n x.stamp.node i.node in
      let le : x.stamp.clock ≤ clock_at h n x.stamp.node = told_covered h f n x t in
      (w, (i.one, omega arith));
  newest = λ n o t p. newest_both h f n (set_of (plan.sets n) o) o (set_has (plan.sets n) o) p t;
  gone = λ n o t is named. gone_both h f n o t is named;
  marks = λ n o mark p. marks_both h f n (set_of (plan.sets n) o) o (set_has (plan.sets n) o) p mark;
  body = λ n o t bytes e. held_written h f n o t bytes e;
  one = λ x y b c d e w z s. f.one x y b c d e w z (ap (λ (p : Point). p.clock) s) (ap (λ (p : Point). p.node) s);
}

pub facts_throughout : (plan : Plan) (h : List NodeEntry) → Valid plan h → FactsThroughout plan h
facts_throughout plan [] v = world_facts plan [] (valid_world plan [] v)
facts_throughout plan (e ∷ h) v = (world_facts plan (e ∷ h) (valid_world plan (e ∷ h) v), facts_throughout plan h v.1)

-- ---- use

module _ (sets : List (List Span)) (h : List NodeEntry) (f : World h) (m : ℕ) (st : Standing) where
  -- a name of the stream in a target is dark
  pub target_dark : (end : List ℕ) (target : List Span) (o : List ℕ) → IsTarget m (journal h m) st.names st.position end target → IsName o → IsTrue (has st.names o) → IsTrue (has target o) → IsDarkBetween m (journal h m) st.position end o
  target_dark end target o t name mine i = elim t [
    | inl fine ↦ elim (fine.0.no_others o name i) [ inl dark ↦ dark | inr omitted ↦ let e : has st.names o ≡ false = omitted.0 in cc ]
    | inr coarse ↦ elim (coarse.1.no_others o name i) [ inl out ↦ cc | inr dark ↦ dark ]
  ]

  imprecise_useful : (from to : List ℕ) (target : List Span) → IsTurn m (journal h m) st (SendTurn (Imprecise from to target)) → IsUseful sets m (journal h m) st.names (Imprecise from to target)
  imprecise_useful from to target t =
      let at_p : IsUseful sets m (journal h m) st.names (Imprecise st.position to target) = (
        λ o name mine i. target_dark to target o t.3 name mine i,
        λ x k mine b.
            let due : IsWriteToSend (journal h m) st.names st.position x = (k, mine, λ c. let past : clock_of st.position x.stamp.node < x.stamp.clock = b.0 in let le : x.stamp.clock ≤ clock_of st.position x.stamp.node = c.1 in omega arith) in
            elim t.4 [
              | inl none ↦ none.0 x due
              | inr next ↦
                  let w : (body : List ℕ) × (dep : List ℕ) × WasWritten h x body dep = told_written h f m x (known_told (journal h m) x k) in
                  let i : IsOwn h x w.1 = f.is_own x w.0 w.1 w.2 in
                  let n : (body : List ℕ) × (dep : List ℕ) × WasWritten h next.0 body dep = told_written h f m next.0 (known_told (journal h m) next.0 next.1.0.0) in
                  let one : 1 ≤ next.0.stamp.clock = (f.is_own next.0 n.0 n.1 n.2).one in
                  let upto : x.stamp.clock ≤ clock_of (join_of st.position (below_of (current_vector (journal h m)) next.0.stamp)) x.stamp.node = subst (λ (u : List ℕ). x.stamp.clock ≤ clock_of u x.stamp.node) next.2 b.1 in
                  let past : clock_of st.position x.stamp.node < x.stamp.clock = b.0 in
                  let j = join_clock st.position (below_of (current_vector (journal h m)) next.0.stamp) x.stamp.node i.node in
                  let e = below_clock h f m next.0.stamp x.stamp.node i.node in
                  next.1.1 x due (below_before x.stamp next.0.stamp one (omega arith))
            ],
      ) in
      subst (λ (u : List ℕ). IsUseful sets m (journal h m) st.names (Imprecise u to target)) (sym t.2) at_p

  turn_useful : (k : Kind) → IsTurn m (journal h m) st (SendTurn k) → IsUseful sets m (journal h m) st.names k
  turn_useful (Precise from to write) t = t.3.0.1
  turn_useful (Imprecise from to target) t = imprecise_useful from to target t
  turn_useful (Checkpoint to target floor rows) t = absurd t
  turn_useful (Body o stamp bytes) t = tt

snapshot_useful : (sets : List (List Span)) (h : List NodeEntry) → World h → (m : ℕ) (names : List Span) (k : Kind) → IsSnapshot sets m (journal h m) names k → IsUseful sets m (journal h m) names k
snapshot_useful sets h f m names (Precise from to write) s = absurd s
snapshot_useful sets h f m names (Imprecise from to target) s = absurd s
snapshot_useful sets h f m names (Body name stamp bytes) s = absurd s
snapshot_useful sets h f m names (Checkpoint to target floor rows) s = (
  λ row r.
      let c = named_covered h f m row.name row.newest (s.3 row r).newest.0 in
      let name : IsName row.name = subst (λ (q : List ℕ). IsName q) c.4 (f.is_own c.0 c.1 c.2 c.3).name in
      (s.2.no_others row.name name (s.3 row r).outside).0,
  λ o name mine i precise. let e : has target o ≡ false = s.2.lacks_them o name (mine, precise) in cc,
)

event_useful : (plan : Plan) (h : List NodeEntry) (n time caller : ℕ) (event : Event) (msg : Msg) → World h → IsLawful plan h (entry_at n time caller event) → Sends event msg →
    IsUseful (plan.sets (plan.stream msg.stream).source) (plan.stream msg.stream).source (journal h (plan.stream msg.stream).source) (plan.stream msg.stream).names msg.kind
event_useful plan h n time caller (Sent msg) other f l s =
    let here : IsUseful (plan.sets n) n (journal h n) (plan.stream msg.stream).names msg.kind = elim l.may_come.2 [
      | inl turn ↦ turn_useful (plan.sets n) h f n (standing plan h msg.stream) msg.kind turn
      | inr snap ↦ snapshot_useful (plan.sets n) h f n (plan.stream msg.stream).names msg.kind snap
    ] in
    let mine : IsUseful (plan.sets (plan.stream msg.stream).source) (plan.stream msg.stream).source (journal h (plan.stream msg.stream).source) (plan.stream msg.stream).names msg.kind =
    subst (λ (m : ℕ). IsUseful (plan.sets m) m (journal h m) (plan.stream msg.stream).names msg.kind) l.placed here in
    subst (λ (k : Msg). IsUseful (plan.sets (plan.stream k.stream).source) (plan.stream k.stream).source (journal h (plan.stream k.stream).source) (plan.stream k.stream).names k.kind) s mine
event_useful plan h n time caller _ msg f l s = absurd s

pub sent_useful : (plan : Plan) (h : List NodeEntry) → Valid plan h → SentUseful plan h
sent_useful plan [] v = tt
sent_useful plan (e ∷ h) v = (λ msg s. event_useful plan h e.node e.entry.time e.entry.caller e.entry.event msg (valid_world plan h v.1) v.0 s, sent_useful plan h v.1)
