-- What clients have seen.
use Rattle.std.proofs.Common.{◌≡◌, ℕ, ◌<◌, ◌≤◌, inl, inr, List, [], ◌∷◌, refl, sym, ◌∙◌, ap, subst, arith, max, cond, nat_eq}
use Rattle.std.specs.Prelude.{true, false, Bool, IsTrue}
use Rattle.std.proofs.lemmas.Bool.Decides.{nat_tests, Decides-eqb}
use Rattle.pr_stamps.specs.Point.{Point}
use Rattle.pr_vectors.specs.Vector.{clock_of, Le, join_of, raised, zero_vector}
use Rattle.pr_vectors.proofs.Vectors.{clock_of-vector_of}
use Rattle.pr_story.specs.declared.event.Event.{Event}
use Rattle.pr_story.specs.declared.event.Event.TheVariants.{Wrote, Answered, Behind, Moved}
use Rattle.pr_story.specs.History.{Plan, NodeEntry, SomeEvent, entries, journal, clock_brought, current_vector}
use Rattle.pr_story.specs.Clients.{node_after, client_node, seen_after, client_vector}
use Rattle.pr_story.specs.Lawful.{IsLawful, Valid}
use Rattle.pr_story.specs.Laws.{Sees, WritesFor, NoneGoesBack, Moves, IsLate}
use Rattle.pr_story.proofs.Basics.{clock_zero, clock_at, vector_clock}
use Rattle.pr_story.proofs.Clocks.{clock_grows}
use Rattle.pr_story.proofs.Making.{join_clock}
use Rattle.pr_story.proofs.Steps.{entry_at}
use Rattle.pr_story.specs.Statements.{NeverBehind}

pub raised_clock : (v : List ℕ) (p : Point) (n : ℕ) → n < 32 → clock_of (raised v p) n ≡ cond (nat_eq n p.node) (max (clock_of v n) p.clock) (clock_of v n)
raised_clock v p n lt = clock_of-vector_of (λ k. cond (nat_eq k p.node) (max (clock_of v k) p.clock) (clock_of v k)) n lt

pub joined : (b : Bool) (v w : List ℕ) (n : ℕ) → n < 32 → clock_of (cond b (join_of v w) v) n ≡ cond b (max (clock_of v n) (clock_of w n)) (clock_of v n)
joined true v w n lt = join_clock v w n lt
joined false v w n lt = refl

-- ---- what is seen stays seen

more_seen : (event : Event) (c : ℕ) (v : List ℕ) → Le v (seen_after event c v)
more_seen (Wrote client write body after) c v n lt = let j = joined (nat_eq client c) v (raised after write.stamp) n lt in grind (arith, nat_tests)
more_seen (Answered client o answer at) c v n lt = let j = joined (nat_eq client c) v at n lt in grind (arith, nat_tests)
more_seen _ c v n lt = omega arith

now_seen : (event : Event) (c : ℕ) (v w : List ℕ) → Sees event c w → Le w (seen_after event c v)
now_seen (Wrote client write body after) c v w s n lt =
    let j = joined (nat_eq client c) v (raised after write.stamp) n lt in
    let r = raised_clock after write.stamp n lt in
    let same : client ≡ c = s.0 in
    let e : clock_of after n ≡ clock_of w n = ap (λ (u : List ℕ). clock_of u n) s.1 in
    grind (arith, nat_tests)
now_seen (Answered client o answer at) c v w s n lt =
    let j = joined (nat_eq client c) v at n lt in
    let same : client ≡ c = s.0 in
    let e : clock_of at n ≡ clock_of w n = ap (λ (u : List ℕ). clock_of u n) s.1 in
    grind (arith, nat_tests)
now_seen _ c v w s n lt = absurd s

seen_upto : (h : List NodeEntry) (c : ℕ) (w : List ℕ) → SomeEvent (λ event. Sees event c w) (entries h) → Le w (client_vector h c)
seen_upto [] c w s n lt = absurd s
seen_upto (e ∷ h) c w s n lt = elim s [
  | inl now ↦ now_seen e.entry.event c (client_vector h c) w now n lt
  | inr old ↦
      let a : clock_of w n ≤ clock_of (client_vector h c) n = seen_upto h c w old n lt in
      let b : clock_of (client_vector h c) n ≤ clock_of (seen_after e.entry.event c (client_vector h c)) n = more_seen e.entry.event c (client_vector h c) n lt in
      omega arith
]

-- a client's writes are at points that stamps may have
now_wrote : (plan : Plan) (h : List NodeEntry) (n time caller : ℕ) (event : Event) (c : ℕ) (p : Point) → IsLawful plan h (entry_at n time caller event) → WritesFor event c p
    → (1 ≤ p.clock) × (p.node < 32) × (p.clock ≤ clock_of (seen_after event c (client_vector h c)) p.node)
now_wrote plan h n time caller (Wrote client write body after) c p l w =
    let one : 1 ≤ write.stamp.clock = l.in_range.0.1.from_one in
    let node : write.stamp.node < 32 = l.in_range.0.1.known_node in
    let j = joined (nat_eq client c) (client_vector h c) (raised after write.stamp) write.stamp.node node in
    let r = raised_clock after write.stamp write.stamp.node node in
    let same : client ≡ c = w.0 in
    subst (λ (q : Point). (1 ≤ q.clock) × (q.node < 32) × (q.clock ≤ clock_of (seen_after (Wrote client write body after) c (client_vector h c)) q.node)) w.1 (one, node, grind (arith, nat_tests))
now_wrote plan h n time caller _ c p l w = absurd w

wrote_upto : (plan : Plan) (h : List NodeEntry) (c : ℕ) (p : Point) → Valid plan h → SomeEvent (λ event. WritesFor event c p) (entries h) → (1 ≤ p.clock) × (p.node < 32) × (p.clock ≤ clock_of (client_vector h c) p.node)
wrote_upto plan [] c p v s = absurd s
wrote_upto plan (e ∷ h) c p v s = elim s [
  | inl now ↦ now_wrote plan h e.node e.entry.time e.entry.caller e.entry.event c p v.0 now
  | inr old ↦
      let a : (1 ≤ p.clock) × (p.node < 32) × (p.clock ≤ clock_of (client_vector h c) p.node) = wrote_upto plan h c p v.1 old in
      let le : p.clock ≤ clock_of (client_vector h c) p.node = a.2 in
      let b : clock_of (client_vector h c) p.node ≤ clock_of (seen_after e.entry.event c (client_vector h c)) p.node = more_seen e.entry.event c (client_vector h c) p.node a.1 in
      (a.0, a.1, omega arith)
]

-- an answer's or a write's vector holds all that its client has seen
sees_all : (plan : Plan) (h : List NodeEntry) (n time caller : ℕ) (event : Event) (c : ℕ) (v : List ℕ) → IsLawful plan h (entry_at n time caller event) → Sees event c v → Le (client_vector h c) v
sees_all plan h n time caller (Wrote client write body after) c v l s =
    subst (λ (w : List ℕ). Le (client_vector h c) w) (sym l.may_come.1 ∙ s.1) (subst (λ (k : ℕ). Le (client_vector h k) (current_vector (journal h n))) s.0 l.may_come.7)
sees_all plan h n time caller (Answered client o answer at) c v l s =
    subst (λ (w : List ℕ). Le (client_vector h c) w) (sym l.may_come.1 ∙ s.1) (subst (λ (k : ℕ). Le (client_vector h k) (current_vector (journal h n))) s.0 l.may_come.2)
sees_all plan h n time caller _ c v l s = absurd s

pub none_goes_back : (plan : Plan) (h : List NodeEntry) → Valid plan h → NoneGoesBack h
none_goes_back plan [] v = tt
none_goes_back plan (e ∷ h) v = (
  λ c at s.
      let all : Le (client_vector h c) at = sees_all plan h e.node e.entry.time e.entry.caller e.entry.event c at v.0 s in (
        λ w old n lt. let a : clock_of w n ≤ clock_of (client_vector h c) n = seen_upto h c w old n lt in let b : clock_of (client_vector h c) n ≤ clock_of at n = all n lt in omega arith,
        λ p old.
            let a : (1 ≤ p.clock) × (p.node < 32) × (p.clock ≤ clock_of (client_vector h c) p.node) = wrote_upto plan h c p v.1 old in
            let le : p.clock ≤ clock_of (client_vector h c) p.node = a.2 in
            let b : clock_of (client_vector h c) p.node ≤ clock_of at p.node = all p.node a.1 in
            (a.0, omega arith),
      ),
  none_goes_back plan h v.1,
)

-- ---- clients that never move

node_kept : (event : Event) (n c m : ℕ) → (Moves event c → ⊥) → node_after event n c m ≡ m
node_kept (Moved client) n c m no_move = by (nat_eq client c) (Decides-eqb client c).0
  where
    by : (b : Bool) → (IsTrue b → client ≡ c) → cond b n m ≡ m
    by true is = absurd (no_move (is refl))
    by false is = refl
node_kept _ n c m no_move = refl

stays : (plan : Plan) (h : List NodeEntry) (c : ℕ) → (SomeEvent (λ event. Moves event c) (entries h) → ⊥) → client_node plan h c ≡ plan.home c
stays plan [] c no_move = refl
stays plan (e ∷ h) c no_move = node_kept e.entry.event e.node c (client_node plan h c) (λ m. no_move (inl m)) ∙ stays plan h c (λ m. no_move (inr m))

-- what the client sees now, its node has
wrote_here : (x y a r s p w q n m : ℕ) (b : Bool) → x ≡ cond b (max s y) s → y ≡ cond (nat_eq w q) (max r p) r → s ≤ a → (b ≡ true → (n ≡ m) × (r ≡ a))
    → x ≤ max a (cond (nat_eq n m) (cond (nat_eq w q) p 0) 0)
wrote_here x y a r s p w q n m true is raise le here = let both : (n ≡ m) × (r ≡ a) = here refl in grind (arith, nat_tests)
wrote_here x y a r s p w q n m false is raise le here = grind (arith, nat_tests)

answered_here : (x a r s d : ℕ) (b : Bool) → x ≡ cond b (max s r) s → s ≤ a → (b ≡ true → r ≡ a) → x ≤ max a d
answered_here x a r s d true is le here = let same : r ≡ a = here refl in omega arith
answered_here x a r s d false is le here = omega arith

module _ (plan : Plan) (h : List NodeEntry) (c : ℕ) (stay : client_node plan h c ≡ plan.home c) (before : Le (client_vector h c) (current_vector (journal h (plan.home c)))) where
  at_home : (client n : ℕ) → nat_eq client c ≡ true → n ≡ client_node plan h client → n ≡ plan.home c
  at_home client n is placed = placed ∙ ap (λ (k : ℕ). client_node plan h k) ((Decides-eqb client c).0 is) ∙ stay

  had : (w : ℕ) → w < 32 → clock_of (client_vector h c) w ≤ clock_at h (plan.home c) w
  had w lt = let a : clock_of (client_vector h c) w ≤ clock_of (current_vector (journal h (plan.home c))) w = before w lt in let e : clock_of (current_vector (journal h (plan.home c))) w ≡ clock_at h (plan.home c) w = vector_clock h (plan.home c) w lt in omega arith

  told_there : (n w : ℕ) (at : List ℕ) → w < 32 → n ≡ plan.home c → at ≡ current_vector (journal h n) → clock_of at w ≡ clock_at h (plan.home c) w
  told_there n w at lt is e = ap (λ (v : List ℕ). clock_of v w) e ∙ vector_clock h n w lt ∙ ap (λ (k : ℕ). clock_at h k w) is

  now_here : (n time caller : ℕ) (event : Event) → IsLawful plan h (entry_at n time caller event) → (w : ℕ) → w < 32
      → clock_of (seen_after event c (client_vector h c)) w ≤ clock_at (entry_at n time caller event ∷ h) (plan.home c) w
  now_here n time caller (Wrote client write body after) l w lt =
      wrote_here (clock_of (seen_after (Wrote client write body after) c (client_vector h c)) w) (clock_of (raised after write.stamp) w) (clock_at h (plan.home c) w) (clock_of after w) (clock_of (client_vector h c) w)
      write.stamp.clock w write.stamp.node n (plan.home c) (nat_eq client c)
      (joined (nat_eq client c) (client_vector h c) (raised after write.stamp) w lt) (raised_clock after write.stamp w lt) (had w lt)
      (λ is. let here : n ≡ plan.home c = at_home client n is l.placed in (here, told_there n w after lt here l.may_come.1))
  now_here n time caller (Answered client o answer at) l w lt =
      answered_here (clock_of (seen_after (Answered client o answer at) c (client_vector h c)) w) (clock_at h (plan.home c) w) (clock_of at w) (clock_of (client_vector h c) w)
      (cond (nat_eq n (plan.home c)) 0 0) (nat_eq client c)
      (joined (nat_eq client c) (client_vector h c) at w lt) (had w lt)
      (λ is. told_there n w at lt (at_home client n is l.placed) l.may_come.1)
  now_here n time caller event l w lt = older n time caller event w lt refl
    where
      older : (n time caller : ℕ) (event : Event) (w : ℕ) → w < 32 → seen_after event c (client_vector h c) ≡ client_vector h c
          → clock_of (seen_after event c (client_vector h c)) w ≤ clock_at (entry_at n time caller event ∷ h) (plan.home c) w
      older n time caller event w lt same =
          let e : clock_of (seen_after event c (client_vector h c)) w ≡ clock_of (client_vector h c) w = ap (λ (v : List ℕ). clock_of v w) same in
          let a : clock_of (client_vector h c) w ≤ clock_at h (plan.home c) w = had w lt in
          let g : clock_at h (plan.home c) w ≤ max (clock_at h (plan.home c) w) (cond (nat_eq n (plan.home c)) (clock_brought event w) 0) = clock_grows (clock_at h (plan.home c) w) (clock_brought event w) n (plan.home c) in
          omega arith

  not_late : (n time caller : ℕ) (event : Event) → IsLawful plan h (entry_at n time caller event) → IsLate event c → ⊥
  not_late n time caller (Behind client needs has) l is =
      let here : n ≡ plan.home c = l.placed ∙ ap (λ (k : ℕ). client_node plan h k) is ∙ stay in
      let seen : needs ≡ client_vector h c = l.may_come.0 ∙ ap (λ (k : ℕ). client_vector h k) is in
      l.may_come.1 (subst (λ (v : List ℕ). Le v (current_vector (journal h n))) (sym seen) (subst (λ (k : ℕ). Le (client_vector h c) (current_vector (journal h k))) (sym here) before))
  not_late n time caller _ l is = is

pub never_behind : NeverBehind
never_behind plan [] c v no_move = (λ w lt. let z : ◌≡◌ {A = ℕ} (clock_of zero_vector w) 0 = clock_zero w in omega arith, λ s. s)
never_behind plan (e ∷ h) c v no_move =
    let past = never_behind plan h c v.1 (λ m. no_move (inr m)) in
    let stay : client_node plan h c ≡ plan.home c = stays plan h c (λ m. no_move (inr m)) in (
      λ w lt.
          let a : clock_of (seen_after e.entry.event c (client_vector h c)) w ≤ clock_at (e ∷ h) (plan.home c) w = now_here plan h c stay past.0 e.node e.entry.time e.entry.caller e.entry.event v.0 w lt in
          let b : clock_of (current_vector (journal (e ∷ h) (plan.home c))) w ≡ clock_at (e ∷ h) (plan.home c) w = vector_clock (e ∷ h) (plan.home c) w lt in
          omega arith,
      λ s. elim s [
        | inl now ↦ not_late plan h c stay past.0 e.node e.entry.time e.entry.caller e.entry.event v.0 now
        | inr old ↦ past.1 old
      ],
    )
