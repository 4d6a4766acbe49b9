-- Answers at equal vectors.
use Rattle.std.proofs.Common.{◌≡◌, ℕ, ◌<◌, ◌≤◌, inl, inr, List, [], ◌∷◌, ◌++◌, refl, sym, ◌∙◌, ap, subst, arith}
use Rattle.std.specs.Prelude.{Some, None, Option, true, false}
use Rattle.pr_stamps.specs.Point.{Point}
use Rattle.pr_vectors.specs.Vector.{clock_of, Covers}
use Rattle.pr_inval.specs.declared.write_rec.WriteRec.{WriteRec}
use Rattle.pr_story.specs.declared.event.Event.{Event}
use Rattle.pr_story.specs.declared.event.Event.TheVariants.{Wrote, Answered}
use Rattle.pr_story.specs.declared.reply.Reply.{Reply}
use Rattle.pr_story.specs.declared.reply.Reply.TheVariants as reply
use Rattle.pr_story.specs.History.{Plan, NodeEntry, SomeEvent, entries, journal, Writes, WasWritten, current_clock, current_vector}
use Rattle.pr_story.specs.Knowledge.{IsGreatest, IsCoveredWrite, IsNewest, IsGone, held_body}
use Rattle.pr_story.specs.Lawful.{IsLawful, Valid}
use Rattle.pr_story.specs.Laws.{AreAlike, IsAnswerOf, Answers, AnswersAlike}
use Rattle.pr_story.proofs.Clocks.{neither_before}
use Rattle.pr_story.proofs.Basics.{clock_at, clock_is, vector_clock}
use Rattle.pr_story.proofs.World.{World}
use Rattle.pr_story.proofs.Known.{same_point, held_written}
use Rattle.pr_story.proofs.Steps.{valid_world, entry_at}
use Rattle.pr_story.specs.Statements.{NodesAnswerAlike}

-- the greatest is one
pub greatest_one : (P : Point → Type 0) (a b : Option Point) → IsGreatest P a → IsGreatest P b → a ≡ b
greatest_one P None None p q = refl
greatest_one P None (Some t) p q = absurd (p t q.0)
greatest_one P (Some s) None p q = absurd (q s p.0)
greatest_one P (Some s) (Some t) p q = let e : (s.clock ≡ t.clock) × (s.node ≡ t.node) = neither_before s t (p.1 t q.0) (q.1 s p.0) in ap (λ (x : Point). Some x) (same_point s t e.0 e.1)

-- the vector says nothing of writes to come
abbrev IsPast : List NodeEntry → List ℕ → Type 0
IsPast h v = (w : ℕ) → w < 32 → clock_of v w ≤ clock_at h w w

past_more : (h : List NodeEntry) (e : NodeEntry) (v : List ℕ) → IsPast h v → IsPast (e ∷ h) v
past_more h e v p w lt = let a : clock_of v w ≤ clock_at h w w = p w lt in omega arith

-- a write that comes later is not covered
new_write : (plan : Plan) (h : List NodeEntry) (n time caller : ℕ) (event : Event) (x : WriteRec) (body dep : List ℕ) → World h → IsLawful plan h (entry_at n time caller event) → Writes event x body dep →
    (x.stamp.node < 32) × (clock_at h x.stamp.node x.stamp.node < x.stamp.clock)
new_write plan h n time caller (Wrote client write bytes after) x body dep f l w =
    let is : write.stamp.node ≡ n = l.may_come.2 in
    let lt : n < 32 = l.node in
    let c : current_clock (journal h n) n < write.stamp.clock = l.may_come.3 n lt in
    let i : current_clock (journal h n) n ≡ clock_at h n n = clock_is h n n in
    let e : clock_at h write.stamp.node write.stamp.node ≡ clock_at h n n = ap (λ (k : ℕ). clock_at h k k) is in
    subst (λ (y : WriteRec). (y.stamp.node < 32) × (clock_at h y.stamp.node y.stamp.node < y.stamp.clock)) w.0 (omega arith, omega arith)
new_write plan h n time caller _ x body dep f l w = absurd w

older_write : (plan : Plan) (h later : List NodeEntry) (v : List ℕ) (o : List ℕ) (s : Point) → Valid plan (later ++ h) → IsPast h v → IsCoveredWrite (later ++ h) v o s → IsCoveredWrite h v o s
older_write plan h [] v o s val p c = c
older_write plan h (e ∷ later) v o s val p c = elim c.3 [
  | inl now ↦
      let g : List NodeEntry = later ++ h in
      let n : (c.0.stamp.node < 32) × (clock_at (later ++ h) c.0.stamp.node c.0.stamp.node < c.0.stamp.clock) = new_write plan (later ++ h) e.node e.entry.time e.entry.caller e.entry.event c.0 c.1 c.2 (valid_world plan (later ++ h) val.1) val.0 now in
      let le : clock_of v c.0.stamp.node ≤ clock_at (later ++ h) c.0.stamp.node c.0.stamp.node = pasts h later v p c.0.stamp.node n.0 in
      let cov : c.0.stamp.clock ≤ clock_of v c.0.stamp.node = (subst (λ (q : Point). Covers v q) (sym c.5) c.6).1 in
      absurd (omega arith)
  | inr old ↦ older_write plan h later v o s val.1 p (c.0, c.1, c.2, old, c.4, c.5, c.6)
]
  where
    pasts : (h later : List NodeEntry) (v : List ℕ) → IsPast h v → IsPast (later ++ h) v
    pasts h [] v p = p
    pasts h (e ∷ later) v p = past_more (later ++ h) e v (pasts h later v p)

newer_write : (h later : List NodeEntry) (v : List ℕ) (o : List ℕ) (s : Point) → IsCoveredWrite h v o s → IsCoveredWrite (later ++ h) v o s
newer_write h [] v o s c = c
newer_write h (e ∷ later) v o s c = let r : IsCoveredWrite (later ++ h) v o s = newer_write h later v o s c in (r.0, r.1, r.2, inr r.3, r.4, r.5, r.6)

newest_later : (plan : Plan) (h later : List NodeEntry) (v o : List ℕ) (t : Option Point) → Valid plan (later ++ h) → IsPast h v → IsNewest h v o t → IsNewest (later ++ h) v o t
newest_later plan h later v o None val p n = λ s c. n s (older_write plan h later v o s val p c)
newest_later plan h later v o (Some t) val p n = (newer_write h later v o t n.0, λ s c. n.1 s (older_write plan h later v o s val p c))

valid_tail : (plan : Plan) (h later : List NodeEntry) → Valid plan (later ++ h) → Valid plan h
valid_tail plan h [] v = v
valid_tail plan h (e ∷ later) v = valid_tail plan h later v.1

-- a body that was held stays the write's
written_later : (h later : List NodeEntry) (x : WriteRec) (body dep : List ℕ) → WasWritten h x body dep → WasWritten (later ++ h) x body dep
written_later h [] x body dep w = w
written_later h (e ∷ later) x body dep w = inr (written_later h later x body dep w)

gone_differ : (g : List NodeEntry) → World g → (o : List ℕ) (s t : Point) → s ≡ t → IsGone g o s true → IsGone g o t false → ⊥
gone_differ g f o s t e p q =
    let st : p.0.stamp ≡ q.0.stamp = p.5 ∙ e ∙ sym q.5 in
    let one : p.0 ≡ q.0 = (f.one p.0 q.0 p.1 q.1 p.2 q.2 p.3 q.3 (ap (λ (z : Point). z.clock) st) (ap (λ (z : Point). z.node) st)).0 in
    let bad : true ≡ false = sym p.6 ∙ ap (λ (w : WriteRec). w.gone) one ∙ q.6 in
    cc

pub nodes_alike : NodesAnswerAlike
nodes_alike plan h later n m o a b val same x y =
    let fh : World h = valid_world plan h (valid_tail plan h later val) in
    let fg : World (later ++ h) = valid_world plan (later ++ h) val in
    let past : IsPast h (current_vector (journal h n)) = λ w lt. let e : clock_of (current_vector (journal h n)) w ≡ clock_at h n w = vector_clock h n w lt in let l : clock_at h n w ≤ clock_at h w w = fh.own n w lt in omega arith in
    let move : (t : Option Point) → IsNewest h (current_vector (journal h n)) o t → IsNewest (later ++ h) (current_vector (journal (later ++ h) m)) o t =
    λ t k. subst (λ (v : List ℕ). IsNewest (later ++ h) v o t) same (newest_later plan h later (current_vector (journal h n)) o t val past k) in
    let one : (t u : Option Point) → IsNewest h (current_vector (journal h n)) o t → IsNewest (later ++ h) (current_vector (journal (later ++ h) m)) o u → t ≡ u =
    λ t u k l. greatest_one _ t u (move t k) l in
    let bytes : (s t : Point) (p q : List ℕ) → s ≡ t → held_body (journal h n) o s ≡ Some p → held_body (journal (later ++ h) m) o t ≡ Some q → p ≡ q = λ s t p q e i k.
    let c = held_written h fh n o s p i in
    let d = held_written (later ++ h) fg m o t q k in
    let st : c.0.stamp ≡ d.0.stamp = c.4 ∙ e ∙ sym d.4 in
    (fg.one c.0 d.0 p q c.1 d.1 (written_later h later c.0 p c.1 c.2) d.2 (ap (λ (z : Point). z.clock) st) (ap (λ (z : Point). z.node) st)).1 in
    let differ : (s t : Point) → s ≡ t → IsGone h o s true → IsGone (later ++ h) o t false → ⊥ = λ s t e p q. gone_differ (later ++ h) fg o s t e (p.0, p.1, p.2, written_later h later p.0 p.1 p.2 p.3, p.4, p.5, p.6) q in
    let differ_too : (s t : Point) → s ≡ t → IsGone h o s false → IsGone (later ++ h) o t true → ⊥ = λ s t e p q. gone_differ (later ++ h) fg o t s (sym e) q (p.0, p.1, p.2, written_later h later p.0 p.1 p.2 p.3, p.4, p.5, p.6) in
    cases a b x y one bytes differ differ_too
  where
    cases : (a b : Reply) → IsAnswerOf plan h n o a → IsAnswerOf plan (later ++ h) m o b
        → ((t u : Option Point) → IsNewest h (current_vector (journal h n)) o t → IsNewest (later ++ h) (current_vector (journal (later ++ h) m)) o u → t ≡ u)
        → ((s t : Point) (p q : List ℕ) → s ≡ t → held_body (journal h n) o s ≡ Some p → held_body (journal (later ++ h) m) o t ≡ Some q → p ≡ q)
        → ((s t : Point) → s ≡ t → IsGone h o s true → IsGone (later ++ h) o t false → ⊥) → ((s t : Point) → s ≡ t → IsGone h o s false → IsGone (later ++ h) o t true → ⊥)
        → AreAlike a b
    cases (reply.Imprecise p) b x y one bytes gd ge = tt
    cases reply.Never (reply.Imprecise q) x y one bytes gd ge = tt
    cases reply.Never reply.Never x y one bytes gd ge = tt
    cases reply.Never (reply.Value t q) x y one bytes gd ge = let e : None ≡ Some t = one None (Some t) x.1 y.1 in cc
    cases reply.Never (reply.Body t) x y one bytes gd ge = let e : None ≡ Some t = one None (Some t) x.1 y.1 in cc
    cases reply.Never (reply.Gone t) x y one bytes gd ge = let e : None ≡ Some t = one None (Some t) x.1 y.1 in cc
    cases (reply.Value s p) (reply.Imprecise q) x y one bytes gd ge = tt
    cases (reply.Value s p) reply.Never x y one bytes gd ge = let e : Some s ≡ None = one (Some s) None x.1 y.1 in cc
    cases (reply.Value s p) (reply.Value t q) x y one bytes gd ge = let e : Some s ≡ Some t = one (Some s) (Some t) x.1 y.1 in let st : s ≡ t = cc in (st, bytes s t p q st x.3 y.3)
    cases (reply.Value s p) (reply.Body t) x y one bytes gd ge = let e : Some s ≡ Some t = one (Some s) (Some t) x.1 y.1 in let st : s ≡ t = cc in st
    cases (reply.Value s p) (reply.Gone t) x y one bytes gd ge = let e : Some s ≡ Some t = one (Some s) (Some t) x.1 y.1 in let st : s ≡ t = cc in ge s t st x.2 y.2
    cases (reply.Body s) (reply.Imprecise q) x y one bytes gd ge = tt
    cases (reply.Body s) reply.Never x y one bytes gd ge = let e : Some s ≡ None = one (Some s) None x.1 y.1 in cc
    cases (reply.Body s) (reply.Value t q) x y one bytes gd ge = let e : Some s ≡ Some t = one (Some s) (Some t) x.1 y.1 in let st : s ≡ t = cc in st
    cases (reply.Body s) (reply.Body t) x y one bytes gd ge = let e : Some s ≡ Some t = one (Some s) (Some t) x.1 y.1 in let st : s ≡ t = cc in st
    cases (reply.Body s) (reply.Gone t) x y one bytes gd ge = let e : Some s ≡ Some t = one (Some s) (Some t) x.1 y.1 in let st : s ≡ t = cc in ge s t st x.2 y.2
    cases (reply.Gone s) (reply.Imprecise q) x y one bytes gd ge = tt
    cases (reply.Gone s) reply.Never x y one bytes gd ge = let e : Some s ≡ None = one (Some s) None x.1 y.1 in cc
    cases (reply.Gone s) (reply.Value t q) x y one bytes gd ge = let e : Some s ≡ Some t = one (Some s) (Some t) x.1 y.1 in let st : s ≡ t = cc in gd s t st x.2 y.2
    cases (reply.Gone s) (reply.Body t) x y one bytes gd ge = let e : Some s ≡ Some t = one (Some s) (Some t) x.1 y.1 in let st : s ≡ t = cc in gd s t st x.2 y.2
    cases (reply.Gone s) (reply.Gone t) x y one bytes gd ge = let e : Some s ≡ Some t = one (Some s) (Some t) x.1 y.1 in let st : s ≡ t = cc in st

-- an answer was lawful, and its vector is that of its node
answered : (plan : Plan) (g : List NodeEntry) (n time caller : ℕ) (event : Event) (o v : List ℕ) (a : Reply) → IsLawful plan g (entry_at n time caller event) → Answers event o a v
    → IsAnswerOf plan g n o a × (current_vector (journal g n) ≡ v)
answered plan g n time caller (Answered client name answer at) o v a l is = (
  subst (λ (b : Reply). IsAnswerOf plan g n o b) is.1 (subst (λ (q : List ℕ). IsAnswerOf plan g n q answer) is.0 l.may_come.0),
  sym l.may_come.1 ∙ is.2,
)
answered plan g n time caller _ o v a l is = absurd is

moved : (later : List NodeEntry) (f : NodeEntry) (g : List NodeEntry) → (later ++ f ∷ []) ++ g ≡ later ++ f ∷ g
moved [] f g = refl
moved (e ∷ later) f g = ap (λ (t : List NodeEntry). e ∷ t) (moved later f g)

-- an answer that may be given is alike with each earlier one at its vector
earlier_alike : (plan : Plan) (g later : List NodeEntry) (m : ℕ) (o v : List ℕ) (a b : Reply) → Valid plan (later ++ g) → IsAnswerOf plan (later ++ g) m o b
    → current_vector (journal (later ++ g) m) ≡ v → SomeEvent (λ event. Answers event o a v) (entries g) → AreAlike a b
earlier_alike plan [] later m o v a b val may same s = absurd s
earlier_alike plan (f ∷ g) later m o v a b val may same s =
    let e : later ++ f ∷ g ≡ (later ++ f ∷ []) ++ g = sym (moved later f g) in
    let valid : Valid plan ((later ++ f ∷ []) ++ g) = subst (λ (h : List NodeEntry). Valid plan h) e val in
    let there : IsAnswerOf plan ((later ++ f ∷ []) ++ g) m o b = subst (λ (h : List NodeEntry). IsAnswerOf plan h m o b) e may in
    let at : current_vector (journal ((later ++ f ∷ []) ++ g) m) ≡ v = subst (λ (h : List NodeEntry). current_vector (journal h m) ≡ v) e same in
    elim s [
      | inl now ↦
          let given = answered plan g f.node f.entry.time f.entry.caller f.entry.event o v a (valid_tail plan (f ∷ g) later val).0 now in
          nodes_alike plan g (later ++ f ∷ []) f.node m o a b valid (given.1 ∙ sym at) given.0 there
      | inr old ↦ earlier_alike plan g (later ++ f ∷ []) m o v a b valid there at old
    ]

pub answers_alike : (plan : Plan) (h : List NodeEntry) → Valid plan h → AnswersAlike h
answers_alike plan [] val = tt
answers_alike plan (e ∷ h) val = (
  λ o v a b now old. let given = answered plan h e.node e.entry.time e.entry.caller e.entry.event o v b val.0 now in earlier_alike plan h [] e.node o v a b val.1 given.0 given.1 old,
  answers_alike plan h val.1,
)
