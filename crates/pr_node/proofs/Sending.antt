-- What the log tells of the names and writes ahead of a position.
use Rattle.std.proofs.Common.{◌≡◌, ℕ, ◌<◌, ◌≤◌, ◌⊎◌, inl, inr, List, [], ◌∷◌, length, max, min, refl, sym, ◌∙◌, ap, subst, arith}
use Rattle.std.proofs.lemmas.Bool.{false≢true}
use Rattle.std.specs.Prelude.{Bool, true, false, IsTrue, ◌↔◌, None, Some}
use Rattle.pr_stamps.specs.Point.{Point}
use Rattle.pr_names.specs.Name.{IsName}
use Rattle.pr_names.specs.Span.{Span}
use Rattle.pr_vectors.specs.Vector.{clock_of, Between, Covers, Le, join_of, cut_of, below_of, last_before}
use Rattle.pr_vectors.proofs.Vectors.{clock_of-vector_of}
use Rattle.pr_names.proofs.Places.{span_some}
use Rattle.pr_sets.specs.Spans.{has, IsSet, IsSetOf, Meet}
use Rattle.pr_sets.proofs.Same.{holds_at, same_list}
use Rattle.pr_inval.specs.Targets.{IsTargetFor}
use Rattle.pr_inval.specs.declared.kind.Kind.{Kind}
use Rattle.pr_inval.specs.declared.kind.Kind.TheVariants.{Precise, Imprecise, Checkpoint, Body}
use Rattle.pr_inval.specs.declared.write_rec.WriteRec.{WriteRec}
use Rattle.pr_log.specs.Log.{Logged, is_lit, IsDarkIn, IsOmittedIn}
use Rattle.pr_log.specs.Known.{IsWaiting}
use Rattle.pr_log.specs.Many.{HasMany}
use Rattle.pr_log.specs.Waiting.{IsNextOf}
use Rattle.pr_story.specs.declared.entry.Entry.{Entry}
use Rattle.pr_story.specs.History.{current_vector}
use Rattle.pr_story.specs.Told.{IsDarkBetween}
use Rattle.pr_story.specs.Sending.{IsAhead}
use Rattle.pr_story.specs.Turns.{IsOmitted, IsWithheld, IsTarget, IsWriteToSend, IsNextWrite}
use Rattle.pr_story.proofs.Points.{covered_node}
use Rattle.pr_story.proofs.Targets.{target_met}
use Rattle.pr_story.proofs.Withholding.{empty_of}
use Rattle.pr_node.specs.declared.ahead.Withheld.{Withheld}
use Rattle.pr_node.specs.Sending.{IsImpreciseOf, IsOmittedSet}
use Rattle.pr_node.specs.Ties.{IsLogOf}
use Rattle.pr_node.proofs.Clocks.{below_or_not, cut_out}

-- ---- past a position that is not behind the cut

pub above : (n : ℕ) (j : List Entry) (m : Logged) (pos : List ℕ) → IsLogOf n j m → Le m.cut pos → (p : Point) → (Covers pos p → ⊥) → Covers m.cut p → ⊥
above n j m pos f le p out c = elim (below_or_not p.node 32) [
  | inl lt ↦ let l : clock_of m.cut p.node ≤ clock_of pos p.node = le p.node lt in out (c.0, omega (arith, l, c.1))
  | inr ge ↦ let z : clock_of m.cut p.node ≡ 0 = ap (λ (v : List ℕ). clock_of v p.node) f.cut ∙ cut_out j p.node ge in omega (arith, z, c.0, c.1)
]

past : (v w : List ℕ) (p : Point) → Between v w p → Covers v p → ⊥
past v w p b c = omega (arith, b.0, c.1)

-- ---- no point between

none_between : (from to : List ℕ) (p : Point) → length to ≡ 32 → Le to from → Between from to p → ⊥
none_between from to p len le b =
    let lt : p.node < 32 = covered_node to p len (omega (arith, b.0), b.1) in
    omega (arith, le p.node lt, b.0, b.1)

pub none_dark : (n : ℕ) (j : List Entry) (from to : List ℕ) → length to ≡ 32 → Le to from → IsSetOf [] (IsDarkBetween n j from to)
none_dark n j from to len le = empty_of (IsDarkBetween n j from to) (λ o name d. none_between from to d.0 len le d.1)

pub none_omitted : (j : List Entry) (names : List Span) (from to : List ℕ) → length to ≡ 32 → Le to from → IsSetOf [] (IsOmitted j names from to)
none_omitted j names from to len le = empty_of (IsOmitted j names from to) (λ o name d. none_between from to d.1.0.stamp len le d.1.3)

-- ---- what the log tells

set_mapped : (set : List Span) (P Q : List ℕ → Type 0) → IsSetOf set P → ((o : List ℕ) → IsName o → P o ↔ Q o) → IsSetOf set Q
set_mapped set P Q s each = record {
  one_list = s.one_list;
  has_them = λ o name q. s.has_them o name ((each o name).1 q);
  no_others = λ o name h. (each o name).0 (s.no_others o name h);
}

not_true : (b : Bool) → (IsTrue b → ⊥) → b ≡ false
not_true true no_it = absurd (no_it refl)
not_true false no_it = refl

pub dark_set : (n : ℕ) (j : List Entry) (m : Logged) (from to : List ℕ) (set : List Span) → IsLogOf n j m → Le m.cut from → IsSetOf set (IsDarkIn m from to) → IsSetOf set (IsDarkBetween n j from to)
dark_set n j m from to set f le s = set_mapped set (IsDarkIn m from to) (IsDarkBetween n j from to) s (λ o name. (
  λ d. (
    d.0,
    d.1,
    λ lit.
        let t : is_lit m o d.0 ≡ true = (f.lit o d.0 name (above n j m from f le d.0 (past from to d.0 d.1))).1 lit in
        let e : is_lit m o d.0 ≡ false = d.2 in cc,
  ),
  λ d. (d.0, d.1, not_true (is_lit m o d.0) (λ lit. d.2 ((f.lit o d.0 name (above n j m from f le d.0 (past from to d.0 d.1))).0 lit))),
))

-- what the log omits is what the journal omits
omits : (n : ℕ) (j : List Entry) (m : Logged) (from to : List ℕ) (names : List Span) (o : List ℕ) → IsLogOf n j m → Le m.cut from → IsOmittedIn m from to names o ↔ IsOmitted j names from to o
omits n j m from to names o f le = (
  λ d. (d.0, (d.1.0, (f.knows d.1.0 (above n j m from f le d.1.0.stamp (past from to d.1.0.stamp d.1.3))).0 d.1.1, d.1.2, d.1.3)),
  λ d. (d.0, (d.1.0, (f.knows d.1.0 (above n j m from f le d.1.0.stamp (past from to d.1.0.stamp d.1.3))).1 d.1.1, d.1.2, d.1.3)),
)

pub omitted_set : (n : ℕ) (j : List Entry) (m : Logged) (from to : List ℕ) (names dark set : List Span) → IsLogOf n j m → Le m.cut from → IsOmittedSet dark set (IsOmittedIn m from to names) → IsOmittedSet dark set (IsOmitted j names from to)
omitted_set n j m from to names dark set f le s = elim s [
  | inl all ↦ inl (set_mapped set (IsOmittedIn m from to names) (IsOmitted j names from to) all (λ o name. omits n j m from to names o f le))
  | inr some ↦ inr (
    some.0,
    record {
      one_list = some.1.one_list;
      no_others = λ o name h. (omits n j m from to names o f le).0 (some.1.no_others o name h);
      many = some.1.many;
      all_many = λ fine is. some.1.all_many fine (set_mapped fine (IsOmitted j names from to) (IsOmittedIn m from to names) is (λ o name. ((omits n j m from to names o f le).1, (omits n j m from to names o f le).0)));
    },
  )
]

-- none of them is one of the stream's
pub omitted_apart : (m : Logged) (from to : List ℕ) (names dark set : List Span) → IsOmittedSet dark set (IsOmittedIn m from to names) → Meet (has set) (has names) → ⊥
omitted_apart m from to names dark set s (o, name, here, there) = elim s [
  | inl all ↦ false≢true (sym (all.no_others o name here).0 ∙ there)
  | inr some ↦ false≢true (sym (some.1.no_others o name here).0 ∙ there)
]

-- ---- some of the omitted names

omitted_only : (j : List Entry) (names : List Span) (v w : List ℕ) (dark omitted : List Span) (o : List ℕ) → IsName o → IsOmittedSet dark omitted (IsOmitted j names v w) → IsTrue (has omitted o) → IsOmitted j names v w o
omitted_only j names v w dark omitted o name s h = elim s [ inl all ↦ all.no_others o name h | inr some ↦ some.1.no_others o name h ]

-- where none is told, none is omitted
omitted_none : (j : List Entry) (names : List Span) (v w : List ℕ) (dark omitted : List Span) (o : List ℕ) → IsName o → IsOmittedSet dark omitted (IsOmitted j names v w) → ((p : List ℕ) → IsName p → IsTrue (has omitted p) → ⊥) → IsOmitted j names v w o → ⊥
omitted_none j names v w dark omitted o name s none is = elim s [
  | inl all ↦ none o name (all.has_them o name is)
  | inr some ↦ (let p = first_name omitted some.1.one_list (omega (arith, some.1.many)) in none p.0 p.1 p.2)
]
  where
    first_name : (ss : List Span) → IsSet ss → 0 < length ss → (x : List ℕ) × IsName x × IsTrue (has ss x)
    first_name [] one lt = absurd (omega arith)
    first_name (s ∷ ss) one lt = (s.lo, one.0.lo, holds_at s ss s.lo one.0 one.0.lo (omega arith) (span_some s one.0))

nothing : (ss : List Span) (A : Type 0) (o : List ℕ) → ss ≡ [] → IsTrue (has ss o) → A
nothing ss A o none h = absurd (false≢true (sym (ap (λ (l : List Span). has l o) none) ∙ h))

-- a target for some of many names is none of these alone
some_met : (n : ℕ) (j : List Entry) (names : List Span) (v w : List ℕ) (dark omitted target : List Span) → dark ≡ [] → IsSetOf dark (IsDarkBetween n j v w) → HasMany 16 omitted (IsOmitted j names v w) → IsTargetFor omitted dark names target → IsTarget n j names v w target
some_met n j names v w dark omitted target none d m is = elim is [
  | inl few ↦ absurd (omega (
    arith,
    few.1,
    m.many,
    ap (λ (l : List Span). length l) (same_list target omitted few.0.one_list m.one_list (λ o name. same_test (has target o) (has omitted o)
        (λ h. elim (few.0.no_others o name h) [ inl x ↦ nothing dark (IsTrue (has omitted o)) o none x | inr x ↦ x ])
        (λ h. few.0.has_them o name (inr h)))),
  ))
  | inr many ↦ inr (
    (λ fine f. m.all_many fine (record {
      one_list = f.one_list;
      has_them = λ o name t. f.has_them o name (inr t);
      no_others = λ o name i. elim (f.no_others o name i) [ inl x ↦ nothing dark (IsOmitted j names v w o) o none (d.has_them o name x) | inr x ↦ x ];
    })),
    record {
      one_list = many.1.one_list;
      has_them = λ o name t. many.1.has_them o name (elim t [ inl x ↦ inl x | inr x ↦ inr (d.has_them o name x) ]);
      no_others = λ o name i. elim (many.1.no_others o name i) [ inl x ↦ inl x | inr x ↦ inr (d.no_others o name x) ];
    },
  )
]
  where
    same_test : (a b : Bool) → (a ≡ true → b ≡ true) → (b ≡ true → a ≡ true) → a ≡ b
    same_test true b to from = sym (to refl)
    same_test false true to from = from refl
    same_test false false to from = refl

is_met : (n : ℕ) (j : List Entry) (names : List Span) (v w : List ℕ) (dark omitted target : List Span) → IsSetOf dark (IsDarkBetween n j v w) → IsOmittedSet dark omitted (IsOmitted j names v w) → IsTargetFor omitted dark names target → IsTarget n j names v w target
is_met n j names v w dark omitted target d s is = elim s [
  | inl all ↦ target_met n j names v w dark omitted target d all is
  | inr some ↦ some_met n j names v w dark omitted target some.0 d some.1 is
]

waits : (n : ℕ) (j : List Entry) (m : Logged) (pos : List ℕ) (names : List Span) (x : WriteRec) → IsLogOf n j m → Le m.cut pos → IsWaiting m.known pos names x ↔ IsWriteToSend j names pos x
waits n j m pos names x f le = (
  λ w. ((f.knows x (above n j m pos f le x.stamp w.2)).0 w.0, w.1, w.2),
  λ w. ((f.knows x (above n j m pos f le x.stamp w.2)).1 w.0, w.1, w.2),
)

next_is : (n : ℕ) (j : List Entry) (m : Logged) (pos : List ℕ) (names : List Span) (t : WriteRec) → IsLogOf n j m → Le m.cut pos → IsNextOf m.known pos names (Some t) → IsNextWrite j names pos t
next_is n j m pos names t f le s = ((waits n j m pos names t f le).0 s.0, λ y w. s.1 y ((waits n j m pos names y f le).1 w))

none_next : (n : ℕ) (j : List Entry) (m : Logged) (pos : List ℕ) (names : List Span) → IsLogOf n j m → Le m.cut pos → IsNextOf m.known pos names None → (x : WriteRec) → IsWriteToSend j names pos x → ⊥
none_next n j m pos names f le s x w = s x ((waits n j m pos names x f le).1 w)

-- ---- up to where a message may go

min_le : (c a b : ℕ) → c ≡ min a b → c ≤ a
min_le c a b e = grind arith

below_le : (v : List ℕ) (t : Point) (w : ℕ) → w < 32 → clock_of (below_of v t) w ≤ clock_of v w
below_le v t w lt = min_le (clock_of (below_of v t) w) (clock_of v w) (last_before t w) (clock_of-vector_of (λ n. min (clock_of v n) (last_before t n)) w lt)

join_below : (pos v : List ℕ) (t : Point) → Le (join_of pos (below_of v t)) (join_of pos v)
join_below pos v t w lt =
    let a : clock_of (join_of pos (below_of v t)) w ≡ max (clock_of pos w) (clock_of (below_of v t) w) = clock_of-vector_of (λ n. max (clock_of pos n) (clock_of (below_of v t) n)) w lt in
    let b : clock_of (join_of pos v) w ≡ max (clock_of pos w) (clock_of v w) = clock_of-vector_of (λ n. max (clock_of pos n) (clock_of v n)) w lt in
    let c : clock_of (below_of v t) w ≤ clock_of v w = below_le v t w lt in
    omega (arith, a, b, c)

pub up_to : (pos v below before now : List ℕ) (t : Point) → now ≡ v → below ≡ below_of now t → before ≡ join_of pos below → Le before (join_of pos v)
up_to pos v below before now t is b e = subst (λ (x : List ℕ). Le x (join_of pos v)) (sym (e ∙ ap (λ (x : List ℕ). join_of pos x) (b ∙ ap (λ (x : List ℕ). below_of x t) is))) (join_below pos v t)

-- ---- the invalidation

-- the names of which something is withheld by the journal
pub record IsFoundBetween (n : ℕ) (j : List Entry) (names : List Span) (v w : List ℕ) (found : Withheld) : Type 0 where
  pub dark : IsSetOf found.dark (IsDarkBetween n j v w)
  pub omitted : IsOmittedSet found.dark found.omitted (IsOmitted j names v w)

-- there is no write to send
pub sends_rest : (n : ℕ) (j : List Entry) (m : Logged) (names : List Span) (pos now to : List ℕ) (found : Withheld) (kind : Kind)
    → IsLogOf n j m → Le m.cut pos → IsNextOf m.known pos names None → now ≡ m.vector → to ≡ join_of pos now → IsFoundBetween n j names pos to found → IsImpreciseOf found names pos to kind → IsAhead n j names pos kind
sends_rest n j m names pos now to found (Imprecise from end target) f le none is e s k = (
  k.0,
  subst (λ (x : List ℕ). IsTarget n j names pos x target) (sym k.1) (is_met n j names pos to found.dark found.omitted target s.dark s.omitted k.2),
  inl (none_next n j m pos names f le none, k.1 ∙ e ∙ ap (λ (x : List ℕ). join_of pos x) (is ∙ f.vector)),
)
sends_rest n j m names pos now to found (Precise from end write) f le none is e s k = absurd k
sends_rest n j m names pos now to found (Checkpoint end target floor rows) f le none is e s k = absurd k
sends_rest n j m names pos now to found (Body name stamp bytes) f le none is e s k = absurd k

-- something is withheld before the next write
pub sends_before : (n : ℕ) (j : List Entry) (m : Logged) (names : List Span) (pos now below to : List ℕ) (t : WriteRec) (found : Withheld) (kind : Kind)
    → IsLogOf n j m → Le m.cut pos → IsNextOf m.known pos names (Some t) → now ≡ m.vector → below ≡ below_of now t.stamp → to ≡ join_of pos below → IsFoundBetween n j names pos to found
    → ((o : List ℕ) × IsName o × (IsTrue (has found.dark o) ⊎ IsTrue (has found.omitted o))) → IsImpreciseOf found names pos to kind → IsAhead n j names pos kind
sends_before n j m names pos now below to t found (Imprecise from end target) f le next is b e s some k = (
  k.0,
  subst (λ (x : List ℕ). IsTarget n j names pos x target) (sym k.1) (is_met n j names pos to found.dark found.omitted target s.dark s.omitted k.2),
  inr (
    t,
    next_is n j m pos names t f le next,
    k.1 ∙ e ∙ ap (λ (x : List ℕ). join_of pos x) (b ∙ ap (λ (x : List ℕ). below_of x t.stamp) (is ∙ f.vector)),
    (some.0, some.1, subst (λ (x : List ℕ). IsWithheld n j names pos x some.0) (sym k.1) (elim some.2 [ inl x ↦ inl (s.dark.no_others some.0 some.1 x) | inr x ↦ inr (omitted_only j names pos to found.dark found.omitted some.0 some.1 s.omitted x) ])),
  ),
)
sends_before n j m names pos now below to t found (Precise from end write) f le next is b e s some k = absurd k
sends_before n j m names pos now below to t found (Checkpoint end target floor rows) f le next is b e s some k = absurd k
sends_before n j m names pos now below to t found (Body name stamp bytes) f le next is b e s some k = absurd k

-- nothing is withheld before the next write
pub sends_write : (n : ℕ) (j : List Entry) (m : Logged) (names : List Span) (pos now below before cut to : List ℕ) (t : WriteRec) (found : Withheld) (kind : Kind)
    → IsLogOf n j m → Le m.cut pos → IsNextOf m.known pos names (Some t) → now ≡ m.vector → below ≡ below_of now t.stamp → before ≡ join_of pos below → IsFoundBetween n j names pos before found
    → ((o : List ℕ) → IsName o → (IsTrue (has found.dark o) ⊎ IsTrue (has found.omitted o)) → ⊥) → cut ≡ cut_of now t.stamp → to ≡ join_of pos cut → kind ≡ Precise pos to t → IsAhead n j names pos kind
sends_write n j m names pos now below before cut to t found kind f le next is b e s none c u k =
    let v : now ≡ current_vector j = is ∙ f.vector in
    subst (λ (x : Kind). IsAhead n j names pos x) (sym k) (
      refl,
      next_is n j m pos names t f le next,
      u ∙ ap (λ (x : List ℕ). join_of pos x) (c ∙ ap (λ (x : List ℕ). cut_of x t.stamp) v),
      λ o name w. elim (subst (λ (x : List ℕ). IsWithheld n j names pos x o) (sym (e ∙ ap (λ (x : List ℕ). join_of pos x) (b ∙ ap (λ (x : List ℕ). below_of x t.stamp) v))) w) [
        | inl d ↦ none o name (inl (s.dark.has_them o name d))
        | inr d ↦ omitted_none j names pos before found.dark found.omitted o name s.omitted (λ p hp h. none p hp (inr h)) d
      ],
    )
