-- The names that are dark or omitted between two vectors.
use Rattle.std.proofs.Common.{◌≡◌, ◌≢◌, ℕ, ◌<◌, ◌≤◌, ◌+◌, ◌⊎◌, inl, inr, List, [], ◌∷◌, Bool, true, false, refl, sym, subst, ◌∙◌, arith, length}
use Rattle.std.specs.Prelude.{Result, Ok, Err, IfOk, IsTrue, Option, None, Some, ◌||◌, ◌&&◌, not}
use Rattle.std.proofs.lemmas.Bool.Decides.{nat_tests}
use Rattle.std.proofs.lemmas.List.{get_or_past}
use Rattle.pr_stamps.specs.Point.{Point}
use Rattle.pr_names.specs.Name.{IsName}
use Rattle.pr_names.specs.Order.{name_lt}
use Rattle.pr_names.specs.Bound.{is_under, IsBound}
use Rattle.pr_names.proofs.Places.{lt_tells}
use Rattle.pr_names.specs.Above.{IsLeastAbove}
use Rattle.pr_names.specs.declared.bound.Bound.{Bound}
use Rattle.pr_names.specs.Span.{Span}
use Rattle.pr_sets.specs.Spans.{has, IsSet, IsSetOf, IsUnion}
use Rattle.pr_vectors.specs.Vector.{clock_of, Between}
use Rattle.pr_inval.specs.declared.kind.Kind.{Kind}
use Rattle.pr_inval.specs.declared.write_rec.WriteRec.{WriteRec}
use Rattle.pr_inval.specs.Points.{CoversPoint, is_invalidation, target_of}
use Rattle.pr_story.specs.declared.entry.Entry.{Entry}
use Rattle.pr_story.specs.declared.event.Event.{Event}
use Rattle.pr_story.specs.declared.event.Event.TheVariants.{Accepted}
use Rattle.pr_story.specs.History.{Accepts}
use Rattle.pr_story.specs.Knowledge.{HeardOf, Knows}
use Rattle.pr_story.specs.Told.{IsLit, IsDarkBetween}
use Rattle.pr_story.specs.Turns.{IsOmitted}
use Rattle.pr_story.specs.Search.{point, IsLitBy, IsUnlit, IsDarkUpTo, IsOmittedIn}
use Rattle.pr_story.specs.Withheld.{HasMore}
use Rattle.pr_story.proofs.Known.{known_told}
use Rattle.pr_story.proofs.Lit.{bool_cases}
use Rattle.pr_story.proofs.Sets.{name_order}

-- ---- sets

pub empty_of : (P : List ℕ → Type 0) → ((o : List ℕ) → IsName o → P o → ⊥) → IsSetOf [] P
empty_of P none = record { one_list = tt; has_them = λ o name p. absurd (none o name p); no_others = λ o name h. absurd (cc) }

pub same_set : (set : List Span) (P Q : List ℕ → Type 0) → ((o : List ℕ) → IsName o → P o → Q o) → ((o : List ℕ) → IsName o → Q o → P o) → IsSetOf set P → IsSetOf set Q
same_set set P Q f g so = record { one_list = so.one_list; has_them = λ o name q. so.has_them o name (g o name q); no_others = λ o name h. f o name (so.no_others o name h) }

either_so : (a b r : Bool) → r ≡ (a || b) → IsTrue r → IsTrue a ⊎ IsTrue b
either_so true b r e t = inl refl
either_so false b r e t = inr (sym e ∙ t)

so_either : (a b r : Bool) → r ≡ (a || b) → IsTrue a ⊎ IsTrue b → IsTrue r
so_either true b r e t = e
so_either false b r e t = elim t [ inl p ↦ absurd (cc) | inr p ↦ e ∙ p ]

pub union_of : (a b u : List Span) (P Q : List ℕ → Type 0) → IsSetOf a P → IsSetOf b Q → IsUnion a b u → IsSetOf u (λ o. P o ⊎ Q o)
union_of a b u P Q p q is = record {
  one_list = is.set;
  has_them = λ o name s. so_either (has a o) (has b o) (has u o) (is.names o name) (elim s [ inl x ↦ inl (p.has_them o name x) | inr x ↦ inr (q.has_them o name x) ]);
  no_others = λ o name h. elim (either_so (has a o) (has b o) (has u o) (is.names o name) h) [ inl x ↦ inl (p.no_others o name x) | inr x ↦ inr (q.no_others o name x) ];
}

pub and_false : (b : Bool) → (b && false) ≡ false
and_false true = refl
and_false false = refl

pub if_ok : {X E : Type 0} (r : Result X E) (P Q : X → Type 0) → ((x : X) → P x → Q x) → IfOk r P → IfOk r Q
if_ok (Ok x) P Q f p = f x p
if_ok (Err e) P Q f p = tt

-- ---- lit names

accepts_one : (event : Event) (k l : Kind) → Accepts event k → Accepts event l → k ≡ l
accepts_one (Accepted msg at) k l a b = sym a ∙ b
accepts_one _ k l a b = absurd a

both_false : (a b : Bool) → (a && b) ≡ false → (a ≡ false) ⊎ (b ≡ false)
both_false true b e = inr e
both_false false b e = inl refl

false_both : (a b : Bool) → (a ≡ false) ⊎ (b ≡ false) → (a && b) ≡ false
false_both true b e = elim e [ inl p ↦ absurd (cc) | inr p ↦ p ]
false_both false b e = refl

-- one invalidation more lights all but the names of its target
pub unlit_more : (e : Entry) (j : List Entry) (k : Kind) (p : Point) (dark now : List Span) → Accepts e.event k → IsTrue (is_invalidation k) → CoversPoint k p → IsSet now
    → ((o : List ℕ) → IsName o → has now o ≡ (has dark o && has (target_of k) o)) → IsUnlit j p dark → IsUnlit (e ∷ j) p now
unlit_more e j k p dark now a inv covers set names was = (
  set,
  λ o name. (
    λ out. elim (both_false (has dark o) (has (target_of k) o) (sym (names o name) ∙ out)) [
      | inl old ↦ let l = (was.1 o name).0 old in (l.0, inr l.1, l.2, l.3, l.4)
      | inr lacks ↦ (k, inl a, inv, covers, lacks)
    ],
    λ lit. names o name ∙ false_both (has dark o) (has (target_of k) o) (elim lit.1 [
      | inl here ↦ inr (subst (λ (l : Kind). has (target_of l) o ≡ false) (accepts_one e.event lit.0 k here a) lit.4)
      | inr old ↦ inl ((was.1 o name).1 (lit.0, old, lit.2, lit.3, lit.4))
    ]),
  ),
)

-- before any entry nothing is lit
pub unlit_none : (p : Point) (all : List Span) → IsSet all → ((o : List ℕ) → IsName o → has all o ≡ true) → IsUnlit [] p all
unlit_none p all set names = (set, λ o name. (λ out. let in_it : has all o ≡ true = names o name in absurd (cc), λ lit. absurd lit.1))

-- what is not lit, at a point of another node
pub dark_of : (n : ℕ) (j : List Entry) (p q : Point) (set : List Span) → p ≡ q → q.node ≢ n → IsUnlit j p set → IsSetOf set (λ o. ¬ IsLit n j o q)
dark_of n j p q set same other was = record {
  one_list = was.0;
  has_them = λ o name dark. elim (bool_cases (has set o)) [ inl h ↦ h | inr out ↦ absurd (dark (inr (subst (λ (r : Point). IsLitBy j o r) same ((was.1 o name).0 out)))) ];
  no_others = λ o name h lit. elim lit [
    | inl own ↦ other own
    | inr by ↦ let out : has set o ≡ false = (was.1 o name).1 (subst (λ (r : Point). IsLitBy j o r) (sym same) by) in cc
  ];
}

-- ---- the points between

-- up to a clock of one node
abbrev pub IsDarkBelow : ℕ → List Entry → List ℕ → ℕ → ℕ → List ℕ → Type 0
IsDarkBelow n j v w b o = (c : ℕ) × (clock_of v w < c) × (c ≤ b) × ¬ IsLit n j o (point c w)

next_or : (c b : ℕ) → c ≤ b + 1 → (c ≤ b) ⊎ (c ≡ b + 1)
next_or c b le = grind (arith, nat_tests)

pub clock_more : (n : ℕ) (j : List Entry) (v : List ℕ) (w b : ℕ) (was here now : List Span) → clock_of v w ≤ b → IsSetOf was (IsDarkBelow n j v w b) → IsSetOf here (λ o. ¬ IsLit n j o (point (b + 1) w)) → IsUnion was here now
    → IsSetOf now (IsDarkBelow n j v w (b + 1))
clock_more n j v w b was here now low old new is =
    same_set now (λ o. IsDarkBelow n j v w b o ⊎ ¬ IsLit n j o (point (b + 1) w)) (IsDarkBelow n j v w (b + 1))
    (λ o name s. elim s [ inl d ↦ let le : d.0 ≤ b = d.2 in (d.0, d.1, omega arith, d.3) | inr d ↦ (b + 1, omega arith, omega arith, d) ])
    (λ o name d. elim (next_or d.0 b d.2) [ inl le ↦ inl (d.0, d.1, le, d.3) | inr same ↦ inr (subst (λ (c : ℕ). IsLit n j o (point c w) → ⊥) same d.3) ])
    (union_of was here now _ _ old new is)

pub clocks_all : (n : ℕ) (j : List Entry) (v u : List ℕ) (w b most : ℕ) (set : List Span) → most ≡ clock_of u w → (b ≤ most) ⊎ (b ≡ clock_of v w) → most ≤ b → IsSetOf set (IsDarkBelow n j v w b) → IsSetOf set (IsDarkUpTo n j v u w (w + 1))
clocks_all n j v u w b most set is range end so =
    same_set set (IsDarkBelow n j v w b) (IsDarkUpTo n j v u w (w + 1))
    (λ o name d. let lt : clock_of v w < d.0 = d.1 in let le : d.0 ≤ b = d.2 in (point d.0 w, omega arith, omega arith, (lt, upto d.0 (clock_of v w) (clock_of u w) b most is range lt le), d.3))
    (λ o name d.
    let node : d.0.node ≡ w = at_node d.0.node w d.1 d.2 in
    let past : clock_of v d.0.node < d.0.clock = d.3.0 in
    let reach : d.0.clock ≤ clock_of u d.0.node = d.3.1 in (
      d.0.clock,
      subst (λ (m : ℕ). clock_of v m < d.0.clock) node past,
      within d.0.clock (clock_of u w) b most is (subst (λ (m : ℕ). d.0.clock ≤ clock_of u m) node reach) end,
      subst (λ (m : ℕ). IsLit n j o (point d.0.clock m) → ⊥) node d.4,
    ))
    so
  where
    upto : (c a t b most : ℕ) → most ≡ t → (b ≤ most) ⊎ (b ≡ a) → a < c → c ≤ b → c ≤ t
    upto c a t b most e r lt le = grind arith

    at_node : (m w : ℕ) → w ≤ m → m < w + 1 → m ≡ w
    at_node m w le lt = omega arith

    within : (c t b most : ℕ) → most ≡ t → c ≤ t → most ≤ b → c ≤ b
    within c t b most e le lt = omega arith

pub node_more : (n : ℕ) (j : List Entry) (v u : List ℕ) (w : ℕ) (was here now : List Span) → IsSetOf was (IsDarkUpTo n j v u 0 w) → IsSetOf here (IsDarkUpTo n j v u w (w + 1)) → IsUnion was here now → IsSetOf now (IsDarkUpTo n j v u 0 (w + 1))
node_more n j v u w was here now old new is =
    same_set now (λ o. IsDarkUpTo n j v u 0 w o ⊎ IsDarkUpTo n j v u w (w + 1) o) (IsDarkUpTo n j v u 0 (w + 1))
    (λ o name s. elim s [
      | inl d ↦ let lt : d.0.node < w = d.2 in (d.0, omega arith, omega arith, d.3, d.4)
      | inr d ↦ (d.0, omega arith, d.2, d.3, d.4)
    ])
    (λ o name d. elim (less_or d.0.node w) [ inl lt ↦ inl (d.0, d.1, lt, d.3, d.4) | inr le ↦ inr (d.0, le, d.2, d.3, d.4) ])
    (union_of was here now _ _ old new is)
  where
    less_or : (a b : ℕ) → (a < b) ⊎ (b ≤ a)
    less_or a b = grind (arith, nat_tests)

pub nodes_all : (n : ℕ) (j : List Entry) (v u : List ℕ) (w : ℕ) (set : List Span) → length u ≡ 32 → 32 ≤ w → IsSetOf set (IsDarkUpTo n j v u 0 w) → IsSetOf set (IsDarkBetween n j v u)
nodes_all n j v u w set long end so =
    same_set set (IsDarkUpTo n j v u 0 w) (IsDarkBetween n j v u)
    (λ o name d. (d.0, d.3, d.4))
    (λ o name d. elim (less_or d.0.node w) [
      | inl lt ↦ (d.0, omega arith, lt, d.1, d.2)
      | inr le ↦
          let z : clock_of u d.0.node ≡ 0 = get_or_past u d.0.node 0 (omega arith) in
          let past : clock_of v d.0.node < d.0.clock = d.1.0 in
          let reach : d.0.clock ≤ clock_of u d.0.node = d.1.1 in
          absurd (omega arith)
    ])
    so
  where
    less_or : (a b : ℕ) → (a < b) ⊎ (b ≤ a)
    less_or a b = grind (arith, nat_tests)

-- ---- one name

holds_how : (a b : Bool) → IsTrue ((not a && b) || false) → (a ≡ false) × (b ≡ true)
holds_how true b e = absurd (cc)
holds_how false true e = (refl, refl)
holds_how false false e = absurd (cc)

holds_so : (a b : Bool) → a ≡ false → b ≡ true → IsTrue ((not a && b) || false)
holds_so true b e f = absurd (cc)
holds_so false true e f = refl
holds_so false false e f = absurd (cc)

not_so : (b : Bool) → b ≡ false → IsTrue (not b)
not_so true e = absurd (cc)
not_so false e = refl

so_not : (b : Bool) → IsTrue (not b) → b ≡ true → ⊥
so_not true e f = cc
so_not false e f = cc

not_itself : (n : List ℕ) → IsName n → name_lt n n ≡ false
not_itself n name = elim (lt_tells n n name name) [ inl t ↦ absurd (omega (arith, t.1)) | inr f ↦ f.0 ]

pub itself_under : (n : List ℕ) (hi : Bound) → IsName n → IsLeastAbove n hi → is_under n hi ≡ true
itself_under n hi name least = elim (bool_cases (is_under n hi)) [
  | inl under ↦ under
  | inr out ↦ let lt : name_lt n n ≡ true = (least n name).1 (not_so (is_under n hi) out) in let not_lt : name_lt n n ≡ false = not_itself n name in absurd (cc)
]

pub only_set : (n : List ℕ) (hi : Bound) (part : Span) → IsName n → IsBound hi → IsLeastAbove n hi → part ≡ record { lo = n; hi = hi } → IsSetOf (part ∷ []) (λ o. o ≡ n)
only_set n hi part name bound least is = subst (λ (s : Span). IsSetOf (s ∷ []) (λ o. o ≡ n)) (sym is) (record {
  one_list = (record { lo = name; hi = bound; some = itself_under n hi name least }, tt, tt);
  has_them = λ o named same. subst (λ (x : List ℕ). IsTrue ((not (name_lt x n) && is_under x hi) || false)) (sym same) (holds_so (name_lt n n) (is_under n hi) (not_itself n name) (itself_under n hi name least));
  no_others = λ o named h.
      let t : (name_lt o n ≡ false) × (is_under o hi ≡ true) = holds_how (name_lt o n) (is_under o hi) h in
      name_order o n t.0 (elim (bool_cases (name_lt n o)) [ inl lt ↦ absurd (so_not (is_under o hi) ((least o named).0 lt) t.1) | inr not_lt ↦ not_lt ]);
})

pub more_names : (was one more : List Span) (n : List ℕ) → IsSetOf one (λ o. o ≡ n) → IsUnion was one more → HasMore was (Some n) more
more_names was one more n so is = (
  is.set,
  λ o name. (
    λ h. elim (either_so (has was o) (has one o) (has more o) (is.names o name) h) [ inl x ↦ inl x | inr x ↦ inr (so.no_others o name x) ],
    λ s. so_either (has was o) (has one o) (has more o) (is.names o name) (elim s [ inl x ↦ inl x | inr x ↦ inr (so.has_them o name x) ]),
  ),
)

-- ---- omitted names

-- the set has the omitted names of those writes that the entries d tell of, and has omitted names alone
pub record AreOmitted (j d : List Entry) (names : List Span) (v w : List ℕ) (set : List Span) : Type 0 where
  pub one : IsSet set
  pub sound : (o : List ℕ) → IsName o → IsTrue (has set o) → IsOmitted j names v w o
  pub all : (x : WriteRec) → IsName x.name → HeardOf d x → Knows j x → has names x.name ≡ false → Between v w x.stamp → IsTrue (has set x.name)

pub omitted_none : (j : List Entry) (names : List Span) (v w : List ℕ) → AreOmitted j [] names v w []
omitted_none j names v w = record { one = tt; sound = λ o name h. absurd (cc); all = λ x name t k out b. absurd t }

pub omitted_more : (j d : List Entry) (e : Entry) (names : List Span) (v w : List ℕ) (was more : List Span) (r : Option (List ℕ)) → IsOmittedIn j e.event names v w r → HasMore was r more
    → AreOmitted j d names v w was → AreOmitted j (e ∷ d) names v w more
omitted_more j d e names v w was more None here same old = subst (λ (set : List Span). AreOmitted j (e ∷ d) names v w set) (sym same) (record {
  one = old.one;
  sound = old.sound;
  all = λ x name t k out b. elim t [ inl now ↦ absurd (here x now k out b) | inr past ↦ old.all x name past k out b ];
})
omitted_more j d e names v w was more (Some n) here has_more old = record {
  one = has_more.0;
  sound = λ o name h. elim ((has_more.1 o name).0 h) [ inl x ↦ old.sound o name x | inr x ↦ subst (λ (q : List ℕ). IsOmitted j names v w q) (sym x) here.1 ];
  all = λ x name t k out b. elim t [
    | inl now ↦ (has_more.1 x.name name).1 (inr (here.2 x now k))
    | inr past ↦ (has_more.1 x.name name).1 (inl (old.all x name past k out b))
  ];
}

pub omitted_all : (j : List Entry) (names : List Span) (v w : List ℕ) (set : List Span) → AreOmitted j j names v w set → IsSetOf set (IsOmitted j names v w)
omitted_all j names v w set so = record {
  one_list = so.one;
  has_them = λ o name p.
      let x : WriteRec = p.1.0 in
      let e : x.name ≡ o = p.1.2 in
      subst (λ (q : List ℕ). IsTrue (has set q)) e (so.all x (subst (λ (q : List ℕ). IsName q) (sym e) name) (known_told j x p.1.1) p.1.1 (subst (λ (q : List ℕ). has names q ≡ false) (sym e) p.0) p.1.3);
  no_others = λ o name h. so.sound o name h;
}
