-- Where the first names of a set have many intervals, all of them have many.
use Rattle.std.proofs.Common.{Result, Ok, Err, ◌≡◌, ℕ, ◌≤◌, ◌<◌, ◌+◌, List, [], ◌∷◌, length, Bool, true, false, refl, sym, ◌∙◌, ap, subst, arith, inl, inr, Some, ◌||◌, ◌&&◌, not, Less}
use Rattle.std.specs.Prelude.{◌⊎◌, ◌↔◌, IsTrue}
use Rattle.std.specs.List.{AllByRecursion}
use Rattle.std.specs.List.Sorted.{IsStrictlySortedBy}
use Rattle.std.specs.Result.{IfOk}
use Rattle.std.specs.Str.{bytes_eq}
use Rattle.std.specs.Cmp.Lexicographic.{slice_cmp}
use Rattle.std.specs.Map.{keys_of}
use Rattle.std.specs.Ordering.{nat_cmp}
use Rattle.std.proofs.lemmas.Bool.{false≢true}
use Rattle.std.proofs.lemmas.Bool.Decides.{nat_tests}
use Rattle.std.proofs.lemmas.Slice.Eq.{bytes_eq-Decides}
use Rattle.pr_names.specs.Name.{IsName}
use Rattle.pr_names.specs.Span.{Span}
use Rattle.pr_names.proofs.Place.{place, from_place, to_place}
use Rattle.pr_names.proofs.Places.{bound_most, cmp_place, span_some, trichotomy}
use Rattle.pr_sets.specs.Spans.{has, IsSet, IsSetOf}
use Rattle.pr_sets.proofs.Apart.{Apart, apart_of}
use Rattle.pr_sets.proofs.Same.{has_from, holds_at, holds_not, is_reached, none_before}
use Rattle.pr_vectors.specs.Vector.{clock_of}
use Rattle.pr_inval.specs.declared.write_rec.WriteRec.{WriteRec}
use Rattle.pr_log.specs.Known.{Has, IsByStamp, IsOmittedBetween, row_of}
use Rattle.pr_log.specs.Latest.{AreLatest, IsAbove, IsWrittenAbove, WroteAbove, clock_by}
use Rattle.pr_log.specs.Many.{HasMany, IsSetWithin}
use Rattle.pr_log.proofs.Clocks.{some_none}
use Rattle.pr_log.proofs.LastClocks.{IsGatheredSofar, all_gathered, first_or_rest, gathered_more, gathered_past, kept_above, none_gathered, written_above}
use Rattle.pr_log.proofs.Names.{either_test}
use Rattle.pr_log.proofs.Omitted.{named}
use Rattle.pr_log.proofs.Past.{above_in, above_of}

-- ---- the first names of a set have no more intervals than all

-- the names of the one are the first of the other
record IsFront (a b : List Span) : Type 0 where
  within : (x : List ℕ) → IsName x → has a x ≡ true → has b x ≡ true
  first : (x y : List ℕ) → IsName x → IsName y → has a x ≡ true → has b y ≡ true → place y ≤ place x → has a y ≡ true

begins : (p : ℕ) (s : Span) (ss : List Span) → Apart p (s ∷ ss) → has (s ∷ ss) s.lo ≡ true
begins p s ss h = holds_at s ss s.lo h.1 h.1.lo (omega arith) (span_some s h.1)

-- a name where an interval ends
ends : (p : ℕ) (s : Span) (ss : List Span) (x : List ℕ) → Apart p (s ∷ ss) → IsName x → place x ≡ to_place s → has (s ∷ ss) x ≡ false
ends p s ss x h hx is = holds_not s ss x h.1 hx (omega (arith, is)) ∙ none_before (to_place s + 1) ss x h.2 hx (omega (arith, is))

same_begin : (p q : ℕ) (s t : Span) (ss ts : List Span) → Apart p (s ∷ ss) → Apart q (t ∷ ts) → IsFront (s ∷ ss) (t ∷ ts) → from_place s ≡ from_place t
same_begin p q s t ss ts ha hb f =
    let one : from_place t ≤ from_place s = has_from (from_place t) (t ∷ ts) s.lo (omega arith, hb.1, hb.2) ha.1.lo (f.within s.lo ha.1.lo (begins p s ss ha)) in
    let other : from_place s ≤ from_place t = has_from (from_place s) (s ∷ ss) t.lo (omega arith, ha.1, ha.2) hb.1.lo (f.first s.lo t.lo ha.1.lo hb.1.lo (begins p s ss ha) (begins q t ts hb) one) in
    omega (arith, one, other)

-- the first interval of the front does not end later
no_later : (p q : ℕ) (s t : Span) (ss ts : List Span) → Apart p (s ∷ ss) → Apart q (t ∷ ts) → IsFront (s ∷ ss) (t ∷ ts) → from_place s ≡ from_place t → to_place t < to_place s → ⊥
no_later p q s t ss ts ha hb f lo less =
    let w = is_reached t.hi (to_place s) hb.1.hi less (bound_most s.hi ha.1.hi) in
    let held : has (s ∷ ss) w.0 ≡ true = holds_at s ss w.0 ha.1 w.1 (omega (arith, w.2, lo, span_some t hb.1)) (omega (arith, w.2, less)) in
    false≢true (sym (ends q t ts w.0 hb w.1 w.2) ∙ f.within w.0 w.1 held)

-- where it ends earlier, it is the last
is_last : (p q : ℕ) (s t : Span) (ss ts : List Span) → Apart p (s ∷ ss) → Apart q (t ∷ ts) → IsFront (s ∷ ss) (t ∷ ts) → from_place s ≡ from_place t → to_place s < to_place t → length ss ≡ 0
is_last p q s t [] ts ha hb f lo less = refl
is_last p q s t (u ∷ us) ts ha hb f lo less =
    let w = is_reached s.hi (to_place t) ha.1.hi less (bound_most t.hi hb.1.hi) in
    let held : has (t ∷ ts) w.0 ≡ true = holds_at t ts w.0 hb.1 w.1 (omega (arith, w.2, lo, span_some s ha.1)) (omega (arith, w.2, less)) in
    let next : has (s ∷ (u ∷ us)) u.lo ≡ true = holds_not s (u ∷ us) u.lo ha.1 ha.2.1.lo (omega (arith, ha.2.0)) ∙ begins (to_place s + 1) u us ha.2 in
    absurd (false≢true (sym (ends p s (u ∷ us) w.0 ha w.1 w.2) ∙ f.first u.lo w.0 ha.2.1.lo w.1 next held (omega (arith, w.2, ha.2.0))))

rest_front : (p q : ℕ) (s t : Span) (ss ts : List Span) → Apart p (s ∷ ss) → Apart q (t ∷ ts) → IsFront (s ∷ ss) (t ∷ ts) → to_place s ≡ to_place t → IsFront ss ts
rest_front p q s t ss ts ha hb f same = record {
  within = λ x hx h.
      let from = has_from (to_place s + 1) ss x ha.2 hx h in
      sym (holds_not t ts x hb.1 hx (omega (arith, from, same))) ∙ f.within x hx (holds_not s ss x ha.1 hx (omega (arith, from)) ∙ h);
  first = λ x y hx hy hs ht le.
      let from = has_from (to_place s + 1) ss x ha.2 hx hs in
      let to = has_from (to_place t + 1) ts y hb.2 hy ht in
      sym (holds_not s ss y ha.1 hy (omega (arith, to, same)))
      ∙ f.first x y hx hy (holds_not s ss x ha.1 hx (omega (arith, from)) ∙ hs) (holds_not t ts y hb.1 hy (omega (arith, to)) ∙ ht) le;
}

front_few : (p q : ℕ) (a b : List Span) → Apart p a → Apart q b → IsFront a b → length a ≤ length b
front_few p q [] b ha hb f = omega arith
front_few p q (s ∷ ss) [] ha hb f = absurd (false≢true (f.within s.lo ha.1.lo (begins p s ss ha)))
front_few p q (s ∷ ss) (t ∷ ts) ha hb f =
    let lo : from_place s ≡ from_place t = same_begin p q s t ss ts ha hb f in
    elim (trichotomy (to_place s) (to_place t)) [
      | inl less ↦ omega (arith, is_last p q s t ss ts ha hb f lo less)
      | inr rest ↦ elim rest [
        | inl same ↦ omega (arith, front_few (to_place s + 1) (to_place t + 1) ss ts ha.2 hb.2 (rest_front p q s t ss ts ha hb f same))
        | inr more ↦ absurd (no_later p q s t ss ts ha hb f lo more)
      ]
    ]

many_front : (most : ℕ) (set : List Span) (test : List ℕ → Type 0) → IsSet set → most < length set → ((o : List ℕ) → IsName o → IsTrue (has set o) → test o) → ((x y : List ℕ) → IsName x → IsName y → has set x ≡ true → test y → place y ≤ place x → has set y ≡ true) → HasMany most set test
many_front most set test one more sound first = record {
  one_list = one;
  no_others = sound;
  many = more;
  all_many = λ fine is. omega (
    arith,
    more,
    front_few 0 0 set fine (apart_of set one) (apart_of fine is.one_list) (record {
      within = λ x hx h. is.has_them x hx (sound x hx h);
      first = λ x y hx hy held h le. first x y hx hy held (is.no_others y hy h) le;
    }),
  );
}

-- ---- the same of another condition

mapped_set : (set : List Span) (P Q : List ℕ → Type 0) → ((o : List ℕ) → IsName o → P o ↔ Q o) → IsSetOf set P → IsSetOf set Q
mapped_set set P Q each s = record {
  one_list = s.one_list;
  has_them = λ o name q. s.has_them o name ((each o name).1 q);
  no_others = λ o name h. (each o name).0 (s.no_others o name h);
}

pub within_mapped : (most : ℕ) (set : List Span) (P Q : List ℕ → Type 0) → ((o : List ℕ) → IsName o → P o ↔ Q o) → IsSetWithin most set P → IsSetWithin most set Q
within_mapped most set P Q each is = elim is [
  | inl s ↦ inl (mapped_set set P Q each s)
  | inr m ↦ inr (record {
    one_list = m.one_list;
    no_others = λ o name h. (each o name).0 (m.no_others o name h);
    many = m.many;
    all_many = λ fine s. m.all_many fine (mapped_set fine Q P (λ o name. ((each o name).1, (each o name).0)) s);
  })
]

-- ---- a walk over the clocks that may end early

-- what is there so far is what is to be there of the names before those that are left
pub record IsFirstSofar (es left : List (List ℕ × ℕ)) (sub : List Span) (c : ℕ) (set : List Span) : Type 0 where
  pub gathered : (o : List ℕ) → IsName o → IsGatheredSofar es left sub c o false (has set o)
  pub rise : IsStrictlySortedBy (slice_cmp nat_cmp) (keys_of left)
  pub before : (o : List ℕ) → IsName o → has set o ≡ true → AllByRecursion (λ (y : List ℕ). slice_cmp nat_cmp o y ≡ Less) (keys_of left)

pub first_start : (es : List (List ℕ × ℕ)) (sub : List Span) (c : ℕ) → IsStrictlySortedBy (slice_cmp nat_cmp) (keys_of es) → IsFirstSofar es es sub c []
first_start es sub c rise = record {
  gathered = λ o name. none_gathered es sub c o false;
  rise = rise;
  before = λ o name h. absurd (false≢true h);
}

rise_rest : (left rest : List (List ℕ × ℕ)) (name : List ℕ) (last : ℕ) → left ≡ (name, last) ∷ rest → IsStrictlySortedBy (slice_cmp nat_cmp) (keys_of left) → AllByRecursion (λ (y : List ℕ). slice_cmp nat_cmp name y ≡ Less) (keys_of rest) × IsStrictlySortedBy (slice_cmp nat_cmp) (keys_of rest)
unfolding IsStrictlySortedBy
rise_rest left rest name last is rise = subst (λ (es : List (List ℕ × ℕ)). IsStrictlySortedBy (slice_cmp nat_cmp) (keys_of es)) is rise

before_rest : (left rest : List (List ℕ × ℕ)) (name o : List ℕ) (last : ℕ) → left ≡ (name, last) ∷ rest → AllByRecursion (λ (y : List ℕ). slice_cmp nat_cmp o y ≡ Less) (keys_of left) → AllByRecursion (λ (y : List ℕ). slice_cmp nat_cmp o y ≡ Less) (keys_of rest)
before_rest left rest name o last is before = (subst (λ (es : List (List ℕ × ℕ)). AllByRecursion (λ (y : List ℕ). slice_cmp nat_cmp o y ≡ Less) (keys_of es)) is before).1

pub first_more : (es left rest : List (List ℕ × ℕ)) (sub : List Span) (c last : ℕ) (name : List ℕ) (set now : List Span) → left ≡ (name, last) ∷ rest → clock_by es name ≡ Some last → c < last → ((o : List ℕ) → IsName o → has now o ≡ (has set o || (bytes_eq name o && not (has sub name)))) → IsFirstSofar es left sub c set → IsFirstSofar es rest sub c now
first_more es left rest sub c last name set now is here past puts s = record {
  gathered = λ o ho. gathered_more es left rest sub c last name o false (has set o) (has now o) is here past (puts o ho) (s.gathered o ho);
  rise = (rise_rest left rest name last is s.rise).1;
  before = λ o ho h. elim (either_test (has set o)) [
    | inl old ↦ before_rest left rest name o last is (s.before o ho old)
    | inr new ↦
        let k = named (has set o) (bytes_eq name o) (has sub name) (sym (puts o ho) ∙ h) new in
        subst (λ (x : List ℕ). AllByRecursion (λ (y : List ℕ). slice_cmp nat_cmp x y ≡ Less) (keys_of rest)) ((bytes_eq-Decides name o).0 k.0) (rise_rest left rest name last is s.rise).0
  ];
}

pub first_past : (es left rest : List (List ℕ × ℕ)) (sub : List Span) (c last : ℕ) (name : List ℕ) (set : List Span) → left ≡ (name, last) ∷ rest → last ≤ c → IsFirstSofar es left sub c set → IsFirstSofar es rest sub c set
first_past es left rest sub c last name set is within s = record {
  gathered = λ o ho. gathered_past es left rest sub c last name o false (has set o) is within (s.gathered o ho);
  rise = (rise_rest left rest name last is s.rise).1;
  before = λ o ho h. before_rest left rest name o last is (s.before o ho h);
}

is_sound : (es left : List (List ℕ × ℕ)) (sub : List Span) (c : ℕ) (set : List Span) (o : List ℕ) → IsName o → IsFirstSofar es left sub c set → has set o ≡ true → (has sub o ≡ false) × IsAbove es c o
is_sound es left sub c set o ho s h = elim ((s.gathered o ho).sound h) [ inl none ↦ absurd (false≢true none) | inr is ↦ is ]

-- all are there
pub first_all : (es left : List (List ℕ × ℕ)) (sub : List Span) (c : ℕ) (set : List Span) → left ≡ [] → IsSet set → IsFirstSofar es left sub c set → IsSetOf set (λ o. (has sub o ≡ false) × IsAbove es c o)
first_all es left sub c set end one s = record {
  one_list = one;
  has_them = λ o ho is. (all_gathered es left sub c o false (has set o) end (s.gathered o ho)).1 (inr is);
  no_others = λ o ho h. is_sound es left sub c set o ho s h;
}

cmp_less : (m n : ℕ) → nat_cmp m n ≡ Less → m < n
cmp_less m n h = grind (arith, nat_tests)

before_places : (left : List (List ℕ × ℕ)) (x y : List ℕ) (c : ℕ) → IsName x → IsName y → AllByRecursion (λ (o : List ℕ). slice_cmp nat_cmp x o ≡ Less) (keys_of left) → IsAbove left c y → place x < place y
before_places [] x y c hx hy before (k, at, past) = absurd (some_none k (sym at))
before_places ((name, last) ∷ es) x y c hx hy before above = elim (first_or_rest ((name, last) ∷ es) es name y last c refl above) [
  | inl this ↦ cmp_less (place x) (place y) (sym (cmp_place x y hx hy) ∙ ap (slice_cmp nat_cmp x) (sym this.0) ∙ before.0)
  | inr more ↦ before_places es x y c hx hy before.1 more
]

-- there are many
pub first_many : (most : ℕ) (es left : List (List ℕ × ℕ)) (sub : List Span) (c : ℕ) (set : List Span) → most < length set → IsSet set → IsFirstSofar es left sub c set → HasMany most set (λ o. (has sub o ≡ false) × IsAbove es c o)
first_many most es left sub c set more one s =
    many_front most set (λ o. (has sub o ≡ false) × IsAbove es c o) one more (λ o ho h. is_sound es left sub c set o ho s h)
    (λ x y hx hy held is le. elim ((s.gathered y hy).all is.0 is.1) [
      | inl there ↦ there
      | inr later ↦ absurd (omega (arith, le, before_places left x y c hx hy (s.before x hx held) later))
    ])

-- ---- one node alone has points between the vectors

alone_omits : (rows : List (List (ℕ × WriteRec))) (from to : List ℕ) (sub : List Span) (n : ℕ) (o : List ℕ) → IsByStamp rows → ((k : ℕ) → k < 32 → clock_of from k < clock_of to k → k ≡ n) → ((x : WriteRec) → Has rows x → x.stamp.node ≡ n → x.stamp.clock ≤ clock_of to n) → ((has sub o ≡ false) × WroteAbove rows n (clock_of from n) o) ↔ IsOmittedBetween rows from to sub o
alone_omits rows from to sub n o by_stamp alone up_to = (
  (λ (out, (x, known, node, name, past)).
      (out, (x, known, name, (subst (λ k. clock_of from k < x.stamp.clock) (sym node) past, subst (λ k. x.stamp.clock ≤ clock_of to k) (sym node) (up_to x known node))))),
  (λ (out, (x, known, name, between)).
      let node : x.stamp.node ≡ n = alone x.stamp.node (by_stamp x.stamp x known).1.known_node (omega (arith, between.0, between.1)) in
      (out, (x, known, node, name, subst (λ k. clock_of from k < x.stamp.clock) node between.0))),
)

-- ---- what the calls give

pub row_within : {E : Type 0} (r : Result (List Span) E) (most c : ℕ) (row : List (ℕ × WriteRec)) (clocks : List (List ℕ × ℕ)) (sub : List Span) → AreLatest row clocks → IfOk r (λ set. IsSetWithin most set (λ o. (has sub o ≡ false) × IsAbove clocks c o)) → IfOk r (λ set. IsSetWithin most set (λ o. (has sub o ≡ false) × IsWrittenAbove row c o))
row_within (Ok set) most c row clocks sub are is = within_mapped most set (λ o. (has sub o ≡ false) × IsAbove clocks c o) (λ o. (has sub o ≡ false) × IsWrittenAbove row c o) (λ o name. (
  (λ t. (t.0, written_above row clocks c o are t.1)),
  (λ t. (t.0, kept_above row clocks c o are t.1)),
)) is
row_within (Err e) most c row clocks sub are is = tt

pub node_within : {E : Type 0} (r : Result (List Span) E) (most : ℕ) (rows : List (List (ℕ × WriteRec))) (n c : ℕ) (row : List (ℕ × WriteRec)) (sub : List Span) → IsByStamp rows → row ≡ row_of rows n → IfOk r (λ set. IsSetWithin most set (λ o. (has sub o ≡ false) × IsWrittenAbove row c o)) → IfOk r (λ set. IsSetWithin most set (λ o. (has sub o ≡ false) × WroteAbove rows n c o))
node_within (Ok set) most rows n c row sub by_stamp row_is is = within_mapped most set (λ o. (has sub o ≡ false) × IsWrittenAbove row c o) (λ o. (has sub o ≡ false) × WroteAbove rows n c o) (λ o name. (
  (λ t. (t.0, above_of rows n c row o by_stamp row_is t.1)),
  (λ t. (t.0, above_in rows n c row o row_is t.1)),
)) is
node_within (Err e) most rows n c row sub by_stamp row_is is = tt

pub alone_within : {E : Type 0} (r : Result (List Span) E) (most : ℕ) (rows : List (List (ℕ × WriteRec))) (from to : List ℕ) (sub : List Span) (n : ℕ) → IsByStamp rows → ((k : ℕ) → k < 32 → clock_of from k < clock_of to k → k ≡ n) → ((x : WriteRec) → Has rows x → x.stamp.node ≡ n → x.stamp.clock ≤ clock_of to n) → IfOk r (λ set. IsSetWithin most set (λ o. (has sub o ≡ false) × WroteAbove rows n (clock_of from n) o)) → IfOk r (λ set. IsSetWithin most set (IsOmittedBetween rows from to sub))
alone_within (Ok set) most rows from to sub n by_stamp alone up_to is = within_mapped most set (λ o. (has sub o ≡ false) × WroteAbove rows n (clock_of from n) o) (IsOmittedBetween rows from to sub) (λ o name. alone_omits rows from to sub n o by_stamp alone up_to) is
alone_within (Err e) most rows from to sub n by_stamp alone up_to is = tt
