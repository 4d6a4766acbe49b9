-- Names in order, bodies to send, and turns.
use Rattle.std.proofs.Common.{◌≡◌, ℕ, ◌⊎◌, inl, inr, List, [], ◌∷◌, ◌++◌, Bool, true, false, refl, sym, ap, subst, ◌∙◌, arith, cond, nat_eq, append_assoc}
use Rattle.std.specs.Prelude.{IsTrue, Option, None, Some, Contains, ◌↔◌, ◌||◌, ◌&&◌, nat_lt}
use Rattle.std.proofs.lemmas.Bool.Decides.{nat_tests}
use Rattle.std.proofs.lemmas.List.Elements.{Contains-append_left, Contains-append_right, Contains-append_cases}
use Rattle.pr_stamps.specs.Point.{Point}
use Rattle.pr_names.specs.Name.{IsName}
use Rattle.pr_names.specs.Order.{name_lt}
use Rattle.pr_names.specs.Span.{Span}
use Rattle.pr_vectors.specs.Vector.{Le, join_of, below_of}
use Rattle.pr_sets.specs.Spans.{has, Meet, IsSetOf}
use Rattle.pr_inval.specs.declared.kind.Kind.{Kind}
use Rattle.pr_inval.specs.declared.kind.Kind.TheVariants.{Precise, Imprecise, Checkpoint, Body}
use Rattle.pr_inval.specs.declared.row.Row.{Row}
use Rattle.pr_inval.specs.declared.write_rec.WriteRec.{WriteRec}
use Rattle.pr_inval.specs.Standing.{Standing}
use Rattle.pr_story.specs.declared.entry.Entry.{Entry}
use Rattle.pr_story.specs.declared.event.Event.{Event}
use Rattle.pr_story.specs.declared.event.Event.TheVariants.{Wrote, Accepted}
use Rattle.pr_stamps.specs.declared.newest.Newest.{Newest}
use Rattle.pr_story.specs.declared.plain.next.Next.{Next}
use Rattle.pr_story.specs.declared.plain.next.Next.TheVariants as next
use Rattle.pr_story.specs.History.{current_vector}
use Rattle.pr_story.specs.Knowledge.{IsOf, HasRow, NamesStamp, WasNamed, IsNewestKnown, KnowsGone, held_body, cuts_of}
use Rattle.pr_story.specs.Turns.{IsBodyToSend, IsNextWrite, IsOmitted, IsTarget, IsTurn, IsWithheld, SendTurn}
use Rattle.pr_story.specs.Search.{IsNewestOf}
use Rattle.pr_story.specs.Sending.{turn_of, IsAhead, IsBodyOf, IsBodyTurn, HasBody, IsNamedList, IsNextName, lesser_name, names_in, names_in_kind, row_names}
use Rattle.pr_story.proofs.Alike.{greatest_one}
use Rattle.pr_story.proofs.Lit.{bool_cases}
use Rattle.pr_story.proofs.Sorted.{contains_none, first_or_later, is_first, is_later, one_item}

-- ---- names

rows_named : (rows : List Row) (o : List ℕ) → Contains (row_names rows) o → (row : Row) × Contains rows row × (row.name ≡ o)
rows_named [] o c = absurd (contains_none o c)
rows_named (row ∷ rows) o c = elim (first_or_later row.name (row_names rows) o c) [
  | inl same ↦ (row, is_first row rows, same)
  | inr later ↦ let r = rows_named rows o later in (r.0, is_later row rows r.0 r.1, r.2)
]

named_rows : (rows : List Row) (o : List ℕ) (row : Row) → Contains rows row → row.name ≡ o → Contains (row_names rows) o
named_rows [] o row c e = absurd (contains_none row c)
named_rows (first ∷ rows) o row c e = elim (first_or_later first rows row c) [
  | inl same ↦ subst (λ (q : List ℕ). Contains (first.name ∷ row_names rows) q) (ap (λ (r : Row). r.name) same ∙ e) (is_first first.name (row_names rows))
  | inr later ↦ is_later first.name (row_names rows) o (named_rows rows o row later e)
]

the_name : (n o : List ℕ) → n ≡ o → Contains (n ∷ []) o
the_name n o e = subst (λ (q : List ℕ). Contains (n ∷ []) q) e (is_first n [])

abbrev NamesIt : Kind → List ℕ → Point → Type 0
NamesIt k o s =
    ((x : WriteRec) × IsOf k x × (x.name ≡ o) × (x.stamp ≡ s))
    ⊎ ((row : Row) × HasRow k row × (row.name ≡ o) × (row.newest ≡ s))

kind_names : (k : Kind) (o : List ℕ) → Contains (names_in_kind k) o → (t : Point) × NamesIt k o t
kind_names (Precise from to write) o c = (write.stamp, inl (write, refl, one_item write.name o c, refl))
kind_names (Checkpoint to target floor rows) o c = let r = rows_named rows o c in (r.0.newest, inr (r.0, r.1, r.2, refl))
kind_names (Imprecise from to target) o c = absurd (contains_none o c)
kind_names (Body name stamp bytes) o c = absurd (contains_none o c)

names_kind : (k : Kind) (o : List ℕ) (t : Point) → NamesIt k o t → Contains (names_in_kind k) o
names_kind (Precise from to write) o t n = elim n [ inl x ↦ the_name write.name o (ap (λ (w : WriteRec). w.name) x.1 ∙ x.2) | inr r ↦ absurd r.1 ]
names_kind (Checkpoint to target floor rows) o t n = elim n [ inl x ↦ absurd x.1 | inr r ↦ named_rows rows o r.0 r.1 r.2 ]
names_kind (Imprecise from to target) o t n = elim n [ inl x ↦ absurd x.1 | inr r ↦ absurd r.1 ]
names_kind (Body name stamp bytes) o t n = elim n [ inl x ↦ absurd x.1 | inr r ↦ absurd r.1 ]

event_names : (event : Event) (o : List ℕ) → Contains (names_in event) o → (t : Point) × NamesStamp event o t
event_names (Wrote client write body after) o c = (write.stamp, (one_item write.name o c, refl))
event_names (Accepted msg at) o c = kind_names msg.kind o c
event_names _ o c = absurd (contains_none o c)

names_event : (event : Event) (o : List ℕ) (t : Point) → NamesStamp event o t → Contains (names_in event) o
names_event (Wrote client write body after) o t n = the_name write.name o n.0
names_event (Accepted msg at) o t n = names_kind msg.kind o t n
names_event _ o t n = absurd n

pub named_none : IsNamedList [] []
named_none o = (λ c. absurd (contains_none o c), λ t. absurd t.1)

pub named_more : (j : List Entry) (e : Entry) (was now : List (List ℕ)) → now ≡ was ++ names_in e.event → IsNamedList j was → IsNamedList (e ∷ j) now
named_more j e was now is so = subst (λ (names : List (List ℕ)). IsNamedList (e ∷ j) names) (sym is) (λ o. (
  λ c. elim (Contains-append_cases was (names_in e.event) o c) [
    | inl old ↦ let t = (so o).0 old in (t.0, inr t.1)
    | inr new ↦ let t = event_names e.event o new in (t.0, inl t.1)
  ],
  λ t. elim t.1 [
    | inl new ↦ Contains-append_right was (names_in e.event) o (names_event e.event o t.0 new)
    | inr old ↦ Contains-append_left was (names_in e.event) o ((so o).1 (t.0, old))
  ],
))

row_names_more : (rows : List Row) (row : Row) → row_names (rows ++ row ∷ []) ≡ row_names rows ++ row.name ∷ []
row_names_more [] row = refl
row_names_more (r ∷ rows) row = ap (λ (x : List (List ℕ)). r.name ∷ x) (row_names_more rows row)

pub pushed_row : (old was now : List (List ℕ)) (rows : List Row) (row : Row) → now ≡ was ++ row.name ∷ [] → was ≡ old ++ row_names rows → now ≡ old ++ row_names (rows ++ row ∷ [])
pushed_row old was now rows row is so =
    is ∙ ap (λ (x : List (List ℕ)). x ++ row.name ∷ []) so
    ∙ append_assoc old (row_names rows) (row.name ∷ [])
    ∙ ap (λ (x : List (List ℕ)). old ++ x) (sym (row_names_more rows row))

-- ---- the order of names

lt_itself : (x : ℕ) (p : Bool) → p ≡ false → (nat_lt x x || (nat_eq x x && p)) ≡ false
lt_itself x p e = grind (arith, nat_tests)

pub not_itself : (a : List ℕ) → name_lt a a ≡ false
unfolding name_lt
not_itself [] = refl
not_itself (x ∷ a) = lt_itself x (name_lt a a) (not_itself a)

trans_step : (x y z : ℕ) (p q r : Bool) → (nat_lt x y || (nat_eq x y && p)) ≡ true → (nat_lt y z || (nat_eq y z && q)) ≡ true → (p ≡ true → q ≡ true → r ≡ true) → (nat_lt x z || (nat_eq x z && r)) ≡ true
trans_step x y z true true r a b f = let t : r ≡ true = f refl refl in grind (arith, nat_tests)
trans_step x y z true false r a b f = grind (arith, nat_tests)
trans_step x y z false true r a b f = grind (arith, nat_tests)
trans_step x y z false false r a b f = grind (arith, nat_tests)

pub transitive : (a b c : List ℕ) → name_lt a b ≡ true → name_lt b c ≡ true → name_lt a c ≡ true
unfolding name_lt
transitive [] [] c p q = cc
transitive (x ∷ a) [] c p q = cc
transitive a (y ∷ b) [] p q = cc
transitive [] (y ∷ b) (z ∷ c) p q = refl
transitive (x ∷ a) (y ∷ b) (z ∷ c) p q = trans_step x y z (name_lt a b) (name_lt b c) (name_lt a c) p q (transitive a b c)

-- ---- the least name with a body to send

abbrev pub IsLeastOf : List Entry → Standing → List (List ℕ) → Option (List ℕ) → Type 0
IsLeastOf j session d None = (o : List ℕ) → Contains d o → ¬ HasBody j session o
IsLeastOf j session d (Some n) = HasBody j session n × ((o : List ℕ) → Contains d o → HasBody j session o → name_lt o n ≡ false)

pub least_none : (j : List Entry) (session : Standing) → IsLeastOf j session [] None
least_none j session o c = absurd (contains_none o c)

pub least_more : (j : List Entry) (session : Standing) (d : List (List ℕ)) (n : List ℕ) (best r : Option (List ℕ)) (sends : Bool) → r ≡ cond sends (lesser_name best n) best → IsTrue sends ↔ HasBody j session n
    → IsLeastOf j session d best → IsLeastOf j session (d ++ n ∷ []) r
least_more j session d n best r sends is so old = subst (λ (x : Option (List ℕ)). IsLeastOf j session (d ++ n ∷ []) x) (sym is) (by sends best so old)
  where
    by : (sends : Bool) (best : Option (List ℕ)) → IsTrue sends ↔ HasBody j session n → IsLeastOf j session d best → IsLeastOf j session (d ++ n ∷ []) (cond sends (lesser_name best n) best)
    by true None so old = (
      so.0 refl,
      λ o c b. elim (Contains-append_cases d (n ∷ []) o c) [
        | inl past ↦ absurd (old o past b)
        | inr now ↦ subst (λ (q : List ℕ). name_lt q n ≡ false) (one_item n o now) (not_itself n)
      ],
    )
    by true (Some b) so old = elim (bool_cases (name_lt n b)) [
      | inl less ↦ rw less (
        so.0 refl,
        λ o c w. elim (Contains-append_cases d (n ∷ []) o c) [
          | inl past ↦ elim (bool_cases (name_lt o n)) [
            | inl lt ↦ let t : name_lt o b ≡ true = transitive o n b lt less in let f : name_lt o b ≡ false = old.1 o past w in absurd (cc)
            | inr not_lt ↦ not_lt
          ]
          | inr now ↦ subst (λ (q : List ℕ). name_lt q n ≡ false) (one_item n o now) (not_itself n)
        ],
      )
      | inr more ↦ rw more (
        old.0,
        λ o c w. elim (Contains-append_cases d (n ∷ []) o c) [
          | inl past ↦ old.1 o past w
          | inr now ↦ subst (λ (q : List ℕ). name_lt q b ≡ false) (one_item n o now) more
        ],
      )
    ]
    by false None so old = λ o c w. elim (Contains-append_cases d (n ∷ []) o c) [
      | inl past ↦ old o past w
      | inr now ↦ let t = so.1 (subst (λ (q : List ℕ). HasBody j session q) (sym (one_item n o now)) w) in cc
    ]
    by false (Some b) so old = (
      old.0,
      λ o c w. elim (Contains-append_cases d (n ∷ []) o c) [
        | inl past ↦ old.1 o past w
        | inr now ↦ let t = so.1 (subst (λ (q : List ℕ). HasBody j session q) (sym (one_item n o now)) w) in absurd (cc)
      ],
    )

pub least_all : (j : List Entry) (session : Standing) (names : List (List ℕ)) (best : Option (List ℕ)) → IsNamedList j names → IsLeastOf j session names best → IsNextName j session best
least_all j session names None named so = λ o b. so o ((named o).1 (b.0, b.2.1.0)) b
least_all j session names (Some n) named so = (so.0, λ o b. so.1 o ((named o).1 (b.0, b.2.1.0)) b)

-- ---- bodies

same_some : (s t : Point) → Some s ≡ Some t → s ≡ t
same_some s t e = cc

pub newest_one : (j : List Entry) (o : List ℕ) (s t : Point) → IsNewestKnown j o (Some s) → IsNewestKnown j o (Some t) → s ≡ t
newest_one j o s t a b = same_some s t (greatest_one (WasNamed j o) (Some s) (Some t) a b)

pub no_newest : (j : List Entry) (session : Standing) (o : List ℕ) → IsNewestOf j o None → IsBodyOf j session o None
no_newest j session o none t bytes b = none t b.1.0

pub not_gone : (j : List Entry) (session : Standing) (o : List ℕ) (n : Newest) → IsNewestOf j o (Some n) → n.gone ≡ true → IsBodyOf j session o None
not_gone j session o n newest gone t bytes b =
    let e : n.stamp ≡ t = newest_one j o n.stamp t newest.0 b.1 in
    let k : KnowsGone j o t n.gone = subst (λ (s : Point). KnowsGone j o s n.gone) e newest.1 in
    let bad : Some n.gone ≡ Some false = sym k ∙ b.2 in cc

pub was_sent : (j : List Entry) (session : Standing) (o : List ℕ) (n : Newest) → IsNewestOf j o (Some n) → session.sent o n.stamp ≡ true → IsBodyOf j session o None
was_sent j session o n newest sent t bytes b =
    let e : n.stamp ≡ t = newest_one j o n.stamp t newest.0 b.1 in
    let s : session.sent o t ≡ true = subst (λ (s : Point). session.sent o s ≡ true) e sent in
    let f : session.sent o t ≡ false = b.4 in cc

pub not_held : (j : List Entry) (session : Standing) (o : List ℕ) (n : Newest) → IsNewestOf j o (Some n) → held_body j o n.stamp ≡ None → IsBodyOf j session o None
not_held j session o n newest held t bytes b =
    let e : n.stamp ≡ t = newest_one j o n.stamp t newest.0 b.1 in
    let h : held_body j o t ≡ None = subst (λ (s : Point). held_body j o s ≡ None) e held in
    let f : held_body j o t ≡ Some bytes = b.3 in cc

pub body_is : (j : List Entry) (session : Standing) (o : List ℕ) (kind : Kind) → IsBodyOf j session o (Some kind) → HasBody j session o
body_is j session o (Body name t bytes) b = (t, bytes, b.1)
body_is j session o (Precise from to write) b = absurd b
body_is j session o (Imprecise from to target) b = absurd b
body_is j session o (Checkpoint to target floor rows) b = absurd b

pub no_body : (j : List Entry) (session : Standing) (o : List ℕ) → IsBodyOf j session o None → ¬ HasBody j session o
no_body j session o none b = none b.0 b.1 b.2

pub body_next : (j : List Entry) (session : Standing) (n : List ℕ) (kind : Kind) → IsNextName j session (Some n) → IsBodyOf j session n (Some kind) → IsBodyTurn j session (next.Send kind)
body_next j session n (Body name t bytes) least b = (
  subst (λ (q : List ℕ). IsBodyToSend j session q t bytes) (sym b.0) b.1,
  λ o s body w. subst (λ (q : List ℕ). name_lt o q ≡ false) (sym b.0) (least.1 o (s, body, w)),
)
body_next j session n (Precise from to write) least b = absurd b
body_next j session n (Imprecise from to target) least b = absurd b
body_next j session n (Checkpoint to target floor rows) least b = absurd b

-- ---- turns

-- no omitted name is one of the stream's
pub apart : (j : List Entry) (names omitted : List Span) (v w : List ℕ) → IsSetOf omitted (IsOmitted j names v w) → ¬ Meet (has omitted) (has names)
apart j names omitted v w is m = let out : has names m.0 ≡ false = (is.no_others m.0 m.1 m.2).0 in let in_it : has names m.0 ≡ true = m.3 in cc

pub sends : (n : ℕ) (j : List Entry) (session : Standing) (kind : Kind) → Le (cuts_of j) session.position → ¬ Le (current_vector j) session.position → IsAhead n j session.names session.position kind → IsTurn n j session (SendTurn kind)
sends n j session (Precise from to write) cut past so = (cut, past, so.0, so.1, so.2, so.3)
sends n j session (Imprecise from to target) cut past so = (cut, past, so.0, so.1, so.2)
sends n j session (Checkpoint to target floor rows) cut past so = absurd so
sends n j session (Body name stamp bytes) cut past so = absurd so

-- where something is withheld before the next write
pub some_withheld : (n : ℕ) (j : List Entry) (names : List Span) (position from to before : List ℕ) (target : List Span) (write : WriteRec)
    → from ≡ position → to ≡ before → IsTarget n j names position before target → IsNextWrite j names position write
    → before ≡ join_of position (below_of (current_vector j) write.stamp)
    → ((o : List ℕ) × IsName o × IsWithheld n j names position before o) → IsAhead n j names position (Imprecise from to target)
some_withheld n j names position from to before target write starts ends of_it next is more = (
  starts,
  subst (λ (v : List ℕ). IsTarget n j names position v target) (sym ends) of_it,
  inr (write, next, ends ∙ is, subst (λ (v : List ℕ). (o : List ℕ) × IsName o × IsWithheld n j names position v o) (sym ends) more),
)

pub body_turn : (n : ℕ) (j : List Entry) (session : Standing) (x : Next) → Le (cuts_of j) session.position → Le (current_vector j) session.position → IsTrue session.bodies → IsBodyTurn j session x → IsTurn n j session (turn_of x)
body_turn n j session (next.Stale cut) low high bodies so = absurd so
body_turn n j session next.Idle low high bodies so = (low, high, λ b o t bytes w. so o (t, bytes, w))
body_turn n j session (next.Send (Body o t bytes)) low high bodies so = (low, high, bodies, so)
body_turn n j session (next.Send (Precise from to write)) low high bodies so = absurd so
body_turn n j session (next.Send (Imprecise from to target)) low high bodies so = absurd so
body_turn n j session (next.Send (Checkpoint to target floor rows)) low high bodies so = absurd so
