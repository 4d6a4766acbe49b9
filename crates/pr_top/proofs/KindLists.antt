-- The declarations of one kind, one after the other.
use Rattle.std.proofs.Common.{◌≡◌, ℕ, ◌+◌, ◌-◌, ◌<◌, ◌≤◌, ◌++◌, List, [], ◌∷◌, Bool, true, false, cond, refl, sym, ◌∙◌, ap, subst, append_assoc, drop, get_or, length, arith, zero, suc}
use Rattle.std.specs.Prelude.{◌≢◌, ◌==◌, filter}
use Rattle.std.specs.List.{range_with_len}
use Rattle.std.proofs.lemmas.Bool.Decides.{nat_tests}
use Rattle.std.proofs.lemmas.List.{append-nil, drop-drop, drop_all, drop_more, get_or-drop}
use Rattle.pr_names.specs.Span.{Span}
use Rattle.pr_script.specs.declared.decl.Decl.{Decl}
use Rattle.pr_script.specs.declared.decl.Decl.TheVariants as decls
use Rattle.pr_script.specs.declared.kind.Kind.{Kind}
use Rattle.pr_script.specs.declared.kind.Kind.TheVariants as kinds
use Rattle.pr_script.specs.Good.{AreGoodDecls, IsGoodDecl}
use Rattle.pr_script.specs.Labels.{is_kind}
use Rattle.pr_serve.specs.Asks.{ask_text, asks_text}
use Rattle.pr_serve.specs.declared.ask.Ask.{Ask}
use Rattle.pr_sim.proofs.JobsInOrder.{all_at}
use Rattle.pr_sim.proofs.Makings.{count_is}
use Rattle.pr_story.specs.declared.entry.Entry.{Entry}
use Rattle.pr_story.specs.History.{Stream}
use Rattle.pr_text.specs.Transcripts.{no_decl, plan_of, sets_of, stream_of}
use Rattle.pr_top.specs.Asked.{AreAsksFor, IsAskFor, IsAsksText, streams_to}

-- those of a kind among the declarations from a place on
abbrev pub left_of : Kind → List Decl → ℕ → List Decl
left_of k ds i = filter (is_kind k) (drop i ds)

module _ (k : Kind) (ds : List Decl) (i : ℕ) (d : Decl) (lt : i < length ds) (at : d ≡ get_or ds i d) where
  behind : left_of k ds i ≡ cond (is_kind k d) (d ∷ left_of k ds (i + 1)) (left_of k ds (i + 1))
  behind = ap (λ (xs : List Decl). filter (is_kind k) xs) (drop_more ds i d lt ∙ ap (λ (x : Decl). x ∷ drop (i + 1) ds) (sym at))

  pub left_first : is_kind k d ≡ true → left_of k ds i ≡ d ∷ left_of k ds (i + 1)
  left_first is = behind ∙ ap (λ (b : Bool). cond b (d ∷ left_of k ds (i + 1)) (left_of k ds (i + 1))) is

  pub left_same : is_kind k d ≡ false → left_of k ds i ≡ left_of k ds (i + 1)
  left_same is = behind ∙ ap (λ (b : Bool). cond b (d ∷ left_of k ds (i + 1)) (left_of k ds (i + 1))) is

pub none_left : (k : Kind) (ds : List Decl) (i : ℕ) → length ds ≤ i → left_of k ds i ≡ []
none_left k ds i past = ap (λ (xs : List Decl). filter (is_kind k) xs) (drop_all i ds past)

-- ---- the sets of a node

less_one : (x : Decl) (xs : List Decl) (n : ℕ) → (n ≡ 0 → ⊥) → get_or (x ∷ xs) n no_decl ≡ get_or xs (n - 1) no_decl
less_one x xs zero ne = absurd (ne refl)
less_one x xs (suc n) ne = let e : n ≡ suc n - 1 = omega arith in ap (λ (m : ℕ). get_or xs m no_decl) e

module _ (ds : List Decl) (i : ℕ) (d : Decl) (left number : ℕ) (lt : i < length ds) (at : d ≡ get_or ds i d)
    (sofar : get_or (left_of kinds.Node ds i) left no_decl ≡ get_or (filter (is_kind kinds.Node) ds) number no_decl) where
  pub sets_found : is_kind kinds.Node d ≡ true → left ≡ 0 → sets_of d ≡ (plan_of ds).sets number
  sets_found is none =
      ap (λ (x : Decl). sets_of x)
      (sym (ap (λ (n : ℕ). get_or (left_of kinds.Node ds i) n no_decl) none ∙ ap (λ (xs : List Decl). get_or xs 0 no_decl) (left_first kinds.Node ds i d lt at is)) ∙ sofar)

  pub node_passed : (less : ℕ) → is_kind kinds.Node d ≡ true → (left ≡ 0 → ⊥) → less ≡ left - 1
      → get_or (left_of kinds.Node ds (i + 1)) less no_decl ≡ get_or (filter (is_kind kinds.Node) ds) number no_decl
  node_passed less is more same =
      ap (λ (n : ℕ). get_or (left_of kinds.Node ds (i + 1)) n no_decl) same
      ∙ sym (less_one d (left_of kinds.Node ds (i + 1)) left more)
      ∙ sym (ap (λ (xs : List Decl). get_or xs left no_decl) (left_first kinds.Node ds i d lt at is)) ∙ sofar

  pub other_passed : (same : ℕ) → is_kind kinds.Node d ≡ false → same ≡ left → get_or (left_of kinds.Node ds (i + 1)) same no_decl ≡ get_or (filter (is_kind kinds.Node) ds) number no_decl
  other_passed same is kept = ap (λ (n : ℕ). get_or (left_of kinds.Node ds (i + 1)) n no_decl) kept ∙ sym (ap (λ (xs : List Decl). get_or xs left no_decl) (left_same kinds.Node ds i d lt at is)) ∙ sofar

pub no_sets : (ds : List Decl) (i left number : ℕ) → length ds ≤ i → get_or (left_of kinds.Node ds i) left no_decl ≡ get_or (filter (is_kind kinds.Node) ds) number no_decl → [] ≡ (plan_of ds).sets number
no_sets ds i left number past sofar =
    ap (λ (x : Decl). sets_of x) (sym (ap (λ (xs : List Decl). get_or xs left no_decl) (none_left kinds.Node ds i past)) ∙ sofar)

-- ---- the asks of a node

-- a declared stream has names
pub has_names : (ds : List Decl) (i : ℕ) (d : Decl) → AreGoodDecls ds → i < length ds → d ≡ get_or ds i d → is_kind kinds.Stream d ≡ true → 0 < length (stream_of d).names
has_names ds i d good lt at is = by d (subst (λ (x : Decl). IsGoodDecl ds x) (sym at) (all_at (IsGoodDecl ds) ds i d good.each lt)) is
  where
    by : (x : Decl) → IsGoodDecl ds x → is_kind kinds.Stream x ≡ true → 0 < length (stream_of x).names
    by (decls.Node label sets) own is = absurd (cc)
    by (decls.Client label node) own is = absurd (cc)
    by (decls.Stream label source dest sub bodies) own is = own.3

-- the streams that end at node n, of so many from this number on
abbrev pub ahead : List Decl → ℕ → ℕ → ℕ → List ℕ
ahead ds n number many = filter (λ s. ((plan_of ds).stream s).destination == n) (range_with_len number many)

module _ (ds : List Decl) (sets : List (List Span)) (n : ℕ) (j : List Entry) where
  -- the declarations before this place were seen, so many streams among them, and their asks are the text: with those for
  -- the streams that are left it is all
  pub record IsAsking (i number : ℕ) (text : List ℕ) : Type 0 where
    pub rest : left_of kinds.Stream ds i ≡ drop number (filter (is_kind kinds.Stream) ds)
    pub few : number + length (left_of kinds.Stream ds i) ≤ 64
    pub gives : (qs : List Ask) → AreAsksFor ds sets n j (ahead ds n number (length (left_of kinds.Stream ds i))) qs
        → (all : List Ask) × AreAsksFor ds sets n j (streams_to ds n) all × (text ++ asks_text qs ≡ asks_text all)

  pub asking_begins : AreGoodDecls ds → IsAsking 0 0 []
  asking_begins good =
      let many = count_is kinds.Stream ds in
      let few = good.few kinds.Stream in
      record {
        rest = refl;
        few = omega (arith, many, few);
        gives = λ qs are. (qs, subst (λ (m : ℕ). AreAsksFor ds sets n j (ahead ds n 0 m) qs) (sym many) are, refl);
      }

  pub asking_ends : (i number : ℕ) (text : List ℕ) → IsAsking i number text → length ds ≤ i → IsAsksText ds sets n j text
  asking_ends i number text k past =
      let none : length (left_of kinds.Stream ds i) ≡ 0 = ap (λ (xs : List Decl). length xs) (none_left kinds.Stream ds i past) in
      let all = k.gives [] (subst (λ (m : ℕ). AreAsksFor ds sets n j (ahead ds n number m) []) (sym none) tt) in
      (all.0, all.1, sym (append-nil text) ∙ all.2)

  module _ (i number : ℕ) (text : List ℕ) (k : IsAsking i number text) (d : Decl) (lt : i < length ds) (at : d ≡ get_or ds i d) where
    pub asking_same : is_kind kinds.Stream d ≡ false → IsAsking (i + 1) number text
    asking_same is =
        let same = left_same kinds.Stream ds i d lt at is in
        record {
          rest = sym same ∙ k.rest;
          few = subst (λ (xs : List Decl). number + length xs ≤ 64) same k.few;
          gives = subst (λ (xs : List Decl). (qs : List Ask) → AreAsksFor ds sets n j (ahead ds n number (length xs)) qs → (all : List Ask) × AreAsksFor ds sets n j (streams_to ds n) all × (text ++ asks_text qs ≡ asks_text all)) same k.gives;
        }

    module _ (is : is_kind kinds.Stream d ≡ true) where
      first : left_of kinds.Stream ds i ≡ d ∷ left_of kinds.Stream ds (i + 1)
      first = left_first kinds.Stream ds i d lt at is

      its_own : (plan_of ds).stream number ≡ stream_of d
      its_own =
          let zeroth : get_or (drop number (filter (is_kind kinds.Stream) ds)) 0 no_decl ≡ d =
          ap (λ (xs : List Decl). get_or xs 0 no_decl) (sym k.rest ∙ first) in
          ap (λ (x : Decl). stream_of x)
          (ap (λ (m : ℕ). get_or (filter (is_kind kinds.Stream) ds) m no_decl) (let e : number ≡ number + 0 = omega arith in e)
          ∙ sym (get_or-drop number (filter (is_kind kinds.Stream) ds) 0 no_decl) ∙ zeroth)

      rest_now : left_of kinds.Stream ds (i + 1) ≡ drop (number + 1) (filter (is_kind kinds.Stream) ds)
      rest_now = ap (λ (xs : List Decl). drop 1 xs) (sym first ∙ k.rest) ∙ drop-drop 1 number (filter (is_kind kinds.Stream) ds)

      few_now : (number + 1) + length (left_of kinds.Stream ds (i + 1)) ≤ 64
      few_now =
          let few = k.few in
          let more : length (left_of kinds.Stream ds i) ≡ length (left_of kinds.Stream ds (i + 1)) + 1 = ap (λ (xs : List Decl). length xs) first ∙ (omega arith) in
          omega (arith, few, more)

      -- what the streams that are left give, where this one ends at the node or not
      abbrev Then : Bool → Type 0
      Then b = (qs : List Ask) → AreAsksFor ds sets n j (cond b (number ∷ ahead ds n (number + 1) (length (left_of kinds.Stream ds (i + 1)))) (ahead ds n (number + 1) (length (left_of kinds.Stream ds (i + 1))))) qs
          → (all : List Ask) × AreAsksFor ds sets n j (streams_to ds n) all × (text ++ asks_text qs ≡ asks_text all)

      gives_now : Then (((plan_of ds).stream number).destination == n)
      gives_now = subst (λ (xs : List Decl). (qs : List Ask) → AreAsksFor ds sets n j (ahead ds n number (length xs)) qs → (all : List Ask) × AreAsksFor ds sets n j (streams_to ds n) all × (text ++ asks_text qs ≡ asks_text all)) first k.gives

      pub asking_more : (now : List ℕ)
          → ((stream_of d).destination ≡ n → (q : Ask) × IsAskFor sets n j number (stream_of d) q × (now ≡ text ++ ask_text q))
          → ((stream_of d).destination ≢ n → now ≡ text) → IsAsking (i + 1) (number + 1) now
      asking_more now to elsewhere = by (((plan_of ds).stream number).destination == n) refl
        where
          by : (b : Bool) → (((plan_of ds).stream number).destination == n) ≡ b → IsAsking (i + 1) (number + 1) now
          by true e =
              let ends : ((plan_of ds).stream number).destination ≡ n = grind (arith, nat_tests) in
              let mine = to (ap (λ (s : Stream). s.destination) (sym its_own) ∙ ends) in
              let gives : Then true = subst Then e gives_now in
              let asks : IsAskFor sets n j number ((plan_of ds).stream number) mine.0 = subst (λ (s : Stream). IsAskFor sets n j number s mine.0) (sym its_own) mine.1 in
              record {
                rest = rest_now;
                few = few_now;
                gives = λ qs are.
                    let all = gives (mine.0 ∷ qs) (asks, are) in
                    (all.0, all.1, ap (λ (t : List ℕ). t ++ asks_text qs) mine.2 ∙ append_assoc text (ask_text mine.0) (asks_text qs) ∙ all.2);
              }
          by false e =
              let apart : (stream_of d).destination ≢ n = λ same. (let away : ((plan_of ds).stream number).destination ≡ n = ap (λ (s : Stream). s.destination) its_own ∙ same in grind (arith, nat_tests)) in
              let gives : Then false = subst Then e gives_now in
              record {
                rest = rest_now;
                few = few_now;
                gives = λ qs are. let all = gives qs are in (all.0, all.1, ap (λ (t : List ℕ). t ++ asks_text qs) (elsewhere apart) ∙ all.2);
              }
