-- The streams that end at a node, and how many declarations there are.
use Rattle.std.proofs.Common.{◌≡◌, ℕ, ◌+◌, ◌<◌, ◌≤◌, ◌++◌, List, [], ◌∷◌, Bool, true, false, cond, refl, sym, ◌∙◌, ap, subst, append_assoc, drop, get_or, length, arith}
use Rattle.std.specs.Prelude.{◌≢◌, ◌==◌, filter}
use Rattle.std.proofs.lemmas.Bool.Decides.{nat_tests}
use Rattle.std.proofs.lemmas.List.{append-nil, drop-drop, get_or-drop}
use Rattle.pr_script.specs.declared.decl.Decl.{Decl}
use Rattle.pr_script.specs.declared.decl.Decl.TheVariants as decls
use Rattle.pr_script.specs.declared.kind.Kind.TheVariants as kinds
use Rattle.pr_script.specs.Good.{AreGoodDecls}
use Rattle.pr_script.specs.Labels.{is_kind}
use Rattle.pr_sim.proofs.Makings.{count_is}
use Rattle.pr_story.specs.History.{Stream}
use Rattle.pr_text.specs.Transcripts.{no_decl, plan_of, stream_of}
use Rattle.pr_top.specs.Asked.{streams_to}
use Rattle.pr_top.proofs.KindLists.{ahead, left_first, left_of, left_same, none_left}

-- ---- the streams

module _ (ds : List Decl) (n : ℕ) where
  -- the declarations before this place were seen, so many streams among them, and these end at the node: with those of the
  -- streams that are left it is all
  pub record IsListing (i number : ℕ) (list : List ℕ) : Type 0 where
    pub rest : left_of kinds.Stream ds i ≡ drop number (filter (is_kind kinds.Stream) ds)
    pub few : number + length (left_of kinds.Stream ds i) ≤ 64
    pub all : list ++ ahead ds n number (length (left_of kinds.Stream ds i)) ≡ streams_to ds n

  pub listing_begins : AreGoodDecls ds → IsListing 0 0 []
  listing_begins good =
      let many = count_is kinds.Stream ds in
      let few = good.few kinds.Stream in
      record {
        rest = refl;
        few = omega (arith, many, few);
        all = ap (λ (m : ℕ). ahead ds n 0 m) (sym many);
      }

  pub listing_ends : (i number : ℕ) (list : List ℕ) → IsListing i number list → length ds ≤ i → list ≡ streams_to ds n
  listing_ends i number list k past =
      let none : length (left_of kinds.Stream ds i) ≡ 0 = ap (λ (xs : List Decl). length xs) (none_left kinds.Stream ds i past) in
      sym (append-nil list) ∙ ap (λ (m : ℕ). list ++ ahead ds n number m) (sym none) ∙ k.all

  module _ (i number : ℕ) (list : List ℕ) (k : IsListing i number list) (d : Decl) (lt : i < length ds) (at : d ≡ get_or ds i d) where
    pub listing_same : is_kind kinds.Stream d ≡ false → IsListing (i + 1) number list
    listing_same is =
        let same = left_same kinds.Stream ds i d lt at is in
        record {
          rest = sym same ∙ k.rest;
          few = subst (λ (xs : List Decl). number + length xs ≤ 64) same k.few;
          all = subst (λ (xs : List Decl). list ++ ahead ds n number (length xs) ≡ streams_to ds n) same k.all;
        }

    module _ (is : is_kind kinds.Stream d ≡ true) where
      first : left_of kinds.Stream ds i ≡ d ∷ left_of kinds.Stream ds (i + 1)
      first = left_first kinds.Stream ds i d lt at is

      its_own : (plan_of ds).stream number ≡ stream_of d
      its_own =
          let zeroth : get_or (drop number (filter (is_kind kinds.Stream) ds)) 0 no_decl ≡ d =
          ap (λ (xs : List Decl). get_or xs 0 no_decl) (sym k.rest ∙ first) in
          ap (λ (x : Decl). stream_of x)
          (ap (λ (m : ℕ). get_or (filter (is_kind kinds.Stream) ds) m no_decl) (let e : number ≡ number + 0 = omega arith in e)
          ∙ sym (get_or-drop number (filter (is_kind kinds.Stream) ds) 0 no_decl) ∙ zeroth)

      rest_now : left_of kinds.Stream ds (i + 1) ≡ drop (number + 1) (filter (is_kind kinds.Stream) ds)
      rest_now = ap (λ (xs : List Decl). drop 1 xs) (sym first ∙ k.rest) ∙ drop-drop 1 number (filter (is_kind kinds.Stream) ds)

      few_now : (number + 1) + length (left_of kinds.Stream ds (i + 1)) ≤ 64
      few_now =
          let few = k.few in
          let more : length (left_of kinds.Stream ds i) ≡ length (left_of kinds.Stream ds (i + 1)) + 1 = ap (λ (xs : List Decl). length xs) first ∙ (omega arith) in
          omega (arith, few, more)

      abbrev later : List ℕ
      later = ahead ds n (number + 1) (length (left_of kinds.Stream ds (i + 1)))

      all_now : list ++ cond (((plan_of ds).stream number).destination == n) (number ∷ later) later ≡ streams_to ds n
      all_now = subst (λ (xs : List Decl). list ++ ahead ds n number (length xs) ≡ streams_to ds n) first k.all

      pub listing_more : (now : List ℕ) → ((stream_of d).destination ≡ n → now ≡ list ++ number ∷ []) → ((stream_of d).destination ≢ n → now ≡ list) → IsListing (i + 1) (number + 1) now
      listing_more now to elsewhere = by (((plan_of ds).stream number).destination == n) refl
        where
          by : (b : Bool) → (((plan_of ds).stream number).destination == n) ≡ b → IsListing (i + 1) (number + 1) now
          by true e =
              let ends : ((plan_of ds).stream number).destination ≡ n = grind (arith, nat_tests) in
              let mine = to (ap (λ (s : Stream). s.destination) (sym its_own) ∙ ends) in
              record {
                rest = rest_now;
                few = few_now;
                all = ap (λ (t : List ℕ). t ++ later) mine ∙ append_assoc list (number ∷ []) later
                    ∙ ap (λ (b : Bool). list ++ cond b (number ∷ later) later) (sym e) ∙ all_now;
              }
          by false e =
              let apart : (stream_of d).destination ≢ n = λ same. (let away : ((plan_of ds).stream number).destination ≡ n = ap (λ (s : Stream). s.destination) its_own ∙ same in grind (arith, nat_tests)) in
              record {
                rest = rest_now;
                few = few_now;
                all = ap (λ (t : List ℕ). t ++ later) (elsewhere apart) ∙ ap (λ (b : Bool). list ++ cond b (number ∷ later) later) (sym e) ∙ all_now;
              }

-- ---- how many are declared

of_kinds : (ds : List Decl) → length ds ≡ length (filter (is_kind kinds.Node) ds) + length (filter (is_kind kinds.Client) ds) + length (filter (is_kind kinds.Stream) ds)
of_kinds [] = refl
of_kinds (decls.Node label sets ∷ ds) = let l = of_kinds ds in omega (arith, l)
of_kinds (decls.Client label node ∷ ds) = let l = of_kinds ds in omega (arith, l)
of_kinds (decls.Stream label source dest sub bodies ∷ ds) = let l = of_kinds ds in omega (arith, l)

pub few_decls : (ds : List Decl) → AreGoodDecls ds → length ds ≤ 352
few_decls ds good =
    let l = of_kinds ds in
    let nodes = count_is kinds.Node ds in
    let clients = count_is kinds.Client ds in
    let streams = count_is kinds.Stream ds in
    let few_nodes = good.few kinds.Node in
    let few_clients = good.few kinds.Client in
    let few_streams = good.few kinds.Stream in
    omega (arith, l, nodes, clients, streams, few_nodes, few_clients, few_streams)
