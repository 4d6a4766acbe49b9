-- Drawing a ticket and looking at the one that is served keep the rule.
use Rattle.std.proofs.Common.{◌≡◌, ◌≢◌, ℕ, ◌+◌, ◌*◌, ◌%◌, ◌^◌, ◌<◌, ◌≤◌, List, [], ◌∷◌, ◌++◌, length, get_or, set, All, Contains, Option, Some, None, refl, sym, ap, ◌∙◌, subst, inl, arith, length-set, get_or-set_other, get_or-set_same, append-nil, mod-eq_of_lt}
use mathlib.Core.Logic.{dite}
use mathlib.Core.Option.{some, none}
use native.Mathlib.Decide.{ℕ_discrete}
use lib.ListN.{get_elem?}
use lib.Seq.{set-get_or}
use Rattle.std.proofs.lemmas.List.Elements.{All-nil, All-set}
use Rattle.atomic_table.specs.Table.{State, Me, step, keeps, takes, Allows}
use Rattle.atomic_table.proofs.Lists.{set_else}
use Rattle.pr_cell.specs.declared.view.View.{View}
use Rattle.pr_cell.specs.declared.view.Stage.TheVariants.{Idle, Waiting, Holding}
use Rattle.pr_cell.specs.Rule.{home, out, book_word, total, IsAtStage, IsSeated, IsKept}
use Rattle.pr_cell.specs.Steps.{waiting, at_stage, drawn, looked}
use Rattle.pr_cell.proofs.Basics.{total_set, put, put_here, put_else, set_at}
use Rattle.pr_cell.proofs.Keeps.{home_not, ticket_of, stage_by, seats, small_total, not_mine, at_home, same_view}

module _ {T E : Type 0} (entries : T → List E) (number : E → ℕ) (opens : List E) where
  abbrev St : Type 0
  St = State (Option T) (View E)

  abbrev M : Type 0
  M = Me (Option T) (View E)

  abbrev Rule : St → Type 0
  Rule = IsKept entries number opens

  abbrev Knower : (s : St) → Rule s → ℕ → View E → Type 0
  Knower s r = IsSeated number r.log r.turns r.serving r.place r.holder r.owner

  pub draws : (slots id : ℕ) (me : M) → me.0.stage ≡ Idle → Contains me.0.main.held me.0.number → me.0.turns < 2 ^ 40
      → Allows Rule slots id me 0 (λ n. (n + 1) % 2 ^ 64) (drawn (step slots 0 1 0 none) me)
  draws slots id me idle own room s r long at small =
      let v : View E = me.0 in
      let k : ℕ = v.number in
      let mine : Knower s r id v = r.each id v at in
      let h = mine.holds k (inl own) in
      let inside : k < length r.turns = h.1 in
      let n : ℕ = total r.turns in
      let c : get_or r.turns k 0 ≡ v.turns = mine.counted own in
      let counts' : List ℕ = set r.turns k (v.turns + 1) in
      let grown : total counts' ≡ n + 1 = let e = total_set r.turns k (v.turns + 1) inside in omega (arith, e, c) in
      let bound : n ≤ 65 * 2 ^ 40 = small_total entries number opens s r in
      let found : get_or s.words 0 0 ≡ n = ap (λ (l : List ℕ). get_or l 0 0) r.words in
      let t : ℕ = get_or s.words 0 0 in
      let next : (t + 1) % 2 ^ 64 ≡ total counts' = mod-eq_of_lt (omega (arith, found, bound)) ∙ (ap (λ (z : ℕ). z + 1) found ∙ sym grown) in
      let owner' : ℕ → ℕ = put r.owner t id in
      let served : r.serving ≤ n = r.served in
      let K : ℕ → View E → Type 0 = IsSeated number r.log counts' r.serving r.place r.holder owner' in
      let lens : length counts' ≡ length r.turns = length-set r.turns k (v.turns + 1) in
      let w : View E = waiting t v in
      let before : (q : ℕ) → q < n → owner' q ≡ r.owner q = λ q l. put_else r.owner t q id (λ e. omega (arith, e, l, found)) in
      let mine' : K id w = record {
        main = mine.main;
        other = mine.other;
        holds = λ q x. let y = mine.holds q x in (y.0, subst (λ (z : ℕ). q < z) (sym lens) y.1);
        counted = λ _. get_or-set_same r.turns k (v.turns + 1) 0 inside;
        issued = λ x. mine.issued x ∙ sym lens;
        unissued = mine.unissued;
        stage = (omega (arith, served, found), omega (arith, grown, found), put_here r.owner t id, (λ a. let b = (r.taken a).drawn in omega (arith, b, found)), own);
      } in
      let others : (j : ℕ) (d : View E) → j ≢ id → get_elem? s.views j ≡ some d → K j d = λ j d ne e. let o : Knower s r j d = r.each j d e in record {
        main = o.main;
        other = o.other;
        holds = λ q x. let y = o.holds q x in (y.0, subst (λ (z : ℕ). q < z) (sym lens) y.1);
        counted = λ x. get_or-set_other r.turns k d.number (v.turns + 1) 0 (λ same. ne (sym (o.holds d.number (inl x)).0 ∙ (ap r.holder same ∙ h.0))) ∙ o.counted x;
        issued = λ x. o.issued x ∙ sym lens;
        unissued = o.unissued;
        stage = stage_by number r.log r.log n (total counts') r.serving r.serving r.place r.place r.owner owner' j d
            (λ q a b c f. (a, omega (arith, b, grown), before q b ∙ c, f))
            (λ a b c f. (refl, omega (arith, b, grown), before r.serving b ∙ c, f)) d.stage o.stage;
      } in (
        w,
        keeps,
        tt,
        record {
          log = r.log;
          turns = counts';
          holder = r.holder;
          owner = owner';
          serving = r.serving;
          place = r.place;
          words = ap (λ (l : List ℕ). set l 0 ((t + 1) % 2 ^ 64)) r.words ∙ ap (λ (z : ℕ). z ∷ r.serving ∷ book_word r.place r.serving ∷ []) next;
          value = r.value;
          few_numbers = subst (λ (z : ℕ). z ≤ 65) (sym lens) r.few_numbers;
          few_turns = All-set (λ z. z ≤ 2 ^ 40) r.turns k (v.turns + 1) (omega (arith, room)) r.few_turns;
          served = omega (arith, served, grown);
          taken = λ a. let b = r.taken a in let ne = not_mine entries number opens s r id v at idle a in let l = b.drawn in let same = before r.serving l in record {
            drawn = omega (arith, l, grown);
            seat = b.seat;
            is = ap (get_elem? (set s.views id w)) same ∙ (set_else s.views id (r.owner r.serving) w ne ∙ b.is);
            busy = b.busy;
            own = b.own;
          };
          made = subst (λ (z : ℕ). All (λ e. number e < z) r.log) (sym lens) r.made;
          each = seats entries number opens K s.views id w mine' others;
        },
        (refl, refl),
      )

  pub looks : (slots id : ℕ) (me : M) (t : ℕ) → me.0.stage ≡ Waiting t → me.0.opening ≡ opens
      → Allows Rule slots id me 1 (λ n. n) (looked entries number (step slots 1 0 0 none) me)
  looks slots id me t is op s r long at small =
      let v : View E = me.0 in
      let x : ℕ = get_or s.words 1 0 in
      let found : x ≡ r.serving = ap (λ (l : List ℕ). get_or l 1 0) r.words in
      let mine : Knower s r id v = r.each id v at in
      dite (ℕ_discrete x t)
      (λ (hit : x ≡ t).
      let st : IsAtStage number r.log (total r.turns) r.serving r.place r.owner id v (Waiting t) = subst (IsAtStage number r.log (total r.turns) r.serving r.place r.owner id v) is mine.stage in
      let now : r.serving ≡ t = sym found ∙ hit in
      let at_desk = at_home entries number opens r.log s.homes r.place (λ a. let b : r.serving < t = st.3 a in omega (arith, b, now)) r.value in
      let p : r.place ≡ home = at_desk.0 in
      let value : T = at_desk.1.0 in
      let new : List E = mine.main.0 in
      let w : View E = at_stage Holding (v.main.since ++ new) v in
      let owner_is : r.owner r.serving ≡ id = ap r.owner now ∙ st.2 in
      let below : r.serving < total r.turns = let b : t < total r.turns = st.1 in omega (arith, b, now) in
      let K : ℕ → View E → Type 0 = IsSeated number r.log r.turns r.serving out r.holder r.owner in
      let mine' : K id w = record {
        main = ([], append-nil (v.main.since ++ new) ∙ mine.main.1, All-nil _);
        other = mine.other;
        holds = mine.holds;
        counted = mine.counted;
        issued = mine.issued;
        unissued = mine.unissued;
        stage = (refl, below, owner_is, mine.main.1, st.4);
      } in
      let others : (j : ℕ) (d : View E) → j ≢ id → get_elem? s.views j ≡ some d → K j d = λ j d ne e. let o : Knower s r j d = r.each j d e in record {
        main = o.main;
        other = o.other;
        holds = o.holds;
        counted = o.counted;
        issued = o.issued;
        unissued = o.unissued;
        stage = stage_by number r.log r.log (total r.turns) (total r.turns) r.serving r.serving r.place out r.owner r.owner j d
            (λ q a b c f. (a, b, c, λ _. let far : q ≢ r.serving = λ z. ne (sym c ∙ (ap r.owner z ∙ owner_is)) in dite (ℕ_discrete q r.serving) (λ z. absurd (far z)) (λ z. omega (arith, a, z))))
            (λ a b c f. absurd (home_not r.place p a)) d.stage o.stage;
      } in (
        w,
        takes 0 (Some value),
        ap (λ l. get_elem? l 0) at_desk.1.1,
        record {
          log = r.log;
          turns = r.turns;
          holder = r.holder;
          owner = r.owner;
          serving = r.serving;
          place = out;
          words = set-get_or s.words 1 0 ∙ (r.words ∙ ap (λ q. total r.turns ∷ r.serving ∷ book_word q r.serving ∷ []) p);
          value = ap (λ l. set l 0 none) at_desk.1.1;
          few_numbers = r.few_numbers;
          few_turns = r.few_turns;
          served = r.served;
          taken = λ _. record { drawn = below; seat = w; is = ap (get_elem? (set s.views id w)) owner_is ∙ set_at s.views id v w at; busy = tt; own = st.4 };
          made = r.made;
          each = seats entries number opens K s.views id w mine' others;
        },
        λ t' is'. (
          (λ _. (value, new, refl, at_desk.1.2 ∙ (λ i. sym op i ++ sym mine.main.1 i), mine.main.2, refl)),
          (λ not. absurd (not (hit ∙ ap ticket_of (sym is ∙ is')))),
        ),
      ))
      (λ (miss : x ≢ t). (
        v,
        keeps,
        tt,
        same_view entries number opens s 1 id me.1 v at r,
        λ t' is'. ((λ hit. absurd (miss (hit ∙ sym (ap ticket_of (sym is ∙ is'))))), (λ _. refl)),
      ))

abbrev pub some_of : {A : Type 0} → A → Option A → A
some_of x (Some y) = y
some_of x None = x

abbrev first_of_all : {A : Type 0} → List (ℕ × Option A) → Option A
first_of_all [] = None
first_of_all (y ∷ ys) = y.1

pub got : {A : Type 0} (cs cs' ds : List (ℕ × Option A)) (x value : A) (res : Option A) → cs ≡ (0, Some x) ∷ ds → cs ≡ (0, res) ∷ cs' → res ≡ Some value → value ≡ x
got cs cs' ds x value res a b is = ap (some_of x) (sym is ∙ ap first_of_all (sym b ∙ a))
