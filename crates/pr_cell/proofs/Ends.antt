-- What the first and the last state say, and loads that tell what was seen.
use Rattle.std.proofs.Common.{Bool, true, false, leb, cond, leb-true, leb-false, ◌≡◌, ◌⊎◌, ℕ, zero, suc, ◌^◌, ◌<◌, ◌≤◌, List, [], ◌∷◌, ◌++◌, length, set, All, Contains, Option, Some, refl, sym, ap, ◌∙◌, subst, inl, ⊎_elim, arith, append-nil}
use mathlib.Core.Logic.{dite}
use mathlib.Core.Option.{some, none, some-injective, some-ne-none}
use native.Mathlib.Decide.{dec_le}
use lib.ListN.{get_elem?}
use lib.Seq.{set-get_or}
use Rattle.std.proofs.lemmas.List.Elements.{All-nil, All-push, All-weaker, Contains-append_left, Contains-append_right, Contains-append_cases}
use Rattle.atomic_table.specs.Table.{State, Me, step, keeps, Allows, Final, Seen, opening}
use Rattle.atomic_table.proofs.Lists.{set_else}
use Rattle.pr_cell.specs.declared.view.View.{View}
use Rattle.pr_cell.specs.declared.view.Known.{Known}
use Rattle.pr_cell.specs.declared.view.Stage.TheVariants.{Idle}
use Rattle.pr_cell.specs.Rule.{home, IsAway, total, known, starting, IsPast, Fits, IsAtStage, IsSeated, IsKept}
use Rattle.pr_cell.specs.Steps.{loaded_after_join, loaded_before_split, longer, compared, IsUpTo}
use Rattle.pr_cell.proofs.Basics.{begins, All-left, All-right, none_left, none_in, one_in, in_one}
use Rattle.pr_cell.proofs.Keeps.{fits_nothing, seats, not_mine, at_home, same_view}

module _ {E : Type 0} (number : E → ℕ) where
  upto : (log : List E) (k k' : Known E) (f : Fits number log k) (f' : Fits number log k') → length k.since ≤ length k'.since → IsUpTo number k k'.since × IsPast number k.held f'.0
  upto log k k' f f' h =
      let t = begins k.since k'.since f.0 f'.0 (f.1 ∙ sym f'.1) h in
      let P : E → Type 0 = λ e. Contains k.held (number e) → ⊥ in
      let past : All P (t.0 ++ f'.0) = subst (All P) t.2 f.2 in
      ((t.0, t.1, All-left P t.0 f'.0 past), All-right P t.0 f'.0 past)

  itself : (k : Known E) → IsUpTo number k k.since
  itself k = ([], sym (append-nil k.since), All-nil _)

  both : (xs ys : List ℕ) (es : List E) → IsPast number xs es → IsPast number ys es → IsPast number (xs ++ ys) es
  both xs ys es p q k d l c = ⊎_elim (p k d l) (q k d l) (Contains-append_cases xs ys _ c)

  abbrev Told : List E → Known E → Known E → List E → Type 0
  Told log k k' xs = Fits number log (known xs (k.held ++ k'.held)) × IsUpTo number k xs × IsUpTo number k' xs

  by_longer : (log : List E) (k k' : Known E) → Fits number log k → Fits number log k' → Told log k k' (longer k.since k'.since)
  by_longer log k k' f f' = go (leb (length k.since) (length k'.since)) refl
    where
      go : (b : Bool) → leb (length k.since) (length k'.since) ≡ b → Told log k k' (cond b k'.since k.since)
      go true e = let u = upto log k k' f f' (leb-true _ _ e) in ((f'.0, f'.1, both k.held k'.held f'.0 u.1 f'.2), u.0, itself k')
      go false e = let l = leb-false (length k.since) (length k'.since) e in let u = upto log k' k f' f (omega (arith, l)) in ((f.0, f.1, both k.held k'.held f.0 f.2 u.1), itself k, u.0)

module _ {T E : Type 0} (entries : T → List E) (number : E → ℕ) (opens : List E) where
  abbrev St : Type 0
  St = State (Option T) (View E)

  abbrev M : Type 0
  M = Me (Option T) (View E)

  abbrev Rule : St → Type 0
  Rule = IsKept entries number opens

  abbrev Knower : (s : St) → Rule s → ℕ → View E → Type 0
  Knower s r = IsSeated number r.log r.turns r.serving r.place r.holder r.owner

  pub learns : (slots id : ℕ) (me : M) → me.0.stage ≡ Idle → Contains me.0.main.held me.0.number → Allows Rule slots id me 0 (λ n. n) (loaded_after_join number (step slots 0 0 0 none) me)
  learns slots id me idle own s r long at small =
      let v : View E = me.0 in
      let w : View E = compared v in
      let mine : Knower s r id v = r.each id v at in
      let t = by_longer number r.log v.main v.other mine.main mine.other in
      let K : ℕ → View E → Type 0 = Knower s r in
      let apart : (q : ℕ) → Contains w.main.held q ⊎ Contains w.other.held q → Contains v.main.held q ⊎ Contains v.other.held q =
      λ q x. ⊎_elim (Contains-append_cases v.main.held v.other.held q) (λ c. absurd (none_in q c)) x in
      let mine' : K id w = record {
        main = t.0;
        other = fits_nothing number r.log;
        holds = λ q x. mine.holds q (apart q x);
        counted = λ _. mine.counted own;
        issued = λ x. mine.issued (apart 0 x);
        unissued = λ f. mine.unissued (λ x. f (inl (⊎_elim (Contains-append_left v.main.held v.other.held 0) (Contains-append_right v.main.held v.other.held 0) x)));
        stage = subst (IsAtStage number r.log (total r.turns) r.serving r.place r.owner id w) (sym idle) tt;
      } in (
        w,
        keeps,
        tt,
        subst (λ (ws : List ℕ). Rule record { words = ws; homes = s.homes; views = set s.views id w }) (sym (set-get_or s.words 0 0)) record {
          log = r.log;
          turns = r.turns;
          holder = r.holder;
          owner = r.owner;
          serving = r.serving;
          place = r.place;
          words = r.words;
          value = r.value;
          few_numbers = r.few_numbers;
          few_turns = r.few_turns;
          served = r.served;
          taken = λ a. let x = r.taken a in record { drawn = x.drawn; seat = x.seat; is = set_else s.views id (r.owner r.serving) w (not_mine entries number opens s r id v at idle a) ∙ x.is; busy = x.busy; own = x.own };
          made = r.made;
          each = seats entries number opens K s.views id w mine' (λ j d ne e. r.each j d e);
        },
        (refl, refl, t.1, t.2, dite (dec_le v.issued 65) (λ l. l) (λ not. let few : length r.turns ≤ 65 = r.few_numbers in let z : v.issued ≡ 0 = mine.unissued (λ x. not (let i : v.issued ≡ length r.turns = mine.issued x in omega (arith, i, few))) in omega (arith, z))),
      )

  pub counts : (slots id : ℕ) (me : M) → Allows Rule slots id me 0 (λ n. n) (loaded_before_split number (step slots 0 0 0 none) me)
  counts slots id me s r long at small =
      let v : View E = me.0 in
      let mine : Knower s r id v = r.each id v at in (
        v,
        keeps,
        tt,
        same_view entries number opens s 0 id me.1 v at r,
        (
          refl,
          λ c. All-left (λ e. number e < v.issued) v.main.since mine.main.0
              (subst (λ (y : ℕ × List E). All (λ e. number e < y.0) y.1) (λ i. (sym (mine.issued (inl c)) i, sym mine.main.1 i)) r.made),
        ),
      )

  pub starts : (x : T) → entries x ≡ opens → Rule (opening (0 ∷ 0 ∷ 0 ∷ []) (Some x ∷ []) (starting opens))
  starts x is = record {
    log = [];
    turns = 0 ∷ [];
    holder = λ _. 0;
    owner = λ _. 0;
    serving = 0;
    place = home;
    words = refl;
    value = (x, refl, is ∙ sym (append-nil opens));
    few_numbers = omega arith;
    few_turns = All-push (λ n. n ≤ 2 ^ 40) [] 0 (All-nil _) (omega arith);
    served = omega arith;
    taken = λ z. absurd z;
    made = All-nil _;
    each = only;
  }
    where
      first : IsSeated number [] (0 ∷ []) 0 home (λ _. 0) (λ _. 0) 0 (starting opens)
      first = record {
        main = ([], refl, All-nil _);
        other = fits_nothing number [];
        holds = λ q x. ⊎_elim (λ c. let z : q ≡ 0 = one_in 0 q c in (refl, omega (arith, z))) (λ c. absurd (none_in q c)) x;
        counted = λ _. refl;
        issued = λ _. refl;
        unissued = λ f. absurd (f (inl (in_one 0)));
        stage = tt;
      }

      only : (j : ℕ) (v : View E) → get_elem? (starting opens ∷ []) j ≡ some v → IsSeated number [] (0 ∷ []) 0 home (λ _. 0) (λ _. 0) j v
      only zero v e = subst (IsSeated number [] (0 ∷ []) 0 home (λ _. 0) (λ _. 0) 0) (some-injective (starting opens) v e) first
      only (suc j) v e = absurd (some-ne-none v (sym e))

  pub closes : (id : ℕ) (v : View E) (ws : List ℕ) (xs : List (Option T)) → v.stage ≡ Idle → Contains v.main.held 0 → ((k : ℕ) → k < v.issued → Contains v.main.held k)
      → Final (Seen Rule id v) ws xs → (x : T) × (get_elem? xs 0 ≡ some (Some x)) × (entries x ≡ opens ++ v.main.since) × All (λ e. Contains v.main.held (number e)) v.main.since
  closes id v ws xs idle c0 all f =
      let s : St = f.0 in
      let r : Rule s = f.1.0 in
      let at : get_elem? s.views id ≡ some v = f.1.1 in
      let mine : Knower s r id v = r.each id v at in
      let len : v.issued ≡ length r.turns = mine.issued (inl c0) in
      let made : (n : ℕ) → n < length r.turns → Contains v.main.held n = λ n l. all n (omega (arith, l, len)) in
      let not_away : IsAway r.place → ⊥ = λ a. let b = r.taken a in let o : Knower s r (r.owner r.serving) b.seat = r.each (r.owner r.serving) b.seat b.is in let h = o.holds b.seat.number (inl b.own) in
      not_mine entries number opens s r id v at idle a (sym h.0 ∙ (mine.holds b.seat.number (inl (made b.seat.number h.1))).0) in
      let desk = at_home entries number opens r.log s.homes r.place not_away r.value in
      let new : List E = mine.main.0 in
      let parts : All (λ e. number e < length r.turns) (v.main.since ++ new) = subst (All (λ e. number e < length r.turns)) (sym mine.main.1) r.made in
      let none_new : new ≡ [] = none_left (λ e. number e < length r.turns) (λ e. Contains v.main.held (number e) → ⊥) new (λ e l no_e. no_e (made (number e) l)) (All-right (λ e. number e < length r.turns) v.main.since new parts) mine.main.2 in (
        desk.1.0,
        f.4 0 (Some desk.1.0) (ap (λ l. get_elem? l 0) desk.1.1),
        desk.1.2 ∙ ap (λ l. opens ++ l) (sym mine.main.1 ∙ (ap (λ l. v.main.since ++ l) none_new ∙ append-nil v.main.since)),
        All-weaker (λ e. number e < length r.turns) (λ e. Contains v.main.held (number e)) (λ e l. made (number e) l) v.main.since (All-left (λ e. number e < length r.turns) v.main.since new parts),
      )
