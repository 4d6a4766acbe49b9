-- Splitting and joining keep the rule.
use Rattle.std.proofs.Common.{◌≡◌, ◌≢◌, ℕ, ◌+◌, ◌^◌, ◌<◌, ◌≤◌, List, [], ◌∷◌, ◌++◌, length, get_or, set, All, Contains, Option, refl, sym, ap, ◌∙◌, subst, inl, inr, ⊎_elim, arith, length-set, length-append}
use mathlib.Core.Option.{some}
use lib.ListN.{get_elem?, get_or-append}
use lib.Seq.{get_or-append_seam}
use Rattle.std.proofs.lemmas.List.Elements.{All-push, All-weaker}
use Rattle.atomic_table.specs.Table.{State, Me, Splits, Joins}
use Rattle.atomic_table.proofs.Lists.{at_set, set_else, at_longer}
use Rattle.pr_cell.specs.declared.view.View.{View}
use Rattle.pr_cell.specs.declared.view.Known.{Known}
use Rattle.pr_cell.specs.declared.view.Stage.{Stage}
use Rattle.pr_cell.specs.declared.view.Stage.TheVariants.{Idle}
use Rattle.pr_cell.specs.Rule.{book_word, total, nothing, IsAtStage, IsSeated, IsKept}
use Rattle.pr_cell.specs.Steps.{split_left, split_right, joined, spent}
use Rattle.pr_cell.proofs.Basics.{total_push, at_push, All-right, none_in, one_in, put, put_here, put_else, moved, moved_here, moved_else}
use Rattle.pr_cell.proofs.Keeps.{fits_nothing, seats, not_mine}

module _ {T E : Type 0} (entries : T → List E) (number : E → ℕ) (opens : List E) where
  abbrev St : Type 0
  St = State (Option T) (View E)

  abbrev M : Type 0
  M = Me (Option T) (View E)

  abbrev Rule : St → Type 0
  Rule = IsKept entries number opens

  abbrev Knower : (s : St) → Rule s → ℕ → View E → Type 0
  Knower s r = IsSeated number r.log r.turns r.serving r.place r.holder r.owner

  pub splits : (id : ℕ) (v : View E) → v.stage ≡ Idle → v.other ≡ nothing → v.number ≡ 0 → Contains v.main.held v.number → v.issued < 65
      → Splits Rule id v (split_left v) (split_right v)
  splits id v idle alone zeroth own room s r at =
      let mine : Knower s r id v = r.each id v at in
      let c0 : Contains v.main.held 0 = subst (Contains v.main.held) zeroth own in
      let len : v.issued ≡ length r.turns = mine.issued (inl c0) in
      let h0 = mine.holds 0 (inl c0) in
      let counts' : List ℕ = r.turns ++ 0 ∷ [] in
      let same : total counts' ≡ total r.turns = total_push r.turns in
      let more : length counts' ≡ length r.turns + 1 = length-append r.turns (0 ∷ []) in
      let last : ℕ = length s.views in
      let lens : length (set s.views id (split_left v)) ≡ last = length-set s.views id (split_left v) in
      let holder' : ℕ → ℕ = put r.holder (length r.turns) last in
      let kept : (q : ℕ) → q < length r.turns → holder' q ≡ r.holder q = λ q l. put_else r.holder (length r.turns) q last (λ e. omega (arith, e, l)) in
      let K : ℕ → View E → Type 0 = IsSeated number r.log counts' r.serving r.place holder' r.owner in
      let stays : (j : ℕ) (d : View E) (st : Stage) → IsAtStage number r.log (total r.turns) r.serving r.place r.owner j d st → IsAtStage number r.log (total counts') r.serving r.place r.owner j d st =
      λ j d st k. subst (λ (z : ℕ). IsAtStage number r.log z r.serving r.place r.owner j d st) (sym same) k in
      let mine' : K id (split_left v) = record {
        main = mine.main;
        other = mine.other;
        holds = λ q x. let y = mine.holds q x in (kept q y.1 ∙ y.0, let l = y.1 in omega (arith, l, more));
        counted = λ x. get_or-append r.turns (0 ∷ []) 0 v.number (mine.holds v.number (inl x)).1 ∙ mine.counted x;
        issued = λ x. omega (arith, len, more);
        unissued = λ x. absurd (x (inl c0));
        stage = subst (IsAtStage number r.log (total counts') r.serving r.place r.owner id (split_left v)) (sym idle) tt;
      } in
      let others : (j : ℕ) (d : View E) → j ≢ id → get_elem? s.views j ≡ some d → K j d = λ j d ne e. let o : Knower s r j d = r.each j d e in record {
        main = o.main;
        other = o.other;
        holds = λ q x. let y = o.holds q x in (kept q y.1 ∙ y.0, let l = y.1 in omega (arith, l, more));
        counted = λ x. get_or-append r.turns (0 ∷ []) 0 d.number (o.holds d.number (inl x)).1 ∙ o.counted x;
        issued = λ x. absurd (ne (sym (o.holds 0 x).0 ∙ h0.0));
        unissued = o.unissued;
        stage = stays j d d.stage o.stage;
      } in
      let right : K last (split_right v) = record {
        main = (
          mine.main.0,
          mine.main.1,
          All-weaker (λ e. number e < length r.turns) (λ e. Contains (v.issued ∷ []) (number e) → ⊥) (λ e l c. let z : number e ≡ v.issued = one_in v.issued (number e) c in omega (arith, l, z, len)) mine.main.0
              (All-right (λ e. number e < length r.turns) v.main.since mine.main.0 (subst (All (λ e. number e < length r.turns)) (sym mine.main.1) r.made)),
        );
        other = fits_nothing number r.log;
        holds = λ q x. ⊎_elim (λ c. let z : q ≡ v.issued = one_in v.issued q c in (ap holder' (z ∙ len) ∙ put_here r.holder (length r.turns) last, omega (arith, z, len, more))) (λ c. absurd (none_in q c)) x;
        counted = λ _. ap (λ (z : ℕ). get_or counts' z 0) len ∙ get_or-append_seam r.turns 0 [] 0;
        issued = λ x. ⊎_elim (λ c. let z : 0 ≡ v.issued = one_in v.issued 0 c in let l : 0 < length r.turns = h0.1 in absurd (omega (arith, z, l, len))) (λ c. absurd (none_in 0 c)) x;
        unissued = λ _. refl;
        stage = tt;
      } in record {
        log = r.log;
        turns = counts';
        holder = holder';
        owner = r.owner;
        serving = r.serving;
        place = r.place;
        words = r.words ∙ ap (λ (z : ℕ). z ∷ r.serving ∷ book_word r.place r.serving ∷ []) (sym same);
        value = r.value;
        few_numbers = omega (arith, len, room, more);
        few_turns = All-push (λ n. n ≤ 2 ^ 40) r.turns 0 r.few_turns (omega arith);
        served = subst (λ (z : ℕ). r.serving ≤ z) (sym same) r.served;
        taken = λ a. let b = r.taken a in let ne = not_mine entries number opens s r id v at idle a in record {
          drawn = subst (λ (z : ℕ). r.serving < z) (sym same) b.drawn;
          seat = b.seat;
          is = at_longer (set s.views id (split_left v)) (split_right v ∷ []) (r.owner r.serving) b.seat (set_else s.views id (r.owner r.serving) (split_left v) ne ∙ b.is);
          busy = b.busy;
          own = b.own;
        };
        made = All-weaker (λ e. number e < length r.turns) (λ e. number e < length counts') (λ e l. omega (arith, l, more)) r.log r.made;
        each = λ j d e. ⊎_elim (seats entries number opens K s.views id (split_left v) mine' others j d)
            (λ (x : (j ≡ length (set s.views id (split_left v))) × (split_right v ≡ d)). subst (λ (y : ℕ × View E). K y.0 y.1) (λ i. (sym (x.0 ∙ lens) i, x.1 i)) right)
            (at_push (set s.views id (split_left v)) (split_right v) d j e);
      }

  pub joins : (id : ℕ) (v : View E) (other : ℕ) (w : View E) → v.stage ≡ Idle → w.stage ≡ Idle → v.other ≡ nothing → w.other ≡ nothing
      → Joins Rule id v other w (joined v w) spent
  joins id v other w idle still alone apart s r at ne there =
      let b : View E = joined v w in
      let at' : get_elem? s.views other ≡ some w = sym (set_else s.views id other b ne) ∙ there in
      let mine : Knower s r id v = r.each id v at in
      let its : Knower s r other w = r.each other w at' in
      let holder' : ℕ → ℕ = moved r.holder other id in
      let no_v : (q : ℕ) → Contains v.other.held q → ⊥ = λ q c. none_in q (subst (λ (k : Known E). Contains k.held q) alone c) in
      let no_w : (q : ℕ) → Contains w.other.held q → ⊥ = λ q c. none_in q (subst (λ (k : Known E). Contains k.held q) apart c) in
      let K : ℕ → View E → Type 0 = IsSeated number r.log r.turns r.serving r.place holder' r.owner in
      let mine' : K id b = record {
        main = mine.main;
        other = its.main;
        holds = λ q x. ⊎_elim (λ c. let y = mine.holds q (inl c) in (moved_else r.holder other id q (λ z. ne (sym z ∙ y.0)) ∙ y.0, y.1)) (λ c. let y = its.holds q (inl c) in (moved_here r.holder other id q y.0, y.1)) x;
        counted = mine.counted;
        issued = λ x. ⊎_elim
            (λ c. let z : w.issued ≡ 0 = its.unissued (λ y. ne (sym (its.holds 0 y).0 ∙ (mine.holds 0 (inl c)).0)) in let i : v.issued ≡ length r.turns = mine.issued (inl c) in omega (arith, z, i))
            (λ c. let z : v.issued ≡ 0 = mine.unissued (λ y. ne (sym (its.holds 0 (inl c)).0 ∙ (mine.holds 0 y).0)) in let i : w.issued ≡ length r.turns = its.issued (inl c) in omega (arith, z, i))
            x;
        unissued = λ f. let z : v.issued ≡ 0 = mine.unissued (λ y. ⊎_elim (λ c. f (inl c)) (λ c. no_v 0 c) y) in let i : w.issued ≡ 0 = its.unissued (λ y. ⊎_elim (λ c. f (inr c)) (λ c. no_w 0 c) y) in omega (arith, z, i);
        stage = subst (IsAtStage number r.log (total r.turns) r.serving r.place r.owner id b) (sym idle) tt;
      } in
      let spends : K other spent = record {
        main = fits_nothing number r.log;
        other = fits_nothing number r.log;
        holds = λ q x. absurd (⊎_elim (none_in q) (none_in q) x);
        counted = λ c. absurd (none_in 0 c);
        issued = λ x. absurd (⊎_elim (none_in 0) (none_in 0) x);
        unissued = λ _. refl;
        stage = tt;
      } in
      let others : (j : ℕ) (d : View E) → j ≢ other → j ≢ id → get_elem? s.views j ≡ some d → K j d = λ j d far nej e. let o : Knower s r j d = r.each j d e in record {
        main = o.main;
        other = o.other;
        holds = λ q x. let y = o.holds q x in (moved_else r.holder other id q (λ z. far (sym y.0 ∙ z)) ∙ y.0, y.1);
        counted = o.counted;
        issued = o.issued;
        unissued = o.unissued;
        stage = o.stage;
      } in record {
        log = r.log;
        turns = r.turns;
        holder = holder';
        owner = r.owner;
        serving = r.serving;
        place = r.place;
        words = r.words;
        value = r.value;
        few_numbers = r.few_numbers;
        few_turns = r.few_turns;
        served = r.served;
        taken = λ a. let x = r.taken a in let q : ℕ = r.owner r.serving in record {
          drawn = x.drawn;
          seat = x.seat;
          is = set_else (set s.views id b) other q spent (not_mine entries number opens s r other w at' still a) ∙ (set_else s.views id q b (not_mine entries number opens s r id v at idle a) ∙ x.is);
          busy = x.busy;
          own = x.own;
        };
        made = r.made;
        each = seats entries number opens K (set s.views id b) other spent spends (λ j d far e. ⊎_elim
            (λ (x : (j ≡ id) × (b ≡ d)). subst (λ (y : ℕ × View E). K y.0 y.1) (λ i. (sym x.0 i, x.1 i)) mine')
            (λ (x : (j ≢ id) × (get_elem? s.views j ≡ some d)). others j d far x.0 x.1) (at_set s.views id j b d e));
      }
