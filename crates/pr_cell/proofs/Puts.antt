-- Booking a turn and advancing keep the rule.
use Rattle.std.proofs.Common.{◌≡◌, ◌≢◌, ℕ, ◌+◌, ◌*◌, ◌%◌, ◌^◌, ◌<◌, ◌≤◌, List, [], ◌∷◌, ◌++◌, length, get_or, set, drop, All, Contains, Option, Some, refl, sym, ap, ◌∙◌, subst, inl, inr, arith, append-nil, append_assoc, mod-eq_of_lt}
use mathlib.Core.Option.{some, none}
use lib.ListN.{get_elem?}
use lib.Seq.{drop-append_seam}
use Rattle.std.proofs.lemmas.List.Elements.{All-nil, All-append, All-weaker}
use Rattle.atomic_table.specs.Table.{put_back, State, Me, step, keeps, gives, Allows}
use Rattle.pr_cell.specs.declared.view.View.{View}
use Rattle.pr_cell.specs.declared.view.Stage.TheVariants.{Idle, Holding, Booked}
use Rattle.pr_cell.specs.Rule.{home, out, out_booked, book_word, total, nothing, Fits, IsAtStage, IsSeated, IsKept}
use Rattle.pr_cell.specs.Steps.{at_stage, carried, booked, advanced}
use Rattle.pr_cell.proofs.Basics.{set_at}
use Rattle.pr_cell.proofs.Keeps.{away_out, away_paid, stage_by, fits_more, fits_nothing, seats, small_total, gone}

module _ {T E : Type 0} (entries : T → List E) (number : E → ℕ) (opens : List E) where
  abbrev St : Type 0
  St = State (Option T) (View E)

  abbrev M : Type 0
  M = Me (Option T) (View E)

  abbrev Rule : St → Type 0
  Rule = IsKept entries number opens

  abbrev Knower : (s : St) → Rule s → ℕ → View E → Type 0
  Knower s r = IsSeated number r.log r.turns r.serving r.place r.holder r.owner

  pub books : (slots id : ℕ) (me : M) (x : T) (new : List E) → me.0.stage ≡ Holding → me.0.opening ≡ opens → me.0.other ≡ nothing → me.1 ≡ (0, Some x) ∷ []
      → entries x ≡ opens ++ (me.0.main.since ++ new) → All (λ e. number e ≡ me.0.number) new
      → Allows Rule slots id me 2 (λ n. (n + 1) % 2 ^ 64) (booked entries (step slots 2 1 0 none) me)
  books slots id me x new is op alone cs value by s r long at small =
      let v : View E = me.0 in
      let n : ℕ = v.number in
      let mine : Knower s r id v = r.each id v at in
      let st : IsAtStage number r.log (total r.turns) r.serving r.place r.owner id v Holding = subst (IsAtStage number r.log (total r.turns) r.serving r.place r.owner id v) is mine.stage in
      let p : r.place ≡ out = st.0 in
      let b : ℕ = get_or s.words 2 0 in
      let found : b ≡ r.serving = ap (λ (l : List ℕ). get_or l 2 0) r.words ∙ ap (λ q. book_word q r.serving) p in
      let below : r.serving < total r.turns = st.1 in
      let bound : total r.turns ≤ 65 * 2 ^ 40 = small_total entries number opens s r in
      let next : (b + 1) % 2 ^ 64 ≡ r.serving + 1 = mod-eq_of_lt (omega (arith, found, below, bound)) ∙ ap (λ (z : ℕ). z + 1) found in
      let got : List E = drop (length v.opening) (carried entries me.1) in
      let got_is : got ≡ r.log ++ new =
      (λ i. drop (length (op i)) (carried entries (cs i))) ∙ (ap (drop (length opens)) value ∙ (drop-append_seam opens (v.main.since ++ new) ∙ ap (λ l. l ++ new) st.3)) in
      let w : View E = at_stage Booked got v in
      let log' : List E = r.log ++ new in
      let own : Contains v.main.held n = st.4 in
      let h = mine.holds n (inl own) in
      let K : ℕ → View E → Type 0 = IsSeated number log' r.turns (r.serving) out_booked r.holder r.owner in
      let mine' : K id w = record {
        main = ([], append-nil got ∙ got_is, All-nil _);
        other = subst (Fits number log') (sym alone) (fits_nothing number log');
        holds = mine.holds;
        counted = mine.counted;
        issued = mine.issued;
        unissued = mine.unissued;
        stage = (refl, below, st.2, got_is, own);
      } in
      let others : (j : ℕ) (d : View E) → j ≢ id → get_elem? s.views j ≡ some d → K j d = λ j d ne e. let o : Knower s r j d = r.each j d e in record {
        main = fits_more number r.log new n d.main (λ c. ne (sym (o.holds n (inl c)).0 ∙ h.0)) by o.main;
        other = fits_more number r.log new n d.other (λ c. ne (sym (o.holds n (inr c)).0 ∙ h.0)) by o.other;
        holds = o.holds;
        counted = o.counted;
        issued = o.issued;
        unissued = o.unissued;
        stage = stage_by number r.log log' (total r.turns) (total r.turns) r.serving r.serving r.place out_booked r.owner r.owner j d
            (λ q a b c f. (a, b, c, λ _. f (away_out r.place p)))
            (λ a b c f. absurd (ne (sym c ∙ st.2))) d.stage o.stage;
      } in (
        w,
        keeps,
        tt,
        record {
          log = log';
          turns = r.turns;
          holder = r.holder;
          owner = r.owner;
          serving = r.serving;
          place = out_booked;
          words = ap (λ (l : List ℕ). set l 2 ((b + 1) % 2 ^ 64)) r.words ∙ ap (λ (z : ℕ). total r.turns ∷ r.serving ∷ z ∷ []) next;
          value = gone entries number opens r.log s.homes r.place (away_out r.place p) r.value;
          few_numbers = r.few_numbers;
          few_turns = r.few_turns;
          served = r.served;
          taken = λ _. record { drawn = below; seat = w; is = ap (get_elem? (set s.views id w)) st.2 ∙ set_at s.views id v w at; busy = tt; own = own };
          made = All-append (λ e. number e < length r.turns) r.log new r.made (All-weaker (λ e. number e ≡ n) (λ e. number e < length r.turns) (λ e same. subst (λ (z : ℕ). z < length r.turns) (sym same) h.1) new by);
          each = seats entries number opens K s.views id w mine' others;
        },
        (refl, refl),
      )

  pub advances : (slots id : ℕ) (me : M) (x : T) → me.0.stage ≡ Booked → me.1 ≡ (0, Some x) ∷ [] → entries x ≡ opens ++ me.0.main.since
      → Allows Rule slots id me 1 (λ n. (n + 1) % 2 ^ 64) (advanced (step slots 1 1 0 none) me)
  advances slots id me x is cs value s r long at small =
      let v : View E = me.0 in
      let mine : Knower s r id v = r.each id v at in
      let st : IsAtStage number r.log (total r.turns) r.serving r.place r.owner id v Booked = subst (IsAtStage number r.log (total r.turns) r.serving r.place r.owner id v) is mine.stage in
      let p : r.place ≡ out_booked = st.0 in
      let b : ℕ = get_or s.words 1 0 in
      let found : b ≡ r.serving = ap (λ (l : List ℕ). get_or l 1 0) r.words in
      let below : r.serving < total r.turns = st.1 in
      let bound : total r.turns ≤ 65 * 2 ^ 40 = small_total entries number opens s r in
      let next : (b + 1) % 2 ^ 64 ≡ r.serving + 1 = mod-eq_of_lt (omega (arith, found, below, bound)) ∙ ap (λ (z : ℕ). z + 1) found in
      let w : View E = at_stage Idle v.main.since v in
      let K : ℕ → View E → Type 0 = IsSeated number r.log r.turns (r.serving + 1) home r.holder r.owner in
      let empty = gone entries number opens r.log s.homes r.place (away_paid r.place p) r.value in
      let mine' : K id w = record {
        main = mine.main;
        other = mine.other;
        holds = mine.holds;
        counted = mine.counted;
        issued = mine.issued;
        unissued = mine.unissued;
        stage = tt;
      } in
      let others : (j : ℕ) (d : View E) → j ≢ id → get_elem? s.views j ≡ some d → K j d = λ j d ne e. let o : Knower s r j d = r.each j d e in record {
        main = o.main;
        other = o.other;
        holds = o.holds;
        counted = o.counted;
        issued = o.issued;
        unissued = o.unissued;
        stage = stage_by number r.log r.log (total r.turns) (total r.turns) r.serving (r.serving + 1) r.place home r.owner r.owner j d
            (λ q a b c f. let g : r.serving < q = f (away_paid r.place p) in (omega (arith, g), b, c, λ z. absurd z))
            (λ a b c f. absurd (ne (sym c ∙ st.2))) d.stage o.stage;
      } in (
        w,
        gives,
        tt,
        record {
          log = r.log;
          turns = r.turns;
          holder = r.holder;
          owner = r.owner;
          serving = r.serving + 1;
          place = home;
          words = ap (λ (l : List ℕ). set l 1 ((b + 1) % 2 ^ 64)) r.words ∙ ((λ i. total r.turns ∷ next i ∷ book_word (p i) r.serving ∷ []));
          value = (x, (λ i. put_back (empty i) (cs i)), value ∙ ap (λ l. opens ++ l) st.3);
          few_numbers = r.few_numbers;
          few_turns = r.few_turns;
          served = omega (arith, below);
          taken = λ z. absurd z;
          made = r.made;
          each = seats entries number opens K s.views id w mine' others;
        },
        (refl, refl),
      )

pub dropped : {A : Type 0} (xs ys zs es : List A) → es ≡ (xs ++ ys) ++ zs → drop (length xs) es ≡ ys ++ zs
dropped xs ys zs es e = ap (drop (length xs)) (e ∙ append_assoc xs ys zs) ∙ drop-append_seam xs (ys ++ zs)
