-- The order by time, then node, keeps each list whose times rise.
use Rattle.std.proofs.Common.{◌≡◌, ℕ, ◌<◌, List, [], ◌∷◌, ◌++◌, length, get_or, refl, sym, ◌∙◌, ap, subst, inl, arith, cond, nat_eq}
use Rattle.std.specs.Prelude.{◌⊎◌, Bool, true, false, AllPairs, Contains, filter, map, reverse}
use Rattle.std.specs.List.Sorted.{IsStrictlyIncreasing}
use Rattle.std.proofs.lemmas.Bool.Decides.{Decides-eqb}
use Rattle.std.proofs.lemmas.List.{append-nil, get_or-map, length-map, reverse-append}
use Rattle.std.proofs.lemmas.List.Elements.{filter-append}
use Rattle.std.proofs.lemmas.List.Kept.{AllPairs-filter, AllPairs-from_increasing}
use Rattle.pr_story.specs.History.{NodeEntry}
use Rattle.pr_story.specs.Merging.{New, plain, of_node, of_job}
use Rattle.pr_story.specs.Scripts.{JobEntry, Precedes, ByTime}
use Rattle.pr_story.specs.Scripts as scripts
use Rattle.pr_story.proofs.InOrder.{kept_is, is_kept}
use Rattle.pr_story.proofs.Sorted.{sorted_one}
use Rattle.pr_merge.specs.Phases.{times_of, job_entries, IsOwnList, TimeKeepsOrders}

abbrev pub as_job : New → JobEntry
as_job x = record { job = x.job; made = x.made }

-- the order of a phase, of new entries
abbrev pub Comes : New → New → Type 0
Comes x y = Precedes ByTime (as_job x) (as_job y)

one_way : (x y : New) → Comes x y → Comes y x → ⊥
one_way x y = numbers x.made.entry.time y.made.entry.time x.made.node y.made.node
  where
    numbers : (a b m n : ℕ) → (a < b) ⊎ ((a ≡ b) × (m < n)) → (b < a) ⊎ ((b ≡ a) × (n < m)) → ⊥
    numbers a b m n one two = grind arith

pub pairs_of_map : {X Y : Type 0} (f : X → Y) (R : Y → Y → Type 0) (xs : List X) → AllPairs R (map f xs) → AllPairs (λ x y. R (f x) (f y)) xs
pairs_of_map f R xs all i j d less lt =
    subst (λ y. R y (f (get_or xs j d))) (get_or-map f xs i d (f d) (omega (arith, less, lt)))
    (subst (R (get_or (map f xs) i (f d))) (get_or-map f xs j d (f d) lt) (all i j (f d) less (omega (arith, lt, length-map xs f))))

pub map_of_pairs : {X Y : Type 0} (f : X → Y) (R : Y → Y → Type 0) (xs : List X) → AllPairs (λ x y. R (f x) (f y)) xs → AllPairs R (map f xs)
map_of_pairs f R [] all i j d less lt = absurd (omega (arith, lt))
map_of_pairs f R (x ∷ xs) all i j d less lt =
    let within : j < length (x ∷ xs) = omega (arith, lt, length-map (x ∷ xs) f) in
    subst (λ y. R y (get_or (map f (x ∷ xs)) j d)) (sym (get_or-map f (x ∷ xs) i x d (omega (arith, less, within))))
    (subst (R (f (get_or (x ∷ xs) i x))) (sym (get_or-map f (x ∷ xs) j x d within)) (all i j x less within))

pub rising_pairs : (xs : List New) → IsStrictlyIncreasing (times_of xs) → AllPairs Comes xs
rising_pairs xs rises i j d less lt =
    inl (pairs_of_map (λ (x : New). x.made.entry.time) (λ a b. a < b) xs (AllPairs-from_increasing (times_of xs) rises) i j d less lt)

-- ---- what passes a test

module _ (P : New → Type 0) (test : New → Bool) (decides : (x : New) → (P x → test x ≡ true) × (test x ≡ true → P x)) where
  -- the entries that pass, in their order, are the own list
  pub passing : (entries own : List New) → AllPairs Comes entries → IsOwnList P entries own → filter test entries ≡ own
  passing entries own by_time is = sorted_one Comes one_way (filter test entries) own (AllPairs-filter Comes test entries by_time) (rising_pairs own is.rises)
      (λ x has. let kept : Contains entries x × (test x ≡ true) = kept_is test entries x has in (is.each x).1 (kept.0, (decides x).1 kept.1))
      (λ x has. let now : Contains entries x × P x = (is.each x).0 has in is_kept test entries x now.0 ((decides x).0 now.1))

one-reverse : {X : Type 0} (x : X) (b : Bool) (l : List X) → reverse l ++ cond b (x ∷ []) [] ≡ reverse (cond b (x ∷ l) l)
one-reverse x true l = sym (reverse-append (x ∷ []) l)
one-reverse x false l = append-nil (reverse l)

filter-reverse : {X : Type 0} (p : X → Bool) (xs : List X) → filter p (reverse xs) ≡ reverse (filter p xs)
filter-reverse p [] = refl
filter-reverse p (x ∷ xs) = ap (filter p) (reverse-append (x ∷ []) xs) ∙ filter-append p (reverse xs) (x ∷ []) ∙ ap (λ l. l ++ filter p (x ∷ [])) (filter-reverse p xs) ∙ one-reverse x (p x) (filter p xs)

of_node-filter : (xs : List New) (n : ℕ) → of_node xs n ≡ filter (λ x. nat_eq x.made.node n) xs
of_node-filter [] n = refl
of_node-filter (x ∷ xs) n = ap (λ l. cond (nat_eq x.made.node n) (x ∷ l) l) (of_node-filter xs n)

of_job-filter : (xs : List New) (k : ℕ) → of_job xs k ≡ filter (λ x. nat_eq x.job k) xs
of_job-filter [] k = refl
of_job-filter (x ∷ xs) k = ap (λ l. cond (nat_eq x.job k) (x ∷ l) l) (of_job-filter xs k)

in_phase-filter : (xs : List New) (k : ℕ) → scripts.of_job (job_entries xs) k ≡ plain (filter (λ x. nat_eq x.job k) xs)
in_phase-filter [] k = refl
in_phase-filter (x ∷ xs) k = ap (λ (l : List NodeEntry). cond (nat_eq x.job k) (x.made ∷ l) l) (in_phase-filter xs k) ∙ one (nat_eq x.job k) (filter (λ y. nat_eq y.job k) xs)
  where
    one : (b : Bool) (l : List New) → cond b (x.made ∷ plain l) (plain l) ≡ plain (cond b (x ∷ l) l)
    one true l = refl
    one false l = refl

-- ---- the law

pub time_keeps_orders : TimeKeepsOrders
time_keeps_orders entries nodes jobs by_time node job =
    let comes : AllPairs Comes entries = pairs_of_map as_job (Precedes ByTime) entries by_time in
    let of_nodes : (n : ℕ) → filter (λ x. nat_eq x.made.node n) entries ≡ nodes n =
    λ n. passing (λ x. x.made.node ≡ n) (λ x. nat_eq x.made.node n) (λ x. ((Decides-eqb x.made.node n).1, (Decides-eqb x.made.node n).0)) entries (nodes n) comes (node n) in
    let of_jobs : (k : ℕ) → filter (λ x. nat_eq x.job k) entries ≡ jobs k =
    λ k. passing (λ x. x.job ≡ k) (λ x. nat_eq x.job k) (λ x. ((Decides-eqb x.job k).1, (Decides-eqb x.job k).0)) entries (jobs k) comes (job k) in
    record {
      of_nodes = λ n. of_node-filter (reverse entries) n ∙ filter-reverse (λ x. nat_eq x.made.node n) entries ∙ ap reverse (of_nodes n);
      of_jobs = λ k. of_job-filter (reverse entries) k ∙ filter-reverse (λ x. nat_eq x.job k) entries ∙ ap reverse (of_jobs k);
      in_phase = λ k. in_phase-filter entries k ∙ ap plain (of_jobs k);
    }
