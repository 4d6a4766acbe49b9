-- The entries of a phase's jobs, put together.
use Rattle.std.proofs.Common.{◌≡◌, ℕ, zero, suc, ◌+◌, ◌<◌, ◌≤◌, List, [], ◌∷◌, ◌++◌, inl, inr, refl, sym, ◌∙◌, ap, subst, map, length, reverse, arith}
use Rattle.std.specs.Prelude.{All, AllPairs, Bool, Contains, filter, max, slice_get}
use Rattle.std.specs.List.{cons_option, range_with_len}
use Rattle.std.specs.List.Sorted.{IsStrictlyIncreasing}
use Rattle.std.proofs.lemmas.List.{append-nil, append_assoc, get_or-map, get_or_past, length-map, reverse-append}
use Rattle.std.proofs.lemmas.List.Elements.{All-nil, All-cons}
use Rattle.std.proofs.lemmas.List.Kept.{AllPairs-cons, AllPairs-filter, AllPairs-from_increasing}
use Rattle.pr_merge.specs.Merged.{IsMerged}
use Rattle.pr_merge.specs.Phases.{IsMergedPhase, IsOwnList, KeepsOrders, StandByTime, entries_at, list_of, times_of}
use Rattle.pr_merge.proofs.Orders.{map_of_pairs, pairs_of_map, time_keeps_orders}
use Rattle.pr_merge.proofs.Phasing.{phases_merge}
use Rattle.pr_merge.proofs.Standing.{merged_stand_by_time}
use Rattle.pr_merge.proofs.Times.{less_or}
use Rattle.std.proofs.lemmas.List.FromFn.{get_or-range_with_len, length-range_with_len}
use Rattle.pr_story.specs.declared.entry.Entry.{Entry}
use Rattle.pr_story.specs.History.{NodeEntry, Plan, journal}
use Rattle.pr_story.specs.Lawful.{IsOwnLawful, Valid, heard_time, last_time}
use Rattle.pr_story.specs.Merging.{IsNodeRun, New, just, plain}
use Rattle.pr_story.specs.Scripts.{ByTime, IsPhase, JobBegins, JobGives}
use Rattle.pr_story.specs.Phases.{IsPhaseAs}
use Rattle.pr_story.proofs.InOrder.{pairs_none}
use Rattle.pr_story.proofs.Merging.{journal_all}
use Rattle.pr_story.proofs.Sorted.{contains_none, first_or_later, is_first, is_later, pairs_first, pairs_later}
use Rattle.pr_crew.specs.Assembly.{AreMadeBy, IsAssembled, PhasesAreAssembled, made_at, parts_of, with_entry}
use Rattle.pr_crew.specs.Jobs.{IsNew}
use Rattle.pr_crew.proofs.Plain.{plain_reverse}
use Rattle.pr_crew.proofs.Placed.{placed_in_turn, places_after, turns}
use Rattle.pr_story.specs.Places.{places_of}

-- ---- the entries of one node with their jobs

module _ (plan : Plan) (h : List NodeEntry) (nodes : ℕ → List Entry) (jobs : ℕ → List New) (a : AreMadeBy plan h nodes jobs) where
  module _ (n : ℕ) where
    -- each of the entries, behind those before them, with what its job says of it
    abbrev pub IsLifted : List Entry → List Entry → List New → Type 0
    IsLifted before [] xs = xs ≡ []
    IsLifted before (e ∷ rest) [] = ⊥
    IsLifted before (e ∷ rest) (x ∷ xs) = Contains (jobs x.job) x × IsNew plan h n before e x × IsLifted (before ++ e ∷ []) rest xs

    lift : (before rest : List Entry) → nodes n ≡ before ++ rest → (xs : List New) × IsLifted before rest xs
    lift before [] is = ([], refl)
    lift before (e ∷ rest) is =
        let x = a.each n before e rest is in
        let more = lift (before ++ e ∷ []) rest (is ∙ sym (append_assoc before (e ∷ []) rest)) in
        (x.0 ∷ more.0, (x.1, x.2, more.1))

    -- they are a run of the node
    node_run : (before rest : List Entry) (xs t : List New) → IsLifted before rest xs → just t ≡ reverse before → IsNodeRun plan h n t → IsNodeRun plan h n (reverse xs ++ t)
    node_run before [] [] t lifted same run = run
    node_run before [] (x ∷ xs) t lifted same run = let bad : x ∷ xs ≡ [] = lifted in absurd (cc)
    node_run before (e ∷ rest) [] t lifted same run = absurd lifted
    node_run before (e ∷ rest) (x ∷ xs) t (has, is, lifted) same run =
        let entry : x.made.entry ≡ e = ap (λ (m : NodeEntry). m.entry) is.made in
        let lawful : IsOwnLawful (λ s. x.session) (λ c. x.needs) (plan.sets n) n (just t ++ journal h n) x.made.entry =
        subst (λ (y : Entry). IsOwnLawful (λ s. x.session) (λ c. x.needs) (plan.sets n) n (just t ++ journal h n) y) (sym entry)
        (subst (λ (j : List Entry). IsOwnLawful (λ s. x.session) (λ c. x.needs) (plan.sets n) n (j ++ journal h n) e) (sym same) is.lawful) in
        let then : just (x ∷ t) ≡ reverse (before ++ e ∷ []) = ap (λ (j : List Entry). x.made.entry ∷ j) same ∙ ap (λ (y : Entry). y ∷ reverse before) entry ∙ sym (reverse-append before (e ∷ [])) in
        subst (λ (ys : List New). IsNodeRun plan h n ys) (sym (ap (λ (ys : List New). ys ++ t) (reverse-append (x ∷ []) xs) ∙ append_assoc (reverse xs) (x ∷ []) t))
        (node_run (before ++ e ∷ []) rest xs (x ∷ t) lifted then (lawful, run))

    -- and their times rise
    abbrev IsAbove : ℕ → List New → Type 0
    IsAbove low [] = Unit {0}
    IsAbove low (x ∷ xs) = (low < x.made.entry.time) × IsAbove x.made.entry.time xs

    last_is : (before : List Entry) (e : Entry) (j : List Entry) → last_time (reverse (before ++ e ∷ []) ++ j) ≡ e.time
    last_is before e j = ap (λ (es : List Entry). last_time (es ++ j)) (reverse-append before (e ∷ []))

    above : (before rest : List Entry) (xs : List New) → IsLifted before rest xs → IsAbove (last_time (reverse before ++ journal h n)) xs
    above before [] [] lifted = tt
    above before [] (x ∷ xs) lifted = let bad : x ∷ xs ≡ [] = lifted in absurd (cc)
    above before (e ∷ rest) [] lifted = absurd lifted
    above before (e ∷ rest) (x ∷ xs) (has, is, lifted) =
        let entry : x.made.entry ≡ e = ap (λ (m : NodeEntry). m.entry) is.made in
        let time : e.time ≡ max (last_time (reverse before ++ journal h n)) (heard_time (λ s. x.session) e.event) + 1 = is.lawful.time in
        let same : x.made.entry.time ≡ e.time = ap (λ (y : Entry). y.time) entry in
        (omega arith, subst (λ (low : ℕ). IsAbove low xs) (last_is before e (journal h n) ∙ sym same) (above (before ++ e ∷ []) rest xs lifted))

    lower : (low high : ℕ) (xs : List New) → low ≤ high → IsAbove high xs → IsAbove low xs
    lower low high [] le all = tt
    lower low high (x ∷ xs) le (lt, all) = (omega arith, all)

    all_above : (low : ℕ) (xs : List New) → IsAbove low xs → All (λ t. low < t) (times_of xs)
    all_above low [] all = All-nil (λ t. low < t)
    all_above low (x ∷ xs) (lt, all) = All-cons (λ t. low < t) x.made.entry.time (times_of xs) lt (all_above low xs (lower low x.made.entry.time xs (omega arith) all))

    pairs_rise : (low : ℕ) (xs : List New) → IsAbove low xs → AllPairs (λ a b. a < b) (times_of xs)
    pairs_rise low [] all = pairs_none (λ a b. a < b)
    pairs_rise low (x ∷ xs) (lt, all) = AllPairs-cons (λ a b. a < b) x.made.entry.time (times_of xs) (all_above x.made.entry.time xs all) (pairs_rise x.made.entry.time xs all)

    rising : (low : ℕ) (xs : List New) → IsAbove low xs → IsStrictlyIncreasing (times_of xs)
    rising low xs all k lt = pairs_rise low xs all k (k + 1) _ (omega arith) lt

    -- all of the node
    pub list : List New
    list = (lift [] (nodes n) refl).0

    pub lifted : IsLifted [] (nodes n) list
    unfolding list
    lifted = (lift [] (nodes n) refl).1

    pub list_runs : IsNodeRun plan h n (reverse list)
    list_runs = subst (λ (ys : List New). IsNodeRun plan h n ys) (append-nil (reverse list)) (node_run [] (nodes n) list [] lifted refl tt)

    pub list_rises : IsStrictlyIncreasing (times_of list)
    list_rises = rising (last_time (journal h n)) list (above [] (nodes n) list lifted)

    -- ---- what is in it

    just_lifted : (before rest : List Entry) (xs : List New) → IsLifted before rest xs → just xs ≡ rest
    just_lifted before [] [] l = refl
    just_lifted before [] (x ∷ xs) l = let bad : x ∷ xs ≡ [] = l in absurd (cc)
    just_lifted before (e ∷ rest) [] l = absurd l
    just_lifted before (e ∷ rest) (x ∷ xs) (has, is, l) =
        ap (λ (es : List Entry). x.made.entry ∷ es) (just_lifted (before ++ e ∷ []) rest xs l) ∙ ap (λ (m : NodeEntry). m.entry ∷ rest) is.made

    pub just_list : just list ≡ nodes n
    just_list = just_lifted [] (nodes n) list lifted

    at_node : (before rest : List Entry) (xs : List New) → IsLifted before rest xs → All (λ (x : New). x.made.node ≡ n) xs
    at_node before [] [] l = All-nil (λ (x : New). x.made.node ≡ n)
    at_node before [] (x ∷ xs) l = let bad : x ∷ xs ≡ [] = l in absurd (cc)
    at_node before (e ∷ rest) [] l = absurd l
    at_node before (e ∷ rest) (x ∷ xs) (has, is, l) = All-cons (λ (y : New). y.made.node ≡ n) x xs (ap (λ (m : NodeEntry). m.node) is.made) (at_node (before ++ e ∷ []) rest xs l)

    pub list_at : All (λ (x : New). x.made.node ≡ n) list
    list_at = at_node [] (nodes n) list lifted

    -- each is one of its job's
    of_jobs : (before rest : List Entry) (xs : List New) → IsLifted before rest xs → (x : New) → Contains xs x → Contains (jobs x.job) x
    of_jobs before [] [] l x has = absurd (contains_none x has)
    of_jobs before [] (y ∷ ys) l x has = let bad : y ∷ ys ≡ [] = l in absurd (cc)
    of_jobs before (e ∷ rest) [] l x has = absurd l
    of_jobs before (e ∷ rest) (y ∷ ys) (own, is, l) x has = elim (first_or_later y ys x has) [
      | inl here ↦ subst (λ (z : New). Contains (jobs z.job) z) here own
      | inr later ↦ of_jobs (before ++ e ∷ []) rest ys l x later
    ]

    pub list_of_jobs : (x : New) → Contains list x → Contains (jobs x.job) x
    list_of_jobs = of_jobs [] (nodes n) list lifted

    -- and each entry of the node has one
    has_one : (before rest : List Entry) (xs : List New) → IsLifted before rest xs → (e : Entry) → Contains rest e → (x : New) × Contains xs x × (x.made ≡ record { node = n; entry = e })
    has_one before [] xs l e has = absurd (contains_none e has)
    has_one before (y ∷ rest) [] l e has = absurd l
    has_one before (y ∷ rest) (x ∷ xs) (own, is, l) e has = elim (first_or_later y rest e has) [
      | inl here ↦ (x, is_first x xs, is.made ∙ ap (λ (z : Entry). record { node = n; entry = z }) here)
      | inr later ↦ (let found = has_one (before ++ y ∷ []) rest xs l e later in (found.0, is_later x xs found.0 found.1, found.2))
    ]

    pub list_has : (e : Entry) → Contains (nodes n) e → (x : New) × Contains list x × (x.made ≡ record { node = n; entry = e })
    list_has = has_one [] (nodes n) list lifted

  -- ---- the jobs' lists

  times_of_just : (xs : List New) → times_of xs ≡ map (λ (e : Entry). e.time) (just xs)
  times_of_just [] = refl
  times_of_just (x ∷ xs) = ap (λ (ts : List ℕ). x.made.entry.time ∷ ts) (times_of_just xs)

  -- of a list whose times rise, the times of those chosen rise
  chosen_rise : (chosen : Entry → Bool) (es : List Entry) → IsStrictlyIncreasing (map (λ (e : Entry). e.time) es) → IsStrictlyIncreasing (map (λ (e : Entry). e.time) (filter chosen es))
  chosen_rise chosen es rise =
      let pairs = AllPairs-filter (λ (x y : Entry). x.time < y.time) chosen es (pairs_of_map (λ (e : Entry). e.time) (λ a b. a < b) es (AllPairs-from_increasing (map (λ (e : Entry). e.time) es) rise)) in
      λ k lt. map_of_pairs (λ (e : Entry). e.time) (λ a b. a < b) (filter chosen es) pairs k (k + 1) _ (omega arith) lt

  pub job_rises : (k : ℕ) → IsStrictlyIncreasing (times_of (jobs k))
  job_rises k = elim (a.rise k) [
    | inl rise ↦ rise
    | inr of ↦ (
        let n = of.0 in
        let all : IsStrictlyIncreasing (map (λ (e : Entry). e.time) (nodes n)) =
        subst (λ (ts : List ℕ). IsStrictlyIncreasing ts) (times_of_just (list n) ∙ ap (λ (es : List Entry). map (λ (e : Entry). e.time) es) (just_list n)) (list_rises n) in
        subst (λ (ts : List ℕ). IsStrictlyIncreasing ts) (sym (times_of_just (jobs k) ∙ ap (λ (es : List Entry). map (λ (e : Entry). e.time) es) of.2)) (chosen_rise of.1 (nodes n) all)
        )
  ]

  -- a job has an entry once
  pub once : (k : ℕ) (x y : New) → Contains (jobs k) x → Contains (jobs k) y → x.made ≡ y.made → x ≡ y
  once k x y has_x has_y same =
      only (jobs k) (pairs_of_map (λ (z : New). z.made.entry.time) (λ s t. s < t) (jobs k) (AllPairs-from_increasing (times_of (jobs k)) (job_rises k))) x y has_x has_y (ap (λ (m : NodeEntry). m.entry.time) same)
    where
      only : (xs : List New) → AllPairs (λ (u v : New). u.made.entry.time < v.made.entry.time) xs → (x y : New) → Contains xs x → Contains xs y → x.made.entry.time ≡ y.made.entry.time → x ≡ y
      only [] all x y hx hy time = absurd (contains_none x hx)
      only (z ∷ zs) all x y hx hy time = elim (first_or_later z zs x hx) [
        | inl here ↦ elim (first_or_later z zs y hy) [
          | inl there ↦ sym here ∙ there
          | inr later ↦ (let lt : z.made.entry.time < y.made.entry.time = pairs_first (λ (u v : New). u.made.entry.time < v.made.entry.time) z zs y all later in
              let e : z.made.entry.time ≡ x.made.entry.time = ap (λ (u : New). u.made.entry.time) here in absurd (omega arith))
        ]
        | inr after ↦ elim (first_or_later z zs y hy) [
          | inl there ↦ (let lt : z.made.entry.time < x.made.entry.time = pairs_first (λ (u v : New). u.made.entry.time < v.made.entry.time) z zs x all after in
              let e : z.made.entry.time ≡ y.made.entry.time = ap (λ (u : New). u.made.entry.time) there in absurd (omega arith))
          | inr later ↦ only zs (pairs_later (λ (u v : New). u.made.entry.time < v.made.entry.time) z zs all) x y after later time
        ]
      ]

  -- ---- the parts

  parts_are : (ns : List ℕ) → map (λ n. map (λ (e : Entry). e.time) (nodes n)) ns ≡ map times_of (map (λ n. list n) ns)
  parts_are [] = refl
  parts_are (n ∷ ns) =
      ap (λ (ts : List ℕ). ts ∷ map (λ m. map (λ (e : Entry). e.time) (nodes m)) ns) (ap (λ (es : List Entry). map (λ (e : Entry). e.time) es) (sym (just_list n)) ∙ sym (times_of_just (list n)))
      ∙ ap (λ (ls : List (List ℕ)). times_of (list n) ∷ ls) (parts_are ns)

  all_rise : (ns : List ℕ) → All IsStrictlyIncreasing (map times_of (map (λ n. list n) ns))
  all_rise [] = All-nil IsStrictlyIncreasing
  all_rise (n ∷ ns) = All-cons IsStrictlyIncreasing (times_of (list n)) (map times_of (map (λ m. list m) ns)) (list_rises n) (all_rise ns)

  -- the times of each node's entries rise
  pub parts_rise : (count : ℕ) → All IsStrictlyIncreasing (parts_of nodes count)
  parts_rise count = subst (λ (ps : List (List ℕ)). All IsStrictlyIncreasing ps) (sym (parts_are (range_with_len 0 count))) (all_rise (range_with_len 0 count))

  -- ---- all nodes

  module _ (count : ℕ) (places : List (ℕ × ℕ)) (none : (n : ℕ) → count ≤ n → nodes n ≡ []) (merged : IsMerged (parts_of nodes count) places) where
    abbrev lists : List (List New)
    lists = map (λ n. list n) (range_with_len 0 count)

    empty_of : (xs : List New) → just xs ≡ [] → xs ≡ []
    empty_of [] same = refl
    empty_of (x ∷ xs) same = absurd (cc)

    list_is : (n : ℕ) → list_of lists n ≡ list n
    list_is n = elim (less_or n count) [
      | inl lt ↦ (let l : length (range_with_len 0 count) ≡ count = length-range_with_len 0 count in
          let e : 0 + n ≡ n = omega arith in
          get_or-map (λ (m : ℕ). list m) (range_with_len 0 count) n 0 [] (omega arith) ∙ ap (λ (m : ℕ). list m) (get_or-range_with_len 0 count n 0 lt ∙ e))
      | inr past ↦ (let l : length (range_with_len 0 count) ≡ count = length-range_with_len 0 count in
          let m : length lists ≡ length (range_with_len 0 count) = length-map (range_with_len 0 count) (λ (m : ℕ). list m) in
          get_or_past lists n [] (omega arith) ∙ sym (empty_of (list n) (just_list n ∙ none n past)))
    ]

    abbrev entries : List New
    entries = entries_at lists places

    stand : StandByTime entries lists
    stand = merged_stand_by_time lists places (all_rise (range_with_len 0 count))
        (λ n. subst (λ (xs : List New). All (λ (x : New). x.made.node ≡ n) xs) (sym (list_is n)) (list_at n))
        (subst (λ (ps : List (List ℕ)). IsMerged ps places) (parts_are (range_with_len 0 count)) merged)

    -- each job's entries are among them, and no others are the job's
    job_in : (k : ℕ) (x : New) → Contains (jobs k) x → Contains entries x × (x.job ≡ k)
    job_in k x has =
        let own = a.own k x has in
        let n : ℕ = x.made.node in
        let found = list_has n x.made.entry own.1 in
        let y : New = found.0 in
        let of_y : Contains (jobs y.job) y = list_of_jobs n y found.1 in
        let same : x.made ≡ y.made = sym found.2 in
        let k_is : k ≡ y.job = a.apart k y.job x y has of_y same in
        let is : x ≡ y = once k x y has (subst (λ (m : ℕ). Contains (jobs m) y) (sym k_is) of_y) same in
        let there : Contains (list_of lists n) x = subst (λ (z : New). Contains (list_of lists n) z) (sym is) (subst (λ (xs : List New). Contains xs y) (sym (list_is n)) found.1) in
        ((((stand.own n).each x).0 there).0, own.0)

    in_job : (k : ℕ) (x : New) → Contains entries x × (x.job ≡ k) → Contains (jobs k) x
    in_job k x (has, is) =
        subst (λ (m : ℕ). Contains (jobs m) x) is
        (list_of_jobs x.made.node x (subst (λ (xs : List New). Contains xs x) (list_is x.made.node) (((stand.own x.made.node).each x).1 (has, refl))))

    owns : (k : ℕ) → IsOwnList (λ x. x.job ≡ k) entries (jobs k)
    owns k = record { each = λ x. (job_in k x, in_job k x); rises = job_rises k }

    phase : IsMergedPhase entries (list_of lists) jobs
    phase = phases_merge entries lists jobs stand owns

    keeps : KeepsOrders entries (list_of lists) jobs
    keeps = time_keeps_orders entries (list_of lists) jobs stand.by_time stand.own owns

    -- ---- as entries of nodes

    get_same : (n : ℕ) (before es : List Entry) (xs : List New) → IsLifted n before es xs → (i : ℕ) (rest : List New) → plain (cons_option (slice_get xs i) rest) ≡ with_entry n (slice_get es i) (plain rest)
    get_same n before [] [] l i rest = refl
    get_same n before [] (x ∷ xs) l i rest = let bad : x ∷ xs ≡ [] = l in absurd (cc)
    get_same n before (e ∷ es) [] l i rest = absurd l
    get_same n before (e ∷ es) (x ∷ xs) (has, is, l) zero rest = ap (λ (m : NodeEntry). m ∷ plain rest) is.made
    get_same n before (e ∷ es) (x ∷ xs) (has, is, l) (suc i) rest = get_same n (before ++ e ∷ []) es xs l i rest

    plain_at : (ps : List (ℕ × ℕ)) → plain (entries_at lists ps) ≡ made_at nodes ps
    plain_at [] = refl
    plain_at (p ∷ ps) =
        ap (λ (xs : List New). plain (cons_option (slice_get xs p.1) (entries_at lists ps))) (list_is p.0)
        ∙ get_same p.0 [] (nodes p.0) (list p.0) (lifted p.0) p.1 (entries_at lists ps)
        ∙ ap (λ (ms : List NodeEntry). with_entry p.0 (slice_get (nodes p.0) p.1) ms) (plain_at ps)

    just_append : (xs ys : List New) → just (xs ++ ys) ≡ just xs ++ just ys
    just_append [] ys = refl
    just_append (x ∷ xs) ys = ap (λ (es : List Entry). x.made.entry ∷ es) (just_append xs ys)

    just_reverse : (xs : List New) → just (reverse xs) ≡ reverse (just xs)
    just_reverse [] = refl
    just_reverse (x ∷ xs) =
        ap just (reverse-append (x ∷ []) xs) ∙ just_append (reverse xs) (x ∷ []) ∙ ap (λ (es : List Entry). es ++ x.made.entry ∷ []) (just_reverse xs) ∙ sym (reverse-append (x.made.entry ∷ []) (just xs))

    all_made : plain (reverse entries) ≡ reverse (made_at nodes places)
    all_made = plain_reverse entries ∙ ap (λ (ms : List NodeEntry). reverse ms) (plain_at places)

    journal_is : (n : ℕ) → journal (reverse (made_at nodes places) ++ h) n ≡ reverse (nodes n) ++ journal h n
    journal_is n =
        ap (λ (ms : List NodeEntry). journal (ms ++ h) n) (sym all_made) ∙ sym (journal_all h n (reverse entries))
        ∙ ap (λ (xs : List New). just xs ++ journal h n) (keeps.of_nodes n ∙ ap (λ (xs : List New). reverse xs) (list_is n))
        ∙ ap (λ (es : List Entry). es ++ journal h n) (just_reverse (list n) ∙ ap (λ (es : List Entry). reverse es) (just_list n))

    pub assembled : IsAssembled plan h nodes jobs places
    assembled = record {
      valid = λ streams clients apart.
          subst (λ (ms : List NodeEntry). Valid plan (ms ++ h)) all_made
          (phase.valid plan h streams clients (record {
            valid = a.valid;
            of_nodes = λ n. subst (λ (xs : List New). IsNodeRun plan h n (reverse xs)) (sym (list_is n)) (list_runs n);
            of_jobs = a.runs;
            apart = apart;
          }));
      whole = λ jobs_of gives. subst (λ (ms : List NodeEntry). IsPhase JobGives ByTime jobs_of ms) (plain_at places) (phase.whole jobs_of gives);
      begun = λ jobs_of begins. subst (λ (ms : List NodeEntry). IsPhase JobBegins ByTime jobs_of ms) (plain_at places) (phase.begun jobs_of begins);
      marked = λ wholes jobs_of gives. subst (λ (ms : List NodeEntry). IsPhaseAs wholes ByTime jobs_of ms) (plain_at places) (phase.marked wholes jobs_of gives);
      journals = journal_is;
      merged = (reverse entries, all_made, keeps.of_jobs);
      places_are =
          places_after (made_at nodes places) h
          ∙ ap (λ (ps : List (ℕ × ℕ)). places_of h ++ ps)
          (placed_in_turn nodes (λ n. length (journal h n)) (λ n. 0) places h (λ n. nothing (length (journal h n)))
          (turns nodes count places none merged (parts_rise count)));
    }
      where
        nothing : (n : ℕ) → n ≡ n + 0
        nothing n = omega arith

pub phases_assembled : PhasesAreAssembled
phases_assembled plan h nodes jobs count places a none merged = assembled plan h nodes jobs a count places none merged
