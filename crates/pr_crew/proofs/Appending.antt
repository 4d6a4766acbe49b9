-- What the nodes of a phase made comes behind the history.
use Rattle.std.proofs.Common.{◌≡◌, ◌<◌, ◌≤◌, ◌+◌, ◌^◌, ◌∙◌, ℕ, zero, suc, List, [], ◌∷◌, ◌++◌, All, Contains, Global, Some, None, get_or, inl, inr, length, map, refl, sym, ap, subst, arith}
use Rattle.std.specs.Prelude.{Vec, reverse, sum_by}
use Rattle.std.specs.List.{range_with_len}
use Rattle.std.specs.List.Sorted.{IsStrictlyIncreasing}
use Rattle.std.proofs.lemmas.List.{get_or_past, length-map}
use Rattle.std.proofs.lemmas.List.FromFn.{length-range_with_len}
use Rattle.std.proofs.lemmas.List.Sums.{sum_by-cons}
use Rattle.std.proofs.lemmas.Option.{none-some, same_Some}
use Rattle.pr_merge.proofs.Times.{known_part, less_or}
use Rattle.pr_merge.specs.Holding.{AddsPlaces, HeldState}
use Rattle.pr_merge.specs.Merged.{IsMerged}
use Rattle.pr_node.specs.Stored.{Stored, means}
use Rattle.pr_story.proofs.Sorted.{is_first, is_later}
use Rattle.pr_story.specs.declared.entry.Entry.{Entry}
use Rattle.pr_story.specs.Counts.{Declared}
use Rattle.pr_story.specs.History.{NodeEntry, journal}
use Rattle.pr_story.specs.Merging.{New}
use Rattle.pr_story.specs.Places.{places_of}
use Rattle.pr_crew.specs.declared.room.Room.{Room}
use Rattle.pr_crew.specs.declared.work.Work.{Work}
use Rattle.pr_crew.specs.Assembly.{IsAssembled, made_at, parts_of}
use Rattle.pr_crew.specs.Rooms.{CanAppend, HasMadeSince, HasPlacesFor, HasRoomFor, KnowsOpening, total_at}
use Rattle.pr_crew.specs.Works.{all_at}
use Rattle.pr_crew.proofs.Assembly.{parts_rise, phases_assembled}
use Rattle.pr_crew.proofs.Placed.{part_of}

-- the places behind what each node had
abbrev pub behind : List NodeEntry → List (ℕ × ℕ) → List (ℕ × ℕ)
behind h places = map (λ (p : ℕ × ℕ). (p.0, length (journal h p.0) + p.1)) places

-- ---- how many there are

few_in : (ws : List Work) (nodes : ℕ → List Entry) (a k : ℕ) → ((n : ℕ) → n < a + k → length (nodes n) ≤ all_at ws n)
    → sum_by length (map (λ n. map (λ (e : Entry). e.time) (nodes n)) (range_with_len a k)) ≤ sum_by (all_at ws) (range_with_len a k)
few_in ws nodes a zero each = omega arith
few_in ws nodes a (suc k) each =
    let times : List ℕ = map (λ (e : Entry). e.time) (nodes a) in
    let later : List (List ℕ) = map (λ n. map (λ (e : Entry). e.time) (nodes n)) (range_with_len (a + 1) k) in
    let rest : sum_by length later ≤ sum_by (all_at ws) (range_with_len (a + 1) k) = few_in ws nodes (a + 1) k (λ n lt. each n (omega (arith, lt))) in
    let here : length (nodes a) ≤ all_at ws a = each a (omega arith) in
    let long : length times ≡ length (nodes a) = length-map (nodes a) (λ (e : Entry). e.time) in
    let one : sum_by length (times ∷ later) ≡ length times + sum_by length later = sum_by-cons length times later in
    let other : sum_by (all_at ws) (a ∷ range_with_len (a + 1) k) ≡ all_at ws a + sum_by (all_at ws) (range_with_len (a + 1) k) = sum_by-cons (all_at ws) a (range_with_len (a + 1) k) in
    omega (arith, rest, here, long, one, other)

pub many_parts : (nodes : ℕ → List Entry) (count : ℕ) → length (parts_of nodes count) ≡ count
many_parts nodes count = length-map (range_with_len 0 count) (λ (n : ℕ). map (λ (e : Entry). e.time) (nodes n)) ∙ length-range_with_len 0 count

-- ---- where they stand

is_within : (nodes : ℕ → List Entry) (count : ℕ) (places : List (ℕ × ℕ)) → IsMerged (parts_of nodes count) places → (p : ℕ × ℕ) → Contains places p → (p.0 < count) × (p.1 < length (nodes p.0))
is_within nodes count places merged p has =
    let lt : p.1 < length (get_or (parts_of nodes count) p.0 []) = (merged.each p).0 has in
    let known : p.0 < length (parts_of nodes count) = known_part (parts_of nodes count) p.0 p.1 lt in
    let many = many_parts nodes count in
    let here : p.0 < count = omega (arith, known, many) in
    let long : length (get_or (parts_of nodes count) p.0 []) ≡ length (nodes p.0) = ap (λ (l : List ℕ). length l) (part_of nodes count p.0 here) ∙ length-map (nodes p.0) (λ (e : Entry). e.time) in
    (here, omega (arith, lt, long))

same_behind : (h : List NodeEntry) (opened : List ℕ) (places : List (ℕ × ℕ)) → ((p : ℕ × ℕ) → Contains places p → get_or opened p.0 0 ≡ length (journal h p.0))
    → map (λ (p : ℕ × ℕ). (p.0, get_or opened p.0 0 + p.1)) places ≡ behind h places
same_behind h opened [] all = refl
same_behind h opened (p ∷ ps) all =
    ap (λ (n : ℕ). (p.0, n + p.1) ∷ map (λ (q : ℕ × ℕ). (q.0, get_or opened q.0 0 + q.1)) ps) (all p (is_first p ps))
    ∙ ap (λ (qs : List (ℕ × ℕ)). (p.0, length (journal h p.0) + p.1) ∷ qs) (same_behind h opened ps (λ q has. all q (is_later p ps q has)))

module _ (d : Declared) (h : List NodeEntry) (ws : List Work) (count : ℕ) (nodes : ℕ → List Entry) (jobs : ℕ → List New) (s : HeldState Stored) (can : CanAppend d h ws count nodes jobs s) where
  pub parts_few : sum_by length (parts_of nodes count) ≤ total_at ws count
  parts_few = few_in ws nodes 0 count (λ n lt. can.few n (omega (arith, lt)))

  module _ (r : Room) (room : HasRoomFor ws count r) (knows : KnowsOpening h count r) where
    made_here : (n : ℕ) → n < length r.opened.items → HasMadeSince h nodes r.opened.items n s
    made_here n lt =
        let many = room.opened in
        let here : n < count = omega (arith, many, lt) in
        let (m, at, all) = can.here n here in
        (m, at, all.journal_is, sym (knows n 0 here))

    pub places_for : (opened : List ℕ) → opened ≡ r.opened.items → (n : ℕ) (any : Vec ℕ Global) → n < length opened → HasPlacesFor (nodes n) (get_or r.times.items n any)
    places_for opened is n any lt =
        let many : length opened ≡ count = ap (λ (l : List ℕ). length l) is ∙ room.opened in
        let here : n < count = omega (arith, many, lt) in
        let (empty, free) = room.each n any here in
        let few = can.few n here in
        (empty, omega (arith, free, few))

    pub made_since : (opened : List ℕ) → opened ≡ r.opened.items → (n : ℕ) → n < length opened → HasMadeSince h nodes opened n s
    made_since opened is = subst (λ (l : List ℕ). (n : ℕ) → n < length l → HasMadeSince h nodes l n s) (sym is) made_here

    -- the parts have the times of what was made since
    module _ (opened : List ℕ) (is : opened ≡ r.opened.items) (parts : List (List ℕ))
        (filled : ((n : ℕ) → n < length opened → HasMadeSince h nodes opened n s) → parts ≡ parts_of nodes (length opened)) where
      pub parts_are : parts ≡ parts_of nodes count
      parts_are = filled (made_since opened is) ∙ ap (λ (n : ℕ). parts_of nodes n) (ap (λ (l : List ℕ). length l) is ∙ room.opened)

      pub parts_most : length parts ≤ 32
      parts_most =
          let few = room.few in
          let many : length parts ≡ count = ap (λ (ps : List (List ℕ)). length ps) parts_are ∙ many_parts nodes count in
          omega (arith, few, many)

      pub parts_rising : All IsStrictlyIncreasing parts
      parts_rising = subst (λ (ps : List (List ℕ)). All IsStrictlyIncreasing ps) (sym parts_are) (parts_rise d.plan h nodes jobs can.made count)

      total_few : sum_by length parts ≤ total_at ws count
      total_few = subst (λ (ps : List (List ℕ)). sum_by length ps ≤ total_at ws count) (sym parts_are) parts_few

      pub parts_fit : sum_by length parts ≤ r.merged.room
      parts_fit = let few = total_few in let fit = room.merged_fit in omega (arith, few, fit)

      module _ (places : List (ℕ × ℕ)) (merged : IsMerged parts places) where
        pub of_nodes : IsMerged (parts_of nodes count) places
        of_nodes = subst (λ (ps : List (List ℕ)). IsMerged ps places) parts_are merged

        pub within : (((n : ℕ) → n < length opened → HasMadeSince h nodes opened n s) → (n : ℕ) → n < length opened → get_or opened n 0 + length (nodes n) < 2 ^ 64)
            → (also : List ℕ) → also ≡ r.opened.items → (ps : List (ℕ × ℕ)) → ps ≡ places → (p : ℕ × ℕ) → Contains ps p → (p.0 < length also) × (get_or also p.0 0 + p.1 < 2 ^ 64)
        within fits also own ps same p has =
            let (known, lt) = is_within nodes count places of_nodes p (subst (λ (qs : List (ℕ × ℕ)). Contains qs p) same has) in
            let many : length opened ≡ count = ap (λ (l : List ℕ). length l) is ∙ room.opened in
            let fit : get_or opened p.0 0 + length (nodes p.0) < 2 ^ 64 = fits (made_since opened is) p.0 (omega (arith, known, many)) in
            let equal : also ≡ opened = own ∙ sym is in
            subst (λ (l : List ℕ). (p.0 < length l) × (get_or l p.0 0 + p.1 < 2 ^ 64)) (sym equal) (omega (arith, known, many), omega (arith, lt, fit))

        pub places_few : (ps : List (ℕ × ℕ)) → ps ≡ places → length places ≡ sum_by length parts → length ps ≤ total_at ws count
        places_few ps same long =
            let few = total_few in
            let l : length ps ≡ length places = ap (λ (qs : List (ℕ × ℕ)). length qs) same in
            omega (arith, few, long, l)

        pub are_behind : (also : List ℕ) → also ≡ r.opened.items → (ps : List (ℕ × ℕ)) → ps ≡ places → (new : List (ℕ × ℕ)) → new ≡ map (λ (p : ℕ × ℕ). (p.0, get_or also p.0 0 + p.1)) ps → new ≡ behind h places
        are_behind also own ps same new put =
            put ∙ ap (λ (l : List ℕ). map (λ (p : ℕ × ℕ). (p.0, get_or l p.0 0 + p.1)) ps) own ∙ ap (λ (qs : List (ℕ × ℕ)). map (λ (p : ℕ × ℕ). (p.0, get_or r.opened.items p.0 0 + p.1)) qs) same
            ∙ same_behind h r.opened.items places (λ p has. knows p.0 0 (is_within nodes count places of_nodes p has).0)

  -- ---- they come behind the history

  module _ (places : List (ℕ × ℕ)) (merged : IsMerged (parts_of nodes count) places) where
    all : IsAssembled d.plan h nodes jobs places
    all = phases_assembled d.plan h nodes jobs count places can.made can.none merged

    has_journal : (n : ℕ) (m : Stored) → get_or s.nodes n None ≡ Some m → (means m).journal ≡ journal (reverse (made_at nodes places) ++ h) n
    has_journal n m at = elim (less_or n count) [
      | inl lt ↦ (let (x, here, of) = can.here n lt in
          let same : x ≡ m = same_Some x m (sym here ∙ at) in
          ap (λ (y : Stored). (means y).journal) (sym same) ∙ of.journal_is ∙ sym (all.journals n))
      | inr past ↦ (let many = can.many in
          absurd (none-some m (sym (get_or_past s.nodes n None (omega (arith, past, many))) ∙ at)))
    ]

    pub adds : (new : List (ℕ × ℕ)) → new ≡ behind h places → AddsPlaces (λ (m : Stored). (means m).journal) d h (reverse (made_at nodes places)) s new
    adds new is = record {
      here = λ n lt. (let many = can.many in let (m, at, of) = can.here n (omega (arith, lt, many)) in (m, at));
      journals = has_journal;
      before = can.places;
      after = ap (λ (ps : List (ℕ × ℕ)). ps ++ new) can.places ∙ ap (λ (ps : List (ℕ × ℕ)). places_of h ++ ps) is ∙ sym all.places_are;
      speaks = can.speaks places merged;
      nodes = can.nodes_are;
      streams = can.streams_are;
      clients = can.clients_are;
    }
