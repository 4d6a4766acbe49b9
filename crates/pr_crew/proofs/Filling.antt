-- Memory for a phase, and the times of what its nodes made.
use Rattle.std.proofs.Common.{◌≡◌, ◌<◌, ◌≤◌, ◌+◌, ◌*◌, ◌^◌, ◌∙◌, ℕ, List, [], ◌∷◌, ◌++◌, Global, Some, None, add-one, get_or, inl, inr, length, map, refl, sym, ap, subst, arith}
use Rattle.std.specs.Prelude.{Vec, drop, reverse, slice_get, sum_by, take, vec_capacity}
use Rattle.std.specs.List.{range_with_len}
use Rattle.std.proofs.Math.Seq.{get_or-append_seam}
use Rattle.std.proofs.lemmas.List.{get_or-drop, length-drop, get_or_append_left, length-append, length-reverse, map-append, reverse-append, reverse-reverse, take_all}
use Rattle.std.proofs.lemmas.Option.{same_Some}
use Rattle.pr_merge.proofs.Times.{less_or}
use Rattle.pr_merge.specs.Holding.{HeldState}
use Rattle.pr_node.specs.Stored.{Stored, means}
use Rattle.pr_stamps.specs.Kept.{Kept}
use Rattle.pr_story.specs.declared.entry.Entry.{Entry}
use Rattle.pr_story.proofs.NewestFirst.{with_next}
use Rattle.pr_story.specs.History.{NodeEntry, Plan, journal}
use Rattle.pr_crew.specs.declared.room.Room.{Room}
use Rattle.pr_crew.specs.declared.work.Work.{Work}
use Rattle.pr_crew.specs.Assembly.{parts_of}
use Rattle.pr_crew.specs.Rooms.{HasRoomFor, IsBehind, total_at}
use Rattle.pr_crew.specs.Sites.{IsHere}
use Rattle.pr_crew.specs.Works.{all_at, most_at}
use Rattle.pr_crew.proofs.Places.{sum_push, take_push}
use Rattle.pr_crew.proofs.Starts.{range_more}

-- ---- lists that grow at their ends

-- what holds of each item by its place, and of one more
pub pushed : {X : Type 0} (P : ℕ → X → Type 0) (xs : List X) (x : X) → ((n : ℕ) (any : X) → n < length xs → P n (get_or xs n any)) → P (length xs) x → (n : ℕ) (any : X) → n < length xs + 1 → P n (get_or (xs ++ x ∷ []) n any)
pushed {X} P xs x all last n any lt = elim (less_or n (length xs)) [
  | inl before ↦ subst (λ (y : X). P n y) (sym (get_or_append_left xs (x ∷ []) any n before)) (all n any before)
  | inr past ↦ (let is : length xs ≡ n = omega (arith, past, lt) in
      subst (λ (k : ℕ). P k (get_or (xs ++ x ∷ []) k any)) is (subst (λ (y : X). P (length xs) y) (sym (get_or-append_seam xs x [] any)) last))
]

pub pushed_length : {X : Type 0} (xs ys : List X) (x : X) (n : ℕ) → ys ≡ xs ++ x ∷ [] → length xs ≡ n → length ys ≡ n + 1
pushed_length xs ys x n is many =
    let a : length ys ≡ length (xs ++ x ∷ []) = ap (λ l. length l) is in
    let b = length-append xs (x ∷ []) in
    omega (arith, a, b, many)

pub mapped_more : {X Y : Type 0} (f : X → Y) (xs : List X) (i : ℕ) (x : X) → slice_get xs i ≡ Some x → map f (take i xs) ++ f x ∷ [] ≡ map f (take (i + 1) xs)
mapped_more f xs i x is = sym (ap (λ l. map f l) (take_push xs i x is) ∙ map-append f (take i xs) (x ∷ []))

pub mapped_all : {X Y : Type 0} (f : X → Y) (xs : List X) (i : ℕ) (ys : List Y) → ys ≡ map f (take i xs) → length xs ≤ i → ys ≡ map f xs
mapped_all f xs i ys is all = is ∙ ap (λ l. map f l) (take_all i xs all)

-- the time of one entry more behind the first ones
pub times_more : (xs : List Entry) (from at : ℕ) (e : Entry) (times : List ℕ) → from + at < length xs → e ≡ get_or xs (from + at) e → times ≡ map (λ (x : Entry). x.time) (take at (drop from xs)) → times ++ e.time ∷ [] ≡ map (λ (x : Entry). x.time) (take (at + 1) (drop from xs))
times_more xs from at e times some is sofar =
    let within : at < length (drop from xs) = omega (arith, some, length-drop from xs) in
    let here : e ≡ get_or (drop from xs) at e = is ∙ sym (get_or-drop from xs at e) in
    ap (λ l. l ++ e.time ∷ []) sofar ∙ sym (map-append (λ (x : Entry). x.time) (take at (drop from xs)) (e ∷ [])) ∙ ap (λ l. map (λ (x : Entry). x.time) l) (with_next (λ l. take at (drop from xs) ++ e ∷ [] ≡ l) (drop from xs) at e within here refl)

-- ---- how many entries there can be

pub most_more : (ws : List Work) (n i most : ℕ) (w : Work) → slice_get ws i ≡ Some w → most ≡ sum_by (most_at n) (take i ws) → most + most_at n w ≡ sum_by (most_at n) (take (i + 1) ws)
most_more ws n i most w is so_far =
    ap (λ (k : ℕ). k + most_at n w) so_far
    ∙ sym (ap (λ (l : List Work). sum_by (most_at n) l) (take_push ws i w is) ∙ sum_push (most_at n) (take i ws) w)

pub most_all : (ws : List Work) (n i most : ℕ) → most ≡ sum_by (most_at n) (take i ws) → length ws ≤ i → most ≡ all_at ws n
most_all ws n i most is all = is ∙ ap (λ (l : List Work). sum_by (most_at n) l) (take_all i ws all)

-- the numbers below one more
pub range_next : (n : ℕ) → range_with_len 0 (n + 1) ≡ range_with_len 0 n ++ n ∷ []
range_next n =
    let e : 0 + n ≡ n = omega arith in
    ap (λ (k : ℕ). range_with_len 0 k) (add-one n) ∙ range_more 0 n ∙ ap (λ (k : ℕ). range_with_len 0 n ++ k ∷ []) e

total_more : (ws : List Work) (n most here : ℕ) → most ≡ total_at ws n → here ≡ all_at ws n → most + here ≡ total_at ws (n + 1)
total_more ws n most here so_far is =
    let e : total_at ws (n + 1) ≡ total_at ws n + all_at ws n = ap (λ (l : List ℕ). sum_by (all_at ws) l) (range_next n) ∙ sum_push (all_at ws) (range_with_len 0 n) n in
    omega (arith, e, so_far, is)

-- ---- memory

-- there is room for each of the first nodes, and so many entries can be made at them
pub record IsTaking (ws : List Work) (count node most : ℕ) (r : Room) : Type 0 where
  pub opened : length r.opened.items ≡ node
  pub times : length r.times.items ≡ node
  pub each : (n : ℕ) (any : Vec ℕ Global) → n < node → ((get_or r.times.items n any).items ≡ []) × (all_at ws n ≤ vec_capacity (get_or r.times.items n any))
  pub parts : r.parts.items ≡ []
  pub parts_fit : count ≤ vec_capacity r.parts
  pub merged : r.merged.items ≡ []
  pub places : r.places.items ≡ []
  pub most_is : most ≡ total_at ws node
  pub most_few : most ≤ node * 128000064

pub taking_more : (ws : List Work) (count node most here many : ℕ) (r t : Room) (v : Vec ℕ Global) → IsTaking ws count node most r → here ≡ all_at ws node → here ≤ 64 * 2000001 → v.items ≡ [] → here ≤ vec_capacity v
    → t.times.items ≡ r.times.items ++ v ∷ [] → t.opened.items ≡ r.opened.items ++ many ∷ [] → t.parts ≡ r.parts → t.merged ≡ r.merged → t.places ≡ r.places → IsTaking ws count (node + 1) (most + here) t
taking_more ws count node most here many r t v i is few empty free times opened parts merged places =
    let same = i.times in
    let so_far = i.most_few in
    record {
      opened = pushed_length r.opened.items t.opened.items many node opened i.opened;
      times = pushed_length r.times.items t.times.items v node times same;
      each = λ n any lt.
          subst (λ (l : List (Vec ℕ Global)). ((get_or l n any).items ≡ []) × (all_at ws n ≤ vec_capacity (get_or l n any))) (sym times)
          (pushed (λ k x. (x.items ≡ []) × (all_at ws k ≤ vec_capacity x)) r.times.items v
          (λ k other less. i.each k other (omega (arith, same, less)))
          (empty, subst (λ (k : ℕ). all_at ws k ≤ vec_capacity v) (sym same) (omega (arith, is, free)))
          n any (omega (arith, same, lt)));
      parts = ap (λ p. p.items) parts ∙ i.parts;
      parts_fit = subst (λ p. count ≤ vec_capacity p) (sym parts) i.parts_fit;
      merged = ap (λ (k : Kept (ℕ × ℕ)). k.items) merged ∙ i.merged;
      places = ap (λ (k : Kept (ℕ × ℕ)). k.items) places ∙ i.places;
      most_is = total_more ws node most here i.most_is is;
      most_few = omega (arith, so_far, few);
    }

pub has_room : (ws : List Work) (count node most : ℕ) (r : Room) (merged places : Kept (ℕ × ℕ)) → IsTaking ws count node most r → node ≡ count → count ≤ 32
    → merged.items ≡ r.merged.items → most ≤ merged.room → places.items ≡ r.places.items → most ≤ places.room
    → HasRoomFor ws count (record { alloc = r.alloc; opened = r.opened; times = r.times; parts = r.parts; merged = merged; places = places })
has_room ws count node most r merged places i all few same fits same_places fits_places =
    let total : most ≡ total_at ws count = i.most_is ∙ ap (λ (n : ℕ). total_at ws n) all in
    record {
      few = few;
      opened = i.opened ∙ all;
      times = i.times ∙ all;
      each = λ n any lt. i.each n any (omega (arith, all, lt));
      parts = i.parts;
      parts_fit = i.parts_fit;
      merged = same ∙ i.merged;
      merged_fit = omega (arith, total, fits);
      places = same_places ∙ i.places;
      places_fit = omega (arith, total, fits_places);
    }

-- how many entries each of the first nodes had
pub knows_more : (plan : Plan) (h : List NodeEntry) (node many : ℕ) (s : HeldState Stored) (xs ys : List ℕ) → length xs ≡ node
    → ((n any : ℕ) → n < node → get_or xs n any ≡ length (journal h n)) → IsHere plan h s node → ((m : Stored) → get_or s.nodes node None ≡ Some m → many ≡ length (means m).journal) → ys ≡ xs ++ many ∷ []
    → (n any : ℕ) → n < node + 1 → get_or ys n any ≡ length (journal h n)
knows_more plan h node many s xs ys same so_far here told is n any lt =
    subst (λ (l : List ℕ). get_or l n any ≡ length (journal h n)) (sym is)
    (pushed (λ (k x : ℕ). x ≡ length (journal h k)) xs many
    (λ k other less. so_far k other (omega (arith, same, less)))
    (told here.0 here.1 ∙ ap (λ (l : List Entry). length l) here.2.journal_is ∙ ap (λ (k : ℕ). length (journal h k)) (sym same))
    n any (omega (arith, same, lt)))

-- ---- times

-- what a node has made since stands in its journal behind what it had
pub since_is : (before made items j : List Entry) (many : ℕ) → reverse items ≡ j → j ≡ reverse made ++ before → length before ≡ many → drop many items ≡ made
since_is before made items j many told is same =
    let all : items ≡ reverse before ++ made =
    sym (reverse-reverse items) ∙ ap (λ (l : List Entry). reverse l) (told ∙ is) ∙ reverse-append (reverse made) before ∙ ap (λ (l : List Entry). reverse before ++ l) (reverse-reverse made) in
    subst (λ (k : ℕ). drop k items ≡ made) (length-reverse before ∙ same) (drop_front (reverse before) made items all)
  where
    drop_front : (xs ys zs : List Entry) → zs ≡ xs ++ ys → drop (length xs) zs ≡ ys
    drop_front [] ys zs is = is
    drop_front (x ∷ xs) ys zs is = ap (λ (l : List Entry). drop (length (x ∷ xs)) l) is ∙ drop_front xs ys (xs ++ ys) refl

pub since_long : (before made items j : List Entry) (many : ℕ) → reverse items ≡ j → j ≡ reverse made ++ before → length before ≡ many → length items ≡ many + length made
since_long before made items j many told is same =
    let a = length-reverse items in
    let b : length (reverse items) ≡ length (reverse made ++ before) = ap (λ (l : List Entry). length l) (told ∙ is) in
    let c = length-append (reverse made) before in
    let d = length-reverse made in
    omega (arith, a, b, c, d, same)

pub behind_so : (before made items : List Entry) (node many : ℕ) (s : HeldState Stored) (m : Stored) → get_or s.nodes node None ≡ Some m → reverse items ≡ (means m).journal → IsBehind before made node many s → drop many items ≡ made
behind_so before made items node many s m here told (x, at, is, same) =
    since_is before made items (means x).journal many (told ∙ ap (λ (y : Stored). (means y).journal) (same_Some m x (sym here ∙ at))) is same

pub fits_more : (opened : List ℕ) (nodes : ℕ → List Entry) (node : ℕ) → ((n : ℕ) → n < node → get_or opened n 0 + length (nodes n) < 2 ^ 64) → get_or opened node 0 + length (nodes node) < 2 ^ 64
    → (n : ℕ) → n < node + 1 → get_or opened n 0 + length (nodes n) < 2 ^ 64
fits_more opened nodes node all last n lt = elim (less_or n node) [
  | inl before ↦ all n before
  | inr past ↦ (let is : node ≡ n = omega (arith, past, lt) in subst (λ (k : ℕ). get_or opened k 0 + length (nodes k) < 2 ^ 64) is last)
]

-- the parts of one node more
pub parts_more : (nodes : ℕ → List Entry) (n : ℕ) (xs : List (List ℕ)) (x : List ℕ) → xs ≡ parts_of nodes n → x ≡ map (λ (e : Entry). e.time) (nodes n) → xs ++ x ∷ [] ≡ parts_of nodes (n + 1)
parts_more nodes n xs x so_far is =
    ap (λ (l : List (List ℕ)). l ++ x ∷ []) so_far ∙ ap (λ (y : List ℕ). parts_of nodes n ++ y ∷ []) is
    ∙ sym (ap (λ (l : List ℕ). map (λ m. map (λ (e : Entry). e.time) (nodes m)) l) (range_next n) ∙ map-append (λ (m : ℕ). map (λ (e : Entry). e.time) (nodes m)) (range_with_len 0 n) (n ∷ []))
