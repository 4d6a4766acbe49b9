-- The declarations are good, and their labels tell them apart.
use Rattle.std.proofs.Common.{◌≡◌, ℕ, zero, suc, ◌+◌, ◌<◌, ◌≤◌, ◌≢◌, Bool, true, false, not, ◌&&◌, ◌||◌, cond, List, [], ◌∷◌, ◌++◌, length, refl, sym, ap, arith}
use Rattle.std.specs.Prelude.{nat_lt, nat_eq, AllPairs}
use Rattle.std.specs.List.{AllByRecursion, list_all}
use Rattle.std.specs.Str.{bytes_eq}
use Rattle.std.proofs.lemmas.Bool.Decides.{nat_tests}
use Rattle.std.proofs.lemmas.List.Elements.{All-from_recursion}
use Rattle.std.proofs.lemmas.List.Kept.{AllPairs-cons}
use Rattle.pr_names.specs.Bound.{bound_lt}
use Rattle.pr_names.specs.declared.bound.Bound.TheVariants.{At}
use Rattle.pr_names.specs.Order.{name_lt}
use Rattle.pr_names.specs.Span.{Span, IsSpan}
use Rattle.pr_names.specs.Text.{all_from}
use Rattle.pr_sets.specs.Ends as ends
use Rattle.pr_sets.specs.Spans.{has, Meet, IsSet}
use Rattle.pr_sets.specs.Text.{list_of, with_part}
use Rattle.pr_script.specs.declared.kind.Kind.{Kind}
use Rattle.pr_script.specs.declared.kind.Kind.TheVariants as kinds
use Rattle.pr_script.specs.Good.{IsGoodDecl, AreGoodDecls}
use Rattle.pr_script.specs.Labels.{AreDistinct, AreLabels, count_of, is_label, labels_of, most_of}
use Rattle.pr_script.specs.Sets.{share}
use Rattle.pr_script.proofs.Positions.{bytes_differ}
use Rattle.pr_script.proofs.Sharing.{shares}
use Rattle.pr_gen.specs.Topology.{back, client, declared, each, forth, front, group, next, node}

-- ---- lists

pub all_joined : {A : Type 0} (P : A → Type 0) (xs ys : List A) → AllByRecursion P xs → AllByRecursion P ys → AllByRecursion P (xs ++ ys)
all_joined P [] ys h k = k
all_joined P (x ∷ xs) ys h k = (h.0, all_joined P xs ys h.1 k)

pub all_each : {A : Type 0} (P : A → Type 0) (n : ℕ) (f : ℕ → A) → ((i : ℕ) → i < n → P (f i)) → AllByRecursion P (each n f)
unfolding each
all_each P zero f h = tt
all_each P (suc n) f h = all_joined P (each n f) (f n ∷ []) (all_each P n f (λ i lt. h i (omega arith))) (h n (omega arith), tt)

pass_all : (p : List ℕ → Bool) (ls : List (List ℕ)) → list_all p ls ≡ true → AllByRecursion (λ l. p l ≡ true) ls
pass_all p [] e = tt
pass_all p (l ∷ ls) e = let b = both (p l) (list_all p ls) e in (b.0, pass_all p ls b.1)
  where
    both : (a b : Bool) → (a && b) ≡ true → (a ≡ true) × (b ≡ true)
    both true b h = (refl, h)
    both false b h = absurd cc

-- ---- labels

differs : (l m : List ℕ) → not (bytes_eq l m) ≡ true → ¬ (l ≡ m)
differs l m t e = never (bytes_eq l m) (bytes_differ l m e) t
  where
    never : (b : Bool) → b ≡ true → not b ≡ true → ⊥
    never true h n = absurd cc
    never false h n = absurd cc

-- whether none stands twice
abbrev all_differ : List (List ℕ) → Bool
all_differ [] = true
all_differ (l ∷ ls) = list_all (λ m. not (bytes_eq l m)) ls && all_differ ls

are_distinct : (ls : List (List ℕ)) → all_differ ls ≡ true → AreDistinct ls
are_distinct [] e = tt
are_distinct (l ∷ ls) e = let b = both (list_all (λ m. not (bytes_eq l m)) ls) (all_differ ls) e in (each_differs ls b.0, are_distinct ls b.1)
  where
    both : (a b : Bool) → (a && b) ≡ true → (a ≡ true) × (b ≡ true)
    both true b h = (refl, h)
    both false b h = absurd cc

    each_differs : (ms : List (List ℕ)) → list_all (λ m. not (bytes_eq l m)) ms ≡ true → AllByRecursion (λ m. ¬ (l ≡ m)) ms
    each_differs [] h = tt
    each_differs (m ∷ ms) h = let c = both (not (bytes_eq l m)) (list_all (λ m. not (bytes_eq l m)) ms) h in (differs l m c.0, each_differs ms c.1)

few : (k : Kind) → count_of k declared ≤ most_of k
unfolding declared each labels_of
few kinds.Node = omega arith
few kinds.Client = omega arith
few kinds.Stream = omega arith

are_labels : (k : Kind) → list_all is_label (labels_of k declared) ≡ true
unfolding declared each labels_of
are_labels kinds.Node = refl
are_labels kinds.Client = refl
are_labels kinds.Stream = refl

none_twice : (k : Kind) → all_differ (labels_of k declared) ≡ true
unfolding declared each labels_of
none_twice kinds.Node = refl
none_twice kinds.Client = refl
none_twice kinds.Stream = refl

pub labels : AreLabels declared
labels = record {
  few = few;
  each = λ k. pass_all is_label (labels_of k declared) (are_labels k);
  distinct = λ k. are_distinct (labels_of k declared) (none_twice k);
}

-- ---- declarations

nodes : count_of kinds.Node declared ≡ 8
unfolding declared each labels_of
nodes = refl

pub clients : count_of kinds.Client declared ≡ 8
unfolding declared each labels_of
clients = refl

pub streams : count_of kinds.Stream declared ≡ 16
unfolding declared each labels_of
streams = refl

-- the names that begin with one letter, and those that begin with another
apart : (a b : ℕ) → a ≢ b → ((nat_lt a b || (nat_eq a b && true)) && (nat_lt b a || (nat_eq b a && true))) ≡ false
apart a b h = grind (arith, nat_tests)

group_span : (i : ℕ) → i < 8 → IsSpan (all_from (front i))
unfolding name_lt
group_span i h = record {
  lo = record { some = omega arith; most = omega arith; each = (grind (arith, nat_tests), (refl, tt)) };
  hi = record { some = omega arith; most = omega arith; each = (grind (arith, nat_tests), (refl, tt)) };
  some = grind (arith, nat_tests);
}

no_share : (i j : ℕ) → i ≢ j → share (group i) (group j) ≡ false
unfolding name_lt
no_share i j h = ap (λ (x : Bool). (x || false) || false) (apart (97 + i) (97 + j) (λ e. h (omega arith)))

next_range : (i : ℕ) → next i < 8
next_range i = omega arith

next_other : (i : ℕ) → i < 8 → i ≢ next i
next_other i h e = omega arith

none_in_both : (i j : ℕ) → i < 8 → j < 8 → i ≢ j → ¬ Meet (has (group i)) (has (group j))
none_in_both i j hi hj ne m =
    let first : IsSet (group i) = (group_span i hi, tt, tt) in
    let second : IsSet (group j) = (group_span j hj, tt, tt) in
    let both = (shares (group i) (group j) first second).1 m in
    let none = no_share i j ne in
    cc

node_good : (i : ℕ) → i < 8 → IsGoodDecl declared (node i)
node_good i h =
    let R : List Span → List Span → Type 0 = λ a b. ¬ Meet (has a) (has b) in
    let alone : AllPairs R (group (next i) ∷ []) = AllPairs-cons R (group (next i)) [] (All-from_recursion (R (group (next i))) [] tt) (λ a b d lt within. absurd (omega arith)) in
    let apart_from : AllByRecursion (R (group i)) (group (next i) ∷ []) = (none_in_both i (next i) h (next_range i) (next_other i h), tt) in
    (omega arith, (omega arith, (omega arith, tt)), AllPairs-cons R (group i) (group (next i) ∷ []) (All-from_recursion (R (group i)) (group (next i) ∷ []) apart_from) alone)

client_good : (i : ℕ) → i < 8 → IsGoodDecl declared (client i)
client_good i h = let n = nodes in omega (arith, n, h)

some_left : (t u : Bool) (a b c : List Span) → 0 < length a → 0 < length b → 0 < length c → 0 < length (cond t a (cond u b c))
some_left true u a b c ha hb hc = ha
some_left false true a b c ha hb hc = hb
some_left false false a b c ha hb hc = hc

part_is_in : (ss : List Span) (s : Span) → 0 < length (with_part ss s)
unfolding with_part
part_is_in [] s = omega arith
part_is_in (t ∷ ts) s = some_left (bound_lt s.hi (At t.lo)) (bound_lt t.hi (At s.lo)) (s ∷ t ∷ ts) (t ∷ with_part ts s) (with_part ts (ends.joined s t)) (omega arith) (omega arith) (part_is_in ts (ends.joined s t))

names_something : (s : Span) (ss : List Span) → 0 < length (list_of (s ∷ ss))
unfolding list_of
names_something s ss = part_is_in (list_of ss) s

forth_good : (i : ℕ) → i < 8 → IsGoodDecl declared (forth i)
forth_good i h =
    let n = nodes in
    let r = next_range i in
    (omega (arith, n, h), omega (arith, n, r), next_other i h, names_something (all_from (front (next i))) (group (next (next i))))

back_good : (i : ℕ) → i < 8 → IsGoodDecl declared (back i)
back_good i h =
    let n = nodes in
    let r = next_range i in
    (omega (arith, n, r), omega (arith, n, h), (λ e. next_other i h (sym e)), omega arith)

each_good : AllByRecursion (IsGoodDecl declared) declared
unfolding declared
each_good =
    let P = IsGoodDecl declared in
    all_joined P (each 8 node ++ each 8 client ++ each 8 forth) (each 8 back)
    (all_joined P (each 8 node ++ each 8 client) (each 8 forth) (all_joined P (each 8 node) (each 8 client) (all_each P 8 node node_good) (all_each P 8 client client_good)) (all_each P 8 forth forth_good))
    (all_each P 8 back back_good)

pub decls : AreGoodDecls declared
decls = record { few = few; each = each_good }
