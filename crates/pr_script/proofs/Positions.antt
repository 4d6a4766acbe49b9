-- Labels are found by their numbers.
use Rattle.std.proofs.Common.{◌≡◌, ℕ, suc, ◌+◌, ◌<◌, ◌≤◌, Bool, true, false, not, ◌&&◌, ◌||◌, cond, List, [], ◌∷◌, ◌++◌, length, map, Option, Some, None, refl, sym, ap, subst, ◌∙◌, arith, length-append}
use Rattle.std.specs.Prelude.{nat_eq, nat_le, nat_lt, is_some, Result, Ok, Err, OnOk, OnErr}
use Rattle.std.specs.List.{AllByRecursion, list_all, list_any, position, position_or_len, filter}
use Rattle.std.specs.Str.{bytes_eq}
use Rattle.std.specs.Char.{is_ascii_alphanumeric}
use Rattle.std.proofs.lemmas.List.{map-append, append-nil, length-map}
use Rattle.std.proofs.lemmas.List.Elements.{filter-append}
use Rattle.std.proofs.lemmas.Bool.Decides.{nat_tests}
use Rattle.std.proofs.lemmas.Slice.Eq.{bytes_eq-Decides}
use Rattle.pr_script.specs.declared.decl.Decl.{Decl}
use Rattle.pr_script.specs.declared.decl.Decl.TheVariants as decls
use Rattle.pr_script.specs.declared.kind.Kind.{Kind}
use Rattle.pr_script.specs.declared.kind.Kind.TheVariants as kinds
use Rattle.pr_script.specs.Labels.{is_label, label_of, is_kind, kind_of, labels_of, number_among, count_of, is_declared}
use Rattle.pr_script.specs.Packed.{packed, IsIndex}

-- ---- a label and its number

abbrev AreSmall : List ℕ → Type 0
AreSmall bs = AllByRecursion (λ b. (0 < b) × (b < 256)) bs

alphanumeric_small : (b : ℕ) → is_ascii_alphanumeric b ≡ true → (0 < b) × (b < 256)
alphanumeric_small b h = (grind (arith, nat_tests), grind (arith, nat_tests))

pub both : (s t : Bool) → (s && t) ≡ true → (s ≡ true) × (t ≡ true)
both true t h = (refl, h)
both false t h = absurd cc

all_small : (bs : List ℕ) → list_all is_ascii_alphanumeric bs ≡ true → AreSmall bs
all_small [] h = tt
all_small (b ∷ bs) h =
    let p = both (is_ascii_alphanumeric b) (list_all is_ascii_alphanumeric bs) h in
    (alphanumeric_small b p.0, all_small bs p.1)

label_small : (f : List ℕ) → is_label f ≡ true → AreSmall f
label_small f h =
    let p = both (nat_le 1 (length f) && nat_le (length f) 16) (list_all is_ascii_alphanumeric f) h in
    all_small f p.1

pub label_short : (f : List ℕ) → is_label f ≡ true → length f ≤ 16
label_short f h =
    let p = both (nat_le 1 (length f) && nat_le (length f) 16) (list_all is_ascii_alphanumeric f) h in
    let q = both (nat_le 1 (length f)) (nat_le (length f) 16) p.0 in
    let r = q.1 in grind (arith, nat_tests)

one_label : (a b : List ℕ) → AreSmall a → AreSmall b → packed a ≡ packed b → a ≡ b
unfolding packed
one_label [] [] ha hb e = refl
one_label [] (c ∷ b) ha hb e = absurd (omega arith)
one_label (c ∷ a) [] ha hb e = absurd (omega arith)
one_label (c ∷ a) (d ∷ b) ha hb e =
    let h : c ≡ d = omega arith in
    let p : packed a ≡ packed b = omega arith in
    let t = one_label a b ha.1 hb.1 p in
    cc

pub bytes_are : (a b : List ℕ) → bytes_eq a b ≡ true → a ≡ b
bytes_are a b e = grind (arith, bytes_eq-Decides)

pub bytes_differ : (a b : List ℕ) → a ≡ b → bytes_eq a b ≡ true
bytes_differ a b e = grind (arith, bytes_eq-Decides)

numbers_are : (m n : ℕ) → nat_eq m n ≡ true → m ≡ n
numbers_are m n e = grind (arith, nat_tests)

numbers_same : (m n : ℕ) → m ≡ n → nat_eq m n ≡ true
numbers_same m n e = grind (arith, nat_tests)

pub same_tests : (s t : Bool) → (s ≡ true → t ≡ true) → (t ≡ true → s ≡ true) → s ≡ t
same_tests true t f g = sym (f refl)
same_tests false true f g = g refl
same_tests false false f g = refl

one_key : (a b : List ℕ) → is_label a ≡ true → is_label b ≡ true → nat_eq (packed a) (packed b) ≡ bytes_eq a b
one_key a b ha hb =
    same_tests (nat_eq (packed a) (packed b)) (bytes_eq a b)
    (λ e. bytes_differ a b (one_label a b (label_small a ha) (label_small b hb) (numbers_are (packed a) (packed b) e)))
    (λ e. numbers_same (packed a) (packed b) (ap packed (bytes_are a b e)))

-- ---- places

abbrev pub AreLabels : List (List ℕ) → Type 0
AreLabels ls = AllByRecursion (λ l. is_label l ≡ true) ls

first_same : (a : List ℕ) (ls : List (List ℕ)) → is_label a ≡ true → AreLabels ls → position_or_len (nat_eq (packed a)) (map packed ls) ≡ position_or_len (bytes_eq a) ls
first_same a [] ha h = refl
first_same a (l ∷ ls) ha h = rw (one_key a l ha h.0, first_same a ls ha h.1) refl

pub found : (a : List ℕ) (ls : List (List ℕ)) → is_label a ≡ true → AreLabels ls → position (nat_eq (packed a)) (map packed ls) ≡ position (bytes_eq a) ls
found a ls ha h = rw (first_same a ls ha h, length-map ls) refl

some_if : (t : Bool) (n : ℕ) → is_some (cond t (Some n) None) ≡ t
some_if true n = refl
some_if false n = refl

lt_more : (a b : ℕ) → nat_lt (1 + a) (suc b) ≡ nat_lt a b
lt_more a b = grind (arith, nat_tests)

lt_none : (b : ℕ) → nat_lt 0 (suc b) ≡ true
lt_none b = grind (arith, nat_tests)

any_if : (t any : Bool) (a b : ℕ) → nat_lt a b ≡ any → nat_lt (cond (not t) (1 + a) 0) (suc b) ≡ (t || any)
any_if true any a b e = lt_none b
any_if false any a b e = lt_more a b ∙ e

any_lt : {A : Type 0} (p : A → Bool) (xs : List A) → nat_lt (position_or_len p xs) (length xs) ≡ list_any p xs
any_lt p [] = refl
any_lt p (x ∷ xs) = any_if (p x) (list_any p xs) (position_or_len p xs) (length xs) (any_lt p xs)

-- where no place is, nothing passes
pub none_passes : {A : Type 0} (p : A → Bool) (xs : List A) → is_some (position p xs) ≡ false → list_any p xs ≡ false
none_passes p xs e = sym (any_lt p xs) ∙ sym (some_if (nat_lt (position_or_len p xs) (length xs)) (position_or_len p xs)) ∙ e

one_more : (t : Bool) (d : Decl) (ds : List Decl) → is_label (label_of d) ≡ true → AreLabels (map label_of ds) → AreLabels (map label_of (cond t (d ∷ ds) ds))
one_more true d ds h hs = (h, hs)
one_more false d ds h hs = hs

pub labels_all : (k : Kind) (ds : List Decl) → AllByRecursion (λ d. is_label (label_of d) ≡ true) ds → AreLabels (labels_of k ds)
unfolding labels_of
labels_all k [] h = tt
labels_all k (d ∷ ds) h = one_more (is_kind k d) d (filter (is_kind k) ds) h.0 (labels_all k ds h.1)

-- ---- one declaration more

one_if : (t : Bool) (d : Decl) → map label_of (cond t (d ∷ []) []) ≡ cond t (label_of d ∷ []) []
one_if true d = refl
one_if false d = refl

labels_more : (k : Kind) (ds : List Decl) (d : Decl) → labels_of k (ds ++ d ∷ []) ≡ labels_of k ds ++ cond (is_kind k d) (label_of d ∷ []) []
unfolding labels_of
labels_more k ds d =
    ap (map label_of) (filter-append (is_kind k) ds (d ∷ []))
    ∙ map-append label_of (filter (is_kind k) ds) (filter (is_kind k) (d ∷ []))
    ∙ ap (λ (x : List (List ℕ)). labels_of k ds ++ x) (one_if (is_kind k d) d)

pub labels_new : (k : Kind) (ds : List Decl) (d : Decl) → is_kind k d ≡ true → labels_of k (ds ++ d ∷ []) ≡ labels_of k ds ++ label_of d ∷ []
labels_new k ds d e = labels_more k ds d ∙ ap (λ (t : Bool). labels_of k ds ++ cond t (label_of d ∷ []) []) e

pub labels_stay : (k : Kind) (ds : List Decl) (d : Decl) → is_kind k d ≡ false → labels_of k (ds ++ d ∷ []) ≡ labels_of k ds
labels_stay k ds d e = labels_more k ds d ∙ ap (λ (t : Bool). labels_of k ds ++ cond t (label_of d ∷ []) []) e ∙ append-nil (labels_of k ds)

keys_new : (k : Kind) (ds : List Decl) (d : Decl) (keys new : List ℕ) → is_kind k d ≡ true → keys ≡ map packed (labels_of k ds) → new ≡ keys ++ packed (label_of d) ∷ [] → new ≡ map packed (labels_of k (ds ++ d ∷ []))
keys_new k ds d keys new e h is =
    is ∙ ap (λ (x : List ℕ). x ++ packed (label_of d) ∷ []) h ∙ sym (map-append packed (labels_of k ds) (label_of d ∷ [])) ∙ sym (ap (map packed) (labels_new k ds d e))

keys_stay : (k : Kind) (ds : List Decl) (d : Decl) (keys : List ℕ) → is_kind k d ≡ false → keys ≡ map packed (labels_of k ds) → keys ≡ map packed (labels_of k (ds ++ d ∷ []))
keys_stay k ds d keys e h = h ∙ sym (ap (map packed) (labels_stay k ds d e))

count_new : (k : Kind) (ds : List Decl) (d : Decl) → is_kind k d ≡ true → count_of k ds < 256 → count_of k (ds ++ d ∷ []) ≤ 256
count_new k ds d e h =
    let l : count_of k (ds ++ d ∷ []) ≡ count_of k ds + 1 = ap length (labels_new k ds d e) ∙ length-append (labels_of k ds) (label_of d ∷ []) in
    omega (arith, l)

count_stay : (k : Kind) (ds : List Decl) (d : Decl) → is_kind k d ≡ false → count_of k ds ≤ 256 → count_of k (ds ++ d ∷ []) ≤ 256
count_stay k ds d e h =
    let l : count_of k (ds ++ d ∷ []) ≡ count_of k ds = ap length (labels_stay k ds d e) in
    omega (arith, l)

all_more : (ds : List Decl) (d : Decl) → AllByRecursion (λ d. is_label (label_of d) ≡ true) ds → is_label (label_of d) ≡ true → AllByRecursion (λ d. is_label (label_of d) ≡ true) (ds ++ d ∷ [])
all_more [] d h one = (one, tt)
all_more (e ∷ ds) d h one = (h.0, all_more ds d h.1 one)

pub node_indexed : (ds : List Decl) (d : Decl) (nodes clients streams new : List ℕ) → kind_of d ≡ kinds.Node → is_label (label_of d) ≡ true → count_of (kind_of d) ds < 256
    → IsIndex ds nodes clients streams → new ≡ nodes ++ packed (label_of d) ∷ [] → IsIndex (ds ++ d ∷ []) new clients streams
node_indexed ds (decls.Node label sets) nodes clients streams new k one few h is =
    let d : Decl = decls.Node label sets in
    record {
      each = all_more ds d h.each one;
      of_nodes = keys_new kinds.Node ds d nodes new refl h.of_nodes is;
      of_clients = keys_stay kinds.Client ds d clients refl h.of_clients;
      of_streams = keys_stay kinds.Stream ds d streams refl h.of_streams;
      few_nodes = count_new kinds.Node ds d refl few;
      few_clients = count_stay kinds.Client ds d refl h.few_clients;
      few_streams = count_stay kinds.Stream ds d refl h.few_streams;
    }
node_indexed ds (decls.Client label node) nodes clients streams new k one few h is = absurd cc
node_indexed ds (decls.Stream label source dest sub bodies) nodes clients streams new k one few h is = absurd cc

pub client_indexed : (ds : List Decl) (d : Decl) (nodes clients streams new : List ℕ) → kind_of d ≡ kinds.Client → is_label (label_of d) ≡ true → count_of (kind_of d) ds < 256
    → IsIndex ds nodes clients streams → new ≡ clients ++ packed (label_of d) ∷ [] → IsIndex (ds ++ d ∷ []) nodes new streams
client_indexed ds (decls.Client label node) nodes clients streams new k one few h is =
    let d : Decl = decls.Client label node in
    record {
      each = all_more ds d h.each one;
      of_nodes = keys_stay kinds.Node ds d nodes refl h.of_nodes;
      of_clients = keys_new kinds.Client ds d clients new refl h.of_clients is;
      of_streams = keys_stay kinds.Stream ds d streams refl h.of_streams;
      few_nodes = count_stay kinds.Node ds d refl h.few_nodes;
      few_clients = count_new kinds.Client ds d refl few;
      few_streams = count_stay kinds.Stream ds d refl h.few_streams;
    }
client_indexed ds (decls.Node label sets) nodes clients streams new k one few h is = absurd cc
client_indexed ds (decls.Stream label source dest sub bodies) nodes clients streams new k one few h is = absurd cc

pub stream_indexed : (ds : List Decl) (d : Decl) (nodes clients streams new : List ℕ) → kind_of d ≡ kinds.Stream → is_label (label_of d) ≡ true → count_of (kind_of d) ds < 256
    → IsIndex ds nodes clients streams → new ≡ streams ++ packed (label_of d) ∷ [] → IsIndex (ds ++ d ∷ []) nodes clients new
stream_indexed ds (decls.Stream label source dest sub bodies) nodes clients streams new k one few h is =
    let d : Decl = decls.Stream label source dest sub bodies in
    record {
      each = all_more ds d h.each one;
      of_nodes = keys_stay kinds.Node ds d nodes refl h.of_nodes;
      of_clients = keys_stay kinds.Client ds d clients refl h.of_clients;
      of_streams = keys_new kinds.Stream ds d streams new refl h.of_streams is;
      few_nodes = count_stay kinds.Node ds d refl h.few_nodes;
      few_clients = count_stay kinds.Client ds d refl h.few_clients;
      few_streams = count_new kinds.Stream ds d refl few;
    }
stream_indexed ds (decls.Node label sets) nodes clients streams new k one few h is = absurd cc
stream_indexed ds (decls.Client label node) nodes clients streams new k one few h is = absurd cc

abbrev of_kind : Kind → Bool → Bool → Bool → Bool
of_kind kinds.Node a b c = a
of_kind kinds.Client a b c = b
of_kind kinds.Stream a b c = c

none_of : (k : Kind) (a b c : Bool) → ((a || b) || c) ≡ false → of_kind k a b c ≡ false
none_of kinds.Node false b c h = refl
none_of kinds.Client false false c h = refl
none_of kinds.Stream false false false h = refl
none_of k true b c h = absurd cc
none_of k false true c h = absurd cc
none_of k false false true h = absurd cc

none_at : (k : Kind) (ds : List Decl) (a : List ℕ) → is_declared ds a ≡ false → is_some (number_among k ds a) ≡ false
unfolding labels_of
none_at kinds.Node ds a h = none_of kinds.Node (is_some (number_among kinds.Node ds a)) (is_some (number_among kinds.Client ds a)) (is_some (number_among kinds.Stream ds a)) h
none_at kinds.Client ds a h = none_of kinds.Client (is_some (number_among kinds.Node ds a)) (is_some (number_among kinds.Client ds a)) (is_some (number_among kinds.Stream ds a)) h
none_at kinds.Stream ds a h = none_of kinds.Stream (is_some (number_among kinds.Node ds a)) (is_some (number_among kinds.Client ds a)) (is_some (number_among kinds.Stream ds a)) h

-- a new label's key is among none of the keys
pub key_is_new : (k : Kind) (ds : List Decl) (a : List ℕ) (keys : List ℕ) → is_label a ≡ true → is_declared ds a ≡ false → AllByRecursion (λ d. is_label (label_of d) ≡ true) ds
    → keys ≡ map packed (labels_of k ds) → list_any (nat_eq (packed a)) keys ≡ false
key_is_new k ds a keys one none each is =
    none_passes (nat_eq (packed a)) keys (ap (λ (x : List ℕ). is_some (position (nat_eq (packed a)) x)) is ∙ ap is_some (found a (labels_of k ds) one (labels_all k ds each)) ∙ none_at k ds a none)

nothing_indexed : (nodes clients streams : List ℕ) → nodes ≡ [] → clients ≡ [] → streams ≡ [] → IsIndex [] nodes clients streams
unfolding labels_of
nothing_indexed nodes clients streams n c s = record {
  each = tt;
  of_nodes = n;
  of_clients = c;
  of_streams = s;
  few_nodes = omega arith;
  few_clients = omega arith;
  few_streams = omega arith;
}

pub none_indexed : (ds : List Decl) (nodes clients streams : List ℕ) → ds ≡ [] → nodes ≡ [] → clients ≡ [] → streams ≡ [] → IsIndex ds nodes clients streams
none_indexed ds nodes clients streams e n c s = subst (λ (x : List Decl). IsIndex x nodes clients streams) (sym e) (nothing_indexed nodes clients streams n c s)

pub found_key : (a : List ℕ) (ls : List (List ℕ)) (key : ℕ) (keys : List ℕ) (place : Option ℕ) → is_label a ≡ true → AreLabels ls → key ≡ packed a → keys ≡ map packed ls
    → place ≡ position (nat_eq key) keys → place ≡ position (bytes_eq a) ls
found_key a ls key keys place one each k ks p = p ∙ ap (λ (x : ℕ). position (nat_eq x) keys) k ∙ ap (position (nat_eq (packed a))) ks ∙ found a ls one each

-- ---- a call that adds one declaration and its key, or neither

module _ {E : Type 0} (r : Result (Unit {0}) E) (ds more : List Decl) (d : Decl) (keys new : List ℕ) where
  abbrev pub Adds : Type 0
  Adds = OnOk r (more ≡ ds ++ d ∷ []) × OnOk r (new ≡ keys ++ packed (label_of d) ∷ []) × OnErr r (more ≡ ds) × OnErr r (new ≡ keys)

pub node_pushed : {E : Type 0} (r : Result (Unit {0}) E) (ds more : List Decl) (d : Decl) (nodes new clients streams : List ℕ) → kind_of d ≡ kinds.Node → is_label (label_of d) ≡ true → count_of (kind_of d) ds < 256
    → IsIndex ds nodes clients streams → Adds r ds more d nodes new → IsIndex more new clients streams
node_pushed (Ok x) ds more d nodes new clients streams k one few h (a, b, e, f) = rw a (node_indexed ds d nodes clients streams new k one few h b)
node_pushed (Err x) ds more d nodes new clients streams k one few h (a, b, e, f) = rw (e, f) h

pub client_pushed : {E : Type 0} (r : Result (Unit {0}) E) (ds more : List Decl) (d : Decl) (clients new nodes streams : List ℕ) → kind_of d ≡ kinds.Client → is_label (label_of d) ≡ true → count_of (kind_of d) ds < 256
    → IsIndex ds nodes clients streams → Adds r ds more d clients new → IsIndex more nodes new streams
client_pushed (Ok x) ds more d clients new nodes streams k one few h (a, b, e, f) = rw a (client_indexed ds d nodes clients streams new k one few h b)
client_pushed (Err x) ds more d clients new nodes streams k one few h (a, b, e, f) = rw (e, f) h

pub stream_pushed : {E : Type 0} (r : Result (Unit {0}) E) (ds more : List Decl) (d : Decl) (streams new nodes clients : List ℕ) → kind_of d ≡ kinds.Stream → is_label (label_of d) ≡ true → count_of (kind_of d) ds < 256
    → IsIndex ds nodes clients streams → Adds r ds more d streams new → IsIndex more nodes clients new
stream_pushed (Ok x) ds more d streams new nodes clients k one few h (a, b, e, f) = rw a (stream_indexed ds d nodes clients streams new k one few h b)
stream_pushed (Err x) ds more d streams new nodes clients k one few h (a, b, e, f) = rw (e, f) h
