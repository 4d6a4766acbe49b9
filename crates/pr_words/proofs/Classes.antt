-- The kinds of words.
use Rattle.std.proofs.Common.{◌≡◌, ◌∙◌, ℕ, suc, ◌+◌, Bool, true, false, cond, not, ◌||◌, ◌==◌, List, [], ◌∷◌, ◌++◌, take, drop, Option, Some, None, refl, sym, ap, subst, arith}
use Rattle.std.specs.Prelude.{IsUtf8, chars, codes, encode_utf8_all, option_and_then, slice_get}
use Rattle.std.specs.List.{after_first, before_first, list_any, position_or_len}
use Rattle.std.specs.Char.{encode_utf8}
use Rattle.std.specs.Str.{bytes_eq}
use Rattle.std.proofs.lemmas.Bool.Decides.{nat_tests}
use Rattle.std.proofs.lemmas.Slice.Eq.{bytes_eq-Decides}
use Rattle.std.proofs.lemmas.Str.{IsUtf8-past_char, encodes-chars}
use Rattle.clap.specs.Faults.{flags_fault, turn_fault}
use Rattle.clap.specs.Lexer.{long_of, long_of_rest, short_of, short_of_rest, strip_byte}
use Rattle.clap.specs.Walk.{Row, Text, arg_by_long, idle, option}
use Rattle.clap.specs.declared.error.kind.ErrorKind.TheVariants as kind
use Rattle.pr_words.specs.Words.{Key, Seed, Size, Stop, Node, front_of, is_flag, key_of, keyed, option_of}
use Rattle.pr_words.proofs.Arguments.{key_name, rule, rules, shape}
use Rattle.pr_words.proofs.Turns.{at, dashes, front_text, key_text}

pub bytes_are : (a b : List ℕ) → bytes_eq a b ≡ true → a ≡ b
bytes_are a b e = grind (arith, bytes_eq-Decides)

-- ---- options

some_is : {X : Type 0} (x y : X) → Some x ≡ Some y → x ≡ y
some_is x y e = cc

key_if : (w : Text) (a b c d : Bool) → bytes_eq w (codes "--seed") ≡ a → bytes_eq w (codes "--size") ≡ b → bytes_eq w (codes "--stop") ≡ c → bytes_eq w (codes "--node") ≡ d
    → (k : Key) → cond a (Some Seed) (cond b (Some Size) (cond c (Some Stop) (cond d (Some Node) None))) ≡ Some k → w ≡ key_text k
key_if w true b c d p q r s k e = bytes_are w (codes "--seed") p ∙ ap key_text (some_is Seed k e)
key_if w false true c d p q r s k e = bytes_are w (codes "--size") q ∙ ap key_text (some_is Size k e)
key_if w false false true d p q r s k e = bytes_are w (codes "--stop") r ∙ ap key_text (some_is Stop k e)
key_if w false false false true p q r s k e = bytes_are w (codes "--node") s ∙ ap key_text (some_is Node k e)
key_if w false false false false p q r s k e = absurd cc

pub key_is : (w : Text) (k : Key) → key_of w ≡ Some k → w ≡ key_text k
unfolding key_of
key_is w k e = key_if w _ _ _ _ refl refl refl refl k e

front_if : (w : Text) (a b c d : Bool) → bytes_eq w (codes "--seed=") ≡ a → bytes_eq w (codes "--size=") ≡ b → bytes_eq w (codes "--stop=") ≡ c → bytes_eq w (codes "--node=") ≡ d
    → (k : Key) → cond a (Some Seed) (cond b (Some Size) (cond c (Some Stop) (cond d (Some Node) None))) ≡ Some k → w ≡ front_text k
front_if w true b c d p q r s k e = bytes_are w (codes "--seed=") p ∙ ap front_text (some_is Seed k e)
front_if w false true c d p q r s k e = bytes_are w (codes "--size=") q ∙ ap front_text (some_is Size k e)
front_if w false false true d p q r s k e = bytes_are w (codes "--stop=") r ∙ ap front_text (some_is Stop k e)
front_if w false false false true p q r s k e = bytes_are w (codes "--node=") s ∙ ap front_text (some_is Node k e)
front_if w false false false false p q r s k e = absurd cc

front_is : (w : Text) (k : Key) → front_of w ≡ Some k → w ≡ front_text k
unfolding front_of
front_is w k e = front_if w _ _ _ _ refl refl refl refl k e

keyed_is : (o : Option Key) (v w : Text) (k : Key) → keyed o v ≡ Some (k, w) → (o ≡ Some k) × (v ≡ w)
keyed_is None v w k e = absurd cc
keyed_is (Some l) v w k e =
    let p = some_is (l, v) (k, w) e in
    (ap (λ (x : Key × Text). Some x.0) p, ap (λ (x : Key × Text). x.1) p)

pub option_is : (w : Text) (k : Key) (v : Text) → option_of w ≡ Some (k, v) → w ≡ front_text k ++ v
unfolding option_of
option_is [] k v h = absurd cc
option_is (a ∷ []) k v h = absurd cc
option_is (a ∷ b ∷ []) k v h = absurd cc
option_is (a ∷ b ∷ c ∷ []) k v h = absurd cc
option_is (a ∷ b ∷ c ∷ d ∷ []) k v h = absurd cc
option_is (a ∷ b ∷ c ∷ d ∷ e ∷ []) k v h = absurd cc
option_is (a ∷ b ∷ c ∷ d ∷ e ∷ f ∷ []) k v h = absurd cc
option_is (a ∷ b ∷ c ∷ d ∷ e ∷ f ∷ g ∷ w) k v h =
    let p = keyed_is (front_of (a ∷ b ∷ c ∷ d ∷ e ∷ f ∷ g ∷ [])) w v k h in
    let q = front_is (a ∷ b ∷ c ∷ d ∷ e ∷ f ∷ g ∷ []) k p.0 in
    ap (λ (x : List ℕ). x ++ w) q ∙ ap (λ (x : List ℕ). front_text k ++ x) p.1

pub option_at : (k : Key) (v : Text) → option_of (front_text k ++ v) ≡ Some (k, v)
unfolding option_of front_of
option_at Seed v = refl
option_at Size v = refl
option_at Stop v = refl
option_at Node v = refl

pub key_at : (k : Key) → (option_of (key_text k) ≡ None) × (key_of (key_text k) ≡ Some k)
unfolding option_of key_of
key_at Seed = (refl, refl)
key_at Size = (refl, refl)
key_at Stop = (refl, refl)
key_at Node = (refl, refl)

-- ---- what stands before `=`

abbrev is_equals : ℕ → Bool
is_equals x = x == 61

equals_is : (x : ℕ) → is_equals x ≡ true → x ≡ 61
equals_is x e = grind (arith, nat_tests)

one_more : (n : ℕ) → 1 + n ≡ suc n
one_more n = omega arith

split : (xs : List ℕ) → list_any is_equals xs ≡ true → xs ≡ before_first is_equals xs ++ (61 ∷ after_first is_equals xs)
split [] h = absurd cc
split (x ∷ xs) h = go (is_equals x) refl (split xs) h
  where
    go : (t : Bool) → is_equals x ≡ t → (list_any is_equals xs ≡ true → xs ≡ before_first is_equals xs ++ (61 ∷ after_first is_equals xs))
        → (t || list_any is_equals xs) ≡ true
        → x ∷ xs ≡ take (cond (not t) (1 + position_or_len is_equals xs) 0) (x ∷ xs) ++ (61 ∷ drop (cond (not t) (1 + position_or_len is_equals xs) 0 + 1) (x ∷ xs))
    go true e again k = ap (λ (y : ℕ). y ∷ xs) (equals_is x e)
    go false e again k =
        let n : 1 + position_or_len is_equals xs + 1 ≡ suc (position_or_len is_equals xs + 1) = omega arith in
        rw (n, one_more (position_or_len is_equals xs)) (ap (λ (y : List ℕ). x ∷ y) (again k))

whole : (xs : List ℕ) → list_any is_equals xs ≡ false → before_first is_equals xs ≡ xs
whole [] h = refl
whole (x ∷ xs) h = go (is_equals x) (whole xs) h
  where
    go : (t : Bool) → (list_any is_equals xs ≡ false → before_first is_equals xs ≡ xs) → (t || list_any is_equals xs) ≡ false
        → take (cond (not t) (1 + position_or_len is_equals xs) 0) (x ∷ xs) ≡ x ∷ xs
    go true again k = absurd cc
    go false again k = rw (one_more (position_or_len is_equals xs)) (ap (λ (y : List ℕ). x ∷ y) (again k))

-- ---- words that begin with a hyphen and are no options

pub record IsOther (w : Text) : Type 0 where
  pub no_dashes : bytes_eq w dashes ≡ false
  pub no_option : option_of w ≡ None
  pub no_key : key_of w ≡ None
  pub flag : is_flag w ≡ true
  pub utf8 : IsUtf8 w

front_parts : (k : Key) (v : Text) → 45 ∷ 45 ∷ (key_name k ++ (61 ∷ v)) ≡ front_text k ++ v
front_parts Seed v = refl
front_parts Size v = refl
front_parts Stop v = refl
front_parts Node v = refl

key_parts : (k : Key) → 45 ∷ 45 ∷ key_name k ≡ key_text k
key_parts Seed = refl
key_parts Size = refl
key_parts Stop = refl
key_parts Node = refl

named : (k : Key) (xs : List ℕ) (t : Bool) → list_any is_equals xs ≡ t → key_name k ≡ before_first is_equals xs
    → option_of (45 ∷ 45 ∷ xs) ≡ None → key_of (45 ∷ 45 ∷ xs) ≡ None → ⊥
named k xs true h e no_option no_key =
    let s : xs ≡ key_name k ++ (61 ∷ after_first is_equals xs) = split xs h ∙ ap (λ (y : List ℕ). y ++ (61 ∷ after_first is_equals xs)) (sym e) in
    let p : 45 ∷ 45 ∷ xs ≡ front_text k ++ after_first is_equals xs = ap (λ (y : List ℕ). 45 ∷ 45 ∷ y) s ∙ front_parts k (after_first is_equals xs) in
    let q : ◌≡◌ {A = Option (Key × Text)} (Some (k, after_first is_equals xs)) None = sym (option_at k (after_first is_equals xs)) ∙ ap option_of (sym p) ∙ no_option in
    absurd cc
named k xs false h e no_option no_key =
    let p : 45 ∷ 45 ∷ xs ≡ key_text k = ap (λ (y : List ℕ). 45 ∷ 45 ∷ y) (sym (whole xs h) ∙ sym e) ∙ key_parts k in
    let q : ◌≡◌ {A = Option Key} (Some k) None = sym (key_at k).1 ∙ ap key_of (sym p) ∙ no_key in
    absurd cc

not_named : (k : Key) (xs : List ℕ) → option_of (45 ∷ 45 ∷ xs) ≡ None → key_of (45 ∷ 45 ∷ xs) ≡ None → bytes_eq (key_name k) (before_first is_equals xs) ≡ false
not_named k xs no_option no_key = go (bytes_eq (key_name k) (before_first is_equals xs)) refl
  where
    go : (t : Bool) → bytes_eq (key_name k) (before_first is_equals xs) ≡ t → t ≡ false
    go true e = absurd (named k xs (list_any is_equals xs) refl (bytes_are (key_name k) (before_first is_equals xs) e) no_option no_key)
    go false e = refl

by_none : (id : Text) → bytes_eq (key_name Seed) id ≡ false → bytes_eq (key_name Size) id ≡ false → bytes_eq (key_name Stop) id ≡ false → bytes_eq (key_name Node) id ≡ false
    → arg_by_long rules id ≡ None
unfolding rule
by_none id a b c d = rw (a, b, c, d) refl

other_long : (x : ℕ) (xs : List ℕ) → option_of (45 ∷ 45 ∷ x ∷ xs) ≡ None → key_of (45 ∷ 45 ∷ x ∷ xs) ≡ None → arg_by_long rules (before_first is_equals (x ∷ xs)) ≡ None
other_long x xs no_option no_key =
    by_none (before_first is_equals (x ∷ xs)) (not_named Seed (x ∷ xs) no_option no_key) (not_named Size (x ∷ xs) no_option no_key)
    (not_named Stop (x ∷ xs) no_option no_key) (not_named Node (x ∷ xs) no_option no_key)

-- a text has a first character
some_char : (c : ℕ) (t : List ℕ) → IsUtf8 (45 ∷ c ∷ t) → (x : ℕ) × (slice_get (chars (c ∷ t)) 0 ≡ Some x)
unfolding encode_utf8
some_char c t u =
    let v : IsUtf8 (c ∷ t) = IsUtf8-past_char (45 ∷ c ∷ t) (c ∷ t) 45 u refl in
    go (chars (c ∷ t)) refl (encodes-chars (c ∷ t) v)
  where
    go : (cs : List ℕ) → chars (c ∷ t) ≡ cs → encode_utf8_all cs ≡ c ∷ t → (x : ℕ) × (slice_get cs 0 ≡ Some x)
    go [] e h = absurd cc
    go (x ∷ xs) e h = (x, refl)

hyphen_is : (b : ℕ) → (b == 45) ≡ true → b ≡ 45
hyphen_is b e = grind (arith, nat_tests)

-- the word is refused, whether it stands alone or behind an option
abbrev pub IsRefused : List Row → Option (Text × List Text) → ℕ → Text → Text → Type 0
IsRefused rs p n id w =
    (turn_fault shape [] (at rs p idle n false) w ≡ kind.UnknownArgument ∷ []) × (turn_fault shape [] (at rs p (option id) n false) w ≡ kind.UnknownArgument ∷ [])

module _ (rs : List Row) (p : Option (Text × List Text)) (n : ℕ) (id : Text) where
  short_turn : (c x : ℕ) (t : List ℕ) → (c == 45) ≡ false → slice_get (chars (c ∷ t)) 0 ≡ Some x → IsRefused rs p n id (45 ∷ c ∷ t)
  unfolding flags_fault rule
  short_turn c x t e h = (rw (e, e, h) refl, rw (e, e, h) refl)

  long_turn : (x : ℕ) (xs : List ℕ) → arg_by_long rules (before_first is_equals (x ∷ xs)) ≡ None → IsRefused rs p n id (45 ∷ 45 ∷ x ∷ xs)
  long_turn x xs h = (rw h refl, rw h refl)

  second : (c : ℕ) (t : List ℕ) (is : Bool) → (c == 45) ≡ is → IsOther (45 ∷ c ∷ t) → IsRefused rs p n id (45 ∷ c ∷ t)
  second c t false e o =
      let x = some_char c t o.utf8 in
      short_turn c x.0 t e x.1
  second c t true e o = subst (λ (y : ℕ). IsRefused rs p n id (45 ∷ y ∷ t)) (sym (hyphen_is c e)) (third t (subst (λ (y : ℕ). IsOther (45 ∷ y ∷ t)) (hyphen_is c e) o))
    where
      third : (t : List ℕ) → IsOther (45 ∷ 45 ∷ t) → IsRefused rs p n id (45 ∷ 45 ∷ t)
      third [] o = absurd (let d = o.no_dashes in cc)
      third (x ∷ xs) o = long_turn x xs (other_long x xs o.no_option o.no_key)

  -- no such word is known
  pub other_turn : (w : Text) → IsOther w → IsRefused rs p n id w
  other_turn [] o = absurd (let f = o.flag in cc)
  other_turn (b ∷ []) o = absurd (let f = o.flag in cc)
  other_turn (b ∷ c ∷ t) o =
      let e : b ≡ 45 = hyphen_is b o.flag in
      subst (λ (y : ℕ). IsRefused rs p n id (y ∷ c ∷ t)) (sym e) (second c t (c == 45) refl (subst (λ (y : ℕ). IsOther (y ∷ c ∷ t)) e o))

-- ---- the other words

pub record IsPlain (w : Text) : Type 0 where
  pub no_dashes : bytes_eq w dashes ≡ false
  pub no_option : option_of w ≡ None
  pub no_key : key_of w ≡ None
  pub no_flag : is_flag w ≡ false
  pub no_long : long_of w ≡ None
  pub no_short : short_of w ≡ None

no_names : (w : Text) → is_flag w ≡ false → (long_of w ≡ None) × (short_of w ≡ None)
no_names [] h = (refl, refl)
no_names (b ∷ []) h = go (b == 45)
  where
    go : (t : Bool) → (option_and_then long_of_rest (option_and_then (strip_byte 45) (cond t (Some []) None)) ≡ None) × (option_and_then short_of_rest (cond t (Some []) None) ≡ None)
    go true = (refl, refl)
    go false = (refl, refl)
no_names (b ∷ c ∷ t) h = (rw h refl, rw h refl)

-- ---- each word is of one kind

pub data Class (w : Text) : Type 0 where
  of_dashes : w ≡ dashes → Class w
  of_given : (k : Key) (v : Text) → w ≡ front_text k ++ v → Class w
  of_key : (k : Key) → w ≡ key_text k → Class w
  of_other : IsOther w → Class w
  of_plain : IsPlain w → Class w

pub class_of : (w : Text) → IsUtf8 w → Class w
class_of w u = go (bytes_eq w dashes) refl (option_of w) refl (key_of w) refl (is_flag w) refl
  where
    go : (d : Bool) → bytes_eq w dashes ≡ d → (o : Option (Key × Text)) → option_of w ≡ o → (k : Option Key) → key_of w ≡ k → (f : Bool) → is_flag w ≡ f → Class w
    go true d o p k q f r = of_dashes (bytes_are w dashes d)
    go false d (Some x) p k q f r = of_given x.0 x.1 (option_is w x.0 x.1 p)
    go false d None p (Some k) q f r = of_key k (key_is w k q)
    go false d None p None q true r = of_other (record { no_dashes = d; no_option = p; no_key = q; flag = r; utf8 = u })
    go false d None p None q false r =
        let n = no_names w r in
        of_plain (record { no_dashes = d; no_option = p; no_key = q; no_flag = r; no_long = n.0; no_short = n.1 })
