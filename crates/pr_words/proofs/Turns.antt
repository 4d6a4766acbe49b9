-- What `clap` makes of one word.
use Rattle.std.proofs.Common.{◌≡◌, ℕ, Bool, true, false, cond, ◌&&◌, List, [], ◌∷◌, ◌++◌, Option, Some, None, refl, ap}
use Rattle.std.specs.Prelude.{codes}
use Rattle.std.specs.Str.{bytes_eq}
use Rattle.clap.specs.Lexer.{long_of, short_of}
use Rattle.clap.specs.Faults.{settle_fault, step_fault, turn_fault, use_fault}
use Rattle.clap.specs.Kinds.{Kinds, or_else}
use Rattle.clap.specs.Walk.{Held, Row, Text, Waiting, Walk, idle, option, is_pending, pushed, settled, settled_rows, to_positional, used, value, walked}
use Rattle.clap.specs.declared.error.kind.ErrorKind.TheVariants as kind
use Rattle.pr_words.specs.Words.{Key, Seed, Size, Stop, Node}
use Rattle.pr_words.proofs.Arguments.{at_key, at_mode, key_name, name, rule, rules, shape}

-- ---- where the walk stands

abbrev pub held : List Row → Option (Text × List Text) → Held
held rs p = record { rows = rs; pending = p; skip = 0 }

-- the place of the next positional, where the mode was met or not
abbrev pub place : Option Text → ℕ
place None = 1
place (Some m) = 2

abbrev pub at : List Row → Option (Text × List Text) → Waiting → ℕ → Bool → Walk
at rs p w n closed = record { held = held rs p; waiting = w; position = n; is_trailing = closed; stopped = None }

-- what is said when the argument that is under way is settled, and the rows then
abbrev pub settle : List Row → Option (Text × List Text) → Kinds
settle rs p = settle_fault rules false (held rs p)

abbrev pub settled_to : List Row → Option (Text × List Text) → List Row
settled_to rs p = settled_rows rules p rs

-- ---- the words that are options

abbrev pub dashes : Text
dashes = codes "--"

abbrev pub key_text : Key → Text
key_text Seed = codes "--seed"
key_text Size = codes "--size"
key_text Stop = codes "--stop"
key_text Node = codes "--node"

abbrev pub front_text : Key → Text
front_text Seed = codes "--seed="
front_text Size = codes "--size="
front_text Stop = codes "--stop="
front_text Node = codes "--node="

module _ (rs : List Row) (p : Option (Text × List Text)) (n : ℕ) where
  pub dashes_turn : turn_fault shape [] (at rs p idle n false) dashes ≡ []
  dashes_turn = refl

  pub dashes_waits : (id : Text) → turn_fault shape [] (at rs p (option id) n false) dashes ≡ []
  dashes_waits id = refl

  pub dashes_walk : walked rules [] (at rs p idle n false) dashes ≡ at rs p idle n true
  unfolding walked
  dashes_walk = refl

  pub dashes_walk_waits : (id : Text) → walked rules [] (at rs p (option id) n false) dashes ≡ at rs p (option id) n true
  unfolding walked
  dashes_walk_waits id = refl

  pub given_turn : (k : Key) (v : Text) → turn_fault shape [] (at rs p idle n false) (front_text k ++ v)
      ≡ or_else (or_else (settle rs p) (use_fault false (rule (at_key k)) (v ∷ []) (settled_to rs p))) []
  unfolding rule
  given_turn Seed v = refl
  given_turn Size v = refl
  given_turn Stop v = refl
  given_turn Node v = refl

  pub given_waits : (id : Text) (k : Key) (v : Text) → turn_fault shape [] (at rs p (option id) n false) (front_text k ++ v)
      ≡ or_else (or_else (settle rs p) (use_fault false (rule (at_key k)) (v ∷ []) (settled_to rs p))) []
  unfolding rule
  given_waits id Seed v = refl
  given_waits id Size v = refl
  given_waits id Stop v = refl
  given_waits id Node v = refl

  pub given_walk : (k : Key) (v : Text) → walked rules [] (at rs p idle n false) (front_text k ++ v)
      ≡ at (used (rule (at_key k)) (v ∷ []) (settled_to rs p)) None idle n false
  unfolding walked rule
  given_walk Seed v = refl
  given_walk Size v = refl
  given_walk Stop v = refl
  given_walk Node v = refl

  pub key_turn : (k : Key) → turn_fault shape [] (at rs p idle n false) (key_text k) ≡ or_else (settle rs p) []
  unfolding rule
  key_turn Seed = refl
  key_turn Size = refl
  key_turn Stop = refl
  key_turn Node = refl

  pub key_waits : (id : Text) (k : Key) → turn_fault shape [] (at rs p (option id) n false) (key_text k) ≡ or_else (settle rs p) []
  unfolding rule
  key_waits id Seed = refl
  key_waits id Size = refl
  key_waits id Stop = refl
  key_waits id Node = refl

  pub key_walk : (k : Key) → walked rules [] (at rs p idle n false) (key_text k) ≡ at (settled_to rs p) (Some (key_name k, [])) (option (key_name k)) n false
  unfolding walked rule
  key_walk Seed = refl
  key_walk Size = refl
  key_walk Stop = refl
  key_walk Node = refl

  -- ---- the other words

  pub closed_turn : (w : Waiting) (word : Text) → turn_fault shape [] (at rs p w n true) word ≡ step_fault shape n (held rs p) value
  closed_turn w word = refl

  pub plain_turn : (word : Text) → bytes_eq word dashes ≡ false → long_of word ≡ None → short_of word ≡ None
      → turn_fault shape [] (at rs p idle n false) word ≡ step_fault shape n (held rs p) value
  plain_turn word d l s = rw (d, l, s) refl

never : {X : Type 0} (t : Bool) (x y : X) → cond (t && false) x y ≡ y
never true x y = refl
never false x y = refl

module _ (rs : List Row) (p : Option (Text × List Text)) where
  -- a word for the mode settles what is under way
  pub step_first : step_fault shape 1 (held rs p) value ≡ settle rs p
  unfolding rule
  step_first = never (is_pending (rule at_mode) p) [] (settle rs p)

  -- and no second one is taken
  pub step_second : step_fault shape 2 (held rs p) value ≡ kind.UnknownArgument ∷ []
  unfolding rule
  step_second = refl

  to_first : (w : Waiting) (word : Text) (closed : Bool)
      → to_positional rules (Some (rule at_mode)) word (at rs p w 1 closed) (held rs p) ≡ at (settled_to rs p) (Some (name at_mode, word ∷ [])) idle 2 closed
  unfolding rule
  to_first w word true =
      let f : Held → Walk = λ h. record { held = pushed (codes "mode") word h; waiting = idle; position = 2; is_trailing = true; stopped = None } in
      ap f (never (is_pending (rule at_mode) p) (held rs p) (settled rules (held rs p)))
  to_first w word false =
      let f : Held → Walk = λ h. record { held = pushed (codes "mode") word h; waiting = idle; position = 2; is_trailing = false; stopped = None } in
      ap f (never (is_pending (rule at_mode) p) (held rs p) (settled rules (held rs p)))

  pub closed_walk : (w : Waiting) (word : Text) → walked rules [] (at rs p w 1 true) word ≡ at (settled_to rs p) (Some (name at_mode, word ∷ [])) idle 2 true
  unfolding walked rule
  closed_walk w word = to_first w word true

  pub plain_walk : (word : Text) → bytes_eq word dashes ≡ false → long_of word ≡ None → short_of word ≡ None
      → walked rules [] (at rs p idle 1 false) word ≡ at (settled_to rs p) (Some (name at_mode, word ∷ [])) idle 2 false
  unfolding walked rule
  plain_walk word d l s = rw (d, l, s) (to_first idle word false)

-- the word is the value of the option before it
pub value_turn : (rs : List Row) (n : ℕ) (k : Key) (word : Text) → bytes_eq word dashes ≡ false → long_of word ≡ None → short_of word ≡ None
    → turn_fault shape [] (at rs (Some (key_name k, [])) (option (key_name k)) n false) word ≡ []
unfolding rule
value_turn rs n Seed word d l s = rw (d, l, s) refl
value_turn rs n Size word d l s = rw (d, l, s) refl
value_turn rs n Stop word d l s = rw (d, l, s) refl
value_turn rs n Node word d l s = rw (d, l, s) refl

pub value_walk : (rs : List Row) (n : ℕ) (k : Key) (word : Text) → bytes_eq word dashes ≡ false → long_of word ≡ None → short_of word ≡ None
    → walked rules [] (at rs (Some (key_name k, [])) (option (key_name k)) n false) word ≡ at rs (Some (key_name k, word ∷ [])) idle n false
unfolding walked rule
value_walk rs n Seed word d l s = rw (d, l, s) refl
value_walk rs n Size word d l s = rw (d, l, s) refl
value_walk rs n Stop word d l s = rw (d, l, s) refl
value_walk rs n Node word d l s = rw (d, l, s) refl
