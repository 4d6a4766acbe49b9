-- What the definition makes of one word, and how what it has seen goes with the rows of `clap`.
use Rattle.std.proofs.Common.{◌≡◌, ◌∙◌, Bool, true, false, cond, List, [], ◌∷◌, ◌++◌, Option, Some, None, refl, ap}
use Rattle.std.specs.Str.{bytes_eq}
use Rattle.clap.specs.Walk.{Text}
use Rattle.pr_words.specs.Words.{Key, Seed, Size, Stop, Node, Seen, is_flag, next_seen, with_value}
use Rattle.pr_words.proofs.Arguments.{Slot, at_key, at_mode, name}
use Rattle.pr_words.proofs.Classes.{IsOther, IsPlain, key_at, option_at}
use Rattle.pr_words.proofs.Rows.{more_is, or_some, value_in}
use Rattle.pr_words.proofs.Turns.{dashes, front_text, key_text}

-- ---- one word

module _ (s : Seen) where
  pub closed_again : (w m : Text) → s.waiting ≡ None → s.closed ≡ true → s.mode ≡ Some m → next_seen s w ≡ None
  unfolding next_seen
  closed_again w m e c h = rw (e, c, h) refl

  pub closed_mode : (w : Text) → s.waiting ≡ None → s.closed ≡ true → s.mode ≡ None → next_seen s w ≡ Some (record s { mode = Some w })
  unfolding next_seen
  closed_mode w e c h = rw (e, c, h) refl

  pub seen_dashes : s.waiting ≡ None → s.closed ≡ false → next_seen s dashes ≡ Some (record s { closed = true })
  unfolding next_seen
  seen_dashes e c = rw (e, c) refl

  pub seen_given : (k : Key) (v : Text) → s.waiting ≡ None → s.closed ≡ false → next_seen s (front_text k ++ v) ≡ with_value s k v
  unfolding next_seen
  seen_given Seed v e c = rw (e, c, option_at Seed v) refl
  seen_given Size v e c = rw (e, c, option_at Size v) refl
  seen_given Stop v e c = rw (e, c, option_at Stop v) refl
  seen_given Node v e c = rw (e, c, option_at Node v) refl

  pub seen_key : (k : Key) → s.waiting ≡ None → s.closed ≡ false → next_seen s (key_text k) ≡ Some (record s { waiting = Some k })
  unfolding next_seen
  seen_key Seed e c = rw (e, c, (key_at Seed).0, (key_at Seed).1) refl
  seen_key Size e c = rw (e, c, (key_at Size).0, (key_at Size).1) refl
  seen_key Stop e c = rw (e, c, (key_at Stop).0, (key_at Stop).1) refl
  seen_key Node e c = rw (e, c, (key_at Node).0, (key_at Node).1) refl

  pub seen_other : (w : Text) → IsOther w → s.waiting ≡ None → s.closed ≡ false → next_seen s w ≡ None
  unfolding next_seen
  seen_other w o e c = rw (e, c, o.no_dashes, o.no_option, o.no_key, o.flag) refl

  pub seen_again : (w m : Text) → IsPlain w → s.waiting ≡ None → s.closed ≡ false → s.mode ≡ Some m → next_seen s w ≡ None
  unfolding next_seen
  seen_again w m o e c h = rw (e, c, o.no_dashes, o.no_option, o.no_key, o.no_flag, h) refl

  pub seen_mode : (w : Text) → IsPlain w → s.waiting ≡ None → s.closed ≡ false → s.mode ≡ None → next_seen s w ≡ Some (record s { mode = Some w })
  unfolding next_seen
  seen_mode w o e c h = rw (e, c, o.no_dashes, o.no_option, o.no_key, o.no_flag, h) refl

  pub value_flag : (k : Key) (w : Text) → s.waiting ≡ Some k → is_flag w ≡ true → next_seen s w ≡ None
  unfolding next_seen
  value_flag k w e f = rw (e, f) refl

  pub value_plain : (k : Key) (w : Text) → s.waiting ≡ Some k → is_flag w ≡ false → next_seen s w ≡ with_value s k w
  unfolding next_seen
  value_plain k w e f = rw (e, f) refl

-- ---- values

abbrev pub value_at : Seen → Slot → Option Text
value_at s at_mode = s.mode
value_at s (at_key Seed) = s.seed
value_at s (at_key Size) = s.size
value_at s (at_key Stop) = s.stop
value_at s (at_key Node) = s.node

-- the option with its value
abbrev pub put : Seen → Key → Text → Seen
put s Seed v = record s { seed = Some v; waiting = None }
put s Size v = record s { size = Some v; waiting = None }
put s Stop v = record s { stop = Some v; waiting = None }
put s Node v = record s { node = Some v; waiting = None }

pub given_again : (s : Seen) (k : Key) (v x : Text) → value_at s (at_key k) ≡ Some x → with_value s k v ≡ None
given_again s Seed v x h = rw h refl
given_again s Size v x h = rw h refl
given_again s Stop v x h = rw h refl
given_again s Node v x h = rw h refl

pub given_first : (s : Seen) (k : Key) (v : Text) → value_at s (at_key k) ≡ None → with_value s k v ≡ Some (put s k v)
given_first s Seed v h = rw h refl
given_first s Size v h = rw h refl
given_first s Stop v h = rw h refl
given_first s Node v h = rw h refl

pub put_waits : (s : Seen) (k : Key) (v : Text) → (put s k v).waiting ≡ None
put_waits s Seed v = refl
put_waits s Size v = refl
put_waits s Stop v = refl
put_waits s Node v = refl

pub put_closed : (s : Seen) (k : Key) (v : Text) → (put s k v).closed ≡ s.closed
put_closed s Seed v = refl
put_closed s Size v = refl
put_closed s Stop v = refl
put_closed s Node v = refl

pub put_mode : (s : Seen) (k : Key) (v : Text) → (put s k v).mode ≡ s.mode
put_mode s Seed v = refl
put_mode s Size v = refl
put_mode s Stop v = refl
put_mode s Node v = refl

-- the rows have the values that were seen
abbrev pub Tells : List (Slot × Text) → Seen → Type 0
Tells es s = (a : Slot) → value_in es a ≡ value_at s a

or_none : (o : Option Text) → or_some o None ≡ o
or_none None = refl
or_none (Some v) = refl

-- another argument's value stays
pub stays : (es : List (Slot × Text)) (a b : Slot) (v : Text) → bytes_eq (name a) (name b) ≡ false → value_in (es ++ (a, v) ∷ []) b ≡ value_in es b
stays es a b v d = more_is es a v b ∙ ap (λ (t : Bool). or_some (value_in es b) (cond t (Some v) None)) d ∙ or_none (value_in es b)

pub comes : (es : List (Slot × Text)) (a : Slot) (v : Text) → bytes_eq (name a) (name a) ≡ true → value_in es a ≡ None → value_in (es ++ (a, v) ∷ []) a ≡ Some v
comes es a v d n = more_is es a v a ∙ ap (λ (t : Bool). or_some (value_in es a) (cond t (Some v) None)) d ∙ ap (λ (o : Option Text). or_some o (Some v)) n

pub tells_mode : (es : List (Slot × Text)) (s : Seen) (w : Text) → Tells es s → s.mode ≡ None → Tells (es ++ (at_mode, w) ∷ []) (record s { mode = Some w })
tells_mode es s w t n at_mode = comes es at_mode w refl (t at_mode ∙ n)
tells_mode es s w t n (at_key Seed) = stays es at_mode (at_key Seed) w refl ∙ t (at_key Seed)
tells_mode es s w t n (at_key Size) = stays es at_mode (at_key Size) w refl ∙ t (at_key Size)
tells_mode es s w t n (at_key Stop) = stays es at_mode (at_key Stop) w refl ∙ t (at_key Stop)
tells_mode es s w t n (at_key Node) = stays es at_mode (at_key Node) w refl ∙ t (at_key Node)

pub tells_put : (es : List (Slot × Text)) (s : Seen) (k : Key) (v : Text) → Tells es s → value_at s (at_key k) ≡ None → Tells (es ++ (at_key k, v) ∷ []) (put s k v)
tells_put es s Seed v t n at_mode = stays es (at_key Seed) at_mode v refl ∙ t at_mode
tells_put es s Seed v t n (at_key Seed) = comes es (at_key Seed) v refl (t (at_key Seed) ∙ n)
tells_put es s Seed v t n (at_key Size) = stays es (at_key Seed) (at_key Size) v refl ∙ t (at_key Size)
tells_put es s Seed v t n (at_key Stop) = stays es (at_key Seed) (at_key Stop) v refl ∙ t (at_key Stop)
tells_put es s Seed v t n (at_key Node) = stays es (at_key Seed) (at_key Node) v refl ∙ t (at_key Node)
tells_put es s Size v t n at_mode = stays es (at_key Size) at_mode v refl ∙ t at_mode
tells_put es s Size v t n (at_key Seed) = stays es (at_key Size) (at_key Seed) v refl ∙ t (at_key Seed)
tells_put es s Size v t n (at_key Size) = comes es (at_key Size) v refl (t (at_key Size) ∙ n)
tells_put es s Size v t n (at_key Stop) = stays es (at_key Size) (at_key Stop) v refl ∙ t (at_key Stop)
tells_put es s Size v t n (at_key Node) = stays es (at_key Size) (at_key Node) v refl ∙ t (at_key Node)
tells_put es s Stop v t n at_mode = stays es (at_key Stop) at_mode v refl ∙ t at_mode
tells_put es s Stop v t n (at_key Seed) = stays es (at_key Stop) (at_key Seed) v refl ∙ t (at_key Seed)
tells_put es s Stop v t n (at_key Size) = stays es (at_key Stop) (at_key Size) v refl ∙ t (at_key Size)
tells_put es s Stop v t n (at_key Stop) = comes es (at_key Stop) v refl (t (at_key Stop) ∙ n)
tells_put es s Stop v t n (at_key Node) = stays es (at_key Stop) (at_key Node) v refl ∙ t (at_key Node)
tells_put es s Node v t n at_mode = stays es (at_key Node) at_mode v refl ∙ t at_mode
tells_put es s Node v t n (at_key Seed) = stays es (at_key Node) (at_key Seed) v refl ∙ t (at_key Seed)
tells_put es s Node v t n (at_key Size) = stays es (at_key Node) (at_key Size) v refl ∙ t (at_key Size)
tells_put es s Node v t n (at_key Stop) = stays es (at_key Node) (at_key Stop) v refl ∙ t (at_key Stop)
tells_put es s Node v t n (at_key Node) = comes es (at_key Node) v refl (t (at_key Node) ∙ n)

pub tells_closed : (es : List (Slot × Text)) (s : Seen) → Tells es s → Tells es (record s { closed = true })
tells_closed es s t at_mode = t at_mode
tells_closed es s t (at_key Seed) = t (at_key Seed)
tells_closed es s t (at_key Size) = t (at_key Size)
tells_closed es s t (at_key Stop) = t (at_key Stop)
tells_closed es s t (at_key Node) = t (at_key Node)

pub tells_waiting : (es : List (Slot × Text)) (s : Seen) (k : Key) → Tells es s → Tells es (record s { waiting = Some k })
tells_waiting es s k t at_mode = t at_mode
tells_waiting es s k t (at_key Seed) = t (at_key Seed)
tells_waiting es s k t (at_key Size) = t (at_key Size)
tells_waiting es s k t (at_key Stop) = t (at_key Stop)
tells_waiting es s k t (at_key Node) = t (at_key Node)

pub front_flag : (k : Key) (v : Text) → is_flag (front_text k ++ v) ≡ true
front_flag Seed v = refl
front_flag Size v = refl
front_flag Stop v = refl
front_flag Node v = refl

pub key_flag : (k : Key) → is_flag (key_text k) ≡ true
key_flag Seed = refl
key_flag Size = refl
key_flag Stop = refl
key_flag Node = refl
