-- Word for word, `clap` and the definition come to the same job.
use Rattle.std.proofs.Common.{◌≡◌, ◌∙◌, ℕ, Bool, true, false, cond, ◌&&◌, List, [], ◌∷◌, ◌++◌, map, Option, Some, None, refl, sym, ap, subst}
use Rattle.std.specs.Prelude.{IsUtf8, is_some}
use Rattle.std.specs.List.{AllByRecursion}
use Rattle.clap.specs.Faults.{step_fault, turn_fault, use_fault}
use Rattle.clap.specs.Kinds.{Kinds, or_else}
use Rattle.clap.specs.Walk.{Row, Text, Waiting, Walk, has_row, idle, option, used, value, walked}
use Rattle.clap.specs.declared.error.kind.ErrorKind.{ErrorKind}
use Rattle.clap.specs.declared.error.kind.ErrorKind.TheVariants as kind
use Rattle.pr_words.specs.declared.job.Job.{Job}
use Rattle.pr_words.specs.Words.{Key, Seed, Size, Stop, Node, Seen, all_seen, finished}
use Rattle.pr_words.proofs.Arguments.{Slot, at_key, at_mode, key_name, name, rule, rules, shape}
use Rattle.pr_words.proofs.Rows.{has_is, row, used_is, value_in}
use Rattle.pr_words.proofs.Turns.{at, closed_turn, closed_walk, dashes, dashes_turn, dashes_waits, dashes_walk, dashes_walk_waits, front_text, given_turn, given_waits, given_walk, held, key_text, key_turn, key_waits, key_walk, place, plain_turn, plain_walk, settle, settled_to, step_first, step_second, value_turn, value_walk}
use Rattle.pr_words.proofs.Classes.{Class, IsPlain, of_dashes, of_given, of_key, of_other, of_plain, class_of, other_turn}
use Rattle.pr_words.proofs.Readings.{Tells, closed_again, closed_mode, given_again, given_first, put, put_closed, put_mode, put_waits, seen_again, seen_dashes, seen_given, seen_key, seen_mode, seen_other, key_flag, front_flag, tells_closed, tells_mode, tells_put, tells_waiting, value_at, value_flag, value_plain}
use Rattle.pr_words.proofs.Ends.{Ready, answer, asked_of, end_answer, unless}

-- ---- an argument that was used

use_is : (a : Slot) (v : Text) (rs : List Row) → use_fault false (rule a) (v ∷ []) rs ≡ or_else (cond (has_row (name a) rs && true) (kind.ArgumentConflict ∷ []) []) []
unfolding rule
use_is at_mode v rs = refl
use_is (at_key k) v rs = refl

use_said : (es : List (Slot × Text)) (a : Slot) (v : Text) (o : Option Text) → value_in es a ≡ o
    → use_fault false (rule a) (v ∷ []) (map row es) ≡ cond (is_some o) (kind.ArgumentConflict ∷ []) []
use_said es a v o h =
    use_is a v (map row es)
    ∙ ap (λ (t : Bool). or_else (cond (t && true) (kind.ArgumentConflict ∷ []) []) []) (has_is es a ∙ ap is_some h)
    ∙ go o
  where
    go : (o : Option Text) → or_else (cond (is_some o && true) (kind.ArgumentConflict ∷ []) []) [] ≡ cond (is_some o) (kind.ArgumentConflict ∷ []) []
    go None = refl
    go (Some x) = refl

settle_one : (a : Slot) (v : Text) (rs : List Row) → settle rs (Some (name a, v ∷ [])) ≡ use_fault false (rule a) (v ∷ []) rs
unfolding rule
settle_one at_mode v rs = refl
settle_one (at_key Seed) v rs = refl
settle_one (at_key Size) v rs = refl
settle_one (at_key Stop) v rs = refl
settle_one (at_key Node) v rs = refl

settle_rows : (a : Slot) (v : Text) (rs : List Row) → settled_to rs (Some (name a, v ∷ [])) ≡ used (rule a) (v ∷ []) rs
unfolding rule
settle_rows at_mode v rs = refl
settle_rows (at_key Seed) v rs = refl
settle_rows (at_key Size) v rs = refl
settle_rows (at_key Stop) v rs = refl
settle_rows (at_key Node) v rs = refl

settle_none : (k : Key) (rs : List Row) → settle rs (Some (key_name k, [])) ≡ kind.InvalidValue ∷ []
unfolding rule
settle_none Seed rs = refl
settle_none Size rs = refl
settle_none Stop rs = refl
settle_none Node rs = refl

pub ready_at : (es : List (Slot × Text)) → Ready (map row es) None es
ready_at es = record { fault = refl; rows = refl }

ready_with : (es : List (Slot × Text)) (a : Slot) (v : Text) → value_in es a ≡ None → Ready (map row es) (Some (name a, v ∷ [])) (es ++ (a, v) ∷ [])
ready_with es a v n = record {
  fault = settle_one a v (map row es) ∙ use_said es a v None n;
  rows = settle_rows a v (map row es) ∙ used_is es a v n;
}

-- ---- one word

refused : (w : Walk) (word : Text) (words : List Text) (l : ErrorKind) (ls : Kinds) → turn_fault shape [] w word ≡ l ∷ ls → answer w (word ∷ words) ≡ None
unfolding answer
refused w word words l ls h = ap (λ (x : Kinds). unless x (answer (walked rules [] w word) words)) h

goes : (w v : Walk) (word : Text) (words : List Text) → turn_fault shape [] w word ≡ [] → walked rules [] w word ≡ v → answer w (word ∷ words) ≡ answer v words
unfolding answer
goes w v word words h e = ap (λ (x : Kinds). unless x (answer (walked rules [] w word) words)) h ∙ ap (λ (x : Walk). answer x words) e

abbrev AreUtf8 : List Text → Type 0
AreUtf8 words = AllByRecursion IsUtf8 words

-- ---- a fault that is to come

module _ (rs : List Row) (p : Option (Text × List Text)) (k : ErrorKind) (ks : Kinds) (bad : settle rs p ≡ k ∷ ks) where
  bad_step : (o : Option Text) → (l : ErrorKind) × (ls : Kinds) × (step_fault shape (place o) (held rs p) value ≡ l ∷ ls)
  bad_step None = (k, ks, step_first rs p ∙ bad)
  bad_step (Some m) = (kind.UnknownArgument, [], step_second rs p)

  bad_end : (w : Waiting) (n : ℕ) (closed : Bool) → answer (at rs p w n closed) [] ≡ None
  unfolding answer
  bad_end w n closed = rw bad refl

  bad_closed : (words : List Text) (w : Waiting) (o : Option Text) → answer (at rs p w (place o) true) words ≡ None
  bad_closed [] w o = bad_end w (place o) true
  bad_closed (word ∷ words) w o =
      let b = bad_step o in
      refused (at rs p w (place o) true) word words b.0 b.1 (closed_turn rs p (place o) w word ∙ b.2)

  bad_word : (word : Text) (words : List Text) (o : Option Text) → Class word → answer (at rs p idle (place o) false) (word ∷ words) ≡ None
  bad_word word words o (of_dashes e) =
      subst (λ (y : Text). answer (at rs p idle (place o) false) (y ∷ words) ≡ None) (sym e)
      (goes (at rs p idle (place o) false) (at rs p idle (place o) true) dashes words (dashes_turn rs p (place o)) (dashes_walk rs p (place o)) ∙ bad_closed words idle o)
  bad_word word words o (of_given l v e) =
      let later : Kinds = use_fault false (rule (at_key l)) (v ∷ []) (settled_to rs p) in
      let h : turn_fault shape [] (at rs p idle (place o) false) (front_text l ++ v) ≡ k ∷ ks = given_turn rs p (place o) l v ∙ ap (λ (x : Kinds). or_else (or_else x later) []) bad in
      subst (λ (y : Text). answer (at rs p idle (place o) false) (y ∷ words) ≡ None) (sym e) (refused (at rs p idle (place o) false) (front_text l ++ v) words k ks h)
  bad_word word words o (of_key l e) =
      let h : turn_fault shape [] (at rs p idle (place o) false) (key_text l) ≡ k ∷ ks = key_turn rs p (place o) l ∙ ap (λ (x : Kinds). or_else x []) bad in
      subst (λ (y : Text). answer (at rs p idle (place o) false) (y ∷ words) ≡ None) (sym e) (refused (at rs p idle (place o) false) (key_text l) words k ks h)
  bad_word word words o (of_other x) = refused (at rs p idle (place o) false) word words kind.UnknownArgument [] (other_turn rs p (place o) [] word x).0
  bad_word word words o (of_plain x) =
      let b = bad_step o in
      refused (at rs p idle (place o) false) word words b.0 b.1 (plain_turn rs p (place o) word x.no_dashes x.no_long x.no_short ∙ b.2)

  bad_open : (words : List Text) (o : Option Text) → AreUtf8 words → answer (at rs p idle (place o) false) words ≡ None
  bad_open [] o u = bad_end idle (place o) false
  bad_open (word ∷ words) o u = bad_word word words o (class_of word u.0)

-- ---- the words behind `--`

told : (es : List (Slot × Text)) (s : Seen) → Tells es s → s.waiting ≡ None → asked_of es ≡ finished (all_seen (Some s) [])
unfolding asked_of
told es s t w = rw (t at_mode, t (at_key Seed), t (at_key Size), t (at_key Stop), t (at_key Node), w) refl

abbrev rest_of : List Text → Option Seen → Option Job
rest_of words seen = finished (all_seen seen words)

closed_words : (words : List Text) (rs : List Row) (p : Option (Text × List Text)) (es : List (Slot × Text)) (s : Seen) (o : Option Text)
    → Ready rs p es → Tells es s → s.waiting ≡ None → s.closed ≡ true → s.mode ≡ o → answer (at rs p idle (place o) true) words ≡ finished (all_seen (Some s) words)
closed_words [] rs p es s o r t w c e = end_answer rs p es idle (place o) true r ∙ told es s t w
closed_words (word ∷ words) rs p es s (Some m) r t w c e =
    refused (at rs p idle 2 true) word words kind.UnknownArgument [] (closed_turn rs p 2 idle word ∙ step_second rs p)
    ∙ sym (ap (rest_of words) (closed_again s word m w c e))
closed_words (word ∷ words) rs p es s None r t w c e =
    goes (at rs p idle 1 true) (at (settled_to rs p) (Some (name at_mode, word ∷ [])) idle 2 true) word words
    (closed_turn rs p 1 idle word ∙ step_first rs p ∙ r.fault) (closed_walk rs p idle word)
    ∙ ap (λ (x : List Row). answer (at x (Some (name at_mode, word ∷ [])) idle 2 true) words) r.rows
    ∙ closed_words words (map row es) (Some (name at_mode, word ∷ [])) (es ++ (at_mode, word) ∷ []) (record s { mode = Some word }) (Some word)
    (ready_with es at_mode word (t at_mode ∙ e)) (tells_mode es s word t e) w c refl
    ∙ sym (ap (rest_of words) (closed_mode s word w c e))

-- ---- all the words

-- where no option waits for its value
abbrev pub Opens : List Text → Type 0
Opens words =
    (rs : List Row) (p : Option (Text × List Text)) (es : List (Slot × Text)) (s : Seen) (o : Option Text)
    → Ready rs p es → Tells es s → s.waiting ≡ None → s.closed ≡ false → s.mode ≡ o → answer (at rs p idle (place o) false) words ≡ finished (all_seen (Some s) words)

-- where an option does
abbrev pub Waits : List Text → Type 0
Waits words =
    (k : Key) (es : List (Slot × Text)) (s : Seen) (o : Option Text) → Tells es s → s.waiting ≡ Some k → s.closed ≡ false → s.mode ≡ o
    → answer (at (map row es) (Some (key_name k, [])) (option (key_name k)) (place o) false) words ≡ finished (all_seen (Some s) words)

open_end : Opens []
open_end rs p es s o r t w c e = end_answer rs p es idle (place o) false r ∙ told es s t w

waits_end : Waits []
waits_end k es s o t w c e =
    let none : finished (all_seen (Some s) []) ≡ None = rw w refl in
    bad_end (map row es) (Some (key_name k, [])) kind.InvalidValue [] (settle_none k (map row es)) (option (key_name k)) (place o) false ∙ sym none

module _ (words : List Text) (opens : Opens words) (waits : Waits words) (u : AreUtf8 words) where
  -- an option with its value
  given_step : (k : Key) (v : Text) (rs : List Row) (p : Option (Text × List Text)) (es : List (Slot × Text)) (s : Seen) (o x : Option Text)
      → Ready rs p es → Tells es s → s.waiting ≡ None → s.closed ≡ false → s.mode ≡ o → value_at s (at_key k) ≡ x
      → answer (at rs p idle (place o) false) ((front_text k ++ v) ∷ words) ≡ finished (all_seen (Some s) ((front_text k ++ v) ∷ words))
  given_step k v rs p es s o (Some x) r t w c e h =
      let later : use_fault false (rule (at_key k)) (v ∷ []) (settled_to rs p) ≡ kind.ArgumentConflict ∷ [] =
      ap (λ (y : List Row). use_fault false (rule (at_key k)) (v ∷ []) y) r.rows ∙ use_said es (at_key k) v (Some x) (t (at_key k) ∙ h) in
      let turn : turn_fault shape [] (at rs p idle (place o) false) (front_text k ++ v) ≡ kind.ArgumentConflict ∷ [] =
      given_turn rs p (place o) k v ∙ rw (r.fault, later) refl in
      refused (at rs p idle (place o) false) (front_text k ++ v) words kind.ArgumentConflict [] turn
      ∙ sym (ap (rest_of words) (seen_given s k v w c ∙ given_again s k v x h))
  given_step k v rs p es s o None r t w c e h =
      let n : value_in es (at_key k) ≡ None = t (at_key k) ∙ h in
      let later : use_fault false (rule (at_key k)) (v ∷ []) (settled_to rs p) ≡ [] =
      ap (λ (y : List Row). use_fault false (rule (at_key k)) (v ∷ []) y) r.rows ∙ use_said es (at_key k) v None n in
      let turn : turn_fault shape [] (at rs p idle (place o) false) (front_text k ++ v) ≡ [] = given_turn rs p (place o) k v ∙ rw (r.fault, later) refl in
      let used_rows : used (rule (at_key k)) (v ∷ []) (settled_to rs p) ≡ map row (es ++ (at_key k, v) ∷ []) =
      ap (λ (y : List Row). used (rule (at_key k)) (v ∷ []) y) r.rows ∙ used_is es (at_key k) v n in
      let next_rows : List Row = map row (es ++ (at_key k, v) ∷ []) in
      goes (at rs p idle (place o) false) (at (used (rule (at_key k)) (v ∷ []) (settled_to rs p)) None idle (place o) false) (front_text k ++ v) words turn (given_walk rs p (place o) k v)
      ∙ ap (λ (y : List Row). answer (at y None idle (place o) false) words) used_rows
      ∙ opens (map row (es ++ (at_key k, v) ∷ [])) None (es ++ (at_key k, v) ∷ []) (put s k v) o
      (ready_at (es ++ (at_key k, v) ∷ [])) (tells_put es s k v t h) (put_waits s k v) (put_closed s k v ∙ c) (put_mode s k v ∙ e)
      ∙ sym (ap (rest_of words) (seen_given s k v w c ∙ given_first s k v h))

  -- a word that may be the mode
  plain_step : (word : Text) → IsPlain word → (rs : List Row) (p : Option (Text × List Text)) (es : List (Slot × Text)) (s : Seen) (o : Option Text)
      → Ready rs p es → Tells es s → s.waiting ≡ None → s.closed ≡ false → s.mode ≡ o
      → answer (at rs p idle (place o) false) (word ∷ words) ≡ finished (all_seen (Some s) (word ∷ words))
  plain_step word x rs p es s (Some m) r t w c e =
      refused (at rs p idle 2 false) word words kind.UnknownArgument [] (plain_turn rs p 2 word x.no_dashes x.no_long x.no_short ∙ step_second rs p)
      ∙ sym (ap (rest_of words) (seen_again s word m x w c e))
  plain_step word x rs p es s None r t w c e =
      goes (at rs p idle 1 false) (at (settled_to rs p) (Some (name at_mode, word ∷ [])) idle 2 false) word words
      (plain_turn rs p 1 word x.no_dashes x.no_long x.no_short ∙ step_first rs p ∙ r.fault) (plain_walk rs p word x.no_dashes x.no_long x.no_short)
      ∙ ap (λ (y : List Row). answer (at y (Some (name at_mode, word ∷ [])) idle 2 false) words) r.rows
      ∙ opens (map row es) (Some (name at_mode, word ∷ [])) (es ++ (at_mode, word) ∷ []) (record s { mode = Some word }) (Some word)
      (ready_with es at_mode word (t at_mode ∙ e)) (tells_mode es s word t e) w c refl
      ∙ sym (ap (rest_of words) (seen_mode s word x w c e))

  open_step : (word : Text) → Class word → Opens (word ∷ words)
  open_step word (of_dashes d) rs p es s o r t w c e =
      subst (λ (y : Text). answer (at rs p idle (place o) false) (y ∷ words) ≡ finished (all_seen (Some s) (y ∷ words))) (sym d)
      (goes (at rs p idle (place o) false) (at rs p idle (place o) true) dashes words (dashes_turn rs p (place o)) (dashes_walk rs p (place o))
      ∙ closed_words words rs p es (record s { closed = true }) o r (tells_closed es s t) w refl e
      ∙ sym (ap (rest_of words) (seen_dashes s w c)))
  open_step word (of_given k v d) rs p es s o r t w c e =
      subst (λ (y : Text). answer (at rs p idle (place o) false) (y ∷ words) ≡ finished (all_seen (Some s) (y ∷ words))) (sym d)
      (given_step k v rs p es s o (value_at s (at_key k)) r t w c e refl)
  open_step word (of_key k d) rs p es s o r t w c e =
      let turn : turn_fault shape [] (at rs p idle (place o) false) (key_text k) ≡ [] = key_turn rs p (place o) k ∙ ap (λ (x : Kinds). or_else x []) r.fault in
      subst (λ (y : Text). answer (at rs p idle (place o) false) (y ∷ words) ≡ finished (all_seen (Some s) (y ∷ words))) (sym d)
      (goes (at rs p idle (place o) false) (at (settled_to rs p) (Some (key_name k, [])) (option (key_name k)) (place o) false) (key_text k) words turn (key_walk rs p (place o) k)
      ∙ ap (λ (y : List Row). answer (at y (Some (key_name k, [])) (option (key_name k)) (place o) false) words) r.rows
      ∙ waits k es (record s { waiting = Some k }) o (tells_waiting es s k t) refl c e
      ∙ sym (ap (rest_of words) (seen_key s k w c)))
  open_step word (of_other x) rs p es s o r t w c e =
      refused (at rs p idle (place o) false) word words kind.UnknownArgument [] (other_turn rs p (place o) [] word x).0
      ∙ sym (ap (rest_of words) (seen_other s word x w c))
  open_step word (of_plain x) rs p es s o r t w c e = plain_step word x rs p es s o r t w c e

  -- an option's value
  value_step : (word : Text) → IsPlain word → (k : Key) (es : List (Slot × Text)) (s : Seen) (o x : Option Text)
      → Tells es s → s.waiting ≡ Some k → s.closed ≡ false → s.mode ≡ o → value_at s (at_key k) ≡ x
      → answer (at (map row es) (Some (key_name k, [])) (option (key_name k)) (place o) false) (word ∷ words) ≡ finished (all_seen (Some s) (word ∷ words))
  value_step word x k es s o (Some y) t w c e h =
      goes (at (map row es) (Some (key_name k, [])) (option (key_name k)) (place o) false) (at (map row es) (Some (key_name k, word ∷ [])) idle (place o) false) word words
      (value_turn (map row es) (place o) k word x.no_dashes x.no_long x.no_short) (value_walk (map row es) (place o) k word x.no_dashes x.no_long x.no_short)
      ∙ bad_open (map row es) (Some (key_name k, word ∷ [])) kind.ArgumentConflict []
      (settle_one (at_key k) word (map row es) ∙ use_said es (at_key k) word (Some y) (t (at_key k) ∙ h)) words o u
      ∙ sym (ap (rest_of words) (value_plain s k word w x.no_flag ∙ given_again s k word y h))
  value_step word x k es s o None t w c e h =
      goes (at (map row es) (Some (key_name k, [])) (option (key_name k)) (place o) false) (at (map row es) (Some (key_name k, word ∷ [])) idle (place o) false) word words
      (value_turn (map row es) (place o) k word x.no_dashes x.no_long x.no_short) (value_walk (map row es) (place o) k word x.no_dashes x.no_long x.no_short)
      ∙ opens (map row es) (Some (key_name k, word ∷ [])) (es ++ (at_key k, word) ∷ []) (put s k word) o
      (ready_with es (at_key k) word (t (at_key k) ∙ h)) (tells_put es s k word t h) (put_waits s k word) (put_closed s k word ∙ c) (put_mode s k word ∙ e)
      ∙ sym (ap (rest_of words) (value_plain s k word w x.no_flag ∙ given_first s k word h))

  waits_step : (word : Text) → Class word → Waits (word ∷ words)
  waits_step word (of_dashes d) k es s o t w c e =
      subst (λ (y : Text). answer (at (map row es) (Some (key_name k, [])) (option (key_name k)) (place o) false) (y ∷ words) ≡ finished (all_seen (Some s) (y ∷ words))) (sym d)
      (goes (at (map row es) (Some (key_name k, [])) (option (key_name k)) (place o) false) (at (map row es) (Some (key_name k, [])) (option (key_name k)) (place o) true) dashes words
      (dashes_waits (map row es) (Some (key_name k, [])) (place o) (key_name k)) (dashes_walk_waits (map row es) (Some (key_name k, [])) (place o) (key_name k))
      ∙ bad_closed (map row es) (Some (key_name k, [])) kind.InvalidValue [] (settle_none k (map row es)) words (option (key_name k)) o
      ∙ sym (ap (rest_of words) (value_flag s k dashes w refl)))
  waits_step word (of_given l v d) k es s o t w c e =
      let later : Kinds = use_fault false (rule (at_key l)) (v ∷ []) (settled_to (map row es) (Some (key_name k, []))) in
      let turn : turn_fault shape [] (at (map row es) (Some (key_name k, [])) (option (key_name k)) (place o) false) (front_text l ++ v) ≡ kind.InvalidValue ∷ [] =
      given_waits (map row es) (Some (key_name k, [])) (place o) (key_name k) l v ∙ ap (λ (x : Kinds). or_else (or_else x later) []) (settle_none k (map row es)) in
      subst (λ (y : Text). answer (at (map row es) (Some (key_name k, [])) (option (key_name k)) (place o) false) (y ∷ words) ≡ finished (all_seen (Some s) (y ∷ words))) (sym d)
      (refused (at (map row es) (Some (key_name k, [])) (option (key_name k)) (place o) false) (front_text l ++ v) words kind.InvalidValue [] turn
      ∙ sym (ap (rest_of words) (value_flag s k (front_text l ++ v) w (front_flag l v))))
  waits_step word (of_key l d) k es s o t w c e =
      let turn : turn_fault shape [] (at (map row es) (Some (key_name k, [])) (option (key_name k)) (place o) false) (key_text l) ≡ kind.InvalidValue ∷ [] =
      key_waits (map row es) (Some (key_name k, [])) (place o) (key_name k) l ∙ ap (λ (x : Kinds). or_else x []) (settle_none k (map row es)) in
      subst (λ (y : Text). answer (at (map row es) (Some (key_name k, [])) (option (key_name k)) (place o) false) (y ∷ words) ≡ finished (all_seen (Some s) (y ∷ words))) (sym d)
      (refused (at (map row es) (Some (key_name k, [])) (option (key_name k)) (place o) false) (key_text l) words kind.InvalidValue [] turn
      ∙ sym (ap (rest_of words) (value_flag s k (key_text l) w (key_flag l))))
  waits_step word (of_other x) k es s o t w c e =
      refused (at (map row es) (Some (key_name k, [])) (option (key_name k)) (place o) false) word words kind.UnknownArgument []
      (other_turn (map row es) (Some (key_name k, [])) (place o) (key_name k) word x).1
      ∙ sym (ap (rest_of words) (value_flag s k word w x.flag))
  waits_step word (of_plain x) k es s o t w c e = value_step word x k es s o (value_at s (at_key k)) t w c e refl

pub all_words : (words : List Text) → AreUtf8 words → Opens words × Waits words
all_words [] u = (open_end, waits_end)
all_words (word ∷ words) u =
    let rest = all_words words u.1 in
    let c = class_of word u.0 in
    (open_step words rest.0 rest.1 u.1 word c, waits_step words rest.0 rest.1 u.1 word c)
