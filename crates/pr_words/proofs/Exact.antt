-- What `clap` answers to all the words is what the definition says.
use Rattle.std.proofs.Common.{◌≡◌, ◌∙◌, ℕ, Bool, true, false, cond, List, [], ◌∷◌, Option, Some, None, refl, sym, ap}
use Rattle.std.specs.Prelude.{IsUtf8, fold}
use Rattle.std.specs.List.{AllByRecursion}
use Rattle.std.specs.Str.{bytes_eq}
use Rattle.clap.specs.Faults.{fault_of}
use Rattle.clap.specs.Kinds.{Kinds}
use Rattle.clap.specs.Lexer.{long_of, short_of}
use Rattle.clap.specs.Simple.{matches_of}
use Rattle.clap.specs.Walk.{Held, Outcome, Rule, Step, Text, Waiting, Walk, after_flag, after_step, arg_by_index, bundle, done, finished, first_of, idle, long_met, arg_by_long, long_or_other, next, nothing_held, option, plain, plain_word, positional, refused, short_or_plain, subcommand, trailing, value, waits, walk_from, walked, walked_from, word_met}
use Rattle.clap.specs.declared.error.kind.ErrorKind.{ErrorKind}
use Rattle.pr_words.specs.Command.{job_from, practi}
use Rattle.pr_words.specs.Words.{Seed, Size, Stop, Node, job_of, nothing_seen}
use Rattle.pr_words.proofs.Arguments.{at_key, at_mode, rule, rules}
use Rattle.pr_words.proofs.Readings.{Tells}
use Rattle.pr_words.proofs.Ends.{answer, fails, passes, said, walk_end}
use Rattle.pr_words.proofs.Simulation.{all_words, ready_at}

-- ---- no subcommand is met, since there are none

abbrev is_sub : Step → Bool
is_sub (subcommand name) = true
is_sub s = false

module _ (c : List Rule) where
  plain_step : (w : Waiting) (word : Text) (h : Held) → is_sub (plain_word c w word h).1 ≡ false
  plain_step idle word h = refl
  plain_step (option id) word h = refl
  plain_step positional word h = refl

  flag_step : (w : Waiting) (word : Text) (h : Held) (o : Outcome) → is_sub (after_flag c w word h o).1 ≡ false
  flag_step w word h done = refl
  flag_step w word h (waits id) = refl
  flag_step w word h plain = plain_step w word h
  flag_step w word h refused = plain_step w word h

  short_step : (w : Waiting) (word : Text) (o : Option Text) (h : Held) → is_sub (short_or_plain c w word o h).1 ≡ false
  short_step w word (Some flags) h = flag_step w word (bundle c flags h).0 (bundle c flags h).1
  short_step w word None h = plain_step w word h

  long_step : (w : Waiting) (word : Text) (o : Option (Text × Option Text)) (h : Held) → is_sub (long_or_other c w word o h).1 ≡ false
  long_step w word (Some p) h = flag_step w word (long_met c (arg_by_long c p.0) p.1 h).0 (long_met c (arg_by_long c p.0) p.1 h).1
  long_step w word None h = short_step w word (short_of word) h

  dashed_step : (t : Bool) (w : Waiting) (n : ℕ) (word : Text) (h : Held) → is_sub (cond t (h, trailing n) (long_or_other c w word (long_of word) h)).1 ≡ false
  dashed_step true w n word h = refl
  dashed_step false w n word h = long_step w word (long_of word) h

  step : (closed : Bool) (w : Waiting) (n : ℕ) (word : Text) (h : Held) → is_sub (word_met c [] closed w n word h).1 ≡ false
  step true w n word h = refl
  step false idle n word h = dashed_step (bytes_eq word (45 ∷ 45 ∷ [])) idle n word h
  step false (option id) n word h = dashed_step (bytes_eq word (45 ∷ 45 ∷ [])) (option id) n word h
  step false positional n word h = dashed_step (bytes_eq word (45 ∷ 45 ∷ [])) positional n word h

  goes_on : (word : Text) (w : Walk) (h : Held) (s : Step) (a : Option Rule) → arg_by_index c w.position ≡ a → is_sub s ≡ false → w.stopped ≡ None → (after_step c word w h s).stopped ≡ None
  goes_on word w h (next v) a i e n = n
  goes_on word w h (trailing p) a i e n = n
  goes_on word w h (subcommand name) a i e n = absurd cc
  goes_on word w h value None i e n = rw i n
  goes_on word w h value (Some r) i e n = rw i refl

  one_more : (word : Text) (w : Walk) → w.stopped ≡ None → (walked c [] w word).stopped ≡ None
  unfolding walked
  one_more word w n =
      let met = word_met c [] w.is_trailing w.waiting w.position word w.held in
      ap (λ (o : Option (Text × List Text)). (walked_from c [] o w word).stopped) n
      ∙ goes_on word w met.0 met.1 (arg_by_index c w.position) refl (step w.is_trailing w.waiting w.position word w.held) n

  pub never_stops : (words : List Text) (w : Walk) → w.stopped ≡ None → (fold (walked c []) w words).stopped ≡ None
  never_stops [] w n = n
  never_stops (word ∷ words) w n = never_stops words (walked c [] w word) (one_more word w n)

-- ---- the whole

abbrev begun : Walk
begun = walk_from nothing_held

fault_is : (words : List Text) → fault_of practi words ≡ said begun words
unfolding rule
fault_is words =
    let n : (walk_end begun words).stopped ≡ None = never_stops rules words begun refl in
    rw n refl

matches_are : (words : List Text) → job_from (λ id. first_of id (matches_of practi words)) ≡ job_from (λ id. first_of id (finished rules (walk_end begun words).held))
unfolding rule
matches_are words = refl

nothing_told : Tells [] nothing_seen
nothing_told at_mode = refl
nothing_told (at_key Seed) = refl
nothing_told (at_key Size) = refl
nothing_told (at_key Stop) = refl
nothing_told (at_key Node) = refl

answer_is : (words : List Text) → AllByRecursion IsUtf8 words → answer begun words ≡ job_of words
unfolding job_of
answer_is words u = (all_words words u).0 [] None [] nothing_seen None (ready_at []) nothing_told refl refl refl

-- words that `clap` takes ask for the job of its matches
pub taken : (words : List Text) → AllByRecursion IsUtf8 words → fault_of practi words ≡ [] → job_from (λ id. first_of id (matches_of practi words)) ≡ job_of words
taken words u e = matches_are words ∙ sym (passes words begun (sym (fault_is words) ∙ e)) ∙ answer_is words u

-- and words that it refuses ask for none
pub not_taken : (words : List Text) → AllByRecursion IsUtf8 words → (k : ErrorKind) (ks : Kinds) → fault_of practi words ≡ k ∷ ks → job_of words ≡ None
not_taken words u k ks e = sym (answer_is words u) ∙ fails words begun k ks (sym (fault_is words) ∙ e)
