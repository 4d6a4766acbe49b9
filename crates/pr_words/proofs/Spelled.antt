-- Words that ask for a job are the words of a call.
use Rattle.std.proofs.Common.{◌≡◌, ◌∙◌, Bool, true, false, List, [], ◌∷◌, ◌++◌, Option, Some, None, refl, sym, ap, append_assoc}
use Rattle.std.specs.List.{AllByRecursion, flat_map}
use Rattle.std.specs.Str.{bytes_eq}
use Rattle.std.proofs.lemmas.List.Concat.{flat_map-cons}
use Rattle.pr_words.specs.declared.job.Job.{Job}
use Rattle.pr_words.specs.declared.mode.Mode.{Mode}
use Rattle.pr_words.specs.Words.{Key, Seen, finished, in_mode, is_flag, job_of, key_of, mode_of, next_seen, nothing_seen, option_of, with_value}
use Rattle.pr_words.specs.Calls.{AreCalls, AreUses, Call, IsUse, Use, call_words, closed, dashes_if, job_in, job_of_call, joined, key_word, front_word, mode_word, parted, plain, use_words, with_uses}
use Rattle.pr_words.proofs.Turns.{dashes}
use Rattle.pr_words.proofs.Classes.{bytes_are, key_is, option_is}
use Rattle.pr_words.proofs.Readings.{closed_again, closed_mode, seen_dashes, seen_given, seen_key, value_flag, value_plain}
use Rattle.pr_words.proofs.Calls.{IsOpen, Text, call_asks, front_is_text, key_is_text, mode_is, mode_with, moded, moded_uses, no_job, open_with, seen_by, uses_leave, waited}

-- ---- words that are no option

module _ (s : Seen) (w : Text) (o : IsOpen s) (d : bytes_eq w dashes ≡ false) (p : option_of w ≡ None) (q : key_of w ≡ None) where
  next_flag : is_flag w ≡ true → next_seen s w ≡ None
  unfolding next_seen
  next_flag f = rw (o.waits, o.dashes, d, p, q, f) refl

  next_again : (m : Text) → is_flag w ≡ false → s.mode ≡ Some m → next_seen s w ≡ None
  unfolding next_seen
  next_again m f h = rw (o.waits, o.dashes, d, p, q, f, h) refl

  next_mode : is_flag w ≡ false → s.mode ≡ None → next_seen s w ≡ Some (record s { mode = Some w })
  unfolding next_seen
  next_mode f h = rw (o.waits, o.dashes, d, p, q, f, h) refl

next_dashes : (s : Seen) (w : Text) → IsOpen s → w ≡ dashes → next_seen s w ≡ Some (record s { closed = true })
next_dashes s w o e = ap (next_seen s) e ∙ seen_dashes s o.waits o.dashes

next_given : (s : Seen) (w v : Text) (k : Key) → IsOpen s → option_of w ≡ Some (k, v) → next_seen s w ≡ with_value s k v
next_given s w v k o e = ap (next_seen s) (option_is w k v e) ∙ seen_given s k v o.waits o.dashes

next_key : (s : Seen) (w : Text) (k : Key) → IsOpen s → key_of w ≡ Some k → next_seen s w ≡ Some (record s { waiting = Some k })
next_key s w k o e = ap (next_seen s) (key_is w k e) ∙ seen_key s k o.waits o.dashes

given_word : (w v : Text) (k : Key) → option_of w ≡ Some (k, v) → front_word k ++ v ≡ w
given_word w v k e = ap (λ (x : Text). x ++ v) (front_is_text k) ∙ sym (option_is w k v e)

keyed_word : (w : Text) (k : Key) → key_of w ≡ Some k → key_word k ≡ w
keyed_word w k e = key_is_text k ∙ sym (key_is w k e)

-- ---- behind the mode

pub record Tail (s : Seen) (words : List Text) (job : Job) : Type 0 where
  pub us : List Use
  pub ended : Bool
  pub each : AllByRecursion IsUse us
  pub spelled : flat_map use_words us ++ dashes_if ended ≡ words
  pub asks : finished (with_uses (Some s) us) ≡ Some job

-- the first word is an option's value
pub record Value (s : Seen) (k : Key) (words : List Text) (job : Job) : Type 0 where
  pub value : Text
  pub us : List Use
  pub ended : Bool
  pub no_flag : is_flag value ≡ false
  pub each : AllByRecursion IsUse us
  pub spelled : value ∷ (flat_map use_words us ++ dashes_if ended) ≡ words
  pub asks : finished (with_uses (with_value s k value) us) ≡ Some job

abbrev Tails : List Text → Type 0
Tails words = (s : Seen) (m : Text) (job : Job) → IsOpen s → s.mode ≡ Some m → seen_by words (Some s) ≡ Some job → Tail s words job

abbrev Values : List Text → Type 0
Values words = (s : Seen) (m : Text) (k : Key) (job : Job) → IsOpen s → s.mode ≡ Some m → seen_by words (Some (record s { waiting = Some k })) ≡ Some job → Value s k words job

use_front : (u : Use) (us : List Use) (rest : List Text) → flat_map use_words (u ∷ us) ++ rest ≡ use_words u ++ (flat_map use_words us ++ rest)
use_front u us rest = ap (λ (x : List Text). x ++ rest) (flat_map-cons use_words u us) ∙ append_assoc (use_words u) (flat_map use_words us) rest

dashed_tail : (ws : List Text) (s : Seen) (w m : Text) (job : Job) → IsOpen s → s.mode ≡ Some m → w ≡ dashes → seen_by ws (Some (record s { closed = true })) ≡ Some job → Tail s (w ∷ ws) job
dashed_tail [] s w m job o n d e =
    let same : finished (Some s) ≡ finished (Some (record s { closed = true })) = rw o.waits refl in
    record { us = []; ended = true; each = tt; spelled = ap (λ (x : Text). x ∷ []) (sym d); asks = same ∙ e }
dashed_tail (v ∷ vs) s w m job o n d e = no_job job (sym (ap (seen_by vs) (closed_again (record s { closed = true }) v m o.waits refl n)) ∙ e)

given_tail : (w v : Text) (k : Key) (ws : List Text) (s : Seen) (m : Text) (job : Job) (x : Option Seen) → Tails ws → IsOpen s → s.mode ≡ Some m → option_of w ≡ Some (k, v)
    → with_value s k v ≡ x → seen_by ws x ≡ Some job → Tail s (w ∷ ws) job
given_tail w v k ws s m job None tails o n p h e = no_job job e
given_tail w v k ws s m job (Some t) tails o n p h e =
    let r = tails t m job (open_with s t k v o h) (mode_with s t k v h ∙ n) e in
    record {
      us = joined k v ∷ r.us;
      ended = r.ended;
      each = (tt, r.each);
      spelled = use_front (joined k v) r.us (dashes_if r.ended) ∙ ap (λ (y : Text). y ∷ (flat_map use_words r.us ++ dashes_if r.ended)) (given_word w v k p) ∙ ap (λ (y : List Text). w ∷ y) r.spelled;
      asks = ap (λ (y : Option Seen). finished (with_uses y r.us)) h ∙ r.asks;
    }

key_tail : (w : Text) (k : Key) (ws : List Text) (s : Seen) (m : Text) (job : Job) → Values ws → IsOpen s → s.mode ≡ Some m → key_of w ≡ Some k
    → seen_by ws (Some (record s { waiting = Some k })) ≡ Some job → Tail s (w ∷ ws) job
key_tail w k ws s m job values o n q e =
    let r = values s m k job o n e in
    record {
      us = parted k r.value ∷ r.us;
      ended = r.ended;
      each = (r.no_flag, r.each);
      spelled = use_front (parted k r.value) r.us (dashes_if r.ended) ∙ ap (λ (y : Text). y ∷ r.value ∷ (flat_map use_words r.us ++ dashes_if r.ended)) (keyed_word w k q) ∙ ap (λ (y : List Text). w ∷ y) r.spelled;
      asks = r.asks;
    }

tail_step : (w : Text) (ws : List Text) → Tails ws → Values ws → Tails (w ∷ ws)
tail_step w ws tails values s m job o n e = go (bytes_eq w dashes) refl (option_of w) refl (key_of w) refl (is_flag w) refl
  where
    go : (d : Bool) → bytes_eq w dashes ≡ d → (p : Option (Key × Text)) → option_of w ≡ p → (q : Option Key) → key_of w ≡ q → (f : Bool) → is_flag w ≡ f → Tail s (w ∷ ws) job
    go true d p pe q qe f fe =
        let is = bytes_are w dashes d in
        dashed_tail ws s w m job o n is (sym (ap (seen_by ws) (next_dashes s w o is)) ∙ e)
    go false d (Some x) pe q qe f fe = given_tail w x.1 x.0 ws s m job (with_value s x.0 x.1) tails o n pe refl (sym (ap (seen_by ws) (next_given s w x.1 x.0 o pe)) ∙ e)
    go false d None pe (Some k) qe f fe = key_tail w k ws s m job values o n qe (sym (ap (seen_by ws) (next_key s w k o qe)) ∙ e)
    go false d None pe None qe true fe = no_job job (sym (ap (seen_by ws) (next_flag s w o d pe qe fe)) ∙ e)
    go false d None pe None qe false fe = no_job job (sym (ap (seen_by ws) (next_again s w o d pe qe m fe n)) ∙ e)

value_tail : (w : Text) (ws : List Text) (s : Seen) (m : Text) (k : Key) (job : Job) (x : Option Seen) → Tails ws → IsOpen s → s.mode ≡ Some m → is_flag w ≡ false
    → with_value s k w ≡ x → seen_by ws x ≡ Some job → Value s k (w ∷ ws) job
value_tail w ws s m k job None tails o n f h e = no_job job e
value_tail w ws s m k job (Some t) tails o n f h e =
    let r = tails t m job (open_with s t k w o h) (mode_with s t k w h ∙ n) e in
    record {
      value = w;
      us = r.us;
      ended = r.ended;
      no_flag = f;
      each = r.each;
      spelled = ap (λ (y : List Text). w ∷ y) r.spelled;
      asks = ap (λ (y : Option Seen). finished (with_uses y r.us)) h ∙ r.asks;
    }

value_step : (w : Text) (ws : List Text) → Tails ws → Values (w ∷ ws)
value_step w ws tails s m k job o n e = go (is_flag w) refl
  where
    go : (f : Bool) → is_flag w ≡ f → Value s k (w ∷ ws) job
    go true f = no_job job (sym (ap (seen_by ws) (value_flag (record s { waiting = Some k }) k w refl f)) ∙ e)
    go false f = value_tail w ws s m k job (with_value s k w) tails o n f refl (sym (ap (seen_by ws) (value_plain (record s { waiting = Some k }) k w refl f ∙ waited s k w)) ∙ e)

tails_of : (words : List Text) → Tails words × Values words
tails_of [] = (
  (λ s m job o n e. record { us = []; ended = false; each = tt; spelled = refl; asks = e }),
  λ s m k job o n e. no_job job e,
)
tails_of (w ∷ ws) =
    let rest = tails_of ws in
    (tail_step w ws rest.0 rest.1, value_step w ws rest.0)

-- ---- from the first word on

abbrev job_after : Option Seen → Call → Option Job
job_after o (plain before m behind e) = job_in m (with_uses o (before ++ behind))
job_after o (closed before m) = job_in m (with_uses o before)

abbrev before_all : Use → Call → Call
before_all u (plain before m behind e) = plain (u ∷ before) m behind e
before_all u (closed before m) = closed (u ∷ before) m

words_more : (u : Use) (c : Call) → call_words (before_all u c) ≡ use_words u ++ call_words c
words_more u (plain before m behind e) = use_front u before (mode_word m ∷ (flat_map use_words behind ++ dashes_if e))
words_more u (closed before m) = use_front u before (dashes ∷ mode_word m ∷ [])

uses_more : (u : Use) (c : Call) → IsUse u → AreUses c → AreUses (before_all u c)
uses_more u (plain before m behind e) i h = ((i, h.0), h.1)
uses_more u (closed before m) i h = (i, h)

given_more : (s : Seen) (k : Key) (v : Text) (c : Call) → job_after (Some s) (before_all (joined k v) c) ≡ job_after (with_value s k v) c
given_more s k v (plain before m behind e) = refl
given_more s k v (closed before m) = refl

parted_more : (s : Seen) (k : Key) (v : Text) (c : Call) → job_after (Some s) (before_all (parted k v) c) ≡ job_after (with_value s k v) c
parted_more s k v (plain before m behind e) = refl
parted_more s k v (closed before m) = refl

pub record Head (s : Seen) (words : List Text) (job : Job) : Type 0 where
  pub call : Call
  pub each : AreUses call
  pub spelled : call_words call ≡ words
  pub asks : job_after (Some s) call ≡ Some job

pub record First (s : Seen) (k : Key) (words : List Text) (job : Job) : Type 0 where
  pub value : Text
  pub call : Call
  pub no_flag : is_flag value ≡ false
  pub each : AreUses call
  pub spelled : value ∷ call_words call ≡ words
  pub asks : job_after (with_value s k value) call ≡ Some job

abbrev Heads : List Text → Type 0
Heads words = (s : Seen) (job : Job) → IsOpen s → s.mode ≡ None → seen_by words (Some s) ≡ Some job → Head s words job

abbrev Firsts : List Text → Type 0
Firsts words = (s : Seen) (k : Key) (job : Job) → IsOpen s → s.mode ≡ None → seen_by words (Some (record s { waiting = Some k })) ≡ Some job → First s k words job

-- a word for the mode is one
pub record Asked (w : Text) (t : Seen) (job : Job) : Type 0 where
  pub mode : Mode
  pub word : mode_word mode ≡ w
  pub asks : job_in mode (Some t) ≡ Some job

asked_is : (w : Text) (t : Seen) (job : Job) → t.waiting ≡ None → finished (Some (record t { mode = Some w })) ≡ Some job → Asked w t job
asked_is w t job n e =
    let h : finished (Some (record t { mode = Some w })) ≡ in_mode (mode_of w) t.seed t.size t.stop t.node = rw n refl in
    go (mode_of w) refl (sym h ∙ e)
  where
    go : (x : Option Mode) → mode_of w ≡ x → in_mode x t.seed t.size t.stop t.node ≡ Some job → Asked w t job
    go None i f = no_job job f
    go (Some m) i f = record { mode = m; word = sym (mode_is w m i); asks = f }

dashed_head : (ws : List Text) (s : Seen) (w : Text) (job : Job) → IsOpen s → s.mode ≡ None → w ≡ dashes → seen_by ws (Some (record s { closed = true })) ≡ Some job → Head s (w ∷ ws) job
dashed_head [] s w job o n d e =
    let none : finished (Some (record s { closed = true })) ≡ None = rw (o.waits, n) refl in
    no_job job (sym none ∙ e)
dashed_head (v ∷ []) s w job o n d e =
    let a = asked_is v (record s { closed = true }) job o.waits (sym (ap (seen_by []) (closed_mode (record s { closed = true }) v o.waits refl n)) ∙ e) in
    record {
      call = closed [] a.mode;
      each = tt;
      spelled = ap (λ (x : Text). dashes ∷ x ∷ []) a.word ∙ ap (λ (x : Text). x ∷ v ∷ []) (sym d);
      asks = a.asks;
    }
dashed_head (v ∷ x ∷ xs) s w job o n d e =
    no_job job (sym (ap (seen_by (x ∷ xs)) (closed_mode (record s { closed = true }) v o.waits refl n)
    ∙ ap (seen_by xs) (closed_again (record s { closed = true; mode = Some v }) x v o.waits refl refl)) ∙ e)

given_head : (w v : Text) (k : Key) (ws : List Text) (s : Seen) (job : Job) (x : Option Seen) → Heads ws → IsOpen s → s.mode ≡ None → option_of w ≡ Some (k, v)
    → with_value s k v ≡ x → seen_by ws x ≡ Some job → Head s (w ∷ ws) job
given_head w v k ws s job None heads o n p h e = no_job job e
given_head w v k ws s job (Some t) heads o n p h e =
    let r = heads t job (open_with s t k v o h) (mode_with s t k v h ∙ n) e in
    record {
      call = before_all (joined k v) r.call;
      each = uses_more (joined k v) r.call tt r.each;
      spelled = words_more (joined k v) r.call ∙ ap (λ (y : Text). y ∷ call_words r.call) (given_word w v k p) ∙ ap (λ (y : List Text). w ∷ y) r.spelled;
      asks = given_more s k v r.call ∙ ap (λ (y : Option Seen). job_after y r.call) h ∙ r.asks;
    }

key_head : (w : Text) (k : Key) (ws : List Text) (s : Seen) (job : Job) → Firsts ws → IsOpen s → s.mode ≡ None → key_of w ≡ Some k
    → seen_by ws (Some (record s { waiting = Some k })) ≡ Some job → Head s (w ∷ ws) job
key_head w k ws s job firsts o n q e =
    let r = firsts s k job o n e in
    record {
      call = before_all (parted k r.value) r.call;
      each = uses_more (parted k r.value) r.call r.no_flag r.each;
      spelled = words_more (parted k r.value) r.call ∙ ap (λ (y : Text). y ∷ r.value ∷ call_words r.call) (keyed_word w k q) ∙ ap (λ (y : List Text). w ∷ y) r.spelled;
      asks = parted_more s k r.value r.call ∙ r.asks;
    }

mode_head : (w : Text) (ws : List Text) (s : Seen) (job : Job) → IsOpen s → s.mode ≡ None → seen_by ws (Some (record s { mode = Some w })) ≡ Some job → Head s (w ∷ ws) job
mode_head w ws s job o n e =
    let r = (tails_of ws).0 (record s { mode = Some w }) w job (record { waits = o.waits; dashes = o.dashes }) refl e in
    go r (with_uses (Some s) r.us) refl (sym (ap finished (moded_uses r.us w (Some s))) ∙ r.asks)
  where
    go : (r : Tail (record s { mode = Some w }) ws job) (x : Option Seen) → with_uses (Some s) r.us ≡ x → finished (moded w (with_uses (Some s) r.us)) ≡ Some job → Head s (w ∷ ws) job
    go r None h f = no_job job (sym (ap (λ (y : Option Seen). finished (moded w y)) h) ∙ f)
    go r (Some t) h f =
        let l = uses_leave r.us s t o h in
        let a = asked_is w t job l.is_open.waits (sym (ap (λ (y : Option Seen). finished (moded w y)) h) ∙ f) in
        record {
          call = plain [] a.mode r.us r.ended;
          each = (tt, r.each);
          spelled = ap (λ (y : Text). y ∷ (flat_map use_words r.us ++ dashes_if r.ended)) a.word ∙ ap (λ (y : List Text). w ∷ y) r.spelled;
          asks = ap (job_in a.mode) h ∙ a.asks;
        }

head_step : (w : Text) (ws : List Text) → Heads ws → Firsts ws → Heads (w ∷ ws)
head_step w ws heads firsts s job o n e = go (bytes_eq w dashes) refl (option_of w) refl (key_of w) refl (is_flag w) refl
  where
    go : (d : Bool) → bytes_eq w dashes ≡ d → (p : Option (Key × Text)) → option_of w ≡ p → (q : Option Key) → key_of w ≡ q → (f : Bool) → is_flag w ≡ f → Head s (w ∷ ws) job
    go true d p pe q qe f fe =
        let is = bytes_are w dashes d in
        dashed_head ws s w job o n is (sym (ap (seen_by ws) (next_dashes s w o is)) ∙ e)
    go false d (Some x) pe q qe f fe = given_head w x.1 x.0 ws s job (with_value s x.0 x.1) heads o n pe refl (sym (ap (seen_by ws) (next_given s w x.1 x.0 o pe)) ∙ e)
    go false d None pe (Some k) qe f fe = key_head w k ws s job firsts o n qe (sym (ap (seen_by ws) (next_key s w k o qe)) ∙ e)
    go false d None pe None qe true fe = no_job job (sym (ap (seen_by ws) (next_flag s w o d pe qe fe)) ∙ e)
    go false d None pe None qe false fe = mode_head w ws s job o n (sym (ap (seen_by ws) (next_mode s w o d pe qe fe n)) ∙ e)

value_head : (w : Text) (ws : List Text) (s : Seen) (k : Key) (job : Job) (x : Option Seen) → Heads ws → IsOpen s → s.mode ≡ None → is_flag w ≡ false
    → with_value s k w ≡ x → seen_by ws x ≡ Some job → First s k (w ∷ ws) job
value_head w ws s k job None heads o n f h e = no_job job e
value_head w ws s k job (Some t) heads o n f h e =
    let r = heads t job (open_with s t k w o h) (mode_with s t k w h ∙ n) e in
    record {
      value = w;
      call = r.call;
      no_flag = f;
      each = r.each;
      spelled = ap (λ (y : List Text). w ∷ y) r.spelled;
      asks = ap (λ (y : Option Seen). job_after y r.call) h ∙ r.asks;
    }

first_step : (w : Text) (ws : List Text) → Heads ws → Firsts (w ∷ ws)
first_step w ws heads s k job o n e = go (is_flag w) refl
  where
    go : (f : Bool) → is_flag w ≡ f → First s k (w ∷ ws) job
    go true f = no_job job (sym (ap (seen_by ws) (value_flag (record s { waiting = Some k }) k w refl f)) ∙ e)
    go false f = value_head w ws s k job (with_value s k w) heads o n f refl (sym (ap (seen_by ws) (value_plain (record s { waiting = Some k }) k w refl f ∙ waited s k w)) ∙ e)

no_head : (s : Seen) (job : Job) → IsOpen s → s.mode ≡ None → seen_by [] (Some s) ≡ Some job → Head s [] job
no_head s job o n e =
    let none : finished (Some s) ≡ None = rw (o.waits, n) refl in
    no_job job (sym none ∙ e)

heads_of : (words : List Text) → Heads words × Firsts words
heads_of [] = (no_head, λ s k job o n e. no_job job e)
heads_of (w ∷ ws) =
    let rest = heads_of ws in
    (head_step w ws rest.0 rest.1, first_step w ws rest.0)

started : (words : List Text) (job : Job) → job_of words ≡ Some job → Head nothing_seen words job
unfolding job_of
started words job e = (heads_of words).0 nothing_seen job (record { waits = refl; dashes = refl }) refl e

same_job : (c : Call) → job_after (Some nothing_seen) c ≡ job_of_call c
same_job (plain before m behind e) = refl
same_job (closed before m) = refl

pub are_calls : AreCalls
are_calls = (
  call_asks,
  λ words job e.
      let h = started words job e in
      (h.call, h.each, h.spelled, sym (same_job h.call) ∙ h.asks),
)
