-- Words ask for a job exactly where they are the words of a call.
use Rattle.std.proofs.Common.{◌≡◌, ◌∙◌, ℕ, Bool, true, false, cond, List, [], ◌∷◌, ◌++◌, Option, Some, None, refl, sym, ap, subst, append_assoc}
use Rattle.std.specs.Prelude.{codes, is_some}
use Rattle.std.specs.List.{AllByRecursion, flat_map}
use Rattle.std.specs.Str.{bytes_eq}
use Rattle.std.proofs.lemmas.List.Concat.{flat_map-cons}
use Rattle.pr_words.specs.declared.job.Job.{Job}
use Rattle.pr_words.specs.declared.mode.Mode.{Mode}
use Rattle.pr_words.specs.declared.mode.Mode.TheVariants as modes
use Rattle.pr_words.specs.Words.{Key, Seed, Size, Stop, Node, Seen, all_seen, finished, job_of, key_of, mode_of, next_seen, nothing_seen, option_of, with_value}
use Rattle.pr_words.specs.Calls.{AreUses, Call, IsUse, Use, call_words, closed, dashes_if, front_word, job_in, job_of_call, joined, key_word, mode_word, parted, plain, use_words, with_uses}
use Rattle.pr_words.proofs.Arguments.{at_key}
use Rattle.pr_words.proofs.Turns.{dashes, front_text, key_text}
use Rattle.pr_words.proofs.Classes.{bytes_are}
use Rattle.pr_words.proofs.Readings.{closed_mode, given_again, given_first, put, put_closed, put_mode, put_waits, seen_dashes, seen_given, seen_key, value_at, value_plain}

abbrev pub Text : Type 0
Text = List ℕ

abbrev pub seen_by : List Text → Option Seen → Option Job
seen_by words o = finished (all_seen o words)

-- ---- modes

mode_at : (m : Mode) → mode_of (mode_word m) ≡ Some m
unfolding mode_of
mode_at modes.Sim = refl
mode_at modes.Run = refl
mode_at modes.Gen = refl
mode_at modes.Check = refl
mode_at modes.Kept = refl
mode_at modes.Ask = refl
mode_at modes.Serve = refl
mode_at modes.Pull = refl

some_mode : (m n : Mode) → Some m ≡ Some n → m ≡ n
some_mode m n e = cc

mode_if : (w : Text) (a b c d e f g h : Bool) → bytes_eq w (codes "sim") ≡ a → bytes_eq w (codes "run") ≡ b → bytes_eq w (codes "gen") ≡ c → bytes_eq w (codes "check") ≡ d
    → bytes_eq w (codes "kept") ≡ e → bytes_eq w (codes "ask") ≡ f → bytes_eq w (codes "serve") ≡ g → bytes_eq w (codes "pull") ≡ h
    → (m : Mode)
    → cond a (Some modes.Sim) (cond b (Some modes.Run) (cond c (Some modes.Gen) (cond d (Some modes.Check) (cond e (Some modes.Kept) (cond f (Some modes.Ask) (cond g (Some modes.Serve) (cond h (Some modes.Pull) None))))))) ≡ Some m
    → w ≡ mode_word m
mode_if w true b c d e f g h p q r s t u v x m i = bytes_are w (codes "sim") p ∙ ap mode_word (some_mode modes.Sim m i)
mode_if w false true c d e f g h p q r s t u v x m i = bytes_are w (codes "run") q ∙ ap mode_word (some_mode modes.Run m i)
mode_if w false false true d e f g h p q r s t u v x m i = bytes_are w (codes "gen") r ∙ ap mode_word (some_mode modes.Gen m i)
mode_if w false false false true e f g h p q r s t u v x m i = bytes_are w (codes "check") s ∙ ap mode_word (some_mode modes.Check m i)
mode_if w false false false false true f g h p q r s t u v x m i = bytes_are w (codes "kept") t ∙ ap mode_word (some_mode modes.Kept m i)
mode_if w false false false false false true g h p q r s t u v x m i = bytes_are w (codes "ask") u ∙ ap mode_word (some_mode modes.Ask m i)
mode_if w false false false false false false true h p q r s t u v x m i = bytes_are w (codes "serve") v ∙ ap mode_word (some_mode modes.Serve m i)
mode_if w false false false false false false false true p q r s t u v x m i = bytes_are w (codes "pull") x ∙ ap mode_word (some_mode modes.Pull m i)
mode_if w false false false false false false false false p q r s t u v x m i = absurd cc

pub mode_is : (w : Text) (m : Mode) → mode_of w ≡ Some m → w ≡ mode_word m
unfolding mode_of
mode_is w m e = mode_if w _ _ _ _ _ _ _ _ refl refl refl refl refl refl refl refl m e

-- ---- what a call has is seen

-- no option waits, and no `--` stood
pub record IsOpen (s : Seen) : Type 0 where
  pub waits : s.waiting ≡ None
  pub dashes : s.closed ≡ false

open_put : (s : Seen) (k : Key) (v : Text) → IsOpen s → IsOpen (put s k v)
open_put s k v o = record { waits = put_waits s k v; dashes = put_closed s k v ∙ o.dashes }

-- an option's value is the same whether its word came before it
pub waited : (s : Seen) (k : Key) (v : Text) → with_value (record s { waiting = Some k }) k v ≡ with_value s k v
waited s Seed v = refl
waited s Size v = refl
waited s Stop v = refl
waited s Node v = refl

pub front_is_text : (k : Key) → front_word k ≡ front_text k
front_is_text Seed = refl
front_is_text Size = refl
front_is_text Stop = refl
front_is_text Node = refl

pub key_is_text : (k : Key) → key_word k ≡ key_text k
key_is_text Seed = refl
key_is_text Size = refl
key_is_text Stop = refl
key_is_text Node = refl

use_key : Use → Key
use_key (joined k v) = k
use_key (parted k v) = k

use_value : Use → Text
use_value (joined k v) = v
use_value (parted k v) = v

one_use : (s : Seen) (u : Use) (rest : List Text) → IsOpen s → IsUse u → all_seen (Some s) (use_words u ++ rest) ≡ all_seen (with_value s (use_key u) (use_value u)) rest
unfolding use_key use_value
one_use s (joined k v) rest o i =
    ap (λ (w : Text). all_seen (next_seen s (w ++ v)) rest) (front_is_text k)
    ∙ ap (λ (x : Option Seen). all_seen x rest) (seen_given s k v o.waits o.dashes)
one_use s (parted k v) rest o i =
    ap (λ (w : Text). all_seen (next_seen s w) (v ∷ rest)) (key_is_text k)
    ∙ ap (λ (x : Option Seen). all_seen x (v ∷ rest)) (seen_key s k o.waits o.dashes)
    ∙ ap (λ (x : Option Seen). all_seen x rest) (value_plain (record s { waiting = Some k }) k v refl i ∙ waited s k v)

more_uses : (s : Seen) (u : Use) (us : List Use) → with_uses (Some s) (u ∷ us) ≡ with_uses (with_value s (use_key u) (use_value u)) us
unfolding use_key use_value
more_uses s (joined k v) us = refl
more_uses s (parted k v) us = refl

some_seen : (s t : Seen) → Some s ≡ Some t → s ≡ t
some_seen s t e = cc

none_seen : (t : Seen) → ◌≡◌ {A = Option Seen} None (Some t) → ⊥
none_seen t e = absurd cc

pub no_job : {A : Type 0} (j : Job) → ◌≡◌ {A = Option Job} None (Some j) → A
no_job j e = absurd cc

-- what an option's value leaves
with_put : (s t : Seen) (k : Key) (v : Text) → with_value s k v ≡ Some t → put s k v ≡ t
with_put s t k v e = go (value_at s (at_key k)) refl
  where
    go : (x : Option Text) → value_at s (at_key k) ≡ x → put s k v ≡ t
    go (Some y) h = absurd (none_seen t (sym (given_again s k v y h) ∙ e))
    go None h = some_seen (put s k v) t (sym (given_first s k v h) ∙ e)

pub open_with : (s t : Seen) (k : Key) (v : Text) → IsOpen s → with_value s k v ≡ Some t → IsOpen t
open_with s t k v o e = subst IsOpen (with_put s t k v e) (open_put s k v o)

pub mode_with : (s t : Seen) (k : Key) (v : Text) → with_value s k v ≡ Some t → t.mode ≡ s.mode
mode_with s t k v e = ap (λ (x : Seen). x.mode) (sym (with_put s t k v e)) ∙ put_mode s k v

all_uses : (us : List Use) (s : Seen) (rest : List Text) → IsOpen s → AllByRecursion IsUse us → all_seen (Some s) (flat_map use_words us ++ rest) ≡ all_seen (with_uses (Some s) us) rest
all_uses [] s rest o i = refl
all_uses (u ∷ us) s rest o i =
    ap (λ (x : List Text). all_seen (Some s) (x ++ rest)) (flat_map-cons use_words u us)
    ∙ ap (all_seen (Some s)) (append_assoc (use_words u) (flat_map use_words us) rest)
    ∙ one_use s u (flat_map use_words us ++ rest) o i.0
    ∙ go (with_value s (use_key u) (use_value u)) refl (λ t p. all_uses us t rest p i.1)
    ∙ ap (λ (x : Option Seen). all_seen x rest) (sym (more_uses s u us))
  where
    go : (x : Option Seen) → with_value s (use_key u) (use_value u) ≡ x
        → ((t : Seen) → IsOpen t → all_seen (Some t) (flat_map use_words us ++ rest) ≡ all_seen (with_uses (Some t) us) rest)
        → all_seen x (flat_map use_words us ++ rest) ≡ all_seen (with_uses x us) rest
    go None e again = refl
    go (Some t) e again = again t (open_with s t (use_key u) (use_value u) o e)

-- what uses leave
pub record Leaves (s t : Seen) : Type 0 where
  pub is_open : IsOpen t
  pub mode : t.mode ≡ s.mode

pub uses_leave : (us : List Use) (s t : Seen) → IsOpen s → with_uses (Some s) us ≡ Some t → Leaves s t
uses_leave [] s t o e = subst (λ (x : Seen). Leaves s x) (some_seen s t e) (record { is_open = o; mode = refl })
uses_leave (u ∷ us) s t o e = go (with_value s (use_key u) (use_value u)) refl (sym (more_uses s u us) ∙ e) (λ x. uses_leave us x t)
  where
    go : (x : Option Seen) → with_value s (use_key u) (use_value u) ≡ x → with_uses x us ≡ Some t → ((y : Seen) → IsOpen y → with_uses (Some y) us ≡ Some t → Leaves y t) → Leaves s t
    go None h f again = absurd (none_seen t f)
    go (Some y) h f again =
        let l = again y (open_with s y (use_key u) (use_value u) o h) f in
        record { is_open = l.is_open; mode = l.mode ∙ mode_with s y (use_key u) (use_value u) h }

uses_append : (us vs : List Use) (o : Option Seen) → with_uses o (us ++ vs) ≡ with_uses (with_uses o us) vs
uses_append us vs None = refl
uses_append [] vs (Some s) = refl
uses_append (u ∷ us) vs (Some s) =
    more_uses s u (us ++ vs) ∙ uses_append us vs (with_value s (use_key u) (use_value u)) ∙ ap (λ (x : Option Seen). with_uses x vs) (sym (more_uses s u us))

-- the mode does not matter to options
abbrev pub moded : Text → Option Seen → Option Seen
moded w None = None
moded w (Some s) = Some (record s { mode = Some w })

moded_if : (w : Text) (t : Bool) (x : Seen) → cond t None (Some (record x { mode = Some w })) ≡ moded w (cond t None (Some x))
moded_if w true x = refl
moded_if w false x = refl

moded_value : (w : Text) (s : Seen) (k : Key) (v : Text) → with_value (record s { mode = Some w }) k v ≡ moded w (with_value s k v)
moded_value w s Seed v = moded_if w (is_some s.seed) (put s Seed v)
moded_value w s Size v = moded_if w (is_some s.size) (put s Size v)
moded_value w s Stop v = moded_if w (is_some s.stop) (put s Stop v)
moded_value w s Node v = moded_if w (is_some s.node) (put s Node v)

pub moded_uses : (us : List Use) (w : Text) (o : Option Seen) → with_uses (moded w o) us ≡ moded w (with_uses o us)
moded_uses us w None = refl
moded_uses [] w (Some s) = refl
moded_uses (u ∷ us) w (Some s) =
    more_uses (record s { mode = Some w }) u us
    ∙ ap (λ (x : Option Seen). with_uses x us) (moded_value w s (use_key u) (use_value u))
    ∙ moded_uses us w (with_value s (use_key u) (use_value u))
    ∙ ap (moded w) (sym (more_uses s u us))

-- ---- the words of a call

mode_next : (m : Mode) (s : Seen) → IsOpen s → s.mode ≡ None → next_seen s (mode_word m) ≡ Some (record s { mode = Some (mode_word m) })
unfolding next_seen option_of key_of
mode_next modes.Sim s o n = rw (o.waits, o.dashes, n) refl
mode_next modes.Run s o n = rw (o.waits, o.dashes, n) refl
mode_next modes.Gen s o n = rw (o.waits, o.dashes, n) refl
mode_next modes.Check s o n = rw (o.waits, o.dashes, n) refl
mode_next modes.Kept s o n = rw (o.waits, o.dashes, n) refl
mode_next modes.Ask s o n = rw (o.waits, o.dashes, n) refl
mode_next modes.Serve s o n = rw (o.waits, o.dashes, n) refl
mode_next modes.Pull s o n = rw (o.waits, o.dashes, n) refl

-- a mode and options ask for their job, whether `--` stood or not
job_with : (m : Mode) (t : Seen) → t.waiting ≡ None → finished (Some (record t { mode = Some (mode_word m) })) ≡ job_in m (Some t)
job_with m t w = rw (w, mode_at m) refl

job_at_end : (m : Mode) (e : Bool) (o : Option Seen) → ((t : Seen) → o ≡ Some t → IsOpen t) → seen_by (dashes_if e) (moded (mode_word m) o) ≡ job_in m o
job_at_end m true None h = refl
job_at_end m false None h = refl
job_at_end m false (Some t) h = job_with m t (h t refl).waits
job_at_end m true (Some t) h =
    ap (seen_by []) (seen_dashes (record t { mode = Some (mode_word m) }) (h t refl).waits (h t refl).dashes)
    ∙ job_with m (record t { closed = true }) (h t refl).waits

pub call_asks : (c : Call) → AreUses c → job_of (call_words c) ≡ job_of_call c
unfolding job_of
call_asks (plain before m behind e) u =
    let s : Seen = nothing_seen in
    let o : IsOpen nothing_seen = record { waits = refl; dashes = refl } in
    let rest : List Text = mode_word m ∷ (flat_map use_words behind ++ dashes_if e) in
    ap finished (all_uses before nothing_seen (mode_word m ∷ (flat_map use_words behind ++ dashes_if e)) o u.0)
    ∙ go (with_uses (Some nothing_seen) before) (λ t h. uses_leave before nothing_seen t o h)
    ∙ ap (job_in m) (sym (uses_append before behind (Some nothing_seen)))
  where
    tail : (t : Seen) → IsOpen t → seen_by (flat_map use_words behind ++ dashes_if e) (Some (record t { mode = Some (mode_word m) })) ≡ job_in m (with_uses (Some t) behind)
    tail t o =
        ap finished (all_uses behind (record t { mode = Some (mode_word m) }) (dashes_if e) (record { waits = o.waits; dashes = o.dashes }) u.1)
        ∙ ap (seen_by (dashes_if e)) (moded_uses behind (mode_word m) (Some t))
        ∙ job_at_end m e (with_uses (Some t) behind) (λ x h. (uses_leave behind t x o h).is_open)

    go : (x : Option Seen) → ((t : Seen) → x ≡ Some t → Leaves nothing_seen t) → seen_by (mode_word m ∷ (flat_map use_words behind ++ dashes_if e)) x ≡ job_in m (with_uses x behind)
    go None h = refl
    go (Some t) h =
        let l = h t refl in
        ap (seen_by (flat_map use_words behind ++ dashes_if e)) (mode_next m t l.is_open l.mode) ∙ tail t l.is_open
call_asks (closed before m) u =
    let o : IsOpen nothing_seen = record { waits = refl; dashes = refl } in
    ap finished (all_uses before nothing_seen (dashes ∷ mode_word m ∷ []) o u)
    ∙ go (with_uses (Some nothing_seen) before) (λ t h. uses_leave before nothing_seen t o h)
  where
    go : (x : Option Seen) → ((t : Seen) → x ≡ Some t → Leaves nothing_seen t) → seen_by (dashes ∷ mode_word m ∷ []) x ≡ job_in m x
    go None h = refl
    go (Some t) h =
        let l = h t refl in
        ap (seen_by (mode_word m ∷ [])) (seen_dashes t l.is_open.waits l.is_open.dashes)
        ∙ ap (seen_by []) (closed_mode (record t { closed = true }) (mode_word m) l.is_open.waits refl l.mode)
        ∙ job_with m (record t { closed = true }) l.is_open.waits
