-- What `clap` makes of all the words, and what it says at their end.
use Rattle.std.proofs.Common.{◌≡◌, ◌∙◌, ℕ, Bool, true, false, cond, not, ◌||◌, List, [], ◌∷◌, map, Option, Some, None, refl, ap}
use Rattle.std.specs.Prelude.{codes, fold, is_some}
use Rattle.std.specs.List.{AllByRecursion}
use Rattle.clap.specs.Faults.{check_fault, defaults_fault, given_default_fault, settle_fault, turn_fault, walk_fault}
use Rattle.clap.specs.Kinds.{Kinds, or_else}
use Rattle.clap.specs.Takes.{is_given}
use Rattle.clap.specs.Walk.{Held, Row, Rule, Text, Waiting, Walk, default_rows, finished, first_of, has_row, is_empty, reading_by, settled, walked, with_default}
use Rattle.clap.specs.declared.builder.value_parser.Reading.{Reading}
use Rattle.clap.specs.declared.error.kind.ErrorKind.TheVariants as kind
use Rattle.pr_words.specs.declared.job.Job.{Job}
use Rattle.pr_words.specs.Command.{job_from}
use Rattle.pr_words.specs.Words.{Seed, Size, Stop, Node, asked}
use Rattle.pr_words.proofs.Arguments.{Slot, at_key, at_mode, rule, rules, shape}
use Rattle.pr_words.proofs.Rows.{first_is, given_is, row, value_in}
use Rattle.pr_words.proofs.Turns.{at, held, settle, settled_to}

-- nothing, where something is said
abbrev pub unless : Kinds → Option Job → Option Job
unless [] job = job
unless (k ∷ ks) job = None

-- what is said at the end of the words
abbrev pub ending : Held → Kinds
ending h = or_else (settle_fault rules false h) (or_else (defaults_fault (settled rules h).rows rules) (check_fault shape (finished rules h) false))

-- the job of the words, from where the walk stands, and nothing where one is refused
unfoldable pub answer : Walk → List Text → Option Job
answer w [] = unless (ending w.held) (job_from (λ id. first_of id (finished rules w.held)))
answer w (word ∷ words) = unless (turn_fault shape [] w word) (answer (walked rules [] w word) words)

-- ---- the same, as `clap` says it

abbrev pub walk_end : Walk → List Text → Walk
walk_end w words = fold (walked rules []) w words

abbrev pub said : Walk → List Text → Kinds
said w words = or_else (walk_fault shape [] w words) (ending (walk_end w words).held)

pub passes : (words : List Text) (w : Walk) → said w words ≡ [] → answer w words ≡ job_from (λ id. first_of id (finished rules (walk_end w words).held))
unfolding answer walk_fault
passes [] w e = rw e refl
passes (word ∷ words) w e = go (turn_fault shape [] w word) (passes words (walked rules [] w word)) e
  where
    go : (f : Kinds)
        → (said (walked rules [] w word) words ≡ [] → answer (walked rules [] w word) words ≡ job_from (λ id. first_of id (finished rules (walk_end (walked rules [] w word) words).held)))
        → or_else (or_else f (walk_fault shape [] (walked rules [] w word) words)) (ending (walk_end (walked rules [] w word) words).held) ≡ []
        → unless f (answer (walked rules [] w word) words) ≡ job_from (λ id. first_of id (finished rules (walk_end (walked rules [] w word) words).held))
    go [] again h = again h
    go (k ∷ ks) again h = absurd cc

pub fails : (words : List Text) (w : Walk) (k : _) (ks : Kinds) → said w words ≡ k ∷ ks → answer w words ≡ None
unfolding answer walk_fault
fails [] w k ks e = rw e refl
fails (word ∷ words) w k ks e = go (turn_fault shape [] w word) (fails words (walked rules [] w word) k ks) e
  where
    go : (f : Kinds) → (said (walked rules [] w word) words ≡ k ∷ ks → answer (walked rules [] w word) words ≡ None)
        → or_else (or_else f (walk_fault shape [] (walked rules [] w word) words)) (ending (walk_end (walked rules [] w word) words).held) ≡ k ∷ ks
        → unless f (answer (walked rules [] w word) words) ≡ None
    go [] again h = again h
    go (l ∷ ls) again h = refl

-- ---- there are no defaults

same_rows : (t : Bool) (id : Text) (how : Reading) (ds : List Text) (rs : List Row) → ds ≡ [] → cond t rs (default_rows id how ds rs) ≡ rs
same_rows true id how ds rs e = refl
same_rows false id how ds rs e = rw e refl

same_default : (a : Rule) (rs : List Row) → a.defaults ≡ [] → with_default rs a ≡ rs
same_default a rs e = same_rows (has_row a.id rs) a.id (reading_by a) a.defaults rs e

no_default : (t : Bool) (a : Rule) (ds : List Text) → ds ≡ [] → cond (t || is_empty ds) [] (given_default_fault a ds) ≡ []
no_default true a ds e = refl
no_default false a ds e = rw e refl

abbrev HaveNone : List Rule → Type 0
HaveNone args = AllByRecursion (λ (a : Rule). a.defaults ≡ []) args

same_all : (args : List Rule) (rs : List Row) → HaveNone args → fold with_default rs args ≡ rs
same_all [] rs h = refl
same_all (a ∷ args) rs h = ap (λ (x : List Row). fold with_default x args) (same_default a rs h.0) ∙ same_all args rs h.1

none_said : (args : List Rule) (rs : List Row) → HaveNone args → defaults_fault rs args ≡ []
unfolding defaults_fault
none_said [] rs h = refl
none_said (a ∷ args) rs h =
    ap (λ (x : Kinds). or_else x (defaults_fault (with_default rs a) args)) (no_default (has_row a.id rs) a a.defaults h.0)
    ∙ ap (λ (x : List Row). defaults_fault x args) (same_default a rs h.0)
    ∙ none_said args rs h.1

have_none : HaveNone rules
unfolding rule
have_none = (refl, (refl, (refl, (refl, (refl, tt)))))

-- ---- the end of the words

-- the argument under way is settled without a fault, and the rows are then those of these values
pub record Ready (rs : List Row) (p : Option (Text × List Text)) (es : List (Slot × Text)) : Type 0 where
  pub fault : settle rs p ≡ []
  pub rows : settled_to rs p ≡ map row es

no_mode : (g : Bool) → cond (not g || false) (kind.MissingRequiredArgument ∷ []) [] ≡ cond g [] (kind.MissingRequiredArgument ∷ [])
no_mode true = refl
no_mode false = refl

checked : (rs : List Row) → check_fault shape rs false ≡ cond (is_given (codes "mode") rs) [] (kind.MissingRequiredArgument ∷ [])
unfolding rule
checked rs = no_mode (is_given (codes "mode") rs)

finished_is : (rs : List Row) (p : Option (Text × List Text)) → finished rules (held rs p) ≡ settled_to rs p
finished_is rs p = same_all rules (settled_to rs p) have_none

unfoldable pub asked_of : List (Slot × Text) → Option Job
asked_of es = asked (value_in es at_mode) (value_in es (at_key Seed)) (value_in es (at_key Size)) (value_in es (at_key Stop)) (value_in es (at_key Node))

ending_is : (rs : List Row) (p : Option (Text × List Text)) (es : List (Slot × Text)) → Ready rs p es
    → ending (held rs p) ≡ cond (is_some (value_in es at_mode)) [] (kind.MissingRequiredArgument ∷ [])
ending_is rs p es r =
    let f : finished rules (held rs p) ≡ map row es = finished_is rs p ∙ r.rows in
    ap (λ (x : Kinds). or_else x (or_else (defaults_fault (settled_to rs p) rules) (check_fault shape (finished rules (held rs p)) false))) r.fault
    ∙ ap (λ (x : Kinds). or_else x (check_fault shape (finished rules (held rs p)) false)) (none_said rules (settled_to rs p) have_none)
    ∙ ap (λ (x : List Row). check_fault shape x false) f
    ∙ checked (map row es)
    ∙ ap (λ (x : Bool). cond x [] (kind.MissingRequiredArgument ∷ [])) (given_is es at_mode)

job_is : (es : List (Slot × Text)) → job_from (λ id. first_of id (map row es)) ≡ asked_of es
unfolding asked_of
job_is es = rw (first_is es at_mode, first_is es (at_key Seed), first_is es (at_key Size), first_is es (at_key Stop), first_is es (at_key Node)) refl

-- no mode, no job
unasked : (es : List (Slot × Text)) (o : Option Text) → value_in es at_mode ≡ o → unless (cond (is_some o) [] (kind.MissingRequiredArgument ∷ [])) (asked_of es) ≡ asked_of es
unfolding asked_of
unasked es None e = rw e refl
unasked es (Some m) e = refl

pub end_answer : (rs : List Row) (p : Option (Text × List Text)) (es : List (Slot × Text)) (w : Waiting) (n : ℕ) (closed : Bool) → Ready rs p es
    → answer (at rs p w n closed) [] ≡ asked_of es
unfolding answer
end_answer rs p es w n closed r =
    let f : finished rules (held rs p) ≡ map row es = finished_is rs p ∙ r.rows in
    ap (λ (x : Kinds). unless x (job_from (λ id. first_of id (finished rules (held rs p))))) (ending_is rs p es r)
    ∙ ap (λ (x : List Row). unless (cond (is_some (value_in es at_mode)) [] (kind.MissingRequiredArgument ∷ [])) (job_from (λ id. first_of id x))) f
    ∙ ap (λ (x : Option Job). unless (cond (is_some (value_in es at_mode)) [] (kind.MissingRequiredArgument ∷ [])) x) (job_is es)
    ∙ unasked es (value_in es at_mode) refl
