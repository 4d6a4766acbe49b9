-- What `clap` returns, and what the definition says then.
use Rattle.std.proofs.Common.{◌≡◌, ◌∙◌, ◌⊎◌, List, [], ◌∷◌, map, None, Err, refl, sym, ap, subst, inl, inr}
use Rattle.std.specs.Prelude.{IsUtf8, String, string_bytes}
use Rattle.std.specs.List.{AllByRecursion}
use Rattle.std.proofs.lemmas.Str.{IsUtf8-string_bytes}
use Rattle.clap.specs.Faults.{fault_of}
use Rattle.clap.specs.Kinds.{IsAmong, Kinds}
use Rattle.clap.specs.Matches.{first_value}
use Rattle.clap.specs.Simple.{App, matches_of}
use Rattle.clap.specs.Walk.{Text, first_of, rows_of}
use Rattle.clap.specs.declared.error.kind.ErrorKind.{ErrorKind}
use Rattle.clap.specs.declared.error.kind.ErrorKind.TheVariants as kind
use Rattle.clap.specs.declared.parser.matches.Found.{Found}
use Rattle.clap.proofs.WalkLemmas.{first_value-rows}
use Rattle.pr_words.specs.declared.fault.WordsFault.{WordsFault}
use Rattle.pr_words.specs.declared.fault.WordsFault.TheVariants as faults
use Rattle.pr_words.specs.Command.{job_from, practi}
use Rattle.pr_words.specs.Words.{Answers, job_of}
use Rattle.pr_words.proofs.Exact.{not_taken, taken}

pub all_utf8 : {Z : Type 0} (ws : List (String Z)) → AllByRecursion IsUtf8 (map string_bytes ws)
all_utf8 [] = tt
all_utf8 (w ∷ ws) = (IsUtf8-string_bytes w, all_utf8 ws)

-- the matches of words without a fault ask for the job
pub job_is : (words : List Text) → AllByRecursion IsUtf8 words → (a : App) (f : Found) → a ≡ practi → rows_of f ≡ matches_of a words → fault_of a words ≡ []
    → job_from (first_value f) ≡ job_of words
job_is words u a f is rows none =
    let values : first_value f ≡ (λ (id : Text). first_of id (matches_of practi words)) =
    λ i id. (first_value-rows f id ∙ ap (first_of id) (rows ∙ ap (λ (x : App). matches_of x words) is)) i in
    ap job_from values ∙ taken words u (sym (ap (λ (x : App). fault_of x words) is) ∙ none)

among : (words : List Text) → AllByRecursion IsUtf8 words → (k : ErrorKind) (kinds : Kinds) → fault_of practi words ≡ kinds → IsAmong k kinds → job_of words ≡ None
among words u k [] e h = absurd h
among words u k (l ∷ ls) e h = not_taken words u l ls e

-- words that are refused ask for none, unless memory ran out
pub refused_is : (words : List Text) → AllByRecursion IsUtf8 words → (a : App) (f : WordsFault) (k : ErrorKind) → a ≡ practi
    → (k ≡ kind.OutOfMemory → f ≡ faults.NoMemory) → (k ≡ kind.OutOfMemory) ⊎ IsAmong k (fault_of a words) → Answers (Err f) (job_of words)
refused_is words u a faults.NoMemory k is n h = tt
refused_is words u a faults.Usage k is n h = elim h [
  | inl e ↦ absurd (let x = n e in cc)
  | inr m ↦ among words u k (fault_of practi words) refl (subst (λ (x : App). IsAmong k (fault_of x words)) is m)
]
