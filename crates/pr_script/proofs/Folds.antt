-- What one more line or byte does.
use Rattle.std.proofs.Common.{◌≡◌, ◌≢◌, Result, Ok, Err, ℕ, List, [], ◌∷◌, ◌++◌, refl, sym, ap, ◌∙◌, append_assoc}
use Rattle.std.specs.List.{flat_map, AllByRecursion}
use Rattle.std.proofs.lemmas.Grind.{flat_map-append}
use Rattle.std.proofs.lemmas.List.Concat.{flat_map-cons}
use Rattle.std.proofs.lemmas.List.{append-nil}
use Rattle.pr_script.specs.Reading.{Sofar, ended, HasNoEnd, next, start, after, answer_of, StandsFor}
use Rattle.pr_script.specs.Answers.{IsEnd, Told, Answers}
use Rattle.pr_script.specs.declared.script.Script.{Script}
use Rattle.pr_script.specs.declared.fault.ScriptFault.{ScriptFault}
use Rattle.pr_script.specs.declared.fault.ScriptFault.TheVariants as faults

pub after_push : (f : Sofar) (lines : List (List ℕ)) (line : List ℕ) → after f (lines ++ line ∷ []) ≡ next (after f lines) line
after_push f [] line = refl
after_push f (x ∷ lines) line = after_push (next f x) lines line

all-push : {A : Type 0} (P : A → Type 0) (xs : List A) (x : A) → AllByRecursion P xs → P x → AllByRecursion P (xs ++ x ∷ [])
all-push P [] x all one = (one, tt)
all-push P (y ∷ xs) x all one = (all.0, all-push P xs x all.1 one)

-- a byte that ends no line
pub one_byte : (f : Sofar) (rest bytes : List ℕ) (b : ℕ) → (b ≡ 10 → ⊥) → StandsFor f rest bytes → StandsFor f (rest ++ b ∷ []) (bytes ++ b ∷ [])
one_byte f rest bytes b ne (lines, cut, is) = (
  lines,
  record {
    whole = ap (λ (x : List ℕ). x ++ b ∷ []) cut.whole ∙ append_assoc (flat_map ended lines) rest (b ∷ []);
    each = cut.each;
    last = all-push (λ (x : ℕ). x ≢ 10) rest b cut.last ne;
  },
  is,
)

-- the end of a line
pub one_line : (f : Sofar) (rest bytes : List ℕ) → StandsFor f rest bytes → StandsFor (next f rest) [] (bytes ++ 10 ∷ [])
one_line f rest bytes (lines, cut, is) =
    let e : flat_map ended (lines ++ rest ∷ []) ≡ flat_map ended lines ++ (rest ++ 10 ∷ []) = rw (flat_map-append ended lines (rest ∷ []), flat_map-cons ended rest []) (ap (λ (x : List ℕ). flat_map ended lines ++ x) (append-nil (rest ++ 10 ∷ []))) in (
      lines ++ rest ∷ [],
      record {
        whole = ap (λ (x : List ℕ). x ++ 10 ∷ []) cut.whole ∙ append_assoc (flat_map ended lines) rest (10 ∷ []) ∙ sym e ∙ sym (append-nil (flat_map ended (lines ++ rest ∷ [])));
        each = all-push HasNoEnd lines rest cut.each cut.last;
        last = tt;
      },
      ap (λ (g : Sofar). next g rest) is ∙ sym (after_push start lines rest),
    )

pub one_end : (f g : Sofar) (rest none bytes : List ℕ) (b : ℕ) → b ≡ 10 → g ≡ next f rest → none ≡ [] → StandsFor f rest bytes → StandsFor g none (bytes ++ b ∷ [])
one_end f g rest none bytes b e1 e2 e3 h = rw (e1, e2, e3) (one_line f rest bytes h)

pub ended_whole : (f : Sofar) (rest bytes : List ℕ) → rest ≡ [] → StandsFor f rest bytes → IsEnd f bytes
ended_whole f [] bytes e (lines, cut, is) = (lines, [], cut, is)
ended_whole f (b ∷ bs) bytes e h = absurd cc

pub ended_last : (f g : Sofar) (rest bytes : List ℕ) → (rest ≡ [] → ⊥) → g ≡ next f rest → StandsFor f rest bytes → IsEnd g bytes
ended_last f g [] bytes ne e h = absurd (ne refl)
ended_last f g (b ∷ bs) bytes ne e (lines, cut, is) =
    (lines, b ∷ bs, cut, e ∙ ap (λ (x : Sofar). next x (b ∷ bs)) is ∙ sym (after_push start lines (b ∷ bs)))

pub answers : (r : Result Script ScriptFault) (f : Sofar) (bytes : List ℕ) → Told r (answer_of f) → IsEnd f bytes → Answers r bytes
answers (Ok s) f bytes t (lines, rest, cut, is) = (lines, rest, cut, sym t ∙ ap answer_of is)
answers (Err (faults.Bad line why)) f bytes t (lines, rest, cut, is) = (lines, rest, cut, sym t ∙ ap answer_of is)
answers (Err faults.NoMemory) f bytes t e = tt

pub nothing : StandsFor start [] []
nothing = ([], record { whole = refl; each = tt; last = tt }, refl)
