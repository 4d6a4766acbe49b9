-- Two tests that agree on names are one set.
use Rattle.std.proofs.Common.{◌≡◌, ℕ, List, Bool, inl, inr, sym, subst}
use Rattle.std.specs.Prelude.{IsTrue}
use Rattle.pr_stamps.specs.Point.{Point}
use Rattle.pr_names.specs.Name.{IsName}
use Rattle.pr_sets.specs.Spans.{Meet}
use Rattle.pr_story.specs.declared.entry.Entry.{Entry}
use Rattle.pr_story.specs.Told.{IsTold, IsPrecise, IsUntold}

abbrev pub AgreeOnNames : (List ℕ → Bool) → (List ℕ → Bool) → Type 0
AgreeOnNames a b = (o : List ℕ) → IsName o → a o ≡ b o

pub agree_back : (a b : List ℕ → Bool) → AgreeOnNames a b → AgreeOnNames b a
agree_back a b same = λ o name. sym (same o name)

pub meet_same : (t a b : List ℕ → Bool) → AgreeOnNames a b → Meet t a → Meet t b
meet_same t a b same m = (m.0, m.1, m.2, subst (λ (x : Bool). IsTrue x) (same m.0 m.1) m.3)

pub told_same : (n : ℕ) (j : List Entry) (a b : List ℕ → Bool) (p : Point) → AgreeOnNames a b → IsTold n j a p → IsTold n j b p
told_same n j a b p same t = elim t [
  | inl own ↦ inl own
  | inr k ↦ inr (k.0, k.1, (k.2.0, λ m. k.2.1 (meet_same _ b a (agree_back a b same) m)))
]

pub precise_same : (n : ℕ) (j : List Entry) (a b : List ℕ → Bool) → AgreeOnNames a b → IsPrecise n j a → IsPrecise n j b
precise_same n j a b same precise p c = told_same n j a b p same (precise p c)

pub untold_same : (n : ℕ) (j : List Entry) (a b : List ℕ → Bool) (p : Point) → AgreeOnNames a b → IsUntold n j a p → IsUntold n j b p
untold_same n j a b p same u = (
  u.0,
  λ t. u.1 (told_same n j b a p (agree_back a b same) t),
  λ q c n2. u.2 q c (λ t. n2 (told_same n j a b q same t)),
)
