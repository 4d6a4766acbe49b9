-- Known writes, and the next that is to be sent.
use Rattle.std.proofs.Common.{◌≡◌, ◌≢◌, ℕ, ◌⊎◌, inl, inr, List, [], ◌∷◌, refl, sym, ap, subst, ◌∙◌, arith}
use Rattle.std.specs.Prelude.{Option, None, Some}
use Rattle.pr_stamps.specs.Point.{Point, Before}
use Rattle.pr_names.specs.Span.{Span}
use Rattle.pr_inval.specs.declared.kind.Kind.{Kind}
use Rattle.pr_inval.specs.declared.kind.Kind.TheVariants.{Precise}
use Rattle.pr_inval.specs.declared.write_rec.WriteRec.{WriteRec}
use Rattle.pr_story.specs.declared.entry.Entry.{Entry}
use Rattle.pr_story.specs.declared.event.Event.{Event}
use Rattle.pr_story.specs.declared.event.Event.TheVariants.{Wrote, Accepted}
use Rattle.pr_story.specs.Knowledge.{IsOf, TellsOf, HeardOf, Knows}
use Rattle.pr_story.specs.Turns.{IsWriteToSend}
use Rattle.pr_story.specs.Search.{IsKnownAt, IsLesserWrite, IsNextOf}
use Rattle.pr_story.proofs.Known.{known_told}

of_one : (k : Kind) (x y : WriteRec) → IsOf k x → IsOf k y → x ≡ y
of_one (Precise from to write) x y t u = sym t ∙ u
of_one _ x y t u = absurd t

tells_one : (event : Event) (x y : WriteRec) → TellsOf event x → TellsOf event y → x ≡ y
tells_one (Wrote client write body after) x y t u = sym t ∙ u
tells_one (Accepted msg at) x y t u = of_one msg.kind x y t u
tells_one _ x y t u = absurd t

-- of one stamp one write is known
pub knows_one : (j : List Entry) (x y : WriteRec) → Knows j x → Knows j y → x.stamp ≡ y.stamp → x ≡ y
knows_one [] x y k l e = absurd k
knows_one (e ∷ j) x y k l same = elim k [
  | inl a ↦ elim l [ inl b ↦ knows_one j x y a b same | inr b ↦ b.1 x (known_told j x a) same ]
  | inr a ↦ elim l [ inl b ↦ sym (a.1 y (known_told j y b) (sym same)) | inr b ↦ tells_one e.event x y a.0 b.0 ]
]

-- the known write with the stamp of a told one that is known, is that one
pub known_is : (j : List Entry) (told x : WriteRec) (known : Option WriteRec) → IsKnownAt j told.stamp known → x ≡ told → Knows j x → known ≡ Some x
known_is j told x None at is k = absurd (at x (known_told j x k) (ap (λ (w : WriteRec). w.stamp) is))
known_is j told x (Some w) at is k = ap (λ (y : WriteRec). Some y) (knows_one j w x at.0 k (at.1 ∙ sym (ap (λ (y : WriteRec). y.stamp) is)))

pub told_known_one : (j : List Entry) (told write x : WriteRec) → write.stamp ≡ told.stamp → Knows j write → x ≡ told → Knows j x → x ≡ write
told_known_one j told write x e kw is k = knows_one j x write k kw (ap (λ (w : WriteRec). w.stamp) is ∙ sym e)

pub told_unknown : (j : List Entry) (told x : WriteRec) → ((y : WriteRec) → HeardOf j y → y.stamp ≢ told.stamp) → x ≡ told → Knows j x → ⊥
told_unknown j told x none is k = none x (known_told j x k) (ap (λ (w : WriteRec). w.stamp) is)

-- ---- the least of those that some entries tell of

abbrev pub IsNextAmong : List Entry → List Entry → List Span → List ℕ → Option WriteRec → Type 0
IsNextAmong j d names p None = (x : WriteRec) → HeardOf d x → ¬ IsWriteToSend j names p x
IsNextAmong j d names p (Some b) = IsWriteToSend j names p b × ((x : WriteRec) → HeardOf d x → IsWriteToSend j names p x → ¬ Before x.stamp b.stamp)

itself : (s t : Point) → s ≡ t → Before s t → ⊥
itself s t e b = let bad : Before t t = subst (λ (q : Point). Before q t) e b in grind arith

before_both : (r s t : Point) → Before r s → Before s t → Before r t
before_both r s t a b = grind arith

not_before_both : (r s t : Point) → (Before r t → ⊥) → (Before s t → ⊥) → Before r s → Before s r ⊎ (Before r t → ⊥)
not_before_both r s t a b c = inr a

pub among_more : (j d : List Entry) (e : Entry) (names : List Span) (p : List ℕ) (was here r : Option WriteRec) → IsLesserWrite was here r → IsNextAmong j d names p was
    → ((x : WriteRec) → here ≡ Some x → IsWriteToSend j names p x) → ((x : WriteRec) → TellsOf e.event x → IsWriteToSend j names p x → here ≡ Some x) → IsNextAmong j (e ∷ d) names p r
among_more j d e names p None None r is was some all = subst (λ (q : Option WriteRec). IsNextAmong j (e ∷ d) names p q) (sym is) (λ x t w. elim t [ inl now ↦ let bad : None ≡ Some x = all x now w in cc | inr old ↦ was x old w ])
among_more j d e names p None (Some h) r is was some all = subst (λ (q : Option WriteRec). IsNextAmong j (e ∷ d) names p q) (sym is) (
  some h refl,
  λ x t w. elim t [ inl now ↦ let same : Some h ≡ Some x = all x now w in let s : h ≡ x = cc in itself x.stamp h.stamp (ap (λ (y : WriteRec). y.stamp) (sym s)) | inr old ↦ absurd (was x old w) ],
)
among_more j d e names p (Some b) None r is was some all = subst (λ (q : Option WriteRec). IsNextAmong j (e ∷ d) names p q) (sym is) (
  was.0,
  λ x t w. elim t [ inl now ↦ let bad : None ≡ Some x = all x now w in absurd (cc) | inr old ↦ was.1 x old w ],
)
among_more j d e names p (Some b) (Some h) r is was some all = elim is [
  | inl less ↦ subst (λ (q : Option WriteRec). IsNextAmong j (e ∷ d) names p q) (sym less.1) (
    some h refl,
    λ x t w. elim t [
      | inl now ↦ let same : Some h ≡ Some x = all x now w in let s : h ≡ x = cc in itself x.stamp h.stamp (ap (λ (y : WriteRec). y.stamp) (sym s))
      | inr old ↦ λ c. was.1 x old w (before_both x.stamp h.stamp b.stamp c less.0)
    ],
  )
  | inr more ↦ subst (λ (q : Option WriteRec). IsNextAmong j (e ∷ d) names p q) (sym more.1) (
    was.0,
    λ x t w. elim t [
      | inl now ↦ let same : Some h ≡ Some x = all x now w in let s : h ≡ x = cc in subst (λ (q : Point). Before q b.stamp → ⊥) (ap (λ (y : WriteRec). y.stamp) s) more.0
      | inr old ↦ was.1 x old w
    ],
  )
]

-- all entries tell of all known writes
pub among_all : (j : List Entry) (names : List Span) (p : List ℕ) (r : Option WriteRec) → IsNextAmong j j names p r → IsNextOf j names p r
among_all j names p None so = λ x w. so x (known_told j x w.0) w
among_all j names p (Some b) so = (so.0, λ y w. so.1 y (known_told j y w.0) w)
