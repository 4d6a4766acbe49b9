-- The bodies stay tied over one more entry.
use Rattle.std.proofs.Common.{◌≡◌, ◌⊎◌, inl, inr, ℕ, inr, List, ◌∷◌, cond, refl, ◌∙◌, ap, arith}
use Rattle.std.specs.Prelude.{Bool, true, false, Option, None, ◌&&◌}
use Rattle.std.specs.Str.{bytes_eq}
use Rattle.std.proofs.lemmas.Slice.Eq.{bytes_eq-Decides}
use Rattle.std.proofs.lemmas.Bool.Decides.{nat_tests}
use Rattle.pr_stamps.specs.Point.{Point, Before, is_before}
use Rattle.pr_bodies.specs.Bodies.{IsSettled, Held, held}
use Rattle.pr_story.specs.declared.entry.Entry.{Entry}
use Rattle.pr_story.specs.Knowledge.{WasNamed, body_after}
use Rattle.pr_node.specs.Ties.{IsBodiesOf}

-- the store after, at each name and stamp that no known stamp is after, is what the event makes of the store before
pub body_step : (e : Entry) (j : List Entry) (a b : Held)
    → ((o : List ℕ) (t : Point) → ((s : Point) → WasNamed (e ∷ j) o s → ¬ Before t s) → held b o t ≡ body_after e.event o t (held a o t))
    → IsBodiesOf j a → IsBodiesOf (e ∷ j) b
body_step e j a b step f = record {
  bodies = λ o t latest. step o t latest ∙ ap (λ (x : Option (List ℕ)). body_after e.event o t x) (f.bodies o t (λ s w. latest s (inr w)));
}

pub is_before_tells : (s t : Point) → is_before s t ≡ true → Before s t
is_before_tells s t e = grind (arith, nat_tests)

settled_cond : (b c : Bool) (x : Option (List ℕ)) → (b ≡ true → c ≡ true → ⊥) → cond (b && c) None x ≡ x
settled_cond true true x none = absurd (none refl refl)
settled_cond true false x none = refl
settled_cond false c x none = refl

-- where no known stamp is after this one, what was settled is not missed
pub settled_by : (name o : List ℕ) (stamp t : Point) {x : Option (List ℕ)} → (name ≡ o → Before t stamp → ⊥) → cond (bytes_eq name o && is_before t stamp) None x ≡ x
settled_by name o stamp t {x = x} none =
    settled_cond (bytes_eq name o) (is_before t stamp) x (λ same before. none ((bytes_eq-Decides name o).0 same) (is_before_tells t stamp before))

-- nor where all was left as it was
pub kept_by : (a b : Held) (name o : List ℕ) (stamp t : Point) → IsSettled a b name stamp ⊎ (b ≡ a) → (name ≡ o → Before t stamp → ⊥) → held b o t ≡ held a o t
kept_by a b name o stamp t left none = elim left [
  | inl settled ↦ settled o t ∙ settled_by name o stamp t none
  | inr same ↦ ap (λ (h : Held). held h o t) same
]

not_before_tells : (s t : Point) → is_before s t ≡ false → Before s t → ⊥
not_before_tells s t e before = grind (arith, nat_tests)

not_both : (b : Bool) → b ≡ false → b ≡ true → ⊥
not_both b e g = cc

-- a body stays, or it is gone, as its stamp is before this one of its name
pub settled_or : (a b : Held) (name o : List ℕ) (stamp t : Point) → IsSettled a b name stamp → ((held b o t ≡ held a o t) × ¬ ((name ≡ o) × Before t stamp)) ⊎ ((held b o t ≡ None) × (name ≡ o) × Before t stamp)
settled_or a b name o stamp t settled = by (bytes_eq name o) (is_before t stamp) refl refl
  where
    by : (p q : Bool) → bytes_eq name o ≡ p → is_before t stamp ≡ q → ((held b o t ≡ held a o t) × ¬ ((name ≡ o) × Before t stamp)) ⊎ ((held b o t ≡ None) × (name ≡ o) × Before t stamp)
    by true true e g = inr (settled o t ∙ ap (λ (x : Bool). cond (x && is_before t stamp) None (held a o t)) e ∙ ap (λ (x : Bool). cond x None (held a o t)) g, (bytes_eq-Decides name o).0 e, is_before_tells t stamp g)
    by true false e g = inl (settled o t ∙ ap (λ (x : Bool). cond (x && is_before t stamp) None (held a o t)) e ∙ ap (λ (x : Bool). cond x None (held a o t)) g, λ h. not_before_tells t stamp g h.1)
    by false q e g = inl (settled o t ∙ ap (λ (x : Bool). cond (x && is_before t stamp) None (held a o t)) e, λ h. not_both (bytes_eq name o) e ((bytes_eq-Decides name o).1 h.0))
