-- What each number gives, one number more.
use Rattle.std.proofs.Common.{◌≡◌, ℕ, ◌+◌, List, [], ◌∷◌, ◌++◌, refl, sym, ap, ◌∙◌, append_assoc, add-one}
use Rattle.std.proofs.lemmas.List.{append-nil}
use Rattle.pr_gen.specs.Topology.{each}

pub each_none : {A : Type 0} (f : ℕ → A) → each 0 f ≡ []
unfolding each
each_none f = refl

pub each_more : {A : Type 0} (n : ℕ) (f : ℕ → A) → each (n + 1) f ≡ each n f ++ f n ∷ []
unfolding each
each_more n f = rw add-one refl

-- a loop that adds them begins with nothing added, and adds the next
pub none_added : {A : Type 0} (f : ℕ → A) (old : List A) → old ≡ old ++ each 0 f
none_added f old = sym (ap (λ (xs : List _). old ++ xs) (each_none f) ∙ append-nil old)

pub one_added : {A : Type 0} (f : ℕ → A) (n : ℕ) (old list : List A) (x : A) → list ≡ old ++ each n f → x ≡ f n → list ++ x ∷ [] ≡ old ++ each (n + 1) f
one_added f n old list x is e = rw (is, e, each_more n f) (append_assoc old (each n f) (f n ∷ []))
