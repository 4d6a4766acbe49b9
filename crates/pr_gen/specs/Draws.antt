-- Draws from a generator of words.
use Rattle.std.specs.Prelude.{ℕ, ◌%◌}
use Rattle.rand_core.specs.Pcg32Seed.{pcg32_seed}
use Rattle.rand_pcg.specs.Lcg.{Lcg}
use Rattle.rand_pcg.specs.Pcg.{pcg32, pcg32_of_seed}

-- what is drawn, and the generator behind the draws
abbrev pub Drawn : Type 0 → Type 0
Drawn A = Lcg → A × Lcg

-- one after the other
infixl 10 ◌>>=◌
abbrev pub ◌>>=◌ : {A B : Type 0} → Drawn A → (A → Drawn B) → Drawn B
d >>= f = λ g. f (d g).0 (d g).1

-- nothing more is drawn
abbrev pub done : {A : Type 0} → A → Drawn A
done a = λ g. (a, g)

-- the generator of a seed
abbrev pub seeded : ℕ → Lcg
seeded seed = pcg32_of_seed (pcg32_seed 16 seed)

-- a word of 32 bits
unfoldable pub word : Drawn ℕ
word = pcg32

-- a word's remainder
unfoldable pub below : ℕ → Drawn ℕ
below count = do
  w ← word
  done (w % count)
