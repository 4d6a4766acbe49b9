-- Texts that are kept for the lines to come.
use Rattle.std.specs.Prelude.{◌≡◌, ◌⊎◌, ◌≤◌, ◌<◌, ◌++◌, ℕ, List, [], length, take, drop, slice_index_or}
use Rattle.pr_vectors.specs.Vector.{clock_of}
use Rattle.pr_text.specs.Texts.{clocks, more, part}
use Rattle.pr_text.specs.declared.vector_text.VectorText.{VectorText}

-- there is no text, or it is that of the vector over these labels, each clock behind a comma
abbrev pub IsTextOf : List (List ℕ) → VectorText → Type 0
IsTextOf labels v = (v.text ≡ []) ⊎ (v.text ≡ more 44 (clocks labels 0 v.vector))

-- each of them is such a text
abbrev pub AreTextsOf : List (List ℕ) → List VectorText → Type 0
AreTextsOf labels vs = (k : ℕ) (d : VectorText) → k < length vs → IsTextOf labels (slice_index_or vs k d)

-- the clocks of the vector, each behind a comma, are the text but for what stands between the places, where the node's is
pub record IsBut (labels : List (List ℕ)) (text v : List ℕ) (node start end : ℕ) : Type 0 where
  pub known : node < length labels
  pub rises : start ≤ end
  pub inside : end ≤ length text
  pub told : (d : List ℕ) → more 44 (clocks labels 0 v) ≡ take start text ++ (part (slice_index_or labels node d) (clock_of v node) ++ drop end text)
