-- The group of a line.
use Rattle.std.proofs.Common.{◌≡◌, ℕ, List, [], ◌∷◌, ◌++◌, Result, Ok, Err, refl, ap, ◌∙◌, append_assoc}
use Rattle.std.specs.Prelude.{OnOk, codes}
use Rattle.pr_stamps.specs.declared.no_memory.NoMemory.{NoMemory}
use Rattle.pr_draw.specs.Pictures.{IsGroup}
use Rattle.pr_draw.specs.Tags.{Adds, escaped}
use Rattle.pr_draw.specs.Xml.{IsContent, element_text}
use Rattle.pr_draw.proofs.Grammar.{spells}

group_is : (old words inner : List ℕ)
    → ((((old ++ codes "<g><title>") ++ words) ++ codes "</title>") ++ inner) ++ (codes "</g>" ++ 10 ∷ [])
    ≡ old ++ (element_text (codes "g") [] (element_text (codes "title") [] words ++ inner) ++ 10 ∷ [])
group_is old words inner = simp append_assoc

pub is_group : (line old a b c d new : List ℕ) (r : Result (Unit {0}) NoMemory) → a ≡ old ++ codes "<g><title>" → b ≡ a ++ escaped line → c ≡ b ++ codes "</title>" → Adds IsContent c d
    → OnOk r (new ≡ d ++ (codes "</g>" ++ 10 ∷ [])) → OnOk r (Adds (IsGroup line) old new)
is_group line old a b c d new (Ok done) p q s content is = (
  element_text (codes "g") [] (element_text (codes "title") [] (escaped line) ++ content.0) ++ 10 ∷ [],
  record { words = escaped line; inner = content.0; said = spells line; content = content.1; whole = refl },
  is
      ∙ ap (λ (t : List ℕ). t ++ (codes "</g>" ++ 10 ∷ [])) (content.2 ∙ ap (λ (t : List ℕ). t ++ content.0) (s ∙ ap (λ (t : List ℕ). t ++ codes "</title>") (q ∙ ap (λ (t : List ℕ). t ++ escaped line) p)))
      ∙ group_is old (escaped line) content.0,
)
is_group line old a b c d new (Err fault) p q s content is = is
