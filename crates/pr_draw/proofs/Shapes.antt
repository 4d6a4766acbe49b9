-- Shapes belong to the grammar.
use Rattle.std.proofs.Common.{ℕ, List, [], ◌∷◌, refl}
use Rattle.std.specs.Prelude.{codes, decimal}
use Rattle.pr_draw.specs.declared.place.Place.{Place}
use Rattle.pr_draw.specs.Tags.{attribute, escaped, label_text, line_text, number, symbol_text, words}
use Rattle.pr_draw.specs.Xml.{IsContent}
use Rattle.pr_draw.proofs.Grammar.{a_text, element_content, empty_content, text_content, two_texts}

pub line_content : (stroke way : List ℕ) (from to : Place) → IsContent (line_text stroke way from to)
line_content stroke way from to =
    empty_content (codes "line") (words (codes "class") stroke way ∷ number (codes "x1") from.x ∷ number (codes "y1") from.y ∷ number (codes "x2") to.x ∷ number (codes "y2") to.y ∷ [])
    (record {
      named = refl;
      distinct = (refl, two_texts stroke way, refl, (refl, a_text (decimal from.x), refl, (refl, a_text (decimal from.y), refl, (refl, a_text (decimal to.x), refl, (refl, a_text (decimal to.y), refl, tt)))));
    })

pub symbol_content : (href : List ℕ) (at : Place) → IsContent (symbol_text href at)
symbol_content href at =
    empty_content (codes "use") (attribute (codes "href") href ∷ number (codes "x") at.x ∷ number (codes "y") at.y ∷ [])
    (record { named = refl; distinct = (refl, a_text href, refl, (refl, a_text (decimal at.x), refl, (refl, a_text (decimal at.y), refl, tt))) })

pub label_content : (font : List ℕ) (at : Place) (said : List ℕ) → IsContent (label_text font at said)
label_content font at said =
    element_content (codes "text") (attribute (codes "class") font ∷ number (codes "x") at.x ∷ number (codes "y") at.y ∷ []) (escaped said)
    (record { named = refl; distinct = (refl, a_text font, refl, (refl, a_text (decimal at.x), refl, (refl, a_text (decimal at.y), refl, tt))) })
    (text_content (escaped said) (a_text said))
