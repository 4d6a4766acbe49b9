-- What is added to a text, and the tags of shapes.
use Rattle.std.specs.Prelude.{ℕ, ◌≡◌, cond, List, [], ◌∷◌, ◌++◌, codes, decimal}
use Rattle.std.specs.List.{flat_map}
use Rattle.pr_draw.specs.declared.place.Place.{Place}
use Rattle.pr_draw.specs.Xml.{Attribute, element_text, empty_text, is_shown, is_special, reference}

-- some bytes of this kind are added
abbrev pub Adds : (List ℕ → Type 0) → List ℕ → List ℕ → Type 0
Adds P old new = (more : List ℕ) × P more × (new ≡ old ++ more)

-- ---- words

-- a byte of words in a text
abbrev pub spelled : ℕ → List ℕ
spelled b = cond (is_special b) (reference b) (cond (is_shown b) (b ∷ []) (63 ∷ []))

abbrev pub escaped : List ℕ → List ℕ
escaped words = flat_map spelled words

-- ---- attributes

abbrev pub attribute : List ℕ → List ℕ → Attribute
attribute name words = record { name = name; text = escaped words }

abbrev pub number : List ℕ → ℕ → Attribute
number name value = attribute name (decimal value)

-- two words with a space between
abbrev pub words : List ℕ → List ℕ → List ℕ → Attribute
words name first second = record { name = name; text = escaped first ++ (32 ∷ escaped second) }

-- ---- shapes

abbrev pub line_text : List ℕ → List ℕ → Place → Place → List ℕ
line_text stroke way from to =
    empty_text (codes "line") (words (codes "class") stroke way ∷ number (codes "x1") from.x ∷ number (codes "y1") from.y ∷ number (codes "x2") to.x ∷ number (codes "y2") to.y ∷ [])

abbrev pub symbol_text : List ℕ → Place → List ℕ
symbol_text href at = empty_text (codes "use") (attribute (codes "href") href ∷ number (codes "x") at.x ∷ number (codes "y") at.y ∷ [])

abbrev pub label_text : List ℕ → Place → List ℕ → List ℕ
label_text font at said =
    element_text (codes "text") (attribute (codes "class") font ∷ number (codes "x") at.x ∷ number (codes "y") at.y ∷ []) (escaped said)
