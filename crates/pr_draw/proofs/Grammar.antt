-- What belongs to the grammar.
use Rattle.std.proofs.Common.{◌≡◌, ℕ, Bool, true, false, cond, List, [], ◌∷◌, ◌++◌, refl, sym, ap, subst, ◌∙◌, append_assoc}
use Rattle.std.proofs.lemmas.Grind.{flat_map-append}
use Rattle.std.proofs.lemmas.List.{append-nil}
use Rattle.std.proofs.lemmas.List.Concat.{flat_map-cons}
use Rattle.pr_draw.specs.Tags.{Adds, escaped, spelled}
use Rattle.pr_draw.specs.Xml.{Attribute, IsContent, IsTag, IsText, Spells, blank, element, element_text, empty, empty_text, is_shown, is_special, nothing, plain, reference, referred, text, unshown}

-- ---- words

spells_byte : (b : ℕ) (t w : List ℕ) → Spells t w → Spells (spelled b ++ t) (b ∷ w)
spells_byte b t w s = by (is_special b) refl (is_shown b) refl
  where
    by : (x : Bool) → is_special b ≡ x → (y : Bool) → is_shown b ≡ y → Spells (cond x (reference b) (cond y (b ∷ []) (63 ∷ [])) ++ t) (b ∷ w)
    by true p y q = referred b t w p s
    by false p true q = plain b t w p q s
    by false p false q = unshown b t w p q s

-- what is written of words is read as these words
pub spells : (words : List ℕ) → Spells (escaped words) words
spells [] = nothing
spells (b ∷ bs) = subst (λ (t : List ℕ). Spells t (b ∷ bs)) (sym (flat_map-cons spelled b bs)) (spells_byte b (escaped bs) bs (spells bs))

pub a_text : (words : List ℕ) → IsText (escaped words)
a_text words = (words, spells words)

-- two words with a space between
pub two_texts : (first second : List ℕ) → IsText (escaped first ++ (32 ∷ escaped second))
two_texts first second =
    subst IsText
    (flat_map-append spelled first (32 ∷ second) ∙ ap (λ (t : List ℕ). escaped first ++ t) (flat_map-cons spelled 32 second))
    (a_text (first ++ 32 ∷ second))

-- ---- content

pub content_more : {xs : List ℕ} (ys : List ℕ) → IsContent xs → IsContent ys → IsContent (xs ++ ys)
content_more ys blank more = more
content_more ys (text t rest is c) more = subst IsContent (sym (append_assoc t rest ys)) (text t (rest ++ ys) is (content_more ys c more))
content_more ys (element name attributes inner rest tag inside c) more =
    subst IsContent (sym (append_assoc (element_text name attributes inner) rest ys)) (element name attributes inner (rest ++ ys) tag inside (content_more ys c more))
content_more ys (empty name attributes rest tag c) more =
    subst IsContent (sym (append_assoc (empty_text name attributes) rest ys)) (empty name attributes (rest ++ ys) tag (content_more ys c more))

pub text_content : (t : List ℕ) → IsText t → IsContent t
text_content t is = subst IsContent (append-nil t) (text t [] is blank)

pub element_content : (name : List ℕ) (attributes : List Attribute) (inner : List ℕ) → IsTag name attributes → IsContent inner → IsContent (element_text name attributes inner)
element_content name attributes inner tag inside = subst IsContent (append-nil (element_text name attributes inner)) (element name attributes inner [] tag inside blank)

pub empty_content : (name : List ℕ) (attributes : List Attribute) → IsTag name attributes → IsContent (empty_text name attributes)
empty_content name attributes tag = subst IsContent (append-nil (empty_text name attributes)) (empty name attributes [] tag blank)

pub line_end : IsContent (10 ∷ [])
line_end = text_content (10 ∷ []) (a_text (10 ∷ []))

-- ---- what is added

pub adds_none : (old new : List ℕ) → new ≡ old → Adds IsContent old new
adds_none old new is = ([], blank, is ∙ sym (append-nil old))

pub adds_more : (old mid new : List ℕ) → Adds IsContent old mid → Adds IsContent mid new → Adds IsContent old new
adds_more old mid new a b = (
  a.0 ++ b.0,
  content_more b.0 a.1 b.1,
  b.2 ∙ ap (λ (t : List ℕ). t ++ b.0) a.2 ∙ append_assoc old a.0 b.0,
)
