-- A small grammar of XML: all that is written belongs to it.
use Rattle.std.specs.Prelude.{ℕ, ◌≡◌, Bool, true, false, not, cond, ◌==◌, ◌&&◌, ◌||◌, nat_le, List, [], ◌∷◌, ◌++◌, IsTrue, codes}
use Rattle.std.specs.List.{flat_map, list_all, list_any}
use Rattle.std.specs.Str.{bytes_eq}

-- ---- text

-- less, greater, ampersand and double quote, which stand for no words in a text
abbrev pub is_special : ℕ → Bool
is_special b = (b == 60) || ((b == 62) || ((b == 38) || (b == 34)))

-- the reference that stands for such a byte
abbrev pub reference : ℕ → List ℕ
reference b = cond (b == 60) (codes "&lt;") (cond (b == 62) (codes "&gt;") (cond (b == 38) (codes "&amp;") (codes "&quot;")))

-- a space, visible ASCII or the end of a line
abbrev pub is_shown : ℕ → Bool
is_shown b = (nat_le 32 b && nat_le b 126) || (b == 10)

-- the text, as XML is read, has these words; a byte that is not shown has a question mark in its place
pub data Spells : List ℕ → List ℕ → Type 0 where
  nothing : Spells [] []
  plain : (b : ℕ) (text words : List ℕ) → is_special b ≡ false → is_shown b ≡ true → Spells text words → Spells (b ∷ text) (b ∷ words)
  referred : (b : ℕ) (text words : List ℕ) → is_special b ≡ true → Spells text words → Spells (reference b ++ text) (b ∷ words)
  unshown : (b : ℕ) (text words : List ℕ) → is_special b ≡ false → is_shown b ≡ false → Spells text words → Spells (63 ∷ text) (b ∷ words)

-- the bytes are a text
abbrev pub IsText : List ℕ → Type 0
IsText text = (words : List ℕ) × Spells text words

-- ---- names and attributes

abbrev pub is_letter : ℕ → Bool
is_letter b = (nat_le 97 b && nat_le b 122) || (nat_le 65 b && nat_le b 90)

abbrev pub is_name_byte : ℕ → Bool
is_name_byte b = is_letter b || ((nat_le 48 b && nat_le b 57) || (b == 45))

-- a letter, and letters, digits and hyphens behind it
abbrev pub is_name : List ℕ → Bool
is_name [] = false
is_name (b ∷ bs) = is_letter b && list_all is_name_byte bs

-- a name and a text
pub record Attribute : Type 0 where
  pub name : List ℕ
  pub text : List ℕ

-- a space, and the text in quotes behind the name
abbrev pub attribute_text : Attribute → List ℕ
attribute_text a = 32 ∷ (a.name ++ (codes "=\"" ++ (a.text ++ 34 ∷ [])))

-- of these attributes none has this name
abbrev pub is_new : List ℕ → List Attribute → Bool
is_new name attributes = not (list_any (λ a. bytes_eq name a.name) attributes)

-- names with texts, no name twice
abbrev pub AreAttributes : List Attribute → Type 0
AreAttributes [] = Unit {0}
AreAttributes (a ∷ more) = IsTrue (is_name a.name) × IsText a.text × IsTrue (is_new a.name more) × AreAttributes more

-- ---- elements

-- a tag's name with its attributes
pub record IsTag (name : List ℕ) (attributes : List Attribute) : Type 0 where
  pub named : IsTrue (is_name name)
  pub distinct : AreAttributes attributes

abbrev pub tag_text : List ℕ → List Attribute → List ℕ
tag_text name attributes = 60 ∷ (name ++ flat_map attribute_text attributes)

-- an element with this between its tags
abbrev pub element_text : List ℕ → List Attribute → List ℕ → List ℕ
element_text name attributes inner = tag_text name attributes ++ (62 ∷ (inner ++ (codes "</" ++ (name ++ 62 ∷ []))))

-- an element with nothing in it
abbrev pub empty_text : List ℕ → List Attribute → List ℕ
empty_text name attributes = tag_text name attributes ++ codes "/>"

-- texts and elements, one behind the other
pub data IsContent : List ℕ → Type 0 where
  blank : IsContent []
  text : (text rest : List ℕ) → IsText text → IsContent rest → IsContent (text ++ rest)
  element : (name : List ℕ) (attributes : List Attribute) (inner rest : List ℕ) → IsTag name attributes → IsContent inner → IsContent rest → IsContent (element_text name attributes inner ++ rest)
  empty : (name : List ℕ) (attributes : List Attribute) (rest : List ℕ) → IsTag name attributes → IsContent rest → IsContent (empty_text name attributes ++ rest)

-- one element, and the end of its last line
pub record IsDocument (text : List ℕ) : Type 0 where
  pub name : List ℕ
  pub attributes : List Attribute
  pub inner : List ℕ
  pub tag : IsTag name attributes
  pub content : IsContent inner
  pub whole : text ≡ element_text name attributes inner ++ 10 ∷ []
