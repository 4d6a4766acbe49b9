-- The picture of a text's lines.
use Rattle.std.specs.Prelude.{ℕ, ◌≡◌, ◌<◌, List, [], ◌∷◌, ◌++◌, codes, length, slice_index, take}
use Rattle.pr_script.specs.Reading.{HasNoEnd, IsCut}
use Rattle.pr_draw.specs.Xml.{Attribute, IsContent, IsTag, Spells, element_text, tag_text}

-- ---- lines

-- the text's first line, without its end, and what is behind it
pub record IsFirstLine (text line behind : List ℕ) : Type 0 where
  pub unended : HasNoEnd line
  pub whole : text ≡ line ++ 10 ∷ behind

-- the first end of a line stands there
pub record IsFirstEnd (text : List ℕ) (at : ℕ) : Type 0 where
  pub within : at < length text
  pub unended : HasNoEnd (take at text)
  pub end : slice_index text at ≡ 10

-- ---- groups

-- the group of a line: one element, which begins with a title that has the line's own words
pub record IsGroup (line group : List ℕ) : Type 0 where
  pub words : List ℕ
  pub inner : List ℕ
  pub said : Spells words line
  pub content : IsContent inner
  pub whole : group ≡ element_text (codes "g") [] (element_text (codes "title") [] words ++ inner) ++ 10 ∷ []

-- one group for each line, in their order
abbrev pub AreGroups : List (List ℕ) → List ℕ → Type 0
AreGroups [] text = text ≡ []
AreGroups (line ∷ lines) text = (group : List ℕ) × (rest : List ℕ) × IsGroup line group × AreGroups lines rest × (text ≡ group ++ rest)

-- the groups of a text's lines; what stands behind the last line's end has none
pub record HasGroups (text groups : List ℕ) : Type 0 where
  pub lines : List (List ℕ)
  pub rest : List ℕ
  pub cut : IsCut text lines rest
  pub each : AreGroups lines groups

-- what makes it an SVG
abbrev pub svg_space : Attribute
svg_space = record { name = codes "xmlns"; text = codes "http://www.w3.org/2000/svg" }

-- the beginning of such an element, as far as its content
abbrev pub IsOpening : List ℕ → Type 0
IsOpening text = (attributes : List Attribute) × IsTag (codes "svg") (svg_space ∷ attributes) × (text ≡ tag_text (codes "svg") (svg_space ∷ attributes) ++ 62 ∷ [])

-- an element `svg` with the groups of the lines in it, and something before them
pub record IsPicture (lines : List (List ℕ)) (picture : List ℕ) : Type 0 where
  pub attributes : List Attribute
  pub front : List ℕ
  pub groups : List ℕ
  pub tag : IsTag (codes "svg") (svg_space ∷ attributes)
  pub content : IsContent front
  pub each : AreGroups lines groups
  pub whole : picture ≡ element_text (codes "svg") (svg_space ∷ attributes) (front ++ groups) ++ 10 ∷ []

-- it is one of a text's lines
pub record HasPicture (text picture : List ℕ) : Type 0 where
  pub lines : List (List ℕ)
  pub rest : List ℕ
  pub cut : IsCut text lines rest
  pub shows : IsPicture lines picture
