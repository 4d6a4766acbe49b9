-- Tags, attribute by attribute, and the elements that they become.
use Rattle.std.proofs.Common.{◌≡◌, ℕ, List, [], ◌∷◌, ◌++◌, Result, Ok, Err, refl, sym, ap, ◌∙◌, append_assoc}
use Rattle.std.specs.Prelude.{IsTrue, OnOk, codes}
use Rattle.std.specs.List.{flat_map}
use Rattle.std.proofs.lemmas.Grind.{flat_map-append}
use Rattle.std.proofs.lemmas.List.{append-nil}
use Rattle.std.proofs.lemmas.List.Concat.{flat_map-cons}
use Rattle.pr_stamps.specs.declared.no_memory.NoMemory.{NoMemory}
use Rattle.pr_draw.specs.Tags.{Adds}
use Rattle.pr_draw.specs.Xml.{Attribute, IsContent, IsTag, attribute_text, element_text, empty_text, is_name, tag_text}
use Rattle.pr_draw.proofs.Grammar.{adds_more, content_more, element_content, empty_content, line_end}
use Rattle.pr_draw.specs.Pictures.{IsOpening, svg_space}

-- ---- attributes

-- the text is the old one and a tag with these attributes, which is not ended yet
pub record HasTag (old name : List ℕ) (attributes : List Attribute) (new : List ℕ) : Type 0 where
  pub is : new ≡ old ++ tag_text name attributes

pub tag_begins : {new : List ℕ} (old name : List ℕ) → new ≡ old ++ (60 ∷ name) → HasTag old name [] new
tag_begins old name is = record { is = is ∙ ap (λ (t : List ℕ). old ++ (60 ∷ t)) (sym (append-nil name)) }

pub tag_more : {old mid new name : List ℕ} {attributes : List Attribute} (a : Attribute) → HasTag old name attributes mid → new ≡ mid ++ attribute_text a → HasTag old name (attributes ++ a ∷ []) new
tag_more {old} {mid} {new} {name} {attributes} a h is =
    let one : flat_map attribute_text (a ∷ []) ≡ attribute_text a = flat_map-cons attribute_text a [] ∙ append-nil (attribute_text a) in
    record {
      is =
          is
          ∙ ap (λ (t : List ℕ). t ++ attribute_text a) h.is
          ∙ append_assoc old (tag_text name attributes) (attribute_text a)
          ∙ ap (λ (t : List ℕ). old ++ (60 ∷ t)) (append_assoc name (flat_map attribute_text attributes) (attribute_text a))
          ∙ ap (λ (t : List ℕ). old ++ (60 ∷ (name ++ (flat_map attribute_text attributes ++ t)))) (sym one)
          ∙ ap (λ (t : List ℕ). old ++ (60 ∷ (name ++ t))) (sym (flat_map-append attribute_text attributes (a ∷ [])));
    }

-- ---- elements

empty_is : {old mid new name : List ℕ} {attributes : List Attribute} → HasTag old name attributes mid → new ≡ mid ++ codes "/>" → new ≡ old ++ empty_text name attributes
empty_is {old} {mid} {new} {name} {attributes} h is = is ∙ ap (λ (t : List ℕ). t ++ codes "/>") h.is ∙ append_assoc old (tag_text name attributes) (codes "/>")

pub tag_empty : {old mid name : List ℕ} {attributes : List Attribute} (new : List ℕ) (r : Result (Unit {0}) NoMemory) → HasTag old name attributes mid → OnOk r (new ≡ mid ++ codes "/>")
    → OnOk r (new ≡ old ++ empty_text name attributes)
tag_empty new (Ok done) h is = empty_is h is
tag_empty new (Err fault) h is = is

element_is : (old mid inner new name : List ℕ) (attributes : List Attribute) → HasTag old name attributes mid → new ≡ ((mid ++ 62 ∷ []) ++ inner) ++ (codes "</" ++ (name ++ 62 ∷ [])) → new ≡ old ++ element_text name attributes inner
element_is old mid inner new name attributes h is =
    let end = codes "</" ++ (name ++ 62 ∷ []) in
    is
    ∙ ap (λ (t : List ℕ). ((t ++ 62 ∷ []) ++ inner) ++ end) h.is
    ∙ append_assoc ((old ++ tag_text name attributes) ++ 62 ∷ []) inner end
    ∙ append_assoc (old ++ tag_text name attributes) (62 ∷ []) (inner ++ end)
    ∙ append_assoc old (tag_text name attributes) (62 ∷ (inner ++ end))

pub tag_element : {old mid name : List ℕ} {attributes : List Attribute} (begun inside inner new : List ℕ) (r : Result (Unit {0}) NoMemory)
    → HasTag old name attributes mid → begun ≡ mid ++ 62 ∷ [] → inside ≡ begun ++ inner → OnOk r (new ≡ inside ++ (codes "</" ++ (name ++ 62 ∷ [])))
    → OnOk r (new ≡ old ++ element_text name attributes inner)
tag_element {old} {mid} {name} {attributes} begun inside inner new (Ok done) h p q is =
    element_is old mid inner new name attributes h (is ∙ ap (λ (t : List ℕ). t ++ (codes "</" ++ (name ++ 62 ∷ []))) (q ∙ ap (λ (t : List ℕ). t ++ inner) p))
tag_element begun inside inner new (Err fault) h p q is = is

-- ---- content on a line of its own

pub adds : (old more new : List ℕ) (r : Result (Unit {0}) NoMemory) → IsContent more → OnOk r (new ≡ old ++ more) → OnOk r (Adds IsContent old new)
adds old more new (Ok done) content is = (more, content, is)
adds old more new (Err fault) content is = is

-- an empty element and a line's end
pub adds_empty : {old mid name : List ℕ} {attributes : List Attribute} (new : List ℕ) (r : Result (Unit {0}) NoMemory) → IsTag name attributes → HasTag old name attributes mid → OnOk r (new ≡ mid ++ (codes "/>" ++ 10 ∷ []))
    → OnOk r (Adds IsContent old new)
adds_empty {old} {mid} {name} {attributes} new (Ok done) tag h is = (
  empty_text name attributes ++ 10 ∷ [],
  content_more (10 ∷ []) (empty_content name attributes tag) line_end,
  is
      ∙ sym (append_assoc mid (codes "/>") (10 ∷ []))
      ∙ ap (λ (t : List ℕ). t ++ 10 ∷ []) (empty_is h refl)
      ∙ append_assoc old (empty_text name attributes) (10 ∷ []),
)
adds_empty new (Err fault) tag h is = is

-- an element and a line's end
pub adds_element : {old mid name : List ℕ} {attributes : List Attribute} (begun inside inner new : List ℕ) (r : Result (Unit {0}) NoMemory)
    → IsTag name attributes → IsContent inner → HasTag old name attributes mid → begun ≡ mid ++ 62 ∷ [] → inside ≡ begun ++ inner → OnOk r (new ≡ inside ++ ((codes "</" ++ (name ++ 62 ∷ [])) ++ 10 ∷ []))
    → OnOk r (Adds IsContent old new)
adds_element {old} {mid} {name} {attributes} begun inside inner new (Ok done) tag content h p q is =
    let end = codes "</" ++ (name ++ 62 ∷ []) in
    let same : inside ++ end ≡ ((mid ++ 62 ∷ []) ++ inner) ++ end = ap (λ (t : List ℕ). t ++ end) (q ∙ ap (λ (t : List ℕ). t ++ inner) p) in (
      element_text name attributes inner ++ 10 ∷ [],
      content_more (10 ∷ []) (element_content name attributes inner tag content) line_end,
      is
          ∙ sym (append_assoc inside end (10 ∷ []))
          ∙ ap (λ (t : List ℕ). t ++ 10 ∷ []) (element_is old mid inner (inside ++ end) name attributes h same)
          ∙ append_assoc old (element_text name attributes inner) (10 ∷ []),
    )
adds_element begun inside inner new (Err fault) tag content h p q is = is

pub adds_on : (old mid new : List ℕ) (r : Result (Unit {0}) NoMemory) → Adds IsContent old mid → OnOk r (Adds IsContent mid new) → OnOk r (Adds IsContent old new)
adds_on old mid new (Ok done) a b = adds_more old mid new a b
adds_on old mid new (Err fault) a b = b

-- an element with no attributes, between the ends of lines
pub adds_block : (old begun inside new name inner : List ℕ) (r : Result (Unit {0}) NoMemory) → IsTrue (is_name name) → IsContent inner
    → begun ≡ old ++ (10 ∷ (60 ∷ (name ++ 62 ∷ []))) → inside ≡ begun ++ inner → OnOk r (new ≡ inside ++ ((codes "</" ++ (name ++ 62 ∷ [])) ++ 10 ∷ [])) → OnOk r (Adds IsContent old new)
adds_block old begun inside new name inner r named content p q is =
    let below = old ++ 10 ∷ [] in
    let h : HasTag below name [] (below ++ (60 ∷ name)) = tag_begins below name refl in
    adds_on old below new r (10 ∷ [], line_end, refl)
    (adds_element begun inside inner new r (record { named = named; distinct = tt }) content h
    (p ∙ sym (append_assoc old (10 ∷ []) (60 ∷ (name ++ 62 ∷ []))) ∙ sym (append_assoc below (60 ∷ name) (62 ∷ []))) q is)

pub opens : (old mid new : List ℕ) (attributes : List Attribute) (r : Result (Unit {0}) NoMemory) → IsTag (codes "svg") (svg_space ∷ attributes) → HasTag old (codes "svg") (svg_space ∷ attributes) mid
    → OnOk r (new ≡ mid ++ 62 ∷ []) → OnOk r (Adds IsOpening old new)
opens old mid new attributes (Ok done) tag h is = (
  tag_text (codes "svg") (svg_space ∷ attributes) ++ 62 ∷ [],
  (attributes, tag, refl),
  is ∙ ap (λ (t : List ℕ). t ++ 62 ∷ []) h.is ∙ append_assoc old (tag_text (codes "svg") (svg_space ∷ attributes)) (62 ∷ []),
)
opens old mid new attributes (Err fault) tag h is = is
