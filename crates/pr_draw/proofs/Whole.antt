-- A whole picture.
use Rattle.std.proofs.Common.{◌≡◌, ℕ, List, [], ◌∷◌, ◌++◌, ap, ◌∙◌, append_assoc}
use Rattle.std.specs.Prelude.{codes}
use Rattle.pr_draw.specs.Pictures.{HasGroups, HasPicture, IsOpening, svg_space}
use Rattle.pr_draw.specs.Tags.{Adds}
use Rattle.pr_draw.specs.Xml.{IsContent, IsDocument, tag_text}
use Rattle.pr_draw.proofs.Grammar.{content_more}
use Rattle.pr_draw.proofs.LineByLine.{groups_content}

whole_is : (tag front legend groups : List ℕ)
    → ((((tag ++ 62 ∷ []) ++ front) ++ legend) ++ groups) ++ (codes "</svg>" ++ 10 ∷ []) ≡ (tag ++ (62 ∷ (((front ++ legend) ++ groups) ++ codes "</svg>"))) ++ 10 ∷ []
whole_is tag front legend groups = simp append_assoc

pub has_picture : (text a b c d e : List ℕ) → Adds IsOpening [] a → Adds IsContent a b → Adds IsContent b c → Adds (HasGroups text) c d → e ≡ d ++ (codes "</svg>" ++ 10 ∷ []) → HasPicture text e
has_picture text a b c d e (opening, (attributes, tag, opened), p) (front, sheet, q) (more, legend, r) (groups, has, s) is =
    let end = codes "</svg>" ++ 10 ∷ [] in
    record {
      lines = has.lines;
      rest = has.rest;
      cut = has.cut;
      shows = record {
        attributes = attributes;
        front = front ++ more;
        groups = groups;
        tag = tag;
        content = content_more more sheet legend;
        each = has.each;
        whole =
            is
            ∙ ap (λ (t : List ℕ). t ++ end) (s ∙ ap (λ (t : List ℕ). t ++ groups) (r ∙ ap (λ (t : List ℕ). t ++ more) (q ∙ ap (λ (t : List ℕ). t ++ front) (p ∙ opened))))
            ∙ whole_is (tag_text (codes "svg") (svg_space ∷ attributes)) front more groups;
      };
    }

-- and it is well-formed
pub is_document : (text picture : List ℕ) → HasPicture text picture → IsDocument picture
is_document text picture has =
    let shows = has.shows in
    record {
      name = codes "svg";
      attributes = svg_space ∷ shows.attributes;
      inner = shows.front ++ shows.groups;
      tag = shows.tag;
      content = content_more shows.groups shows.content (groups_content has.lines shows.groups shows.each);
      whole = shows.whole;
    }
