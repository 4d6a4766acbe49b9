-- New entries without what their jobs say of them.
use Rattle.std.proofs.Common.{◌≡◌, List, [], ◌∷◌, ◌++◌, refl, sym, ◌∙◌, ap, reverse}
use Rattle.std.proofs.lemmas.List.{reverse-append}
use Rattle.pr_story.specs.History.{NodeEntry}
use Rattle.pr_story.specs.Merging.{New, plain}

pub plain_append : (xs ys : List New) → plain (xs ++ ys) ≡ plain xs ++ plain ys
plain_append [] ys = refl
plain_append (x ∷ xs) ys = ap (λ (es : List NodeEntry). x.made ∷ es) (plain_append xs ys)

pub plain_reverse : (xs : List New) → plain (reverse xs) ≡ reverse (plain xs)
plain_reverse [] = refl
plain_reverse (x ∷ xs) =
    ap plain (reverse-append (x ∷ []) xs) ∙ plain_append (reverse xs) (x ∷ []) ∙ ap (λ (ms : List NodeEntry). ms ++ x.made ∷ []) (plain_reverse xs) ∙ sym (reverse-append (x.made ∷ []) (plain xs))
