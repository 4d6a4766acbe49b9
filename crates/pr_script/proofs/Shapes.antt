-- The parts of a line, printed, are read again.
use Rattle.std.proofs.Common.{◌≡◌, ℕ, ◌^◌, ◌<◌, ◌≤◌, Bool, true, false, ◌&&◌, List, [], ◌∷◌, ◌++◌, get_or, Option, Some, None, Ok, refl, sym, ap, subst, ◌∙◌, arith}
use Rattle.std.specs.Prelude.{is_some, decimal}
use Rattle.std.specs.Str.{bytes_eq}
use Rattle.std.specs.List.{position}
use Rattle.std.proofs.lemmas.List.Quantifiers.{position-Some}
use Rattle.pr_script.specs.declared.kind.Kind.{Kind}
use Rattle.pr_script.specs.declared.kind.Kind.TheVariants as kinds
use Rattle.pr_script.specs.declared.known.Known.{Known}
use Rattle.pr_script.specs.declared.parts.Written.{Written}
use Rattle.pr_script.specs.Fields.{◌>>=◌, or_zero, or_none, field_at, last_field, number_in, name_of}
use Rattle.pr_script.specs.Texts.{last_text}
use Rattle.pr_script.specs.Labels.{is_label, labels_of, number_among}
use Rattle.pr_script.specs.Parts.{least_broken, judged, is_used, number, label_at, name_at, turns_at, home_at, written_at}
use Rattle.pr_script.specs.Printing.{label_text, label_field, quoted}
use Rattle.pr_script.proofs.FieldsAgain.{IsField, bind_ok, field_again, last_again, field_is_field, last_is_field}
use Rattle.pr_script.proofs.Positions.{both, bytes_are}
use Rattle.pr_script.proofs.Visible.{Plain, plain_more, plain_append, visible_plain, label_visible, name_visible, name_is, decimal_visible, decimal_field, quoted_plain}
use Rattle.pr_script.proofs.DecimalAgain.{number_again, number_range}
use Rattle.pr_script.proofs.TextAgain.{quoted_again, last_are_bytes}

-- ---- rules that hold

pub judged_ok : {A : Type 0} (o : Option ℕ) (x y : A) → judged o x ≡ Ok y → (o ≡ None) × (x ≡ y)
judged_ok None x y e = (refl, cc)
judged_ok (Some n) x y e = absurd cc

-- the first rule holds, and so do the others
pub holds : (n : ℕ) (t : Bool) (rs : List (ℕ × Bool)) → least_broken ((n, t) ∷ rs) ≡ None → (t ≡ true) × (least_broken rs ≡ None)
holds n true rs e = (refl, e)
holds n false rs e = absurd cc

-- ---- a label is printed from its number

at_place : (a : List ℕ) (ls : List (List ℕ)) (o : Option ℕ) → position (bytes_eq a) ls ≡ o → is_some o ≡ true → get_or ls (or_zero o) [] ≡ a
at_place a ls None e h = absurd cc
at_place a ls (Some n) e h =
    let p = position-Some (bytes_eq a) ls n [] e in
    sym (bytes_are a (get_or ls n []) p.1)

pub label_is : (kind : Kind) (k : Known) (label : List ℕ) → is_used kind k label ≡ true → label_text kind k.decls (number kind k label) ≡ label
unfolding label_text
label_is kind k label h = at_place label (labels_of kind k.decls) (number_among kind k.decls label) refl h

-- ---- a label alone

pub label_again : (kind : Kind) (k : Known) (rest : List ℕ) (n : ℕ) → label_at kind k rest ≡ Ok n
    → (label_at kind k (label_field kind k.decls n) ≡ Ok n) × Plain (label_field kind k.decls n)
unfolding label_at
label_again kind k rest n e =
    let a = bind_ok (last_field rest) (λ label. judged (least_broken ((4, is_label label) ∷ (9, is_used kind k label) ∷ [])) (number kind k label)) n e in
    let label = a.0 in
    let j = judged_ok (least_broken ((4, is_label label) ∷ (9, is_used kind k label) ∷ [])) (number kind k label) n a.2 in
    let four = holds 4 (is_label label) ((9, is_used kind k label) ∷ []) j.0 in
    let nine = holds 9 (is_used kind k label) [] four.1 in
    let l : label_text kind k.decls n ≡ label = subst (λ (m : ℕ). label_text kind k.decls m ≡ label) j.1 (label_is kind k label nine.0) in
    let again : label_at kind k (32 ∷ label) ≡ Ok n = rw (last_again label (last_is_field rest label a.1)) a.2 in
    let plain : Plain (32 ∷ label) = plain_more 32 label refl (visible_plain label (label_visible label four.0)) in
    (subst (λ (x : List ℕ). label_at kind k (32 ∷ x) ≡ Ok n) (sym l) again, subst (λ (x : List ℕ). Plain (32 ∷ x)) (sym l) plain)

-- ---- a label and a name

pub name_again : (kind : Kind) (k : Known) (rest : List ℕ) (n : ℕ × List ℕ) → name_at kind k rest ≡ Ok n
    → (name_at kind k (label_field kind k.decls n.0 ++ (32 ∷ n.1)) ≡ Ok n) × Plain (label_field kind k.decls n.0 ++ (32 ∷ n.1))
unfolding name_at
name_again kind k rest n e =
    let a = bind_ok (field_at rest) (λ label. last_field label.1 >>= λ name. judged (least_broken ((4, is_label label.0) ∷ (5, is_some (name_of name)) ∷ (9, is_used kind k label.0) ∷ [])) (number kind k label.0, or_none (name_of name))) n e in
    let label = a.0.0 in
    let b = bind_ok (last_field a.0.1) (λ name. judged (least_broken ((4, is_label label) ∷ (5, is_some (name_of name)) ∷ (9, is_used kind k label) ∷ [])) (number kind k label, or_none (name_of name))) n a.2 in
    let name = b.0 in
    let j = judged_ok (least_broken ((4, is_label label) ∷ (5, is_some (name_of name)) ∷ (9, is_used kind k label) ∷ [])) (number kind k label, or_none (name_of name)) n b.2 in
    let four = holds 4 (is_label label) ((5, is_some (name_of name)) ∷ (9, is_used kind k label) ∷ []) j.0 in
    let five = holds 5 (is_some (name_of name)) ((9, is_used kind k label) ∷ []) four.1 in
    let nine = holds 9 (is_used kind k label) [] five.1 in
    let l : label_text kind k.decls n.0 ≡ label = subst (λ (m : ℕ × List ℕ). label_text kind k.decls m.0 ≡ label) j.1 (label_is kind k label nine.0) in
    let o : n.1 ≡ name = ap (λ (m : ℕ × List ℕ). m.1) (sym j.1) ∙ name_is name five.0 in
    let p : field_at (32 ∷ (label ++ (32 ∷ name))) ≡ Ok (label, 32 ∷ name) = field_again label name (field_is_field rest a.0 a.1) in
    let again : name_at kind k (32 ∷ (label ++ (32 ∷ name))) ≡ Ok n = rw (p, last_again name (last_is_field a.0.1 name b.1)) b.2 in
    let plain : Plain (32 ∷ (label ++ (32 ∷ name))) =
    plain_more 32 (label ++ (32 ∷ name)) refl (plain_append label (32 ∷ name) (visible_plain label (label_visible label four.0)) (plain_more 32 name refl (visible_plain name (name_visible name five.0)))) in (
      subst (λ (x : List ℕ). name_at kind k (32 ∷ (x ++ (32 ∷ n.1))) ≡ Ok n) (sym l) (subst (λ (y : List ℕ). name_at kind k (32 ∷ (label ++ (32 ∷ y))) ≡ Ok n) (sym o) again),
      subst (λ (x : List ℕ). Plain (32 ∷ (x ++ (32 ∷ n.1)))) (sym l) (subst (λ (y : List ℕ). Plain (32 ∷ (label ++ (32 ∷ y)))) (sym o) plain),
    )

-- ---- a stream and a number

turns_said : (most : ℕ) (k : Known) (label : List ℕ) (m : ℕ) → IsField label → IsField (decimal m) → is_label label ≡ true → is_used kinds.Stream k label ≡ true → number_in 1 most (decimal m) ≡ Some m
    → turns_at most k (32 ∷ (label ++ (32 ∷ decimal m))) ≡ Ok (number kinds.Stream k label, m)
unfolding turns_at
turns_said most k label m hl hd four nine d = rw (field_again label (decimal m) hl, last_again (decimal m) hd, d, four, nine) refl

pub turns_again : (most : ℕ) (k : Known) (rest : List ℕ) (n : ℕ × ℕ) → most < 2 ^ 64 → turns_at most k rest ≡ Ok n
    → (turns_at most k (label_field kinds.Stream k.decls n.0 ++ (32 ∷ decimal n.1)) ≡ Ok n) × Plain (label_field kinds.Stream k.decls n.0 ++ (32 ∷ decimal n.1))
unfolding turns_at
turns_again most k rest n small e =
    let a = bind_ok (field_at rest) (λ label. last_field label.1 >>= λ turns. judged (least_broken ((4, is_label label.0) ∷ (7, is_some (number_in 1 most turns)) ∷ (9, is_used kinds.Stream k label.0) ∷ [])) (number kinds.Stream k label.0, or_zero (number_in 1 most turns))) n e in
    let label = a.0.0 in
    let b = bind_ok (last_field a.0.1) (λ turns. judged (least_broken ((4, is_label label) ∷ (7, is_some (number_in 1 most turns)) ∷ (9, is_used kinds.Stream k label) ∷ [])) (number kinds.Stream k label, or_zero (number_in 1 most turns))) n a.2 in
    let turns = b.0 in
    let j = judged_ok (least_broken ((4, is_label label) ∷ (7, is_some (number_in 1 most turns)) ∷ (9, is_used kinds.Stream k label) ∷ [])) (number kinds.Stream k label, or_zero (number_in 1 most turns)) n b.2 in
    let four = holds 4 (is_label label) ((7, is_some (number_in 1 most turns)) ∷ (9, is_used kinds.Stream k label) ∷ []) j.0 in
    let seven = holds 7 (is_some (number_in 1 most turns)) ((9, is_used kinds.Stream k label) ∷ []) four.1 in
    let nine = holds 9 (is_used kinds.Stream k label) [] seven.1 in
    let l : label_text kinds.Stream k.decls n.0 ≡ label = subst (λ (m : ℕ × ℕ). label_text kinds.Stream k.decls m.0 ≡ label) j.1 (label_is kinds.Stream k label nine.0) in
    let v : or_zero (number_in 1 most turns) ≡ n.1 = ap (λ (m : ℕ × ℕ). m.1) j.1 in
    let r = number_range 1 most turns seven.0 in
    let lo : 1 ≤ n.1 = subst (λ (x : ℕ). 1 ≤ x) v r.0 in
    let hi : n.1 ≤ most = subst (λ (x : ℕ). x ≤ most) v r.1 in
    let fits : n.1 < 2 ^ 64 = omega (arith, hi, small) in
    let d : number_in 1 most (decimal n.1) ≡ Some n.1 = number_again 1 most n.1 lo hi fits in
    let made : (number kinds.Stream k label, n.1) ≡ n = ap (λ (x : ℕ). (number kinds.Stream k label, x)) (sym v) ∙ j.1 in
    let again : turns_at most k (32 ∷ (label ++ (32 ∷ decimal n.1))) ≡ Ok n =
    turns_said most k label n.1 (field_is_field rest a.0 a.1) (decimal_field n.1 fits) four.0 nine.0 d ∙ ap (λ (x : ℕ × ℕ). Ok x) made in
    let plain : Plain (32 ∷ (label ++ (32 ∷ decimal n.1))) =
    plain_more 32 (label ++ (32 ∷ decimal n.1)) refl (plain_append label (32 ∷ decimal n.1) (visible_plain label (label_visible label four.0)) (plain_more 32 (decimal n.1) refl (visible_plain (decimal n.1) (decimal_visible n.1 fits)))) in
    (subst (λ (x : List ℕ). turns_at most k (32 ∷ (x ++ (32 ∷ decimal n.1))) ≡ Ok n) (sym l) again, subst (λ (x : List ℕ). Plain (32 ∷ (x ++ (32 ∷ decimal n.1)))) (sym l) plain)

-- ---- a client and a node

pub home_again : (k : Known) (rest : List ℕ) (n : ℕ × ℕ) → home_at k rest ≡ Ok n
    → (home_at k (label_field kinds.Client k.decls n.0 ++ label_field kinds.Node k.decls n.1) ≡ Ok n) × Plain (label_field kinds.Client k.decls n.0 ++ label_field kinds.Node k.decls n.1)
unfolding home_at
home_again k rest n e =
    let a = bind_ok (field_at rest) (λ client. last_field client.1 >>= λ node. judged (least_broken ((4, is_label client.0 && is_label node) ∷ (9, is_used kinds.Client k client.0 && is_used kinds.Node k node) ∷ [])) (number kinds.Client k client.0, number kinds.Node k node)) n e in
    let client = a.0.0 in
    let b = bind_ok (last_field a.0.1) (λ node. judged (least_broken ((4, is_label client && is_label node) ∷ (9, is_used kinds.Client k client && is_used kinds.Node k node) ∷ [])) (number kinds.Client k client, number kinds.Node k node)) n a.2 in
    let node = b.0 in
    let j = judged_ok (least_broken ((4, is_label client && is_label node) ∷ (9, is_used kinds.Client k client && is_used kinds.Node k node) ∷ [])) (number kinds.Client k client, number kinds.Node k node) n b.2 in
    let four = holds 4 (is_label client && is_label node) ((9, is_used kinds.Client k client && is_used kinds.Node k node) ∷ []) j.0 in
    let nine = holds 9 (is_used kinds.Client k client && is_used kinds.Node k node) [] four.1 in
    let labels = both (is_label client) (is_label node) four.0 in
    let used = both (is_used kinds.Client k client) (is_used kinds.Node k node) nine.0 in
    let l : label_text kinds.Client k.decls n.0 ≡ client = subst (λ (m : ℕ × ℕ). label_text kinds.Client k.decls m.0 ≡ client) j.1 (label_is kinds.Client k client used.0) in
    let m : label_text kinds.Node k.decls n.1 ≡ node = subst (λ (m : ℕ × ℕ). label_text kinds.Node k.decls m.1 ≡ node) j.1 (label_is kinds.Node k node used.1) in
    let p : field_at (32 ∷ (client ++ (32 ∷ node))) ≡ Ok (client, 32 ∷ node) = field_again client node (field_is_field rest a.0 a.1) in
    let again : home_at k (32 ∷ (client ++ (32 ∷ node))) ≡ Ok n = rw (p, last_again node (last_is_field a.0.1 node b.1)) b.2 in
    let plain : Plain (32 ∷ (client ++ (32 ∷ node))) =
    plain_more 32 (client ++ (32 ∷ node)) refl (plain_append client (32 ∷ node) (visible_plain client (label_visible client labels.0)) (plain_more 32 node refl (visible_plain node (label_visible node labels.1)))) in (
      subst (λ (x : List ℕ). home_at k (32 ∷ (x ++ (32 ∷ label_text kinds.Node k.decls n.1))) ≡ Ok n) (sym l) (subst (λ (y : List ℕ). home_at k (32 ∷ (client ++ (32 ∷ y))) ≡ Ok n) (sym m) again),
      subst (λ (x : List ℕ). Plain (32 ∷ (x ++ (32 ∷ label_text kinds.Node k.decls n.1)))) (sym l) (subst (λ (y : List ℕ). Plain (32 ∷ (client ++ (32 ∷ y)))) (sym m) plain),
    )

-- ---- a client, a name and a text

pub written_again : (k : Known) (rest : List ℕ) (n : Written) → written_at k rest ≡ Ok n
    → (written_at k (label_field kinds.Client k.decls n.client ++ (32 ∷ (n.name ++ (32 ∷ quoted n.text)))) ≡ Ok n) × Plain (label_field kinds.Client k.decls n.client ++ (32 ∷ (n.name ++ (32 ∷ quoted n.text))))
unfolding written_at
written_again k rest n e =
    let rules : List ℕ → List ℕ → List (ℕ × Bool) = λ label name. (4, is_label label) ∷ (5, is_some (name_of name)) ∷ (9, is_used kinds.Client k label) ∷ [] in
    let made : List ℕ → List ℕ → List ℕ → Written = λ label name text. record { client = number kinds.Client k label; name = or_none (name_of name); text = text } in
    let a = bind_ok (field_at rest) (λ client. field_at client.1 >>= λ name. last_text name.1 >>= λ text. judged (least_broken (rules client.0 name.0)) (made client.0 name.0 text)) n e in
    let label = a.0.0 in
    let b = bind_ok (field_at a.0.1) (λ name. last_text name.1 >>= λ text. judged (least_broken (rules label name.0)) (made label name.0 text)) n a.2 in
    let name = b.0.0 in
    let c = bind_ok (last_text b.0.1) (λ text. judged (least_broken (rules label name)) (made label name text)) n b.2 in
    let text = c.0 in
    let j = judged_ok (least_broken (rules label name)) (made label name text) n c.2 in
    let four = holds 4 (is_label label) ((5, is_some (name_of name)) ∷ (9, is_used kinds.Client k label) ∷ []) j.0 in
    let five = holds 5 (is_some (name_of name)) ((9, is_used kinds.Client k label) ∷ []) four.1 in
    let nine = holds 9 (is_used kinds.Client k label) [] five.1 in
    let l : label_text kinds.Client k.decls n.client ≡ label = subst (λ (m : Written). label_text kinds.Client k.decls m.client ≡ label) j.1 (label_is kinds.Client k label nine.0) in
    let o : n.name ≡ name = ap (λ (m : Written). m.name) (sym j.1) ∙ name_is name five.0 in
    let t : n.text ≡ text = ap (λ (m : Written). m.text) (sym j.1) in
    let small = last_are_bytes b.0.1 text c.1 in
    let p : field_at (32 ∷ (label ++ (32 ∷ (name ++ (32 ∷ quoted text))))) ≡ Ok (label, 32 ∷ (name ++ (32 ∷ quoted text))) = field_again label (name ++ (32 ∷ quoted text)) (field_is_field rest a.0 a.1) in
    let q : field_at (32 ∷ (name ++ (32 ∷ quoted text))) ≡ Ok (name, 32 ∷ quoted text) = field_again name (quoted text) (field_is_field a.0.1 b.0 b.1) in
    let again : written_at k (32 ∷ (label ++ (32 ∷ (name ++ (32 ∷ quoted text))))) ≡ Ok n = rw (p, q, quoted_again text small) c.2 in
    let plain : Plain (32 ∷ (label ++ (32 ∷ (name ++ (32 ∷ quoted text))))) =
    plain_more 32 (label ++ (32 ∷ (name ++ (32 ∷ quoted text)))) refl (plain_append label (32 ∷ (name ++ (32 ∷ quoted text))) (visible_plain label (label_visible label four.0))
    (plain_more 32 (name ++ (32 ∷ quoted text)) refl (plain_append name (32 ∷ quoted text) (visible_plain name (name_visible name five.0)) (plain_more 32 (quoted text) refl (quoted_plain text small))))) in (
      subst (λ (x : List ℕ). written_at k (32 ∷ (x ++ (32 ∷ (n.name ++ (32 ∷ quoted n.text))))) ≡ Ok n) (sym l)
          (subst (λ (y : List ℕ). written_at k (32 ∷ (label ++ (32 ∷ (y ++ (32 ∷ quoted n.text))))) ≡ Ok n) (sym o)
          (subst (λ (z : List ℕ). written_at k (32 ∷ (label ++ (32 ∷ (name ++ (32 ∷ quoted z))))) ≡ Ok n) (sym t) again)),
      subst (λ (x : List ℕ). Plain (32 ∷ (x ++ (32 ∷ (n.name ++ (32 ∷ quoted n.text)))))) (sym l)
          (subst (λ (y : List ℕ). Plain (32 ∷ (label ++ (32 ∷ (y ++ (32 ∷ quoted n.text)))))) (sym o)
          (subst (λ (z : List ℕ). Plain (32 ∷ (label ++ (32 ∷ (name ++ (32 ∷ quoted z)))))) (sym t) plain)),
    )
