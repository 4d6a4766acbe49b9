-- Printed rows and pairs are read again.
use Rattle.std.proofs.Common.{◌≡◌, ℕ, ◌<◌, Bool, true, false, List, [], ◌∷◌, ◌++◌, map, Option, Some, refl, sym, ap, ◌∙◌, append_assoc, arith}
use Rattle.std.specs.Prelude.{All, ◌==◌, ◌||◌}
use Rattle.std.specs.List.{list_any}
use Rattle.std.proofs.lemmas.Bool.Decides.{nat_tests}
use Rattle.pr_stamps.specs.Point.{IsStamp, Point}
use Rattle.pr_stamps.specs.declared.mark.Mark.{Mark}
use Rattle.pr_names.specs.Byte.{allowed}
use Rattle.pr_names.specs.Name.{IsName}
use Rattle.pr_inval.specs.declared.row.Row.{Row}
use Rattle.pr_script.specs.declared.decl.Decl.{Decl}
use Rattle.pr_script.specs.Fields.{name_of}
use Rattle.pr_script.specs.Labels.{AreLabels}
use Rattle.pr_story.specs.Counts.{HasMark, HasPair, HasRow}
use Rattle.pr_story.specs.Ranges.{IsRow, IsStampOrNone}
use Rattle.pr_text.specs.Numbers.{nodes_of}
use Rattle.pr_text.specs.Texts.{joined, mark_text, pair_text, pairs_text, row_text, rows_text, stamp_text}
use Rattle.pr_text.proofs.Cut.{Lacks, is_not, of_append}
use Rattle.pr_text.proofs.Messages.{all_both, marks_in, pairs_in, rows_in}
use Rattle.pr_text.proofs.SameQuotes.{name_bytes}
use Rattle.pr_text.proofs.SameRows.{IsMarkIn, IsPairIn, IsRowIn, map_items, mark_item, marks_of as marks_lack, pair_item, row_item, stamp_in, takes_low}
use Rattle.pr_check.specs.Fields.{items_of, parts, ◌>>=◌}
use Rattle.pr_check.specs.Parts.{after, before, is_gone, mark_read, pair_read, pairs_read, row_read, row_with, rows_read, sign_of, stamp_read}
use Rattle.pr_check.proofs.PartsAgain.{after_again, are_parts, before_again, items_again, list_again, parts_again}
use Rattle.pr_check.proofs.StampsAgain.{mark_again, name_again, pair_again, stamp_again}

-- ---- bytes of names

name_sign : (g : Bool) (b : ℕ) → allowed b ≡ true → is_not (sign_of g) b ≡ true
name_sign true b e = grind (arith, nat_tests)
name_sign false b e = grind (arith, nat_tests)

name_bracket : (b : ℕ) → allowed b ≡ true → is_not 40 b ≡ true
name_bracket b e = grind (arith, nat_tests)

name_mark : (b : ℕ) → allowed b ≡ true → is_not 33 b ≡ true
name_mark b e = grind (arith, nat_tests)

sign_bracket : (g : Bool) → is_not 40 (sign_of g) ≡ true
sign_bracket true = refl
sign_bracket false = refl

-- a byte is found behind others
found : (xs r : List ℕ) → list_any (λ x. x == 33) (xs ++ 33 ∷ r) ≡ true
found [] r = refl
found (x ∷ xs) r = by (x == 33) (found xs r)
  where
    by : (t : Bool) → list_any (λ x. x == 33) (xs ++ 33 ∷ r) ≡ true → (t || list_any (λ x. x == 33) (xs ++ 33 ∷ r)) ≡ true
    by true e = refl
    by false e = e

other_byte : (x : ℕ) → is_not 33 x ≡ true → (x == 33) ≡ false
other_byte x e = grind (arith, nat_tests)

not_found : (xs : List ℕ) → Lacks 33 xs → list_any (λ x. x == 33) xs ≡ false
not_found [] p = refl
not_found (x ∷ xs) p = rw (other_byte x p.0) (not_found xs p.1)

module _ (ds : List Decl) (a : AreLabels ds) where
  -- ---- pairs

  abbrev IsPairRead : Point × Point → Type 0
  IsPairRead p = (IsStamp p.0 × IsStamp p.1) × HasPair (nodes_of ds) p

  pub pairs_again : (ps : List (Point × Point)) → All (λ (p : Point × Point). IsStamp p.0 × IsStamp p.1) ps → All (HasPair (nodes_of ds)) ps → pairs_read ds (pairs_text ds ps) ≡ Some ps
  pairs_again ps i h =
      list_again (pair_read ds) (pair_text ds) IsPairRead (pair_again ds a) ps
      (map_items 44 (pair_text ds) (IsPairIn ds a) (pair_item ds a) ps (pairs_in ds a ps i h))
      (all_both (λ (p : Point × Point). IsStamp p.0 × IsStamp p.1) (HasPair (nodes_of ds)) IsPairRead (λ p r k. (r, k)) ps i h)

  -- ---- rows

  abbrev IsMarkRead : Mark → Type 0
  IsMarkRead m = (IsStamp m.stamp × IsStampOrNone m.prev) × HasMark (nodes_of ds) m

  abbrev marks_text : Row → List ℕ
  marks_text r = joined 59 (map (mark_text ds) r.marks)

  -- what stands before the marks
  abbrev written : Row → List ℕ
  written r = r.name ++ sign_of r.gone ∷ stamp_text ds r.newest

  row_is : (r : Row) → row_text ds r ≡ written r ++ 40 ∷ (marks_text r ++ 41 ∷ [])
  row_is r = sym (append_assoc r.name (sign_of r.gone ∷ stamp_text ds r.newest) (40 ∷ (marks_text r ++ 41 ∷ [])))

  written_lacks : (r : Row) → IsRow r → HasRow (nodes_of ds) r → Lacks 40 (written r)
  written_lacks r i h =
      of_append (is_not 40) r.name (sign_of r.gone ∷ stamp_text ds r.newest) (name_bytes (is_not 40) r.name i.0 name_bracket)
      (sign_bracket r.gone, stamp_in ds a (is_not 40) (takes_low 40 (omega arith)) r.newest (i.1, h.0))

  gone_again : (g : Bool) (name : List ℕ) (p : Point) → IsName name → IsStamp p → p.node < nodes_of ds → is_gone (name ++ sign_of g ∷ stamp_text ds p) ≡ g
  gone_again true name p i s h = found name (stamp_text ds p)
  gone_again false name p i s h =
      not_found (name ++ 61 ∷ stamp_text ds p)
      (of_append (is_not 33) name (61 ∷ stamp_text ds p) (name_bytes (is_not 33) name i name_mark) (refl, stamp_in ds a (is_not 33) (takes_low 33 (omega arith)) p (s, h)))

  with_again : (r : Row) → IsRow r → HasRow (nodes_of ds) r → row_with ds (written r) r.gone r.marks ≡ Some r
  unfolding row_with
  with_again r i h =
      let lacks : Lacks (sign_of r.gone) r.name = name_bytes (is_not (sign_of r.gone)) r.name i.0 (name_sign r.gone) in
      let name : name_of (before (sign_of r.gone) (written r)) ≡ Some r.name = ap name_of (before_again (sign_of r.gone) r.name (stamp_text ds r.newest) lacks) ∙ name_again r.name i.0 in
      let newest : stamp_read ds (after (sign_of r.gone) (written r)) ≡ Some r.newest = ap (stamp_read ds) (after_again (sign_of r.gone) r.name (stamp_text ds r.newest) lacks) ∙ stamp_again ds a r.newest i.1 h.0 in
      rw (name, newest) refl

  marks_again : (r : Row) → IsRow r → HasRow (nodes_of ds) r → items_of (mark_read ds) (parts 59 (marks_text r)) ≡ Some r.marks
  marks_again r i h =
      ap (items_of (mark_read ds)) (parts_again 59 (map (mark_text ds) r.marks) (are_parts 59 (map (mark_text ds) r.marks) (map_items 59 (mark_text ds) (IsMarkIn ds a) (mark_item ds a) r.marks (marks_in ds a r.marks i.2 h.1))))
      ∙ items_again (mark_read ds) (mark_text ds) IsMarkRead (mark_again ds a) r.marks
      (all_both (λ (m : Mark). IsStamp m.stamp × IsStampOrNone m.prev) (HasMark (nodes_of ds)) IsMarkRead (λ m r k. (r, k)) r.marks i.2 h.1)

  row_again : (r : Row) → IsRow r × HasRow (nodes_of ds) r → row_read ds (row_text ds r) ≡ Some r
  unfolding row_read
  row_again r k =
      let i = k.0 in
      let h = k.1 in
      let front : before 40 (row_text ds r) ≡ written r = ap (before 40) (row_is r) ∙ before_again 40 (written r) (marks_text r ++ 41 ∷ []) (written_lacks r i h) in
      let behind : after 40 (row_text ds r) ≡ marks_text r ++ 41 ∷ [] = ap (after 40) (row_is r) ∙ after_again 40 (written r) (marks_text r ++ 41 ∷ []) (written_lacks r i h) in
      let inside : before 41 (marks_text r ++ 41 ∷ []) ≡ marks_text r = before_again 41 (marks_text r) [] (marks_lack ds a (is_not 41) (takes_low 41 (omega arith)) refl refl r.marks (marks_in ds a r.marks i.2 h.1)) in
      let marks : items_of (mark_read ds) (parts 59 (before 41 (after 40 (row_text ds r)))) ≡ Some r.marks = ap (λ (t : List ℕ). items_of (mark_read ds) (parts 59 (before 41 t))) behind ∙ ap (λ (t : List ℕ). items_of (mark_read ds) (parts 59 t)) inside ∙ marks_again r i h in
      ap (λ (o : Option (List Mark)). o >>= λ marks. row_with ds (before 40 (row_text ds r)) (is_gone (before 40 (row_text ds r))) marks) marks
      ∙ ap (λ (t : List ℕ). row_with ds t (is_gone t) r.marks) front
      ∙ ap (λ (g : Bool). row_with ds (written r) g r.marks) (gone_again r.gone r.name r.newest i.0 i.1 h.0)
      ∙ with_again r i h

  abbrev IsRowRead : Row → Type 0
  IsRowRead r = IsRow r × HasRow (nodes_of ds) r

  pub rows_again : (rows : List Row) → All IsRow rows → All (HasRow (nodes_of ds)) rows → rows_read ds (rows_text ds rows) ≡ Some rows
  rows_again rows i h =
      list_again (row_read ds) (row_text ds) IsRowRead row_again rows
      (map_items 44 (row_text ds) (IsRowIn ds a) (row_item ds a) rows (rows_in ds a rows i h))
      (all_both IsRow (HasRow (nodes_of ds)) IsRowRead (λ r j k. (j, k)) rows i h)
