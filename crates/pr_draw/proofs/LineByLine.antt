-- The lines of a text, and their groups.
use Rattle.std.proofs.Common.{◌≡◌, ◌+◌, ◌<◌, ◌≤◌, ℕ, List, [], ◌∷◌, ◌++◌, length, get_or, take, refl, sym, ap, subst, ◌∙◌, append_assoc, length-append, arith}
use Rattle.std.specs.Prelude.{codes}
use Rattle.std.specs.List.{AllByRecursion, flat_map}
use Rattle.std.proofs.lemmas.Grind.{flat_map-append}
use Rattle.std.proofs.lemmas.List.{append-nil, take_all, take_more}
use Rattle.std.proofs.lemmas.List.Concat.{flat_map-cons}
use Rattle.pr_check.proofs.NoEnds.{all_push}
use Rattle.pr_script.specs.Reading.{HasNoEnd, ended}
use Rattle.pr_draw.specs.Pictures.{AreGroups, HasGroups, IsFirstLine, IsGroup}
use Rattle.pr_draw.specs.Tags.{Adds}
use Rattle.pr_draw.specs.Xml.{IsContent, blank, element_text}
use Rattle.pr_draw.proofs.Grammar.{content_more, element_content, line_end, text_content}

-- ---- the first end of a line

pub none_more : (text : List ℕ) (at : ℕ) → at < length text → (get_or text at 0 ≡ 10 → ⊥) → HasNoEnd (take at text) → HasNoEnd (take (at + 1) text)
none_more text at lt other none = subst HasNoEnd (sym (take_more text at 0 lt)) (all_push (λ (b : ℕ). b ≡ 10 → ⊥) (take at text) (get_or text at 0) none other)

pub none_whole : (text : List ℕ) (at : ℕ) → length text ≤ at → HasNoEnd (take at text) → HasNoEnd text
none_whole text at le none = subst HasNoEnd (take_all at text le) none

-- ---- groups

pub groups_more : (lines : List (List ℕ)) (groups line group : List ℕ) → AreGroups lines groups → IsGroup line group → AreGroups (lines ++ line ∷ []) (groups ++ group)
groups_more [] groups line group none is = (group, [], is, refl, ap (λ (t : List ℕ). t ++ group) none ∙ sym (append-nil group))
groups_more (l ∷ ls) groups line group (first, rest, one, more, whole) is =
    (first, rest ++ group, one, groups_more ls rest line group more is, ap (λ (t : List ℕ). t ++ group) whole ∙ append_assoc first rest group)

-- ---- line by line

-- the lines so far, what is behind them, and their groups
pub record HasCome (text rest old new : List ℕ) : Type 0 where
  pub lines : List (List ℕ)
  pub groups : List ℕ
  pub whole : text ≡ flat_map ended lines ++ rest
  pub unended : AllByRecursion HasNoEnd lines
  pub each : AreGroups lines groups
  pub added : new ≡ old ++ groups

pub come_none : (text old new : List ℕ) → new ≡ old → HasCome text text old new
come_none text old new is = record { lines = []; groups = []; whole = refl; unended = tt; each = refl; added = is ∙ sym (append-nil old) }

pub come_more : (text rest old new line behind now : List ℕ) → HasCome text rest old new → IsFirstLine rest line behind → Adds (IsGroup line) new now → HasCome text behind old now
come_more text rest old new line behind now come first (group, is, more) = record {
  lines = come.lines ++ line ∷ [];
  groups = come.groups ++ group;
  whole =
      come.whole
      ∙ ap (λ (t : List ℕ). flat_map ended come.lines ++ t) (first.whole ∙ sym (append_assoc line (10 ∷ []) behind))
      ∙ sym (append_assoc (flat_map ended come.lines) (ended line) behind)
      ∙ ap (λ (t : List ℕ). (flat_map ended come.lines ++ t) ++ behind) (sym (append-nil (ended line)) ∙ sym (flat_map-cons ended line []))
      ∙ ap (λ (t : List ℕ). t ++ behind) (sym (flat_map-append ended come.lines (line ∷ [])));
  unended = all_push HasNoEnd come.lines line come.unended first.unended;
  each = groups_more come.lines come.groups line group come.each is;
  added = more ∙ ap (λ (t : List ℕ). t ++ group) come.added ∙ append_assoc old come.groups group;
}

pub come_whole : (text rest old new : List ℕ) → HasCome text rest old new → HasNoEnd rest → Adds (HasGroups text) old new
come_whole text rest old new come last = (
  come.groups,
  record { lines = come.lines; rest = rest; cut = record { whole = come.whole; each = come.unended; last = last }; each = come.each },
  come.added,
)

pub shorter : (rest line behind : List ℕ) → IsFirstLine rest line behind → length behind < length rest
shorter rest line behind first =
    let l : length rest ≡ length (line ++ 10 ∷ behind) = ap (λ (xs : List ℕ). length xs) first.whole in
    let m : length (line ++ 10 ∷ behind) ≡ length line + length (10 ∷ behind) = length-append line (10 ∷ behind) in
    omega arith

-- ---- groups belong to the grammar

group_content : (line group : List ℕ) → IsGroup line group → IsContent group
group_content line group is =
    let title = element_text (codes "title") [] is.words in
    let inside = content_more is.inner (element_content (codes "title") [] is.words (record { named = refl; distinct = tt }) (text_content is.words (line, is.said))) is.content in
    subst IsContent (sym is.whole)
    (content_more (10 ∷ []) (element_content (codes "g") [] (title ++ is.inner) (record { named = refl; distinct = tt }) inside) line_end)

pub groups_content : (lines : List (List ℕ)) (groups : List ℕ) → AreGroups lines groups → IsContent groups
groups_content [] groups none = subst IsContent (sym none) blank
groups_content (l ∷ ls) groups (group, rest, is, more, whole) = subst IsContent (sym whole) (content_more rest (group_content l group is) (groups_content ls rest more))
