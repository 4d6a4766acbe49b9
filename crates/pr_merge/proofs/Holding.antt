-- The entry of a place of a history that is held.
use Rattle.std.proofs.Common.{◌≡◌, ℕ, ◌<◌, List, sym, ◌∙◌, ap, subst, length, get_or, reverse, arith}
use Rattle.std.specs.Prelude.{All, Some, None}
use Rattle.std.proofs.lemmas.List.{reverse-reverse}
use Rattle.std.proofs.lemmas.List.Elements.{All-get_or}
use Rattle.pr_merge.specs.Holding.{HasHistory, HeldState}
use Rattle.pr_story.specs.declared.entry.Entry.{Entry}
use Rattle.pr_story.specs.declared.event.Event.TheVariants.{Moved}
use Rattle.pr_story.specs.History.{NodeEntry}
use Rattle.pr_story.specs.History as history
use Rattle.pr_story.specs.Places.{places_of}
use Rattle.pr_story.proofs.Places.{entries_placed}

some_entry : NodeEntry
some_entry = record { node = 0; entry = record { time = 0; caller = 0; event = Moved 0 } }

module _ {N : Type 0} (journal : N → List Entry) (h : List NodeEntry) (s : HeldState N) (a : HasHistory journal h s) (at : ℕ) (lt : at < length h) where
  abbrev pub place : ℕ × ℕ
  place = get_or s.places at (0, 0)

  pub place_within : at < length s.places
  place_within =
      let same : length s.places ≡ length (places_of h) = ap (λ (ps : List (ℕ × ℕ)). length ps) a.places in
      let many : length (places_of h) ≡ length h = (entries_placed h).many in
      omega arith

  is_place : place ≡ get_or (places_of h) at (0, 0)
  is_place = ap (λ (ps : List (ℕ × ℕ)). get_or ps at (0, 0)) a.places

  -- its node
  pub node_is : (e : NodeEntry) → place.0 ≡ (get_or (reverse h) at e).node
  node_is e = ap (λ (p : ℕ × ℕ). p.0) is_place ∙ (entries_placed h).node at (0, 0) e lt

  node_within : place.0 < length s.nodes
  node_within = All-get_or (λ (p : ℕ × ℕ). p.0 < length s.nodes) s.places at (0, 0) place_within a.within

  -- is here
  pub here : get_or s.nodes place.0 None ≡ None → ⊥
  here none = let m = a.here place.0 node_within in let bad : Some m.0 ≡ None = sym m.1 ∙ none in absurd (cc)

  -- and its entry stands there
  pub stands_at : (p : ℕ × ℕ) → p ≡ place → (items : List Entry) (m : N) → get_or s.nodes p.0 None ≡ Some m → reverse items ≡ journal m
      → (p.1 < length items) × ((e : NodeEntry) (d : Entry) → get_or items p.1 d ≡ (get_or (reverse h) at e).entry)
  stands_at p at_is items m is same =
      let all : items ≡ reverse (history.journal h p.0) = sym (reverse-reverse items) ∙ ap (λ (es : List Entry). reverse es) (same ∙ a.journals p.0 m is) in
      let there = λ (e : NodeEntry).
      subst (λ (q : ℕ × ℕ). (q.1 < length (reverse (history.journal h q.0))) × ((d : Entry) → get_or (reverse (history.journal h q.0)) q.1 d ≡ (get_or (reverse h) at e).entry)) (sym (at_is ∙ is_place))
      ((entries_placed h).at at (0, 0) e lt) in (
        subst (λ (es : List Entry). p.1 < length es) (sym all) (there some_entry).0,
        λ e d. ap (λ (es : List Entry). get_or es p.1 d) all ∙ (there e).1 d,
      )
