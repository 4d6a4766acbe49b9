-- The history that an engine tells, by its places and its journals.
use Rattle.std.proofs.Common.{◌≡◌, ℕ, ◌<◌, List, [], ◌++◌, Ok, refl, sym, ◌∙◌, ap, length, get_or, map, reverse, arith}
use Rattle.std.specs.Prelude.{true, Bool, Some, None, Option}
use Rattle.std.proofs.lemmas.List.{ext_get_or, get_or-map, length-map, length-reverse, reverse-reverse}
use Rattle.pr_node.specs.Stored.{Stored, means}
use Rattle.pr_story.specs.declared.entry.Entry.{Entry}
use Rattle.pr_story.specs.History.{NodeEntry, journal}
use Rattle.pr_story.specs.Places.{places_of}
use Rattle.pr_story.specs.Remaining.{left_to_send}
use Rattle.pr_story.specs.declared.event.Event.{Event}
use Rattle.pr_sim.specs.Running.{IsRunning, Tells, below}
use Rattle.pr_story.specs.Counts.{Declared}
use Rattle.pr_sim.specs.Settles.{MakesPart}
use Rattle.pr_sim.proofs.Faults.{stopped_same}
use Rattle.pr_sim.specs.declared.engine.Engine.{Engine}
use Rattle.pr_sim.proofs.Telling.{StandsAt, many_places, node_stands, some_entry, stands_at}

abbrev pub journal_in : Option Stored → List Entry
journal_in None = []
journal_in (Some m) = (means m).journal

-- the entry that stands at the place
abbrev pub entry_there : List (Option Stored) → ℕ × ℕ → NodeEntry
entry_there nodes place = record { node = place.0; entry = get_or (reverse (journal_in (get_or nodes place.0 None))) place.1 some_entry.entry }

-- the entries of all places, the newest first
abbrev pub story_of : Engine → List NodeEntry
story_of e = reverse (map (entry_there e.nodes.items) e.history.items)

same_entry : (x y : NodeEntry) → x.node ≡ y.node → x.entry ≡ y.entry → x ≡ y
same_entry x y node entry =
    ap (λ (n : ℕ). record { node = n; entry = x.entry }) node ∙ ap (λ (e : Entry). record { node = y.node; entry = e }) entry

module _ (d : Declared) (h : List NodeEntry) (e : Engine) (t : Tells d h e) where
  there : (i : ℕ) → i < length h → entry_there e.nodes.items (get_or (places_of h) i (0, 0)) ≡ get_or (reverse h) i some_entry
  there i lt =
      let x : NodeEntry = get_or (reverse h) i some_entry in
      let place : ℕ × ℕ = get_or (places_of h) i (0, 0) in
      let at : StandsAt h x place = stands_at h i some_entry (0, 0) lt in
      let m = node_stands d h e t i some_entry lt in
      let slot : journal_in (get_or e.nodes.items place.0 None) ≡ journal h x.node =
      ap (λ (n : ℕ). journal_in (get_or e.nodes.items n None)) at.node ∙ ap (λ (o : Option Stored). journal_in o) m.1 ∙ m.2 in
      same_entry (entry_there e.nodes.items place) x at.node
      (ap (λ (j : List Entry). get_or (reverse j) place.1 some_entry.entry) slot ∙ at.entry some_entry.entry)

  -- the history is what the engine tells
  pub tells_story : h ≡ story_of e
  tells_story =
      let places : e.history.items ≡ places_of h = t.told.places_are in
      let many : length (reverse h) ≡ length (map (entry_there e.nodes.items) (places_of h)) =
      length-reverse h ∙ sym (many_places h) ∙ sym (length-map (places_of h) (entry_there e.nodes.items)) in
      let same : reverse h ≡ map (entry_there e.nodes.items) (places_of h) =
      ext_get_or some_entry (reverse h) (map (entry_there e.nodes.items) (places_of h)) many
      (λ i lt.
      let l : length (reverse h) ≡ length h = length-reverse h in
      let k : length (places_of h) ≡ length h = many_places h in
      sym (there i (omega arith)) ∙ sym (get_or-map (entry_there e.nodes.items) (places_of h) i (0, 0) some_entry (omega arith))) in
      sym (reverse-reverse h) ∙ ap (λ (xs : List NodeEntry). reverse xs) same
      ∙ ap (λ (ps : List (ℕ × ℕ)). reverse (map (entry_there e.nodes.items) ps)) (sym places)

-- ---- what is left to send

abbrev pub left_of : Engine → ℕ
left_of e = left_to_send (story_of e) (below (length e.sessions.items))

module _ (d : Declared) (attached : ℕ → Bool) (h : List NodeEntry) (e : Engine) (k : IsRunning d attached h e) where
  pub running_tells : Tells d h e
  running_tells = stopped_same d attached h e e k refl refl

  pub running_story : h ≡ story_of e
  running_story = tells_story d h e running_tells

  pub left_is : left_of e ≡ left_to_send h (below d.counts.streams)
  left_is =
      ap (λ (xs : List NodeEntry). left_to_send xs (below (length e.sessions.items))) (sym running_story)
      ∙ ap (λ (n : ℕ). left_to_send h (below n)) k.streams

-- where something was sent, less is left
pub less_left : (d : Declared) (attached : ℕ → Bool) (h : List NodeEntry) (e f : Engine) (P : Bool → List Event → Type 0) → IsRunning d attached h e → MakesPart P d attached h f (Ok true) → left_of f < left_of e
less_left d attached h e f P k (new, now, p, on) =
    let a : left_of e ≡ left_to_send h (below d.counts.streams) = left_is d attached h e k in
    let b : left_of f ≡ left_to_send (new ++ h) (below d.counts.streams) = left_is d attached (new ++ h) f now in
    let l : left_to_send (new ++ h) (below d.counts.streams) < left_to_send h (below d.counts.streams) = on.less in
    omega arith
