-- An entry of the history, by its place.
use Rattle.std.proofs.Common.{◌≡◌, ◌⊎◌, ℕ, suc, ◌<◌, ◌≤◌, ◌+◌, List, [], ◌∷◌, ◌++◌, inl, inr, refl, sym, ◌∙◌, ap, subst, cond, nat_eq, length, get_or, reverse, arith}
use Rattle.std.specs.Prelude.{true, false, Bool, MatchOption, Some, None, Option}
use Rattle.std.proofs.lemmas.List.{get_or_append_left, get_or_push, length-append, length-reverse, reverse-append}
use Rattle.std.proofs.lemmas.Bool.{cases_lt}
use Rattle.std.proofs.lemmas.Bool.Decides.{Decides-eqb}
use Rattle.pr_node.specs.Stored.{Stored, means}
use Rattle.pr_story.specs.declared.entry.Entry.{Entry}
use Rattle.pr_story.specs.declared.event.Event.TheVariants.{Moved}
use Rattle.pr_story.specs.History.{NodeEntry, journal}
use Rattle.pr_story.specs.Counts.{AreDeclared, Counts, Declared}
use Rattle.pr_story.specs.Places.{places_of}
use Rattle.pr_sim.specs.Running.{Tells}
use Rattle.pr_sim.specs.declared.engine.Engine.{Engine}

pub reverse_more : {A : Type 0} (x : A) (xs : List A) → reverse (x ∷ xs) ≡ reverse xs ++ x ∷ []
reverse_more x xs = reverse-append (x ∷ []) xs

-- there are as many places as entries
pub many_places : (h : List NodeEntry) → length (places_of h) ≡ length h
many_places [] = refl
many_places (e ∷ h) =
    let l : length (places_of h ++ (e.node, length (journal h e.node)) ∷ []) ≡ length (places_of h) + 1 = length-append (places_of h) ((e.node, length (journal h e.node)) ∷ []) in
    let m : length (places_of h) ≡ length h = many_places h in
    let s : length (places_of h) + 1 ≡ suc (length h) = omega arith in
    l ∙ s

-- the entry stands at this place of its node's journal
pub record StandsAt (h : List NodeEntry) (e : NodeEntry) (place : ℕ × ℕ) : Type 0 where
  pub node : place.0 ≡ e.node
  pub within : place.1 < length (journal h e.node)
  pub entry : (d : Entry) → get_or (reverse (journal h e.node)) place.1 d ≡ e.entry

-- one entry more leaves what stands
longer : (b : Bool) (x : Entry) (j : List Entry) (i : ℕ) → i < length j → i < length (cond b (x ∷ j) j)
longer true x j i lt = let l : suc (length j) ≡ length j + 1 = omega arith in omega (arith, l)
longer false x j i lt = lt

grown : (b : Bool) (x : Entry) (j : List Entry) (i : ℕ) (d e : Entry) → i < length j → get_or (reverse j) i d ≡ e → get_or (reverse (cond b (x ∷ j) j)) i d ≡ e
grown true x j i d e lt is =
    ap (λ (xs : List Entry). get_or xs i d) (reverse_more x j)
    ∙ get_or_append_left (reverse j) (x ∷ []) d i (let l = length-reverse j in omega arith) ∙ is
grown false x j i d e lt is = is

more : (x : NodeEntry) (t : List NodeEntry) (e : NodeEntry) (place : ℕ × ℕ) → StandsAt t e place → StandsAt (x ∷ t) e place
more x t e place at = record {
  node = at.node;
  within = longer (nat_eq x.node e.node) x.entry (journal t e.node) place.1 at.within;
  entry = λ d. grown (nat_eq x.node e.node) x.entry (journal t e.node) place.1 d e.entry at.within (at.entry d);
}

last : (x : NodeEntry) (t : List NodeEntry) → StandsAt (x ∷ t) x (x.node, length (journal t x.node))
last x t =
    let own : journal (x ∷ t) x.node ≡ x.entry ∷ journal t x.node = ap (λ (b : Bool). cond b (x.entry ∷ journal t x.node) (journal t x.node)) ((Decides-eqb x.node x.node).1 refl) in
    record {
      node = refl;
      within = subst (λ (j : List Entry). length (journal t x.node) < length j) (sym own) (let l : suc (length (journal t x.node)) ≡ length (journal t x.node) + 1 = omega arith in omega (arith, l));
      entry = λ d.
          ap (λ (j : List Entry). get_or (reverse j) (length (journal t x.node)) d) own
          ∙ ap (λ (xs : List Entry). get_or xs (length (journal t x.node)) d) (reverse_more x.entry (journal t x.node))
          ∙ get_or_push (reverse (journal t x.node)) x.entry d (length (journal t x.node)) (length-reverse (journal t x.node));
    }

-- the entry of each place
pub stands_at : (h : List NodeEntry) (i : ℕ) (e : NodeEntry) (p : ℕ × ℕ) → i < length h → StandsAt h (get_or (reverse h) i e) (get_or (places_of h) i p)
stands_at [] i e p lt = absurd (omega arith)
stands_at (x ∷ t) i e p lt = by (cases_lt i (length t)) (λ old. stands_at t i e p old)
  where
    by : (i < length t) ⊎ (length t ≤ i) → (i < length t → StandsAt t (get_or (reverse t) i e) (get_or (places_of t) i p)) → StandsAt (x ∷ t) (get_or (reverse (x ∷ t)) i e) (get_or (places_of (x ∷ t)) i p)
    by (inl old) before =
        let a : get_or (reverse (x ∷ t)) i e ≡ get_or (reverse t) i e =
        ap (λ (xs : List NodeEntry). get_or xs i e) (reverse_more x t) ∙ get_or_append_left (reverse t) (x ∷ []) e i (let l = length-reverse t in omega arith) in
        let b : get_or (places_of (x ∷ t)) i p ≡ get_or (places_of t) i p = get_or_append_left (places_of t) ((x.node, length (journal t x.node)) ∷ []) p i (let l = many_places t in omega arith) in
        subst (λ (y : NodeEntry). StandsAt (x ∷ t) y (get_or (places_of (x ∷ t)) i p)) (sym a)
        (subst (λ (y : ℕ × ℕ). StandsAt (x ∷ t) (get_or (reverse t) i e) y) (sym b) (more x t (get_or (reverse t) i e) (get_or (places_of t) i p) (before old)))
    by (inr new) before =
        let n : i ≡ length t = let s : length (x ∷ t) ≡ length t + 1 = omega arith in omega arith in
        let a : get_or (reverse (x ∷ t)) i e ≡ x =
        ap (λ (xs : List NodeEntry). get_or xs i e) (reverse_more x t) ∙ get_or_push (reverse t) x e i (length-reverse t ∙ sym n) in
        let b : get_or (places_of (x ∷ t)) i p ≡ (x.node, length (journal t x.node)) =
        get_or_push (places_of t) (x.node, length (journal t x.node)) p i (many_places t ∙ sym n) in
        subst (λ (y : NodeEntry). StandsAt (x ∷ t) y (get_or (places_of (x ∷ t)) i p)) (sym a)
        (subst (λ (y : ℕ × ℕ). StandsAt (x ∷ t) x y) (sym b) (last x t))

-- any entry
abbrev pub some_entry : NodeEntry
some_entry = record { node = 0; entry = record { time = 0; caller = 0; event = Moved 0 } }

-- each entry is at a declared node
declared_at : (k : Counts) (h : List NodeEntry) → AreDeclared k h → (i : ℕ) (x : NodeEntry) → i < length h → (get_or (reverse h) i x).node < k.nodes
declared_at k [] are i x lt = absurd (omega arith)
declared_at k (e ∷ h) are i x lt = by (cases_lt i (length h)) (λ old. declared_at k h are.1 i x old)
  where
    by : (i < length h) ⊎ (length h ≤ i) → (i < length h → (get_or (reverse h) i x).node < k.nodes) → (get_or (reverse (e ∷ h)) i x).node < k.nodes
    by (inl old) before =
        let a : get_or (reverse (e ∷ h)) i x ≡ get_or (reverse h) i x =
        ap (λ (xs : List NodeEntry). get_or xs i x) (reverse_more e h) ∙ get_or_append_left (reverse h) (e ∷ []) x i (let l = length-reverse h in omega arith) in
        subst (λ (y : NodeEntry). y.node < k.nodes) (sym a) (before old)
    by (inr new) before =
        let n : i ≡ length h = let s : length (e ∷ h) ≡ length h + 1 = omega arith in omega arith in
        let a : get_or (reverse (e ∷ h)) i x ≡ e = ap (λ (xs : List NodeEntry). get_or xs i x) (reverse_more e h) ∙ get_or_push (reverse h) e x i (length-reverse h ∙ sym n) in
        subst (λ (y : NodeEntry). y.node < k.nodes) (sym a) are.0.0

-- ---- what an engine that tells the history has at a place

module _ (d : Declared) (h : List NodeEntry) (e : Engine) (t : Tells d h e) where
  pub within_places : (places : List (ℕ × ℕ)) (i : ℕ) → places ≡ e.history.items → i < length h → i < length places
  within_places places i same lt =
      let all : places ≡ places_of h = same ∙ t.told.places_are in
      let l : length places ≡ length h = ap (λ (xs : List (ℕ × ℕ)). length xs) all ∙ many_places h in
      omega arith

  pub place_stands : (places : List (ℕ × ℕ)) (place : ℕ × ℕ) (i : ℕ) (x : NodeEntry) → places ≡ e.history.items → i < length h → ((p : ℕ × ℕ) → place ≡ get_or places i p) → StandsAt h (get_or (reverse h) i x) place
  place_stands places place i x same lt is =
      let all : places ≡ places_of h = same ∙ t.told.places_are in
      subst (λ (p : ℕ × ℕ). StandsAt h (get_or (reverse h) i x) p) (sym (is (0, 0) ∙ ap (λ (xs : List (ℕ × ℕ)). get_or xs i (0, 0)) all)) (stands_at h i x (0, 0) lt)

  -- the node of an entry is here
  pub node_stands : (i : ℕ) (x : NodeEntry) → i < length h → (m : Stored) × (get_or e.nodes.items (get_or (reverse h) i x).node None ≡ Some m) × ((means m).journal ≡ journal h (get_or (reverse h) i x).node)
  node_stands i x lt =
      let known : (get_or (reverse h) i x).node < d.counts.nodes = declared_at d.counts h t.speaks i x lt in
      let count : length e.nodes.items ≡ d.counts.nodes = t.nodes in
      let m = t.told.all_here (get_or (reverse h) i x).node (omega arith) in
      (m.0, m.1, t.told.journals (get_or (reverse h) i x).node m.0 m.1)

  -- and so is its journal
  pub journal_told : {J : Type 0} (f : J → List Entry) (n : ℕ) (slot : Option Stored) (r : Option J) → get_or e.nodes.items n None ≡ slot → n < length e.nodes.items
      → MatchOption r (slot ≡ None) (λ j. (m : Stored) × (slot ≡ Some m) × (reverse (f j) ≡ (means m).journal)) → MatchOption r (d.counts.nodes ≤ n) (λ j. reverse (f j) ≡ journal h n)
  journal_told f n slot None at known is =
      let m = t.told.all_here n known in
      let bad : Some m.0 ≡ None = sym m.1 ∙ at ∙ is in
      absurd (cc)
  journal_told f n slot (Some j) at known (m, is, same) = same ∙ t.told.journals n m (at ∙ is)
