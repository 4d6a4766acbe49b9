-- Nodes that are moved into their cells.
use Rattle.std.proofs.Common.{◌≡◌, ◌<◌, ◌≤◌, ◌+◌, ◌∙◌, ℕ, List, [], ◌∷◌, ◌++◌, Contains, Option, Some, None, get_or, inl, inr, length, slice_set, refl, sym, ap, subst, arith}
use Rattle.std.specs.Prelude.{reverse, slice_get}
use mathlib.Core.List.{tail-eq_of_cons-eq}
use Rattle.std.proofs.lemmas.Bool.{cases_lt}
use Rattle.std.proofs.lemmas.List.{get_or-set_same, get_or-set_other, length-append, reverse-reverse}
use Rattle.std.proofs.lemmas.Option.{same_Some}
use Rattle.pr_cell.specs.Passes.{IsFirst, IsPassOf, held, opening_of, since}
use Rattle.pr_merge.specs.Holding.{HeldState, IsNodeOf}
use Rattle.pr_node.specs.Stored.{Stored, means}
use Rattle.pr_story.specs.declared.entry.Entry.{Entry}
use Rattle.pr_story.specs.History.{NodeEntry, Plan, journal}
use Rattle.pr_story.proofs.Sorted.{is_first}
use Rattle.pr_crew.specs.declared.phase_node.PhaseNode.{PhaseNode}
use Rattle.pr_crew.specs.declared.sites.Sites.{Sites}
use Rattle.pr_crew.specs.declared.story.Story.{Story}
use Rattle.pr_crew.specs.declared.story.Story.TheVariants.{Opened}
use Rattle.pr_crew.specs.Making.{IsCellOf, NodeCell, NodePass}
use Rattle.pr_crew.specs.Sites.{CanClose, HasOpened, IsBeside, IsClosed, IsHere, IsOpened, IsSite}
use Rattle.pr_crew.specs.Stories.{opened_of, stories}
use Rattle.pr_crew.proofs.Closing.{beside_same, beside_then}
use Rattle.pr_crew.proofs.Entries.{same_made}
use Rattle.pr_crew.proofs.Slots.{last_is, with_more}

-- ---- one cell

-- a cell was made with the node
pub has_opened : (callers : ℕ) (m value : Stored) (x : PhaseNode) (s t : Sites) (cell : NodeCell) (root : NodePass) → value ≡ m → stories x ≡ opened_of value ∷ [] → (cell.callers ≡ callers) × (opening_of stories cell ≡ stories x)
    → IsPassOf stories cell root × IsFirst (stories x) root → t.cells.items ≡ s.cells.items ++ cell ∷ [] → t.roots.items ≡ s.roots.items ++ Some root ∷ [] → HasOpened callers m s t
has_opened callers m value x s t cell root is told of pass cells roots =
    let e : stories x ≡ opened_of m ∷ [] = told ∙ ap (λ (y : Stored). opened_of y ∷ []) is in
    record {
      cell = cell;
      pass = root;
      cells = cells;
      roots = roots;
      opening = of.1 ∙ e;
      of_cell = pass.0;
      first = subst (λ (l : List Story). IsFirst l root) e pass.1;
      many = of.0;
    }

-- the new cell is node n's
opened_so : (plan : Plan) (h : List NodeEntry) (n callers : ℕ) (m : Stored) (s t : Sites) → IsNodeOf (λ (x : Stored). x.id) (λ (x : Stored). (means x).sets) (λ (x : Stored). (means x).journal) plan h n m → n < 32
    → length s.cells.items ≡ n → length s.roots.items ≡ n → HasOpened callers m s t → IsOpened plan h callers t n
opened_so plan h n callers m s t of small cells roots o =
    let journal_is : m.journal.items ≡ reverse (journal h n) = sym (reverse-reverse m.journal.items) ∙ ap reverse of.journal_is in
    record {
      cell = o.cell;
      pass = o.pass;
      site = record {
        cell = ap (λ (l : List NodeCell). slice_get l n) o.cells ∙ subst (λ (k : ℕ). slice_get (s.cells.items ++ o.cell ∷ []) k ≡ Some o.cell) cells (last_is s.cells.items o.cell);
        root = ap (λ (l : List (Option NodePass)). slice_get l n) o.roots ∙ subst (λ (k : ℕ). slice_get (s.roots.items ++ Some o.pass ∷ []) k ≡ Some (Some o.pass)) roots (last_is s.roots.items (Some o.pass));
      };
      of_node = record { opening = o.opening ∙ (λ i. Opened (of.number_is i) (of.sets_are i) (journal_is i) ∷ []); node = small };
      root = record { of_cell = o.of_cell; number = o.first.number };
      many = o.many;
      held_is = o.first.held;
      issued = o.first.issued;
      sees = tail-eq_of_cons-eq (ap (λ (l : List Story). l ++ since o.pass.seat) (sym (o.of_cell.opening ∙ o.opening)) ∙ o.first.seen);
    }

-- the earlier ones stay
opened_still : (plan : Plan) (h : List NodeEntry) (n callers : ℕ) (m : Stored) (s t : Sites) → IsOpened plan h callers s n → HasOpened callers m s t → IsOpened plan h callers t n
opened_still plan h n callers m s t was o = record {
  cell = was.cell;
  pass = was.pass;
  site = record {
    cell = ap (λ (l : List NodeCell). slice_get l n) o.cells ∙ with_more s.cells.items (o.cell ∷ []) n was.cell was.site.cell;
    root = ap (λ (l : List (Option NodePass)). slice_get l n) o.roots ∙ with_more s.roots.items (Some o.pass ∷ []) n (Some was.pass) was.site.root;
  };
  of_node = was.of_node;
  root = was.root;
  many = was.many;
  held_is = was.held_is;
  issued = was.issued;
  sees = was.sees;
}

-- ---- one after another

-- from a to b the first n nodes were moved into these cells
pub record IsOpening (callers : ℕ) (a b : HeldState Stored) (n : ℕ) (s : Sites) : Type 0 where
  pub cells : length s.cells.items ≡ n
  pub roots : length s.roots.items ≡ n
  pub opened : (plan : Plan) (h : List NodeEntry) (k : ℕ) → k < n → IsHere plan h a k → IsOpened plan h callers s k
  pub out : (k : ℕ) → k < n → get_or b.nodes k None ≡ None
  pub rest : (k : ℕ) → n ≤ k → get_or b.nodes k None ≡ get_or a.nodes k None
  pub beside : IsBeside a b

pub opening_none : (callers : ℕ) (a : HeldState Stored) (s : Sites) → s.cells.items ≡ [] → s.roots.items ≡ [] → IsOpening callers a a 0 s
opening_none callers a s cells roots = record {
  cells = ap length cells;
  roots = ap length roots;
  opened = λ plan h k lt here. absurd (omega (arith, lt));
  out = λ k lt. absurd (omega (arith, lt));
  rest = λ k le. refl;
  beside = beside_same a;
}

-- the node that comes next is here
pub next_here : (callers : ℕ) (a b : HeldState Stored) (n : ℕ) (s : Sites) → IsOpening callers a b n s → (plan : Plan) (h : List NodeEntry) → IsHere plan h a n → (m : Stored) × (get_or b.nodes n None ≡ Some m)
next_here callers a b n s o plan h (m, is, of) = (m, o.rest n (omega arith) ∙ is)

module _ (callers : ℕ) (a b d : HeldState Stored) (n : ℕ) (s t : Sites) (o : IsOpening callers a b n s) (beside : IsBeside b d) where
  pub opening_more : (m : Stored) → n < 32 → n < length a.nodes → get_or b.nodes n None ≡ Some m → HasOpened callers m s t → d.nodes ≡ slice_set b.nodes n None → IsOpening callers a d (n + 1) t
  opening_more m small within is one out = record {
    cells = let c = o.cells in let e : length t.cells.items ≡ length s.cells.items + 1 = ap length one.cells ∙ length-append s.cells.items (one.cell ∷ []) in omega (arith, c, e);
    roots = let c = o.roots in let e : length t.roots.items ≡ length s.roots.items + 1 = ap length one.roots ∙ length-append s.roots.items (Some one.pass ∷ []) in omega (arith, c, e);
    opened = λ plan h k lt here. elim (cases_lt k n) [
      | inl earlier ↦ opened_still plan h k callers m s t (o.opened plan h k earlier here) one
      | inr last ↦
          let e : n ≡ k = omega (arith, lt, last) in
          subst (λ (j : ℕ). IsHere plan h a j → IsOpened plan h callers t j) e
          (λ at. opened_so plan h n callers m s t (subst (λ (x : Stored). IsNodeOf (λ (y : Stored). y.id) (λ (y : Stored). (means y).sets) (λ (y : Stored). (means y).journal) plan h n x)
          (same_Some at.0 m (sym at.1 ∙ sym (o.rest n (omega arith)) ∙ is)) at.2) small o.cells o.roots one) here
    ];
    out = λ k lt. ap (λ (l : List (Option Stored)). get_or l k None) out ∙ elim (cases_lt k n) [
      | inl earlier ↦ get_or-set_other b.nodes n k None None (λ e. omega (arith, e, earlier)) ∙ o.out k earlier
      | inr last ↦
          let e : n ≡ k = omega (arith, lt, last) in
          let many = o.beside.nodes in
          subst (λ (j : ℕ). get_or (slice_set b.nodes n None) j None ≡ None) e (get_or-set_same b.nodes n None None (omega (arith, many, within)))
    ];
    rest = λ k le. ap (λ (l : List (Option Stored)). get_or l k None) out ∙ get_or-set_other b.nodes n k None None (λ e. omega (arith, e, le)) ∙ o.rest k (omega (arith, le));
    beside = beside_then a b d o.beside beside;
  }

  -- where there was no memory for the next cell
  pub opening_same : t ≡ s → d.nodes ≡ b.nodes → IsOpening callers a d n t
  opening_same sites nodes = record {
    cells = ap (λ (x : Sites). length x.cells.items) sites ∙ o.cells;
    roots = ap (λ (x : Sites). length x.roots.items) sites ∙ o.roots;
    opened = λ plan h k lt here. subst (λ (x : Sites). IsOpened plan h callers x k) (sym sites) (o.opened plan h k lt here);
    out = λ k lt. ap (λ (l : List (Option Stored)). get_or l k None) nodes ∙ o.out k lt;
    rest = λ k le. ap (λ (l : List (Option Stored)). get_or l k None) nodes ∙ o.rest k le;
    beside = beside_then a b d o.beside beside;
  }

-- ---- back again

module _ (callers count : ℕ) (a b : HeldState Stored) (n : ℕ) (s : Sites) (o : IsOpening callers a b n s) (less : n ≤ count) where
  -- no pass but the phase's own was made
  pub can_close : (plan : Plan) (h : List NodeEntry) → ((k : ℕ) → k < count → IsHere plan h a k) → (k : ℕ) → k < length s.cells.items → CanClose s k
  can_close plan h here k lt =
      let c = o.cells in
      let x = o.opened plan h k (omega (arith, c, lt)) (here k (omega (arith, c, lt, less))) in
      let i = x.issued in
      let zero_in : Contains (held x.pass.seat) 0 = subst (λ (l : List ℕ). Contains l 0) (sym x.held_is) (is_first 0 []) in (
        plan,
        h,
        x.cell,
        x.pass,
        x.site,
        x.of_node,
        x.root,
        (zero_in, λ j small. let e : 0 ≡ j = omega (arith, i, small) in subst (λ (y : ℕ). Contains (held x.pass.seat) y) e zero_in),
      )

  -- what is closed then is as it was
  pub all_back : (d : HeldState Stored) → ((plan : Plan) (h : List NodeEntry) (k : ℕ) (c : NodeCell) (p : NodePass) → IsSite s k c p → IsCellOf plan h k c → (m : Stored) × (get_or d.nodes k None ≡ Some m) × IsClosed plan h k p m)
      → ((k : ℕ) → length s.cells.items ≤ k → get_or d.nodes k None ≡ get_or b.nodes k None)
      → (plan : Plan) (h : List NodeEntry) → ((k : ℕ) → k < count → IsHere plan h a k) → (k : ℕ) → k < count → IsHere plan h d k
  all_back d closed behind plan h here k lt = elim (cases_lt k n) [
    | inl early ↦
        let x = o.opened plan h k early (here k lt) in
        let y = closed plan h k x.cell x.pass x.site x.of_node in
        let none : y.2.made ≡ [] = same_made y.2.made [] (sym y.2.seen_is ∙ x.sees) in (
          y.0,
          y.1,
          record {
            number_is = y.2.node.number_is;
            sets_are = y.2.node.sets_are;
            journal_is = y.2.node.journal_is ∙ ap (λ (es : List Entry). reverse es ++ journal h k) none;
          },
        )
    | inr late ↦
        let c = o.cells in
        let w = here k lt in
        (w.0, behind k (omega (arith, c, late)) ∙ o.rest k late ∙ w.1, w.2)
  ]
