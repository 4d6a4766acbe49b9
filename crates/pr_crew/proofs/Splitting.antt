-- Passes that are split from the phase's own pass of a cell, and joined into it.
use Rattle.std.proofs.Common.{◌≡◌, ◌+◌, ◌++◌, ℕ, List, [], ◌∷◌, Option, Some, None, get_or, slice_set, refl, sym, ap, ◌∙◌, subst}
use Rattle.std.specs.Prelude.{slice_get}
use Rattle.std.proofs.lemmas.Option.{get_or_from_slice_get, same_Some}
use Rattle.pr_cell.specs.Passes.{Begins, IsPassOf, KeepsMine, held, mine, seen}
use Rattle.pr_crew.specs.declared.sites.Sites.{Sites}
use Rattle.pr_crew.specs.Making.{NodeCell, NodePass}
use Rattle.pr_crew.specs.Sites.{CanJoin, HasJoined, HasSplit, IsSite, Joins, Splits}
use Rattle.pr_crew.specs.Stories.{caller_of, stories}
use Rattle.pr_crew.proofs.Slots.{set_again}

-- one node has one cell, and one pass of it is the phase's own
pub at_site : (P : NodeCell → NodePass → Type 0) (s : Sites) (n : ℕ) (c cell : NodeCell) (p root : NodePass) → IsSite s n c p → slice_get s.cells.items n ≡ Some cell → slice_get s.roots.items n ≡ Some (Some root)
    → P c p → P cell root
at_site P s n c cell p root site at own holds =
    let cells : c ≡ cell = same_Some c cell (sym site.cell ∙ at) in
    let roots : p ≡ root = same_Some p root (same_Some (Some p) (Some root) (sym site.root ∙ own)) in
    subst (λ (x : NodeCell × NodePass). P x.0 x.1) (λ i. (cells i, roots i)) holds

pub of_site : (P : NodeCell → NodePass → Type 0) (s : Sites) (n : ℕ) (c cell : NodeCell) (p root : NodePass) → IsSite s n c p → slice_get s.cells.items n ≡ Some cell → slice_get s.roots.items n ≡ Some (Some root)
    → P cell root → P c p
of_site P s n c cell p root site at own holds =
    let cells : cell ≡ c = same_Some cell c (sym at ∙ site.cell) in
    let roots : root ≡ p = same_Some root p (same_Some (Some root) (Some p) (sym own ∙ site.root)) in
    subst (λ (x : NodeCell × NodePass). P x.0 x.1) (λ i. (cells i, roots i)) holds

-- the cell that is read there
pub cell_is : (s t : Sites) (n : ℕ) (c cell : NodeCell) → slice_get s.cells.items n ≡ Some c → t.cells ≡ s.cells → cell ≡ get_or t.cells.items n cell → slice_get s.cells.items n ≡ Some cell
cell_is s t n c cell at same is =
    let e : cell ≡ c = is ∙ (λ i. get_or (same i).items n cell) ∙ get_or_from_slice_get s.cells.items n c cell at in
    at ∙ ap (λ (x : NodeCell). Some x) (sym e)

-- the pass is taken out and another one put there
pub root_changes : (s t u : Sites) (n : ℕ) (q : NodePass) → t.roots.items ≡ slice_set s.roots.items n None → u.roots.items ≡ slice_set t.roots.items n (Some q) → u.roots.items ≡ slice_set s.roots.items n (Some q)
root_changes s t u n q out put = put ∙ ap (λ (l : List (Option NodePass)). slice_set l n (Some q)) out ∙ set_again s.roots.items n None (Some q)

module _ (s : Sites) (n : ℕ) (cell : NodeCell) (p : NodePass) (at : slice_get s.cells.items n ≡ Some cell) (own : slice_get s.roots.items n ≡ Some (Some p)) where
  pub splits : (t : Sites) (q r : NodePass) → IsPassOf stories cell q × (q.number ≡ 0) × (q.turns ≡ p.turns) → (held q.seat ≡ held p.seat) × (q.issued ≡ p.issued + 1) → seen q.seat ≡ seen p.seat
      → IsPassOf stories cell r × (r.turns ≡ 0) × (r.issued ≡ 0) → (r.number ≡ p.issued) × (held r.seat ≡ r.number ∷ []) → (seen r.seat ≡ seen p.seat) × (mine caller_of r.seat r.number ≡ [])
      → t.cells ≡ s.cells → t.roots.items ≡ slice_set s.roots.items n (Some q) → Splits s t n (Some r)
  splits t q r pass kept same new number given cells roots c o site =
      let has : HasSplit cell p q r = record {
        root = record { of_cell = pass.0; number = pass.1 };
        held_is = kept.0;
        issued = kept.1;
        seen_is = same;
        of_cell = new.0;
        unused = new.1;
        number = number.0;
        alone = number.1;
        issues = new.2;
        sees = given.0;
      } in
      (q, r, refl, of_site (λ d x. HasSplit d x q r) s n c cell o p site at own has, (cells, roots))

  -- it is the phase's own
  pub own_number : (pass : Option NodePass) → CanJoin s n pass → p.number ≡ 0
  own_number pass (c, r, x, site, root, same, other) = at_site (λ d o. o.number ≡ 0) s n c cell r p site at own root.number

  pub joins : (t : Sites) (pass : Option NodePass) (q r : NodePass) → pass ≡ Some q → p.number ≡ 0 → IsPassOf stories cell r × (r.number ≡ p.number) × (r.turns ≡ p.turns)
      → (held r.seat ≡ held p.seat ++ held q.seat) × (r.issued ≡ p.issued + q.issued) → Begins (seen p.seat) (seen r.seat) × Begins (seen q.seat) (seen r.seat)
      → KeepsMine caller_of p.seat r.seat × KeepsMine caller_of q.seat r.seat → t.cells ≡ s.cells → t.roots.items ≡ slice_set s.roots.items n (Some r) → Joins s t n pass
  joins t pass q r is first joined kept begins same cells roots c o x site other =
      let has : HasJoined cell p q r = record {
        root = record { of_cell = joined.0; number = joined.1 ∙ first };
        held_is = kept.0;
        issued = kept.1;
        begins = begins.0;
        begins_own = begins.1;
        same = same.0;
        same_own = same.1;
      } in
      (r, subst (λ (y : NodePass). HasJoined c o y r) (same_Some q x (sym is ∙ other)) (of_site (λ d y. HasJoined d y q r) s n c cell o p site at own has), (cells, roots))
