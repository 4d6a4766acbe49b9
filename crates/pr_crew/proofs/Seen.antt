-- A node's list, and what the passes that were joined have seen of it.
use Rattle.std.proofs.Common.{◌≡◌, ℕ, List, [], ◌∷◌, ◌++◌, Contains, inl, inr, refl, sym, ap, ◌∙◌, subst, eqb, cond, filter, append-nil, append_assoc}
use Rattle.std.specs.Prelude.{All, Bool, true, false, Some, slice_get}
use Rattle.std.proofs.lemmas.Bool.Decides.{Decides-eqb}
use Rattle.std.proofs.lemmas.List.{append_cancel_left}
use Rattle.std.proofs.lemmas.List.Elements.{All-contains, Contains-append_right, filter-append}
use Rattle.pr_cell.specs.Passes.{IsPassOf, held, mine, opening_of, since}
use Rattle.pr_story.specs.declared.entry.Entry.{Entry}
use Rattle.pr_story.specs.History.{NodeEntry, Plan}
use Rattle.pr_story.specs.Merging.{New, just}
use Rattle.pr_story.proofs.InOrder.{is_kept}
use Rattle.pr_story.proofs.Sorted.{contains_none, first_or_later, is_first}
use Rattle.pr_crew.specs.declared.story.Story.{Story}
use Rattle.pr_crew.specs.declared.story.Story.TheVariants.{Made}
use Rattle.pr_crew.specs.declared.task.Task.{Task}
use Rattle.pr_crew.specs.Jobs.{IsNew, MadeAt, own}
use Rattle.pr_crew.specs.Making.{HasSeen, NodeCell, NodePass}
use Rattle.pr_crew.specs.Sites.{IsWithin}
use Rattle.pr_crew.specs.Stories.{caller_of, made, stories}
use Rattle.pr_crew.specs.Tasks.{numbers_of, passes_at}
use Rattle.pr_crew.proofs.Entries.{made_parts, same_made}
use Rattle.pr_crew.specs.Leaving.{IsLeft}
use Rattle.pr_crew.proofs.Joined.{has_number}
use Rattle.pr_crew.proofs.MadeMore.{place}

kept_made : (b : Bool) (e : Entry) (xs : List Story) (ys : List Entry) → xs ≡ made ys → cond b (Made e ∷ xs) xs ≡ made (cond b (e ∷ ys) ys)
kept_made true e xs ys is = ap (λ (l : List Story). Made e ∷ l) is
kept_made false e xs ys is = is

-- a number's stories are those of the caller's own entries
own_made : (k : ℕ) (es : List Entry) → filter (λ (s : Story). eqb (caller_of s) k) (made es) ≡ made (own k es)
own_made k [] = refl
own_made k (e ∷ es) = kept_made (eqb e.caller k) e (filter (λ (s : Story). eqb (caller_of s) k) (made es)) (own k es) (own_made k es)

pub mine_is : (p : NodePass) (k : ℕ) (es : List Entry) → HasSeen p es → mine caller_of p.seat k ≡ made (own k es)
mine_is p k es seen = ap (λ (l : List Story). filter (λ (s : Story). eqb (caller_of s) k) l) seen ∙ own_made k es

-- an entry of the caller is one of its own
pub is_own : (k : ℕ) (es : List Entry) (e : Entry) → Contains es e → e.caller ≡ k → Contains (own k es) e
is_own k es e has is = is_kept (λ (x : Entry). eqb x.caller k) es e has ((Decides-eqb e.caller k).1 is)

pub some_same : {X : Type 0} (x y : X) → Some x ≡ Some y → x ≡ y
some_same x y is = cc

-- two passes of one cell have the same opening
one_opening : (p q : NodePass) (c d : NodeCell) → IsPassOf stories c p → IsPassOf stories d q → c ≡ d → p.seat.me.0.opening ≡ q.seat.me.0.opening
one_opening p q c d of by same = of.opening ∙ ap (λ (x : NodeCell). opening_of stories x) same ∙ sym by.opening

-- behind the same opening the lists are the same
behind_opening : (o first s all more whole : List Story) → o ≡ first → s ≡ all → first ++ whole ≡ (o ++ s) ++ more → whole ≡ all ++ more
behind_opening o first s all more whole opening same is = append_cancel_left first whole (all ++ more) (is ∙ (λ i. (opening i ++ same i) ++ more) ∙ append_assoc first all more)

-- where the caller's own entries stay the same, what comes behind has none
nothing_more : (k : ℕ) (es more : List Entry) → own k (es ++ more) ≡ own k es → own k more ≡ []
nothing_more k es more is =
    append_cancel_left (own k es) (own k more) [] (sym (filter-append (λ (e : Entry). eqb e.caller k) es more) ∙ is ∙ sym (append-nil (own k es)))

-- node n made the list es
module _ {W : Type 0} (plan : Plan) (h : List NodeEntry) (cells : List NodeCell) (ts : List (Task W)) (n : ℕ) (es : List Entry) (l : IsLeft plan h cells ts n es) where
  root_seen : HasSeen l.root es
  root_seen = subst (λ (made : List Entry). HasSeen l.root made) l.made_is l.closed.seen_is

  -- what a pass has seen of its caller's is all that there is
  pub own_same : (q : NodePass) (ys : List New) → Contains (passes_at ts n) q → MadeAt plan h n q ys → own q.number es ≡ just ys
  own_same q ys has m =
      let w : IsWithin q l.root = l.joined.within q has in
      same_made (own q.number es) (own q.number m.all) (sym (mine_is l.root q.number es root_seen) ∙ w.own ∙ mine_is q q.number m.all m.seen) ∙ m.own_are

  -- the list begins with what the pass has seen, and has no more of its caller's
  pub goes_on : (q : NodePass) (cell : NodeCell) (ys : List New) → slice_get cells n ≡ Some cell → IsPassOf stories cell q → Contains (passes_at ts n) q → (m : MadeAt plan h n q ys)
      → (more : List Entry) × (es ≡ m.all ++ more) × (own q.number more ≡ [])
  goes_on q cell ys cell_is of has m =
      let w : IsWithin q l.root = l.joined.within q has in
      let same : cell ≡ l.cell = some_same cell l.cell (sym cell_is ∙ l.cell_is) in
      let opening : q.seat.me.0.opening ≡ l.root.seat.me.0.opening = one_opening q l.root cell l.cell of l.joined.root.of_cell same in
      let rest : since l.root.seat ≡ made m.all ++ w.begins.0 = behind_opening q.seat.me.0.opening l.root.seat.me.0.opening (since q.seat) (made m.all) w.begins.0 (since l.root.seat) opening m.seen w.begins.1 in
      let parts = made_parts (made m.all) w.begins.0 es (sym root_seen ∙ rest) in
      let all : es ≡ m.all ++ parts.1 = parts.4 ∙ ap (λ (a : List Entry). a ++ parts.1) (sym (same_made m.all parts.0 parts.2)) in
      let same_own : own q.number (m.all ++ parts.1) ≡ own q.number m.all = ap (λ (x : List Entry). own q.number x) (sym all) ∙ own_same q ys has m ∙ sym m.own_are in
      (parts.1, all, nothing_more q.number m.all parts.1 same_own)

  -- so each entry of the pass's caller is one of those that it made
  pub each_new : (q : NodePass) (cell : NodeCell) (ys : List New) → slice_get cells n ≡ Some cell → IsPassOf stories cell q → Contains (passes_at ts n) q → MadeAt plan h n q ys
      → (before : List Entry) (e : Entry) (after : List Entry) → es ≡ before ++ e ∷ after → e.caller ≡ q.number → (x : New) × Contains ys x × IsNew plan h n before e x
  each_new q cell ys cell_is of has m before e after is by =
      let g = goes_on q cell ys cell_is of has m in
      elim (place m.all g.0 before after e (sym g.1 ∙ is)) [
        | inl i ↦ m.each before e i.0 i.1 by
        | inr i ↦ (let there : Contains g.0 e = subst (λ (x : List Entry). Contains x e) (sym i.1) (Contains-append_right i.0 (e ∷ after) e (is_first e after)) in
            absurd (contains_none e (subst (λ (x : List Entry). Contains x e) g.2 (is_own q.number g.0 e there by))))
      ]

  -- the caller of each entry is a job's pass
  pub has_caller : (e : Entry) → Contains es e → (q : NodePass) × Contains (passes_at ts n) q × (q.number ≡ e.caller)
  has_caller e has =
      let callers : All (λ (x : Entry). Contains (held l.root.seat) x.caller) es = subst (λ (x : List Entry). All (λ (y : Entry). Contains (held l.root.seat) y.caller) x) l.made_is l.closed.callers in
      let there : Contains (held l.root.seat) e.caller = All-contains (λ (x : Entry). Contains (held l.root.seat) x.caller) es e callers has in
      let none : own 0 es ≡ [] = same_made (own 0 es) [] (sym (mine_is l.root 0 es root_seen) ∙ l.joined.none) in
      elim (first_or_later 0 (numbers_of (passes_at ts n)) e.caller (subst (λ (ks : List ℕ). Contains ks e.caller) l.joined.held_is there)) [
        | inl root ↦ absurd (contains_none e (subst (λ (x : List Entry). Contains x e) none (is_own 0 es e has (sym root))))
        | inr later ↦ has_number (passes_at ts n) e.caller later
      ]
