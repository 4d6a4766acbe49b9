-- Nodes that are taken out of their cells.
use Rattle.std.proofs.Common.{◌≡◌, ◌<◌, ◌≤◌, ◌+◌, ◌∙◌, ℕ, List, [], ◌∷◌, ◌++◌, All, Contains, Option, Some, None, drop, get_or, inl, inr, length, slice_set, take, refl, sym, ap, subst, arith}
use Rattle.std.specs.Prelude.{reverse, slice_get}
use mathlib.Core.List.{head-eq_of_cons-eq, tail-eq_of_cons-eq}
use Rattle.std.proofs.lemmas.Bool.{cases_lt}
use Rattle.std.proofs.lemmas.List.{get_or-set_same, get_or-set_other, length-append, length-set, reverse-append, reverse-reverse, take-append-drop}
use Rattle.std.proofs.lemmas.List.Elements.{All-nil, All-cons, All-head, All-tail}
use Rattle.std.proofs.lemmas.Option.{slice_get_within}
use Rattle.pr_cell.specs.Passes.{HoldsAll, IsPassOf, held, seen, since}
use Rattle.pr_merge.specs.Holding.{HeldState}
use Rattle.pr_node.specs.Stored.{Stored}
use Rattle.pr_story.specs.declared.entry.Entry.{Entry}
use Rattle.pr_story.specs.History.{NodeEntry, Plan, journal}
use Rattle.pr_crew.specs.declared.phase_node.PhaseNode.{PhaseNode}
use Rattle.pr_crew.specs.declared.sites.Sites.{Sites}
use Rattle.pr_crew.specs.declared.story.Story.{Story}
use Rattle.pr_crew.specs.declared.story.Story.TheVariants.{Opened, Made}
use Rattle.pr_crew.specs.Making.{IsCellOf, NodeCell, NodePass}
use Rattle.pr_crew.specs.Sites.{CanClose, IsBeside, IsClosed, IsSite}
use Rattle.pr_crew.specs.Stories.{caller_of, made, stories}
use Rattle.pr_crew.proofs.Entries.{same_opening}
use Rattle.pr_crew.proofs.Slots.{last_is, set_there, without_more}
use Rattle.pr_crew.proofs.Splitting.{at_site, of_site}

-- ---- one node

made_callers : (ks : List ℕ) (es : List Entry) → All (λ (e : Story). Contains ks (caller_of e)) (made es) → All (λ (e : Entry). Contains ks e.caller) es
made_callers ks [] all = All-nil (λ (e : Entry). Contains ks e.caller)
made_callers ks (e ∷ es) all =
    All-cons (λ (x : Entry). Contains ks x.caller) e es (All-head (λ (x : Story). Contains ks (caller_of x)) (Made e) (made es) all) (made_callers ks es (All-tail (λ (x : Story). Contains ks (caller_of x)) (Made e) (made es) all))

-- what the pass has seen is the node as it was opened, and what was made since
pub closed_so : (plan : Plan) (h : List NodeEntry) (n : ℕ) (cell : NodeCell) (p : NodePass) (x : PhaseNode) → IsPassOf stories cell p → stories x ≡ seen p.seat
    → All (λ (e : Story). Contains (held p.seat) (caller_of e)) (since p.seat) → IsCellOf plan h n cell → IsClosed plan h n p x.node
closed_so plan h n cell p x pass is callers of =
    let begun = take x.opened x.node.journal.items in
    let all = drop x.opened x.node.journal.items in
    let opened : p.seat.me.0.opening ≡ Opened n (plan.sets n) (reverse (journal h n)) ∷ [] = pass.opening ∙ of.opening in
    let told : stories x ≡ Opened n (plan.sets n) (reverse (journal h n)) ∷ since p.seat = is ∙ ap (λ (l : List Story). l ++ since p.seat) opened in
    let first = same_opening x.node.id n x.node.stores.gaps.sets (plan.sets n) begun (reverse (journal h n)) (head-eq_of_cons-eq told) in
    let rest : made all ≡ since p.seat = tail-eq_of_cons-eq told in
    record {
      made = all;
      seen_is = sym rest;
      node = record {
        number_is = first.0;
        sets_are = first.1;
        journal_is = ap reverse (sym (take-append-drop x.opened x.node.journal.items)) ∙ reverse-append begun all ∙ ap (λ (j : List Entry). reverse all ++ reverse j) first.2
            ∙ ap (λ (j : List Entry). reverse all ++ j) (reverse-reverse (journal h n));
      };
      callers = made_callers (held p.seat) all (subst (λ (l : List Story). All (λ (e : Story). Contains (held p.seat) (caller_of e)) l) (sym rest) callers);
    }

-- ---- beside the nodes

pub beside_same : {N : Type 0} (a : HeldState N) → IsBeside a a
beside_same a = record { sessions = refl; clients = refl; places = refl; nodes = refl }

pub beside_then : {N : Type 0} (a b c : HeldState N) → IsBeside a b → IsBeside b c → IsBeside a c
beside_then a b c x y = record { sessions = y.sessions ∙ x.sessions; clients = y.clients ∙ x.clients; places = y.places ∙ x.places; nodes = y.nodes ∙ x.nodes }

-- ---- one after another, from the last one on

-- the cells of t are the first ones of s, with their passes
pub record IsFront (s t : Sites) : Type 0 where
  pub few : length t.cells.items ≤ length s.cells.items
  pub sites : (n : ℕ) (c : NodeCell) (p : NodePass) → n < length t.cells.items → IsSite s n c p → IsSite t n c p

-- from nodes a to nodes b, those of the cells from this number on were given back
pub record HasClosed (s : Sites) (from : ℕ) (a b : List (Option Stored)) : Type 0 where
  pub closed : (plan : Plan) (h : List NodeEntry) (n : ℕ) (c : NodeCell) (p : NodePass) → from ≤ n → IsSite s n c p → IsCellOf plan h n c → (m : Stored) × (get_or b n None ≡ Some m) × IsClosed plan h n p m
  pub before : (n : ℕ) → n < from → get_or b n None ≡ get_or a n None
  pub behind : (n : ℕ) → length s.cells.items ≤ n → get_or b n None ≡ get_or a n None
  pub many : length b ≡ length a

pub front_all : (s : Sites) → IsFront s s
front_all s = record { few = omega arith; sites = λ n c p lt site. site }

pub closed_none : (s : Sites) (a : List (Option Stored)) → HasClosed s (length s.cells.items) a a
closed_none s a = record {
  closed = λ plan h n c p from site of. let lt = slice_get_within s.cells.items n c site.cell in absurd (omega (arith, lt, from));
  before = λ n lt. refl;
  behind = λ n le. refl;
  many = refl;
}

-- the last cell of t is taken, and those before it are left
module _ (s t : Sites) (left : List NodeCell) (at : ℕ) (cell : NodeCell) (front : IsFront s t) (place : at ≡ length left) (taken : t.cells.items ≡ left ++ cell ∷ []) where
  one_more : length t.cells.items ≡ at + 1
  one_more = let e : length t.cells.items ≡ length left + 1 = ap length taken ∙ length-append left (cell ∷ []) in omega (arith, e, place)

  last_cell : slice_get t.cells.items at ≡ Some cell
  last_cell = ap (λ (l : List NodeCell). slice_get l at) taken ∙ subst (λ (k : ℕ). slice_get (left ++ cell ∷ []) k ≡ Some cell) (sym place) (last_is left cell)

  pub within : at < length s.cells.items
  within = let e = one_more in let f = front.few in omega (arith, e, f)

  pub is_small : CanClose s at → at < 32
  is_small (plan, h, c, p, site, of, own, all) = of.node

  pub last_root : CanClose s at → (p : NodePass) × (slice_get t.roots.items at ≡ Some (Some p))
  last_root (plan, h, c, p, site, of, own, all) = let e = one_more in (p, (front.sites at c p (omega (arith, e)) site).root)

  pub last_pass : (root : NodePass) → slice_get t.roots.items at ≡ Some (Some root) → CanClose s at → IsPassOf stories cell root × HoldsAll root
  last_pass root own (plan, h, c, p, site, of, first, all) =
      let e = one_more in
      at_site (λ x y. IsPassOf stories x y × HoldsAll y) t at c cell p root (front.sites at c p (omega (arith, e)) site) last_cell own (first.of_cell, all)

  pub front_less : (u : Sites) → u.cells.items ≡ left → u.roots.items ≡ slice_set t.roots.items at None → IsFront s u
  front_less u cells roots =
      let e = one_more in
      let few : length u.cells.items ≡ at = ap length cells ∙ sym place in
      let f = front.few in
      record {
        few = omega (arith, e, few, f);
        sites = λ n c p lt site.
            let o = front.sites n c p (omega (arith, lt, e, few)) site in
            record {
              cell = ap (λ (l : List NodeCell). slice_get l n) cells ∙ without_more left (cell ∷ []) n c (omega (arith, lt, few, place)) (ap (λ (l : List NodeCell). slice_get l n) (sym taken) ∙ o.cell);
              root = ap (λ (l : List (Option NodePass)). slice_get l n) roots ∙ set_there t.roots.items at n None (Some p) (λ same. omega (arith, lt, few, same)) o.root;
            };
      }

  pub closed_more : (a b d : List (Option Stored)) (root : NodePass) (m : Stored) → HasClosed s (length t.cells.items) a b → slice_get t.roots.items at ≡ Some (Some root) → d ≡ slice_set b at (Some m) → at < length b
      → ((plan : Plan) (h : List NodeEntry) → IsCellOf plan h at cell → IsClosed plan h at root m) → HasClosed s at a d
  closed_more a b d root m before own given slot made =
      let e = one_more in
      let w = within in
      record {
        closed = λ plan h n c p from site of. elim (cases_lt at n) [
          | inl past ↦
              let o = before.closed plan h n c p (omega (arith, e, past)) site of in
              (o.0, ap (λ (l : List (Option Stored)). get_or l n None) given ∙ get_or-set_other b at n (Some m) None (λ is. omega (arith, is, past)) ∙ o.1, o.2)
          | inr here ↦
              let is : at ≡ n = omega (arith, from, here) in
              subst (λ (k : ℕ). IsSite s k c p → IsCellOf plan h k c → (x : Stored) × (get_or d k None ≡ Some x) × IsClosed plan h k p x) is
              (λ there also. (
                m,
                ap (λ (l : List (Option Stored)). get_or l at None) given ∙ get_or-set_same b at (Some m) None slot,
                of_site (λ x y. IsCellOf plan h at x → IsClosed plan h at y m) t at c cell p root (front.sites at c p (omega (arith, e)) there) last_cell own (made plan h) also,
              )) site of
        ];
        before = λ n lt. ap (λ (l : List (Option Stored)). get_or l n None) given ∙ get_or-set_other b at n (Some m) None (λ is. omega (arith, is, lt)) ∙ before.before n (omega (arith, lt, e));
        behind = λ n le. ap (λ (l : List (Option Stored)). get_or l n None) given ∙ get_or-set_other b at n (Some m) None (λ is. omega (arith, is, le, w)) ∙ before.behind n le;
        many = ap length given ∙ length-set b at (Some m) ∙ before.many;
      }
