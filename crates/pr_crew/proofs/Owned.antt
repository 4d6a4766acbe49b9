-- What a job's entries are to the list of the node that made them.
use Rattle.std.proofs.Common.{◌≡◌, ◌⊎◌, ℕ, zero, suc, ◌<◌, List, [], ◌∷◌, ◌++◌, Contains, cond, filter, inl, inr, refl, sym, ap, ◌∙◌, subst, eqb, get_or, length, arith}
use Rattle.std.specs.Prelude.{IsTrue, Result}
use Rattle.std.proofs.lemmas.Bool.Decides.{Decides-eqb}
use Rattle.std.proofs.lemmas.List.Elements.{All-contains}
use Rattle.pr_flow.specs.declared.flow_end.FlowEnd.{FlowEnd}
use Rattle.pr_flow.specs.Flows.{is_at_destination, is_at_source}
use Rattle.pr_inval.specs.declared.node_fault.NodeFault.{NodeFault}
use Rattle.pr_inval.specs.Standing.{Remembered}
use Rattle.pr_story.specs.declared.entry.Entry.{Entry}
use Rattle.pr_story.specs.History.{NodeEntry, Plan}
use Rattle.pr_story.specs.Merging.{New, just}
use Rattle.pr_story.proofs.InOrder.{is_kept, kept_is}
use Rattle.pr_crew.specs.Assembly.{IsOfOneNode}
use Rattle.pr_crew.specs.Jobs.{FlowDone, MadeAt, at_destination, at_source, own}
use Rattle.pr_crew.specs.Making.{AreOthers, HasSeen, NodePass}
use Rattle.pr_crew.proofs.Entries.{same_made}
use Rattle.pr_crew.proofs.MadeMore.{own_others}

just_at : (xs : List New) (x : New) (k : ℕ) → k < length xs → get_or xs k x ≡ x → Contains (just xs) x.made.entry
just_at [] x k lt is = absurd (omega arith)
just_at (y ∷ ys) x zero lt is = (0, omega arith, ap (λ (z : New). z.made.entry) is)
just_at (y ∷ ys) x (suc k) lt is = let r = just_at ys x k (omega arith) is in (suc r.0, (let within = r.1 in omega (arith, within)), r.2)

contains_just : (xs : List New) (x : New) → Contains xs x → Contains (just xs) x.made.entry
contains_just xs x (k, lt, is) = just_at xs x k lt is

-- ---- at one node

module _ (plan : Plan) (h : List NodeEntry) (n : ℕ) (p : NodePass) (xs : List New) (m : MadeAt plan h n p xs) where
  -- each of the job's entries is one that the pass has seen, of the pass's number, at the node
  pub is_own : (x : New) → Contains xs x → Contains m.all x.made.entry × (x.made.entry.caller ≡ p.number) × (x.made.node ≡ n)
  is_own x has =
      let kept = kept_is (λ (e : Entry). eqb e.caller p.number) m.all x.made.entry (subst (λ (es : List Entry). Contains es x.made.entry) (sym m.own_are) (contains_just xs x has)) in
      (kept.0, (Decides-eqb x.made.entry.caller p.number).0 kept.1, All-contains (λ y. y.made.node ≡ n) xs x m.here has)

  -- with what others made later, they are just those of the number in the node's list
  pub of_one_node : (nodes : ℕ → List Entry) (all later : List Entry) → HasSeen p all → AreOthers p.number later → nodes n ≡ all ++ later → IsOfOneNode plan h nodes (λ k. xs) xs
  of_one_node nodes all later seen apart is =
      let same : m.all ≡ all = same_made m.all all (sym m.seen ∙ seen) in (
        n,
        (λ (e : Entry). eqb e.caller p.number),
        sym m.own_are ∙ ap (own p.number) same ∙ sym (own_others p.number all later apart) ∙ ap (own p.number) (sym is),
      )

-- ---- at both sides of a flow

source_is : (xs : List New) → at_source xs ≡ filter (λ (x : New). is_at_source x.made.entry.event) xs
source_is [] = refl
source_is (x ∷ xs) = ap (λ (ys : List New). cond (is_at_source x.made.entry.event) (x ∷ ys) ys) (source_is xs)

destination_is : (xs : List New) → at_destination xs ≡ filter (λ (x : New). is_at_destination x.made.entry.event) xs
destination_is [] = refl
destination_is (x ∷ xs) = ap (λ (ys : List New). cond (is_at_destination x.made.entry.event) (x ∷ ys) ys) (destination_is xs)

-- each entry of a flow's job is one of those at the source, or at the destination
pub on_a_side : (plan : Plan) (h : List NodeEntry) (s turns k : ℕ) (p q : NodePass) (session : Remembered) (end : Result FlowEnd NodeFault) (xs : List New) → FlowDone plan h s turns k p q session end xs → (x : New) → Contains xs x
    → Contains (at_source xs) x ⊎ Contains (at_destination xs) x
on_a_side plan h s turns k p q session end xs d x has =
    elim (All-contains (λ y. IsTrue (is_at_source y.made.entry.event) ⊎ IsTrue (is_at_destination y.made.entry.event)) xs x d.sides has) [
      | inl at ↦ inl (subst (λ (ys : List New). Contains ys x) (sym (source_is xs)) (is_kept (λ (y : New). is_at_source y.made.entry.event) xs x has at))
      | inr at ↦ inr (subst (λ (ys : List New). Contains ys x) (sym (destination_is xs)) (is_kept (λ (y : New). is_at_destination y.made.entry.event) xs x has at))
    ]
