-- What a job made at each of its passes.
use Rattle.std.proofs.Common.{◌≡◌, ℕ, ◌<◌, List, [], ◌∷◌, Contains, inl, inr, sym, ap, ◌∙◌, subst, eqb, if◌then◌else◌}
use Rattle.std.specs.Prelude.{Bool, false, Option, Some, None, slice_get}
use Rattle.std.proofs.lemmas.Bool.Decides.{Decides-eqb, eqb_tells}
use Rattle.std.proofs.lemmas.List.Elements.{All-contains, Contains-append_cases, Contains-append_left, Contains-append_right}
use Rattle.pr_cell.specs.Passes.{IsPassOf}
use Rattle.pr_script.specs.declared.owner.Owner.{Owner}
use Rattle.pr_script.specs.declared.owner.Owner.TheVariants as owner
use Rattle.pr_script.specs.Steps.{Numbered}
use Rattle.pr_story.specs.History.{NodeEntry, Plan}
use Rattle.pr_story.specs.Merging.{New}
use Rattle.pr_story.specs.Scripts.{FlowJob}
use Rattle.pr_story.proofs.Sorted.{contains_none, is_first, one_item}
use Rattle.pr_crew.specs.declared.task.Task.{Task}
use Rattle.pr_crew.specs.declared.task.Task.TheVariants as tasks
use Rattle.pr_crew.specs.Jobs.{MadeAt, at_destination, at_source}
use Rattle.pr_crew.specs.Making.{NodeCell, NodePass}
use Rattle.pr_crew.specs.Stories.{stories}
use Rattle.pr_crew.specs.Tasks.{IsDone, IsUsed, of_node, passes_of, work_of}
use Rattle.pr_crew.specs.Works.{IsWork}
use Rattle.pr_crew.proofs.Turning.{destination_within, flow_begins_if, on_a_side, source_within}

-- ---- a pass, or none, at a node

pub one_of_node : (n at : ℕ) (p : NodePass) → at ≡ n → of_node n at (Some p) ≡ p ∷ []
one_of_node n at p is = ap (λ (b : Bool). if b then p ∷ [] else []) ((Decides-eqb at n).1 is)

pub none_of_node : (n at : ℕ) (p : NodePass) → eqb at n ≡ false → of_node n at (Some p) ≡ []
none_of_node n at p is = ap (λ (b : Bool). if b then p ∷ [] else []) is

pub in_of_node : (n at : ℕ) (pass : Option NodePass) (p : NodePass) → pass ≡ Some p → at ≡ n → Contains (of_node n at pass) p
in_of_node n at pass p has is = subst (λ (l : List NodePass). Contains l p) (sym (ap (λ (o : Option NodePass). of_node n at o) has ∙ one_of_node n at p is)) (is_first p [])

pub at_node : (n at : ℕ) (pass : Option NodePass) (q : NodePass) → Contains (of_node n at pass) q → (at ≡ n) × (pass ≡ Some q)
at_node n at None q has = absurd (contains_none q has)
at_node n at (Some p) q has = elim (eqb_tells at n) [
  | inl same ↦ (same.1, ap (λ (r : NodePass). Some r) (one_item p q (subst (λ (l : List NodePass). Contains l q) (one_of_node n at p same.1) has)))
  | inr other ↦ absurd (contains_none q (subst (λ (l : List NodePass). Contains l q) (none_of_node n at p other.0) has))
]

-- ---- what was made at one of a job's passes

module _ (plan : Plan) (h : List NodeEntry) (cells : List NodeCell) where
  -- of the job's entries, these were made with the pass q of the cell of node n
  pub record IsShare (n : ℕ) (q : NodePass) (xs : List New) : Type 0 where
    pub cell : NodeCell
    pub cell_is : slice_get cells n ≡ Some cell
    pub of_cell : IsPassOf stories cell q
    pub ys : List New
    pub made : MadeAt plan h n q ys
    pub within : (x : New) → Contains ys x → Contains xs x

  share : (n at : ℕ) (pass : Option NodePass) (p q : NodePass) (ys xs : List New) → IsUsed cells at pass p → MadeAt plan h at p ys → ((x : New) → Contains ys x → Contains xs x)
      → Contains (of_node n at pass) q → IsShare n q xs
  share n at pass p q ys xs used made within has =
      let is = at_node n at pass q has in
      let same : Some p ≡ Some q = sym used.has ∙ is.1 in
      let own : p ≡ q = cc in
      subst (λ (r : NodePass). IsShare n r xs) own (subst (λ (m : ℕ). IsShare m p xs) is.0 (record {
        cell = used.cell;
        cell_is = used.cell_is;
        of_cell = used.of_cell;
        ys = ys;
        made = made;
        within = within;
      }))

  module _ {W : Type 0} (inside : List Numbered) (k : ℕ) where
    pub share_of : (t : Task W) (xs : List New) → IsDone plan h inside cells k t xs → (n : ℕ) (q : NodePass) → Contains (passes_of n t) q → IsShare n q xs
    share_of (tasks.Client t) xs d n q has = share n t.work.node t.pass d.pass q xs xs d.used d.done.made (λ x c. c) has
    share_of (tasks.Flow t) xs d n q has = elim (Contains-append_cases (of_node n t.work.source t.source) (of_node n t.work.destination t.destination) q has) [
      | inl source ↦ share n t.work.source t.source d.from q (at_source xs) xs d.source
          (subst (λ (m : ℕ). MadeAt plan h m d.from (at_source xs)) (sym d.source_is) d.done.source) (source_within xs) source
      | inr destination ↦ share n t.work.destination t.destination d.to q (at_destination xs) xs d.destination
          (subst (λ (m : ℕ). MadeAt plan h m d.to (at_destination xs)) (sym d.destination_is) d.done.destination) (destination_within xs) destination
    ]

    -- the job made the entry with one of its passes of the entry's node
    pub record IsPart (t : Task W) (n : ℕ) (x : New) : Type 0 where
      pub q : NodePass
      pub pass : Contains (passes_of n t) q
      pub ys : List New
      pub made : MadeAt plan h n q ys
      pub has : Contains ys x

    part : (t : Task W) (at : ℕ) (p : NodePass) (ys : List New) (x : New) → MadeAt plan h at p ys → Contains ys x → ((n : ℕ) → at ≡ n → Contains (passes_of n t) p) → IsPart t x.made.node x
    part t at p ys x made has pass =
        let is : x.made.node ≡ at = All-contains (λ (y : New). y.made.node ≡ at) ys x made.here has in
        record {
          q = p;
          pass = pass x.made.node (sym is);
          ys = ys;
          made = subst (λ (m : ℕ). MadeAt plan h m p ys) (sym is) made;
          has = has;
        }

    pub part_of : (t : Task W) (xs : List New) → IsDone plan h inside cells k t xs → (x : New) → Contains xs x → IsPart t x.made.node x
    part_of (tasks.Client t) xs d x has = part (tasks.Client t) t.work.node d.pass xs x d.done.made has (λ n is. in_of_node n t.work.node t.pass d.pass d.used.has is)
    part_of (tasks.Flow t) xs d x has = elim (on_a_side t.work.stream t.work.turns xs (flow_begins_if (FlowJob t.work.stream t.work.turns) xs t.end d.done.gives) x has) [
      | inl source ↦ part (tasks.Flow t) t.work.source d.from (at_source xs) x (subst (λ (m : ℕ). MadeAt plan h m d.from (at_source xs)) (sym d.source_is) d.done.source) source
          (λ n is. Contains-append_left (of_node n t.work.source t.source) (of_node n t.work.destination t.destination) d.from (in_of_node n t.work.source t.source d.from d.source.has is))
      | inr destination ↦ part (tasks.Flow t) t.work.destination d.to (at_destination xs) x (subst (λ (m : ℕ). MadeAt plan h m d.to (at_destination xs)) (sym d.destination_is) d.done.destination) destination
          (λ n is. Contains-append_right (of_node n t.work.source t.source) (of_node n t.work.destination t.destination) d.to (in_of_node n t.work.destination t.destination d.to d.destination.has is))
    ]

-- a job's passes are of nodes of the phase
pub of_phase : {W : Type 0} (plan : Plan) (h : List NodeEntry) (count : ℕ) (inside : List Numbered) (o : Owner) (t : Task W) → IsWork plan h count inside o (work_of t) → (n : ℕ) (q : NodePass) → Contains (passes_of n t) q → n < count
of_phase plan h count inside (owner.Client client) (tasks.Client t) w n q has = subst (λ (m : ℕ). m < count) (at_node n t.work.node t.pass q has).0 w.node
of_phase plan h count inside (owner.Stream stream) (tasks.Flow t) w n q has = elim (Contains-append_cases (of_node n t.work.source t.source) (of_node n t.work.destination t.destination) q has) [
  | inl source ↦ subst (λ (m : ℕ). m < count) (at_node n t.work.source t.source q source).0 w.source
  | inr destination ↦ subst (λ (m : ℕ). m < count) (at_node n t.work.destination t.destination q destination).0 w.destination
]
of_phase plan h count inside (owner.Client client) (tasks.Flow t) w n q has = absurd w
of_phase plan h count inside (owner.Stream stream) (tasks.Client t) w n q has = absurd w
