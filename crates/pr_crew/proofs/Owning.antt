-- Which job made which entry, where all jobs of a phase have ended and all cells are closed.
use Rattle.std.proofs.Common.{◌≡◌, ◌⊎◌, ℕ, ◌<◌, ◌≤◌, List, [], ◌∷◌, ◌++◌, Contains, inl, inr, refl, sym, ap, ◌∙◌, subst, eqb, length, reverse, arith}
use Rattle.std.specs.Prelude.{Option, Some, None, slice_get}
use Rattle.std.specs.List.Sorted.{IsStrictlyIncreasing}
use Rattle.std.proofs.lemmas.List.Elements.{All-contains, Contains-append_right}
use Rattle.std.proofs.lemmas.Bool.{eqb-true}
use Rattle.std.proofs.lemmas.Option.{slice_get_past}
use Rattle.pr_merge.specs.Phases.{times_of}
use Rattle.pr_merge.proofs.Times.{less_or}
use Rattle.pr_script.specs.Steps.{Numbered, owners_of}
use Rattle.pr_story.specs.declared.entry.Entry.{Entry}
use Rattle.pr_story.specs.History.{NodeEntry, Plan}
use Rattle.pr_story.specs.Merging.{IsJobRun, New, just}
use Rattle.pr_story.proofs.InOrder.{kept_is}
use Rattle.pr_story.proofs.Sorted.{contains_none, first_or_later, is_first, is_later}
use Rattle.pr_wires.specs.Calls.{WireState}
use Rattle.pr_crew.specs.declared.task.Task.{Task}
use Rattle.pr_crew.specs.declared.task.Task.TheVariants as tasks
use Rattle.pr_crew.specs.Assembly.{AreMadeBy, IsOfOneNode}
use Rattle.pr_crew.specs.Crossing.{JobCrosses}
use Rattle.pr_crew.specs.Jobs.{IsNew, IsRun, own}
use Rattle.pr_crew.specs.Making.{NodeCell, NodePass}
use Rattle.pr_crew.specs.Tasks.{IsDone, passes_at, passes_of}
use Rattle.pr_crew.specs.Leaving.{IsLeft}
use Rattle.pr_crew.proofs.Finished.{HaveFinished}
use Rattle.pr_crew.proofs.Giving.{owner_at}
use Rattle.pr_crew.proofs.OfTasks.{at_or_past, in_task, numbers_rise, of_task, one_task}
use Rattle.pr_crew.proofs.Seen.{each_new, has_caller, own_same, some_same}
use Rattle.pr_crew.proofs.Shares.{IsPart, IsShare, in_of_node, of_phase, part_of, share_of}

just_has : (xs : List New) (x : New) → Contains xs x → Contains (just xs) x.made.entry
just_has [] x has = absurd (contains_none x has)
just_has (y ∷ xs) x has = elim (first_or_later y xs x has) [
  | inl is ↦ subst (λ (e : Entry). Contains (y.made.entry ∷ just xs) e) (ap (λ (z : New). z.made.entry) is) (is_first y.made.entry (just xs))
  | inr later ↦ is_later y.made.entry (just xs) x.made.entry (just_has xs x later)
]

run_of : {W : Type 0} (plan : Plan) (h : List NodeEntry) (inside : List Numbered) (cells : List NodeCell) (k : ℕ) (t : Task W) (xs : List New) → IsDone plan h inside cells k t xs → IsRun plan h k xs
run_of plan h inside cells k (tasks.Client t) xs d = d.done.run
run_of plan h inside cells k (tasks.Flow t) xs d = d.done.run

module _ {W : Type 0} {state : W → WireState} (plan : Plan) (h : List NodeEntry) (inside : List Numbered) (count : ℕ) (cells : List NodeCell) (ts : List (Task W)) (nodes : ℕ → List Entry) (f : HaveFinished state plan h inside count cells ts nodes) where
  -- ---- each job's entries

  abbrev Done : ℕ → Task W → List New → Type 0
  Done k t xs = IsDone plan h inside cells k t xs × JobCrosses state t xs

  abbrev Found : ℕ → Option (Task W) → Type 0
  Found k o = (t : Task W) → o ≡ Some t → (xs : List New) × IsDone plan h inside cells k t xs × JobCrosses state t xs

  abbrev picked : (k : ℕ) (o : Option (Task W)) → Found k o → List New
  picked k None done = []
  picked k (Some t) done = (done t refl).0

  picked_done : (k : ℕ) (o : Option (Task W)) (done : Found k o) (t : Task W) → o ≡ Some t → Done k t (picked k o done)
  picked_done k None done t is = absurd (cc)
  picked_done k (Some u) done t is = let d = done u refl in subst (λ (v : Task W). Done k v d.0) (some_same u t is) (d.1, d.2)

  picked_none : (k : ℕ) (o : Option (Task W)) (done : Found k o) → o ≡ None → picked k o done ≡ []
  picked_none k None done is = refl
  picked_none k (Some u) done is = absurd (cc)

  pub jobs : ℕ → List New
  jobs k = picked k (slice_get ts k) (f.done k)

  both : (k : ℕ) (t : Task W) → slice_get ts k ≡ Some t → Done k t (jobs k)
  unfolding jobs
  both k t is = picked_done k (slice_get ts k) (f.done k) t is

  pub each : (k : ℕ) (t : Task W) → slice_get ts k ≡ Some t → IsDone plan h inside cells k t (jobs k)
  each k t is = (both k t is).0

  -- what each job's flow took crossed its wire
  pub crossed : (k : ℕ) (t : Task W) → slice_get ts k ≡ Some t → JobCrosses state t (jobs k)
  crossed k t is = (both k t is).1

  pub none : (k : ℕ) → length ts ≤ k → jobs k ≡ []
  unfolding jobs
  none k past = picked_none k (slice_get ts k) (f.done k) (slice_get_past ts k past)

  has_task : (k : ℕ) (x : New) → Contains (jobs k) x → (t : Task W) × (slice_get ts k ≡ Some t)
  has_task k x has = elim (at_or_past ts k) [
    | inl found ↦ found
    | inr past ↦ absurd (contains_none x (subst (λ (xs : List New). Contains xs x) (none k past) has))
  ]

  of_job : (k : ℕ) (t : Task W) → slice_get ts k ≡ Some t → (x : New) → Contains (jobs k) x → x.job ≡ k
  of_job k t is x has = All-contains (λ (y : New). y.job ≡ k) (jobs k) x (run_of plan h inside cells k t (jobs k) (each k t is)).job has

  of_own_job : (k : ℕ) (t : Task W) → slice_get ts k ≡ Some t → (x : New) → Contains (jobs k) x → Contains (jobs x.job) x
  of_own_job k t is x has = subst (λ (j : ℕ). Contains (jobs j) x) (sym (of_job k t is x has)) has

  -- the node of a task's pass is one of the phase's
  known : (k : ℕ) (t : Task W) → slice_get ts k ≡ Some t → (n : ℕ) (q : NodePass) → Contains (passes_of n t) q → n < count
  known k t is n q has =
      let o = owner_at plan h count inside (owners_of inside) ts f.works k t is in
      of_phase plan h count inside o.0 t o.2 n q has

  -- ---- each entry of a node is a job's

  made_by_a_job : (n : ℕ) (before : List Entry) (e : Entry) (after : List Entry) → nodes n ≡ before ++ e ∷ after → n < count → (x : New) × Contains (jobs x.job) x × IsNew plan h n before e x
  made_by_a_job n before e after is lt =
      let l : IsLeft plan h cells ts n (nodes n) = f.left n lt in
      let has : Contains (nodes n) e = subst (λ (es : List Entry). Contains es e) (sym is) (Contains-append_right before (e ∷ after) e (is_first e after)) in
      let caller = has_caller plan h cells ts n (nodes n) l e has in
      let q : NodePass = caller.0 in
      let task = of_task n ts q caller.1 in
      let k : ℕ = task.0 in
      let s : IsShare plan h cells n q (jobs k) = share_of plan h cells inside k task.1 (jobs k) (each k task.1 task.2) n q task.3 in
      let x = each_new plan h cells ts n (nodes n) l q s.cell s.ys s.cell_is s.of_cell caller.1 s.made before e after is (sym caller.2) in
      (x.0, of_own_job k task.1 task.2 x.0 (s.within x.0 x.1), x.2)

  each_entry : (n : ℕ) (before : List Entry) (e : Entry) (after : List Entry) → nodes n ≡ before ++ e ∷ after → (x : New) × Contains (jobs x.job) x × IsNew plan h n before e x
  each_entry n before e after is = elim (less_or n count) [
    | inl lt ↦ made_by_a_job n before e after is lt
    | inr past ↦ absurd (contains_none e (subst (λ (es : List Entry). Contains es e) (sym is ∙ f.none n past) (Contains-append_right before (e ∷ after) e (is_first e after))))
  ]

  -- ---- each entry of a job is its node's

  -- a task made the entry with one of its passes of the node
  record IsFound (k n : ℕ) (x : New) : Type 0 where
    t : Task W
    at : slice_get ts k ≡ Some t
    q : NodePass
    pass : Contains (passes_of n t) q
    lt : n < count
    in_list : Contains (nodes n) x.made.entry
    caller : x.made.entry.caller ≡ q.number

  found_with : (k n : ℕ) (x : New) (t : Task W) → slice_get ts k ≡ Some t → IsPart plan h cells inside k t n x → IsFound k n x
  found_with k n x t is p =
      let lt : n < count = known k t is n p.q p.pass in
      let same : own p.q.number (nodes n) ≡ just p.ys = own_same plan h cells ts n (nodes n) (f.left n lt) p.q p.ys (in_task n ts k t p.q is p.pass) p.made in
      let kept = kept_is (λ (e : Entry). eqb e.caller p.q.number) (nodes n) x.made.entry (subst (λ (es : List Entry). Contains es x.made.entry) (sym same) (just_has p.ys x p.has)) in
      record {
        t = t;
        at = is;
        q = p.q;
        pass = p.pass;
        lt = lt;
        in_list = kept.0;
        caller = eqb-true x.made.entry.caller p.q.number kept.1;
      }

  found : (k : ℕ) (x : New) → Contains (jobs k) x → IsFound k x.made.node x
  found k x has =
      let t = has_task k x has in
      found_with k x.made.node x t.0 t.1 (part_of plan h cells inside k t.0 (jobs k) (each k t.0 t.1) x has)

  own_entry : (k : ℕ) (x : New) → Contains (jobs k) x → (x.job ≡ k) × Contains (nodes x.made.node) x.made.entry
  own_entry k x has = let a = found k x has in (of_job k a.t a.at x has, a.in_list)

  -- an entry of two jobs is of one
  one_job : (k m : ℕ) (x y : New) → Contains (jobs k) x → Contains (jobs m) y → x.made ≡ y.made → k ≡ m
  one_job k m x y has there same =
      let a = found k x has in
      let b = found m y there in
      let n : ℕ = x.made.node in
      let node : y.made.node ≡ n = ap (λ (e : NodeEntry). e.node) (sym same) in
      let number : a.q.number ≡ b.q.number = sym a.caller ∙ ap (λ (e : NodeEntry). e.entry.caller) same ∙ b.caller in
      one_task n ts (numbers_rise 1 (length (passes_at ts n)) (passes_at ts n) (f.in_turn n a.lt)) k m a.t b.t a.q b.q a.at b.at a.pass
      (subst (λ (j : ℕ). Contains (passes_of j b.t) b.q) node b.pass) number

  -- ---- the times of a job's entries

  rise_of : (k : ℕ) (t : Task W) → slice_get ts k ≡ Some t → IsDone plan h inside cells k t (jobs k) → IsStrictlyIncreasing (times_of (jobs k)) ⊎ IsOfOneNode plan h nodes jobs (jobs k)
  rise_of k (tasks.Client t) is d =
      let n : ℕ = t.work.node in
      let pass : Contains (passes_of {W = W} n (tasks.Client t)) d.pass = in_of_node n n t.pass d.pass d.used.has refl in
      let lt : n < count = known k (tasks.Client t) is n d.pass pass in
      inr (
        n,
        (λ (e : Entry). eqb e.caller d.pass.number),
        sym (own_same plan h cells ts n (nodes n) (f.left n lt) d.pass (jobs k) (in_task n ts k (tasks.Client t) d.pass is pass) d.done.made),
      )
  rise_of k (tasks.Flow t) is d = inl d.done.rises

  none_rise : IsStrictlyIncreasing (times_of [])
  none_rise = λ k lt. absurd (omega (arith, lt))

  rise : (k : ℕ) → IsStrictlyIncreasing (times_of (jobs k)) ⊎ IsOfOneNode plan h nodes jobs (jobs k)
  rise k = elim (at_or_past ts k) [
    | inl t ↦ rise_of k t.0 t.1 (each k t.0 t.1)
    | inr past ↦ inl (subst (λ (xs : List New). IsStrictlyIncreasing (times_of xs)) (sym (none k past)) none_rise)
  ]

  runs : (k : ℕ) → IsJobRun plan h (reverse (jobs k))
  runs k = elim (at_or_past ts k) [
    | inl t ↦ (run_of plan h inside cells k t.0 (jobs k) (each k t.0 t.1)).run
    | inr past ↦ subst (λ (xs : List New). IsJobRun plan h (reverse xs)) (sym (none k past)) tt
  ]

  pub made_by : AreMadeBy plan h nodes jobs
  made_by = record {
    valid = f.valid;
    each = each_entry;
    own = own_entry;
    apart = one_job;
    rise = rise;
    runs = runs;
  }
