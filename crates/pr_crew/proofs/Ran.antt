-- What a job's function leaves of its task.
use Rattle.std.proofs.Common.{◌≡◌, ℕ, List, [], ◌∷◌, Result, inl, inr, refl, sym, ap, ◌∙◌, subst}
use denote.Ref.{MutBor}
use denote.Param.Members.{Shared}
use Rattle.std.specs.Fork.{ChangesEach}
use Rattle.std.specs.Prelude.{IfSome, IsTrue, Option, Some, None, length, get_or, slice_get, slice_index_or, ◌<◌}
use Rattle.std.proofs.lemmas.List.Elements.{All-nil}
use Rattle.std.proofs.lemmas.Option.{get_or_from_slice_get, slice_get-get_or, slice_get_cases}
use Rattle.pr_cell.specs.Passes.{IsPassOf, held}
use Rattle.pr_flow.specs.declared.flow_end.FlowEnd.{FlowEnd}
use Rattle.pr_flow.specs.Ending.{IsSoundEnd}
use Rattle.pr_inval.specs.declared.node_fault.NodeFault.{NodeFault}
use Rattle.pr_inval.specs.Standing.{Remembered}
use Rattle.pr_merge.specs.Holding.{IsSession}
use Rattle.pr_script.specs.declared.owner.Owner.TheVariants as owner
use Rattle.pr_script.specs.Steps.{Numbered}
use Rattle.pr_story.specs.Clients.{is_of_client}
use Rattle.pr_story.specs.History.{NodeEntry, Plan}
use Rattle.pr_story.specs.Merging.{New}
use Rattle.pr_text.specs.Steps.{job_of}
use Rattle.pr_wires.specs.Calls.{WireState}
use Rattle.pr_crew.specs.declared.task.ClientTask.{ClientTask}
use Rattle.pr_crew.specs.declared.task.FlowTask.{FlowTask}
use Rattle.pr_crew.specs.declared.task.Task.{Task}
use Rattle.pr_crew.specs.declared.task.Task.TheVariants as tasks
use Rattle.pr_crew.specs.Acting.{AtCell}
use Rattle.pr_crew.specs.Clients.{IsSofar}
use Rattle.pr_crew.specs.Crossing.{FlowCrosses}
use Rattle.pr_crew.specs.Flowing.{BeginsAt, FlowBegins, FlowEnds, FlowEndsOver}
use Rattle.pr_crew.specs.Jobs.{ClientDone}
use Rattle.pr_crew.specs.Making.{HasSeen, IsCellOf, IsSameCaller, NodeCell, NodePass}
use Rattle.pr_crew.specs.Stories.{stories}
use Rattle.pr_crew.specs.Tasks.{HasRun, IsDoneClient, IsDoneFlow, IsFresh, IsReadyClient, IsReadyFlow, IsSamePass, IsSameStream, IsSoundWire, IsUsed, count_of}
use Rattle.pr_crew.proofs.FlowEnding.{none_made}

cell_here : (cells : List NodeCell) (n : ℕ) (here cell : NodeCell) → slice_get cells n ≡ Some cell → here ≡ slice_index_or cells n here → here ≡ cell
cell_here cells n here cell at is = is ∙ get_or_from_slice_get cells n cell here at

same_some : {X : Type 0} (o : Option X) (x y : X) → o ≡ Some x → o ≡ Some y → x ≡ y
same_some o x y has is = let both : Some x ≡ Some y = sym has ∙ is in cc

same_pass : (was now : Option NodePass) (p q : NodePass) → was ≡ Some p → now ≡ Some q → IsSameCaller p q → IsSamePass was now
same_pass was now p q is has same = subst (λ (o : Option NodePass × Option NodePass). IsSamePass o.0 o.1) (λ i. (sym is i, sym has i)) same.number

module _ (plan : Plan) (h : List NodeEntry) (cells : List NodeCell) where
  used : (n : ℕ) (was now : Option NodePass) (here : NodeCell) (p q : NodePass) → IsFresh plan h cells n was → was ≡ Some p → here ≡ slice_index_or cells n here → now ≡ Some q → IsPassOf stories here q → IsSameCaller p q → IsUsed cells n now q
  used n was now here p q f is at has of same =
      let own : p ≡ f.own = same_some was p f.own is f.has in
      record {
        cell = f.cell;
        cell_is = f.cell_is;
        has = has;
        of_cell = subst (λ (c : NodeCell). IsPassOf stories c q) (cell_here cells n here f.cell f.cell_is at) of;
        alone = same.held ∙ ap (λ (r : NodePass). held r.seat) own ∙ f.alone ∙ ap (λ (r : NodePass). r.number ∷ []) (sym own) ∙ ap (λ (k : ℕ). k ∷ []) (sym same.number);
        issues = same.issued ∙ ap (λ (r : NodePass). r.issued) own ∙ f.issues;
      }

  opened_here : (n : ℕ) (was : Option NodePass) (here : NodeCell) → IsFresh plan h cells n was → here ≡ slice_index_or cells n here → IsCellOf plan h n here
  opened_here n was here f at = subst (λ (c : NodeCell). IsCellOf plan h n c) (sym (cell_here cells n here f.cell f.cell_is at)) f.opened

  unseen : (n : ℕ) (was : Option NodePass) (p : NodePass) → IsFresh plan h cells n was → was ≡ Some p → HasSeen p []
  unseen n was p f is = subst (λ (q : NodePass). HasSeen q []) (same_some was f.own p f.has is) f.seen

  -- ---- a client's job

  client_begins : (k : ℕ) (t : ClientTask) (p : NodePass) → IsReadyClient plan h cells t → t.pass ≡ Some p → IsSofar plan h t.work.node t.work.client k p t.work.seen []
  client_begins k t p r is = record {
    run = record { job = All-nil (λ x. x.job ≡ k); run = tt };
    made = none_made plan h 0 k t.work.node p (unseen t.work.node t.pass p r.fresh is);
    of_client = All-nil (λ x. IsTrue (is_of_client x.made.entry.event t.work.client));
    at = r.node_is;
    needs = r.seen_is;
  }

  pub client_ran : (inside : List Numbered) (k : ℕ) (t : ClientTask) (here : NodeCell) (p q : NodePass) (end : Result (Unit {0}) NodeFault) → IsReadyClient plan h cells t → t.pass ≡ Some p → here ≡ slice_index_or cells t.work.node here
      → IsPassOf stories here q × IsSameCaller p q
      → (IsCellOf plan h t.work.node here → IsSofar plan h t.work.node t.work.client k p t.work.seen [] → (xs : List New) × ClientDone plan h t.work.node t.work.client k (job_of inside (owner.Client t.work.client)) q end xs)
      → (xs : List New) × IsDoneClient plan h inside cells k (record { work = t.work; pass = Some q; end = end }) xs
  client_ran inside k t here p q end r is at (of, same) ends =
      let d = ends (opened_here t.work.node t.pass here r.fresh at) (client_begins k t p r is) in
      (d.0, record { pass = q; used = used t.work.node t.pass (Some q) here p q r.fresh is at refl of same; done = d.1 })

  -- ---- a flow's job

  begins_at : (n m : ℕ) (was : Option NodePass) (here : NodeCell) (p : NodePass) → IsFresh plan h cells n was → n ≡ m → was ≡ Some p → here ≡ slice_index_or cells n here → BeginsAt plan h m (record { cell = here; pass = Some p })
  begins_at n m was here p f same is at = record {
    cell = subst (λ (i : ℕ). IsCellOf plan h i here) same (opened_here n was here f at);
    pass = p;
    has = refl;
    seen = unseen n was p f is;
  }

  module _ {W : Type 0} (state : W → WireState) (t : FlowTask W) (a b : NodeCell) (from to : NodePass) (old : Remembered) (r : IsReadyFlow plan h cells {W = W} state t) (has_source : t.source ≡ Some from) (has_destination : t.destination ≡ Some to)
      (has_session : t.session ≡ Some old) (at_source : a ≡ slice_index_or cells t.work.source a) (at_destination : b ≡ slice_index_or cells t.work.destination b)
      (side_a side_b : AtCell) (a_is : side_a ≡ record { cell = a; pass = Some from }) (b_is : side_b ≡ record { cell = b; pass = Some to }) where
    flow_begins : FlowBegins plan h t.work.stream side_a side_b old
    flow_begins = record {
      source_is = subst (λ (z : AtCell). BeginsAt plan h (plan.stream t.work.stream).source z) (sym a_is)
          (begins_at t.work.source (plan.stream t.work.stream).source t.source a from r.source r.source_is has_source at_source);
      destination_is = subst (λ (z : AtCell). BeginsAt plan h (plan.stream t.work.stream).destination z) (sym b_is)
          (begins_at t.work.destination (plan.stream t.work.stream).destination t.destination b to r.destination r.destination_is has_destination at_destination);
      session_is = subst (λ (x : Remembered). IsSession plan h t.work.stream x) (same_some t.session r.session old r.has has_session) r.stands;
    }

    has_a : side_a.pass ≡ Some from
    has_a = ap (λ (z : AtCell). z.pass) a_is

    has_b : side_b.pass ≡ Some to
    has_b = ap (λ (z : AtCell). z.pass) b_is

    cell_a : side_a.cell ≡ a
    cell_a = ap (λ (z : AtCell). z.cell) a_is

    cell_b : side_b.cell ≡ b
    cell_b = ap (λ (z : AtCell). z.cell) b_is

    pub flow_ran : (inside : List Numbered) (k : ℕ) (x y : AtCell) (new : Remembered) (source destination : Option NodePass) (wire : Option W) (end : Result FlowEnd NodeFault)
        → (FlowBegins plan h t.work.stream side_a side_b old → FlowEndsOver state wire plan h t.work.stream t.work.turns k side_a side_b x y new end)
        → source ≡ x.pass → destination ≡ y.pass → IfSome source (λ p. IsPassOf stories x.cell p) → IfSome destination (λ p. IsPassOf stories y.cell p)
        → let u : FlowTask W = record { work = t.work; source = source; destination = destination; session = Some new; wire = wire; end = end } in
        (xs : List New) × IsDoneFlow plan h inside cells k {W = W} u xs × FlowCrosses state u xs
    flow_ran inside k x y new source destination wire end ends is_source is_destination of_source of_destination =
        let (e, crossed) = ends flow_begins in
        let p_is : source ≡ Some e.source = is_source ∙ e.has_source in
        let q_is : destination ≡ Some e.destination = is_destination ∙ e.has_destination in
        let p_of : IsPassOf stories x.cell e.source = subst (λ (o : Option NodePass). IfSome o (λ p. IsPassOf stories x.cell p)) p_is of_source in
        let q_of : IsPassOf stories y.cell e.destination = subst (λ (o : Option NodePass). IfSome o (λ p. IsPassOf stories y.cell p)) q_is of_destination in (
          e.made,
          record {
            source_is = r.source_is;
            destination_is = r.destination_is;
            from = e.source;
            source = used t.work.source t.source source a from e.source r.source has_source at_source p_is (subst (λ (c : NodeCell). IsPassOf stories c e.source) (e.source_cell ∙ cell_a) p_of) (e.same_source from has_a);
            to = e.destination;
            destination = used t.work.destination t.destination destination b to e.destination r.destination has_destination at_destination q_is
                (subst (λ (c : NodeCell). IsPassOf stories c e.destination) (e.destination_cell ∙ cell_b) q_of) (e.same_destination to has_b);
            session = new;
            has = refl;
            done = e.done;
            spelled = e.spelled;
          },
          crossed,
        )

    pub passes_ran : (k : ℕ) (x y : AtCell) (new : Remembered) (source destination : Option NodePass) (end : Result FlowEnd NodeFault)
        → (FlowBegins plan h t.work.stream side_a side_b old → FlowEnds plan h t.work.stream t.work.turns k side_a side_b x y new end)
        → source ≡ x.pass → destination ≡ y.pass → IsSamePass t.source source × IsSamePass t.destination destination
    passes_ran k x y new source destination end ends is_source is_destination =
        let e = ends flow_begins in (
          same_pass t.source source from e.source has_source (is_source ∙ e.has_source) (e.same_source from has_a),
          same_pass t.destination destination to e.destination has_destination (is_destination ∙ e.has_destination) (e.same_destination to has_b),
        )

  pub opened_somewhere : (n : ℕ) (was : Option NodePass) (here : NodeCell) → IsFresh plan h cells n was → here ≡ slice_index_or cells n here → (p : Plan) × (g : List NodeEntry) × (m : ℕ) × IsCellOf p g m here
  opened_somewhere n was here f at = (plan, h, n, opened_here n was here f at)

-- ---- a job's run

module _ {W : Type 0} (state : W → WireState) (cells : List NodeCell) (inside : List Numbered) (t : Task W) where
  pub client_has_run : (x y : ClientTask) → t ≡ tasks.Client x → ((plan : Plan) (h : List NodeEntry) (k : ℕ) → IsReadyClient plan h cells x → (xs : List New) × IsDoneClient plan h inside cells k y xs)
      → (y.work ≡ x.work) × IsSamePass x.pass y.pass → HasRun state cells inside t (tasks.Client y)
  client_has_run x y is done stays = subst (λ (z : Task W). HasRun state cells inside z (tasks.Client y)) (sym is) (record { done = λ plan h k r. let d = done plan h k r in (d.0, d.1, tt); stays = stays; honest = tt })

  pub flow_has_run : (x y : FlowTask W) → t ≡ tasks.Flow x → ((plan : Plan) (h : List NodeEntry) (lines : List Numbered) (k : ℕ) → IsReadyFlow plan h cells {W = W} state x → (xs : List New) × IsDoneFlow plan h lines cells k {W = W} y xs × FlowCrosses state y xs)
      → y.work ≡ x.work → IsSamePass x.source y.source × IsSamePass x.destination y.destination → IsSameStream x.session y.session → count_of y.wire ≡ count_of x.wire
      → (IsSoundWire state x.wire → IsSoundEnd y.end) → HasRun state cells inside t (tasks.Flow y)
  flow_has_run x y is done work passes session wire sound =
      subst (λ (z : Task W). HasRun state cells inside z (tasks.Flow y)) (sym is) (record { done = λ plan h k r. done plan h inside k r; stays = (work, passes.0, passes.1, session, wire); honest = sound })

-- ---- all jobs

within : {X : Type 0} (xs : List X) (k : ℕ) (x : X) → slice_get xs k ≡ Some x → k < length xs
within xs k x is = elim (slice_get_cases xs k).1 [
  | inl c ↦ c.1
  | inr c ↦ let bad : Some x ≡ None = sym is ∙ c.1 in absurd (cc)
]

-- what each call makes of its argument is so at each place
pub each_has : {F T : Type 0} (g : Shared F (ℕ × (MutBor T × Unit {0})) ((Unit {0}) × (MutBor T × Unit {0}))) (f : F) (P : T → T → Type 0) (xs ys : List T)
    → ((i : ℕ) (p q : MutBor T) → g.post f (i, (p, tt)) (tt, (q, tt)) → P p.now q.now) → ChangesEach g f xs ys → (k : ℕ) (t u : T) → slice_get xs k ≡ Some t → slice_get ys k ≡ Some u → P t u
each_has {F} {T} g f P xs ys one changes k t u at is =
    let c = (changes k t (within xs k t at)).1 in
    subst (λ (z : T × T). P z.0 z.1) (λ i. ((c.argument_is ∙ get_or_from_slice_get xs k t t at) i, (c.left ∙ get_or_from_slice_get ys k u t is) i)) (one k c.argument c.after_call c.call)

pub each_was : {T : Type 0} (xs ys : List T) (k : ℕ) (u : T) → length ys ≡ length xs → slice_get ys k ≡ Some u → (t : T) × (slice_get xs k ≡ Some t)
each_was {T} xs ys k u len is = (get_or xs k u, slice_get-get_or xs k u (subst (λ (n : ℕ). k < n) len (within ys k u is)))
