-- A flow over a wire that is sound ends as over such a wire: a job is told a lie only where its stream is one of those
-- whose connection is not sound, and so is a phase.
use Rattle.std.proofs.Common.{◌≡◌, ◌⊎◌, ℕ, suc, ◌+◌, List, [], ◌∷◌, ◌++◌, inl, inr, refl, sym, ◌∙◌, ap, subst, length, map, take}
use Rattle.std.specs.Prelude.{All, Bool, IsTrue, Option, Some, Result, Ok, Err, slice_get}
use Rattle.std.specs.List.{flat_map}
use Rattle.std.proofs.lemmas.Grind.{flat_map-append}
use Rattle.std.proofs.lemmas.List.Elements.{All-push, All-weaker}
use Rattle.pr_flow.specs.Downs.{IsLieAt, IsUnsoundFor, flow_of}
use Rattle.pr_flow.specs.Ending.{IsSoundEnd}
use Rattle.pr_flow.specs.declared.flow_end.FlowEnd.{FlowEnd}
use Rattle.pr_flow.specs.declared.flow_end.FlowEnd.TheVariants as ends
use Rattle.pr_flow.specs.declared.stop.Stop.{Stop}
use Rattle.pr_flow.specs.declared.stop.Stop.TheVariants as stops
use Rattle.pr_flow.proofs.Downs.{next_here, so_far_here, sound_or}
use Rattle.pr_inval.specs.declared.node_fault.NodeFault.{NodeFault}
use Rattle.pr_inval.specs.declared.node_fault.NodeFault.TheVariants as faults
use Rattle.pr_script.specs.declared.owner.Owner.{Owner}
use Rattle.pr_script.specs.declared.owner.Owner.TheVariants as owner
use Rattle.pr_script.specs.Steps.{Numbered}
use Rattle.pr_stamps.specs.declared.no_memory.NoMemory.{NoMemory}
use Rattle.pr_story.specs.History.{NodeEntry, Plan}
use Rattle.pr_text.specs.Steps.{job_of}
use Rattle.pr_wires.specs.Calls.{WireState}
use Rattle.pr_crew.specs.declared.task.FlowTask.{FlowTask}
use Rattle.pr_crew.specs.declared.task.Task.{Task}
use Rattle.pr_crew.specs.declared.task.Task.TheVariants as tasks
use Rattle.pr_crew.specs.declared.work.Work.{Work}
use Rattle.pr_crew.specs.declared.work.Work.TheVariants as works
use Rattle.pr_crew.specs.Sound.{HaveEndsOf}
use Rattle.pr_crew.specs.Tasks.{HasKnownWire, IsHonest, IsSoundWire, StaysJob, first_of_two, first_stop, stop_of, stop_of_client, stop_of_fault, stop_of_flow}
use Rattle.pr_crew.specs.Works.{AreWorks, own_flow, own_flows}
use Rattle.pr_crew.proofs.Places.{all_at_place, take_push}
use Rattle.pr_crew.proofs.Ran.{each_was}

-- ---- how jobs end

module _ (P : ℕ → Type 0) where
  fault_honest : (fault : NodeFault) → IsLieAt P (stop_of_fault fault)
  fault_honest faults.NoMemory = tt
  fault_honest (faults.Worn at) = tt

  client_honest : (end : Result (Unit {0}) NodeFault) → IsLieAt P (stop_of_client end)
  client_honest (Ok done) = tt
  client_honest (Err fault) = fault_honest fault

  flow_honest : (stream : ℕ) (end : Result FlowEnd NodeFault) → IsSoundEnd end ⊎ P stream → IsLieAt P (stop_of_flow stream end)
  flow_honest stream (Ok ends.Done) honest = tt
  flow_honest stream (Ok ends.Stale) honest = tt
  flow_honest stream (Ok (ends.Down cause)) honest = tt
  flow_honest stream (Ok (ends.Lied number sent got)) (inl honest) = absurd honest
  flow_honest stream (Ok (ends.Lied number sent got)) (inr at) = at
  flow_honest stream (Err fault) honest = fault_honest fault

  first_honest : (one next : Result Stop NoMemory) → IsLieAt P one → IsLieAt P next → IsLieAt P (first_of_two one next)
  first_honest (Ok stops.Went) next honest then = then
  first_honest (Ok (stops.Worn at)) next honest then = tt
  first_honest (Ok (stops.Lied stream number sent got)) next honest then = honest
  first_honest (Err refused) next honest then = tt

  job_honest : {W : Type 0} (u : Task W) → ((t : FlowTask W) → u ≡ tasks.Flow t → IsSoundEnd t.end ⊎ P t.work.stream) → IsLieAt P (stop_of u)
  job_honest (tasks.Client u) ends = client_honest u.end
  job_honest (tasks.Flow u) ends = flow_honest u.work.stream u.end (ends u refl)

  all_honest : {W : Type 0} (us : List (Task W)) → HaveEndsOf P us → IsLieAt P (first_stop (map stop_of us))
  all_honest [] ends = tt
  all_honest (u ∷ us) ends =
      first_honest (stop_of u) (first_stop (map stop_of us)) (job_honest u (λ t is. ends 0 t (cc))) (all_honest us (λ k t at. ends (suc k) t at))

  -- the phase stops as its first job that does not go its way
  pub stop_honest : {W : Type 0} (us : List (Task W)) (stop : Result Stop NoMemory) → HaveEndsOf P us → stop ≡ first_stop (map stop_of us) → IsLieAt P stop
  stop_honest us stop ends is = subst (λ (r : Result Stop NoMemory). IsLieAt P r) (sym is) (all_honest us ends)

  flow_ends : {W : Type 0} (state : W → WireState) (t : Task W) (u : FlowTask W) → HasKnownWire state P t → StaysJob t (tasks.Flow u) → IsHonest state t (tasks.Flow u) → IsSoundEnd u.end ⊎ P u.work.stream
  flow_ends state (tasks.Client t) u known stays honest = absurd stays
  flow_ends state (tasks.Flow t) u (inl sound) stays honest = inl (honest sound)
  flow_ends state (tasks.Flow t) u (inr at) stays honest = inr (subst (λ w. P w.stream) (sym stays.0) at)

  pub ends_of : {W : Type 0} (state : W → WireState) (ts us : List (Task W)) → All (HasKnownWire state P) ts → length us ≡ length ts
      → ((k : ℕ) (t u : Task W) → slice_get ts k ≡ Some t → slice_get us k ≡ Some u → StaysJob t u)
      → ((k : ℕ) (t u : Task W) → slice_get ts k ≡ Some t → slice_get us k ≡ Some u → IsHonest state t u)
      → HaveEndsOf P us
  ends_of state ts us known many stay honest k u at =
      let t = each_was ts us k (tasks.Flow u) many at in
      flow_ends state t.0 u (all_at_place (HasKnownWire state P) ts k t.0 known t.1) (stay k t.0 (tasks.Flow u) t.1 at) (honest k t.0 (tasks.Flow u) t.1 at)

  -- want of memory is no lie
  pub still_honest : (stop result : Result Stop NoMemory) → (result ≡ stop) ⊎ (result ≡ Err (record {})) → IsLieAt P stop → IsLieAt P result
  still_honest stop result (inl same) honest = subst (λ (r : Result Stop NoMemory). IsLieAt P r) (sym same) honest
  still_honest stop result (inr refused) honest = subst (λ (r : Result Stop NoMemory). IsLieAt P r) (sym refused) tt

-- ---- the wires that jobs get

-- a flow's wire is sound, or its connection is not
pub known_one : {W : Type 0} (state : W → WireState) (sound : ℕ → Bool) (made s : ℕ) (wire : Option W) → (IsTrue (sound (made + 1)) → IsSoundWire state wire) → IsSoundWire state wire ⊎ IsUnsoundFor sound made (s ∷ []) s
known_one state sound made s wire is_sound = elim (sound_or sound made s) [ inl is ↦ inl (is_sound is) | inr at ↦ inr at ]

known_more : {W : Type 0} (state : W → WireState) (P Q : ℕ → Type 0) → ((x : ℕ) → P x → Q x) → (t : Task W) → HasKnownWire state P t → HasKnownWire state Q t
known_more state P Q more (tasks.Client t) known = tt
known_more state P Q more (tasks.Flow t) (inl sound) = inl sound
known_more state P Q more (tasks.Flow t) (inr at) = inr (more t.work.stream at)

-- one job more has its wire
pub known_push : {W : Type 0} (state : W → WireState) (sound later : ℕ → Bool) (made next : ℕ) (fs gs all : List ℕ) (ts : List (Task W)) (t : Task W) → later ≡ sound → next ≡ made + length fs → all ≡ fs ++ (gs ++ [])
    → All (HasKnownWire state (λ x. IsUnsoundFor sound made fs x)) ts → HasKnownWire state (λ x. IsUnsoundFor later next gs x) t → All (HasKnownWire state (λ x. IsUnsoundFor sound made all x)) (ts ++ t ∷ [])
known_push state sound later made next fs gs all ts t same many is known one =
    All-push (HasKnownWire state (λ x. IsUnsoundFor sound made all x)) ts t
    (All-weaker (HasKnownWire state (λ x. IsUnsoundFor sound made fs x)) (HasKnownWire state (λ x. IsUnsoundFor sound made all x))
    (λ u known. known_more state (λ x. IsUnsoundFor sound made fs x) (λ x. IsUnsoundFor sound made all x) (so_far_here sound later made next fs gs [] all same is) u known) ts known)
    (known_more state (λ x. IsUnsoundFor later next gs x) (λ x. IsUnsoundFor sound made all x) (next_here sound later made next fs gs [] all same is many) t one)

-- the flows so far, and the next job's
pub flows_push : (ws : List Work) (i : ℕ) (w : Work) → slice_get ws i ≡ Some w → own_flows (take (i + 1) ws) ≡ own_flows (take i ws) ++ (own_flow w ++ [])
flows_push ws i w at = ap (λ (l : List Work). own_flows l) (take_push ws i w at) ∙ flat_map-append own_flow (take i ws) (w ∷ [])

-- the flows of what the jobs work on are those of the phase's jobs
pub flows_planned : (plan : Plan) (h : List NodeEntry) (count : ℕ) (inside : List Numbered) (os : List Owner) (ws : List Work) → AreWorks plan h count inside os ws → own_flows ws ≡ flat_map flow_of (map (job_of inside) os)
flows_planned plan h count inside [] ws are = subst (λ (l : List Work). own_flows l ≡ []) (sym are) refl
flows_planned plan h count inside (o ∷ os) [] are = absurd are
flows_planned plan h count inside (owner.Client client ∷ os) (works.Client w ∷ ws) are = flows_planned plan h count inside os ws are.1
flows_planned plan h count inside (owner.Client client ∷ os) (works.Flow w ∷ ws) are = absurd are.0
flows_planned plan h count inside (owner.Stream stream ∷ os) (works.Client w ∷ ws) are = absurd are.0
flows_planned plan h count inside (owner.Stream stream ∷ os) (works.Flow w ∷ ws) are = let more = flows_planned plan h count inside os ws are.1 in λ i. are.0.stream_is i ∷ more i
