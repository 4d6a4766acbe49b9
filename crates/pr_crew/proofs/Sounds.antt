-- What a phase adds whose flows ended as over sound wires, but for some streams.
use Rattle.std.proofs.Common.{◌≡◌, ℕ, List, [], ◌∷◌, Contains, inl, inr, subst, reverse}
use Rattle.std.specs.Prelude.{IsTrue, Some, Result, slice_get}
use Rattle.std.proofs.lemmas.List.Elements.{All-contains, All-nil}
use Rattle.pr_flow.specs.declared.stop.Stop.{Stop}
use Rattle.pr_flow.specs.Downs.{AreDownsOf, IsDownOf}
use Rattle.pr_flow.specs.Sound.{IsSoundEvent}
use Rattle.pr_flow.proofs.Downs.{of_stream, sound_down}
use Rattle.pr_merge.specs.Holding.{HeldState}
use Rattle.pr_node.specs.Stored.{Stored}
use Rattle.pr_script.specs.Steps.{Numbered}
use Rattle.pr_stamps.specs.declared.no_memory.NoMemory.{NoMemory}
use Rattle.pr_stamps.proofs.Contained.{is_first, is_later}
use Rattle.pr_story.specs.declared.cause.Cause.TheVariants.{Failed, Ended}
use Rattle.pr_story.specs.declared.event.Event.{Event}
use Rattle.pr_story.specs.declared.event.Event.TheVariants.{Down}
use Rattle.pr_story.specs.Clients.{is_of_client}
use Rattle.pr_story.specs.History.{NodeEntry, Plan}
use Rattle.pr_story.specs.Merging.{IsNoMissing, New, plain}
use Rattle.pr_story.specs.Turns.{is_of_stream}
use Rattle.pr_text.specs.Steps.{stream_job}
use Rattle.pr_wires.specs.Calls.{WireState}
use Rattle.pr_crew.specs.declared.task.Task.{Task}
use Rattle.pr_crew.specs.declared.task.Task.TheVariants as tasks
use Rattle.pr_crew.specs.declared.work.Work.{Work}
use Rattle.pr_crew.specs.Assembly.{IsAssembled, made_at}
use Rattle.pr_crew.specs.Leaving.{HaveRun}
use Rattle.pr_crew.specs.Sound.{HaveEndsOf}
use Rattle.pr_crew.specs.Tasks.{IsDone}
use Rattle.pr_crew.proofs.Finished.{HaveMade}
use Rattle.pr_crew.proofs.OfTasks.{at_or_past}
use Rattle.pr_crew.proofs.Transport.{in_job}

-- no client goes down
client_sound : (event : Event) (client : ℕ) → IsTrue (is_of_client event client) → IsSoundEvent event
client_sound (Down s Failed) client of = absurd (cc)
client_sound (Down s Ended) client of = absurd (cc)
client_sound event client of = tt

all_plain : (P : ℕ → Type 0) (xs : List New) → ((x : New) → Contains xs x → IsDownOf P x.made.entry.event) → AreDownsOf P (plain xs)
all_plain P [] each = tt
all_plain P (x ∷ xs) each = (each x (is_first x xs), all_plain P xs (λ y has. each y (is_later x xs y has)))

none_in : (xs : List New) (x : New) → xs ≡ [] → Contains xs x → IsSoundEvent x.made.entry.event
none_in xs x none has = All-contains (λ (y : New). IsSoundEvent y.made.entry.event) [] x (All-nil (λ (y : New). IsSoundEvent y.made.entry.event)) (subst (λ (l : List New). Contains l x) none has)

module _ {W : Type 0} {state : W → WireState} (h : List NodeEntry) (inside : List Numbered) (count : ℕ) (plan : Plan) (ws : List Work) (now last : HeldState Stored) (stop : Result Stop NoMemory)
    (r : HaveRun W state plan h inside count (stream_job inside) now last ws stop) (jobs : ℕ → List New) (made : HaveMade state plan h inside count r.cells r.jobs r.nodes jobs)
    (places : List (ℕ × ℕ)) (assembled : IsAssembled plan h r.nodes jobs places) (P : ℕ → Type 0) (ends : HaveEndsOf P r.jobs) where
  job_downs : (k : ℕ) (t : Task W) → slice_get r.jobs k ≡ Some t → IsDone plan h inside r.cells k t (jobs k) → (x : New) → Contains (jobs k) x → IsDownOf P x.made.entry.event
  job_downs k (tasks.Client t) at done x has =
      sound_down P x.made.entry.event (client_sound x.made.entry.event t.work.client (All-contains (λ (y : New). IsTrue (is_of_client y.made.entry.event t.work.client)) (jobs k) x done.done.of_client has))
  job_downs k (tasks.Flow t) at done x has = elim (ends k t at) [
    | inl sound ↦ sound_down P x.made.entry.event (All-contains (λ (y : New). IsSoundEvent y.made.entry.event) (jobs k) x (done.done.sound sound) has)
    | inr is ↦ of_stream P t.work.stream is x.made.entry.event (All-contains (λ (y : New). IsTrue (is_of_stream y.made.entry.event t.work.stream) × IsNoMissing y.made.entry.event) (jobs k) x done.done.of_stream has).0
  ]

  own_downs : (k : ℕ) (x : New) → Contains (jobs k) x → IsDownOf P x.made.entry.event
  own_downs k x has = elim (at_or_past r.jobs k) [
    | inl t ↦ job_downs k t.0 t.1 (made.each k t.0 t.1) x has
    | inr past ↦ sound_down P x.made.entry.event (none_in (jobs k) x (made.none k past) has)
  ]

  pub downs_new : AreDownsOf P (reverse (made_at r.nodes places))
  downs_new =
      let all : List New = assembled.merged.0 in
      subst (λ (l : List NodeEntry). AreDownsOf P l) assembled.merged.1 (all_plain P all (λ x has. own_downs x.job x (in_job all jobs assembled.merged.2 x has)))
