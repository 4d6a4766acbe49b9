-- No client and no stream is in two jobs of a phase.
use Rattle.std.proofs.Common.{◌≡◌, ℕ, zero, suc, ◌+◌, ◌<◌, List, [], ◌∷◌, Contains, sym, ap, ◌∙◌, subst, length, get_or, map, nat_eq, arith}
use Rattle.std.specs.Prelude.{IsTrue, true, Some, slice_get}
use Rattle.std.proofs.lemmas.Bool.Decides.{Decides-eqb}
use Rattle.std.proofs.lemmas.List.Elements.{All-contains}
use Rattle.std.proofs.lemmas.List.Sums.{passes_at_first}
use Rattle.std.proofs.lemmas.Option.{get_or_from_slice_get, slice_get_within}
use Rattle.pr_script.specs.declared.owner.Owner.{Owner}
use Rattle.pr_script.specs.declared.owner.Owner.TheVariants as owner
use Rattle.pr_script.specs.Steps.{Numbered, is_same_owner, owners_of}
use Rattle.pr_story.specs.declared.event.Event.{Event}
use Rattle.pr_story.specs.declared.event.Event.TheVariants.{Wrote, Answered, Behind, Moved, Attached, Sent, Idle, Stale, Accepted, Gapped, Missing, Down}
use Rattle.pr_story.specs.Clients.{is_of_client}
use Rattle.pr_story.specs.History.{NodeEntry, Plan}
use Rattle.pr_story.specs.Merging.{AreApart, IsNoMissing, New}
use Rattle.pr_story.specs.Phases.{AreApartJobs, IsApartJob}
use Rattle.pr_story.specs.Turns.{is_of_stream}
use Rattle.pr_story.proofs.Sorted.{is_first, is_later}
use Rattle.pr_text.specs.Steps.{client_job, job_of, stream_job}
use Rattle.pr_crew.specs.declared.task.Task.{Task}
use Rattle.pr_crew.specs.declared.task.Task.TheVariants as tasks
use Rattle.pr_crew.specs.Making.{NodeCell}
use Rattle.pr_crew.specs.Tasks.{IsDone, work_of}
use Rattle.pr_crew.specs.Works.{IsWork}
use Rattle.pr_crew.proofs.Seen.{some_same}

-- ---- one event

same_number : (x d c : ℕ) → IsTrue (nat_eq x d) → IsTrue (nat_eq x c) → d ≡ c
same_number x d c on is = sym ((Decides-eqb x d).0 on) ∙ (Decides-eqb x c).0 is

-- a client's event is of no other client and of no stream
client_alone : (event : Event) (c : ℕ) → IsTrue (is_of_client event c) → IsNoMissing event × ((s : ℕ) → IsTrue (is_of_stream event s) → ⊥) × ((d : ℕ) → IsTrue (is_of_client event d) → d ≡ c)
client_alone (Wrote client write body after) c is = (tt, λ s on. cc, λ d on. same_number client d c on is)
client_alone (Answered client name answer at) c is = (tt, λ s on. cc, λ d on. same_number client d c on is)
client_alone (Behind client needs has) c is = (tt, λ s on. cc, λ d on. same_number client d c on is)
client_alone (Moved client) c is = (tt, λ s on. cc, λ d on. same_number client d c on is)
client_alone _ c is = absurd (cc)

-- a stream's event is of no other stream and of no client
stream_alone : (event : Event) (s : ℕ) → IsTrue (is_of_stream event s) → ((u : ℕ) → IsTrue (is_of_stream event u) → u ≡ s) × ((c : ℕ) → IsTrue (is_of_client event c) → ⊥)
stream_alone (Attached stream at) s is = (λ u on. same_number stream u s on is, λ c on. cc)
stream_alone (Sent msg) s is = (λ u on. same_number msg.stream u s on is, λ c on. cc)
stream_alone (Idle stream) s is = (λ u on. same_number stream u s on is, λ c on. cc)
stream_alone (Stale stream cut) s is = (λ u on. same_number stream u s on is, λ c on. cc)
stream_alone (Accepted msg at) s is = (λ u on. same_number msg.stream u s on is, λ c on. cc)
stream_alone (Gapped msg has) s is = (λ u on. same_number msg.stream u s on is, λ c on. cc)
stream_alone (Missing stream number) s is = (λ u on. same_number stream u s on is, λ c on. cc)
stream_alone (Down stream cause) s is = (λ u on. same_number stream u s on is, λ c on. cc)
stream_alone _ s is = absurd (cc)

-- ---- one job

-- the clients and the streams of the job's event are the job's
record IsAlone (streams clients : ℕ → ℕ) (k : ℕ) (x : New) : Type 0 where
  job : x.job ≡ k
  event : IsNoMissing x.made.entry.event
  stream : (s : ℕ) → IsTrue (is_of_stream x.made.entry.event s) → streams s ≡ k
  client : (c : ℕ) → IsTrue (is_of_client x.made.entry.event c) → clients c ≡ k

all_alone : (streams clients : ℕ → ℕ) (k : ℕ) (xs : List New) → ((x : New) → Contains xs x → IsAlone streams clients k x) → AreApart streams clients xs
all_alone streams clients k [] each = tt
all_alone streams clients k (x ∷ xs) each =
    let a : IsAlone streams clients k x = each x (is_first x xs) in
    ((a.event, λ s on. a.job ∙ sym (a.stream s on), λ c on. a.job ∙ sym (a.client c on)), all_alone streams clients k xs (λ y has. each y (is_later x xs y has)))

-- the client whose job the k-th owner's is, is that owner
own_client : (inside : List Numbered) (k client c : ℕ) → slice_get (owners_of inside) k ≡ Some (owner.Client client) → client_job inside c ≡ k → c ≡ client
own_client inside k client c is at =
    let os : List Owner = owners_of inside in
    let test = λ (o : Owner). is_same_owner o (owner.Client c) in
    let d : Owner = owner.Client 0 in
    let lt : k < length os = slice_get_within os k (owner.Client client) is in
    let passes : test (get_or os (client_job inside c) d) ≡ true = passes_at_first test os d (subst (λ (i : ℕ). i < length os) (sym at) lt) in
    let found : get_or os (client_job inside c) d ≡ owner.Client client = ap (λ (i : ℕ). get_or os i d) at ∙ get_or_from_slice_get os k (owner.Client client) d is in
    sym ((Decides-eqb client c).0 (sym (ap test found) ∙ passes))

-- each client and each stream is used by its own job alone
pub job_apart : {W : Type 0} (plan : Plan) (h : List NodeEntry) (inside : List Numbered) (count : ℕ) (cells : List NodeCell) (k : ℕ) (o : Owner) (t : Task W) (xs : List New)
    → slice_get (owners_of inside) k ≡ Some o → IsWork plan h count inside o (work_of t) → IsDone plan h inside cells k t xs
    → IsApartJob h (stream_job inside) (client_job inside) k (job_of inside o) → AreApart (stream_job inside) (client_job inside) xs
job_apart plan h inside count cells k (owner.Client client) (tasks.Client t) xs at w d (c, commands, own) =
    all_alone (stream_job inside) (client_job inside) k xs (λ x has.
    let of : IsTrue (is_of_client x.made.entry.event t.work.client) = All-contains (λ (y : New). IsTrue (is_of_client y.made.entry.event t.work.client)) xs x d.done.of_client has in
    let a = client_alone x.made.entry.event t.work.client of in
    record {
      job = All-contains (λ (y : New). y.job ≡ k) xs x d.done.run.job has;
      event = a.0;
      stream = λ s on. absurd (a.1 s on);
      client = λ e on. ap (λ (i : ℕ). client_job inside i) (a.2 e on ∙ w.client_is ∙ sym (own_client inside k client c at own)) ∙ own;
    })
job_apart plan h inside count cells k (owner.Stream stream) (tasks.Flow t) xs at w d (attached, own) =
    all_alone (stream_job inside) (client_job inside) k xs (λ x has.
    let of = All-contains (λ (y : New). IsTrue (is_of_stream y.made.entry.event t.work.stream) × IsNoMissing y.made.entry.event) xs x d.done.of_stream has in
    let a = stream_alone x.made.entry.event t.work.stream of.0 in
    record {
      job = All-contains (λ (y : New). y.job ≡ k) xs x d.done.run.job has;
      event = of.1;
      stream = λ s on. ap (λ (i : ℕ). stream_job inside i) (a.0 s on ∙ w.stream_is) ∙ own;
      client = λ c on. absurd (a.1 c on);
    })
job_apart plan h inside count cells k (owner.Client client) (tasks.Flow t) xs at w d apart = absurd w
job_apart plan h inside count cells k (owner.Stream stream) (tasks.Client t) xs at w d apart = absurd w

-- ---- the jobs in turn

pub apart_at : (h : List NodeEntry) (inside : List Numbered) (streams clients : ℕ → ℕ) (os : List Owner) (m : ℕ) → AreApartJobs h streams clients (map (job_of inside) os) m
    → (i : ℕ) (o : Owner) → slice_get os i ≡ Some o → IsApartJob h streams clients (m + i) (job_of inside o)
apart_at h inside streams clients [] m all i o is = absurd (cc)
apart_at h inside streams clients (p ∷ os) m all zero o is =
    let here : m ≡ m + 0 = omega arith in
    subst (λ (v : Owner). IsApartJob h streams clients (m + 0) (job_of inside v)) (some_same p o is) (subst (λ (j : ℕ). IsApartJob h streams clients j (job_of inside p)) here all.0)
apart_at h inside streams clients (p ∷ os) m all (suc i) o is =
    let next : m + 1 + i ≡ m + suc i = omega arith in
    subst (λ (j : ℕ). IsApartJob h streams clients j (job_of inside o)) next (apart_at h inside streams clients os (m + 1) all.1 i o is)
