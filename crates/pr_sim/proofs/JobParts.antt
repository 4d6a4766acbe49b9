-- A phase made of its jobs' parts, one after the other.
use Rattle.std.proofs.Common.{◌≡◌, ℕ, ◌<◌, ◌≤◌, ◌+◌, List, [], ◌∷◌, ◌++◌, Result, Ok, Err, refl, sym, ◌∙◌, ap, subst, cond, nat_eq, length, get_or, take, drop, suc, arith}
use Rattle.std.specs.Prelude.{true, false, Bool, IsTrue, All, AllPairs, map, reverse}
use Rattle.std.specs.List.{AllByRecursion, fold}
use Rattle.std.proofs.lemmas.List.{append_assoc, append-nil, map-append, reverse-append, take-append-drop, take_more}
use Rattle.std.proofs.lemmas.List.Elements.{All-cons}
use Rattle.std.proofs.lemmas.List.Kept.{AllPairs-cons}
use Rattle.std.proofs.lemmas.Bool.Decides.{Decides-eqb}
use Rattle.pr_inval.specs.declared.node_fault.NodeFault.{NodeFault}
use Rattle.pr_inval.specs.declared.node_fault.NodeFault.TheVariants as faults
use Rattle.pr_flow.specs.declared.stop.Stop.{Stop}
use Rattle.pr_flow.specs.declared.stop.Stop.TheVariants as stops
use Rattle.pr_stamps.specs.declared.no_memory.NoMemory.{NoMemory}
use Rattle.pr_script.specs.declared.command.Command.{Command as Said}
use Rattle.pr_script.specs.declared.command.Command.TheVariants as commands
use Rattle.pr_script.specs.declared.owner.Owner.{Owner}
use Rattle.pr_script.specs.declared.owner.Owner.TheVariants as owner
use Rattle.pr_script.specs.Steps.{Numbered, has_owner, owner_of, owners_of, with_owner}
use Rattle.pr_story.specs.Commands.{Command}
use Rattle.pr_story.specs.History.{NodeEntry}
use Rattle.pr_story.specs.Scripts.{ClientJob, EachJob, FlowJob, IsPhase, Job, JobAfterJob, JobBegins, JobEntry, JobGives, Phase, Precedes, made_of, of_job}
use Rattle.pr_story.proofs.Begun.{nothing_begins}
use Rattle.pr_story.proofs.InOrder.{pairs_none}
use Rattle.pr_story.proofs.JobAfterJob.{AreOfJobs}
use Rattle.pr_sim.specs.Commands.{IsCause, StepEnds, attached_of}
use Rattle.pr_sim.specs.Flowing.{FlowEndsSo}
use Rattle.pr_flow.specs.Lies.{IsLied}
use Rattle.pr_sim.specs.Phasing.{CanDo, GivesAll, IsJobLine, JobEnds}
use Rattle.pr_sim.specs.Running.{IsRunning, Tells}
use Rattle.pr_story.specs.Counts.{Declared}
use Rattle.pr_sim.specs.Stepping.{CanRun, IsStopOf, StepsByWires, went_of}
use Rattle.pr_sim.proofs.Faults.{stopped_same}
use Rattle.pr_sim.proofs.Flows.{stays_attached}
use Rattle.pr_sim.specs.declared.engine.Engine.{Engine}

-- ---- entries with the numbers of their jobs

-- the entries of one job in front of others
abbrev tag : ℕ → List NodeEntry → List JobEntry → List JobEntry
tag k [] xs = xs
tag k (e ∷ es) xs = record { job = k; made = e } ∷ tag k es xs

made_tag : (k : ℕ) (es : List NodeEntry) (xs : List JobEntry) → made_of (tag k es xs) ≡ es ++ made_of xs
made_tag k [] xs = refl
made_tag k (e ∷ es) xs = ap (λ (ys : List NodeEntry). e ∷ ys) (made_tag k es xs)

-- from this number on
abbrev From : ℕ → List JobEntry → Type 0
From k xs = All (λ (x : JobEntry). k ≤ x.job) xs

eq_not : (t s : ℕ) → (t ≡ s → ⊥) → nat_eq t s ≡ false
eq_not t s other = by (nat_eq t s) (Decides-eqb t s).0
  where
    by : (b : Bool) → (IsTrue b → t ≡ s) → b ≡ false
    by true is = absurd (other (is refl))
    by false is = refl

of_none : (xs : List JobEntry) (k m : ℕ) → k < m → From m xs → of_job xs k ≡ []
of_none [] k m lt from = refl
of_none (x ∷ xs) k m lt from =
    ap (λ (b : Bool). cond b (x.made ∷ of_job xs k) (of_job xs k)) (eq_not x.job k (λ is. let le : m ≤ x.job = from 0 x (omega arith) in omega arith))
    ∙ of_none xs k m lt (λ i d within. from (suc i) d (omega arith))

of_here : (k : ℕ) (es : List NodeEntry) (xs : List JobEntry) → From (k + 1) xs → of_job (tag k es xs) k ≡ es
of_here k [] xs from = of_none xs k (k + 1) (omega arith) from
of_here k (e ∷ es) xs from =
    ap (λ (b : Bool). cond b (e ∷ of_job (tag k es xs) k) (of_job (tag k es xs) k)) ((Decides-eqb k k).1 refl)
    ∙ ap (λ (ys : List NodeEntry). e ∷ ys) (of_here k es xs from)

of_there : (k j : ℕ) (es : List NodeEntry) (xs : List JobEntry) → k < j → of_job (tag k es xs) j ≡ of_job xs j
of_there k j [] xs lt = refl
of_there k j (e ∷ es) xs lt =
    ap (λ (b : Bool). cond b (e ∷ of_job (tag k es xs) j) (of_job (tag k es xs) j)) (eq_not k j (λ is. omega arith)) ∙ of_there k j es xs lt

all_tag : (P : JobEntry → Type 0) (k : ℕ) (es : List NodeEntry) (xs : List JobEntry) → ((e : NodeEntry) → P (record { job = k; made = e })) → All P xs → All P (tag k es xs)
all_tag P k [] xs each all = all
all_tag P k (e ∷ es) xs each all = All-cons P (record { job = k; made = e }) (tag k es xs) (each e) (all_tag P k es xs each all)

each_tag : (P : Job → List NodeEntry → Type 0) (jobs : List Job) (k j : ℕ) (es : List NodeEntry) (xs : List JobEntry) → k < j → EachJob P jobs j xs → EachJob P jobs j (tag k es xs)
each_tag P [] k j es xs lt each = all_tag (λ (x : JobEntry). x.job < j) k es xs (λ e. lt) each
each_tag P (job ∷ jobs) k j es xs lt each =
    (subst (λ (ys : List NodeEntry). P job ys) (sym (of_there k j es xs lt)) each.0, each_tag P jobs k (j + 1) es xs (omega arith) each.1)

pairs_tag : (k : ℕ) (es : List NodeEntry) (xs : List JobEntry) → From k xs → AllPairs (Precedes JobAfterJob) xs → AllPairs (Precedes JobAfterJob) (tag k es xs)
pairs_tag k [] xs from pairs = pairs
pairs_tag k (e ∷ es) xs from pairs =
    AllPairs-cons (Precedes JobAfterJob) (record { job = k; made = e }) (tag k es xs)
    (all_tag (λ (x : JobEntry). k ≤ x.job) k es xs (λ e. omega arith) from) (pairs_tag k es xs from pairs)

numbered : (P : Job → List NodeEntry → Type 0) (jobs : List Job) (k : ℕ) (es : List NodeEntry) → AreOfJobs P jobs es
    → (xs : List JobEntry) × (made_of xs ≡ es) × EachJob P jobs k xs × AllPairs (Precedes JobAfterJob) xs × From k xs
numbered P [] k es are = ([], sym are, (λ i d lt. absurd (omega arith)), pairs_none (Precedes JobAfterJob), (λ i d lt. absurd (omega arith)))
numbered P (job ∷ jobs) k es (first, rest, is, gives, more) =
    let n = numbered P jobs (k + 1) rest more in
    let xs : List JobEntry = n.0 in
    let from : From k xs = λ i d lt. let le = n.4 i d lt in omega (arith, le) in (
      tag k first xs,
      made_tag k first xs ∙ ap (λ (ys : List NodeEntry). first ++ ys) n.1 ∙ sym is,
      (subst (λ (ys : List NodeEntry). P job ys) (sym (of_here k first xs n.4)) gives, each_tag P jobs k (k + 1) first xs (omega arith) n.2),
      pairs_tag k first xs from n.3,
      all_tag (λ (x : JobEntry). k ≤ x.job) k first xs (λ e. omega arith) from,
    )

-- parts of jobs, one after the other, are a phase
pub is_phase : (P : Job → List NodeEntry → Type 0) (jobs : List Job) (es : List NodeEntry) → AreOfJobs P jobs es → IsPhase P JobAfterJob jobs es
is_phase P jobs es are = let n = numbered P jobs 0 es are in (n.0, n.1, n.2, n.3)

-- ---- job after job

pub jobs_more : (P : Job → List NodeEntry → Type 0) (jobs : List Job) (job : Job) (es fs : List NodeEntry) → AreOfJobs P jobs es → P job fs → AreOfJobs P (jobs ++ job ∷ []) (es ++ fs)
jobs_more P [] job es fs are is = (fs, [], ap (λ (ys : List NodeEntry). ys ++ fs) are ∙ sym (append-nil fs), is, refl)
jobs_more P (j ∷ jobs) job es fs (first, rest, split, gives, more) is =
    (first, rest ++ fs, ap (λ (ys : List NodeEntry). ys ++ fs) split ∙ append_assoc first rest fs, gives, jobs_more P jobs job rest fs more is)

none_begun : (jobs : List Job) → AreOfJobs JobBegins jobs []
none_begun [] = refl
none_begun (job ∷ jobs) = ([], [], refl, nothing_begins.job job, none_begun jobs)

-- some jobs are whole, the next one has begun, and the others have not
pub jobs_begun : (jobs : List Job) (job : Job) (rest : List Job) (es fs : List NodeEntry) → AreOfJobs JobGives jobs es → JobBegins job fs → AreOfJobs JobBegins (jobs ++ job ∷ rest) (es ++ fs)
jobs_begun [] job rest es fs are is = (fs, [], ap (λ (ys : List NodeEntry). ys ++ fs) are ∙ sym (append-nil fs), is, none_begun rest)
jobs_begun (j ∷ jobs) job others es fs (first, rest, split, gives, more) is = (
  first,
  rest ++ fs,
  ap (λ (ys : List NodeEntry). ys ++ fs) split ∙ append_assoc first rest fs,
  ([], subst (λ (ys : List NodeEntry). JobGives j ys) (sym (append-nil first)) gives),
  jobs_begun jobs job others rest fs more is,
)

-- ---- how jobs end

module _ (d : Declared) (attached : ℕ → Bool) (h : List NodeEntry) (e : Engine) where
  pub client_job_ends : (asked : List Command) (job : Job) (r : Result (Unit {0}) NodeFault) (q : Result Stop NoMemory) → job ≡ ClientJob asked → IsStopOf (went_of r) q → GivesAll asked d attached h e r → JobEnds job d attached h e q
  client_job_ends asked job r q same is ends = subst (λ (j : Job). JobEnds j d attached h e q) (sym same) (by r is ends)
    where
      by : (r : Result (Unit {0}) NodeFault) → IsStopOf (went_of r) q → GivesAll asked d attached h e r → JobEnds (ClientJob asked) d attached h e q
      by (Ok done) is ends = subst (λ (x : Result Stop NoMemory). JobEnds (ClientJob asked) d attached h e x) (sym is) ends
      by (Err (faults.Worn at)) is ends = subst (λ (x : Result Stop NoMemory). JobEnds (ClientJob asked) d attached h e x) (sym is) ends
      by (Err faults.NoMemory) is ends = subst (λ (x : Result Stop NoMemory). JobEnds (ClientJob asked) d attached h e x) (sym is) ends

  pub flow_job_ends : (s turns : ℕ) (job : Job) (r : Result Stop NodeFault) (q : Result Stop NoMemory) → job ≡ FlowJob s turns → IsStopOf r q → FlowEndsSo s turns d attached h e r → JobEnds job d attached h e q
  flow_job_ends s turns job r q same is ends = subst (λ (j : Job). JobEnds j d attached h e q) (sym same) (by r is ends)
    where
      by : (r : Result Stop NodeFault) → IsStopOf r q → FlowEndsSo s turns d attached h e r → JobEnds (FlowJob s turns) d attached h e q
      by (Ok stops.Went) is ends = subst (λ (x : Result Stop NoMemory). JobEnds (FlowJob s turns) d attached h e x) (sym is) ends
      by (Ok (stops.Lied t number sent got)) is ends = subst (λ (x : Result Stop NoMemory). JobEnds (FlowJob s turns) d attached h e x) (sym is) ends.1
      by (Ok (stops.Worn at)) is ends = absurd ends
      by (Err (faults.Worn at)) is ends = subst (λ (x : Result Stop NoMemory). JobEnds (FlowJob s turns) d attached h e x) (sym is) ends
      by (Err faults.NoMemory) is ends = subst (λ (x : Result Stop NoMemory). JobEnds (FlowJob s turns) d attached h e x) (sym is) ends

-- ---- the jobs that can be run

owner_put : (e : Engine) (b : Bool) (os : List Owner) (o : Owner) → AllByRecursion (CanDo e) os → CanDo e o → AllByRecursion (CanDo e) (cond b os (os ++ o ∷ []))
owner_put e true os o all can = all
owner_put e false [] o all can = (can, tt)
owner_put e false (p ∷ os) o all can = (all.0, owner_put e false os o all.1 can)

owner_added : (e : Engine) (os : List Owner) (c : Said) → CanRun e c → AllByRecursion (CanDo e) os → AllByRecursion (CanDo e) (with_owner os (owner_of c))
owner_added e os (commands.Write client name body) can all = owner_put e (has_owner os (owner.Client client)) os (owner.Client client) all tt
owner_added e os (commands.Delete client name) can all = owner_put e (has_owner os (owner.Client client)) os (owner.Client client) all tt
owner_added e os (commands.Read client name) can all = owner_put e (has_owner os (owner.Client client)) os (owner.Client client) all tt
owner_added e os (commands.Flow stream turns) can all = owner_put e (has_owner os (owner.Stream stream)) os (owner.Stream stream) all can
owner_added e os _ can all = all

owners_from : (e : Engine) (xs : List Numbered) (os : List Owner) → AllByRecursion (IsJobLine e) xs → AllByRecursion (CanDo e) os
    → AllByRecursion (CanDo e) (fold (λ owners (c : Numbered). with_owner owners (owner_of c.1)) os xs)
owners_from e [] os can all = all
owners_from e (x ∷ xs) os can all = owners_from e xs (with_owner os (owner_of x.1)) can.1 (owner_added e os x.1 can.0.1 all)

pub owners_can : (e : Engine) (xs : List Numbered) → AllByRecursion (IsJobLine e) xs → AllByRecursion (CanDo e) (owners_of xs)
owners_can e xs can = owners_from e xs [] can tt

pub still_owners : (d : Declared) (attached : ℕ → Bool) (h g : List NodeEntry) (e f : Engine) (os : List Owner) → IsRunning d attached h e → IsRunning d attached g f → AllByRecursion (CanDo e) os → AllByRecursion (CanDo f) os
still_owners d attached h g e f [] k l all = tt
still_owners d attached h g e f (owner.Client client ∷ os) k l all = (tt, still_owners d attached h g e f os k l all.1)
still_owners d attached h g e f (owner.Stream s ∷ os) k l all =
    ((subst (λ (i : ℕ). s < i) (k.streams ∙ sym l.streams) all.0.0, stays_attached d attached h g e f s k l all.0.0 all.0.1), still_owners d attached h g e f os k l all.1)

-- ---- a phase so far

pub map_more : (f : Owner → Job) (os : List Owner) (i : ℕ) (o d : Owner) → i < length os → o ≡ get_or os i d → map f (take (i + 1) os) ≡ map f (take i os) ++ f o ∷ []
map_more f os i o d lt is =
    ap (λ (ps : List Owner). map f ps) (take_more os i d lt ∙ ap (λ (p : Owner). take i os ++ p ∷ []) (sym is)) ∙ map-append f (take i os) (o ∷ [])

pub map_split : (f : Owner → Job) (os : List Owner) (i : ℕ) (o d : Owner) → i < length os → o ≡ get_or os i d → map f os ≡ map f (take i os) ++ f o ∷ map f (drop (i + 1) os)
map_split f os i o d lt is =
    ap (λ (ps : List Owner). map f ps) (sym (take-append-drop (i + 1) os)) ∙ map-append f (take (i + 1) os) (drop (i + 1) os)
    ∙ ap (λ (js : List Job). js ++ map f (drop (i + 1) os)) (map_more f os i o d lt is) ∙ append_assoc (map f (take i os)) (f o ∷ []) (map f (drop (i + 1) os))

pub ok_same : (a b : Stop) (q : Result Stop NoMemory) → q ≡ Ok a → q ≡ Ok b → a ≡ b
ok_same a b q is and = cc

pub no_ok : (a : Stop) (e : NoMemory) (q : Result Stop NoMemory) → q ≡ Err e → q ≡ Ok a → ⊥
no_ok a e q is and = absurd (cc)

module _ (d : Declared) (attached : ℕ → Bool) (h : List NodeEntry) (e : Engine) (first : List NodeEntry) (jobs : List Job) (job : Job) (so_far : AreOfJobs JobGives jobs (reverse first)) where
  -- the next job went its way
  pub goes_on : (stop : Stop) → stop ≡ stops.Went → JobEnds job d attached (first ++ h) e (Ok stop)
      → (new : List NodeEntry) × IsRunning d attached (new ++ h) e × AreOfJobs JobGives (jobs ++ job ∷ []) (reverse new)
  goes_on stop is ends =
      let went = subst (λ (x : Stop). JobEnds job d attached (first ++ h) e (Ok x)) is ends in (
        went.0 ++ first,
        subst (λ (g : List NodeEntry). IsRunning d attached g e) (sym (append_assoc went.0 first h)) went.1,
        subst (λ (es : List NodeEntry). AreOfJobs JobGives (jobs ++ job ∷ []) es) (sym (reverse-append went.0 first)) (jobs_more JobGives jobs job (reverse first) (reverse went.0) so_far went.2),
      )

  begun : (rest : List Job) (new : List NodeEntry) → JobBegins job (reverse new) → IsPhase JobBegins JobAfterJob (jobs ++ job ∷ rest) (reverse (new ++ first))
  begun rest new is =
      subst (λ (es : List NodeEntry). IsPhase JobBegins JobAfterJob (jobs ++ job ∷ rest) es) (sym (reverse-append new first))
      (is_phase JobBegins (jobs ++ job ∷ rest) (reverse first ++ reverse new) (jobs_begun jobs job rest (reverse first) (reverse new) so_far is))

  -- it did not
  pub ends_there : (rest all : List Job) (q : Result Stop NoMemory) → all ≡ jobs ++ job ∷ rest → (q ≡ Ok stops.Went → ⊥) → JobEnds job d attached (first ++ h) e q → StepEnds (Phase all) d attached h e q
  ends_there rest all (Ok stops.Went) is other ends = absurd (other refl)
  ends_there rest all (Ok (stops.Worn at)) is other (new, tells, has, cause) =
      subst (λ (js : List Job). StepEnds (Phase js) d attached h e (Ok (stops.Worn at))) (sym is)
      (new ++ first, subst (λ (g : List NodeEntry). Tells d g e) (sym (append_assoc new first h)) tells, begun rest new has, subst (λ (g : List NodeEntry). IsCause g (faults.Worn at)) (sym (append_assoc new first h)) cause)
  ends_there rest all (Ok (stops.Lied stream number sent got)) is other (new, tells, has, lied) =
      subst (λ (js : List Job). StepEnds (Phase js) d attached h e (Ok (stops.Lied stream number sent got))) (sym is)
      (new ++ first, subst (λ (g : List NodeEntry). Tells d g e) (sym (append_assoc new first h)) tells, begun rest new has, subst (λ (g : List NodeEntry). IsLied g stream number sent got) (sym (append_assoc new first h)) lied)
  ends_there rest all (Err refused) is other (new, tells, has, cause) =
      subst (λ (js : List Job). StepEnds (Phase js) d attached h e (Err refused)) (sym is)
      (new ++ first, subst (λ (g : List NodeEntry). Tells d g e) (sym (append_assoc new first h)) tells, begun rest new has, tt)

-- all jobs went their way
pub ends_whole : (d : Declared) (attached : ℕ → Bool) (h : List NodeEntry) (e : Engine) (jobs : List Job) → (new : List NodeEntry) × IsRunning d attached (new ++ h) e × AreOfJobs JobGives jobs (reverse new) → StepEnds (Phase jobs) d attached h e (Ok stops.Went)
ends_whole d attached h e jobs (new, running, are) = (new, running, is_phase JobGives jobs (reverse new) are)

-- none was begun
pub ends_at_once : (d : Declared) (attached : ℕ → Bool) (h : List NodeEntry) (e : Engine) (jobs : List Job) (q : Result Stop NoMemory) (refused : NoMemory) → q ≡ Err refused → IsRunning d attached h e → StepEnds (Phase jobs) d attached h e q
ends_at_once d attached h e jobs q refused is k =
    subst (λ (x : Result Stop NoMemory). StepEnds (Phase jobs) d attached h e x) (sym is)
    ([], stopped_same d attached h e e k refl refl, nothing_begins.line JobAfterJob (attached_of d attached) (Phase jobs), tt)

-- ---- wires

module _ {W : Type 0} (faults_of made out : W → ℕ) (sound : W → ℕ → Bool) where
  pub wires_same : (w : W) → StepsByWires faults_of made out sound 0 w w
  wires_same w = record { few_made = omega arith; none_out = refl; faults_rise = omega arith; same_sound = refl }

  pub wires_more : (n : ℕ) (a b c : W) → StepsByWires faults_of made out sound n a b → StepsByWires faults_of made out sound 1 b c → StepsByWires faults_of made out sound (n + 1) a c
  wires_more n a b c so_far then = record {
    few_made = let x = so_far.few_made in let y = then.few_made in omega (arith, x, y);
    none_out = then.none_out ∙ so_far.none_out;
    faults_rise = let x = so_far.faults_rise in let y = then.faults_rise in omega (arith, x, y);
    same_sound = then.same_sound ∙ so_far.same_sound;
  }

  pub wires_end : (n : ℕ) (a b : W) → StepsByWires faults_of made out sound n a b → n ≤ 64 → StepsByWires faults_of made out sound 64 a b
  wires_end n a b so_far few = record {
    few_made = let x = so_far.few_made in omega (arith, x);
    none_out = so_far.none_out;
    faults_rise = so_far.faults_rise;
    same_sound = so_far.same_sound;
  }

  -- the last job ends the phase
  pub wires_stop : (n : ℕ) (a b c : W) → StepsByWires faults_of made out sound n a b → n + 1 ≤ 64 → StepsByWires faults_of made out sound 1 b c → StepsByWires faults_of made out sound 64 a c
  wires_stop n a b c so_far few then = wires_end (n + 1) a c (wires_more n a b c so_far then) few
