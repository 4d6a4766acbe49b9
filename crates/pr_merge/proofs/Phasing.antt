-- Entries that stand by time are a phase, and keep a history valid.
use Rattle.std.proofs.Common.{◌≡◌, ℕ, ◌≤◌, ◌<◌, ◌+◌, List, [], ◌∷◌, refl, sym, ◌∙◌, ap, subst, inl, inr, cond, nat_eq}
use Rattle.std.specs.Prelude.{Bool, true, false, All, Contains, IsTrue, reverse}
use Rattle.std.proofs.lemmas.Bool.Decides.{Decides-eqb}
use Rattle.std.proofs.lemmas.List.{reverse-append}
use Rattle.std.proofs.lemmas.List.Elements.{All-nil, All-cons, Contains-append_cases}
use Rattle.pr_story.specs.History.{NodeEntry}
use Rattle.pr_story.specs.Merging.{New, plain, IsNodeRun, IsJobRun, IsNoMissing, AreApart}
use Rattle.pr_story.specs.Clients.{is_of_client}
use Rattle.pr_story.specs.Turns.{is_of_stream}
use Rattle.pr_story.specs.Scripts.{Job, JobBegins, JobEntry, JobGives, EachJob, made_of}
use Rattle.pr_story.specs.Scripts as scripts
use Rattle.pr_story.specs.Phases.{EachJobAs, JobGivesAs}
use Rattle.pr_story.proofs.Merging.{merges}
use Rattle.pr_story.proofs.Sorted.{contains_none, first_or_later, is_first, is_later}
use Rattle.pr_merge.specs.Phases.{job_entries, list_of, KeepsOrders, EachGives, EachGivesAs, PhasesMerge}
use Rattle.pr_merge.proofs.Orders.{time_keeps_orders}
use Rattle.pr_merge.proofs.Times.{less_or}

-- ---- apart, entry by entry

module _ (streams clients : ℕ → ℕ) where
  abbrev pub IsApart : New → Type 0
  IsApart x =
      IsNoMissing x.made.entry.event × ((s : ℕ) → IsTrue (is_of_stream x.made.entry.event s) → x.job ≡ streams s)
      × ((c : ℕ) → IsTrue (is_of_client x.made.entry.event c) → x.job ≡ clients c)

  pub is_apart : (xs : List New) (x : New) → AreApart streams clients xs → Contains xs x → IsApart x
  is_apart [] x all has = absurd (contains_none x has)
  is_apart (y ∷ xs) x all has = elim (first_or_later y xs x has) [
    | inl is ↦ subst IsApart is all.0
    | inr later ↦ is_apart xs x all.1 later
  ]

  are_apart : (xs : List New) → ((x : New) → Contains xs x → IsApart x) → AreApart streams clients xs
  are_apart [] each = tt
  are_apart (y ∷ xs) each = (each y (is_first y xs), are_apart xs (λ x has. each x (is_later y xs x has)))

pub has_reversed : (xs : List New) (x : New) → Contains (reverse xs) x → Contains xs x
has_reversed [] x has = has
has_reversed (y ∷ xs) x has = elim (Contains-append_cases (reverse xs) (y ∷ []) x (subst (λ (l : List New). Contains l x) (reverse-append (y ∷ []) xs) has)) [
  | inl before ↦ is_later y xs x (has_reversed xs x before)
  | inr last ↦ elim (first_or_later y [] x last) [
    | inl is ↦ subst (Contains (y ∷ xs)) is (is_first y xs)
    | inr none ↦ absurd (contains_none x none)
  ]
]

-- ---- the jobs of a phase

made_of_jobs : (xs : List New) → made_of (job_entries xs) ≡ plain xs
made_of_jobs [] = refl
made_of_jobs (x ∷ xs) = ap (λ (l : List NodeEntry). x.made ∷ l) (made_of_jobs xs)

-- where no entry is of a job from k on, each is of an earlier one
none_from : (xs : List JobEntry) (k : ℕ) → ((m : ℕ) → k ≤ m → scripts.of_job xs m ≡ []) → All (λ (x : JobEntry). x.job < k) xs
none_from [] k none = All-nil (λ (x : JobEntry). x.job < k)
none_from (x ∷ xs) k none = All-cons (λ (y : JobEntry). y.job < k) x xs
    (elim (less_or x.job k) [ inl less ↦ less | inr le ↦ absurd (not_none x (scripts.of_job xs x.job) (nat_eq x.job x.job) ((Decides-eqb x.job x.job).1 refl) (none x.job le)) ])
    (none_from xs k (λ m le. rest x (scripts.of_job xs m) (nat_eq x.job m) (none m le)))
  where
    not_none : (x : JobEntry) (l : List NodeEntry) (b : Bool) → b ≡ true → cond b (x.made ∷ l) l ≡ [] → ⊥
    not_none x l true is none = cc
    not_none x l false is none = cc

    rest : (x : JobEntry) (l : List NodeEntry) (b : Bool) → cond b (x.made ∷ l) l ≡ [] → l ≡ []
    rest x l true none = cc
    rest x l false none = none

each_job : (P : Job → List NodeEntry → Type 0) (phase : List Job) (k : ℕ) (xs : List JobEntry) (jobs : ℕ → List New)
    → ((m : ℕ) → scripts.of_job xs m ≡ plain (jobs m)) → EachGives P phase k jobs → EachJob P phase k xs
each_job P [] k xs jobs same none = none_from xs k (λ m le. same m ∙ ap plain (none m le))
each_job P (job ∷ phase) k xs jobs same gives = (subst (P job) (sym (same k)) gives.0, each_job P phase (k + 1) xs jobs same gives.1)

each_job_as : (wholes : ℕ → Bool) (phase : List Job) (k : ℕ) (xs : List JobEntry) (jobs : ℕ → List New)
    → ((m : ℕ) → scripts.of_job xs m ≡ plain (jobs m)) → EachGivesAs wholes phase k jobs → EachJobAs wholes phase k xs
each_job_as wholes [] k xs jobs same none = none_from xs k (λ m le. same m ∙ ap plain (none m le))
each_job_as wholes (job ∷ phase) k xs jobs same gives = (subst (JobGivesAs (wholes k) job) (sym (same k)) gives.0, each_job_as wholes phase (k + 1) xs jobs same gives.1)

-- ---- the law

pub phases_merge : PhasesMerge
phases_merge entries nodes jobs stand own =
    let keeps : KeepsOrders entries (list_of nodes) jobs = time_keeps_orders entries (list_of nodes) jobs stand.by_time stand.own own in
    record {
      valid = λ plan h streams clients lawful. merges plan h (reverse entries) streams clients lawful.valid
          (λ n. subst (IsNodeRun plan h n) (sym (keeps.of_nodes n)) (lawful.of_nodes n))
          (λ k. subst (IsJobRun plan h) (sym (keeps.of_jobs k)) (lawful.of_jobs k))
          (are_apart streams clients (reverse entries) (λ x has. is_apart streams clients (jobs x.job) x (lawful.apart x.job) (((own x.job).each x).1 (has_reversed entries x has, refl))));
      whole = λ phase gives. (job_entries entries, made_of_jobs entries, each_job JobGives phase 0 (job_entries entries) jobs keeps.in_phase gives, stand.by_time);
      begun = λ phase gives. (job_entries entries, made_of_jobs entries, each_job JobBegins phase 0 (job_entries entries) jobs keeps.in_phase gives, stand.by_time);
      marked = λ wholes phase gives. (job_entries entries, made_of_jobs entries, each_job_as wholes phase 0 (job_entries entries) jobs keeps.in_phase gives, stand.by_time);
    }
