-- The entries of a phase that one thread runs are those of its jobs, job after job.
use Rattle.std.proofs.Common.{◌≡◌, ℕ, ◌<◌, ◌≤◌, ◌+◌, inl, inr, List, [], ◌∷◌, ◌++◌, refl, sym, ◌∙◌, ap, subst, arith, cond, nat_eq, suc}
use Rattle.std.specs.Prelude.{Bool, false, All, AllPairs}
use Rattle.std.proofs.lemmas.Bool.Decides.{nat_tests, eqb_tells}
use Rattle.pr_story.specs.History.{NodeEntry}
use Rattle.pr_story.specs.Scripts.{Job, JobEntry, made_of, of_job, EachJob, JobAfterJob, Precedes, IsPhase}
use Rattle.pr_story.proofs.Sorted.{pairs_first, pairs_later, is_first}

abbrev pub AreOfJobs : (Job → List NodeEntry → Type 0) → List Job → List NodeEntry → Type 0
AreOfJobs P [] es = es ≡ []
AreOfJobs P (job ∷ jobs) es = (first : List NodeEntry) × (rest : List NodeEntry) × (es ≡ first ++ rest) × P job first × AreOfJobs P jobs rest

-- the jobs' numbers never fall
abbrev Rises : ℕ → List JobEntry → Type 0
Rises k [] = Unit {0}
Rises k (x ∷ xs) = (k ≤ x.job) × Rises x.job xs

rise_from : (x : JobEntry) (xs : List JobEntry) → AllPairs (Precedes JobAfterJob) (x ∷ xs) → Rises x.job xs
rise_from x [] a = tt
rise_from x (y ∷ ys) a = (pairs_first (Precedes JobAfterJob) x (y ∷ ys) y a (is_first y ys), rise_from y ys (pairs_later (Precedes JobAfterJob) x (y ∷ ys) a))

rise_all : (xs : List JobEntry) → AllPairs (Precedes JobAfterJob) xs → Rises 0 xs
rise_all [] a = tt
rise_all (x ∷ xs) a = (omega arith, rise_from x xs a)

rise_less : (j k : ℕ) (xs : List JobEntry) → j ≤ k → Rises k xs → Rises j xs
rise_less j k [] le r = tt
rise_less j k (x ∷ xs) le r = (let a : k ≤ x.job = r.0 in omega arith, r.1)

-- the entries past those of the first job
abbrev past_job : List JobEntry → ℕ → List JobEntry
past_job [] k = []
past_job (x ∷ xs) k = cond (nat_eq x.job k) (past_job xs k) (x ∷ xs)

none_of : (xs : List JobEntry) (j k : ℕ) → k < j → Rises j xs → of_job xs k ≡ []
none_of [] j k lt r = refl
none_of (x ∷ xs) j k lt r = elim (eqb_tells x.job k) [
  | inl is ↦ let e : x.job ≡ k = is.1 in let a : j ≤ x.job = r.0 in absurd (omega arith)
  | inr not ↦ ap (λ (b : Bool). cond b (x.made ∷ of_job xs k) (of_job xs k)) not.0 ∙ none_of xs j k lt (rise_less j x.job xs r.0 r.1)
]

made_split : (xs : List JobEntry) (k : ℕ) → Rises k xs → made_of xs ≡ of_job xs k ++ made_of (past_job xs k)
made_split [] k r = refl
made_split (x ∷ xs) k r = elim (eqb_tells x.job k) [
  | inl is ↦
      ap (λ (z : List NodeEntry). x.made ∷ z) (made_split xs k (rise_less k x.job xs r.0 r.1))
      ∙ ap (λ (b : Bool). cond b (x.made ∷ of_job xs k) (of_job xs k) ++ made_of (cond b (past_job xs k) (x ∷ xs))) (sym is.0)
  | inr not ↦
      let past : k < x.job = let a : k ≤ x.job = r.0 in let d : x.job ≡ k → ⊥ = not.1 in less_or_same k x.job a d in
      ap (λ (z : List NodeEntry). z ++ (x.made ∷ made_of xs)) (sym (none_of xs x.job k past r.1))
      ∙ ap (λ (b : Bool). cond b (x.made ∷ of_job xs k) (of_job xs k) ++ made_of (cond b (past_job xs k) (x ∷ xs))) (sym not.0)
]
  where
    less_or_same : (a b : ℕ) → a ≤ b → (b ≡ a → ⊥) → a < b
    less_or_same a b le d = grind (arith, nat_tests)

of_past : (xs : List JobEntry) (k j : ℕ) → k < j → Rises k xs → of_job (past_job xs k) j ≡ of_job xs j
of_past [] k j lt r = refl
of_past (x ∷ xs) k j lt r = elim (eqb_tells x.job k) [
  | inl is ↦
      let e : x.job ≡ k = is.1 in
      let other : nat_eq x.job j ≡ false = elim (eqb_tells x.job j) [ inl same ↦ let f : x.job ≡ j = same.1 in absurd (omega arith) | inr not ↦ not.0 ] in
      ap (λ (b : Bool). of_job (cond b (past_job xs k) (x ∷ xs)) j) is.0
      ∙ of_past xs k j lt (rise_less k x.job xs r.0 r.1)
      ∙ ap (λ (b : Bool). cond b (x.made ∷ of_job xs j) (of_job xs j)) (sym other)
  | inr not ↦ ap (λ (b : Bool). of_job (cond b (past_job xs k) (x ∷ xs)) j) not.0
]

past_rises : (xs : List JobEntry) (k : ℕ) → Rises k xs → Rises (k + 1) (past_job xs k)
past_rises [] k r = tt
past_rises (x ∷ xs) k r = elim (eqb_tells x.job k) [
  | inl is ↦ subst (λ (b : Bool). Rises (k + 1) (cond b (past_job xs k) (x ∷ xs))) (sym is.0) (past_rises xs k (rise_less k x.job xs r.0 r.1))
  | inr not ↦
      let a : k ≤ x.job = r.0 in
      let past : k + 1 ≤ x.job = more k x.job a not.1 in
      subst (λ (b : Bool). Rises (k + 1) (cond b (past_job xs k) (x ∷ xs))) (sym not.0) (past, r.1)
]
  where
    more : (a b : ℕ) → a ≤ b → (b ≡ a → ⊥) → a + 1 ≤ b
    more a b le d = grind (arith, nat_tests)

all_past : (xs : List JobEntry) (k m : ℕ) → All (λ (x : JobEntry). x.job < m) xs → All (λ (x : JobEntry). x.job < m) (past_job xs k)
all_past [] k m a = a
all_past (x ∷ xs) k m a = elim (eqb_tells x.job k) [
  | inl is ↦ subst (λ (b : Bool). All (λ (x : JobEntry). x.job < m) (cond b (past_job xs k) (x ∷ xs))) (sym is.0) (all_past xs k m (λ i d lt. a (suc i) d (omega arith)))
  | inr not ↦ subst (λ (b : Bool). All (λ (x : JobEntry). x.job < m) (cond b (past_job xs k) (x ∷ xs))) (sym not.0) a
]

each_past : (P : Job → List NodeEntry → Type 0) (jobs : List Job) (xs : List JobEntry) (k j : ℕ) → k < j → Rises k xs → EachJob P jobs j xs → EachJob P jobs j (past_job xs k)
each_past P [] xs k j lt r e = all_past xs k j e
each_past P (job ∷ jobs) xs k j lt r e = (subst (λ (es : List NodeEntry). P job es) (sym (of_past xs k j lt r)) e.0, each_past P jobs xs k (j + 1) (omega arith) r e.1)

jobs_apart : (P : Job → List NodeEntry → Type 0) (jobs : List Job) (k : ℕ) (xs : List JobEntry) → Rises k xs → EachJob P jobs k xs → AreOfJobs P jobs (made_of xs)
jobs_apart P [] k [] r e = refl
jobs_apart P [] k (x ∷ xs) r e = let a : k ≤ x.job = r.0 in let b : x.job < k = e 0 x (omega arith) in absurd (omega arith)
jobs_apart P (job ∷ jobs) k xs r e =
    (of_job xs k, made_of (past_job xs k), made_split xs k r, e.0, jobs_apart P jobs (k + 1) (past_job xs k) (past_rises xs k r) (each_past P jobs xs k (k + 1) (omega arith) r e.1))

pub phase_apart : (P : Job → List NodeEntry → Type 0) (jobs : List Job) (es : List NodeEntry) → IsPhase P JobAfterJob jobs es → AreOfJobs P jobs es
phase_apart P jobs es p = subst (λ (z : List NodeEntry). AreOfJobs P jobs z) p.1 (jobs_apart P jobs 0 p.0 (rise_all p.0 p.3) p.2)
