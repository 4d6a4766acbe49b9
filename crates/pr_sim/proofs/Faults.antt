-- Why a call makes no entry, and what stays then.
use Rattle.std.proofs.Common.{◌≡◌, ◌≢◌, ◌⊎◌, ℕ, ◌<◌, ◌≤◌, ◌+◌, List, [], ◌∷◌, Result, IsErrAnd, inl, inr, refl, sym, ◌∙◌, ap, subst, max, nat_eq, length, get_or, arith}
use Rattle.std.specs.Prelude.{true, false, Bool, IsTrue, Some, None, Option}
use Rattle.std.proofs.lemmas.List.{get_or_past}
use Rattle.std.proofs.lemmas.Result.{err_from_is_err_and}
use Rattle.std.proofs.lemmas.Bool.Decides.{Decides-eqb}
use Rattle.std.proofs.lemmas.Bool.{cases_eq, cases_lt}
use Rattle.pr_inval.specs.declared.node_fault.NodeFault.{NodeFault}
use Rattle.pr_inval.specs.declared.node_fault.NodeFault.TheVariants.{NoMemory, Worn}
use Rattle.pr_node.specs.Calls.{IsClockWorn, IsFault, IsTimeWorn, IsWriteWorn}
use Rattle.pr_node.specs.Stored.{NodeMeaning, Stored, means}
use Rattle.pr_story.specs.declared.entry.Entry.{Entry}
use Rattle.pr_story.specs.declared.event.Event.{Event}
use Rattle.pr_story.specs.declared.event.Event.TheVariants.{Wrote}
use Rattle.pr_story.specs.History.{Plan, NodeEntry, current_clock, journal}
use Rattle.pr_story.specs.Lawful.{Valid, last_time}
use Rattle.pr_story.specs.Laws.{write_count, writes_after}
use Rattle.pr_story.proofs.Short.{valid_short}
use Rattle.pr_sim.specs.Running.{HasJournals, IsRunning, Tells, Stands, Told}
use Rattle.pr_story.specs.Counts.{Declared}
use Rattle.pr_sim.specs.Commands.{IsCause, MakesOne}
use Rattle.pr_sim.proofs.Step.{here, is_node_of, length_put, put, some_is, there, within_of}
use Rattle.pr_sim.specs.declared.engine.Engine.{Engine}

-- nothing was made, for this cause
pub not_made : {X : Type 0} (d : Declared) (after : ℕ → Bool) (h : List NodeEntry) (P : X → NodeEntry → Type 0) (f : Engine) (Q : NodeFault → Type 0) (r : Result X NodeFault) → IsErrAnd r Q
    → ((fault : NodeFault) → Q fault → IsCause h fault) → Tells d h f → MakesOne d after h P f r
not_made {X = X} d after h P f Q r err cause stopped =
    let p = err_from_is_err_and r err in
    subst (λ (x : Result X NodeFault). MakesOne d after h P f x) (sym p.1) (stopped, cause p.0 p.2)

pub no_memory : (h : List NodeEntry) (fault : NodeFault) → fault ≡ NoMemory → IsCause h fault
no_memory h fault is = subst (λ (x : NodeFault). IsCause h x) (sym is) tt

pub this_cause : (h : List NodeEntry) (was fault : NodeFault) → IsCause h was → fault ≡ was → IsCause h fault
this_cause h was fault cause is = subst (λ (x : NodeFault). IsCause h x) (sym is) cause

-- ---- why a node is worn

few_writes : (event : Event) (k n : ℕ) → k ≤ n → writes_after event k ≤ n + 1
few_writes (Wrote client write body after) k n le = omega arith
few_writes _ k n le = omega arith

writes_are_entries : (h : List NodeEntry) → write_count h ≤ length h
writes_are_entries [] = omega arith
writes_are_entries (e ∷ h) = let l : writes_after e.entry.event (write_count h) ≤ length h + 1 = few_writes e.entry.event (write_count h) (length h) (writes_are_entries h) in omega arith

module _ (plan : Plan) (h : List NodeEntry) (v : Valid plan h) (n : ℕ) (a b : NodeMeaning) (same : a.journal ≡ journal h n) where
  long_time : (heard : ℕ) → heard ≤ length h → IsTimeWorn a heard → 4611686018427387903 ≤ length h
  long_time heard few worn =
      let l : last_time (journal h n) ≤ length h = (valid_short plan h v).nodes n in
      let w : max (last_time (journal h n)) heard ≡ 4611686018427387903 = subst (λ (j : List Entry). max (last_time j) heard ≡ 4611686018427387903) same worn in
      omega arith

  long_clock : IsClockWorn a → 4611686018427387903 ≤ length h
  long_clock worn =
      let l : current_clock (journal h n) worn.0 ≤ write_count h = (valid_short plan h v).clocks n worn.0 worn.1 in
      let w : current_clock (journal h n) worn.0 ≡ 4611686018427387903 = subst (λ (j : List Entry). current_clock j worn.0 ≡ 4611686018427387903) same worn.2 in
      let k : write_count h ≤ length h = writes_are_entries h in
      omega arith

  pub time_is_worn : (heard : ℕ) → heard ≤ length h → (fault : NodeFault) → IsFault a b (IsTimeWorn a heard) fault → IsCause h fault
  time_is_worn heard few NoMemory is = tt
  time_is_worn heard few (Worn at) is = (is.0, long_time heard few is.2)

  pub write_is_worn : (needs : List ℕ) (fault : NodeFault) → IsFault a b (IsWriteWorn a needs) fault → IsCause h fault
  write_is_worn needs NoMemory is = tt
  write_is_worn needs (Worn at) is = (is.0, elim is.2 [ inl time ↦ long_time 0 (omega arith) time | inr clock ↦ long_clock clock.1 ])

-- ---- what stays

pub told_same : (plan : Plan) (h : List NodeEntry) (e : Engine) (places : List (ℕ × ℕ)) → Stands plan h e → places ≡ e.history.items → Told plan h e.nodes.items places
told_same plan h e places k same = record {
  valid = k.valid;
  grammar = k.grammar;
  places_are = same ∙ k.places_are;
  journals = λ n m was. by n m was (cases_lt n (length e.nodes.items));
  all_here = λ n lt. let x = k.nodes.each n lt in (x.0, x.1);
}
  where
    by : (n : ℕ) (m : Stored) → get_or e.nodes.items n None ≡ Some m → (n < length e.nodes.items) ⊎ (length e.nodes.items ≤ n) → (means m).journal ≡ journal h n
    by n m was (inl within) = (is_node_of plan h e.nodes.items n m k.nodes within was).journal_is
    by n m was (inr past) = let none : get_or e.nodes.items n None ≡ None = get_or_past e.nodes.items n None past in absurd (cc)

-- the journal stays after a fault
pub same_journal : (a b : NodeMeaning) (Cause : Type 0) (fault : NodeFault) → IsFault a b Cause fault → b.journal ≡ a.journal
same_journal a b Cause NoMemory is = is.same_journal
same_journal a b Cause (Worn at) is = ap (λ (x : NodeMeaning). x.journal) is.1

pub stopped_same : (d : Declared) (attached : ℕ → Bool) (h : List NodeEntry) (e f : Engine) → IsRunning d attached h e → f.nodes ≡ e.nodes → f.history.items ≡ e.history.items → Tells d h f
stopped_same d attached h e f k nodes same = record {
  told = subst (λ xs. Told d.plan h xs.items f.history.items) (sym nodes) (told_same d.plan h e f.history.items k.stands same);
  speaks = k.speaks;
  nodes = ap (λ xs. length xs.items) nodes ∙ k.nodes;
}

-- a node's call had a fault
pub told_still : (plan : Plan) (h : List NodeEntry) (e f : Engine) (n : ℕ) (m x : Stored) → Stands plan h e → get_or e.nodes.items n None ≡ Some m
    → f.nodes.items ≡ put e.nodes.items n x → f.history.items ≡ e.history.items → (means x).journal ≡ (means m).journal
    → Told plan h f.nodes.items f.history.items
told_still plan h e f n m x k was now noted same = record {
  valid = k.valid;
  grammar = k.grammar;
  places_are = noted ∙ k.places_are;
  journals = λ i y is. by i y (subst (λ (nodes : List (Option Stored)). get_or nodes i None ≡ Some y) now is) (nat_eq i n) (Decides-eqb i n);
  all_here = subst (λ (nodes : List (Option Stored)). (i : ℕ) → i < length nodes → (y : Stored) × (get_or nodes i None ≡ Some y)) (sym now) (λ i lt. at i (let l = length_put e.nodes.items n x in omega arith) (cases_eq i n));
}
  where
    at : (i : ℕ) → i < length e.nodes.items → (i ≡ n) ⊎ (i ≡ n → ⊥) → (y : Stored) × (get_or (put e.nodes.items n x) i None ≡ Some y)
    at i lt (inl same) = subst (λ (j : ℕ). (y : Stored) × (get_or (put e.nodes.items n x) j None ≡ Some y)) (sym same) (x, here e.nodes.items n x (within_of e.nodes.items n m was))
    at i lt (inr other) = let y = k.nodes.each i lt in (y.0, there e.nodes.items n i x other ∙ y.1)

    old : HasJournals h e.nodes.items
    old = (told_same plan h e e.history.items k refl).journals

    by : (i : ℕ) (y : Stored) → get_or (put e.nodes.items n x) i None ≡ Some y → (b : Bool) → (IsTrue b → i ≡ n) × (i ≡ n → IsTrue b) → (means y).journal ≡ journal h i
    by i y is true both =
        let same_i : n ≡ i = sym (both.0 refl) in
        let e0 : get_or (put e.nodes.items n x) n None ≡ Some y = subst (λ (j : ℕ). get_or (put e.nodes.items n x) j None ≡ Some y) (sym same_i) is in
        let e1 : x ≡ y = some_is x y (get_or (put e.nodes.items n x) n None) (here e.nodes.items n x (within_of e.nodes.items n m was)) e0 in
        ap (λ (z : Stored). (means z).journal) (sym e1) ∙ same ∙ old n m was ∙ ap (λ (j : ℕ). journal h j) same_i
    by i y is false both =
        let other : i ≢ n = λ t. let bad : false ≡ true = both.1 t in absurd (cc) in
        old i y (sym (there e.nodes.items n i x other) ∙ is)

pub stopped_still : (d : Declared) (attached : ℕ → Bool) (h : List NodeEntry) (e f : Engine) (n : ℕ) (m x : Stored) → IsRunning d attached h e → get_or e.nodes.items n None ≡ Some m
    → f.nodes.items ≡ put e.nodes.items n x → f.history.items ≡ e.history.items → (means x).journal ≡ (means m).journal
    → Tells d h f
stopped_still d attached h e f n m x k was now noted same = record {
  told = told_still d.plan h e f n m x k.stands was now noted same;
  speaks = k.speaks;
  nodes = ap (λ (xs : List (Option Stored)). length xs) now ∙ length_put e.nodes.items n x ∙ k.nodes;
}
