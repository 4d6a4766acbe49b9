-- What a phase in threads asks of a run, and what it gives.
use Rattle.std.proofs.Common.{◌≡◌, ◌≢◌, ℕ, zero, suc, ◌<◌, ◌≤◌, List, [], ◌∷◌, ◌++◌, refl, sym, ◌∙◌, ap, subst, filter, fold, get_or, length, reverse, cond, Result, Ok, Err, inl, inr, arith}
use Rattle.std.specs.Prelude.{All, Bool, true, false, IsTrue, Option, None, Some, is_some, nat_lt, ◌==◌, ◌&&◌}
use Rattle.std.specs.List.{AllByRecursion}
use Rattle.std.proofs.lemmas.Bool.Decides.{Decides-eqb, Decides-ltb}
use Rattle.std.proofs.lemmas.Map.Views.{any-filter_same}
use Rattle.std.proofs.lemmas.Option.{same_Some}
use Rattle.pr_crew.specs.Asking.{IsShort}
use Rattle.pr_crew.specs.Phases.{AllWork, AreDistinct, CanRunJob, CanRunPhase, LeavesPhase, RepresentsNodes, SameAttached, is_went}
use Rattle.pr_flow.specs.declared.stop.Stop.{Stop}
use Rattle.pr_flow.specs.declared.stop.Stop.TheVariants as stops
use Rattle.pr_node.specs.Stored.{Stored, means}
use Rattle.pr_stamps.specs.declared.no_memory.NoMemory.{NoMemory}
use Rattle.pr_script.specs.declared.command.Command.{Command}
use Rattle.pr_script.specs.declared.command.Command.TheVariants as commands
use Rattle.pr_script.specs.declared.decl.Decl.{Decl}
use Rattle.pr_script.specs.declared.decl.Decl.TheVariants as decls
use Rattle.pr_script.specs.declared.kind.Kind.TheVariants as kinds
use Rattle.pr_script.specs.declared.owner.Owner.{Owner}
use Rattle.pr_script.specs.declared.owner.Owner.TheVariants as owner
use Rattle.pr_script.specs.Good.{IsGoodDecl, IsGoodJobLine, IsGoodPhase}
use Rattle.pr_script.specs.Known.{has_number}
use Rattle.pr_script.specs.Labels.{count_of, is_kind, labels_of}
use Rattle.pr_script.specs.Steps.{Numbered, has_owner, owner_of, owners_of, with_owner}
use Rattle.pr_flow.specs.Downs.{IsLieAt}
use Rattle.pr_sim.specs.Commands.{attached_of}
use Rattle.pr_sim.specs.Holding.{KeepsRecords, held_of}
use Rattle.pr_sim.specs.Running.{IsRunning, Tells}
use Rattle.pr_sim.specs.declared.engine.Engine.{Engine}
use Rattle.pr_sim.proofs.Represented.{runs}
use Rattle.pr_sim.proofs.Step.{within_of}
use Rattle.pr_story.specs.Counts.{Declared}
use Rattle.pr_story.specs.History.{NodeEntry, journal}
use Rattle.pr_story.specs.Turns.{IsAttached}
use Rattle.pr_story.specs.Scripts.{ByTime, Phase}
use Rattle.pr_story.proofs.Begun.{nothing_begins}
use Rattle.pr_story.proofs.Phases.{marked_phases}
use Rattle.pr_text.specs.Steps.{jobs_of}
use Rattle.pr_text.specs.Transcripts.{no_decl, stream_of}
use Rattle.pr_text.proofs.Apart.{phases_apart}
use Rattle.pr_top.specs.Stopping.{IsReadyFor, StepsSo}

-- ---- the jobs of a phase

all_put : (P : Owner → Type 0) (b : Bool) (os : List Owner) (o : Owner) → AllByRecursion P os → P o → AllByRecursion P (cond b os (os ++ o ∷ []))
all_put P true os o all p = all
all_put P false [] o all p = (p, tt)
all_put P false (q ∷ os) o all p = (all.0, all_put P false os o all.1 p)

all_with : (P : Owner → Type 0) (os : List Owner) (o : Option Owner) → ((x : Owner) → o ≡ Some x → P x) → AllByRecursion P os → AllByRecursion P (with_owner os o)
all_with P os None p all = all
all_with P os (Some x) p all = all_put P (has_owner os x) os x all (p x refl)

all_owners : (P : Owner → Type 0) (xs : List Numbered) (os : List Owner) → AllByRecursion (λ (c : Numbered). (x : Owner) → owner_of c.1 ≡ Some x → P x) xs → AllByRecursion P os
    → AllByRecursion P (fold (λ owners (c : Numbered). with_owner owners (owner_of c.1)) os xs)
all_owners P [] os each all = all
all_owners P (c ∷ xs) os each all = all_owners P xs (with_owner os (owner_of c.1)) each.1 (all_with P os (owner_of c.1) each.0 all)

by_place : {X : Type 0} (P : X → Type 0) (xs : List X) → AllByRecursion P xs → All P xs
by_place P [] all i d lt = absurd (omega (arith, lt))
by_place P (x ∷ xs) all zero d lt = all.0
by_place P (x ∷ xs) all (suc i) d lt = by_place P xs all.1 i d (omega (arith, lt))

each_line : {X : Type 0} (P Q : X → Type 0) (xs : List X) → ((x : X) → P x → Q x) → AllByRecursion P xs → AllByRecursion Q xs
each_line P Q [] f all = tt
each_line P Q (x ∷ xs) f all = (f x all.0, each_line P Q xs f all.1)

-- ---- streams

-- a declared stream goes from one node to another
two_ends : (all ds : List Decl) (s : ℕ) → AllByRecursion (IsGoodDecl all) ds → s < count_of kinds.Stream ds
    → (stream_of (get_or (filter (is_kind kinds.Stream) ds) s no_decl)).source ≢ (stream_of (get_or (filter (is_kind kinds.Stream) ds) s no_decl)).destination
unfolding labels_of
two_ends all [] s good lt = absurd (omega (arith, lt))
two_ends all (decls.Node label sets ∷ ds) s good lt = two_ends all ds s good.1 lt
two_ends all (decls.Client label node ∷ ds) s good lt = two_ends all ds s good.1 lt
two_ends all (decls.Stream label source dest sub bodies ∷ ds) zero good lt = good.0.2
two_ends all (decls.Stream label source dest sub bodies ∷ ds) (suc s) good lt = two_ends all ds s good.1 (omega (arith, lt))

-- ---- the streams that are attached, of those that are declared

abbrev pub are_declared : List Decl → List ℕ → List ℕ
are_declared ds numbers = filter (λ (s : ℕ). nat_lt s (count_of kinds.Stream ds)) numbers

has_declared : (ds : List Decl) (numbers : List ℕ) (s : ℕ) → has_number (are_declared ds numbers) s ≡ (nat_lt s (count_of kinds.Stream ds) && has_number numbers s)
has_declared ds numbers s =
    let test : ℕ → Bool = λ (n : ℕ). nat_lt n (count_of kinds.Stream ds) in
    any-filter_same (λ (m : ℕ). m == s) test (test s) (λ m is. ap test ((Decides-eqb m s).0 is)) numbers

both_of : (a b : Bool) → IsTrue (a && b) → IsTrue a × IsTrue b
both_of true b is = (refl, is)
both_of false b is = absurd (cc)

both_are : (a b : Bool) → IsTrue a → IsTrue b → IsTrue (a && b)
both_are true b is and = and
both_are false b is and = absurd (cc)

declared_line : (ds : List Decl) (numbers : List ℕ) (c : Command) → IsGoodJobLine ds numbers c → IsGoodJobLine ds (are_declared ds numbers) c
declared_line ds numbers (commands.Flow stream turns) good =
    let ready = good.1.0 in
    let has : IsTrue (has_number (are_declared ds numbers) stream) =
    has_declared ds numbers stream ∙ both_are (nat_lt stream (count_of kinds.Stream ds)) (has_number numbers stream) ((Decides-ltb stream (count_of kinds.Stream ds)).1 ready.0) ready.1 in
    (good.0, ((ready.0, has), good.1.1, good.1.2))
declared_line ds numbers (commands.Write client name body) good = good
declared_line ds numbers (commands.Delete client name) good = good
declared_line ds numbers (commands.Read client name) good = good
declared_line ds numbers _ good = let none = good.0 in absurd (cc)

declared_phase : (ds : List Decl) (numbers : List ℕ) (inside : List Numbered) → IsGoodPhase ds numbers inside → IsGoodPhase ds (are_declared ds numbers) inside
declared_phase ds numbers inside good = record {
  lines = each_line (λ (c : Numbered). IsGoodJobLine ds numbers c.1) (λ (c : Numbered). IsGoodJobLine ds (are_declared ds numbers) c.1) inside (λ c line. declared_line ds numbers c.1 line) good.lines;
  jobs = good.jobs;
  flows = good.flows;
  turns = good.turns;
}

-- ---- what a phase in threads asks of the engine

-- a line's client is there, and its stream is there and attached
abbrev pub CanRunLine : Engine → Owner → Type 0
CanRunLine e o = CanRunJob (held_of e) o

module _ (e : Engine) (inside : List Numbered) (k : IsReadyFor e inside) where
  abbrev pub ds : List Decl
  ds = k.decls

  can_own : (c : Command) → IsGoodJobLine ds k.numbers c → (o : Owner) → owner_of c ≡ Some o → CanRunLine e o
  can_own (commands.Flow stream turns) good o is =
      subst (λ (x : Owner). CanRunLine e x) (same_Some (owner.Stream stream) o is) (
        subst (λ (n : ℕ). stream < n) (sym k.running.streams) good.1.0.0,
        λ x at. k.running.attached_are stream x at ∙ k.same stream ∙ good.1.0.1,
      )
  can_own (commands.Write client name body) good o is = subst (λ (x : Owner). CanRunLine e x) (same_Some (owner.Client client) o is) (subst (λ (n : ℕ). client < n) (sym k.running.clients) good.1.0)
  can_own (commands.Delete client name) good o is = subst (λ (x : Owner). CanRunLine e x) (same_Some (owner.Client client) o is) (subst (λ (n : ℕ). client < n) (sym k.running.clients) good.1)
  can_own (commands.Read client name) good o is = subst (λ (x : Owner). CanRunLine e x) (same_Some (owner.Client client) o is) (subst (λ (n : ℕ). client < n) (sym k.running.clients) good.1)
  can_own _ good o is = absurd (cc)

  is_short : (c : Command) → IsGoodJobLine ds k.numbers c → IsShort c
  is_short (commands.Write client name body) good = let few : length body ≤ 1024 = good.1.1 in omega (arith, few)
  is_short _ good = tt

  pub can_run : length inside ≤ 100000 → CanRunPhase (held_of e) inside
  can_run few = record {
    owned = each_line (λ (c : Numbered). IsGoodJobLine ds k.numbers c.1) (λ (c : Numbered). IsTrue (is_some (owner_of c.1)) × IsShort c.1) inside (λ c line. (line.0, is_short c.1 line)) k.good.lines;
    can = by_place (CanRunLine e) (owners_of inside) (all_owners (CanRunLine e) inside []
        (each_line (λ (c : Numbered). IsGoodJobLine ds k.numbers c.1) (λ (c : Numbered). (o : Owner) → owner_of c.1 ≡ Some o → CanRunLine e o) inside (λ c line. can_own c.1 line) k.good.lines) tt);
    jobs = k.good.jobs;
    turns = k.good.turns;
    lines = few;
    nodes = k.running.stands.nodes.few;
  }

  -- ---- whichever history it represents

  module _ (d : Declared) (h : List NodeEntry) (r : RepresentsNodes (λ (c : Declared) (g : List NodeEntry). KeepsRecords c g e) d h (held_of e)) where
    attached_there : (s : ℕ) → IsTrue (has_number (are_declared ds k.numbers) s) → IsAttached h s
    attached_there s has =
        let is = both_of (nat_lt s (count_of kinds.Stream ds)) (has_number k.numbers s) (sym (has_declared ds k.numbers s) ∙ has) in
        let within : s < length e.sessions.items = subst (λ (n : ℕ). s < n) (sym k.running.streams) ((Decides-ltb s (count_of kinds.Stream ds)).0 is.0) in
        let x = r.sessions s within in
        x.2.attached (k.running.attached_are s x.0 x.1 ∙ k.same s ∙ is.1)

    -- the ends of a stream are those that the engine keeps
    ends_apart : (s : ℕ) → s < length e.sessions.items → (d.plan.stream s).source ≢ (d.plan.stream s).destination
    ends_apart s within same =
        let there : s < length e.routes.items = subst (λ (n : ℕ). s < n) (sym k.running.stands.many) within in
        let route = get_or e.routes.items s (record { source = 0; destination = 0 }) in
        let q = k.running.stands.routes in
        let t = r.records_are.routes in
        two_ends ds ds s k.good_decls.each (subst (λ (n : ℕ). s < n) k.running.streams within)
        (sym (q.source s (record { source = 0; destination = 0 }) there) ∙ t.source s (record { source = 0; destination = 0 }) there ∙ same
        ∙ sym (t.destination s (record { source = 0; destination = 0 }) there) ∙ q.destination s (record { source = 0; destination = 0 }) there)

    pub are_distinct : length inside ≤ 100000 → AreDistinct d.plan h inside
    are_distinct few = record {
      jobs = phases_apart ds (are_declared ds k.numbers) inside h (declared_phase ds k.numbers inside k.good) attached_there;
      streams = λ s i o lt is. ends_apart s (subst (λ (x : Owner). CanRunLine e x) is ((can_run few).can i o lt)).0;
    }

-- ---- what it gives

module _ (d : Declared) (h new : List NodeEntry) (f : Engine) (r : RepresentsNodes (λ (c : Declared) (g : List NodeEntry). KeepsRecords c g f) d (new ++ h) (held_of f)) where
  pub tells_so : Tells d (new ++ h) f
  tells_so = record {
    told = record {
      valid = r.valid;
      grammar = r.grammar;
      places_are = r.places;
      journals = λ n m at. let x = r.nodes n (within_of f.nodes.items n m at) in subst (λ (y : Stored). (means y).journal ≡ journal (new ++ h) n) (same_Some x.0 m (sym x.1 ∙ at)) x.2.journal_is;
      all_here = λ n lt. let x = r.nodes n lt in (x.0, x.1);
    };
    speaks = r.speaks;
    nodes = r.many_nodes;
  }

  goes_on : (attached : ℕ → Bool) (e : Engine) → IsRunning d attached h e → SameAttached (held_of e) (held_of f) → AllWork (held_of f) → IsRunning d attached (new ++ h) f
  goes_on attached e k same work = runs d attached (new ++ h) f (
    r,
    record {
      few = subst (λ (n : ℕ). n ≤ 32) (k.nodes ∙ sym r.many_nodes) k.stands.nodes.few;
      works = work;
      attached_are = λ s x at.
          let within : s < length e.sessions.items = subst (λ (n : ℕ). s < n) (r.many_streams ∙ sym k.streams) (within_of f.sessions.items s x at) in
          let y = k.stands.sessions s within in
          same s y.0 x y.1 at ∙ k.attached_are s y.0 y.1;
    },
  )

pub threads_step : (P : ℕ → Type 0) (inside : List Numbered) (d : Declared) (attached : ℕ → Bool) (h : List NodeEntry) (e f : Engine) (stop : Result Stop NoMemory) → IsRunning d attached h e
    → LeavesPhase (λ (c : Declared) (g : List NodeEntry). KeepsRecords c g f) d h inside (held_of f) stop → SameAttached (held_of e) (held_of f) → (stop ≡ Ok stops.Went → AllWork (held_of f))
    → IsLieAt P stop → StepsSo ByTime P (Phase (jobs_of inside)) d attached h f stop
threads_step P inside d attached h e f (Ok stops.Went) k (new, r, ends) same work lie =
    (new, goes_on d h new f r attached e k same (work refl), ends.whole refl)
threads_step P inside d attached h e f (Ok (stops.Worn at)) k (new, r, ends) same work lie =
    (new, tells_so d h new f r, record { each = ends.each; first = ends.first; causes = ends.causes; begun = ends.begun })
threads_step P inside d attached h e f (Ok (stops.Lied stream number sent got)) k (new, r, ends) same work lie =
    (lie, (new, tells_so d h new f r, record { each = ends.each; first = ends.first; causes = ends.causes; begun = ends.begun }))
threads_step P inside d attached h e f (Err refused) k leaves same work lie = elim leaves [
  | inl some ↦ (some.0, tells_so d h some.0 f some.2, marked_phases.begun (λ i. is_went (get_or some.3.each i (Ok stops.Went))) ByTime (jobs_of inside) (reverse some.0) some.3.begun)
  | inr none ↦ ([], tells_so d h [] f none, nothing_begins.line ByTime (attached_of d attached) (Phase (jobs_of inside)))
]
