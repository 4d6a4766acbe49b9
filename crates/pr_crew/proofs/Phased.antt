-- A phase, from what was looked up to what it leaves.
use Rattle.std.proofs.Common.{◌≡◌, ◌≢◌, ◌⊎◌, ℕ, zero, suc, ◌+◌, ◌<◌, List, [], ◌∷◌, ◌++◌, All, Contains, inl, inr, refl, sym, ◌∙◌, ap, subst, length, get_or, reverse, arith}
use Rattle.std.specs.Prelude.{IsTrue, Option, Some, None, Result, Ok, Err, is_some, slice_get}
use Rattle.std.specs.List.{AllByRecursion}
use Rattle.std.proofs.lemmas.List.Elements.{All-contains, All-weaker}
use Rattle.pr_cell.specs.Passes.{HoldsAll, held}
use Rattle.pr_flow.specs.declared.stop.Stop.{Stop}
use Rattle.pr_flow.specs.declared.stop.Stop.TheVariants as stops
use Rattle.pr_inval.specs.Standing.{Remembered}
use Rattle.pr_merge.specs.Holding.{AreAllHere, AreSessions, HeldState}
use Rattle.pr_node.specs.Stored.{Stored}
use Rattle.pr_script.specs.declared.owner.Owner.{Owner}
use Rattle.pr_script.specs.declared.owner.Owner.TheVariants as owner
use Rattle.pr_script.specs.Steps.{Numbered, owner_of, owners_of}
use Rattle.pr_stamps.specs.declared.no_memory.NoMemory.{NoMemory}
use Rattle.pr_story.specs.declared.entry.Entry.{Entry}
use Rattle.pr_story.specs.Counts.{Declared}
use Rattle.pr_story.specs.History.{NodeEntry, Plan, journal}
use Rattle.pr_story.proofs.Sorted.{is_first}
use Rattle.pr_text.specs.Steps.{client_job, stream_job}
use Rattle.pr_wires.specs.Calls.{WireState}
use Rattle.pr_crew.specs.declared.sites.Sites.{Sites}
use Rattle.pr_crew.specs.declared.work.FlowWork.{FlowWork}
use Rattle.pr_crew.specs.declared.work.Work.{Work}
use Rattle.pr_crew.specs.declared.work.Work.TheVariants as works
use Rattle.pr_crew.specs.Assembly.{made_at}
use Rattle.pr_crew.specs.Carrying.{PhaseCarries}
use Rattle.pr_crew.specs.Crossing.{AreClosed}
use Rattle.pr_crew.specs.Leaving.{HaveRun}
use Rattle.pr_crew.specs.Making.{IsCellOf, NodeCell, NodePass}
use Rattle.pr_crew.specs.Phases.{AreDistinct, CanRunJob, CanRunPhase, IsOut, IsPlanned, LeavesPhase, PhaseEnds, RepresentsNodes, SameAttached}
use Rattle.pr_crew.specs.Rooms.{HasAppended}
use Rattle.pr_crew.specs.Sites.{CanClose, IsBeside, IsClosed, IsHere, IsOpened, IsSite}
use Rattle.pr_crew.specs.Sound.{AddsDownsOf, HaveEndsOf}
use Rattle.pr_crew.specs.Starting.{CanStart, IsLent}
use Rattle.pr_crew.specs.Asking.{IsShort}
use Rattle.pr_crew.specs.Works.{AreWorks, CanPlan, IsWork}
use Rattle.pr_crew.proofs.Apart.{apart_at}
use Rattle.pr_crew.proofs.Carried.{carried}
use Rattle.pr_crew.proofs.Sounds.{downs_new}
use Rattle.pr_crew.proofs.Entries.{same_made}
use Rattle.pr_crew.proofs.Outcome.{assembled, can_append, have_made, jobs}
use Rattle.pr_crew.proofs.Represented.{at_contains, attached_same, represented}
use Rattle.pr_crew.proofs.Stopped.{ended}

-- ---- what is beside the nodes

pub move_records : (one other : Declared → List NodeEntry → Type 0) (d : Declared) (h : List NodeEntry) (s : HeldState Stored) → (one d h → other d h) → RepresentsNodes one d h s → RepresentsNodes other d h s
move_records one other d h s then r = record {
  valid = r.valid;
  speaks = r.speaks;
  grammar = r.grammar;
  places = r.places;
  nodes = r.nodes;
  sessions = r.sessions;
  many_nodes = r.many_nodes;
  many_streams = r.many_streams;
  many_clients = r.many_clients;
  records_are = then r.records_are;
}

pub move_planned : (one other : Declared → List NodeEntry → Type 0) (d : Declared) (h : List NodeEntry) (inside : List Numbered) (ws : List Work) (count : ℕ) (s : HeldState Stored) → (one d h → other d h)
    → IsPlanned one d h inside ws count s → IsPlanned other d h inside ws count s
move_planned one other d h inside ws count s then p = record { represents = move_records one other d h s then p.represents; can = p.can; distinct = p.distinct; planned = p.planned; many = p.many }

-- all nodes are here again
pub back_again : (one other : Declared → List NodeEntry → Type 0) (d : Declared) (h : List NodeEntry) (s t : HeldState Stored) → (one d h → other d h) → RepresentsNodes one d h s → IsBeside s t
    → ((n : ℕ) → n < length s.nodes → IsHere d.plan h t n) → RepresentsNodes other d h t
back_again one other d h s t then r b here = record {
  valid = r.valid;
  speaks = r.speaks;
  grammar = r.grammar;
  places = b.places ∙ r.places;
  nodes = λ n lt. here n (let e = b.nodes in omega (arith, lt, e));
  sessions = subst (λ (l : List (Option Remembered)). AreSessions d.plan h l) (sym b.sessions) r.sessions;
  many_nodes = b.nodes ∙ r.many_nodes;
  many_streams = ap (λ (l : List (Option Remembered)). length l) b.sessions ∙ r.many_streams;
  many_clients = b.clients ∙ r.many_clients;
  records_are = then r.records_are;
}

pub nodes_here : (records : Declared → List NodeEntry → Type 0) (d : Declared) (h : List NodeEntry) (s : HeldState Stored) → RepresentsNodes records d h s → (n : ℕ) → n < length s.nodes → IsHere d.plan h s n
nodes_here records d h s r n lt = r.nodes n lt

pub all_here : (records : Declared → List NodeEntry → Type 0) (d : Declared) (h : List NodeEntry) (s : HeldState Stored) → RepresentsNodes records d h s → AreAllHere s.nodes
all_here records d h s r n lt = let m = r.nodes n lt in (m.0, m.1)

pub same_attached : (s t : HeldState Stored) → t.sessions ≡ s.sessions → SameAttached s t
same_attached s t same n x y a b =
    let e : Some x ≡ Some y = sym a ∙ ap (λ (l : List (Option Remembered)). get_or l n None) (sym same) ∙ b in
    let is : x ≡ y = cc in ap (λ (z : Remembered). z.attached) (sym is)

pub all_short : (inside : List Numbered) → AllByRecursion (λ (c : Numbered). IsTrue (is_some (owner_of c.1)) × IsShort c.1) inside → AllByRecursion (λ (c : Numbered). IsShort c.1) inside
all_short [] all = tt
all_short (c ∷ inside) all = (all.0.1, all_short inside all.1)

pub can_plan : (s : HeldState Stored) (os : List Owner) → All (CanRunJob s) os → All (CanPlan s) os
can_plan s os all = All-weaker (CanRunJob s) (CanPlan s) (λ o can. one o can) os all
  where
    one : (o : Owner) → CanRunJob s o → CanPlan s o
    one (owner.Client client) can = can
    one (owner.Stream stream) can = can.0

pub beside_both : (a b c : HeldState Stored) → IsBeside a b → IsBeside b c → IsBeside a c
beside_both a b c x y = record { sessions = y.sessions ∙ x.sessions; clients = y.clients ∙ x.clients; places = y.places ∙ x.places; nodes = y.nodes ∙ x.nodes }

pub works_many : (plan : Plan) (h : List NodeEntry) (count : ℕ) (inside : List Numbered) (os : List Owner) (ws : List Work) → AreWorks plan h count inside os ws → length ws ≡ length os
works_many plan h count inside [] ws are = ap (λ (l : List Work). length l) are
works_many plan h count inside (o ∷ os) [] are = absurd are
works_many plan h count inside (o ∷ os) (w ∷ ws) are = let e = works_many plan h count inside os ws are.1 in omega (arith, e)

-- for want of memory the history is as before
pub refused : (final : Declared → List NodeEntry → Type 0) (d : Declared) (h : List NodeEntry) (inside : List Numbered) (s : HeldState Stored) (result : Result Stop NoMemory) (x : NoMemory) → result ≡ Err x → RepresentsNodes final d h s
    → LeavesPhase final d h inside s result
refused final d h inside s result x is r = subst (λ (z : Result Stop NoMemory). LeavesPhase final d h inside s z) (sym is) (inr r)

pub planned_now : (one other : Declared → List NodeEntry → Type 0) (d : Declared) (h : List NodeEntry) (inside : List Numbered) (ws now : List Work) (count : ℕ) (os : List Owner) (s t : HeldState Stored) → (one d h → other d h)
    → RepresentsNodes one d h s → CanRunPhase s inside → AreDistinct d.plan h inside → os ≡ owners_of inside → AreWorks d.plan h (length s.nodes) inside os ws → now ≡ ws → count ≡ length s.nodes → t ≡ s
    → IsPlanned other d h inside now count t
planned_now one other d h inside ws now count os s t then r can distinct owners_are works_are same many state_is =
    subst (λ (z : HeldState Stored). IsPlanned other d h inside now count z) (sym state_is) (record {
      represents = move_records one other d h s then r;
      can = can;
      distinct = distinct;
      planned = subst (λ (l : List Work). AreWorks d.plan h count inside (owners_of inside) l) (sym same)
          (subst (λ (k : ℕ). AreWorks d.plan h k inside (owners_of inside) ws) (sym many) (subst (λ (l : List Owner). AreWorks d.plan h (length s.nodes) inside l ws) owners_are works_are));
      many = many;
    })

pub out_of : (one other : Declared → List NodeEntry → Type 0) (d : Declared) (h : List NodeEntry) (inside : List Numbered) (ws : List Work) (count callers : ℕ) (s : Sites) (was now : HeldState Stored) → (one d h → other d h)
    → IsPlanned one d h inside ws count was → length s.cells.items ≡ count → IsBeside was now → ((n : ℕ) → n < count → IsOpened d.plan h callers s n) → callers ≡ length ws + 1 → ((n : ℕ) → n < count → get_or now.nodes n None ≡ None)
    → IsOut other d h inside ws s was now
out_of one other d h inside ws count callers s was now then p many beside opened is out = record {
  planned = subst (λ (k : ℕ). IsPlanned other d h inside ws k was) (sym many) (move_planned one other d h inside ws count was then p);
  beside = beside;
  opened = λ n lt. subst (λ (k : ℕ). IsOpened d.plan h k s n) is (opened n (omega (arith, lt, many)));
  out = λ n lt. out n (omega (arith, lt, many));
}

-- ---- cells that no job has used

fresh_holds : (plan : Plan) (h : List NodeEntry) (callers : ℕ) (s : Sites) (n : ℕ) (o : IsOpened plan h callers s n) → HoldsAll o.pass
fresh_holds plan h callers s n o =
    let zero_in : Contains (held o.pass.seat) 0 = subst (λ (l : List ℕ). Contains l 0) (sym o.held_is) (is_first 0 []) in (
      zero_in,
      λ k lt. let one = o.issued in let e : 0 ≡ k = omega (arith, lt, one) in subst (λ (j : ℕ). Contains (held o.pass.seat) j) e zero_in,
    )

pub fresh_close : (plan : Plan) (h : List NodeEntry) (callers : ℕ) (s : Sites) (n : ℕ) → IsOpened plan h callers s n → CanClose s n
fresh_close plan h callers s n o = (plan, h, o.cell, o.pass, o.site, o.of_node, o.root, fresh_holds plan h callers s n o)

pub fresh_here : (plan : Plan) (h : List NodeEntry) (callers : ℕ) (s : Sites) (t : HeldState Stored) (n : ℕ) → IsOpened plan h callers s n
    → ((c : NodeCell) (p : NodePass) → IsSite s n c p → IsCellOf plan h n c → (m : Stored) × (get_or t.nodes n None ≡ Some m) × IsClosed plan h n p m) → IsHere plan h t n
fresh_here plan h callers s t n o closed =
    let (m, at, is) = closed o.cell o.pass o.site o.of_node in
    let none : is.made ≡ [] = same_made is.made [] (sym is.seen_is ∙ o.sees) in (
      m,
      at,
      record { number_is = is.node.number_is; sets_are = is.node.sets_are; journal_is = is.node.journal_is ∙ ap (λ (es : List Entry). reverse es ++ journal h n) none },
    )

-- ---- the start

work_owner : (plan : Plan) (h : List NodeEntry) (count : ℕ) (inside : List Numbered) (os : List Owner) (ws : List Work) (k : ℕ) (w : Work) → AreWorks plan h count inside os ws → slice_get ws k ≡ Some w
    → (o : Owner) × (slice_get os k ≡ Some o) × IsWork plan h count inside o w
work_owner plan h count inside [] ws k w are is = absurd (none ws are k is)
  where
    none : (ws : List Work) → ws ≡ [] → (k : ℕ) → slice_get ws k ≡ Some w → ⊥
    none [] e k is = cc
    none (x ∷ ws) e k is = cc
work_owner plan h count inside (o ∷ os) [] k w are is = absurd are
work_owner plan h count inside (o ∷ os) (x ∷ ws) zero w are is = let same : x ≡ w = cc in (o, refl, subst (λ (y : Work). IsWork plan h count inside o y) same are.0)
work_owner plan h count inside (o ∷ os) (x ∷ ws) (suc k) w are is = work_owner plan h count inside os ws k w are.1 is

module _ (records : Declared → List NodeEntry → Type 0) (d : Declared) (h : List NodeEntry) (inside : List Numbered) (ws : List Work) (s : Sites) (was now : HeldState Stored) (o : IsOut records d h inside ws s was now) where
  stream_lent : (k : ℕ) (w : FlowWork) (p : Owner) → slice_get (owners_of inside) k ≡ Some p → IsWork d.plan h (length s.cells.items) inside p (works.Flow w) → IsLent (stream_job inside) now.sessions k w
  stream_lent k w (owner.Client client) at is = absurd is
  stream_lent k w (owner.Stream stream) at is =
      let has = at_contains (owners_of inside) k (owner.Stream stream) at in
      let can = All-contains (CanRunJob was) (owners_of inside) (owner.Stream stream) o.planned.can.can has in
      let apart = All-contains (λ (x : Owner). x ≡ owner.Stream stream → (d.plan.stream stream).source ≢ (d.plan.stream stream).destination) (owners_of inside) (owner.Stream stream) (o.planned.distinct.streams stream) has refl in
      let own = apart_at h inside (stream_job inside) (client_job inside) (owners_of inside) 0 o.planned.distinct.jobs k (owner.Stream stream) at in
      let same : w.stream ≡ stream = is.stream_is in
      record {
        own = ap (λ (n : ℕ). stream_job inside n) same ∙ own.1 ∙ (let e : 0 + k ≡ k = omega arith in e);
        apart = λ equal. apart (sym is.source_is ∙ equal ∙ is.destination_is);
        within = let e = ap (λ (l : List (Option Remembered)). length l) o.beside.sessions in let f = can.0 in omega (arith, e, f, same);
        attached = λ x slot. can.1 x (ap (λ (n : ℕ). get_or was.sessions n None) (sym same) ∙ ap (λ (l : List (Option Remembered)). get_or l w.stream None) (sym o.beside.sessions) ∙ slot);
      }

  pub can_start : CanStart d.plan h (length s.cells.items) inside (owners_of inside) (stream_job inside) now s ws
  can_start = record {
    planned = o.planned.planned;
    opened = o.opened;
    sessions = subst (λ (l : List (Option Remembered)). AreSessions d.plan h l) (sym o.beside.sessions) o.planned.represents.sessions;
    flows = λ k w at. let f = work_owner d.plan h (length s.cells.items) inside (owners_of inside) ws k (works.Flow w) o.planned.planned at in stream_lent k w f.0 f.1 f.2;
  }

  -- ---- the end

  module _ {W : Type 0} {state : W → WireState} (later : Declared → List NodeEntry → Type 0) (last then : HeldState Stored) (stop : Result Stop NoMemory)
      (r : HaveRun W state d.plan h inside (length s.cells.items) (stream_job inside) now last ws stop)
      (a : HasAppended later d h (length s.cells.items) r.nodes last then) where
    abbrev pub new_of : List NodeEntry
    new_of = reverse (made_at r.nodes a.0)

    pub all_represented : RepresentsNodes later d (reverse (made_at r.nodes a.0) ++ h) then
    all_represented =
        represented records later d h inside ws (length s.cells.items) was now last stop o.planned o.beside r (jobs records d h inside ws (length s.cells.items) was now last stop o.planned o.beside r)
        (have_made records d h inside ws (length s.cells.items) was now last stop o.planned o.beside r) (can_append records d h inside ws (length s.cells.items) was now last stop o.planned o.beside r)
        a.0 a.1 (assembled records d h inside ws (length s.cells.items) was now last stop o.planned o.beside r a.0 a.1) then a.2 a.3

    pub all_attached : SameAttached was then
    all_attached =
        attached_same records later d h inside ws (length s.cells.items) was now last stop o.planned o.beside r (jobs records d h inside ws (length s.cells.items) was now last stop o.planned o.beside r)
        (have_made records d h inside ws (length s.cells.items) was now last stop o.planned o.beside r) (can_append records d h inside ws (length s.cells.items) was now last stop o.planned o.beside r)
        a.0 a.1 (assembled records d h inside ws (length s.cells.items) was now last stop o.planned o.beside r a.0 a.1) then a.2

    all_ended : PhaseEnds h (reverse (made_at r.nodes a.0)) inside stop
    all_ended =
        ended records d h inside ws (length s.cells.items) was now last stop o.planned r (jobs records d h inside ws (length s.cells.items) was now last stop o.planned o.beside r)
        (have_made records d h inside ws (length s.cells.items) was now last stop o.planned o.beside r) a.0 (assembled records d h inside ws (length s.cells.items) was now last stop o.planned o.beside r a.0 a.1)

    -- whatever is answered: as the jobs stopped, or that there was no memory
    pub leaves : (final : Declared → List NodeEntry → Type 0) (result : Result Stop NoMemory) (fine : HeldState Stored) → fine ≡ then → ((g : List NodeEntry) → later d g → final d g) → (result ≡ stop) ⊎ (result ≡ Err (record {}))
        → LeavesPhase final d h inside fine result
    leaves final (Ok x) fine same more (inl is) =
        (new_of, subst (λ (z : HeldState Stored). RepresentsNodes final d (new_of ++ h) z) (sym same) (move_records later final d (new_of ++ h) then (more (new_of ++ h)) all_represented), subst (λ (z : Result Stop NoMemory). PhaseEnds h new_of inside z) (sym is) all_ended)
    leaves final (Ok x) fine same more (inr is) = absurd (cc)
    leaves final (Err x) fine same more answer =
        inl (new_of, stop, subst (λ (z : HeldState Stored). RepresentsNodes final d (new_of ++ h) z) (sym same) (move_records later final d (new_of ++ h) then (more (new_of ++ h)) all_represented), all_ended)

    -- and each flow's wire is told of
    pub carries : (final : Declared → List NodeEntry → Type 0) (result : Result Stop NoMemory) (fine : HeldState Stored) → fine ≡ then → ((g : List NodeEntry) → later d g → final d g) → (result ≡ stop) ⊎ (result ≡ Err (record {}))
        → (before after : Option (List (List ℕ))) → AreClosed state r.jobs before after → PhaseCarries final d h inside fine before after result
    carries final (Ok stops.Went) fine same more (inl is) before after closed = (
      new_of,
      subst (λ (z : HeldState Stored). RepresentsNodes final d (new_of ++ h) z) (sym same) (move_records later final d (new_of ++ h) then (more (new_of ++ h)) all_represented),
      carried records d h inside ws (length s.cells.items) was now last stop o.planned r (jobs records d h inside ws (length s.cells.items) was now last stop o.planned o.beside r)
          (have_made records d h inside ws (length s.cells.items) was now last stop o.planned o.beside r) a.0 (assembled records d h inside ws (length s.cells.items) was now last stop o.planned o.beside r a.0 a.1)
          (sym is) before after closed,
    )
    carries final (Ok stops.Went) fine same more (inr is) before after closed = absurd (cc)
    carries final (Ok (stops.Worn at)) fine same more answer before after closed = tt
    carries final (Ok (stops.Lied stream number sent got)) fine same more answer before after closed = tt
    carries final (Err x) fine same more answer before after closed = tt

    -- and entries say that a wire failed or ended for the streams alone whose flows did not end as over sound ones
    pub adds_downs : (final : Declared → List NodeEntry → Type 0) (fine : HeldState Stored) → fine ≡ then → ((g : List NodeEntry) → later d g → final d g) → (P : ℕ → Type 0) → HaveEndsOf P r.jobs → AddsDownsOf P final d h fine
    adds_downs final fine same more P ends = (
      new_of,
      subst (λ (z : HeldState Stored). RepresentsNodes final d (new_of ++ h) z) (sym same) (move_records later final d (new_of ++ h) then (more (new_of ++ h)) all_represented),
      downs_new h inside (length s.cells.items) d.plan ws now last stop r (jobs records d h inside ws (length s.cells.items) was now last stop o.planned o.beside r)
          (have_made records d h inside ws (length s.cells.items) was now last stop o.planned o.beside r) a.0 (assembled records d h inside ws (length s.cells.items) was now last stop o.planned o.beside r a.0 a.1) P ends,
    )

-- nothing was added
pub none_added : (P : ℕ → Type 0) (final : Declared → List NodeEntry → Type 0) (d : Declared) (h : List NodeEntry) (s : HeldState Stored) → RepresentsNodes final d h s → AddsDownsOf P final d h s
none_added P final d h s r = ([], r, tt)

-- nothing is said of a phase that did not go its way
pub none_carried : (final : Declared → List NodeEntry → Type 0) (d : Declared) (h : List NodeEntry) (inside : List Numbered) (s : HeldState Stored) (before now : Option (List (List ℕ))) (result : Result Stop NoMemory) (x : NoMemory) → result ≡ Err x
    → PhaseCarries final d h inside s before now result
none_carried final d h inside s before now result x is = subst (λ (z : Result Stop NoMemory). PhaseCarries final d h inside s before now z) (sym is) tt
