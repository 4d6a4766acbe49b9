-- All jobs of a phase, from their start to when all is given back.
use Rattle.std.proofs.Common.{◌≡◌, ℕ, suc, ◌+◌, ◌<◌, ◌≤◌, List, [], ◌∷◌, ◌++◌, inl, inr, refl, sym, ◌∙◌, ap, subst, cond, length, get_or, map, arith}
use Rattle.std.specs.Prelude.{Bool, true, false, eqb, IsTrue, Option, Some, None, Result, slice_get, sum_by}
use Rattle.std.specs.List.{range_with_len}
use Rattle.std.proofs.lemmas.List.{map-append, take_all}
use Rattle.std.proofs.lemmas.List.Sums.{sum_by-cons}
use Rattle.std.proofs.lemmas.Option.{slice_get_within}
use Rattle.pr_flow.specs.declared.stop.Stop.{Stop}
use Rattle.pr_inval.specs.Standing.{Remembered}
use Rattle.pr_merge.specs.Holding.{HeldState}
use Rattle.pr_merge.proofs.Times.{less_or}
use Rattle.pr_node.specs.Stored.{Stored}
use Rattle.pr_script.specs.declared.owner.Owner.{Owner}
use Rattle.pr_script.specs.Steps.{Numbered}
use Rattle.pr_stamps.specs.declared.no_memory.NoMemory.{NoMemory}
use Rattle.pr_story.specs.declared.entry.Entry.{Entry}
use Rattle.pr_story.specs.History.{NodeEntry, Plan}
use Rattle.pr_story.specs.Merging.{New}
use Rattle.pr_wires.specs.Calls.{WireState}
use Rattle.pr_crew.specs.declared.sites.Sites.{Sites}
use Rattle.pr_crew.specs.declared.task.FlowTask.{FlowTask}
use Rattle.pr_crew.specs.declared.task.Task.{Task}
use Rattle.pr_crew.specs.declared.task.Task.TheVariants as tasks
use Rattle.pr_crew.specs.declared.work.ClientWork.{ClientWork}
use Rattle.pr_crew.specs.declared.work.FlowWork.{FlowWork}
use Rattle.pr_crew.specs.declared.work.Work.{Work}
use Rattle.pr_crew.specs.declared.work.Work.TheVariants as works
use Rattle.pr_crew.specs.Crossing.{AreClosed, JobCrosses}
use Rattle.pr_crew.specs.Leaving.{HaveRun, IsLeft}
use Rattle.pr_crew.specs.Making.{IsCellOf, NodeCell, NodePass}
use Rattle.pr_crew.specs.Sites.{AreJoined, CanClose, IsBeside, IsClosed, IsSite}
use Rattle.pr_crew.specs.Sound.{HaveEndsOf}
use Rattle.pr_crew.specs.Starting.{CanEnd, CanStart, HaveEnded, HaveStarted, IsSplit}
use Rattle.pr_crew.specs.Tasks.{IsDone, IsSamePass, IsSameStream, StaysJob, first_stop, numbers_of, of_node, passes_at, passes_of, stop_of, wires_of, work_of}
use Rattle.pr_crew.proofs.Joined.{holds_all}
use Rattle.pr_crew.proofs.Ran.{each_was}
use Rattle.pr_crew.proofs.Starts.{client_work, flow_work, many_numbers, work_at}

-- ---- the same numbers

one_number : (b : Bool) (p q : NodePass) → q.number ≡ p.number → numbers_of (cond b (q ∷ []) []) ≡ numbers_of (cond b (p ∷ []) [])
one_number true p q same = ap (λ (k : ℕ). k ∷ []) same
one_number false p q same = refl

node_numbers : (n m : ℕ) (a b : Option NodePass) → IsSamePass a b → numbers_of (of_node n m b) ≡ numbers_of (of_node n m a)
node_numbers n m None None same = refl
node_numbers n m None (Some q) same = absurd same
node_numbers n m (Some p) None same = absurd same
node_numbers n m (Some p) (Some q) same = one_number (eqb m n) p q same

module _ {W : Type 0} where
  same_work : (t u : Task W) → StaysJob t u → work_of u ≡ work_of t
  same_work (tasks.Client t) (tasks.Client u) stays = ap (λ (v : ClientWork). works.Client v) stays.0
  same_work (tasks.Client t) (tasks.Flow u) stays = absurd stays
  same_work (tasks.Flow t) (tasks.Client u) stays = absurd stays
  same_work (tasks.Flow t) (tasks.Flow u) stays = ap (λ (v : FlowWork). works.Flow v) stays.0

  job_numbers : (n : ℕ) (t u : Task W) → StaysJob t u → numbers_of (passes_of n u) ≡ numbers_of (passes_of n t)
  job_numbers n (tasks.Client t) (tasks.Client u) stays =
      node_numbers n u.work.node t.pass u.pass stays.1 ∙ ap (λ (v : ClientWork). numbers_of (of_node n v.node t.pass)) stays.0
  job_numbers n (tasks.Client t) (tasks.Flow u) stays = absurd stays
  job_numbers n (tasks.Flow t) (tasks.Client u) stays = absurd stays
  job_numbers n (tasks.Flow t) (tasks.Flow u) stays =
      let number : NodePass → ℕ = λ p. p.number in
      map-append number (of_node n u.work.source u.source) (of_node n u.work.destination u.destination)
      ∙ ap (λ (l : List ℕ). l ++ numbers_of (of_node n u.work.destination u.destination)) (node_numbers n u.work.source t.source u.source stays.1 ∙ ap (λ (v : FlowWork). numbers_of (of_node n v.source t.source)) stays.0)
      ∙ ap (λ (l : List ℕ). numbers_of (of_node n t.work.source t.source) ++ l) (node_numbers n u.work.destination t.destination u.destination stays.2 ∙ ap (λ (v : FlowWork). numbers_of (of_node n v.destination t.destination)) stays.0)
      ∙ sym (map-append number (of_node n t.work.source t.source) (of_node n t.work.destination t.destination))

  all_numbers : (n : ℕ) (ts us : List (Task W)) → length us ≡ length ts → ((k : ℕ) (t u : Task W) → slice_get ts k ≡ Some t → slice_get us k ≡ Some u → StaysJob t u)
      → numbers_of (passes_at us n) ≡ numbers_of (passes_at ts n)
  all_numbers n [] [] same stay = refl
  all_numbers n [] (u ∷ us) same stay = absurd (omega (arith, same))
  all_numbers n (t ∷ ts) [] same stay = absurd (omega (arith, same))
  all_numbers n (t ∷ ts) (u ∷ us) same stay =
      let number : NodePass → ℕ = λ p. p.number in
      map-append number (passes_of n u) (passes_at us n)
      ∙ ap (λ (l : List ℕ). l ++ numbers_of (passes_at us n)) (job_numbers n t u (stay 0 t u refl refl))
      ∙ ap (λ (l : List ℕ). numbers_of (passes_of n t) ++ l) (all_numbers n ts us (omega (arith, same)) (λ k x y at there. stay (suc k) x y at there))
      ∙ sym (map-append number (passes_of n t) (passes_at ts n))

  job_wires : (t u : Task W) → StaysJob t u → wires_of u ≡ wires_of t
  job_wires (tasks.Client t) (tasks.Client u) stays = refl
  job_wires (tasks.Client t) (tasks.Flow u) stays = absurd stays
  job_wires (tasks.Flow t) (tasks.Client u) stays = absurd stays
  job_wires (tasks.Flow t) (tasks.Flow u) stays = stays.4

  pub all_wires : (ts us : List (Task W)) → length us ≡ length ts → ((k : ℕ) (t u : Task W) → slice_get ts k ≡ Some t → slice_get us k ≡ Some u → StaysJob t u) → sum_by wires_of us ≡ sum_by wires_of ts
  all_wires [] [] same stay = refl
  all_wires [] (u ∷ us) same stay = absurd (omega (arith, same))
  all_wires (t ∷ ts) [] same stay = absurd (omega (arith, same))
  all_wires (t ∷ ts) (u ∷ us) same stay =
      sum_by-cons wires_of u us ∙ ap (λ (k : ℕ). k + sum_by wires_of us) (job_wires t u (stay 0 t u refl refl))
      ∙ ap (λ (k : ℕ). wires_of t + k) (all_wires ts us (omega (arith, same)) (λ k x y at there. stay (suc k) x y at there)) ∙ sym (sum_by-cons wires_of t ts)

  all_works : (us : List (Task W)) (ws : List Work) → length us ≡ length ws → ((k : ℕ) (u : Task W) → slice_get us k ≡ Some u → slice_get ws k ≡ Some (work_of u)) → map work_of us ≡ ws
  all_works [] [] same each = refl
  all_works [] (w ∷ ws) same each = absurd (omega (arith, same))
  all_works (u ∷ us) [] same each = absurd (omega (arith, same))
  all_works (u ∷ us) (w ∷ ws) same each =
      let one : Some w ≡ Some (work_of u) = each 0 u refl in
      let head : w ≡ work_of u = cc in
      λ i. sym head i ∷ all_works us ws (omega (arith, same)) (λ k v at. each (suc k) v at) i

module _ {W : Type 0} (state : W → WireState) (plan : Plan) (h : List NodeEntry) (count : ℕ) (inside : List Numbered) (owners : List Owner) (streams : ℕ → ℕ) (was now : HeldState Stored) (s0 s : Sites) (ws : List Work) (ts us : List (Task W))
    (can : CanStart plan h count inside owners streams was s0 ws) (started : HaveStarted state plan h count streams was now s ws (length ws) ts) (many : length us ≡ length ts)
    (done : (k : ℕ) (u : Task W) → slice_get us k ≡ Some u → (xs : List New) × IsDone plan h inside s.cells.items k u xs × JobCrosses state u xs)
    (stay : (k : ℕ) (t u : Task W) → slice_get ts k ≡ Some t → slice_get us k ≡ Some u → StaysJob t u) where
  -- a job that ran is one that was planned
  planned : (k : ℕ) (u : Task W) → slice_get us k ≡ Some u → slice_get ws k ≡ Some (work_of u)
  planned k u at =
      let t = each_was ts us k u many at in
      started.planned k t.0 t.1 ∙ ap (λ (w : Work). Some w) (sym (same_work t.0 u (stay k t.0 u t.1 at)))

  flow_of : (k : ℕ) (u : FlowTask W) → slice_get us k ≡ Some (tasks.Flow u)
      → (t : FlowTask W) × (slice_get ts k ≡ Some (tasks.Flow t)) × (u.work ≡ t.work) × IsSameStream t.session u.session
  flow_of k u at = let t = each_was ts us k (tasks.Flow u) many at in by t.0 t.1 (stay k t.0 (tasks.Flow u) t.1 at)
    where
      by : (t : Task W) → slice_get ts k ≡ Some t → StaysJob t (tasks.Flow u) → (t : FlowTask W) × (slice_get ts k ≡ Some (tasks.Flow t)) × (u.work ≡ t.work) × IsSameStream t.session u.session
      by (tasks.Client t) is stays = absurd stays
      by (tasks.Flow t) is stays = (t, is, stays.0, stays.3)

  as_many : length us ≡ length ws
  as_many = many ∙ started.many

  attached_still : (a b : Option Remembered) (y : Remembered) → IsSameStream a b → ((x : Remembered) → a ≡ Some x → IsTrue x.attached) → b ≡ Some y → IsTrue y.attached
  attached_still None None y same on is = absurd (cc)
  attached_still None (Some b) y same on is = absurd same
  attached_still (Some a) None y same on is = absurd same
  attached_still (Some a) (Some b) y same on is = let e : b ≡ y = cc in subst (λ (x : Remembered). IsTrue x.attached) e (subst (λ (c : Bool). IsTrue c) (sym same.1) (on a refl))

  attached_before : (k : ℕ) (t : FlowTask W) → slice_get ts k ≡ Some (tasks.Flow t) → (x : Remembered) → t.session ≡ Some x → IsTrue x.attached
  attached_before k t at x is = let r = started.ready k (tasks.Flow t) at in let e : Some r.session ≡ Some x = sym r.has ∙ is in let same : r.session ≡ x = cc in subst (λ (y : Remembered). IsTrue y.attached) same r.attached

  -- all that they worked with can be given back
  pub can_end : CanEnd plan h count streams now s us
  can_end = record {
    split = λ n lt. subst (λ (k : ℕ). IsSplit plan h (k + 1) s n (numbers_of (passes_at us n))) (sym as_many)
        (subst (λ (l : List ℕ). IsSplit plan h (length ws + 1) s n l) (sym (all_numbers n ts us many stay)) (started.split n lt));
    clients = λ k u at.
        let w = planned k (tasks.Client u) at in
        let o = work_at plan h count inside owners ws k (works.Client u.work) can.planned w in
        let c = client_work plan h count inside o.0 u.work o.1 in
        let d = done k (tasks.Client u) at in
        (c.1.node, (d.1.pass, d.1.used));
    flows = λ k u at.
        let w = planned k (tasks.Flow u) at in
        let o = work_at plan h count inside owners ws k (works.Flow u.work) can.planned w in
        let f = flow_work plan h count inside o.0 u.work o.1 in
        let lent = can.flows k u.work w in
        let d = done k (tasks.Flow u) at in
        let within = lent.within in
        let same = started.beside.sessions in
        record {
          own = lent.own;
          apart = lent.apart;
          within = omega (arith, within, same);
          source = (f.1.source, (d.1.from, d.1.source));
          destination = (f.1.destination, (d.1.to, d.1.destination));
          session = (d.1.session, d.1.has);
        };
    out = λ k u at. let t = flow_of k u at in subst (λ (v : FlowWork). get_or now.sessions v.stream None ≡ None) (sym t.2) (started.out k t.0 t.1);
  }

  module _ (then : HeldState Stored) (s2 : Sites) (ended : HaveEnded plan h count streams now then s2 us (length us)) (cells : s2.cells ≡ s.cells) where
    joined_all : (n : ℕ) → n < count → (c : NodeCell) × (r : NodePass) × IsSite s2 n c r × IsCellOf plan h n c × AreJoined c (length (passes_at us n)) (passes_at us n) r
    joined_all n lt = subst (λ (l : List (Task W)). (c : NodeCell) × (r : NodePass) × IsSite s2 n c r × IsCellOf plan h n c × AreJoined c (length (passes_at us n)) (passes_at l n) r) (take_all (length us) us (omega arith)) (ended.joined n lt)

    in_turn : (n : ℕ) → n < count → numbers_of (passes_at us n) ≡ range_with_len 1 (length (passes_at us n))
    in_turn n lt = (can_end.split n lt).in_turn ∙ ap (λ (k : ℕ). range_with_len 1 k) (many_numbers (passes_at us n))

    -- so the cells can be closed
    pub can_close : (n : ℕ) → n < count → CanClose s2 n
    can_close n lt = let (c, r, site, of_node, joined) = joined_all n lt in (plan, h, c, r, site, of_node, joined.root, holds_all c (passes_at us n) r joined (in_turn n lt))

    module _ (last : HeldState Stored) (beside : IsBeside then last)
        (closed : (n : ℕ) (c : NodeCell) (p : NodePass) → IsSite s2 n c p → IsCellOf plan h n c → (m : Stored) × (get_or last.nodes n None ≡ Some m) × IsClosed plan h n p m) where
      abbrev Left : ℕ → List Entry → Type 0
      Left n es = (x : IsLeft plan h s.cells.items us n es) × (get_or last.nodes n None ≡ Some x.node)

      chosen : (n : ℕ) → (es : List Entry) × (n < count → Left n es) × (count ≤ n → es ≡ [])
      chosen n = elim (less_or n count) [
        | inl lt ↦
            let (c, r, site, of_node, joined) = joined_all n lt in
            let (m, at, is_closed) = closed n c r site of_node in (
              is_closed.made,
              λ within. (
                record {
                  cell = c;
                  cell_is = ap (λ cs. slice_get cs.items n) (sym cells) ∙ site.cell;
                  of_node = of_node;
                  root = r;
                  joined = joined;
                  node = m;
                  closed = is_closed;
                  made_is = refl;
                },
                at,
              ),
              λ le. absurd (omega (arith, lt, le)),
            )
        | inr le ↦ ([], λ lt. absurd (omega (arith, lt, le)), λ more. refl)
      ]

      pub have_run : (stop : Result Stop NoMemory) → stop ≡ first_stop (map stop_of us) → (before after : Option (List (List ℕ))) → AreClosed state us before after → (P : ℕ → Type 0) → HaveEndsOf P us
          → (r : HaveRun W state plan h inside count streams was last ws stop) × AreClosed state r.jobs before after × HaveEndsOf P r.jobs
      have_run stop is before after wires P ends = (
        record {
          jobs = us;
          works = all_works us ws as_many planned;
          cells = s.cells.items;
          nodes = λ n. (chosen n).0;
          done = done;
          in_turn = in_turn;
          left = λ n lt. (chosen n).1 lt;
          none = λ n le. (chosen n).2 le;
          sessions = λ k u at. let t = flow_of k u at in record {
            own = (can_end.flows k u at).own;
            given = ap (λ (l : List (Option Remembered)). get_or l u.work.stream None) beside.sessions ∙ ended.given k u (slice_get_within us k (tasks.Flow u) at) at;
            attached = λ x has. attached_still t.0.session u.session x t.3 (attached_before k t.0 t.1) has;
          };
          rest = λ s le. ap (λ (l : List (Option Remembered)). get_or l s None) beside.sessions ∙ ended.rest s le ∙ started.lent s (let e = as_many in omega (arith, le, e));
          many_sessions = ap (λ (l : List (Option Remembered)). length l) beside.sessions ∙ ended.beside.sessions ∙ started.beside.sessions;
          many_nodes = beside.nodes ∙ ap (λ (l : List (Option Stored)). length l) (ended.beside.nodes ∙ started.beside.nodes);
          clients = beside.clients ∙ ended.beside.clients ∙ started.beside.clients;
          places = beside.places ∙ ended.beside.places ∙ started.beside.places;
          stop_is = is;
        },
        wires,
        ends,
      )
