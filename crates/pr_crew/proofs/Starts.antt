-- Jobs get what they work with, one after the other.
use Rattle.std.proofs.Common.{◌≡◌, ◌≢◌, ℕ, zero, suc, ◌+◌, ◌<◌, ◌≤◌, List, [], ◌∷◌, ◌++◌, inl, inr, refl, sym, ◌∙◌, ap, subst, cond, length, get_or, set, append-nil, append_assoc, arith}
use Rattle.std.specs.Prelude.{Bool, Option, Some, None, slice_get}
use Rattle.std.specs.List.{range_with_len}
use Rattle.std.proofs.lemmas.Bool.Decides.{Decides-eqb, eqb_tells}
use Rattle.std.proofs.lemmas.Grind.{flat_map-append}
use Rattle.std.proofs.lemmas.List.{append_cancel_left, get_or-set_other, get_or-set_same, length-append, length-set, map-append}
use Rattle.std.proofs.lemmas.Option.{slice_get_within}
use Rattle.pr_cell.specs.Passes.{IsPassOf, seen, since}
use Rattle.pr_inval.specs.Standing.{Remembered}
use Rattle.pr_merge.specs.Holding.{HeldState, IsSession}
use Rattle.pr_node.specs.Stored.{Stored}
use Rattle.pr_script.specs.declared.owner.Owner.{Owner}
use Rattle.pr_script.specs.declared.owner.Owner.TheVariants as owner
use Rattle.pr_script.specs.Steps.{Numbered}
use Rattle.pr_story.specs.History.{NodeEntry, Plan}
use Rattle.pr_story.specs.Clients.{client_node, client_vector}
use Rattle.pr_wires.specs.Calls.{WireState}
use Rattle.pr_crew.specs.declared.sites.Sites.{Sites}
use Rattle.pr_crew.specs.declared.story.Story.{Story}
use Rattle.pr_crew.specs.declared.task.ClientTask.{ClientTask}
use Rattle.pr_crew.specs.declared.task.FlowTask.{FlowTask}
use Rattle.pr_crew.specs.declared.task.Task.{Task}
use Rattle.pr_crew.specs.declared.task.Task.TheVariants as tasks
use Rattle.pr_crew.specs.declared.work.ClientWork.{ClientWork}
use Rattle.pr_crew.specs.declared.work.FlowWork.{FlowWork}
use Rattle.pr_crew.specs.declared.work.Work.{Work}
use Rattle.pr_crew.specs.declared.work.Work.TheVariants as works
use Rattle.pr_crew.specs.Making.{NodeCell, NodePass}
use Rattle.pr_crew.specs.Sites.{CanJoin, CanSplit, ChangesRoot, IsSite, Joins, Splits}
use Rattle.pr_crew.specs.Starting.{CanEndOne, CanStart, CanStartOne, HaveStarted, IsBesideSessions, IsSplit, StartsOne}
use Rattle.pr_crew.specs.Stories.{stories}
use Rattle.pr_crew.specs.Tasks.{IsFresh, IsReady, IsReadyClient, IsReadyFlow, numbers_of, of_node, passes_at, passes_of, work_of}
use Rattle.pr_crew.specs.Works.{AreWorks, IsClientWork, IsFlowWork, IsWork}
use Rattle.pr_crew.proofs.Places.{get_push, get_set_other, get_set_same}

-- ---- sites

-- the sites of other nodes stay
pub other_site : (s t : Sites) (m n : ℕ) (q : NodePass) (c : NodeCell) (p : NodePass) → ChangesRoot s t m q → (n ≡ m → ⊥) → IsSite s n c p → IsSite t n c p
other_site s t m n q c p (cells, roots) other site = record {
  cell = ap (λ cs. slice_get cs.items n) cells ∙ site.cell;
  root = ap (λ rs. slice_get rs n) roots ∙ get_set_other s.roots.items m n (Some q) other ∙ site.root;
}

pub same_site : (s t : Sites) (m : ℕ) (q : NodePass) (c : NodeCell) (p : NodePass) → ChangesRoot s t m q → IsSite s m c p → IsSite t m c q
same_site s t m q c p (cells, roots) site = record {
  cell = ap (λ cs. slice_get cs.items m) cells ∙ site.cell;
  root = ap (λ rs. slice_get rs m) roots ∙ get_set_same s.roots.items m (Some q) (slice_get_within s.roots.items m (Some p) site.root);
}

pub still_can_split : (now : HeldState Stored) (s mid : Sites) (w : FlowWork) (r : Option NodePass) → CanStartOne now s (works.Flow w) → Splits s mid w.source r → CanSplit mid w.destination
still_can_split now s mid w r ((c, p, site, root, lt), (c', p', site', root', lt'), apart, within) splits =
    let (q, own, is, split, changes) = splits c p site in
    (c', p', other_site s mid w.source w.destination q c' p' changes (λ same. apart (sym same)) site', root', lt')

pub still_can_join : {W : Type 0} (now : HeldState Stored) (s mid : Sites) (x : FlowTask W) → CanEndOne now s (tasks.Flow x) → Joins s mid x.work.source x.source → CanJoin mid x.work.destination x.destination
still_can_join now s mid x ((c, p, q, site, root, is, of), (c', p', q', site', root', is', of'), apart, here, within, none) joins =
    let (r, joined, changes) = joins c p q site is in
    (c', p', q', other_site s mid x.work.source x.work.destination r c' p' changes (λ same. apart (sym same)) site', root', is', of')

-- ---- passes

pub same_since : (c : NodeCell) (p q : NodePass) → IsPassOf stories c p → IsPassOf stories c q → seen q.seat ≡ seen p.seat → since q.seat ≡ since p.seat
same_since c p q of of' same =
    append_cancel_left p.seat.me.0.opening (since q.seat) (since p.seat) (ap (λ (l : List Story). l ++ since q.seat) (of.opening ∙ sym of'.opening) ∙ same)

pub range_more : (a n : ℕ) → range_with_len a (suc n) ≡ range_with_len a n ++ (a + n) ∷ []
range_more a zero = let e : a ≡ a + 0 = omega arith in ap (λ (k : ℕ). k ∷ []) e
range_more a (suc n) =
    let e : (a + 1) + n ≡ a + suc n = omega arith in
    ap (λ (l : List ℕ). a ∷ l) (range_more (a + 1) n ∙ ap (λ (k : ℕ). range_with_len (a + 1) n ++ k ∷ []) e)

pub of_here : (n m : ℕ) (p : NodePass) → m ≡ n → of_node n m (Some p) ≡ p ∷ []
of_here n m p same = ap (λ (b : Bool). cond b (p ∷ []) []) ((Decides-eqb m n).1 same)

pub of_else : (n m : ℕ) (o : Option NodePass) → (m ≡ n → ⊥) → of_node n m o ≡ []
of_else n m None other = refl
of_else n m (Some p) other = elim (eqb_tells m n) [
  | inl (test, same) ↦ absurd (other same)
  | inr (test, no_other) ↦ ap (λ (b : Bool). cond b (p ∷ []) []) test
]

module _ (plan : Plan) (h : List NodeEntry) (callers : ℕ) where
  -- one more pass of the node's cell
  split_here : (s t : Sites) (m : ℕ) (ns : List ℕ) (result : Option NodePass) → IsSplit plan h callers s m ns → Splits s t m result
      → (r : NodePass) × (result ≡ Some r) × IsSplit plan h callers t m (ns ++ r.number ∷ []) × IsFresh plan h s.cells.items m result × (t.cells ≡ s.cells)
      × ((n : ℕ) (l : List ℕ) → (n ≡ m → ⊥) → IsSplit plan h callers s n l → IsSplit plan h callers t n l)
  split_here s t m ns result sp splits =
      let (q, r, is, split, changes) = splits sp.cell sp.pass sp.site in
      let many : length (ns ++ r.number ∷ []) ≡ length ns + 1 = length-append ns (r.number ∷ []) in
      let number : r.number ≡ 1 + length ns = split.number ∙ sp.issued ∙ omega arith in (
        r,
        is,
        record {
          cell = sp.cell;
          pass = q;
          site = same_site s t m q sp.cell sp.pass changes sp.site;
          of_node = sp.of_node;
          root = split.root;
          many = sp.many;
          held_is = split.held_is ∙ sp.held_is;
          issued = let e = split.issued in let f = sp.issued in omega (arith, e, f, many);
          in_turn = ap (λ (l : List ℕ). l ++ r.number ∷ []) sp.in_turn ∙ ap (λ (k : ℕ). range_with_len 1 (length ns) ++ k ∷ []) number
              ∙ sym (range_more 1 (length ns)) ∙ ap (λ (k : ℕ). range_with_len 1 k) (let e : suc (length ns) ≡ length (ns ++ r.number ∷ []) = omega (arith, many) in e);
          sees = same_since sp.cell sp.pass q sp.root.of_cell split.root.of_cell split.seen_is ∙ sp.sees;
        },
        record {
          cell = sp.cell;
          cell_is = sp.site.cell;
          opened = sp.of_node;
          own = r;
          has = is;
          of_cell = split.of_cell;
          unused = split.unused;
          alone = split.alone;
          issues = split.issues;
          seen = same_since sp.cell sp.pass r sp.root.of_cell split.of_cell split.sees ∙ sp.sees;
        },
        changes.0,
        λ n l other x. record {
          cell = x.cell;
          pass = x.pass;
          site = other_site s t m n q x.cell x.pass changes other x.site;
          of_node = x.of_node;
          root = x.root;
          many = x.many;
          held_is = x.held_is;
          issued = x.issued;
          in_turn = x.in_turn;
          sees = x.sees;
        },
      )

  pub can_split : (s : Sites) (n : ℕ) (ns : List ℕ) → IsSplit plan h callers s n ns → length ns + 1 < callers → CanSplit s n
  can_split s n ns sp few = (sp.cell, sp.pass, sp.site, sp.root, let e = sp.issued in let f = sp.many in omega (arith, e, f, few))

  -- one more pass, as all nodes have it
  pub all_split : (count : ℕ) (s t : Sites) (m : ℕ) (f : ℕ → List ℕ) (result : Option NodePass) → ((n : ℕ) → n < count → IsSplit plan h callers s n (f n)) → m < count → Splits s t m result
      → IsFresh plan h s.cells.items m result × (t.cells ≡ s.cells) × ((n : ℕ) → n < count → IsSplit plan h callers t n (f n ++ numbers_of (of_node n m result)))
  all_split count s t m f result each lt splits =
      let (r, is, here, fresh, cells, others) = split_here s t m (f m) result (each m lt) splits in (
        fresh,
        cells,
        λ n within.
            subst (λ (o : Option NodePass). IsSplit plan h callers t n (f n ++ numbers_of (of_node n m o))) (sym is) (elim (eqb_tells m n) [
              | inl (test, same) ↦ subst (λ (l : List NodePass). IsSplit plan h callers t n (f n ++ numbers_of l)) (sym (of_here n m r same))
                  (subst (λ (k : ℕ). IsSplit plan h callers t k (f k ++ r.number ∷ [])) same here)
              | inr (test, other) ↦ subst (λ (l : List NodePass). IsSplit plan h callers t n (f n ++ numbers_of l)) (sym (of_else n m (Some r) other))
                  (subst (λ (l : List ℕ). IsSplit plan h callers t n l) (sym (append-nil (f n))) (others n (f n) (λ same. other (sym same)) (each n within)))
            ]),
      )

-- ---- one more job

pub many_numbers : (ps : List NodePass) → length (numbers_of ps) ≡ length ps
many_numbers [] = refl
many_numbers (p ∷ ps) = let e = many_numbers ps in omega (arith, e)

at_most : (n m : ℕ) (o : Option NodePass) → length (of_node n m o) ≤ 1
at_most n m None = omega arith
at_most n m (Some p) = elim (eqb_tells m n) [
  | inl (test, same) ↦ let e = ap (λ (l : List NodePass). length l) (of_here n m p same) in omega (arith, e)
  | inr (test, other) ↦ let e = ap (λ (l : List NodePass). length l) (of_else n m (Some p) other) in omega (arith, e)
]

module _ {W : Type 0} where
  pub passes_push : (ts : List (Task W)) (x : Task W) (n : ℕ) → passes_at (ts ++ x ∷ []) n ≡ passes_at ts n ++ passes_of n x
  passes_push ts x n = flat_map-append (passes_of n) ts (x ∷ []) ∙ ap (λ (l : List NodePass). passes_at ts n ++ l) (append-nil (passes_of n x))

  numbers_push : (ts : List (Task W)) (x : Task W) (n : ℕ) → numbers_of (passes_at (ts ++ x ∷ []) n) ≡ numbers_of (passes_at ts n) ++ numbers_of (passes_of n x)
  numbers_push ts x n = ap (λ (l : List NodePass). numbers_of l) (passes_push ts x n) ∙ map-append (λ (p : NodePass). p.number) (passes_at ts n) (passes_of n x)

  abbrev pub IsOneWay : Task W → Type 0
  IsOneWay (tasks.Client x) = Unit {0}
  IsOneWay (tasks.Flow x) = x.work.source ≢ x.work.destination

  one_pass : (n : ℕ) (x : Task W) → IsOneWay x → length (passes_of n x) ≤ 1
  one_pass n (tasks.Client x) way = at_most n x.work.node x.pass
  one_pass n (tasks.Flow x) way =
      let both = length-append (of_node n x.work.source x.source) (of_node n x.work.destination x.destination) in
      let first = at_most n x.work.source x.source in
      let second = at_most n x.work.destination x.destination in
      elim (eqb_tells x.work.source n) [
        | inl (test, same) ↦ let e = ap (λ (l : List NodePass). length l) (of_else n x.work.destination x.destination (λ is. way (same ∙ sym is))) in omega (arith, both, first, e)
        | inr (test, other) ↦ let e = ap (λ (l : List NodePass). length l) (of_else n x.work.source x.source other) in omega (arith, both, second, e)
      ]

  few_passes : (n : ℕ) (ts : List (Task W)) → ((k : ℕ) (x : Task W) → slice_get ts k ≡ Some x → IsOneWay x) → length (passes_at ts n) ≤ length ts
  few_passes n [] ways = omega arith
  few_passes n (x ∷ ts) ways =
      let one = one_pass n x (ways 0 x refl) in
      let rest = few_passes n ts (λ k y is. ways (suc k) y is) in
      let e = length-append (passes_of n x) (passes_at ts n) in
      omega (arith, one, rest, e)

pub work_at : (plan : Plan) (h : List NodeEntry) (count : ℕ) (inside : List Numbered) (os : List Owner) (ws : List Work) (k : ℕ) (w : Work) → AreWorks plan h count inside os ws → slice_get ws k ≡ Some w
    → (o : Owner) × IsWork plan h count inside o w
work_at plan h count inside [] ws k w are is = absurd (none ws are k is)
  where
    none : (ws : List Work) → ws ≡ [] → (k : ℕ) → slice_get ws k ≡ Some w → ⊥
    none [] e k is = cc
    none (x ∷ ws) e k is = cc
work_at plan h count inside (o ∷ os) [] k w are is = absurd are
work_at plan h count inside (o ∷ os) (x ∷ ws) zero w are is = let same : x ≡ w = cc in (o, subst (λ (y : Work). IsWork plan h count inside o y) same are.0)
work_at plan h count inside (o ∷ os) (x ∷ ws) (suc k) w are is = work_at plan h count inside os ws k w are.1 is

pub client_work : (plan : Plan) (h : List NodeEntry) (count : ℕ) (inside : List Numbered) (o : Owner) (w : ClientWork) → IsWork plan h count inside o (works.Client w) → (client : ℕ) × IsClientWork plan h count inside client w
client_work plan h count inside (owner.Client client) w is = (client, is)
client_work plan h count inside (owner.Stream stream) w is = absurd is

pub flow_work : (plan : Plan) (h : List NodeEntry) (count : ℕ) (inside : List Numbered) (o : Owner) (w : FlowWork) → IsWork plan h count inside o (works.Flow w) → (stream : ℕ) × IsFlowWork plan h count inside stream w
flow_work plan h count inside (owner.Client client) w is = absurd is
flow_work plan h count inside (owner.Stream stream) w is = (stream, is)

ready_client : (plan : Plan) (h : List NodeEntry) (count : ℕ) (inside : List Numbered) (cells : List NodeCell) (client : ℕ) (x : ClientTask) (w : ClientWork) → x.work ≡ w → IsClientWork plan h count inside client w
    → IsFresh plan h cells w.node x.pass → IsReadyClient plan h cells x
ready_client plan h count inside cells client x w is work fresh = record {
  fresh = subst (λ (v : ClientWork). IsFresh plan h cells v.node x.pass) (sym is) fresh;
  node_is = ap (λ (v : ClientWork). v.node) is ∙ work.node_is ∙ ap (λ (c : ℕ). client_node plan h c) (sym (ap (λ (v : ClientWork). v.client) is ∙ work.client_is));
  seen_is = ap (λ (v : ClientWork). v.seen) is ∙ work.seen_is ∙ ap (λ (c : ℕ). client_vector h c) (sym (ap (λ (v : ClientWork). v.client) is ∙ work.client_is));
}

module _ {W : Type 0} (state : W → WireState) (plan : Plan) (h : List NodeEntry) (count : ℕ) (inside : List Numbered) (owners : List Owner) (streams : ℕ → ℕ) (was : HeldState Stored) (s0 : Sites) (ws : List Work)
    (can : CanStart plan h count inside owners streams was s0 ws) where
  abbrev Started : HeldState Stored → Sites → ℕ → List (Task W) → Type 0
  Started now s i ts = HaveStarted state plan h count streams was now s ws i ts

  pub none_started : Started was s0 0 []
  none_started = record {
    many = refl;
    planned = λ k t is. absurd (cc);
    ready = λ k t is. absurd (cc);
    split = λ n lt. let o = can.opened n lt in record {
      cell = o.cell;
      pass = o.pass;
      site = o.site;
      of_node = o.of_node;
      root = o.root;
      many = o.many;
      held_is = o.held_is;
      issued = o.issued;
      in_turn = refl;
      sees = o.sees;
    };
    beside = record { nodes = refl; clients = refl; places = refl; sessions = refl };
    lent = λ s le. refl;
    out = λ k t is. absurd (cc);
  }

  module _ (now : HeldState Stored) (s : Sites) (i : ℕ) (ts : List (Task W)) (st : Started now s i ts) where
    -- the work of a job is one of those
    one_way : (k : ℕ) (x : Task W) → slice_get ts k ≡ Some x → IsOneWay x
    one_way k (tasks.Client x) is = tt
    one_way k (tasks.Flow x) is = (can.flows k x.work (st.planned k (tasks.Flow x) is)).apart

    few_numbers : (n : ℕ) → length (numbers_of (passes_at ts n)) ≤ i
    few_numbers n =
        let few = few_passes n ts one_way in
        let same = many_numbers (passes_at ts n) in
        let many = st.many in
        omega (arith, few, same, many)

    splittable : (n : ℕ) → n < count → i < length ws → CanSplit s n
    splittable n lt more = let few = few_numbers n in can_split plan h (length ws + 1) s n (numbers_of (passes_at ts n)) (st.split n lt) (omega (arith, few, more))

    pushed : (x : Task W) → length (ts ++ x ∷ []) ≡ i + 1
    pushed x = let e = length-append ts (x ∷ []) in let many = st.many in omega (arith, e, many)

    -- the next job can start
    pub can_start : (w : Work) → slice_get ws i ≡ Some w → CanStartOne now s w
    can_start (works.Client w) is =
        let o = work_at plan h count inside owners ws i (works.Client w) can.planned is in
        let c = client_work plan h count inside o.0 w o.1 in
        splittable w.node c.1.node (slice_get_within ws i (works.Client w) is)
    can_start (works.Flow w) is =
        let o = work_at plan h count inside owners ws i (works.Flow w) can.planned is in
        let f = flow_work plan h count inside o.0 w o.1 in
        let lent = can.flows i w is in
        let more = slice_get_within ws i (works.Flow w) is in
        let many = st.beside.sessions in
        let within = lent.within in
        (splittable w.source f.1.source more, splittable w.destination f.1.destination more, lent.apart, omega (arith, many, within))

    -- and has started
    pub one_started : (w : Work) (x : Task W) (then : HeldState Stored) (t : Sites) → slice_get ws i ≡ Some w → StartsOne state now then s t w x → Started then t (i + 1) (ts ++ x ∷ [])
    one_started (works.Client w) (tasks.Client x) then t at (is, splits, same) =
        let o = work_at plan h count inside owners ws i (works.Client w) can.planned at in
        let c = client_work plan h count inside o.0 w o.1 in
        let (fresh, cells, each) = all_split plan h (length ws + 1) count s t w.node (λ n. numbers_of (passes_at ts n)) x.pass st.split c.1.node splits in
        record {
          many = pushed (tasks.Client x);
          planned = λ k y on. elim (get_push ts (tasks.Client x) k y on) [
            | inl before ↦ st.planned k y before
            | inr last ↦ ap (λ j. slice_get ws j) (last.0 ∙ st.many) ∙ at ∙ ap (λ v. Some (works.Client v)) (sym is) ∙ ap (λ (z : Task W). Some (work_of z)) last.1
          ];
          ready = λ k y on. elim (get_push ts (tasks.Client x) k y on) [
            | inl before ↦ subst (λ cs. IsReady plan h cs.items state y) (sym cells) (st.ready k y before)
            | inr last ↦ subst (λ (z : Task W). IsReady plan h t.cells.items state z) last.1 (subst (λ cs. IsReadyClient plan h cs.items x) (sym cells) (ready_client plan h count inside s.cells.items c.0 x w is c.1 fresh))
          ];
          split = λ n lt. subst (λ (l : List ℕ). IsSplit plan h (length ws + 1) t n l) (sym (numbers_push ts (tasks.Client x) n))
              (subst (λ (v : ClientWork). IsSplit plan h (length ws + 1) t n (numbers_of (passes_at ts n) ++ numbers_of (of_node n v.node x.pass))) (sym is) (each n lt));
          beside = subst (λ (z : HeldState Stored). IsBesideSessions was z) (sym same) st.beside;
          lent = λ s le. ap (λ (z : HeldState Stored). get_or z.sessions s None) same ∙ st.lent s (omega (arith, le));
          out = λ k y on. elim (get_push ts (tasks.Client x) k (tasks.Flow y) on) [
            | inl before ↦ ap (λ (z : HeldState Stored). get_or z.sessions y.work.stream None) same ∙ st.out k y before
            | inr last ↦ absurd (let bad = last.1 in cc)
          ];
        }
    one_started (works.Client w) (tasks.Flow x) then t at starts = absurd starts
    one_started (works.Flow w) (tasks.Client x) then t at starts = absurd starts
    one_started (works.Flow w) (tasks.Flow x) then t at (is, (mid, first, second), session, then_is, unused) =
        let o = work_at plan h count inside owners ws i (works.Flow w) can.planned at in
        let f = flow_work plan h count inside o.0 w o.1 in
        let lent = can.flows i w at in
        let (fresh, cells, each) = all_split plan h (length ws + 1) count s mid w.source (λ n. numbers_of (passes_at ts n)) x.source st.split f.1.source first in
        let (fresh_to, cells_to, each_to) = all_split plan h (length ws + 1) count mid t w.destination (λ n. numbers_of (passes_at ts n) ++ numbers_of (of_node n w.source x.source)) x.destination each f.1.destination second in
        let sessions : then.sessions ≡ set now.sessions w.stream None = ap (λ (z : HeldState Stored). z.sessions) then_is in
        let here = can.sessions w.stream lent.within in
        let slot : get_or now.sessions w.stream None ≡ Some here.0 = st.lent w.stream (let e = lent.own in omega (arith, e)) ∙ here.1 in
        let stream : x.work.stream ≡ w.stream = ap (λ (v : FlowWork). v.stream) is in
        let ready : IsReadyFlow plan h s.cells.items state x = record {
          source_is = ap (λ (v : FlowWork). v.source) is ∙ f.1.source_is ∙ ap (λ (k : ℕ). (plan.stream k).source) (sym (stream ∙ f.1.stream_is));
          destination_is = ap (λ (v : FlowWork). v.destination) is ∙ f.1.destination_is ∙ ap (λ (k : ℕ). (plan.stream k).destination) (sym (stream ∙ f.1.stream_is));
          source = subst (λ (v : FlowWork). IsFresh plan h s.cells.items v.source x.source) (sym is) fresh;
          destination = subst (λ (v : FlowWork). IsFresh plan h s.cells.items v.destination x.destination) (sym is) (subst (λ cs. IsFresh plan h cs.items w.destination x.destination) cells fresh_to);
          session = here.0;
          has = session ∙ slot;
          stands = subst (λ (k : ℕ). IsSession plan h k here.0) (sym stream) here.2;
          attached = lent.attached here.0 here.1;
          unused = unused;
        } in
        record {
          many = pushed (tasks.Flow x);
          planned = λ k y on. elim (get_push ts (tasks.Flow x) k y on) [
            | inl before ↦ st.planned k y before
            | inr last ↦ ap (λ j. slice_get ws j) (last.0 ∙ st.many) ∙ at ∙ ap (λ v. Some (works.Flow v)) (sym is) ∙ ap (λ (z : Task W). Some (work_of z)) last.1
          ];
          ready = λ k y on. elim (get_push ts (tasks.Flow x) k y on) [
            | inl before ↦ subst (λ cs. IsReady plan h cs.items state y) (sym (cells_to ∙ cells)) (st.ready k y before)
            | inr last ↦ subst (λ (z : Task W). IsReady plan h t.cells.items state z) last.1 (subst (λ cs. IsReadyFlow plan h cs.items state x) (sym (cells_to ∙ cells)) ready)
          ];
          split = λ n lt. subst (λ (l : List ℕ). IsSplit plan h (length ws + 1) t n l)
              (sym (numbers_push ts (tasks.Flow x) n ∙ ap (λ (l : List ℕ). numbers_of (passes_at ts n) ++ l) (map-append (λ (p : NodePass). p.number) (of_node n x.work.source x.source) (of_node n x.work.destination x.destination))
              ∙ sym (append_assoc (numbers_of (passes_at ts n)) (numbers_of (of_node n x.work.source x.source)) (numbers_of (of_node n x.work.destination x.destination)))))
              (subst (λ (v : FlowWork). IsSplit plan h (length ws + 1) t n ((numbers_of (passes_at ts n) ++ numbers_of (of_node n v.source x.source)) ++ numbers_of (of_node n v.destination x.destination))) (sym is) (each_to n lt));
          beside = record {
            nodes = ap (λ (z : HeldState Stored). z.nodes) then_is ∙ st.beside.nodes;
            clients = ap (λ (z : HeldState Stored). z.clients) then_is ∙ st.beside.clients;
            places = ap (λ (z : HeldState Stored). z.places) then_is ∙ st.beside.places;
            sessions = ap (λ (l : List (Option Remembered)). length l) sessions ∙ length-set now.sessions w.stream None ∙ st.beside.sessions;
          };
          lent = λ s le. ap (λ (l : List (Option Remembered)). get_or l s None) sessions
              ∙ get_or-set_other now.sessions w.stream s None None (λ same. let own = lent.own in let e : streams s ≡ streams w.stream = ap streams same in omega (arith, le, own, e)) ∙ st.lent s (omega (arith, le));
          out = λ k y on. elim (get_push ts (tasks.Flow x) k (tasks.Flow y) on) [
            | inl before ↦ ap (λ (l : List (Option Remembered)). get_or l y.work.stream None) sessions
                ∙ get_or-set_other now.sessions w.stream y.work.stream None None (λ same.
                let own = lent.own in let other = (can.flows k y.work (st.planned k (tasks.Flow y) before)).own in let e : streams y.work.stream ≡ streams w.stream = ap streams same in
                let within = slice_get_within ts k (tasks.Flow y) before in let many = st.many in omega (arith, own, other, e, within, many))
                ∙ st.out k y before
            | inr last ↦ let y_is : x ≡ y = (let e = last.1 in cc) in
                ap (λ (l : List (Option Remembered)). get_or l y.work.stream None) sessions
                ∙ subst (λ (k : ℕ). get_or (set now.sessions w.stream None) k None ≡ None) (sym (ap (λ (z : FlowTask W). z.work.stream) (sym y_is) ∙ stream))
                (get_or-set_same now.sessions w.stream None None (let within = lent.within in let many = st.beside.sessions in omega (arith, within, many)))
          ];
        }
