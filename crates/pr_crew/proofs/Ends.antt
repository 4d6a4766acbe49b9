-- Jobs give back what they worked with, one after the other.
use Rattle.std.proofs.Common.{◌≡◌, ℕ, ◌+◌, ◌<◌, List, [], ◌∷◌, ◌++◌, Result, Ok, Err, inl, inr, refl, sym, ◌∙◌, ap, subst, length, get_or, set, append-nil, append_assoc, arith}
use Rattle.std.specs.Prelude.{Option, Some, None, filter, eqb, slice_get, take}
use Rattle.std.proofs.lemmas.Bool.Decides.{eqb_tells}
use Rattle.std.proofs.lemmas.List.{get_or-set_other, get_or-set_same, length-set}
use Rattle.std.proofs.lemmas.Option.{slice_get_within}
use Rattle.pr_cell.specs.Passes.{IsPassOf}
use Rattle.pr_flow.specs.declared.stop.Stop.{Stop}
use Rattle.pr_flow.specs.declared.stop.Stop.TheVariants as stops
use Rattle.pr_inval.specs.Standing.{Remembered}
use Rattle.pr_merge.specs.Holding.{HeldState}
use Rattle.pr_node.specs.Stored.{Stored}
use Rattle.pr_stamps.specs.declared.no_memory.NoMemory.{NoMemory}
use Rattle.pr_story.specs.History.{NodeEntry, Plan}
use Rattle.pr_story.proofs.Sorted.{contains_none}
use Rattle.pr_crew.specs.declared.sites.Sites.{Sites}
use Rattle.pr_crew.specs.declared.story.Story.{Story}
use Rattle.pr_crew.specs.declared.task.FlowTask.{FlowTask}
use Rattle.pr_crew.specs.declared.task.Task.{Task}
use Rattle.pr_crew.specs.declared.task.Task.TheVariants as tasks
use Rattle.pr_crew.specs.Making.{IsCellOf, NodeCell, NodePass}
use Rattle.pr_crew.specs.Sites.{AreJoined, CanJoin, IsSite, Joins}
use Rattle.pr_crew.specs.Starting.{CanEnd, CanEndOne, EndsOne, HaveEnded, IsBesideSessions}
use Rattle.pr_crew.specs.Stories.{caller_of, stories}
use Rattle.pr_crew.specs.Tasks.{IsUsed, first_of_two, of_node, passes_at, passes_of}
use Rattle.pr_crew.proofs.Joined.{one_joined}
use Rattle.pr_crew.proofs.Places.{take_push}
use Rattle.pr_crew.proofs.Starts.{many_numbers, of_else, of_here, other_site, passes_push, same_site}

-- ---- stops

pub first_of_three : (a b c : Result Stop NoMemory) → first_of_two (first_of_two a b) c ≡ first_of_two a (first_of_two b c)
first_of_three (Ok stops.Went) b c = refl
first_of_three (Ok (stops.Lied stream number sent got)) b c = refl
first_of_three (Ok (stops.Worn at)) b c = refl
first_of_three (Err refused) b c = refl

pub first_of_went : (a : Result Stop NoMemory) → first_of_two a (Ok stops.Went) ≡ a
first_of_went (Ok stops.Went) = refl
first_of_went (Ok (stops.Lied stream number sent got)) = refl
first_of_went (Ok (stops.Worn at)) = refl
first_of_went (Err refused) = refl

-- ---- sites

-- the passes were joined into the phase's own pass of node n's cell
abbrev pub JoinedAt : Plan → List NodeEntry → Sites → ℕ → ℕ → List NodePass → Type 0
JoinedAt plan h s n many ps = (c : NodeCell) × (r : NodePass) × IsSite s n c r × IsCellOf plan h n c × AreJoined c many ps r

same_cell : (c d : NodeCell) (cells : List NodeCell) (n : ℕ) → slice_get cells n ≡ Some c → slice_get cells n ≡ Some d → c ≡ d
same_cell c d cells n one other = let e : Some c ≡ Some d = sym one ∙ other in cc

module _ (plan : Plan) (h : List NodeEntry) where
  joinable : (s : Sites) (n many : ℕ) (ps : List NodePass) (pass : Option NodePass) (q : NodePass) → JoinedAt plan h s n many ps → IsUsed s.cells.items n pass q → CanJoin s n pass
  joinable s n many ps pass q (c, r, site, of_node, joined) used =
      (c, r, q, site, joined.root, used.has, subst (λ (d : NodeCell). IsPassOf stories d q) (same_cell used.cell c s.cells.items n used.cell_is site.cell) used.of_cell)

  -- one more pass
  all_joined : (count : ℕ) (s t : Sites) (m : ℕ) (many : ℕ → ℕ) (f : ℕ → List NodePass) (pass : Option NodePass) (q : NodePass) → ((n : ℕ) → n < count → JoinedAt plan h s n (many n) (f n)) → m < count
      → IsUsed s.cells.items m pass q → Joins s t m pass → (t.cells ≡ s.cells) × ((n : ℕ) → n < count → JoinedAt plan h t n (many n) (f n ++ of_node n m pass))
  all_joined count s t m many f pass q each lt used joins =
      let (c, p, site, of_node_is, joined) = each m lt in
      let (r, has, changes) = joins c p q site used.has in
      let here : JoinedAt plan h t m (many m) (f m ++ q ∷ []) = (c, r, same_site s t m r c p changes site, of_node_is, one_joined c (many m) (f m) p q r joined used.alone used.issues has) in (
        changes.0,
        λ n within. subst (λ (o : Option NodePass). JoinedAt plan h t n (many n) (f n ++ of_node n m o)) (sym used.has) (elim (eqb_tells m n) [
          | inl (test, same) ↦ subst (λ (l : List NodePass). JoinedAt plan h t n (many n) (f n ++ l)) (sym (of_here n m q same)) (subst (λ (k : ℕ). JoinedAt plan h t k (many k) (f k ++ q ∷ [])) same here)
          | inr (test, other) ↦
              let (d, x, at, of_it, others) = each n within in
              subst (λ (l : List NodePass). JoinedAt plan h t n (many n) (f n ++ l)) (sym (of_else n m (Some q) other))
              (subst (λ (l : List NodePass). JoinedAt plan h t n (many n) l) (sym (append-nil (f n))) (d, x, other_site s t m n r d x changes (λ same. other (sym same)) at, of_it, others))
        ]),
      )

module _ {W : Type 0} (plan : Plan) (h : List NodeEntry) (count : ℕ) (streams : ℕ → ℕ) (was : HeldState Stored) (s0 : Sites) (ts : List (Task W)) (can : CanEnd plan h count streams was s0 ts) where
  abbrev pub Ended : HeldState Stored → Sites → ℕ → Type 0
  Ended now s i = HaveEnded plan h count streams was now s ts i

  pub none_ended : Ended was s0 0
  none_ended = record {
    joined = λ n lt. let sp = can.split n lt in (
      sp.cell,
      sp.pass,
      sp.site,
      sp.of_node,
      record {
        root = sp.root;
        held_is = sp.held_is;
        issued = let e = sp.issued in let f = many_numbers (passes_at ts n) in omega (arith, e, f);
        none = ap (λ (l : List Story). filter (λ (e : Story). eqb (caller_of e) 0) l) sp.sees;
        within = λ q has. absurd (contains_none q has);
      },
    );
    beside = record { nodes = refl; clients = refl; places = refl; sessions = refl };
    given = λ k t lt is. absurd (omega arith);
    out = λ k t le is. can.out k t is;
    rest = λ s le. refl;
  }

  module _ (now : HeldState Stored) (s : Sites) (i : ℕ) (cells : s.cells ≡ s0.cells) (en : Ended now s i) where
    used_here : (n : ℕ) (pass : Option NodePass) (p : NodePass) → IsUsed s0.cells.items n pass p → IsUsed s.cells.items n pass p
    used_here n pass p used = subst (λ cs. IsUsed cs.items n pass p) (sym cells) used

    -- the next job can give back what it has
    pub can_end : (x : Task W) → slice_get ts i ≡ Some x → CanEndOne now s x
    can_end (tasks.Client x) at =
        let (lt, (p, used)) = can.clients i x at in
        joinable plan h s x.work.node (length (passes_at ts x.work.node)) (passes_at (take i ts) x.work.node) x.pass p (en.joined x.work.node lt) (used_here x.work.node x.pass p used)
    can_end (tasks.Flow x) at =
        let f = can.flows i x at in
        let (from_lt, (from, from_used)) = f.source in
        let (to_lt, (to, to_used)) = f.destination in
        let within = f.within in
        let many = en.beside.sessions in (
          joinable plan h s x.work.source (length (passes_at ts x.work.source)) (passes_at (take i ts) x.work.source) x.source from (en.joined x.work.source from_lt) (used_here x.work.source x.source from from_used),
          joinable plan h s x.work.destination (length (passes_at ts x.work.destination)) (passes_at (take i ts) x.work.destination) x.destination to (en.joined x.work.destination to_lt) (used_here x.work.destination x.destination to to_used),
          f.apart,
          f.session,
          omega (arith, within, many),
          en.out i x (omega arith) at,
        )

    taken : (x : Task W) (n : ℕ) → slice_get ts i ≡ Some x → passes_at (take (i + 1) ts) n ≡ passes_at (take i ts) n ++ passes_of n x
    taken x n at = ap (λ (l : List (Task W)). passes_at l n) (take_push ts i x at) ∙ passes_push (take i ts) x n

    -- and has given it back
    pub one_ended : (x : Task W) (then : HeldState Stored) (t : Sites) → slice_get ts i ≡ Some x → EndsOne now then s t x → Ended then t (i + 1) × (t.cells ≡ s.cells)
    one_ended (tasks.Client x) then t at (joins, same) =
        let (lt, (p, used)) = can.clients i x at in
        let (kept, each) = all_joined plan h count s t x.work.node (λ n. length (passes_at ts n)) (λ n. passes_at (take i ts) n) x.pass p en.joined lt (used_here x.work.node x.pass p used) joins in (
          record {
            joined = λ n within. subst (λ (l : List NodePass). JoinedAt plan h t n (length (passes_at ts n)) l) (sym (taken (tasks.Client x) n at)) (each n within);
            beside = subst (λ (z : HeldState Stored). IsBesideSessions was z) (sym same) en.beside;
            given = λ k y lt is. ap (λ (z : HeldState Stored). get_or z.sessions y.work.stream None) same ∙ en.given k y (before k y lt is) is;
            out = λ k y le is. ap (λ (z : HeldState Stored). get_or z.sessions y.work.stream None) same ∙ en.out k y (omega (arith, le)) is;
            rest = λ s le. ap (λ (z : HeldState Stored). get_or z.sessions s None) same ∙ en.rest s le;
          },
          kept,
        )
      where
        before : (k : ℕ) (y : FlowTask W) → k < i + 1 → slice_get ts k ≡ Some (tasks.Flow y) → k < i
        before k y lt is = elim (eqb_tells k i) [
          | inl (test, here) ↦ absurd (let e : Some (tasks.Flow y) ≡ Some (tasks.Client x) = sym is ∙ ap (λ j. slice_get ts j) here ∙ at in cc)
          | inr (test, other) ↦ omega (arith, lt, other)
        ]
    one_ended (tasks.Flow x) then t at ((mid, first, second), then_is) =
        let f = can.flows i x at in
        let (from_lt, (from, from_used)) = f.source in
        let (to_lt, (to, to_used)) = f.destination in
        let (kept, each) = all_joined plan h count s mid x.work.source (λ n. length (passes_at ts n)) (λ n. passes_at (take i ts) n) x.source from en.joined from_lt (used_here x.work.source x.source from from_used) first in
        let (kept_to, each_to) = all_joined plan h count mid t x.work.destination (λ n. length (passes_at ts n)) (λ n. passes_at (take i ts) n ++ of_node n x.work.source x.source) x.destination to each to_lt
        (subst (λ cs. IsUsed cs.items x.work.destination x.destination to) (sym kept) (used_here x.work.destination x.destination to to_used)) second in
        let sessions : then.sessions ≡ set now.sessions x.work.stream x.session = ap (λ (z : HeldState Stored). z.sessions) then_is in (
          record {
            joined = λ n within. subst (λ (l : List NodePass). JoinedAt plan h t n (length (passes_at ts n)) l)
                (append_assoc (passes_at (take i ts) n) (of_node n x.work.source x.source) (of_node n x.work.destination x.destination) ∙ sym (taken (tasks.Flow x) n at)) (each_to n within);
            beside = record {
              nodes = ap (λ (z : HeldState Stored). z.nodes) then_is ∙ en.beside.nodes;
              clients = ap (λ (z : HeldState Stored). z.clients) then_is ∙ en.beside.clients;
              places = ap (λ (z : HeldState Stored). z.places) then_is ∙ en.beside.places;
              sessions = ap (λ (l : List (Option Remembered)). length l) sessions ∙ length-set now.sessions x.work.stream x.session ∙ en.beside.sessions;
            };
            given = λ k y lt is. ap (λ (l : List (Option Remembered)). get_or l y.work.stream None) sessions ∙ (elim (eqb_tells k i) [
              | inl (test, here) ↦
                  let e : Some (tasks.Flow y) ≡ Some (tasks.Flow x) = sym is ∙ ap (λ j. slice_get ts j) here ∙ at in
                  let y_is : x ≡ y = cc in
                  subst (λ (z : FlowTask W). get_or (set now.sessions x.work.stream x.session) z.work.stream None ≡ z.session) y_is
                  (get_or-set_same now.sessions x.work.stream x.session None (let within = f.within in let many = en.beside.sessions in omega (arith, within, many)))
              | inr (test, other) ↦ get_or-set_other now.sessions x.work.stream y.work.stream x.session None (λ same. apart k y is other same) ∙ en.given k y (omega (arith, lt, other)) is
            ]);
            out = λ k y le is. ap (λ (l : List (Option Remembered)). get_or l y.work.stream None) sessions
                ∙ get_or-set_other now.sessions x.work.stream y.work.stream x.session None (λ same. apart k y is (λ e. omega (arith, le, e)) same) ∙ en.out k y (omega (arith, le)) is;
            rest = λ s le. ap (λ (l : List (Option Remembered)). get_or l s None) sessions
                ∙ get_or-set_other now.sessions x.work.stream s x.session None (λ same. let own = f.own in let e : streams s ≡ streams x.work.stream = ap streams same in
                let within = slice_get_within ts i (tasks.Flow x) at in omega (arith, own, e, le, within)) ∙ en.rest s le;
          },
          kept_to ∙ kept,
        )
      where
        apart : (k : ℕ) (y : FlowTask W) → slice_get ts k ≡ Some (tasks.Flow y) → (k ≡ i → ⊥) → y.work.stream ≡ x.work.stream → ⊥
        apart k y is other same = let own = (can.flows i x at).own in let theirs = (can.flows k y is).own in let e : streams y.work.stream ≡ streams x.work.stream = ap streams same in other (sym theirs ∙ e ∙ own)
