-- How many entries the jobs of a phase make at a node.
use Rattle.std.proofs.Common.{◌≡◌, ℕ, suc, ◌+◌, ◌≤◌, List, [], ◌∷◌, ◌++◌, Contains, inl, inr, refl, sym, ap, ◌∙◌, subst, cond, eqb, if◌then◌else◌, length, map, sum_by, arith}
use Rattle.std.specs.Prelude.{Bool, true, false, Option, Some, slice_get}
use Rattle.std.specs.List.{flat_map}
use Rattle.std.proofs.lemmas.Bool.Decides.{Decides-eqb, eqb_tells}
use Rattle.std.proofs.lemmas.List.{length-append}
use Rattle.std.proofs.lemmas.List.Elements.{Contains-append_left, Contains-append_right}
use Rattle.std.proofs.lemmas.List.Sums.{sum_by-append, sum_by-cons}
use Rattle.pr_script.specs.declared.owner.Owner.{Owner}
use Rattle.pr_script.specs.declared.owner.Owner.TheVariants as owner
use Rattle.pr_script.specs.Steps.{Numbered}
use Rattle.pr_story.specs.declared.entry.Entry.{Entry}
use Rattle.pr_story.specs.Commands.{Command}
use Rattle.pr_story.specs.History.{NodeEntry, Plan}
use Rattle.pr_story.specs.Merging.{New, plain}
use Rattle.pr_story.specs.Scripts.{AreOfCommands, FlowJob, JobBegins, Line, Single}
use Rattle.pr_story.proofs.Sorted.{contains_none, first_or_later, is_first, is_later}
use Rattle.pr_text.specs.Steps.{job_of, line_of, lines_by, single_of}
use Rattle.pr_crew.specs.declared.task.Task.{Task}
use Rattle.pr_crew.specs.declared.task.Task.TheVariants as tasks
use Rattle.pr_crew.specs.Jobs.{MadeAt, at_destination, at_source, own}
use Rattle.pr_crew.specs.Making.{NodeCell, NodePass}
use Rattle.pr_crew.specs.Tasks.{IsDone, numbers_of, of_node, passes_at, passes_of, work_of}
use Rattle.pr_crew.specs.Works.{IsWork, all_at, most_at}
use Rattle.pr_crew.proofs.Shares.{in_of_node, none_of_node, one_of_node}
use Rattle.pr_crew.proofs.Turning.{begins_if, destination_few, flow_begins_if, source_few}

-- ---- entries and their callers

-- how many of the entries are these callers'
abbrev pub total : List Entry → List NodePass → ℕ
total es ps = sum_by (λ (q : NodePass). length (own q.number es)) ps

longer : (b : Bool) (e : Entry) (l : List Entry) → length l ≤ length (cond b (e ∷ l) l)
longer true e l = omega arith
longer false e l = omega arith

still_own : (k : ℕ) (e : Entry) (es : List Entry) → length (own k es) ≤ length (own k (e ∷ es))
still_own k e es = longer (eqb e.caller k) e (own k es)

more_own : (k : ℕ) (e : Entry) (es : List Entry) → e.caller ≡ k → length (own k es) + 1 ≤ length (own k (e ∷ es))
more_own k e es is =
    let same : length (own k (e ∷ es)) ≡ length (e ∷ own k es) = ap (λ (b : Bool). length (cond b (e ∷ own k es) (own k es))) ((Decides-eqb e.caller k).1 is) in
    omega arith

total_grows : (e : Entry) (es : List Entry) (ps : List NodePass) → total es ps ≤ total (e ∷ es) ps
total_grows e es [] = omega arith
total_grows e es (p ∷ ps) =
    let a : total es (p ∷ ps) ≡ length (own p.number es) + total es ps = sum_by-cons (λ (q : NodePass). length (own q.number es)) p ps in
    let b : total (e ∷ es) (p ∷ ps) ≡ length (own p.number (e ∷ es)) + total (e ∷ es) ps = sum_by-cons (λ (q : NodePass). length (own q.number (e ∷ es))) p ps in
    let here : length (own p.number es) ≤ length (own p.number (e ∷ es)) = still_own p.number e es in
    let rest : total es ps ≤ total (e ∷ es) ps = total_grows e es ps in
    omega arith

one_more : (e : Entry) (es : List Entry) (ps : List NodePass) → Contains (numbers_of ps) e.caller → total es ps + 1 ≤ total (e ∷ es) ps
one_more e es [] has = absurd (contains_none e.caller has)
one_more e es (p ∷ ps) has =
    let a : total es (p ∷ ps) ≡ length (own p.number es) + total es ps = sum_by-cons (λ (q : NodePass). length (own q.number es)) p ps in
    let b : total (e ∷ es) (p ∷ ps) ≡ length (own p.number (e ∷ es)) + total (e ∷ es) ps = sum_by-cons (λ (q : NodePass). length (own q.number (e ∷ es))) p ps in
    elim (first_or_later p.number (numbers_of ps) e.caller has) [
      | inl is ↦ (let here : length (own p.number es) + 1 ≤ length (own p.number (e ∷ es)) = more_own p.number e es (sym is) in
          let rest : total es ps ≤ total (e ∷ es) ps = total_grows e es ps in
          omega arith)
      | inr later ↦ (let here : length (own p.number es) ≤ length (own p.number (e ∷ es)) = still_own p.number e es in
          let rest : total es ps + 1 ≤ total (e ∷ es) ps = one_more e es ps later in
          omega arith)
    ]

-- where each entry is of one of the callers, there are no more of them
pub callers_few : (ps : List NodePass) (es : List Entry) → ((e : Entry) → Contains es e → Contains (numbers_of ps) e.caller) → length es ≤ total es ps
callers_few ps [] all = omega arith
callers_few ps (e ∷ es) all =
    let rest : length es ≤ total es ps = callers_few ps es (λ x has. all x (is_later e es x has)) in
    let one : total es ps + 1 ≤ total (e ∷ es) ps = one_more e es ps (all e (is_first e es)) in
    let l : length (e ∷ es) ≡ length es + 1 = omega arith in
    omega arith

-- ---- one job

length_plain : (xs : List New) → length (plain xs) ≡ length xs
length_plain [] = refl
length_plain (x ∷ xs) =
    let rest : length (plain xs) ≡ length xs = length_plain xs in
    let a : length (x.made ∷ plain xs) ≡ length (plain xs) + 1 = omega arith in
    let b : length (x ∷ xs) ≡ length xs + 1 = omega arith in
    omega arith

of_commands_few : (commands : List Command) (es : List NodeEntry) → AreOfCommands commands es → length es ≤ length commands
of_commands_few [] es all = subst (λ (l : List NodeEntry). length l ≤ 0) (sym all) (omega arith)
of_commands_few (command ∷ commands) [] all = absurd all
of_commands_few (command ∷ commands) (e ∷ es) all =
    let rest : length es ≤ length commands = of_commands_few commands es all.1 in
    let a : length (e ∷ es) ≡ length es + 1 = omega arith in
    let b : length (command ∷ commands) ≡ length commands + 1 = omega arith in
    omega arith

single_few : (line : Line) → length (single_of line) ≤ 1
single_few (Single command) = omega arith
single_few _ = omega arith

commands_few : (lines : List Numbered) → length (flat_map (λ (c : Numbered). single_of (line_of c.1)) lines) ≤ length lines
commands_few [] = omega arith
commands_few (c ∷ lines) =
    let one : length (single_of (line_of c.1)) ≤ 1 = single_few (line_of c.1) in
    let rest : length (flat_map (λ (c : Numbered). single_of (line_of c.1)) lines) ≤ length lines = commands_few lines in
    let a : length (single_of (line_of c.1) ++ flat_map (λ (c : Numbered). single_of (line_of c.1)) lines) ≡ length (single_of (line_of c.1)) + length (flat_map (λ (c : Numbered). single_of (line_of c.1)) lines) =
    length-append (single_of (line_of c.1)) (flat_map (λ (c : Numbered). single_of (line_of c.1)) lines) in
    let b : length (c ∷ lines) ≡ length lines + 1 = omega arith in
    omega arith

-- a client makes at most one entry a line
client_few : (inside : List Numbered) (client : ℕ) (xs : List New) → JobBegins (job_of inside (owner.Client client)) (plain xs) → length xs ≤ length (lines_by (owner.Client client) inside)
client_few inside client xs (rest, gives) =
    let mine : List Numbered = lines_by (owner.Client client) inside in
    let commands : List Command = flat_map (λ (c : Numbered). single_of (line_of c.1)) mine in
    let a : length (plain xs ++ rest) ≤ length commands = of_commands_few commands (plain xs ++ rest) gives in
    let b : length commands ≤ length mine = commands_few mine in
    let c : length (plain xs ++ rest) ≡ length (plain xs) + length rest = length-append (plain xs) rest in
    let d : length (plain xs) ≡ length xs = length_plain xs in
    omega arith

-- ---- one job's passes of a node

side_few : (n at : ℕ) (pass : Option NodePass) (p : NodePass) (many : NodePass → ℕ) (most : ℕ) → pass ≡ Some p → (at ≡ n → many p ≤ most) → sum_by many (of_node n at pass) ≤ (if eqb at n then most else 0)
side_few n at pass p many most has le = elim (eqb_tells at n) [
  | inl (test, is) ↦ (let a : sum_by many (of_node n at pass) ≡ sum_by many (p ∷ []) = ap (λ (o : Option NodePass). sum_by many (of_node n at o)) has ∙ ap (λ (l : List NodePass). sum_by many l) (one_of_node n at p is) in
      let b : sum_by many (p ∷ []) ≡ many p + sum_by many [] = sum_by-cons many p [] in
      let c : sum_by many [] ≡ 0 = refl in
      let d : (if eqb at n then most else 0) ≡ most = ap (λ (b : Bool). if b then most else 0) test in
      let e : many p ≤ most = le is in
      omega arith)
  | inr (test, other) ↦ (let a : sum_by many (of_node n at pass) ≡ 0 = ap (λ (o : Option NodePass). sum_by many (of_node n at o)) has ∙ ap (λ (l : List NodePass). sum_by many l) (none_of_node n at p test) in
      omega arith)
]

module _ {W : Type 0} (plan : Plan) (h : List NodeEntry) (inside : List Numbered) (count : ℕ) (cells : List NodeCell) (k n : ℕ) (many : NodePass → ℕ) where
  -- where a pass of the node has as many as were made with it, the job's passes have no more than its work allows
  pub job_few : (o : Owner) (t : Task W) (xs : List New) → IsWork plan h count inside o (work_of t) → IsDone plan h inside cells k t xs
      → ((q : NodePass) (ys : List New) → Contains (passes_of n t) q → MadeAt plan h n q ys → many q ≡ length ys) → sum_by many (passes_of n t) ≤ most_at n (work_of t)
  job_few (owner.Client client) (tasks.Client t) xs w d count_of = side_few n t.work.node t.pass d.pass many t.work.lines d.used.has (λ is.
      let a : many d.pass ≡ length xs = count_of d.pass xs (in_of_node n t.work.node t.pass d.pass d.used.has is) (subst (λ (m : ℕ). MadeAt plan h m d.pass xs) is d.done.made) in
      let b : length xs ≤ length (lines_by (owner.Client t.work.client) inside) = client_few inside t.work.client xs (begins_if (job_of inside (owner.Client t.work.client)) xs t.end d.done.gives) in
      let c : length (lines_by (owner.Client t.work.client) inside) ≡ t.work.lines = ap (λ (c : ℕ). length (lines_by (owner.Client c) inside)) w.client_is ∙ sym w.lines_are in
      omega arith)
  job_few (owner.Stream stream) (tasks.Flow t) xs w d count_of =
      let begins = flow_begins_if (FlowJob t.work.stream t.work.turns) xs t.end d.done.gives in
      let first : List NodePass = of_node n t.work.source t.source in
      let second : List NodePass = of_node n t.work.destination t.destination in
      let source : sum_by many first ≤ (if eqb t.work.source n then t.work.turns else 0) = side_few n t.work.source t.source d.from many t.work.turns d.source.has (λ is.
      let made = subst (λ (m : ℕ). MadeAt plan h m d.from (at_source xs)) (sym d.source_is ∙ is) d.done.source in
      let a : many d.from ≡ length (at_source xs) = count_of d.from (at_source xs) (Contains-append_left first second d.from (in_of_node n t.work.source t.source d.from d.source.has is)) made in
      let b : length (at_source xs) ≤ t.work.turns = source_few t.work.stream t.work.turns xs begins in
      omega arith) in
      let destination : sum_by many second ≤ (if eqb t.work.destination n then t.work.turns + 1 else 0) = side_few n t.work.destination t.destination d.to many (t.work.turns + 1) d.destination.has (λ is.
      let made = subst (λ (m : ℕ). MadeAt plan h m d.to (at_destination xs)) (sym d.destination_is ∙ is) d.done.destination in
      let a : many d.to ≡ length (at_destination xs) = count_of d.to (at_destination xs) (Contains-append_right first second d.to (in_of_node n t.work.destination t.destination d.to d.destination.has is)) made in
      let b : length (at_destination xs) ≤ t.work.turns + 1 = destination_few t.work.stream t.work.turns xs begins in
      omega arith) in
      let both : sum_by many (first ++ second) ≡ sum_by many first + sum_by many second = sum_by-append many first second in
      omega arith
  job_few (owner.Client client) (tasks.Flow t) xs w d count_of = absurd w
  job_few (owner.Stream stream) (tasks.Client t) xs w d count_of = absurd w

-- ---- all jobs

pub jobs_few : {W : Type 0} (n : ℕ) (many : NodePass → ℕ) (us : List (Task W)) → ((k : ℕ) (t : Task W) → slice_get us k ≡ Some t → sum_by many (passes_of n t) ≤ most_at n (work_of t))
    → sum_by many (passes_at us n) ≤ all_at (map work_of us) n
jobs_few n many [] each = omega arith
jobs_few n many (u ∷ us) each =
    let here : sum_by many (passes_of n u) ≤ most_at n (work_of u) = each 0 u refl in
    let rest : sum_by many (passes_at us n) ≤ all_at (map work_of us) n = jobs_few n many us (λ k t is. each (suc k) t is) in
    let a : sum_by many (passes_of n u ++ passes_at us n) ≡ sum_by many (passes_of n u) + sum_by many (passes_at us n) = sum_by-append many (passes_of n u) (passes_at us n) in
    let b : sum_by (most_at n) (work_of u ∷ map work_of us) ≡ most_at n (work_of u) + sum_by (most_at n) (map work_of us) = sum_by-cons (most_at n) (work_of u) (map work_of us) in
    omega arith
