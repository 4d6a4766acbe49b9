-- A node pulls what is behind a script.
use Rattle.std.proofs.Common.{◌≡◌, ℕ, ◌+◌, ◌<◌, ◌≤◌, ◌^◌, List, [], ◌∷◌, ◌++◌, Option, None, Some, Result, Ok, Err, inl, inr, refl, sym, ◌∙◌, ap, subst, drop, length, reverse, arith}
use Rattle.std.specs.Prelude.{IfOk}
use Rattle.std.specs.Io.KnownBytes.{Appends, Consumes, prepend_known}
use Rattle.std.proofs.lemmas.List.{length-append, length-reverse, reverse-reverse}
use Rattle.pr_inval.specs.declared.msg.Msg.{Msg}
use Rattle.pr_names.specs.Span.{Span}
use Rattle.pr_node.specs.Stored.{NodeMeaning}
use Rattle.pr_script.specs.declared.script.Script.{Script}
use Rattle.pr_serve.specs.Laws.{StaysClosed, with_entries}
use Rattle.pr_serve.specs.Pulling.{AreTakenBy, after, HasPulled as Read, Pull, Pulled, PullsSo, TookIn, messages}
use Rattle.pr_serve.specs.declared.serve_fault.ServeFault.{ServeFault}
use Rattle.pr_serve.specs.declared.serve_fault.ServeFault.TheVariants as faults
use Rattle.pr_serve.proofs.PulledLaws.{honest_stay_closed, sent_stay_valid}
use Rattle.pr_serve.proofs.TakenIn.{after_reversed, few_messages, took_none}
use Rattle.pr_story.specs.declared.entry.Entry.{Entry}
use Rattle.pr_story.specs.History.{NodeEntry, Plan, journal}
use Rattle.pr_sim.specs.declared.engine.Engine.{Engine}
use Rattle.pr_story.specs.Scripts.{JobAfterJob}
use Rattle.pr_text.specs.Numbers.{counts_of, nodes_of}
use Rattle.pr_text.proofs.Runs.{runs_give}
use Rattle.pr_text.specs.Transcripts.{plan_of}
use Rattle.pr_top.specs.Asked.{streams_to}
use Rattle.pr_top.specs.Pulled.{EndsPull, HasPulled, HasTakenIn, IsPulled, Pulls, pull_at}
use Rattle.pr_top.specs.Progress.{HasCome}
use Rattle.pr_top.specs.Served.{node_after}
use Rattle.pr_top.specs.declared.status.Status.{Status}
use Rattle.pr_top.proofs.AskedRuns.{tells_run}
use Rattle.pr_top.proofs.Coming.{ended}
use Rattle.pr_top.proofs.Promised.{headline}
use Rattle.pr_top.proofs.Written.{risen_then}

-- ---- what was taken in

module _ (nodes : ℕ) (streams : List ℕ) (a b : Pull) where
  -- the node took in some messages, and nothing else
  took_in : (r : Result ℕ ServeFault) → PullsSo nodes streams a b r → (ms : List Msg) × TookIn a.node b.node ms × IfOk r (λ count. (count ≡ length ms) × (count ≤ 67108864))
  took_in (Ok count) (parts, k, is, few, end) =
      let l = few_messages nodes streams parts in (messages parts, k.node, (is, omega (arith, is, few, l)))
  took_in (Err (faults.BadBytes at)) (parts, rest, k, place, below, some, why) = (messages parts, k.node, tt)
  took_in (Err faults.ReadFault) (risen, (parts, rest, k, none)) = (messages parts, k.node, tt)
  took_in (Err faults.WriteFault) none = absurd none
  took_in (Err faults.TooLarge) (parts, rest, more, k, full, some, under, none) = (messages parts, k.node, tt)
  took_in (Err (faults.Worn at)) (is, (parts, f, m, more, framed, wanted, k, worn)) = (messages parts, k.node, tt)
  took_in (Err faults.NoMemory) (parts, rest, k) = (messages parts, k.node, tt)

many_taken : (sets : List (List Span)) (n : ℕ) (j : List Entry) (ms : List Msg) (es : List Entry) → AreTakenBy sets n j ms es → length ms ≡ length es
many_taken sets n j [] [] taken = refl
many_taken sets n j [] (e ∷ es) taken = absurd taken
many_taken sets n j (m ∷ ms) [] taken = absurd taken
many_taken sets n j (m ∷ ms) (e ∷ es) taken = let l = many_taken sets n (e ∷ j) ms es taken.1 in omega (arith, l)

has_taken_in : (plan : Plan) (h : List NodeEntry) (n : ℕ) (ms : List Msg) (es : List Entry) → n < 32 → AreTakenBy (plan.sets n) n (journal h n) ms es → HasTakenIn plan h n es
has_taken_in plan h n ms es few taken = record {
  messages = ms;
  taken = taken;
  sent = λ g valid same were. sent_stay_valid plan g n ms es valid few were (subst (λ (j : List Entry). AreTakenBy (plan.sets n) n j ms es) (sym same) taken);
  honest = λ g valid same are.
      subst (λ (j : List Entry). StaysClosed g j es) same
      (honest_stay_closed plan g n (plan.sets n) ms es valid are (subst (λ (j : List Entry). AreTakenBy (plan.sets n) n j ms es) (sym same) taken));
}

module _ (s : Script) (h : List NodeEntry) (n : ℕ) (left : Option (List ℕ)) (from : ℕ) (left_now : Option (List ℕ)) (now : ℕ) (then : NodeMeaning) (few : n < 32) where
  abbrev before : Pull
  before = pull_at left from (node_after (plan_of s.decls.list) h n)

  abbrev behind : Pull
  behind = pull_at left_now now then

  pub pulls_made : (end : Result ℕ ServeFault) → PullsSo (nodes_of s.decls.list) (streams_to s.decls.list n) before behind end
      → (es : List Entry) × Pulls s h n left from left_now now then es end
  pulls_made end k =
      let took = took_in (nodes_of s.decls.list) (streams_to s.decls.list n) before behind end k in
      let es = took.1.entries in
      let many = many_taken ((plan_of s.decls.list).sets n) n (journal h n) took.0 es took.1.taken in (
        es,
        record {
          pulls = k;
          journal_is = took.1.journal;
          took_in = has_taken_in (plan_of s.decls.list) h n took.0 es few took.1.taken;
          count_is = counted took.0 es end took.2 many;
        },
      )
    where
      counted : (ms : List Msg) (es : List Entry) (r : Result ℕ ServeFault) → IfOk r (λ count. (count ≡ length ms) × (count ≤ 67108864)) → length ms ≡ length es → IfOk r (λ count. count ≡ length es)
      counted ms es (Ok count) is same = is.0 ∙ same
      counted ms es (Err fault) is same = tt

-- nothing was pulled, for want of memory
pub nothing_pulled : (nodes : ℕ) (streams ahead : List ℕ) (left : Option (List ℕ)) (from : ℕ) (node : NodeMeaning) → PullsSo nodes streams (pull_at (prepend_known ahead left) from node) (pull_at left from node) (Err faults.NoMemory)
nothing_pulled nodes streams ahead left from node = ([], ahead, record { wanted = tt; read = lost left; node = took_none node })
  where
    lost : (a : Option (List ℕ)) → Consumes (prepend_known ahead a) a ahead
    lost None = tt
    lost (Some x) = refl

-- ---- the source's faults, counted from before

module _ (nodes : ℕ) (streams : List ℕ) (left : Option (List ℕ)) (node : NodeMeaning) (x y : ℕ) (le : x ≤ y) (b : Pull) where
  read_from : (parts : List Pulled) (rest : List ℕ) → Read nodes streams (pull_at left y node) b parts rest → Read nodes streams (pull_at left x node) b parts rest
  read_from parts rest k = record { wanted = k.wanted; read = k.read; node = k.node }

  pulls_from : (r : Result ℕ ServeFault) → PullsSo nodes streams (pull_at left y node) b r → PullsSo nodes streams (pull_at left x node) b r
  pulls_from (Ok count) (parts, k, is, few, end) = (parts, read_from parts [] k, is, few, end)
  pulls_from (Err (faults.BadBytes at)) (parts, rest, k, place, below, some, why) = (parts, rest, read_from parts rest k, place, below, some, why)
  pulls_from (Err faults.ReadFault) (risen, (parts, rest, k, none)) = (risen_then x y b.faults le risen, (parts, rest, read_from parts rest k, none))
  pulls_from (Err faults.WriteFault) none = absurd none
  pulls_from (Err faults.TooLarge) (parts, rest, more, k, full, some, under, none) = (parts, rest, more, read_from parts _ k, full, some, under, none)
  pulls_from (Err (faults.Worn at)) (is, (parts, f, m, more, framed, wanted, k, worn)) = (is, (parts, f, m, more, framed, wanted, read_from parts _ k, worn))
  pulls_from (Err faults.NoMemory) (parts, rest, k) = (parts, rest, read_from parts rest k)

pub ends_from : (result : Status) (s : Script) (n : ℕ) (left : Option (List ℕ)) (x y : ℕ) (left_now : Option (List ℕ)) (now : ℕ) (failed : Type 0) (a b : Option (List ℕ)) → x ≤ y
    → EndsPull result s n left y left_now now failed a b → EndsPull result s n left x left_now now failed a b
ends_from result s n left x y left_now now failed a b le (inr stopped) = inr stopped
ends_from result s n left x y left_now now failed a b le (inl k) = inl (record {
  h = k.h;
  headline = k.headline;
  whole = k.whole;
  then = k.then;
  entries = k.entries;
  end = k.end;
  pulls = record {
    pulls = pulls_from (nodes_of s.decls.list) (streams_to s.decls.list n) left (node_after (plan_of s.decls.list) k.h n) x y le (pull_at left_now now k.then) k.end k.pulls.pulls;
    journal_is = k.pulls.journal_is;
    took_in = k.pulls.took_in;
    count_is = k.pulls.count_is;
  };
  text = k.text;
  written = k.written;
  told = k.told;
})

-- ---- the call

pub has_pulled : (result : Status) (s : Script) (h : List NodeEntry) (e : Engine) (unmet : Option ℕ) (n : ℕ) (left : Option (List ℕ)) (from : ℕ) (left_now : Option (List ℕ)) (now : ℕ) (failed : Type 0) (a b : Option (List ℕ)) (then : NodeMeaning) (es : List Entry) (end : Result ℕ ServeFault)
    → HasCome JobAfterJob s [] h e unmet → Pulls s h n left from left_now now then es end → (text : List ℕ) × IsPulled result end failed s (with_entries n es h) text × Appends a b text
    → HasPulled result s n left from left_now now failed a b
has_pulled result s h e unmet n left from left_now now failed a b then es end k pulls (text, written, told) =
    let all = tells_run s h e unmet k in
    record {
      h = h;
      headline = headline (plan_of s.decls.list) (counts_of s.decls.list) h (record { valid = all.told.valid; declared = all.speaks });
      whole = runs_give JobAfterJob s h unmet (ended JobAfterJob s h e unmet k);
      then = then;
      entries = es;
      end = end;
      pulls = pulls;
      text = text;
      written = written;
      told = told;
    }

-- the new entries come last in the journal's list
pub entries_within : (j k es : List Entry) → k ≡ after es j → length j ≤ length k
entries_within j k es grew =
    let l = ap (λ (xs : List Entry). length xs) (ap (λ (xs : List Entry). reverse xs) grew ∙ after_reversed es j) in
    let m = length-append (reverse j) es in
    let n = length-reverse k in
    let o = length-reverse j in
    omega (arith, l, m, n, o)

pub entries_new : (j k es : List Entry) (from : ℕ) → k ≡ after es j → from ≡ length j → drop from (reverse k) ≡ es
entries_new j k es from grew is =
    ap (λ (n : ℕ). drop n (reverse k)) (is ∙ sym (length-reverse j)) ∙ ap (λ (xs : List Entry). drop (length (reverse j)) xs) (ap (λ (xs : List Entry). reverse xs) grew ∙ after_reversed es j) ∙ past (reverse j)
  where
    past : (xs : List Entry) → drop (length xs) (xs ++ es) ≡ es
    past [] = refl
    past (x ∷ xs) = past xs

pub entries_of : (items j : List Entry) (from : ℕ) → reverse items ≡ j → drop from items ≡ drop from (reverse j)
entries_of items j from is = ap (λ (xs : List Entry). drop from xs) (sym (reverse-reverse items) ∙ ap (λ (xs : List Entry). reverse xs) is)

pub items_long : (items j : List Entry) → reverse items ≡ j → length items ≡ length j
items_long items j is = sym (length-reverse items) ∙ ap (λ (xs : List Entry). length xs) is

-- no pull ends as a write does
pub never_written : (s : Script) (h : List NodeEntry) (n : ℕ) (left : Option (List ℕ)) (from : ℕ) (left_now : Option (List ℕ)) (now : ℕ) (then : NodeMeaning) (es : List Entry) (end : Result ℕ ServeFault) → Pulls s h n left from left_now now then es end → end ≡ Err faults.WriteFault → ⊥
never_written s h n left from left_now now then es end k is =
    subst (λ (r : Result ℕ ServeFault). PullsSo (nodes_of s.decls.list) (streams_to s.decls.list n) (pull_at left from (node_after (plan_of s.decls.list) h n)) (pull_at left_now now then) r) is k.pulls

-- the lines can be counted
pub lines_fit : (s : Script) (h : List NodeEntry) (n : ℕ) (left : Option (List ℕ)) (from : ℕ) (left_now : Option (List ℕ)) (now : ℕ) (then : NodeMeaning) (es : List Entry) (end : Result ℕ ServeFault) (lines : ℕ) → Pulls s h n left from left_now now then es end
    → lines ≤ 9223372036854776159 → IfOk end (λ count. lines + count < 2 ^ 64)
lines_fit s h n left from left_now now then es end lines k few =
    by _ end (took_in (nodes_of s.decls.list) (streams_to s.decls.list n) (pull_at left from (node_after (plan_of s.decls.list) h n)) (pull_at left_now now then) end k.pulls).2
  where
    by : (ms : List Msg) (r : Result ℕ ServeFault) → IfOk r (λ count. (count ≡ length ms) × (count ≤ 67108864)) → IfOk r (λ count. lines + count < 2 ^ 64)
    by ms (Ok count) is = omega (arith, few, is.1)
    by ms (Err fault) is = tt
