-- The states of the nodes, one after the other.
use Rattle.std.proofs.Common.{◌≡◌, ℕ, ◌+◌, ◌<◌, ◌≤◌, List, [], ◌∷◌, ◌++◌, Option, Ok, Err, refl, sym, ◌∙◌, ap, subst, arith, get_or, length, reverse}
use Rattle.std.specs.Io.KnownBytes.{Appends}
use Rattle.std.proofs.lemmas.List.{append-nil, length-append, reverse-append, take_all}
use Rattle.pr_keep.specs.Entries.{HasMessage}
use Rattle.pr_keep.specs.Keeping.{Keeps}
use Rattle.pr_keep.specs.Memory.{IsImage, Memory, state_of}
use Rattle.pr_keep.specs.declared.keep.Keep.{Keep}
use Rattle.pr_node.specs.Calls.{AddsAlone, IsStateEvent}
use Rattle.pr_node.specs.Stored.{NodeMeaning}
use Rattle.pr_script.specs.declared.decl.Decl.{Decl}
use Rattle.pr_script.specs.declared.kind.Kind.TheVariants as kinds
use Rattle.pr_script.specs.Good.{AreGoodDecls}
use Rattle.pr_stamps.specs.Kept.{Kept}
use Rattle.pr_story.specs.Clients.{client_vector}
use Rattle.pr_story.specs.Turns.{standing}
use Rattle.pr_story.specs.declared.entry.Entry.{Entry}
use Rattle.pr_story.specs.declared.event.Event.{Event}
use Rattle.pr_story.specs.declared.event.Event.TheVariants.{State}
use Rattle.pr_story.specs.History.{NodeEntry}
use Rattle.pr_text.specs.Lines.{line_text}
use Rattle.pr_text.specs.Numbers.{nodes_of}
use Rattle.pr_text.specs.Transcripts.{plan_of}
use Rattle.pr_top.specs.Kept.{placed}
use Rattle.pr_top.specs.Progress.{Writes, entry_lines}
use Rattle.pr_top.specs.Resuming.{AreJournals, CanResume, HasStates, IsJournalOf, TellsStates}
use Rattle.pr_top.specs.Served.{node_after}
use Rattle.pr_top.specs.declared.stepping.Halt.{Halt}
use Rattle.pr_top.specs.declared.stepping.Halt.TheVariants as halts
use Rattle.pr_top.proofs.KeptEntries.{placed_append}
use Rattle.pr_top.proofs.Resumed.{no_states, state_more}
use Rattle.pr_top.proofs.Written.{appends_none, appends_then, lines_append, writes_then}

abbrev KeepsAll : Keep Memory → List NodeEntry → Type 0
KeepsAll keep g = Keeps state_of (λ (m : Memory). IsImage m.changes) keep (placed (reverse g))

-- the states of so many nodes were made and kept, and their lines written
pub record HasResumed (ds : List Decl) (h : List NodeEntry) (number : ℕ) (keep : Keep Memory) (a b : Option (List ℕ)) : Type 0 where
  pub states : List NodeEntry
  pub has : HasStates ds h states
  pub many : length states ≡ number
  pub written : Appends a b (entry_lines ds states)
  pub keeps : KeepsAll keep (reverse states ++ h)

pub state_message : (event : Event) → IsStateEvent event → HasMessage event
state_message (State at cut floor precise) is = tt
state_message _ is = absurd is

-- the node that is next in turn made one entry more, its state
pub record IsNext (ds : List Decl) (h : List NodeEntry) (n : ℕ) (m : NodeMeaning) : Type 0 where
  pub low : n < 32
  pub known : n < nodes_of ds
  pub adds : AddsAlone (node_after (plan_of ds) h n) m 0 (λ e. IsStateEvent e.event)
  pub entry : Entry
  pub before : List Entry
  pub here : m.journal ≡ entry ∷ before
  pub state : IsStateEvent entry.event

pub next_known : (ds : List Decl) (h : List NodeEntry) (all : List (Kept Entry)) (n number : ℕ) → AreJournals ds h all → number ≡ n → n < length all → number < nodes_of ds
next_known ds h all n number are at lt = let many = are.many in omega (arith, many, at, lt)

-- the journal is its own
pub next_own : (ds : List Decl) (h : List NodeEntry) (all : List (Kept Entry)) (n number : ℕ) (j : Kept Entry) → AreJournals ds h all → number ≡ n → n < length all → j ≡ get_or all n j → IsJournalOf h number j.items
next_own ds h all n number j are at lt is =
    subst (λ (i : ℕ). IsJournalOf h i j.items) (sym at) (subst (λ (x : Kept Entry). IsJournalOf h n x.items) (sym is) (are.each n j lt))

pub next_made : (ds : List Decl) (h : List NodeEntry) (all : List (Kept Entry)) (n number : ℕ) (j : Kept Entry) (m : NodeMeaning) → AreGoodDecls ds → CanResume ds h → AreJournals ds h all → number ≡ n → n < length all → j ≡ get_or all n j
    → ((g : List NodeEntry) → CanResume ds g → IsJournalOf g number j.items → AddsAlone (node_after (plan_of ds) g number) m 0 (λ e. IsStateEvent e.event)) → IsNext ds h number m
next_made ds h all n number j m good can are at lt is gives =
    let known = next_known ds h all n number are at lt in
    let few : nodes_of ds ≤ 32 = good.few kinds.Node in
    let adds = gives h can (next_own ds h all n number j are at lt is) in
    let a = adds (standing (plan_of ds) h) (client_vector h) in
    record {
      low = omega (arith, known, few);
      known = known;
      adds = adds;
      entry = a.entry;
      before = (node_after (plan_of ds) h number).journal;
      here = a.follows;
      state = a.is;
    }

pub resuming_begins : (ds : List Decl) (h : List NodeEntry) (keep : Keep Memory) (a : Option (List ℕ)) → CanResume ds h → KeepsAll keep h → HasResumed ds h 0 keep a a
resuming_begins ds h keep a can keeps = record { states = []; has = no_states ds h can; many = refl; written = appends_none a; keeps = keeps }

module _ (ds : List Decl) (h : List NodeEntry) (number : ℕ) (keep : Keep Memory) (a b : Option (List ℕ)) (k : HasResumed ds h number keep a b) where
  -- memory ran out
  pub resuming_short : (now : Keep Memory) (failed : Type 0) → TellsStates ds h now failed a b (Err halts.NoMemory)
  resuming_short now failed =
      let lines : List ℕ = entry_lines ds k.states in
      (k.states, k.has, (length lines, subst (λ (t : List ℕ). Appends a b t) (sym (take_all (length lines) lines (omega arith))) k.written))

  pub resuming_ends : (failed : Type 0) → number ≡ nodes_of ds → TellsStates ds h keep failed a b (Ok tt)
  resuming_ends failed all = (k.states, k.has, k.many ∙ all, k.written, k.keeps)

  module _ (m : NodeMeaning) (next : IsNext ds h number m) (e : Entry) (is : e ≡ next.entry) where
    abbrev x : NodeEntry
    x = record { node = number; entry = e }

    abbrev more : List NodeEntry
    more = k.states ++ x ∷ []

    has_more : HasStates ds h more
    has_more = state_more ds h k.states number m e next.before k.has (sym k.many) next.low next.known next.adds (next.here ∙ ap (λ (y : Entry). y ∷ next.before) (sym is))

    line_more : entry_lines ds k.states ++ line_text ds number e.event ≡ entry_lines ds more
    line_more = ap (λ (t : List ℕ). entry_lines ds k.states ++ t) (sym (append-nil (line_text ds number e.event))) ∙ sym (lines_append ds k.states (x ∷ []))

    -- its line was cut off
    pub resuming_cut : (now : Keep Memory) (failed : Type 0) (c : Option (List ℕ)) (halt : Halt) → Writes {X = Unit {0}} (line_text ds number e.event) failed b c (Err halt) → TellsStates ds h now failed a c (Err halt)
    resuming_cut now failed c halt cut =
        (more, has_more, subst (λ (t : List ℕ). Writes {X = Unit {0}} t failed a c (Err halt)) line_more (writes_then (Unit {0}) failed a b c (entry_lines ds k.states) (line_text ds number e.event) (Err halt) k.written cut))

    kept_more : placed (reverse (reverse k.states ++ h)) ++ (number, e) ∷ [] ≡ placed (reverse (reverse more ++ h))
    kept_more =
        sym (placed_append (reverse (reverse k.states ++ h)) (x ∷ []))
        ∙ ap (λ (es : List NodeEntry). placed es) (sym (reverse-append (x ∷ []) (reverse k.states ++ h)))
        ∙ ap (λ (es : List NodeEntry). placed (reverse (es ++ h))) (sym (reverse-append k.states (x ∷ [])))

    -- and it was kept and told
    pub resuming_more : (now : Keep Memory) (c : Option (List ℕ)) → Keeps state_of (λ (d : Memory). IsImage d.changes) now (placed (reverse (reverse k.states ++ h)) ++ (number, e) ∷ []) → Appends b c (line_text ds number e.event) → HasResumed ds h (number + 1) now a c
    resuming_more now c keeps line = record {
      states = more;
      has = has_more;
      many = let l : length more ≡ length k.states + 1 = length-append k.states (x ∷ []) in let n = k.many in omega (arith, l, n);
      written = subst (λ (t : List ℕ). Appends a c t) line_more (appends_then a b c (entry_lines ds k.states) (line_text ds number e.event) k.written line);
      keeps = subst (λ (es : List (ℕ × Entry)). Keeps state_of (λ (d : Memory). IsImage d.changes) now es) kept_more keeps;
    }
