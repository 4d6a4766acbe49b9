-- The nodes of a history, made again, and their states behind it.
use Rattle.std.proofs.Common.{◌≡◌, ℕ, ◌+◌, ◌<◌, ◌≤◌, List, [], ◌∷◌, ◌++◌, refl, sym, ◌∙◌, ap, subst, arith, get_or, length, reverse, rules, append_assoc}
use Rattle.std.specs.Prelude.{Bool, true, false, cond, filter, nat_eq}
use Rattle.std.specs.List.{AllByRecursion}
use Rattle.std.proofs.lemmas.Bool.Decides.{nat_tests}
use Rattle.std.proofs.lemmas.List.{reverse-append}
use Rattle.pr_keep.specs.Entries.{IsKeepable, IsEvent}
use Rattle.pr_inval.specs.declared.msg.Msg.{Msg}
use Rattle.pr_inval.specs.Messages.{IsKind}
use Rattle.pr_names.specs.Span.{Span}
use Rattle.pr_node.specs.Calls.{AddsAlone, IsStateEvent, IsTimeWorn}
use Rattle.pr_node.specs.Rebuilding.{IsOfNode, MayTell}
use Rattle.pr_node.specs.Stored.{NodeMeaning}
use Rattle.pr_node.proofs.Again.{of_node_spelled, tells_again}
use Rattle.pr_script.specs.declared.decl.Decl.{Decl}
use Rattle.pr_script.specs.declared.decl.Decl.TheVariants as decls
use Rattle.pr_script.specs.declared.kind.Kind.TheVariants as kinds
use Rattle.pr_script.specs.Good.{AreGoodDecls, IsGoodDecl}
use Rattle.pr_script.specs.Labels.{is_kind}
use Rattle.pr_sets.specs.Sets.{AreApart}
use Rattle.pr_sim.proofs.JobsInOrder.{all_at}
use Rattle.pr_story.specs.Clients.{client_vector, is_with_needs}
use Rattle.pr_story.specs.Counts.{Counts, IsDeclared, IsHistory}
use Rattle.pr_story.specs.declared.entry.Entry.{Entry}
use Rattle.pr_story.specs.declared.event.Event.{Event}
use Rattle.pr_story.specs.declared.event.Event.TheVariants.{Accepted, State}
use Rattle.pr_story.specs.History.{NodeEntry, Plan, journal}
use Rattle.pr_story.specs.Knowledge.{IsCoveredMark, IsGone, IsNewest, floor_of}
use Rattle.pr_story.specs.History.{current_vector}
use Rattle.pr_story.specs.Lawful.{HasCause, IsOwnLawful, IsPlaced, Valid, last_time}
use Rattle.pr_story.specs.Turns.{is_with_session, standing}
use Rattle.pr_story.proofs.OneMore.{one_more}
use Rattle.pr_story.proofs.Short.{valid_short}
use Rattle.pr_text.specs.Numbers.{counts_of, nodes_of}
use Rattle.pr_text.specs.Transcripts.{no_decl, plan_of, sets_of}
use Rattle.pr_top.specs.Kept.{placed}
use Rattle.pr_top.specs.Outlived.{AreStates}
use Rattle.pr_top.specs.Resuming.{CanResume, HasStates}
use Rattle.pr_top.specs.Served.{node_after}
use Rattle.pr_top.proofs.KeptEntries.{placed_append}

-- ---- what came before

pub history_before : (plan : Plan) (k : Counts) (later h : List NodeEntry) → IsHistory plan k (later ++ h) → IsHistory plan k h
history_before plan k [] h is = is
history_before plan k (e ∷ later) h is = history_before plan k later h (record { valid = is.valid.1; declared = is.declared.1 })

all_split : {A : Type 0} (P : A → Type 0) (xs ys : List A) → AllByRecursion P (xs ++ ys) → AllByRecursion P xs × AllByRecursion P ys
all_split P [] ys all = (tt, all)
all_split P (x ∷ xs) ys all = let rest = all_split P xs ys all.1 in ((all.0, rest.0), rest.1)

keepable_split : (e : NodeEntry) (h : List NodeEntry) → AllByRecursion IsKeepable (placed (reverse (e ∷ h))) → AllByRecursion IsKeepable (placed (reverse h)) × IsKeepable (e.node, e.entry)
keepable_split e h all =
    let both = all_split IsKeepable (placed (reverse h)) (placed (e ∷ []))
    (subst (λ (ps : List (ℕ × Entry)). AllByRecursion IsKeepable ps) (placed_append (reverse h) (e ∷ []))
    (subst (λ (es : List NodeEntry). AllByRecursion IsKeepable (placed es)) (reverse-append (e ∷ []) h) all)) in
    (both.0, both.1.0)

-- ---- a node is made again

taken_kind : (node : ℕ) (event : Event) → IsEvent event → (msg : Msg) (at : List ℕ) → event ≡ Accepted msg at → IsKind msg.kind
taken_kind node event range msg at is = (subst (λ (x : Event). IsEvent x) is range).0.spelled.message.kind

its_time : (h : List NodeEntry) (e : NodeEntry) → last_time (journal (e ∷ h) e.node) ≡ e.entry.time
its_time h e = by (nat_eq e.node e.node) (grind (arith, nat_tests))
  where
    by : (b : Bool) → b ≡ true → last_time (cond b (e.entry ∷ journal h e.node) (journal h e.node)) ≡ e.entry.time
    by true is = refl
    by false is = absurd (cc)

-- its journal is one of which it can be made again
pub journal_told : (plan : Plan) (h : List NodeEntry) (n : ℕ) → Valid plan h → AllByRecursion IsKeepable (placed (reverse h)) → length h ≤ 4611686018427387903 → IsOfNode n (journal h n)
journal_told plan [] n valid keepable few = tt
journal_told plan (e ∷ h) n valid keepable few =
    let both = keepable_split e h keepable in
    by (nat_eq e.node n) refl both.1 (journal_told plan h n valid.1 both.0 (omega (arith, few)))
  where
    by : (b : Bool) → nat_eq e.node n ≡ b → IsKeepable (e.node, e.entry) → IsOfNode n (journal h n) → IsOfNode n (cond b (e.entry ∷ journal h n) (journal h n))
    by false other keepable rest = rest
    by true same keepable rest =
        let eq : e.node ≡ n = grind (arith, nat_tests) in
        let own : IsOfNode e.node (journal h e.node) = subst (λ (m : ℕ). IsOfNode m (journal h m)) (sym eq) rest in
        let short = (valid_short plan (e ∷ h) valid).nodes e.node in
        let time = its_time h e in
        subst (λ (m : ℕ). MayTell m (journal h m) e.entry.event × (e.entry.time ≤ 4611686018427387903) × IsOfNode m (journal h m)) eq (
          tells_again (IsNewest h (current_vector (journal h e.node))) (IsGone h) (IsCoveredMark h (current_vector (journal h e.node)) (floor_of (journal h e.node)))
              (standing plan h) (client_vector h) (plan.sets e.node) e.node (journal h e.node) e.entry.time e.entry.event valid.0.may_come valid.0.in_range
              (taken_kind e.node e.entry.event keepable.spelled.event) (of_node_spelled e.node (journal h e.node) own),
          omega (arith, short, time, few),
          own,
        )

-- it is not worn
pub not_worn : (ds : List Decl) (h : List NodeEntry) (n : ℕ) → CanResume ds h → IsTimeWorn (node_after (plan_of ds) h n) 0 → ⊥
not_worn ds h n can worn =
    let short = (valid_short (plan_of ds) h can.is.valid).nodes n in
    let few = can.few in
    absurd (omega (arith, short, few, worn))

all_filter : {A : Type 0} (P : A → Type 0) (test : A → Bool) (xs : List A) → AllByRecursion P xs → AllByRecursion P (filter test xs)
all_filter P test [] all = tt
all_filter P test (x ∷ xs) all = by (test x) all.0 (all_filter P test xs all.1)
  where
    by : (b : Bool) → P x → AllByRecursion P (filter test xs) → AllByRecursion P (cond b (x ∷ filter test xs) (filter test xs))
    by true here rest = (here, rest)
    by false here rest = rest

sets_good : (ds : List Decl) (d : Decl) → IsGoodDecl ds d → AreApart (sets_of d)
sets_good ds (decls.Node label sets) good = good.2
sets_good ds (decls.Client label node) good = λ i. search rules
sets_good ds (decls.Stream label source dest sub bodies) good = λ i. search rules

-- the sets of a declared node share no name
pub sets_apart : (ds : List Decl) (n : ℕ) → AreGoodDecls ds → n < length (filter (is_kind kinds.Node) ds) → AreApart ((plan_of ds).sets n)
sets_apart ds n good lt =
    sets_good ds (get_or (filter (is_kind kinds.Node) ds) n no_decl)
    (all_at (IsGoodDecl ds) (filter (is_kind kinds.Node) ds) n no_decl (all_filter (IsGoodDecl ds) (is_kind kinds.Node) ds good.each) lt)

-- ---- its state

states_push : (k : ℕ) (states : List NodeEntry) (e : NodeEntry) → AreStates k states → e.node ≡ k + length states → IsStateEvent e.entry.event → AreStates k (states ++ e ∷ [])
states_push k [] e are at is = (let n : e.node ≡ k = omega (arith, at) in n, is, tt)
states_push k (x ∷ states) e are at is = (are.0, are.1, states_push (k + 1) states e are.2 (omega (arith, at)) is)

-- the states of the nodes below tell nothing of this node
state_apart : (k : ℕ) (states h : List NodeEntry) (n : ℕ) → AreStates k states → k + length states ≤ n → journal (reverse states ++ h) n ≡ journal h n
state_apart k [] h n are le = refl
state_apart k (x ∷ states) h n are le =
    ap (λ (es : List NodeEntry). journal (es ++ h) n) (reverse-append (x ∷ []) states)
    ∙ ap (λ (es : List NodeEntry). journal es n) (append_assoc (reverse states) (x ∷ []) h)
    ∙ state_apart (k + 1) states (x ∷ h) n are.2 (omega (arith, le))
    ∙ by (nat_eq x.node n) refl
  where
    by : (b : Bool) → nat_eq x.node n ≡ b → cond b (x.entry ∷ journal h n) (journal h n) ≡ journal h n
    by false other = refl
    by true same = let eq : x.node ≡ n = grind (arith, nat_tests) in let at = are.0 in absurd (omega (arith, eq, at, le))

no_session : (event : Event) → IsStateEvent event → (s : ℕ) → is_with_session event s ≡ false
no_session (State at cut floor precise) is s = refl
no_session _ is s = absurd is

no_needs : (event : Event) → IsStateEvent event → (c : ℕ) → is_with_needs event c ≡ false
no_needs (State at cut floor precise) is c = refl
no_needs _ is c = absurd is

is_placed : (plan : Plan) (h : List NodeEntry) (n : ℕ) (event : Event) → IsStateEvent event → IsPlaced plan h n event
is_placed plan h n (State at cut floor precise) is = tt
is_placed plan h n _ is = absurd is

has_cause : (h : List NodeEntry) (n : ℕ) (event : Event) → IsStateEvent event → HasCause h n event
has_cause h n (State at cut floor precise) is = tt
has_cause h n _ is = absurd is

is_declared : (k : Counts) (event : Event) → IsStateEvent event → IsDeclared k event
is_declared k (State at cut floor precise) is = tt
is_declared k _ is = absurd is

first_is : (e x : Entry) (j i : List Entry) → e ∷ j ≡ x ∷ i → e ≡ x
first_is e x j i same = cc

-- behind the states of the nodes below, this node's is one more
pub state_more : (ds : List Decl) (h states : List NodeEntry) (n : ℕ) (m : NodeMeaning) (e : Entry) (j : List Entry) → HasStates ds h states → n ≡ length states → n < 32 → n < nodes_of ds
    → AddsAlone (node_after (plan_of ds) h n) m 0 (λ x. IsStateEvent x.event) → m.journal ≡ e ∷ j → HasStates ds h (states ++ record { node = n; entry = e } ∷ [])
state_more ds h states n m e j has at low known adds here =
    let plan = plan_of ds in
    let g : List NodeEntry = reverse states ++ h in
    let x : NodeEntry = record { node = n; entry = e } in
    let a = adds (standing plan g) (client_vector g) in
    let same : a.entry ≡ e = first_is a.entry e (journal h n) j (sym a.follows ∙ here) in
    let state : IsStateEvent e.event = subst (λ (y : Entry). IsStateEvent y.event) same a.is in
    let apart : journal g n ≡ journal h n = state_apart 0 states h n has.are (omega (arith, at)) in
    let lawful : IsOwnLawful (standing plan g) (client_vector g) (plan.sets n) n (journal g n) e =
    subst (λ (i : List Entry). IsOwnLawful (standing plan g) (client_vector g) (plan.sets n) n i e) (sym apart)
    (subst (λ (y : Entry). IsOwnLawful (standing plan g) (client_vector g) (plan.sets n) n (journal h n) y) same a.lawful) in
    let valid : Valid plan (x ∷ g) =
    one_more plan g x (standing plan g) (client_vector g) has.is.valid
    (λ s with. absurd (let none = no_session e.event state s in cc))
    (λ c with. absurd (let none = no_needs e.event state c in cc))
    low (is_placed plan g n e.event state) (has_cause g n e.event state) lawful in
    let order : x ∷ g ≡ reverse (states ++ x ∷ []) ++ h = ap (λ (es : List NodeEntry). es ++ h) (sym (reverse-append states (x ∷ []))) in
    record {
      are = states_push 0 states x has.are (omega (arith, at)) state;
      is = subst (λ (es : List NodeEntry). IsHistory plan (counts_of ds) es) order (record { valid = valid; declared = ((known, is_declared (counts_of ds) e.event state), has.is.declared) });
    }

pub no_states : (ds : List Decl) (h : List NodeEntry) → CanResume ds h → HasStates ds h []
no_states ds h can = record { are = tt; is = can.is }

-- the node that was made again is the one that the history left
pub rebuilt_is : (plan : Plan) (h : List NodeEntry) (n : ℕ) (sets : List (List Span)) (j : List Entry) (m : NodeMeaning) → m ≡ record { id = n; sets = sets; journal = j; spent = false } → sets ≡ plan.sets n → j ≡ journal h n → m ≡ node_after plan h n
rebuilt_is plan h n sets j m is own past =
    is ∙ ap (λ (x : List (List Span)). record { id = n; sets = x; journal = j; spent = false }) own
    ∙ ap (λ (x : List Entry). record { id = n; sets = plan.sets n; journal = x; spent = false }) past
