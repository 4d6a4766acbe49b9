-- One call of one node, and what the engine stands for then.
use Rattle.std.proofs.Common.{◌≡◌, ◌≢◌, ◌⊎◌, ℕ, ◌<◌, ◌≤◌, List, [], ◌∷◌, ◌++◌, inl, inr, refl, sym, ◌∙◌, ap, subst, cond, nat_eq, length, get_or, set, arith, reverse}
use Rattle.std.specs.Prelude.{true, false, Bool, IsTrue, Some, None, Option}
use Rattle.std.proofs.lemmas.List.{get_or_default, get_or_past, get_or-set_same, get_or-set_other, length-set, length-reverse}
use Rattle.std.proofs.lemmas.Bool.Decides.{Decides-eqb}
use Rattle.std.proofs.lemmas.Bool.{cases_lt}
use Rattle.pr_inval.specs.declared.msg.Msg.{Msg}
use Rattle.pr_inval.specs.Standing.{Standing}
use Rattle.pr_names.specs.Span.{Span}
use Rattle.pr_node.specs.Calls.{Adds}
use Rattle.pr_node.specs.Stored.{Stored, means}
use Rattle.pr_story.specs.declared.entry.Entry.{Entry}
use Rattle.pr_story.specs.History.{Plan, NodeEntry, journal, Sends, WasSent}
use Rattle.pr_story.specs.Clients.{is_with_needs, client_vector}
use Rattle.pr_story.specs.Lawful.{HasCause, IsOwnLawful, IsPlaced, Valid}
use Rattle.pr_story.specs.Laws.{StandsFor}
use Rattle.pr_story.specs.Turns.{is_with_session}
use Rattle.pr_story.proofs.OneMore.{one_more}
use Rattle.pr_inval.specs.Messages.{IsMessage}
use Rattle.pr_story.specs.Places.{places_of}
use Rattle.pr_sim.specs.Running.{AreNodes, IsNode, Stands}
use Rattle.pr_sim.specs.declared.engine.Engine.{Engine}

-- ---- the journals

pub journal_here : (n : ℕ) (entry : Entry) (h : List NodeEntry) → journal (record { node = n; entry = entry } ∷ h) n ≡ entry ∷ journal h n
journal_here n entry h = ap (λ (b : Bool). cond b (entry ∷ journal h n) (journal h n)) ((Decides-eqb n n).1 refl)

pub journal_there : (n k : ℕ) (entry : Entry) (h : List NodeEntry) → n ≢ k → journal (record { node = n; entry = entry } ∷ h) k ≡ journal h k
journal_there n k entry h other = by (nat_eq n k) (Decides-eqb n k).0
  where
    by : (b : Bool) → (IsTrue b → n ≡ k) → cond b (entry ∷ journal h k) (journal h k) ≡ journal h k
    by true is = absurd (other (is refl))
    by false is = refl

pub some_is : {X : Type 0} (x y : X) (o : Option X) → o ≡ Some x → o ≡ Some y → x ≡ y
some_is x y o a b = let e : Some x ≡ Some y = sym a ∙ b in cc

-- ---- the nodes

abbrev pub put : {X : Type 0} → List (Option X) → ℕ → X → List (Option X)
put nodes n m = set nodes n (Some m)

pub length_put : {X : Type 0} (nodes : List (Option X)) (n : ℕ) (m : X) → length (put nodes n m) ≡ length nodes
length_put nodes n m = length-set nodes n (Some m)

pub here : {X : Type 0} (nodes : List (Option X)) (n : ℕ) (m : X) → n < length nodes → get_or (put nodes n m) n None ≡ Some m
here nodes n m lt = get_or-set_same nodes n (Some m) None lt

pub there : {X : Type 0} (nodes : List (Option X)) (n k : ℕ) (m : X) → k ≢ n → get_or (put nodes n m) k None ≡ get_or nodes k None
there nodes n k m other = get_or-set_other nodes n k (Some m) None other

-- what is read of the place is what stands there
pub stood : {X : Type 0} (nodes : List (Option X)) (n : ℕ) (read : Option X) (m : X) → n < length nodes → read ≡ get_or nodes n read → read ≡ Some m → get_or nodes n None ≡ Some m
stood nodes n read m lt of is = get_or_default nodes n None read lt ∙ sym of ∙ is

-- so it is not nothing where something does
pub never_empty : {X : Type 0} (nodes : List (Option X)) (n : ℕ) (read : Option X) (x : X) → n < length nodes → read ≡ get_or nodes n read → get_or nodes n None ≡ Some x → read ≡ None → ⊥
never_empty nodes n read x lt of was none = let e : None ≡ Some x = sym none ∙ of ∙ get_or_default nodes n read None lt ∙ was in cc

pub is_node_of : (plan : Plan) (h : List NodeEntry) (nodes : List (Option Stored)) (n : ℕ) (m : Stored) → AreNodes plan h nodes → n < length nodes → get_or nodes n None ≡ Some m → IsNode plan h n m
is_node_of plan h nodes n m are lt was =
    let x = are.each n lt in
    subst (λ (y : Stored). IsNode plan h n y) (some_is x.0 m (get_or nodes n None) x.1 was) x.2

nodes_more : (plan : Plan) (h : List NodeEntry) (nodes : List (Option Stored)) (n : ℕ) (entry : Entry) (m : Stored) → AreNodes plan h nodes → n < length nodes
    → IsNode plan (record { node = n; entry = entry } ∷ h) n m → AreNodes plan (record { node = n; entry = entry } ∷ h) (put nodes n m)
nodes_more plan h nodes n entry m are lt now = record {
  few = let e = length_put nodes n m in let f : length nodes ≤ 32 = are.few in omega arith;
  each = λ k within. each k (let e = length_put nodes n m in omega arith) (nat_eq k n) (Decides-eqb k n);
}
  where
    each : (k : ℕ) → k < length nodes → (b : Bool) → (IsTrue b → k ≡ n) × (k ≡ n → IsTrue b) → (x : Stored) × (get_or (put nodes n m) k None ≡ Some x) × IsNode plan (record { node = n; entry = entry } ∷ h) k x
    each k within true is =
        let same : n ≡ k = sym (is.0 refl) in
        subst (λ (i : ℕ). (x : Stored) × (get_or (put nodes n m) i None ≡ Some x) × IsNode plan (record { node = n; entry = entry } ∷ h) i x) same (m, here nodes n m lt, now)
    each k within false is =
        let other : k ≢ n = λ e. let t : false ≡ true = is.1 e in absurd (cc) in
        let x = are.each k within in (
          x.0,
          there nodes n k m other ∙ x.1,
          record {
            id = x.2.id;
            sets = x.2.sets;
            journal_is = x.2.journal_is ∙ sym (journal_there n k entry h (λ e. other (sym e)));
            works = x.2.works;
          },
        )

pub within_of : {X : Type 0} (nodes : List (Option X)) (n : ℕ) (m : X) → get_or nodes n None ≡ Some m → n < length nodes
within_of nodes n m was = by (cases_lt n (length nodes))
  where
    by : (n < length nodes) ⊎ (length nodes ≤ n) → n < length nodes
    by (inl within) = within
    by (inr past) = let none : get_or nodes n None ≡ None = get_or_past nodes n None past in absurd (cc)

pub place_len : (a b : List Entry) → reverse a ≡ reverse b → length a ≡ length b
place_len a b e = sym (length-reverse a) ∙ ap (λ (xs : List Entry). length xs) e ∙ length-reverse b

-- ---- one entry more

-- from e to f node n was m and is now x, and the place of a new entry of its journal was noted
pub record HasMoved (e f : Engine) (n : ℕ) (m x : Stored) (place : ℕ) : Type 0 where
  pub within : n < length e.nodes.items
  pub was : get_or e.nodes.items n None ≡ Some m
  pub nodes : f.nodes.items ≡ put e.nodes.items n x
  pub place_is : place ≡ length m.journal.items
  pub noted : f.history.items ≡ e.history.items ++ (n, place) ∷ []

-- what is kept of the nodes and the history
pub record Base (plan : Plan) (h : List NodeEntry) (e : Engine) : Type 0 where
  pub valid : Valid plan h
  pub grammar : (msg : Msg) → WasSent h msg → IsMessage msg
  pub places_are : e.history.items ≡ places_of h
  pub nodes : AreNodes plan h e.nodes.items

module _ (plan : Plan) (h : List NodeEntry) (e f : Engine) (k : Stands plan h e) (n : ℕ) (m x : Stored) (place : ℕ) (moved : HasMoved e f n m x place)
    (sessions : ℕ → Standing) (needs : ℕ → List ℕ) (caller : ℕ) (P : Entry → Type 0) (a : Adds (means m) (means x) sessions needs caller P) where
  abbrev pub made : NodeEntry
  made = record { node = n; entry = a.entry }

  was_node : IsNode plan h n m
  was_node = is_node_of plan h e.nodes.items n m k.nodes moved.within moved.was

  pub is_node : IsNode plan (made ∷ h) n x
  is_node = record {
    id = a.same_id ∙ was_node.id;
    sets = a.same_sets ∙ was_node.sets;
    journal_is = a.follows ∙ ap (λ (j : List Entry). a.entry ∷ j) was_node.journal_is ∙ sym (journal_here n a.entry h);
    works = a.works;
  }

  pub place_of : place ≡ length (journal h n)
  place_of = moved.place_is ∙ sym (length-reverse m.journal.items) ∙ ap (λ (j : List Entry). length j) was_node.journal_is

  pub own_lawful : IsOwnLawful sessions needs (plan.sets n) n (journal h n) a.entry
  own_lawful =
      subst (λ (j : List Entry). IsOwnLawful sessions needs (plan.sets n) n j a.entry) was_node.journal_is
      (subst (λ (i : ℕ). IsOwnLawful sessions needs (plan.sets n) i (means m).journal a.entry) was_node.id
      (subst (λ (sets : List (List Span)). IsOwnLawful sessions needs sets m.id (means m).journal a.entry) was_node.sets a.lawful))

  pub journal_then : (means x).journal ≡ a.entry ∷ journal h n
  journal_then = a.follows ∙ ap (λ (j : List Entry). a.entry ∷ j) was_node.journal_is

  -- the call made one lawful entry at its place and with its cause
  pub one_step : ((s : ℕ) → IsTrue (is_with_session a.entry.event s) → StandsFor plan h s (sessions s))
      → ((c : ℕ) → IsTrue (is_with_needs a.entry.event c) → needs c ≡ client_vector h c)
      → IsPlaced plan h n a.entry.event → HasCause h n a.entry.event
      → ((msg : Msg) → Sends a.entry.event msg → IsMessage msg)
      → Base plan (made ∷ h) f
  one_step stands seen placed cause sends = record {
    valid = one_more plan h made sessions needs k.valid stands seen
        (let few : length e.nodes.items ≤ 32 = k.nodes.few in let within : n < length e.nodes.items = moved.within in omega arith)
        placed cause own_lawful;
    grammar = λ msg was. elim was [ inl now ↦ sends msg now | inr old ↦ k.grammar msg old ];
    places_are = moved.noted ∙ ap (λ (ps : List (ℕ × ℕ)). ps ++ (n, place) ∷ []) k.places_are ∙ ap (λ (i : ℕ). places_of h ++ (n, i) ∷ []) place_of;
    nodes = subst (λ (nodes : List (Option Stored)). AreNodes plan (made ∷ h) nodes) (sym moved.nodes) (nodes_more plan h e.nodes.items n a.entry x k.nodes moved.within is_node);
  }
