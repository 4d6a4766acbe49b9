-- What one call at the cell of a node makes.
use Rattle.std.proofs.Common.{◌≡◌, ℕ, ◌+◌, ◌≤◌, List, [], ◌∷◌, ◌++◌, length, All, Contains, Result, Ok, Err, IfOk, IfErr, sym, ap, ◌∙◌, subst, drop, take, arith, append-nil}
use Rattle.std.specs.Prelude.{reverse}
use mathlib.Core.List.{head-eq_of_cons-eq, tail-eq_of_cons-eq}
use Rattle.std.proofs.lemmas.List.{reverse-append, reverse-reverse, take-append-drop, length-append, take-append-le, drop-append-le}
use Rattle.std.proofs.lemmas.List.Elements.{All-nil, All-cons, All-head, All-tail}
use Rattle.pr_cell.specs.declared.turn.Turn.{Turn}
use Rattle.pr_cell.specs.Passes.{Grows, IsPassOf, IsTurnOf, held, seen, since}
use Rattle.pr_inval.specs.declared.node_fault.NodeFault.{NodeFault}
use Rattle.pr_inval.specs.declared.node_fault.NodeFault.TheVariants.{NoMemory, Worn}
use Rattle.pr_inval.specs.Standing.{Standing}
use Rattle.pr_names.specs.Span.{Span}
use Rattle.pr_node.specs.Calls.{Adds, IsFault, IsTimeWorn, IsWriteWorn}
use Rattle.pr_node.specs.Stored.{NodeMeaning, Stored, means}
use Rattle.pr_story.specs.declared.entry.Entry.{Entry}
use Rattle.pr_story.specs.History.{NodeEntry, Plan, journal}
use Rattle.pr_story.specs.Lawful.{IsOwnLawful}
use Rattle.pr_crew.specs.declared.phase_node.PhaseNode.{PhaseNode}
use Rattle.pr_crew.specs.declared.story.Story.{Story}
use Rattle.pr_crew.specs.declared.story.Story.TheVariants.{Opened, Made}
use Rattle.pr_crew.specs.Making.{AreOthers, HasFailed, HasMade, HasSeen, IsCellOf, IsFaultFor, IsSameCaller, Makes, NodeCell, NodePass, journal_with, node_with}
use Rattle.pr_crew.specs.Stories.{caller_of, made, stories, stories_of}
use Rattle.pr_crew.proofs.Entries.{made_append, made_others, made_parts, same_opening}

-- ---- the node

-- from a to b the node's journal got these entries, all of one caller
pub record Leaves (k : ℕ) (a b : Stored) (new : List Entry) : Type 0 where
  pub journal : b.journal.items ≡ a.journal.items ++ new
  pub by : All (λ e. e.caller ≡ k) new
  pub id : b.id ≡ a.id
  pub sets : b.stores.gaps.sets ≡ a.stores.gaps.sets

in_order : (xs ys zs : List Entry) → reverse ys ≡ zs ++ reverse xs → ys ≡ xs ++ reverse zs
in_order xs ys zs is =
    sym (reverse-reverse ys) ∙ ap reverse is ∙ reverse-append zs (reverse xs) ∙ ap (λ (l : List Entry). l ++ reverse zs) (reverse-reverse xs)

pub one_left : (sessions : ℕ → Standing) (needs : ℕ → List ℕ) (k : ℕ) (P : Entry → Type 0) (a b : Stored) (adds : Adds (means a) (means b) sessions needs k P) → Leaves k a b (adds.entry ∷ [])
one_left sessions needs k P a b adds = record {
  journal = in_order a.journal.items b.journal.items (adds.entry ∷ []) adds.follows;
  by = All-cons (λ e. e.caller ≡ k) adds.entry [] adds.by (All-nil (λ e. e.caller ≡ k));
  id = adds.same_id;
  sets = adds.same_sets;
}

pub none_left : (k : ℕ) (a b : Stored) (C : Type 0) (fault : NodeFault) → IsFault (means a) (means b) C fault → Leaves k a b []
none_left k a b C NoMemory f = record {
  journal = in_order a.journal.items b.journal.items [] f.same_journal;
  by = All-nil (λ e. e.caller ≡ k);
  id = f.same_id;
  sets = f.same_sets;
}
none_left k a b C (Worn at) f = record {
  journal = in_order a.journal.items b.journal.items [] (ap (λ (m : NodeMeaning). m.journal) f.1);
  by = All-nil (λ e. e.caller ≡ k);
  id = ap (λ (m : NodeMeaning). m.id) f.1;
  sets = ap (λ (m : NodeMeaning). m.sets) f.1;
}

-- whatever a call answers
pub left : {X : Type 0} (sessions : ℕ → Standing) (needs : ℕ → List ℕ) (k : ℕ) (Q : X → Type 0) (P : X → Entry → Type 0) (a b : Stored) (C : Type 0) (r : Result X NodeFault)
    → ((x : X) → Q x → Adds (means a) (means b) sessions needs k (P x)) → IfOk r Q → IfErr r (IsFault (means a) (means b) C) → (new : List Entry) × Leaves k a b new
left sessions needs k Q P a b C (Ok x) adds ok err = let m = adds x ok in (m.entry ∷ [], one_left sessions needs k (P x) a b m)
left sessions needs k Q P a b C (Err fault) adds ok err = ([], none_left k a b C fault err)

-- ---- its cell

pub within : (k : ℕ) (x : PhaseNode) (b : Stored) → ((new : List Entry) × Leaves k x.node b new) → x.opened ≤ length b.journal.items
within k x b (new, l) =
    let w = x.within in
    let e : length b.journal.items ≡ length x.node.journal.items + length new = ap length l.journal ∙ length-append x.node.journal.items new in
    omega (arith, w, e)

-- the node as its cell has it then
told : (k : ℕ) (x : PhaseNode) (b : Stored) (new : List Entry) → Leaves k x.node b new → stories_of b x.opened ≡ stories x ++ made new
told k x b new l =
    let w = x.within in
    let j : b.journal.items ≡ x.node.journal.items ++ new = l.journal in
    let t : take x.opened b.journal.items ≡ take x.opened x.node.journal.items = ap (take x.opened) j ∙ take-append-le x.opened x.node.journal.items new w in
    let d : drop x.opened b.journal.items ≡ drop x.opened x.node.journal.items ++ new = ap (drop x.opened) j ∙ drop-append-le x.opened x.node.journal.items new w in
    (λ i. Opened (l.id i) (l.sets i) (t i) ∷ made (d i)) ∙ ap (λ (ys : List Story). Opened x.node.id x.node.stores.gaps.sets (take x.opened x.node.journal.items) ∷ ys) (made_append (drop x.opened x.node.journal.items) new)

made_by : (k : ℕ) (new : List Entry) → All (λ e. e.caller ≡ k) new → All (λ x. caller_of x ≡ k) (made new)
made_by k [] all = All-nil (λ x. caller_of x ≡ k)
made_by k (e ∷ es) all = All-cons (λ x. caller_of x ≡ k) (Made e) (made es) (All-head (λ e. e.caller ≡ k) e es all) (made_by k es (All-tail (λ e. e.caller ≡ k) e es all))

pub adds_own : (k : ℕ) (x : PhaseNode) (b : Stored) (number : ℕ) (s : List Story) → k ≡ number → stories x ≡ s → ((new : List Entry) × Leaves k x.node b new)
    → (new : List Story) × (stories_of b x.opened ≡ s ++ new) × All (λ e. caller_of e ≡ number) new
adds_own k x b number s is shown (new, l) =
    (made new, told k x b new l ∙ ap (λ (t : List Story). t ++ made new) shown, subst (λ (m : ℕ). All (λ e. caller_of e ≡ m) (made new)) is (made_by k new l.by))

-- ---- what the caller has seen

-- what a pass p saw as its turn t came, with the node x, whose cell was opened at node n in a phase after h
pub record Shown (plan : Plan) (h : List NodeEntry) (n : ℕ) (p : NodePass) (t : Turn PhaseNode Story) (x : PhaseNode) : Type 0 where
  pub before : List Entry
  pub others : List Entry
  pub was : HasSeen p before
  pub seen_is : since t.seat ≡ made (before ++ others)
  pub apart : AreOthers p.number others
  pub id : x.node.id ≡ n
  pub sets : x.node.stores.gaps.sets ≡ plan.sets n
  pub journal_is : reverse x.node.journal.items ≡ journal_with plan h n (before ++ others)

shown : (plan : Plan) (h : List NodeEntry) (n : ℕ) (cell : NodeCell) (p : NodePass) (t : Turn PhaseNode Story) (x : PhaseNode) → IsCellOf plan h n cell → IsPassOf stories cell p → IsTurnOf stories cell t
    → stories x ≡ seen t.seat → Grows caller_of p.seat t.seat → Shown plan h n p t x
shown plan h n cell p t x of pass turn is (more, grown, past) =
    let begun = take x.opened x.node.journal.items in
    let all = drop x.opened x.node.journal.items in
    let opened_t : t.seat.me.0.opening ≡ Opened n (plan.sets n) (reverse (journal h n)) ∷ [] = turn.opening ∙ of.opening in
    let opened_p : p.seat.me.0.opening ≡ Opened n (plan.sets n) (reverse (journal h n)) ∷ [] = pass.opening ∙ of.opening in
    let told : stories x ≡ Opened n (plan.sets n) (reverse (journal h n)) ∷ since t.seat = is ∙ ap (λ (l : List Story). l ++ since t.seat) opened_t in
    let first = same_opening x.node.id n x.node.stores.gaps.sets (plan.sets n) begun (reverse (journal h n)) (head-eq_of_cons-eq told) in
    let rest : made all ≡ since t.seat = tail-eq_of_cons-eq told in
    let grew : Opened n (plan.sets n) (reverse (journal h n)) ∷ since t.seat ≡ Opened n (plan.sets n) (reverse (journal h n)) ∷ (since p.seat ++ more) =
    ap (λ (l : List Story). l ++ since t.seat) (sym opened_t) ∙ grown ∙ ap (λ (l : List Story). (l ++ since p.seat) ++ more) opened_p in
    let parts = made_parts (since p.seat) more all (rest ∙ tail-eq_of_cons-eq grew) in
    record {
      before = parts.0;
      others = parts.1;
      was = parts.2;
      seen_is = sym rest ∙ ap made parts.4;
      apart = made_others p.number (λ e. Contains (held p.seat) (caller_of e) → ⊥) parts.1
          (λ e out same. out (subst (λ (k : ℕ). Contains (held p.seat) k) (pass.number ∙ sym same) pass.own))
          (subst (λ (l : List Story). All (λ e. Contains (held p.seat) (caller_of e) → ⊥) l) parts.3 past);
      id = first.0;
      sets = first.1;
      journal_is = ap reverse (sym (take-append-drop x.opened x.node.journal.items)) ∙ reverse-append begun all
          ∙ (λ i. reverse (parts.4 i) ++ reverse (first.2 i)) ∙ ap (λ (j : List Entry). reverse (parts.0 ++ parts.1) ++ j) (reverse-reverse (journal h n));
    }

-- ---- what the call has made

abbrev pub Adding : List Story → NodePass → Turn PhaseNode Story → Type 0
Adding told q t = (new : List Story) → told ≡ seen t.seat ++ new → since q.seat ≡ since t.seat ++ new

module _ (plan : Plan) (h : List NodeEntry) (n : ℕ) (p q : NodePass) (t : Turn PhaseNode Story) (x : PhaseNode) (b : Stored) (s : Shown plan h n p t x) (told_x : stories x ≡ seen t.seat)
    (caller : IsSameCaller p q) (added : Adding (stories_of b x.opened) q t) where
  now_seen : (k : ℕ) (new : List Entry) → Leaves k x.node b new → since q.seat ≡ made ((s.before ++ s.others) ++ new)
  now_seen k new l =
      added (made new) (told k x b new l ∙ ap (λ (ys : List Story). ys ++ made new) told_x)
      ∙ ap (λ (ys : List Story). ys ++ made new) s.seen_is ∙ sym (made_append (s.before ++ s.others) new)

  one_made : (sessions : ℕ → Standing) (needs : ℕ → List ℕ) (k : ℕ) (P : Entry → Type 0) → k ≡ p.number → Adds (means x.node) (means b) sessions needs k P → HasMade plan h n sessions needs P p q
  one_made sessions needs k P is adds = record {
    before = s.before;
    others = s.others;
    entry = adds.entry;
    was = s.was;
    now = now_seen k (adds.entry ∷ []) (one_left sessions needs k P x.node b adds);
    apart = s.apart;
    same = caller;
    by = adds.by ∙ is;
    early = adds.early;
    lawful = subst (λ (m : ℕ × List (List Span) × List Entry). IsOwnLawful sessions needs m.1 m.0 m.2 adds.entry) (λ i. (s.id i, s.sets i, s.journal_is i)) adds.lawful;
    is = adds.is;
  }

  module _ (Cause : NodeMeaning → Type 0) (alike : (a b : NodeMeaning) → a.journal ≡ b.journal → Cause a → Cause b) where
    cause_for : (fault : NodeFault) → IsFault (means x.node) (means b) (Cause (means x.node)) fault → IsFaultFor (Cause (node_with plan h n (s.before ++ s.others))) fault
    cause_for NoMemory f = tt
    cause_for (Worn at) f = (f.0, alike (means x.node) (node_with plan h n (s.before ++ s.others)) s.journal_is f.2)

    none_made : (k : ℕ) (fault : NodeFault) → IsFault (means x.node) (means b) (Cause (means x.node)) fault → HasFailed plan h n Cause fault p q
    none_made k fault f = record {
      before = s.before;
      others = s.others;
      was = s.was;
      now = now_seen k [] (none_left k x.node b (Cause (means x.node)) fault f) ∙ ap made (append-nil (s.before ++ s.others));
      apart = s.apart;
      same = caller;
      cause = cause_for fault f;
    }

    pub makes_so : {X : Type 0} (sessions : ℕ → Standing) (needs : ℕ → List ℕ) (k : ℕ) (Q : X → Type 0) (P : X → Entry → Type 0) (r : Result X NodeFault) → k ≡ p.number
        → ((v : X) → Q v → Adds (means x.node) (means b) sessions needs k (P v)) → IfOk r Q → IfErr r (IsFault (means x.node) (means b) (Cause (means x.node))) → Makes plan h n sessions needs P Cause p q r
    makes_so sessions needs k Q P (Ok v) is adds ok err = one_made sessions needs k (P v) is (adds v ok)
    makes_so sessions needs k Q P (Err fault) is adds ok err = none_made k fault err

pub makes : {X : Type 0} (plan : Plan) (h : List NodeEntry) (n : ℕ) (cell : NodeCell) (p q : NodePass) (t : Turn PhaseNode Story) (x : PhaseNode) (b : Stored) (Cause : NodeMeaning → Type 0)
    (sessions : ℕ → Standing) (needs : ℕ → List ℕ) (k : ℕ) (Q : X → Type 0) (P : X → Entry → Type 0) (r : Result X NodeFault)
    → IsCellOf plan h n cell → IsPassOf stories cell p → IsTurnOf stories cell t → stories x ≡ seen t.seat → Grows caller_of p.seat t.seat → IsSameCaller p q → Adding (stories_of b x.opened) q t
    → ((a b : NodeMeaning) → a.journal ≡ b.journal → Cause a → Cause b) → k ≡ p.number
    → ((v : X) → Q v → Adds (means x.node) (means b) sessions needs k (P v)) → IfOk r Q → IfErr r (IsFault (means x.node) (means b) (Cause (means x.node))) → Makes plan h n sessions needs P Cause p q r
makes plan h n cell p q t x b Cause sessions needs k Q P r of pass turn is grown caller added alike by adds ok err =
    makes_so plan h n p q t x b (shown plan h n cell p t x of pass turn is grown) is caller added Cause alike sessions needs k Q P r by adds ok err

-- the same of a node whose cell still has it as opened
pub own_of : (x y : PhaseNode) (t : Turn PhaseNode Story) (number : ℕ) → y.opened ≡ x.opened
    → ((new : List Story) × (stories_of y.node x.opened ≡ seen t.seat ++ new) × All (λ e. caller_of e ≡ number) new)
    → (new : List Story) × (stories y ≡ seen t.seat ++ new) × All (λ e. caller_of e ≡ number) new
own_of x y t number same (new, is, all) = (new, ap (stories_of y.node) same ∙ is, all)

pub adding_of : (x y : PhaseNode) (q : NodePass) (t : Turn PhaseNode Story) → y.opened ≡ x.opened → Adding (stories y) q t → Adding (stories_of y.node x.opened) q t
adding_of x y q t same added new is = added new (ap (stories_of y.node) same ∙ is)

pub time_alike : (heard : ℕ) (a b : NodeMeaning) → a.journal ≡ b.journal → IsTimeWorn a heard → IsTimeWorn b heard
time_alike heard a b same worn = subst (λ (j : List Entry). IsTimeWorn (record a { journal = j }) heard) same worn

pub write_alike : (needs : List ℕ) (a b : NodeMeaning) → a.journal ≡ b.journal → IsWriteWorn a needs → IsWriteWorn b needs
write_alike needs a b same worn = subst (λ (j : List Entry). IsWriteWorn (record a { journal = j }) needs) same worn
