-- An engine made declaration by declaration.
use Rattle.std.proofs.Common.{◌≡◌, ◌⊎◌, ℕ, ◌<◌, ◌≤◌, ◌+◌, List, [], ◌∷◌, ◌++◌, inl, inr, sym, ◌∙◌, ap, subst, length, get_or, take, drop, arith, zero, suc, length-append}
use Rattle.std.specs.Prelude.{true, false, Bool, Some, None, filter, cond}
use Rattle.std.specs.List.{AllByRecursion}
use Rattle.std.proofs.lemmas.List.{append-nil, get_or_append_left, get_or_past, get_or_push, length-map}
use Rattle.std.proofs.lemmas.List.{take-append-drop}
use Rattle.std.proofs.lemmas.List.Elements.{filter-append}
use Rattle.std.proofs.lemmas.List.Filters.{length-filter_more}
use Rattle.std.proofs.lemmas.Bool.{cases_lt}
use Rattle.pr_inval.specs.Standing.{Remembered}
use Rattle.pr_node.specs.Scanning.{IsScanOf, Scanned}
use Rattle.pr_node.specs.Stored.{NodeMeaning, Stored}
use Rattle.pr_node.proofs.Scanning.{scan_fresh}
use Rattle.pr_story.specs.Turns.{standing}
use Rattle.pr_script.specs.declared.decl.Decl.{Decl}
use Rattle.pr_script.specs.declared.decl.Decl.TheVariants as decls
use Rattle.pr_script.specs.declared.kind.Kind.{Kind}
use Rattle.pr_script.specs.declared.kind.Kind.TheVariants as kinds
use Rattle.pr_script.specs.Good.{AreGoodDecls, IsGoodDecl}
use Rattle.pr_script.specs.Labels.{count_of, is_kind, label_of, labels_of}
use Rattle.pr_text.specs.Transcripts.{home_of, no_decl, stream_of}
use Rattle.pr_vectors.specs.Vector.{zero_vector}
use Rattle.pr_sim.specs.Making.{Each, HasRoom, IsMadeOf, IsNew, IsNewNode, declared_of}
use Rattle.pr_merge.specs.Holding.{IsSession}
use Rattle.pr_sim.specs.Running.{IsNode, IsRunning}
use Rattle.pr_sim.proofs.JobsInOrder.{all_at}
use Rattle.pr_sim.proofs.Step.{some_is}
use Rattle.pr_sim.specs.declared.engine.Engine.{Engine}

-- ---- one declaration more

pub each_more : {X : Type 0} (P : ℕ → Decl → X → Type 0) (ds : List Decl) (xs : List X) (decl : Decl) (x : X) → Each P ds xs → P (length ds) decl x → Each P (ds ++ decl ∷ []) (xs ++ x ∷ [])
each_more {X = X} P ds xs decl x k is = record {
  many = length-append xs (x ∷ []) ∙ ap (λ (n : ℕ). n + 1) k.many ∙ sym (length-append ds (decl ∷ []));
  at = λ n d lt. by n d (cases_lt n (length ds)) (let e : length (ds ++ decl ∷ []) ≡ length ds + 1 = length-append ds (decl ∷ []) in omega arith);
}
  where
    by : (n : ℕ) (d : X) → (n < length ds) ⊎ (length ds ≤ n) → n ≤ length ds → P n (get_or (ds ++ decl ∷ []) n no_decl) (get_or (xs ++ x ∷ []) n d)
    by n d (inl lt) le =
        let m : length xs ≡ length ds = k.many in
        subst (λ (y : Decl). P n y (get_or (xs ++ x ∷ []) n d)) (sym (get_or_append_left ds (decl ∷ []) no_decl n lt))
        (subst (λ (y : X). P n (get_or ds n no_decl) y) (sym (get_or_append_left xs (x ∷ []) d n (omega arith))) (k.at n d lt))
    by n d (inr ge) le =
        let m : length xs ≡ length ds = k.many in
        let e : length ds ≡ n = omega arith in
        subst (λ (y : Decl). P n y (get_or (xs ++ x ∷ []) n d)) (sym (get_or_push ds decl no_decl n e))
        (subst (λ (y : X). P n decl y) (sym (get_or_push xs x d n (omega arith))) (subst (λ (i : ℕ). P i decl x) e is))

-- what a declaration of another kind leaves
pub each_same : {X : Type 0} (P : ℕ → Decl → X → Type 0) (k : Kind) (ds : List Decl) (decl : Decl) (xs : List X) → is_kind k decl ≡ false → Each P (filter (is_kind k) ds) xs → Each P (filter (is_kind k) (ds ++ decl ∷ [])) xs
each_same P k ds decl xs off each =
    subst (λ (ys : List Decl). Each P ys xs)
    (sym (filter-append (is_kind k) ds (decl ∷ []) ∙ ap (λ (b : Bool). filter (is_kind k) ds ++ cond b (decl ∷ []) []) off ∙ append-nil (filter (is_kind k) ds))) each

-- and what one of this kind adds
pub each_then : {X : Type 0} (P : ℕ → Decl → X → Type 0) (k : Kind) (ds : List Decl) (decl : Decl) (xs ys : List X) (x : X) → is_kind k decl ≡ true → ys ≡ xs ++ x ∷ [] → Each P (filter (is_kind k) ds) xs
    → P (length xs) decl x → Each P (filter (is_kind k) (ds ++ decl ∷ [])) ys
each_then {X = X} P k ds decl xs ys x on then each is =
    subst (λ (zs : List X). Each P (filter (is_kind k) (ds ++ decl ∷ [])) zs) (sym then)
    (subst (λ (zs : List Decl). Each P zs (xs ++ x ∷ []))
    (sym (filter-append (is_kind k) ds (decl ∷ []) ∙ ap (λ (b : Bool). filter (is_kind k) ds ++ cond b (decl ∷ []) []) on))
    (each_more P (filter (is_kind k) ds) xs decl x each (subst (λ (n : ℕ). P n decl x) each.many is)))

-- ---- a new engine runs

pub count_is : (k : Kind) (ds : List Decl) → count_of k ds ≡ length (filter (is_kind k) ds)
unfolding labels_of
count_is k ds = length-map (filter (is_kind k) ds) label_of

module _ (ds : List Decl) where
  abbrev nodes : ℕ
  nodes = count_of kinds.Node ds

  -- each client has a node
  homes_are : (xs : List Decl) → AllByRecursion (IsGoodDecl ds) xs → (c : ℕ) → c < length (filter (is_kind kinds.Client) xs) → home_of (get_or (filter (is_kind kinds.Client) xs) c no_decl) < nodes
  homes_are [] good c lt = absurd (omega arith)
  homes_are (decls.Node label sets ∷ xs) good c lt = homes_are xs good.1 c lt
  homes_are (decls.Client label node ∷ xs) good zero lt = good.0
  homes_are (decls.Client label node ∷ xs) good (suc c) lt = homes_are xs good.1 c (omega arith)
  homes_are (decls.Stream label source dest sub bodies ∷ xs) good c lt = homes_are xs good.1 c lt

  -- and each stream two
  ends_are : (xs : List Decl) → AllByRecursion (IsGoodDecl ds) xs → (s : ℕ) → s < length (filter (is_kind kinds.Stream) xs)
      → ((stream_of (get_or (filter (is_kind kinds.Stream) xs) s no_decl)).source < nodes) × ((stream_of (get_or (filter (is_kind kinds.Stream) xs) s no_decl)).destination < nodes)
  ends_are [] good s lt = absurd (omega arith)
  ends_are (decls.Node label sets ∷ xs) good s lt = ends_are xs good.1 s lt
  ends_are (decls.Client label node ∷ xs) good s lt = ends_are xs good.1 s lt
  ends_are (decls.Stream label source dest sub bodies ∷ xs) good zero lt = (good.0.0, good.0.1)
  ends_are (decls.Stream label source dest sub bodies ∷ xs) good (suc s) lt = ends_are xs good.1 s (omega arith)

-- an engine made of good declarations is running, and has done nothing
pub made_runs : (ds : List Decl) (e : Engine) → AreGoodDecls ds → IsMadeOf ds e → IsRunning (declared_of ds) (λ s. false) [] e
made_runs ds e good k =
    let nodes : length e.nodes.items ≡ count_of kinds.Node ds = k.nodes.many ∙ sym (count_is kinds.Node ds) in
    let clients : length e.homes.items ≡ count_of kinds.Client ds = k.homes.many ∙ sym (count_is kinds.Client ds) in
    let streams : length e.sessions.items ≡ count_of kinds.Stream ds = k.sessions.many ∙ sym (count_is kinds.Stream ds) in
    record {
      stands = record {
        valid = tt;
        grammar = λ msg was. absurd was;
        places_are = k.history;
        nodes = record {
          few = let l : count_of kinds.Node ds ≤ 32 = good.few kinds.Node in omega arith;
          each = λ n lt. node n (k.nodes.at n None (let m : length e.nodes.items ≡ length (filter (is_kind kinds.Node) ds) = k.nodes.many in omega arith));
        };
        sessions = λ s lt. session s (k.sessions.at s None (let m : length e.sessions.items ≡ length (filter (is_kind kinds.Stream) ds) = k.sessions.many in omega arith));
        clients = record {
          many = k.seen.many ∙ sym k.homes.many;
          home = λ c lt. k.homes.at c 0 (homes_within c lt);
          at = λ c lt. subst (λ (i : ℕ). get_or e.homes.items c 0 < i) (sym nodes)
              (subst (λ (i : ℕ). i < count_of kinds.Node ds) (sym (k.homes.at c 0 (homes_within c lt))) (homes_are ds ds good.each c (homes_within c lt)));
          seen_is = λ c lt. k.seen.at c zero_vector (homes_within c lt);
        };
        routes = record {
          source = λ s d lt. (k.routes.at s d (routes_within s lt)).0;
          destination = λ s d lt. (k.routes.at s d (routes_within s lt)).1;
          from = λ s d lt. subst (λ (i : ℕ). (get_or e.routes.items s d).source < i) (sym nodes)
              (subst (λ (i : ℕ). i < count_of kinds.Node ds) (sym (k.routes.at s d (routes_within s lt)).0) (ends_are ds ds good.each s (routes_within s lt)).0);
          to = λ s d lt. subst (λ (i : ℕ). (get_or e.routes.items s d).destination < i) (sym nodes)
              (subst (λ (i : ℕ). i < count_of kinds.Node ds) (sym (k.routes.at s d (routes_within s lt)).1) (ends_are ds ds good.each s (routes_within s lt)).1);
        };
        sent = λ s d lt. k.sent.at s d (let m : length e.sent.items ≡ length (filter (is_kind kinds.Stream) ds) = k.sent.many in omega arith);
        scans = λ s d lt. subst (λ (x : Scanned). IsScanOf x (standing (declared_of ds).plan [] s) [])
            (sym (k.scans.at s d (let m : length e.scans.items ≡ length (filter (is_kind kinds.Stream) ds) = k.scans.many in omega arith))) (scan_fresh (standing (declared_of ds).plan [] s) []);
        many = k.routes.many ∙ sym k.sessions.many;
        many_sent = k.sent.many ∙ sym k.sessions.many;
        many_scans = k.scans.many ∙ sym k.sessions.many;
      };
      speaks = tt;
      nodes = nodes;
      clients = clients;
      streams = streams;
      attached_are = λ s x is. off s x is (cases_lt s (length e.sessions.items));
    }
  where
    homes_within : (c : ℕ) → c < length e.homes.items → c < length (filter (is_kind kinds.Client) ds)
    homes_within c lt = let m : length e.homes.items ≡ length (filter (is_kind kinds.Client) ds) = k.homes.many in omega arith

    routes_within : (s : ℕ) → s < length e.routes.items → s < length (filter (is_kind kinds.Stream) ds)
    routes_within s lt = let m : length e.routes.items ≡ length (filter (is_kind kinds.Stream) ds) = k.routes.many in omega arith

    node : (n : ℕ) → IsNewNode n (get_or (filter (is_kind kinds.Node) ds) n no_decl) (get_or e.nodes.items n None)
        → (m : Stored) × (get_or e.nodes.items n None ≡ Some m) × IsNode (declared_of ds).plan [] n m
    node n (m, is, means_is) = (
      m,
      is,
      record {
        id = ap (λ (x : NodeMeaning). x.id) means_is;
        sets = ap (λ (x : NodeMeaning). x.sets) means_is;
        journal_is = ap (λ (x : NodeMeaning). x.journal) means_is;
        works = ap (λ (x : NodeMeaning). x.spent) means_is;
      },
    )

    session : (s : ℕ) → IsNew s (get_or (filter (is_kind kinds.Stream) ds) s no_decl) (get_or e.sessions.items s None)
        → (x : Remembered) × (get_or e.sessions.items s None ≡ Some x) × IsSession (declared_of ds).plan [] s x
    session s (x, is, new) = (
      x,
      is,
      record {
        stream = new.is_stream;
        stands = record {
          names = new.is_names;
          bodies = new.is_bodies;
          position = new.position;
          number = new.number;
          time = new.time;
          sent = new.sent;
        };
        attached = λ on. let a : x.attached ≡ false = new.attached in absurd (cc);
      },
    )

    off : (s : ℕ) (x : Remembered) → get_or e.sessions.items s None ≡ Some x → (s < length e.sessions.items) ⊎ (length e.sessions.items ≤ s) → x.attached ≡ false
    off s x is (inr past) = let none : get_or e.sessions.items s None ≡ None = get_or_past e.sessions.items s None past in absurd (cc)
    off s x is (inl lt) =
        let new = k.sessions.at s None (let m : length e.sessions.items ≡ length (filter (is_kind kinds.Stream) ds) = k.sessions.many in omega arith) in
        let same : new.0 ≡ x = some_is new.0 x (get_or e.sessions.items s None) new.1 is in
        ap (λ (y : Remembered). y.attached) (sym same) ∙ new.2.attached

-- ---- room for the next declaration

passed_within : {X : Type 0} (p : X → Bool) (xs : List X) (i : ℕ) (d : X) → i < length xs → length (filter p (take i xs)) + cond (p (get_or xs i d)) 1 0 ≤ length (filter p xs)
passed_within p xs i d lt =
    let e : length (filter p (take (i + 1) xs)) ≡ length (filter p (take i xs)) + cond (p (get_or xs i d)) 1 0 = length-filter_more p xs i d lt in
    let f : length (filter p (take (i + 1) xs ++ drop (i + 1) xs)) ≡ length (filter p xs) = ap (λ ys. length (filter p ys)) (take-append-drop (i + 1) xs) in
    let g : length (filter p (take (i + 1) xs ++ drop (i + 1) xs)) ≡ length (filter p (take (i + 1) xs)) + length (filter p (drop (i + 1) xs)) =
    ap (λ ys. length ys) (filter-append p (take (i + 1) xs) (drop (i + 1) xs)) ∙ length-append (filter p (take (i + 1) xs)) (filter p (drop (i + 1) xs)) in
    omega arith

room_by : (ds : List Decl) (e : Engine) (d : Decl) → IsGoodDecl ds d → length e.nodes.items + cond (is_kind kinds.Node d) 1 0 ≤ 32 → length e.sessions.items + cond (is_kind kinds.Stream d) 1 0 ≤ 64 → HasRoom e d
room_by ds e (decls.Node label sets) good nodes streams = (omega arith, good.2)
room_by ds e (decls.Client label node) good nodes streams = tt
room_by ds e (decls.Stream label source dest sub bodies) good nodes streams = (omega arith, good.3)

pub has_room : (ds : List Decl) (e : Engine) (i : ℕ) (d : Decl) → AreGoodDecls ds → i < length ds → IsMadeOf (take i ds) e → HasRoom e (get_or ds i d)
has_room ds e i d good lt k =
    room_by ds e (get_or ds i d) (all_at (IsGoodDecl ds) ds i d good.each lt)
    (let l : length (filter (is_kind kinds.Node) (take i ds)) + cond (is_kind kinds.Node (get_or ds i d)) 1 0 ≤ length (filter (is_kind kinds.Node) ds) = passed_within (is_kind kinds.Node) ds i d lt in
    let m : length e.nodes.items ≡ length (filter (is_kind kinds.Node) (take i ds)) = k.nodes.many in
    let f : count_of kinds.Node ds ≤ 32 = good.few kinds.Node in
    let c : count_of kinds.Node ds ≡ length (filter (is_kind kinds.Node) ds) = count_is kinds.Node ds in omega arith)
    (let l : length (filter (is_kind kinds.Stream) (take i ds)) + cond (is_kind kinds.Stream (get_or ds i d)) 1 0 ≤ length (filter (is_kind kinds.Stream) ds) = passed_within (is_kind kinds.Stream) ds i d lt in
    let m : length e.sessions.items ≡ length (filter (is_kind kinds.Stream) (take i ds)) = k.sessions.many in
    let f : count_of kinds.Stream ds ≤ 64 = good.few kinds.Stream in
    let c : count_of kinds.Stream ds ≡ length (filter (is_kind kinds.Stream) ds) = count_is kinds.Stream ds in omega arith)
