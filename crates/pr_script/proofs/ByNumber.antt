-- The labels of each kind stand by number behind one declaration more.
use Rattle.std.proofs.Common.{◌≡◌, ℕ, List, [], ◌∷◌, ◌++◌, refl, sym, ap, ◌∙◌, false, true}
use Rattle.std.specs.Prelude.{Result, Ok, Err, OnOk, OnErr}
use Rattle.pr_script.specs.declared.decl.Decl.{Decl}
use Rattle.pr_script.specs.declared.decl.Decl.TheVariants as decls
use Rattle.pr_script.specs.declared.kind.Kind.{Kind}
use Rattle.pr_script.specs.declared.kind.Kind.TheVariants as kinds
use Rattle.pr_script.specs.Labels.{is_kind, kind_of, label_of, labels_of}
use Rattle.pr_script.specs.Listed.{AreByNumber}
use Rattle.pr_script.proofs.Positions.{labels_new, labels_stay}

pub none_by_number : (ds : List Decl) (nodes clients streams : List (List ℕ)) → ds ≡ [] → nodes ≡ [] → clients ≡ [] → streams ≡ [] → AreByNumber ds nodes clients streams
unfolding labels_of
none_by_number ds nodes clients streams e n c s = rw (e, n, c, s) (record { of_nodes = refl; of_clients = refl; of_streams = refl })

one_more : (k : Kind) (ds : List Decl) (d : Decl) (label : List ℕ) (labels new : List (List ℕ)) → is_kind k d ≡ true → label ≡ label_of d → labels ≡ labels_of k ds → new ≡ labels ++ label ∷ [] → new ≡ labels_of k (ds ++ d ∷ [])
one_more k ds d label labels new e l h is =
    is ∙ ap (λ (x : List ℕ). labels ++ x ∷ []) l ∙ ap (λ (x : List (List ℕ)). x ++ label_of d ∷ []) h ∙ sym (labels_new k ds d e)

as_many : (k : Kind) (ds : List Decl) (d : Decl) (labels : List (List ℕ)) → is_kind k d ≡ false → labels ≡ labels_of k ds → labels ≡ labels_of k (ds ++ d ∷ [])
as_many k ds d labels e h = h ∙ sym (labels_stay k ds d e)

-- a call that adds one declaration and its label, or neither
module _ {E : Type 0} (r : Result (Unit {0}) E) (ds more : List Decl) (d : Decl) (label : List ℕ) (labels new : List (List ℕ)) where
  abbrev pub AddsLabel : Type 0
  AddsLabel = OnOk r (more ≡ ds ++ d ∷ []) × OnOk r (new ≡ labels ++ label ∷ []) × OnErr r (more ≡ ds) × OnErr r (new ≡ labels)

pub node_listed : {E : Type 0} (r : Result (Unit {0}) E) (ds more : List Decl) (d : Decl) (label : List ℕ) (nodes new clients streams : List (List ℕ)) → kind_of d ≡ kinds.Node → label ≡ label_of d
    → AreByNumber ds nodes clients streams → AddsLabel r ds more d label nodes new → AreByNumber more new clients streams
node_listed (Ok x) ds more (decls.Node name sets) label nodes new clients streams k l h (a, b, e, f) =
    let d : Decl = decls.Node name sets in
    rw a (record {
      of_nodes = one_more kinds.Node ds d label nodes new refl l h.of_nodes b;
      of_clients = as_many kinds.Client ds d clients refl h.of_clients;
      of_streams = as_many kinds.Stream ds d streams refl h.of_streams;
    })
node_listed (Ok x) ds more (decls.Client name node) label nodes new clients streams k l h adds = absurd cc
node_listed (Ok x) ds more (decls.Stream name source dest sub bodies) label nodes new clients streams k l h adds = absurd cc
node_listed (Err x) ds more d label nodes new clients streams k l h (a, b, e, f) = rw (e, f) h

pub client_listed : {E : Type 0} (r : Result (Unit {0}) E) (ds more : List Decl) (d : Decl) (label : List ℕ) (clients new nodes streams : List (List ℕ)) → kind_of d ≡ kinds.Client → label ≡ label_of d
    → AreByNumber ds nodes clients streams → AddsLabel r ds more d label clients new → AreByNumber more nodes new streams
client_listed (Ok x) ds more (decls.Client name node) label clients new nodes streams k l h (a, b, e, f) =
    let d : Decl = decls.Client name node in
    rw a (record {
      of_nodes = as_many kinds.Node ds d nodes refl h.of_nodes;
      of_clients = one_more kinds.Client ds d label clients new refl l h.of_clients b;
      of_streams = as_many kinds.Stream ds d streams refl h.of_streams;
    })
client_listed (Ok x) ds more (decls.Node name sets) label clients new nodes streams k l h adds = absurd cc
client_listed (Ok x) ds more (decls.Stream name source dest sub bodies) label clients new nodes streams k l h adds = absurd cc
client_listed (Err x) ds more d label clients new nodes streams k l h (a, b, e, f) = rw (e, f) h

pub stream_listed : {E : Type 0} (r : Result (Unit {0}) E) (ds more : List Decl) (d : Decl) (label : List ℕ) (streams new nodes clients : List (List ℕ)) → kind_of d ≡ kinds.Stream → label ≡ label_of d
    → AreByNumber ds nodes clients streams → AddsLabel r ds more d label streams new → AreByNumber more nodes clients new
stream_listed (Ok x) ds more (decls.Stream name source dest sub bodies) label streams new nodes clients k l h (a, b, e, f) =
    let d : Decl = decls.Stream name source dest sub bodies in
    rw a (record {
      of_nodes = as_many kinds.Node ds d nodes refl h.of_nodes;
      of_clients = as_many kinds.Client ds d clients refl h.of_clients;
      of_streams = one_more kinds.Stream ds d label streams new refl l h.of_streams b;
    })
stream_listed (Ok x) ds more (decls.Node name sets) label streams new nodes clients k l h adds = absurd cc
stream_listed (Ok x) ds more (decls.Client name node) label streams new nodes clients k l h adds = absurd cc
stream_listed (Err x) ds more d label streams new nodes clients k l h (a, b, e, f) = rw (e, f) h
