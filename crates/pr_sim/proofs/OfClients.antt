-- What an event of a client changes.
use Rattle.std.proofs.Common.{◌≡◌, ◌⊎◌, ℕ, ◌<◌, List, ◌∷◌, inl, inr, sym, ◌∙◌, ap, cond, nat_eq, length, get_or, set, arith}
use Rattle.std.specs.Prelude.{false, Bool}
use Rattle.std.proofs.lemmas.Bool.{cases_eq}
use Rattle.std.proofs.lemmas.Bool.Decides.{Decides-eqb}
use Rattle.std.proofs.lemmas.List.{get_or-set_same, get_or-set_other, length-set}
use Rattle.pr_vectors.specs.Vector.{zero_vector}
use Rattle.pr_story.specs.declared.event.Event.{Event}
use Rattle.pr_story.specs.declared.event.Event.TheVariants.{Moved}
use Rattle.pr_story.specs.Clients.{is_of_client, node_after, seen_after, client_node, client_vector}
use Rattle.pr_story.specs.History.{Plan, NodeEntry}
use Rattle.pr_sim.specs.Running.{AreClients}
use Rattle.pr_story.proofs.OfStreams.{not_equal}
use Rattle.pr_sim.proofs.Quiet.{client_stays}

-- a client moved to this node
pub client_moved : (plan : Plan) (e : NodeEntry) (h : List NodeEntry) (count : ℕ) (homes : List ℕ) (seen : List (List ℕ)) (client : ℕ) → AreClients plan h count homes seen
    → client < length homes → e.node < count → e.entry.event ≡ Moved client → AreClients plan (e ∷ h) count (set homes client e.node) seen
client_moved plan e h count homes seen client k known within is = record {
  many = k.many ∙ sym (length-set homes client e.node);
  home = λ c lt. (home c (less c lt) (cases_eq c client)).0;
  at = λ c lt. (home c (less c lt) (cases_eq c client)).1;
  seen_is = λ c lt. k.seen_is c (less c lt) ∙ ap (λ (v : Event). seen_after v c (client_vector h c)) (sym is);
}
  where
    less : (c : ℕ) → c < length (set homes client e.node) → c < length homes
    less c lt = let l = length-set homes client e.node in omega arith

    moves : (c : ℕ) → client_node plan (e ∷ h) c ≡ cond (nat_eq client c) e.node (client_node plan h c)
    moves c = ap (λ (v : Event). node_after v e.node c (client_node plan h c)) is

    home : (c : ℕ) → c < length homes → (c ≡ client) ⊎ (c ≡ client → ⊥) → (get_or (set homes client e.node) c 0 ≡ client_node plan (e ∷ h) c) × (get_or (set homes client e.node) c 0 < count)
    home c lt (inl same) =
        let now : get_or (set homes client e.node) c 0 ≡ e.node = ap (λ (i : ℕ). get_or (set homes client e.node) i 0) same ∙ get_or-set_same homes client e.node 0 known in
        (now ∙ sym (moves c ∙ ap (λ (b : Bool). cond b e.node (client_node plan h c)) ((Decides-eqb client c).1 (sym same))), omega arith)
    home c lt (inr other) =
        let now : get_or (set homes client e.node) c 0 ≡ get_or homes c 0 = get_or-set_other homes client c e.node 0 other in
        let few : get_or homes c 0 < count = k.at c lt in
        (now ∙ k.home c lt ∙ sym (moves c ∙ ap (λ (b : Bool). cond b e.node (client_node plan h c)) (not_equal client c (λ t. other (sym t)))), omega arith)

-- a client has seen this vector
pub client_saw : (plan : Plan) (e : NodeEntry) (h : List NodeEntry) (count : ℕ) (homes : List ℕ) (seen : List (List ℕ)) (client : ℕ) (vector : List ℕ) → AreClients plan h count homes seen
    → client < length homes → ((c m : ℕ) → node_after e.entry.event e.node c m ≡ m) → ((c : ℕ) → (c ≡ client → ⊥) → is_of_client e.entry.event c ≡ false)
    → vector ≡ client_vector (e ∷ h) client → AreClients plan (e ∷ h) count homes (set seen client vector)
client_saw plan e h count homes seen client vector k known stays others now = record {
  many = length-set seen client vector ∙ k.many;
  home = λ c lt. k.home c lt ∙ sym (stays c (client_node plan h c));
  at = k.at;
  seen_is = λ c lt. seen_is c lt (cases_eq c client);
}
  where
    seen_is : (c : ℕ) → c < length homes → (c ≡ client) ⊎ (c ≡ client → ⊥) → get_or (set seen client vector) c zero_vector ≡ client_vector (e ∷ h) c
    seen_is c lt (inl same) =
        ap (λ (i : ℕ). get_or (set seen client vector) i zero_vector) same
        ∙ get_or-set_same seen client vector zero_vector (let l : length seen ≡ length homes = k.many in omega arith)
        ∙ now ∙ ap (λ (i : ℕ). client_vector (e ∷ h) i) (sym same)
    seen_is c lt (inr other) = get_or-set_other seen client c vector zero_vector other ∙ k.seen_is c lt ∙ sym (client_stays plan e h c (others c other)).1
