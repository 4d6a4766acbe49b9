-- What a write or a read of a client is, and what the client has seen after it.
use Rattle.std.proofs.Common.{◌≡◌, ℕ, ◌≤◌, List, ◌∷◌, refl, sym, ◌∙◌, ap, subst, max, cond, nat_eq, arith}
use Rattle.std.specs.Prelude.{true, false, Bool, IsTrue}
use Rattle.std.proofs.lemmas.Bool.Decides.{Decides-eqb, nat_tests}
use Rattle.pr_stamps.specs.Point.{Point}
use Rattle.pr_vectors.specs.Vector.{Le, clock_of, join_of, raised, vector_of}
use Rattle.pr_vectors.proofs.Vectors.{clock_of-vector_of, same_vector}
use Rattle.pr_inval.specs.Standing.{Standing}
use Rattle.pr_node.specs.Calls.{IsDone, IsSeen, seen_after_done, seen_after_read}
use Rattle.pr_node.specs.declared.answers.done.Done.{Done}
use Rattle.pr_node.specs.declared.answers.done.Done.TheVariants as done
use Rattle.pr_node.specs.declared.answers.seen.Seen.{Seen}
use Rattle.pr_node.specs.declared.answers.seen.Seen.TheVariants as seen
use Rattle.pr_story.specs.declared.entry.Entry.{Entry}
use Rattle.pr_story.specs.declared.event.Event.{Event}
use Rattle.pr_story.specs.declared.event.Event.TheVariants.{Wrote, Answered, Behind}
use Rattle.pr_story.specs.Clients.{is_of_client, is_with_needs, node_after, seen_after, client_node}
use Rattle.pr_story.specs.Commands.{Command, Gives, ToRead, ToWrite}
use Rattle.pr_story.specs.History.{Plan, NodeEntry, clock_brought, current_clock, current_vector}
use Rattle.pr_story.specs.Lawful.{HasCause, IsOwnLawful, IsPlaced, MayCome}
use Rattle.pr_story.specs.Knowledge.{IsMark, IsNewestKnown, KnowsGone}
use Rattle.pr_story.proofs.OfStreams.{IsOfNoStream, not_equal, same_is}

-- an event that is the client's own, made at node n
pub record IsOfClient (client : ℕ) (command : Command) (n : ℕ) (event : Event) : Type 0 where
  pub no_stream : IsOfNoStream event
  pub needs_of : (c : ℕ) → IsTrue (is_with_needs event c) → client ≡ c
  pub placed : (plan : Plan) (h : List NodeEntry) → n ≡ client_node plan h client → IsPlaced plan h n event
  pub cause : (h : List NodeEntry) → HasCause h n event
  pub gives : Gives command n event
  pub stays : (c m : ℕ) → node_after event n c m ≡ m
  pub others : (c : ℕ) → (c ≡ client → ⊥) → is_of_client event c ≡ false
  pub own : is_of_client event client ≡ true

of_client : (client : ℕ) (command : Command) (n : ℕ) (event : Event) → Gives command n event → ((c : ℕ) → is_with_needs event c ≡ nat_eq client c) → ((c : ℕ) → is_of_client event c ≡ nat_eq client c)
    → IsOfNoStream event → ((plan : Plan) (h : List NodeEntry) → n ≡ client_node plan h client → IsPlaced plan h n event) → ((h : List NodeEntry) → HasCause h n event) → ((c m : ℕ) → node_after event n c m ≡ m)
    → IsOfClient client command n event
of_client client command n event gives needs of no_stream placed cause stays = record {
  no_stream = no_stream;
  needs_of = λ c on. (Decides-eqb client c).0 (sym (needs c) ∙ on);
  placed = placed;
  cause = cause;
  gives = gives;
  stays = stays;
  others = λ c other. of c ∙ not_equal client c (λ t. other (sym t));
  own = of client ∙ same_is client;
}

pub behind_is : (client : ℕ) (command : Command) (n : ℕ) (needs has : List ℕ) → Gives command n (Behind client needs has) → IsOfClient client command n (Behind client needs has)
behind_is client command n needs has gives = of_client client command n (Behind client needs has) gives (λ c. refl) (λ c. refl) (λ s. refl) (λ plan h at. at) (λ h. tt) (λ c m. refl)

pub done_is : (client : ℕ) (name bytes : List ℕ) (gone : Bool) (n : ℕ) (answer : Done) (entry : Entry) → IsDone client name bytes gone answer entry → IsOfClient client (ToWrite client name bytes gone) n entry.event
done_is client name bytes gone n (done.Stamp stamp) entry (write, after, is, named, stamped, g) =
    subst (λ (v : Event). IsOfClient client (ToWrite client name bytes gone) n v) (sym is)
    (of_client client (ToWrite client name bytes gone) n (Wrote client write bytes after) (refl, named, refl, g) (λ c. refl) (λ c. refl) (λ s. refl) (λ plan h at. at) (λ h. tt) (λ c m. refl))
done_is client name bytes gone n (done.Behind has) entry (needs, is) =
    subst (λ (v : Event). IsOfClient client (ToWrite client name bytes gone) n v) (sym is) (behind_is client (ToWrite client name bytes gone) n needs has refl)

pub seen_is_of : (client : ℕ) (name : List ℕ) (n : ℕ) (answer : Seen) (entry : Entry) → IsSeen client name answer entry → IsOfClient client (ToRead client name) n entry.event
seen_is_of client name n (seen.Reply reply) entry (at, is) =
    subst (λ (v : Event). IsOfClient client (ToRead client name) n v) (sym is)
    (of_client client (ToRead client name) n (Answered client name reply at) (refl, refl) (λ c. refl) (λ c. refl) (λ s. refl) (λ plan h at. at) (λ h. tt) (λ c m. refl))
seen_is_of client name n (seen.Behind has) entry (needs, is) =
    subst (λ (v : Event). IsOfClient client (ToRead client name) n v) (sym is) (behind_is client (ToRead client name) n needs has refl)

-- ---- what a client has seen after a write or a read

one_clock : (s r a p w q : ℕ) → s ≤ a → r ≡ cond (nat_eq w q) (max a p) a → max s r ≡ max a (cond (nat_eq w q) p 0)
one_clock s r a p w q le is = grind (arith, nat_tests)

wrote_seen : (j : List Entry) (needs : List ℕ) (p : Point) → Le needs (current_vector j) → join_of needs (raised (current_vector j) p) ≡ vector_of (λ w. max (current_clock j w) (cond (nat_eq w p.node) p.clock 0))
wrote_seen j needs p le = same_vector (λ w. max (clock_of needs w) (clock_of (raised (current_vector j) p) w)) (λ w. max (current_clock j w) (cond (nat_eq w p.node) p.clock 0))
    (λ w lt.
    let r = clock_of-vector_of (λ k. cond (nat_eq k p.node) (max (clock_of (current_vector j) k) p.clock) (clock_of (current_vector j) k)) w lt in
    let c = clock_of-vector_of (current_clock j) w lt in
    let l = le w lt in
    one_clock (clock_of needs w) (clock_of (raised (current_vector j) p) w) (current_clock j w) p.clock w p.node (omega arith)
    (r ∙ ap (λ (x : ℕ). cond (nat_eq w p.node) (max x p.clock) x) c))

read_seen : (j : List Entry) (needs : List ℕ) → Le needs (current_vector j) → join_of needs (current_vector j) ≡ vector_of (λ w. max (current_clock j w) 0)
read_seen j needs le = same_vector (λ w. max (clock_of needs w) (clock_of (current_vector j) w)) (λ w. max (current_clock j w) 0)
    (λ w lt. let c = clock_of-vector_of (current_clock j) w lt in let l = le w lt in omega arith)

module _ (sessions : ℕ → Standing) (plan : Plan) (n : ℕ) (j : List Entry) (needs vector : List ℕ) where
  pub done_seen : (client : ℕ) (name bytes : List ℕ) (gone : Bool) (answer : Done) (entry : Entry) → IsDone client name bytes gone answer entry → IsOwnLawful sessions (λ c. needs) (plan.sets n) n j entry
      → vector ≡ current_vector (entry ∷ j) → seen_after_done answer needs vector ≡ seen_after entry.event client needs
  done_seen client name bytes gone (done.Stamp stamp) entry (write, after, is, named, stamped, g) own now =
      let may = subst (λ (v : Event). MayCome (IsNewestKnown j) (KnowsGone j) (IsMark j) sessions (λ c. needs) (plan.sets n) n j entry.time v) is own.may_come in
      now ∙ ap (λ (v : Event). vector_of (λ w. max (current_clock j w) (clock_brought v w))) is
      ∙ sym (wrote_seen j needs write.stamp may.7)
      ∙ ap (λ (v : List ℕ). join_of needs (raised v write.stamp)) (sym may.1)
      ∙ sym (ap (λ (b : Bool). cond b (join_of needs (raised after write.stamp)) needs) (same_is client))
      ∙ ap (λ (v : Event). seen_after v client needs) (sym is)
  done_seen client name bytes gone (done.Behind has) entry (had, is) own now = ap (λ (v : Event). seen_after v client needs) (sym is)

  pub read_seen_is : (client : ℕ) (name : List ℕ) (answer : Seen) (entry : Entry) → IsSeen client name answer entry → IsOwnLawful sessions (λ c. needs) (plan.sets n) n j entry
      → vector ≡ current_vector (entry ∷ j) → seen_after_read answer needs vector ≡ seen_after entry.event client needs
  read_seen_is client name (seen.Reply reply) entry (at, is) own now =
      let may = subst (λ (v : Event). MayCome (IsNewestKnown j) (KnowsGone j) (IsMark j) sessions (λ c. needs) (plan.sets n) n j entry.time v) is own.may_come in
      now ∙ ap (λ (v : Event). vector_of (λ w. max (current_clock j w) (clock_brought v w))) is
      ∙ sym (read_seen j needs may.2)
      ∙ ap (λ (v : List ℕ). join_of needs v) (sym may.1)
      ∙ sym (ap (λ (b : Bool). cond b (join_of needs at) needs) (same_is client))
      ∙ ap (λ (v : Event). seen_after v client needs) (sym is)
  read_seen_is client name (seen.Behind has) entry (had, is) own now = ap (λ (v : Event). seen_after v client needs) (sym is)
