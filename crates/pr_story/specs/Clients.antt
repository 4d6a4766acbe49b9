-- Where a client stands, and what it has seen.
use Rattle.std.specs.Prelude.{ℕ, List, [], ◌∷◌, cond, nat_eq, Bool, false}
use Rattle.pr_vectors.specs.Vector.{join_of, raised, zero_vector}
use Rattle.pr_story.specs.declared.event.Event.{Event}
use Rattle.pr_story.specs.declared.event.Event.TheVariants.{Wrote, Answered, Moved, Behind}
use Rattle.pr_story.specs.History.{Plan, NodeEntry}

-- whether the event is one of the client's
abbrev pub is_of_client : Event → ℕ → Bool
is_of_client (Wrote client write body after) c = nat_eq client c
is_of_client (Answered client o answer at) c = nat_eq client c
is_of_client (Behind client needs has) c = nat_eq client c
is_of_client (Moved client) c = nat_eq client c
is_of_client _ c = false

-- whether the call that makes the event is given what the client has seen
abbrev pub is_with_needs : Event → ℕ → Bool
is_with_needs (Wrote client write body after) c = nat_eq client c
is_with_needs (Answered client o answer at) c = nat_eq client c
is_with_needs (Behind client needs has) c = nat_eq client c
is_with_needs _ c = false

abbrev pub node_after : Event → ℕ → ℕ → ℕ → ℕ
node_after (Moved client) n c before = cond (nat_eq client c) n before
node_after _ n c before = before

-- the node where the client stands: that of its last move, or else its declared one
abbrev pub client_node : Plan → List NodeEntry → ℕ → ℕ
client_node plan [] c = plan.home c
client_node plan (e ∷ h) c = node_after e.entry.event e.node c (client_node plan h c)

abbrev pub seen_after : Event → ℕ → List ℕ → List ℕ
seen_after (Wrote client write body after) c v = cond (nat_eq client c) (join_of v (raised after write.stamp)) v
seen_after (Answered client o answer at) c v = cond (nat_eq client c) (join_of v at) v
seen_after _ c v = v

-- what the client has seen: the join of the vectors and stamps of its writes and of the vectors of its answers
abbrev pub client_vector : List NodeEntry → ℕ → List ℕ
client_vector [] c = zero_vector
client_vector (e ∷ h) c = seen_after e.entry.event c (client_vector h c)
