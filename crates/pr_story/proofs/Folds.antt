-- What is counted from the events of all nodes alone.
use Rattle.std.proofs.Common.{◌≡◌, ℕ, List, [], ◌∷◌, refl, ap, max, cond}
use Rattle.pr_vectors.specs.Vector.{zero_vector}
use Rattle.pr_story.specs.declared.entry.Entry.{Entry}
use Rattle.pr_story.specs.Clients.{client_vector, seen_after}
use Rattle.pr_story.specs.History.{NodeEntry, entries}
use Rattle.pr_story.specs.Turns.{is_timed, stream_time}

abbrev pub seen_by : List Entry → ℕ → List ℕ
seen_by [] c = zero_vector
seen_by (e ∷ j) c = seen_after e.event c (seen_by j c)

pub client_seen : (h : List NodeEntry) (c : ℕ) → client_vector h c ≡ seen_by (entries h) c
client_seen [] c = refl
client_seen (e ∷ h) c = ap (λ (v : List ℕ). seen_after e.entry.event c v) (client_seen h c)

abbrev pub time_of : List Entry → ℕ → ℕ
time_of [] s = 0
time_of (e ∷ j) s = max (time_of j s) (cond (is_timed e.event s) e.time 0)

pub stream_heard : (h : List NodeEntry) (s : ℕ) → stream_time h s ≡ time_of (entries h) s
stream_heard [] s = refl
stream_heard (e ∷ h) s = ap (λ (t : ℕ). max t (cond (is_timed e.entry.event s) e.entry.time 0)) (stream_heard h s)
