-- How many invalidations a stream sends while its source hears nothing new.
use Rattle.std.specs.Prelude.{ℕ, List, [], ◌∷◌, ◌≡◌, ◌⊎◌, ◌+◌, cond, nat_eq, ◌&&◌}
use Rattle.pr_inval.specs.declared.write_rec.WriteRec.{WriteRec}
use Rattle.pr_story.specs.declared.event.Event.{Event}
use Rattle.pr_story.specs.declared.event.Event.TheVariants.{Wrote, Sent, Accepted}
use Rattle.pr_inval.specs.Points.{is_invalidation}
use Rattle.pr_story.specs.History.{NodeEntry}
use Rattle.pr_story.specs.Turns.{Attaches}

abbrev pub IsNoNews : Event → Type 0
IsNoNews (Wrote client write body after) = ⊥
IsNoNews (Accepted msg at) = ⊥
IsNoNews _ = Unit {0}

-- node m makes no Wrote and no Accepted, and the stream is not attached
abbrev pub IsQuiet : ℕ → ℕ → List NodeEntry → Type 0
IsQuiet m s [] = Unit {0}
IsQuiet m s (e ∷ t) = ((e.node ≡ m → IsNoNews e.entry.event) × ¬ Attaches e.entry.event s) × IsQuiet m s t

abbrev pub counts_invalidation : Event → ℕ → ℕ → ℕ
counts_invalidation (Sent msg) s k = cond (nat_eq msg.stream s && is_invalidation msg.kind) (k + 1) k
counts_invalidation _ s k = k

-- how many invalidations of the stream are among the entries
abbrev pub invalidations : List NodeEntry → ℕ → ℕ
invalidations [] s = 0
invalidations (e ∷ t) s = counts_invalidation e.entry.event s (invalidations t s)

abbrev pub IsAmong : WriteRec → List WriteRec → Type 0
IsAmong x [] = ⊥
IsAmong x (y ∷ ys) = (y ≡ x) ⊎ IsAmong x ys
