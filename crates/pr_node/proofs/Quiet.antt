-- An event that tells its node of nothing leaves all ties.
use Rattle.std.proofs.Common.{◌≡◌, ℕ, List, ◌∷◌, refl, sym}
use Rattle.std.specs.Prelude.{Option, None}
use Rattle.pr_stamps.specs.Point.{Point}
use Rattle.pr_vectors.specs.Vector.{zero_vector}
use Rattle.pr_inval.specs.declared.kind.Kind.{Kind}
use Rattle.pr_inval.specs.declared.write_rec.WriteRec.{WriteRec}
use Rattle.pr_story.specs.declared.entry.Entry.{Entry}
use Rattle.pr_story.specs.declared.event.Event.{Event}
use Rattle.pr_story.specs.declared.event.Event.TheVariants.{Wrote, Accepted, Cut, Dropped}
use Rattle.pr_story.specs.History.{Accepts, clock_brought}
use Rattle.pr_story.specs.Knowledge.{TellsOf, body_after, cut_in, floor_after, mark_told}
use Rattle.pr_story.specs.Search.{IsNewestIn}
use Rattle.pr_node.specs.declared.stores.Stores.{Stores}
use Rattle.pr_node.specs.Grammar.{IsSpelledEvent}
use Rattle.pr_node.specs.Quiet.{IsQuiet}
use Rattle.pr_node.specs.Ties.{IsTied}
use Rattle.pr_node.proofs.Logs.{same_log}
use Rattle.pr_node.proofs.Points.{same_gaps}
use Rattle.pr_node.proofs.Held.{body_step}
use Rattle.pr_node.proofs.Tables.{same_marks}

record Facts (event : Event) : Type 0 where
  pub brought : (k : ℕ) → clock_brought event k ≡ 0
  pub accepts : (k : Kind) → Accepts event k → ⊥
  pub tells : (x : WriteRec) → TellsOf event x → ⊥
  pub names : (o : List ℕ) → IsNewestIn event o None
  pub marks : (o : List ℕ) (s : Point) → mark_told event o s ≡ None
  pub body : (o : List ℕ) (t : Point) (x : Option (List ℕ)) → body_after event o t x ≡ x
  pub cut : cut_in event ≡ zero_vector
  pub floor : floor_after event ≡ zero_vector

facts : (event : Event) → IsQuiet event → Facts event
facts (Wrote client write body after) q = absurd q
facts (Accepted msg at) q = absurd q
facts (Cut at) q = absurd q
facts (Dropped name) q = absurd q
facts _ q = record {
  brought = λ k. refl;
  accepts = λ k a. absurd a;
  tells = λ x t. absurd t;
  names = λ o s n. absurd n;
  marks = λ o s. refl;
  body = λ o t x. refl;
  cut = refl;
  floor = refl;
}

quiet_spelled : (j : List Entry) (event : Event) → IsQuiet event → IsSpelledEvent j event
quiet_spelled j (Wrote client write body after) q = absurd q
quiet_spelled j (Accepted msg at) q = absurd q
quiet_spelled j (Cut at) q = absurd q
quiet_spelled j _ q = tt

pub quiet_tied : (n : ℕ) (e : Entry) (j : List Entry) (s : Stores) → IsQuiet e.event → IsTied n j s → IsTied n (e ∷ j) s
quiet_tied n e j s quiet f =
    let q : Facts e.event = facts e.event quiet in
    record {
      log = same_log n e j s.log q.brought q.cut (λ k a. absurd (q.accepts k a)) q.tells f.log;
      gaps = same_gaps n e j s.gaps q.brought (λ k p a c. q.accepts k a) f.gaps;
      bodies = body_step e j s.bodies s.bodies (λ o t latest. sym (q.body o t _)) f.bodies;
      marks = same_marks e j s.marks f.marks q.floor q.names q.marks;
      spelled = (quiet_spelled j e.event quiet, f.spelled);
    }
