-- When a message's events may come.
use Rattle.std.proofs.Common.{◌≡◌, ℕ, List, [], ◌∷◌, max, refl, sym, ◌∙◌, ap, subst}
use Rattle.std.specs.Prelude.{Some, None}
use Rattle.pr_names.specs.Span.{Span}
use Rattle.pr_vectors.specs.Vector.{clock_of, Le, IsVector, join_of}
use Rattle.pr_vectors.proofs.Vectors.{clock_of-vector_of, same_vector}
use Rattle.pr_inval.specs.declared.msg.Msg.{Msg}
use Rattle.pr_inval.specs.Points.{from_of, to_of}
use Rattle.pr_inval.specs.Standing.{Standing}
use Rattle.pr_story.specs.declared.entry.Entry.{Entry}
use Rattle.pr_story.specs.declared.event.Event.TheVariants.{Accepted, Gapped}
use Rattle.pr_story.specs.History.{current_clock, current_vector}
use Rattle.pr_story.specs.Ranges.{IsMsg}
use Rattle.pr_node.specs.Taking.{IsGap}
use Rattle.pr_node.proofs.Adding.{IsReady}

pub gapped_ready : (sessions : ℕ → Standing) (needs : ℕ → List ℕ) (n : ℕ) (j : List Entry) (sets : List (List Span)) (time caller : ℕ) (msg : Msg) (has from : List ℕ)
    → IsMsg msg → IsVector has → has ≡ current_vector j → IsGap msg.kind has (Some from)
    → IsReady sessions needs n j sets (record { time = time; caller = caller; event = Gapped msg has })
gapped_ready sessions needs n j sets time caller msg has from range in_range is gap = record {
  in_range = (range, in_range);
  may_come = (gap.1, (λ le. gap.2 (subst (λ (v : List ℕ). Le (from_of msg.kind) v) (sym is) le)), is);
}

joined : (j : List Entry) (w : List ℕ) (msg : Msg) → w ≡ to_of msg.kind → current_vector (record { time = 0; caller = 0; event = Accepted msg [] } ∷ j) ≡ join_of (current_vector j) w
joined j w msg is =
    same_vector (λ n. max (current_clock j n) (clock_of (to_of msg.kind) n)) (λ n. max (clock_of (current_vector j) n) (clock_of w n))
    (λ n lt. ap (λ (c : ℕ). max c (clock_of (to_of msg.kind) n)) (sym (clock_of-vector_of (current_clock j) n lt)) ∙ ap (λ (v : List ℕ). max (clock_of (current_vector j) n) (clock_of v n)) (sym is))

pub accepted_ready : (sessions : ℕ → Standing) (needs : ℕ → List ℕ) (n : ℕ) (j : List Entry) (sets : List (List Span)) (time caller : ℕ) (msg : Msg) (has at : List ℕ)
    → IsMsg msg → IsVector at → has ≡ current_vector j → IsGap msg.kind has None → at ≡ current_vector (record { time = time; caller = caller; event = Accepted msg [] } ∷ j)
    → IsReady sessions needs n j sets (record { time = time; caller = caller; event = Accepted msg at })
accepted_ready sessions needs n j sets time caller msg has at range in_range is gap now = record {
  in_range = (range, in_range);
  may_come = (subst (λ (v : List ℕ). Le (from_of msg.kind) v) is gap, now ∙ joined j (to_of msg.kind) msg refl);
}
