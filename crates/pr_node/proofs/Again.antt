-- What a node did lawfully it may be told again.
use Rattle.std.proofs.Common.{◌≡◌, ℕ, ◌<◌, List, [], ◌∷◌, refl, arith, inl, inr}
use Rattle.std.specs.Prelude.{Bool, Option, None, Some}
use Rattle.pr_stamps.specs.Point.{Point, IsPrev}
use Rattle.pr_stamps.specs.declared.mark.Mark.{Mark}
use Rattle.pr_names.specs.Span.{Span}
use Rattle.pr_vectors.specs.Vector.{clock_of, Covers}
use Rattle.pr_vectors.proofs.Vectors.{clock_of-vector_of}
use Rattle.pr_inval.specs.declared.msg.Msg.{Msg}
use Rattle.pr_inval.specs.Messages.{IsKind}
use Rattle.pr_inval.specs.Standing.{Standing}
use Rattle.pr_story.specs.declared.entry.Entry.{Entry}
use Rattle.pr_story.specs.declared.event.Event.{Event}
use Rattle.pr_story.specs.declared.event.Event.TheVariants.{Wrote, Accepted, Cut}
use Rattle.pr_story.specs.History.{current_clock, current_vector}
use Rattle.pr_story.specs.Knowledge.{IsMark, IsNewestKnown, KnowsGone}
use Rattle.pr_story.specs.Lawful.{MayCome}
use Rattle.pr_story.specs.Ranges.{IsInRange, IsStampOrNone}
use Rattle.pr_node.specs.Grammar.{IsSpelled, IsSpelledEvent}
use Rattle.pr_node.specs.Rebuilding.{IsOfNode, LawfulIsToldAgain, MayTell}
use Rattle.pr_node.proofs.Clocks.{clock_out, below_or_not}
use Rattle.pr_node.proofs.Spelled.{named_covered}

-- such a journal tells of nothing but what the grammar allows
told_spelled : (n : ℕ) (j : List Entry) (event : Event) → MayTell n j event → IsSpelledEvent j event
told_spelled n j (Wrote client write body after) may = (may.1, may.2, may.3)
told_spelled n j (Accepted msg at) may = may.0
told_spelled n j (Cut at) may = may
told_spelled n j _ may = tt

pub of_node_spelled : (n : ℕ) (j : List Entry) → IsOfNode n j → IsSpelled j
of_node_spelled n [] all = tt
of_node_spelled n (e ∷ j) all = (told_spelled n j e.event all.0, of_node_spelled n j all.2)

-- the newest known stamp is before each stamp past all that the node was told
prev_before : (j : List Entry) (name : List ℕ) (stamp : Point) (prev : Option Point) → IsSpelled j → ((w : ℕ) → w < 32 → current_clock j w < stamp.clock) → IsStampOrNone prev → IsNewestKnown j name prev → IsPrev prev stamp
prev_before j name stamp None spelled past range known = tt
prev_before j name stamp (Some q) spelled past range known = (range, inl (less (named_covered j spelled name q known.0)))
  where
    less : Covers (current_vector j) q → q.clock < stamp.clock
    less c = elim (below_or_not q.node 32) [
      | inl lt ↦
          let e : clock_of (current_vector j) q.node ≡ current_clock j q.node = clock_of-vector_of (current_clock j) q.node lt in
          let k : current_clock j q.node < stamp.clock = past q.node lt in
          omega (arith, e, k, c.1)
      | inr out ↦ let z : clock_of (current_vector j) q.node ≡ 0 = clock_out (current_clock j) q.node out in absurd (omega (arith, z, c.0, c.1))
    ]

-- what may come may be told again, if a message that is taken is one of the grammar
pub tells_again : (Newest : List ℕ → Option Point → Type 0) (Gone : List ℕ → Point → Bool → Type 0) (Marks : List ℕ → Mark → Type 0) (sessions : ℕ → Standing) (seen : ℕ → List ℕ) (sets : List (List Span))
    (n : ℕ) (j : List Entry) (time : ℕ) (event : Event) → MayCome Newest Gone Marks sessions seen sets n j time event → IsInRange event → ((msg : Msg) (at : List ℕ) → event ≡ Accepted msg at → IsKind msg.kind)
    → IsSpelled j → MayTell n j event
tells_again Newest Gone Marks sessions seen sets n j time (Wrote client write body after) may range grammar spelled =
    (may.2, range.0.1, prev_before j write.name write.stamp write.prev spelled may.3 range.0.2 may.5, may.0, may.3)
tells_again Newest Gone Marks sessions seen sets n j time (Accepted msg at) may range grammar spelled = (grammar msg at refl, may.0)
tells_again Newest Gone Marks sessions seen sets n j time (Cut at) may range grammar spelled = may
tells_again Newest Gone Marks sessions seen sets n j time _ may range grammar spelled = tt

pub lawful_again : LawfulIsToldAgain
lawful_again sets n [] was = tt
lawful_again sets n (e ∷ j) was =
    let rest = lawful_again sets n j was.3 in
    let lawful = was.0.2 in (
      tells_again (IsNewestKnown j) (KnowsGone j) (IsMark j) was.0.0 was.0.1 sets n j e.time e.event lawful.may_come lawful.in_range (λ msg at is. (was.1 msg at is).kind) (of_node_spelled n j rest),
      was.2,
      rest,
    )
