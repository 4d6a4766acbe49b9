-- When an event of a client may come.
use Rattle.std.proofs.Common.{◌≡◌, ℕ, ◌<◌, ◌≤◌, ◌^◌, List, [], refl, sym, ◌∙◌, subst, length}
use Rattle.std.specs.Prelude.{Bool, true}
use Rattle.pr_names.specs.Span.{Span}
use Rattle.pr_vectors.specs.Vector.{Le, IsVector}
use Rattle.pr_inval.specs.declared.write_rec.WriteRec.{WriteRec}
use Rattle.pr_inval.specs.Standing.{Standing}
use Rattle.pr_story.specs.declared.entry.Entry.{Entry}
use Rattle.pr_story.specs.declared.event.Event.TheVariants.{Answered, Behind, Wrote}
use Rattle.pr_story.specs.declared.reply.Reply.{Reply}
use Rattle.pr_names.specs.Name.{IsName}
use Rattle.pr_story.specs.History.{current_vector}
use Rattle.pr_story.specs.Knowledge.{IsAnswer, IsNewestKnown, KnowsGone}
use Rattle.pr_story.specs.Ranges.{IsBytes, IsReply}
use Rattle.pr_node.specs.Writes.{IsNextOwn}
use Rattle.pr_node.proofs.Adding.{IsReady}

pub behind_ready : (sessions : ℕ → Standing) (n : ℕ) (j : List Entry) (sets : List (List Span)) (time caller client : ℕ) (needs has : List ℕ)
    → client < 2 ^ 32 → IsVector needs → IsVector has → has ≡ current_vector j → (Le needs has → ⊥)
    → IsReady sessions (λ x. needs) n j sets (record { time = time; caller = caller; event = Behind client needs has })
behind_ready sessions n j sets time caller client needs has number range_needs range is trails = record {
  in_range = (number, range_needs, range);
  may_come = (refl, (λ le. trails (subst (λ (v : List ℕ). Le needs v) (sym is) le)), is);
}

pub write_ready : (sessions : ℕ → Standing) (n : ℕ) (j : List Entry) (sets : List (List Span)) (time caller client : ℕ) (name : List ℕ) (gone : Bool) (write : WriteRec) (body given after needs : List ℕ)
    → IsNextOwn n j name gone write → client < 2 ^ 32 → IsBytes given → length given ≤ 65536 → (gone ≡ true → given ≡ []) → body ≡ given → IsVector after → after ≡ current_vector j → Le needs after
    → IsReady sessions (λ x. needs) n j sets (record { time = time; caller = caller; event = Wrote client write body after })
write_ready sessions n j sets time caller client name gone write body given after needs own number bytes short empty same range is le = record {
  in_range = (own.in_range, subst (λ (b : List ℕ). IsBytes b) (sym same) bytes, number, range);
  may_come = (
    subst (λ (b : List ℕ). length b ≤ 65536) (sym same) short,
    is,
    own.node,
    own.after_all,
    own.next,
    subst (λ (o : List ℕ). IsNewestKnown j o write.prev) (sym own.is_name) own.newest,
    (λ g. same ∙ empty (sym own.is_gone ∙ g)),
    subst (λ (v : List ℕ). Le needs v) is le,
  );
}

pub answered_ready : (sessions : ℕ → Standing) (n : ℕ) (j : List Entry) (sets : List (List Span)) (time caller client : ℕ) (name : List ℕ) (reply answer : Reply) (at needs : List ℕ)
    → client < 2 ^ 32 → IsName name → reply ≡ answer → IsReply answer → IsVector at → at ≡ current_vector j → Le needs at → IsAnswer (IsNewestKnown j name) (KnowsGone j name) sets n j name answer
    → IsReady sessions (λ x. needs) n j sets (record { time = time; caller = caller; event = Answered client name reply at })
answered_ready sessions n j sets time caller client name reply answer at needs number is_name same range in_range is le answers = record {
  in_range = (number, is_name, subst (λ (r : Reply). IsReply r) (sym same) range, in_range);
  may_come = (subst (λ (r : Reply). IsAnswer (IsNewestKnown j name) (KnowsGone j name) sets n j name r) (sym same) answers, is, subst (λ (v : List ℕ). Le needs v) is le);
}
