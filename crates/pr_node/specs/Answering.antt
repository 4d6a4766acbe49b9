-- What a node answers, for every journal that its stores are tied to.
use Rattle.std.specs.Prelude.{ℕ, List, [], ◌≡◌, ◌≤◌, ◌+◌, length, slice_index_or}
use Rattle.pr_gaps.specs.Gaps.{Told, IsLastPrecise}
use Rattle.pr_story.specs.declared.entry.Entry.{Entry}
use Rattle.pr_story.specs.declared.found.Found.{Found}
use Rattle.pr_story.specs.declared.reply.Reply.{Reply}
use Rattle.pr_story.specs.declared.reply.Reply.TheVariants as reply
use Rattle.pr_story.specs.Knowledge.{IsNewestKnown, KnowsGone, IsMark, IsAnswer, IsFound}
use Rattle.pr_node.specs.declared.answers.answer.Answer.{Answer}
use Rattle.pr_node.specs.declared.answers.answer.Answer.TheVariants as answer
use Rattle.pr_node.specs.declared.stores.Stores.{Stores}
use Rattle.pr_node.specs.Stored.{NodeMeaning}
use Rattle.pr_node.specs.Ties.{IsTied}

-- the answer as a reply
abbrev pub reply_of : Answer → Reply
reply_of answer.Never = reply.Never
reply_of (answer.Value stamp bytes) = reply.Value stamp bytes.now
reply_of (answer.Imprecise untold) = reply.Imprecise untold
reply_of (answer.Body stamp) = reply.Body stamp
reply_of (answer.Gone stamp) = reply.Gone stamp

abbrev pub IsAnswerOf : Stores → List ℕ → Reply → Type 0
IsAnswerOf s o reply = (n : ℕ) (j : List Entry) → IsTied n j s → IsAnswer (IsNewestKnown j o) (KnowsGone j o) s.gaps.sets n j o reply

abbrev pub IsFindingOf : Stores → List ℕ → Found → Type 0
IsFindingOf s o found = (n : ℕ) (j : List Entry) → IsTied n j s → IsFound (IsMark j o) s.gaps.sets n j o found

-- the answer of a node, by its journal
abbrev pub IsAnswerAt : NodeMeaning → List ℕ → Reply → Type 0
IsAnswerAt a o reply = IsAnswer (IsNewestKnown a.journal o) (KnowsGone a.journal o) a.sets a.id a.journal o reply

-- of each set, up to where it is precise
abbrev pub ArePrecise : Told → List (List ℕ) → Type 0
ArePrecise g vectors = (length vectors ≡ length g.sets + 1) × ((i : ℕ) → i ≤ length g.sets → IsLastPrecise g i (slice_index_or vectors i []))
