-- What a call of a client adds, with what the client has seen then.
use Rattle.std.proofs.Common.{◌≡◌, ℕ, List, [], ap, ◌∙◌}
use Rattle.std.specs.Prelude.{Bool, false}
use Rattle.pr_inval.specs.Standing.{Standing}
use Rattle.pr_node.specs.Calls.{Adds, IsDone, IsSeen, seen_after_done, seen_after_read}
use Rattle.pr_node.specs.Stored.{NodeMeaning}
use Rattle.pr_node.specs.declared.answers.done.Done.{Done}
use Rattle.pr_node.specs.declared.answers.seen.Seen.{Seen}
use Rattle.pr_node.proofs.OfClients.{done_seen, read_seen_is}
use Rattle.pr_story.specs.declared.entry.Entry.{Entry}
use Rattle.pr_story.specs.History.{Plan, current_vector}
use Rattle.pr_crew.specs.Asking.{IsRead, IsWritten}

adds_then : (a b : NodeMeaning) (sessions : ℕ → Standing) (needs : ℕ → List ℕ) (caller : ℕ) (P Q : Entry → Type 0) (x : Adds a b sessions needs caller P) → Q x.entry → Adds a b sessions needs caller Q
adds_then a b sessions needs caller P Q x is = record {
  entry = x.entry;
  follows = x.follows;
  lawful = x.lawful;
  by = x.by;
  early = x.early;
  is = is;
  same_id = x.same_id;
  same_sets = x.same_sets;
  works = x.works;
}

-- a plan in which each node has the sets of this one
abbrev plan_of : NodeMeaning → Plan
plan_of a = record { sets = λ n. a.sets; home = λ c. 0; stream = λ s. record { source = 0; destination = 0; names = []; bodies = false } }

module _ (a b : NodeMeaning) (sessions : ℕ → Standing) (client caller : ℕ) (name needs after : List ℕ) where
  pub written : (bytes : List ℕ) (gone : Bool) (answer : Done) → Adds a b sessions (λ c. needs) caller (IsDone client name bytes gone answer) → after ≡ seen_after_done answer needs (current_vector b.journal)
      → Adds a b sessions (λ c. needs) caller (IsWritten client name bytes gone needs after)
  written bytes gone answer x is =
      adds_then a b sessions (λ c. needs) caller (IsDone client name bytes gone answer) (IsWritten client name bytes gone needs after) x
      (answer, x.is, is ∙ done_seen sessions (plan_of a) a.id a.journal needs (current_vector b.journal) client name bytes gone answer x.entry x.is x.lawful (ap (λ (j : List Entry). current_vector j) x.follows))

  pub read : (answer : Seen) → Adds a b sessions (λ c. needs) caller (IsSeen client name answer) → after ≡ seen_after_read answer needs (current_vector b.journal)
      → Adds a b sessions (λ c. needs) caller (IsRead client name needs after)
  read answer x is =
      adds_then a b sessions (λ c. needs) caller (IsSeen client name answer) (IsRead client name needs after) x
      (answer, x.is, is ∙ read_seen_is sessions (plan_of a) a.id a.journal needs (current_vector b.journal) client name answer x.entry x.is x.lawful (ap (λ (j : List Entry). current_vector j) x.follows))
