-- What a line of a client asks for.
use Rattle.std.specs.Prelude.{ℕ, List, [], ◌≡◌, ◌≤◌, Bool, false, true, length}
use Rattle.pr_node.specs.Calls.{IsDone, IsSeen}
use Rattle.pr_node.specs.declared.answers.done.Done.{Done}
use Rattle.pr_node.specs.declared.answers.seen.Seen.{Seen}
use Rattle.pr_script.specs.declared.command.Command.{Command}
use Rattle.pr_script.specs.declared.command.Command.TheVariants as commands
use Rattle.pr_story.specs.declared.entry.Entry.{Entry}
use Rattle.pr_story.specs.Clients.{seen_after}

-- a write, or a delete, of a client that had seen these needs; after it the client has seen this vector
abbrev pub IsWritten : ℕ → List ℕ → List ℕ → Bool → List ℕ → List ℕ → Entry → Type 0
IsWritten client name body gone needs after e =
    (done : Done) × IsDone client name body gone done e × (after ≡ seen_after e.event client needs)

-- the same of a read
abbrev pub IsRead : ℕ → List ℕ → List ℕ → List ℕ → Entry → Type 0
IsRead client name needs after e = (seen : Seen) × IsSeen client name seen e × (after ≡ seen_after e.event client needs)

-- the entry is what this line of the client makes
abbrev pub IsLineOf : ℕ → Command → List ℕ → List ℕ → Entry → Type 0
IsLineOf client (commands.Write own name body) needs after e = IsWritten client name body false needs after e
IsLineOf client (commands.Delete own name) needs after e = IsWritten client name [] true needs after e
IsLineOf client (commands.Read own name) needs after e = IsRead client name needs after e
IsLineOf client command needs after e = ⊥

-- a client's body has at most the bytes of a message's
abbrev pub IsShort : Command → Type 0
IsShort (commands.Write client name body) = length body ≤ 65536
IsShort command = Unit {0}
