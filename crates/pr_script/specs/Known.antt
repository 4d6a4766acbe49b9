-- What a line may depend on, and how a line changes it.
use Rattle.std.specs.Prelude.{ℕ, ◌+◌, List, [], ◌∷◌, ◌++◌, Bool, true, false, not, ◌==◌, if◌then◌else◌}
use Rattle.std.specs.List.{list_any, filter}
use Rattle.pr_script.specs.declared.command.Command.{Command}
use Rattle.pr_script.specs.declared.command.Command.TheVariants as commands
use Rattle.pr_script.specs.declared.item.Item.{Item}
use Rattle.pr_script.specs.declared.item.Item.TheVariants as items
use Rattle.pr_script.specs.declared.known.Known.{Known}

-- ---- numbers, each once

abbrev pub has_number : List ℕ → ℕ → Bool
has_number ns n = list_any (λ m. m == n) ns

abbrev pub with_number : List ℕ → ℕ → List ℕ
with_number ns n = if has_number ns n then ns else ns ++ n ∷ []

abbrev pub without_number : List ℕ → ℕ → List ℕ
without_number ns n = filter (λ m. not (m == n)) ns

-- ---- what a command changes

-- the turns that a command adds
abbrev pub turns_after : Command → ℕ → ℕ
turns_after (commands.Flow stream turns) was = was + turns
turns_after c was = was

abbrev pub is_read : Command → Bool
is_read (commands.Read client name) = true
is_read c = false

-- the streams that are attached
abbrev pub attached_after : Command → List ℕ → List ℕ
attached_after (commands.Attach stream) was = with_number was stream
attached_after (commands.Detach stream) was = without_number was stream
attached_after c was = was

-- whether a phase is open
abbrev pub phase_after : Command → Bool → Bool
phase_after commands.Phase was = true
phase_after commands.End was = false
phase_after c was = was

-- the clients with lines in the last phase: all lines of a client are one job
abbrev pub clients_after : Command → Bool → List ℕ → List ℕ
clients_after commands.Phase during was = []
clients_after (commands.Write client name body) during was = if during then with_number was client else was
clients_after (commands.Delete client name) during was = if during then with_number was client else was
clients_after (commands.Read client name) during was = if during then with_number was client else was
clients_after c during was = was

-- the streams that flow in the last phase: each flow is a job
abbrev pub flows_after : Command → Bool → List ℕ → List ℕ
flows_after commands.Phase during was = []
flows_after (commands.Flow stream turns) during was = if during then with_number was stream else was
flows_after c during was = was

-- ---- what is known

abbrev pub nothing_known : Known
nothing_known = record { decls = []; begun = false; turns = 0; after_read = false; attached = []; in_phase = false; clients = []; flows = [] }

abbrev pub known_after : Known → Item → Known
known_after k (items.Decl d) = record {
  decls = k.decls ++ d ∷ [];
  begun = k.begun;
  turns = k.turns;
  after_read = false;
  attached = k.attached;
  in_phase = k.in_phase;
  clients = k.clients;
  flows = k.flows;
}
known_after k (items.Command c) = record {
  decls = k.decls;
  begun = true;
  turns = turns_after c k.turns;
  after_read = is_read c;
  attached = attached_after c k.attached;
  in_phase = phase_after c k.in_phase;
  clients = clients_after c k.in_phase k.clients;
  flows = flows_after c k.in_phase k.flows;
}
