-- What comes of a call that serves the asks behind a script.
use Rattle.std.specs.Prelude.{◌≡◌, ◌⊎◌, ◌≤◌, ℕ, List, [], false, Option, Result, Ok, Err, length}
use Rattle.std.specs.Io.KnownBytes.{Appends}
use Rattle.pr_node.specs.Stored.{NodeMeaning, Stored, means}
use Rattle.pr_script.specs.declared.script.Script.{Script}
use Rattle.pr_serve.specs.Serving.{Server, ServesSo}
use Rattle.pr_serve.specs.Sinks.{Sink}
use Rattle.pr_serve.specs.declared.serve_fault.ServeFault.{ServeFault}
use Rattle.pr_serve.specs.declared.serve_fault.ServeFault.TheVariants as faults
use Rattle.pr_story.specs.History.{NodeEntry, Plan, journal}
use Rattle.pr_story.specs.Scripts.{JobAfterJob}
use Rattle.pr_text.specs.Histories.{HasBegun, IsHistoryOf}
use Rattle.pr_text.specs.Numbers.{counts_of}
use Rattle.pr_text.specs.Transcripts.{plan_of}
use Rattle.pr_top.specs.Headline.{Headline}
use Rattle.pr_top.specs.Progress.{IsHistoryOfDecls}
use Rattle.pr_top.specs.Silent.{HasStoppedSo}
use Rattle.pr_top.specs.declared.stepping.Halt.{Halt}
use Rattle.pr_top.specs.declared.stepping.Halt.TheVariants as halts
use Rattle.pr_top.specs.declared.status.Status.{Status}
use Rattle.pr_top.specs.declared.status.Status.TheVariants as status

-- node n as the history left it
abbrev pub node_after : Plan → List NodeEntry → ℕ → NodeMeaning
node_after plan h n = record { id = n; sets = plan.sets n; journal = journal h n; spent = false }

-- the status of a call that ends so
abbrev pub status_of : Result ℕ ServeFault → Status
status_of (Ok count) = status.Ok
status_of (Err (faults.BadBytes at)) = status.BadBytes at
status_of (Err faults.ReadFault) = status.ReadFault
status_of (Err faults.WriteFault) = status.WriteFault
status_of (Err faults.TooLarge) = status.TooLarge
status_of (Err (faults.Worn at)) = status.Worn at
status_of (Err faults.NoMemory) = status.NoMemory

-- the status of a call whose run stopped so
abbrev pub stop_of : Halt → Status
stop_of (halts.Worn at) = status.Worn at
stop_of _ = status.NoMemory

-- the run of the script stopped for this cause
abbrev pub IsStop : Status → List NodeEntry → Type 0
IsStop (status.Worn at) h = (at ≡ 4611686018427387903) × (4611686018427387903 ≤ length h)
IsStop status.NoMemory h = Unit {0}
IsStop _ h = ⊥

abbrev pub server_at : Option (List ℕ) → ℕ → Sink → NodeMeaning → Server
server_at left faults sink node = record { left = left; faults = faults; sink = sink; node = node }

-- the node serves what the source has left
pub record Serves (result : Status) (node : NodeMeaning) (left : Option (List ℕ)) (read_faults : ℕ) (out : Sink) (left_now : Option (List ℕ)) (read_faults_now : ℕ) (out_now : Sink) : Type 0 where
  pub then : NodeMeaning
  pub end : Result ℕ ServeFault
  pub serves : ServesSo (server_at left read_faults out node) (server_at left_now read_faults_now out_now then) end
  pub status : result ≡ status_of end

-- the script was run: its history is as promised, and node n serves, as the history left it; or the run stopped, and
-- nothing is written
pub record HasServed (result : Status) (s : Script) (n : ℕ) (left : Option (List ℕ)) (read_faults : ℕ) (out : Sink) (left_now : Option (List ℕ)) (read_faults_now : ℕ) (out_now : Sink) : Type 0 where
  pub h : List NodeEntry
  pub headline : Headline (plan_of s.decls.list) (counts_of s.decls.list) h
  pub ends : (IsHistoryOf JobAfterJob s h × Serves result (node_after (plan_of s.decls.list) h n) left read_faults out left_now read_faults_now out_now)
      ⊎ (HasBegun JobAfterJob s h × IsStop result h × Appends out.text out_now.text [])

-- ---- within

-- the node after the whole run, or where it stopped
abbrev pub HasLeft : Script → ℕ → Result Stored Halt → Type 0
HasLeft s n (Ok m) =
    (h : List NodeEntry) × IsHistoryOfDecls s h × IsHistoryOf JobAfterJob s h × (means m ≡ node_after (plan_of s.decls.list) h n)
HasLeft s n (Err halt) = HasStoppedSo s halt
