-- The script of a seed and a size.
use Rattle.std.specs.Prelude.{ℕ, suc, zero, ◌+◌, List, [], ◌∷◌, ◌++◌, nat_lt, length, decimal, if◌then◌else◌}
use Rattle.pr_script.specs.declared.command.Command.{Command}
use Rattle.pr_script.specs.declared.command.Command.TheVariants.{Attach, Flow, Write, Read, Settle}
use Rattle.pr_script.specs.declared.script.Script.{Script}
use Rattle.pr_gen.specs.Draws.{Drawn, ◌>>=◌, done, seeded, word, below}
use Rattle.pr_gen.specs.Topology.{each, front, declared}

-- one of fifty names with one of eight beginnings
unfoldable pub name : Drawn (List ℕ)
name = do
  letter ← below 8
  number ← below 50
  done (front letter ++ decimal number)

unfoldable pub write : Drawn Command
write = do
  client ← below 8
  o ← name
  body ← word
  done (Write client o (decimal body))

unfoldable pub read : Drawn Command
read = do
  client ← below 8
  o ← name
  done (Read client o)

unfoldable pub flow : Drawn Command
flow = do
  stream ← below 16
  more ← below 4
  done (Flow stream (more + 1))

unfoldable pub attach : Drawn Command
attach = do
  stream ← below 16
  done (Attach stream)

-- of ten steps five write, two read, two flow and one attaches
unfoldable pub step : Drawn Command
step = do
  kind ← below 10
  if nat_lt kind 5 then write else if nat_lt kind 7 then read else if nat_lt kind 9 then flow else attach

unfoldable pub steps : ℕ → Drawn (List Command)
steps zero = done []
steps (suc n) = do
  c ← step
  cs ← steps n
  done (c ∷ cs)

-- the steps, and then all is settled
abbrev pub drawn : ℕ → ℕ → List Command
drawn seed size = (steps size (seeded seed)).0 ++ Settle ∷ []

-- all streams are attached before
abbrev pub commands : ℕ → ℕ → List Command
commands seed size = each 16 Attach ++ drawn seed size

-- each command has a line of its own, from this one on
unfoldable pub numbered : ℕ → List Command → List (ℕ × Command)
numbered line [] = []
numbered line (c ∷ cs) = (line, c) ∷ numbered (line + 1) cs

-- the declarations stand in front
abbrev pub workload : ℕ → ℕ → Script
workload seed size = record { decls = record { list = declared }; commands = numbered (length declared + 1) (commands seed size) }
