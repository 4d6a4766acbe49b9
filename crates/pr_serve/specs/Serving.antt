-- How a server ends.
use Rattle.std.specs.Prelude.{◌≡◌, ◌⊎◌, ◌≤◌, ◌<◌, ◌+◌, ℕ, List, [], ◌++◌, length, Option, Result, Ok, Err}
use Rattle.std.specs.Io.KnownBytes.{Consumes, IsAtEnd}
use Rattle.pr_node.specs.Stored.{NodeMeaning}
use Rattle.pr_ports.specs.Faults.{HasRisen}
use Rattle.pr_serve.specs.declared.ask.Ask.{Ask}
use Rattle.pr_serve.specs.declared.serve_fault.ServeFault.{ServeFault}
use Rattle.pr_serve.specs.declared.serve_fault.ServeFault.TheVariants as faults
use Rattle.pr_serve.specs.Answers.{HasBroken}
use Rattle.pr_serve.specs.Asking.{IsAskText, IsAskUnderWay}
use Rattle.pr_serve.specs.Asks.{IsAsk, ask_text, AreAsks, asks_text}
use Rattle.pr_serve.specs.Inputs.{NoneBegins, NoneStands}
use Rattle.pr_serve.specs.Output.{AreOutputs, begun}
use Rattle.pr_serve.specs.Sinks.{Sink, Wrote}

-- the source, the sink and the node at some moment
pub record Server : Type 0 where
  pub left : Option (List ℕ)
  pub faults : ℕ
  pub sink : Sink
  pub node : NodeMeaning

-- from a to b these asks were read, and then these bytes; the text grew by the outputs of the asks
pub record HasServed (a b : Server) (qs : List Ask) (rest : List ℕ) : Type 0 where
  pub asks : AreAsks qs
  pub read : Consumes a.left b.left (asks_text qs ++ rest)
  pub text : List ℕ
  pub outputs : AreOutputs a.node.sets a.node.id a.node.journal qs text b.node.journal
  pub wrote : Wrote a.sink b.sink text
  pub same_id : b.node.id ≡ a.node.id
  pub same_sets : b.node.sets ≡ a.node.sets

module _ (a b : Server) where
  -- all asks were read and answered
  abbrev pub ServedAll : ℕ → Type 0
  ServedAll count = (qs : List Ask) × HasServed a b qs [] × (count ≡ length qs) × (length (asks_text qs) ≤ 67108864) × IsAtEnd b.left

  -- at this place no ask stands
  abbrev pub IsBadAt : ℕ → Type 0
  IsBadAt at =
      (qs : List Ask) × (rest : List ℕ) × HasServed a b qs rest × (at ≡ length (asks_text qs)) × (at < 67108864)
      × (1 ≤ length rest)
      × (NoneBegins IsAskText rest ⊎ (NoneStands IsAskText rest × IsAtEnd b.left))

  -- the source failed within an ask, or before it
  abbrev pub IsReadFault : Type 0
  IsReadFault =
      HasRisen a.faults b.faults × ((qs : List Ask) × (rest : List ℕ) × HasServed a b qs rest × NoneStands IsAskText rest)

  -- one byte more was read than may be taken, and an ask was under way before it, or nothing
  abbrev pub IsTooLarge : Type 0
  IsTooLarge =
      (qs : List Ask) × (rest : List ℕ) × (more : List ℕ) × HasServed a b qs (rest ++ more)
      × (length (asks_text qs) + length rest ≡ 67108864) × (1 ≤ length more)
      × IsAskUnderWay rest × NoneStands IsAskText rest

  -- after some asks that were answered, the answer to one more was broken off
  abbrev pub BreaksBy : ServeFault → Type 0
  BreaksBy fault =
      (qs : List Ask) × (q : Ask) × (more : List ℕ) × (c : Server) × HasServed a c qs (ask_text q ++ more) × IsAsk q
      × (b.left ≡ c.left) × HasBroken c.node b.node q.stream (begun c.node.journal q) c.sink b.sink fault

  abbrev pub ServesSo : Result ℕ ServeFault → Type 0
  ServesSo (Ok count) = ServedAll count
  ServesSo (Err (faults.BadBytes at)) = IsBadAt at
  ServesSo (Err faults.ReadFault) = IsReadFault
  ServesSo (Err faults.WriteFault) = BreaksBy faults.WriteFault
  ServesSo (Err faults.TooLarge) = IsTooLarge
  ServesSo (Err (faults.Worn at)) = BreaksBy (faults.Worn at)
  ServesSo (Err faults.NoMemory) = BreaksBy faults.NoMemory ⊎ ((qs : List Ask) × (rest : List ℕ) × HasServed a b qs rest)
