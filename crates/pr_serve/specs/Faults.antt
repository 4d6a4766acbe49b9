-- Which fault is answered.
use Rattle.std.specs.Prelude.{ℕ}
use Rattle.pr_inval.specs.declared.node_fault.NodeFault.{NodeFault}
use Rattle.pr_inval.specs.declared.node_fault.NodeFault.TheVariants as node_faults
use Rattle.pr_serve.specs.declared.serve_fault.ServeFault.{ServeFault}
use Rattle.pr_serve.specs.declared.serve_fault.ServeFault.TheVariants as faults
use Rattle.pr_serve.specs.declared.stop.Stop.{Stop}
use Rattle.pr_serve.specs.declared.stop.Stop.TheVariants as stops

-- the fault of a stop at what begins at this byte
abbrev pub fault_at : Stop → ℕ → ServeFault
fault_at stops.Bad at = faults.BadBytes at
fault_at stops.Failed at = faults.ReadFault
fault_at stops.TooLarge at = faults.TooLarge
fault_at stops.NoMemory at = faults.NoMemory

-- the fault of a node
abbrev pub fault_for : NodeFault → ServeFault
fault_for (node_faults.Worn at) = faults.Worn at
fault_for node_faults.NoMemory = faults.NoMemory
