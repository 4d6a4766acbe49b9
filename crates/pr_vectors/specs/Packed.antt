-- The vector that packed clocks are.
use Rattle.std.specs.Prelude.{ℕ, List}
use Rattle.pr_vectors.specs.Vector.{unpacked}
use Rattle.pr_vectors.specs.declared.clocks.Clocks.{Clocks}
use Rattle.pr_vectors.specs.declared.clocks.Clocks.TheVariants.{Few, Short, Near, Far}

-- the clocks of the first nodes, those of all nodes, or the vector itself
abbrev pub vector_in : Clocks → List ℕ
vector_in (Few few) = unpacked few
vector_in (Short short) = short.value
vector_in (Near near) = near.value
vector_in (Far far) = far.value
