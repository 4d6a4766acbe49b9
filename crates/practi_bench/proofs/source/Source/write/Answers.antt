use Rattle.std.proofs.Common.{ℕ, List, sym, subst}
use Rattle.pr_inval.specs.Standing as Standing
use Rattle.pr_inval.specs.Standing.{Standing}
use Rattle.pr_node.specs.Calls.{Adds, AddsOfClient}
use Rattle.pr_node.specs.Scanning.{IsScanOf, Scanned}
use Rattle.pr_node.specs.Stored.{NodeMeaning, means}
use Rattle.pr_node.proofs.Scanning.{scan_kept}
use Rattle.pr_story.specs.declared.entry.Entry.{Entry}
use Rattle.practi_bench.proofs.source.Source.write.Goals as goal

-- the scan stays right over a client's call
scan_called : (scan : Scanned) (session : Standing) (a b : NodeMeaning) (needs : List ℕ) (caller : ℕ) (P : Entry → Type 0) → AddsOfClient a b needs caller P → IsScanOf scan session a.journal → IsScanOf scan session b.journal
scan_called scan session a b needs caller P adds so =
    let x : Adds a b (λ _. session) (λ _. needs) caller P = adds (λ _. session) in
    subst (λ (j : List Entry). IsScanOf scan session j) (sym x.follows) (scan_kept scan session x.entry a.journal so)

pub invariant_of-self-2 : goal.invariant_of-self-2
invariant_of-self-2 c = (
  c.self.invariant.0,
  scan_called c.self.inside.scan (Standing.means c.self.inside.session).standing (means c.self.inside.node) (means c.write.new.self) _ _ _ c.in_ok-write.ensures.ok c.self.invariant.1,
)
