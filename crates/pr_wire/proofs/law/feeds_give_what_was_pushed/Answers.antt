use Rattle.std.proofs.Common.{arith}
use Rattle.pr_wire.specs.Feeding.{new_feed}
use Rattle.pr_wire.proofs.FeedLemmas.{run_counts, run_gives}
use Rattle.pr_wire.proofs.law.feeds_give_what_was_pushed.Goals as goal

pub returns-clause-pushed : goal.returns-clause-pushed
returns-clause-pushed c limit events b run = run_gives events (new_feed limit) b run

pub returns-clause-given : goal.returns-clause-given
returns-clause-given c limit events b run = run_counts events (new_feed limit) b (omega arith) run
