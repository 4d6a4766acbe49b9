use Rattle.std.proofs.Common.{◌≡◌, ◌+◌, ◌≤◌, length}
use Rattle.pr_script.specs.Fields.{fields_of}
use Rattle.pr_script.specs.Sets.{sets_of, after_sets}
use Rattle.pr_script.proofs.sets.sets.Given as goal

abbrev pub invariant-loop : goal.invariant-loop
invariant-loop l = record {
  read : after_sets l.out (sets_of (fields_of l.rest)) ≡ sets_of (fields_of l.bytes);
  rest : length l.rest + l.counter ≤ length l.bytes;
}
