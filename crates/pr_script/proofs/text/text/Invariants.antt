use Rattle.std.proofs.Common.{◌≡◌, ◌+◌, ◌≤◌, length}
use Rattle.pr_script.specs.Texts.{text_at, with_front}
use Rattle.pr_script.proofs.text.text.Given as goal

abbrev pub invariant-loop : goal.invariant-loop
invariant-loop l = record {
  read : with_front l.out (text_at l.rest) ≡ text_at l.bytes;
  rest : length l.rest + l.counter ≤ length l.bytes;
}
