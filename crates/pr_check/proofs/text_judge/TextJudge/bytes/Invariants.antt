use Rattle.std.proofs.Common.{ℕ, List, ◌++◌, take}
use Rattle.pr_check.specs.Standing.{IsUsable}
use Rattle.pr_check.specs.Texts.{HasRead}
use Rattle.pr_check.proofs.text_judge.TextJudge.bytes.Given as goal

abbrev pub invariant-loop-b : goal.invariant-loop-b
invariant-loop-b l = record {
  read : (text : List ℕ) → HasRead l.fn.self text → HasRead l.self (text ++ take l.b-index l.piece);
  usable : IsUsable l.self.judge;
}
