use Rattle.std.specs.Prelude.{ℕ, ◌≡◌, ◌<◌, ◌≤◌, ◌+◌, cond, get_or, length}
use Rattle.pr_gen.specs.Summary.{is_counted, words}
use Rattle.pr_gen.specs.declared.counted.Counted.TheVariants.{Writes}
use Rattle.pr_gen.proofs.summing.add.Given as goal

-- the words before this one have counted the event, and no other
abbrev pub invariant-loop-at : goal.invariant-loop-at
invariant-loop-at l = record {
  many : length l.counts ≡ 16;
  counted : (i : ℕ) → i < l.at → get_or l.counts i 0 ≡ get_or l.initial.counts i 0 + cond (is_counted (get_or words i Writes) l.event) 1 0;
  rest : (i : ℕ) → l.at ≤ i → get_or l.counts i 0 ≡ get_or l.initial.counts i 0;
}
