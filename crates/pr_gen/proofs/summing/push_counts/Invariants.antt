use Rattle.std.specs.List.{flat_map}
use Rattle.std.specs.Prelude.{ℕ, List, ◌≡◌, ◌<◌, ◌++◌, get_or, take}
use Rattle.pr_story.specs.History.{NodeEntry}
use Rattle.pr_gen.specs.Summary.{count_line, count_of, words}
use Rattle.pr_gen.specs.declared.counted.Counted.TheVariants.{Writes}
use Rattle.pr_gen.proofs.summing.push_counts.Given as goal

-- the lines of the words before this one are written
abbrev pub invariant-loop-at : goal.invariant-loop-at
invariant-loop-at l =
    (h : List NodeEntry) → ((i : ℕ) → i < 16 → get_or l.counts i 0 ≡ count_of h (get_or words i Writes))
    → l.out ≡ l.initial.out ++ flat_map (count_line h) (take l.at words)
