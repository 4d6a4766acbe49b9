-- Where the lines of a script's commands begin.
use Rattle.std.proofs.Common.{◌≡◌, ℕ, ◌+◌, ◌≤◌, true, false, List, ◌∷◌, ◌++◌, length, map, take, drop, sym, ap, ◌∙◌, arith}
use Rattle.std.specs.List.{position_or_len}
use Rattle.std.proofs.lemmas.List.{drop_all, append-nil}
use Rattle.pr_script.specs.Steps.{Numbered, is_phase, is_end, steps_from, AreWhole}
use Rattle.pr_script.proofs.Stepping.{step_alone, step_of_phase}
use Rattle.pr_story.specs.Scripts as scripts
use Rattle.pr_text.specs.Plain.{IsFirst}
use Rattle.pr_text.specs.Steps.{line_of, jobs_of, step_line, lines_of}

pub first_alone : (c : Numbered) (behind : List Numbered) (line : scripts.Line) → is_phase c.1 ≡ false → AreWhole (c ∷ behind) → line ≡ line_of c.1 → IsFirst (c ∷ behind) behind line 0
first_alone c behind line alone w e =
    let s = step_alone c behind alone in
    record { within = omega arith; whole = s.1 w; lines = ap (map step_line) s.0 ∙ ap (λ (x : scripts.Line). x ∷ lines_of behind) (sym e) }

pub first_phase : (c : Numbered) (behind : List Numbered) (n : ℕ) (jobs : List scripts.Job) → is_phase c.1 ≡ true → AreWhole (c ∷ behind)
    → n ≡ position_or_len (λ (x : Numbered). is_end x.1) behind → jobs ≡ jobs_of (take n behind) → IsFirst (c ∷ behind) behind (scripts.Phase jobs) (n + 1)
first_phase c behind n jobs begins w e j =
    let s = step_of_phase c behind n begins e w in
    let inner = s.0 in
    record { within = omega (arith, inner); whole = s.2; lines = ap (map step_line) s.1 ∙ ap (λ (x : List scripts.Job). scripts.Phase x ∷ lines_of (drop (n + 1) behind)) (sym j) }

pub last_line : (cs : List Numbered) (at : ℕ) (out all : List scripts.Line) → length cs ≤ at → out ++ lines_of (drop at cs) ≡ all → out ≡ all
unfolding steps_from
last_line cs at out all le h = sym (append-nil out) ∙ (ap (λ (x : List Numbered). out ++ lines_of x) (sym (drop_all at cs le)) ∙ h)
