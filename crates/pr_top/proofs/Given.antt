-- What the steps of a script gave, and one step more.
use Rattle.std.proofs.Common.{◌≡◌, ℕ, ◌+◌, List, [], ◌∷◌, ◌++◌, refl, sym, ◌∙◌, ap, subst, append_assoc, filter, map, reverse, length, arith}
use Rattle.std.specs.Prelude.{false, Bool, Some, None, Option}
use Rattle.std.proofs.lemmas.List.{append-nil, reverse-append}
use Rattle.pr_script.specs.declared.script.Script.{Script}
use Rattle.pr_script.specs.Steps.{Numbered, Step, steps_of}
use Rattle.pr_story.specs.History.{NodeEntry}
use Rattle.pr_story.specs.Scripts.{EachJob, Expect, Detach, Flow, Job, JobBegins, JobEntry, JobGives, Line, LineBegins, LineGives, Order, Phase, Settle, Single, attached_after, of_job}
use Rattle.pr_text.specs.Histories.{EachGives, attached_by, first_of, last_part, streams_of, unmet_at, unmet_from}
use Rattle.pr_text.specs.Steps.{step_line}
use Rattle.pr_text.proofs.RunsOn.{expects_more, gives_more}
use Rattle.pr_top.specs.Progress.{HasGiven, IsMadeBy}

pub mapped_more : (steps : List Step) (step : Step) → map step_line (steps ++ step ∷ []) ≡ map step_line steps ++ step_line step ∷ []
mapped_more [] step = refl
mapped_more (x ∷ steps) step = ap (λ (lines : List Line). step_line x ∷ lines) (mapped_more steps step)

pub mapped_long : (steps : List Step) → length (map step_line steps) ≡ length steps
mapped_long [] = refl
mapped_long (x ∷ steps) = let rest : length (map step_line steps) ≡ length steps = mapped_long steps in omega (arith, rest)

attached_more : (lines : List Line) (line : Line) (attached : ℕ → Bool) → attached_by (lines ++ line ∷ []) attached ≡ attached_after line (attached_by lines attached)
attached_more [] line attached = refl
attached_more (l ∷ lines) line attached = attached_more lines line (attached_after l attached)

last_more : (es : List NodeEntry) (parts : List (List NodeEntry)) (part : List NodeEntry) → last_part es (parts ++ part ∷ []) ≡ part
last_more es [] part = refl
last_more es (p ∷ parts) part = last_more p parts part

first_none : (o : Option ℕ) → first_of o None ≡ o
first_none None = refl
first_none (Some line) = refl

each_begins : (jobs : List Job) (k : ℕ) (xs : List JobEntry) → EachJob JobGives jobs k xs → EachJob JobBegins jobs k xs
each_begins [] k xs each = each
each_begins (job ∷ jobs) k xs each =
    (([], subst (λ (es : List NodeEntry). JobGives job es) (sym (append-nil (of_job xs k))) each.0), each_begins jobs (k + 1) xs each.1)

pub each_long : (order : Order) (streams : List ℕ) (attached : ℕ → Bool) (lines : List Line) (parts : List (List NodeEntry)) → EachGives order streams attached lines parts → length lines ≡ length parts
each_long order streams attached [] [] each = refl
each_long order streams attached [] (part ∷ parts) each = absurd each
each_long order streams attached (line ∷ lines) [] each = absurd each
each_long order streams attached (line ∷ lines) (part ∷ parts) each =
    let rest : length lines ≡ length parts = each_long order streams (attached_after line attached) lines parts each.1 in omega (arith, rest)

whole_of : (order : Order) (attached : List ℕ) (line : Line) (es : List NodeEntry) → LineGives order attached line es → (rest : List NodeEntry) × LineGives order attached line (es ++ rest)
whole_of order attached line es gives = ([], subst (λ (xs : List NodeEntry). LineGives order attached line xs) (sym (append-nil es)) gives)

-- a line that gave all began so
pub gave_begins : (order : Order) (attached : List ℕ) (line : Line) (es : List NodeEntry) → LineGives order attached line es → LineBegins order attached line es
gave_begins order attached (Single command) es gives = whole_of order attached (Single command) es gives
gave_begins order attached Expect es gives = whole_of order attached Expect es gives
gave_begins order attached (Detach s) es gives = whole_of order attached (Detach s) es gives
gave_begins order attached (Flow s turns) es gives = whole_of order attached (Flow s turns) es gives
gave_begins order attached Settle es gives = whole_of order attached Settle es gives
gave_begins order attached (Phase jobs) es gives = (gives.0, gives.1, each_begins jobs 0 gives.0 gives.2, gives.3)

module _ (order : Order) where
  -- ---- lists

  -- ---- one step more

  pub given_more : (s : Script) (was rest : List Numbered) (attached : ℕ → Bool) (last h new : List NodeEntry) (unmet now : Option ℕ) (step : Step)
      → steps_of was ≡ step ∷ steps_of rest → LineGives order (filter attached (streams_of s.decls.list)) (step_line step) (reverse new)
      → first_of unmet (unmet_from last (step ∷ []) (reverse new ∷ [])) ≡ first_of now None
      → HasGiven order s was attached last h unmet → HasGiven order s rest (attached_after (step_line step) attached) (reverse new) (new ++ h) now
  given_more s was rest attached last h new unmet now step steps gave judged g =
      let streams : List ℕ = streams_of s.decls.list in
      let none : ℕ → Bool = λ t. false in
      let lines : List Line = map step_line g.before in
      let mapped : map step_line (g.before ++ step ∷ []) ≡ lines ++ step_line step ∷ [] = mapped_more g.before step in
      let long : length g.before ≡ length g.parts = sym (mapped_long g.before) ∙ each_long order streams none lines g.parts g.each in
      let more = expects_more [] g.before g.parts step (reverse new) long in
      record {
        before = g.before ++ step ∷ [];
        parts = g.parts ++ reverse new ∷ [];
        steps = g.steps ∙ ap (λ (ss : List Step). g.before ++ ss) steps ∙ sym (append_assoc g.before (step ∷ []) (steps_of rest));
        each = subst (λ (ls : List Line). EachGives order streams none ls (g.parts ++ reverse new ∷ [])) (sym mapped)
            (gives_more order streams none lines g.parts (step_line step) (reverse new) g.each
            (subst (λ (f : ℕ → Bool). LineGives order (filter f streams) (step_line step) (reverse new)) g.attached_are gave));
        attached_are = ap (λ (f : ℕ → Bool). attached_after (step_line step) f) g.attached_are
            ∙ sym (attached_more lines (step_line step) none) ∙ ap (λ (ls : List Line). attached_by ls none) (sym mapped);
        whole = more.1 ∙ ap (λ (es : List NodeEntry). es ++ reverse new) g.whole ∙ sym (reverse-append new h);
        last_is = sym (last_more [] g.parts (reverse new));
        unmet_is = sym (first_none now) ∙ sym judged ∙ ap (λ (o : Option ℕ). first_of unmet o) (first_none (unmet_at step last))
            ∙ ap (λ (o : Option ℕ). first_of o (unmet_at step last)) g.unmet_is
            ∙ ap (λ (es : List NodeEntry). first_of (unmet_from [] g.before g.parts) (unmet_at step es)) g.last_is ∙ sym more.0;
      }

  -- ---- what a step made

  pub made_by : (s : Script) (was : List Numbered) (behind : List Step) (attached : ℕ → Bool) (last h new : List NodeEntry) (unmet : Option ℕ) (step : Step)
      → steps_of was ≡ step ∷ behind → LineBegins order (filter attached (streams_of s.decls.list)) (step_line step) (reverse new)
      → HasGiven order s was attached last h unmet → IsMadeBy order s h new unmet
  made_by s was behind attached last h new unmet step steps begins g = record {
    before = g.before;
    step = step;
    behind = behind;
    parts = g.parts;
    steps = g.steps ∙ ap (λ (ss : List Step). g.before ++ ss) steps;
    each = g.each;
    whole = g.whole;
    begins = subst (λ (f : ℕ → Bool). LineBegins order (filter f (streams_of s.decls.list)) (step_line step) (reverse new)) g.attached_are begins;
    unmet_is = g.unmet_is;
  }
