-- One step of a script more.
use Rattle.std.proofs.Common.{◌≡◌, ℕ, List, [], ◌∷◌, ◌++◌, inl, inr, refl, sym, ◌∙◌, ap, subst, append_assoc, filter, map, reverse}
use Rattle.std.specs.Prelude.{false, Bool, IsTrue, Some, None, Option}
use Rattle.std.proofs.lemmas.List.{append-nil, reverse-append, reverse-reverse}
use Rattle.pr_script.specs.declared.script.Script.{Script}
use Rattle.pr_script.specs.Good.{AreGoodSteps, IsGood}
use Rattle.pr_script.specs.Steps.{AreWhole, Numbered, Step, steps_from, steps_of}
use Rattle.pr_sim.specs.Making.{declared_of}
use Rattle.pr_sim.specs.Running.{IsRunning}
use Rattle.pr_sim.specs.Stepping.{AreAttached}
use Rattle.pr_sim.specs.declared.engine.Engine.{Engine}
use Rattle.pr_story.specs.History.{NodeEntry}
use Rattle.pr_story.specs.Phases.{AreBegunAs, LineBeginsAs}
use Rattle.pr_story.specs.Scripts.{LineBegins, LineGives, Order, attached_after}
use Rattle.pr_story.proofs.Begun.{nothing_begins}
use Rattle.pr_story.proofs.Phases.{marked_is_begun}
use Rattle.pr_text.specs.Histories.{EachGives, HasBegun, HasBegunAs, IsRunOf, first_of, joined, streams_of, unmet_from}
use Rattle.pr_text.specs.Steps.{lines_of, step_line}
use Rattle.pr_top.specs.Progress.{HasCome, IsLast}
use Rattle.pr_top.proofs.Given.{given_more}
use Rattle.pr_top.proofs.Marks.{line_unmarked, lines_unmarked, unmarked}

-- what came before and a part more
joined_more : (h new : List NodeEntry) (part rest : List NodeEntry) → part ≡ reverse new → reverse h ++ (part ++ rest) ≡ reverse (new ++ h) ++ rest
joined_more h new part rest is =
    ap (λ (p : List NodeEntry). reverse h ++ (p ++ rest)) is
    ∙ sym (append_assoc (reverse h) (reverse new) rest)
    ∙ ap (λ (xs : List NodeEntry). xs ++ rest) (sym (reverse-append new h))

module _ (order : Order) where
  -- ---- lists

  -- ---- any step

  -- the step's line gave these entries, and the engine goes on behind it
  pub record IsStep (s : Script) (c : Numbered) (cs rest : List Numbered) (h : List NodeEntry) (e f : Engine) (unmet unmet_now : Option ℕ) (k : HasCome order s (c ∷ cs) h e unmet) (new : List NodeEntry) (step : Step) : Type 0 where
    pub steps : steps_of (c ∷ cs) ≡ step ∷ steps_of rest
    pub running : IsRunning (declared_of s.decls.list) (attached_after (step_line step) k.attached) (new ++ h) f
    pub gave : LineGives order (filter k.attached (streams_of s.decls.list)) (step_line step) (reverse new)
    pub numbers : List ℕ
    pub after_read : Bool
    pub same : AreAttached numbers (attached_after (step_line step) k.attached)
    pub good : AreGoodSteps s.decls.list numbers after_read (steps_of rest)
    pub whole : AreWhole rest
    pub read : IsTrue after_read → IsLast (reverse new) (new ++ h)
    pub judged : (steps : List Step) (parts : List (List NodeEntry)) → first_of unmet (unmet_from k.last (step ∷ steps) (reverse new ∷ parts)) ≡ first_of unmet_now (unmet_from (reverse new) steps parts)

  pub come_more : (s : Script) (c : Numbered) (cs rest : List Numbered) (h : List NodeEntry) (e f : Engine) (unmet unmet_now : Option ℕ) (k : HasCome order s (c ∷ cs) h e unmet) (new : List NodeEntry) (step : Step)
      → IsStep s c cs rest h e f unmet unmet_now k new step → HasCome order s rest (new ++ h) f unmet_now
  come_more s c cs rest h e f unmet unmet_now k new step i = record {
    attached = attached_after (step_line step) k.attached;
    numbers = i.numbers;
    after_read = i.after_read;
    last = reverse new;
    decls = k.decls;
    running = i.running;
    same = i.same;
    good = i.good;
    whole = i.whole;
    read = i.read;
    gives = λ parts each.
        let old = k.gives (reverse new ∷ parts) (subst (λ (steps : List Step). EachGives order (streams_of s.decls.list) k.attached (map step_line steps) (reverse new ∷ parts)) (sym i.steps) (i.gave, each)) in (
          old.0,
          old.1,
          old.2 ∙ joined_more h new (reverse new) (joined parts) refl,
          old.3 ∙ ap (λ (steps : List Step). first_of unmet (unmet_from k.last steps (reverse new ∷ parts))) i.steps ∙ i.judged (steps_of rest) parts,
        );
    given = given_more order s (c ∷ cs) rest k.attached k.last h new unmet unmet_now step i.steps i.gave (i.judged [] []) k.given;
    begins = λ jobs es begun.
        subst (λ (xs : List NodeEntry). AreBegunAs jobs order (streams_of s.decls.list) (λ t. false) (lines_of s.commands) xs) (joined_more h new (reverse new) es refl)
        (k.begins jobs (reverse new ++ es) (subst (λ (steps : List Step). AreBegunAs jobs order (streams_of s.decls.list) k.attached (map step_line steps) (reverse new ++ es)) (sym i.steps) (inr (reverse new, es, refl, i.gave, begun))));
  }

  -- its line was cut off behind these, and these jobs of it are whole
  pub stop_marked : (s : Script) (c : Numbered) (cs rest : List Numbered) (h : List NodeEntry) (e : Engine) (unmet : Option ℕ) (k : HasCome order s (c ∷ cs) h e unmet) (new : List NodeEntry) (step : Step)
      (jobs : ℕ → Bool) → steps_of (c ∷ cs) ≡ step ∷ steps_of rest → LineBeginsAs jobs order (filter k.attached (streams_of s.decls.list)) (step_line step) (reverse new) → HasBegunAs jobs order s (new ++ h)
  stop_marked s c cs rest h e unmet k new step jobs steps begun =
      subst (λ (xs : List NodeEntry). AreBegunAs jobs order (streams_of s.decls.list) (λ t. false) (lines_of s.commands) xs) (sym (reverse-append new h))
      (k.begins jobs (reverse new) (subst (λ (ss : List Step). AreBegunAs jobs order (streams_of s.decls.list) k.attached (map step_line ss) (reverse new)) (sym steps) (inl begun)))

  pub stop_more : (s : Script) (c : Numbered) (cs rest : List Numbered) (h : List NodeEntry) (e : Engine) (unmet : Option ℕ) (k : HasCome order s (c ∷ cs) h e unmet) (new : List NodeEntry) (step : Step)
      → steps_of (c ∷ cs) ≡ step ∷ steps_of rest → LineBegins order (filter k.attached (streams_of s.decls.list)) (step_line step) (reverse new) → HasBegun order s (new ++ h)
  stop_more s c cs rest h e unmet k new step steps begun =
      marked_is_begun unmarked order (streams_of s.decls.list) (lines_of s.commands) (new ++ h)
      (stop_marked s c cs rest h e unmet k new step unmarked steps (line_unmarked order (filter k.attached (streams_of s.decls.list)) (step_line step) (reverse new) begun))

  -- ---- the beginning and the end

  pub start : (s : Script) (e : Engine) → IsGood s → IsRunning (declared_of s.decls.list) (λ t. false) [] e → HasCome order s s.commands [] e None
  start s e good running = record {
    attached = λ t. false;
    numbers = [];
    after_read = false;
    last = [];
    decls = good.decls;
    running = running;
    same = λ t. refl;
    good = good.steps;
    whole = good.whole;
    read = λ is. absurd (cc);
    gives = λ parts each. (parts, each, refl, refl);
    given = record { before = []; parts = []; steps = refl; each = tt; attached_are = refl; whole = refl; last_is = refl; unmet_is = refl };
    begins = λ jobs es begun. begun;
  }

  -- all commands were run
  pub ended : (s : Script) (h : List NodeEntry) (e : Engine) (unmet : Option ℕ) → HasCome order s [] h e unmet → IsRunOf order s h unmet
  unfolding steps_from
  ended s h e unmet k =
      let all = k.gives [] tt in
      record {
        parts = all.0;
        each = all.1;
        whole = sym (reverse-reverse h) ∙ ap (λ (xs : List NodeEntry). reverse xs) (sym (all.2 ∙ append-nil (reverse h)));
        first = first_none unmet ∙ sym all.3;
      }
    where
      first_none : (o : Option ℕ) → o ≡ first_of o None
      first_none None = refl
      first_none (Some line) = refl

  -- the run has begun wherever it is
  pub begun : (s : Script) (rest : List Numbered) (h : List NodeEntry) (e : Engine) (unmet : Option ℕ) → HasCome order s rest h e unmet → HasBegun order s h
  begun s rest h e unmet k =
      marked_is_begun unmarked order (streams_of s.decls.list) (lines_of s.commands) h
      (subst (λ (xs : List NodeEntry). AreBegunAs unmarked order (streams_of s.decls.list) (λ t. false) (lines_of s.commands) xs) (append-nil (reverse h))
      (k.begins unmarked [] (lines_unmarked order (streams_of s.decls.list) k.attached (map step_line (steps_of rest)) [] (nothing_begins.lines order (streams_of s.decls.list) k.attached (map step_line (steps_of rest))))))
