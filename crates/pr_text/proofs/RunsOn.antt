-- A run that goes on by one line more.
use Rattle.std.proofs.Common.{◌≡◌, ℕ, List, [], ◌∷◌, ◌++◌, Option, Some, None, refl, sym, ap, ◌∙◌, append_assoc, append-nil, arith}
use Rattle.std.specs.Prelude.{length}
use Rattle.pr_script.specs.Steps.{Step}
use Rattle.pr_story.specs.History.{NodeEntry}
use Rattle.pr_story.specs.Scripts.{attached_after}
use Rattle.pr_text.specs.Histories.{first_of, joined, last_part, unmet_at, unmet_from}
use Rattle.pr_text.specs.Laws.{LinesGoOn, ExpectationsGoOn}

pub gives_more : LinesGoOn
gives_more order streams attached [] [] line part h g = (g, tt)
gives_more order streams attached [] (p ∷ parts) line part h g = absurd h
gives_more order streams attached (l ∷ lines) [] line part h g = absurd h
gives_more order streams attached (l ∷ lines) (p ∷ parts) line part h g = (h.0, gives_more order streams (attached_after l attached) lines parts line part h.1 g)

first_again : (a b c : Option ℕ) → first_of a (first_of b c) ≡ first_of (first_of a b) c
first_again None b c = refl
first_again (Some n) b c = refl

first_none : (a : Option ℕ) → first_of a None ≡ a
first_none None = refl
first_none (Some n) = refl

joined_more : (parts : List (List NodeEntry)) (part : List NodeEntry) → joined (parts ++ part ∷ []) ≡ joined parts ++ part
joined_more [] part = append-nil part
joined_more (p ∷ parts) part = ap (λ (x : List NodeEntry). p ++ x) (joined_more parts part) ∙ sym (append_assoc p (joined parts) part)

unmet_more : (es : List NodeEntry) (steps : List Step) (parts : List (List NodeEntry)) (step : Step) (part : List NodeEntry) → length steps ≡ length parts
    → unmet_from es (steps ++ step ∷ []) (parts ++ part ∷ []) ≡ first_of (unmet_from es steps parts) (unmet_at step (last_part es parts))
unmet_more es [] [] step part e = first_none (unmet_at step es)
unmet_more es [] (p ∷ parts) step part e = absurd (omega (arith, e))
unmet_more es (s ∷ steps) [] step part e = absurd (omega (arith, e))
unmet_more es (s ∷ steps) (p ∷ parts) step part e =
    ap (λ (x : Option ℕ). first_of (unmet_at s es) x) (unmet_more p steps parts step part (omega (arith, e)))
    ∙ first_again (unmet_at s es) (unmet_from p steps parts) (unmet_at step (last_part p parts))

pub expects_more : ExpectationsGoOn
expects_more es steps parts step part e = (unmet_more es steps parts step part e, joined_more parts part)
