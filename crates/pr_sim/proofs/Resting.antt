-- A stream comes to rest turn by turn, the streams of a round one after another, and a settle round by round.
use Rattle.std.proofs.Common.{◌≡◌, ◌⊎◌, ℕ, suc, List, [], ◌∷◌, ◌++◌, Result, Ok, Err, inl, inr, refl, sym, ◌∙◌, ap, subst, reverse}
use Rattle.std.specs.Prelude.{true, false, Bool, ◌||◌}
use Rattle.std.proofs.lemmas.List.{append-nil, append_assoc}
use Rattle.pr_inval.specs.declared.node_fault.NodeFault.{NodeFault}
use Rattle.pr_story.specs.declared.event.Event.{Event}
use Rattle.pr_story.specs.declared.event.Event.TheVariants.{Idle}
use Rattle.pr_story.specs.History.{NodeEntry}
use Rattle.pr_story.specs.Scripts.{AreRound, AreRounds, AreSettled, HasSent, events_of}
use Rattle.pr_sim.specs.Running.{IsRunning}
use Rattle.pr_story.specs.Counts.{Declared}
use Rattle.pr_sim.specs.Settles.{SettlesOn, IsAdvance, LeadsToRest, MakesPart, just}
use Rattle.pr_sim.proofs.Attaching.{just_none, just_one}
use Rattle.pr_sim.proofs.Settles.{goes_nowhere, sends_or_not, then_more, then_start}
use Rattle.pr_sim.specs.declared.engine.Engine.{Engine}

or_true : (b : Bool) → (b || true) ≡ true
or_true true = refl
or_true false = refl

or_false : (b : Bool) → (b || false) ≡ b
or_false true = refl
or_false false = refl

-- ---- the turns of a stream

rest_start : (s : ℕ) (x y : Bool) (a b : List Event) → LeadsToRest s a → IsAdvance s y b → (rest : List Event) × (z : Bool) × AreSettled s (a ++ (b ++ rest))
rest_start s x true a b p q = (Idle s ∷ [], false, p (b ++ Idle s ∷ []) (q (Idle s ∷ []) refl))
rest_start s x false a b p q = ([], false, p (b ++ []) (subst (λ (es : List Event). AreSettled s es) (sym (append-nil b)) q))

module _ (d : Declared) (attached : ℕ → Bool) (h : List NodeEntry) (f : Engine) (s : ℕ) where
  pub nothing_led : IsRunning d attached h f → MakesPart (λ sent. LeadsToRest s) d attached h f (Ok false)
  nothing_led k = ([], k, (λ more m. m), goes_nowhere d h)

  pub advance_more : (x : Bool) (a : List NodeEntry) → LeadsToRest s (events_of (reverse a)) → SettlesOn d h a x → (y : Bool) → y ≡ true → MakesPart (IsAdvance s) d attached (a ++ h) f (Ok y) → MakesPart (λ sent. LeadsToRest s) d attached h f (Ok true)
  advance_more x a p on y is m =
      subst (λ (b : Bool). MakesPart (λ sent. LeadsToRest s) d attached h f (Ok b)) (or_true x)
      (then_more d attached h f (λ sent. LeadsToRest s) (λ sent. LeadsToRest s) (λ sent. LeadsToRest s)
      (λ x y a b p q says more m. subst (λ (es : List Event). AreSettled s es) (sym (append_assoc a b more)) (p (b ++ more) (q more m)))
      a x true p on (subst (λ (b : Bool). MakesPart (IsAdvance s) d attached (a ++ h) f (Ok b)) is m))

  pub advance_last : (x : Bool) (a : List NodeEntry) → LeadsToRest s (events_of (reverse a)) → SettlesOn d h a x → (y : Bool) → y ≡ false → MakesPart (IsAdvance s) d attached (a ++ h) f (Ok y) → MakesPart (λ sent. AreSettled s) d attached h f (Ok x)
  advance_last x a p on y is m =
      subst (λ (b : Bool). MakesPart (λ sent. AreSettled s) d attached h f (Ok b)) (or_false x)
      (then_more d attached h f (λ sent. LeadsToRest s) (λ sent. AreSettled s) (λ sent. AreSettled s)
      (λ x y a b p q says. p b q)
      a x false p on (subst (λ (b : Bool). MakesPart (IsAdvance s) d attached (a ++ h) f (Ok b)) is m))

  pub advance_stops : (x : Bool) (a : List NodeEntry) (fault : NodeFault) → LeadsToRest s (events_of (reverse a)) → MakesPart (IsAdvance s) d attached (a ++ h) f (Err fault) → MakesPart (λ sent. AreSettled s) d attached h f (Err fault)
  advance_stops x a fault p m = then_start d attached h f (λ sent. LeadsToRest s) (IsAdvance s) (λ sent. AreSettled s) (rest_start s) a x fault p m

  -- a stream as a round of its own
  one_round : (a : List Event) → AreSettled s a → AreRound (s ∷ []) a
  one_round a p = (a, [], sym (append-nil a), p, refl)

  pub rest_round : attached s ≡ true → (r : Result Bool NodeFault) → MakesPart (λ sent. AreSettled s) d attached h f r → MakesPart (λ sent. AreRound (just attached s)) d attached h f r
  rest_round is (Ok sent) (new, running, p, on) =
      (new, running, subst (λ (xs : List ℕ). AreRound xs (events_of (reverse new))) (sym (just_one attached s is)) (one_round (events_of (reverse new)) p), on)
  rest_round is (Err fault) (new, tells, (rest, z, p), cause) =
      (new, tells, (rest, z, subst (λ (xs : List ℕ). AreRound xs (events_of (reverse new) ++ rest)) (sym (just_one attached s is)) (one_round (events_of (reverse new) ++ rest) p)), cause)

  pub no_round : attached s ≡ false → IsRunning d attached h f → MakesPart (λ sent. AreRound (just attached s)) d attached h f (Ok false)
  no_round off k = ([], k, subst (λ (xs : List ℕ). AreRound xs []) (sym (just_none attached s off)) refl, goes_nowhere d h)

-- ---- the streams of a round

round_both : (xs ys : List ℕ) (a b : List Event) → AreRound xs a → AreRound ys b → AreRound (xs ++ ys) (a ++ b)
round_both [] ys a b p q = subst (λ (es : List Event). AreRound ys (es ++ b)) (sym p) q
round_both (s ∷ xs) ys a b (turns, rest, is, settled, more) q =
    (turns, rest ++ b, ap (λ (es : List Event). es ++ b) is ∙ append_assoc turns rest b, settled, round_both xs ys rest b more q)

pub idle_round : (xs : List ℕ) → (events : List Event) × AreRound xs events × (HasSent events → ⊥)
idle_round [] = ([], refl, λ sent. sent)
idle_round (s ∷ xs) = let more = idle_round xs in (Idle s ∷ more.0, (Idle s ∷ [], more.0, refl, refl, more.1), more.2)

module _ (d : Declared) (attached : ℕ → Bool) (h : List NodeEntry) (f : Engine) (xs ys : List ℕ) where
  pub round_more : (a : List NodeEntry) (x : Bool) → AreRound xs (events_of (reverse a)) → SettlesOn d h a x → (y : Bool) → MakesPart (λ sent. AreRound ys) d attached (a ++ h) f (Ok y) → MakesPart (λ sent. AreRound (xs ++ ys)) d attached h f (Ok (x || y))
  round_more a x p on y m =
      then_more d attached h f (λ sent. AreRound xs) (λ sent. AreRound ys) (λ sent. AreRound (xs ++ ys)) (λ x y a b p q says. round_both xs ys a b p q) a x y p on m

  pub round_stops : (zs : List ℕ) (a : List NodeEntry) (x : Bool) (fault : NodeFault) → AreRound xs (events_of (reverse a)) → MakesPart (λ sent. AreRound ys) d attached (a ++ h) f (Err fault) → MakesPart (λ sent. AreRound ((xs ++ ys) ++ zs)) d attached h f (Err fault)
  round_stops zs a x fault p m =
      let idle = idle_round zs in
      then_start d attached h f (λ sent. AreRound xs) (λ sent. AreRound ys) (λ sent. AreRound ((xs ++ ys) ++ zs))
      (λ x y a b p q. (
        idle.0,
        false,
        subst (λ (es : List Event). AreRound ((xs ++ ys) ++ zs) es) (append_assoc a b idle.0) (round_both (xs ++ ys) zs (a ++ b) idle.0 (round_both xs ys a b p q) idle.1),
      )) a x fault p m

-- ---- the rounds

-- with these events before them, rounds are rounds
abbrev pub RoundsLead : List ℕ → List Event → Type 0
RoundsLead xs events = (n : ℕ) (more : List Event) → AreRounds xs n more → (m : ℕ) × AreRounds xs m (events ++ more)

rounds_start : (xs : List ℕ) (a b : List Event) → RoundsLead xs a → AreRound xs b → HasSent b ⊎ (HasSent b → ⊥) → (rest : List Event) × (z : Bool) × ((n : ℕ) × AreRounds xs n (a ++ (b ++ rest)))
rounds_start xs a b p q (inl sent) = let idle = idle_round xs in (idle.0, false, p 1 (b ++ idle.0) (b, idle.0, refl, q, sent, (idle.1, idle.2)))
rounds_start xs a b p q (inr none) = ([], false, p 0 (b ++ []) (subst (λ (es : List Event). AreRound xs es × (HasSent es → ⊥)) (sym (append-nil b)) (q, none)))

module _ (d : Declared) (attached : ℕ → Bool) (h : List NodeEntry) (f : Engine) (xs : List ℕ) where
  pub no_rounds : IsRunning d attached h f → MakesPart (λ sent. RoundsLead xs) d attached h f (Ok false)
  no_rounds k = ([], k, (λ n more r. (n, r)), goes_nowhere d h)

  pub rounds_more : (a : List NodeEntry) (x : Bool) → RoundsLead xs (events_of (reverse a)) → SettlesOn d h a x → (y : Bool) → y ≡ true → MakesPart (λ sent. AreRound xs) d attached (a ++ h) f (Ok y) → (sent : Bool) × MakesPart (λ sent. RoundsLead xs) d attached h f (Ok sent)
  rounds_more a x p on y is m = by (subst (λ (b : Bool). MakesPart (λ sent. AreRound xs) d attached (a ++ h) f (Ok b)) is m)
    where
      by : MakesPart (λ sent. AreRound xs) d attached (a ++ h) f (Ok true) → (sent : Bool) × MakesPart (λ sent. RoundsLead xs) d attached h f (Ok sent)
      by (new, running, q, more) = (
        x || true,
        then_more d attached h f (λ sent. RoundsLead xs) (λ sent es. AreRound xs es × HasSent es) (λ sent. RoundsLead xs)
            (λ x y a b p q says n more r.
            let all = p (suc n) (b ++ more) (b, more, refl, q.0, q.1, r) in
            (all.0, subst (λ (es : List Event). AreRounds xs all.0 es) (sym (append_assoc a b more)) all.1))
            a x true p on (new, running, (q, more.says), more),
      )

  pub rounds_last : (a : List NodeEntry) (x : Bool) → RoundsLead xs (events_of (reverse a)) → SettlesOn d h a x → (y : Bool) → y ≡ false → MakesPart (λ sent. AreRound xs) d attached (a ++ h) f (Ok y) → (sent : Bool) × MakesPart (λ sent es. (n : ℕ) × AreRounds xs n es) d attached h f (Ok sent)
  rounds_last a x p on y is m = by (subst (λ (b : Bool). MakesPart (λ sent. AreRound xs) d attached (a ++ h) f (Ok b)) is m)
    where
      by : MakesPart (λ sent. AreRound xs) d attached (a ++ h) f (Ok false) → (sent : Bool) × MakesPart (λ sent es. (n : ℕ) × AreRounds xs n es) d attached h f (Ok sent)
      by (new, running, q, more) = (
        x || false,
        then_more d attached h f (λ sent. RoundsLead xs) (λ sent es. AreRound xs es × (HasSent es → ⊥)) (λ sent es. (n : ℕ) × AreRounds xs n es)
            (λ x y a b p q says. p 0 b (q.0, q.1)) a x false p on (new, running, (q, more.says), more),
      )

  pub rounds_stop : (a : List NodeEntry) (x : Bool) (fault : NodeFault) → RoundsLead xs (events_of (reverse a)) → MakesPart (λ sent. AreRound xs) d attached (a ++ h) f (Err fault) → MakesPart (λ sent es. (n : ℕ) × AreRounds xs n es) d attached h f (Err fault)
  rounds_stop a x fault p m =
      then_start d attached h f (λ sent. RoundsLead xs) (λ sent. AreRound xs) (λ sent es. (n : ℕ) × AreRounds xs n es)
      (λ x y a b p q. rounds_start xs a b p q (sends_or_not b)) a x fault p m
