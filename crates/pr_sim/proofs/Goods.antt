-- What a script's good commands ask for is there.
use Rattle.std.proofs.Common.{◌≡◌, ℕ, ◌<◌, ◌≤◌, List, [], ◌∷◌, ◌++◌, inl, inr, refl, sym, ◌∙◌, ap, subst, length, nat_eq, arith}
use Rattle.std.specs.Prelude.{true, false, Bool, IsTrue, ◌||◌, ◌&&◌, not, cond}
use Rattle.std.specs.List.{AllByRecursion}
use Rattle.std.proofs.lemmas.Bool.{cases_eq}
use Rattle.std.proofs.lemmas.Bool.Decides.{Decides-eqb}
use Rattle.pr_script.specs.declared.command.Command.{Command}
use Rattle.pr_script.specs.declared.command.Command.TheVariants as commands
use Rattle.pr_script.specs.declared.decl.Decl.{Decl}
use Rattle.pr_script.specs.declared.kind.Kind.TheVariants as kinds
use Rattle.pr_script.specs.Good.{IsGoodCommand, IsGoodJobLine, IsNumberOf}
use Rattle.pr_script.specs.Known.{has_number, with_number, without_number}
use Rattle.pr_story.specs.History.{NodeEntry}
use Rattle.pr_sim.specs.Making.{declared_of}
use Rattle.pr_script.specs.Steps.{Numbered}
use Rattle.pr_sim.specs.Phasing.{GoodPhaseCanRun, IsJobLine}
use Rattle.pr_sim.specs.Running.{IsRunning}
use Rattle.pr_sim.specs.Stepping.{AreAttached, AttachedTogether, CanRun, CanSend, GoodCanRun}
use Rattle.pr_sim.specs.declared.engine.Engine.{Engine}

-- ---- good commands

module _ (ds : List Decl) (numbers : List ℕ) (attached : ℕ → Bool) (h : List NodeEntry) (e : Engine) (k : IsRunning (declared_of ds) attached h e) (same : AreAttached numbers attached) where
  has_node : (n : ℕ) → IsNumberOf ds kinds.Node n → n < length e.nodes.items
  has_node n is = subst (λ (i : ℕ). n < i) (sym k.nodes) is

  has_client : (c : ℕ) → IsNumberOf ds kinds.Client c → c < length e.homes.items
  has_client c is = subst (λ (i : ℕ). c < i) (sym k.clients) is

  has_stream : (s : ℕ) → IsNumberOf ds kinds.Stream s → s < length e.sessions.items
  has_stream s is = subst (λ (i : ℕ). s < i) (sym k.streams) is

  can_send : (s : ℕ) → IsNumberOf ds kinds.Stream s × IsTrue (has_number numbers s) → CanSend e s
  can_send s (is, on) =
      let x = k.stands.sessions s (has_stream s is) in
      (has_stream s is, (x.0, x.1, subst (λ (b : Bool). IsTrue b) (sym (k.attached_are s x.0 x.1 ∙ same s)) on))

  good_runs : (after_read : Bool) (c : Command) → IsGoodCommand ds numbers after_read c → CanRun e c
  good_runs after_read (commands.Attach stream) good = has_stream stream good
  good_runs after_read (commands.Detach stream) good = has_stream stream good.0
  good_runs after_read (commands.Send stream) good = can_send stream good
  good_runs after_read (commands.Checkpoint stream) good = can_send stream good
  good_runs after_read (commands.Deliver stream number) good = has_stream stream good.0
  good_runs after_read (commands.Flow stream turns) good = can_send stream good.0
  good_runs after_read (commands.Write client name body) good = (has_client client good.0, let few : length body ≤ 1024 = good.1 in omega arith)
  good_runs after_read (commands.Delete client name) good = has_client client good
  good_runs after_read (commands.Read client name) good = has_client client good
  good_runs after_read (commands.Move client node) good = (has_client client good.0, has_node node good.1)
  good_runs after_read (commands.Cut node) good = has_node node good
  good_runs after_read (commands.State node) good = has_node node good
  good_runs after_read (commands.Drop node name) good = has_node node good
  good_runs after_read (commands.Conflicts node name) good = has_node node good
  good_runs after_read (commands.Expect want) good = tt
  good_runs after_read commands.Settle good = tt
  good_runs after_read commands.Phase good = tt
  good_runs after_read commands.End good = tt

pub good_can_run : GoodCanRun
good_can_run ds numbers attached h e after_read c k same good = good_runs ds numbers attached h e k same after_read c good

lines_run : (ds : List Decl) (numbers : List ℕ) (attached : ℕ → Bool) (h : List NodeEntry) (e : Engine) (inside : List Numbered) → IsRunning (declared_of ds) attached h e → AreAttached numbers attached
    → AllByRecursion (λ (c : Numbered). IsGoodJobLine ds numbers c.1) inside → AllByRecursion (IsJobLine e) inside
lines_run ds numbers attached h e [] k same good = tt
lines_run ds numbers attached h e (c ∷ inside) k same good =
    ((good.0.0, good_can_run ds numbers attached h e false c.1 k same good.0.1), lines_run ds numbers attached h e inside k same good.1)

pub good_phase_can_run : GoodPhaseCanRun
good_phase_can_run ds numbers attached h e inside k same good =
    record { lines = lines_run ds numbers attached h e inside k same good.lines; jobs = good.jobs; turns = good.turns }

-- ---- the streams that are attached

eq_is : (t s : ℕ) → t ≡ s → nat_eq t s ≡ true
eq_is t s is = (Decides-eqb t s).1 is

eq_not : (t s : ℕ) → (t ≡ s → ⊥) → nat_eq t s ≡ false
eq_not t s other = by (nat_eq t s) (Decides-eqb t s).0
  where
    by : (b : Bool) → (IsTrue b → t ≡ s) → b ≡ false
    by true is = absurd (other (is refl))
    by false is = refl

or_false : (a b : Bool) → b ≡ false → (a || b) ≡ a
or_false true b is = refl
or_false false b is = is

or_more : (a b : Bool) → (a || (b || false)) ≡ (b || a)
or_more true true = refl
or_more true false = refl
or_more false true = refl
or_more false false = refl

and_false : (a : Bool) → (a && false) ≡ false
and_false true = refl
and_false false = refl

or_swap : (a b c : Bool) → (a || (b || c)) ≡ (b || (a || c))
or_swap true true c = refl
or_swap true false c = refl
or_swap false b c = refl

-- what is kept where it is not taken out
kept : (a b c : Bool) → (a ≡ true → b ≡ false) → (a || (not b && c)) ≡ (not b && (a || c))
kept true true c off = absurd (let t : true ≡ false = off refl in cc)
kept true false c off = refl
kept false b c off = refl

-- and what is taken out
gone : (b c : Bool) → (not b && c) ≡ (not b && (b || c))
gone true c = refl
gone false c = refl

any_more : (ns : List ℕ) (t s : ℕ) → has_number (ns ++ t ∷ []) s ≡ (nat_eq t s || has_number ns s)
any_more [] t s = or_more false (nat_eq t s)
any_more (n ∷ ns) t s = ap (λ (b : Bool). nat_eq n s || b) (any_more ns t s) ∙ or_swap (nat_eq n s) (nat_eq t s) (has_number ns s)

with_has : (ns : List ℕ) (t s : ℕ) → has_number (with_number ns t) s ≡ (nat_eq t s || has_number ns s)
with_has ns t s = by (has_number ns t) refl
  where
    by : (b : Bool) → has_number ns t ≡ b → has_number (with_number ns t) s ≡ (nat_eq t s || has_number ns s)
    by false is = ap (λ (b : Bool). has_number (cond b ns (ns ++ t ∷ [])) s) is ∙ any_more ns t s
    by true is = ap (λ (b : Bool). has_number (cond b ns (ns ++ t ∷ [])) s) is ∙ elim (cases_eq t s) [
      | inl same ↦ subst (λ (i : ℕ). has_number ns i ≡ true) same is ∙ sym (ap (λ (b : Bool). b || has_number ns s) (eq_is t s same))
      | inr other ↦ sym (ap (λ (b : Bool). b || has_number ns s) (eq_not t s other))
    ]

without_has : (ns : List ℕ) (t s : ℕ) → has_number (without_number ns t) s ≡ (not (nat_eq t s) && has_number ns s)
without_has [] t s = sym (and_false (not (nat_eq t s)))
without_has (n ∷ ns) t s = elim (cases_eq n t) [
  | inl same ↦
      ap (λ (b : Bool). has_number (cond (not b) (n ∷ without_number ns t) (without_number ns t)) s) (eq_is n t same) ∙ without_has ns t s
      ∙ gone (nat_eq t s) (has_number ns s) ∙ ap (λ (i : ℕ). not (nat_eq t s) && (nat_eq i s || has_number ns s)) (sym same)
  | inr other ↦
      ap (λ (b : Bool). has_number (cond (not b) (n ∷ without_number ns t) (without_number ns t)) s) (eq_not n t other)
      ∙ ap (λ (b : Bool). nat_eq n s || b) (without_has ns t s)
      ∙ kept (nat_eq n s) (nat_eq t s) (has_number ns s) (λ on. eq_not t s (λ is. other ((Decides-eqb n s).0 on ∙ sym is)))
]

pub attached_together : AttachedTogether
attached_together numbers attached (commands.Attach t) same s = ap (λ (b : Bool). nat_eq t s || b) (same s) ∙ sym (with_has numbers t s)
attached_together numbers attached (commands.Detach t) same s = ap (λ (b : Bool). not (nat_eq t s) && b) (same s) ∙ sym (without_has numbers t s)
attached_together numbers attached (commands.Send stream) same s = same s
attached_together numbers attached (commands.Checkpoint stream) same s = same s
attached_together numbers attached (commands.Deliver stream number) same s = same s
attached_together numbers attached (commands.Flow stream turns) same s = same s
attached_together numbers attached (commands.Write client name body) same s = same s
attached_together numbers attached (commands.Delete client name) same s = same s
attached_together numbers attached (commands.Read client name) same s = same s
attached_together numbers attached (commands.Move client node) same s = same s
attached_together numbers attached (commands.Expect want) same s = same s
attached_together numbers attached (commands.Cut node) same s = same s
attached_together numbers attached (commands.State node) same s = same s
attached_together numbers attached (commands.Drop node name) same s = same s
attached_together numbers attached (commands.Conflicts node name) same s = same s
attached_together numbers attached commands.Settle same s = same s
attached_together numbers attached commands.Phase same s = same s
attached_together numbers attached commands.End same s = same s
