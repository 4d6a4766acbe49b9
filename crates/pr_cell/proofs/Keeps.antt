-- What a step leaves of the rule.
use Rattle.std.proofs.Common.{◌≡◌, ◌≢◌, ℕ, ◌*◌, ◌^◌, ◌<◌, ◌≤◌, List, [], ◌∷◌, ◌++◌, length, get_or, set, All, Contains, Option, refl, sym, ap, ◌∙◌, subst, ⊎_elim, arith, append_assoc}
use mathlib.Core.Option.{some, none, some-injective}
use lib.ListN.{get_elem?}
use lib.Seq.{set-get_or}
use Rattle.std.proofs.lemmas.List.Elements.{All-append, All-weaker}
use Rattle.atomic_table.specs.Table.{State, Me, keeps, stepped}
use Rattle.atomic_table.proofs.Lists.{at_set, set_again}
use Rattle.pr_cell.specs.declared.view.View.{View}
use Rattle.pr_cell.specs.declared.view.Known.{Known}
use Rattle.pr_cell.specs.declared.view.Stage.{Stage}
use Rattle.pr_cell.specs.declared.view.Stage.TheVariants.{Idle, Waiting, Holding, Booked}
use Rattle.pr_cell.specs.Rule.{Place, home, out, out_booked, IsAway, IsBusy, total, nothing, Fits, IsAtStage, IsSeated, IsPlaced, IsKept}
use Rattle.pr_cell.proofs.Basics.{total_below, none_in}

pub busy_not : (st : Stage) → st ≡ Idle → IsBusy st → ⊥
busy_not st e b = subst IsBusy e b

pub away_out : (p : Place) → p ≡ out → IsAway p
away_out p e = subst IsAway (sym e) tt

pub away_paid : (p : Place) → p ≡ out_booked → IsAway p
away_paid p e = subst IsAway (sym e) tt

pub home_not : (p : Place) → p ≡ home → IsAway p → ⊥
home_not p e a = subst IsAway e a

abbrev pub is_out : Place → Type 0
is_out home = ⊥
is_out out = Unit {0}
is_out out_booked = ⊥

pub out_paid : (p : Place) → p ≡ out → p ≡ out_booked → ⊥
out_paid p a b = subst is_out b (subst is_out (sym a) tt)

abbrev pub ticket_of : Stage → ℕ
ticket_of Idle = 0
ticket_of (Waiting t) = t
ticket_of Holding = 0
ticket_of Booked = 0

module _ {E : Type 0} (number : E → ℕ) where
  -- what a seat knows of its ticket, after a step of another
  pub stage_by : (log log' : List E) (ticket ticket' serving serving' : ℕ) (place place' : Place) (owner owner' : ℕ → ℕ) (j : ℕ) (v : View E)
      → ((t : ℕ) → serving ≤ t → t < ticket → owner t ≡ j → (IsAway place → serving < t) → (serving' ≤ t) × (t < ticket') × (owner' t ≡ j) × (IsAway place' → serving' < t))
      → (IsAway place → serving < ticket → owner serving ≡ j → v.main.since ≡ log → (place' ≡ place) × (serving' < ticket') × (owner' serving' ≡ j) × (v.main.since ≡ log'))
      → (st : Stage) → IsAtStage number log ticket serving place owner j v st → IsAtStage number log' ticket' serving' place' owner' j v st
  stage_by log log' ticket ticket' serving serving' place place' owner owner' j v one two Idle k = tt
  stage_by log log' ticket ticket' serving serving' place place' owner owner' j v one two (Waiting t) k = let h = one t k.0 k.1 k.2 k.3 in (h.0, h.1, h.2, h.3, k.4)
  stage_by log log' ticket ticket' serving serving' place place' owner owner' j v one two Holding k = let h = two (away_out place k.0) k.1 k.2 k.3 in (h.0 ∙ k.0, h.1, h.2, h.3, k.4)
  stage_by log log' ticket ticket' serving serving' place place' owner owner' j v one two Booked k = let h = two (away_paid place k.0) k.1 k.2 k.3 in (h.0 ∙ k.0, h.1, h.2, h.3, k.4)

  -- entries of a number that is not held may follow
  pub fits_more : (log new : List E) (n : ℕ) (k : Known E) → (Contains k.held n → ⊥) → All (λ e. number e ≡ n) new → Fits number log k → Fits number (log ++ new) k
  fits_more log new n k apart all f = (
    f.0 ++ new,
    sym (append_assoc k.since f.0 new) ∙ ap (λ l. l ++ new) f.1,
    All-append (λ e. Contains k.held (number e) → ⊥) f.0 new f.2 (All-weaker (λ e. number e ≡ n) (λ e. Contains k.held (number e) → ⊥) (λ e is c. apart (subst (Contains k.held) is c)) new all),
  )

  pub fits_nothing : (log : List E) → Fits number log nothing
  fits_nothing log = (log, refl, λ k d l c. none_in _ c)

module _ {T E : Type 0} (entries : T → List E) (number : E → ℕ) (opens : List E) where
  abbrev pub St : Type 0
  St = State (Option T) (View E)

  abbrev pub M : Type 0
  M = Me (Option T) (View E)

  abbrev pub Rule : St → Type 0
  Rule = IsKept entries number opens

  pub seats : (K : ℕ → View E → Type 0) (vs : List (View E)) (me : ℕ) (w : View E) → K me w → ((j : ℕ) (d : View E) → j ≢ me → get_elem? vs j ≡ some d → K j d)
      → (j : ℕ) (d : View E) → get_elem? (set vs me w) j ≡ some d → K j d
  seats K vs me w mine others j d e = ⊎_elim (λ (t : (j ≡ me) × (w ≡ d)). subst (λ (x : ℕ × View E). K x.0 x.1) (λ i. (sym t.0 i, t.1 i)) mine)
      (λ (t : (j ≢ me) × (get_elem? vs j ≡ some d)). others j d t.0 t.1) (at_set vs me j w d e)

  abbrev pub Knower : (s : St) → Rule s → ℕ → View E → Type 0
  Knower s r = IsSeated number r.log r.turns r.serving r.place r.holder r.owner

  pub small_total : (s : St) (r : Rule s) → total r.turns ≤ 65 * 2 ^ 40
  small_total s r = let a = total_below r.turns (2 ^ 40) r.few_turns in let f : length r.turns ≤ 65 = r.few_numbers in omega (arith, a, f)

  -- the seat that has the slot is not idle
  pub not_mine : (s : St) (r : Rule s) (id : ℕ) (v : View E) → get_elem? s.views id ≡ some v → v.stage ≡ Idle → IsAway r.place → r.owner r.serving ≢ id
  not_mine s r id v at idle away is = let a = r.taken away in
      let same : a.seat ≡ v = some-injective a.seat v (sym a.is ∙ (ap (get_elem? s.views) is ∙ at)) in
      busy_not v.stage idle (subst (λ (z : View E). IsBusy z.stage) same a.busy)

  pub at_home : (log : List E) (homes : List _) (p : Place) → (IsAway p → ⊥) → IsPlaced entries opens log homes p → (p ≡ home) × IsPlaced entries opens log homes home
  at_home log homes home away k = (refl, k)
  at_home log homes out away k = absurd (away tt)
  at_home log homes out_booked away k = absurd (away tt)

  pub gone : (log : List E) (homes : List _) (p : Place) → IsAway p → IsPlaced entries opens log homes p → homes ≡ none ∷ []
  gone log homes home away k = absurd away
  gone log homes out away k = k
  gone log homes out_booked away k = k

  -- nothing changes
  pub same_view : (s : St) (i id : ℕ) (cs : List (ℕ × Option T)) (v : View E) → get_elem? s.views id ≡ some v → Rule s → Rule (stepped s i (get_or s.words i 0) id cs v keeps)
  same_view s i id cs v at r = subst (λ (y : List ℕ × List (View E)). Rule record { words = y.0; homes = s.homes; views = y.1 }) (λ k. (sym (set-get_or s.words i 0) k, sym (set_again s.views id v at) k)) r
