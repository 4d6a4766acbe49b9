-- What each step leaves a seat with. A seat is its view and the slots that it holds.
use Rattle.std.specs.Prelude.{◌≡◌, ◌≢◌, ℕ, ◌+◌, ◌<◌, ◌≤◌, List, [], ◌∷◌, ◌++◌, length, drop, Option, Some, None, All, Contains, cond, leb}
use Rattle.atomic_table.specs.Table.{Me, Step, rest}
use Rattle.pr_cell.specs.declared.view.View.{View}
use Rattle.pr_cell.specs.declared.view.Known.{Known}
use Rattle.pr_cell.specs.declared.view.Stage.{Stage}
use Rattle.pr_cell.specs.declared.view.Stage.TheVariants.{Idle, Waiting, Holding, Booked}
use Rattle.pr_cell.specs.Rule.{nothing, known, IsPast}

abbrev Seated : Type 0 → Type 0 → Type 0
Seated T E = Me (Option T) (View E)

module _ {E : Type 0} where
  -- with a ticket, and one turn more
  abbrev pub waiting : ℕ → View E → View E
  waiting t v = record { opening = v.opening; number = v.number; turns = v.turns + 1; issued = v.issued; stage = Waiting t; main = v.main; other = v.other }

  -- at another stage, having seen these entries
  abbrev pub at_stage : Stage → List E → View E → View E
  at_stage stage since v = record { opening = v.opening; number = v.number; turns = v.turns; issued = v.issued; stage = stage; main = known since v.main.held; other = v.other }

  -- one number more is made
  abbrev pub split_left : View E → View E
  split_left v = record { opening = v.opening; number = v.number; turns = v.turns; issued = v.issued + 1; stage = v.stage; main = v.main; other = v.other }

  -- the seat of that number
  abbrev pub split_right : View E → View E
  split_right v = record { opening = v.opening; number = v.issued; turns = 0; issued = 0; stage = Idle; main = known v.main.since (v.issued ∷ []); other = nothing }

  -- what both seats know, not compared yet
  abbrev pub joined : View E → View E → View E
  joined v w = record { opening = v.opening; number = v.number; turns = v.turns; issued = v.issued + w.issued; stage = v.stage; main = v.main; other = w.main }

  -- what a joined seat leaves
  abbrev pub spent : View E
  spent = record { opening = []; number = 0; turns = 0; issued = 0; stage = Idle; main = nothing; other = nothing }

  abbrev pub longer : List E → List E → List E
  longer xs ys = cond (leb (length xs) (length ys)) ys xs

  -- what both seats know, compared
  abbrev pub compared : View E → View E
  compared v = record { opening = v.opening; number = v.number; turns = v.turns; issued = v.issued; stage = v.stage; main = known (longer v.main.since v.other.since) (v.main.held ++ v.other.held); other = nothing }

  -- xs begins with what was seen, and past it there is nothing of a number that is held
  abbrev pub IsUpTo : (E → ℕ) → Known E → List E → Type 0
  IsUpTo number k xs = (new : List E) × (xs ≡ k.since ++ new) × IsPast number k.held new

module _ {T E : Type 0} where
  abbrev pub drawn : Step (Option T) → Seated T E → ℕ → Seated T E → Type 0
  drawn step m r m' = (m'.0 ≡ waiting r m.0) × (m'.1 ≡ m.1)

  -- the seat has the slot, whose entries begin with all that it had seen, and past that there is none of its numbers
  abbrev pub IsShown : (T → List E) → (E → ℕ) → Seated T E → Seated T E → Type 0
  IsShown entries number m m' =
      (x : T) × (new : List E) × (m'.1 ≡ (0, Some x) ∷ m.1) × (entries x ≡ m.0.opening ++ (m.0.main.since ++ new)) × IsPast number m.0.main.held new
      × (m'.0 ≡ at_stage Holding (m.0.main.since ++ new) m.0)

  abbrev pub looked : (T → List E) → (E → ℕ) → Step (Option T) → Seated T E → ℕ → Seated T E → Type 0
  looked entries number step m r m' = (t : ℕ) → m.0.stage ≡ Waiting t → (r ≡ t → IsShown entries number m m') × (r ≢ t → m' ≡ m)

  abbrev pub entries_of : (T → List E) → Option T → List E
  entries_of entries (Some x) = entries x
  entries_of entries None = []

  -- the entries of the value in the slot that was taken last
  abbrev pub carried : (T → List E) → List (ℕ × Option T) → List E
  carried entries [] = []
  carried entries (x ∷ xs) = entries_of entries x.1

  abbrev pub booked : (T → List E) → Step (Option T) → Seated T E → ℕ → Seated T E → Type 0
  booked entries step m r m' = (m'.1 ≡ m.1) × (m'.0 ≡ at_stage Booked (drop (length m.0.opening) (carried entries m.1)) m.0)

  abbrev pub advanced : Step (Option T) → Seated T E → ℕ → Seated T E → Type 0
  advanced step m r m' = (m'.1 ≡ rest m.1) × (m'.0 ≡ at_stage Idle m.0.main.since m.0)

  -- the seat that holds 0 learns that what it has seen is of made numbers
  abbrev pub loaded_before_split : (E → ℕ) → Step (Option T) → Seated T E → ℕ → Seated T E → Type 0
  loaded_before_split number step m r m' = (m' ≡ m) × (Contains m.0.main.held 0 → All (λ e. number e < m.0.issued) m.0.main.since)

  -- of what two seats had seen the longer part begins with the other
  abbrev pub loaded_after_join : (E → ℕ) → Step (Option T) → Seated T E → ℕ → Seated T E → Type 0
  loaded_after_join number step m r m' =
      (m'.1 ≡ m.1) × (m'.0 ≡ compared m.0) × IsUpTo number m.0.main (longer m.0.main.since m.0.other.since) × IsUpTo number m.0.other (longer m.0.main.since m.0.other.since)
      × (m.0.issued ≤ 65)
