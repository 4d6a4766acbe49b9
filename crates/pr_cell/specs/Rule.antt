-- The rule that holds between any two steps on a cell's table.
--
-- The table has three words (tickets drawn, the ticket served, turns booked) and one slot, in which the value lies. The
-- state also has what each seat knows, a View. The view that a joined seat leaves holds no number and has no ticket, so
-- the rule asks nothing of it.
use Rattle.std.specs.Prelude.{◌≡◌, ◌⊎◌, ℕ, ◌+◌, ◌^◌, ◌<◌, ◌≤◌, List, [], ◌∷◌, ◌++◌, length, slice_index, Option, Some, All, Contains}
use mathlib.Core.Option.{some, none}
use mathlib.Core.Option as maybe
use lib.ListN.{get_elem?}
use Rattle.atomic_table.specs.Table.{State}
use Rattle.pr_cell.specs.declared.view.View.{View}
use Rattle.pr_cell.specs.declared.view.Known.{Known}
use Rattle.pr_cell.specs.declared.view.Stage.{Stage}
use Rattle.pr_cell.specs.declared.view.Stage.TheVariants.{Idle, Waiting, Holding, Booked}

-- where the value is: home in its slot, out with the seat whose ticket is served, or out with that seat after it has
-- booked its turn
pub data Place : Type 0 where
  home : Place
  out : Place
  out_booked : Place

abbrev pub IsAway : Place → Type 0
IsAway home = ⊥
IsAway out = Unit {0}
IsAway out_booked = Unit {0}

-- the book word equals the serving word, or is one more from a booking to the advance that follows it
abbrev pub book_word : Place → ℕ → ℕ
book_word home serving = serving
book_word out serving = serving
book_word out_booked serving = serving + 1

abbrev pub IsBusy : Stage → Type 0
IsBusy Idle = ⊥
IsBusy (Waiting t) = Unit {0}
IsBusy Holding = Unit {0}
IsBusy Booked = Unit {0}

-- the ticket word is the sum of the turns of all numbers
abbrev pub total : List ℕ → ℕ
total [] = 0
total (x ∷ xs) = x + total xs

abbrev pub nothing : {E : Type 0} → Known E
nothing = record { since = []; held = [] }

abbrev pub known : {E : Type 0} → List E → List ℕ → Known E
known since held = record { since = since; held = held }

-- the first seat, which holds the number 0
abbrev pub starting : {E : Type 0} → List E → View E
starting opening = record { opening = opening; number = 0; turns = 0; issued = 1; stage = Idle; main = known [] (0 ∷ []); other = nothing }

module _ {E : Type 0} (number : E → ℕ) where
  -- none of these entries has a number that is held
  abbrev pub IsPast : List ℕ → List E → Type 0
  IsPast held es = All (λ e. Contains held (number e) → ⊥) es

  -- what was seen begins the shared list, and past it there is nothing of a number that is held
  abbrev pub Fits : List E → Known E → Type 0
  Fits log k = (new : List E) × (k.since ++ new ≡ log) × IsPast k.held new

  module _ (log : List E) (tickets serving : ℕ) (place : Place) (owner : ℕ → ℕ) where
    -- a ticket that is out lies between serving and the ticket word, is the seat's alone, and is not served while
    -- another has the value
    abbrev pub HasTicket : ℕ → View E → ℕ → Type 0
    HasTicket j v t = (serving ≤ t) × (t < tickets) × (owner t ≡ j) × (IsAway place → serving < t) × Contains v.main.held v.number

    -- only the seat with the served ticket has the value, from the look to the advance, and it has seen the whole list
    abbrev pub HasValue : Place → ℕ → View E → Type 0
    HasValue there j v = (place ≡ there) × (serving < tickets) × (owner serving ≡ j) × (v.main.since ≡ log) × Contains v.main.held v.number

    abbrev pub IsAtStage : ℕ → View E → Stage → Type 0
    IsAtStage j v Idle = Unit {0}
    IsAtStage j v (Waiting t) = HasTicket j v t
    IsAtStage j v Holding = HasValue out j v
    IsAtStage j v Booked = HasValue out_booked j v

  -- what holds of the seat j
  pub record IsSeated (log : List E) (turns : List ℕ) (serving : ℕ) (place : Place) (holder owner : ℕ → ℕ) (j : ℕ) (v : View E) : Type 0 where
    -- what it has seen
    pub main : Fits log v.main
    pub other : Fits log v.other
    -- each number that it holds was made, and is held by it alone
    pub holds : (k : ℕ) → Contains v.main.held k ⊎ Contains v.other.held k → (holder k ≡ j) × (k < length turns)
    -- it has the count of its number's turns
    pub counted : Contains v.main.held v.number → slice_index turns v.number ≡ v.turns
    -- the seat that holds 0 has the count of numbers made, and no other has one
    pub issued : Contains v.main.held 0 ⊎ Contains v.other.held 0 → v.issued ≡ length turns
    pub unissued : (Contains v.main.held 0 ⊎ Contains v.other.held 0 → ⊥) → v.issued ≡ 0
    -- how far it is with its ticket
    pub stage : IsAtStage log (total turns) serving place owner j v v.stage

module _ {T E : Type 0} (entries : T → List E) (opening : List E) where
  -- the value is home, and its entries are then exactly the shared list, or it is out
  abbrev pub IsPlaced : List E → List (maybe.Option (Option T)) → Place → Type 0
  IsPlaced log homes home = (x : T) × (homes ≡ some (Some x) ∷ []) × (entries x ≡ opening ++ log)
  IsPlaced log homes out = homes ≡ none ∷ []
  IsPlaced log homes out_booked = homes ≡ none ∷ []

-- the served ticket is out, and the seat that drew it is not idle
pub record IsTurnTaken {E : Type 0} (views : List (View E)) (tickets serving : ℕ) (owner : ℕ → ℕ) : Type 0 where
  pub drawn : serving < tickets
  pub seat : View E
  pub is : get_elem? views (owner serving) ≡ some seat
  pub busy : IsBusy seat.stage
  pub own : Contains seat.main.held seat.number

-- the whole rule, for a cell that was opened with these entries
pub record IsKept {T E : Type 0} (entries : T → List E) (number : E → ℕ) (opening : List E) (s : State (Option T) (View E)) : Type 0 where
  -- the shared list after the opening entries: what the bookings added
  pub log : List E
  -- the turns of each number made
  pub turns : List ℕ
  -- the seat that holds each number, and the seat that drew each ticket
  pub holder : ℕ → ℕ
  pub owner : ℕ → ℕ
  pub serving : ℕ
  pub place : Place
  -- the three words
  pub words : s.words ≡ total turns ∷ serving ∷ book_word place serving ∷ []
  -- the value
  pub value : IsPlaced entries opening log s.homes place
  -- the limits: 65 numbers, 2 ^ 40 turns each
  pub few_numbers : length turns ≤ 65
  pub few_turns : All (λ n. n ≤ 2 ^ 40) turns
  -- no ticket is served before it was drawn
  pub served : serving ≤ total turns
  -- while the value is out, the served ticket's seat is at its turn
  pub taken : IsAway place → IsTurnTaken s.views (total turns) serving owner
  -- the shared list has entries of made numbers alone
  pub made : All (λ e. number e < length turns) log
  -- every seat
  pub each : (j : ℕ) (v : View E) → get_elem? s.views j ≡ some v → IsSeated number log turns serving place holder owner j v
