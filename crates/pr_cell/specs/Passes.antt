-- What a pass and a turn say of their cell.
use Rattle.std.specs.Prelude.{◌≡◌, ℕ, ◌+◌, ◌^◌, ◌<◌, ◌≤◌, List, [], ◌∷◌, ◌++◌, filter, eqb, Option, None, All, Contains}
use Rattle.atomic_table.specs.declared.shared.Seat.{Seat}
use Rattle.pr_cell.specs.declared.cell.Cell.{Cell}
use Rattle.pr_cell.specs.declared.pass.Pass.{Pass}
use Rattle.pr_cell.specs.declared.turn.Turn.{Turn}
use Rattle.pr_cell.specs.declared.view.View.{View}
use Rattle.pr_cell.specs.declared.view.Stage.TheVariants.{Idle, Holding}
use Rattle.pr_cell.specs.Rule.{nothing, IsPast}

-- ys begins with xs
abbrev pub Begins : {E : Type 0} → List E → List E → Type 0
Begins {E} xs ys = (new : List E) × (ys ≡ xs ++ new)

module _ {T E : Type 0} where
  -- what was seen after the opening
  abbrev pub since : Seat (Option T) (View E) → List E
  since s = s.me.0.main.since

  -- all that was seen
  abbrev pub seen : Seat (Option T) (View E) → List E
  seen s = s.me.0.opening ++ since s

  -- the numbers that are held
  abbrev pub held : Seat (Option T) (View E) → List ℕ
  held s = s.me.0.main.held

  -- the entries of number k in what was seen after the opening
  abbrev pub mine : (E → ℕ) → Seat (Option T) (View E) → ℕ → List E
  mine number s k = filter (λ e. eqb (number e) k) (since s)

  -- more was seen, and past what was seen before there is nothing of a number that was held
  abbrev pub Grows : (E → ℕ) → Seat (Option T) (View E) → Seat (Option T) (View E) → Type 0
  Grows number old new = (more : List E) × (seen new ≡ seen old ++ more) × IsPast number (held old) more

  -- the entries of each number that was held stay what they were
  abbrev pub KeepsMine : (E → ℕ) → Seat (Option T) (View E) → Seat (Option T) (View E) → Type 0
  KeepsMine number old new = (k : ℕ) → Contains (held old) k → mine number new k ≡ mine number old k

  -- the value's entries begin with those that it was taken with, and each further one has the turn's number
  abbrev pub AddsOwn : (T → List E) → (E → ℕ) → Turn T E → Type 0
  AddsOwn entries number t = (new : List E) × (entries t.value ≡ seen t.seat ++ new) × All (λ e. number e ≡ t.number) new

  -- the pass holds 0 and every number that was made
  abbrev pub HoldsAll : Pass T E → Type 0
  HoldsAll p = Contains (held p.seat) 0 × ((k : ℕ) → k < p.issued → Contains (held p.seat) k)

  -- the entries that the cell was opened with
  abbrev pub opening_of : (T → List E) → Cell T E → List E
  opening_of entries c = entries c.table.shared.key.value

-- the pass that comes with a new cell
pub record IsFirst {T E : Type 0} (opening : List E) (p : Pass T E) : Type 0 where
  pub number : p.number ≡ 0
  pub turns : p.turns ≡ 0
  pub issued : p.issued ≡ 1
  pub held : held p.seat ≡ 0 ∷ []
  pub seen : seen p.seat ≡ opening

-- the pass is this cell's, and has no ticket
pub record IsPassOf {T E : Type 0} (entries : T → List E) (c : Cell T E) (p : Pass T E) : Type 0 where
  pub table : p.seat.table_id ≡ c.table.shared.table_id
  pub free : p.seat.me.1 ≡ []
  pub opening : p.seat.me.0.opening ≡ opening_of entries c
  pub number : p.seat.me.0.number ≡ p.number
  pub turns : p.seat.me.0.turns ≡ p.turns
  pub issued : p.seat.me.0.issued ≡ p.issued
  pub few : p.issued ≤ 65
  pub idle : p.seat.me.0.stage ≡ Idle
  pub alone : p.seat.me.0.other ≡ nothing
  pub own : Contains (held p.seat) p.seat.me.0.number

-- the turn is this cell's, and its ticket is served
pub record IsTurnOf {T E : Type 0} (entries : T → List E) (c : Cell T E) (t : Turn T E) : Type 0 where
  pub table : t.seat.table_id ≡ c.table.shared.table_id
  pub slot : t.seat.me.1 ≡ (0, None) ∷ []
  pub opening : t.seat.me.0.opening ≡ opening_of entries c
  pub number : t.seat.me.0.number ≡ t.number
  pub turns : t.seat.me.0.turns ≡ t.turns + 1
  pub issued : t.seat.me.0.issued ≡ t.issued
  pub few : t.issued ≤ 65
  pub small : t.turns < 2 ^ 40
  pub holding : t.seat.me.0.stage ≡ Holding
  pub alone : t.seat.me.0.other ≡ nothing
  pub own : Contains (held t.seat) t.seat.me.0.number
