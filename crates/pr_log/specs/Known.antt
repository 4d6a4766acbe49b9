-- The known writes, by node and clock.
use Rattle.std.specs.Prelude.{◌≡◌, ◌⊎◌, ◌↔◌, ◌≤◌, ◌<◌, ◌+◌, ℕ, true, false, zero, suc, List, [], Option, None, Some, IsSome, cond, nat_eq, nat_lt, slice_index_or}
use Rattle.std.specs.Option.{option_or}
use Rattle.std.specs.List.{count_by}
use Rattle.std.specs.Map.{lookup}
use Rattle.std.specs.Ordering.{is_eq, nat_cmp}
use Rattle.pr_stamps.specs.Point.{Point, IsStamp}
use Rattle.pr_names.specs.Span.{Span}
use Rattle.pr_sets.specs.Spans.{has}
use Rattle.pr_vectors.specs.Vector.{clock_of, Between, Covers}
use Rattle.pr_inval.specs.declared.write_rec.WriteRec.{WriteRec}

-- the write of this clock in a node's row
abbrev pub at_clock : List (ℕ × WriteRec) → ℕ → Option WriteRec
at_clock row c = lookup (λ k. is_eq (nat_cmp c k)) row

-- the row keeps the write too, if it has none with its clock
abbrev pub IsAddedAt : List (ℕ × WriteRec) → List (ℕ × WriteRec) → WriteRec → Type 0
IsAddedAt a b write = (c : ℕ) → at_clock b c ≡ cond (nat_eq write.stamp.clock c) (option_or (at_clock a c) (Some write)) (at_clock a c)

-- how many writes of the row lie above a clock
abbrev pub count_above : List (ℕ × WriteRec) → ℕ → ℕ
count_above row c = count_by (λ e. nat_lt c e.0) row

-- the row loses its writes up to a clock
pub record IsForgottenUpTo (clock : ℕ) (a b : List (ℕ × WriteRec)) : Type 0 where
  pub gone : (c : ℕ) → c ≤ clock → at_clock b c ≡ None
  pub kept : (c : ℕ) → clock < c → at_clock b c ≡ at_clock a c
  pub few : (c : ℕ) → count_above b c ≤ count_above a c

-- no write of the row is past the clock
abbrev pub IsUpTo : ℕ → List (ℕ × WriteRec) → Type 0
IsUpTo clock row = (c : ℕ) → clock < c → at_clock row c ≡ None

-- the first write of the row above a clock
abbrev pub IsFirstIn : List (ℕ × WriteRec) → ℕ → Option WriteRec → Type 0
IsFirstIn row c None = (d : ℕ) → c < d → at_clock row d ≡ None
IsFirstIn row c (Some w) =
    (k : ℕ) × (c < k) × (at_clock row k ≡ Some w) × ((d : ℕ) → c < d → IsSome (at_clock row d) → k ≤ d)

abbrev pub row_of : List (List (ℕ × WriteRec)) → ℕ → List (ℕ × WriteRec)
row_of rows n = slice_index_or rows n []

-- the known write that stands at a point
abbrev pub write_at : List (List (ℕ × WriteRec)) → Point → Option WriteRec
write_at rows p = at_clock (row_of rows p.node) p.clock

-- the write is known
abbrev pub Has : List (List (ℕ × WriteRec)) → WriteRec → Type 0
Has rows x = write_at rows x.stamp ≡ Some x

-- each write is kept under its stamp
abbrev pub IsByStamp : List (List (ℕ × WriteRec)) → Type 0
IsByStamp rows = (p : Point) (x : WriteRec) → write_at rows p ≡ Some x → (x.stamp ≡ p) × IsStamp p

-- only the first so many nodes have known writes
abbrev pub IsWithin : ℕ → List (List (ℕ × WriteRec)) → Type 0
IsWithin nodes rows = (p : Point) (x : WriteRec) → write_at rows p ≡ Some x → p.node < nodes

-- no known write has the stamp
abbrev pub IsNew : List (List (ℕ × WriteRec)) → Point → Type 0
IsNew rows p = (x : WriteRec) → Has rows x → ¬ (x.stamp ≡ p)

-- the write is known now too, if it is the first with its stamp
abbrev pub IsAdded : List (List (ℕ × WriteRec)) → List (List (ℕ × WriteRec)) → WriteRec → Type 0
IsAdded a b write = (x : WriteRec) → Has b x ↔ (Has a x ⊎ ((write ≡ x) × IsNew a x.stamp))

-- the writes that the cut covers are known no longer
abbrev pub IsForgotten : List (List (ℕ × WriteRec)) → List (List (ℕ × WriteRec)) → List ℕ → Type 0
IsForgotten a b cut = (x : WriteRec) → Has b x ↔ (Has a x × ¬ Covers cut x.stamp)

-- of the known writes of a node above a clock, the one with the least clock
abbrev pub IsFirstAbove : List (List (ℕ × WriteRec)) → ℕ → ℕ → Option WriteRec → Type 0
IsFirstAbove rows n c None = (x : WriteRec) → Has rows x → x.stamp.node ≡ n → x.stamp.clock ≤ c
IsFirstAbove rows n c (Some w) =
    Has rows w × (w.stamp.node ≡ n) × (c < w.stamp.clock)
    × ((x : WriteRec) → Has rows x → x.stamp.node ≡ n → c < x.stamp.clock → w.stamp.clock ≤ x.stamp.clock)

-- a known write to one of the names, past the position
abbrev pub IsWaiting : List (List (ℕ × WriteRec)) → List ℕ → List Span → WriteRec → Type 0
IsWaiting rows pos sub x = Has rows x × (has sub x.name ≡ true) × (¬ Covers pos x.stamp)

-- of one node: the name is none of these, and a known write to it lies above one clock, up to another
abbrev pub IsOmittedOf : List (List (ℕ × WriteRec)) → List Span → ℕ → ℕ → ℕ → List ℕ → Type 0
IsOmittedOf rows sub n from to o =
    (has sub o ≡ false) × ((x : WriteRec) × Has rows x × (x.name ≡ o) × (x.stamp.node ≡ n) × (from < x.stamp.clock) × (x.stamp.clock ≤ to))

-- the name is none of these, and a known write to it lies between the vectors
abbrev pub IsOmittedBetween : List (List (ℕ × WriteRec)) → List ℕ → List ℕ → List Span → List ℕ → Type 0
IsOmittedBetween rows from to sub o = (has sub o ≡ false) × ((x : WriteRec) × Has rows x × (x.name ≡ o) × Between from to x.stamp)

-- ---- how many writes a position does not cover

-- the sum over the numbers below n
unfoldable pub total : (ℕ → ℕ) → ℕ → ℕ
total f zero = 0
total f (suc n) = total f n + f n

-- how many known writes of the nodes the position does not cover
abbrev pub uncovered : List (List (ℕ × WriteRec)) → List ℕ → ℕ
uncovered rows pos = total (λ n. count_above (row_of rows n) (clock_of pos n)) 32
