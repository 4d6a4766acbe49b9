-- The causal log: which names are lit at which points, and which writes are known.
use Rattle.std.specs.Prelude.{◌≡◌, ◌⊎◌, ◌↔◌, ◌≤◌, ◌+◌, ℕ, Bool, IsTrue, false, nat_eq, List, Option, Some}
use Rattle.pr_stamps.specs.Point.{Point}
use Rattle.pr_names.specs.Name.{IsName}
use Rattle.pr_names.specs.Span.{Span}
use Rattle.pr_sets.specs.Spans.{has}
use Rattle.pr_vectors.specs.Vector.{Between, Covers, join_of, raised, zero_vector}
use Rattle.pr_inval.specs.declared.write_rec.WriteRec.{WriteRec}
use Rattle.pr_log.specs.Dark.{is_lit_in}
use Rattle.pr_log.specs.Known.{Has, IsNew, uncovered}

-- a node, its vector and cut, by node the dark sets with the clocks at which they begin, by node and clock the known
-- writes, and whether a call was refused memory
pub record Logged : Type 0 where
  pub node : ℕ
  pub vector : List ℕ
  pub cut : List ℕ
  pub dark : List (List (ℕ × List Span))
  pub known : List (List (ℕ × WriteRec))
  pub spent : Bool

-- the name is lit at the point
abbrev pub is_lit : Logged → List ℕ → Point → Bool
is_lit m o p = is_lit_in m.node m.dark o p

-- the write is known
abbrev pub Knows : Logged → WriteRec → Type 0
Knows m x = Has m.known x

-- ---- what the calls change

-- the write is known now too, if the cut does not cover it and it is the first with its stamp
abbrev pub Learns : Logged → Logged → Option WriteRec → Type 0
Learns a b write = (x : WriteRec) → Knows b x ↔ (Knows a x ⊎ ((write ≡ Some x) × (¬ Covers a.cut x.stamp) × IsNew a.known x.stamp))

-- a new log: only own points are lit
pub record IsNewLog (m : Logged) (node : ℕ) : Type 0 where
  pub at : m.node ≡ node
  pub vector : m.vector ≡ zero_vector
  pub cut : m.cut ≡ zero_vector
  pub lit : (o : List ℕ) (p : Point) → is_lit m o p ≡ nat_eq p.node node
  pub knows : (x : WriteRec) → ¬ Knows m x
  pub few : (pos : List ℕ) → uncovered m.known pos ≡ 0
  pub works : m.spent ≡ false

-- an own write is known, and own points stay lit
pub record IsAddedOwn (a b : Logged) (write : WriteRec) : Type 0 where
  pub node : b.node ≡ a.node
  pub cut : b.cut ≡ a.cut
  pub vector : b.vector ≡ raised a.vector write.stamp
  pub lit : (o : List ℕ) (p : Point) → is_lit b o p ≡ is_lit a o p
  pub knows : Learns a b (Some write)
  pub few : (pos : List ℕ) → uncovered b.known pos ≤ uncovered a.known pos + 1

-- the names that the target lacks are lit at the points between the vectors
pub record IsRefined (a b : Logged) (from to : List ℕ) (target : List Span) (write : Option WriteRec) : Type 0 where
  pub node : b.node ≡ a.node
  pub cut : b.cut ≡ a.cut
  pub vector : b.vector ≡ join_of a.vector to
  pub lit : (o : List ℕ) (p : Point) → IsName o →
      IsTrue (is_lit b o p) ↔ (IsTrue (is_lit a o p) ⊎ (Between from to p × (has target o ≡ false)))
  pub knows : Learns a b write
  pub few : (pos : List ℕ) → uncovered b.known pos ≤ uncovered a.known pos + 1

-- points are covered at which no further name is lit
pub record IsDarkened (a b : Logged) (to : List ℕ) : Type 0 where
  pub node : b.node ≡ a.node
  pub cut : b.cut ≡ a.cut
  pub vector : b.vector ≡ join_of a.vector to
  pub lit : (o : List ℕ) (p : Point) → is_lit b o p ≡ is_lit a o p
  pub knows : (x : WriteRec) → Knows b x ↔ Knows a x
  pub few : (pos : List ℕ) → uncovered b.known pos ≤ uncovered a.known pos

-- the vector is joined to the cut; nothing is said of what is lit below it, and no write below it stays known
pub record IsCut (a b : Logged) : Type 0 where
  pub node : b.node ≡ a.node
  pub cut : b.cut ≡ join_of a.cut a.vector
  pub vector : b.vector ≡ a.vector
  pub lit : (o : List ℕ) (p : Point) → IsName o → ¬ Covers b.cut p → is_lit b o p ≡ is_lit a o p
  pub knows : (x : WriteRec) → Knows b x ↔ (Knows a x × ¬ Covers b.cut x.stamp)
  pub few : (pos : List ℕ) → uncovered b.known pos ≤ uncovered a.known pos

-- ---- what the calls find

-- the name is dark at a point between the vectors
abbrev pub IsDarkIn : Logged → List ℕ → List ℕ → List ℕ → Type 0
IsDarkIn m from to o = (p : Point) × Between from to p × (is_lit m o p ≡ false)

-- the name is none of these, and a known write to it lies between the vectors
abbrev pub IsOmittedIn : Logged → List ℕ → List ℕ → List Span → List ℕ → Type 0
IsOmittedIn m from to sub o = (has sub o ≡ false) × ((x : WriteRec) × Knows m x × (x.name ≡ o) × Between from to x.stamp)
