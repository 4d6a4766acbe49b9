-- How the stores of node n are tied to its journal j.
use Rattle.std.specs.Prelude.{All, ℕ, List, ◌≡◌, ◌↔◌, ◌≤◌, ◌<◌, IsTrue, cond, None, length}
use Rattle.pr_stamps.specs.Point.{Point, Before, IsStamp}
use Rattle.pr_stamps.specs.declared.mark.Mark.{Mark}
use Rattle.pr_sets.specs.Sets.{AreApart}
use Rattle.pr_names.specs.Name.{IsName}
use Rattle.pr_vectors.specs.Vector.{Covers, is_covered}
use Rattle.pr_inval.specs.declared.write_rec.WriteRec.{WriteRec}
use Rattle.pr_log.specs.Log.{Logged, is_lit, Knows as KnowsIn}
use Rattle.pr_gaps.specs.Gaps.{Told, IsTold as IsToldIn, set_at}
use Rattle.pr_bodies.specs.Bodies.{Held, held}
use Rattle.pr_marks.specs.Row.{Rises}
use Rattle.pr_marks.specs.Table.{Table, newest_of, marks_of}
use Rattle.pr_story.specs.declared.entry.Entry.{Entry}
use Rattle.pr_story.specs.History.{current_vector}
use Rattle.pr_story.specs.Told.{IsTold, IsLit}
use Rattle.pr_story.specs.Knowledge.{Knows, WasNamed, known_mark, mark_at, held_body, cuts_of, floor_of}
use Rattle.pr_story.specs.Ranges.{IsStampOrNone}
use Rattle.pr_story.specs.Search.{IsNewestOf}
use Rattle.pr_node.specs.declared.stores.Stores.{Stores}
use Rattle.pr_node.specs.Grammar.{IsSpelled}

-- where the cut covers a point, nothing is said of the names that are lit there
pub record IsLogOf (n : ℕ) (j : List Entry) (m : Logged) : Type 0 where
  pub own : m.node ≡ n
  pub vector : m.vector ≡ current_vector j
  pub cut : m.cut ≡ cuts_of j
  pub lit : (o : List ℕ) (p : Point) → IsName o → ¬ Covers m.cut p → IsTrue (is_lit m o p) ↔ IsLit n j o p
  pub knows : (x : WriteRec) → ¬ Covers m.cut x.stamp → KnowsIn m x ↔ Knows j x

pub record IsGapsOf (n : ℕ) (j : List Entry) (g : Told) : Type 0 where
  pub own : g.node ≡ n
  pub vector : g.vector ≡ current_vector j
  pub apart : AreApart g.sets
  pub told : (i : ℕ) (p : Point) → i ≤ length g.sets → p.node < 32 → IsToldIn g i p ↔ IsTold n j (set_at g.sets i) p

-- of a name only the bodies that are below no known stamp need be held
pub record IsBodiesOf (j : List Entry) (b : Held) : Type 0 where
  pub bodies : (o : List ℕ) (t : Point) → ((s : Point) → WasNamed j o s → ¬ Before t s) → held b o t ≡ held_body j o t

abbrev pub IsMarkInRange : Mark → Type 0
IsMarkInRange mark = IsStamp mark.stamp × IsStampOrNone mark.prev

pub record IsMarksOf (j : List Entry) (m : Table) : Type 0 where
  pub floor : m.floor ≡ floor_of j
  pub newest : (o : List ℕ) → IsNewestOf j o (newest_of m o)
  pub rises : (o : List ℕ) → Rises (marks_of m o)
  pub in_range : (o : List ℕ) → All IsMarkInRange (marks_of m o)
  pub from_one : (o : List ℕ) (s : Point) → s.clock ≡ 0 → known_mark j o s ≡ None
  pub marks : (o : List ℕ) (s : Point) → mark_at (marks_of m o) s ≡ cond (is_covered m.floor s) None (known_mark j o s)

pub record IsTied (n : ℕ) (j : List Entry) (s : Stores) : Type 0 where
  pub log : IsLogOf n j s.log
  pub gaps : IsGapsOf n j s.gaps
  pub bodies : IsBodiesOf j s.bodies
  pub marks : IsMarksOf j s.marks
  pub spelled : IsSpelled j
