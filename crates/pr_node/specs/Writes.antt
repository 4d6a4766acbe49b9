-- A node's own writes.
use Rattle.std.specs.Prelude.{ℕ, List, Bool, ◌≡◌, ◌<◌, ◌+◌, ◌&&◌, not, cond, None, Some}
use Rattle.std.specs.Str.{bytes_eq}
use Rattle.pr_stamps.specs.Point.{Point, is_before, is_this, IsPrev}
use Rattle.pr_vectors.specs.Vector.{clock_of}
use Rattle.pr_bodies.specs.Bodies.{Held, held}
use Rattle.pr_inval.specs.declared.write_rec.WriteRec.{WriteRec}
use Rattle.pr_story.specs.declared.entry.Entry.{Entry}
use Rattle.pr_story.specs.History.{current_clock}
use Rattle.pr_story.specs.Knowledge.{IsNewestKnown}
use Rattle.pr_story.specs.Ranges.{IsWrite}

-- the stamp of the write that node n makes next, where its vector is v
pub record IsNextStamp (n : ℕ) (v : List ℕ) (stamp : Point) : Type 0 where
  pub node : stamp.node ≡ n
  pub after_all : (w : ℕ) → w < 32 → clock_of v w < stamp.clock
  pub next : (w : ℕ) × (w < 32) × (stamp.clock ≡ clock_of v w + 1)

-- the write that node n makes next
pub record IsNextOwn (n : ℕ) (j : List Entry) (name : List ℕ) (gone : Bool) (write : WriteRec) : Type 0 where
  pub is_name : write.name ≡ name
  pub is_gone : write.gone ≡ gone
  pub node : write.stamp.node ≡ n
  pub in_range : IsWrite write
  pub after_all : (w : ℕ) → w < 32 → current_clock j w < write.stamp.clock
  pub next : (w : ℕ) × (w < 32) × (write.stamp.clock ≡ current_clock j w + 1)
  pub newest : IsNewestKnown j name write.prev
  pub before : IsPrev write.prev write.stamp

-- the node's vector has the greatest clock
abbrev pub IsClockWornIn : List Entry → Type 0
IsClockWornIn j = (w : ℕ) × (w < 32) × (current_clock j w ≡ 4611686018427387903)

-- the body is held, unless the write deletes; the name's bodies with smaller stamps are gone
abbrev pub IsBodyKept : Held → Held → WriteRec → List ℕ → Type 0
IsBodyKept a b write body = (o : List ℕ) (t : Point) →
    held b o t ≡ cond (bytes_eq write.name o && is_before t write.stamp) None (cond (is_this write.name write.stamp o t && not write.gone) (Some body) (held a o t))
