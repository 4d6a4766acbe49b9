-- What the told points, the newest stamps, the bodies and the marks say of a name.
use Rattle.std.proofs.Common.{◌≡◌, ℕ, ◌<◌, ◌≤◌, inl, inr, List, [], ◌∷◌, cond, refl, sym, ◌∙◌, ap, subst, arith, length}
use Rattle.std.specs.Prelude.{Bool, Option, Some, None, not}
use Rattle.std.specs.List.{list_any}
use Rattle.pr_stamps.specs.Point.{Point}
use Rattle.pr_names.specs.Span.{Span}
use Rattle.pr_sets.specs.Spans.{has}
use Rattle.pr_vectors.specs.Vector.{clock_of, Covers}
use Rattle.pr_gaps.specs.Gaps.{Told, IsTold as IsToldIn, IsLeastUntold, set_at}
use Rattle.pr_sets.specs.Sets.{set_of as set_of_gaps, first_with as first_in, first_with, set_of}
use Rattle.pr_bodies.specs.Bodies.{Held, held}
use Rattle.pr_stamps.specs.declared.newest.Newest.{Newest}
use Rattle.pr_marks.specs.Table.{Table, newest_of}
use Rattle.pr_story.specs.declared.entry.Entry.{Entry}
use Rattle.pr_story.specs.History.{current_clock, current_vector}
use Rattle.pr_story.specs.Told.{IsTold, IsPrecise, IsUntold}
use Rattle.pr_story.specs.Knowledge.{IsNewestKnown, KnowsGone, held_body}
use Rattle.pr_story.specs.Search.{IsNewestOf}
use Rattle.pr_node.specs.Ties.{IsGapsOf, IsBodiesOf, IsMarksOf}
use Rattle.pr_node.proofs.Clocks.{clock_out, below_or_not, same_covered}

-- the set that has the name is the same set, in the words of the told points and of a history
first_same : (sets : List (List Span)) (rest : List ℕ → Bool) (o : List ℕ) → first_in sets rest o ≡ first_with sets rest o
first_same [] rest o = refl
first_same (set ∷ sets) rest o = ap (λ (x : List ℕ → Bool). cond (has set o) (has set) x) (first_same sets rest o)

pub set_same : (sets : List (List Span)) (o : List ℕ) → set_of_gaps sets o ≡ set_of sets o
set_same sets o = first_same sets (λ x. not (list_any (λ set. has set x) sets)) o

covered_node : (j : List Entry) (p : Point) → Covers (current_vector j) p → p.node < 32
covered_node j p c = elim (below_or_not p.node 32) [
  | inl lt ↦ lt
  | inr out ↦ let z : clock_of (current_vector j) p.node ≡ 0 = clock_out (current_clock j) p.node out in absurd (omega (arith, z, c.0, c.1))
]

-- the set of this number is the one of a name, precise or with a least untold point
module _ (n : ℕ) (j : List Entry) (g : Told) (o : List ℕ) (index : ℕ) (f : IsGapsOf n j g) (within : index ≤ length g.sets) (at : set_at g.sets index ≡ set_of_gaps g.sets o) where
  set_is : set_at g.sets index ≡ set_of g.sets o
  set_is = at ∙ set_same g.sets o

  told_is : (p : Point) → p.node < 32 → IsToldIn g index p → IsTold n j (set_of g.sets o) p
  told_is p lt t = subst (λ (set : List ℕ → Bool). IsTold n j set p) set_is ((f.told index p within lt).0 t)

  is_told : (p : Point) → p.node < 32 → IsTold n j (set_of g.sets o) p → IsToldIn g index p
  is_told p lt t = (f.told index p within lt).1 (subst (λ (set : List ℕ → Bool). IsTold n j set p) (sym set_is) t)

  pub untold_is : (p : Point) → IsLeastUntold g index (Some p) → IsUntold n j (set_of g.sets o) p
  untold_is p u = (
    same_covered g.vector (current_vector j) p f.vector u.1,
    (λ t. u.2 (is_told p u.0 t)),
    (λ q c t b. let lt : q.node < 32 = covered_node j q c in u.3 q lt (same_covered (current_vector j) g.vector q (sym f.vector) c) (λ x. t (told_is q lt x)) b),
  )

  pub precise_is : IsLeastUntold g index None → IsPrecise n j (set_of g.sets o)
  precise_is u p c = let lt : p.node < 32 = covered_node j p c in told_is p lt (u p lt (same_covered (current_vector j) g.vector p (sym f.vector) c))

newest_as : (j : List Entry) (m : Table) (o : List ℕ) (q : Option Newest) → IsMarksOf j m → q ≡ newest_of m o → IsNewestOf j o q
newest_as j m o q f is = subst (λ (x : Option Newest). IsNewestOf j o x) (sym is) (f.newest o)

pub none_known : (j : List Entry) (m : Table) (o : List ℕ) → IsMarksOf j m → None ≡ newest_of m o → IsNewestKnown j o None
none_known j m o f is = newest_as j m o None f is

pub newest_is : (j : List Entry) (m : Table) (o : List ℕ) (n : Newest) → IsMarksOf j m → Some n ≡ newest_of m o → IsNewestKnown j o (Some n.stamp) × KnowsGone j o n.stamp n.gone
newest_is j m o n f is = newest_as j m o (Some n) f is

-- the body of the newest write is held just where the node has it
pub newest_held : (j : List Entry) (b : Held) (o : List ℕ) (t : Point) (x : Option (List ℕ)) → IsBodiesOf j b → IsNewestKnown j o (Some t) → held b o t ≡ x → held_body j o t ≡ x
newest_held j b o t x f newest is = sym (f.bodies o t (λ s w. newest.1 s w)) ∙ is
