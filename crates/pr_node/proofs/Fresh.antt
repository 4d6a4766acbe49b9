-- A new node's stores are tied to the empty journal.
use Rattle.std.proofs.Common.{length, ◌≡◌, ℕ, ◌≤◌, inl, inr, List, [], refl, sym, ◌∙◌, subst, arith, cond}
use Rattle.std.specs.Prelude.{Bool, true, false, Option, None}
use Rattle.std.proofs.lemmas.Bool.Decides.{Decides-eqb}
use Rattle.pr_stamps.specs.Point.{Point}
use Rattle.pr_stamps.specs.declared.mark.Mark.{Mark}
use Rattle.pr_names.specs.Span.{Span}
use Rattle.pr_vectors.specs.Vector.{clock_of, Covers, zero_vector, is_covered}
use Rattle.pr_log.specs.Log.{IsNewLog}
use Rattle.pr_gaps.specs.Gaps.{IsNew}
use Rattle.pr_bodies.specs.Bodies.{Held}
use Rattle.pr_marks.specs.Table.{Table}
use Rattle.pr_story.specs.declared.entry.Entry.{Entry}
use Rattle.pr_story.proofs.Basics.{clock_zero}
use Rattle.pr_node.specs.declared.stores.Stores.{Stores}
use Rattle.pr_node.specs.Ties.{IsTied, IsBodiesOf, IsMarksOf}
use Rattle.pr_sets.specs.Sets.{AreApart}

none_covered : (p : Point) → Covers zero_vector p → ⊥
none_covered p c = let z : clock_of zero_vector p.node ≡ 0 = clock_zero p.node in omega (arith, z, c.0, c.1)

none_either : (b : Bool) → let none : Option Mark = None in none ≡ cond b none none
none_either true = refl
none_either false = refl

pub fresh_tied : (n : ℕ) (j : List Entry) (s : Stores) (sets : List (List Span)) → j ≡ [] → AreApart sets → IsNewLog s.log n → IsNew s.gaps n sets → s.bodies ≡ record { rows = []; spent = false } → s.marks ≡ record { rows = []; floor = zero_vector; spent = false } → IsTied n j s
fresh_tied n j s sets empty apart log gaps bodies marks = subst (λ (x : List Entry). IsTied n x s) (sym empty) (record {
  log = record {
    own = log.at;
    vector = log.vector;
    cut = log.cut;
    lit = λ o p name above. (
      λ t. inl ((Decides-eqb p.node n).0 (sym (log.lit o p) ∙ t)),
      λ l. elim l [ inl own ↦ log.lit o p ∙ (Decides-eqb p.node n).1 own | inr k ↦ absurd k.1 ],
    );
    knows = λ x above. (λ k. absurd (log.knows x k), λ k. absurd k);
  };
  gaps = record {
    own = gaps.at;
    vector = gaps.vector;
    apart = subst (λ (ss : List (List Span)). AreApart ss) (sym gaps.is_sets) apart;
    told = λ i p lt node. (
      λ t. absurd (gaps.told i p (subst (λ (ss : List (List Span)). i ≤ length ss) gaps.is_sets lt) t),
      λ t. elim t [ inl own ↦ absurd (none_covered p own.1) | inr k ↦ absurd k.1 ],
    );
  };
  bodies = subst (λ (b : Held). IsBodiesOf [] b) (sym bodies) (record { bodies = λ o t latest. refl });
  marks = subst (λ (m : Table). IsMarksOf [] m) (sym marks) (record {
    floor = refl;
    newest = λ o t n. n;
    rises = λ o i k d lt within. absurd (omega arith);
    in_range = λ o k d lt. absurd (omega arith);
    from_one = λ o s none. refl;
    marks = λ o s. none_either (is_covered zero_vector s);
  });
  spelled = tt;
})
