-- All stores stay tied over a cut, and where the bodies of a name are dropped.
use Rattle.std.proofs.Common.{◌≡◌, ℕ, ◌≤◌, inl, inr, List, ◌∷◌, max, refl, sym, ◌∙◌, ap, subst, arith}
use Rattle.std.specs.Prelude.{All, not, IsTrue, Option, Some, None}
use Rattle.std.proofs.lemmas.List.Kept.{AllPairs-filter}
use Rattle.pr_stamps.specs.Point.{Point, is_before}
use Rattle.pr_stamps.specs.declared.mark.Mark.{Mark}
use Rattle.pr_vectors.specs.Vector.{clock_of, Covers, join_of, IsVector, is_covered}
use Rattle.pr_vectors.proofs.Vectors.{clock_of-vector_of}
use Rattle.pr_log.specs.Log.{IsCut}
use Rattle.pr_bodies.specs.Bodies.{IsDroppedAll}
use Rattle.pr_marks.specs.Row.{Rises, above_floor}
use Rattle.pr_marks.specs.Table.{Table, newest_of, marks_of, IsForgotten}
use Rattle.pr_story.specs.declared.entry.Entry.{Entry}
use Rattle.pr_story.specs.declared.event.Event.TheVariants.{Cut, Dropped}
use Rattle.pr_story.specs.Knowledge.{first_of, known_mark, cuts_of}
use Rattle.pr_story.proofs.NewestNow.{newest_more}
use Rattle.pr_node.specs.declared.stores.Stores.{Stores}
use Rattle.pr_node.specs.Ties.{IsTied, IsLogOf, IsGapsOf, IsBodiesOf, IsMarksOf, IsMarkInRange}
use Rattle.pr_node.proofs.Clocks.{same_current, cut_out, below_or_not}
use Rattle.pr_node.proofs.Logs.{lit_step, same_log}
use Rattle.pr_node.proofs.Points.{same_gaps}
use Rattle.pr_node.proofs.Held.{body_step}
use Rattle.pr_node.proofs.Marked.{IsKept, all_above}
use Rattle.pr_node.proofs.Tables.{same_marks, later_none}
use Rattle.pr_node.proofs.Checkpoints.{covered_join, kept_above}

-- what the cut covers, its join with the vector covers too
join_covers : (v w : List ℕ) (p : Point) → ((le : 32 ≤ p.node) → ◌≡◌ {A = ℕ} (clock_of v p.node) 0) → Covers v p → Covers (join_of v w) p
join_covers v w p out c = elim (below_or_not p.node 32) [
  | inl lt ↦ let e : clock_of (join_of v w) p.node ≡ max (clock_of v p.node) (clock_of w p.node) = clock_of-vector_of (λ n. max (clock_of v n) (clock_of w n)) p.node lt in (c.0, omega (arith, e, c.1))
  | inr ge ↦ let z : clock_of v p.node ≡ 0 = out ge in absurd (omega (arith, z, c.0, c.1))
]

none_first : (x : Option Mark) → x ≡ first_of x None
none_first (Some x) = refl
none_first None = refl

cut_marks : (j : List Entry) (a b : Table) (time caller : ℕ) (at : List ℕ) → IsVector at → IsMarksOf j a → IsForgotten a b at → IsMarksOf (record { time = time; caller = caller; event = Cut at } ∷ j) b
cut_marks j a b time caller at range f gone = record {
  floor = gone.floor ∙ ap (λ (v : List ℕ). join_of v at) f.floor;
  newest = λ o. newest_more (record { time = time; caller = caller; event = Cut at }) j o (newest_of a o) None (newest_of b o) (gone.newest o ∙ later_none (newest_of a o)) (f.newest o) (λ s t. t);
  rises = λ o. subst (λ (ms : List Mark). Rises ms) (sym (gone.marks o)) (AllPairs-filter (λ (x : Mark) (y : Mark). IsTrue (is_before x.stamp y.stamp)) (λ (x : Mark). not (is_covered at x.stamp)) (marks_of a o) (f.rises o));
  in_range = λ o. subst (λ (ms : List Mark). All IsMarkInRange ms) (sym (gone.marks o)) (all_above IsMarkInRange at (marks_of a o) (f.in_range o));
  from_one = λ o s none. ap (λ (x : Option Mark). first_of x None) (f.from_one o s none);
  marks = λ o s.
      subst (λ (ms : List Mark). IsKept b.floor ms s (first_of (known_mark j o s) None)) (sym (gone.marks o)) (
      subst (λ (x : Option Mark). IsKept b.floor (above_floor at (marks_of a o)) s x) (none_first (known_mark j o s)) (
      kept_above a.floor at b.floor (marks_of a o) s (known_mark j o s) (ap (λ (v : List ℕ). is_covered v s) gone.floor ∙ covered_join j a.floor at s f.floor range) (f.marks o s)));
}

pub cut_tied : (n : ℕ) (j : List Entry) (a b : Stores) (time caller : ℕ) (at : List ℕ) → IsVector at → at ≡ a.log.vector → IsTied n j a → IsCut a.log b.log → IsForgotten a.marks b.marks at → b.gaps ≡ a.gaps → b.bodies ≡ a.bodies
    → IsTied n (record { time = time; caller = caller; event = Cut at } ∷ j) b
cut_tied n j a b time caller at range is f cut gone same_g same_b =
    let e : Entry = record { time = time; caller = caller; event = Cut at } in
    let low : (p : Point) → (Covers b.log.cut p → ⊥) → Covers a.log.cut p → ⊥ = λ p above c.
    above (subst (λ (v : List ℕ). Covers v p) (sym cut.cut) (join_covers a.log.cut a.log.vector p (λ le. ap (λ (v : List ℕ). clock_of v p.node) f.log.cut ∙ cut_out j p.node le) c)) in
    record {
      log = record {
        own = cut.node ∙ f.log.own;
        vector = cut.vector ∙ f.log.vector ∙ same_current e j (λ k. refl);
        cut = cut.cut ∙ ap (λ (v : List ℕ). join_of v a.log.vector) f.log.cut ∙ ap (λ (v : List ℕ). join_of (cuts_of j) v) (sym is);
        lit = λ o p name above. (
          λ t. (lit_step n e j o p).1 (inl ((f.log.lit o p name (low p above)).0 (sym (cut.lit o p name above) ∙ t))),
          λ l. elim ((lit_step n e j o p).0 l) [ inl old ↦ cut.lit o p name above ∙ (f.log.lit o p name (low p above)).1 old | inr k ↦ absurd k.1 ],
        );
        knows = λ x above. (
          λ t. inl ((f.log.knows x (low x.stamp above)).0 ((cut.knows x).0 t).0),
          λ t. elim t [ inl old ↦ (cut.knows x).1 ((f.log.knows x (low x.stamp above)).1 old, above) | inr now ↦ absurd now.0 ],
        );
      };
      gaps = subst (λ g. IsGapsOf n (e ∷ j) g) (sym same_g) (same_gaps n e j a.gaps (λ k. refl) (λ k p acc c. acc) f.gaps);
      bodies = subst (λ h. IsBodiesOf (e ∷ j) h) (sym same_b) (body_step e j a.bodies a.bodies (λ o t latest. refl) f.bodies);
      marks = cut_marks j a.marks b.marks time caller at range f.marks gone;
      spelled = (is ∙ f.log.vector, f.spelled);
    }

pub dropped_tied : (n : ℕ) (j : List Entry) (a b : Stores) (time caller : ℕ) (name : List ℕ) → IsTied n j a → IsDroppedAll a.bodies b.bodies name → b.log ≡ a.log → b.gaps ≡ a.gaps → b.marks ≡ a.marks
    → IsTied n (record { time = time; caller = caller; event = Dropped name } ∷ j) b
dropped_tied n j a b time caller name f dropped same_l same_g same_m =
    let e : Entry = record { time = time; caller = caller; event = Dropped name } in
    record {
      log = subst (λ m. IsLogOf n (e ∷ j) m) (sym same_l) (same_log n e j a.log (λ k. refl) refl (λ k acc. absurd acc) (λ x t. t) f.log);
      gaps = subst (λ g. IsGapsOf n (e ∷ j) g) (sym same_g) (same_gaps n e j a.gaps (λ k. refl) (λ k p acc c. acc) f.gaps);
      bodies = body_step e j a.bodies b.bodies (λ o t latest. dropped o t) f.bodies;
      marks = subst (λ m. IsMarksOf (e ∷ j) m) (sym same_m) (same_marks e j a.marks f.marks refl (λ o s t. t) (λ o s. refl));
      spelled = (tt, f.spelled);
    }
