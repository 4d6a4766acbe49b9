-- All stores stay tied over an accepted body; and what starts at zero has no gap.
use Rattle.std.proofs.Common.{◌≡◌, ℕ, inl, inr, List, ◌∷◌, cond, refl, sym, ◌∙◌, ap, subst, arith}
use Rattle.std.specs.Prelude.{Bool, true, false, Decides, Option, Some, None}
use Rattle.pr_stamps.specs.Point.{Point, Before, is_this}
use Rattle.pr_vectors.specs.Vector.{clock_of, Le, zero_vector}
use Rattle.pr_inval.specs.declared.kind.Kind.{Kind}
use Rattle.pr_inval.specs.declared.kind.Kind.TheVariants.{Precise, Imprecise, Checkpoint, Body}
use Rattle.pr_inval.specs.declared.msg.Msg.{Msg}
use Rattle.pr_inval.specs.Points.{is_invalidation, from_of, to_of, CoversPoint}
use Rattle.pr_bodies.specs.Bodies.{Held, held}
use Rattle.pr_stamps.specs.declared.newest.Newest.{Newest}
use Rattle.pr_marks.specs.Table.{newest_of}
use Rattle.pr_story.specs.declared.entry.Entry.{Entry}
use Rattle.pr_story.specs.declared.event.Event.TheVariants.{Accepted}
use Rattle.pr_story.specs.Knowledge.{IsOf, WasNamed, body_after, floor_in}
use Rattle.pr_story.specs.Lawful.{has_from}
use Rattle.pr_story.specs.Search.{IsNewestOf}
use Rattle.pr_story.proofs.Basics.{clock_zero}
use Rattle.pr_story.proofs.Known.{Decides-is_this, same_point}
use Rattle.pr_node.specs.declared.stores.Stores.{Stores}
use Rattle.pr_node.specs.Taking.{IsBodyTaken, IsLate}
use Rattle.pr_node.specs.Ties.{IsTied, IsLogOf, IsGapsOf, IsMarksOf}
use Rattle.pr_inval.specs.Messages.{IsKind}
use Rattle.pr_node.proofs.Logs.{same_log}
use Rattle.pr_node.proofs.Points.{same_gaps}
use Rattle.pr_node.proofs.Held.{body_step}
use Rattle.pr_node.proofs.Tables.{same_marks}
use Rattle.pr_node.proofs.Refining.{same_body, same_mark, no_newest}

zero_le : (v : List ℕ) → Le zero_vector v
zero_le v w lt = let z : clock_of zero_vector w ≡ 0 = clock_zero w in omega arith

pub starts_at_zero : (k : Kind) (v : List ℕ) → has_from k ≡ false → Le (from_of k) v
starts_at_zero (Precise from to write) v e = absurd (cc)
starts_at_zero (Imprecise from to target) v e = absurd (cc)
starts_at_zero (Checkpoint to target floor rows) v e = zero_le v
starts_at_zero (Body name stamp bytes) v e = zero_le v

not_this_by : (b : Bool) (X : Type 0) (x y : Option (List ℕ)) → Decides b X → (X → ⊥) → cond b x y ≡ y
not_this_by true X x y d isnt = absurd (isnt (d.0 refl))
not_this_by false X x y d isnt = refl

not_this : (name : List ℕ) (stamp : Point) (o : List ℕ) (t : Point) (x y : Option (List ℕ)) → (name ≡ o → stamp ≡ t → ⊥) → cond (is_this name stamp o t) x y ≡ y
not_this name stamp o t x y isnt = not_this_by (is_this name stamp o t) ((name ≡ o) × ((stamp.clock ≡ t.clock) × (stamp.node ≡ t.node))) x y (Decides-is_this name stamp o t) (λ d. isnt d.0 (same_point stamp t d.1.0 d.1.1))

-- a stamp after this one was named
late_named : (j : List Entry) (name : List ℕ) (stamp : Point) (newest : Option Newest) → IsNewestOf j name newest → IsLate newest stamp → (s : Point) × WasNamed j name s × Before stamp s
late_named j name stamp None n late = absurd late
late_named j name stamp (Some newest) n late = (newest.stamp, n.0.0, late)

pub body_tied : (n : ℕ) (j : List Entry) (a b : Stores) (time caller : ℕ) (msg : Msg) (at name : List ℕ) (stamp : Point) (bytes : List ℕ)
    → msg.kind ≡ Body name stamp bytes → IsKind (Body name stamp bytes) → IsTied n j a → IsBodyTaken a.bodies b.bodies a.marks name stamp bytes → b.log ≡ a.log → b.gaps ≡ a.gaps → b.marks ≡ a.marks
    → IsTied n (record { time = time; caller = caller; event = Accepted msg at } ∷ j) b
body_tied n j a b time caller msg at name stamp bytes is grammar f taken same_l same_g same_m =
    let k : Kind = Body name stamp bytes in
    let e : Entry = record { time = time; caller = caller; event = Accepted msg at } in
    let brought : (w : ℕ) → clock_of (to_of msg.kind) w ≡ 0 = λ w. ap (λ (x : Kind). clock_of (to_of x) w) is ∙ clock_zero w in
    let now : (o : List ℕ) (t : Point) → body_after e.event o t (held a.bodies o t) ≡ cond (is_this name stamp o t) (Some bytes) (held a.bodies o t) = λ o t. same_body msg at k o t (held a.bodies o t) (cond (is_this name stamp o t) (Some bytes) (held a.bodies o t)) is refl in
    record {
      log = subst (λ m. IsLogOf n (e ∷ j) m) (sym same_l) (same_log n e j a.log brought refl
          (λ q acc. ap is_invalidation (sym acc ∙ is))
          (λ x t. subst (λ (q : Kind). IsOf q x) is t) f.log);
      gaps = subst (λ g. IsGapsOf n (e ∷ j) g) (sym same_g) (same_gaps n e j a.gaps brought
          (λ q p acc c. no_point p (subst (λ (y : Kind). CoversPoint y p) (sym acc ∙ is) c)) f.gaps);
      bodies = body_step e j a.bodies b.bodies (λ o t latest. elim taken [
        | inl put ↦ put.0 o t ∙ sym (now o t)
        | inr late ↦
            let s = late_named j name stamp (newest_of a.marks name) (f.marks.newest name) late.1 in
            ap (λ (h : Held). held h o t) late.0
            ∙ sym (now o t ∙ not_this name stamp o t (Some bytes) (held a.bodies o t) (λ q r.
            latest s.0 (inr (subst (λ (x : List ℕ). WasNamed j x s.0) q s.1)) (subst (λ (x : Point). Before x s.0) r s.2)))
      ]) f.bodies;
      marks = subst (λ m. IsMarksOf (e ∷ j) m) (sym same_m) (same_marks e j a.marks f.marks (ap floor_in is)
          (λ o. no_newest msg at k o is (λ x q. absurd q) (λ row q. absurd q))
          (λ o s. same_mark msg at k o s None is refl));
      spelled = (subst (λ (q : Kind). IsKind q) (sym is) grammar, f.spelled);
    }
  where
    no_point : (p : Point) → CoversPoint (Body name stamp bytes) p → ⊥
    no_point p c = let z : clock_of zero_vector p.node ≡ 0 = clock_zero p.node in omega (arith, z, c.0, c.1)
