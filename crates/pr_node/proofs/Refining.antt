-- All stores stay tied over an accepted invalidation.
use Rattle.std.proofs.Common.{◌≡◌, ◌⊎◌, ℕ, inl, inr, List, [], ◌∷◌, cond, refl, sym, ◌∙◌, ap, subst}
use Rattle.std.specs.Prelude.{Option, Some, None}
use Rattle.pr_stamps.specs.Point.{Point, is_this}
use Rattle.pr_stamps.specs.declared.mark.Mark.{Mark}
use Rattle.pr_stamps.specs.declared.newest.Newest.{Newest}
use Rattle.pr_names.specs.Span.{Span}
use Rattle.pr_inval.specs.declared.kind.Kind.{Kind}
use Rattle.pr_inval.specs.declared.kind.Kind.TheVariants.{Precise, Imprecise}
use Rattle.pr_inval.specs.declared.msg.Msg.{Msg}
use Rattle.pr_inval.specs.declared.row.Row.{Row}
use Rattle.pr_inval.specs.declared.write_rec.WriteRec.{WriteRec}
use Rattle.pr_log.specs.Log.{IsRefined}
use Rattle.pr_gaps.specs.Gaps.{IsCovered}
use Rattle.pr_bodies.specs.Bodies.{Held, held, IsSettled}
use Rattle.pr_marks.specs.Table.{Table, IsMarked}
use Rattle.pr_story.specs.declared.entry.Entry.{Entry}
use Rattle.pr_story.specs.declared.event.Event.TheVariants.{Accepted}
use Rattle.pr_story.specs.Knowledge.{HeardOf, IsOf, HasRow, body_in, floor_in, mark_in, mark_of, mark_told, body_after}
use Rattle.pr_story.specs.Search.{IsNewestIn, IsOnly}
use Rattle.pr_story.proofs.NewestNow.{accepted_newest}
use Rattle.pr_node.specs.declared.stores.Stores.{Stores}
use Rattle.pr_node.specs.Ties.{IsTied, IsMarksOf}
use Rattle.pr_inval.specs.Messages.{IsKind}
use Rattle.pr_node.proofs.Logs.{refined_log, some_same}
use Rattle.pr_node.proofs.Points.{covered_gaps}
use Rattle.pr_node.proofs.Held.{body_step, kept_by}
use Rattle.pr_node.proofs.Tables.{heard_again, write_marked, same_marks}
use Rattle.pr_node.proofs.Spelled.{prev_range}

-- ---- what a kind says, of a message that is of it

pub same_body : (msg : Msg) (at : List ℕ) (k : Kind) (o : List ℕ) (t : Point) (x y : Option (List ℕ)) → msg.kind ≡ k → body_in k o t x ≡ y → body_after (Accepted msg at) o t x ≡ y
same_body msg at k o t x y is e = ap (λ (q : Kind). body_in q o t x) is ∙ e

pub same_mark : (msg : Msg) (at : List ℕ) (k : Kind) (o : List ℕ) (s : Point) (y : Option Mark) → msg.kind ≡ k → mark_in k o s ≡ y → mark_told (Accepted msg at) o s ≡ y
same_mark msg at k o s y is e = ap (λ (q : Kind). mark_in q o s) is ∙ e

-- a kind that tells of no write and has no row names no stamp
pub no_newest : (msg : Msg) (at : List ℕ) (k : Kind) (o : List ℕ) → msg.kind ≡ k → ((x : WriteRec) → IsOf k x → ⊥) → ((row : Row) → HasRow k row → ⊥) → IsNewestIn (Accepted msg at) o None
no_newest msg at k o is of rows = λ s t. elim t [
  | inl x ↦ of x.0 (subst (λ (q : Kind). IsOf q x.0) is x.1)
  | inr r ↦ rows r.0 (subst (λ (q : Kind). HasRow q r.0) is r.1)
]

-- ---- invalidations

pub precise_tied : (n : ℕ) (j : List Entry) (a b : Stores) (time caller : ℕ) (msg : Msg) (at from to : List ℕ) (none : List Span) (write : WriteRec)
    → none ≡ [] → msg.kind ≡ Precise from to write → IsKind (Precise from to write) → IsTied n j a
    → IsRefined a.log b.log from to none (Some write) → IsCovered a.gaps b.gaps from to none → IsSettled a.bodies b.bodies write.name write.stamp ⊎ (b.bodies ≡ a.bodies) → IsMarked a.marks b.marks write.name (mark_of write) write.gone ⊎ ((b.marks ≡ a.marks) × HeardOf j write)
    → IsTied n (record { time = time; caller = caller; event = Accepted msg at } ∷ j) b
precise_tied n j a b time caller msg at from to none write empty is grammar f refined covered left marked =
    let k : Kind = Precise from to write in
    let e : Entry = record { time = time; caller = caller; event = Accepted msg at } in
    record {
      log = refined_log n j a.log b.log time caller msg at k (Some write) is refl (λ x. some_same write x) f.log (subst (λ (t : List Span). IsRefined a.log b.log from to t (Some write)) empty refined);
      gaps = covered_gaps n j a.gaps b.gaps time caller msg at k is f.gaps (subst (λ (t : List Span). IsCovered a.gaps b.gaps from to t) empty covered);
      bodies = body_step e j a.bodies b.bodies (λ o t latest.
          kept_by a.bodies b.bodies write.name o write.stamp t left (λ same before. latest write.stamp (inl (inl (write, subst (λ (q : Kind). IsOf q write) (sym is) refl, same, refl))) before)
          ∙ sym (same_body msg at k o t (held a.bodies o t) (held a.bodies o t) is refl)) f.bodies;
      marks =
          let only = λ (o : List ℕ) (r : Option Newest) (is_only : IsOnly write o r). accepted_newest msg at from to write o r is is_only in
          let told = λ (o : List ℕ) (s : Point). same_mark msg at k o s (cond (is_this write.name write.stamp o s) (Some (mark_of write)) None) is refl in
          elim marked [
            | inl new ↦ write_marked e j a.marks b.marks write f.marks new (grammar.3.stamp, prev_range write.prev write.stamp grammar.3.prev) only told (ap floor_in is)
            | inr old ↦ subst (λ (m : Table). IsMarksOf (e ∷ j) m) (sym old.0) (heard_again e j a.marks write f.marks old.1 grammar.3.stamp.from_one only told (ap floor_in is))
          ];
      spelled = (subst (λ (q : Kind). IsKind q) (sym is) grammar, f.spelled);
    }

pub imprecise_tied : (n : ℕ) (j : List Entry) (a b : Stores) (time caller : ℕ) (msg : Msg) (at from to : List ℕ) (target : List Span)
    → msg.kind ≡ Imprecise from to target → IsKind (Imprecise from to target) → IsTied n j a
    → IsRefined a.log b.log from to target None → IsCovered a.gaps b.gaps from to target → b.bodies ≡ a.bodies → b.marks ≡ a.marks
    → IsTied n (record { time = time; caller = caller; event = Accepted msg at } ∷ j) b
imprecise_tied n j a b time caller msg at from to target is grammar f refined covered bodies marks =
    let k : Kind = Imprecise from to target in
    let e : Entry = record { time = time; caller = caller; event = Accepted msg at } in
    record {
      log = refined_log n j a.log b.log time caller msg at k None is refl (λ x. (λ q. absurd (cc), λ q. absurd q)) f.log refined;
      gaps = covered_gaps n j a.gaps b.gaps time caller msg at k is f.gaps covered;
      bodies = body_step e j a.bodies b.bodies (λ o t latest. ap (λ (h : Held). held h o t) bodies ∙ sym (same_body msg at k o t (held a.bodies o t) (held a.bodies o t) is refl)) f.bodies;
      marks = subst (λ (m : Table). IsMarksOf (e ∷ j) m) (sym marks) (same_marks e j a.marks f.marks (ap floor_in is)
          (λ o. no_newest msg at k o is (λ x q. absurd q) (λ row q. absurd q))
          (λ o s. same_mark msg at k o s None is refl));
      spelled = (subst (λ (q : Kind). IsKind q) (sym is) grammar, f.spelled);
    }
