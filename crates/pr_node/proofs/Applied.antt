-- All stores stay tied over an accepted checkpoint.
use Rattle.std.proofs.Common.{◌≡◌, ℕ, ◌<◌, ◌≤◌, inl, inr, List, [], ◌∷◌, ◌++◌, ◌+◌, refl, sym, ◌∙◌, subst, length, take, get_or}
use Rattle.pr_stamps.specs.Point.{Before}
use Rattle.pr_names.specs.Span.{Span}
use Rattle.pr_sets.specs.Spans.{has}
use Rattle.pr_inval.specs.declared.kind.Kind.{Kind}
use Rattle.pr_inval.specs.declared.kind.Kind.TheVariants.{Checkpoint}
use Rattle.pr_inval.specs.declared.msg.Msg.{Msg}
use Rattle.pr_inval.specs.declared.row.Row.{Row}
use Rattle.pr_log.specs.Log.{IsDarkened}
use Rattle.pr_bodies.specs.Bodies.{Held, held, IsSettled}
use Rattle.pr_snap.specs.Apply.{IsApplied}
use Rattle.pr_story.specs.declared.entry.Entry.{Entry}
use Rattle.pr_story.specs.declared.event.Event.TheVariants.{Accepted}
use Rattle.pr_story.specs.Knowledge.{HasRow}
use Rattle.pr_node.specs.declared.stores.Stores.{Stores}
use Rattle.pr_node.specs.Taking.{AreSettled}
use Rattle.pr_node.specs.Ties.{IsTied}
use Rattle.std.proofs.lemmas.List.Elements.{Contains-append_left, Contains-push, Contains-push_cases}
use Rattle.pr_story.proofs.NewestFirst.{with_next, with_whole}
use Rattle.pr_inval.specs.Messages.{IsKind}
use Rattle.pr_node.proofs.Logs.{dark_log}
use Rattle.pr_node.proofs.Points.{covered_gaps}
use Rattle.pr_node.proofs.Held.{body_step, settled_or}
use Rattle.pr_node.proofs.Refining.{same_body}
use Rattle.pr_node.proofs.Checkpoints.{applied_marks}
use Rattle.pr_node.proofs.Spelled.{rows_orderly, rows_range}

settled_with : (a b c : Held) (rows : List Row) (row : Row) → AreSettled a b rows → IsSettled b c row.name row.newest → AreSettled a c (rows ++ row ∷ [])
settled_with a b c rows row old settled o t = elim (settled_or b c row.name o row.newest t settled) [
  | inl same ↦ elim (old o t) [
    | inl was ↦ inl (
      same.0 ∙ was.0,
      λ r. elim (Contains-push_cases rows row r.0 r.1) [
        | inl before ↦ was.1 (r.0, before, r.2, r.3)
        | inr here ↦ same.1 (subst (λ (x : Row). (x.name ≡ o) × Before t x.newest) (sym here) (r.2, r.3))
      ],
    )
    | inr gone ↦ inr (same.0 ∙ gone.0, (gone.1.0, Contains-append_left rows (row ∷ []) gone.1.0 gone.1.1, gone.1.2, gone.1.3))
  ]
  | inr gone ↦ inr (gone.0, (row, Contains-push rows row, gone.1, gone.2))
]

-- one row more
pub settled_more : (a b c : Held) (rows : List Row) (i : ℕ) (row : Row) → i < length rows → row ≡ get_or rows i row
    → AreSettled a b (take i rows) → IsSettled b c row.name row.newest → AreSettled a c (take (i + 1) rows)
settled_more a b c rows i row lt at old settled = with_next (λ (rs : List Row). AreSettled a c rs) rows i row lt at (settled_with a b c (take i rows) row old settled)

pub settled_all : (a b : Held) (rows : List Row) (i : ℕ) → length rows ≤ i → AreSettled a b (take i rows) → AreSettled a b rows
settled_all a b rows i le old = with_whole (λ (rs : List Row). AreSettled a b rs) rows i le old

pub checkpoint_tied : (n : ℕ) (j : List Entry) (a b : Stores) (time caller : ℕ) (msg : Msg) (at to : List ℕ) (target : List Span) (floor : List ℕ) (rows : List Row)
    → msg.kind ≡ Checkpoint to target floor rows → IsKind (Checkpoint to target floor rows) → IsTied n j a
    → IsDarkened a.log b.log to → IsApplied a.gaps b.gaps a.marks b.marks to target floor rows → AreSettled a.bodies b.bodies rows
    → IsTied n (record { time = time; caller = caller; event = Accepted msg at } ∷ j) b
checkpoint_tied n j a b time caller msg at to target floor rows is grammar f dark applied settled =
    let k : Kind = Checkpoint to target floor rows in
    let e : Entry = record { time = time; caller = caller; event = Accepted msg at } in
    record {
      log = dark_log n j a.log b.log time caller msg at k is refl (λ x o. absurd o) f.log dark;
      gaps = covered_gaps n j a.gaps b.gaps time caller msg at k is f.gaps applied.gaps;
      bodies = body_step e j a.bodies b.bodies (λ o t latest. elim (settled o t) [
        | inl same ↦ same.0
        | inr gone ↦
            let r = gone.1 in
            absurd (latest r.0.newest (inl (inr (r.0, subst (λ (q : Kind). HasRow q r.0) (sym is) r.1, r.2, refl))) r.3)
      ] ∙ sym (same_body msg at k o t (held a.bodies o t) (held a.bodies o t) is refl)) f.bodies;
      marks = applied_marks j a.marks b.marks time caller msg at to target floor rows is grammar.1.floor_is (rows_range to (has target) floor rows grammar.1) (rows_orderly to (has target) floor rows grammar.1) f.marks applied.floor applied.newest applied.marks;
      spelled = (subst (λ (q : Kind). IsKind q) (sym is) grammar, f.spelled);
    }
