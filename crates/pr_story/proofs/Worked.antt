-- The worked history is valid.
use Rattle.std.proofs.Common.{◌≡◌, ℕ, ◌<◌, ◌≤◌, ◌⊎◌, inl, inr, List, [], ◌∷◌, refl, sym, ◌∙◌, ap, subst, arith}
use Rattle.std.specs.Prelude.{true, false, IsTrue, Bool, Some, reverse}
use Rattle.std.proofs.lemmas.Bool.Decides.{nat_tests}
use Rattle.std.proofs.lemmas.List.Elements.{All-cons, All-nil}
use Rattle.pr_sets.specs.Sets.{set_of}
use Rattle.pr_stamps.specs.Point.{Point, IsStamp, Before}
use Rattle.pr_stamps.specs.declared.mark.Mark.{Mark}
use Rattle.pr_names.specs.Order.{name_lt}
use Rattle.pr_vectors.specs.Vector.{clock_of, vector_of, zero_vector, Covers}
use Rattle.pr_sets.specs.Spans.{has, IsAllBut}
use Rattle.pr_inval.specs.declared.row.Row.{Row}
use Rattle.pr_inval.specs.declared.write_rec.WriteRec.{WriteRec}
use Rattle.pr_story.specs.declared.event.Event.TheVariants.{Wrote, Attached, Sent, Idle, Stale, Accepted, Answered, Moved, Cut}
use Rattle.pr_story.specs.declared.reply.Reply.TheVariants as reply
use Rattle.pr_story.specs.Ranges.{IsMsg, IsRow, IsStampOrNone}
use Rattle.pr_story.specs.History.{journal, current_vector, WasWritten}
use Rattle.pr_story.specs.Told.{IsPrecise}
use Rattle.pr_story.specs.Knowledge.{IsNewest, IsNewestKnown, IsMark, IsCoveredMark, WasNamed, floor_of}
use Rattle.pr_story.specs.Clients.{client_vector}
use Rattle.pr_story.specs.Turns.{standing, IsTurn, IsSnapshot, IsSnapshotRow, StaleTurn}
use Rattle.pr_story.specs.Lawful.{Valid, IsLawful}
use Rattle.pr_story.specs.Counts.{AreDeclared}
use Rattle.pr_story.specs.Scripts.{IsSettle, events_of}
use Rattle.pr_story.specs.Worked.{everything, two_nodes, two_declared, does, up_to, ax, stamp_one, stamp_two, write, delete, row, first_message, second_message, settling, was_read, moved, deleted, truncated, stale, sent_again, taken_again, moved_back, read_again, IsWorked}
use Rattle.pr_story.proofs.Basics.{clock_zero}
use Rattle.pr_story.proofs.InOrder.{pairs_cons, pairs_none}
use Rattle.pr_story.proofs.Precise.{marks_both}
use Rattle.pr_story.proofs.Sorted.{contains_none, one_item}
use Rattle.pr_story.proofs.Steps.{valid_world}
use Rattle.pr_story.proofs.FirstPath.{all_hold, at_zero, first_path, is_vector, name_ok, next, stamp_ok}

-- ---- a client that moves, and a delete

moved_ok : IsLawful two_nodes was_read (does 0 6 (Moved 1))
moved_ok = record { node = omega arith; in_range = omega arith; in_range_time = omega arith; in_range_caller = omega arith; placed = tt; cause = tt; may_come = tt; time = refl }

now_one : current_vector (journal moved 0) ≡ up_to 1
unfolding vector_of
now_one = refl

seen_one : client_vector moved 1 ≡ up_to 1
unfolding vector_of
seen_one = refl

known_one : IsNewestKnown (journal moved 0) ax (Some stamp_one)
known_one = (
  inr (inr (inr (inr (inl (refl, refl))))),
  λ s named before. elim (next (next (next (next named)))) [
    | inl now ↦ subst (λ (q : Point). Before stamp_one q → ⊥) now.1 (λ k. omega arith) before
    | inr none ↦ none
  ],
)

deleted_ok : IsLawful two_nodes moved (does 0 7 (Wrote 1 delete [] (up_to 1)))
deleted_ok = record {
  node = omega arith;
  in_range = ((name_ok, stamp_ok 2 (omega arith) (omega arith), stamp_ok 1 (omega arith) (omega arith)), All-nil (λ b. b < 256), omega arith, is_vector 1 (omega arith));
  in_range_time = omega arith;
  in_range_caller = omega arith;
  placed = refl;
  cause = tt;
  may_come = (
    omega arith,
    sym now_one,
    refl,
    λ w lt. grind (arith, nat_tests),
    (0, omega arith, refl),
    known_one,
    λ gone. refl,
    λ w lt.
        let a : clock_of (client_vector moved 1) w ≡ clock_of (up_to 1) w = ap (λ (v : List ℕ). clock_of v w) seen_one in
        let b : clock_of (current_vector (journal moved 0)) w ≡ clock_of (up_to 1) w = ap (λ (v : List ℕ). clock_of v w) now_one in
        omega arith,
  );
  time = refl;
}

-- ---- a cut, and the checkpoint that it makes needed

now_two : current_vector (journal deleted 0) ≡ up_to 2
unfolding vector_of
now_two = refl

truncated_ok : IsLawful two_nodes deleted (does 0 8 (Cut (up_to 2)))
truncated_ok = record { node = omega arith; in_range = is_vector 2 (omega arith); in_range_time = omega arith; in_range_caller = omega arith; placed = tt; cause = tt; may_come = sym now_two; time = refl }

stale_turn : IsTurn 0 (journal truncated 0) (standing two_nodes truncated 0) (StaleTurn (up_to 2))
unfolding vector_of
stale_turn = (refl, λ le. let bad : 2 ≤ 1 = le 0 (omega arith) in omega arith)

stale_ok : IsLawful two_nodes truncated (does 0 9 (Stale 0 (up_to 2)))
stale_ok = record {
  node = omega arith;
  in_range = (omega arith, is_vector 2 (omega arith));
  in_range_time = omega arith;
  in_range_caller = omega arith;
  placed = refl;
  cause = inr (inr (inr (inr (inr (inr (inr (inr (inl refl))))))));
  may_come = stale_turn;
  time = refl;
}

still_two : current_vector (journal stale 0) ≡ up_to 2
unfolding vector_of
still_two = refl

floor_two : floor_of (journal stale 0) ≡ up_to 2
unfolding vector_of
floor_two = refl

-- node 0 made all that it covers
own_all : (set : List ℕ → Bool) → IsPrecise 0 (journal stale 0) set
own_all set p c = inl (at_zero 2 p (subst (λ (v : List ℕ). Covers v p) still_two c), c)

known_both : (o : List ℕ) (s : Point) → WasNamed (journal stale 0) o s → (ax ≡ o) × ((stamp_two ≡ s) ⊎ (stamp_one ≡ s))
known_both o s named = elim (next (next named)) [
  | inl two ↦ (two.0, inl two.1)
  | inr old ↦ elim (next (next (next (next old)))) [ inl one ↦ (one.0, inr one.1) | inr none ↦ absurd none ]
]

not_after : (s : Point) → (stamp_two ≡ s) ⊎ (stamp_one ≡ s) → Before stamp_two s → ⊥
not_after s (inl two) before = subst (λ (q : Point). Before stamp_two q → ⊥) two (λ k. omega arith) before
not_after s (inr one) before = subst (λ (q : Point). Before stamp_two q → ⊥) one (λ k. omega arith) before

stale_valid : Valid two_nodes stale
stale_valid = (stale_ok, (truncated_ok, (deleted_ok, (moved_ok, first_path))))

no_marks : (mark : Mark) → IsMark (journal stale 0) ax mark → ⊥
no_marks mark m =
    let c : IsCoveredMark stale (current_vector (journal stale 0)) (floor_of (journal stale 0)) ax mark = (marks_both stale (valid_world two_nodes stale stale_valid) 0 (has everything) ax (all_hold ax name_ok) (own_all (has everything)) mark).0 m in
    c.2 (subst (λ (v : List ℕ). Covers v mark.stamp) (still_two ∙ sym floor_two) c.1)

row_ok : IsSnapshotRow (journal stale 0) [] row
row_ok = record {
  outside = refl;
  newest = (inr (inr (inl (refl, refl))), λ s named. not_after s (known_both ax s named).1);
  gone = refl;
  marks = λ mark. (λ c. absurd (contains_none mark c), λ m. absurd (no_marks mark m));
  marks_rise = pairs_none (λ (a : Mark) (b : Mark). Before a.stamp b.stamp);
}

all_but : IsAllBut [] (λ o. IsTrue (has everything o) × IsPrecise 0 (journal stale 0) (set_of (two_nodes.sets 0) o))
all_but = record { one_list = tt; lacks_them = λ o name is. refl; no_others = λ o name out. (all_hold o name, own_all (set_of (two_nodes.sets 0) o)) }

snapshot : IsSnapshot (two_nodes.sets 0) 0 (journal stale 0) everything second_message.kind
snapshot = (
  sym still_two,
  sym floor_two,
  all_but,
  λ r c. subst (λ (x : Row). IsSnapshotRow (journal stale 0) [] x) (one_item row r c) row_ok,
  λ o t name out named. (row, (0, omega arith, refl), (known_both o t named).0),
  pairs_cons (λ (a : Row) (b : Row). IsTrue (name_lt a.name b.name)) row [] (λ r c. absurd (contains_none r c)) (pairs_none (λ (a : Row) (b : Row). IsTrue (name_lt a.name b.name))),
)

second_ok : IsMsg second_message
second_ok = (
  omega arith,
  omega arith,
  omega arith,
  (is_vector 2 (omega arith), tt, is_vector 2 (omega arith), All-cons IsRow row [] (name_ok, stamp_ok 2 (omega arith) (omega arith), All-nil (λ (m : Mark). IsStamp m.stamp × IsStampOrNone m.prev)) (All-nil IsRow)),
)

sent_again_ok : IsLawful two_nodes stale (does 0 10 (Sent second_message))
sent_again_ok = record {
  node = omega arith;
  in_range = second_ok;
  in_range_time = omega arith;
  in_range_caller = omega arith;
  placed = refl;
  cause = inr (inr (inr (inr (inr (inr (inr (inr (inr (inl refl)))))))));
  may_come = (refl, refl, inr snapshot);
  time = refl;
}

taken_again_ok : IsLawful two_nodes sent_again (does 1 11 (Accepted second_message (up_to 2)))
unfolding vector_of
taken_again_ok = record {
  node = omega arith;
  in_range = (second_ok, is_vector 2 (omega arith));
  in_range_time = omega arith;
  in_range_caller = omega arith;
  placed = refl;
  cause = inl refl;
  may_come = (λ v lt. let z : ◌≡◌ {A = ℕ} (clock_of zero_vector v) 0 = clock_zero v in omega arith, refl);
  time = refl;
}

-- ---- the client moves back and reads

moved_back_ok : IsLawful two_nodes taken_again (does 1 12 (Moved 1))
moved_back_ok = record { node = omega arith; in_range = omega arith; in_range_time = omega arith; in_range_caller = omega arith; placed = tt; cause = tt; may_come = tt; time = refl }

vector_two : current_vector (journal moved_back 1) ≡ up_to 2
unfolding vector_of
vector_two = refl

seen_two : client_vector moved_back 1 ≡ up_to 2
unfolding vector_of
seen_two = refl

precise_two : IsPrecise 1 (journal moved_back 1) (set_of (two_nodes.sets 1) ax)
precise_two p c =
    let d : Covers (up_to 2) p = subst (λ (v : List ℕ). Covers v p) vector_two c in
    let one : 1 ≤ p.clock = d.0 in
    let z : ◌≡◌ {A = ℕ} (clock_of zero_vector p.node) 0 = clock_zero p.node in
    inr (second_message.kind, inr (inl refl), ((omega arith, d.1), λ m. let bad : false ≡ true = m.2 in cc))

both_writes : (x : WriteRec) (body dep : List ℕ) → WasWritten moved_back x body dep → (delete ≡ x) ⊎ (write ≡ x)
both_writes x body dep w = elim (next (next (next (next (next w))))) [
  | inl two ↦ inl two.0
  | inr old ↦ elim (next (next (next (next (next (next (next old))))))) [ inl one ↦ inr one.0 | inr none ↦ absurd none ]
]

stamp_of : (x : WriteRec) (s : Point) → (delete ≡ x) ⊎ (write ≡ x) → x.stamp ≡ s → (stamp_two ≡ s) ⊎ (stamp_one ≡ s)
stamp_of x s (inl two) e = inl (ap (λ (y : WriteRec). y.stamp) two ∙ e)
stamp_of x s (inr one) e = inr (ap (λ (y : WriteRec). y.stamp) one ∙ e)

newest_two : IsNewest moved_back (current_vector (journal moved_back 1)) ax (Some stamp_two)
newest_two = (
  (delete, [], up_to 1, inr (inr (inr (inr (inr (inl (refl, refl, refl)))))), refl, refl, subst (λ (v : List ℕ). Covers v stamp_two) (sym vector_two) (omega arith, omega arith)),
  λ s is. not_after s (stamp_of is.0 s (both_writes is.0 is.1 is.2 is.3) is.5),
)

read_again_ok : IsLawful two_nodes moved_back (does 1 13 (Answered 1 ax (reply.Gone stamp_two) (up_to 2)))
read_again_ok = record {
  node = omega arith;
  in_range = (omega arith, name_ok, stamp_ok 2 (omega arith) (omega arith), is_vector 2 (omega arith));
  in_range_time = omega arith;
  in_range_caller = omega arith;
  placed = refl;
  cause = tt;
  may_come = (
    (precise_two, newest_two, (delete, [], up_to 1, inr (inr (inr (inr (inr (inl (refl, refl, refl)))))), refl, refl, refl)),
    sym vector_two,
    λ w lt.
        let a : clock_of (client_vector moved_back 1) w ≡ clock_of (up_to 2) w = ap (λ (v : List ℕ). clock_of v w) seen_two in
        let b : clock_of (current_vector (journal moved_back 1)) w ≡ clock_of (up_to 2) w = ap (λ (v : List ℕ). clock_of v w) vector_two in
        omega arith,
  );
  time = refl;
}

worked_valid : Valid two_nodes read_again
worked_valid = (read_again_ok, (moved_back_ok, (taken_again_ok, (sent_again_ok, stale_valid))))

path_declared : AreDeclared two_declared was_read
path_declared = ((omega arith, omega arith), ((omega arith, omega arith), ((omega arith, omega arith), ((omega arith, omega arith), ((omega arith, omega arith), ((omega arith, omega arith), ((omega arith, omega arith), tt)))))))

cut_declared : AreDeclared two_declared truncated
cut_declared = ((omega arith, tt), ((omega arith, omega arith), ((omega arith, omega arith), path_declared)))

worked_declared : AreDeclared two_declared read_again
worked_declared = ((omega arith, omega arith), ((omega arith, omega arith), ((omega arith, omega arith), ((omega arith, omega arith), ((omega arith, omega arith), cut_declared)))))

-- a round with the message and one without
is_settle : IsSettle (0 ∷ []) (events_of (reverse settling))
is_settle = (
  Attached 0 (up_to 0) ∷ [],
  Sent first_message ∷ (Accepted first_message (up_to 1) ∷ (Idle 0 ∷ (Idle 0 ∷ []))),
  1,
  refl,
  (refl, refl),
  (
    Sent first_message ∷ (Accepted first_message (up_to 1) ∷ (Idle 0 ∷ [])),
    Idle 0 ∷ [],
    refl,
    (Sent first_message ∷ (Accepted first_message (up_to 1) ∷ (Idle 0 ∷ [])), [], refl, (refl, tt, refl, refl), refl),
    tt,
    ((Idle 0 ∷ [], [], refl, refl, refl), λ s. s),
  ),
)

pub worked : IsWorked
worked = record { history = record { valid = worked_valid; declared = worked_declared }; settle = is_settle; part = refl }
