-- Events: each kind is read from what it is spelled, and spelled by what it is read from.
use Rattle.std.proofs.Common.{◌≡◌, ℕ, cond, List, ◌++◌, Option, Some, None, refl}
use Rattle.std.specs.Prelude.{◌==◌}
use Rattle.pr_vectors.specs.Vector.{IsVector}
use Rattle.pr_names.specs.Name.{IsName}
use Rattle.pr_story.specs.declared.event.Event.{Event}
use Rattle.pr_story.specs.declared.event.Event.TheVariants.{Wrote, Attached, Sent, Idle, Stale, Accepted, Gapped, Missing, Down, Answered, Cut, Dropped, Conflicts, State, Moved, Behind}
use Rattle.pr_wire.specs.Reading.{eight_at, four_at, name_at, vector_at}
use Rattle.pr_wire.specs.Spelling.{eight, four, list_text, name_text, spelling, vector_text, write_text}
use Rattle.pr_wire.specs.declared.format.Format.TheVariants.{Two}
use Rattle.pr_wire.proofs.Fields.{IsField, Read, eight_field, four_field}
use Rattle.pr_wire.proofs.NameFields.{name_field}
use Rattle.pr_wire.proofs.VectorFields.{vector_field}
use Rattle.pr_keep.specs.Entries.{IsAnyWrite, IsCounted, IsCountedList, IsEight, IsEvent, IsFound, IsFour, IsFramed, IsReply}
use Rattle.pr_keep.specs.Reading.{accepted_at, answered_at, attached_at, behind_at, cause_at, conflicts_at, counted_at, cut_at, down_at, dropped_at, event_at, event_by, found_at, frame_at, gapped_at, idle_at, late_event_by, missing_at, moved_at, reply_at, sent_at, stale_at, state_at, vectors_at, write_at, wrote_at}
use Rattle.pr_keep.specs.Spelling.{cause_text, counted_text, event_byte, event_fields, event_text, found_text, reply_text}
use Rattle.pr_keep.proofs.Joining.{IsTagged, Takes, chosen, four_again, four_take, one_again, one_takes, tagged_takes, three_again, three_takes, two_again, two_takes}
use Rattle.pr_keep.proofs.PartFields.{IsAnyCause, cause_field, counted_field, found_field, frame_field, reply_field, vectors_field, write_field}

abbrev IsEventOf : ℕ → Event → Type 0
IsEventOf k = IsTagged event_byte IsEvent k

-- ---- what is read is spelled

wrote_takes : Takes wrote_at event_fields (IsEventOf 1)
unfolding wrote_at event_fields
wrote_takes =
    four_take four_at four IsFour four_field
    write_at (write_text Two) IsAnyWrite write_field
    counted_at counted_text IsCounted counted_field
    vector_at vector_text IsVector vector_field
    Wrote event_fields (IsEventOf 1) (λ client write body after. refl) (λ client write body after h0 h1 h2 h3. record { is = (h0, h1, h2, h3); byte = refl })

attached_takes : Takes attached_at event_fields (IsEventOf 2)
unfolding attached_at event_fields
attached_takes =
    two_takes four_at four IsFour four_field
    vector_at vector_text IsVector vector_field
    Attached event_fields (IsEventOf 2) (λ stream at. refl) (λ stream at h0 h1. record { is = (h0, h1); byte = refl })

sent_takes : Takes sent_at event_fields (IsEventOf 3)
unfolding sent_at event_fields
sent_takes =
    one_takes frame_at (spelling Two) IsFramed frame_field
    Sent event_fields (IsEventOf 3) (λ msg. refl) (λ msg h0. record { is = h0; byte = refl })

idle_takes : Takes idle_at event_fields (IsEventOf 4)
unfolding idle_at event_fields
idle_takes =
    one_takes four_at four IsFour four_field
    Idle event_fields (IsEventOf 4) (λ stream. refl) (λ stream h0. record { is = h0; byte = refl })

stale_takes : Takes stale_at event_fields (IsEventOf 5)
unfolding stale_at event_fields
stale_takes =
    two_takes four_at four IsFour four_field
    vector_at vector_text IsVector vector_field
    Stale event_fields (IsEventOf 5) (λ stream cut. refl) (λ stream cut h0 h1. record { is = (h0, h1); byte = refl })

accepted_takes : Takes accepted_at event_fields (IsEventOf 6)
unfolding accepted_at event_fields
accepted_takes =
    two_takes frame_at (spelling Two) IsFramed frame_field
    vector_at vector_text IsVector vector_field
    Accepted event_fields (IsEventOf 6) (λ msg at. refl) (λ msg at h0 h1. record { is = (h0, h1); byte = refl })

gapped_takes : Takes gapped_at event_fields (IsEventOf 7)
unfolding gapped_at event_fields
gapped_takes =
    two_takes frame_at (spelling Two) IsFramed frame_field
    vector_at vector_text IsVector vector_field
    Gapped event_fields (IsEventOf 7) (λ msg has. refl) (λ msg has h0 h1. record { is = (h0, h1); byte = refl })

missing_takes : Takes missing_at event_fields (IsEventOf 8)
unfolding missing_at event_fields
missing_takes =
    two_takes four_at four IsFour four_field
    eight_at eight IsEight eight_field
    Missing event_fields (IsEventOf 8) (λ stream number. refl) (λ stream number h0 h1. record { is = (h0, h1); byte = refl })

down_takes : Takes down_at event_fields (IsEventOf 9)
unfolding down_at event_fields
down_takes =
    two_takes four_at four IsFour four_field
    cause_at cause_text IsAnyCause cause_field
    Down event_fields (IsEventOf 9) (λ stream cause. refl) (λ stream cause h0 h1. record { is = h0; byte = refl })

answered_takes : Takes answered_at event_fields (IsEventOf 10)
unfolding answered_at event_fields
answered_takes =
    four_take four_at four IsFour four_field
    name_at name_text IsName name_field
    reply_at reply_text IsReply reply_field
    vector_at vector_text IsVector vector_field
    Answered event_fields (IsEventOf 10) (λ client name reply at. refl) (λ client name reply at h0 h1 h2 h3. record { is = (h0, h1, h2, h3); byte = refl })

cut_takes : Takes cut_at event_fields (IsEventOf 11)
unfolding cut_at event_fields
cut_takes =
    one_takes vector_at vector_text IsVector vector_field
    Cut event_fields (IsEventOf 11) (λ at. refl) (λ at h0. record { is = h0; byte = refl })

dropped_takes : Takes dropped_at event_fields (IsEventOf 12)
unfolding dropped_at event_fields
dropped_takes =
    one_takes name_at name_text IsName name_field
    Dropped event_fields (IsEventOf 12) (λ name. refl) (λ name h0. record { is = h0; byte = refl })

conflicts_takes : Takes conflicts_at event_fields (IsEventOf 13)
unfolding conflicts_at event_fields
conflicts_takes =
    two_takes name_at name_text IsName name_field
    found_at found_text IsFound found_field
    Conflicts event_fields (IsEventOf 13) (λ name found. refl) (λ name found h0 h1. record { is = (h0, h1); byte = refl })

state_takes : Takes state_at event_fields (IsEventOf 14)
unfolding state_at event_fields
state_takes =
    four_take vector_at vector_text IsVector vector_field
    vector_at vector_text IsVector vector_field
    vector_at vector_text IsVector vector_field
    vectors_at (list_text vector_text) (IsCountedList IsVector) vectors_field
    State event_fields (IsEventOf 14) (λ at cut floor precise. refl) (λ at cut floor precise h0 h1 h2 h3. record { is = (h0, h1, h2, h3); byte = refl })

moved_takes : Takes moved_at event_fields (IsEventOf 15)
unfolding moved_at event_fields
moved_takes =
    one_takes four_at four IsFour four_field
    Moved event_fields (IsEventOf 15) (λ client. refl) (λ client h0. record { is = h0; byte = refl })

behind_takes : Takes behind_at event_fields (IsEventOf 16)
unfolding behind_at event_fields
behind_takes =
    three_takes four_at four IsFour four_field
    vector_at vector_text IsVector vector_field
    vector_at vector_text IsVector vector_field
    Behind event_fields (IsEventOf 16) (λ client needs has. refl) (λ client needs has h0 h1 h2. record { is = (h0, h1, h2); byte = refl })

late_takes : (k : ℕ) → Takes (late_event_by k) event_fields (IsEventOf k)
unfolding late_event_by
late_takes k bytes y fits e =
    let P : ℕ → Type 0 = λ n. Read event_fields (IsEventOf n) bytes y in
    let from_16 : Option (Event × List ℕ) = cond (k == 16) (behind_at bytes) None in
    let from_15 : Option (Event × List ℕ) = cond (k == 15) (moved_at bytes) from_16 in
    let from_14 : Option (Event × List ℕ) = cond (k == 14) (state_at bytes) from_15 in
    let from_13 : Option (Event × List ℕ) = cond (k == 13) (conflicts_at bytes) from_14 in
    let from_12 : Option (Event × List ℕ) = cond (k == 12) (dropped_at bytes) from_13 in
    let from_11 : Option (Event × List ℕ) = cond (k == 11) (cut_at bytes) from_12 in
    let from_10 : Option (Event × List ℕ) = cond (k == 10) (answered_at bytes) from_11 in
    chosen k 9 (down_at bytes) from_10 y P e (down_takes bytes y fits)
    (λ e9. chosen k 10 (answered_at bytes) from_11 y P e9 (answered_takes bytes y fits)
    (λ e10. chosen k 11 (cut_at bytes) from_12 y P e10 (cut_takes bytes y fits)
    (λ e11. chosen k 12 (dropped_at bytes) from_13 y P e11 (dropped_takes bytes y fits)
    (λ e12. chosen k 13 (conflicts_at bytes) from_14 y P e12 (conflicts_takes bytes y fits)
    (λ e13. chosen k 14 (state_at bytes) from_15 y P e13 (state_takes bytes y fits)
    (λ e14. chosen k 15 (moved_at bytes) from_16 y P e14 (moved_takes bytes y fits)
    (λ e15. chosen k 16 (behind_at bytes) None y P e15 (behind_takes bytes y fits) (λ none. absurd cc))))))))

event_by_takes : (k : ℕ) → Takes (event_by k) event_fields (IsEventOf k)
unfolding event_by
event_by_takes k bytes y fits e =
    let P : ℕ → Type 0 = λ n. Read event_fields (IsEventOf n) bytes y in
    let from_8 : Option (Event × List ℕ) = cond (k == 8) (missing_at bytes) (late_event_by k bytes) in
    let from_7 : Option (Event × List ℕ) = cond (k == 7) (gapped_at bytes) from_8 in
    let from_6 : Option (Event × List ℕ) = cond (k == 6) (accepted_at bytes) from_7 in
    let from_5 : Option (Event × List ℕ) = cond (k == 5) (stale_at bytes) from_6 in
    let from_4 : Option (Event × List ℕ) = cond (k == 4) (idle_at bytes) from_5 in
    let from_3 : Option (Event × List ℕ) = cond (k == 3) (sent_at bytes) from_4 in
    let from_2 : Option (Event × List ℕ) = cond (k == 2) (attached_at bytes) from_3 in
    chosen k 1 (wrote_at bytes) from_2 y P e (wrote_takes bytes y fits)
    (λ e1. chosen k 2 (attached_at bytes) from_3 y P e1 (attached_takes bytes y fits)
    (λ e2. chosen k 3 (sent_at bytes) from_4 y P e2 (sent_takes bytes y fits)
    (λ e3. chosen k 4 (idle_at bytes) from_5 y P e3 (idle_takes bytes y fits)
    (λ e4. chosen k 5 (stale_at bytes) from_6 y P e4 (stale_takes bytes y fits)
    (λ e5. chosen k 6 (accepted_at bytes) from_7 y P e5 (accepted_takes bytes y fits)
    (λ e6. chosen k 7 (gapped_at bytes) from_8 y P e6 (gapped_takes bytes y fits)
    (λ e7. chosen k 8 (missing_at bytes) (late_event_by k bytes) y P e7 (missing_takes bytes y fits) (late_takes k bytes y fits))))))))

event_takes : Takes event_at event_text IsEvent
unfolding event_at event_text
event_takes = tagged_takes event_by event_byte event_fields IsEvent event_by_takes

-- ---- what is spelled is read

event_again : (event : Event) (rest : List ℕ) → IsEvent event → event_at (event_text event ++ rest) ≡ Some (event, rest)
unfolding event_at event_text event_by late_event_by event_fields wrote_at attached_at sent_at idle_at stale_at accepted_at gapped_at missing_at down_at answered_at cut_at dropped_at conflicts_at state_at moved_at behind_at
event_again (Wrote client write body after) rest h =
    four_again four_at four IsFour four_field write_at (write_text Two) IsAnyWrite write_field counted_at counted_text IsCounted counted_field vector_at vector_text IsVector vector_field Wrote client write body after rest h.0 h.1 h.2 h.3
event_again (Attached stream at) rest h =
    two_again four_at four IsFour four_field vector_at vector_text IsVector vector_field Attached stream at rest h.0 h.1
event_again (Sent msg) rest h =
    one_again frame_at (spelling Two) IsFramed frame_field Sent msg rest h
event_again (Idle stream) rest h =
    one_again four_at four IsFour four_field Idle stream rest h
event_again (Stale stream cut) rest h =
    two_again four_at four IsFour four_field vector_at vector_text IsVector vector_field Stale stream cut rest h.0 h.1
event_again (Accepted msg at) rest h =
    two_again frame_at (spelling Two) IsFramed frame_field vector_at vector_text IsVector vector_field Accepted msg at rest h.0 h.1
event_again (Gapped msg has) rest h =
    two_again frame_at (spelling Two) IsFramed frame_field vector_at vector_text IsVector vector_field Gapped msg has rest h.0 h.1
event_again (Missing stream number) rest h =
    two_again four_at four IsFour four_field eight_at eight IsEight eight_field Missing stream number rest h.0 h.1
event_again (Down stream cause) rest h =
    two_again four_at four IsFour four_field cause_at cause_text IsAnyCause cause_field Down stream cause rest h tt
event_again (Answered client name reply at) rest h =
    four_again four_at four IsFour four_field name_at name_text IsName name_field reply_at reply_text IsReply reply_field vector_at vector_text IsVector vector_field Answered client name reply at rest h.0 h.1 h.2 h.3
event_again (Cut at) rest h =
    one_again vector_at vector_text IsVector vector_field Cut at rest h
event_again (Dropped name) rest h =
    one_again name_at name_text IsName name_field Dropped name rest h
event_again (Conflicts name found) rest h =
    two_again name_at name_text IsName name_field found_at found_text IsFound found_field Conflicts name found rest h.0 h.1
event_again (State at cut floor precise) rest h =
    four_again vector_at vector_text IsVector vector_field vector_at vector_text IsVector vector_field vector_at vector_text IsVector vector_field vectors_at (list_text vector_text) (IsCountedList IsVector) vectors_field State at cut floor precise rest h.0 h.1 h.2 h.3
event_again (Moved client) rest h =
    one_again four_at four IsFour four_field Moved client rest h
event_again (Behind client needs has) rest h =
    three_again four_at four IsFour four_field vector_at vector_text IsVector vector_field vector_at vector_text IsVector vector_field Behind client needs has rest h.0 h.1 h.2

pub event_field : IsField event_at event_text IsEvent
event_field = record { takes = event_takes; again = event_again }
