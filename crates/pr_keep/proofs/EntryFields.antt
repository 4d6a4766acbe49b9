-- Entries with their nodes.
use Rattle.std.proofs.Common.{◌≡◌, ℕ, List, [], ◌++◌, length, Some, refl, sym, ap, subst, ◌∙◌}
use Rattle.std.specs.Prelude.{◌==◌}
use Rattle.std.proofs.lemmas.Bool.{eqb-true}
use Rattle.std.proofs.lemmas.List.{append-nil, nil_from_length}
use Rattle.pr_story.specs.declared.entry.Entry.{Entry}
use Rattle.pr_story.specs.declared.event.Event.{Event}
use Rattle.pr_wire.specs.Reading.{eight_at, four_at, given}
use Rattle.pr_wire.specs.Spelling.{eight, four}
use Rattle.pr_wire.proofs.Fields.{IsBytes, IsField, bind_some, eight_field, four_field, given_some, one_byte, some_is}
use Rattle.pr_keep.specs.Entries.{IsEight, IsEvent, IsFour, IsSpelled}
use Rattle.pr_keep.specs.Reading.{entry_at, event_at, node_at, whole_entry_at}
use Rattle.pr_keep.specs.Spelling.{entry_text, event_text}
use Rattle.pr_keep.proofs.Joining.{Takes, four_again, four_take}
use Rattle.pr_keep.proofs.PartFields.{IsNode, node_field}
use Rattle.pr_keep.proofs.EventFields.{event_field}

abbrev make_entry : ℕ → ℕ → ℕ → Event → ℕ × Entry
make_entry node time caller event = (node, record { time = time; caller = caller; event = event })

entry_takes : Takes entry_at entry_text IsSpelled
unfolding entry_at entry_text
entry_takes =
    four_take node_at one_byte IsNode node_field eight_at eight IsEight eight_field four_at four IsFour four_field event_at event_text IsEvent event_field
    make_entry entry_text IsSpelled (λ n t c e. refl) (λ n t c e hn ht hc he. record { node = hn; time = ht; caller = hc; event = he })

entry_again : (e : ℕ × Entry) (rest : List ℕ) → IsSpelled e → entry_at (entry_text e ++ rest) ≡ Some (e, rest)
unfolding entry_at entry_text
entry_again e rest h =
    four_again node_at one_byte IsNode node_field eight_at eight IsEight eight_field four_at four IsFour four_field event_at event_text IsEvent event_field
    make_entry e.0 e.1.time e.1.caller e.1.event rest h.node h.time h.caller h.event

pub entry_field : IsField entry_at entry_text IsSpelled
entry_field = record { takes = entry_takes; again = entry_again }

-- ---- all of the bytes

pub whole_takes : (bytes : List ℕ) (e : ℕ × Entry) → IsBytes bytes → whole_entry_at bytes ≡ Some e → (bytes ≡ entry_text e) × IsSpelled e
unfolding whole_entry_at
whole_takes bytes e fits is =
    let a = bind_some (entry_at bytes) (λ entry. given (length entry.1 == 0) entry.0) e is in
    let g = given_some (length a.0.1 == 0) a.0.0 e a.2 in
    let read = entry_takes bytes a.0 fits a.1 in
    let nothing : a.0.1 ≡ [] = nil_from_length a.0.1 (eqb-true _ _ g.0) in
    let P : ℕ × Entry → Type 0 = λ d. (bytes ≡ entry_text d) × IsSpelled d in
    subst P g.1 (read.parts ∙ ap (λ (t : List ℕ). entry_text a.0.0 ++ t) nothing ∙ append-nil (entry_text a.0.0), read.holds)

pub whole_again : (e : ℕ × Entry) → IsSpelled e → whole_entry_at (entry_text e) ≡ Some e
unfolding whole_entry_at
whole_again e h =
    let one : entry_at (entry_text e) ≡ Some (e, []) = ap entry_at (sym (append-nil (entry_text e))) ∙ entry_again e [] h in
    rw one refl

pub one_entry : (e d : ℕ × Entry) → IsSpelled e → IsSpelled d → entry_text e ≡ entry_text d → e ≡ d
one_entry e d he hd same = some_is e d (sym (whole_again e he) ∙ ap whole_entry_at same ∙ whole_again d hd)
