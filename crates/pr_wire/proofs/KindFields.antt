-- Whole messages.
use Rattle.std.proofs.Common.{◌≡◌, ℕ, ◌≤◌, Bool, true, false, cond, List, [], ◌∷◌, ◌++◌, length, Option, Some, None, refl, sym, ap, subst, ◌∙◌, append_assoc, arith}
use Rattle.std.specs.Prelude.{nat_le, ◌==◌, ◌&&◌}
use Rattle.std.specs.List.{AllByRecursion}
use Rattle.std.proofs.lemmas.Bool.{and_parts, and_from, eqb-true, leb-true, le-leb}
use Rattle.std.proofs.lemmas.List.{append-nil, nil_from_length}
use Rattle.pr_stamps.specs.Point.{Point, IsStamp, IsPrev}
use Rattle.pr_stamps.specs.declared.mark.Mark.{Mark}
use Rattle.pr_names.specs.Name.{IsName}
use Rattle.pr_names.specs.Span.{Span}
use Rattle.pr_sets.specs.Spans.{has}
use Rattle.pr_inval.specs.declared.write_rec.WriteRec.{WriteRec}
use Rattle.pr_inval.specs.declared.row.Row.{Row}
use Rattle.pr_inval.specs.declared.kind.Kind.{Kind}
use Rattle.pr_inval.specs.declared.kind.Kind.TheVariants.{Precise, Imprecise, Checkpoint, Body}
use Rattle.pr_inval.specs.declared.msg.Msg.{Msg}
use Rattle.pr_wire.specs.declared.format.Format.{Format}
use Rattle.pr_wire.specs.declared.format.Format.TheVariants.{One, Two}
use Rattle.pr_wire.specs.Spelling.{content, eight, end_text, four, gone_text, kind_byte, kind_text, list_text, mark_text, name_text, prev_text, row_text, span_text, stamp_text, vector_text, write_text}
use Rattle.pr_inval.specs.Messages.{IsEarlierRow, IsKind, IsRow}
use Rattle.pr_wire.specs.Messages.{HasFewMarks, HasSpelling, IsCounted, IsIn, IsKept}
use Rattle.pr_wire.specs.Reading.{◌>>=◌, body_at, byte_at, bytes_at, checkpoint_at, content_at, eight_at, end_at, four_at, given, gone_at, imprecise_at, is_between, is_number, kind_at, last_before, list_at, mark_at, message_at, name_at, precise_at, row_at, row_before, stamp_at, target_at, vector_at, vector_le, write_at}
use Rattle.pr_wire.proofs.Above.{le_true, true_le}
use Rattle.pr_wire.proofs.Fields.{IsBytes, IsField, Read, bind_some, byte_field, eight_field, four_field, given_some, glue, one_byte, run_field, some_is}
use Rattle.pr_wire.proofs.NameFields.{name_field}
use Rattle.pr_wire.proofs.StampFields.{IsGoneIn, between_true, gone_field, mark_field, stamp_field, true_between}
use Rattle.pr_wire.proofs.VectorFields.{end_field, vector_field}
use Rattle.pr_wire.proofs.ListFields.{IsList, IsRowIn, follows_rise, list_field, order_row, rises_follow, row_field, row_order, target_field}

-- ---- writes

pub record IsWriteIn (f : Format) (w : WriteRec) : Type 0 where
  pub name : IsName w.name
  pub stamp : IsStamp w.stamp
  pub prev : IsPrev w.prev w.stamp
  pub gone : IsGoneIn f w.gone

write_takes : (f : Format) (bytes : List ℕ) (y : WriteRec × List ℕ) → IsBytes bytes → write_at f bytes ≡ Some y → Read (write_text f) (IsWriteIn f) bytes y
unfolding write_at write_text mark_text
write_takes f bytes y fits e =
    let a = bind_some (name_at bytes) (λ name. mark_at name.1 >>= λ mark. gone_at f mark.1 >>= λ gone. Some (record { name = name.0; stamp = mark.0.stamp; prev = mark.0.prev; gone = gone.0 }, gone.1)) y e in
    let b = bind_some (mark_at a.0.1) (λ mark. gone_at f mark.1 >>= λ gone. Some (record { name = a.0.0; stamp = mark.0.stamp; prev = mark.0.prev; gone = gone.0 }, gone.1)) y a.2 in
    let c = bind_some (gone_at f b.0.1) (λ gone. Some (record { name = a.0.0; stamp = b.0.0.stamp; prev = b.0.0.prev; gone = gone.0 }, gone.1)) y b.2 in
    let name = name_field.takes bytes a.0 fits a.1 in
    let mark = mark_field.takes a.0.1 b.0 name.fits b.1 in
    let gone = (gone_field f).takes b.0.1 c.0 mark.fits c.1 in
    let made : WriteRec = record { name = a.0.0; stamp = b.0.0.stamp; prev = b.0.0.prev; gone = c.0.0 } in
    let mark_on : a.0.1 ≡ (stamp_text b.0.0.stamp ++ (prev_text b.0.0.prev ++ gone_text f c.0.0)) ++ c.0.1 =
    glue a.0.1 (stamp_text b.0.0.stamp ++ prev_text b.0.0.prev) b.0.1 (gone_text f c.0.0) c.0.1 mark.parts gone.parts
    ∙ ap (λ (t : List ℕ). t ++ c.0.1) (append_assoc (stamp_text b.0.0.stamp) (prev_text b.0.0.prev) (gone_text f c.0.0)) in
    subst (Read (write_text f) (IsWriteIn f) bytes) (some_is (made, c.0.1) y c.2) (record {
      parts = glue bytes (name_text a.0.0) a.0.1 (stamp_text b.0.0.stamp ++ (prev_text b.0.0.prev ++ gone_text f c.0.0)) c.0.1 name.parts mark_on;
      fits = gone.fits;
      holds = record { name = name.holds; stamp = mark.holds.stamp; prev = mark.holds.prev; gone = gone.holds };
    })

mark_first : (f : Format) (s : Point) (o : Option Point) (g : Bool) (rest : List ℕ) → (stamp_text s ++ (prev_text o ++ gone_text f g)) ++ rest ≡ mark_text (record { stamp = s; prev = o }) ++ (gone_text f g ++ rest)
unfolding mark_text
mark_first f s o g rest =
    ap (λ (t : List ℕ). t ++ rest) (sym (append_assoc (stamp_text s) (prev_text o) (gone_text f g)))
    ∙ append_assoc (stamp_text s ++ prev_text o) (gone_text f g) rest

write_again : (f : Format) (w : WriteRec) (rest : List ℕ) → IsWriteIn f w → write_at f (write_text f w ++ rest) ≡ Some (w, rest)
unfolding write_at write_text
write_again f w rest h =
    let m : Mark = record { stamp = w.stamp; prev = w.prev } in
    let regrouped : (name_text w.name ++ (stamp_text w.stamp ++ (prev_text w.prev ++ gone_text f w.gone))) ++ rest ≡ name_text w.name ++ (mark_text m ++ (gone_text f w.gone ++ rest)) =
    append_assoc (name_text w.name) (stamp_text w.stamp ++ (prev_text w.prev ++ gone_text f w.gone)) rest
    ∙ ap (λ (t : List ℕ). name_text w.name ++ t) (mark_first f w.stamp w.prev w.gone rest) in
    ap (write_at f) regrouped
    ∙ rw (
      name_field.again w.name (mark_text m ++ (gone_text f w.gone ++ rest)) h.name,
      mark_field.again m (gone_text f w.gone ++ rest) (record { stamp = h.stamp; prev = h.prev }),
      (gone_field f).again w.gone rest h.gone,
    ) refl

pub write_field : (f : Format) → IsField (write_at f) (write_text f) (IsWriteIn f)
write_field f = record { takes = write_takes f; again = write_again f }

-- ---- kinds

-- a kind of a message in a format
pub record IsKindIn (f : Format) (b : ℕ) (k : Kind) : Type 0 where
  pub kind : IsKind k
  pub few : IsCounted k
  pub format : IsIn f k
  pub byte : kind_byte k ≡ b

no_delete : (f : Format) (from to : List ℕ) (w : WriteRec) → IsGoneIn f w.gone → IsIn f (Precise from to w)
no_delete One from to w h = h
no_delete Two from to w h = tt

delete_in : (f : Format) (from to : List ℕ) (w : WriteRec) → IsIn f (Precise from to w) → IsGoneIn f w.gone
delete_in One from to w h = h
delete_in Two from to w h = tt

any_format : (f : Format) (from to : List ℕ) (target : List Span) → IsIn f (Imprecise from to target)
any_format One from to target = tt
any_format Two from to target = tt

precise_takes : (f : Format) (bytes : List ℕ) (y : Kind × List ℕ) → IsBytes bytes → precise_at f bytes ≡ Some y → Read (kind_text f) (IsKindIn f 1) bytes y
unfolding precise_at kind_text
precise_takes f bytes y fits e =
    let a = bind_some (vector_at bytes) (λ from. end_at f from.0 from.1 >>= λ to. write_at f to.1 >>= λ write. given (is_between from.0 to.0 write.0.stamp) (Precise from.0 to.0 write.0, write.1)) y e in
    let b = bind_some (end_at f a.0.0 a.0.1) (λ to. write_at f to.1 >>= λ write. given (is_between a.0.0 to.0 write.0.stamp) (Precise a.0.0 to.0 write.0, write.1)) y a.2 in
    let c = bind_some (write_at f b.0.1) (λ write. given (is_between a.0.0 b.0.0 write.0.stamp) (Precise a.0.0 b.0.0 write.0, write.1)) y b.2 in
    let made : Kind = Precise a.0.0 b.0.0 c.0.0 in
    let g = given_some (is_between a.0.0 b.0.0 c.0.0.stamp) (made, c.0.1) y c.2 in
    let from = vector_field.takes bytes a.0 fits a.1 in
    let to = (end_field f a.0.0 from.holds).takes a.0.1 b.0 from.fits b.1 in
    let write = (write_field f).takes b.0.1 c.0 to.fits c.1 in
    let w = write.holds in
    let to_on = glue a.0.1 (end_text f a.0.0 b.0.0) b.0.1 (write_text f c.0.0) c.0.1 to.parts write.parts in
    subst (Read (kind_text f) (IsKindIn f 1) bytes) g.1 (record {
      parts = glue bytes (vector_text a.0.0) a.0.1 (end_text f a.0.0 b.0.0 ++ write_text f c.0.0) c.0.1 from.parts to_on;
      fits = write.fits;
      holds = record {
        kind = (from.holds, to.holds.vector, to.holds.le, record { name = w.name; stamp = w.stamp; prev = w.prev; between = true_between a.0.0 b.0.0 c.0.0.stamp g.0 });
        few = tt;
        format = no_delete f a.0.0 b.0.0 c.0.0 w.gone;
        byte = refl;
      };
    })

imprecise_takes : (f : Format) (bytes : List ℕ) (y : Kind × List ℕ) → IsBytes bytes → imprecise_at f bytes ≡ Some y → Read (kind_text f) (IsKindIn f 2) bytes y
unfolding imprecise_at kind_text
imprecise_takes f bytes y fits e =
    let a = bind_some (vector_at bytes) (λ from. end_at f from.0 from.1 >>= λ to. target_at to.1 >>= λ target. Some (Imprecise from.0 to.0 target.0, target.1)) y e in
    let b = bind_some (end_at f a.0.0 a.0.1) (λ to. target_at to.1 >>= λ target. Some (Imprecise a.0.0 to.0 target.0, target.1)) y a.2 in
    let c = bind_some (target_at b.0.1) (λ target. Some (Imprecise a.0.0 b.0.0 target.0, target.1)) y b.2 in
    let made : Kind = Imprecise a.0.0 b.0.0 c.0.0 in
    let from = vector_field.takes bytes a.0 fits a.1 in
    let to = (end_field f a.0.0 from.holds).takes a.0.1 b.0 from.fits b.1 in
    let target = target_field.takes b.0.1 c.0 to.fits c.1 in
    let to_on = glue a.0.1 (end_text f a.0.0 b.0.0) b.0.1 (list_text span_text c.0.0) c.0.1 to.parts target.parts in
    subst (Read (kind_text f) (IsKindIn f 2) bytes) (some_is (made, c.0.1) y c.2) (record {
      parts = glue bytes (vector_text a.0.0) a.0.1 (end_text f a.0.0 b.0.0 ++ list_text span_text c.0.0) c.0.1 from.parts to_on;
      fits = target.fits;
      holds = record {
        kind = (from.holds, to.holds.vector, to.holds.le, target.holds.set);
        few = target.holds.few;
        format = any_format f a.0.0 b.0.0 c.0.0;
        byte = refl;
      };
    })

-- ---- rows

rows_are : (f : Format) (floor to : List ℕ) (target : List Span) (rows : List Row) → AllByRecursion (IsRowIn f floor to target) rows → AllByRecursion (IsRow floor to (has target)) rows
rows_are f floor to target [] h = tt
rows_are f floor to target (r ∷ rs) h = (h.0.row, rows_are f floor to target rs h.1)

rows_few : (f : Format) (floor to : List ℕ) (target : List Span) (rows : List Row) → AllByRecursion (IsRowIn f floor to target) rows → AllByRecursion HasFewMarks rows
rows_few f floor to target [] h = tt
rows_few f floor to target (r ∷ rs) h = (h.0.few, rows_few f floor to target rs h.1)

rows_kept : (floor to : List ℕ) (target : List Span) (rows : List Row) → AllByRecursion (IsRowIn One floor to target) rows → AllByRecursion IsKept rows
rows_kept floor to target [] h = tt
rows_kept floor to target (r ∷ rs) h = (h.0.gone, rows_kept floor to target rs h.1)

rows_format : (f : Format) (to floor : List ℕ) (target : List Span) (rows : List Row) → AllByRecursion (IsRowIn f floor to target) rows → IsIn f (Checkpoint to target floor rows)
rows_format One to floor target rows h = rows_kept floor to target rows h
rows_format Two to floor target rows h = tt

rows_one : (floor to : List ℕ) (target : List Span) (rows : List Row) → AllByRecursion (IsRow floor to (has target)) rows → AllByRecursion HasFewMarks rows → AllByRecursion IsKept rows → AllByRecursion (IsRowIn One floor to target) rows
rows_one floor to target [] h few kept = tt
rows_one floor to target (r ∷ rs) h few kept = (record { row = h.0; few = few.0; gone = kept.0 }, rows_one floor to target rs h.1 few.1 kept.1)

rows_two : (floor to : List ℕ) (target : List Span) (rows : List Row) → AllByRecursion (IsRow floor to (has target)) rows → AllByRecursion HasFewMarks rows → AllByRecursion (IsRowIn Two floor to target) rows
rows_two floor to target [] h few = tt
rows_two floor to target (r ∷ rs) h few = (record { row = h.0; few = few.0; gone = tt }, rows_two floor to target rs h.1 few.1)

rows_in : (f : Format) (to floor : List ℕ) (target : List Span) (rows : List Row) → AllByRecursion (IsRow floor to (has target)) rows → AllByRecursion HasFewMarks rows → IsIn f (Checkpoint to target floor rows) → AllByRecursion (IsRowIn f floor to target) rows
rows_in One to floor target rows h few kept = rows_one floor to target rows h few kept
rows_in Two to floor target rows h few kept = rows_two floor to target rows h few

checkpoint_takes : (f : Format) (bytes : List ℕ) (y : Kind × List ℕ) → IsBytes bytes → checkpoint_at f bytes ≡ Some y → Read (kind_text f) (IsKindIn f 3) bytes y
unfolding checkpoint_at kind_text
checkpoint_takes f bytes y fits e =
    let a = bind_some (vector_at bytes) (λ to. target_at to.1 >>= λ target. vector_at target.1 >>= λ floor. given (vector_le floor.0 to.0) floor >>= λ below. list_at (row_at f below.0 to.0 target.0) (last_before row_before) below.1 >>= λ rows. Some (Checkpoint to.0 target.0 below.0 rows.0, rows.1)) y e in
    let b = bind_some (target_at a.0.1) (λ target. vector_at target.1 >>= λ floor. given (vector_le floor.0 a.0.0) floor >>= λ below. list_at (row_at f below.0 a.0.0 target.0) (last_before row_before) below.1 >>= λ rows. Some (Checkpoint a.0.0 target.0 below.0 rows.0, rows.1)) y a.2 in
    let c = bind_some (vector_at b.0.1) (λ floor. given (vector_le floor.0 a.0.0) floor >>= λ below. list_at (row_at f below.0 a.0.0 b.0.0) (last_before row_before) below.1 >>= λ rows. Some (Checkpoint a.0.0 b.0.0 below.0 rows.0, rows.1)) y b.2 in
    let d = bind_some (given (vector_le c.0.0 a.0.0) c.0) (λ below. list_at (row_at f below.0 a.0.0 b.0.0) (last_before row_before) below.1 >>= λ rows. Some (Checkpoint a.0.0 b.0.0 below.0 rows.0, rows.1)) y c.2 in
    let g = given_some (vector_le c.0.0 a.0.0) c.0 d.0 d.1 in
    let rest : (list_at (row_at f c.0.0 a.0.0 b.0.0) (last_before row_before) c.0.1 >>= λ rows. Some (Checkpoint a.0.0 b.0.0 c.0.0 rows.0, rows.1)) ≡ Some y =
    ap (λ (below : List ℕ × List ℕ). list_at (row_at f below.0 a.0.0 b.0.0) (last_before row_before) below.1 >>= λ rows. Some (Checkpoint a.0.0 b.0.0 below.0 rows.0, rows.1)) g.1 ∙ d.2 in
    let k = bind_some (list_at (row_at f c.0.0 a.0.0 b.0.0) (last_before row_before) c.0.1) (λ rows. Some (Checkpoint a.0.0 b.0.0 c.0.0 rows.0, rows.1)) y rest in
    let made : Kind = Checkpoint a.0.0 b.0.0 c.0.0 k.0.0 in
    let to = vector_field.takes bytes a.0 fits a.1 in
    let target = target_field.takes a.0.1 b.0 to.fits b.1 in
    let floor = vector_field.takes b.0.1 c.0 target.fits c.1 in
    let rows = (list_field (row_at f c.0.0 a.0.0 b.0.0) (row_text f) (IsRowIn f c.0.0 a.0.0 b.0.0) (row_field f c.0.0 a.0.0 b.0.0) (last_before row_before)).takes c.0.1 k.0 floor.fits k.1 in
    let floor_on = glue b.0.1 (vector_text c.0.0) c.0.1 (list_text (row_text f) k.0.0) k.0.1 floor.parts rows.parts in
    let target_on = glue a.0.1 (list_text span_text b.0.0) b.0.1 (vector_text c.0.0 ++ list_text (row_text f) k.0.0) k.0.1 target.parts floor_on in
    subst (Read (kind_text f) (IsKindIn f 3) bytes) (some_is (made, k.0.1) y k.2) (record {
      parts = glue bytes (vector_text a.0.0) a.0.1 (list_text span_text b.0.0 ++ (vector_text c.0.0 ++ list_text (row_text f) k.0.0)) k.0.1 to.parts target_on;
      fits = rows.fits;
      holds = record {
        kind = (
          target.holds.set,
          record {
            end_is = to.holds;
            floor_is = floor.holds;
            rises = le_true c.0.0 a.0.0 g.0;
            each = rows_are f c.0.0 a.0.0 b.0.0 k.0.0 rows.holds.each;
            in_order = follows_rise IsEarlierRow row_before row_order k.0.0 [] tt rows.holds.order;
          },
        );
        few = (target.holds.few, rows.holds.few, rows_few f c.0.0 a.0.0 b.0.0 k.0.0 rows.holds.each);
        format = rows_format f a.0.0 c.0.0 b.0.0 k.0.0 rows.holds.each;
        byte = refl;
      };
    })

body_format : (f : Format) (name : List ℕ) (stamp : Point) (bytes : List ℕ) → IsIn f (Body name stamp bytes)
body_format One name stamp bytes = tt
body_format Two name stamp bytes = tt

body_takes : (f : Format) (bytes : List ℕ) (y : Kind × List ℕ) → IsBytes bytes → body_at bytes ≡ Some y → Read (kind_text f) (IsKindIn f 4) bytes y
unfolding body_at kind_text
body_takes f bytes y fits e =
    let a = bind_some (name_at bytes) (λ name. stamp_at name.1 >>= λ stamp. eight_at stamp.1 >>= λ len. given (nat_le len.0 65536) len >>= λ known. bytes_at known.0 known.1 >>= λ text. Some (Body name.0 stamp.0 text.0, text.1)) y e in
    let b = bind_some (stamp_at a.0.1) (λ stamp. eight_at stamp.1 >>= λ len. given (nat_le len.0 65536) len >>= λ known. bytes_at known.0 known.1 >>= λ text. Some (Body a.0.0 stamp.0 text.0, text.1)) y a.2 in
    let c = bind_some (eight_at b.0.1) (λ len. given (nat_le len.0 65536) len >>= λ known. bytes_at known.0 known.1 >>= λ text. Some (Body a.0.0 b.0.0 text.0, text.1)) y b.2 in
    let d = bind_some (given (nat_le c.0.0 65536) c.0) (λ known. bytes_at known.0 known.1 >>= λ text. Some (Body a.0.0 b.0.0 text.0, text.1)) y c.2 in
    let g = given_some (nat_le c.0.0 65536) c.0 d.0 d.1 in
    let rest : (bytes_at c.0.0 c.0.1 >>= λ text. Some (Body a.0.0 b.0.0 text.0, text.1)) ≡ Some y =
    ap (λ (known : ℕ × List ℕ). bytes_at known.0 known.1 >>= λ text. Some (Body a.0.0 b.0.0 text.0, text.1)) g.1 ∙ d.2 in
    let k = bind_some (bytes_at c.0.0 c.0.1) (λ text. Some (Body a.0.0 b.0.0 text.0, text.1)) y rest in
    let made : Kind = Body a.0.0 b.0.0 k.0.0 in
    let name = name_field.takes bytes a.0 fits a.1 in
    let stamp = stamp_field.takes a.0.1 b.0 name.fits b.1 in
    let len = eight_field.takes b.0.1 c.0 stamp.fits c.1 in
    let text = (run_field c.0.0).takes c.0.1 k.0 len.fits k.1 in
    let most : c.0.0 ≤ 65536 = leb-true _ _ g.0 in
    let len_on : b.0.1 ≡ (eight (length k.0.0) ++ k.0.0) ++ k.0.1 =
    glue b.0.1 (eight c.0.0) c.0.1 k.0.0 k.0.1 len.parts text.parts ∙ ap (λ (n : ℕ). (eight n ++ k.0.0) ++ k.0.1) (sym text.holds) in
    let stamp_on = glue a.0.1 (stamp_text b.0.0) b.0.1 (eight (length k.0.0) ++ k.0.0) k.0.1 stamp.parts len_on in
    subst (Read (kind_text f) (IsKindIn f 4) bytes) (some_is (made, k.0.1) y k.2) (record {
      parts = glue bytes (name_text a.0.0) a.0.1 (stamp_text b.0.0 ++ (eight (length k.0.0) ++ k.0.0)) k.0.1 name.parts stamp_on;
      fits = text.fits;
      holds = record { kind = (name.holds, stamp.holds, omega (arith, text.holds)); few = tt; format = body_format f a.0.0 b.0.0 k.0.0; byte = refl };
    })

-- the kind byte says which fields follow
kind_by : {A : Type 0} (k : ℕ) (q r s t : Bool) (p i c b : Option A) (y : A) (P : ℕ → Type 0) → (q ≡ true → k ≡ 1) → (r ≡ true → k ≡ 2) → (s ≡ true → k ≡ 3) → (t ≡ true → k ≡ 4)
    → cond q p (cond r i (cond s c (cond t b None))) ≡ Some y → (p ≡ Some y → P 1) → (i ≡ Some y → P 2) → (c ≡ Some y → P 3) → (b ≡ Some y → P 4) → P k
kind_by k true r s t p i c b y P is1 is2 is3 is4 e on1 on2 on3 on4 = subst P (sym (is1 refl)) (on1 e)
kind_by k false true s t p i c b y P is1 is2 is3 is4 e on1 on2 on3 on4 = subst P (sym (is2 refl)) (on2 e)
kind_by k false false true t p i c b y P is1 is2 is3 is4 e on1 on2 on3 on4 = subst P (sym (is3 refl)) (on3 e)
kind_by k false false false true p i c b y P is1 is2 is3 is4 e on1 on2 on3 on4 = subst P (sym (is4 refl)) (on4 e)
kind_by k false false false false p i c b y P is1 is2 is3 is4 e on1 on2 on3 on4 = absurd cc

kind_takes : (f : Format) (k : ℕ) (bytes : List ℕ) (y : Kind × List ℕ) → IsBytes bytes → kind_at f k bytes ≡ Some y → Read (kind_text f) (IsKindIn f k) bytes y
unfolding kind_at
kind_takes f k bytes y fits e =
    kind_by k (k == 1) (k == 2) (k == 3) (k == 4) (precise_at f bytes) (imprecise_at f bytes) (checkpoint_at f bytes) (body_at bytes) y (λ n. Read (kind_text f) (IsKindIn f n) bytes y)
    (eqb-true k 1) (eqb-true k 2) (eqb-true k 3) (eqb-true k 4) e
    (precise_takes f bytes y fits) (imprecise_takes f bytes y fits) (checkpoint_takes f bytes y fits) (body_takes f bytes y fits)

kind_again : (f : Format) (k : Kind) (rest : List ℕ) → IsKind k → IsCounted k → IsIn f k → kind_at f (kind_byte k) (kind_text f k ++ rest) ≡ Some (k, rest)
unfolding kind_at kind_text precise_at imprecise_at checkpoint_at body_at
kind_again f (Precise from to w) rest h few format =
    let test = between_true from to w.stamp h.3.between in
    let regrouped : (vector_text from ++ (end_text f from to ++ write_text f w)) ++ rest ≡ vector_text from ++ (end_text f from to ++ (write_text f w ++ rest)) =
    append_assoc (vector_text from) (end_text f from to ++ write_text f w) rest ∙ ap (λ (t : List ℕ). vector_text from ++ t) (append_assoc (end_text f from to) (write_text f w) rest) in
    ap (precise_at f) regrouped
    ∙ rw (
      vector_field.again from (end_text f from to ++ (write_text f w ++ rest)) h.0,
      (end_field f from h.0).again to (write_text f w ++ rest) (record { vector = h.1; le = h.2 }),
      (write_field f).again w rest (record { name = h.3.name; stamp = h.3.stamp; prev = h.3.prev; gone = delete_in f from to w format }),
      test,
    ) refl
kind_again f (Imprecise from to target) rest h few format =
    let regrouped : (vector_text from ++ (end_text f from to ++ list_text span_text target)) ++ rest ≡ vector_text from ++ (end_text f from to ++ (list_text span_text target ++ rest)) =
    append_assoc (vector_text from) (end_text f from to ++ list_text span_text target) rest ∙ ap (λ (t : List ℕ). vector_text from ++ t) (append_assoc (end_text f from to) (list_text span_text target) rest) in
    ap (imprecise_at f) regrouped
    ∙ rw (
      vector_field.again from (end_text f from to ++ (list_text span_text target ++ rest)) h.0,
      (end_field f from h.0).again to (list_text span_text target ++ rest) (record { vector = h.1; le = h.2 }),
      target_field.again target rest (record { set = h.3; few = few }),
    ) refl
kind_again f (Checkpoint to target floor rows) rest h few format =
    let test = true_le floor to h.1.rises in
    let rows_is = list_text (row_text f) rows in
    let regrouped : (vector_text to ++ (list_text span_text target ++ (vector_text floor ++ rows_is))) ++ rest ≡ vector_text to ++ (list_text span_text target ++ (vector_text floor ++ (rows_is ++ rest))) =
    append_assoc (vector_text to) (list_text span_text target ++ (vector_text floor ++ rows_is)) rest
    ∙ ap (λ (t : List ℕ). vector_text to ++ t) (append_assoc (list_text span_text target) (vector_text floor ++ rows_is) rest ∙ ap (λ (t : List ℕ). list_text span_text target ++ t) (append_assoc (vector_text floor) rows_is rest)) in
    let listed : IsList (IsRowIn f floor to target) (last_before row_before) rows = record { each = rows_in f to floor target rows h.1.each few.2 format; order = rises_follow IsEarlierRow row_before order_row rows [] h.1.in_order; few = few.1 } in
    ap (checkpoint_at f) regrouped
    ∙ rw (
      vector_field.again to (list_text span_text target ++ (vector_text floor ++ (rows_is ++ rest))) h.1.end_is,
      target_field.again target (vector_text floor ++ (rows_is ++ rest)) (record { set = h.0; few = few.0 }),
      vector_field.again floor (rows_is ++ rest) h.1.floor_is,
      test,
      (list_field (row_at f floor to target) (row_text f) (IsRowIn f floor to target) (row_field f floor to target) (last_before row_before)).again rows rest listed,
    ) refl
kind_again f (Body name stamp bytes) rest h few format =
    let test : nat_le (length bytes) 65536 ≡ true = le-leb _ _ h.2 in
    let regrouped : (name_text name ++ (stamp_text stamp ++ (eight (length bytes) ++ bytes))) ++ rest ≡ name_text name ++ (stamp_text stamp ++ (eight (length bytes) ++ (bytes ++ rest))) =
    append_assoc (name_text name) (stamp_text stamp ++ (eight (length bytes) ++ bytes)) rest
    ∙ ap (λ (t : List ℕ). name_text name ++ t) (append_assoc (stamp_text stamp) (eight (length bytes) ++ bytes) rest ∙ ap (λ (t : List ℕ). stamp_text stamp ++ t) (append_assoc (eight (length bytes)) bytes rest)) in
    ap body_at regrouped
    ∙ rw (
      name_field.again name (stamp_text stamp ++ (eight (length bytes) ++ (bytes ++ rest))) h.0,
      stamp_field.again stamp (eight (length bytes) ++ (bytes ++ rest)) h.1,
      eight_field.again (length bytes) (bytes ++ rest) (omega (arith, h.2)),
      test,
      (run_field (length bytes)).again bytes rest refl,
    ) refl

-- ---- contents

content_takes : (f : Format) (bytes : List ℕ) (y : Msg × List ℕ) → IsBytes bytes → content_at f bytes ≡ Some y → Read (content f) (HasSpelling f) bytes y
unfolding content_at content
content_takes f bytes y fits e =
    let a = bind_some (byte_at bytes) (λ kind. eight_at kind.1 >>= λ time. four_at time.1 >>= λ stream. eight_at stream.1 >>= λ number. given (is_number time.0 && is_number number.0) number >>= λ known. kind_at f kind.0 known.1 >>= λ fields. Some (record { time = time.0; stream = stream.0; number = known.0; kind = fields.0 }, fields.1)) y e in
    let b = bind_some (eight_at a.0.1) (λ time. four_at time.1 >>= λ stream. eight_at stream.1 >>= λ number. given (is_number time.0 && is_number number.0) number >>= λ known. kind_at f a.0.0 known.1 >>= λ fields. Some (record { time = time.0; stream = stream.0; number = known.0; kind = fields.0 }, fields.1)) y a.2 in
    let c = bind_some (four_at b.0.1) (λ stream. eight_at stream.1 >>= λ number. given (is_number b.0.0 && is_number number.0) number >>= λ known. kind_at f a.0.0 known.1 >>= λ fields. Some (record { time = b.0.0; stream = stream.0; number = known.0; kind = fields.0 }, fields.1)) y b.2 in
    let d = bind_some (eight_at c.0.1) (λ number. given (is_number b.0.0 && is_number number.0) number >>= λ known. kind_at f a.0.0 known.1 >>= λ fields. Some (record { time = b.0.0; stream = c.0.0; number = known.0; kind = fields.0 }, fields.1)) y c.2 in
    let k = bind_some (given (is_number b.0.0 && is_number d.0.0) d.0) (λ known. kind_at f a.0.0 known.1 >>= λ fields. Some (record { time = b.0.0; stream = c.0.0; number = known.0; kind = fields.0 }, fields.1)) y d.2 in
    let g = given_some (is_number b.0.0 && is_number d.0.0) d.0 k.0 k.1 in
    let rest : (kind_at f a.0.0 d.0.1 >>= λ fields. Some (record { time = b.0.0; stream = c.0.0; number = d.0.0; kind = fields.0 }, fields.1)) ≡ Some y =
    ap (λ (known : ℕ × List ℕ). kind_at f a.0.0 known.1 >>= λ fields. Some (record { time = b.0.0; stream = c.0.0; number = known.0; kind = fields.0 }, fields.1)) g.1 ∙ k.2 in
    let l = bind_some (kind_at f a.0.0 d.0.1) (λ fields. Some (record { time = b.0.0; stream = c.0.0; number = d.0.0; kind = fields.0 }, fields.1)) y rest in
    let made : Msg = record { time = b.0.0; stream = c.0.0; number = d.0.0; kind = l.0.0 } in
    let both = and_parts (is_number b.0.0) (is_number d.0.0) g.0 in
    let times = and_parts (nat_le 1 b.0.0) (nat_le b.0.0 4611686018427387903) both.0 in
    let numbers = and_parts (nat_le 1 d.0.0) (nat_le d.0.0 4611686018427387903) both.1 in
    let kind = byte_field.takes bytes a.0 fits a.1 in
    let time = eight_field.takes a.0.1 b.0 kind.fits b.1 in
    let stream = four_field.takes b.0.1 c.0 time.fits c.1 in
    let number = eight_field.takes c.0.1 d.0 stream.fits d.1 in
    let fields = kind_takes f a.0.0 d.0.1 l.0 number.fits l.1 in
    let number_on = glue c.0.1 (eight d.0.0) d.0.1 (kind_text f l.0.0) l.0.1 number.parts fields.parts in
    let stream_on = glue b.0.1 (four c.0.0) c.0.1 (eight d.0.0 ++ kind_text f l.0.0) l.0.1 stream.parts number_on in
    let time_on = glue a.0.1 (eight b.0.0) b.0.1 (four c.0.0 ++ (eight d.0.0 ++ kind_text f l.0.0)) l.0.1 time.parts stream_on in
    let kind_on = glue bytes (one_byte a.0.0) a.0.1 (eight b.0.0 ++ (four c.0.0 ++ (eight d.0.0 ++ kind_text f l.0.0))) l.0.1 kind.parts time_on in
    subst (Read (content f) (HasSpelling f) bytes) (some_is (made, l.0.1) y l.2) (record {
      parts = kind_on ∙ ap (λ (n : ℕ). (n ∷ (eight b.0.0 ++ (four c.0.0 ++ (eight d.0.0 ++ kind_text f l.0.0)))) ++ l.0.1) (sym fields.holds.byte);
      fits = fields.fits;
      holds = record {
        message = record {
          from_one = leb-true _ _ times.0;
          most = leb-true _ _ times.1;
          number_from_one = leb-true _ _ numbers.0;
          number_most = leb-true _ _ numbers.1;
          kind = fields.holds.kind;
        };
        width = record { stream = stream.holds; kind = fields.holds.few };
        format = fields.holds.format;
      };
    })

content_again : (f : Format) (m : Msg) (rest : List ℕ) → HasSpelling f m → content_at f (content f m ++ rest) ≡ Some (m, rest)
unfolding content_at content
content_again f m rest h =
    let fields = kind_text f m.kind in
    let regrouped : (eight m.time ++ (four m.stream ++ (eight m.number ++ fields))) ++ rest ≡ eight m.time ++ (four m.stream ++ (eight m.number ++ (fields ++ rest))) =
    append_assoc (eight m.time) (four m.stream ++ (eight m.number ++ fields)) rest
    ∙ ap (λ (t : List ℕ). eight m.time ++ t) (append_assoc (four m.stream) (eight m.number ++ fields) rest ∙ ap (λ (t : List ℕ). four m.stream ++ t) (append_assoc (eight m.number) fields rest)) in
    let tests : (is_number m.time && is_number m.number) ≡ true =
    and_from _ _ (and_from _ _ (le-leb _ _ h.message.from_one) (le-leb _ _ h.message.most)) (and_from _ _ (le-leb _ _ h.message.number_from_one) (le-leb _ _ h.message.number_most)) in
    ap (λ (t : List ℕ). content_at f (kind_byte m.kind ∷ t)) regrouped
    ∙ rw (
      eight_field.again m.time (four m.stream ++ (eight m.number ++ (fields ++ rest))) (omega (arith, h.message.most)),
      four_field.again m.stream (eight m.number ++ (fields ++ rest)) h.width.stream,
      eight_field.again m.number (fields ++ rest) (omega (arith, h.message.number_most)),
      tests,
      kind_again f m.kind rest h.message.kind h.width.kind h.format,
    ) refl

pub content_field : (f : Format) → IsField (content_at f) (content f) (HasSpelling f)
content_field f = record { takes = content_takes f; again = content_again f }

-- ---- all of the bytes

pub message_takes : (f : Format) (bytes : List ℕ) (m : Msg) → IsBytes bytes → message_at f bytes ≡ Some m → (bytes ≡ content f m) × HasSpelling f m
unfolding message_at
message_takes f bytes m fits e =
    let a = bind_some (content_at f bytes) (λ msg. given (length msg.1 == 0) msg.0) m e in
    let g = given_some (length a.0.1 == 0) a.0.0 m a.2 in
    let msg = content_takes f bytes a.0 fits a.1 in
    let nothing : a.0.1 ≡ [] = nil_from_length a.0.1 (eqb-true _ _ g.0) in
    let P : Msg → Type 0 = λ n. (bytes ≡ content f n) × HasSpelling f n in
    subst P g.1 (msg.parts ∙ ap (λ (t : List ℕ). content f a.0.0 ++ t) nothing ∙ append-nil (content f a.0.0), msg.holds)

pub message_again : (f : Format) (m : Msg) → HasSpelling f m → message_at f (content f m) ≡ Some m
unfolding message_at
message_again f m h =
    let one : content_at f (content f m) ≡ Some (m, []) = ap (content_at f) (sym (append-nil (content f m))) ∙ content_again f m [] h in
    rw one refl
