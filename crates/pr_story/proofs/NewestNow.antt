-- The newest stamp of a name, where one row or one event more is seen.
use Rattle.std.proofs.Common.{◌≡◌, ◌≢◌, ℕ, ◌<◌, ◌⊎◌, inl, inr, List, [], ◌∷◌, ◌++◌, Bool, true, false, refl, sym, ap, subst, ◌∙◌, arith, cond}
use Rattle.std.specs.Prelude.{Option, None, Some, Contains}
use Rattle.std.proofs.lemmas.Bool.Decides.{nat_tests}
use Rattle.std.proofs.lemmas.List.Elements.{Contains-append_left, Contains-append_right, Contains-append_cases}
use Rattle.pr_stamps.specs.Point.{Point, Before, is_before, is_this}
use Rattle.pr_names.specs.Span.{Span}
use Rattle.pr_inval.specs.declared.kind.Kind.{Kind}
use Rattle.pr_inval.specs.declared.kind.Kind.TheVariants.{Checkpoint}
use Rattle.pr_inval.specs.declared.msg.Msg.{Msg}
use Rattle.pr_inval.specs.declared.row.Row.{Row}
use Rattle.pr_story.specs.declared.entry.Entry.{Entry}
use Rattle.pr_story.specs.declared.event.Event.{Event}
use Rattle.pr_story.specs.declared.event.Event.TheVariants.{Wrote, Accepted}
use Rattle.pr_stamps.specs.declared.newest.Newest.{Newest}
use Rattle.pr_story.specs.Knowledge.{IsOf, HasRow, first_of, gone_in_rows, gone_in, gone_told, known_gone, NamesStamp, WasNamed}
use Rattle.pr_story.specs.Search.{later_of, IsOnly, IsNewestRow, IsNewestIn, IsNewestOf}
use Rattle.pr_inval.specs.declared.write_rec.WriteRec.{WriteRec}
use Rattle.pr_inval.specs.declared.kind.Kind.TheVariants.{Precise}
use Rattle.pr_story.proofs.Naming.{NamesGone, WasNamedGone, none_or_some, first_left, first_right, picks, is_so, rows_gone, known_gone_told}
use Rattle.pr_story.proofs.Sorted.{first_or_later, is_first}

-- ---- the order of stamps

pub before_tells : (s t : Point) → ((is_before s t ≡ true) × Before s t) ⊎ ((is_before s t ≡ false) × (Before s t → ⊥))
before_tells s t = grind (arith, nat_tests)

later_keeps : (s t r : Point) → Before s t → (Before s r → ⊥) → Before t r → ⊥
later_keeps s t r b n c = grind (arith, nat_tests)

-- ---- rows

itself : (s t : Point) → s ≡ t → Before s t → ⊥
itself s t e b = let bad : Before t t = subst (λ (q : Point). Before q t) e b in grind arith

one_only : (row x : Row) → Contains (row ∷ []) x → row ≡ x
one_only row x c = elim (first_or_later row [] x c) [ inl same ↦ same | inr none ↦ absurd (none_there none) ]
  where
    none_there : Contains [] x → ⊥
    none_there c = let bad : c.0 < 0 = c.1 in omega arith

pub first_twice : {X : Type 0} (a b c : Option X) → first_of a (first_of b c) ≡ first_of (first_of a b) c
first_twice (Some x) b c = refl
first_twice None b c = refl

pub first_none : {X : Type 0} (a : Option X) → first_of a None ≡ a
first_none (Some x) = refl
first_none None = refl

rows_append : (rows : List Row) (row : Row) (o : List ℕ) (s : Point) → gone_in_rows (rows ++ row ∷ []) o s ≡ first_of (gone_in_rows rows o s) (cond (is_this row.name row.newest o s) (Some row.gone) None)
rows_append [] row o s = first_none (cond (is_this row.name row.newest o s) (Some row.gone) None)
rows_append (r ∷ rows) row o s =
    ap (λ (x : Option Bool). first_of (cond (is_this r.name r.newest o s) (Some r.gone) None) x) (rows_append rows row o s)
    ∙ first_twice (cond (is_this r.name r.newest o s) (Some r.gone) None) (gone_in_rows rows o s) (cond (is_this row.name row.newest o s) (Some row.gone) None)

-- where no row with the name has the stamp, the row at the end tells of it
gone_last : (rows : List Row) (row : Row) (o : List ℕ) (n : Newest) → row.name ≡ o → row.newest ≡ n.stamp → row.gone ≡ n.gone → ((x : Row) → Contains rows x → x.name ≡ o → x.newest ≡ n.stamp → ⊥) → gone_in_rows (rows ++ row ∷ []) o n.stamp ≡ Some n.gone
gone_last rows row o n name stamp gone none =
    rows_append rows row o n.stamp
    ∙ first_right (gone_in_rows rows o n.stamp) (cond (is_this row.name row.newest o n.stamp) (Some row.gone) None) (elim (none_or_some (gone_in_rows rows o n.stamp)) [
      | inl e ↦ e
      | inr g ↦ let r = rows_gone rows o n.stamp g.0 g.1 in absurd (none r.0 r.1 r.2 r.3)
    ])
    ∙ picks (is_this row.name row.newest o n.stamp) row.gone (is_so row.name o row.newest n.stamp name stamp)
    ∙ ap (λ (b : Bool). Some b) gone

gone_kept : (rows : List Row) (row : Row) (o : List ℕ) (n : Newest) → gone_in_rows rows o n.stamp ≡ Some n.gone → gone_in_rows (rows ++ row ∷ []) o n.stamp ≡ Some n.gone
gone_kept rows row o n e = rows_append rows row o n.stamp ∙ first_left (gone_in_rows rows o n.stamp) _ n.gone e

-- a row of another name changes nothing
pub other_row : (rows : List Row) (row : Row) (o : List ℕ) (n : Option Newest) → row.name ≢ o → IsNewestRow rows o n → IsNewestRow (rows ++ row ∷ []) o n
other_row rows row o None other none = λ x c e. elim (Contains-append_cases rows (row ∷ []) x c) [
  | inl old ↦ none x old e
  | inr now ↦ other (ap (λ (r : Row). r.name) (one_only row x now) ∙ e)
]
other_row rows row o (Some n) other newest = (
  (newest.0.0, Contains-append_left rows (row ∷ []) newest.0.0 newest.0.1, newest.0.2, newest.0.3),
  λ x c e. elim (Contains-append_cases rows (row ∷ []) x c) [
    | inl old ↦ newest.1 x old e
    | inr now ↦ absurd (other (ap (λ (r : Row). r.name) (one_only row x now) ∙ e))
  ],
  gone_kept rows row o n newest.2,
)

-- a row of the name is the newest where it is later
this_row : (rows : List Row) (row : Row) (o : List ℕ) (was : Option Newest) (here : Newest) → row.name ≡ o → row.newest ≡ here.stamp → row.gone ≡ here.gone → IsNewestRow rows o was → IsNewestRow (rows ++ row ∷ []) o (later_of was (Some here))
this_row rows row o None here name stamp gone none = (
  (row, Contains-append_right rows (row ∷ []) row (is_first row []), name, stamp),
  λ x c e b. elim (Contains-append_cases rows (row ∷ []) x c) [
    | inl old ↦ none x old e
    | inr now ↦ itself here.stamp x.newest (sym stamp ∙ ap (λ (q : Row). q.newest) (one_only row x now)) b
  ],
  gone_last rows row o here name stamp gone (λ x c e f. none x c e),
)
this_row rows row o (Some w) here name stamp gone newest = elim (before_tells w.stamp here.stamp) [
  | inl later ↦ rw later.0 (
    (row, Contains-append_right rows (row ∷ []) row (is_first row []), name, stamp),
    λ x c e. elim (Contains-append_cases rows (row ∷ []) x c) [
      | inl old ↦ later_keeps w.stamp here.stamp x.newest later.1 (newest.1 x old e)
      | inr now ↦ itself here.stamp x.newest (sym stamp ∙ ap (λ (q : Row). q.newest) (one_only row x now))
    ],
    gone_last rows row o here name stamp gone (λ x c e f. newest.1 x c e (subst (λ (s : Point). Before w.stamp s) (sym f) later.1)),
  )
  | inr same ↦ rw same.0 (
    (newest.0.0, Contains-append_left rows (row ∷ []) newest.0.0 newest.0.1, newest.0.2, newest.0.3),
    λ x c e. elim (Contains-append_cases rows (row ∷ []) x c) [
      | inl old ↦ newest.1 x old e
      | inr now ↦ subst (λ (s : Point). Before w.stamp s → ⊥) (sym stamp ∙ ap (λ (q : Row). q.newest) (one_only row x now)) same.1
    ],
    gone_kept rows row o w newest.2,
  )
]

pub this_row_of : (rows : List Row) (row : Row) (o : List ℕ) (was r : Option Newest) (here : Newest) → row.name ≡ o → row.newest ≡ here.stamp → row.gone ≡ here.gone → r ≡ later_of was (Some here) → IsNewestRow rows o was → IsNewestRow (rows ++ row ∷ []) o r
this_row_of rows row o was r here name stamp gone is so = subst (λ (n : Option Newest). IsNewestRow (rows ++ row ∷ []) o n) (sym is) (this_row rows row o was here name stamp gone so)

-- ---- events

gone_stamp : (event : Event) (o : List ℕ) (s : Point) (gone : Bool) → NamesGone event o s gone → NamesStamp event o s
gone_stamp (Wrote client write body after) o s gone t = (t.0, t.1)
gone_stamp (Accepted msg at) o s gone t = elim t [ inl x ↦ inl (x.0, x.1, x.2, x.3) | inr r ↦ inr (r.0, r.1, r.2, r.3) ]
gone_stamp _ o s gone t = absurd t

was_named : (j : List Entry) (o : List ℕ) (s : Point) (gone : Bool) → WasNamedGone j o s gone → WasNamed j o s
was_named [] o s gone t = absurd t
was_named (e ∷ j) o s gone t = elim t [ inl now ↦ inl (gone_stamp e.event o s gone now) | inr old ↦ inr (was_named j o s gone old) ]

-- of a stamp that was not named, nothing is known
unnamed : (j : List Entry) (o : List ℕ) (s : Point) → (WasNamed j o s → ⊥) → known_gone j o s ≡ None
unnamed j o s none = elim (none_or_some (known_gone j o s)) [ inl e ↦ e | inr g ↦ absurd (none (was_named j o s g.0 (known_gone_told j o s g.0 g.1))) ]

pub newest_none : (o : List ℕ) → IsNewestOf [] o None
newest_none o = λ s t. absurd t

pub newest_more : (e : Entry) (j : List Entry) (o : List ℕ) (was here r : Option Newest) → r ≡ later_of was here → IsNewestOf j o was → IsNewestIn e.event o here → IsNewestOf (e ∷ j) o r
newest_more e j o was here r is old new = subst (λ (n : Option Newest). IsNewestOf (e ∷ j) o n) (sym is) (by was here old new)
  where
    earlier_keeps : (s t r : Point) → (Before s t → ⊥) → (Before t r → ⊥) → Before s r → ⊥
    earlier_keeps s t r a b c = grind (arith, nat_tests)

    by : (was here : Option Newest) → IsNewestOf j o was → IsNewestIn e.event o here → IsNewestOf (e ∷ j) o (later_of was here)
    by None None old new = λ s t. elim t [ inl now ↦ new s now | inr past ↦ old s past ]
    by None (Some h) old new = (
      (inl new.0, λ s t. elim t [ inl now ↦ new.1 s now | inr past ↦ absurd (old s past) ]),
      first_right (known_gone j o h.stamp) (gone_told e.event o h.stamp) (unnamed j o h.stamp (old h.stamp)) ∙ new.2,
    )
    by (Some w) None old new = (
      (inr old.0.0, λ s t. elim t [ inl now ↦ absurd (new s now) | inr past ↦ old.0.1 s past ]),
      first_left (known_gone j o w.stamp) (gone_told e.event o w.stamp) w.gone old.1,
    )
    by (Some w) (Some h) old new = elim (before_tells w.stamp h.stamp) [
      | inl later ↦ rw later.0 (
        (
          inl new.0,
          λ s t. elim t [ inl now ↦ new.1 s now | inr past ↦ later_keeps w.stamp h.stamp s later.1 (old.0.1 s past) ],
        ),
        first_right (known_gone j o h.stamp) (gone_told e.event o h.stamp) (unnamed j o h.stamp (λ t. old.0.1 h.stamp t later.1)) ∙ new.2,
      )
      | inr same ↦ rw same.0 (
        (
          inr old.0.0,
          λ s t. elim t [ inl now ↦ earlier_keeps w.stamp h.stamp s same.1 (new.1 s now) | inr past ↦ old.0.1 s past ],
        ),
        first_left (known_gone j o w.stamp) (gone_told e.event o w.stamp) w.gone old.1,
      )
    ]

-- what a write names
only_in : (k : Kind) (from to : List ℕ) (write : WriteRec) (at : List ℕ) (msg : Msg) (o : List ℕ) (r : Option Newest) → msg.kind ≡ Precise from to write → IsOnly write o r → IsNewestIn (Accepted msg at) o r
only_in k from to write at msg o None is other = λ s t. elim t [
  | inl x ↦ other (ap (λ (w : WriteRec). w.name) (subst (λ (k : Kind). IsOf k x.0) is x.1) ∙ x.2)
  | inr r ↦ subst (λ (k : Kind). HasRow k r.0) is r.1
]
only_in k from to write at msg o (Some n) is so = (
  inl (write, subst (λ (k : Kind). IsOf k write) (sym is) refl, so.0, so.1),
  λ s t. elim t [
    | inl x ↦ itself n.stamp s (sym so.1 ∙ ap (λ (w : WriteRec). w.stamp) (subst (λ (k : Kind). IsOf k x.0) is x.1) ∙ x.3)
    | inr r ↦ absurd (subst (λ (k : Kind). HasRow k r.0) is r.1)
  ],
  ap (λ (k : Kind). gone_in k o n.stamp) is ∙ picks (is_this write.name write.stamp o n.stamp) write.gone (is_so write.name o write.stamp n.stamp so.0 so.1) ∙ ap (λ (b : Bool). Some b) so.2,
)

pub accepted_newest : (msg : Msg) (at from to : List ℕ) (write : WriteRec) (o : List ℕ) (r : Option Newest) → msg.kind ≡ Precise from to write → IsOnly write o r → IsNewestIn (Accepted msg at) o r
accepted_newest msg at from to write o r is so = only_in (Precise from to write) from to write at msg o r is so

pub wrote_newest : (client : ℕ) (write : WriteRec) (body after o : List ℕ) (r : Option Newest) → IsOnly write o r → IsNewestIn (Wrote client write body after) o r
wrote_newest client write body after o None other = λ s t. other t.0
wrote_newest client write body after o (Some n) so = (
  (so.0, so.1),
  λ s t. itself n.stamp s (sym so.1 ∙ t.1),
  picks (is_this write.name write.stamp o n.stamp) write.gone (is_so write.name o write.stamp n.stamp so.0 so.1) ∙ ap (λ (b : Bool). Some b) so.2,
)

-- what the rows of a checkpoint name
pub rows_newest : (msg : Msg) (at to floor : List ℕ) (target : List Span) (rows : List Row) (o : List ℕ) (r : Option Newest) → msg.kind ≡ Checkpoint to target floor rows → IsNewestRow rows o r → IsNewestIn (Accepted msg at) o r
rows_newest msg at to floor target rows o None is none = λ s t. elim t [
  | inl x ↦ subst (λ (k : Kind). IsOf k x.0) is x.1
  | inr r ↦ none r.0 (subst (λ (k : Kind). HasRow k r.0) is r.1) r.2
]
rows_newest msg at to floor target rows o (Some n) is newest = (
  inr (newest.0.0, subst (λ (k : Kind). HasRow k newest.0.0) (sym is) newest.0.1, newest.0.2, newest.0.3),
  λ s t. elim t [
    | inl x ↦ absurd (subst (λ (k : Kind). IsOf k x.0) is x.1)
    | inr r ↦ subst (λ (q : Point). Before n.stamp q → ⊥) r.3 (newest.1 r.0 (subst (λ (k : Kind). HasRow k r.0) is r.1) r.2)
  ],
  ap (λ (k : Kind). gone_in k o n.stamp) is ∙ newest.2,
)
