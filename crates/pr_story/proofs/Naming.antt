-- Who told a node of a stamp or of a mark, as relations; what is known of them is told by some event.
use Rattle.std.proofs.Common.{◌≡◌, ℕ, ◌⊎◌, inl, inr, List, [], ◌∷◌, Bool, true, false, cond, nat_eq, refl, sym, ap, subst, ◌∙◌}
use Rattle.std.specs.Prelude.{Option, None, Some, Contains, ◌&&◌}
use Rattle.std.specs.Str.{bytes_eq}
use Rattle.std.specs.Bool.{Decides}
use Rattle.std.proofs.lemmas.Bool.Decides.{Decides-and, Decides-eqb}
use Rattle.std.proofs.lemmas.Slice.Eq.{bytes_eq-Decides}
use Rattle.pr_stamps.specs.Point.{Point, is_this}
use Rattle.pr_stamps.specs.declared.mark.Mark.{Mark}
use Rattle.pr_inval.specs.declared.kind.Kind.{Kind}
use Rattle.pr_inval.specs.declared.kind.Kind.TheVariants.{Precise, Imprecise, Checkpoint, Body}
use Rattle.pr_inval.specs.declared.row.Row.{Row}
use Rattle.pr_inval.specs.declared.write_rec.WriteRec.{WriteRec}
use Rattle.pr_story.specs.declared.entry.Entry.{Entry}
use Rattle.pr_story.specs.declared.event.Event.{Event}
use Rattle.pr_story.specs.declared.event.Event.TheVariants.{Wrote, Accepted}
use Rattle.pr_story.specs.History.{SomeEvent}
use Rattle.pr_story.specs.Knowledge.{IsOf, HasRow, first_of, gone_in_rows, gone_in, gone_told, known_gone, mark_of, mark_at, mark_in_rows, mark_in, mark_told, known_mark}
use Rattle.pr_story.proofs.Known.{Decides-is_this, same_point}
use Rattle.pr_story.proofs.Sorted.{first_or_later, is_first, is_later, contains_none}

-- the event names the stamp as one of the name's, with this gone
abbrev pub NamesGone : Event → List ℕ → Point → Bool → Type 0
NamesGone (Wrote client write body after) o s gone = (write.name ≡ o) × (write.stamp ≡ s) × (write.gone ≡ gone)
NamesGone (Accepted msg at) o s gone =
    ((x : WriteRec) × IsOf msg.kind x × (x.name ≡ o) × (x.stamp ≡ s) × (x.gone ≡ gone))
    ⊎ ((row : Row) × HasRow msg.kind row × (row.name ≡ o) × (row.newest ≡ s) × (row.gone ≡ gone))
NamesGone _ o s gone = ⊥

abbrev pub WasNamedGone : List Entry → List ℕ → Point → Bool → Type 0
WasNamedGone j o s gone = SomeEvent (λ event. NamesGone event o s gone) j

-- the event tells its node of this mark of the name
abbrev pub TellsMark : Event → List ℕ → Mark → Type 0
TellsMark (Wrote client write body after) o mark = (write.name ≡ o) × (write.stamp ≡ mark.stamp) × (write.prev ≡ mark.prev)
TellsMark (Accepted msg at) o mark =
    ((x : WriteRec) × IsOf msg.kind x × (x.name ≡ o) × (x.stamp ≡ mark.stamp) × (x.prev ≡ mark.prev))
    ⊎ ((row : Row) × HasRow msg.kind row × (row.name ≡ o) × Contains row.marks mark)
TellsMark _ o mark = ⊥

-- the node was told of the mark of the name
abbrev pub WasToldMark : List Entry → List ℕ → Mark → Type 0
WasToldMark j o mark = SomeEvent (λ event. TellsMark event o mark) j

-- ---- first of two

pub first_how : {X : Type 0} (a b : Option X) (x : X) → first_of a b ≡ Some x → (a ≡ Some x) ⊎ (b ≡ Some x)
first_how (Some y) b x e = inl e
first_how None b x e = inr e

pub none_or_some : {X : Type 0} (a : Option X) → (a ≡ None) ⊎ ((x : X) × (a ≡ Some x))
none_or_some None = inl refl
none_or_some (Some x) = inr (x, refl)

pub first_some : {X : Type 0} (a b : Option X) (x : X) → b ≡ Some x → (y : X) × (first_of a b ≡ Some y)
first_some (Some z) b x e = (z, refl)
first_some None b x e = (x, e)

pub first_left : {X : Type 0} (a b : Option X) (x : X) → a ≡ Some x → first_of a b ≡ Some x
first_left (Some y) b x e = e
first_left None b x e = absurd (cc)

pub first_right : {X : Type 0} (a b : Option X) → a ≡ None → first_of a b ≡ b
first_right None b e = refl
first_right (Some y) b e = absurd (cc)

pub picked : {X : Type 0} (b : Bool) (y x : X) → cond b (Some y) None ≡ Some x → (b ≡ true) × (y ≡ x)
picked true y x e = (refl, cc)
picked false y x e = absurd (cc)

pub picks : {X : Type 0} (b : Bool) (y : X) → b ≡ true → cond b (Some y) None ≡ Some y
picks true y e = refl
picks false y e = absurd (cc)

picked_of : {X : Type 0} (b : Bool) (a : Option X) (x : X) → cond b a None ≡ Some x → (b ≡ true) × (a ≡ Some x)
picked_of true a x e = (refl, e)
picked_of false a x e = absurd (cc)

picks_of : {X : Type 0} (b : Bool) (a : Option X) (x : X) → b ≡ true → a ≡ Some x → cond b a None ≡ Some x
picks_of true a x e f = f
picks_of false a x e f = absurd (cc)

-- ---- this name and stamp

pub this_is : (name o : List ℕ) (stamp s : Point) → is_this name stamp o s ≡ true → (name ≡ o) × (stamp ≡ s)
this_is name o stamp s e = let t = (Decides-is_this name stamp o s).0 e in (t.0, same_point stamp s t.1.0 t.1.1)

pub is_so : (name o : List ℕ) (stamp s : Point) → name ≡ o → stamp ≡ s → is_this name stamp o s ≡ true
is_so name o stamp s e f = (Decides-is_this name stamp o s).1 (e, (ap (λ (p : Point). p.clock) f, ap (λ (p : Point). p.node) f))

pub Decides-stamp : (a b : Point) → Decides (nat_eq a.clock b.clock && nat_eq a.node b.node) ((a.clock ≡ b.clock) × (a.node ≡ b.node))
Decides-stamp a b = Decides-and (nat_eq a.clock b.clock) (nat_eq a.node b.node) (Decides-eqb a.clock b.clock) (Decides-eqb a.node b.node)

-- ---- gone

pub rows_gone : (rows : List Row) (o : List ℕ) (s : Point) (gone : Bool) → gone_in_rows rows o s ≡ Some gone → (row : Row) × Contains rows row × (row.name ≡ o) × (row.newest ≡ s) × (row.gone ≡ gone)
rows_gone [] o s gone e = absurd (cc)
rows_gone (row ∷ rows) o s gone e = elim (first_how (cond (is_this row.name row.newest o s) (Some row.gone) None) (gone_in_rows rows o s) gone e) [
  | inl here ↦ let p = picked (is_this row.name row.newest o s) row.gone gone here in let t = this_is row.name o row.newest s p.0 in (row, is_first row rows, t.0, t.1, p.1)
  | inr there ↦ let r = rows_gone rows o s gone there in (r.0, is_later row rows r.0 r.1, r.2, r.3, r.4)
]

gone_rows : (rows : List Row) (o : List ℕ) (s : Point) (row : Row) → Contains rows row → row.name ≡ o → row.newest ≡ s → (gone : Bool) × (gone_in_rows rows o s ≡ Some gone)
gone_rows [] o s row c e f = absurd (contains_none row c)
gone_rows (first ∷ rows) o s row c e f = elim (first_or_later first rows row c) [
  | inl same ↦ (first.gone, first_left _ (gone_in_rows rows o s) first.gone (picks (is_this first.name first.newest o s) first.gone (is_so first.name o first.newest s (ap (λ (r : Row). r.name) same ∙ e) (ap (λ (r : Row). r.newest) same ∙ f))))
  | inr later ↦ let g = gone_rows rows o s row later e f in first_some (cond (is_this first.name first.newest o s) (Some first.gone) None) (gone_in_rows rows o s) g.0 g.1
]

abbrev InKind : Kind → List ℕ → Point → Bool → Type 0
InKind k o s gone =
    ((x : WriteRec) × IsOf k x × (x.name ≡ o) × (x.stamp ≡ s) × (x.gone ≡ gone))
    ⊎ ((row : Row) × HasRow k row × (row.name ≡ o) × (row.newest ≡ s) × (row.gone ≡ gone))

kind_gone : (k : Kind) (o : List ℕ) (s : Point) (gone : Bool) → gone_in k o s ≡ Some gone → InKind k o s gone
kind_gone (Precise from to write) o s gone e = let p = picked (is_this write.name write.stamp o s) write.gone gone e in let t = this_is write.name o write.stamp s p.0 in inl (write, refl, t.0, t.1, p.1)
kind_gone (Checkpoint to target floor rows) o s gone e = inr (rows_gone rows o s gone e)
kind_gone (Imprecise from to target) o s gone e = absurd (cc)
kind_gone (Body name stamp bytes) o s gone e = absurd (cc)

gone_kind : (k : Kind) (o : List ℕ) (s : Point) (gone : Bool) → InKind k o s gone → (is : Bool) × (gone_in k o s ≡ Some is)
gone_kind (Precise from to write) o s gone t = elim t [
  | inl x ↦ (write.gone, picks (is_this write.name write.stamp o s) write.gone (is_so write.name o write.stamp s (ap (λ (w : WriteRec). w.name) x.1 ∙ x.2) (ap (λ (w : WriteRec). w.stamp) x.1 ∙ x.3)))
  | inr r ↦ absurd r.1
]
gone_kind (Checkpoint to target floor rows) o s gone t = elim t [ inl x ↦ absurd x.1 | inr r ↦ gone_rows rows o s r.0 r.1 r.2 r.3 ]
gone_kind (Imprecise from to target) o s gone t = elim t [ inl x ↦ absurd x.1 | inr r ↦ absurd r.1 ]
gone_kind (Body name stamp bytes) o s gone t = elim t [ inl x ↦ absurd x.1 | inr r ↦ absurd r.1 ]

pub told_names : (event : Event) (o : List ℕ) (s : Point) (gone : Bool) → gone_told event o s ≡ Some gone → NamesGone event o s gone
told_names (Wrote client write body after) o s gone e = let p = picked (is_this write.name write.stamp o s) write.gone gone e in let t = this_is write.name o write.stamp s p.0 in (t.0, t.1, p.1)
told_names (Accepted msg at) o s gone e = kind_gone msg.kind o s gone e
told_names _ o s gone e = absurd (cc)

pub names_told : (event : Event) (o : List ℕ) (s : Point) (gone : Bool) → NamesGone event o s gone → (is : Bool) × (gone_told event o s ≡ Some is)
names_told (Wrote client write body after) o s gone t = (write.gone, picks (is_this write.name write.stamp o s) write.gone (is_so write.name o write.stamp s t.0 t.1))
names_told (Accepted msg at) o s gone t = gone_kind msg.kind o s gone t
names_told _ o s gone t = absurd t

pub known_gone_told : (j : List Entry) (o : List ℕ) (s : Point) (gone : Bool) → known_gone j o s ≡ Some gone → WasNamedGone j o s gone
known_gone_told [] o s gone e = absurd (cc)
known_gone_told (e ∷ j) o s gone k = elim (first_how (known_gone j o s) (gone_told e.event o s) gone k) [ inl old ↦ inr (known_gone_told j o s gone old) | inr now ↦ inl (told_names e.event o s gone now) ]

named_known : (j : List Entry) (o : List ℕ) (s : Point) (gone : Bool) → WasNamedGone j o s gone → (is : Bool) × (known_gone j o s ≡ Some is)
named_known [] o s gone t = absurd t
named_known (e ∷ j) o s gone t = elim t [
  | inl now ↦ let n = names_told e.event o s gone now in first_some (known_gone j o s) (gone_told e.event o s) n.0 n.1
  | inr old ↦ let n = named_known j o s gone old in (n.0, first_left (known_gone j o s) (gone_told e.event o s) n.0 n.1)
]

pub known_gone_where : (j : List Entry) (o : List ℕ) (s : Point) (gone : Bool) → ((other : Bool) → WasNamedGone j o s other → other ≡ gone) → WasNamedGone j o s gone → known_gone j o s ≡ Some gone
known_gone_where j o s gone one t = let n = named_known j o s gone t in n.1 ∙ ap (λ (b : Bool). Some b) (one n.0 (known_gone_told j o s n.0 n.1))

-- ---- marks

pub at_marks : (marks : List Mark) (s : Point) (mark : Mark) → mark_at marks s ≡ Some mark → Contains marks mark × (mark.stamp ≡ s)
at_marks [] s mark e = absurd (cc)
at_marks (m ∷ ms) s mark e = elim (first_how (cond (nat_eq m.stamp.clock s.clock && nat_eq m.stamp.node s.node) (Some m) None) (mark_at ms s) mark e) [
  | inl here ↦
      let p = picked (nat_eq m.stamp.clock s.clock && nat_eq m.stamp.node s.node) m mark here in
      let t = (Decides-stamp m.stamp s).0 p.0 in
      (subst (λ (x : Mark). Contains (m ∷ ms) x) p.1 (is_first m ms), ap (λ (x : Mark). x.stamp) (sym p.1) ∙ same_point m.stamp s t.0 t.1)
  | inr there ↦ let r = at_marks ms s mark there in (is_later m ms mark r.0, r.1)
]

pub marks_at : (marks : List Mark) (s : Point) (mark : Mark) → Contains marks mark → mark.stamp ≡ s → (first : Mark) × (mark_at marks s ≡ Some first)
marks_at [] s mark c e = absurd (contains_none mark c)
marks_at (m ∷ ms) s mark c e = elim (first_or_later m ms mark c) [
  | inl same ↦
      let f : m.stamp ≡ s = ap (λ (x : Mark). x.stamp) same ∙ e in
      (m, first_left _ (mark_at ms s) m (picks (nat_eq m.stamp.clock s.clock && nat_eq m.stamp.node s.node) m ((Decides-stamp m.stamp s).1 (ap (λ (p : Point). p.clock) f, ap (λ (p : Point). p.node) f))))
  | inr later ↦ let r = marks_at ms s mark later e in first_some (cond (nat_eq m.stamp.clock s.clock && nat_eq m.stamp.node s.node) (Some m) None) (mark_at ms s) r.0 r.1
]

rows_mark : (rows : List Row) (o : List ℕ) (s : Point) (mark : Mark) → mark_in_rows rows o s ≡ Some mark → (row : Row) × Contains rows row × (row.name ≡ o) × Contains row.marks mark × (mark.stamp ≡ s)
rows_mark [] o s mark e = absurd (cc)
rows_mark (row ∷ rows) o s mark e = elim (first_how (cond (bytes_eq row.name o) (mark_at row.marks s) None) (mark_in_rows rows o s) mark e) [
  | inl here ↦ let p = picked_of (bytes_eq row.name o) (mark_at row.marks s) mark here in let m = at_marks row.marks s mark p.1 in (row, is_first row rows, (bytes_eq-Decides row.name o).0 p.0, m.0, m.1)
  | inr there ↦ let r = rows_mark rows o s mark there in (r.0, is_later row rows r.0 r.1, r.2, r.3, r.4)
]

mark_rows : (rows : List Row) (o : List ℕ) (s : Point) (row : Row) (mark : Mark) → Contains rows row → row.name ≡ o → Contains row.marks mark → mark.stamp ≡ s → (first : Mark) × (mark_in_rows rows o s ≡ Some first)
mark_rows [] o s row mark c e m f = absurd (contains_none row c)
mark_rows (first ∷ rows) o s row mark c e m f = elim (first_or_later first rows row c) [
  | inl same ↦
      let r = marks_at first.marks s mark (subst (λ (x : Row). Contains x.marks mark) (sym same) m) f in
      (r.0, first_left _ (mark_in_rows rows o s) r.0 (picks_of (bytes_eq first.name o) (mark_at first.marks s) r.0 ((bytes_eq-Decides first.name o).1 (ap (λ (x : Row). x.name) same ∙ e)) r.1))
  | inr later ↦ let r = mark_rows rows o s row mark later e m f in first_some (cond (bytes_eq first.name o) (mark_at first.marks s) None) (mark_in_rows rows o s) r.0 r.1
]

abbrev MarkInKind : Kind → List ℕ → Mark → Type 0
MarkInKind k o mark =
    ((x : WriteRec) × IsOf k x × (x.name ≡ o) × (x.stamp ≡ mark.stamp) × (x.prev ≡ mark.prev))
    ⊎ ((row : Row) × HasRow k row × (row.name ≡ o) × Contains row.marks mark)

kind_mark : (k : Kind) (o : List ℕ) (mark : Mark) → mark_in k o mark.stamp ≡ Some mark → MarkInKind k o mark
kind_mark (Precise from to write) o mark e = let p = picked (is_this write.name write.stamp o mark.stamp) (mark_of write) mark e in let t = this_is write.name o write.stamp mark.stamp p.0 in inl (write, refl, t.0, t.1, ap (λ (m : Mark). m.prev) p.1)
kind_mark (Checkpoint to target floor rows) o mark e = let r = rows_mark rows o mark.stamp mark e in inr (r.0, r.1, r.2, r.3)
kind_mark (Imprecise from to target) o mark e = absurd (cc)
kind_mark (Body name stamp bytes) o mark e = absurd (cc)

mark_kind : (k : Kind) (o : List ℕ) (mark : Mark) → MarkInKind k o mark → (first : Mark) × (mark_in k o mark.stamp ≡ Some first)
mark_kind (Precise from to write) o mark t = elim t [
  | inl x ↦ (mark_of write, picks (is_this write.name write.stamp o mark.stamp) (mark_of write) (is_so write.name o write.stamp mark.stamp (ap (λ (w : WriteRec). w.name) x.1 ∙ x.2) (ap (λ (w : WriteRec). w.stamp) x.1 ∙ x.3)))
  | inr r ↦ absurd r.1
]
mark_kind (Checkpoint to target floor rows) o mark t = elim t [ inl x ↦ absurd x.1 | inr r ↦ mark_rows rows o mark.stamp r.0 mark r.1 r.2 r.3 refl ]
mark_kind (Imprecise from to target) o mark t = elim t [ inl x ↦ absurd x.1 | inr r ↦ absurd r.1 ]
mark_kind (Body name stamp bytes) o mark t = elim t [ inl x ↦ absurd x.1 | inr r ↦ absurd r.1 ]

pub told_mark : (event : Event) (o : List ℕ) (mark : Mark) → mark_told event o mark.stamp ≡ Some mark → TellsMark event o mark
told_mark (Wrote client write body after) o mark e = let p = picked (is_this write.name write.stamp o mark.stamp) (mark_of write) mark e in let t = this_is write.name o write.stamp mark.stamp p.0 in (t.0, t.1, ap (λ (m : Mark). m.prev) p.1)
told_mark (Accepted msg at) o mark e = kind_mark msg.kind o mark e
told_mark _ o mark e = absurd (cc)

mark_tells : (event : Event) (o : List ℕ) (mark : Mark) → TellsMark event o mark → (first : Mark) × (mark_told event o mark.stamp ≡ Some first)
mark_tells (Wrote client write body after) o mark t = (mark_of write, picks (is_this write.name write.stamp o mark.stamp) (mark_of write) (is_so write.name o write.stamp mark.stamp t.0 t.1))
mark_tells (Accepted msg at) o mark t = mark_kind msg.kind o mark t
mark_tells _ o mark t = absurd t

-- what is found at a stamp has it
at_stamp : (event : Event) (o : List ℕ) (s : Point) (mark : Mark) → mark_told event o s ≡ Some mark → mark.stamp ≡ s
at_stamp (Wrote client write body after) o s mark e = let p = picked (is_this write.name write.stamp o s) (mark_of write) mark e in ap (λ (m : Mark). m.stamp) (sym p.1) ∙ (this_is write.name o write.stamp s p.0).1
at_stamp (Accepted msg at) o s mark e = by msg.kind e
  where
    by : (k : Kind) → mark_in k o s ≡ Some mark → mark.stamp ≡ s
    by (Precise from to write) e = let p = picked (is_this write.name write.stamp o s) (mark_of write) mark e in ap (λ (m : Mark). m.stamp) (sym p.1) ∙ (this_is write.name o write.stamp s p.0).1
    by (Checkpoint to target floor rows) e = (rows_mark rows o s mark e).4
    by (Imprecise from to target) e = absurd (cc)
    by (Body name stamp bytes) e = absurd (cc)
at_stamp _ o s mark e = absurd (cc)

pub known_at_stamp : (j : List Entry) (o : List ℕ) (s : Point) (mark : Mark) → known_mark j o s ≡ Some mark → mark.stamp ≡ s
known_at_stamp [] o s mark e = absurd (cc)
known_at_stamp (e ∷ j) o s mark k = elim (first_how (known_mark j o s) (mark_told e.event o s) mark k) [ inl old ↦ known_at_stamp j o s mark old | inr now ↦ at_stamp e.event o s mark now ]

pub known_mark_told : (j : List Entry) (o : List ℕ) (mark : Mark) → known_mark j o mark.stamp ≡ Some mark → WasToldMark j o mark
known_mark_told [] o mark e = absurd (cc)
known_mark_told (e ∷ j) o mark k = elim (first_how (known_mark j o mark.stamp) (mark_told e.event o mark.stamp) mark k) [ inl old ↦ inr (known_mark_told j o mark old) | inr now ↦ inl (told_mark e.event o mark now) ]

pub told_known_mark : (j : List Entry) (o : List ℕ) (mark : Mark) → WasToldMark j o mark → (first : Mark) × (known_mark j o mark.stamp ≡ Some first)
told_known_mark [] o mark t = absurd t
told_known_mark (e ∷ j) o mark t = elim t [
  | inl now ↦ let n = mark_tells e.event o mark now in first_some (known_mark j o mark.stamp) (mark_told e.event o mark.stamp) n.0 n.1
  | inr old ↦ let n = told_known_mark j o mark old in (n.0, first_left (known_mark j o mark.stamp) (mark_told e.event o mark.stamp) n.0 n.1)
]

pub known_mark_where : (j : List Entry) (o : List ℕ) (mark : Mark) → ((other : Mark) → WasToldMark j o other → other.stamp ≡ mark.stamp → other ≡ mark) → WasToldMark j o mark → known_mark j o mark.stamp ≡ Some mark
known_mark_where j o mark one t =
    let n = told_known_mark j o mark t in
    let at : n.0.stamp ≡ mark.stamp = known_at_stamp j o mark.stamp n.0 n.1 in
    let known : known_mark j o n.0.stamp ≡ Some n.0 = subst (λ (s : Point). known_mark j o s ≡ Some n.0) (sym at) n.1 in
    n.1 ∙ ap (λ (m : Mark). Some m) (one n.0 (known_mark_told j o n.0 known) at)
