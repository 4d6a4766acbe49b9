-- A file stands for one list, or is damaged at one place.
use Rattle.std.proofs.Common.{◌≡◌, ◌≢◌, inl, inr, ℕ, List, [], ◌∷◌, ◌++◌, length, take, drop, refl, sym, ap, ◌∙◌, append_assoc}
use Rattle.std.specs.List.{AllByRecursion, flat_map}
use Rattle.pr_story.specs.declared.entry.Entry.{Entry}
use Rattle.pr_wire.proofs.Fields.{some_is}
use Rattle.pr_keep.specs.declared.fault.KeepFault.{KeepFault}
use Rattle.pr_keep.specs.declared.fault.KeepFault.TheVariants.{Failed, NoMemory, Damaged}
use Rattle.pr_keep.specs.Calls.{IsDamagedAt, IsNotDamaged}
use Rattle.pr_keep.specs.Entries.{IsKeepable}
use Rattle.pr_keep.specs.Files.{IsBroken, IsDamaged, StandsFor, front, head, record_text}
use Rattle.pr_keep.specs.Reading.{counted_at}
use Rattle.pr_keep.specs.Spelling.{counted_text, entry_text}
use Rattle.pr_keep.proofs.EntryFields.{one_entry}
use Rattle.pr_keep.proofs.PartFields.{counted_field}

-- two records with bytes behind them are the same where the bytes are
pub same_record : (e d : ℕ × Entry) (x y : List ℕ) → IsKeepable e → IsKeepable d → record_text e ++ x ≡ record_text d ++ y → (e ≡ d) × (x ≡ y)
unfolding record_text
same_record e d x y he hd is =
    let behind : counted_text (entry_text e) ++ x ≡ counted_text (entry_text d) ++ y = ap (drop 1) is in
    let read : (entry_text e, x) ≡ (entry_text d, y) = some_is _ _ (sym (counted_field.again (entry_text e) x he.short) ∙ ap counted_at behind ∙ counted_field.again (entry_text d) y hd.short) in
    (one_entry e d he.spelled hd.spelled (ap (λ (p : List ℕ × List ℕ). p.0) read), ap (λ (p : List ℕ × List ℕ). p.1) read)

-- no record stands in front
abbrev pub NoRecord : List ℕ → Type 0
NoRecord rest = (e : ℕ × Entry) (behind : List ℕ) → IsKeepable e → rest ≢ record_text e ++ behind

pub closed_gate : (gate : ℕ) (behind : List ℕ) → gate ≢ 1 → NoRecord (gate ∷ behind)
unfolding record_text
closed_gate gate behind shut e more h is = shut cc

abbrev records : List (ℕ × Entry) → List ℕ
records es = flat_map record_text es

same_records : (es ds : List (ℕ × Entry)) (x y : List ℕ) → AllByRecursion IsKeepable es → AllByRecursion IsKeepable ds → NoRecord x → NoRecord y → records es ++ x ≡ records ds ++ y → (es ≡ ds) × (x ≡ y)
same_records [] [] x y he hd nx ny is = (refl, is)
same_records [] (d ∷ ds) x y he hd nx ny is = absurd (nx d (records ds ++ y) hd.0 (is ∙ append_assoc (record_text d) (records ds) y))
same_records (e ∷ es) [] x y he hd nx ny is = absurd (ny e (records es ++ x) he.0 (sym is ∙ append_assoc (record_text e) (records es) x))
same_records (e ∷ es) (d ∷ ds) x y he hd nx ny is =
    let one = same_record e d (records es ++ x) (records ds ++ y) he.0 hd.0 (sym (append_assoc (record_text e) (records es) x) ∙ is ∙ append_assoc (record_text d) (records ds) y) in
    let rest = same_records es ds x y he.1 hd.1 nx ny one.1 in
    (ap (λ (c : ℕ × Entry). c ∷ es) one.0 ∙ ap (λ (l : List (ℕ × Entry)). d ∷ l) rest.0, rest.1)

pub same_front : (es ds : List (ℕ × Entry)) (x y : List ℕ) → AllByRecursion IsKeepable es → AllByRecursion IsKeepable ds → NoRecord x → NoRecord y → front es ++ x ≡ front ds ++ y → (es ≡ ds) × (x ≡ y)
unfolding front
same_front es ds x y he hd nx ny is = same_records es ds x y he hd nx ny (ap (drop 8) is)

pub one_list : (file : List ℕ) (es ds : List (ℕ × Entry)) → StandsFor file es → StandsFor file ds → es ≡ ds
one_list file es ds a b =
    (same_front es ds (a.gate ∷ a.behind) (b.gate ∷ b.behind) a.each b.each (closed_gate a.gate a.behind a.closed) (closed_gate b.gate b.behind b.closed) (sym a.is ∙ b.is)).0

-- ---- damage

pub head_first : (es : List (ℕ × Entry)) (rest : List ℕ) → take 8 (front es ++ rest) ≡ head
unfolding front
head_first es rest = refl

broken_head : (file : List ℕ) (at : ℕ) → IsBroken file at → take 8 file ≡ head
broken_head file at b = ap (take 8) b.is ∙ head_first b.entries b.rest

pub nothing : (file : List ℕ) (at : ℕ) (es : List (ℕ × Entry)) → IsDamaged file at → StandsFor file es → ⊥
nothing file at es (inl bad) s = bad.0 (ap (take 8) s.is ∙ head_first es (s.gate ∷ s.behind))
nothing file at es (inr b) s =
    b.no_gate s.gate s.behind s.closed (same_front b.entries es b.rest (s.gate ∷ s.behind) b.each s.each (λ e more h. b.no_record e more h) (closed_gate s.gate s.behind s.closed) (sym b.is ∙ s.is)).1

pub one_place : (file : List ℕ) (at place : ℕ) → IsDamaged file at → IsDamaged file place → at ≡ place
one_place file at place (inl a) (inl b) = a.1 ∙ sym b.1
one_place file at place (inl a) (inr b) = absurd (a.0 (broken_head file place b))
one_place file at place (inr a) (inl b) = absurd (b.0 (broken_head file at a))
one_place file at place (inr a) (inr b) =
    let same = same_front a.entries b.entries a.rest b.rest a.each b.each (λ e more h. a.no_record e more h) (λ e more h. b.no_record e more h) (sym a.is ∙ b.is) in
    a.place ∙ ap (λ (es : List (ℕ × Entry)). length (front es)) same.0 ∙ sym b.place

pub sound : (file : List ℕ) (es : List (ℕ × Entry)) (fault : KeepFault) → StandsFor file es → IsDamagedAt (IsDamaged file) fault → IsNotDamaged fault
sound file es Failed s damaged = tt
sound file es NoMemory s damaged = tt
sound file es (Damaged at) s damaged = nothing file at es damaged s
