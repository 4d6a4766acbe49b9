-- One more entry: what the two writes make of a file, and what a stop in them leaves.
use Rattle.std.proofs.Common.{◌≡◌, ◌≢◌, inl, inr, ℕ, ◌+◌, ◌-◌, ◌<◌, ◌≤◌, List, [], ◌∷◌, ◌++◌, length, get_or, take, drop, refl, sym, ap, ◌∙◌, append_assoc, arith}
use Rattle.std.specs.List.{AllByRecursion, flat_map}
use Rattle.std.proofs.lemmas.Bool.{cases_eq}
use Rattle.std.proofs.lemmas.Grind.{flat_map-append}
use Rattle.std.proofs.lemmas.List.{append-nil, drop-drop, drop_at, drop_more, length-append, take_at, take-append-drop}
use Rattle.pr_story.specs.declared.entry.Entry.{Entry}
use Rattle.pr_keep.specs.declared.records.Record.{Record}
use Rattle.pr_keep.specs.Calls.{IsClosed, IsNothing, IsRecord, StandsUpTo}
use Rattle.pr_keep.specs.Disk.{IsTorn, written}
use Rattle.pr_keep.specs.Entries.{IsKeepable}
use Rattle.pr_keep.specs.Files.{IsBroken, StandsFor, StandsForEither, front, head, record_text}
use Rattle.pr_keep.specs.Spelling.{counted_text, entry_text}
use Rattle.pr_keep.proofs.RecordLemmas.{length-record}

pub front_more : (es : List (ℕ × Entry)) (e : ℕ × Entry) → front (es ++ e ∷ []) ≡ front es ++ record_text e
unfolding front
front_more es e =
    ap (λ (t : List ℕ). head ++ t) (flat_map-append record_text es (e ∷ []) ∙ ap (λ (t : List ℕ). flat_map record_text es ++ t) (append-nil (record_text e)))
    ∙ sym (append_assoc head (flat_map record_text es) (record_text e))

pub each_more : {A : Type 0} (P : A → Type 0) (xs : List A) (x : A) → AllByRecursion P xs → P x → AllByRecursion P (xs ++ x ∷ [])
each_more P [] x each h = (h, tt)
each_more P (y ∷ xs) x each h = (each.0, each_more P xs x each.1 h)

record_split : (e : ℕ × Entry) → record_text e ≡ 1 ∷ counted_text (entry_text e)
unfolding record_text
record_split e = refl

pub empty_file : (old new : List ℕ) → old ≡ [] → new ≡ written 0 (80 ∷ 82 ∷ 65 ∷ 67 ∷ 84 ∷ 73 ∷ 75 ∷ 49 ∷ 0 ∷ []) old → StandsFor new []
unfolding front
empty_file old new none is = record {
  each = tt;
  gate = 0;
  behind = [];
  closed = λ e. absurd (omega (arith, e));
  is = is ∙ ap (λ (o : List ℕ). written 0 (80 ∷ 82 ∷ 65 ∷ 67 ∷ 84 ∷ 73 ∷ 75 ∷ 49 ∷ 0 ∷ []) o) none;
}

pub length-empty : 8 ≡ length (front [])
unfolding front
length-empty = refl

-- the entry's record behind the closed gate, and a closed gate behind it
pub record IsStaged (es : List (ℕ × Entry)) (e : ℕ × Entry) (file : List ℕ) : Type 0 where
  pub each : AllByRecursion IsKeepable es
  pub keepable : IsKeepable e
  pub gate : ℕ
  pub behind : List ℕ
  pub closed : gate ≢ 1
  pub is : file ≡ front es ++ gate ∷ (counted_text (entry_text e) ++ 0 ∷ behind)

-- ---- the first write, behind the closed gate

with_gate : (file : List ℕ) (es : List (ℕ × Entry)) (s : StandsFor file es) → take (length (front es) + 1) file ≡ front es ++ s.gate ∷ []
with_gate file es s =
    ap (take (length (front es) + 1)) (s.is ∙ sym (append_assoc (front es) (s.gate ∷ []) s.behind))
    ∙ take_at (front es ++ s.gate ∷ []) s.behind (length (front es) + 1) (omega (arith, length-append (front es) (s.gate ∷ [])))

pub torn_behind : (file c : List ℕ) (es : List (ℕ × Entry)) (count : ℕ) → StandsFor file es → IsTorn (length (front es) + 1) count file c → StandsFor c es
torn_behind file c es count s torn = record {
  each = s.each;
  gate = s.gate;
  behind = drop (length (front es) + 1) c;
  closed = s.closed;
  is = sym (take-append-drop (length (front es) + 1) c)
      ∙ ap (λ (t : List ℕ). t ++ drop (length (front es) + 1) c) (torn.before ∙ with_gate file es s)
      ∙ append_assoc (front es) (s.gate ∷ []) (drop (length (front es) + 1) c);
}

pub staged : (file : List ℕ) (es : List (ℕ × Entry)) (e : ℕ × Entry) → StandsFor file es → IsKeepable e → IsStaged es e (written (length (front es) + 1) (counted_text (entry_text e) ++ 0 ∷ []) file)
staged file es e s keepable =
    let bytes = counted_text (entry_text e) ++ 0 ∷ [] in
    let rest = drop (length (front es) + 1 + length bytes) file in
    record {
      each = s.each;
      keepable = keepable;
      gate = s.gate;
      behind = rest;
      closed = s.closed;
      is = ap (λ (t : List ℕ). t ++ (bytes ++ rest)) (with_gate file es s)
          ∙ append_assoc (front es) (s.gate ∷ []) (bytes ++ rest)
          ∙ ap (λ (t : List ℕ). front es ++ s.gate ∷ t) (append_assoc (counted_text (entry_text e)) (0 ∷ []) rest);
    }

pub staged_stands : (file : List ℕ) (es : List (ℕ × Entry)) (e : ℕ × Entry) → IsStaged es e file → StandsFor file es
staged_stands file es e s = record { each = s.each; gate = s.gate; behind = counted_text (entry_text e) ++ 0 ∷ s.behind; closed = s.closed; is = s.is }

-- ---- the second write, of the gate

-- the gate is open, or it is not
either : (es : List (ℕ × Entry)) (e : ℕ × Entry) (gate : ℕ) (behind c : List ℕ) → AllByRecursion IsKeepable es → IsKeepable e → c ≡ front es ++ gate ∷ (counted_text (entry_text e) ++ 0 ∷ behind) → StandsForEither es e c
either es e gate behind c each keepable is = elim (cases_eq gate 1) [
  | inl opened ↦ inr (record {
    each = each_more IsKeepable es e each keepable;
    gate = 0;
    behind = behind;
    closed = λ e. absurd (omega (arith, e));
    is = is
        ∙ ap (λ (g : ℕ). front es ++ g ∷ (counted_text (entry_text e) ++ 0 ∷ behind)) opened
        ∙ ap (λ (t : List ℕ). front es ++ (t ++ 0 ∷ behind)) (sym (record_split e))
        ∙ sym (append_assoc (front es) (record_text e) (0 ∷ behind))
        ∙ ap (λ (t : List ℕ). t ++ 0 ∷ behind) (sym (front_more es e));
  })
  | inr shut ↦ inl (record { each = each; gate = gate; behind = counted_text (entry_text e) ++ 0 ∷ behind; closed = shut; is = is })
]

at_gate : (file : List ℕ) (es : List (ℕ × Entry)) (e : ℕ × Entry) (s : IsStaged es e file) → (take (length (front es)) file ≡ front es) × (drop (length (front es) + 1) file ≡ counted_text (entry_text e) ++ 0 ∷ s.behind)
at_gate file es e s =
    let behind = counted_text (entry_text e) ++ 0 ∷ s.behind in (
      ap (take (length (front es))) s.is ∙ take_at (front es) (s.gate ∷ behind) (length (front es)) refl,
      ap (drop (length (front es) + 1)) (s.is ∙ sym (append_assoc (front es) (s.gate ∷ []) behind))
          ∙ drop_at (front es ++ s.gate ∷ []) behind (length (front es) + 1) (omega (arith, length-append (front es) (s.gate ∷ []))),
    )

length-staged : (file : List ℕ) (es : List (ℕ × Entry)) (e : ℕ × Entry) (s : IsStaged es e file) → length (front es) < length file
length-staged file es e s = omega (arith, ap length s.is, length-append (front es) (s.gate ∷ (counted_text (entry_text e) ++ 0 ∷ s.behind)))

pub torn_gate : (file c : List ℕ) (es : List (ℕ × Entry)) (e : ℕ × Entry) → IsStaged es e file → IsTorn (length (front es)) 1 file c → StandsForEither es e c
torn_gate file c es e s torn =
    let place = at_gate file es e s in
    let gate = get_or c (length (front es)) 0 in
    let behind : drop (length (front es)) c ≡ gate ∷ (counted_text (entry_text e) ++ 0 ∷ s.behind) =
    drop_more c (length (front es)) 0 (omega (arith, length-staged file es e s, torn.no_shorter)) ∙ ap (λ (t : List ℕ). gate ∷ t) (torn.after ∙ place.1) in
    either es e gate s.behind c s.each s.keepable (
    sym (take-append-drop (length (front es)) c)
    ∙ ap (λ (t : List ℕ). t ++ drop (length (front es)) c) (torn.before ∙ place.0)
    ∙ ap (λ (t : List ℕ). front es ++ t) behind
    )

pub opened : (file : List ℕ) (es : List (ℕ × Entry)) (e : ℕ × Entry) → IsStaged es e file → StandsFor (written (length (front es)) (1 ∷ []) file) (es ++ e ∷ [])
opened file es e s =
    let place = at_gate file es e s in
    record {
      each = each_more IsKeepable es e s.each s.keepable;
      gate = 0;
      behind = s.behind;
      closed = λ e. absurd (omega (arith, e));
      is = ap (λ (t : List ℕ). t ++ (1 ∷ drop (length (front es) + 1) file)) place.0
          ∙ ap (λ (t : List ℕ). front es ++ (1 ∷ t)) place.1
          ∙ ap (λ (t : List ℕ). front es ++ (t ++ 0 ∷ s.behind)) (sym (record_split e))
          ∙ sym (append_assoc (front es) (record_text e) (0 ∷ s.behind))
          ∙ ap (λ (t : List ℕ). t ++ 0 ∷ s.behind) (sym (front_more es e));
    }

-- the gate of before lies within, and the next one behind the record
pub gate_within : (file : List ℕ) (es : List (ℕ × Entry)) → StandsFor file es → length (front es) < length file
gate_within file es s = omega (arith, ap length s.is, length-append (front es) (s.gate ∷ s.behind))

pub next_gate : (es : List (ℕ × Entry)) (e : ℕ × Entry) → length (front es) + length (counted_text (entry_text e) ++ 0 ∷ []) ≡ length (front (es ++ e ∷ []))
next_gate es e =
    omega (arith, ap length (front_more es e), length-append (front es) (record_text e), ap length (record_split e), length-append (counted_text (entry_text e)) (0 ∷ []))

-- ---- reading records

-- the records of the entries stand in front, up to this place
pub record IsFront (file : List ℕ) (es : List (ℕ × Entry)) (at : ℕ) : Type 0 where
  pub each : AllByRecursion IsKeepable es
  pub is : file ≡ front es ++ drop at file
  pub place : at ≡ length (front es)

pub front_within : (file : List ℕ) (es : List (ℕ × Entry)) (at : ℕ) → IsFront file es at → at ≤ length file
front_within file es at f = omega (arith, f.place, ap length f.is, length-append (front es) (drop at file))

head_front : head ≡ front []
unfolding front
head_front = refl

pub no_entries : (file : List ℕ) → take 8 file ≡ head → IsFront file [] 8
no_entries file is = record {
  each = tt;
  is = sym (take-append-drop 8 file) ∙ ap (λ (t : List ℕ). t ++ drop 8 file) (is ∙ head_front);
  place = length-empty;
}

pub one_more : (file : List ℕ) (es : List (ℕ × Entry)) (at : ℕ) (r : Record) → IsFront file es at → IsRecord (drop at file) at r → IsFront file (es ++ r.entry ∷ []) r.next
one_more file es at r f h =
    let text = record_text r.entry in
    let skipped : drop (length text) (drop at file) ≡ h.behind = ap (drop (length text)) h.is ∙ drop_at text h.behind (length text) refl in
    let behind : h.behind ≡ drop r.next file = sym skipped ∙ drop-drop (length text) at file ∙ ap (λ (n : ℕ). drop n file) (sym h.next) in
    record {
      each = each_more IsKeepable es r.entry f.each h.keepable;
      is = f.is
          ∙ ap (λ (t : List ℕ). front es ++ t) (h.is ∙ ap (λ (t : List ℕ). text ++ t) behind)
          ∙ sym (append_assoc (front es) text (drop r.next file))
          ∙ ap (λ (t : List ℕ). t ++ drop r.next file) (sym (front_more es r.entry));
      place = omega (arith, h.next, f.place, ap length (front_more es r.entry), length-append (front es) text);
    }

further : (file : List ℕ) (at : ℕ) (r : Record) → IsRecord (drop at file) at r → at < r.next
further file at r h = omega (arith, h.next, length-record r.entry)

pub all_read : (file : List ℕ) (es : List (ℕ × Entry)) (at : ℕ) → IsFront file es at → IsClosed (drop at file) → StandsUpTo file es at
all_read file es at f c = record {
  stands = record { each = f.each; gate = c.gate; behind = c.behind; closed = c.closed; is = f.is ∙ ap (λ (t : List ℕ). front es ++ t) c.is };
  place = f.place;
}

pub broken : (file : List ℕ) (es : List (ℕ × Entry)) (at : ℕ) → IsFront file es at → IsNothing (drop at file) → IsBroken file at
broken file es at f n = record {
  entries = es;
  each = f.each;
  rest = drop at file;
  is = f.is;
  place = f.place;
  no_gate = n.no_gate;
  no_record = n.no_record;
}

pub shrinks : (file : List ℕ) (es : List (ℕ × Entry)) (at : ℕ) (r : Record) → IsFront file es at → IsRecord (drop at file) at r → length file - r.next < length file - at
shrinks file es at r f h = omega (arith, further file at r h, front_within file (es ++ r.entry ∷ []) r.next (one_more file es at r f h))
