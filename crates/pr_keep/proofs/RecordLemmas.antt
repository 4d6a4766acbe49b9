-- What stands at a place where a gate has to stand.
use Rattle.std.proofs.Common.{◌≡◌, ◌≢◌, inl, inr, ℕ, ◌+◌, ◌-◌, ◌^◌, ◌<◌, ◌≤◌, List, [], ◌∷◌, ◌++◌, length, take, drop, Some, None, sym, ap, ◌∙◌, append_assoc, arith}
use Rattle.std.proofs.lemmas.List.{drop-drop, drop-take, length-append, length-drop, length-take, nil_from_length, take_at, take_all, take-append-drop, take-take}
use Rattle.pr_story.specs.declared.entry.Entry.{Entry}
use Rattle.pr_wire.specs.Reading.{eight_at}
use Rattle.pr_wire.specs.Spelling.{eight}
use Rattle.pr_wire.proofs.Fields.{IsBytes, eight_field, length-eight, some_is}
use Rattle.pr_keep.specs.declared.fault.KeepFault.{KeepFault}
use Rattle.pr_keep.specs.declared.fault.KeepFault.TheVariants.{Failed, NoMemory, Damaged}
use Rattle.pr_keep.specs.declared.records.Gate.TheVariants.{Missing, Closed}
use Rattle.pr_keep.specs.declared.records.Record.{Record}
use Rattle.pr_keep.specs.Calls.{GateIs, IsClosed, IsDamagedAt, IsNotDamaged, IsNothing, IsPiece, IsRecord}
use Rattle.pr_keep.specs.Entries.{IsKeepable}
use Rattle.pr_keep.specs.Files.{record_text}
use Rattle.pr_keep.specs.Reading.{whole_entry_at}
use Rattle.pr_keep.specs.Spelling.{counted_text, entry_text}
use Rattle.pr_keep.proofs.EntryFields.{whole_again, whole_takes}

pub not_damaged : (P : ℕ → Type 0) (fault : KeepFault) → IsNotDamaged fault → IsDamagedAt P fault
not_damaged P Failed h = tt
not_damaged P NoMemory h = tt
not_damaged P (Damaged at) h = absurd h

pub record_is : (e : ℕ × Entry) (behind : List ℕ) → record_text e ++ behind ≡ 1 ∷ (eight (length (entry_text e)) ++ (entry_text e ++ behind))
unfolding record_text counted_text
record_is e behind = ap (λ (t : List ℕ). 1 ∷ t) (append_assoc (eight (length (entry_text e))) (entry_text e) behind)

pub length-record : (e : ℕ × Entry) → length (record_text e) ≡ 9 + length (entry_text e)
unfolding record_text counted_text
length-record e = omega (arith, length-append (eight (length (entry_text e))) (entry_text e), length-eight (length (entry_text e)))

first : (a b : ℕ) (x y : List ℕ) → a ∷ x ≡ b ∷ y → a ≡ b
first a b x y e = cc

-- ---- the head of a record stands there

module _ (rest : List ℕ) (len : ℕ) (few : len < 2 ^ 64) (head : take 9 rest ≡ 1 ∷ eight len) where
  split : rest ≡ 1 ∷ (eight len ++ drop 9 rest)
  split = sym (take-append-drop 9 rest) ∙ ap (λ (t : List ℕ). t ++ drop 9 rest) head

  open_gate : (gate : ℕ) (behind : List ℕ) → gate ≢ 1 → rest ≢ gate ∷ behind
  open_gate gate behind shut is = shut (first gate 1 behind (eight len ++ drop 9 rest) (sym is ∙ split))

  -- a record that stands there has this length, and its spelling follows
  stands_here : (e : ℕ × Entry) (behind : List ℕ) → IsKeepable e → rest ≡ record_text e ++ behind → (len ≡ length (entry_text e)) × (drop 9 rest ≡ entry_text e ++ behind)
  stands_here e behind h is =
      let same : eight len ++ drop 9 rest ≡ eight (length (entry_text e)) ++ (entry_text e ++ behind) = ap (drop 1) (sym split ∙ is ∙ record_is e behind) in
      let read : (len, drop 9 rest) ≡ (length (entry_text e), entry_text e ++ behind) =
      some_is _ _ (sym (eight_field.again len (drop 9 rest) few) ∙ ap eight_at same ∙ eight_field.again (length (entry_text e)) (entry_text e ++ behind) h.short) in
      (ap (λ (p : ℕ × List ℕ). p.0) read, ap (λ (p : ℕ × List ℕ). p.1) read)

  text_here : (e : ℕ × Entry) (behind : List ℕ) → IsKeepable e → rest ≡ record_text e ++ behind → take len (drop 9 rest) ≡ entry_text e
  text_here e behind h is = let s = stands_here e behind h is in ap (take len) s.1 ∙ take_at (entry_text e) behind len (sym s.0)

  pub nothing_short : length (take len (drop 9 rest)) < len → IsNothing rest
  nothing_short short = record {
    no_gate = open_gate;
    no_record = λ e behind h is. absurd (omega (arith, short, (stands_here e behind h is).0, ap length (text_here e behind h is)));
  }

  pub nothing_bad : whole_entry_at (take len (drop 9 rest)) ≡ None → IsNothing rest
  nothing_bad bad = record {
    no_gate = open_gate;
    no_record = λ e behind h is. let read = sym bad ∙ ap whole_entry_at (text_here e behind h is) ∙ whole_again e h.spelled in absurd cc;
  }

  pub record_good : (at : ℕ) (r : Record) → len ≤ length (take len (drop 9 rest)) → IsBytes (take len (drop 9 rest)) → whole_entry_at (take len (drop 9 rest)) ≡ Some r.entry → r.next ≡ at + 9 + len → IsRecord rest at r
  record_good at r whole fits good next =
      let read = whole_takes (take len (drop 9 rest)) r.entry fits good in
      let size : len ≡ length (entry_text r.entry) = omega (arith, whole, length-take len (drop 9 rest), ap length read.0) in
      record {
        keepable = record { spelled = read.1; short = omega (arith, size, few) };
        behind = drop len (drop 9 rest);
        is = split
            ∙ ap (λ (t : List ℕ). 1 ∷ (eight len ++ t)) (sym (take-append-drop len (drop 9 rest)) ∙ ap (λ (t : List ℕ). t ++ drop len (drop 9 rest)) read.0)
            ∙ ap (λ (n : ℕ). 1 ∷ (eight n ++ (entry_text r.entry ++ drop len (drop 9 rest)))) size
            ∙ sym (record_is r.entry (drop len (drop 9 rest)));
        next = omega (arith, next, size, length-record r.entry);
      }

-- ---- the bytes at a gate

pub missing : (rest : List ℕ) → GateIs (take 9 rest) Missing → IsNothing rest
missing rest (inl none) =
    let nil : rest ≡ [] = nil_from_length rest (omega (arith, length-take 9 rest, ap length none)) in
    record {
      no_gate = λ gate behind shut is. absurd (let e : [] ≡ gate ∷ behind = sym nil ∙ is in cc);
      no_record = λ e behind h is. absurd (let n : 0 ≡ 9 + length (entry_text e) + length behind = omega (arith, ap length (sym nil ∙ is), length-append (record_text e) behind, length-record e) in omega (arith, n));
    }
missing rest (inr part) =
    let behind = part.0 in
    let all : rest ≡ 1 ∷ behind = sym (take_all 9 rest (omega (arith, length-take 9 rest, ap length part.1, part.2))) ∙ part.1 in
    record {
      no_gate = λ gate more shut is. shut (first gate 1 more behind (sym is ∙ all));
      no_record = λ e more h is. absurd (omega (arith, ap length (sym all ∙ is), length-append (record_text e) more, length-record e, part.2));
    }

pub closed : (rest : List ℕ) → GateIs (take 9 rest) Closed → IsClosed rest
closed rest c = record {
  gate = c.0;
  behind = c.1 ++ drop 9 rest;
  closed = c.2;
  is = sym (take-append-drop 9 rest) ∙ ap (λ (t : List ℕ). t ++ drop 9 rest) c.3;
}

-- the head is in
pub head_in : (at len : ℕ) (file : List ℕ) → take 9 (drop at file) ≡ 1 ∷ eight len → at + 9 ≤ length file
head_in at len file head = omega (arith, ap length head, length-take 9 (drop at file), length-drop at file, length-eight len)

take_both : (n m : ℕ) (xs : List ℕ) → take n xs ++ take m (drop n xs) ≡ take (n + m) xs
take_both n m xs =
    ap (λ (t : List ℕ). take n xs ++ t) (sym (drop-take n m xs))
    ∙ ap (λ (t : List ℕ). t ++ drop n (take (n + m) xs)) (sym (take-take n (n + m) xs (omega arith)))
    ∙ take-append-drop n (take (n + m) xs)

-- one piece more is read
pub more_read : (file : List ℕ) (at len : ℕ) (old new : List ℕ) (count : ℕ) → old ≡ take (length old) (drop at file) → at + length old ≤ length file → length old < len → IsPiece file (at + length old) (len - length old) old new count
    → (new ≡ take (length new) (drop at file)) × (at + length new ≤ length file) × (at + length new < 2 ^ 64) × (length new ≤ len)
more_read file at len old new count so_far within below piece =
    let behind : take count (drop (at + length old) file) ≡ take count (drop (length old) (drop at file)) = ap (take count) (sym (drop-drop (length old) at file)) in
    let all : new ≡ take (length old + count) (drop at file) =
    piece.bytes ∙ ap (λ (t : List ℕ). t ++ take count (drop (at + length old) file)) so_far ∙ ap (λ (t : List ℕ). take (length old) (drop at file) ++ t) behind ∙ take_both (length old) count (drop at file) in (
      all ∙ ap (λ (n : ℕ). take n (drop at file)) (sym piece.size),
      omega (arith, piece.size, piece.within),
      omega (arith, piece.size, piece.within, piece.short),
      omega (arith, piece.size, piece.few, below),
    )
