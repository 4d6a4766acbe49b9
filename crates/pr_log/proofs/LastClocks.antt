-- The clocks of the latest writes of one node.
use Rattle.std.proofs.Common.{◌≡◌, ℕ, ◌≤◌, ◌<◌, List, [], ◌∷◌, Option, None, Some, Bool, true, false, cond, refl, sym, ◌∙◌, ap, arith, inl, inr, max, subst, ◌||◌, ◌&&◌, not}
use Rattle.std.specs.Prelude.{◌⊎◌, ◌↔◌, IfSome, IsSome, IsTrue}
use Rattle.std.specs.Option.{unwrap_or}
use Rattle.std.specs.Ordering.{is_eq, nat_cmp}
use Rattle.std.specs.Cmp.Lexicographic.{slice_cmp}
use Rattle.std.specs.Str.{bytes_eq}
use Rattle.std.proofs.lemmas.Bool.Decides.{nat_tests}
use Rattle.std.proofs.lemmas.Map.Text.{is_eq-slice_cmp}
use Rattle.std.proofs.lemmas.Slice.Eq.{bytes_eq-Decides}
use Rattle.pr_names.specs.Span.{Span}
use Rattle.pr_sets.specs.Spans.{has}
use Rattle.pr_inval.specs.declared.write_rec.WriteRec.{WriteRec}
use Rattle.pr_log.specs.Known.{IsForgottenUpTo, IsUpTo, at_clock}
use Rattle.pr_log.specs.Latest.{AreLatest, IsAbove, IsRaised, IsRaisedIn, IsWrittenAbove, clock_by, later_of}
use Rattle.pr_log.proofs.Clocks.{is_some, less_or, put_here, put_in, same_some, some_none}
use Rattle.pr_log.proofs.Names.{either_test}
use Rattle.pr_log.proofs.Omitted.{named}
use Rattle.pr_log.proofs.Places.{this_or_other}

-- ---- names as keys

abbrev pub is_key : List ℕ → List ℕ → Bool
is_key o k = is_eq (slice_cmp nat_cmp o k)

pub same_name : (a b : List ℕ) → is_key a b ≡ true → a ≡ b
same_name a b e = (bytes_eq-Decides a b).0 (sym (is_eq-slice_cmp a b) ∙ e)

key : (a b : List ℕ) → a ≡ b → is_key a b ≡ true
key a b e = is_eq-slice_cmp a b ∙ (bytes_eq-Decides a b).1 e

pub not_both : {A : Type 0} (b : Bool) → b ≡ true → b ≡ false → A
not_both b e g = cc

-- ---- a clock is raised

pub raised : (was : Option ℕ) (here now clock : ℕ) → here ≡ unwrap_or was clock → now ≡ max here clock → now ≡ later_of was clock
raised None here now clock is max_is = grind (arith, nat_tests)
raised (Some k) here now clock is max_is = max_is ∙ ap (λ n. max n clock) is

later_from : (was : Option ℕ) (clock : ℕ) → clock ≤ later_of was clock
later_from None clock = omega arith
later_from (Some k) clock = grind (arith, nat_tests)

later_kept : (was : Option ℕ) (k clock : ℕ) → was ≡ Some k → k ≤ later_of was clock
later_kept None k clock e = absurd (some_none k (sym e))
later_kept (Some j) k clock e = let same : j ≡ k = same_some j k e in grind (arith, nat_tests)

-- it is the clock, or the one that was kept
later_is : (was : Option ℕ) (clock : ℕ) → (later_of was clock ≡ clock) ⊎ (was ≡ Some (later_of was clock))
later_is None clock = inl refl
later_is (Some k) clock = elim (less_or clock k) [
  | inl above ↦ let e : k ≡ max k clock = grind (arith, nat_tests) in inr (ap (λ (n : ℕ). Some n) e)
  | inr within ↦ inl (grind (arith, nat_tests))
]

raised_here : (a b : List (List ℕ × ℕ)) (name o : List ℕ) (c : ℕ) → IsRaised a b name c → is_key name o ≡ true → clock_by b o ≡ Some (later_of (clock_by a name) c)
raised_here a b name o c is e = is o ∙ ap (λ t. cond t (Some (later_of (clock_by a name) c)) (clock_by a o)) e

raised_other : (a b : List (List ℕ × ℕ)) (name o : List ℕ) (c : ℕ) → IsRaised a b name c → is_key name o ≡ false → clock_by b o ≡ clock_by a o
raised_other a b name o c is e = is o ∙ ap (λ t. cond t (Some (later_of (clock_by a name) c)) (clock_by a o)) e

pub latest_more : (row new : List (ℕ × WriteRec)) (clocks now : List (List ℕ × ℕ)) (write : WriteRec) (clock : ℕ) → AreLatest row clocks → at_clock row clock ≡ None → ((c : ℕ) → at_clock new c ≡ cond (is_eq (nat_cmp clock c)) (Some write) (at_clock row c)) → IsRaised clocks now write.name clock → AreLatest new now
latest_more row new clocks now write clock are none in_ is = record {
  written = λ o k at. elim (either_test (is_key write.name o)) [
    | inl equal ↦
        let same : write.name ≡ o = same_name write.name o equal in
        let k_is : k ≡ later_of (clock_by clocks write.name) clock = same_some k _ (sym at ∙ raised_here clocks now write.name o clock is equal) in
        elim (later_is (clock_by clocks write.name) clock) [
          | inl this ↦ (write, put_here clock k (at_clock row k) (at_clock new k) write (in_ k) (sym (k_is ∙ this)), same)
          | inr that ↦
              let w = are.written write.name k (that ∙ ap (λ (n : ℕ). Some n) (sym k_is)) in
              (w.0, still k w.0 w.1, w.2 ∙ same)
        ]
    | inr unequal ↦
        let w = are.written o k (sym (raised_other clocks now write.name o clock is unequal) ∙ at) in
        (w.0, still k w.0 w.1, w.2)
  ];
  last = λ c w at. elim (this_or_other clock c) [
    | inl e ↦
        let this : write ≡ w = same_some write w (sym (put_here clock c (at_clock row c) (at_clock new c) write (in_ c) e) ∙ at) in
        (later_of (clock_by clocks write.name) clock, raised_here clocks now write.name w.name clock is (key write.name w.name (ap (λ (v : WriteRec). v.name) this)), omega (arith, e, later_from (clock_by clocks write.name) clock))
    | inr other ↦
        let old = are.last c w (sym (put_in clock c (at_clock row c) (at_clock new c) write (in_ c) other) ∙ at) in
        elim (either_test (is_key write.name w.name)) [
          | inl equal ↦
              let was : clock_by clocks write.name ≡ Some old.0 = ap (clock_by clocks) (same_name write.name w.name equal) ∙ old.1 in
              (later_of (clock_by clocks write.name) clock, raised_here clocks now write.name w.name clock is equal, omega (arith, old.2, later_kept (clock_by clocks write.name) old.0 clock was))
          | inr unequal ↦ (old.0, raised_other clocks now write.name w.name clock is unequal ∙ old.1, old.2)
        ]
  ];
}
  where
    still : (k : ℕ) (w : WriteRec) → at_clock row k ≡ Some w → at_clock new k ≡ Some w
    still k w at = put_in clock k (at_clock row k) (at_clock new k) write (in_ k) (λ e. some_none w (sym at ∙ ap (at_clock row) (sym e) ∙ none)) ∙ at

-- the same, where the clocks are kept
pub latest_more_in : (row new : List (ℕ × WriteRec)) (was now : Option (List (List ℕ × ℕ))) (write : WriteRec) (clock : ℕ) → IfSome was (AreLatest row) → at_clock row clock ≡ None → ((c : ℕ) → at_clock new c ≡ cond (is_eq (nat_cmp clock c)) (Some write) (at_clock row c)) → IsRaisedIn was now write.name clock → IfSome now (AreLatest new)
latest_more_in row new None now write clock are none in_ is = subst (λ l. IfSome l (AreLatest new)) (sym is) tt
latest_more_in row new (Some a) None write clock are none in_ is = tt
latest_more_in row new (Some a) (Some b) write clock are none in_ is = latest_more row new a b write clock are none in_ is

-- ---- the writes are listed, in the order of their clocks

-- just for the names of the row's writes up to a clock one is kept, that of the latest of these
pub record AreLatestUpTo (c : ℕ) (row : List (ℕ × WriteRec)) (clocks : List (List ℕ × ℕ)) : Type 0 where
  pub written : (o : List ℕ) (k : ℕ) → clock_by clocks o ≡ Some k → (w : WriteRec) × (at_clock row k ≡ Some w) × (w.name ≡ o)
  pub last : (d : ℕ) (w : WriteRec) → d ≤ c → at_clock row d ≡ Some w → (k : ℕ) × (clock_by clocks w.name ≡ Some k) × (d ≤ k)

pub latest_start : (writes : List (ℕ × WriteRec)) → at_clock writes 0 ≡ None → AreLatestUpTo 0 writes []
latest_start writes none = record {
  written = λ o k at. absurd (some_none k (sym at));
  last = λ d w le at. let zero : 0 ≡ d = omega (arith, le) in absurd (some_none w (sym at ∙ ap (at_clock writes) (sym zero) ∙ none));
}

pub latest_next : (row : List (ℕ × WriteRec)) (clocks now : List (List ℕ × ℕ)) (c next : ℕ) (write : WriteRec) → AreLatestUpTo c row clocks → at_clock row next ≡ Some write → ((d : ℕ) → c < d → IsSome (at_clock row d) → next ≤ d) → IsRaised clocks now write.name next → AreLatestUpTo next row now
latest_next row clocks now c next write are here first is = record {
  written = λ o k at. elim (either_test (is_key write.name o)) [
    | inl equal ↦
        let same : write.name ≡ o = same_name write.name o equal in
        let k_is : k ≡ later_of (clock_by clocks write.name) next = same_some k _ (sym at ∙ raised_here clocks now write.name o next is equal) in
        elim (later_is (clock_by clocks write.name) next) [
          | inl this ↦ (write, ap (at_clock row) (k_is ∙ this) ∙ here, same)
          | inr that ↦
              let w = are.written write.name k (that ∙ ap (λ (n : ℕ). Some n) (sym k_is)) in
              (w.0, w.1, w.2 ∙ same)
        ]
    | inr unequal ↦ are.written o k (sym (raised_other clocks now write.name o next is unequal) ∙ at)
  ];
  last = λ d w le at. elim (less_or c d) [
    | inl above ↦
        let e : next ≡ d = omega (arith, le, first d above (is_some (at_clock row d) w at)) in
        let this : write ≡ w = same_some write w (sym here ∙ ap (at_clock row) e ∙ at) in
        (later_of (clock_by clocks write.name) next, raised_here clocks now write.name w.name next is (key write.name w.name (ap (λ (v : WriteRec). v.name) this)), omega (arith, e, later_from (clock_by clocks write.name) next))
    | inr within ↦
        let old = are.last d w within at in
        elim (either_test (is_key write.name w.name)) [
          | inl equal ↦
              let was : clock_by clocks write.name ≡ Some old.0 = ap (clock_by clocks) (same_name write.name w.name equal) ∙ old.1 in
              (later_of (clock_by clocks write.name) next, raised_here clocks now write.name w.name next is equal, omega (arith, old.2, later_kept (clock_by clocks write.name) old.0 next was))
          | inr unequal ↦ (old.0, raised_other clocks now write.name w.name next is unequal ∙ old.1, old.2)
        ]
  ];
}

pub latest_all : (row : List (ℕ × WriteRec)) (clocks : List (List ℕ × ℕ)) (c : ℕ) → AreLatestUpTo c row clocks → ((d : ℕ) → c < d → at_clock row d ≡ None) → AreLatest row clocks
latest_all row clocks c are none = record {
  written = are.written;
  last = λ d w at. elim (less_or c d) [
    | inl above ↦ absurd (some_none w (sym at ∙ none d above))
    | inr within ↦ are.last d w within at
  ];
}

-- ---- writes are forgotten

pub up_to_forgot : (clock last : ℕ) (row new : List (ℕ × WriteRec)) → IsUpTo last row → IsForgottenUpTo clock row new → IsUpTo last new
up_to_forgot clock last row new up_to forgot c past = elim (less_or clock c) [
  | inl above ↦ forgot.kept c above ∙ up_to c past
  | inr within ↦ forgot.gone c within
]

pub no_latest : AreLatest [] []
no_latest = record {
  written = λ o k at. absurd (some_none k (sym at));
  last = λ c w at. absurd (some_none w (sym at));
}

-- ---- the names that are kept above a clock are those that were written above it

pub written_above : (row : List (ℕ × WriteRec)) (clocks : List (List ℕ × ℕ)) (c : ℕ) (o : List ℕ) → AreLatest row clocks → IsAbove clocks c o → IsWrittenAbove row c o
written_above row clocks c o are (k, at, past) = let w = are.written o k at in (k, w.0, w.1, w.2, past)

pub kept_above : (row : List (ℕ × WriteRec)) (clocks : List (List ℕ × ℕ)) (c : ℕ) (o : List ℕ) → AreLatest row clocks → IsWrittenAbove row c o → IsAbove clocks c o
kept_above row clocks c o are (k, w, at, name, past) = let l = are.last k w at in (l.0, ap (clock_by clocks) (sym name) ∙ l.1, omega (arith, past, l.2))

-- ---- walks over the clocks

-- the first entry is the name's, or the name is in the rest
pub first_or_rest : (es rest : List (List ℕ × ℕ)) (name o : List ℕ) (last c : ℕ) → es ≡ (name, last) ∷ rest → IsAbove es c o → ((name ≡ o) × (c < last)) ⊎ IsAbove rest c o
first_or_rest es rest name o last c is (k, at, past) = elim (either_test (is_key o name)) [
  | inl equal ↦
      let same : last ≡ k = same_some last k (sym (ap (λ t. cond t (Some last) (clock_by rest o)) equal) ∙ opened) in
      inl (sym (same_name o name equal), omega (arith, same, past))
  | inr unequal ↦ inr (k, sym (ap (λ t. cond t (Some last) (clock_by rest o)) unequal) ∙ opened, past)
]
  where
    opened : clock_by ((name, last) ∷ rest) o ≡ Some k
    opened = ap (λ l. clock_by l o) (sym is) ∙ at

-- an entry that is not one of the names above the clock
pub above_more : (es rest : List (List ℕ × ℕ)) (name o : List ℕ) (last c : ℕ) (names : List Span) → es ≡ (name, last) ∷ rest → ((c < last) → has names name ≡ true → ⊥) → has names o ≡ true → IsAbove es c o → IsAbove rest c o
above_more es rest name o last c names is apart held above = elim (first_or_rest es rest name o last c is above) [
  | inl this ↦ absurd (apart this.1 (ap (has names) this.0 ∙ held))
  | inr more ↦ more
]

-- what is there so far is to be there; what is to be there is there, or comes
pub record IsGatheredSofar (es rest : List (List ℕ × ℕ)) (sub : List Span) (c : ℕ) (o : List ℕ) (old now : Bool) : Type 0 where
  pub kept : IsTrue old → IsTrue now
  pub sound : IsTrue now → IsTrue old ⊎ ((has sub o ≡ false) × IsAbove es c o)
  pub all : has sub o ≡ false → IsAbove es c o → IsTrue now ⊎ IsAbove rest c o

pub none_gathered : (es : List (List ℕ × ℕ)) (sub : List Span) (c : ℕ) (o : List ℕ) (now : Bool) → IsGatheredSofar es es sub c o now now
none_gathered es sub c o now = record {
  kept = λ h. h;
  sound = λ h. inl h;
  all = λ out above. inr above;
}

pub gathered_more : (es left rest : List (List ℕ × ℕ)) (sub : List Span) (c last : ℕ) (name o : List ℕ) (old was now : Bool) → left ≡ (name, last) ∷ rest → clock_by es name ≡ Some last → c < last → now ≡ (was || (bytes_eq name o && not (has sub name))) → IsGatheredSofar es left sub c o old was → IsGatheredSofar es rest sub c o old now
gathered_more es left rest sub c last name o old was now is here past now_is so_far = record {
  kept = λ h. was_there (so_far.kept h);
  sound = λ h. elim (either_test was) [
    | inl before ↦ so_far.sound before
    | inr new ↦
        let k = named was (bytes_eq name o) (has sub name) (sym now_is ∙ h) new in
        let same : name ≡ o = (bytes_eq-Decides name o).0 k.0 in
        inr (ap (has sub) (sym same) ∙ k.1, (last, ap (clock_by es) (sym same) ∙ here, past))
  ];
  all = λ out above. elim (so_far.all out above) [
    | inl before ↦ inl (was_there before)
    | inr more ↦ elim (first_or_rest left rest name o last c is more) [
      | inl this ↦ inl (now_is ∙ ap (λ b. was || (b && not (has sub name))) ((bytes_eq-Decides name o).1 this.0) ∙ ap (λ b. was || not b) (ap (has sub) this.0 ∙ out) ∙ or_true was)
      | inr more ↦ inr more
    ]
  ];
}
  where
    was_there : IsTrue was → IsTrue now
    was_there h = now_is ∙ ap (λ b. b || (bytes_eq name o && not (has sub name))) h

    or_true : (a : Bool) → (a || true) ≡ true
    or_true true = refl
    or_true false = refl

pub gathered_past : (es left rest : List (List ℕ × ℕ)) (sub : List Span) (c last : ℕ) (name o : List ℕ) (old was : Bool) → left ≡ (name, last) ∷ rest → last ≤ c → IsGatheredSofar es left sub c o old was → IsGatheredSofar es rest sub c o old was
gathered_past es left rest sub c last name o old was is within so_far = record {
  kept = so_far.kept;
  sound = so_far.sound;
  all = λ out above. elim (so_far.all out above) [
    | inl before ↦ inl before
    | inr more ↦ elim (first_or_rest left rest name o last c is more) [
      | inl this ↦ absurd (omega (arith, this.1, within))
      | inr more ↦ inr more
    ]
  ];
}

pub all_gathered : (es rest : List (List ℕ × ℕ)) (sub : List Span) (c : ℕ) (o : List ℕ) (old now : Bool) → rest ≡ [] → IsGatheredSofar es rest sub c o old now → IsTrue now ↔ (IsTrue old ⊎ ((has sub o ≡ false) × IsAbove es c o))
all_gathered es rest sub c o old now end so_far = (
  so_far.sound,
  (λ h. elim h [
    | inl first ↦ so_far.kept first
    | inr this ↦ elim (so_far.all this.0 this.1) [
      | inl there ↦ there
      | inr more ↦ absurd (some_none more.0 (sym more.1 ∙ ap (λ l. clock_by l o) end))
    ]
  ]),
)
