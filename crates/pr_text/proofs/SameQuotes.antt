-- A quoted text and a set say one thing.
use Rattle.std.proofs.Common.{◌≡◌, ℕ, ◌+◌, ◌-◌, ◌/◌, ◌%◌, ◌<◌, List, [], ◌∷◌, ◌++◌, cond, Bool, true, false, refl, sym, ap, ◌∙◌, subst, arith, length, append_assoc, max}
use Rattle.std.specs.Prelude.{All, Result, Ok, Err, nat_lt}
use Rattle.std.specs.List.{flat_map}
use Rattle.std.proofs.lemmas.Bool.Decides.{nat_tests}
use Rattle.std.proofs.lemmas.List.Concat.{flat_map-cons}
use Rattle.std.proofs.lemmas.List.Elements.{All-head, All-tail}
use Rattle.pr_names.specs.Name.{Allowed, IsName}
use Rattle.pr_names.specs.Byte.{allowed}
use Rattle.pr_names.specs.Span.{IsSpan, Span}
use Rattle.pr_names.specs.Bound.{IsBound}
use Rattle.pr_names.specs.Text.{bound_text, end_text, interval_text, is_all_from, is_one, is_whole}
use Rattle.pr_names.specs.declared.bound.Bound.{Bound}
use Rattle.pr_names.specs.declared.bound.Bound.TheVariants.{At, End}
use Rattle.pr_sets.specs.Spans.{IsSet}
use Rattle.pr_sets.specs.Text.{more_text, set_read, set_text}
use Rattle.pr_sets.specs.declared.fault.SetFault.{SetFault}
use Rattle.pr_sets.proofs.Texts.{reads_back}
use Rattle.pr_script.specs.Printing.{hex_digit, quoted, spell}
use Rattle.pr_script.specs.Texts.{is_bare}
use Rattle.pr_text.proofs.Cut.{IsOf, Lacks, Quoted, is_not, is_plain, of_append, both_same, heads_same, tails_same}

-- ---- bytes

abbrev pub AreBytes : List ℕ → Type 0
AreBytes [] = Unit {0}
AreBytes (b ∷ bs) = (b < 256) × AreBytes bs

pub are_bytes : (bs : List ℕ) → All (λ b. b < 256) bs → AreBytes bs
are_bytes [] a = tt
are_bytes (b ∷ bs) a = (All-head (λ k. k < 256) b bs a, are_bytes bs (All-tail (λ k. k < 256) b bs a))

-- what a byte is written as, where it is a bare one or not
abbrev written : Bool → ℕ → List ℕ
written bare b = cond bare (b ∷ []) (92 ∷ hex_digit (b / 16) ∷ hex_digit (b % 16) ∷ [])

digit_is : (m : ℕ) → m < 16 → cond (nat_lt (hex_digit m) 58) (hex_digit m) (hex_digit m - 39) ≡ 48 + m
digit_is m l = grind (arith, nat_tests)

digit_same : (m n : ℕ) → m < 16 → n < 16 → hex_digit m ≡ hex_digit n → m ≡ n
digit_same m n p q e =
    let k : 48 + m ≡ 48 + n = sym (digit_is m p) ∙ ap (λ c. cond (nat_lt c 58) c (c - 39)) e ∙ digit_is n q in
    omega (arith, k)

byte_same : (b c : ℕ) → b < 256 → c < 256 → hex_digit (b / 16) ≡ hex_digit (c / 16) → hex_digit (b % 16) ≡ hex_digit (c % 16) → b ≡ c
byte_same b c p q e f =
    let h : b / 16 ≡ c / 16 = digit_same (b / 16) (c / 16) (omega (arith, p)) (omega (arith, q)) e in
    let l : b % 16 ≡ c % 16 = digit_same (b % 16) (c % 16) (omega arith) (omega arith) f in
    omega (arith, h, l)

bare_not_quote : (b : ℕ) → is_bare b ≡ true → b ≡ 34 → ⊥
bare_not_quote b p e = absurd (no (sym p ∙ ap is_bare e))
  where
    no : true ≡ false → ⊥
    no k = cc

bare_not_slash : (b : ℕ) → is_bare b ≡ true → b ≡ 92 → ⊥
bare_not_slash b p e = absurd (no (sym p ∙ ap is_bare e))
  where
    no : true ≡ false → ⊥
    no k = cc

number_no : {A : Type 0} → (let c : ℕ = 34 in c) ≡ 92 → A
number_no e = absurd (omega (arith, e))

-- no text of a byte begins with a quote
begins : (bare : Bool) (b : ℕ) (r s : List ℕ) → is_bare b ≡ bare → 34 ∷ r ≡ written bare b ++ s → ⊥
begins true b r s p e = bare_not_quote b p (sym (heads_same 34 b r s e))
begins false b r s p e = number_no (heads_same 34 92 r (hex_digit (b / 16) ∷ hex_digit (b % 16) ∷ s) e)

-- two bytes with one text
one_byte : (x y : Bool) (b c : ℕ) (r s : List ℕ) → b < 256 → c < 256 → is_bare b ≡ x → is_bare c ≡ y → written x b ++ r ≡ written y c ++ s → (b ≡ c) × (r ≡ s)
one_byte true true b c r s p q f g e = both_same b c r s e
one_byte true false b c r s p q f g e = absurd (bare_not_slash b f (heads_same b 92 r (hex_digit (c / 16) ∷ hex_digit (c % 16) ∷ s) e))
one_byte false true b c r s p q f g e = absurd (bare_not_slash c g (sym (heads_same 92 c (hex_digit (b / 16) ∷ hex_digit (b % 16) ∷ r) s e)))
one_byte false false b c r s p q f g e =
    let t : hex_digit (b / 16) ∷ hex_digit (b % 16) ∷ r ≡ hex_digit (c / 16) ∷ hex_digit (c % 16) ∷ s =
    tails_same 92 92 (hex_digit (b / 16) ∷ hex_digit (b % 16) ∷ r) (hex_digit (c / 16) ∷ hex_digit (c % 16) ∷ s) e in
    let h = both_same (hex_digit (b / 16)) (hex_digit (c / 16)) (hex_digit (b % 16) ∷ r) (hex_digit (c % 16) ∷ s) t in
    let l = both_same (hex_digit (b % 16)) (hex_digit (c % 16)) r s h.1 in
    (byte_same b c p q h.0 l.0, l.1)

texts_same : (bs cs r s : List ℕ) → AreBytes bs → AreBytes cs → flat_map spell bs ++ 34 ∷ r ≡ flat_map spell cs ++ 34 ∷ s → bs ≡ cs
unfolding spell
texts_same [] [] r s p q e = refl
texts_same [] (c ∷ cs) r s p q e =
    absurd (begins (is_bare c) c r (flat_map spell cs ++ 34 ∷ s) refl
    (e ∙ ap (λ t. t ++ 34 ∷ s) (flat_map-cons spell c cs) ∙ append_assoc (spell c) (flat_map spell cs) (34 ∷ s)))
texts_same (b ∷ bs) [] r s p q e =
    absurd (begins (is_bare b) b s (flat_map spell bs ++ 34 ∷ r) refl
    (sym e ∙ ap (λ t. t ++ 34 ∷ r) (flat_map-cons spell b bs) ∙ append_assoc (spell b) (flat_map spell bs) (34 ∷ r)))
texts_same (b ∷ bs) (c ∷ cs) r s p q e =
    let f = one_byte (is_bare b) (is_bare c) b c (flat_map spell bs ++ 34 ∷ r) (flat_map spell cs ++ 34 ∷ s) p.0 q.0 refl refl
    (sym (ap (λ t. t ++ 34 ∷ r) (flat_map-cons spell b bs) ∙ append_assoc (spell b) (flat_map spell bs) (34 ∷ r))
    ∙ e ∙ ap (λ t. t ++ 34 ∷ s) (flat_map-cons spell c cs) ∙ append_assoc (spell c) (flat_map spell cs) (34 ∷ s)) in
    ap (λ k. k ∷ bs) f.0 ∙ ap (λ k. c ∷ k) (texts_same bs cs r s p.1 q.1 f.1)

pub quoted_same : (bs cs : List ℕ) → AreBytes bs → AreBytes cs → quoted bs ≡ quoted cs → bs ≡ cs
quoted_same bs cs p q e = texts_same bs cs [] [] p q (tails_same 34 34 (flat_map spell bs ++ 34 ∷ []) (flat_map spell cs ++ 34 ∷ []) e)

-- no quote and no line end stands within
digit_no_stop : (s m : ℕ) → s < 48 → is_not s (hex_digit m) ≡ true
digit_no_stop s m l = grind (arith, nat_tests)

bare_no_quote : (b : ℕ) → is_bare b ≡ true → is_not 34 b ≡ true
bare_no_quote b p = grind (arith, nat_tests)

bare_no_end : (b : ℕ) → is_bare b ≡ true → is_not 10 b ≡ true
bare_no_end b p = grind (arith, nat_tests)

byte_lacks : (s : ℕ) → s < 48 → ((b : ℕ) → is_bare b ≡ true → is_not s b ≡ true) → is_not s 92 ≡ true → (x : Bool) (b : ℕ) → is_bare b ≡ x → Lacks s (written x b)
byte_lacks s l f e true b p = (f b p, tt)
byte_lacks s l f e false b p = (e, (digit_no_stop s (b / 16) l, (digit_no_stop s (b % 16) l, tt)))

bytes_lack : (s : ℕ) → s < 48 → ((b : ℕ) → is_bare b ≡ true → is_not s b ≡ true) → is_not s 92 ≡ true → (bs : List ℕ) → Lacks s (flat_map spell bs)
unfolding spell
bytes_lack s l f e [] = tt
bytes_lack s l f e (b ∷ bs) =
    subst (Lacks s) (sym (flat_map-cons spell b bs)) (of_append (is_not s) (spell b) (flat_map spell bs) (byte_lacks s l f e (is_bare b) b refl) (bytes_lack s l f e bs))

pub is_quoted : (bs : List ℕ) → Quoted (quoted bs)
is_quoted bs = (flat_map spell bs, refl, bytes_lack 34 (omega arith) bare_no_quote refl bs, bytes_lack 10 (omega arith) bare_no_end refl bs)

-- ---- names and sets

pub name_bytes : (r : ℕ → Bool) (n : List ℕ) → IsName n → ((b : ℕ) → allowed b ≡ true → r b ≡ true) → IsOf r n
name_bytes r n h f = by n h.each
  where
    by : (n : List ℕ) → Allowed n → IsOf r n
    by [] a = tt
    by (b ∷ n) a = (f b a.0, by n a.1)

pub allowed_plain : (b : ℕ) → allowed b ≡ true → is_plain b ≡ true
allowed_plain b p = grind (arith, nat_tests)

either : (r : ℕ → Bool) (c : Bool) (x y : List ℕ) → IsOf r x → IsOf r y → IsOf r (cond c x y)
either r true x y a b = a
either r false x y a b = b

bound_plain : (b : Bound) → IsBound b → IsOf is_plain (bound_text b)
bound_plain (At n) h = name_bytes is_plain n h allowed_plain
bound_plain End h = (refl, tt)

end_plain : (s : Span) → IsSpan s → IsOf is_plain (end_text s)
unfolding end_text
end_plain s h = either is_plain (is_one s) [] (cond (is_all_from s) (42 ∷ []) (58 ∷ bound_text s.hi)) tt
    (either is_plain (is_all_from s) (42 ∷ []) (58 ∷ bound_text s.hi) (refl, tt) (refl, bound_plain s.hi h.hi))

interval_plain : (s : Span) → IsSpan s → IsOf is_plain (interval_text s)
unfolding interval_text
interval_plain s h = either is_plain (is_whole s) (42 ∷ []) (s.lo ++ end_text s) (refl, tt)
    (of_append is_plain s.lo (end_text s) (name_bytes is_plain s.lo h.lo allowed_plain) (end_plain s h))

more_plain : (ss : List Span) → IsSet ss → IsOf is_plain (more_text ss)
unfolding more_text
more_plain [] h = tt
more_plain (s ∷ ss) h = (refl, of_append is_plain (interval_text s) (more_text ss) (interval_plain s h.0) (more_plain ss h.2))

pub set_plain : (ss : List Span) → IsSet ss → IsOf is_plain (set_text ss)
unfolding set_text
set_plain [] h = (refl, tt)
set_plain (s ∷ ss) h = of_append is_plain (interval_text s) (more_text ss) (interval_plain s h.0) (more_plain ss h.2)

ok_same : (a b : List Span) → (let r : Result (List Span) SetFault = Ok a in r) ≡ Ok b → a ≡ b
ok_same a b e = ap (or_nothing) e
  where
    or_nothing : Result (List Span) SetFault → List Span
    or_nothing (Ok x) = x
    or_nothing (Err f) = []

pub set_same : (a b : List Span) → IsSet a → IsSet b → set_text a ≡ set_text b → a ≡ b
set_same a b p q e =
    let most = max (length a) (length b) in
    ok_same a b (sym (reads_back a most p (omega arith)) ∙ ap (λ t. set_read t most) e ∙ reads_back b most q (omega arith))
