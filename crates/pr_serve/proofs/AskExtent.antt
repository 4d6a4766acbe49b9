-- Where an ask ends: its counts and lengths tell it.
use Rattle.std.proofs.Common.{◌≡◌, ◌≢◌, ◌<◌, ◌+◌, ◌-◌, ◌*◌, ◌%◌, ◌^◌, ℕ, zero, suc, List, [], ◌∷◌, ◌++◌, length, take, flat_map, Option, Some, None, refl, sym, ap, ◌∙◌, append_assoc, arith}
use Rattle.std.specs.Int.{w64, from_be_bytes}
use Rattle.std.proofs.lemmas.List.{append-nil, length-append, take_at}
use Rattle.pr_names.specs.Span.{Span}
use Rattle.pr_names.specs.declared.bound.Bound.{Bound}
use Rattle.pr_names.specs.declared.bound.Bound.TheVariants.{At, End}
use Rattle.pr_stamps.specs.Point.{Point}
use Rattle.pr_vectors.specs.Vector.{zero_vector}
use Rattle.pr_wire.specs.Spelling.{above, bound_text, eight, entry_text, four, gone_text, list_text, name_text, rise_text, span_text, vector_text}
use Rattle.pr_wire.proofs.Fields.{IsBytes, back_eight, length-eight, some_is}
use Rattle.pr_serve.specs.declared.ask.Ask.{Ask}
use Rattle.pr_serve.specs.declared.coming.Coming.{Coming}
use Rattle.pr_serve.specs.declared.coming.Coming.TheVariants.{Front, Entries, Clocks, Count, Low, LowName, High, HighName, Tail, Nothing}
use Rattle.pr_serve.specs.Asking.{IsAskText}
use Rattle.pr_serve.specs.Asks.{IsAsk, ask_at, ask_text, flag_text}
use Rattle.pr_serve.specs.Extents.{behind, clocks, coming_after, front, high, low, spans_left, tail}
use Rattle.pr_serve.specs.Inputs.{NoneBegins, NoneStands}
use Rattle.pr_serve.proofs.AskField.{ask_field}

-- ---- runs of bytes

skip_run : (run : ℕ → Coming) → ((n b : ℕ) (bytes : List ℕ) → behind (b ∷ bytes) (run (suc n)) ≡ behind bytes (run n)) → (xs y : List ℕ) → behind (xs ++ y) (run (length xs)) ≡ behind y (run 0)
skip_run run steps [] y = refl
skip_run run steps (x ∷ xs) y = steps (length xs) x (xs ++ y) ∙ skip_run run steps xs y

one_less : (n : ℕ) → suc n - 1 ≡ n
one_less n = omega arith

skip_front : (xs y : List ℕ) → behind (xs ++ y) (front (length xs)) ≡ behind y Entries
skip_front = skip_run front (λ n b bytes. ap (λ (k : ℕ). behind bytes (front k)) (one_less n))

skip_clocks : (xs y : List ℕ) → behind (xs ++ y) (clocks (length xs)) ≡ behind y (Count 8 0)
skip_clocks = skip_run clocks (λ n b bytes. ap (λ (k : ℕ). behind bytes (clocks k)) (one_less n))

skip_low : (spans : ℕ) (xs y : List ℕ) → behind (xs ++ y) (low (length xs) spans) ≡ behind y (High spans)
skip_low spans = skip_run (λ k. low k spans) (λ n b bytes. ap (λ (k : ℕ). behind bytes (low k spans)) (one_less n))

skip_high : (spans : ℕ) (xs y : List ℕ) → behind (xs ++ y) (high (length xs) spans) ≡ behind y (spans_left (spans - 1))
skip_high spans = skip_run (λ k. high k spans) (λ n b bytes. ap (λ (k : ℕ). behind bytes (high k spans)) (one_less n))

behind_all : (y : List ℕ) → behind y Nothing ≡ Some y
behind_all [] = refl
behind_all (b ∷ y) = refl

skip_tail : (xs y : List ℕ) → behind (xs ++ y) (tail (length xs)) ≡ Some y
skip_tail xs y = skip_run tail (λ n b bytes. ap (λ (k : ℕ). behind bytes (tail k)) (one_less n)) xs y ∙ behind_all y

-- ---- the count of intervals

shifted : (v w b : ℕ) → v ≡ w → w * 256 + b < 2 ^ 64 → (v * 256 + b) % 2 ^ 64 ≡ w * 256 + b
shifted v w b e lt = omega (arith, e, lt)

counted : (a b c d e f g h : ℕ) (z : List ℕ) → a < 256 → b < 256 → c < 256 → d < 256 → e < 256 → f < 256 → g < 256 → h < 256
    → behind (a ∷ b ∷ c ∷ d ∷ e ∷ f ∷ g ∷ h ∷ z) (Count 8 0) ≡ behind z (spans_left (from_be_bytes w64 (a ∷ b ∷ c ∷ d ∷ e ∷ f ∷ g ∷ h ∷ [])))
counted a b c d e f g h z la lb lc ld le lf lg lh =
    let v1 = shifted 0 0 a refl (omega arith) in
    let v2 = shifted ((0 * 256 + a) % 2 ^ 64) a b (v1 ∙ omega arith) (omega arith) in
    let w2 : ℕ = a * 256 + b in
    let v3 = shifted _ w2 c v2 (omega arith) in
    let w3 : ℕ = w2 * 256 + c in
    let v4 = shifted _ w3 d v3 (omega arith) in
    let w4 : ℕ = w3 * 256 + d in
    let v5 = shifted _ w4 e v4 (omega arith) in
    let w5 : ℕ = w4 * 256 + e in
    let v6 = shifted _ w5 f v5 (omega arith) in
    let w6 : ℕ = w5 * 256 + f in
    let v7 = shifted _ w6 g v6 (omega arith) in
    let w7 : ℕ = w6 * 256 + g in
    let v8 = shifted _ w7 h v7 (omega arith) in
    ap (λ (n : ℕ). behind z (spans_left n)) (v8 ∙ omega arith)

count_of : (bytes z : List ℕ) → length bytes ≡ 8 → IsBytes bytes → behind (bytes ++ z) (Count 8 0) ≡ behind z (spans_left (from_be_bytes w64 bytes))
count_of [] z len fits = absurd (omega (arith, len))
count_of (a ∷ []) z len fits = absurd (omega (arith, len))
count_of (a ∷ b ∷ []) z len fits = absurd (omega (arith, len))
count_of (a ∷ b ∷ c ∷ []) z len fits = absurd (omega (arith, len))
count_of (a ∷ b ∷ c ∷ d ∷ []) z len fits = absurd (omega (arith, len))
count_of (a ∷ b ∷ c ∷ d ∷ e ∷ []) z len fits = absurd (omega (arith, len))
count_of (a ∷ b ∷ c ∷ d ∷ e ∷ f ∷ []) z len fits = absurd (omega (arith, len))
count_of (a ∷ b ∷ c ∷ d ∷ e ∷ f ∷ g ∷ []) z len fits = absurd (omega (arith, len))
count_of (a ∷ b ∷ c ∷ d ∷ e ∷ f ∷ g ∷ h ∷ []) z len fits = counted a b c d e f g h z (fits 0) (fits 1) (fits 2) (fits 3) (fits 4) (fits 5) (fits 6) (fits 7)
count_of (a ∷ b ∷ c ∷ d ∷ e ∷ f ∷ g ∷ h ∷ (i ∷ bytes)) z len fits = absurd (omega (arith, len))

-- ---- the parts of an ask

length-four : (n : ℕ) → length (four n) ≡ 4
unfolding four
length-four n = refl

entries_length : (es : List Point) → length (flat_map entry_text es) ≡ 9 * length es
unfolding entry_text
entries_length [] = refl
entries_length (e ∷ es) = omega (arith, length-append (entry_text e) (flat_map entry_text es), length-eight e.clock, entries_length es)

behind_vector : (v y : List ℕ) → behind (vector_text v ++ y) Entries ≡ behind y (Count 8 0)
unfolding vector_text rise_text
behind_vector v y =
    let es = above zero_vector v 0 32 in
    ap (λ (n : ℕ). behind (flat_map entry_text es ++ y) (clocks n)) (sym (entries_length es)) ∙ skip_clocks (flat_map entry_text es) y

behind_bound : (hi : Bound) (n : ℕ) (y : List ℕ) → behind (bound_text hi ++ y) (High (suc n)) ≡ behind y (spans_left n)
unfolding bound_text name_text
behind_bound End n y = ap (λ (k : ℕ). behind y (spans_left k)) (one_less n)
behind_bound (At name) n y = skip_high (suc n) name y ∙ ap (λ (k : ℕ). behind y (spans_left k)) (one_less n)

behind_span : (s : Span) (n : ℕ) (y : List ℕ) → behind (span_text s ++ y) (spans_left (suc n)) ≡ behind y (spans_left n)
unfolding span_text name_text
behind_span s n y =
    ap (λ (t : List ℕ). behind t (low (length s.lo) (suc n))) (append_assoc s.lo (bound_text s.hi) y) ∙ skip_low (suc n) s.lo (bound_text s.hi ++ y) ∙ behind_bound s.hi n y

behind_spans : (ss : List Span) (y : List ℕ) → behind (flat_map span_text ss ++ y) (spans_left (length ss)) ≡ behind y (Tail 9)
behind_spans [] y = refl
behind_spans (s ∷ ss) y =
    ap (λ (t : List ℕ). behind t (spans_left (suc (length ss)))) (append_assoc (span_text s) (flat_map span_text ss) y) ∙ behind_span s (length ss) (flat_map span_text ss ++ y) ∙ behind_spans ss y

eight_fits : (n : ℕ) → IsBytes (eight n)
unfolding eight
eight_fits n zero = omega arith
eight_fits n (suc zero) = omega arith
eight_fits n (suc (suc zero)) = omega arith
eight_fits n (suc (suc (suc zero))) = omega arith
eight_fits n (suc (suc (suc (suc zero)))) = omega arith
eight_fits n (suc (suc (suc (suc (suc zero))))) = omega arith
eight_fits n (suc (suc (suc (suc (suc (suc zero)))))) = omega arith
eight_fits n (suc (suc (suc (suc (suc (suc (suc zero))))))) = omega arith
eight_fits n (suc (suc (suc (suc (suc (suc (suc (suc i)))))))) = omega arith

behind_set : (ss : List Span) (y : List ℕ) → length ss < 2 ^ 64 → behind (list_text span_text ss ++ y) (Count 8 0) ≡ behind y (Tail 9)
unfolding list_text
behind_set ss y few =
    let n = length ss in
    ap (λ (t : List ℕ). behind t (Count 8 0)) (append_assoc (eight n) (flat_map span_text ss) y)
    ∙ count_of (eight n) (flat_map span_text ss ++ y) (length-eight n) (eight_fits n)
    ∙ ap (λ (k : ℕ). behind (flat_map span_text ss ++ y) (spans_left k)) (back_eight n few)
    ∙ behind_spans ss y

behind_tail : (q : Ask) (y : List ℕ) → behind ((flag_text q.bodies ++ eight q.turns) ++ y) (Tail 9) ≡ Some y
unfolding gone_text
behind_tail q y = by (flag_text q.bodies ++ eight q.turns) (omega (arith, length-append (flag_text q.bodies) (eight q.turns), length-eight q.turns))
  where
    by : (xs : List ℕ) → length xs ≡ 9 → behind (xs ++ y) (Tail 9) ≡ Some y
    by xs len = ap (λ (n : ℕ). behind (xs ++ y) (tail n)) (sym len) ∙ skip_tail xs y

behind_front : (n : ℕ) (y : List ℕ) → behind ((81 ∷ four n) ++ y) (Front 5) ≡ behind y Entries
behind_front n y = by (81 ∷ four n) (omega (arith, length-four n))
  where
    by : (xs : List ℕ) → length xs ≡ 5 → behind (xs ++ y) (Front 5) ≡ behind y Entries
    by xs len = ap (λ (n : ℕ). behind (xs ++ y) (front n)) (sym len) ∙ skip_front xs y

-- an ask ends where its counts and lengths say
pub behind_ask : (q : Ask) (y : List ℕ) → IsAsk q → behind (ask_text q ++ y) (Front 5) ≡ Some y
unfolding ask_text
behind_ask q y is =
    let tail_text = flag_text q.bodies ++ eight q.turns in
    let set_text = list_text span_text q.sub in
    ap (λ (t : List ℕ). behind (81 ∷ t) (Front 5)) (append_assoc (four q.stream) (vector_text q.start ++ (set_text ++ tail_text)) y)
    ∙ behind_front q.stream ((vector_text q.start ++ (set_text ++ tail_text)) ++ y)
    ∙ ap (λ (t : List ℕ). behind t Entries) (append_assoc (vector_text q.start) (set_text ++ tail_text) y)
    ∙ behind_vector q.start ((set_text ++ tail_text) ++ y)
    ∙ ap (λ (t : List ℕ). behind t (Count 8 0)) (append_assoc set_text tail_text y)
    ∙ behind_set q.sub (tail_text ++ y) is.few
    ∙ behind_tail q y

-- ---- what is in of an ask

-- one byte more
pub behind_more : (coming : Coming) (byte : ℕ) (rest : List ℕ) → coming ≢ Nothing → behind (byte ∷ rest) coming ≡ behind rest (coming_after coming byte)
behind_more (Front left) byte rest more = refl
behind_more Entries byte rest more = refl
behind_more (Clocks left) byte rest more = refl
behind_more (Count left value) byte rest more = refl
behind_more (Low spans) byte rest more = refl
behind_more (LowName left spans) byte rest more = refl
behind_more (High spans) byte rest more = refl
behind_more (HighName left spans) byte rest more = refl
behind_more (Tail left) byte rest more = refl
behind_more Nothing byte rest more = absurd (more refl)

nothing_behind : (coming : Coming) → coming ≢ Nothing → behind [] coming ≡ None
nothing_behind (Front left) more = refl
nothing_behind Entries more = refl
nothing_behind (Clocks left) more = refl
nothing_behind (Count left value) more = refl
nothing_behind (Low spans) more = refl
nothing_behind (LowName left spans) more = refl
nothing_behind (High spans) more = refl
nothing_behind (HighName left spans) more = refl
nothing_behind (Tail left) more = refl
nothing_behind Nothing more = absurd (more refl)

abbrev pub Extends : List ℕ → Coming → Type 0
Extends bytes coming = (rest : List ℕ) → behind (bytes ++ rest) (Front 5) ≡ behind rest coming

pub extends_more : (bytes : List ℕ) (coming : Coming) (byte : ℕ) → Extends bytes coming → coming ≢ Nothing → Extends (bytes ++ byte ∷ []) (coming_after coming byte)
extends_more bytes coming byte extends more rest =
    ap (λ (t : List ℕ). behind t (Front 5)) (append_assoc bytes (byte ∷ []) rest) ∙ extends (byte ∷ rest) ∙ behind_more coming byte rest more

pub extends_all : (bytes : List ℕ) (coming : Coming) → Extends bytes coming → coming ≡ Nothing → (rest : List ℕ) → behind (bytes ++ rest) (Front 5) ≡ Some rest
extends_all bytes coming extends over rest = extends rest ∙ ap (λ (c : Coming). behind rest c) over ∙ behind_all rest

-- more bytes belong to it
pub part_of_ask : (bytes : List ℕ) (coming : Coming) → Extends bytes coming → coming ≢ Nothing → behind bytes (Front 5) ≡ None
part_of_ask bytes coming extends more = ap (λ (t : List ℕ). behind t (Front 5)) (sym (append-nil bytes)) ∙ extends [] ∙ nothing_behind coming more

-- no ask stands in less than one
pub less_than_ask : (bytes : List ℕ) (coming : Coming) → Extends bytes coming → coming ≢ Nothing → NoneStands IsAskText bytes
less_than_ask bytes coming extends more text x (q, is, spelled) e =
    let here : behind bytes (Front 5) ≡ None = part_of_ask bytes coming extends more in
    let there : behind bytes (Front 5) ≡ Some x = ap (λ (t : List ℕ). behind t (Front 5)) (sym e ∙ ap (λ (t : List ℕ). t ++ x) spelled) ∙ behind_ask q x is in
    no_some x (sym there ∙ here)
  where
    no_some : (x : List ℕ) → (let o : Option (List ℕ) = Some x in o) ≡ None → ⊥
    no_some x e = absurd cc

same_end : (x y : List ℕ) → (let o : Option (List ℕ) = Some x in o) ≡ (let p : Option (List ℕ) = Some y in p) → x ≡ y
same_end x y e = some_is x y e

same_front : (a b x y : List ℕ) → x ≡ y → a ++ x ≡ b ++ y → a ≡ b
same_front a b x y same e =
    let size : length a ≡ length b = omega (arith, length-append a x, length-append b y, ap (λ (t : List ℕ). length t) e, ap (λ (t : List ℕ). length t) same) in
    sym (take_at a x (length a) refl) ∙ ap (λ (t : List ℕ). take (length a) t) e ∙ take_at b y (length a) (sym size)

-- bytes that end as an ask does, and are none, begin none
pub no_ask_begins : (all : List ℕ) → ((rest : List ℕ) → behind (all ++ rest) (Front 5) ≡ Some rest) → ask_at all ≡ None → NoneBegins IsAskText all
no_ask_begins all ends none text x y (q, is, spelled) e =
    let here : ask_text q ++ x ≡ all ++ y = ap (λ (t : List ℕ). t ++ x) (sym spelled) ∙ e in
    let behind_here = sym (behind_ask q x is) ∙ ap (λ (t : List ℕ). behind t (Front 5)) here ∙ ends y in
    let same = same_front (ask_text q) all x y (same_end x y behind_here) here in
    let found = ap ask_at (sym same ∙ sym (append-nil (ask_text q))) ∙ ask_field.again q [] is in
    no_ask (q, []) (sym found ∙ none)
  where
    no_ask : (r : Ask × List ℕ) → (let o : Option (Ask × List ℕ) = Some r in o) ≡ None → ⊥
    no_ask r e = absurd cc

-- an ask that such bytes begin with is all of them
pub ask_is_all : (all rest : List ℕ) (q : Ask) → ((more : List ℕ) → behind (all ++ more) (Front 5) ≡ Some more) → IsAsk q → all ≡ ask_text q ++ rest → all ≡ ask_text q
ask_is_all all rest q ends is e =
    let behind_here = sym (ends []) ∙ ap (λ (t : List ℕ). behind t (Front 5)) (append-nil all ∙ e) ∙ behind_ask q rest is in
    e ∙ ap (λ (t : List ℕ). ask_text q ++ t) (sym (same_end [] rest behind_here)) ∙ append-nil (ask_text q)

-- an ask begins with its mark
pub no_mark_begins : (first : ℕ) → first ≢ 81 → NoneBegins IsAskText (first ∷ [])
unfolding ask_text
no_mark_begins first other text x y (q, is, spelled) e = other (sym (first_is (ap (λ (t : List ℕ). t ++ x) (sym spelled) ∙ e)))
  where
    first_is : {a b : ℕ} {s t : List ℕ} → a ∷ s ≡ b ∷ t → a ≡ b
    first_is e = cc

pub nothing_stands : NoneStands IsAskText []
unfolding ask_text
nothing_stands text x (q, is, spelled) e = no_cons (ap (λ (t : List ℕ). t ++ x) (sym spelled) ∙ e)
  where
    no_cons : {a : ℕ} {s : List ℕ} → a ∷ s ≡ [] → ⊥
    no_cons e = absurd cc
