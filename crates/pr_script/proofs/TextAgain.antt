-- A printed text is read again.
use Rattle.std.proofs.Common.{Result, Err, subst, ◌≡◌, ℕ, ◌/◌, ◌%◌, ◌<◌, Bool, true, false, cond, eqb, List, [], ◌∷◌, ◌++◌, Ok, refl, ap, ◌∙◌, append_assoc, arith}
use Rattle.std.specs.List.{flat_map, AllByRecursion}
use Rattle.std.proofs.lemmas.List.Concat.{flat_map-cons}
use Rattle.std.proofs.lemmas.Bool.Decides.{nat_tests}
use Rattle.pr_script.specs.Fields.{is_blank, skip_spaces, ◌>>=◌}
use Rattle.pr_script.specs.Texts.{is_bare, is_hex, is_escape, hex_value, hex_byte, text_at, byte_at, escape_at, with_front, last_text, opened}
use Rattle.pr_script.specs.Printing.{hex_digit, spell, quoted}
use Rattle.pr_script.proofs.Texts.{text_is}

hex_is : (n : ℕ) → n < 16 → is_hex (hex_digit n) ≡ true
hex_is n lt = grind (arith, nat_tests)

hex_back : (n : ℕ) → n < 16 → hex_value (hex_digit n) ≡ n
hex_back n lt = grind (arith, nat_tests)

byte_back : (b : ℕ) → b < 256 → hex_byte (hex_digit (b / 16)) (hex_digit (b % 16)) ≡ b
byte_back b lt =
    let h : b / 16 < 16 = omega arith in
    let l : b % 16 < 16 = omega arith in
    rw (hex_back (b / 16) h, hex_back (b % 16) l) (omega arith)

escape_is : (b : ℕ) → b < 256 → is_bare b ≡ false → is_escape (hex_digit (b / 16)) (hex_digit (b % 16)) ≡ true
escape_is b lt bare =
    let h : b / 16 < 16 = omega arith in
    let l : b % 16 < 16 = omega arith in
    rw (hex_is (b / 16) h, hex_is (b % 16) l, byte_back b lt, bare) refl

escape_again : (b : ℕ) (more : List ℕ) → b < 256 → is_bare b ≡ false → escape_at (hex_digit (b / 16) ∷ hex_digit (b % 16) ∷ more) ≡ Ok (b, more)
escape_again b more lt bare = rw (escape_is b lt bare, byte_back b lt) refl

bare_no_quote : (b : ℕ) → is_bare b ≡ true → eqb b 34 ≡ false
bare_no_quote b h = grind (arith, nat_tests)

byte_bare : (b : ℕ) (more : List ℕ) → is_bare b ≡ true → byte_at (b ∷ more) ≡ Ok (b, more)
unfolding byte_at
byte_bare b more h = rw h refl

byte_escaped : (b : ℕ) (more : List ℕ) → b < 256 → is_bare b ≡ false → byte_at (92 ∷ hex_digit (b / 16) ∷ hex_digit (b % 16) ∷ more) ≡ Ok (b, more)
unfolding byte_at
byte_escaped b more lt h = escape_again b more lt h

spelled : (t : Bool) (b : ℕ) (more : List ℕ) → b < 256 → is_bare b ≡ t
    → text_at (cond t (b ∷ []) (92 ∷ hex_digit (b / 16) ∷ hex_digit (b % 16) ∷ []) ++ more) ≡ with_front (b ∷ []) (text_at more)
spelled true b more lt h = rw (text_is b more, bare_no_quote b h, byte_bare b more h) refl
spelled false b more lt h = rw (text_is 92 (hex_digit (b / 16) ∷ hex_digit (b % 16) ∷ more), byte_escaped b more lt h) refl

abbrev pub AreBytes : List ℕ → Type 0
AreBytes t = AllByRecursion (λ b. b < 256) t

pub text_again : (t rest : List ℕ) → AreBytes t → text_at (flat_map spell t ++ 34 ∷ rest) ≡ Ok (t, rest)
unfolding spell
text_again [] rest h = text_is 34 rest
text_again (b ∷ t) rest h =
    let e : flat_map spell (b ∷ t) ++ 34 ∷ rest ≡ spell b ++ (flat_map spell t ++ 34 ∷ rest) = ap (λ (x : List ℕ). x ++ 34 ∷ rest) (flat_map-cons spell b t) ∙ append_assoc (spell b) (flat_map spell t) (34 ∷ rest) in
    ap text_at e ∙ spelled (is_bare b) b (flat_map spell t ++ 34 ∷ rest) h.0 refl ∙ ap (with_front (b ∷ [])) (text_again t rest h.1)

pub quoted_again : (t : List ℕ) → AreBytes t → last_text (32 ∷ quoted t) ≡ Ok t
unfolding last_text
quoted_again t h = rw (text_again t [] h) refl

-- ---- what was read are bytes

abbrev done : {A : Type 0} → A → Result A ℕ
done x = Ok x

same : {A : Type 0} (x y : A) → done x ≡ done y → x ≡ y
same x y e = cc

abbrev bad : Result (List ℕ × List ℕ) ℕ
bad = Err 3

front_bytes : (b : ℕ) (r : Result (List ℕ × List ℕ) ℕ) (x : List ℕ × List ℕ) → b < 256 → ((y : List ℕ × List ℕ) → r ≡ Ok y → AreBytes y.0) → with_front (b ∷ []) r ≡ Ok x → AreBytes x.0
front_bytes b (Ok y) x lt h e = subst (λ (z : List ℕ × List ℕ). AreBytes z.0) (same (b ∷ y.0, y.1) x e) (lt, h y refl)
front_bytes b (Err n) x lt h e = absurd cc

step_bytes : (q t s u : Bool) (b d : ℕ) (more : List ℕ) (r1 r2 : Result (List ℕ × List ℕ) ℕ) (x : List ℕ × List ℕ)
    → (t ≡ true → b < 256) → (u ≡ true → d < 256) → ((y : List ℕ × List ℕ) → r1 ≡ Ok y → AreBytes y.0) → ((y : List ℕ × List ℕ) → r2 ≡ Ok y → AreBytes y.0)
    → cond q (Ok ([], more)) (cond t (with_front (b ∷ []) r1) (cond s (cond u (with_front (d ∷ []) r2) (Err 3)) (Err 3))) ≡ Ok x → AreBytes x.0
step_bytes true t s u b d more r1 r2 x hb hd h1 h2 e = subst (λ (z : List ℕ × List ℕ). AreBytes z.0) (same ([], more) x e) tt
step_bytes false true s u b d more r1 r2 x hb hd h1 h2 e = front_bytes b r1 x (hb refl) h1 e
step_bytes false false true true b d more r1 r2 x hb hd h1 h2 e = front_bytes d r2 x (hd refl) h2 e
step_bytes false false true false b d more r1 r2 x hb hd h1 h2 e = absurd cc
step_bytes false false false u b d more r1 r2 x hb hd h1 h2 e = absurd cc

bare_small : (b : ℕ) → is_bare b ≡ true → b < 256
bare_small b h = grind (arith, nat_tests)

hex_small : (c d : ℕ) → is_escape c d ≡ true → hex_byte c d < 256
hex_small c d h = grind (arith, nat_tests)

failed : (y : List ℕ × List ℕ) → bad ≡ Ok y → AreBytes y.0
failed y e = absurd cc

text_bytes : (bytes : List ℕ) (x : List ℕ × List ℕ) → text_at bytes ≡ Ok x → AreBytes x.0
unfolding text_at
text_bytes [] x e = absurd cc
text_bytes (b ∷ []) x e = step_bytes (eqb b 34) false false false b 0 [] bad bad x (λ h. absurd cc) (λ h. absurd cc) failed failed e
text_bytes (b ∷ c ∷ []) x e = step_bytes (eqb b 34) (is_bare b) false false b 0 (c ∷ []) (text_at (c ∷ [])) bad x (bare_small b) (λ h. absurd cc) (text_bytes (c ∷ [])) failed e
text_bytes (b ∷ c ∷ d ∷ bs) x e = step_bytes (eqb b 34) (is_bare b) (eqb b 92) (is_escape c d) b (hex_byte c d) (c ∷ d ∷ bs) (text_at (c ∷ d ∷ bs)) (text_at bs) x (bare_small b) (hex_small c d) (text_bytes (c ∷ d ∷ bs)) (text_bytes bs) e

opened_if : (t : Bool) (bs : List ℕ) (x : List ℕ × List ℕ) → cond t (text_at bs) (Err 3) ≡ Ok x → AreBytes x.0
opened_if true bs x e = text_bytes bs x e
opened_if false bs x e = absurd cc

blank_if : (t : Bool) (y x : List ℕ) → AreBytes y → cond t (done y) (Err 3) ≡ Ok x → AreBytes x
blank_if true y x h e = subst (λ (z : List ℕ). AreBytes z) (same y x e) h
blank_if false y x h e = absurd cc

last_if : (r : Result (List ℕ × List ℕ) ℕ) (t : List ℕ) → ((y : List ℕ × List ℕ) → r ≡ Ok y → AreBytes y.0) → (r >>= λ x. cond (is_blank x.1) (Ok x.0) (Err 3)) ≡ Ok t → AreBytes t
last_if (Ok y) t h e = blank_if (is_blank y.1) y.0 t (h y refl) e
last_if (Err n) t h e = absurd cc

opened_bytes : (s : List ℕ) (x : List ℕ × List ℕ) → opened s ≡ Ok x → AreBytes x.0
opened_bytes [] x e = absurd cc
opened_bytes (b ∷ bs) x e = opened_if (eqb b 34) bs x e

pub last_are_bytes : (bytes t : List ℕ) → last_text bytes ≡ Ok t → AreBytes t
unfolding last_text
last_are_bytes bytes t e = last_if (opened (skip_spaces bytes)) t (opened_bytes (skip_spaces bytes)) e
