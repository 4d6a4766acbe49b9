-- Quoted texts.
use Rattle.std.specs.Prelude.{ℕ, ◌+◌, ◌*◌, ◌-◌, List, [], ◌∷◌, ◌++◌, Result, Ok, Err, Bool, ◌&&◌, ◌||◌, not, nat_le, ◌==◌, if◌then◌else◌}
use Rattle.pr_script.specs.Fields.{◌>>=◌, skip_spaces, is_blank}

-- a byte that stands for itself in a text: neither a quote nor a backslash
abbrev pub is_bare : ℕ → Bool
is_bare b = nat_le 32 b && nat_le b 126 && not (b == 34) && not (b == 92)

-- a digit of 0-9 a-f, and its value
abbrev pub is_hex : ℕ → Bool
is_hex c = (nat_le 48 c && nat_le c 57) || (nat_le 97 c && nat_le c 102)

abbrev pub hex_value : ℕ → ℕ
hex_value c = if nat_le c 57 then c - 48 else c - 87

abbrev pub hex_byte : ℕ → ℕ → ℕ
hex_byte c d = 16 * hex_value c + hex_value d

-- the two digits of a byte that doesn't stand for itself
abbrev pub is_escape : ℕ → ℕ → Bool
is_escape c d = is_hex c && is_hex d && not (is_bare (hex_byte c d))

abbrev pub with_front : List ℕ → Result (List ℕ × List ℕ) ℕ → Result (List ℕ × List ℕ) ℕ
with_front front read = read >>= λ x. Ok (front ++ x.0, x.1)

abbrev pub escape_at : List ℕ → Result (ℕ × List ℕ) ℕ
escape_at [] = Err 3
escape_at (c ∷ []) = Err 3
escape_at (c ∷ d ∷ bs) = if is_escape c d then Ok (hex_byte c d, bs) else Err 3

-- the byte that stands at the front of a text, and the bytes after its spelling
unfoldable pub byte_at : List ℕ → Result (ℕ × List ℕ) ℕ
byte_at [] = Err 3
byte_at (b ∷ bs) = if is_bare b then Ok (b, bs) else if b == 92 then escape_at bs else Err 3

-- the text up to its closing quote, and the bytes after that
unfoldable pub text_at : List ℕ → Result (List ℕ × List ℕ) ℕ
text_at [] = Err 3
text_at (b ∷ []) = if b == 34 then Ok ([], []) else Err 3
text_at (b ∷ c ∷ []) = if b == 34 then Ok ([], c ∷ []) else if is_bare b then with_front (b ∷ []) (text_at (c ∷ [])) else Err 3
text_at (b ∷ c ∷ d ∷ bs) =
    if b == 34 then Ok ([], c ∷ d ∷ bs)
    else if is_bare b then with_front (b ∷ []) (text_at (c ∷ d ∷ bs))
    else if b == 92 then (if is_escape c d then with_front (hex_byte c d ∷ []) (text_at bs) else Err 3)
    else Err 3

abbrev pub opened : List ℕ → Result (List ℕ × List ℕ) ℕ
opened [] = Err 3
opened (b ∷ bs) = if b == 34 then text_at bs else Err 3

-- the last field, which is a quoted text
unfoldable pub last_text : List ℕ → Result (List ℕ) ℕ
last_text bytes = do
  t ← opened (skip_spaces bytes)
  if is_blank t.1 then Ok t.0 else Err 3
