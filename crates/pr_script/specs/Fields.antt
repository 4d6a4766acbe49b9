-- The fields of a line. Each reader gives a value and the bytes after it, or the rule that is broken.
use Rattle.std.specs.Prelude.{◌≡◌, ℕ, ◌+◌, ◌*◌, ◌-◌, List, [], ◌∷◌, Option, Some, None, Result, Ok, Err, Bool, ◌&&◌, not, nat_lt, nat_le, nat_eq, slice_index, length, ◌==◌, if◌then◌else◌}
use Rattle.std.specs.List.{list_all}
use Rattle.pr_names.specs.Read.{name_read}
use Rattle.pr_script.specs.declared.refusal.Refusal.{Refusal}
use Rattle.pr_script.specs.declared.refusal.Refusal.TheVariants as refusals

infixl 10 ◌>>=◌
abbrev pub ◌>>=◌ : {A B : Type 0} → Result A ℕ → (A → Result B ℕ) → Result B ℕ
(Ok x) >>= f = f x
(Err e) >>= f = Err e

-- what a function returned, seen by view, is what reading gives, unless memory ran out
abbrev pub Fails : {Y : Type 0} → Refusal → Result Y ℕ → Type 0
Fails refusals.NoMemory read = Unit {0}
Fails (refusals.Why n) read = read ≡ Err n

abbrev pub Gives : {X Y : Type 0} → (X → Y) → Result X Refusal → Result Y ℕ → Type 0
Gives view (Ok x) read = read ≡ Ok (view x)
Gives view (Err e) read = Fails e read

-- this rule is broken where the test fails
abbrev pub demand : ℕ → Bool → Result Bool ℕ
demand n holds = if holds then Ok holds else Err n

-- this rule is broken where there is nothing
abbrev pub wanted : {A : Type 0} → ℕ → Option A → Result A ℕ
wanted n (Some x) = Ok x
wanted n None = Err n

-- what is there, or nothing
abbrev pub value_of : {A E : Type 0} → Result A E → Option A
value_of (Ok x) = Some x
value_of (Err e) = None

abbrev pub or_zero : Option ℕ → ℕ
or_zero None = 0
or_zero (Some n) = n

abbrev pub or_none : {A : Type 0} → Option (List A) → List A
or_none None = []
or_none (Some xs) = xs

abbrev pub is_space : ℕ → Bool
is_space b = b == 32

-- the bytes that a line may have
abbrev pub is_plain : ℕ → Bool
is_plain b = nat_le 32 b && nat_le b 126

abbrev pub skip_spaces : List ℕ → List ℕ
skip_spaces [] = []
skip_spaces (b ∷ bs) = if b == 32 then skip_spaces bs else b ∷ bs

-- the bytes before the first space, and those from it on
abbrev pub before_space : List ℕ → List ℕ
before_space [] = []
before_space (b ∷ bs) = if b == 32 then [] else b ∷ before_space bs

abbrev pub from_space : List ℕ → List ℕ
from_space [] = []
from_space (b ∷ bs) = if b == 32 then b ∷ bs else from_space bs

-- the first field, and the bytes after it
abbrev pub split_field : List ℕ → Result (List ℕ × List ℕ) ℕ
split_field [] = Err 3
split_field (b ∷ bs) = Ok (before_space (b ∷ bs), from_space (b ∷ bs))

unfoldable pub field_at : List ℕ → Result (List ℕ × List ℕ) ℕ
field_at bytes = split_field (skip_spaces bytes)

abbrev pub is_blank : List ℕ → Bool
is_blank bytes = list_all is_space bytes

-- the last field
unfoldable pub last_field : List ℕ → Result (List ℕ) ℕ
last_field bytes = do
  f ← field_at bytes
  if is_blank f.1 then Ok f.0 else Err 3

-- a byte in front of the fields of the bytes after it
abbrev pub onto : ℕ → List (List ℕ) → List (List ℕ)
onto b [] = (b ∷ []) ∷ []
onto b (f ∷ fs) = (b ∷ f) ∷ fs

abbrev pub joined : ℕ → List ℕ → List (List ℕ) → List (List ℕ)
joined b [] fs = (b ∷ []) ∷ []
joined b (c ∷ bytes) fs = if c == 32 then (b ∷ []) ∷ fs else onto b fs

-- all the fields
unfoldable pub fields_of : List ℕ → List (List ℕ)
fields_of [] = []
fields_of (b ∷ bytes) = if b == 32 then fields_of bytes else joined b bytes (fields_of bytes)

-- ---- names and numbers

abbrev pub name_of : List ℕ → Option (List ℕ)
name_of f = value_of (name_read f)

abbrev pub is_digit : ℕ → Bool
is_digit d = nat_le 48 d && nat_le d 57

-- the number of these digits behind those that give n
unfoldable pub value_from : ℕ → List ℕ → Option ℕ
value_from n [] = Some n
value_from n (d ∷ ds) = if is_digit d then value_from (n * 10 + (d - 48)) ds else None

-- something, and no digit 0 before others
abbrev pub is_led : List ℕ → Bool
is_led f = nat_lt 0 (length f) && not (nat_lt 1 (length f) && nat_eq (slice_index f 0) 48)

abbrev pub within : ℕ → ℕ → Option ℕ → Option ℕ
within least most None = None
within least most (Some n) = if nat_le least n && nat_le n most then Some n else None

-- a number of this range
abbrev pub number_in : ℕ → ℕ → List ℕ → Option ℕ
number_in least most f = if is_led f then within least most (value_from 0 f) else None
