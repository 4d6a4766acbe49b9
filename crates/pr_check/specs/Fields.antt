-- The fields of a line, and the parts of a field. What is read of them is printed again and compared with the line, so
-- reading looks at no more than it needs.
use Rattle.std.specs.Prelude.{◌≡◌, ℕ, zero, suc, Bool, false, not, cond, ◌==◌, ◌&&◌, List, [], ◌∷◌, ◌++◌, Option, Some, None, Result, Ok, Err}
use Rattle.std.specs.List.{onto_first}
use Rattle.std.specs.Str.{bytes_eq}
use Rattle.pr_check.specs.declared.refusal.Refusal.{Refusal}
use Rattle.pr_check.specs.declared.refusal.Refusal.TheVariants as refusals

-- ---- what reading gives

-- what a function returned, seen by view, is what reading gives, unless memory ran out
abbrev pub Fails : {Y : Type 0} → Refusal → Option Y → Type 0
Fails refusals.NoMemory read = Unit {0}
Fails refusals.Unread read = read ≡ None

abbrev pub Gives : {X : Type 0} → Result X Refusal → Option X → Type 0
Gives (Ok x) read = read ≡ Some x
Gives (Err e) read = Fails e read

infixl 10 ◌>>=◌
abbrev pub ◌>>=◌ : {A B : Type 0} → Option A → (A → Option B) → Option B
None >>= f = None
(Some x) >>= f = f x

-- ---- fields

-- a space ends a field, but within quotes
abbrev pub is_end : Bool → ℕ → Bool
is_end quoted b = not quoted && b == 32

-- whether a byte stands within quotes, behind this one
abbrev pub quoted_after : Bool → ℕ → Bool
quoted_after quoted b = cond (b == 34) (not quoted) quoted

-- the bytes up to the end of a field
unfoldable pub front_from : Bool → List ℕ → List ℕ
front_from quoted [] = []
front_from quoted (b ∷ bs) = cond (is_end quoted b) [] (b ∷ front_from (quoted_after quoted b) bs)

-- the bytes behind the end of a field
unfoldable pub rest_from : Bool → List ℕ → List ℕ
rest_from quoted [] = []
rest_from quoted (b ∷ bs) = cond (is_end quoted b) bs (rest_from (quoted_after quoted b) bs)

-- what stands behind the first n fields
unfoldable pub behind : ℕ → List ℕ → List ℕ
behind zero bytes = bytes
behind (suc n) bytes = behind n (rest_from false bytes)

-- the field at place n, which is empty where there are not so many
abbrev pub field_at : ℕ → List ℕ → List ℕ
field_at n bytes = front_from false (behind n bytes)

-- ---- parts of a field

-- the parts between bytes of this value; behind such a byte at the end there is none
unfoldable pub parts : ℕ → List ℕ → List (List ℕ)
parts b [] = []
parts b (x ∷ xs) = cond (x == b) ([] ∷ parts b xs) (onto_first x (parts b xs))

-- what is read so far, changed by each part in turn
unfoldable pub read_each : {A : Type 0} → (A → List ℕ → Option A) → A → List (List ℕ) → Option A
read_each next x [] = Some x
read_each next x (p ∷ ps) = next x p >>= λ y. read_each next y ps

-- one item more
abbrev pub with_next : {A : Type 0} → (List ℕ → Option A) → List A → List ℕ → Option (List A)
with_next item xs part = item part >>= λ x. Some (xs ++ x ∷ [])

-- the items that the parts are
abbrev pub items_of : {A : Type 0} → (List ℕ → Option A) → List (List ℕ) → Option (List A)
items_of item ps = read_each (with_next item) [] ps

-- the items that are joined by commas, and none for a hyphen
abbrev pub listed_of : {A : Type 0} → (List ℕ → Option A) → List ℕ → Option (List A)
listed_of item bytes = cond (bytes_eq bytes (45 ∷ [])) (Some []) (items_of item (parts 44 bytes))
