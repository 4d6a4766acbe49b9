-- Where an ask ends, by the counts and lengths that it gives.
use Rattle.std.specs.Prelude.{◌+◌, ◌-◌, ◌*◌, ◌%◌, ◌^◌, ℕ, zero, suc, List, [], ◌∷◌, Option, Some, None}
use Rattle.pr_serve.specs.declared.coming.Coming.{Coming}
use Rattle.pr_serve.specs.declared.coming.Coming.TheVariants.{Front, Entries, Clocks, Count, Low, LowName, High, HighName, Tail, Nothing}

-- what comes where so many bytes of a run are left
abbrev pub front : ℕ → Coming
front zero = Entries
front (suc n) = Front (suc n)

abbrev pub clocks : ℕ → Coming
clocks zero = Count 8 0
clocks (suc n) = Clocks (suc n)

abbrev pub spans_left : ℕ → Coming
spans_left zero = Tail 9
spans_left (suc n) = Low (suc n)

abbrev pub count : ℕ → ℕ → Coming
count zero value = spans_left value
count (suc n) value = Count (suc n) value

abbrev pub low : ℕ → ℕ → Coming
low zero spans = High spans
low (suc n) spans = LowName (suc n) spans

abbrev pub high : ℕ → ℕ → Coming
high zero spans = spans_left (spans - 1)
high (suc n) spans = HighName (suc n) spans

abbrev pub tail : ℕ → Coming
tail zero = Nothing
tail (suc n) = Tail (suc n)

-- what comes after one more byte
abbrev pub coming_after : Coming → ℕ → Coming
coming_after (Front left) byte = front (left - 1)
coming_after Entries byte = clocks (9 * byte)
coming_after (Clocks left) byte = clocks (left - 1)
coming_after (Count left value) byte = count (left - 1) ((value * 256 + byte) % 2 ^ 64)
coming_after (Low spans) byte = low byte spans
coming_after (LowName left spans) byte = low (left - 1) spans
coming_after (High spans) byte = high byte spans
coming_after (HighName left spans) byte = high (left - 1) spans
coming_after (Tail left) byte = tail (left - 1)
coming_after Nothing byte = Nothing

-- the bytes behind the ask, where all of it is in
abbrev pub behind : List ℕ → Coming → Option (List ℕ)
behind [] Nothing = Some []
behind [] _ = None
behind (b ∷ bytes) Nothing = Some (b ∷ bytes)
behind (b ∷ bytes) coming = behind bytes (coming_after coming b)
