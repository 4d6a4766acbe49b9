-- Turns of the loops that write.
use Rattle.std.proofs.Common.{◌≡◌, ℕ, zero, suc, ◌+◌, ◌-◌, ◌^◌, ◌<◌, ◌≤◌, take, drop, List, [], ◌∷◌, ◌++◌, length, refl, sym, ap, ◌∙◌, append_assoc, arith}
use Rattle.std.specs.Prelude.{flat_map, ◌%◌}
use Rattle.std.specs.Int.{byte_at}
use Rattle.std.specs.List.{refill}
use Rattle.std.proofs.lemmas.List.{append-nil, drop-drop, length-append, length-drop, length-take, nil_from_length, take-append-drop, take-append-le, take_all, take_at, drop_at, drop-append-le}
use Rattle.std.proofs.Math.Seq.{drop-length}
use Rattle.pr_stamps.specs.Point.{Point}
use Rattle.pr_vectors.specs.Vector.{clock_of}
use Rattle.pr_inval.specs.declared.msg.Msg.{Msg}
use Rattle.pr_wire.specs.declared.format.Format.TheVariants.{Two}
use Rattle.pr_wire.specs.Spelling.{above, content, eight, entry_text, spelling}
use Rattle.pr_wire.proofs.Above.{above_rise, above_same}

rising : (v w : List ℕ) (n : ℕ) → n < 32 → clock_of v n < clock_of w n → above v w n (32 - n) ≡ record { clock = clock_of w n; node = n } ∷ above v w (n + 1) (32 - (n + 1))
rising v w n lt rise = let k : 32 - n ≡ suc (32 - (n + 1)) = omega arith in rw k (above_rise v w n (32 - (n + 1)) rise)

staying : (v w : List ℕ) (n : ℕ) → n < 32 → clock_of w n ≤ clock_of v n → above v w n (32 - n) ≡ above v w (n + 1) (32 - (n + 1))
staying v w n lt le = let k : 32 - n ≡ suc (32 - (n + 1)) = omega arith in rw k (above_same v w n (32 - (n + 1)) le)

-- nodes at which the second is not above the first have no entries
skipping : (v w : List ℕ) (d n m : ℕ) → m ≡ n + d → m ≤ 32 → ((k : ℕ) → n ≤ k → k < m → clock_of w k ≤ clock_of v k) → above v w n (32 - n) ≡ above v w m (32 - m)
skipping v w zero n m is le none = let same : n ≡ m = omega (arith, is) in rw same refl
skipping v w (suc d) n m is le none =
    staying v w n (omega (arith, is, le)) (none n (omega arith) (omega (arith, is)))
    ∙ skipping v w d (n + 1) m (omega (arith, is)) le (λ k above below. none k (omega (arith, above)) below)

-- the next entry is that of the first node at which it is above
next_entry : (v w : List ℕ) (start n : ℕ) → start ≤ n → n < 32 → ((k : ℕ) → start ≤ k → k < n → clock_of w k ≤ clock_of v k) → clock_of v n < clock_of w n → above v w start (32 - start) ≡ record { clock = clock_of w n; node = n } ∷ above v w (n + 1) (32 - (n + 1))
next_entry v w start n le lt none rise = skipping v w (n - start) start n (omega (arith, le)) (omega (arith, lt)) none ∙ rising v w n lt rise

no_entry : (v w : List ℕ) (start : ℕ) → start ≤ 32 → ((k : ℕ) → start ≤ k → k < 32 → clock_of w k ≤ clock_of v k) → above v w start (32 - start) ≡ []
unfolding above
no_entry v w start le none = skipping v w (32 - start) start 32 (omega (arith, le)) (omega arith) none

pub count_rises : (v w : List ℕ) (start n count all : ℕ) → start ≤ n → n < 32 → ((k : ℕ) → start ≤ k → k < n → clock_of w k ≤ clock_of v k) → clock_of v n < clock_of w n
    → count + length (above v w start (32 - start)) ≡ all → (count + 1) + length (above v w (n + 1) (32 - (n + 1))) ≡ all
count_rises v w start n count all le lt none rise so_far = omega (arith, ap length (next_entry v w start n le lt none rise))

pub count_ends : (v w : List ℕ) (start count all : ℕ) → start ≤ 32 → ((k : ℕ) → start ≤ k → k < 32 → clock_of w k ≤ clock_of v k) → count + length (above v w start (32 - start)) ≡ all → count ≡ all
count_ends v w start count all le none so_far = omega (arith, so_far, ap length (no_entry v w start le none))

pub entry_rises : (v w : List ℕ) (start n : ℕ) (old new all : List ℕ) → start ≤ n → n < 32 → ((k : ℕ) → start ≤ k → k < n → clock_of w k ≤ clock_of v k) → clock_of v n < clock_of w n
    → new ≡ old ++ n ∷ eight (clock_of w n) → old ++ flat_map entry_text (above v w start (32 - start)) ≡ all → new ++ flat_map entry_text (above v w (n + 1) (32 - (n + 1))) ≡ all
unfolding entry_text
entry_rises v w start n old new all le lt none rise is_new so_far =
    let later = flat_map entry_text (above v w (n + 1) (32 - (n + 1))) in
    ap (λ (t : List ℕ). t ++ later) is_new
    ∙ append_assoc old (n ∷ eight (clock_of w n)) later
    ∙ ap (λ (ps : List Point). old ++ flat_map entry_text ps) (sym (next_entry v w start n le lt none rise))
    ∙ so_far

pub entries_end : (v w : List ℕ) (start : ℕ) (old all : List ℕ) → start ≤ 32 → ((k : ℕ) → start ≤ k → k < 32 → clock_of w k ≤ clock_of v k) → old ++ flat_map entry_text (above v w start (32 - start)) ≡ all → old ≡ all
entries_end v w start old all le none so_far = sym (append-nil old) ∙ ap (λ (ps : List Point). old ++ flat_map entry_text ps) (sym (no_entry v w start le none)) ∙ so_far

-- a number and its rest by 2^64 have the same 8 bytes
pub eight_mod : (n : ℕ) → eight (n % 2 ^ 64) ≡ eight n
unfolding eight
eight_mod n =
    let a : byte_at 7 (n % 2 ^ 64) ≡ byte_at 7 n = omega arith in
    let b : byte_at 6 (n % 2 ^ 64) ≡ byte_at 6 n = omega arith in
    let c : byte_at 5 (n % 2 ^ 64) ≡ byte_at 5 n = omega arith in
    let d : byte_at 4 (n % 2 ^ 64) ≡ byte_at 4 n = omega arith in
    let e : byte_at 3 (n % 2 ^ 64) ≡ byte_at 3 n = omega arith in
    let f : byte_at 2 (n % 2 ^ 64) ≡ byte_at 2 n = omega arith in
    let g : byte_at 1 (n % 2 ^ 64) ≡ byte_at 1 n = omega arith in
    let h : byte_at 0 (n % 2 ^ 64) ≡ byte_at 0 n = omega arith in
    rw (a, b, c, d, e, f, g, h) refl

take_one : (n : ℕ) (xs : List ℕ) → take 1 (take (suc n) xs) ≡ take 1 xs
take_one n [] = refl
take_one n (x ∷ xs) = refl

-- 8 bytes behind the first one are written
pub room_filled : (len : ℕ) (items lent text : List ℕ) → 9 ≤ length items → lent ≡ items → text ≡ eight len
    → refill (length items) items (take 1 lent ++ (text ++ drop 8 (drop 1 lent))) ≡ take 1 items ++ (eight len ++ drop 9 items)
unfolding eight
room_filled len items lent text room is is_text =
    let all : List ℕ = take 1 items ++ (eight len ++ drop 9 items) in
    let size : length all ≡ length items = omega (arith, room, length-append (take 1 items) (eight len ++ drop 9 items), length-append (eight len) (drop 9 items), length-take 1 items, length-drop 9 items) in
    rw (is, is_text, drop-drop 8 1 items) (take_at all (drop (length all) items) (length items) size)

-- the length of the content is written into the room that its head has
pub frame_begins : (m : Msg) (len : ℕ) (head filled chunk left : List ℕ) → head ≡ 2 ∷ eight 0 → length head ≡ 9 → length head ≤ length filled → head ++ content Two m ≡ filled ++ left → len ≡ (length left % 2 ^ 64 + (length filled - 9)) % 2 ^ 64
    → chunk ≡ take 1 filled ++ (eight len ++ drop 9 filled) → chunk ++ left ≡ spelling Two m
unfolding spelling
frame_begins m len head filled chunk left is_first is_head grows is_text is_len is_chunk =
    let within : 9 ≤ length filled = omega (arith, is_head, grows) in
    let front : take 9 filled ≡ head = sym (take-append-le 9 filled left within) ∙ ap (λ (t : List ℕ). take 9 t) (sym is_text) ∙ take_at head (content Two m) 9 is_head in
    let back : drop 9 filled ++ left ≡ content Two m = sym (drop-append-le 9 filled left within) ∙ ap (λ (t : List ℕ). drop 9 t) (sym is_text) ∙ drop_at head (content Two m) 9 is_head in
    let format : take 1 filled ≡ 2 ∷ [] = sym (take_one 8 filled) ∙ ap (λ (t : List ℕ). take 1 t) (front ∙ is_first) in
    let whole : len ≡ length (content Two m) % 2 ^ 64 = omega (arith, is_len, ap length back, length-append (drop 9 filled) left, length-drop 9 filled) in
    ap (λ (t : List ℕ). t ++ left) (is_chunk ∙ ap (λ (t : List ℕ). t ++ (eight len ++ drop 9 filled)) format)
    ∙ ap (λ (t : List ℕ). 2 ∷ t) (append_assoc (eight len) (drop 9 filled) left ∙ ap (λ (t : List ℕ). eight len ++ t) back ∙ ap (λ (t : List ℕ). t ++ content Two m) (ap eight whole ∙ eight_mod (length (content Two m))))

-- a part of a chunk is given
pub part_given : (filled n at : ℕ) (old new chunk left all : List ℕ) → take (filled + n) new ≡ take filled old ++ take n (drop at chunk)
    → take filled old ++ (drop at chunk ++ left) ≡ all → take (filled + n) new ++ (drop (at + n) chunk ++ left) ≡ all
part_given filled n at old new chunk left all given so_far =
    let front = take filled old in
    let part = take n (drop at chunk) in
    ap (λ (t : List ℕ). t ++ (drop (at + n) chunk ++ left)) given
    ∙ append_assoc front part (drop (at + n) chunk ++ left)
    ∙ ap (λ (t : List ℕ). front ++ t) (
    sym (append_assoc part (drop (at + n) chunk) left)
    ∙ ap (λ (t : List ℕ). (part ++ t) ++ left) (sym (drop-drop n at chunk))
    ∙ ap (λ (t : List ℕ). t ++ left) (take-append-drop n (drop at chunk)))
    ∙ so_far

-- the slice from a place on
pub slice_from : (at : ℕ) (xs : List ℕ) → take (length xs - at) (drop at xs) ≡ drop at xs
slice_from at xs = take_all (length xs - at) (drop at xs) (omega (arith, length-drop at xs))

-- a chunk is appended
pub chunk_added : (at len : ℕ) (old new items chunk left all : List ℕ) → items ≡ chunk → len ≡ length chunk → new ≡ old ++ take (length items - at) (drop at items) → old ++ (drop at chunk ++ left) ≡ all → new ++ (drop len chunk ++ left) ≡ all
chunk_added at len old new items chunk left all same is_len added so_far =
    let given : new ≡ old ++ drop at chunk = added ∙ ap (λ (t : List ℕ). old ++ t) (slice_from at items ∙ ap (λ (t : List ℕ). drop at t) same) in
    let none : drop len chunk ≡ [] = ap (λ (k : ℕ). drop k chunk) is_len ∙ drop-length chunk in
    ap (λ (t : List ℕ). t ++ (drop len chunk ++ left)) given
    ∙ append_assoc old (drop at chunk) (drop len chunk ++ left)
    ∙ ap (λ (t : List ℕ). old ++ (drop at chunk ++ (t ++ left))) none
    ∙ so_far

pub shorter : (at len : ℕ) (chunk left rest : List ℕ) → rest ≡ drop at chunk ++ left → at < length chunk → len ≡ length chunk → length (drop len chunk ++ left) < length rest
shorter at len chunk left rest is lt is_len =
    omega (arith, ap length is, length-append (drop at chunk) left, length-append (drop len chunk) left, length-drop at chunk, length-drop len chunk)

-- the front stays
pub kept_more : (old out more new : List ℕ) → take (length old) out ≡ old → new ≡ out ++ more → take (length old) new ≡ old
kept_more old out more new kept is =
    let long : length old ≤ length out = omega (arith, ap length kept, length-take (length old) out) in
    ap (λ (t : List ℕ). take (length old) t) is ∙ take-append-le (length old) out more long ∙ kept

pub all_added : (new rest all : List ℕ) → length rest ≡ 0 → new ++ rest ≡ all → new ≡ all
all_added new rest all none so_far = sym (append-nil new) ∙ ap (λ (t : List ℕ). new ++ t) (sym (nil_from_length rest none)) ∙ so_far
