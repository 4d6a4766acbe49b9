-- Frames: the head, the content, and what follows.
use Rattle.std.proofs.Common.{◌≡◌, ℕ, suc, ◌+◌, ◌-◌, ◌^◌, ◌<◌, ◌≤◌, List, [], ◌∷◌, ◌++◌, length, take, drop, Some, None, refl, sym, ap, ◌∙◌, append_assoc, arith, inl, inr}
use Rattle.std.specs.Prelude.{slice_index}
use Rattle.std.specs.Int.{w64, from_be_bytes}
use Rattle.std.proofs.lemmas.List.{take_at, drop_at, take-append-drop, length-append, length-take, length-drop, drop-drop}
use Rattle.pr_inval.specs.declared.msg.Msg.{Msg}
use Rattle.pr_wire.specs.declared.format.Format.{Format}
use Rattle.pr_wire.specs.declared.format.Format.TheVariants.{One, Two}
use Rattle.pr_wire.specs.Frames.{HasNoFormat, IsBad, IsFrame, IsPartial, frame_of, said_length}
use Rattle.pr_wire.specs.Fronts.{IsFramed, IsSpelled}
use Rattle.pr_wire.specs.Messages.{HasSpelling}
use Rattle.pr_wire.specs.Reading.{content_at, message_at}
use Rattle.pr_wire.specs.Spelling.{content, eight, format_byte, spelling}
use Rattle.pr_wire.proofs.Fields.{IsBytes, IsBytes-drop, IsBytes-take, IsBytes-rest, back_eight, eight_back, glue, length-eight, some_is}
use Rattle.pr_wire.proofs.KindFields.{content_field, message_again, message_takes}

pub length-spelling : (f : Format) (m : Msg) → length (spelling f m) ≡ 9 + length (content f m)
unfolding spelling
length-spelling f m = omega (arith, length-append (eight (length (content f m))) (content f m), length-eight (length (content f m)))

first_byte : (f : Format) (m : Msg) (x : List ℕ) → slice_index (spelling f m ++ x) 0 ≡ format_byte f
unfolding spelling
first_byte f m x = refl

after_head : (f : Format) (m : Msg) (x : List ℕ) → drop 9 (spelling f m ++ x) ≡ content f m ++ x
unfolding spelling
after_head f m x =
    let len = length (content f m) in
    ap (λ (t : List ℕ). drop 8 t) (append_assoc (eight len) (content f m) x)
    ∙ drop_at (eight len) (content f m ++ x) 8 (length-eight len)

said_is : (f : Format) (m : Msg) (x : List ℕ) → length (content f m) < 2 ^ 64 → said_length (spelling f m ++ x) ≡ length (content f m)
unfolding spelling said_length
said_is f m x lt =
    let len = length (content f m) in
    ap (λ (t : List ℕ). from_be_bytes w64 (take 8 t)) (append_assoc (eight len) (content f m) x)
    ∙ ap (λ (t : List ℕ). from_be_bytes w64 t) (take_at (eight len) (content f m ++ x) 8 (length-eight len))
    ∙ back_eight len lt

same_format : (f g : Format) → format_byte f ≡ format_byte g → f ≡ g
same_format One One e = refl
same_format One Two e = absurd cc
same_format Two One e = absurd cc
same_format Two Two e = refl

pub one_front : (f g : Format) (m n : Msg) (x y : List ℕ) → HasSpelling f m → HasSpelling g n → spelling f m ++ x ≡ spelling g n ++ y → (f ≡ g) × (m ≡ n) × (x ≡ y)
one_front f g m n x y h k e =
    let format : f ≡ g = same_format f g (sym (first_byte f m x) ∙ ap (λ (t : List ℕ). slice_index t 0) e ∙ first_byte g n y) in
    let contents : content f m ++ x ≡ content g n ++ y = sym (after_head f m x) ∙ ap (λ (t : List ℕ). drop 9 t) e ∙ after_head g n y in
    let one : content_at f (content f m ++ x) ≡ Some (m, x) = (content_field f).again m x h in
    let other : content_at g (content g n ++ y) ≡ Some (n, y) = (content_field g).again n y k in
    let both : (m, x) ≡ (n, y) = some_is (m, x) (n, y) (sym one ∙ ap (content_at f) contents ∙ ap (λ (q : Format). content_at q (content g n ++ y)) format ∙ other) in
    (format, ap (λ (p : Msg × List ℕ). p.0) both, ap (λ (p : Msg × List ℕ). p.1) both)

pub one_message : (f g : Format) (m n : Msg) → HasSpelling f m → HasSpelling g n → spelling f m ≡ spelling g n → (f ≡ g) × (m ≡ n)
one_message f g m n h k e =
    let all = one_front f g m n [] [] h k (ap (λ (t : List ℕ). t ++ []) e) in
    (all.0, all.1)

-- ---- heads

known_format : (bytes : List ℕ) (f : Format) → slice_index bytes 0 ≡ format_byte f → ¬ HasNoFormat bytes
known_format bytes One e h = h.not_one e
known_format bytes Two e h = h.not_two e

pub nothing_in : (limit : ℕ) → IsPartial limit []
nothing_in limit = record { format = λ h. omega (arith, h.some); short = λ h. omega (arith, h.head); part = λ h. omega (arith, h.head) }

pub head_part : (limit : ℕ) (bytes : List ℕ) (f : Format) → slice_index bytes 0 ≡ format_byte f → length bytes < 9 → IsPartial limit bytes
head_part limit bytes f e lt = record { format = known_format bytes f e; short = λ h. omega (arith, h.head); part = λ h. omega (arith, h.head) }

pub content_part : (limit : ℕ) (bytes : List ℕ) (f : Format) → slice_index bytes 0 ≡ format_byte f → said_length bytes ≤ limit → length bytes - 9 < said_length bytes → IsPartial limit bytes
content_part limit bytes f e le lt = record { format = known_format bytes f e; short = λ h. omega (arith, h.above); part = λ h. omega (arith, h.all) }

-- ---- frames

-- where the frame is a spelling, the content is its message's
content_is : (limit : ℕ) (bytes : List ℕ) (f g : Format) (n : Msg) (len : ℕ) → IsFramed limit bytes f len → frame_of bytes ≡ spelling g n → (f ≡ g) × (take (len - 9) (drop 9 bytes) ≡ content g n)
unfolding frame_of
content_is limit bytes f g n len h e =
    let front : take len bytes ≡ spelling g n = ap (λ (k : ℕ). take k bytes) h.said ∙ e in
    let all : bytes ≡ spelling g n ++ drop len bytes = sym (take-append-drop len bytes) ∙ ap (λ (t : List ℕ). t ++ drop len bytes) front in
    let format : f ≡ g = same_format f g (sym h.format ∙ ap (λ (t : List ℕ). slice_index t 0) all ∙ first_byte g n (drop len bytes)) in
    let behind : drop 9 bytes ≡ content g n ++ drop len bytes = ap (λ (t : List ℕ). drop 9 t) all ∙ after_head g n (drop len bytes) in
    let size : length (content g n) ≡ len - 9 = omega (arith, length-spelling g n, ap length front, length-take len bytes, h.all) in
    (format, ap (λ (t : List ℕ). take (len - 9) t) behind ∙ take_at (content g n) (drop len bytes) (len - 9) size)

pub no_message : (limit : ℕ) (bytes : List ℕ) (f : Format) (len : ℕ) → IsFramed limit bytes f len → message_at f (take (len - 9) (drop 9 bytes)) ≡ None → IsBad limit bytes
no_message limit bytes f len h none =
    inr (inr (
      record { head = omega (arith, h.said, h.all); all = omega (arith, h.said, h.all) },
      λ g n spelled e.
          let is = content_is limit bytes f g n len h e in
          let some : message_at f (take (len - 9) (drop 9 bytes)) ≡ Some n = ap (message_at f) is.1 ∙ ap (λ (q : Format). message_at q (content g n)) is.0 ∙ message_again g n spelled in
          let both : None ≡ Some n = sym none ∙ some in
          absurd cc,
    ))

pub a_message : (limit : ℕ) (bytes : List ℕ) (f : Format) (len : ℕ) (m : Msg) → IsBytes bytes → IsFramed limit bytes f len → message_at f (take (len - 9) (drop 9 bytes)) ≡ Some m → IsSpelled limit bytes m len f
unfolding spelling said_length
a_message limit [] f len m fits h e = absurd (omega (arith, h.said, h.all))
a_message limit (b ∷ t) f len m fits h e =
    let inside = take (len - 9) (drop 9 (b ∷ t)) in
    let rest = drop len (b ∷ t) in
    let size = length (content f m) in
    let long : 9 ≤ suc (length t) = omega (arith, h.said, h.all) in
    let takes = message_takes f inside m (IsBytes-take (len - 9) (drop 9 (b ∷ t)) (IsBytes-drop 9 (b ∷ t) fits)) e in
    let sized : size ≡ len - 9 = sym (ap length takes.0) ∙ omega (arith, length-take (len - 9) (drop 9 (b ∷ t)), length-drop 9 (b ∷ t), h.all) in
    let head : eight size ≡ take 8 t =
    ap eight (let e1 : size ≡ from_be_bytes w64 (take 8 t) = omega (arith, sized, h.said) in e1)
    ∙ eight_back (take 8 t) (omega (arith, length-take 8 t)) (IsBytes-take 8 t (IsBytes-rest b t fits)) in
    let first : t ≡ eight size ++ drop 8 t = sym (take-append-drop 8 t) ∙ ap (λ (x : List ℕ). x ++ drop 8 t) (sym head) in
    let second : drop 8 t ≡ content f m ++ rest =
    sym (take-append-drop (len - 9) (drop 8 t))
    ∙ ap (λ (x : List ℕ). x ++ drop (len - 9) (drop 8 t)) takes.0
    ∙ ap (λ (x : List ℕ). content f m ++ x) (drop-drop (len - 9) 9 (b ∷ t) ∙ ap (λ (k : ℕ). drop k (b ∷ t)) (let e2 : 9 + (len - 9) ≡ len = omega (arith, h.said) in e2)) in
    record {
      spelled = takes.1;
      short = omega (arith, sized, h.said, h.short);
      front = ap (λ (k : ℕ). k ∷ t) h.format ∙ ap (λ (x : List ℕ). format_byte f ∷ x) (glue t (eight size) (drop 8 t) (content f m) rest first second);
      size = omega (arith, sized, h.said, length-spelling f m);
      all = h.all;
    }

-- bytes that are just a frame have its head, and behind it what gives the message
pub frame_has_head : (f : Format) (m : Msg) (bytes : List ℕ) → IsFrame f m bytes → 9 ≤ length bytes
frame_has_head f m bytes is = omega (arith, ap length is.1, length-spelling f m)

pub frame_gives : (f : Format) (m : Msg) (bytes behind : List ℕ) → IsFrame f m bytes → behind ≡ drop 9 bytes → message_at f behind ≡ Some m
unfolding spelling
frame_gives f m bytes behind is at =
    let len = length (content f m) in
    ap (message_at f) (at ∙ ap (λ (t : List ℕ). drop 9 t) is.1 ∙ drop_at (eight len) (content f m) 8 (length-eight len))
    ∙ message_again f m is.0

-- ---- laws

pub never_bad : (limit : ℕ) (f : Format) (m : Msg) (x : List ℕ) → HasSpelling f m → limit < 2 ^ 64 → length (content f m) ≤ limit → ¬ IsBad limit (spelling f m ++ x)
unfolding frame_of
never_bad limit f m x h lt le (inl none) = known_format (spelling f m ++ x) f (first_byte f m x) none
never_bad limit f m x h lt le (inr (inl long)) = omega (arith, long.above, said_is f m x (omega arith))
never_bad limit f m x h lt le (inr (inr bad)) =
    let size : 9 + said_length (spelling f m ++ x) ≡ length (spelling f m) = omega (arith, said_is f m x (omega arith), length-spelling f m) in
    bad.1 f m h (ap (λ (k : ℕ). take k (spelling f m ++ x)) size ∙ take_at (spelling f m) x (length (spelling f m)) refl)

pub never_part : (limit : ℕ) (f : Format) (m : Msg) (x : List ℕ) → limit < 2 ^ 64 → length (content f m) ≤ limit → ¬ IsPartial limit (spelling f m ++ x)
never_part limit f m x lt le h =
    h.part (record {
      head = omega (arith, length-append (spelling f m) x, length-spelling f m);
      all = omega (arith, said_is f m x (omega arith), length-append (spelling f m) x, length-spelling f m);
    })
