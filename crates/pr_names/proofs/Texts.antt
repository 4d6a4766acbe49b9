-- Printed intervals are read back.
use Rattle.std.proofs.Common.{◌≡◌, ℕ, suc, ◌+◌, ◌-◌, ◌≤◌, ◌⊎◌, Bool, true, false, refl, sym, ap, ◌∙◌, arith, inl, inr, List, [], ◌∷◌, ◌++◌, length, take, drop, get_or, length-append, append_assoc}
use Rattle.std.specs.Prelude.{◌==◌, ◌&&◌, not, nat_lt, cond, Some, None, Ok, Err}
use Rattle.std.specs.List.{position, position_or_len}
use Rattle.std.specs.Str.{bytes_eq}
use Rattle.std.proofs.lemmas.Bool.Decides.{leb_tells, eqb_tells}
use Rattle.std.proofs.lemmas.Bool.{false≢true}
use Rattle.std.proofs.Math.Seq.{take-append_seam}
use Rattle.std.proofs.lemmas.List.{append-nil}
use Rattle.pr_names.specs.Byte.{allowed}
use Rattle.pr_names.specs.Name.{Allowed, IsName}
use Rattle.pr_names.specs.Read.{name_read, unless_bad}
use Rattle.pr_names.specs.Bound.{IsBound}
use Rattle.pr_names.specs.Above.{after_of, after_all_of}
use Rattle.pr_names.specs.Span.{Span, IsSpan}
use Rattle.pr_names.specs.Text.{whole, one, all_from, with_name, with_bound, bound_read, in_order, ends_read, star_read, single_read, ends_in_star, read_at, interval_read, bound_text, same_bound, is_whole, is_one, is_all_from, end_text, interval_text}
use Rattle.pr_names.specs.declared.bound.Bound.{Bound}
use Rattle.pr_names.specs.declared.bound.Bound.TheVariants.{At, End}
use Rattle.pr_names.proofs.Bytes.{allowed_least, allowed_most}
use Rattle.pr_names.proofs.Raised.{allowed_at}
use Rattle.pr_names.specs.declared.name.NameFault.TheVariants.{TooLong, Empty}
use Rattle.pr_names.proofs.Spans.{same_span, bytes_same}

-- bytes that a test does not pass
abbrev pub Lacks : (ℕ → Bool) → List ℕ → Type 0
Lacks p [] = Unit {0}
Lacks p (b ∷ bs) = (p b ≡ false) × Lacks p bs

pub lacks_append : (p : ℕ → Bool) (bs cs : List ℕ) → Lacks p bs → Lacks p cs → Lacks p (bs ++ cs)
lacks_append p [] cs hb hc = hc
lacks_append p (b ∷ bs) cs hb hc = (hb.0, lacks_append p bs cs hb.1 hc)

-- a name's bytes are no others than those allowed
pub name_lacks : (c : ℕ) (bs : List ℕ) → allowed c ≡ false → Allowed bs → Lacks (λ b. b == c) bs
name_lacks c [] h hb = tt
name_lacks c (b ∷ bs) h hb = (elim (eqb_tells b c) [ inl e ↦ absurd (false≢true (sym h ∙ ap allowed (sym e.1) ∙ hb.0)) | inr e ↦ e.0 ], name_lacks c bs h hb.1)

passes_at : (p : ℕ → Bool) (bs : List ℕ) (c : ℕ) (cs : List ℕ) → Lacks p bs → p c ≡ true → position_or_len p (bs ++ c ∷ cs) ≡ length bs
passes_at p [] c cs h e = rw e refl
passes_at p (b ∷ bs) c cs h e = rw h.0 (omega (arith, passes_at p bs c cs h.1 e))

passes_none : (p : ℕ → Bool) (bs : List ℕ) → Lacks p bs → position_or_len p bs ≡ length bs
passes_none p [] h = refl
passes_none p (b ∷ bs) h = rw h.0 (omega (arith, passes_none p bs h.1))

pub found_at : (p : ℕ → Bool) (bs : List ℕ) (c : ℕ) (cs : List ℕ) → Lacks p bs → p c ≡ true → position p (bs ++ c ∷ cs) ≡ Some (length bs)
found_at p bs c cs h e = rw (passes_at p bs c cs h e) (elim (leb_tells (suc (length bs)) (length (bs ++ c ∷ cs))) [ inl g ↦ rw g.0 refl | inr g ↦ absurd (omega (arith, g.1, length-append bs (c ∷ cs))) ])

pub found_none : (p : ℕ → Bool) (bs : List ℕ) → Lacks p bs → position p bs ≡ None
found_none p bs h = rw (passes_none p bs h) (elim (leb_tells (suc (length bs)) (length bs)) [ inl g ↦ absurd (omega (arith, g.1)) | inr g ↦ rw g.0 refl ])

either_tests : (b : Bool) → (b ≡ true) ⊎ (b ≡ false)
either_tests true = inl refl
either_tests false = inr refl

allowed_lacks : (bs : List ℕ) → Allowed bs → Lacks (λ b. not (allowed b)) bs
allowed_lacks [] h = tt
allowed_lacks (b ∷ bs) h = (ap not h.0, allowed_lacks bs h.1)

not_same : (a b : ℕ) → (a ≡ b → ⊥) → (a == b) ≡ false
not_same a b h = elim (eqb_tells a b) [ inl e ↦ absurd (h e.1) | inr e ↦ e.0 ]

not_above : (a b : ℕ) → b ≤ a → nat_lt a b ≡ false
not_above a b h = elim (leb_tells (suc a) b) [ inl e ↦ absurd (omega (arith, e.1)) | inr e ↦ e.0 ]

-- a name's bytes are read as it
pub name_read_ok : (n : List ℕ) → IsName n → name_read n ≡ Ok n
name_read_ok n h =
    ap (λ b. cond b (Err Empty) (cond (nat_lt 64 (length n)) (Err (TooLong (length n))) (unless_bad n (position (λ c. not (allowed c)) n)))) (not_same (length n) 0 (λ e. omega (arith, h.some, e)))
    ∙ ap (λ b. cond b (Err (TooLong (length n))) (unless_bad n (position (λ c. not (allowed c)) n))) (not_above 64 (length n) h.most)
    ∙ ap (unless_bad n) (found_none (λ c. not (allowed c)) n (allowed_lacks n h.each))

no_colon : (n : List ℕ) → Allowed n → Lacks (λ b. b == 58) n
no_colon n h = name_lacks 58 n refl h

no_star : (n : List ℕ) → IsName n → ends_in_star n ≡ false
no_star n h =
    let at = allowed_least (get_or n (length n - 1) 0) (allowed_at n (length n - 1) h.each (omega (arith, h.some))) in
    ap (λ b. nat_lt 0 (length n) && b) (not_same (get_or n (length n - 1) 0) 42 (λ e. omega (arith, at, e))) ∙ never (nat_lt 0 (length n))
  where
    never : (b : Bool) → (b && false) ≡ false
    never true = refl
    never false = refl

-- a name spells its own interval
name_text : (n : List ℕ) → IsName n → interval_read n ≡ Ok (one n)
unfolding interval_read single_read
name_text n h =
    ap (read_at n) (found_none (λ b. b == 58) n (no_colon n h.each))
    ∙ ap (λ b. cond b (star_read (take (length n - 1) n)) (single_read n)) (no_star n h)
    ∙ ap (λ r. with_name r (λ m. Ok (one m))) (name_read_ok n h)

last_is : (bs : List ℕ) (c : ℕ) → get_or (bs ++ c ∷ []) (length bs) 0 ≡ c
last_is [] c = refl
last_is (b ∷ bs) c = last_is bs c

length_more : (bs : List ℕ) (c : ℕ) → length (bs ++ c ∷ []) - 1 ≡ length bs
length_more bs c = omega (arith, length-append bs (c ∷ []))

ends_so : (bs : List ℕ) → ends_in_star (bs ++ 42 ∷ []) ≡ true
ends_so bs =
    ap (λ i. nat_lt 0 (length (bs ++ 42 ∷ [])) && (get_or (bs ++ 42 ∷ []) i 0 == 42)) (length_more bs 42)
    ∙ ap (λ b. nat_lt 0 (length (bs ++ 42 ∷ [])) && (b == 42)) (last_is bs 42)
    ∙ elim (leb_tells 1 (length (bs ++ 42 ∷ []))) [ inl e ↦ rw e.0 refl | inr e ↦ absurd (omega (arith, e.1, length-append bs (42 ∷ []))) ]

-- a name and a star spell the names that begin with it
star_text : (n : List ℕ) → IsName n → interval_read (n ++ 42 ∷ []) ≡ Ok (all_from n)
unfolding interval_read star_read
star_text n h =
    let text = n ++ 42 ∷ [] in
    ap (read_at text) (found_none (λ b. b == 58) text (lacks_append (λ b. b == 58) n (42 ∷ []) (no_colon n h.each) (refl, tt)))
    ∙ ap (λ b. cond b (star_read (take (length text - 1) text)) (single_read text)) (ends_so n)
    ∙ ap star_read (ap (λ i. take i text) (length_more n 42) ∙ take-append_seam n (42 ∷ []))
    ∙ ap (λ b. cond b (Ok whole) (with_name (name_read n) (λ m. Ok (all_from m)))) (not_same (length n) 0 (λ e. omega (arith, h.some, e)))
    ∙ ap (λ r. with_name r (λ m. Ok (all_from m))) (name_read_ok n h)

drop_behind : (bs : List ℕ) (c : ℕ) (cs : List ℕ) → drop (length bs + 1) (bs ++ c ∷ cs) ≡ cs
drop_behind [] c cs = refl
drop_behind (b ∷ bs) c cs = let e : suc (length bs) + 1 ≡ suc (length bs + 1) = omega arith in ap (λ n. drop n (b ∷ (bs ++ c ∷ cs))) e ∙ drop_behind bs c cs

no_end : (n : List ℕ) → IsName n → bytes_eq n (126 ∷ []) ≡ false
no_end [] h = refl
no_end (b ∷ bs) h = ap (λ t. t && bytes_eq bs []) (not_same b 126 (λ e. omega (arith, e, allowed_most b h.each.0)))

bound_text_reads : (b : Bound) → IsBound b → bound_read (bound_text b) ≡ Ok b
bound_text_reads (At n) h =
    ap (λ t. cond t (Ok End) (with_name (name_read n) (λ m. Ok (At m)))) (no_end n h)
    ∙ ap (λ r. with_name r (λ m. Ok (At m))) (name_read_ok n h)
bound_text_reads End h = refl

in_order_ok : (s : Span) → IsSpan s → in_order s.lo s.hi ≡ Ok s
in_order_ok s h = rw h.some refl

-- both ends spell the interval between them
ends_text : (s : Span) → IsSpan s → interval_read (s.lo ++ 58 ∷ bound_text s.hi) ≡ Ok s
unfolding interval_read ends_read
ends_text s h =
    let text = s.lo ++ 58 ∷ bound_text s.hi in
    ap (read_at text) (found_at (λ b. b == 58) s.lo 58 (bound_text s.hi) (no_colon s.lo h.lo.each) refl)
    ∙ ap (λ lo. ends_read lo (drop (length s.lo + 1) text)) (take-append_seam s.lo (58 ∷ bound_text s.hi))
    ∙ ap (ends_read s.lo) (drop_behind s.lo 58 (bound_text s.hi))
    ∙ ap (λ r. with_name r (λ n. with_bound (bound_read (bound_text s.hi)) (in_order n))) (name_read_ok s.lo h.lo)
    ∙ ap (λ r. with_bound r (in_order s.lo)) (bound_text_reads s.hi h.hi)
    ∙ in_order_ok s h

same_of : (b c : Bound) → same_bound b c ≡ true → b ≡ c
same_of (At n) (At m) h = ap At (bytes_same n m h)
same_of (At n) End h = absurd (cc)
same_of End (At m) h = absurd (cc)
same_of End End h = refl

both_tell : (p q : Bool) → (p && q) ≡ true → (p ≡ true) × (q ≡ true)
both_tell true q h = (refl, h)
both_tell false q h = absurd (cc)

whole_is : (s : Span) → is_whole s ≡ true → s ≡ whole
whole_is s h =
    let both = both_tell (same_bound (At s.lo) (At (45 ∷ []))) (same_bound s.hi End) h in
    same_span s whole (bytes_same s.lo (45 ∷ []) both.0) (same_of s.hi End both.1)

whole_text : interval_read (42 ∷ []) ≡ Ok whole
unfolding interval_read star_read
whole_text = refl

pub reads_back : (s : Span) → IsSpan s → interval_read (interval_text s) ≡ Ok s
unfolding interval_text end_text
reads_back s h = elim (either_tests (is_whole s)) [
  | inl e ↦ rw e (whole_text ∙ ap Ok (sym (whole_is s e)))
  | inr e ↦ rw e (elim (either_tests (is_one s)) [
    | inl f ↦ rw f (ap interval_read (append-nil s.lo) ∙ name_text s.lo h.lo ∙ ap Ok (sym (same_span s (one s.lo) refl (same_of s.hi (after_of s.lo) f))))
    | inr f ↦ rw f (elim (either_tests (is_all_from s)) [
      | inl g ↦ rw g (star_text s.lo h.lo ∙ ap Ok (sym (same_span s (all_from s.lo) refl (same_of s.hi (after_all_of s.lo) g))))
      | inr g ↦ rw g (ends_text s h)
    ])
  ])
]

bound_lacks : (c : ℕ) (b : Bound) → allowed c ≡ false → (126 == c) ≡ false → IsBound b → Lacks (λ d. d == c) (bound_text b)
bound_lacks c (At n) h t hb = name_lacks c n h hb.each
bound_lacks c End h t hb = (t, tt)

end_lacks : (s : Span) → IsBound s.hi → Lacks (λ b. b == 44) (end_text s)
unfolding end_text
end_lacks s h = elim (either_tests (is_one s)) [
  | inl f ↦ rw f tt
  | inr f ↦ rw f (elim (either_tests (is_all_from s)) [
    | inl g ↦ rw g (refl, tt)
    | inr g ↦ rw g (refl, bound_lacks 44 s.hi refl refl h)
  ])
]

-- no comma is printed
pub text_lacks_comma : (s : Span) → IsSpan s → Lacks (λ b. b == 44) (interval_text s)
unfolding interval_text
text_lacks_comma s h = elim (either_tests (is_whole s)) [
  | inl e ↦ rw e (refl, tt)
  | inr e ↦ rw e (lacks_append (λ b. b == 44) s.lo (end_text s) (name_lacks 44 s.lo refl h.lo.each) (end_lacks s h.hi))
]

begins_no_end : (n cs : List ℕ) → IsName n → bytes_eq (n ++ cs) (126 ∷ []) ≡ false
begins_no_end [] cs h = absurd (omega (arith, h.some))
begins_no_end (b ∷ bs) cs h = ap (λ t. t && bytes_eq (bs ++ cs) []) (not_same b 126 (λ e. omega (arith, e, allowed_most b h.each.0)))

-- what begins with a printed interval is not ~
pub text_is_no_end : (s : Span) (cs : List ℕ) → IsSpan s → bytes_eq (interval_text s ++ cs) (126 ∷ []) ≡ false
unfolding interval_text
text_is_no_end s cs h = elim (either_tests (is_whole s)) [
  | inl e ↦ rw e refl
  | inr e ↦ rw (e, append_assoc) (begins_no_end s.lo (end_text s ++ cs) h.lo)
]
