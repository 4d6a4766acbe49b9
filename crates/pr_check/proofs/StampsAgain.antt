-- Printed names, numbers, texts, sets and stamps are read again.
use Rattle.std.proofs.Common.{◌≡◌, ℕ, ◌<◌, ◌≤◌, ◌^◌, Bool, true, false, cond, List, [], ◌∷◌, ◌++◌, length, Option, Some, None, refl, ap, ◌∙◌, arith, length-append}
use Rattle.std.specs.Prelude.{decimal, nat_le, nat_lt, ◌&&◌}
use Rattle.std.specs.List.{AllByRecursion}
use Rattle.std.proofs.lemmas.Bool.Decides.{nat_tests}
use Rattle.std.proofs.lemmas.List.Elements.{All-head, All-tail}
use Rattle.pr_stamps.specs.Point.{IsStamp, Point}
use Rattle.pr_stamps.specs.declared.mark.Mark.{Mark}
use Rattle.pr_names.specs.Name.{IsName}
use Rattle.pr_names.specs.Span.{IsSpan, Span}
use Rattle.pr_names.specs.Text.{end_text, interval_text, is_whole}
use Rattle.pr_names.proofs.Texts.{name_read_ok}
use Rattle.pr_sets.specs.Spans.{IsSet}
use Rattle.pr_sets.specs.Text.{more_text, set_text}
use Rattle.pr_sets.proofs.Texts.{reads_back}
use Rattle.pr_script.specs.declared.decl.Decl.{Decl}
use Rattle.pr_script.specs.declared.kind.Kind.TheVariants as kinds
use Rattle.pr_script.specs.Fields.{name_of, number_in, value_of}
use Rattle.pr_script.specs.Labels.{AreLabels}
use Rattle.pr_script.specs.Printing.{label_text, quoted}
use Rattle.pr_script.specs.Texts.{last_text}
use Rattle.pr_script.proofs.DecimalAgain as decimals
use Rattle.pr_script.proofs.TextAgain.{text_again}
use Rattle.pr_story.specs.Counts.{HasMark, HasPair, HasPrev, HasStamp}
use Rattle.pr_story.specs.Ranges.{IsBytes, IsStampOrNone}
use Rattle.pr_text.specs.Numbers.{nodes_of}
use Rattle.pr_text.specs.Texts.{mark_text, pair_text, prev_text, stamp_text}
use Rattle.pr_text.proofs.Cut.{Lacks, is_not, of_all}
use Rattle.pr_text.proofs.Items.{not_hyphen}
use Rattle.pr_text.proofs.Same.{digits_before_at, digits_of, is_digit}
use Rattle.pr_text.proofs.SameRows.{stamp_in, takes_bar, takes_mid}
use Rattle.pr_check.specs.Fields.{◌>>=◌}
use Rattle.pr_check.specs.Parts.{after, before, is_hyphen, mark_read, pair_read, point_read, prev_read, target_read, stamp_read, stamp_with}
use Rattle.pr_check.proofs.Numbers.{number_again}
use Rattle.pr_check.proofs.PartsAgain.{after_again, before_again, other_bytes}

-- ---- names, numbers and texts

pub name_again : (o : List ℕ) → IsName o → name_of o ≡ Some o
name_again o h = ap value_of (name_read_ok o h)

pub count_again : (n : ℕ) → n < 2 ^ 64 → number_in 0 18446744073709551615 (decimal n) ≡ Some n
count_again n l = decimals.number_again 0 18446744073709551615 n (omega arith) (omega (arith, l)) l

small : (bs : List ℕ) → IsBytes bs → AllByRecursion (λ b. b < 256) bs
small [] h = tt
small (b ∷ bs) h = (All-head (λ k. k < 256) b bs h, small bs (All-tail (λ k. k < 256) b bs h))

pub quoted_again : (bs : List ℕ) → IsBytes bs → value_of (last_text (quoted bs)) ≡ Some bs
unfolding last_text
quoted_again bs h = rw (text_again bs [] (small bs h)) refl

-- ---- sets

some_bytes : (t : Bool) (lo end : List ℕ) → 1 ≤ length lo → 1 ≤ length (cond t (42 ∷ []) (lo ++ end))
some_bytes true lo end l = omega arith
some_bytes false lo end l = omega (arith, length-append lo end)

interval_some : (s : Span) → IsSpan s → 1 ≤ length (interval_text s)
unfolding interval_text
interval_some s h = some_bytes (is_whole s) s.lo (end_text s) h.lo.some

more_long : (ss : List Span) → IsSet ss → length ss ≤ length (more_text ss)
unfolding more_text
more_long [] h = omega arith
more_long (s ∷ ss) h = let m = more_long ss h.2 in omega (arith, length-append (interval_text s) (more_text ss), m)

set_long : (ss : List Span) → IsSet ss → length ss ≤ length (set_text ss)
unfolding set_text
set_long [] h = omega arith
set_long (s ∷ ss) h =
    let m = more_long ss h.2 in
    let i = interval_some s h.0 in
    omega (arith, length-append (interval_text s) (more_text ss), m, i)

pub set_again : (ss : List Span) → IsSet ss → target_read (set_text ss) ≡ Some ss
unfolding target_read
set_again ss h = ap value_of (reads_back ss (length (set_text ss)) h (set_long ss h))

-- ---- stamps

in_range : (c n : ℕ) → 1 ≤ c → c ≤ 4611686018427387903 → n < 32 → (nat_le 1 c && (nat_le c 4611686018427387903 && nat_lt n 32)) ≡ true
in_range c n lo hi l = grind (arith, nat_tests)

module _ (ds : List Decl) (a : AreLabels ds) where
  pub point_again : (p : Point) → IsStamp p → HasStamp (nodes_of ds) p → point_read ds (decimal p.clock) (label_text kinds.Node ds p.node) ≡ Some p
  unfolding point_read stamp_with
  point_again p s h =
      rw (
        decimals.number_again 1 4611686018427387903 p.clock s.from_one s.most (omega (arith, s.most)),
        number_again kinds.Node ds a p.node h,
        in_range p.clock p.node s.from_one s.most s.known_node,
      ) refl

  clock_lacks : (p : Point) → IsStamp p → Lacks 64 (decimal p.clock)
  clock_lacks p s = of_all is_digit (is_not 64) (decimal p.clock) digits_before_at (digits_of p.clock (omega (arith, s.most)))

  pub stamp_again : (p : Point) → IsStamp p → HasStamp (nodes_of ds) p → stamp_read ds (stamp_text ds p) ≡ Some p
  unfolding stamp_read
  stamp_again p s h =
      let label = label_text kinds.Node ds p.node in
      ap (λ (t : List ℕ). point_read ds t (after 64 (stamp_text ds p))) (before_again 64 (decimal p.clock) label (clock_lacks p s))
      ∙ ap (λ (t : List ℕ). point_read ds (decimal p.clock) t) (after_again 64 (decimal p.clock) label (clock_lacks p s))
      ∙ point_again p s h

  pub prev_again : (p : Option Point) → IsStampOrNone p → HasPrev (nodes_of ds) p → prev_read ds (prev_text ds p) ≡ Some p
  unfolding prev_read
  prev_again None s h = refl
  prev_again (Some p) s h =
      let e : is_hyphen (stamp_text ds p) ≡ false = other_bytes (stamp_text ds p) (45 ∷ []) (not_hyphen (decimal p.clock) 64 (label_text kinds.Node ds p.node) (λ k. absurd (omega (arith, k)))) in
      rw e (ap (λ (o : Option Point). o >>= λ p. Some (Some p)) (stamp_again p s h))

  -- ---- pairs and marks

  pub pair_again : (p : Point × Point) → (IsStamp p.0 × IsStamp p.1) × HasPair (nodes_of ds) p → pair_read ds (pair_text ds p) ≡ Some p
  unfolding pair_read
  pair_again p h =
      let lacks : Lacks 124 (stamp_text ds p.0) = stamp_in ds a (is_not 124) takes_bar p.0 (h.0.0, h.1.0) in
      let one : stamp_read ds (before 124 (pair_text ds p)) ≡ Some p.0 = ap (stamp_read ds) (before_again 124 (stamp_text ds p.0) (stamp_text ds p.1) lacks) ∙ stamp_again p.0 h.0.0 h.1.0 in
      let two : stamp_read ds (after 124 (pair_text ds p)) ≡ Some p.1 = ap (stamp_read ds) (after_again 124 (stamp_text ds p.0) (stamp_text ds p.1) lacks) ∙ stamp_again p.1 h.0.1 h.1.1 in
      rw (one, two) refl

  pub mark_again : (m : Mark) → (IsStamp m.stamp × IsStampOrNone m.prev) × HasMark (nodes_of ds) m → mark_read ds (mark_text ds m) ≡ Some m
  unfolding mark_read
  mark_again m h =
      let lacks : Lacks 60 (stamp_text ds m.stamp) = stamp_in ds a (is_not 60) (takes_mid 60 (omega arith) (omega arith)) m.stamp (h.0.0, h.1.0) in
      let one : stamp_read ds (before 60 (mark_text ds m)) ≡ Some m.stamp = ap (stamp_read ds) (before_again 60 (stamp_text ds m.stamp) (prev_text ds m.prev) lacks) ∙ stamp_again m.stamp h.0.0 h.1.0 in
      let two : prev_read ds (after 60 (mark_text ds m)) ≡ Some m.prev = ap (prev_read ds) (after_again 60 (stamp_text ds m.stamp) (prev_text ds m.prev) lacks) ∙ prev_again m.prev h.0.1 h.1.1 in
      rw (one, two) refl
