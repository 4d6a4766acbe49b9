-- The sets that stand at clocks, where sets begin, end or change.
use Rattle.std.proofs.Common.{◌≡◌, ◌+◌, ℕ, ◌≤◌, ◌<◌, ◌-◌, zero, suc, List, Option, None, Some, Bool, true, false, refl, sym, ◌∙◌, ap, subst, arith, inl, inr, ◌||◌, ◌&&◌, not}
use Rattle.std.specs.Prelude.{◌⊎◌}
use Rattle.std.specs.Option.{IsSome, option_or}
use Rattle.pr_names.specs.Name.{IsName}
use Rattle.pr_names.specs.Span.{Span}
use Rattle.pr_sets.specs.Spans.{has}
use Rattle.pr_log.specs.Sets.{standing, lacks, IsNarrowed, BeginsOrStands}
use Rattle.pr_log.proofs.Places.{this_or_other}

not_not : (b : Bool) → not (not b) ≡ b
not_not true = refl
not_not false = refl

up_or_last : (k c : ℕ) → k ≤ suc c → (k ≤ c) ⊎ (k ≡ suc c)
up_or_last k c le = grind arith

-- ---- what stands, by what began

pub here : (f : ℕ → Option (List Span)) (c : ℕ) (u : List Span) → f c ≡ Some u → standing f c ≡ Some u
unfolding standing
here f zero u is = is
here f (suc c) u is = ap (λ x. option_or x (standing f c)) is

pub same_up_to : (f g : ℕ → Option (List Span)) (c : ℕ) → ((k : ℕ) → k ≤ c → g k ≡ f k) → standing g c ≡ standing f c
unfolding standing
same_up_to f g zero same = same 0 (omega arith)
same_up_to f g (suc c) same = ap (λ x. option_or x (standing g c)) (same (suc c) (omega arith)) ∙ ap (option_or (f (suc c))) (same_up_to f g c (λ k le. same k (omega (arith, le))))

-- nothing begins between the clocks
pub stands_on : (f : ℕ → Option (List Span)) (c d : ℕ) → c ≤ d → ((t : ℕ) → c < t → t ≤ d → f t ≡ None) → standing f d ≡ standing f c
unfolding standing
stands_on f c zero le none = ap (standing f) (zero_is c le)
  where
    zero_is : (c : ℕ) → c ≤ 0 → 0 ≡ c
    zero_is c le = omega arith
stands_on f c (suc d) le none = elim (up_or_last c d le) [
  | inl more ↦ ap (λ x. option_or x (standing f d)) (none (suc d) (omega (arith, more)) (omega arith)) ∙ stands_on f c d more (λ t above within. none t above (omega (arith, within)))
  | inr last ↦ ap (standing f) (sym last)
]

-- nothing began
pub none_stands : (f : ℕ → Option (List Span)) (c : ℕ) → ((t : ℕ) → t ≤ c → f t ≡ None) → standing f c ≡ None
unfolding standing
none_stands f zero none = none 0 (omega arith)
none_stands f (suc c) none = ap (λ x. option_or x (standing f c)) (none (suc c) (omega arith)) ∙ none_stands f c (λ t le. none t (omega (arith, le)))

-- ---- one clock more

step : (x y r q : Option (List Span)) (o : List ℕ) → x ≡ y → lacks r o ≡ lacks q o → lacks (option_or x r) o ≡ lacks (option_or y q) o
step x None r q o is same = ap (λ z. lacks (option_or z r) o) is ∙ same
step x (Some set) r q o is same = ap (λ z. lacks (option_or z r) o) is

-- ---- a set is put in at a clock that has the names that are dark there

pub split_lit : (f g : ℕ → Option (List Span)) (at : ℕ) (u : List Span) (o : List ℕ) → g at ≡ Some u → ((k : ℕ) → ¬ (k ≡ at) → g k ≡ f k) → has u o ≡ not (lacks (standing f at) o) → (c : ℕ) → lacks (standing g c) o ≡ lacks (standing f c) o
unfolding standing
split_lit f g at u o put others dark c = elim (this_or_other c at) [
  | inl same ↦ ap (λ k. lacks (standing g k) o) same ∙ ap (λ x. lacks x o) (here g at u put) ∙ ap not dark ∙ not_not (lacks (standing f at) o) ∙ ap (λ k. lacks (standing f k) o) (sym same)
  | inr other ↦ later c other
]
  where
    later : (c : ℕ) → ¬ (c ≡ at) → lacks (standing g c) o ≡ lacks (standing f c) o
    later zero other = ap (λ x. lacks x o) (others 0 other)
    later (suc c) other = step (g (suc c)) (f (suc c)) (standing g c) (standing f c) o (others (suc c) other) (elim (this_or_other c at) [
      | inl same ↦ ap (λ k. lacks (standing g k) o) same ∙ ap (λ x. lacks x o) (here g at u put) ∙ ap not dark ∙ not_not (lacks (standing f at) o) ∙ ap (λ k. lacks (standing f k) o) (sym same)
      | inr apart ↦ later c apart
    ])

-- ---- a set is taken out that has the names of the one before it

pub joined_lit : (f g : ℕ → Option (List Span)) (at : ℕ) (a b : List Span) (o : List ℕ) → 1 ≤ at → g at ≡ None → ((k : ℕ) → ¬ (k ≡ at) → g k ≡ f k) → f at ≡ Some b → standing f (at - 1) ≡ Some a → has a o ≡ has b o → (c : ℕ) → lacks (standing g c) o ≡ lacks (standing f c) o
unfolding standing
joined_lit f g at a b o one out others was before same zero = ap (λ x. lacks x o) (others 0 (λ e. omega (arith, e, one)))
joined_lit f g at a b o one out others was before same (suc c) = elim (this_or_other (suc c) at) [
  | inr other ↦ step (g (suc c)) (f (suc c)) (standing g c) (standing f c) o (others (suc c) other) (joined_lit f g at a b o one out others was before same c)
  | inl now ↦
      ap (λ x. lacks (option_or x (standing g c)) o) (ap g now ∙ out)
      ∙ ap (λ x. lacks x o) (same_up_to f g c (λ k le. others k (λ e. omega (arith, e, le, now))) ∙ ap (standing f) (one_less c at now) ∙ before)
      ∙ ap not same
      ∙ ap (λ x. lacks (option_or x (standing f c)) o) (sym (ap f now ∙ was))
]
  where
    one_less : (c at : ℕ) → suc c ≡ at → c ≡ at - 1
    one_less c at e = omega arith

-- ---- sets that begin before another are dropped

pub dropped : (f g : ℕ → Option (List Span)) (last : ℕ) (u : List Span) → f last ≡ Some u → ((k : ℕ) → last ≤ k → g k ≡ f k) → (c : ℕ) → last ≤ c → standing g c ≡ standing f c
unfolding standing
dropped f g last u is kept zero le = kept 0 le
dropped f g last u is kept (suc c) le = elim (up_or_last last c le) [
  | inl more ↦ ap (λ x. option_or x (standing g c)) (kept (suc c) le) ∙ ap (option_or (f (suc c))) (dropped f g last u is kept c more)
  | inr now ↦ here g (suc c) u (kept (suc c) le ∙ ap f (sym now) ∙ is) ∙ sym (here f (suc c) u (ap f (sym now) ∙ is))
]

-- ---- the sets that begin between two clocks are narrowed

narrow_not : (a t : Bool) → not (a && t) ≡ (not a || not t)
narrow_not true t = refl
narrow_not false t = refl

narrow_some : (target : List Span) (x y r q : Option (List Span)) (o : List ℕ) → IsName o → IsNarrowed target x y → IsSome x → lacks (option_or y r) o ≡ (lacks (option_or x q) o || not (has target o))
narrow_some target None y r q o name narrowed some = absurd (nothing some)
  where
    nothing : IsSome {T = List Span} None → ⊥
    nothing e = cc
narrow_some target (Some was) y r q o name (set, is, names) some = ap (λ z. lacks (option_or z r) o) is ∙ ap not (names o name) ∙ narrow_not (has was o) (has target o)

narrow_step : (target : List Span) (x y r q : Option (List Span)) (o : List ℕ) → IsName o → IsNarrowed target x y → lacks r o ≡ (lacks q o || not (has target o)) → lacks (option_or y r) o ≡ (lacks (option_or x q) o || not (has target o))
narrow_step target None y r q o name narrowed so_far = ap (λ z. lacks (option_or z r) o) narrowed ∙ so_far
narrow_step target (Some was) y r q o name narrowed so_far = narrow_some target (Some was) y r q o name narrowed refl

pub narrowed_within : (f g : ℕ → Option (List Span)) (lo hi : ℕ) (target : List Span) (o : List ℕ) → IsName o → 1 ≤ lo → IsSome (f lo) → ((k : ℕ) → lo ≤ k → k ≤ hi → IsNarrowed target (f k) (g k)) → (c : ℕ) → lo ≤ c → c ≤ hi → lacks (standing g c) o ≡ (lacks (standing f c) o || not (has target o))
unfolding standing
narrowed_within f g lo hi target o name one some narrowed zero le within = absurd (omega (arith, one, le))
narrowed_within f g lo hi target o name one some narrowed (suc c) le within = elim (up_or_last lo c le) [
  | inl more ↦ narrow_step target (f (suc c)) (g (suc c)) (standing g c) (standing f c) o name (narrowed (suc c) le within) (narrowed_within f g lo hi target o name one some narrowed c more (omega (arith, within)))
  | inr now ↦ narrow_some target (f (suc c)) (g (suc c)) (standing g c) (standing f c) o name (narrowed (suc c) le within) (subst (λ k. IsSome (f k)) now some)
]

pub narrowed_above : (f g : ℕ → Option (List Span)) (end : ℕ) → IsSome (f end) → ((k : ℕ) → end ≤ k → g k ≡ f k) → (c : ℕ) → end ≤ c → standing g c ≡ standing f c
narrowed_above f g end some kept c le = dropped f g end (some_of (f end) some) (is_some_of (f end) some) kept c le
  where
    some_of : (x : Option (List Span)) → IsSome x → List Span
    some_of None h = absurd (nothing h)
      where
        nothing : IsSome {T = List Span} None → ⊥
        nothing e = cc
    some_of (Some s) h = s

    is_some_of : (x : Option (List Span)) (h : IsSome x) → x ≡ Some (some_of x h)
    is_some_of None h = absurd (nothing h)
      where
        nothing : IsSome {T = List Span} None → ⊥
        nothing e = cc
    is_some_of (Some s) h = refl

-- ---- a set begins later, and what is left of it, if that is new, where it began

stays_after : (f g : ℕ → Option (List Span)) (end : ℕ) → standing g end ≡ standing f end → ((k : ℕ) → end < k → g k ≡ f k) → (c : ℕ) → end ≤ c → standing g c ≡ standing f c
unfolding standing
stays_after f g end same kept zero le = subst (λ k. standing g k ≡ standing f k) (is_zero end le) same
  where
    is_zero : (end : ℕ) → end ≤ 0 → end ≡ 0
    is_zero end le = omega arith
stays_after f g end same kept (suc c) le = elim (up_or_last end c le) [
  | inl more ↦ ap (λ x. option_or x (standing g c)) (kept (suc c) (omega (arith, more))) ∙ ap (option_or (f (suc c))) (stays_after f g end same kept c more)
  | inr now ↦ subst (λ k. standing g k ≡ standing f k) now same
]

-- what stands at a clock where nothing begins
none_here : (g : ℕ → Option (List Span)) (lo : ℕ) → 1 ≤ lo → g lo ≡ None → standing g lo ≡ standing g (lo - 1)
none_here g lo one none = stands_on g (lo - 1) lo (omega arith) (λ t above within. subst (λ k. g k ≡ None) (omega (arith, above, within, one)) none)

begun_lit : (g : ℕ → Option (List Span)) (lo : ℕ) (left : List Span) (o : List ℕ) → IsName o → 1 ≤ lo → BeginsOrStands g lo left → lacks (standing g lo) o ≡ not (has left o)
begun_lit g lo left o name one (inl is) = ap (λ x. lacks x o) (here g lo left is)
begun_lit g lo left o name one (inr (none, was, before, same)) = ap (λ x. lacks x o) (none_here g lo one none ∙ before) ∙ ap not (same o name)

pub put_off_within : (f m g : ℕ → Option (List Span)) (lo hi : ℕ) (set left target : List Span) (o : List ℕ) → IsName o → 1 ≤ lo → f lo ≡ Some set → ((t : ℕ) → lo < t → t ≤ hi + 1 → f t ≡ None) → has left o ≡ (has set o && has target o) → BeginsOrStands m lo left → ((k : ℕ) → ¬ (k ≡ lo) → m k ≡ f k) → ((k : ℕ) → ¬ (k ≡ hi + 1) → g k ≡ m k) → (c : ℕ) → lo ≤ c → c ≤ hi → lacks (standing g c) o ≡ (lacks (standing f c) o || not (has target o))
put_off_within f m g lo hi set left target o name one is none names begins kept rest c le within =
    ap (λ x. lacks x o)
    (same_up_to m g c (λ k to. rest k (λ e. omega (arith, e, to, within)))
    ∙ stands_on m lo c le (λ t above to. kept t (λ e. omega (arith, e, above)) ∙ none t above (omega (arith, to, within))))
    ∙ begun_lit m lo left o name one begins
    ∙ ap not names ∙ narrow_not (has set o) (has target o)
    ∙ ap (λ x. lacks x o || not (has target o)) (sym (stands_on f lo c le (λ t above to. none t above (omega (arith, to, within))) ∙ here f lo set is))

pub put_off_others : (f m g : ℕ → Option (List Span)) (lo hi : ℕ) (set : List Span) → lo ≤ hi → f lo ≡ Some set → ((t : ℕ) → lo < t → t ≤ hi + 1 → f t ≡ None) → ((k : ℕ) → ¬ (k ≡ lo) → m k ≡ f k) → g (hi + 1) ≡ Some set → ((k : ℕ) → ¬ (k ≡ hi + 1) → g k ≡ m k) → (c : ℕ) → (c < lo) ⊎ (hi < c) → standing g c ≡ standing f c
put_off_others f m g lo hi set order is none kept end rest c (inl below) =
    same_up_to f g c (λ k le. rest k (λ e. omega (arith, e, le, below, order)) ∙ kept k (λ e. omega (arith, e, le, below)))
put_off_others f m g lo hi set order is none kept end rest c (inr above) =
    stays_after f g (hi + 1)
    (here g (hi + 1) set end ∙ sym (stands_on f lo (hi + 1) (omega (arith, order)) none ∙ here f lo set is))
    (λ k lt. rest k (λ e. omega (arith, e, lt)) ∙ kept k (λ e. omega (arith, e, lt, order))) c (omega (arith, above))
