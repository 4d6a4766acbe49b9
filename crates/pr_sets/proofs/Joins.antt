-- What a list that grows at its end keeps.
use Rattle.std.proofs.Common.{◌≡◌, ℕ, ◌+◌, ◌≤◌, Bool, true, false, refl, sym, ap, ◌∙◌, arith, inl, inr, List, [], ◌∷◌}
use Rattle.std.specs.Prelude.{◌||◌}
use Rattle.pr_names.specs.Name.{IsName}
use Rattle.pr_names.specs.Bound.{bound_lt}
use Rattle.pr_names.specs.Span.{Span, IsSpan, holds}
use Rattle.pr_names.specs.declared.bound.Bound.TheVariants.{At}
use Rattle.pr_names.proofs.Place.{from_place, to_place}
use Rattle.pr_names.proofs.Places.{bound_lt_tells, span_some}
use Rattle.pr_sets.specs.Joining.{grown, joined_onto, last_grown, puts}
use Rattle.pr_sets.specs.Spans.{has, is_behind}
use Rattle.pr_sets.proofs.Apart.{Apart}
use Rattle.pr_sets.proofs.SpanEnds.{grown_holds, grown_is}
use Rattle.pr_sets.proofs.Lists.{either_tests, or_assoc, or_none}

-- ---- intervals in the order of their starts

-- the intervals begin from this place on, none before the one in front of it
abbrev pub Rising : ℕ → List Span → Type 0
Rising p [] = Unit {0}
Rising p (s ∷ ss) = (p ≤ from_place s) × IsSpan s × Rising (from_place s) ss

pub rising_later : (p q : ℕ) (ss : List Span) → p ≤ q → Rising q ss → Rising p ss
rising_later p q [] le h = tt
rising_later p q (s ∷ ss) le h = (omega (arith, h.0), h.1, h.2)

pub rising_of : (p : ℕ) (ss : List Span) → Apart p ss → Rising p ss
rising_of p [] h = tt
rising_of p (s ∷ ss) h = (h.0, h.1, rising_later (from_place s) (to_place s + 1) ss (omega (arith, span_some s h.1)) (rising_of (to_place s + 1) ss h.2))

-- the intervals begin at this place or before
abbrev pub BeginBy : ℕ → List Span → Type 0
BeginBy p [] = Unit {0}
BeginBy p (t ∷ ts) = (from_place t ≤ p) × BeginBy p ts

begin_later : (p q : ℕ) (ts : List Span) → p ≤ q → BeginBy p ts → BeginBy q ts
begin_later p q [] le h = tt
begin_later p q (t ∷ ts) le h = (omega (arith, h.0), begin_later p q ts le h.1)

-- ---- one interval more

-- only the last interval is looked at
joined_more : (t u : Span) (ts : List Span) (s : Span) → joined_onto (t ∷ (u ∷ ts)) s ≡ t ∷ joined_onto (u ∷ ts) s
unfolding is_behind last_grown
joined_more t u ts s = elim (either_tests (is_behind (u ∷ ts) s)) [ inl e ↦ rw e refl | inr e ↦ rw e refl ]

pub put_keeps : (p : ℕ) (ts : List Span) (s : Span) → Apart p ts → IsSpan s → BeginBy (from_place s) ts → p ≤ from_place s → Apart p (joined_onto ts s)
unfolding is_behind last_grown
put_keeps p [] s h hs begin le = (le, hs, tt)
put_keeps p (t ∷ []) s h hs begin le = elim (bound_lt_tells t.hi (At s.lo) h.1.hi hs.lo) [
  | inl g ↦ rw g.0 (h.0, h.1, (omega (arith, g.1), hs, tt))
  | inr g ↦ rw g.0 (h.0, grown_is t s h.1 hs, tt)
]
put_keeps p (t ∷ (u ∷ ts)) s h hs begin le =
    rw (joined_more t u ts s) (h.0, h.1, put_keeps (to_place t + 1) (u ∷ ts) s h.2 hs begin.1 (omega (arith, h.2.0, begin.1.0)))

pub put_begins : (ts : List Span) (s : Span) → BeginBy (from_place s) ts → BeginBy (from_place s) (joined_onto ts s)
unfolding is_behind last_grown
put_begins [] s begin = (omega arith, tt)
put_begins (t ∷ []) s begin = elim (either_tests (bound_lt t.hi (At s.lo))) [ inl e ↦ rw e (begin.0, (omega arith, tt)) | inr e ↦ rw e (begin.0, tt) ]
put_begins (t ∷ (u ∷ ts)) s begin = rw (joined_more t u ts s) (begin.0, put_begins (u ∷ ts) s begin.1)

or_last : (p q : Bool) → (p || (q || false)) ≡ ((p || false) || q)
or_last true q = refl
or_last false q = or_none q

pub put_names : (p : ℕ) (ts : List Span) (s : Span) (x : List ℕ) → Apart p ts → IsSpan s → IsName x → BeginBy (from_place s) ts → has (joined_onto ts s) x ≡ (has ts x || holds s x)
unfolding is_behind last_grown
put_names p [] s x h hs hx begin = or_none (holds s x)
put_names p (t ∷ []) s x h hs hx begin = elim (bound_lt_tells t.hi (At s.lo) h.1.hi hs.lo) [
  | inl g ↦ rw g.0 (or_last (holds t x) (holds s x))
  | inr g ↦ rw g.0 (
      or_none (holds (grown t s) x)
      ∙ grown_holds t s x h.1 hs hx begin.0 (omega (arith, g.1))
      ∙ ap (λ b. b || holds s x) (sym (or_none (holds t x))))
]
put_names p (t ∷ (u ∷ ts)) s x h hs hx begin =
    ap (λ us. has us x) (joined_more t u ts s)
    ∙ ap (λ b. holds t x || b) (put_names (to_place t + 1) (u ∷ ts) s x h.2 hs hx begin.1)
    ∙ sym (or_assoc (holds t x) (has (u ∷ ts) x) (holds s x))

-- ---- many more

-- a list that grows is ready for intervals that begin no earlier than its own
pub record Ready (ts ss : List Span) : Type 0 where
  pub at : ℕ
  pub begin : BeginBy at ts
  pub rise : Rising at ss

pub ready_first : (ts : List Span) (s : Span) (ss : List Span) → Ready ts (s ∷ ss) → BeginBy (from_place s) ts
ready_first ts s ss r = begin_later r.at (from_place s) ts r.rise.0 r.begin

pub ready_next : (ts : List Span) (s : Span) (ss : List Span) → Ready ts (s ∷ ss) → Ready (joined_onto ts s) ss
ready_next ts s ss r = record {
  at = from_place s;
  begin = put_begins ts s (ready_first ts s ss r);
  rise = r.rise.2;
}

pub puts_keep : (ts ss : List Span) → Apart 0 ts → Ready ts ss → Apart 0 (puts ts ss)
unfolding puts
puts_keep ts [] h r = h
puts_keep ts (s ∷ ss) h r = puts_keep (joined_onto ts s) ss (put_keeps 0 ts s h r.rise.1 (ready_first ts s ss r) (omega arith)) (ready_next ts s ss r)

pub puts_names : (ts ss : List Span) (x : List ℕ) → Apart 0 ts → Ready ts ss → IsName x → has (puts ts ss) x ≡ (has ts x || has ss x)
unfolding puts
puts_names ts [] x h r hx = sym (or_none (has ts x))
puts_names ts (s ∷ ss) x h r hx =
    puts_names (joined_onto ts s) ss x (put_keeps 0 ts s h r.rise.1 (ready_first ts s ss r) (omega arith)) (ready_next ts s ss r) hx
    ∙ ap (λ b. b || has ss x) (put_names 0 ts s x h r.rise.1 hx (ready_first ts s ss r))
    ∙ or_assoc (has ts x) (holds s x) (has ss x)
