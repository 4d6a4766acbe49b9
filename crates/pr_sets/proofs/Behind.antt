-- An interval behind the last one of a set.
use Rattle.std.proofs.Common.{◌≡◌, ℕ, suc, ◌-◌, ◌<◌, true, false, List, [], ◌∷◌, ◌++◌, length, get_or, IsTrue, Result, Ok, Err, OnOk, OnErr, refl, sym, ap, subst, ◌∙◌, arith}
use Rattle.std.specs.Prelude.{cond, slice_set}
use Rattle.pr_names.specs.Bound.{bound_lt}
use Rattle.pr_names.specs.Span.{Span, IsSpan}
use Rattle.pr_names.specs.declared.bound.Bound.TheVariants.{At}
use Rattle.pr_sets.specs.Joining.{grown, last_grown}
use Rattle.pr_sets.specs.Spans.{IsSet, is_behind}

pub behind_none : (ts : List Span) (s : Span) → length ts ≡ 0 → true ≡ is_behind ts s
unfolding is_behind
behind_none [] s e = refl
behind_none (t ∷ ts) s e = absurd (omega arith)

pub behind_last : (ts : List Span) (s d : Span) → 0 < length ts → bound_lt (get_or ts (length ts - 1) d).hi (At s.lo) ≡ is_behind ts s
unfolding is_behind
behind_last [] s d some = absurd (omega arith)
behind_last (t ∷ []) s d some = refl
behind_last (t ∷ (u ∷ ts)) s d some =
    let e : suc (suc (length ts)) - 1 ≡ suc (suc (length ts) - 1) = omega arith in
    ap (λ (n : ℕ). bound_lt (get_or (t ∷ (u ∷ ts)) n d).hi (At s.lo)) e ∙ behind_last (u ∷ ts) s d (omega arith)

pub not_behind : (ts : List Span) (s : Span) → is_behind ts s ≡ false → 0 < length ts
unfolding is_behind
not_behind [] s h = absurd (cc)
not_behind (t ∷ ts) s h = omega arith

-- the last interval grows where the other ends later, and else stays
pub grown_later : (ts : List Span) (s l u : Span) → 0 < length ts → l ≡ get_or ts (length ts - 1) l → bound_lt l.hi s.hi ≡ true → u ≡ record { lo = l.lo; hi = s.hi } → slice_set ts (length ts - 1) u ≡ last_grown ts s
unfolding last_grown
grown_later [] s l u some is lt e = absurd (omega arith)
grown_later (t ∷ []) s l u some is lt e =
    let later : grown l s ≡ record { lo = l.lo; hi = s.hi } = ap (λ b. record { lo = l.lo; hi = cond b s.hi l.hi }) lt in
    ap (λ v. v ∷ []) (e ∙ sym later ∙ ap (λ v. grown v s) is)
grown_later (t ∷ (v ∷ ts)) s l u some is lt e =
    let next : suc (suc (length ts)) - 1 ≡ suc (suc (length ts) - 1) = omega arith in
    let P : ℕ → Type 0 = λ n. l ≡ get_or (t ∷ (v ∷ ts)) n l in
    ap (λ (n : ℕ). slice_set (t ∷ (v ∷ ts)) n u) next ∙ ap (λ us. t ∷ us) (grown_later (v ∷ ts) s l u (omega arith) (subst P next is) lt e)

pub grown_same : (ts : List Span) (s l : Span) → 0 < length ts → l ≡ get_or ts (length ts - 1) l → bound_lt l.hi s.hi ≡ false → ts ≡ last_grown ts s
unfolding last_grown
grown_same [] s l some is le = absurd (omega arith)
grown_same (t ∷ []) s l some is le =
    let same : grown l s ≡ l = ap (λ b. record { lo = l.lo; hi = cond b s.hi l.hi }) le in
    ap (λ v. v ∷ []) (sym is ∙ sym same ∙ ap (λ v. grown v s) is)
grown_same (t ∷ (v ∷ ts)) s l some is le =
    let next : suc (suc (length ts)) - 1 ≡ suc (suc (length ts) - 1) = omega arith in
    let P : ℕ → Type 0 = λ n. l ≡ get_or (t ∷ (v ∷ ts)) n l in
    ap (λ us. t ∷ us) (grown_same (v ∷ ts) s l (omega arith) (subst P next is) le)

-- a set goes on with an interval that stands behind it
pub set_more : (ts : List Span) (s : Span) → IsSet ts → IsSpan s → IsTrue (is_behind ts s) → IsSet (ts ++ s ∷ [])
unfolding is_behind
set_more [] s set span behind = (span, tt, tt)
set_more (t ∷ []) s set span behind = (set.0, behind, (span, tt, tt))
set_more (t ∷ (u ∷ ts)) s set span behind = (set.0, set.1, set_more (u ∷ ts) s set.2 span behind)

-- what stands first behind a set stands behind it
pub more_behind : (ts : List Span) (s : Span) (ss : List Span) → IsSet (ts ++ s ∷ ss) → IsTrue (is_behind ts s)
unfolding is_behind
more_behind [] s ss set = refl
more_behind (t ∷ []) s ss set = set.1
more_behind (t ∷ (u ∷ ts)) s ss set = more_behind (u ∷ ts) s ss set.2

-- whether there was memory or not, the list is a set
pub set_grows : {A E : Type 0} (r : Result A E) (ts us : List Span) (s : Span) → IsSet ts → IsSpan s → IsTrue (is_behind ts s) → OnOk r (us ≡ ts ++ s ∷ []) → OnErr r (us ≡ ts) → IsSet us
set_grows (Ok x) ts us s set span behind ok err = subst IsSet (sym ok) (set_more ts s set span behind)
set_grows (Err e) ts us s set span behind ok err = subst IsSet (sym err) set
