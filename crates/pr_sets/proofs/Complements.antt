-- The gaps of a set are its complement.
use Rattle.std.proofs.Common.{◌≡◌, ℕ, ◌+◌, refl, sym, ap, ◌∙◌, arith, inl, inr, List, [], ◌∷◌}
use Rattle.std.specs.Prelude.{◌||◌, ◌&&◌, not, nat_le}
use Rattle.std.proofs.lemmas.Bool.Decides.{leb_tells}
use Rattle.pr_names.specs.Name.{IsName}
use Rattle.pr_names.specs.Bound.{IsBound}
use Rattle.pr_names.specs.Span.{Span}
use Rattle.pr_names.specs.declared.bound.Bound.{Bound}
use Rattle.pr_names.specs.declared.bound.Bound.TheVariants.{At, End}
use Rattle.pr_names.proofs.Above.{least_first}
use Rattle.pr_names.proofs.Place.{place, top, bound_place, from_place, to_place}
use Rattle.pr_names.proofs.Places.{between, holds_is, place_top, span_of, span_some, under_tells}
use Rattle.pr_sets.specs.Ends.{gap, span_list}
use Rattle.pr_sets.specs.Spans.{has, IsSet, IsComplement}
use Rattle.pr_sets.proofs.Apart.{Apart, apart_of, set_of, weaker}
use Rattle.pr_sets.proofs.Between.{before_it, gap_step, up_to}
use Rattle.pr_sets.proofs.SpanEnds.{span_list_has}
use Rattle.pr_sets.proofs.Lists.{EndsBelow, apart_append, has_append}
use Rattle.pr_sets.proofs.Parts.{gaps_from}
use Rattle.pr_sets.proofs.Same.{none_before}

gap_has : (b c : Bound) (x : List ℕ) → IsBound b → IsBound c → IsName x → has (gap b c) x ≡ between (bound_place b) (bound_place c) (place x)
unfolding gap
gap_has (At n) c x hb hc hx = span_list_has n c x hb hc hx
gap_has End c x hb hc hx = sym (before_it top (bound_place c) (place x) (place_top x hx))

gaps_have : (ss : List Span) (b : Bound) (x : List ℕ) → IsBound b → IsName x → Apart (bound_place b) ss → has (gaps_from ss b) x ≡ (nat_le (bound_place b) (place x) && not (has ss x))
unfolding gaps_from
gaps_have [] b x hb hx h = gap_has b End x hb tt hx ∙ up_to (bound_place b) top (place x) (place_top x hx)
gaps_have (s ∷ ss) b x hb hx h =
    has_append (gap b (At s.lo)) (gaps_from ss s.hi) x
    ∙ ap (λ r. r || has (gaps_from ss s.hi) x) (gap_has b (At s.lo) x hb h.1.lo hx)
    ∙ ap (λ r. between (bound_place b) (from_place s) (place x) || r) (gaps_have ss s.hi x h.1.hi hx (weaker (to_place s) (to_place s + 1) ss (omega arith) h.2))
    ∙ gap_step (bound_place b) (from_place s) (to_place s) (place x) (has ss x) h.0 (span_some s h.1) (λ lt. none_before (to_place s + 1) ss x h.2 hx (omega arith))
    ∙ ap (λ t. nat_le (bound_place b) (place x) && not (t || has ss x)) (sym (holds_is s x h.1 hx))

gap_apart : (b c : Bound) → IsBound b → IsBound c → Apart (bound_place b) (gap b c)
unfolding gap span_list
gap_apart (At n) c hb hc = elim (under_tells n c hb hc) [
  | inl g ↦ rw g.0 (omega arith, span_of (record { lo = n; hi = c }) hb hc g.1, tt)
  | inr g ↦ rw g.0 tt
]
gap_apart End c hb hc = tt

gap_ends : (b c : Bound) → IsBound b → IsBound c → EndsBelow (bound_place c + 1) (gap b c)
unfolding gap span_list
gap_ends (At n) c hb hc = elim (under_tells n c hb hc) [ inl g ↦ rw g.0 (omega arith, tt) | inr g ↦ rw g.0 tt ]
gap_ends End c hb hc = tt

gaps_apart : (ss : List Span) (b : Bound) → IsBound b → Apart (bound_place b) ss → Apart (bound_place b) (gaps_from ss b)
unfolding gaps_from
gaps_apart [] b hb h = gap_apart b End hb tt
gaps_apart (s ∷ ss) b hb h =
    apart_append (bound_place b) (from_place s + 1) (gap b (At s.lo)) (gaps_from ss s.hi) (omega (arith, h.0))
    (gap_apart b (At s.lo) hb h.1.lo) (gap_ends b (At s.lo) hb h.1.lo)
    (weaker (from_place s + 1) (to_place s) (gaps_from ss s.hi) (omega (arith, span_some s h.1))
    (gaps_apart ss s.hi h.1.hi (weaker (to_place s) (to_place s + 1) ss (omega arith) h.2)))

least_name : IsName (45 ∷ [])
least_name = record { some = omega arith; most = omega arith; each = (refl, tt) }

starts_first : (ss : List Span) → Apart 0 ss → Apart (place (45 ∷ [])) ss
starts_first [] h = tt
starts_first (s ∷ ss) h = (least_first s.lo h.1.lo, h.1, h.2)

-- the gaps from the least name on
pub gaps_are : (a : List Span) → IsSet a → IsComplement a (gaps_from a (At (45 ∷ [])))
gaps_are a h =
    let apart = starts_first a (apart_of a h) in
    record {
      set = set_of (place (45 ∷ [])) (gaps_from a (At (45 ∷ []))) (gaps_apart a (At (45 ∷ [])) least_name apart);
      names = λ x hx.
          gaps_have a (At (45 ∷ [])) x least_name hx apart
          ∙ elim (leb_tells (place (45 ∷ [])) (place x)) [ inl g ↦ rw g.0 refl | inr g ↦ absurd (omega (arith, g.1, least_first x hx)) ];
    }
