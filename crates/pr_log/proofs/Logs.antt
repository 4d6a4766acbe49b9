-- A log that is new, and what it knows.
use Rattle.std.proofs.Common.{◌≡◌, ℕ, List, [], Bool, true, false, refl, ◌∙◌, ap, nat_eq, nat_lt, ◌||◌, ◌&&◌}
use Rattle.pr_stamps.specs.Point.{Point}
use Rattle.pr_names.specs.Span.{Span}
use Rattle.pr_log.specs.Sets.{begins_at, is_lit_at, lacks}
use Rattle.pr_log.specs.Dark.{is_lit_in, sets_of}
use Rattle.pr_log.proofs.Standing.{none_stands}
use Rattle.pr_log.proofs.Names.{or_none}

-- where no set began nothing is lit
nothing_lit : (o : List ℕ) (c : ℕ) → is_lit_at [] o c ≡ false
nothing_lit o c = ap (λ x. lacks x o) (none_stands (begins_at []) c (λ t le. refl))

-- of a new log own points alone are lit
pub new_lit : (own : ℕ) (dark : List (List (ℕ × List Span))) → ((n : ℕ) → sets_of dark n ≡ []) → (o : List ℕ) (p : Point) → is_lit_in own dark o p ≡ nat_eq p.node own
new_lit own dark none o p =
    ap (λ (row : List (ℕ × List Span)). nat_eq p.node own || (nat_lt 0 p.clock && is_lit_at row o p.clock)) (none p.node)
    ∙ ap (λ b. nat_eq p.node own || (nat_lt 0 p.clock && b)) (nothing_lit o p.clock)
    ∙ ap (λ b. nat_eq p.node own || b) (and_none (nat_lt 0 p.clock))
    ∙ or_none (nat_eq p.node own)
  where
    and_none : (b : Bool) → (b && false) ≡ false
    and_none true = refl
    and_none false = refl
