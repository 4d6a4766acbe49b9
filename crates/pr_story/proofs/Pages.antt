-- Lists in pages.
use Rattle.std.proofs.Common.{◌≡◌, ℕ, ◌≤◌, ◌<◌, ◌+◌, ◌*◌, List, [], ◌∷◌, ◌++◌, suc, zero, length, get_or, sym, ◌∙◌, ap, arith, refl, append_assoc, ◌-◌, reverse}
use Rattle.std.proofs.lemmas.List.{length-reverse, get_or-reverse}
use lib.ListN.{get_or-append, length-append}
use lib.Seq.{get_or-append-add}
use Rattle.pr_stamps.specs.Kept.{Kept}
use Rattle.pr_story.specs.Paged.{AreFull, paged}

-- the place q * most + r
pub on_page : {T : Type 0} (most : ℕ) (full : List (Kept T)) (last : Kept T) (q r : ℕ) (d : T) → AreFull most full → q ≤ length full → r < most → get_or (paged full last.items) (q * most + r) d ≡ get_or (get_or full q last).items r d
on_page most [] last zero r d are le lt = ap (λ i. get_or last.items i d) (omega arith)
on_page most [] last (suc q) r d are le lt = absurd (omega arith)
on_page most (p ∷ ps) last zero r d are le lt = ap (λ i. get_or (p.items ++ paged ps last.items) i d) (omega arith) ∙ get_or-append p.items (paged ps last.items) d r (omega (arith, are.0))
on_page most (p ∷ ps) last (suc q) r d are le lt = ap (λ i. get_or (p.items ++ paged ps last.items) i d) (omega (arith, are.0)) ∙ get_or-append-add p.items (paged ps last.items) (q * most + r) d ∙ on_page most ps last q r d are.1 (omega arith) lt

pub length_paged : {T : Type 0} (most : ℕ) (full : List (Kept T)) (last : List T) → AreFull most full → length (paged full last) ≡ length full * most + length last
length_paged most [] last are = omega arith
length_paged most (p ∷ ps) last are = omega (arith, length-append p.items (paged ps last), are.0, length_paged most ps last are.1)

pub full_more : {T : Type 0} (most : ℕ) (full : List (Kept T)) (page : Kept T) → AreFull most full → length page.items ≡ most → AreFull most (full ++ page ∷ [])
full_more most [] page are is = (is, _)
full_more most (p ∷ ps) page are is = (are.0, full_more most ps page are.1 is)

pub paged_more : {T : Type 0} (full : List (Kept T)) (page : Kept T) (last : List T) → paged (full ++ page ∷ []) last ≡ paged full (page.items ++ last)
paged_more [] page last = refl
paged_more (p ∷ ps) page last = ap (λ l. p.items ++ l) (paged_more ps page last)

pub paged_put : {T : Type 0} (full : List (Kept T)) (last more : List T) → paged full (last ++ more) ≡ paged full last ++ more
paged_put [] last more = refl
paged_put (p ∷ ps) last more = ap (λ l. p.items ++ l) (paged_put ps last more) ∙ sym (append_assoc p.items (paged ps last) more)

-- where a place of the list lies
pub within : {T : Type 0} (most : ℕ) (full : List (Kept T)) (last : Kept T) (q r : ℕ) → AreFull most full → length last.items ≤ most → r < most → q * most + r < length (paged full last.items) → (q ≤ length full) × (r < length (get_or full q last).items)
within most [] last zero r are le lt some = (omega arith, omega arith)
within most [] last (suc q) r are le lt some = absurd (omega arith)
within most (p ∷ ps) last zero r are le lt some = (omega arith, omega (arith, are.0))
within most (p ∷ ps) last (suc q) r are le lt some =
    let rest = within most ps last q r are.1 le lt (omega (arith, are.0, length-append p.items (paged ps last.items))) in
    (omega (arith, rest.0), rest.1)

-- the newest item is the last one
pub newest : {A : Type 0} (items : List A) (last : A) → 0 < length items → ((d : A) → last ≡ get_or items (length items - 1) d) → (older : List A) × (reverse items ≡ last ∷ older)
newest {A} items last some is = from (reverse items) refl where
  from : (turned : List A) → reverse items ≡ turned → (older : List A) × (reverse items ≡ last ∷ older)
  from [] e = absurd (omega (arith, length-reverse items, ap length e))
  from (x ∷ older) e =
      let first : x ≡ last = ap (λ l. get_or l 0 x) (sym e) ∙ get_or-reverse items 0 x some ∙ ap (λ k. get_or items k x) (omega arith) ∙ sym (is x) in
      (older, e ∙ ap (λ y. y ∷ older) first)
