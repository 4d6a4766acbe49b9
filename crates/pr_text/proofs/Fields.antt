-- A line's fields are known from the line.
use Rattle.std.proofs.Common.{◌≡◌, ◌⊎◌, ℕ, inl, inr, List, [], ◌∷◌, ◌++◌, true, refl, sym, ap, ◌∙◌, subst, append_assoc, arith}
use Rattle.std.specs.List.{list_all}
use Rattle.std.proofs.lemmas.Bool.Decides.{nat_tests}
use Rattle.pr_text.specs.Texts.{more}
use Rattle.pr_text.proofs.Cut.{Ends, Lacks, Plain, Quoted, cut, cut_at, heads_same, is_not, is_plain, of_all, of_append, tails_same}
use Rattle.pr_text.proofs.Items.{nothing_here, nothing_there}
use Rattle.pr_text.proofs.Same.{of_list_all}

-- a field that a space or the line's end may follow
abbrev pub Closed : List ℕ → Type 0
Closed f = Plain f ⊎ Quoted f

abbrev pub AllClosed : List (List ℕ) → Type 0
AllClosed [] = Unit {0}
AllClosed (f ∷ fs) = Closed f × AllClosed fs

pub closed_append : (fs gs : List (List ℕ)) → AllClosed fs → AllClosed gs → AllClosed (fs ++ gs)
closed_append [] gs p q = q
closed_append (f ∷ fs) gs p q = (p.0, closed_append fs gs p.1 q)

-- a word of plain bytes
pub word : (w : List ℕ) → list_all is_plain w ≡ true → Closed w
word w e = inl (of_list_all is_plain w e)

more_ends : (fs : List (List ℕ)) → Ends is_plain (more 32 fs)
more_ends [] = tt
more_ends (f ∷ fs) = refl

no_quote : (fs : List (List ℕ)) (x : List ℕ) → more 32 fs ≡ 34 ∷ x → ⊥
no_quote [] x e = nothing_here 34 x e
no_quote (f ∷ fs) x e = bad (ap (first) e)
  where
    first : List ℕ → ℕ
    first [] = 0
    first (b ∷ bs) = b

    bad : (let c : ℕ = 32 in c) ≡ 34 → ⊥
    bad k = absurd (omega (arith, k))

mixed : (f g : List ℕ) (fs : List (List ℕ)) (s : List ℕ) → Plain f → Quoted g → f ++ more 32 fs ≡ g ++ s → ⊥
mixed f g fs s p q e =
    let r : f ++ more 32 fs ≡ 34 ∷ ((q.0 ++ 34 ∷ []) ++ s) = e ∙ ap (λ t. t ++ s) q.1 in
    no_quote fs ((q.0 ++ 34 ∷ []) ++ s) (cut is_plain f [] (more 32 fs) (34 ∷ ((q.0 ++ 34 ∷ []) ++ s)) p tt (more_ends fs) refl r).1

opened : (q r : List ℕ) (f : List ℕ) → f ≡ 34 ∷ (q ++ 34 ∷ []) → f ++ r ≡ 34 ∷ (q ++ 34 ∷ r)
opened q r f e = ap (λ t. t ++ r) e ∙ ap (λ t. 34 ∷ t) (append_assoc q (34 ∷ []) r)

one_field : (f g : List ℕ) (fs gs : List (List ℕ)) → Closed f → Closed g → f ++ more 32 fs ≡ g ++ more 32 gs → (f ≡ g) × (more 32 fs ≡ more 32 gs)
one_field f g fs gs (inl p) (inl q) e = cut is_plain f g (more 32 fs) (more 32 gs) p q (more_ends fs) (more_ends gs) e
one_field f g fs gs (inl p) (inr q) e = absurd (mixed f g fs (more 32 gs) p q e)
one_field f g fs gs (inr p) (inl q) e = absurd (mixed g f gs (more 32 fs) q p (sym e))
one_field f g fs gs (inr p) (inr q) e =
    let r : p.0 ++ 34 ∷ more 32 fs ≡ q.0 ++ 34 ∷ more 32 gs =
    tails_same 34 34 (p.0 ++ 34 ∷ more 32 fs) (q.0 ++ 34 ∷ more 32 gs) (sym (opened p.0 (more 32 fs) f p.1) ∙ e ∙ opened q.0 (more 32 gs) g q.1) in
    let c = cut_at 34 p.0 q.0 (more 32 fs) (more 32 gs) p.2 q.2 r in
    (p.1 ∙ ap (λ t. 34 ∷ (t ++ 34 ∷ [])) c.0 ∙ sym q.1, c.1)

pub fields_same : (fs gs : List (List ℕ)) → AllClosed fs → AllClosed gs → more 32 fs ≡ more 32 gs → fs ≡ gs
fields_same [] [] p q e = refl
fields_same [] (g ∷ gs) p q e = nothing_here 32 (g ++ more 32 gs) e
fields_same (f ∷ fs) [] p q e = nothing_there 32 (f ++ more 32 fs) e
fields_same (f ∷ fs) (g ∷ gs) p q e =
    let c = one_field f g fs gs p.0 q.0 (tails_same 32 32 (f ++ more 32 fs) (g ++ more 32 gs) e) in
    ap (λ t. t ∷ fs) c.0 ∙ ap (λ t. g ∷ t) (fields_same fs gs p.1 q.1 c.1)

-- the first word, and then the fields
pub sentence_same : (v w : List ℕ) (fs gs : List (List ℕ)) → Plain v → Plain w → AllClosed fs → AllClosed gs → v ++ more 32 fs ≡ w ++ more 32 gs → (v ≡ w) × (fs ≡ gs)
sentence_same v w fs gs a b p q e =
    let c = cut is_plain v w (more 32 fs) (more 32 gs) a b (more_ends fs) (more_ends gs) e in
    (c.0, fields_same fs gs p q c.1)

-- ---- lines

plain_line : (b : ℕ) → is_plain b ≡ true → is_not 10 b ≡ true
plain_line b e = grind (arith, nat_tests)

field_lacks : (f : List ℕ) → Closed f → Lacks 10 f
field_lacks f (inl p) = of_all is_plain (is_not 10) f plain_line p
field_lacks f (inr q) = subst (Lacks 10) (sym q.1) (refl, of_append (is_not 10) q.0 (34 ∷ []) q.3 (refl, tt))

more_lacks : (fs : List (List ℕ)) → AllClosed fs → Lacks 10 (more 32 fs)
more_lacks [] p = tt
more_lacks (f ∷ fs) p = (refl, of_append (is_not 10) f (more 32 fs) (field_lacks f p.0) (more_lacks fs p.1))

pub sentence_lacks : (w : List ℕ) (fs : List (List ℕ)) → Plain w → AllClosed fs → Lacks 10 (w ++ more 32 fs)
sentence_lacks w fs p q = of_append (is_not 10) w (more 32 fs) (of_all is_plain (is_not 10) w plain_line p) (more_lacks fs q)

-- the lines, each with its end
abbrev pub ended : List (List ℕ) → List ℕ
ended [] = []
ended (l ∷ ls) = l ++ 10 ∷ ended ls

abbrev pub AllLack : List (List ℕ) → Type 0
AllLack [] = Unit {0}
AllLack (l ∷ ls) = Lacks 10 l × AllLack ls

no_line : (l r : List ℕ) → [] ≡ l ++ 10 ∷ r → ⊥
no_line [] r e = nothing_here 10 r e
no_line (b ∷ l) r e = nothing_here b (l ++ 10 ∷ r) e

pub lines_same : (ls ms : List (List ℕ)) → AllLack ls → AllLack ms → ended ls ≡ ended ms → ls ≡ ms
lines_same [] [] p q e = refl
lines_same [] (m ∷ ms) p q e = absurd (no_line m (ended ms) e)
lines_same (l ∷ ls) [] p q e = absurd (no_line l (ended ls) (sym e))
lines_same (l ∷ ls) (m ∷ ms) p q e =
    let c = cut_at 10 l m (ended ls) (ended ms) p.0 q.0 e in
    ap (λ k. k ∷ ls) c.0 ∙ ap (λ k. m ∷ k) (lines_same ls ms p.1 q.1 c.1)

pub ended_more : (ls : List (List ℕ)) (l : List ℕ) → ended (ls ++ l ∷ []) ≡ ended ls ++ (l ++ 10 ∷ [])
ended_more [] l = refl
ended_more (m ∷ ls) l = ap (λ k. m ++ 10 ∷ k) (ended_more ls l) ∙ sym (append_assoc m (10 ∷ ended ls) (l ++ 10 ∷ []))

pub last_same : (ls ms : List (List ℕ)) (l m : List ℕ) → ls ++ l ∷ [] ≡ ms ++ m ∷ [] → (ls ≡ ms) × (l ≡ m)
last_same [] [] l m e = (refl, heads_same l m [] [] e)
last_same [] (m ∷ ms) l k e = absurd (empty ms k (tails_same l m [] (ms ++ k ∷ []) e))
  where
    empty : (ms : List (List ℕ)) (k : List ℕ) → [] ≡ ms ++ k ∷ [] → ⊥
    empty [] k e = nothing_here k [] e
    empty (m ∷ ms) k e = nothing_here m (ms ++ k ∷ []) e
last_same (l ∷ ls) [] k m e = absurd (empty ls k (sym (tails_same l m (ls ++ k ∷ []) [] e)))
  where
    empty : (ms : List (List ℕ)) (k : List ℕ) → [] ≡ ms ++ k ∷ [] → ⊥
    empty [] k e = nothing_here k [] e
    empty (m ∷ ms) k e = nothing_here m (ms ++ k ∷ []) e
last_same (l ∷ ls) (m ∷ ms) x y e =
    let c = last_same ls ms x y (tails_same l m (ls ++ x ∷ []) (ms ++ y ∷ []) e) in
    (ap (λ k. k ∷ ls) (heads_same l m (ls ++ x ∷ []) (ms ++ y ∷ []) e) ∙ ap (λ k. m ∷ k) c.0, c.1)

pub lack_more : (ls : List (List ℕ)) (l : List ℕ) → AllLack ls → Lacks 10 l → AllLack (ls ++ l ∷ [])
lack_more [] l p q = (q, tt)
lack_more (m ∷ ls) l p q = (p.0, lack_more ls l p.1 q)
