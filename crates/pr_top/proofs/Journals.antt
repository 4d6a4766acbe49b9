-- The journals of the nodes, as a file has their entries.
use Rattle.std.proofs.Common.{◌≡◌, ◌≢◌, ℕ, ◌<◌, List, [], ◌∷◌, ◌++◌, refl, sym, ◌∙◌, ap, subst, arith, get_or, get_or-set_other, get_or-set_same, length, length-set, reverse, set}
use Rattle.std.specs.Prelude.{Bool, true, false, cond, nat_eq}
use Rattle.std.proofs.lemmas.Bool.Decides.{nat_tests}
use Rattle.std.proofs.lemmas.List.{append-nil, reverse-append}
use Rattle.pr_stamps.specs.Kept.{Kept}
use Rattle.pr_story.specs.declared.entry.Entry.{Entry}
use Rattle.pr_story.specs.History.{NodeEntry, journal}
use Rattle.pr_top.specs.Kept.{placed}
use Rattle.pr_top.proofs.KeptEntries.{placed_append}

-- the entries of node n among these, in their order
abbrev pub own_of : ℕ → List (ℕ × Entry) → List Entry
own_of n [] = []
own_of n (p ∷ ps) = cond (nat_eq p.0 n) (p.1 ∷ own_of n ps) (own_of n ps)

own_append : (n : ℕ) (ps qs : List (ℕ × Entry)) → own_of n (ps ++ qs) ≡ own_of n ps ++ own_of n qs
own_append n [] qs = refl
own_append n (p ∷ ps) qs = by (nat_eq p.0 n) (own_append n ps qs)
  where
    by : (b : Bool) → own_of n (ps ++ qs) ≡ own_of n ps ++ own_of n qs
        → cond b (p.1 ∷ own_of n (ps ++ qs)) (own_of n (ps ++ qs)) ≡ cond b (p.1 ∷ own_of n ps) (own_of n ps) ++ own_of n qs
    by true rest = ap (λ (es : List Entry). p.1 ∷ es) rest
    by false rest = rest

-- they are its journal
pub own_journal : (h : List NodeEntry) (n : ℕ) → reverse (own_of n (placed (reverse h))) ≡ journal h n
own_journal [] n = refl
own_journal (e ∷ h) n =
    ap (λ (es : List NodeEntry). reverse (own_of n (placed es))) (reverse-append (e ∷ []) h)
    ∙ ap (λ (ps : List (ℕ × Entry)). reverse (own_of n ps)) (placed_append (reverse h) (e ∷ []))
    ∙ ap (λ (es : List Entry). reverse es) (own_append n (placed (reverse h)) (placed (e ∷ [])))
    ∙ by (nat_eq e.node n) (own_journal h n)
  where
    by : (b : Bool) → reverse (own_of n (placed (reverse h))) ≡ journal h n
        → reverse (own_of n (placed (reverse h)) ++ cond b (e.entry ∷ []) []) ≡ cond b (e.entry ∷ journal h n) (journal h n)
    by true rest = reverse-append (own_of n (placed (reverse h))) (e.entry ∷ []) ∙ ap (λ (es : List Entry). e.entry ∷ es) rest
    by false rest = ap (λ (es : List Entry). reverse es) (append-nil (own_of n (placed (reverse h)))) ∙ rest

-- ---- entry after entry

-- the journals have what these entries gave
abbrev pub HaveTaken : List (Kept Entry) → List (ℕ × Entry) → Type 0
HaveTaken journals ps = (n : ℕ) (d : Kept Entry) → n < length journals → (get_or journals n d).items ≡ own_of n ps

own_here : (n : ℕ) (e : Entry) → own_of n ((n, e) ∷ []) ≡ e ∷ []
own_here n e = by (nat_eq n n) (grind (arith, nat_tests))
  where
    by : (b : Bool) → b ≡ true → cond b (e ∷ []) [] ≡ e ∷ []
    by true is = refl
    by false is = absurd (cc)

own_there : (n : ℕ) (p : ℕ × Entry) → p.0 ≢ n → own_of n (p ∷ []) ≡ []
own_there n p ne = by (nat_eq p.0 n) (grind (arith, nat_tests))
  where
    by : (b : Bool) → b ≡ false → cond b (p.1 ∷ []) [] ≡ []
    by true is = absurd (cc)
    by false is = refl

-- one entry more goes to its node's journal
pub one_taken : (journals : List (Kept Entry)) (ps : List (ℕ × Entry)) (node : ℕ) (e : Entry) (new : Kept Entry) (d : Kept Entry) → HaveTaken journals ps → node < length journals
    → new.items ≡ (get_or journals node d).items ++ e ∷ [] → HaveTaken (set journals node new) (ps ++ (node, e) ∷ [])
one_taken journals ps node e new d have lt is n c within = by (nat_eq node n) refl
  where
    long : length (set journals node new) ≡ length journals
    long = length-set journals node new

    by : (b : Bool) → nat_eq node n ≡ b → (get_or (set journals node new) n c).items ≡ own_of n (ps ++ (node, e) ∷ [])
    by true same =
        let eq : node ≡ n = grind (arith, nat_tests) in
        subst (λ (m : ℕ). (get_or (set journals node new) m c).items ≡ own_of m (ps ++ (node, e) ∷ [])) eq
        (ap (λ (x : Kept Entry). x.items) (get_or-set_same journals node new c lt) ∙ is ∙ ap (λ (es : List Entry). es ++ e ∷ []) (have node d lt)
        ∙ ap (λ (es : List Entry). own_of node ps ++ es) (sym (own_here node e)) ∙ sym (own_append node ps ((node, e) ∷ [])))
    by false other =
        let ne : node ≢ n = grind (arith, nat_tests) in
        let away : n ≢ node = λ is. ne (sym is) in
        let there : n < length journals = omega (arith, long, within) in
        ap (λ (x : Kept Entry). x.items) (get_or-set_other journals node n new c away) ∙ have n c there
        ∙ sym (append-nil (own_of n ps)) ∙ ap (λ (es : List Entry). own_of n ps ++ es) (sym (own_there n (node, e) ne)) ∙ sym (own_append n ps ((node, e) ∷ []))

-- all were taken
pub all_taken : (journals : List (Kept Entry)) (h : List NodeEntry) (ps : List (ℕ × Entry)) → HaveTaken journals ps → ps ≡ placed (reverse h)
    → (n : ℕ) (d : Kept Entry) → n < length journals → reverse (get_or journals n d).items ≡ journal h n
all_taken journals h ps have is n d lt =
    ap (λ (es : List Entry). reverse es) (have n d lt) ∙ ap (λ (qs : List (ℕ × Entry)). reverse (own_of n qs)) is ∙ own_journal h n
