-- Lists of entries, and what a cell's list tells of them.
use Rattle.std.proofs.Common.{◌≡◌, ◌≢◌, ℕ, List, [], ◌∷◌, ◌++◌, All, refl, sym, ap}
use mathlib.Core.List.{head-eq_of_cons-eq, tail-eq_of_cons-eq}
use Rattle.std.proofs.lemmas.List.Elements.{All-nil, All-cons, All-head, All-tail}
use Rattle.pr_names.specs.Span.{Span}
use Rattle.pr_story.specs.declared.entry.Entry.{Entry}
use Rattle.pr_crew.specs.declared.story.Story.{Story}
use Rattle.pr_crew.specs.declared.story.Story.TheVariants.{Opened, Made}
use Rattle.pr_crew.specs.Making.{AreOthers}
use Rattle.pr_crew.specs.Stories.{caller_of, made}

-- ---- one story

abbrev entry_or : Entry → Story → Entry
entry_or d (Opened number sets journal) = d
entry_or d (Made e) = e

abbrev number_or : ℕ → Story → ℕ
number_or d (Opened number sets journal) = number
number_or d (Made e) = d

abbrev sets_or : List (List Span) → Story → List (List Span)
sets_or d (Opened number sets journal) = sets
sets_or d (Made e) = d

abbrev journal_or : List Entry → Story → List Entry
journal_or d (Opened number sets journal) = journal
journal_or d (Made e) = d

-- the same opening tells of the same node
pub same_opening : (n m : ℕ) (s t : List (List Span)) (j k : List Entry) → Opened n s j ≡ Opened m t k → (n ≡ m) × (s ≡ t) × (j ≡ k)
same_opening n m s t j k is = (ap (number_or n) is, ap (sets_or s) is, ap (journal_or j) is)

-- ---- many

pub made_append : (es fs : List Entry) → made (es ++ fs) ≡ made es ++ made fs
made_append [] fs = refl
made_append (e ∷ es) fs = ap (λ (xs : List Story). Made e ∷ xs) (made_append es fs)

pub same_made : (es fs : List Entry) → made es ≡ made fs → es ≡ fs
same_made [] [] is = refl
same_made [] (f ∷ fs) is = absurd (cc)
same_made (e ∷ es) [] is = absurd (cc)
same_made (e ∷ es) (f ∷ fs) is = λ i. ap (entry_or e) (head-eq_of_cons-eq is) i ∷ same_made es fs (tail-eq_of_cons-eq is) i

-- what is made of two parts is made of each
pub made_parts : (xs ys : List Story) (es : List Entry) → made es ≡ xs ++ ys → (a : List Entry) × (b : List Entry) × (xs ≡ made a) × (ys ≡ made b) × (es ≡ a ++ b)
made_parts [] ys es is = ([], es, refl, sym is, refl)
made_parts (x ∷ xs) ys [] is = absurd (cc)
made_parts (x ∷ xs) ys (e ∷ es) is =
    let t = made_parts xs ys es (tail-eq_of_cons-eq is) in
    (e ∷ t.0, t.1, λ i. sym (head-eq_of_cons-eq is) i ∷ t.2 i, t.3, ap (λ (zs : List Entry). e ∷ zs) t.4)

-- what was made by callers that are not held is others'
pub made_others : (k : ℕ) (P : Story → Type 0) (es : List Entry) → ((x : Story) → P x → caller_of x ≢ k) → All P (made es) → AreOthers k es
made_others k P [] apart all = All-nil (λ e. e.caller ≢ k)
made_others k P (e ∷ es) apart all = All-cons (λ e. e.caller ≢ k) e es (apart (Made e) (All-head P (Made e) (made es) all)) (made_others k P es apart (All-tail P (Made e) (made es) all))
