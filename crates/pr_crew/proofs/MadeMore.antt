-- What a job knows of its pass, once it has made one entry more, and once others have.
use Rattle.std.proofs.Common.{◌≡◌, ◌≢◌, ◌⊎◌, ℕ, List, [], ◌∷◌, ◌++◌, Contains, inl, inr, refl, sym, ap, ◌∙◌, subst, eqb, cond, append-nil}
use Rattle.std.specs.Prelude.{Bool}
use mathlib.Core.List.{head-eq_of_cons-eq, tail-eq_of_cons-eq}
use Rattle.std.proofs.lemmas.List.Elements.{All-contains, All-push, Contains-append_left, Contains-append_right, filter-append}
use Rattle.std.proofs.lemmas.Bool.Decides.{Decides-eqb}
use Rattle.pr_cell.proofs.Basics.{filter_none}
use Rattle.pr_inval.specs.declared.node_fault.NodeFault.{NodeFault}
use Rattle.pr_node.specs.Stored.{NodeMeaning}
use Rattle.pr_story.specs.declared.entry.Entry.{Entry}
use Rattle.pr_story.specs.History.{NodeEntry, Plan}
use Rattle.pr_story.specs.Merging.{New, just}
use Rattle.pr_story.proofs.Sorted.{is_first}
use Rattle.pr_crew.specs.Jobs.{IsNew, MadeAt, own}
use Rattle.pr_crew.specs.Making.{AreOthers, HasFailed, HasMade, NodePass}
use Rattle.pr_crew.proofs.Entries.{same_made}

just_append : (xs ys : List New) → just (xs ++ ys) ≡ just xs ++ just ys
just_append [] ys = refl
just_append (x ∷ xs) ys = ap (λ (es : List Entry). x.made.entry ∷ es) (just_append xs ys)

pub own_others : (k : ℕ) (es others : List Entry) → AreOthers k others → own k (es ++ others) ≡ own k es
own_others k es others apart =
    filter-append (λ (e : Entry). eqb e.caller k) es others
    ∙ ap (λ (l : List Entry). own k es ++ l) (filter_none (λ (e : Entry). e.caller) k others apart) ∙ append-nil (own k es)

pub own_one : (k : ℕ) (es : List Entry) (e : Entry) → e.caller ≡ k → own k (es ++ e ∷ []) ≡ own k es ++ e ∷ []
own_one k es e by =
    filter-append (λ (e : Entry). eqb e.caller k) es (e ∷ [])
    ∙ ap (λ (b : Bool). own k es ++ cond b (e ∷ []) []) ((Decides-eqb e.caller k).1 by)

-- an entry of two lists stands in the one or in the other
pub place : (a b before after : List Entry) (e : Entry) → a ++ b ≡ before ++ e ∷ after
    → ((rest : List Entry) × (a ≡ before ++ e ∷ rest)) ⊎ ((front : List Entry) × (b ≡ front ++ e ∷ after) × (before ≡ a ++ front))
place [] b before after e is = inr (before, is, refl)
place (x ∷ a) b [] after e is = inl (a, ap (λ (y : Entry). y ∷ a) (head-eq_of_cons-eq is))
place (x ∷ a) b (y ∷ before) after e is = elim (place a b before after e (tail-eq_of_cons-eq is)) [
  | inl h ↦ inl (h.0, λ i. head-eq_of_cons-eq is i ∷ h.1 i)
  | inr h ↦ inr (h.0, h.1, λ i. sym (head-eq_of_cons-eq is) i ∷ h.2 i)
]

only : (front after : List Entry) (e f : Entry) → e ∷ [] ≡ front ++ f ∷ after → (front ≡ []) × (e ≡ f)
only [] after e f is = (refl, head-eq_of_cons-eq is)
only (x ∷ []) after e f is = absurd (cc)
only (x ∷ y ∷ front) after e f is = absurd (cc)

module _ (plan : Plan) (h : List NodeEntry) (n k : ℕ) where
  abbrev Each : List Entry → List New → Type 0
  Each all xs = (before : List Entry) (e : Entry) (after : List Entry) → all ≡ before ++ e ∷ after → e.caller ≡ k → (x : New) × Contains xs x × IsNew plan h n before e x

  each_others : (all others : List Entry) (xs : List New) → AreOthers k others → Each all xs → Each (all ++ others) xs
  each_others all others xs apart each before e after is by = elim (place all others before after e is) [
    | inl m ↦ each before e m.0 m.1 by
    | inr m ↦ absurd (All-contains (λ e. e.caller ≢ k) others e apart (subst (λ (l : List Entry). Contains l e) (sym m.1) (Contains-append_right m.0 (e ∷ after) e (is_first e after))) by)
  ]

  each_one : (all : List Entry) (xs : List New) (f : Entry) (x : New) → IsNew plan h n all f x → Each all xs → Each (all ++ f ∷ []) (xs ++ x ∷ [])
  each_one all xs f x new each before e after is by = elim (place all (f ∷ []) before after e is) [
    | inl m ↦ let y = each before e m.0 m.1 by in (y.0, Contains-append_left xs (x ∷ []) y.0 y.1, y.2)
    | inr m ↦ let o = only m.0 after f e m.1 in
        let b : all ≡ before = sym (append-nil all) ∙ ap (λ (l : List Entry). all ++ l) (sym o.0) ∙ sym m.2 in
        (x, Contains-append_right xs (x ∷ []) x (is_first x []), subst (λ (z : List Entry × Entry). IsNew plan h n z.0 z.1 x) (λ i. (b i, o.1 i)) new)
  ]

-- others' entries change nothing
pub made_still : (plan : Plan) (h : List NodeEntry) (n : ℕ) (Cause : NodeMeaning → Type 0) (fault : NodeFault) (p q : NodePass) (xs : List New) → HasFailed plan h n Cause fault p q → MadeAt plan h n p xs → MadeAt plan h n q xs
made_still plan h n Cause fault p q xs f m =
    let k = p.number in
    let same : m.all ≡ f.before = same_made m.all f.before (sym m.seen ∙ f.was) in
    let each : Each plan h n k (f.before ++ f.others) xs = each_others plan h n k f.before f.others xs f.apart (subst (λ (l : List Entry). Each plan h n k l xs) same m.each) in
    record {
      all = f.before ++ f.others;
      seen = f.now;
      here = m.here;
      own_are = ap (λ (j : ℕ). own j (f.before ++ f.others)) f.same.number ∙ own_others k f.before f.others f.apart ∙ ap (own k) (sym same) ∙ m.own_are;
      each = λ before e after is by. each before e after is (by ∙ f.same.number);
    }

-- an entry more is one of the job's
pub made_more : (plan : Plan) (h : List NodeEntry) (n : ℕ) (p q : NodePass) (xs : List New) (x : New) (P : Entry → Type 0) (f : HasMade plan h n (λ s. x.session) (λ c. x.needs) P p q)
    → x.made ≡ record { node = n; entry = f.entry } → MadeAt plan h n p xs → MadeAt plan h n q (xs ++ x ∷ [])
made_more plan h n p q xs x P f is m =
    let k = p.number in
    let same : m.all ≡ f.before = same_made m.all f.before (sym m.seen ∙ f.was) in
    let all = f.before ++ f.others in
    let each : Each plan h n k all xs = each_others plan h n k f.before f.others xs f.apart (subst (λ (l : List Entry). Each plan h n k l xs) same m.each) in
    let more : Each plan h n k (all ++ f.entry ∷ []) (xs ++ x ∷ []) = each_one plan h n k all xs f.entry x (record { made = is; lawful = f.lawful }) each in
    record {
      all = all ++ f.entry ∷ [];
      seen = f.now;
      here = All-push (λ y. y.made.node ≡ n) xs x m.here (ap (λ (e : NodeEntry). e.node) is);
      own_are = ap (λ (j : ℕ). own j (all ++ f.entry ∷ [])) f.same.number ∙ own_one k all f.entry f.by
          ∙ ap (λ (l : List Entry). l ++ f.entry ∷ []) (own_others k f.before f.others f.apart ∙ ap (own k) (sym same) ∙ m.own_are)
          ∙ ap (λ (e : NodeEntry). just xs ++ e.entry ∷ []) (sym is) ∙ sym (just_append xs (x ∷ []));
      each = λ before e after is by. more before e after is (by ∙ f.same.number);
    }
