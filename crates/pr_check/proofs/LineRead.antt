-- What is read of a line, and what it says.
use Rattle.std.proofs.Common.{◌≡◌, ℕ, ◌≤◌, Bool, true, false, cond, not, IsTrue, List, [], ◌∷◌, ◌++◌, length, get_or, Option, Some, None, Result, Ok, Err, refl, sym, ap, subst, ◌∙◌, arith, inl, inr}
use Rattle.std.specs.Prelude.{◌==◌, ◌↔◌, IfOk, codes}
use Rattle.std.specs.Str.{bytes_eq}
use Rattle.std.proofs.lemmas.Bool.{cases_lt}
use Rattle.std.proofs.lemmas.List.{append_cancel_right}
use Rattle.std.proofs.lemmas.Bool.Decides.{nat_tests}
use Rattle.pr_script.specs.declared.decl.Decl.{Decl}
use Rattle.pr_script.specs.declared.kind.Kind.TheVariants as kinds
use Rattle.pr_script.specs.Labels.{AreLabels, labels_of}
use Rattle.pr_script.specs.Printing.{label_text}
use Rattle.pr_script.proofs.Positions.{bytes_are, bytes_differ}
use Rattle.pr_story.specs.declared.event.Event.{Event}
use Rattle.pr_story.specs.declared.event.Event.TheVariants.{Wrote, Attached, Sent, Idle, Stale, Accepted, Gapped, Missing, Down, Answered, Behind, Moved, Cut, Dropped, Conflicts, State}
use Rattle.pr_text.specs.Lines.{body_fields, sentence, stamp_fields}
use Rattle.pr_text.specs.Numbers.{Has}
use Rattle.pr_text.specs.Texts.{more, vector_text}
use Rattle.pr_text.specs.declared.plain.line.Asked.TheVariants as asks
use Rattle.pr_text.proofs.Same.{is_label_of, label_some}
use Rattle.pr_check.specs.Events.{said_if, told_of}
use Rattle.pr_check.specs.Lines.{IsEventLine, IsLineOf, IsTellableAt, Says}
use Rattle.pr_check.specs.Said.{said_of}
use Rattle.pr_check.specs.declared.said.Said.TheVariants as said
use Rattle.pr_check.specs.Fields.{Fails}
use Rattle.pr_check.specs.declared.refusal.Refusal.{Refusal}
use Rattle.pr_check.specs.declared.refusal.Refusal.TheVariants as refusals
use Rattle.pr_check.specs.declared.said.Said.{Said}
use Rattle.pr_stamps.specs.declared.no_memory.NoMemory.{NoMemory}
use Rattle.pr_check.specs.declared.told.Told.{Told}
use Rattle.pr_check.proofs.EventsAgain.{seen, told_again}

some_bytes : (l : List ℕ) → (l ≡ [] → ⊥) → not (length l == 0) ≡ true
some_bytes [] some = absurd (some refl)
some_bytes (x ∷ xs) some = grind (arith, nat_tests)

no_bytes : (ls : List (List ℕ)) → length ls ≤ 0 → get_or ls 0 [] ≡ []
no_bytes [] l = refl
no_bytes (x ∷ xs) l = absurd (omega (arith, l))

pub has_node : (ds : List Decl) → AreLabels ds → (b : Bool) → b ≡ not (length (label_text kinds.Node ds 0) == 0) → IsTrue b ↔ Has ds kinds.Node 0
unfolding label_text
has_node ds a b e = elim (cases_lt 0 (length ls)) [
  | inl some ↦ (λ t. some, λ h. e ∙ some_bytes (label_text kinds.Node ds 0) (label_some (label_text kinds.Node ds 0) (is_label_of ds a kinds.Node 0 some)))
  | inr none ↦ (λ t. absurd (clash (sym t ∙ e ∙ ap (λ (l : List ℕ). not (length l == 0)) (no_bytes ls none))), λ h. absurd (omega (arith, h, none)))
]
  where
    ls : List (List ℕ)
    ls = labels_of kinds.Node ds

    clash : true ≡ not (0 == 0) → ⊥
    clash p = cc

-- ---- what is read shows the event

body_seen : (g : Bool) (body : List ℕ) → cond g [] (cond g [] body) ≡ cond g [] body
body_seen true body = refl
body_seen false body = refl

pub said_seen : (n : ℕ) (e : Event) → said_of (seen n e).node (seen n e).event ≡ said_of n e
said_seen n (Wrote client write body after) = ap (λ (b : List ℕ). said.Asked (asks.Write client write.name b write.gone)) (body_seen write.gone body)
said_seen n (Attached s at) = refl
said_seen n (Sent msg) = refl
said_seen n (Idle s) = refl
said_seen n (Stale s cut) = refl
said_seen n (Accepted msg at) = refl
said_seen n (Gapped msg has) = refl
said_seen n (Missing s number) = refl
said_seen n (Down s cause) = refl
said_seen n (Answered client name reply at) = refl
said_seen n (Behind client needs has) = refl
said_seen n (Moved client) = refl
said_seen n (Cut at) = refl
said_seen n (Dropped name) = refl
said_seen n (Conflicts name found) = refl
said_seen n (State at cut floor precise) = refl

body_shown : (ds : List Decl) (g : Bool) (body : List ℕ) → body_fields ds g (cond g [] body) ≡ body_fields ds g body
body_shown ds true body = refl
body_shown ds false body = refl

pub text_seen : (ds : List Decl) (n : ℕ) (e : Event) → sentence ds (seen n e).node (seen n e).event ≡ sentence ds n e
text_seen ds n (Wrote client write body after) =
    ap (λ (fs : List (List ℕ)). cond write.gone (codes "delete") (codes "write") ++ more 32 (label_text kinds.Client ds client ∷ write.name ∷ (fs ++ (stamp_fields ds write ++ codes "after" ∷ vector_text ds after ∷ []))))
    (body_shown ds write.gone body)
text_seen ds n (Attached s at) = refl
text_seen ds n (Sent msg) = refl
text_seen ds n (Idle s) = refl
text_seen ds n (Stale s cut) = refl
text_seen ds n (Accepted msg at) = refl
text_seen ds n (Gapped msg has) = refl
text_seen ds n (Missing s number) = refl
text_seen ds n (Down s cause) = refl
text_seen ds n (Answered client name reply at) = refl
text_seen ds n (Behind client needs has) = refl
text_seen ds n (Moved client) = refl
text_seen ds n (Cut at) = refl
text_seen ds n (Dropped name) = refl
text_seen ds n (Conflicts name found) = refl
text_seen ds n (State at cut floor precise) = refl

-- ---- the line

without_last : (xs ys : List ℕ) (z : ℕ) → xs ++ z ∷ [] ≡ ys ++ z ∷ [] → xs ≡ ys
without_last xs ys z e = append_cancel_right xs ys (z ∷ []) e

not_same : {A : Type 0} (b : Bool) → b ≡ true → b ≡ false → A
not_same b e f = cc

told_is : (x y : Told) → (let o : Option Told = Some x in o) ≡ Some y → x ≡ y
told_is x y e = cc

none_told : (x : Told) → (let o : Option Told = None in o) ≡ Some x → ⊥
none_told x e = cc

module _ (ds : List Decl) (a : AreLabels ds) (line : List ℕ) where
  -- an event with this line is read of it
  read : (n : ℕ) (e : Event) → IsLineOf ds line n e → (sentence ds n e ≡ line) × (told_of ds line ≡ Some (seen n e))
  read n e l =
      let s : sentence ds n e ≡ line = without_last (sentence ds n e) line 10 l.1 in
      (s, ap (told_of ds) (sym s) ∙ told_again ds a n e l.0)

  pub says_none : told_of ds line ≡ None → IsEventLine ds line → ⊥
  says_none r l = none_told (seen l.0 l.1) (sym r ∙ (read l.0 l.1 l.2).1)

  pub says : (x : Told) → told_of ds line ≡ Some x → IsTellableAt ds x.node x.event → Says ds line (said_if ds x.node x.event line)
  says x r t = by (bytes_eq (sentence ds x.node x.event) line) refl
    where
      same : (n : ℕ) (e : Event) → IsLineOf ds line n e → x ≡ seen n e
      same n e l = told_is x (seen n e) (sym r ∙ (read n e l).1)

      said_same : (n : ℕ) (e : Event) → IsLineOf ds line n e → said_of n e ≡ said_of x.node x.event
      said_same n e l = sym (said_seen n e) ∙ ap (λ (y : Told). said_of y.node y.event) (sym (same n e l))

      text_same : (n : ℕ) (e : Event) → IsLineOf ds line n e → sentence ds x.node x.event ≡ line
      text_same n e l = ap (λ (y : Told). sentence ds y.node y.event) (same n e l) ∙ text_seen ds n e ∙ (read n e l).0

      by : (b : Bool) → bytes_eq (sentence ds x.node x.event) line ≡ b → Says ds line (cond b (Some (said_of x.node x.event)) None)
      by true e = ((x.node, x.event, (t, ap (λ (b : List ℕ). b ++ 10 ∷ []) (bytes_are (sentence ds x.node x.event) line e))), said_same)
      by false e = λ l. not_same (bytes_eq (sentence ds x.node x.event) line) (bytes_differ (sentence ds x.node x.event) line (text_same l.0 l.1 l.2)) e

  pub says_nothing : (list : List Decl) (why : Refusal) → list ≡ ds → why ≡ refusals.Unread → Fails why (told_of list line) → IsEventLine ds line → ⊥
  says_nothing list why e u r =
      says_none (ap (λ (l : List Decl). told_of l line) (sym e) ∙ subst (λ (w : Refusal). Fails w (told_of list line)) u r)

  pub says_if : (list : List Decl) (x : Told) → list ≡ ds → told_of list line ≡ Some x → IsTellableAt list x.node x.event → (r : Result (Option Said) NoMemory)
      → IfOk r (λ s. s ≡ said_if ds x.node x.event line) → IfOk r (Says ds line)
  says_if list x e t h (Ok s) i =
      subst (Says ds line) (sym i) (says x (ap (λ (l : List Decl). told_of l line) (sym e) ∙ t) (subst (λ (l : List Decl). IsTellableAt l x.node x.event) e h))
  says_if list x e t h (Err f) i = i
