-- What the head lines declare, and one line more.
use Rattle.std.proofs.Common.{◌≡◌, ◌⊎◌, ℕ, ◌+◌, Bool, true, false, cond, List, [], ◌∷◌, ◌++◌, length, inl, inr, Option, Some, None, Result, Ok, Err, refl, sym, ap, subst, ◌∙◌, append_assoc, arith, eqb, length-append}
use Rattle.std.specs.Prelude.{IfOk, IfSome, is_some, nat_eq, ◌||◌, ◌&&◌}
use Rattle.std.specs.List.{flat_map}
use Rattle.std.specs.Str.{bytes_eq}
use Rattle.std.proofs.lemmas.Bool.{eqb-true}
use Rattle.std.proofs.lemmas.Bool.Decides.{nat_tests}
use Rattle.std.proofs.lemmas.Grind.{flat_map-append}
use Rattle.std.proofs.lemmas.List.{append-nil, append_cancel_left, append_cancel_right}
use Rattle.std.proofs.lemmas.List.Concat.{flat_map-cons}
use Rattle.pr_script.specs.declared.decl.Decl.{Decl}
use Rattle.pr_script.specs.Listed.{Declarations}
use Rattle.pr_script.specs.declared.item.Item.{Item}
use Rattle.pr_script.specs.declared.item.Item.TheVariants as items
use Rattle.pr_script.specs.declared.script.Script.{Script}
use Rattle.pr_script.specs.declared.fault.ScriptFault.{ScriptFault}
use Rattle.pr_script.specs.declared.fault.ScriptFault.TheVariants as faults
use Rattle.pr_script.specs.Answers.{Answers}
use Rattle.pr_script.specs.Labels.{AreLabels}
use Rattle.pr_script.specs.Lines.{line_item}
use Rattle.pr_script.specs.Printing.{decl_lines, decl_text}
use Rattle.pr_script.specs.Reading.{HasNoEnd, Means, Sofar, StandsFor, after, all_lines, answer_of, ended, is_skipped, next, passed, script_of, start, told, unless_fault}
use Rattle.pr_script.proofs.Accepted.{have_labels}
use Rattle.pr_script.proofs.Folds.{after_push, one_byte, one_end}
use Rattle.pr_script.proofs.OneCut.{one_meaning}
use Rattle.pr_script.proofs.Positions.{bytes_are, bytes_differ}
use Rattle.pr_script.proofs.WholeScript.{push_decl}
use Rattle.pr_stamps.specs.declared.no_memory.NoMemory.{NoMemory}
use Rattle.pr_text.specs.Heads.{heads_text}
use Rattle.pr_check.specs.Heads.{AreAccepted, Declares, IsHead, more_if}

-- ---- declarations are only added

abbrev Grows : Sofar → Sofar → Type 0
Grows f g = (extra : List Decl) × (g.known.decls ≡ f.known.decls ++ extra)

stays : (f : Sofar) → Grows f f
stays f = ([], sym (append-nil f.known.decls))

grows_on : (f g h : Sofar) → Grows f g → Grows g h → Grows f h
grows_on f g h a b = (a.0 ++ b.0, b.1 ∙ ap (λ (ds : List Decl). ds ++ b.0) a.1 ∙ append_assoc f.known.decls a.0 b.0)

told_grows : (f : Sofar) (r : Result Item ℕ) → Grows f (told f r)
told_grows f (Ok (items.Decl d)) = (d ∷ [], refl)
told_grows f (Ok (items.Command c)) = ([], sym (append-nil f.known.decls))
told_grows f (Err why) = ([], sym (append-nil f.known.decls))

next_grows : (f : Sofar) (line : List ℕ) → Grows f (next f line)
unfolding next
next_grows f line = by (is_some f.fault || is_skipped line)
  where
    by : (b : Bool) → Grows f (cond b (passed f) (told f (line_item f.known line)))
    by true = ([], sym (append-nil f.known.decls))
    by false = told_grows f (line_item f.known line)

-- what stands for bytes, and has grown from what stood for fewer
record HasRead (f : Sofar) (bytes : List ℕ) : Type 0 where
  sofar : Sofar
  rest : List ℕ
  stands : StandsFor sofar rest bytes
  grows : Grows f sofar

read_byte : (f : Sofar) (before : List ℕ) (b : ℕ) (t : Bool) → eqb b 10 ≡ t → HasRead f before → HasRead f (before ++ b ∷ [])
read_byte f before b true e r = record {
  sofar = next r.sofar r.rest;
  rest = [];
  stands = one_end r.sofar (next r.sofar r.rest) r.rest [] before b (eqb-true b 10 e) refl refl r.stands;
  grows = grows_on f r.sofar (next r.sofar r.rest) r.grows (next_grows r.sofar r.rest);
}
read_byte f before b false e r = record {
  sofar = r.sofar;
  rest = r.rest ++ b ∷ [];
  stands = one_byte r.sofar r.rest before b (grind (arith, nat_tests)) r.stands;
  grows = r.grows;
}

read_all : (f : Sofar) (before bytes : List ℕ) → HasRead f before → HasRead f (before ++ bytes)
read_all f before [] r = subst (HasRead f) (sym (append-nil before)) r
read_all f before (b ∷ bytes) r = subst (HasRead f) (append_assoc before (b ∷ []) bytes) (read_all f (before ++ b ∷ []) bytes (read_byte f before b (eqb b 10) refl r))

-- ---- what is answered

unless_ok : (o p : Option (ℕ × ℕ)) (s t : Script) → unless_fault o (unless_fault p (Ok s)) ≡ Ok t → s ≡ t
unless_ok None None s t e = cc
unless_ok None (Some x) s t e = absurd cc
unless_ok (Some x) p s t e = absurd cc

answered : (f : Sofar) (s : Script) → answer_of f ≡ Ok s → f.known.decls ≡ s.decls.list
answered f s e = ap (λ (t : Script). t.decls.list) (unless_ok f.fault _ (script_of f) s e)

last_grows : (f g : Sofar) (lines : List (List ℕ)) (rest : List ℕ) → g ≡ after start lines → Grows f g → Grows f (after start (all_lines lines rest))
last_grows f g lines [] e r = subst (λ (h : Sofar). Grows f h) e r
last_grows f g lines (b ∷ bs) e r =
    subst (λ (h : Sofar). Grows f h) (sym (after_push start lines (b ∷ bs)))
    (grows_on f (after start lines) (next (after start lines) (b ∷ bs)) (subst (λ (h : Sofar). Grows f h) e r) (next_grows (after start lines) (b ∷ bs)))

-- a script's declarations begin with those of the lines that it begins with
begins : (f : Sofar) (before bytes : List ℕ) (s : Script) → StandsFor f [] before → Means (before ++ bytes) (Ok s) → (extra : List Decl) × (s.decls.list ≡ f.known.decls ++ extra)
begins f before bytes s stands means =
    let r = read_all f before bytes (record { sofar = f; rest = []; stands = stands; grows = stays f }) in
    let lines = r.stands.0 in
    let g = last_grows f r.sofar lines r.rest r.stands.2 r.grows in
    let same = one_meaning (before ++ bytes) (answer_of (after start (all_lines lines r.rest))) (Ok s) (lines, r.rest, r.stands.1, refl) means in
    (g.0, sym (answered (after start (all_lines lines r.rest)) s same) ∙ g.1)

-- ---- the head lines end

abbrev IsEnded : List ℕ → Type 0
IsEnded t = (t ≡ []) ⊎ ((u : List ℕ) × (t ≡ u ++ 10 ∷ []))

ended_more : (line t : List ℕ) → IsEnded t → IsEnded (ended line ++ t)
ended_more line t (inl e) = inr (line, ap (λ (r : List ℕ). ended line ++ r) e ∙ append-nil (ended line))
ended_more line t (inr (u, e)) = inr (ended line ++ u, ap (λ (r : List ℕ). ended line ++ r) e ∙ sym (append_assoc (ended line) u (10 ∷ [])))

all_ended : (lines : List (List ℕ)) → IsEnded (flat_map ended lines)
all_ended [] = inl refl
all_ended (l ∷ ls) = subst IsEnded (sym (flat_map-cons ended l ls)) (ended_more l (flat_map ended ls) (all_ended ls))

no_end : (u r : List ℕ) → HasNoEnd r → u ++ 10 ∷ [] ≡ r → ⊥
no_end [] [] h e = cc
no_end [] (c ∷ r) h e = h.0 cc
no_end (d ∷ u) [] h e = cc
no_end (d ∷ u) (c ∷ r) h e = no_end u r h.1 cc

no_more : (v r : List ℕ) → v ++ r ≡ [] → r ≡ []
no_more [] r e = e
no_more (c ∷ v) r e = absurd cc

none_behind : (u v r : List ℕ) → HasNoEnd r → u ++ 10 ∷ [] ≡ v ++ r → r ≡ []
none_behind u [] r h e = absurd (no_end u r h e)
none_behind [] (c ∷ v) r h e = no_more v r (sym cc)
none_behind (d ∷ u) (c ∷ v) r h e = none_behind u v r h cc

nothing_left : (t v r : List ℕ) → HasNoEnd r → IsEnded t → t ≡ v ++ r → r ≡ []
nothing_left t v r h (inl n) e = no_more v r (sym e ∙ n)
nothing_left t v r h (inr (u, m)) e = none_behind u v r h (sym m ∙ e)

-- accepted declarations are all that is known after their head lines
stands_for : (ds : List Decl) → AreAccepted ds → (f : Sofar) × StandsFor f [] (heads_text ds) × (f.known.decls ≡ ds)
stands_for ds (s, (lines, rest, cut, e), is) =
    let none : rest ≡ [] = nothing_left (heads_text ds) (flat_map ended lines) rest cut.last (all_ended (decl_lines [] ds)) cut.whole in
    let f = after start lines in (
      f,
      subst (λ (r : List ℕ). StandsFor f r (heads_text ds)) none (lines, cut, refl),
      answered f s (sym (e ∙ ap (λ (r : List ℕ). answer_of (after start (all_lines lines r))) none)) ∙ is,
    )

pub none_accepted : AreAccepted []
unfolding decl_lines
none_accepted = (script_of start, ([], [], record { whole = refl; each = tt; last = tt }, refl), refl)

pub none_labels : AreLabels []
none_labels = subst AreLabels none_accepted.2 (have_labels (heads_text []) none_accepted.0 none_accepted.1)

-- ---- one head line more

heads_more : (ds : List Decl) (d : Decl) → heads_text (ds ++ d ∷ []) ≡ heads_text ds ++ (decl_text ds d ++ 10 ∷ [])
heads_more ds d =
    ap (flat_map ended) (push_decl [] ds d)
    ∙ flat_map-append ended (decl_lines [] ds) (decl_text ds d ∷ [])
    ∙ ap (λ (t : List ℕ). heads_text ds ++ t) (flat_map-cons ended (decl_text ds d) [] ∙ append-nil (ended (decl_text ds d)))

one_item : (n : ℕ) (ds xs extra : List Decl) → xs ≡ ds ++ extra → length xs ≡ length ds + 1 → (d : Decl) × (extra ≡ d ∷ [])
one_item n ds xs [] e l = absurd (omega (arith, l, ap length e, length-append ds []))
one_item n ds xs (d ∷ []) e l = (d, refl)
one_item n ds xs (d ∷ c ∷ more) e l = absurd (omega (arith, l, ap length e, length-append ds (d ∷ c ∷ more)))

both : (a b : Bool) → (a && b) ≡ true → (a ≡ true) × (b ≡ true)
both true b e = (refl, e)
both false b e = absurd cc

of_both : (a b : Bool) → a ≡ true → b ≡ true → (a && b) ≡ true
of_both true b p q = q
of_both false b p q = absurd cc

same_number : (m n : ℕ) → nat_eq m n ≡ true → m ≡ n
same_number m n e = grind (arith, nat_tests)

number_same : (m n : ℕ) → m ≡ n → nat_eq m n ≡ true
number_same m n e = grind (arith, nat_tests)

never : {A : Type 0} (b : Bool) → b ≡ true → b ≡ false → A
never b p q = cc

one_script : (s t : Script) → (let r : Result Script (ℕ × ℕ) = Ok s in r) ≡ Ok t → s ≡ t
one_script s t e = cc

no_script : (x : ℕ × ℕ) (t : Script) → (let r : Result Script (ℕ × ℕ) = Err x in r) ≡ Ok t → ⊥
no_script x t e = cc

module _ (ds : List Decl) (a : AreAccepted ds) (line : List ℕ) where
  abbrev text : List ℕ
  text = heads_text ds ++ (line ++ 10 ∷ [])

  whole : (d : Decl) → IsHead ds line d → heads_text (ds ++ d ∷ []) ≡ text
  whole d h = heads_more ds d ∙ ap (λ (t : List ℕ). heads_text ds ++ (t ++ 10 ∷ [])) (sym h.text)

  meant : (d : Decl) → (h : IsHead ds line d) → Means text (Ok h.accepted.0)
  meant d h = subst (λ (t : List ℕ). Means t (Ok h.accepted.0)) (whole d h) h.accepted.1

  pub no_head : (x : ℕ × ℕ) → Means text (Err x) → (d : Decl) → IsHead ds line d → ⊥
  no_head x m d h = no_script x h.accepted.0 (one_meaning text (Err x) (Ok h.accepted.0) m (meant d h))

  pub declares : (s : Script) → Means text (Ok s) → Declares ds line (more_if s.decls (length ds) text)
  declares s m = by (nat_eq (length s.decls.list) (length ds + 1) && bytes_eq (heads_text s.decls.list) text) refl
    where
      found : nat_eq (length s.decls.list) (length ds + 1) ≡ true → bytes_eq (heads_text s.decls.list) text ≡ true → Declares ds line (Some s.decls)
      found p q =
          let f = stands_for ds a in
          let b = begins f.0 (heads_text ds) (line ++ 10 ∷ []) s f.1 m in
          let front : s.decls.list ≡ ds ++ b.0 = b.1 ∙ ap (λ (xs : List Decl). xs ++ b.0) f.2 in
          let one = one_item 0 ds s.decls.list b.0 front (same_number (length s.decls.list) (length ds + 1) p) in
          let is : s.decls.list ≡ ds ++ one.0 ∷ [] = front ∙ ap (λ (xs : List Decl). ds ++ xs) one.1 in
          let printed : heads_text (ds ++ one.0 ∷ []) ≡ text = ap heads_text (sym is) ∙ bytes_are (heads_text s.decls.list) text q in
          let same : line ≡ decl_text ds one.0 = append_cancel_right line (decl_text ds one.0) (10 ∷ []) (append_cancel_left (heads_text ds) (line ++ 10 ∷ []) (decl_text ds one.0 ++ 10 ∷ []) (sym printed ∙ heads_more ds one.0)) in
          (one.0, is, record { accepted = (s, subst (λ (t : List ℕ). Means t (Ok s)) (sym printed) m, is); text = same })

      missed : (nat_eq (length s.decls.list) (length ds + 1) && bytes_eq (heads_text s.decls.list) text) ≡ false → (d : Decl) → IsHead ds line d → ⊥
      missed e d h =
          let same : s ≡ h.accepted.0 = one_script s h.accepted.0 (one_meaning text (Ok s) (Ok h.accepted.0) m (meant d h)) in
          let is : s.decls.list ≡ ds ++ d ∷ [] = ap (λ (t : Script). t.decls.list) same ∙ h.accepted.2 in
          let count : length s.decls.list ≡ length ds + 1 = ap length is ∙ length-append ds (d ∷ []) in
          never _ (of_both _ _ (number_same (length s.decls.list) (length ds + 1) count) (bytes_differ (heads_text s.decls.list) text (ap heads_text is ∙ whole d h))) e

      by : (t : Bool) → (nat_eq (length s.decls.list) (length ds + 1) && bytes_eq (heads_text s.decls.list) text) ≡ t → Declares ds line (cond t (Some s.decls) None)
      by true e = let p = both _ _ e in found p.0 p.1
      by false e = missed e

  pub declares_if : (s : Script) (count : ℕ) (t : List ℕ) → count ≡ length ds → t ≡ text → Means t (Ok s) → (r : Result (Option Declarations) NoMemory)
      → IfOk r (λ found. found ≡ more_if s.decls count t) → IfOk r (Declares ds line)
  declares_if s count t n e m (Ok found) h =
      subst (Declares ds line) (sym (h ∙ ap (λ (k : ℕ). more_if s.decls k t) n ∙ ap (λ (u : List ℕ). more_if s.decls (length ds) u) e)) (declares s (subst (λ (u : List ℕ). Means u (Ok s)) e m))
  declares_if s count t n e m (Err f) h = h

  accepted_more : (found : Option Declarations) → Declares ds line found → IfSome found (λ more. AreAccepted more.list)
  accepted_more (Some more) (d, e, h) = subst AreAccepted (sym e) h.accepted
  accepted_more None h = tt

  pub accepted_if : (r : Result (Option Declarations) NoMemory) → IfOk r (Declares ds line) → IfOk r (λ found. IfSome found (λ more. AreAccepted more.list))
  accepted_if (Ok found) h = accepted_more found h
  accepted_if (Err f) h = h

  pub no_head_if : (t : List ℕ) (fault : ScriptFault) (at why : ℕ) → t ≡ text → fault ≡ faults.Bad at why → Answers (Err fault) t → (d : Decl) → IsHead ds line d → ⊥
  no_head_if t fault at why e is m =
      no_head (at, why) (subst (λ (u : List ℕ). Means u (Err (at, why))) e (subst (λ (x : ScriptFault). Answers (Err x) t) is m))
