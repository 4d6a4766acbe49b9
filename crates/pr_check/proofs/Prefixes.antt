-- Declarations are accepted where more of them are.
use Rattle.std.proofs.Common.{◌≡◌, ◌⊎◌, ◌≤◌, ℕ, ◌+◌, suc, Bool, true, false, cond, List, [], ◌∷◌, ◌++◌, inl, inr, length, None, Result, Ok, Err, refl, sym, ap, subst, ◌∙◌, append_assoc, length-append, arith}
use Rattle.std.specs.Prelude.{is_some, ◌||◌}
use Rattle.std.specs.List.{flat_map}
use Rattle.std.proofs.lemmas.List.{append-nil}
use Rattle.pr_script.specs.declared.decl.Decl.{Decl}
use Rattle.pr_script.specs.declared.item.Item.{Item}
use Rattle.pr_script.specs.declared.item.Item.TheVariants as items
use Rattle.pr_script.specs.declared.script.Script.{Script}
use Rattle.pr_script.specs.Lines.{line_item}
use Rattle.pr_script.specs.Printing.{decl_lines, decl_text}
use Rattle.pr_script.specs.Reading.{IsCut, Sofar, after, all_lines, answer_of, ended, is_skipped, next, passed, script_of, start, told}
use Rattle.pr_script.proofs.OneCut.{one_cut}
use Rattle.pr_script.proofs.WholeScript.{answered, no_fault}
use Rattle.pr_text.specs.Heads.{heads_text}
use Rattle.pr_check.specs.Heads.{AreAccepted}
use Rattle.pr_check.proofs.NoEnds.{AllNoEnd, heads_no_ends}

-- ---- a line declares one thing at most

-- so many declarations more, and as much else as before
record Declared (f g : Sofar) (n : ℕ) : Type 0 where
  extra : List Decl
  decls : g.known.decls ≡ f.known.decls ++ extra
  many : length extra ≡ n
  phase : g.known.in_phase ≡ f.known.in_phase

abbrev Step : Sofar → Sofar → Type 0
Step f g = Declared f g 1 ⊎ (g.known.decls ≡ f.known.decls)

told_step : (f : Sofar) (r : Result Item ℕ) → Step f (told f r)
told_step f (Ok (items.Decl d)) = inl (record { extra = d ∷ []; decls = refl; many = refl; phase = refl })
told_step f (Ok (items.Command c)) = inr refl
told_step f (Err why) = inr refl

next_step : (f : Sofar) (line : List ℕ) → Step f (next f line)
unfolding next
next_step f line = by (is_some f.fault || is_skipped line)
  where
    by : (b : Bool) → Step f (cond b (passed f) (told f (line_item f.known line)))
    by true = inr refl
    by false = told_step f (line_item f.known line)

-- ---- where lines declare as much as there are lines, each declares

abbrev many_of : Sofar → ℕ
many_of f = length f.known.decls

more_of : (f g : Sofar) (n : ℕ) → Declared f g n → many_of g ≡ many_of f + n
more_of f g n d = ap (λ (ds : List Decl). length ds) d.decls ∙ length-append f.known.decls d.extra ∙ ap (λ (k : ℕ). many_of f + k) d.many

few : (f : Sofar) (ls : List (List ℕ)) → many_of (after f ls) ≤ many_of f + length ls
few f [] = omega arith
few f (l ∷ ls) = by (next_step f l) (few (next f l) ls)
  where
    by : Step f (next f l) → many_of (after (next f l) ls) ≤ many_of (next f l) + length ls → many_of (after (next f l) ls) ≤ many_of f + suc (length ls)
    by (inl d) le = let m : many_of (next f l) ≡ many_of f + 1 = more_of f (next f l) 1 d in omega (arith, m, le)
    by (inr same) le = let m : many_of (next f l) ≡ many_of f = ap (λ (ds : List Decl). length ds) same in omega (arith, m, le)

walk : (f : Sofar) (ls : List (List ℕ)) → many_of (after f ls) ≡ many_of f + length ls → Declared f (after f ls) (length ls)
walk f [] e = record { extra = []; decls = sym (append-nil f.known.decls); many = refl; phase = refl }
walk f (l ∷ ls) e = by (next_step f l) (walk (next f l) ls) (few (next f l) ls)
  where
    by : Step f (next f l) → (many_of (after (next f l) ls) ≡ many_of (next f l) + length ls → Declared (next f l) (after (next f l) ls) (length ls))
        → many_of (after (next f l) ls) ≤ many_of (next f l) + length ls → Declared f (after (next f l) ls) (suc (length ls))
    by (inl d) rest le =
        let m : many_of (next f l) ≡ many_of f + 1 = more_of f (next f l) 1 d in
        let all : many_of (after (next f l) ls) ≡ many_of f + suc (length ls) = e in
        let r = rest (omega (arith, m, all)) in
        record {
          extra = d.extra ++ r.extra;
          decls = r.decls ∙ ap (λ (ds : List Decl). ds ++ r.extra) d.decls ∙ append_assoc f.known.decls d.extra r.extra;
          many =
              let l : length (d.extra ++ r.extra) ≡ length d.extra + length r.extra = length-append d.extra r.extra in
              let p : length d.extra ≡ 1 = d.many in
              let q : length r.extra ≡ length ls = r.many in
              omega (arith, l, p, q);
          phase = r.phase ∙ d.phase;
        }
    by (inr same) rest le =
        let m : many_of (next f l) ≡ many_of f = ap (λ (ds : List Decl). length ds) same in
        let all : many_of (after (next f l) ls) ≡ many_of f + suc (length ls) = e in
        absurd (omega (arith, m, le, all))

-- ---- head lines

after_append : (f : Sofar) (ls ms : List (List ℕ)) → after f (ls ++ ms) ≡ after (after f ls) ms
after_append f [] ms = refl
after_append f (l ∷ ls) ms = after_append (next f l) ls ms

lines_append : (front a b : List Decl) → decl_lines front (a ++ b) ≡ decl_lines front a ++ decl_lines (front ++ a) b
unfolding decl_lines
lines_append front [] b = ap (λ (ds : List Decl). decl_lines ds b) (sym (append-nil front))
lines_append front (d ∷ a) b =
    ap (λ (ls : List (List ℕ)). decl_text front d ∷ ls) (lines_append (front ++ d ∷ []) a b ∙ ap (λ (ds : List Decl). decl_lines (front ++ d ∷ []) a ++ decl_lines ds b) (append_assoc front (d ∷ []) a))

many_lines : (front ds : List Decl) → length (decl_lines front ds) ≡ length ds
unfolding decl_lines
many_lines front [] = refl
many_lines front (d ∷ ds) = ap suc (many_lines (front ++ d ∷ []) ds)

same_front : (xs a ys b : List Decl) → length xs ≡ length a → xs ++ ys ≡ a ++ b → xs ≡ a
same_front [] [] ys b l e = refl
same_front [] (d ∷ a) ys b l e = absurd (omega (arith, l))
same_front (x ∷ xs) [] ys b l e = absurd (omega (arith, l))
same_front (x ∷ xs) (d ∷ a) ys b l e =
    let first : x ≡ d = cc in
    let rest : xs ++ ys ≡ a ++ b = cc in
    let more = same_front xs a ys b (omega (arith, l)) rest in
    ap (λ (c : Decl). c ∷ xs) first ∙ ap (λ (cs : List Decl). d ∷ cs) more

all_front : (xs ys : List (List ℕ)) → AllNoEnd (xs ++ ys) → AllNoEnd xs
all_front [] ys all = tt
all_front (x ∷ xs) ys all = (all.0, all_front xs ys all.1)

answers_script : (g : Sofar) → g.fault ≡ None → g.known.in_phase ≡ false → Ok (script_of g) ≡ answer_of g
answers_script g ef et = rw (ef, et) refl

pub fewer_accepted : (a b : List Decl) → AreAccepted (a ++ b) → AreAccepted a
fewer_accepted a b (s, (lines, rest, cut, e), is) =
    let all = a ++ b in
    let ends : AllNoEnd (decl_lines [] (a ++ b)) = heads_no_ends (a ++ b) (s, (lines, rest, cut, e), is) in
    let same = one_cut lines (decl_lines [] (a ++ b)) rest [] cut.each ends cut.last tt (sym cut.whole ∙ sym (append-nil (flat_map ended (decl_lines [] (a ++ b))))) in
    let split : decl_lines [] (a ++ b) ≡ decl_lines [] a ++ decl_lines a b = lines_append [] a b in
    let g = after start (decl_lines [] a) in
    let f = after (after start (decl_lines [] a)) (decl_lines a b) in
    let told_so : Ok s ≡ answer_of (after (after start (decl_lines [] a)) (decl_lines a b)) =
    e ∙ ap (λ (r : List ℕ). answer_of (after start (all_lines lines r))) same.1
    ∙ ap (λ (ls : List (List ℕ)). answer_of (after start ls)) (same.0 ∙ split)
    ∙ ap answer_of (after_append start (decl_lines [] a) (decl_lines a b)) in
    let ans = answered (after (after start (decl_lines [] a)) (decl_lines a b)) s f.fault f.known.in_phase refl refl (sym told_so) in
    let decls : f.known.decls ≡ a ++ b = ap (λ (t : Script). t.decls.list) ans.2 ∙ is in
    let m : many_of f ≡ length a + length b = ap (λ (ds : List Decl). length ds) decls ∙ length-append a b in
    let la : length (decl_lines [] a) ≡ length a = many_lines [] a in
    let lb : length (decl_lines a b) ≡ length b = many_lines a b in
    let le_a : many_of g ≤ 0 + length (decl_lines [] a) = few start (decl_lines [] a) in
    let le_b : many_of f ≤ many_of g + length (decl_lines a b) = few g (decl_lines a b) in
    let first = walk start (decl_lines [] a) (omega (arith, m, la, lb, le_a, le_b)) in
    let second = walk g (decl_lines a b) (omega (arith, m, la, lb, le_a, le_b)) in
    let some : length g.known.decls ≡ length a = omega (arith, m, la, lb, le_a, le_b) in
    let front : g.known.decls ≡ a = same_front g.known.decls a second.extra b some (sym second.decls ∙ decls) in
    let clean : g.fault ≡ None = no_fault g g.fault (decl_lines a b) refl ans.0 in
    let again : IsCut (heads_text a) (decl_lines [] a) [] = record { whole = sym (append-nil (heads_text a)); each = all_front (decl_lines [] a) (decl_lines a b) (subst AllNoEnd split ends); last = tt } in
    (script_of g, (decl_lines [] a, [], again, answers_script g clean first.phase), front)
