-- A script that was read, printed, is read again, but for the numbers of its lines.
use Rattle.std.proofs.Common.{◌≡◌, ℕ, ◌+◌, Bool, true, false, cond, List, [], ◌∷◌, ◌++◌, map, Option, Some, None, Result, Ok, Err, refl, sym, ap, subst, ◌∙◌, append_assoc, arith}
use Rattle.std.specs.List.{AllByRecursion, list_all}
use Rattle.std.proofs.lemmas.List.{map-append, append-nil}
use Rattle.std.proofs.lemmas.Bool.Decides.{nat_tests}
use Rattle.pr_script.specs.declared.decl.Decl.{Decl}
use Rattle.pr_script.specs.Listed.{Declarations}
use Rattle.pr_script.specs.declared.decl.Decl.TheVariants as decls
use Rattle.pr_script.specs.declared.command.Command.{Command}
use Rattle.pr_script.specs.declared.command.Command.TheVariants as commands
use Rattle.pr_script.specs.declared.known.Known.{Known}
use Rattle.pr_script.specs.declared.item.Item.{Item}
use Rattle.pr_script.specs.declared.item.Item.TheVariants as items
use Rattle.pr_script.specs.declared.script.Script.{Script}
use Rattle.pr_script.specs.Fields.{is_plain}
use Rattle.pr_script.specs.Lines.{line_item}
use Rattle.pr_script.specs.Known.{known_after}
use Rattle.pr_script.specs.Reading.{Sofar, IsCut, HasNoEnd, is_skipped, told, next, after, start, all_lines, unless_fault, script_of, answer_of}
use Rattle.pr_script.specs.Printing.{decl_text, command_text, item_text, decl_lines, command_lines, script_lines, script_text}
use Rattle.pr_script.specs.Laws.{commands_of, ReadsBack}
use Rattle.pr_script.proofs.Positions.{both}
use Rattle.pr_script.proofs.LinesAgain.{item_again, item_plain}
use Rattle.pr_script.proofs.Visible.{Plain}

-- ---- lines that are printed one by one

abbrev numberless : List (ℕ × Command) → List Command
numberless cs = map (λ (c : ℕ × Command). c.1) cs

-- the same but for line numbers, and without a fault
pub record Alike (f g : Sofar) : Type 0 where
  pub known : f.known ≡ g.known
  pub commands : numberless f.commands ≡ numberless g.commands
  pub fault : g.fault ≡ None

abbrev printed_one : Known → Result Item ℕ → List (List ℕ)
printed_one k (Ok item) = item_text k.decls item ∷ []
printed_one k (Err why) = []

abbrev printed_line : Sofar → List ℕ → List (List ℕ)
printed_line f line = cond (is_skipped line) [] (printed_one f.known (line_item f.known line))

unfoldable printed_lines : Sofar → List (List ℕ) → List (List ℕ)
printed_lines f [] = []
printed_lines f (l ∷ ls) = printed_line f l ++ printed_lines (next f l) ls

-- a printed line is no comment
shown : (ds : List Decl) (item : Item) → is_skipped (item_text ds item) ≡ false
unfolding decl_text command_text
shown ds (items.Decl (decls.Node label sets)) = refl
shown ds (items.Decl (decls.Client label node)) = refl
shown ds (items.Decl (decls.Stream label source dest sub bodies)) = refl
shown ds (items.Command (commands.Attach stream)) = refl
shown ds (items.Command (commands.Detach stream)) = refl
shown ds (items.Command (commands.Send stream)) = refl
shown ds (items.Command (commands.Checkpoint stream)) = refl
shown ds (items.Command (commands.Deliver stream number)) = refl
shown ds (items.Command (commands.Flow stream turns)) = refl
shown ds (items.Command (commands.Write client name body)) = refl
shown ds (items.Command (commands.Delete client name)) = refl
shown ds (items.Command (commands.Read client name)) = refl
shown ds (items.Command (commands.Move client node)) = refl
shown ds (items.Command (commands.Expect want)) = refl
shown ds (items.Command (commands.Cut node)) = refl
shown ds (items.Command (commands.State node)) = refl
shown ds (items.Command (commands.Drop node name)) = refl
shown ds (items.Command (commands.Conflicts node name)) = refl
shown ds (items.Command commands.Settle) = refl
shown ds (items.Command commands.Phase) = refl
shown ds (items.Command commands.End) = refl

after_append : (f : Sofar) (ls ms : List (List ℕ)) → after f (ls ++ ms) ≡ after (after f ls) ms
after_append f [] ms = refl
after_append f (l ∷ ls) ms = after_append (next f l) ls ms

-- a fault stays
faulty : (f : Sofar) (x : ℕ × ℕ) (l : List ℕ) → f.fault ≡ Some x → (next f l).fault ≡ Some x
unfolding next
faulty f x l e = rw e refl

stays : (f : Sofar) (x : ℕ × ℕ) (ls : List (List ℕ)) → f.fault ≡ Some x → (after f ls).fault ≡ Some x
stays f x [] e = e
stays f x (l ∷ ls) e = stays (next f l) x ls (faulty f x l e)

pub no_fault : (f : Sofar) (o : Option (ℕ × ℕ)) (ls : List (List ℕ)) → f.fault ≡ o → (after f ls).fault ≡ None → o ≡ None
no_fault f None ls e h = refl
no_fault f (Some x) ls e h = absurd (let s = stays f x ls e in cc)

map_two : (f g : Sofar) (xs ys : List (ℕ × Command)) → numberless xs ≡ numberless ys → numberless f.commands ≡ numberless g.commands
    → numberless (f.commands ++ xs) ≡ numberless (g.commands ++ ys)
map_two f g xs ys e h = rw (map-append, map-append) cc

same_item : (f g : Sofar) (item : Item) → Alike f g → Alike (told f (Ok item)) (told g (Ok item))
same_item f g (items.Decl d) a = record { known = ap (λ (k : Known). known_after k (items.Decl d)) a.known; commands = map_two f g [] [] refl a.commands; fault = a.fault }
same_item f g (items.Command c) a = record { known = ap (λ (k : Known). known_after k (items.Command c)) a.known; commands = map_two f g ((f.lines + 1, c) ∷ []) ((g.lines + 1, c) ∷ []) refl a.commands; fault = a.fault }

pub next_is : (f : Sofar) (l : List ℕ) (r : Result Item ℕ) → f.fault ≡ None → is_skipped l ≡ false → line_item f.known l ≡ r → next f l ≡ told f r
unfolding next
next_is f l r n e h = rw (n, e, h) refl

one_line : (f g : Sofar) (l : List ℕ) (skip : Bool) (r : Result Item ℕ) → is_skipped l ≡ skip → line_item f.known l ≡ r
    → Alike f g → f.fault ≡ None → (next f l).fault ≡ None → Alike (next f l) (after g (printed_line f l))
unfolding next
one_line f g l true r e h a n m = rw (n, e) (record { known = a.known; commands = a.commands; fault = a.fault })
one_line f g l false (Ok item) e h a n m =
    let k : line_item g.known (item_text f.known.decls item) ≡ Ok item = subst (λ (x : Known). line_item x (item_text f.known.decls item) ≡ Ok item) a.known ((item_again f.known l item h).0) in
    let p : printed_line f l ≡ item_text f.known.decls item ∷ [] = rw (e, h) refl in
    rw (next_is f l (Ok item) n e h, p, next_is g (item_text f.known.decls item) (Ok item) a.fault (shown f.known.decls item) k) (same_item f g item a)
one_line f g l false (Err why) e h a n m = absurd (let q : (next f l).fault ≡ Some (f.lines + 1, why) = rw (n, e, h) refl in cc)

one_by_one : (f g : Sofar) (ls : List (List ℕ)) → Alike f g → f.fault ≡ None → (after f ls).fault ≡ None → Alike (after f ls) (after g (printed_lines f ls))
unfolding printed_lines
one_by_one f g [] a n m = a
one_by_one f g (l ∷ ls) a n m =
    let clean : (next f l).fault ≡ None = no_fault (next f l) (next f l).fault ls refl m in
    let step = one_line f g l (is_skipped l) (line_item f.known l) refl refl a n clean in
    rw after_append (one_by_one (next f l) (after g (printed_line f l)) ls step clean m)

-- ---- a printed line has no end of a line

plain_no_end : (bs : List ℕ) → Plain bs → HasNoEnd bs
plain_no_end [] h = tt
plain_no_end (b ∷ bs) h =
    let p = both (is_plain b) (list_all is_plain bs) h in
    let q = p.0 in
    ((λ (e : b ≡ 10). absurd (grind (arith, nat_tests))), plain_no_end bs p.1)

all_append : (xs ys : List (List ℕ)) → AllByRecursion HasNoEnd xs → AllByRecursion HasNoEnd ys → AllByRecursion HasNoEnd (xs ++ ys)
all_append [] ys hx hy = hy
all_append (x ∷ xs) ys hx hy = (hx.0, all_append xs ys hx.1 hy)

line_no_end : (f : Sofar) (l : List ℕ) (skip : Bool) (r : Result Item ℕ) → is_skipped l ≡ skip → line_item f.known l ≡ r → AllByRecursion HasNoEnd (cond skip [] (printed_one f.known r))
line_no_end f l true r e h = tt
line_no_end f l false (Ok item) e h =
    let again = (item_again f.known l item h).0 in
    (plain_no_end (item_text f.known.decls item) (item_plain f.known (item_text f.known.decls item) item again), tt)
line_no_end f l false (Err why) e h = tt

no_ends : (f : Sofar) (ls : List (List ℕ)) → AllByRecursion HasNoEnd (printed_lines f ls)
unfolding printed_lines
no_ends f [] = tt
no_ends f (l ∷ ls) = all_append (printed_line f l) (printed_lines (next f l) ls) (line_no_end f l (is_skipped l) (line_item f.known l) refl refl) (no_ends (next f l) ls)

-- ---- they are the lines of the script: its declarations, then its commands

abbrev lines_of : Sofar → List (List ℕ)
lines_of f = script_lines (script_of f)

-- no command stands before the first
abbrev Begun : Sofar → Type 0
Begun f = f.known.begun ≡ false → f.commands ≡ []

pub push_decl : (front ds : List Decl) (d : Decl) → decl_lines front (ds ++ d ∷ []) ≡ decl_lines front ds ++ decl_text (front ++ ds) d ∷ []
unfolding decl_lines
push_decl front [] d = ap (λ (x : List Decl). decl_text x d ∷ []) (sym (append-nil front))
push_decl front (e ∷ ds) d =
    ap (λ (x : List (List ℕ)). decl_text front e ∷ x) (push_decl (front ++ e ∷ []) ds d ∙ ap (λ (x : List Decl). decl_lines (front ++ e ∷ []) ds ++ decl_text x d ∷ []) (append_assoc front (e ∷ []) ds))

told_item : (f : Sofar) (line : List ℕ) (item : Item) → Begun f → line_item f.known line ≡ Ok item
    → (lines_of (told f (Ok item)) ≡ lines_of f ++ item_text f.known.decls item ∷ []) × Begun (told f (Ok item))
told_item f line (items.Decl d) b h =
    let none : f.commands ≡ [] = b ((item_again f.known line (items.Decl d) h).1.first) in (
      rw none (append-nil (decl_lines [] (f.known.decls ++ d ∷ [])) ∙ push_decl [] f.known.decls d ∙ ap (λ (x : List (List ℕ)). x ++ decl_text f.known.decls d ∷ []) (sym (append-nil (decl_lines [] f.known.decls)))),
      λ e. rw (b e) refl,
    )
told_item f line (items.Command c) b h =
    let m : command_lines f.known.decls (f.commands ++ (f.lines + 1, c) ∷ []) ≡ command_lines f.known.decls f.commands ++ command_text f.known.decls c ∷ [] = map-append (λ (p : ℕ × Command). command_text f.known.decls p.1) f.commands ((f.lines + 1, c) ∷ []) in (
      ap (λ (x : List (List ℕ)). decl_lines [] f.known.decls ++ x) m
          ∙ sym (append_assoc (decl_lines [] f.known.decls) (command_lines f.known.decls f.commands) (command_text f.known.decls c ∷ [])),
      λ e. absurd cc,
    )

one_part : (f : Sofar) (l : List ℕ) (skip : Bool) (r : Result Item ℕ) → Begun f → is_skipped l ≡ skip → line_item f.known l ≡ r → f.fault ≡ None → (next f l).fault ≡ None
    → (lines_of (next f l) ≡ lines_of f ++ printed_line f l) × Begun (next f l)
unfolding next
one_part f l true r b e h n m = rw (n, e) (sym (append-nil (lines_of f)), b)
one_part f l false (Ok item) b e h n m =
    let t = told_item f l item b h in
    let p : printed_line f l ≡ item_text f.known.decls item ∷ [] = rw (e, h) refl in
    let q : next f l ≡ told f (Ok item) = rw (n, e, h) refl in
    (ap lines_of q ∙ t.0 ∙ ap (λ (x : List (List ℕ)). lines_of f ++ x) (sym p), subst (λ (x : Sofar). Begun x) (sym q) t.1)
one_part f l false (Err why) b e h n m = absurd (let q : (next f l).fault ≡ Some (f.lines + 1, why) = rw (n, e, h) refl in cc)

all_parts : (f : Sofar) (ls : List (List ℕ)) → Begun f → f.fault ≡ None → (after f ls).fault ≡ None → lines_of (after f ls) ≡ lines_of f ++ printed_lines f ls
unfolding printed_lines
all_parts f [] b n m = sym (append-nil (lines_of f))
all_parts f (l ∷ ls) b n m =
    let clean : (next f l).fault ≡ None = no_fault (next f l) (next f l).fault ls refl m in
    let p = one_part f l (is_skipped l) (line_item f.known l) b refl refl n clean in
    all_parts (next f l) ls p.1 clean m
    ∙ ap (λ (x : List (List ℕ)). x ++ printed_lines (next f l) ls) p.0
    ∙ append_assoc (lines_of f) (printed_line f l) (printed_lines (next f l) ls)

lines_are : (ls : List (List ℕ)) → (after start ls).fault ≡ None → lines_of (after start ls) ≡ printed_lines start ls
unfolding decl_lines
lines_are ls m = all_parts start ls (λ e. refl) refl m

-- ---- the whole

abbrev known_decls : Known → Declarations
known_decls k = record { list = k.decls }

pub answered : (f : Sofar) (s : Script) (o : Option (ℕ × ℕ)) (t : Bool) → f.fault ≡ o → f.known.in_phase ≡ t → unless_fault o (unless_fault (cond t (Some (f.lines + 1, 12)) None) (Ok (script_of f))) ≡ Ok s
    → (f.fault ≡ None) × (f.known.in_phase ≡ false) × (script_of f ≡ s)
answered f s (Some x) t ef et e = absurd cc
answered f s None true ef et e = absurd cc
answered f s None false ef et e = (ef, et, cc)

answers_script : (g : Sofar) → g.fault ≡ None → g.known.in_phase ≡ false → Ok (script_of g) ≡ answer_of g
answers_script g ef et = rw (ef, et) refl

pub reads_back : ReadsBack
reads_back bytes s (lines, rest, cut, e) =
    let ls = all_lines lines rest in
    let f = after start (all_lines lines rest) in
    let a = answered f s f.fault f.known.in_phase refl refl (sym e) in
    let same : Alike start start = record { known = refl; commands = refl; fault = refl } in
    let w : Alike (after start (all_lines lines rest)) (after start (printed_lines start (all_lines lines rest))) = one_by_one start start (all_lines lines rest) same refl a.0 in
    let p : script_lines s ≡ printed_lines start (all_lines lines rest) = ap script_lines (sym a.2) ∙ lines_are (all_lines lines rest) a.0 in
    let g = after start (printed_lines start (all_lines lines rest)) in
    let open_too : (after start (printed_lines start (all_lines lines rest))).known.in_phase ≡ false = subst (λ (k : Known). k.in_phase ≡ false) w.known a.1 in
    let ends : AllByRecursion HasNoEnd (script_lines s) = subst (λ (x : List (List ℕ)). AllByRecursion HasNoEnd x) (sym p) (no_ends start (all_lines lines rest)) in
    let again : IsCut (script_text s) (script_lines s) [] = record { whole = sym (append-nil (script_text s)); each = ends; last = tt } in
    let told_again : Ok (script_of (after start (printed_lines start (all_lines lines rest)))) ≡ answer_of (after start (script_lines s)) =
    answers_script (after start (printed_lines start (all_lines lines rest))) w.fault open_too ∙ ap (λ (x : List (List ℕ)). answer_of (after start x)) (sym p) in (
      script_of (after start (printed_lines start (all_lines lines rest))),
      (script_lines s, [], again, told_again),
      record {
        decls = ap (λ (x : Script). x.decls) (sym a.2) ∙ ap known_decls w.known;
        commands = ap (λ (x : Script). commands_of x) (sym a.2) ∙ w.commands;
      },
    )
