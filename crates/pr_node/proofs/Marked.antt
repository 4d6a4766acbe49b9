-- The marks stay tied over one more entry.
use Rattle.std.proofs.Common.{◌≡◌, ℕ, List, [], ◌∷◌, zero, suc, cond, refl, sym, ◌∙◌, ap, arith, nat_eq}
use Rattle.std.specs.Prelude.{Bool, true, false, ◌&&◌, Option, Some, None, IsTrue, All}
use Rattle.std.proofs.lemmas.Bool.Decides.{nat_tests}
use Rattle.pr_stamps.specs.Point.{Point, is_before}
use Rattle.pr_stamps.specs.declared.mark.Mark.{Mark}
use Rattle.pr_marks.specs.Row.{above_floor, Rises, with_mark}
use Rattle.pr_vectors.specs.Vector.{is_covered}
use Rattle.pr_story.specs.Knowledge.{first_of, mark_at}
use Rattle.pr_story.proofs.NewestNow.{first_none, first_twice}
use Rattle.pr_snap.proofs.Choice.{by_test}

abbrev pub is_at : Point → Point → Bool
is_at s t = nat_eq s.clock t.clock && nat_eq s.node t.node

-- the mark, where it has this stamp
abbrev pub here : Mark → Point → Option Mark
here m s = cond (is_at m.stamp s) (Some m) None

-- a stamp after another is not that one
apart : (x m s : Point) → IsTrue (is_before m x) → is_at m s ≡ true → is_at x s ≡ false
apart x m s before same = grind (arith, nat_tests)

one_stamp : (x m s : Point) → is_before x m ≡ false → is_before m x ≡ false → is_at m s ≡ is_at x s
one_stamp x m s a b = grind (arith, nat_tests)

before_trans : (s t u : Point) → IsTrue (is_before s t) → IsTrue (is_before t u) → IsTrue (is_before s u)
before_trans s t u a b = grind (arith, nat_tests)

rises_tail : (x : Mark) (xs : List Mark) → Rises (x ∷ xs) → Rises xs
rises_tail x xs rise i j d lt within = rise (suc i) (suc j) d (omega arith) (omega arith)

rises_head : (x : Mark) (xs : List Mark) → Rises (x ∷ xs) → All (λ (y : Mark). IsTrue (is_before x.stamp y.stamp)) xs
rises_head x xs rise k d lt = rise 0 (suc k) d (omega arith) (omega arith)

-- among later marks none has the stamp
none_later : (m : Point) (xs : List Mark) (s : Point) → All (λ (y : Mark). IsTrue (is_before m y.stamp)) xs → is_at m s ≡ true → mark_at xs s ≡ None
none_later m [] s later same = refl
none_later m (x ∷ xs) s later same =
    rw (apart x.stamp m s (later 0 x (omega arith)) same) (none_later m xs s (λ k d lt. later (suc k) d (omega arith)) same)

first_here : (m x : Mark) (xs : List Mark) (s : Point) → Rises (x ∷ xs) → IsTrue (is_before m.stamp x.stamp) → first_of (here m s) (mark_at (x ∷ xs) s) ≡ first_of (mark_at (x ∷ xs) s) (here m s)
first_here m x xs s rise before = by_test (is_at m.stamp s)
    (λ e.
    let all : All (λ (y : Mark). IsTrue (is_before m.stamp y.stamp)) (x ∷ xs) = all_cons x xs before (λ k d lt. before_trans m.stamp x.stamp _ before (rises_head x xs rise k d lt)) in
    rw (none_later m.stamp (x ∷ xs) s all e) (rw e refl))
    (λ e. rw e (sym (first_none (mark_at (x ∷ xs) s))))
  where
    all_cons : (x : Mark) (xs : List Mark) → IsTrue (is_before m.stamp x.stamp) → All (λ (y : Mark). IsTrue (is_before m.stamp y.stamp)) xs → All (λ (y : Mark). IsTrue (is_before m.stamp y.stamp)) (x ∷ xs)
    all_cons x xs p ps zero d lt = p
    all_cons x xs p ps (suc k) d lt = ps k d (omega arith)

-- one mark more is the last that is found at its stamp
pub with_at : (xs : List Mark) (m : Mark) (s : Point) → Rises xs → mark_at (with_mark xs m) s ≡ first_of (mark_at xs s) (here m s)
with_at [] m s rise = first_none (here m s)
with_at (x ∷ xs) m s rise =
    by_test (is_before x.stamp m.stamp)
    (λ e. rw e (ap (λ (y : Option Mark). first_of (here x s) y) (with_at xs m s (rises_tail x xs rise)) ∙ first_twice (here x s) (mark_at xs s) (here m s)))
    (λ e. rw e (by_test (is_before m.stamp x.stamp)
    (λ g. rw g (first_here m x xs s rise g))
    (λ g. rw g (by_test (is_at m.stamp s)
    (λ h. rw h (rw (sym (one_stamp x.stamp m.stamp s e g) ∙ h) refl))
    (λ h. rw h (sym (first_none (mark_at (x ∷ xs) s))))))))

pub covered_alike : (floor : List ℕ) (s t : Point) → is_at s t ≡ true → is_covered floor s ≡ is_covered floor t
covered_alike floor s t e = ap (λ (p : Point). is_covered floor p) (same s t e)
  where
    clocks : (s t : Point) → is_at s t ≡ true → s.clock ≡ t.clock
    clocks s t e = grind (arith, nat_tests)

    nodes : (s t : Point) → is_at s t ≡ true → s.node ≡ t.node
    nodes s t e = grind (arith, nat_tests)

    same : (s t : Point) → is_at s t ≡ true → s ≡ t
    same s t e = ap (λ (c : ℕ). let p : Point = record { clock = c; node = s.node } in p) (clocks s t e) ∙ ap (λ (n : ℕ). let p : Point = record { clock = t.clock; node = n } in p) (nodes s t e)

-- what is kept above the floor is what is known, of stamps that it does not cover
abbrev pub IsKept : List ℕ → List Mark → Point → Option Mark → Type 0
IsKept floor marks s known = mark_at marks s ≡ cond (is_covered floor s) None known

-- one mark more is known
pub kept_more : (floor : List ℕ) (marks : List Mark) (m : Mark) (s : Point) (known : Option Mark) → Rises marks → IsKept floor marks s known
    → IsKept floor (cond (is_covered floor m.stamp) marks (with_mark marks m)) s (first_of known (here m s))
kept_more floor marks m s known rise old =
    by_test (is_covered floor m.stamp)
    (λ e. rw e (old ∙ by_test (is_at m.stamp s)
    (λ g. rw (sym (covered_alike floor m.stamp s g) ∙ e) refl)
    (λ g. rw g (ap (λ (x : Option Mark). cond (is_covered floor s) None x) (sym (first_none known))))))
    (λ e. rw e (with_at marks m s rise ∙ ap (λ (x : Option Mark). first_of x (here m s)) old ∙ by_test (is_covered floor s)
    (λ g. rw g (by_test (is_at m.stamp s)
    (λ h. let bad : false ≡ true = sym e ∙ covered_alike floor m.stamp s h ∙ g in cc)
    (λ h. rw h refl)))
    (λ g. rw g refl)))

-- ---- what holds of each mark

pub all_cons : (P : Mark → Type 0) (x : Mark) (xs : List Mark) → P x → All P xs → All P (x ∷ xs)
all_cons P x xs p ps zero d lt = p
all_cons P x xs p ps (suc k) d lt = ps k d (omega arith)

all_tail : (P : Mark → Type 0) (x : Mark) (xs : List Mark) → All P (x ∷ xs) → All P xs
all_tail P x xs ps k d lt = ps (suc k) d (omega arith)

pub all_with : (P : Mark → Type 0) (xs : List Mark) (m : Mark) → P m → All P xs → All P (with_mark xs m)
all_with P [] m p ps = all_cons P m [] p ps
all_with P (x ∷ xs) m p ps =
    by_test (is_before x.stamp m.stamp)
    (λ e. rw e (all_cons P x (with_mark xs m) (ps 0 x (omega arith)) (all_with P xs m p (all_tail P x xs ps))))
    (λ e. rw e (by_test (is_before m.stamp x.stamp)
    (λ g. rw g (all_cons P m (x ∷ xs) p ps))
    (λ g. rw g ps)))

pub all_above : (P : Mark → Type 0) (floor : List ℕ) (xs : List Mark) → All P xs → All P (above_floor floor xs)
all_above P floor [] ps = ps
all_above P floor (x ∷ xs) ps = by_test (is_covered floor x.stamp)
    (λ e. rw e (all_above P floor xs (all_tail P x xs ps)))
    (λ e. rw e (all_cons P x (above_floor floor xs) (ps 0 x (omega arith)) (all_above P floor xs (all_tail P x xs ps))))
