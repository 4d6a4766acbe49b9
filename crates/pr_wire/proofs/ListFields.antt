-- Lists: targets, marks and rows.
use Rattle.std.proofs.Common.{◌≡◌, ℕ, zero, suc, ◌^◌, ◌<◌, ◌≤◌, Bool, true, false, List, [], ◌∷◌, ◌++◌, length, Option, Some, refl, sym, ap, subst, ◌∙◌, append_assoc, arith}
use Rattle.std.specs.Prelude.{not, nat_le, ◌&&◌, flat_map}
use Rattle.std.specs.List.{AllByRecursion}
use Rattle.std.proofs.lemmas.Bool.{and_parts, and_from, leb-true, le-leb, not-true, not_from_false, false_from_ne_true}
use Rattle.std.proofs.lemmas.List.{append-nil}
use Rattle.pr_stamps.specs.Point.{Point, IsStamp, is_before}
use Rattle.pr_stamps.specs.declared.mark.Mark.{Mark}
use Rattle.pr_vectors.specs.Vector.{clock_of}
use Rattle.pr_names.specs.Span.{Span, IsSpan}
use Rattle.pr_sets.specs.Spans.{IsSet, has, is_behind}
use Rattle.pr_sets.proofs.Behind.{more_behind, set_more}
use Rattle.pr_inval.specs.declared.row.Row.{Row}
use Rattle.pr_wire.specs.declared.format.Format.{Format}
use Rattle.pr_wire.specs.Spelling.{eight, gone_text, list_text, mark_text, name_text, row_text, span_text, stamp_text}
use Rattle.pr_inval.specs.Messages.{IsAscending, IsEarlierMark, IsEarlierRow, IsMark, IsRow}
use Rattle.pr_wire.specs.Messages.{HasFewMarks}
use Rattle.pr_wire.specs.Reading.{◌>>=◌, eight_at, given, gone_at, is_between, is_known, items_at, known_mark_at, last_before, list_at, mark_at, mark_before, name_at, row_at, row_before, span_at, stamp_at, target_at}
use Rattle.pr_wire.proofs.Fields.{IsBytes, IsField, Read, bind_some, eight_field, given_some, glue, some_is}
use Rattle.pr_wire.proofs.NameFields.{name_field, span_field}
use Rattle.pr_wire.proofs.StampFields.{IsGoneIn, before_true, between_true, gone_field, mark_field, stamp_field, true_before, true_between}

-- each item may stand behind those before it
abbrev pub Follows : {A : Type 0} → (List A → A → Bool) → List A → List A → Type 0
Follows follows front [] = Unit {0}
Follows follows front (x ∷ xs) = (follows front x ≡ true) × Follows follows (front ++ x ∷ []) xs

record IsListed {A : Type 0} (text : A → List ℕ) (valid : A → Type 0) (follows : List A → A → Bool) (n : ℕ) (front : List A) (bytes : List ℕ) (y : List A × List ℕ) : Type 0 where
  pub new : List A
  pub all : y.0 ≡ front ++ new
  pub parts : bytes ≡ flat_map text new ++ y.1
  pub fits : IsBytes y.1
  pub count : length new ≡ n
  pub each : AllByRecursion valid new
  pub order : Follows follows front new

items_take : {A : Type 0} (item : List ℕ → Option (A × List ℕ)) (text : A → List ℕ) (valid : A → Type 0) (field : IsField item text valid) (follows : List A → A → Bool) (n : ℕ) (front : List A) (bytes : List ℕ) (y : List A × List ℕ)
    → IsBytes bytes → items_at item follows n front bytes ≡ Some y → IsListed text valid follows n front bytes y
unfolding items_at
items_take item text valid field follows zero front bytes y fits e =
    subst (IsListed text valid follows zero front bytes) (some_is (front, bytes) y e) (record { new = []; all = sym (append-nil front); parts = refl; fits = fits; count = refl; each = tt; order = tt })
items_take {A} item text valid field follows (suc n) front bytes y fits e =
    let a = bind_some (item bytes) (λ x. given (follows front x.0) x >>= λ next. items_at item follows n (front ++ next.0 ∷ []) next.1) y e in
    let b = bind_some (given (follows front a.0.0) a.0) (λ next. items_at item follows n (front ++ next.0 ∷ []) next.1) y a.2 in
    let g = given_some (follows front a.0.0) a.0 b.0 b.1 in
    let x = field.takes bytes a.0 fits a.1 in
    let rest : items_at item follows n (front ++ a.0.0 ∷ []) a.0.1 ≡ Some y = ap (λ (z : A × List ℕ). items_at item follows n (front ++ z.0 ∷ []) z.1) g.1 ∙ b.2 in
    let later = items_take item text valid field follows n (front ++ a.0.0 ∷ []) a.0.1 y x.fits rest in
    record {
      new = a.0.0 ∷ later.new;
      all = later.all ∙ append_assoc front (a.0.0 ∷ []) later.new;
      parts = glue bytes (text a.0.0) a.0.1 (flat_map text later.new) y.1 x.parts later.parts;
      fits = later.fits;
      count = ap suc later.count;
      each = (x.holds, later.each);
      order = (g.0, later.order);
    }

items_again : {A : Type 0} (item : List ℕ → Option (A × List ℕ)) (text : A → List ℕ) (valid : A → Type 0) (field : IsField item text valid) (follows : List A → A → Bool) (xs front : List A) (rest : List ℕ)
    → AllByRecursion valid xs → Follows follows front xs → items_at item follows (length xs) front (flat_map text xs ++ rest) ≡ Some (front ++ xs, rest)
unfolding items_at
items_again {A} item text valid field follows [] front rest each order = ap (λ (xs : List A). let r : Option (List A × List ℕ) = Some (xs, rest) in r) (sym (append-nil front))
items_again {A} item text valid field follows (x ∷ xs) front rest each order =
    let test = order.0 in
    ap (λ (bs : List ℕ). items_at item follows (suc (length xs)) front bs) (append_assoc (text x) (flat_map text xs) rest)
    ∙ rw (field.again x (flat_map text xs ++ rest) each.0, test)
    (items_again item text valid field follows xs (front ++ x ∷ []) rest each.1 order.1
    ∙ ap (λ (ys : List A). let r : Option (List A × List ℕ) = Some (ys, rest) in r) (append_assoc front (x ∷ []) xs))

pub record IsList {A : Type 0} (valid : A → Type 0) (follows : List A → A → Bool) (xs : List A) : Type 0 where
  pub each : AllByRecursion valid xs
  pub order : Follows follows [] xs
  pub few : length xs < 2 ^ 64

list_takes : {A : Type 0} (item : List ℕ → Option (A × List ℕ)) (text : A → List ℕ) (valid : A → Type 0) (field : IsField item text valid) (follows : List A → A → Bool) (bytes : List ℕ) (y : List A × List ℕ)
    → IsBytes bytes → list_at item follows bytes ≡ Some y → Read (list_text text) (IsList valid follows) bytes y
unfolding list_at list_text
list_takes {A} item text valid field follows bytes y fits e =
    let a = bind_some (eight_at bytes) (λ count. items_at item follows count.0 [] count.1) y e in
    let count = eight_field.takes bytes a.0 fits a.1 in
    let listed = items_take item text valid field follows a.0.0 [] a.0.1 y count.fits a.2 in
    let same : listed.new ≡ y.0 = sym listed.all in
    let items : a.0.1 ≡ flat_map text y.0 ++ y.1 = listed.parts ∙ ap (λ (xs : List A). flat_map text xs ++ y.1) same in
    let len : length y.0 ≡ a.0.0 = ap length (sym same) ∙ listed.count in
    record {
      parts = glue bytes (eight a.0.0) a.0.1 (flat_map text y.0) y.1 count.parts items ∙ ap (λ (k : ℕ). (eight k ++ flat_map text y.0) ++ y.1) (sym len);
      fits = listed.fits;
      holds = record { each = subst (AllByRecursion valid) same listed.each; order = subst (Follows follows []) same listed.order; few = omega (arith, count.holds) };
    }

list_again : {A : Type 0} (item : List ℕ → Option (A × List ℕ)) (text : A → List ℕ) (valid : A → Type 0) (field : IsField item text valid) (follows : List A → A → Bool) (xs : List A) (rest : List ℕ)
    → IsList valid follows xs → list_at item follows (list_text text xs ++ rest) ≡ Some (xs, rest)
unfolding list_at list_text
list_again item text valid field follows xs rest h =
    ap (list_at item follows) (append_assoc (eight (length xs)) (flat_map text xs) rest)
    ∙ rw (eight_field.again (length xs) (flat_map text xs ++ rest) h.few) (items_again item text valid field follows xs [] rest h.each h.order)

pub list_field : {A : Type 0} (item : List ℕ → Option (A × List ℕ)) (text : A → List ℕ) (valid : A → Type 0) (field : IsField item text valid) (follows : List A → A → Bool) → IsField (list_at item follows) (list_text text) (IsList valid follows)
list_field item text valid field follows = record { takes = list_takes item text valid field follows; again = list_again item text valid field follows }

-- ---- a test on the last item, and an order

pub rises_more : {A : Type 0} (r : A → A → Type 0) (before : A → A → Bool) → ((x y : A) → before x y ≡ true → r x y) → (ys : List A) (x : A) → IsAscending r ys → last_before before ys x ≡ true → IsAscending r (ys ++ x ∷ [])
unfolding last_before
rises_more r before f [] x h e = (tt, tt)
rises_more r before f (y ∷ []) x h e = (f y x e, (tt, tt))
rises_more r before f (y ∷ (z ∷ zs)) x h e = (h.0, rises_more r before f (z ∷ zs) x h.1 e)

more_rises : {A : Type 0} (r : A → A → Type 0) (before : A → A → Bool) → ((x y : A) → r x y → before x y ≡ true) → (ys : List A) (x : A) (xs : List A) → IsAscending r (ys ++ x ∷ xs) → last_before before ys x ≡ true
unfolding last_before
more_rises r before f [] x xs h = refl
more_rises r before f (y ∷ []) x xs h = f y x h.0
more_rises r before f (y ∷ (z ∷ zs)) x xs h = more_rises r before f (z ∷ zs) x xs h.1

pub follows_rise : {A : Type 0} (r : A → A → Type 0) (before : A → A → Bool) → ((x y : A) → before x y ≡ true → r x y) → (xs front : List A) → IsAscending r front → Follows (last_before before) front xs → IsAscending r (front ++ xs)
follows_rise r before f [] front h order = subst (IsAscending r) (sym (append-nil front)) h
follows_rise r before f (x ∷ xs) front h order =
    subst (IsAscending r) (append_assoc front (x ∷ []) xs) (follows_rise r before f xs (front ++ x ∷ []) (rises_more r before f front x h order.0) order.1)

pub rises_follow : {A : Type 0} (r : A → A → Type 0) (before : A → A → Bool) → ((x y : A) → r x y → before x y ≡ true) → (xs front : List A) → IsAscending r (front ++ xs) → Follows (last_before before) front xs
rises_follow r before f [] front h = tt
rises_follow r before f (x ∷ xs) front h =
    (more_rises r before f front x xs h, rises_follow r before f xs (front ++ x ∷ []) (subst (IsAscending r) (sym (append_assoc front (x ∷ []) xs)) h))

-- ---- targets

follows_set : (ss front : List Span) → IsSet front → AllByRecursion IsSpan ss → Follows is_behind front ss → IsSet (front ++ ss)
follows_set [] front h each order = subst IsSet (sym (append-nil front)) h
follows_set (s ∷ ss) front h each order =
    subst IsSet (append_assoc front (s ∷ []) ss) (follows_set ss (front ++ s ∷ []) (set_more front s h each.0 order.0) each.1 order.1)

set_follows : (ss front : List Span) → IsSet (front ++ ss) → Follows is_behind front ss
set_follows [] front h = tt
set_follows (s ∷ ss) front h = (more_behind front s ss h, set_follows ss (front ++ s ∷ []) (subst IsSet (sym (append_assoc front (s ∷ []) ss)) h))

set_spans : (ss : List Span) → IsSet ss → AllByRecursion IsSpan ss
set_spans [] h = tt
set_spans (s ∷ ss) h = (h.0, set_spans ss h.2)

pub record IsTarget (ss : List Span) : Type 0 where
  pub set : IsSet ss
  pub few : length ss < 2 ^ 64

target_takes : (bytes : List ℕ) (y : List Span × List ℕ) → IsBytes bytes → target_at bytes ≡ Some y → Read (list_text span_text) IsTarget bytes y
target_takes bytes y fits e =
    let r = list_takes span_at span_text IsSpan span_field is_behind bytes y fits e in
    record { parts = r.parts; fits = r.fits; holds = record { set = follows_set y.0 [] tt r.holds.each r.holds.order; few = r.holds.few } }

target_again : (ss : List Span) (rest : List ℕ) → IsTarget ss → target_at (list_text span_text ss ++ rest) ≡ Some (ss, rest)
target_again ss rest h = list_again span_at span_text IsSpan span_field is_behind ss rest (record { each = set_spans ss h.set; order = set_follows ss [] h.set; few = h.few })

pub target_field : IsField target_at (list_text span_text) IsTarget
target_field = record { takes = target_takes; again = target_again }

-- ---- marks

known_takes : (floor to : List ℕ) (newest : Point) (bytes : List ℕ) (y : Mark × List ℕ) → IsBytes bytes → known_mark_at floor to newest bytes ≡ Some y → Read mark_text (IsMark floor to newest) bytes y
unfolding known_mark_at
known_takes floor to newest bytes y fits e =
    let a = bind_some (mark_at bytes) (λ mark. given (is_between floor to mark.0.stamp && not (is_before newest mark.0.stamp)) mark) y e in
    let g = given_some (is_between floor to a.0.0.stamp && not (is_before newest a.0.0.stamp)) a.0 y a.2 in
    let tests = and_parts (is_between floor to a.0.0.stamp) (not (is_before newest a.0.0.stamp)) g.0 in
    let mark = mark_field.takes bytes a.0 fits a.1 in
    let off : is_before newest a.0.0.stamp ≡ false = not-true (is_before newest a.0.0.stamp) tests.1 in
    subst (Read mark_text (IsMark floor to newest) bytes) g.1 (record {
      parts = mark.parts;
      fits = mark.fits;
      holds = record {
        stamp = mark.holds.stamp;
        prev = mark.holds.prev;
        between = true_between floor to a.0.0.stamp tests.0;
        known = λ h. let on = before_true newest a.0.0.stamp h in absurd (let no : true ≡ false = sym on ∙ off in cc);
      };
    })

known_again : (floor to : List ℕ) (newest : Point) (m : Mark) (rest : List ℕ) → IsMark floor to newest m → known_mark_at floor to newest (mark_text m ++ rest) ≡ Some (m, rest)
unfolding known_mark_at
known_again floor to newest m rest h =
    let off : is_before newest m.stamp ≡ false = false_from_ne_true (is_before newest m.stamp) (λ e. h.known (true_before newest m.stamp e)) in
    let tests : (is_between floor to m.stamp && not (is_before newest m.stamp)) ≡ true = and_from _ _ (between_true floor to m.stamp h.between) (not_from_false _ off) in
    rw (mark_field.again m rest (record { stamp = h.stamp; prev = h.prev }), tests) refl

pub known_field : (floor to : List ℕ) (newest : Point) → IsField (known_mark_at floor to newest) mark_text (IsMark floor to newest)
known_field floor to newest = record { takes = known_takes floor to newest; again = known_again floor to newest }

mark_order : (a b : Mark) → mark_before a b ≡ true → IsEarlierMark a b
mark_order a b e = true_before a.stamp b.stamp e

order_mark : (a b : Mark) → IsEarlierMark a b → mark_before a b ≡ true
order_mark a b h = before_true a.stamp b.stamp h

pub row_order : (a b : Row) → row_before a b ≡ true → IsEarlierRow a b
row_order a b e = e

pub order_row : (a b : Row) → IsEarlierRow a b → row_before a b ≡ true
order_row a b h = h

-- ---- rows

pub record IsRowIn (f : Format) (floor to : List ℕ) (target : List Span) (r : Row) : Type 0 where
  pub row : IsRow floor to (has target) r
  pub few : HasFewMarks r
  pub gone : IsGoneIn f r.gone

row_takes : (f : Format) (floor to : List ℕ) (target : List Span) (bytes : List ℕ) (y : Row × List ℕ) → IsBytes bytes → row_at f floor to target bytes ≡ Some y → Read (row_text f) (IsRowIn f floor to target) bytes y
unfolding row_at row_text
row_takes f floor to target bytes y fits e =
    let a = bind_some (name_at bytes) (λ name. stamp_at name.1 >>= λ newest. gone_at f newest.1 >>= λ gone. given (is_known to target name.0 newest.0) newest.0 >>= λ known. list_at (known_mark_at floor to known) (last_before mark_before) gone.1 >>= λ marks. Some (record { name = name.0; newest = known; gone = gone.0; marks = marks.0 }, marks.1)) y e in
    let b = bind_some (stamp_at a.0.1) (λ newest. gone_at f newest.1 >>= λ gone. given (is_known to target a.0.0 newest.0) newest.0 >>= λ known. list_at (known_mark_at floor to known) (last_before mark_before) gone.1 >>= λ marks. Some (record { name = a.0.0; newest = known; gone = gone.0; marks = marks.0 }, marks.1)) y a.2 in
    let c = bind_some (gone_at f b.0.1) (λ gone. given (is_known to target a.0.0 b.0.0) b.0.0 >>= λ known. list_at (known_mark_at floor to known) (last_before mark_before) gone.1 >>= λ marks. Some (record { name = a.0.0; newest = known; gone = gone.0; marks = marks.0 }, marks.1)) y b.2 in
    let d = bind_some (given (is_known to target a.0.0 b.0.0) b.0.0) (λ known. list_at (known_mark_at floor to known) (last_before mark_before) c.0.1 >>= λ marks. Some (record { name = a.0.0; newest = known; gone = c.0.0; marks = marks.0 }, marks.1)) y c.2 in
    let g = given_some (is_known to target a.0.0 b.0.0) b.0.0 d.0 d.1 in
    let k = bind_some (list_at (known_mark_at floor to d.0) (last_before mark_before) c.0.1) (λ marks. Some (record { name = a.0.0; newest = d.0; gone = c.0.0; marks = marks.0 }, marks.1)) y d.2 in
    let tests = and_parts (not (has target a.0.0)) (nat_le b.0.0.clock (clock_of to b.0.0.node)) g.0 in
    let name = name_field.takes bytes a.0 fits a.1 in
    let newest = stamp_field.takes a.0.1 b.0 name.fits b.1 in
    let gone = (gone_field f).takes b.0.1 c.0 newest.fits c.1 in
    let marks = list_takes (known_mark_at floor to d.0) mark_text (IsMark floor to d.0) (known_field floor to d.0) (last_before mark_before) c.0.1 k.0 gone.fits k.1 in
    let made : Row = record { name = a.0.0; newest = d.0; gone = c.0.0; marks = k.0.0 } in
    let gone_on = glue b.0.1 (gone_text f c.0.0) c.0.1 (list_text mark_text k.0.0) k.0.1 gone.parts marks.parts in
    let newest_on = glue a.0.1 (stamp_text b.0.0) b.0.1 (gone_text f c.0.0 ++ list_text mark_text k.0.0) k.0.1 newest.parts gone_on in
    let name_on = glue bytes (name_text a.0.0) a.0.1 (stamp_text b.0.0 ++ (gone_text f c.0.0 ++ list_text mark_text k.0.0)) k.0.1 name.parts newest_on in
    let Known : Point → Type 0 = λ p. IsStamp p × ((1 ≤ p.clock) × (p.clock ≤ clock_of to p.node)) in
    let known : Known d.0 = subst Known g.1 (newest.holds, (newest.holds.from_one, leb-true _ _ tests.1)) in
    subst (Read (row_text f) (IsRowIn f floor to target) bytes) (some_is (made, k.0.1) y k.2) (record {
      parts = name_on ∙ ap (λ (p : Point). (name_text a.0.0 ++ (stamp_text p ++ (gone_text f c.0.0 ++ list_text mark_text k.0.0))) ++ k.0.1) g.1;
      fits = marks.fits;
      holds = record {
        row = record {
          name = name.holds;
          outside = not-true (has target a.0.0) tests.0;
          newest = known.0;
          covered = known.1;
          each = marks.holds.each;
          in_order = follows_rise IsEarlierMark mark_before mark_order k.0.0 [] tt marks.holds.order;
        };
        few = marks.holds.few;
        gone = gone.holds;
      };
    })

row_again : (f : Format) (floor to : List ℕ) (target : List Span) (r : Row) (rest : List ℕ) → IsRowIn f floor to target r → row_at f floor to target (row_text f r ++ rest) ≡ Some (r, rest)
unfolding row_at row_text
row_again f floor to target r rest h =
    let marks = list_text mark_text r.marks in
    let regrouped : (name_text r.name ++ (stamp_text r.newest ++ (gone_text f r.gone ++ marks))) ++ rest ≡ name_text r.name ++ (stamp_text r.newest ++ (gone_text f r.gone ++ (marks ++ rest))) =
    append_assoc (name_text r.name) (stamp_text r.newest ++ (gone_text f r.gone ++ marks)) rest
    ∙ ap (λ (t : List ℕ). name_text r.name ++ t) (append_assoc (stamp_text r.newest) (gone_text f r.gone ++ marks) rest ∙ ap (λ (t : List ℕ). stamp_text r.newest ++ t) (append_assoc (gone_text f r.gone) marks rest)) in
    let tests : is_known to target r.name r.newest ≡ true = and_from _ _ (not_from_false _ h.row.outside) (le-leb _ _ h.row.covered.1) in
    let listed : IsList (IsMark floor to r.newest) (last_before mark_before) r.marks = record { each = h.row.each; order = rises_follow IsEarlierMark mark_before order_mark r.marks [] h.row.in_order; few = h.few } in
    ap (row_at f floor to target) regrouped
    ∙ rw (
      name_field.again r.name (stamp_text r.newest ++ (gone_text f r.gone ++ (marks ++ rest))) h.row.name,
      stamp_field.again r.newest (gone_text f r.gone ++ (marks ++ rest)) h.row.newest,
      (gone_field f).again r.gone (marks ++ rest) h.gone,
      tests,
      list_again (known_mark_at floor to r.newest) mark_text (IsMark floor to r.newest) (known_field floor to r.newest) (last_before mark_before) r.marks rest listed,
    ) refl

pub row_field : (f : Format) (floor to : List ℕ) (target : List Span) → IsField (row_at f floor to target) (row_text f) (IsRowIn f floor to target)
row_field f floor to target = record { takes = row_takes f floor to target; again = row_again f floor to target }
