-- How a scan stays right for its stream.
use Rattle.std.proofs.Common.{◌≡◌, ℕ, ◌<◌, ◌≤◌, ◌+◌, ◌⊎◌, inl, inr, List, [], ◌∷◌, ◌++◌, length, get_or, take, drop, cond, nat_eq, filter, find, refl, sym, ◌∙◌, ap, subst, arith}
use Rattle.std.specs.Prelude.{All, Bool, true, false, IsTrue, Option, None, Some, Contains, reverse, slice_get, not, ◌||◌, ◌&&◌}
use Rattle.std.proofs.lemmas.List.{length-reverse, reverse-append, reverse-reverse, take-append-le, take_all}
use Rattle.std.specs.Str.{bytes_eq}
use Rattle.pr_stamps.specs.Point.{Point, is_this}
use Rattle.pr_names.specs.Order.{name_lt}
use Rattle.pr_names.specs.Span.{Span}
use Rattle.pr_sets.specs.Spans.{has}
use Rattle.pr_inval.specs.declared.kind.Kind.{Kind}
use Rattle.pr_inval.specs.declared.kind.Kind.TheVariants.{Precise, Imprecise, Checkpoint, Body}
use Rattle.pr_inval.specs.declared.row.Row.{Row}
use Rattle.pr_inval.specs.declared.write_rec.WriteRec.{WriteRec}
use Rattle.pr_inval.specs.Standing.{IsSameSession, SessionMeaning, Standing}
use Rattle.pr_marks.specs.Table.{is_after}
use Rattle.pr_story.specs.declared.entry.Entry.{Entry}
use Rattle.pr_story.specs.declared.event.Event.{Event}
use Rattle.pr_story.specs.declared.event.Event.TheVariants.{Wrote, Sent, Idle, Stale, Accepted, Dropped}
use Rattle.pr_story.specs.Knowledge.{IsOf, HasRow, NamesStamp, body_after, body_in, gone_told, held_body, known_gone}
use Rattle.pr_story.specs.Sending.{HasBody, IsBodyOf, row_names}
use Rattle.pr_story.specs.Sessions.{HasGoneOn}
use Rattle.pr_story.specs.Turns.{IsBodyToSend, is_body, sent_after}
use Rattle.pr_story.proofs.Known.{Decides-is_this}
use Rattle.pr_story.proofs.Naming.{NamesGone, first_how, told_names}
use Rattle.pr_story.proofs.NewestFirst.{reverse-take_more}
use Rattle.pr_story.proofs.Sorted.{contains_none, first_or_later, is_first, is_later}
use Rattle.pr_snap.proofs.Choice.{by_test}
use Rattle.pr_snap.proofs.KnownNames.{fewer_next, is_next, named_so}
use Rattle.pr_snap.proofs.NameOrder.{lt_trans}
use Rattle.pr_node.specs.Scanning.{AreWaiting, HasAwaited, HasPassed, IsScanOf, Scanned, changed_in, changed_in_kind, fresh, oldest}
use Rattle.pr_node.specs.Sending.{IsNextBodyOf, IsTurnOf}
use Rattle.pr_node.proofs.Walk.{IsPassed}

-- ---- the oldest entries

reverse_first : (e : Entry) (es : List Entry) → reverse (e ∷ es) ≡ reverse es ++ e ∷ []
reverse_first e es = reverse-append (e ∷ []) es

oldest_of : (n : ℕ) (es : List Entry) → oldest n (reverse es) ≡ reverse (take n es)
oldest_of n es = ap (λ (x : List Entry). reverse (take n x)) (reverse-reverse es)

oldest_all : (n : ℕ) (j : List Entry) → n ≡ length j → oldest n j ≡ j
oldest_all n j e =
    ap (λ (x : List Entry). reverse x) (take_all n (reverse j) (let l : length (reverse j) ≡ length j = length-reverse j in omega (arith, l, e)))
    ∙ reverse-reverse j

oldest_kept : (n : ℕ) (e : Entry) (j : List Entry) → n ≤ length j → oldest n (e ∷ j) ≡ oldest n j
oldest_kept n e j le =
    ap (λ (x : List Entry). reverse (take n x)) (reverse_first e j)
    ∙ ap (λ (x : List Entry). reverse x) (take-append-le n (reverse j) (e ∷ []) (let l : length (reverse j) ≡ length j = length-reverse j in omega (arith, l, le)))

oldest_more : (n : ℕ) (es : List Entry) (e : Entry) → n < length es → e ≡ get_or es n e → oldest (n + 1) (reverse es) ≡ e ∷ oldest n (reverse es)
oldest_more n es e lt is =
    oldest_of (n + 1) es ∙ reverse-take_more es n e lt is ∙ ap (λ (x : List Entry). e ∷ x) (sym (oldest_of n es))

-- ---- what one entry may bring

the_name : (n o : List ℕ) → n ≡ o → Contains (n ∷ []) o
the_name n o e = subst (λ (q : List ℕ). Contains (n ∷ []) q) e (is_first n [])

row_named : (rows : List Row) (o : List ℕ) (row : Row) → Contains rows row → row.name ≡ o → Contains (row_names rows) o
row_named [] o row c e = absurd (contains_none row c)
row_named (first ∷ rows) o row c e = elim (first_or_later first rows row c) [
  | inl same ↦ subst (λ (q : List ℕ). Contains (first.name ∷ row_names rows) q) (ap (λ (r : Row). r.name) same ∙ e) (is_first first.name (row_names rows))
  | inr later ↦ is_later first.name (row_names rows) o (row_named rows o row later e)
]

kind_names : (k : Kind) (o : List ℕ)
    → (((x : WriteRec) × IsOf k x × (x.name ≡ o)) ⊎ ((row : Row) × HasRow k row × (row.name ≡ o))) → Contains (changed_in_kind k) o
kind_names (Precise from to write) o n = elim n [ inl x ↦ the_name write.name o (ap (λ (w : WriteRec). w.name) x.1 ∙ x.2) | inr r ↦ absurd r.1 ]
kind_names (Checkpoint to target floor rows) o n = elim n [ inl x ↦ absurd x.1 | inr r ↦ row_named rows o r.0 r.1 r.2 ]
kind_names (Imprecise from to target) o n = elim n [ inl x ↦ absurd x.1 | inr r ↦ absurd r.1 ]
kind_names (Body name stamp bytes) o n = elim n [ inl x ↦ absurd x.1 | inr r ↦ absurd r.1 ]

stamp_changed : (event : Event) (o : List ℕ) (t : Point) → NamesStamp event o t → Contains (changed_in event) o
stamp_changed (Wrote client write body after) o t n = the_name write.name o n.0
stamp_changed (Accepted msg at) o t n = kind_names msg.kind o (elim n [ inl x ↦ inl (x.0, x.1, x.2) | inr r ↦ inr (r.0, r.1, r.2) ])
stamp_changed _ o t n = absurd n

gone_changed : (event : Event) (o : List ℕ) (t : Point) (gone : Bool) → NamesGone event o t gone → Contains (changed_in event) o
gone_changed (Wrote client write body after) o t gone n = the_name write.name o n.0
gone_changed (Accepted msg at) o t gone n = kind_names msg.kind o (elim n [ inl x ↦ inl (x.0, x.1, x.2) | inr r ↦ inr (r.0, r.1, r.2) ])
gone_changed _ o t gone n = absurd n

-- the test picked the new body, or what was held before
picked : (b : Bool) (X : Type 0) (new bytes : List ℕ) (before : Option (List ℕ)) → (b ≡ true → X) → cond b (Some new) before ≡ Some bytes → X ⊎ (before ≡ Some bytes)
picked true X new bytes before then e = inl (then refl)
picked false X new bytes before then e = inr e

first_true : (a b : Bool) → (a && b) ≡ true → a ≡ true
first_true true b e = refl
first_true false b e = e

was_held : (b : Bool) (bytes : List ℕ) (before : Option (List ℕ)) → cond b None before ≡ Some bytes → before ≡ Some bytes
was_held true bytes before e = absurd (cc)
was_held false bytes before e = e

kind_held : (k : Kind) (o : List ℕ) (t : Point) (bytes : List ℕ) (before : Option (List ℕ)) → body_in k o t before ≡ Some bytes → Contains (changed_in_kind k) o ⊎ (before ≡ Some bytes)
kind_held (Precise from to write) o t bytes before e = inr e
kind_held (Imprecise from to target) o t bytes before e = inr e
kind_held (Checkpoint to target floor rows) o t bytes before e = inr e
kind_held (Body name stamp body) o t bytes before e = picked (is_this name stamp o t) (Contains (name ∷ []) o) body bytes before (λ is. the_name name o ((Decides-is_this name stamp o t).0 is).0) e

event_held : (event : Event) (o : List ℕ) (t : Point) (bytes : List ℕ) (before : Option (List ℕ)) → body_after event o t before ≡ Some bytes → Contains (changed_in event) o ⊎ (before ≡ Some bytes)
event_held (Wrote client write body after) o t bytes before e =
    picked (is_this write.name write.stamp o t && not write.gone) (Contains (write.name ∷ []) o) body bytes before
    (λ is. the_name write.name o ((Decides-is_this write.name write.stamp o t).0 (first_true (is_this write.name write.stamp o t) (not write.gone) is)).0) e
event_held (Accepted msg at) o t bytes before e = kind_held msg.kind o t bytes before e
event_held (Dropped name) o t bytes before e = inr (was_held (bytes_eq name o) bytes before e)
event_held _ o t bytes before e = inr e

-- a body that is to be sent behind one more entry is of a name that the entry changed, or was to be sent before it
body_before : (e : Entry) (j : List Entry) (session : Standing) (o : List ℕ) → HasBody (e ∷ j) session o → Contains (changed_in e.event) o ⊎ HasBody j session o
body_before e j session o b =
    let t : Point = b.0 in
    let bytes : List ℕ = b.1 in
    elim b.2.1.0 [
      | inl now ↦ inl (stamp_changed e.event o t now)
      | inr named ↦ elim (first_how (known_gone j o t) (gone_told e.event o t) false b.2.2) [
        | inr now ↦ inl (gone_changed e.event o t false (told_names e.event o t false now))
        | inl gone ↦ elim (event_held e.event o t bytes (held_body j o t) b.2.3) [
          | inl now ↦ inl now
          | inr held ↦ inr (t, bytes, (b.2.0, (named, λ s n. b.2.1.1 s (inr n)), gone, held, b.2.4))
        ]
      ]
    ]

-- ---- the scan stays right

pub scan_fresh : (session : Standing) (j : List Entry) → IsScanOf fresh session j
scan_fresh session j = record {
  looked = omega arith;
  waiting = λ o c. absurd (contains_none o c);
  passed = λ o low b. absurd (let bad : true ≡ false = low in cc);
}

-- over one more entry of the node
pub scan_kept : (scan : Scanned) (session : Standing) (e : Entry) (j : List Entry) → IsScanOf scan session j → IsScanOf scan session (e ∷ j)
scan_kept scan session e j s = record {
  looked = let l : scan.looked ≤ length j = s.looked in omega arith;
  waiting = s.waiting;
  passed = subst (λ (x : List Entry). HasPassed scan session x) (sym (oldest_kept scan.looked e j s.looked)) s.passed;
}

-- for a stream that stands so, of the same names, which has sent no less
pub scan_onward : (scan : Scanned) (a b : Standing) (j : List Entry) → b.names ≡ a.names → ((o : List ℕ) (t : Point) → b.sent o t ≡ false → a.sent o t ≡ false) → IsScanOf scan a j → IsScanOf scan b j
scan_onward scan a b j same fewer s = record {
  looked = s.looked;
  waiting = λ o c. let w = s.waiting o c in (subst (λ (x : List Span). IsTrue (has x o)) (sym same) w.0, w.1);
  passed = λ o low w. s.passed o low (w.0, w.1, (subst (λ (x : List Span). IsTrue (has x o)) same w.2.0, w.2.1, w.2.2, w.2.3, fewer o w.0 w.2.4));
}

-- ---- looking at an entry

pub waits_still : (scan now : Scanned) (session : Standing) (names : List Span) (changed : List (List ℕ)) → names ≡ session.names → HasAwaited names changed scan now → AreWaiting scan session → AreWaiting now session
waits_still scan now session names changed is a w o c = elim (a.only o c) [
  | inl old ↦ let x = w o old in (x.0, subst (λ (l : Option (List ℕ)). is_after l o ≡ false) (sym a.last) x.1)
  | inr new ↦ (subst (λ (x : List Span). IsTrue (has x o)) is new.0, subst (λ (l : Option (List ℕ)). is_after l o ≡ false) (sym a.last) new.1)
]

-- more names wait
pub awaited : (scan now : Scanned) (session : Standing) (names : List Span) (j : List Entry) → names ≡ session.names → HasAwaited names [] scan now → IsScanOf scan session j → IsScanOf now session j
awaited scan now session names j is a s = record {
  looked = subst (λ (k : ℕ). k ≤ length j) (sym a.looked) s.looked;
  waiting = waits_still scan now session names [] is a s.waiting;
  passed = λ o low b. a.kept o (s.passed o (subst (λ (x : Option (List ℕ)). is_after x o ≡ false) a.last low) (subst (λ (k : ℕ). HasBody (oldest k j) session o) a.looked b));
}

-- one more entry was looked at, at place k
pub looked_more : (scan now next : Scanned) (session : Standing) (names : List Span) (es : List Entry) (e : Entry) (k : ℕ) → k ≡ scan.looked → names ≡ session.names → k < length es → e ≡ get_or es k e
    → HasAwaited names (changed_in e.event) scan now → next ≡ record { looked = k + 1; last = now.last; waiting = now.waiting } → IsScanOf scan session (reverse es) → IsScanOf next session (reverse es)
looked_more scan now next session names es e k place is lt at a so s = subst (λ (x : Scanned). IsScanOf x session (reverse es)) (sym so) (record {
  looked = let l : length (reverse es) ≡ length es = length-reverse es in omega (arith, l, lt);
  waiting = waits_still scan now session names (changed_in e.event) is a s.waiting;
  passed = λ o low b.
      let was : is_after scan.last o ≡ false = subst (λ (x : Option (List ℕ)). is_after x o ≡ false) a.last low in
      elim (body_before e (oldest k (reverse es)) session o (subst (λ (x : List Entry). HasBody x session o) (oldest_more k es e lt at) b)) [
        | inl changed ↦ a.added o changed (subst (λ (x : List Span). IsTrue (has x o)) (sym is) b.2.0) was
        | inr old ↦ a.kept o (s.passed o was (subst (λ (x : ℕ). HasBody (oldest x (reverse es)) session o) place old))
      ];
})

-- where no name was passed, all entries count as looked at
pub looked_all : (scan now : Scanned) (session : Standing) (es : List Entry) → scan.last ≡ None → now ≡ record { looked = length es; last = scan.last; waiting = scan.waiting } → IsScanOf scan session (reverse es) → IsScanOf now session (reverse es)
looked_all scan now session es none so s = subst (λ (x : Scanned). IsScanOf x session (reverse es)) (sym so) (record {
  looked = let l : length (reverse es) ≡ length es = length-reverse es in omega (arith, l);
  waiting = s.waiting;
  passed = λ o low b. absurd (let bad : true ≡ false = subst (λ (x : Option (List ℕ)). is_after x o ≡ false) none low in cc);
})

-- what is awaited one after the other
pub awaited_none : (scan : Scanned) (names : List Span) → HasAwaited names [] scan scan
awaited_none scan names = record { looked = refl; last = refl; kept = λ o c. c; only = λ o c. inl c; added = λ o c. absurd (contains_none o c) }

-- ---- where all entries were looked at

pub passed_whole : (scan : Scanned) (session : Standing) (es : List Entry) → scan.looked ≡ length es → IsScanOf scan session (reverse es) → HasPassed scan session (reverse es)
passed_whole scan session es all s = subst (λ (x : List Entry). HasPassed scan session x) (oldest_all scan.looked (reverse es) (all ∙ sym (length-reverse es))) s.passed

pub scan_at : (scan : Scanned) (session : Standing) (es : List Entry) → scan.looked ≡ length es → AreWaiting scan session → HasPassed scan session (reverse es) → IsScanOf scan session (reverse es)
scan_at scan session es all w p = record {
  looked = let l : length (reverse es) ≡ length es = length-reverse es in omega (arith, l, all);
  waiting = w;
  passed = subst (λ (x : List Entry). HasPassed scan session x) (sym (oldest_all scan.looked (reverse es) (all ∙ sym (length-reverse es)))) p;
}

-- ---- the least name that waits

head_is : (names : List (List ℕ)) (name : List ℕ) → slice_get names 0 ≡ Some name → names ≡ name ∷ drop 1 names
head_is [] name is = absurd (cc)
head_is (n ∷ ns) name is = let same : n ≡ name = some_is n name is in ap (λ (x : List ℕ). x ∷ ns) same
  where
    some_is : (x y : List ℕ) → Some x ≡ Some y → x ≡ y
    some_is x y h = cc

pub head_waits : (names : List (List ℕ)) (name : List ℕ) → slice_get names 0 ≡ Some name → Contains names name
head_waits names name is = subst (λ (x : List (List ℕ)). Contains x name) (sym (head_is names name is)) (is_first name (drop 1 names))

pub head_less : (names : List (List ℕ)) (name : List ℕ) → slice_get names 0 ≡ Some name → length (drop 1 names) < length names
head_less [] name is = absurd (cc)
head_less (n ∷ ns) name is = omega arith

one_of : (P : List ℕ → Type 0) (names : List (List ℕ)) (o : List ℕ) → All P names → Contains names o → P o
one_of P names o all c = subst P c.2 (all c.0 o c.1)

rest_waits : (names : List (List ℕ)) (name o : List ℕ) → slice_get names 0 ≡ Some name → Contains (drop 1 names) o → Contains names o
rest_waits names name o is c = subst (λ (x : List (List ℕ)). Contains x o) (sym (head_is names name is)) (is_later name (drop 1 names) o c)

-- the least one leaves
pub left_waiting : (scan now : Scanned) (session : Standing) (name : List ℕ) → slice_get scan.waiting 0 ≡ Some name → now ≡ record { looked = scan.looked; last = scan.last; waiting = drop 1 scan.waiting } → AreWaiting scan session → AreWaiting now session
left_waiting scan now session name is so w = subst (λ (x : Scanned). AreWaiting x session) (sym so) (λ o c. w o (rest_waits scan.waiting name o is c))

pub left_passed : (scan now : Scanned) (session : Standing) (j : List Entry) (name : List ℕ) → slice_get scan.waiting 0 ≡ Some name → now ≡ record { looked = scan.looked; last = scan.last; waiting = drop 1 scan.waiting }
    → IsBodyOf j session name None → HasPassed scan session j → HasPassed now session j
left_passed scan now session j name is so none p = subst (λ (x : Scanned). HasPassed x session j) (sym so) (λ o low b.
    elim (first_or_later name (drop 1 scan.waiting) o (subst (λ (x : List (List ℕ)). Contains x o) (head_is scan.waiting name is) (p o low b))) [
      | inl same ↦ let w : HasBody j session name = subst (λ (x : List ℕ). HasBody j session x) (sym same) b in absurd (none w.0 w.1 w.2)
      | inr later ↦ later
    ])

-- it has the body that is sent next
pub waiting_next : (scan : Scanned) (session : Standing) (j : List Entry) (name : List ℕ) (kind : Kind) → slice_get scan.waiting 0 ≡ Some name → All (λ o. name_lt o name ≡ false) scan.waiting
    → IsBodyOf j session name (Some kind) → AreWaiting scan session → HasPassed scan session j → IsNextBodyOf j session (Some kind)
waiting_next scan session j name (Body o t bytes) is least b w p = (
  subst (λ (x : List ℕ). IsBodyToSend j session x t bytes) (sym b.0) b.1,
  λ other stamp body to. subst (λ (x : List ℕ). name_lt other x ≡ false) (sym b.0) (by_test (is_after scan.last other)
      (λ after. by_test (name_lt other name)
      (λ lt. absurd (let low : is_after scan.last name ≡ false = (w name (head_waits scan.waiting name is)).1 in let high : is_after scan.last name ≡ true = after_more scan.last other name after lt in cc))
      (λ low. low))
      (λ low. one_of (λ x. name_lt x name ≡ false) scan.waiting other least (p other low (stamp, body, to)))),
)
  where
    after_more : (last : Option (List ℕ)) (a b : List ℕ) → is_after last a ≡ true → name_lt a b ≡ true → is_after last b ≡ true
    after_more None a b h g = refl
    after_more (Some l) a b h g = lt_trans l a b h g
waiting_next scan session j name (Precise from to write) is least b w p = absurd b
waiting_next scan session j name (Imprecise from to target) is least b w p = absurd b
waiting_next scan session j name (Checkpoint to target floor rows) is least b w p = absurd b

-- ---- the walk, where no name waits

pub passed_of : (scan : Scanned) (session : Standing) (j : List Entry) → scan.waiting ≡ [] → HasPassed scan session j → IsPassed j session scan.last
passed_of scan session j none p o low b = contains_none o (subst (λ (x : List (List ℕ)). Contains x o) none (p o low b))

pub none_waiting : (scan : Scanned) (session : Standing) → scan.waiting ≡ [] → AreWaiting scan session
none_waiting scan session none o c = absurd (contains_none o (subst (λ (x : List (List ℕ)). Contains x o) none c))

pub pass_on : (scan now : Scanned) (session : Standing) (j : List Entry) (name : List ℕ) → now ≡ record { looked = scan.looked; last = Some name; waiting = scan.waiting } → IsPassed j session (Some name) → HasPassed now session j
pass_on scan now session j name is p = subst (λ (x : Scanned). HasPassed x session j) (sym is) (λ o low b. absurd (p o low b))

pub pass_less : (scan now : Scanned) (names : List Span) (ns : List (List ℕ)) (last : Option (List ℕ)) (name : List ℕ) → last ≡ scan.last → now ≡ record { looked = scan.looked; last = Some name; waiting = scan.waiting }
    → Some name ≡ find (is_next last names) ns → length (filter (is_after now.last) ns) < length (filter (is_after scan.last) ns)
pass_less scan now names ns last name at so is =
    subst (λ (x : Scanned). length (filter (is_after x.last) ns) < length (filter (is_after scan.last) ns)) (sym so)
    (subst (λ (x : Option (List ℕ)). length (filter (is_after (Some name)) ns) < length (filter (is_after x) ns)) at (fewer_next last names ns name is))

-- what is found past the last name
pub found_at : (r last : Option (List ℕ)) (scan : Scanned) (names same : List Span) (ns : List (List ℕ)) → last ≡ scan.last → names ≡ same → r ≡ find (is_next last names) ns → r ≡ find (is_next scan.last same) ns
found_at r last scan names same ns at e is = subst (λ (x : Option (List ℕ)). r ≡ find (is_next x same) ns) at (named_so r last names same ns e is)

-- ---- turns

-- what was not sent after a turn, was not sent before it
not_before_or : (b c : Bool) → (b || c) ≡ false → c ≡ false
not_before_or true c e = absurd (let bad : true ≡ false = e in cc)
not_before_or false c e = e

unsent : (stream : ℕ) (event : Event) (o : List ℕ) (t : Point) (before : Bool) → IsTurnOf stream event → sent_after event stream o t before ≡ false → before ≡ false
unsent stream (Sent msg) o t before turn e = not_before_or (nat_eq msg.stream stream && is_body msg.kind o t) before e
unsent stream (Idle s) o t before turn e = e
unsent stream (Stale s cut) o t before turn e = e
unsent stream _ o t before turn e = absurd turn

-- the entry of a turn was made, and the session went on by it
pub scan_turned : (scan : Scanned) (a b : SessionMeaning) (attached : Bool) (e : Entry) (old new : List Entry) → HasGoneOn a b attached e → IsTurnOf a.stream e.event → new ≡ old ++ e ∷ [] → IsScanOf scan a.standing (reverse old) → IsScanOf scan b.standing (reverse new)
scan_turned scan a b attached e old new on turn is so = subst (λ (x : List Entry). IsScanOf scan b.standing x) (sym (ap (λ (x : List Entry). reverse x) is ∙ reverse-append old (e ∷ [])))
    (scan_kept scan b.standing e (reverse old)
    (scan_onward scan a.standing b.standing (reverse old) on.after.names (λ o t new_one. unsent a.stream e.event o t (a.standing.sent o t) turn (sym (on.after.sent o t) ∙ new_one)) so))

-- the same session but for its room, and the same entries
pub scan_here : (scan : Scanned) (a b : SessionMeaning) (old new : List Entry) → IsSameSession a b → new ≡ old → IsScanOf scan a.standing (reverse old) → IsScanOf scan b.standing (reverse new)
scan_here scan a b old new same is so = subst (λ (x : Standing). IsScanOf scan x (reverse new)) (sym same.standing) (subst (λ (x : List Entry). IsScanOf scan a.standing (reverse x)) (sym is) so)
