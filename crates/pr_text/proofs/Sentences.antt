-- A line's fields say one event, but for what lines leave out.
use Rattle.std.proofs.Common.{◌≡◌, ℕ, ◌<◌, ◌^◌, inl, inr, List, [], ◌∷◌, ◌++◌, cond, Bool, true, false, refl, sym, ap, ◌∙◌, subst, arith, map}
use Rattle.std.specs.Prelude.{All, codes, decimal, IsTrue}
use Rattle.std.specs.Str.{bytes_eq}
use Rattle.std.proofs.lemmas.Fmt.{decimal_injective}
use Rattle.std.proofs.lemmas.List.Elements.{All-head, All-tail}
use Rattle.pr_vectors.specs.Vector.{IsVector, zero_vector}
use Rattle.pr_vectors.proofs.Vectors.{is_in_range, length-vector_of}
use Rattle.pr_story.proofs.Basics.{clock_zero}
use Rattle.pr_inval.specs.Points.{from_of}
use Rattle.pr_inval.specs.declared.kind.Kind.{Kind}
use Rattle.pr_inval.specs.declared.kind.Kind.TheVariants.{Precise, Imprecise, Checkpoint, Body}
use Rattle.pr_inval.specs.declared.write_rec.WriteRec.{WriteRec}
use Rattle.pr_script.specs.declared.decl.Decl.{Decl}
use Rattle.pr_story.specs.Lines.{SaySame}
use Rattle.pr_story.specs.Ranges.{IsInRange, IsKind}
use Rattle.pr_story.specs.declared.cause.Cause.{Cause}
use Rattle.pr_story.specs.declared.cause.Cause.TheVariants as causes
use Rattle.pr_story.specs.declared.event.Event.{Event}
use Rattle.pr_story.specs.declared.event.Event.TheVariants.{Wrote, Attached, Sent, Idle, Stale, Accepted, Gapped, Missing, Down, Answered, Behind, Moved, Cut, Dropped, Conflicts, State}
use Rattle.pr_story.specs.declared.found.Found.{Found}
use Rattle.pr_story.specs.declared.reply.Reply.{Reply}
use Rattle.pr_script.specs.Labels.{AreLabels}
use Rattle.pr_script.specs.Printing.{label_text as label}
use Rattle.pr_text.specs.Lines.{body_fields, cause_text, fields_of, reply_fields, stamp_fields, word_of}
use Rattle.pr_text.specs.Numbers.{Has, counts_of, nodes_of}
use Rattle.pr_story.specs.Counts.{HasEvent, HasKind, HasVector}
use Rattle.pr_text.specs.Texts.{vector_text}
use Rattle.pr_script.specs.declared.kind.Kind.TheVariants as kinds
use Rattle.pr_script.specs.declared.kind.Kind.{Kind as What}
use Rattle.pr_text.proofs.Cut.{Plain, is_plain}
use Rattle.pr_text.proofs.Fields.{AllClosed, Closed, closed_append, word}
use Rattle.pr_text.proofs.Messages.{all_both, at_0, at_1, at_2, at_3, at_4, at_5, at_6, at_7, later, found_closed, found_same, kind_closed, kind_same, name_closed, other_word, reply_closed, reply_same, same_vector, vector_closed, write_closed, write_same}
use Rattle.pr_text.proofs.Same.{decimal_plain, label_plain, label_same, of_list_all}
use Rattle.pr_text.proofs.SameQuotes.{are_bytes, is_quoted, quoted_same}
use Rattle.pr_text.proofs.SameRows.{map_same}

-- ---- the kinds of events

-- a number for each kind of event
abbrev pub place : Event → ℕ
place (Wrote client write body after) = 0
place (Attached s at) = 1
place (Sent msg) = 2
place (Idle s) = 3
place (Stale s cut) = 4
place (Accepted msg at) = 5
place (Gapped msg has) = 6
place (Missing s number) = 7
place (Down s cause) = 8
place (Answered client name reply at) = 9
place (Behind client needs has) = 10
place (Moved client) = 11
place (Cut at) = 12
place (Dropped name) = 13
place (Conflicts name found) = 14
place (State at cut floor precise) = 15

-- and the kind that a word begins
place_of : List ℕ → ℕ
place_of w =
    cond (bytes_eq w (codes "write")) 0 (cond (bytes_eq w (codes "delete")) 0 (cond (bytes_eq w (codes "attach")) 1 (cond (bytes_eq w (codes "send")) 2
    (cond (bytes_eq w (codes "idle")) 3 (cond (bytes_eq w (codes "stale")) 4 (cond (bytes_eq w (codes "accept")) 5 (cond (bytes_eq w (codes "gap")) 6
    (cond (bytes_eq w (codes "missing")) 7 (cond (bytes_eq w (codes "down")) 8 (cond (bytes_eq w (codes "read")) 9 (cond (bytes_eq w (codes "behind")) 10
    (cond (bytes_eq w (codes "move")) 11 (cond (bytes_eq w (codes "cut")) 12 (cond (bytes_eq w (codes "drop")) 13 (cond (bytes_eq w (codes "conflicts")) 14 15)))))))))))))))

written_place : (g : Bool) → place_of (cond g (codes "delete") (codes "write")) ≡ 0
unfolding place_of
written_place true = refl
written_place false = refl

word_place : (e : Event) → place_of (word_of e) ≡ place e
unfolding place_of
word_place (Wrote client write body after) = written_place write.gone
word_place (Attached s at) = refl
word_place (Sent msg) = refl
word_place (Idle s) = refl
word_place (Stale s cut) = refl
word_place (Accepted msg at) = refl
word_place (Gapped msg has) = refl
word_place (Missing s number) = refl
word_place (Down s cause) = refl
word_place (Answered client name reply at) = refl
word_place (Behind client needs has) = refl
word_place (Moved client) = refl
word_place (Cut at) = refl
word_place (Dropped name) = refl
word_place (Conflicts name found) = refl
word_place (State at cut floor precise) = refl

pub same_place : (x y : Event) → word_of x ≡ word_of y → place x ≡ place y
same_place x y e = sym (word_place x) ∙ ap place_of e ∙ word_place y

-- ---- what is asked of an event

-- a delete has no body
abbrev pub HasNoBody : Event → Type 0
HasNoBody (Wrote client write body after) = IsTrue write.gone → body ≡ []
HasNoBody e = Unit {0}

-- the event's values are such as their types allow, and it names what is declared alone
pub record IsShown (ds : List Decl) (n : ℕ) (e : Event) : Type 0 where
  pub node : Has ds kinds.Node n
  pub range : IsInRange e
  pub numbers : HasEvent (counts_of ds) e

pub record IsTold (ds : List Decl) (n : ℕ) (e : Event) : Type 0 where
  pub node : Has ds kinds.Node n
  pub range : IsInRange e
  pub numbers : HasEvent (counts_of ds) e
  pub body : HasNoBody e

pub shown : (ds : List Decl) (n : ℕ) (e : Event) → IsTold ds n e → IsShown ds n e
shown ds n e t = record { node = t.node; range = t.range; numbers = t.numbers }

-- ---- closed fields

written_plain : (g : Bool) → Plain (cond g (codes "delete") (codes "write"))
written_plain true = of_list_all is_plain (codes "delete") refl
written_plain false = of_list_all is_plain (codes "write") refl

pub word_plain : (e : Event) → Plain (word_of e)
word_plain (Wrote client write body after) = written_plain write.gone
word_plain (Attached s at) = of_list_all is_plain (codes "attach") refl
word_plain (Sent msg) = of_list_all is_plain (codes "send") refl
word_plain (Idle s) = of_list_all is_plain (codes "idle") refl
word_plain (Stale s cut) = of_list_all is_plain (codes "stale") refl
word_plain (Accepted msg at) = of_list_all is_plain (codes "accept") refl
word_plain (Gapped msg has) = of_list_all is_plain (codes "gap") refl
word_plain (Missing s number) = of_list_all is_plain (codes "missing") refl
word_plain (Down s cause) = of_list_all is_plain (codes "down") refl
word_plain (Answered client name reply at) = of_list_all is_plain (codes "read") refl
word_plain (Behind client needs has) = of_list_all is_plain (codes "behind") refl
word_plain (Moved client) = of_list_all is_plain (codes "move") refl
word_plain (Cut at) = of_list_all is_plain (codes "cut") refl
word_plain (Dropped name) = of_list_all is_plain (codes "drop") refl
word_plain (Conflicts name found) = of_list_all is_plain (codes "conflicts") refl
word_plain (State at cut floor precise) = of_list_all is_plain (codes "state") refl

IsTrue-is : {b : Bool} → b ≡ true → IsTrue b
IsTrue-is e = e

zero_is : IsVector zero_vector
zero_is = is_in_range (λ k. 0) zero_vector (length-vector_of (λ k. 0)) (λ k l. clock_zero k) (λ k l. omega arith)

module _ (ds : List Decl) (a : AreLabels ds) where
  label_closed : (k : What) (n : ℕ) → Has ds k n → Closed (label k ds n)
  label_closed k n h = inl (label_plain ds a k n h)

  number_closed : (n : ℕ) → n < 2 ^ 64 → Closed (decimal n)
  number_closed n l = inl (decimal_plain n l)

  body_closed : (g : Bool) (body : List ℕ) → AllClosed (body_fields ds g body)
  body_closed true body = tt
  body_closed false body = (inr (is_quoted body), tt)

  at_closed : (w : List ℕ) (v : List ℕ) → Closed w → IsVector v → HasVector (nodes_of ds) v → AllClosed (w ∷ vector_text ds v ∷ [])
  at_closed w v c i h = (c, (vector_closed ds a v i h, tt))

  cause_closed : (c : Cause) → Closed (cause_text c)
  cause_closed causes.Failed = word (codes "failed") refl
  cause_closed causes.Ended = word (codes "ended") refl
  cause_closed causes.Gap = word (codes "gap") refl

  zero_in : HasVector (nodes_of ds) zero_vector
  zero_in n l = clock_zero n

  from_closed : (k : Kind) → IsKind k → HasKind (nodes_of ds) k → Closed (vector_text ds (from_of k))
  from_closed (Precise from to write) i h = vector_closed ds a from i.0 h.0
  from_closed (Imprecise from to target) i h = vector_closed ds a from i.0 h.0
  from_closed (Checkpoint to target floor rows) i h = vector_closed ds a zero_vector zero_is zero_in
  from_closed (Body name stamp bytes) i h = vector_closed ds a zero_vector zero_is zero_in

  vectors_closed : (vs : List (List ℕ)) → All IsVector vs → All (HasVector (nodes_of ds)) vs → AllClosed (map (vector_text ds) vs)
  vectors_closed [] i h = tt
  vectors_closed (v ∷ vs) i h = (vector_closed ds a v (All-head IsVector v vs i) (All-head (HasVector (nodes_of ds)) v vs h), vectors_closed vs (All-tail IsVector v vs i) (All-tail (HasVector (nodes_of ds)) v vs h))

  pub event_closed : (n : ℕ) (e : Event) → IsShown ds n e → AllClosed (fields_of ds n e)
  event_closed n (Wrote client write body after) t = (
    label_closed kinds.Client client t.numbers.0,
    (
      name_closed ds a write.name t.range.0.0,
      closed_append (body_fields ds write.gone body) (stamp_fields ds write ++ codes "after" ∷ vector_text ds after ∷ []) (body_closed write.gone body)
          (closed_append (stamp_fields ds write) (codes "after" ∷ vector_text ds after ∷ []) (write_closed ds a write t.range.0 t.numbers.1)
          (at_closed (codes "after") after (word (codes "after") refl) t.range.3 t.numbers.2)),
    ),
  )
  event_closed n (Attached s at) t = (label_closed kinds.Stream s t.numbers.0, at_closed (codes "at") at (word (codes "at") refl) t.range.1 t.numbers.1)
  event_closed n (Sent msg) t =
      (label_closed kinds.Stream msg.stream t.numbers.0, (number_closed msg.number t.range.2, kind_closed ds a msg.kind t.range.3 t.numbers.1))
  event_closed n (Idle s) t = (label_closed kinds.Stream s t.numbers, tt)
  event_closed n (Stale s cut) t = (label_closed kinds.Stream s t.numbers.0, at_closed (codes "cut") cut (word (codes "cut") refl) t.range.1 t.numbers.1)
  event_closed n (Accepted msg at) t =
      (label_closed kinds.Stream msg.stream t.numbers.0.0, (number_closed msg.number t.range.0.2, at_closed (codes "at") at (word (codes "at") refl) t.range.1 t.numbers.1))
  event_closed n (Gapped msg has) t = (
    label_closed kinds.Stream msg.stream t.numbers.0.0,
    (
      number_closed msg.number t.range.0.2,
      (
        word (codes "needs") refl,
        (
          from_closed msg.kind t.range.0.3 t.numbers.0.1,
          at_closed (codes "has") has (word (codes "has") refl) t.range.1 t.numbers.1,
        ),
      ),
    ),
  )
  event_closed n (Missing s number) t = (label_closed kinds.Stream s t.numbers, (number_closed number t.range.1, tt))
  event_closed n (Down s cause) t = (label_closed kinds.Stream s t.numbers, (cause_closed cause, tt))
  event_closed n (Answered client name reply at) t = (
    label_closed kinds.Client client t.numbers.0,
    (
      name_closed ds a name t.range.1,
      closed_append (reply_fields ds reply) (codes "at" ∷ vector_text ds at ∷ []) (reply_closed ds a reply t.range.2 t.numbers.1) (at_closed (codes "at") at (word (codes "at") refl) t.range.3 t.numbers.2),
    ),
  )
  event_closed n (Behind client needs has) t =
      (label_closed kinds.Client client t.numbers.0, (word (codes "needs") refl, (vector_closed ds a needs t.range.1 t.numbers.1, at_closed (codes "has") has (word (codes "has") refl) t.range.2 t.numbers.2)))
  event_closed n (Moved client) t = (label_closed kinds.Client client t.numbers, (label_closed kinds.Node n t.node, tt))
  event_closed n (Cut at) t = (label_closed kinds.Node n t.node, at_closed (codes "at") at (word (codes "at") refl) t.range t.numbers)
  event_closed n (Dropped name) t = (label_closed kinds.Node n t.node, (name_closed ds a name t.range, tt))
  event_closed n (Conflicts name found) t = (label_closed kinds.Node n t.node, (name_closed ds a name t.range.0, found_closed ds a found t.range.1 t.numbers))
  event_closed n (State at cut floor precise) t = (
    label_closed kinds.Node n t.node,
    closed_append (codes "at" ∷ vector_text ds at ∷ []) (codes "cut" ∷ vector_text ds cut ∷ codes "floor" ∷ vector_text ds floor ∷ codes "precise" ∷ map (vector_text ds) precise)
        (at_closed (codes "at") at (word (codes "at") refl) t.range.0 t.numbers.0)
        (closed_append (codes "cut" ∷ vector_text ds cut ∷ []) (codes "floor" ∷ vector_text ds floor ∷ codes "precise" ∷ map (vector_text ds) precise)
        (at_closed (codes "cut") cut (word (codes "cut") refl) t.range.1 t.numbers.1)
        (closed_append (codes "floor" ∷ vector_text ds floor ∷ []) (codes "precise" ∷ map (vector_text ds) precise)
        (at_closed (codes "floor") floor (word (codes "floor") refl) t.range.2 t.numbers.2)
        (word (codes "precise") refl, vectors_closed precise t.range.3 t.numbers.3))),
  )

  -- ---- the same event

  number_same : (m n : ℕ) → m < 2 ^ 64 → n < 2 ^ 64 → decimal m ≡ decimal n → m ≡ n
  number_same m n l k e = decimal_injective m n l k e

  named : (k : What) (m n : ℕ) → Has ds k m → Has ds k n → label k ds m ≡ label k ds n → m ≡ n
  named k m n h j e = label_same ds a k m n h j e

  verb_same : (g h : Bool) → cond g (codes "delete") (codes "write") ≡ cond h (codes "delete") (codes "write") → g ≡ h
  verb_same true true e = refl
  verb_same true false e = other_word 100 119 (codes "elete") (codes "rite") e (λ k. omega (arith, k))
  verb_same false true e = other_word 119 100 (codes "rite") (codes "elete") e (λ k. omega (arith, k))
  verb_same false false e = refl

  cause_same : (c d : Cause) → cause_text c ≡ cause_text d → c ≡ d
  cause_same causes.Failed causes.Failed e = refl
  cause_same causes.Ended causes.Ended e = refl
  cause_same causes.Gap causes.Gap e = refl
  cause_same causes.Failed causes.Ended e = other_word 102 101 (codes "ailed") (codes "nded") e (λ k. omega (arith, k))
  cause_same causes.Failed causes.Gap e = other_word 102 103 (codes "ailed") (codes "ap") e (λ k. omega (arith, k))
  cause_same causes.Ended causes.Failed e = other_word 101 102 (codes "nded") (codes "ailed") e (λ k. omega (arith, k))
  cause_same causes.Ended causes.Gap e = other_word 101 103 (codes "nded") (codes "ap") e (λ k. omega (arith, k))
  cause_same causes.Gap causes.Failed e = other_word 103 102 (codes "ap") (codes "ailed") e (λ k. omega (arith, k))
  cause_same causes.Gap causes.Ended e = other_word 103 101 (codes "ap") (codes "nded") e (λ k. omega (arith, k))

  vectors_same : (us vs : List (List ℕ)) → All IsVector us → All (HasVector (nodes_of ds)) us → All IsVector vs → All (HasVector (nodes_of ds)) vs → map (vector_text ds) us ≡ map (vector_text ds) vs → us ≡ vs
  vectors_same us vs i h j k e =
      map_same (vector_text ds) (λ v. IsVector v × HasVector (nodes_of ds) v) (λ u v p q f. same_vector ds a u v p.0 p.1 q.0 q.1 f) us vs
      (all_both IsVector (HasVector (nodes_of ds)) (λ v. IsVector v × HasVector (nodes_of ds) v) (λ v p q. (p, q)) us i h)
      (all_both IsVector (HasVector (nodes_of ds)) (λ v. IsVector v × HasVector (nodes_of ds) v) (λ v p q. (p, q)) vs j k) e

  -- a write's fields behind its client and its name
  abbrev behind_write : Bool → List ℕ → WriteRec → List ℕ → List (List ℕ)
  behind_write g body w after = body_fields ds g body ++ (stamp_fields ds w ++ codes "after" ∷ vector_text ds after ∷ [])

  wrote_same : (c d : ℕ) (w x : WriteRec) (b k : List ℕ) (v u : List ℕ) (n m : ℕ) → IsTold ds n (Wrote c w b v) → IsTold ds m (Wrote d x k u) → (g : Bool) → w.gone ≡ g → x.gone ≡ g
      → label kinds.Client ds c ∷ w.name ∷ behind_write g b w v ≡ label kinds.Client ds d ∷ x.name ∷ behind_write g k x u → (let e : Event = Wrote c w b v in e) ≡ Wrote d x k u
  wrote_same c d w x b k v u n m s t true p q e =
      let fs = label kinds.Client ds c ∷ w.name ∷ behind_write true b w v in
      let gs = label kinds.Client ds d ∷ x.name ∷ behind_write true k x u in
      let write : w ≡ x = write_same ds a w x s.range.0 s.numbers.1 t.range.0 t.numbers.1 (p ∙ sym q) (at_1 fs gs e) (at_2 fs gs e) (at_4 fs gs e) in
      let body : b ≡ k = s.body (IsTrue-is p) ∙ sym (t.body (IsTrue-is q)) in
      ap (λ (z : ℕ). Wrote z w b v) (named kinds.Client c d s.numbers.0 t.numbers.0 (at_0 fs gs e))
      ∙ ap (λ (z : WriteRec). Wrote d z b v) write
      ∙ ap (λ (z : List ℕ). Wrote d x z v) body
      ∙ ap (λ (z : List ℕ). Wrote d x k z) (same_vector ds a v u s.range.3 s.numbers.2 t.range.3 t.numbers.2 (at_6 fs gs e))
  wrote_same c d w x b k v u n m s t false p q e =
      let fs = label kinds.Client ds c ∷ w.name ∷ behind_write false b w v in
      let gs = label kinds.Client ds d ∷ x.name ∷ behind_write false k x u in
      let write : w ≡ x = write_same ds a w x s.range.0 s.numbers.1 t.range.0 t.numbers.1 (p ∙ sym q) (at_1 fs gs e) (at_3 fs gs e) (at_5 fs gs e) in
      let body : b ≡ k = quoted_same b k (are_bytes b s.range.1) (are_bytes k t.range.1) (at_2 fs gs e) in
      ap (λ (z : ℕ). Wrote z w b v) (named kinds.Client c d s.numbers.0 t.numbers.0 (at_0 fs gs e))
      ∙ ap (λ (z : WriteRec). Wrote d z b v) write
      ∙ ap (λ (z : List ℕ). Wrote d x z v) body
      ∙ ap (λ (z : List ℕ). Wrote d x k z) (same_vector ds a v u s.range.3 s.numbers.2 t.range.3 t.numbers.2 (at_7 fs gs e))

  pub say_same : (n m : ℕ) (x y : Event) → IsTold ds n x → IsTold ds m y → word_of x ≡ word_of y → fields_of ds n x ≡ fields_of ds m y → SaySame x y
  say_same n m (Wrote c w b v) (Wrote d x k u) s t o e =
      let g : w.gone ≡ x.gone = verb_same w.gone x.gone o in
      wrote_same c d w x b k v u n m s t w.gone refl (sym g)
      (subst (λ (z : Bool). label kinds.Client ds c ∷ w.name ∷ behind_write w.gone b w v ≡ label kinds.Client ds d ∷ x.name ∷ behind_write z k x u) (sym g) e)
  say_same n m (Attached p v) (Attached q u) s t o e =
      ap (λ (z : ℕ). Attached z v) (named kinds.Stream p q s.numbers.0 t.numbers.0 (at_0 (fields_of ds n (Attached p v)) (fields_of ds m (Attached q u)) e))
      ∙ ap (λ (z : List ℕ). Attached q z) (same_vector ds a v u s.range.1 s.numbers.1 t.range.1 t.numbers.1 (at_2 (fields_of ds n (Attached p v)) (fields_of ds m (Attached q u)) e))
  say_same n m (Sent x) (Sent y) s t o e =
      let fs = fields_of ds n (Sent x) in
      let gs = fields_of ds m (Sent y) in (
        (named kinds.Stream x.stream y.stream s.numbers.0 t.numbers.0 (at_0 fs gs e), number_same x.number y.number s.range.2 t.range.2 (at_1 fs gs e)),
        kind_same ds a x.kind y.kind s.range.3 s.numbers.1 t.range.3 t.numbers.1 (ap (λ k. later (later k)) e),
      )
  say_same n m (Idle p) (Idle q) s t o e = ap (λ (z : ℕ). Idle z) (named kinds.Stream p q s.numbers t.numbers (at_0 (fields_of ds n (Idle p)) (fields_of ds m (Idle q)) e))
  say_same n m (Stale p v) (Stale q u) s t o e =
      ap (λ (z : ℕ). Stale z v) (named kinds.Stream p q s.numbers.0 t.numbers.0 (at_0 (fields_of ds n (Stale p v)) (fields_of ds m (Stale q u)) e))
      ∙ ap (λ (z : List ℕ). Stale q z) (same_vector ds a v u s.range.1 s.numbers.1 t.range.1 t.numbers.1 (at_2 (fields_of ds n (Stale p v)) (fields_of ds m (Stale q u)) e))
  say_same n m (Accepted x v) (Accepted y u) s t o e =
      let fs = fields_of ds n (Accepted x v) in
      let gs = fields_of ds m (Accepted y u) in (
        (named kinds.Stream x.stream y.stream s.numbers.0.0 t.numbers.0.0 (at_0 fs gs e), number_same x.number y.number s.range.0.2 t.range.0.2 (at_1 fs gs e)),
        same_vector ds a v u s.range.1 s.numbers.1 t.range.1 t.numbers.1 (at_3 fs gs e),
      )
  say_same n m (Gapped x v) (Gapped y u) s t o e =
      let fs = fields_of ds n (Gapped x v) in
      let gs = fields_of ds m (Gapped y u) in (
        (named kinds.Stream x.stream y.stream s.numbers.0.0 t.numbers.0.0 (at_0 fs gs e), number_same x.number y.number s.range.0.2 t.range.0.2 (at_1 fs gs e)),
        same_vector ds a v u s.range.1 s.numbers.1 t.range.1 t.numbers.1 (at_5 fs gs e),
      )
  say_same n m (Missing p k) (Missing q l) s t o e =
      ap (λ (z : ℕ). Missing z k) (named kinds.Stream p q s.numbers t.numbers (at_0 (fields_of ds n (Missing p k)) (fields_of ds m (Missing q l)) e))
      ∙ ap (λ (z : ℕ). Missing q z) (number_same k l s.range.1 t.range.1 (at_1 (fields_of ds n (Missing p k)) (fields_of ds m (Missing q l)) e))
  say_same n m (Down p c) (Down q d) s t o e =
      ap (λ (z : ℕ). Down z c) (named kinds.Stream p q s.numbers t.numbers (at_0 (fields_of ds n (Down p c)) (fields_of ds m (Down q d)) e))
      ∙ ap (λ (z : Cause). Down q z) (cause_same c d (at_1 (fields_of ds n (Down p c)) (fields_of ds m (Down q d)) e))
  say_same n m (Answered c o r v) (Answered d p q u) s t w e =
      let fs = fields_of ds n (Answered c o r v) in
      let gs = fields_of ds m (Answered d p q u) in
      let both = reply_same ds a r q (codes "at" ∷ vector_text ds v ∷ []) (codes "at" ∷ vector_text ds u ∷ []) s.range.2 s.numbers.1 t.range.2 t.numbers.1 (ap (λ k. later (later k)) e) in
      ap (λ (z : ℕ). Answered z o r v) (named kinds.Client c d s.numbers.0 t.numbers.0 (at_0 fs gs e))
      ∙ ap (λ (z : List ℕ). Answered d z r v) (at_1 fs gs e)
      ∙ ap (λ (z : Reply). Answered d p z v) both.0
      ∙ ap (λ (z : List ℕ). Answered d p q z) (same_vector ds a v u s.range.3 s.numbers.2 t.range.3 t.numbers.2 (at_1 (codes "at" ∷ vector_text ds v ∷ []) (codes "at" ∷ vector_text ds u ∷ []) both.1))
  say_same n m (Behind c v f) (Behind d u g) s t o e =
      let fs = fields_of ds n (Behind c v f) in
      let gs = fields_of ds m (Behind d u g) in
      ap (λ (z : ℕ). Behind z v f) (named kinds.Client c d s.numbers.0 t.numbers.0 (at_0 fs gs e))
      ∙ ap (λ (z : List ℕ). Behind d z f) (same_vector ds a v u s.range.1 s.numbers.1 t.range.1 t.numbers.1 (at_2 fs gs e))
      ∙ ap (λ (z : List ℕ). Behind d u z) (same_vector ds a f g s.range.2 s.numbers.2 t.range.2 t.numbers.2 (at_4 fs gs e))
  say_same n m (Moved c) (Moved d) s t o e = ap (λ (z : ℕ). Moved z) (named kinds.Client c d s.numbers t.numbers (at_0 (fields_of ds n (Moved c)) (fields_of ds m (Moved d)) e))
  say_same n m (Cut v) (Cut u) s t o e = ap (λ (z : List ℕ). Cut z) (same_vector ds a v u s.range s.numbers t.range t.numbers (at_2 (fields_of ds n (Cut v)) (fields_of ds m (Cut u)) e))
  say_same n m (Dropped o) (Dropped p) s t w e = ap (λ (z : List ℕ). Dropped z) (at_1 (fields_of ds n (Dropped o)) (fields_of ds m (Dropped p)) e)
  say_same n m (Conflicts o f) (Conflicts p g) s t w e =
      ap (λ (z : List ℕ). Conflicts z f) (at_1 (fields_of ds n (Conflicts o f)) (fields_of ds m (Conflicts p g)) e)
      ∙ ap (λ (z : Found). Conflicts p z) (found_same ds a f g s.range.1 s.numbers t.range.1 t.numbers (ap (λ k. later (later k)) e))
  say_same n m (State v c f ps) (State u d g qs) s t o e =
      let fs = fields_of ds n (State v c f ps) in
      let gs = fields_of ds m (State u d g qs) in
      ap (λ (z : List ℕ). State z c f ps) (same_vector ds a v u s.range.0 s.numbers.0 t.range.0 t.numbers.0 (at_2 fs gs e))
      ∙ ap (λ (z : List ℕ). State u z f ps) (same_vector ds a c d s.range.1 s.numbers.1 t.range.1 t.numbers.1 (at_4 fs gs e))
      ∙ ap (λ (z : List ℕ). State u d z ps) (same_vector ds a f g s.range.2 s.numbers.2 t.range.2 t.numbers.2 (at_6 fs gs e))
      ∙ ap (λ (z : List (List ℕ)). State u d g z) (vectors_same ps qs s.range.3 s.numbers.3 t.range.3 t.numbers.3 (ap (λ k. later (later (later (later (later (later (later (later k)))))))) e))
  say_same n m x y s t o e = let p = same_place x y o in absurd (omega (arith, p))
