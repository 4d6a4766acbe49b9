-- A flow's job, call by call.
use Rattle.std.proofs.Common.{◌≡◌, ◌⊎◌, ℕ, zero, suc, ◌<◌, ◌≤◌, ◌+◌, List, [], ◌∷◌, ◌++◌, All, inr, refl, sym, ap, ◌∙◌, subst, cond, get_or, arith}
use Rattle.std.specs.Prelude.{Bool, true, false, IsTrue, Option, Some, None, reverse}
use Rattle.std.specs.List.Sorted.{IsStrictlyIncreasing}
use mathlib.Core.List.{head-eq_of_cons-eq, tail-eq_of_cons-eq}
use Rattle.std.proofs.lemmas.List.{map-append, reverse-append}
use Rattle.std.proofs.lemmas.List.Elements.{All-push, All-tail, All-weaker}
use Rattle.pr_flow.specs.Calls.{Call}
use Rattle.pr_flow.specs.Flows.{is_at_destination, is_at_source}
use Rattle.pr_inval.specs.Standing.{SessionMeaning, Standing}
use Rattle.pr_merge.specs.Phases.{times_of}
use Rattle.pr_inval.specs.declared.msg.Msg.{Msg}
use Rattle.pr_inval.specs.Messages.{IsMessage}
use Rattle.pr_story.specs.declared.entry.Entry.{Entry}
use Rattle.pr_story.specs.declared.event.Event.{Event}
use Rattle.pr_story.specs.declared.event.Event.TheVariants.{Sent}
use Rattle.pr_story.specs.Clients.{is_with_needs}
use Rattle.pr_story.specs.History.{NodeEntry, Plan}
use Rattle.pr_story.specs.Lawful.{HasCause, IsOwnLawful, IsPlaced}
use Rattle.pr_story.specs.Laws.{StandsFor}
use Rattle.pr_story.specs.Merging.{IsJobRun, IsNoMissing, New, plain}
use Rattle.pr_story.specs.Sessions.{HasGoneOn}
use Rattle.pr_story.specs.Turns.{IsAttached, is_of_stream, is_timed, is_with_session, stream_time}
use Rattle.pr_story.proofs.OfStreams.{stands_on}
use Rattle.pr_crew.specs.Acting.{Acts, AtCell, acts, given, made_by, made_through, nothing}
use Rattle.pr_crew.specs.Jobs.{IsRun, MadeAt, at_destination, at_source}
use Rattle.pr_crew.specs.Making.{HasMade, IsCellOf, IsSameCaller, NodeCell, NodePass, journal_with}
use Rattle.pr_crew.proofs.MadeMore.{made_more}
use Rattle.pr_crew.proofs.Sofar.{news}
use Rattle.pr_crew.proofs.Through.{through_one}

-- ---- lists

rising_push : (ts : List ℕ) (t : ℕ) → IsStrictlyIncreasing ts → All (λ u. u < t) ts → IsStrictlyIncreasing (ts ++ t ∷ [])
rising_push [] t h a k lt = absurd (omega arith)
rising_push (x ∷ []) t h a zero lt = a 0 0 (omega arith)
rising_push (x ∷ []) t h a (suc k) lt = absurd (omega arith)
rising_push (x ∷ y ∷ ts) t h a zero lt = h 0 (omega arith)
rising_push (x ∷ y ∷ ts) t h a (suc k) lt =
    let e : suc (k + 1) ≡ suc k + 1 = omega arith in
    let rest : IsStrictlyIncreasing (y ∷ ts) = λ j w. let f : suc j + 1 ≡ suc (j + 1) = omega arith in subst (λ n. get_or (y ∷ ts) j 0 < get_or (x ∷ y ∷ ts) n 0) f (h (suc j) (omega arith)) in
    subst (λ n. get_or (y ∷ (ts ++ t ∷ [])) k 0 < get_or (x ∷ y ∷ (ts ++ t ∷ [])) n 0) e (rising_push (y ∷ ts) t rest (All-tail (λ u. u < t) x (y ∷ ts) a) k (omega arith))

same_last : (xs : List Entry) (e f : Entry) → xs ++ e ∷ [] ≡ xs ++ f ∷ [] → e ≡ f
same_last [] e f is = head-eq_of_cons-eq is
same_last (x ∷ xs) e f is = same_last xs e f (tail-eq_of_cons-eq is)

kept_last : (b : Bool) (y x : New) (zs ys : List New) → zs ≡ ys ++ x ∷ [] → cond b (y ∷ zs) zs ≡ cond b (y ∷ ys) ys ++ x ∷ []
kept_last true y x zs ys is = ap (λ (l : List New). y ∷ l) is
kept_last false y x zs ys is = is

pub source_one : (xs : List New) (x : New) → is_at_source x.made.entry.event ≡ true → at_source (xs ++ x ∷ []) ≡ at_source xs ++ x ∷ []
source_one [] x on = ap (λ (b : Bool). cond b (x ∷ []) []) on
source_one (y ∷ ys) x on = kept_last (is_at_source y.made.entry.event) y x (at_source (ys ++ x ∷ [])) (at_source ys) (source_one ys x on)

pub source_none : (xs : List New) (x : New) → is_at_source x.made.entry.event ≡ false → at_source (xs ++ x ∷ []) ≡ at_source xs
source_none [] x off = ap (λ (b : Bool). cond b (x ∷ []) []) off
source_none (y ∷ ys) x off = ap (λ (zs : List New). cond (is_at_source y.made.entry.event) (y ∷ zs) zs) (source_none ys x off)

pub destination_one : (xs : List New) (x : New) → is_at_destination x.made.entry.event ≡ true → at_destination (xs ++ x ∷ []) ≡ at_destination xs ++ x ∷ []
destination_one [] x on = ap (λ (b : Bool). cond b (x ∷ []) []) on
destination_one (y ∷ ys) x on = kept_last (is_at_destination y.made.entry.event) y x (at_destination (ys ++ x ∷ [])) (at_destination ys) (destination_one ys x on)

pub destination_none : (xs : List New) (x : New) → is_at_destination x.made.entry.event ≡ false → at_destination (xs ++ x ∷ []) ≡ at_destination xs
destination_none [] x off = ap (λ (b : Bool). cond b (x ∷ []) []) off
destination_none (y ∷ ys) x off = ap (λ (zs : List New). cond (is_at_destination y.made.entry.event) (y ∷ zs) zs) (destination_none ys x off)

-- ---- what both nodes' entries have in common

-- what the event sends is of the grammar
abbrev pub IsSpelled : Event → Type 0
IsSpelled event = (msg : Msg) → event ≡ Sent msg → IsMessage msg

module _ (plan : Plan) (h : List NodeEntry) (s k : ℕ) where
  pub record Common (a : SessionMeaning) (xs : List New) : Type 0 where
    pub run : IsRun plan h k xs
    pub rises : IsStrictlyIncreasing (times_of xs)
    pub late : All (λ t. t ≤ a.standing.time) (times_of xs)
    pub of_stream : All (λ x. IsTrue (is_of_stream x.made.entry.event s) × IsNoMissing x.made.entry.event) xs
    pub sides : All (λ x. IsTrue (is_at_source x.made.entry.event) ⊎ IsTrue (is_at_destination x.made.entry.event)) xs
    pub stream : a.stream ≡ s
    pub spelled : All (λ x. IsSpelled x.made.entry.event) xs
    pub stands : StandsFor plan (plain (reverse xs) ++ h) s a.standing
    pub attached : IsAttached (plain (reverse xs) ++ h) s

  -- what is asked of the next entry, from the one moment of the session to the other
  pub record IsNext (a b : SessionMeaning) (xs : List New) (x : New) : Type 0 where
    pub job : x.job ≡ k
    pub few : x.made.node < 32
    pub placed : IsPlaced plan (plain (reverse xs) ++ h) x.made.node x.made.entry.event
    pub cause : HasCause (plain (reverse xs) ++ h) x.made.node x.made.entry.event
    pub session : (t : ℕ) → IsTrue (is_with_session x.made.entry.event t) → StandsFor plan (plain (reverse xs) ++ h) t x.session
    pub needs : (c : ℕ) → is_with_needs x.made.entry.event c ≡ false
    pub on : HasGoneOn a b a.attached x.made.entry
    pub timed : is_timed x.made.entry.event s ≡ true
    pub own : IsTrue (is_of_stream x.made.entry.event s) × IsNoMissing x.made.entry.event
    pub side : IsTrue (is_at_source x.made.entry.event) ⊎ IsTrue (is_at_destination x.made.entry.event)
    pub spelled : IsSpelled x.made.entry.event
    pub later : a.standing.time < x.made.entry.time

  pub common_more : (a b : SessionMeaning) (xs : List New) (x : New) → Common a xs → IsNext a b xs x → Common b (xs ++ x ∷ [])
  common_more a b xs x c n =
      let times : times_of (xs ++ x ∷ []) ≡ times_of xs ++ x.made.entry.time ∷ [] = map-append (λ (y : New). y.made.entry.time) xs (x ∷ []) in
      let back : plain (reverse (xs ++ x ∷ [])) ++ h ≡ x.made ∷ (plain (reverse xs) ++ h) = ap (λ (es : List NodeEntry). es ++ h) (news xs x) in
      let now : b.standing.time ≡ x.made.entry.time = n.on.after.time in
      let l = n.later in
      let known : stream_time (plain (reverse xs) ++ h) s ≡ a.standing.time = sym c.stands.time in
      record {
        run = record {
          job = All-push (λ y. y.job ≡ k) xs x c.run.job n.job;
          run = subst (λ (ys : List New). IsJobRun plan h ys) (sym (reverse-append xs (x ∷ [])))
              ((n.few, n.placed, n.cause, n.session, (λ j on. let off = n.needs j in absurd (cc))), c.run.run);
        };
        rises = subst IsStrictlyIncreasing (sym times) (rising_push (times_of xs) x.made.entry.time c.rises (All-weaker (λ t. t ≤ a.standing.time) (λ t. t < x.made.entry.time) (λ t le. omega (arith, le, l)) (times_of xs) c.late));
        late = subst (λ (ts : List ℕ). All (λ t. t ≤ b.standing.time) ts) (sym times)
            (All-push (λ t. t ≤ b.standing.time) (times_of xs) x.made.entry.time (All-weaker (λ t. t ≤ a.standing.time) (λ t. t ≤ b.standing.time) (λ t le. omega (arith, le, l, now)) (times_of xs) c.late) (omega (arith, now)));
        of_stream = All-push (λ y. IsTrue (is_of_stream y.made.entry.event s) × IsNoMissing y.made.entry.event) xs x c.of_stream n.own;
        sides = All-push (λ y. IsTrue (is_at_source y.made.entry.event) ⊎ IsTrue (is_at_destination y.made.entry.event)) xs x c.sides n.side;
        spelled = All-push (λ y. IsSpelled y.made.entry.event) xs x c.spelled n.spelled;
        stream = n.on.stream ∙ c.stream;
        stands = subst (λ (g : List NodeEntry). StandsFor plan g s b.standing) (sym back)
            (stands_on plan x.made (plain (reverse xs) ++ h) s a b a.attached c.stream c.stands n.on n.timed (omega (arith, known, l)));
        attached = subst (λ (g : List NodeEntry). IsAttached g s) (sym back) (inr c.attached);
      }

  -- ---- one call on a side

  -- a call on the side at node n made the entry e
  pub record SideMore (n : ℕ) (call : Call) (y : AtCell) (p : NodePass) (xs : List New) (e : Entry) (u : New) : Type 0 where
    pub pass : NodePass
    pub has : y.pass ≡ Some pass
    pub same : IsSameCaller p pass
    pub cell : IsCellOf plan h n y.cell
    pub made : MadeAt plan h n pass (xs ++ u ∷ [])
    pub before : List Entry
    pub lawful : IsOwnLawful (given call) nothing (plan.sets n) n before e

  made_by_call : (n : ℕ) (call : Call) (p : NodePass) (o : Option NodePass) → Acts plan h n call None (Some p) o → (q : NodePass) × (o ≡ Some q) × HasMade plan h n (given call) nothing (λ e. Unit {0}) p q
  made_by_call n call p (Some q) m = (q, refl, m)
  made_by_call n call p None m = absurd m

  abbrev pub next : ℕ → Call → Entry → New
  next n call e = record { job = k; session = given call 0; needs = []; made = record { node = n; entry = e } }

  pub side_more : (n : ℕ) (call : Call) (x y : AtCell) (p : NodePass) (xs : List New) (e : Entry) → ((t : ℕ) → given call t ≡ given call 0) → x.pass ≡ Some p → IsCellOf plan h n x.cell → acts x call None y
      → made_through y ≡ made_through x ++ e ∷ [] → MadeAt plan h n p xs → SideMore n call y p xs e (next n call e)
  side_more n call x y p xs e flat at of (same, act) more made =
      let m = made_by_call n call p y.pass (subst (λ (o : Option NodePass). Acts plan h n call None o y.pass) at (act plan h n of)) in
      let q = m.0 in
      let f = m.2 in
      let is : f.entry ≡ e = same_last (made_by (Some p)) f.entry e (sym (through_one plan h n (given call) nothing p q (λ e. Unit {0}) f) ∙ ap made_by (sym m.1) ∙ more ∙ ap (λ (o : Option NodePass). made_by o ++ e ∷ []) at) in
      record {
        pass = q;
        has = m.1;
        same = f.same;
        cell = subst (λ (c : NodeCell). IsCellOf plan h n c) (sym same) of;
        made = made_more plan h n p q xs (next n call e) (λ e. Unit {0}) (subst (λ (g : ℕ → Standing). HasMade plan h n g nothing (λ e. Unit {0}) p q) (λ i t. flat t i) f)
            (ap (λ (z : Entry). record { node = n; entry = z }) (sym is)) made;
        before = journal_with plan h n (f.before ++ f.others);
        lawful = subst (λ (z : Entry). IsOwnLawful (given call) nothing (plan.sets n) n (journal_with plan h n (f.before ++ f.others)) z) is f.lawful;
      }
