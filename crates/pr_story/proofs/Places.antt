-- Where entries stand in the journals of their nodes, and which numbers messages have.
use Rattle.std.proofs.Common.{◌≡◌, ℕ, ◌+◌, ◌<◌, ◌≤◌, List, [], ◌∷◌, ◌++◌, inl, inr, refl, sym, ◌∙◌, ap, subst, cond, nat_eq, length, get_or, arith, reverse}
use Rattle.std.specs.Prelude.{true, false, Bool, IsTrue}
use Rattle.std.proofs.lemmas.Bool.{cases_lt}
use Rattle.std.proofs.lemmas.Bool.Decides.{Decides-eqb}
use Rattle.std.proofs.lemmas.List.{get_or_append_left, get_or_push, length-append, length-reverse, reverse-append}
use Rattle.pr_inval.specs.declared.msg.Msg.{Msg}
use Rattle.pr_story.specs.declared.entry.Entry.{Entry}
use Rattle.pr_story.specs.declared.event.Event.{Event}
use Rattle.pr_story.specs.declared.event.Event.TheVariants.{Sent}
use Rattle.pr_story.specs.History.{Plan, NodeEntry, journal, Sends, WasSent}
use Rattle.pr_story.specs.Lawful.{IsLawful, Valid}
use Rattle.pr_story.specs.Turns.{count_after, sent_count}
use Rattle.pr_story.specs.Places as places
use Rattle.pr_story.specs.Places.{EntriesHavePlaces, IsAt, places_of, IsSending, SendsAt, SentHavePlaces, sent_places}

-- ---- entries

at_grown : (b : Bool) (entry : Entry) (j : List Entry) (place : ℕ) (e : Entry) → IsAt (reverse j) place e → IsAt (reverse (cond b (entry ∷ j) j)) place e
at_grown false entry j place e at = at
at_grown true entry j place e at =
    subst (λ (xs : List Entry). IsAt xs place e) (sym (reverse-append (entry ∷ []) j)) (
      (let l = length-append (reverse j) (entry ∷ []) in let lt : place < length (reverse j) = at.0 in omega arith),
      λ d. get_or_append_left (reverse j) (entry ∷ []) d place at.0 ∙ at.1 d,
    )

at_last : (entry : Entry) (j : List Entry) → IsAt (reverse (entry ∷ j)) (length j) entry
at_last entry j =
    subst (λ (xs : List Entry). IsAt xs (length j) entry) (sym (reverse-append (entry ∷ []) j)) (
      (let l = length-append (reverse j) (entry ∷ []) in let r = length-reverse j in omega arith),
      λ d. get_or_push (reverse j) entry d (length j) (length-reverse j),
    )

-- the entry stands at this place
abbrev StandsAt : List NodeEntry → ℕ × ℕ → NodeEntry → Type 0
StandsAt h q x = (q.0 ≡ x.node) × IsAt (reverse (journal h q.0)) q.1 x.entry

stands_more : (e : NodeEntry) (h : List NodeEntry) (q : ℕ × ℕ) (x : NodeEntry) → StandsAt h q x → StandsAt (e ∷ h) q x
stands_more e h q x s = (s.0, at_grown (nat_eq e.node q.0) e.entry (journal h q.0) q.1 x.entry s.1)

stands_last : (e : NodeEntry) (h : List NodeEntry) → StandsAt (e ∷ h) (e.node, length (journal h e.node)) e
stands_last e h = (
  refl,
  subst (λ (b : Bool). IsAt (reverse (cond b (e.entry ∷ journal h e.node) (journal h e.node))) (length (journal h e.node)) e.entry) (sym ((Decides-eqb e.node e.node).1 refl))
      (at_last e.entry (journal h e.node)),
)

many_places : (h : List NodeEntry) → length (places_of h) ≡ length h
many_places [] = refl
many_places (e ∷ h) = let l = length-append (places_of h) ((e.node, length (journal h e.node)) ∷ []) in let m : length (places_of h) ≡ length h = many_places h in omega arith

all_stand : (h : List NodeEntry) (k : ℕ) (p : ℕ × ℕ) (d : NodeEntry) → k < length h → StandsAt h (get_or (places_of h) k p) (get_or (reverse h) k d)
all_stand [] k p d lt = absurd (omega (arith, lt))
all_stand (e ∷ h) k p d lt =
    let last : ℕ × ℕ = (e.node, length (journal h e.node)) in
    let many : length (places_of h) ≡ length h = many_places h in
    let back : length (reverse h) ≡ length h = length-reverse h in
    subst (λ (xs : List NodeEntry). StandsAt (e ∷ h) (get_or (places_of h ++ (e.node, length (journal h e.node)) ∷ []) k p) (get_or xs k d)) (sym (reverse-append (e ∷ []) h))
    (elim (cases_lt k (length h)) [
      | inl old ↦
          subst (λ (q : ℕ × ℕ). StandsAt (e ∷ h) q (get_or (reverse h ++ e ∷ []) k d)) (sym (get_or_append_left (places_of h) ((e.node, length (journal h e.node)) ∷ []) p k (omega arith)))
          (subst (λ (x : NodeEntry). StandsAt (e ∷ h) (get_or (places_of h) k p) x) (sym (get_or_append_left (reverse h) (e ∷ []) d k (omega arith)))
          (stands_more e h (get_or (places_of h) k p) (get_or (reverse h) k d) (all_stand h k p d old)))
      | inr past ↦
          subst (λ (q : ℕ × ℕ). StandsAt (e ∷ h) q (get_or (reverse h ++ e ∷ []) k d)) (sym (get_or_push (places_of h) (e.node, length (journal h e.node)) p k (omega arith)))
          (subst (λ (x : NodeEntry). StandsAt (e ∷ h) (e.node, length (journal h e.node)) x) (sym (get_or_push (reverse h) e d k (omega arith))) (stands_last e h))
    ])

pub entries_placed : (h : List NodeEntry) → EntriesHavePlaces h
entries_placed h = record { many = many_places h; node = λ k p d lt. (all_stand h k p d lt).0; at = λ k p d lt. (all_stand h k p d lt).1 }

-- ---- messages

-- there are as many places as messages
one_more_place : (event : Event) (s at k : ℕ) (ps : List ℕ) → k ≡ length ps → count_after event s k ≡ length (places.sent_after event s at ps)
one_more_place (Sent msg) s at k ps same = by (nat_eq msg.stream s)
  where
    by : (b : Bool) → cond b (k + 1) k ≡ length (cond b (ps ++ at ∷ []) ps)
    by true = ap (λ (i : ℕ). i + 1) same ∙ sym (length-append ps (at ∷ []))
    by false = same
one_more_place _ s at k ps same = same

pub as_many : (h : List NodeEntry) (s : ℕ) → sent_count h s ≡ length (sent_places h s)
as_many [] s = refl
as_many (e ∷ h) s = one_more_place e.entry.event s (length (journal h e.node)) (sent_count h s) (sent_places h s) (as_many h s)

-- ---- the numbers of what was sent

counted : (event : Event) (s k : ℕ) → k ≤ count_after event s k
counted (Sent msg) s k = by (nat_eq msg.stream s)
  where
    by : (b : Bool) → k ≤ cond b (k + 1) k
    by true = omega arith
    by false = omega arith
counted _ s k = omega arith

pub numbered : (plan : Plan) (h : List NodeEntry) (msg : Msg) → Valid plan h → WasSent h msg → (1 ≤ msg.number) × (msg.number ≤ sent_count h msg.stream)
numbered plan [] msg v was = absurd was
numbered plan (e ∷ h) msg v was = elim was [
  | inl now ↦ just (e.node) (e.entry.time) (e.entry.caller) e.entry.event v.0 now
  | inr old ↦
      let a = numbered plan h msg v.1 old in
      let le : msg.number ≤ sent_count h msg.stream = a.1 in
      let more = counted e.entry.event msg.stream (sent_count h msg.stream) in
      (a.0, omega arith)
]
  where
    just : (n time caller : ℕ) (event : Event) → IsLawful plan h (record { node = n; entry = record { time = time; caller = caller; event = event } }) → Sends event msg
        → (1 ≤ msg.number) × (msg.number ≤ count_after event msg.stream (sent_count h msg.stream))
    just n time caller (Sent m) l is = subst (λ (x : Msg). (1 ≤ x.number) × (x.number ≤ count_after (Sent m) x.stream (sent_count h x.stream))) is (
        let e : m.number ≡ sent_count h m.stream + 1 = l.may_come.0 in
        let c : cond (nat_eq m.stream m.stream) (sent_count h m.stream + 1) (sent_count h m.stream) ≡ sent_count h m.stream + 1 = ap (λ (b : Bool). cond b (sent_count h m.stream + 1) (sent_count h m.stream)) ((Decides-eqb m.stream m.stream).1 refl) in
        (omega arith, omega arith))
    just n time caller _ l is = absurd is

-- ---- where they stand

-- an entry more of a journal leaves what stands in it
grown : (b : Bool) (entry : Entry) (j : List Entry) (place : ℕ) (msg : Msg) → SendsAt (reverse j) place msg → SendsAt (reverse (cond b (entry ∷ j) j)) place msg
grown false entry j place msg at = at
grown true entry j place msg at =
    let e : reverse (entry ∷ j) ≡ reverse j ++ entry ∷ [] = reverse-append (entry ∷ []) j in
    subst (λ (xs : List Entry). SendsAt xs place msg) (sym e) (
      (let l = length-append (reverse j) (entry ∷ []) in let lt : place < length (reverse j) = at.0 in omega arith),
      λ d. ap (λ (x : Entry). x.event) (get_or_append_left (reverse j) (entry ∷ []) d place at.0) ∙ at.1 d,
    )

last_one : (entry : Entry) (j : List Entry) (msg : Msg) → entry.event ≡ Sent msg → SendsAt (reverse (entry ∷ j)) (length j) msg
last_one entry j msg is =
    let e : reverse (entry ∷ j) ≡ reverse j ++ entry ∷ [] = reverse-append (entry ∷ []) j in
    subst (λ (xs : List Entry). SendsAt xs (length j) msg) (sym e) (
      (let l = length-append (reverse j) (entry ∷ []) in let r = length-reverse j in omega arith),
      λ d. ap (λ (x : Entry). x.event) (get_or_push (reverse j) entry d (length j) (length-reverse j)) ∙ is,
    )

module _ (plan : Plan) (s : ℕ) where
  older : (e : NodeEntry) (h : List NodeEntry) (number place : ℕ) → IsSending plan h s number place → IsSending plan (e ∷ h) s number place
  older e h number place x = record {
    msg = x.msg;
    sent = inr x.sent;
    stream = x.stream;
    number_is = x.number_is;
    at = grown (nat_eq e.node (plan.stream s).source) e.entry (journal h (plan.stream s).source) place x.msg x.at;
  }

  newest : (h : List NodeEntry) (n time caller : ℕ) (msg : Msg) → IsLawful plan h (record { node = n; entry = record { time = time; caller = caller; event = Sent msg } }) → msg.stream ≡ s
      → IsSending plan (record { node = n; entry = record { time = time; caller = caller; event = Sent msg } } ∷ h) s (sent_count h s + 1) (length (journal h n))
  newest h n time caller msg l of =
      let entry : Entry = record { time = time; caller = caller; event = Sent msg } in
      let here : n ≡ (plan.stream s).source = l.placed ∙ ap (λ (t : ℕ). (plan.stream t).source) of in record {
        msg = msg;
        sent = inl refl;
        stream = of;
        number_is = l.may_come.0 ∙ ap (λ (t : ℕ). sent_count h t + 1) of;
        at = subst (λ (j : List Entry). SendsAt (reverse j) (length (journal h n)) msg)
            (sym (ap (λ (b : Bool). cond b (entry ∷ journal h (plan.stream s).source) (journal h (plan.stream s).source)) ((Decides-eqb n (plan.stream s).source).1 here)
            ∙ ap (λ (i : ℕ). entry ∷ journal h i) (sym here)))
            (last_one entry (journal h n) msg refl);
      }

  by_event : (h : List NodeEntry) (n time caller : ℕ) (event : Event) → IsLawful plan h (record { node = n; entry = record { time = time; caller = caller; event = event } })
      → ((k : ℕ) → k < length (sent_places h s) → IsSending plan h s (k + 1) (get_or (sent_places h s) k 0))
      → (k : ℕ) → k < length (places.sent_after event s (length (journal h n)) (sent_places h s))
      → IsSending plan (record { node = n; entry = record { time = time; caller = caller; event = event } } ∷ h) s (k + 1) (get_or (places.sent_after event s (length (journal h n)) (sent_places h s)) k 0)
  by_event h n time caller (Sent msg) l before k lt = by (nat_eq msg.stream s) (Decides-eqb msg.stream s).0 k lt
    where
      e : NodeEntry
      e = record { node = n; entry = record { time = time; caller = caller; event = Sent msg } }

      by : (b : Bool) → (IsTrue b → msg.stream ≡ s) → (k : ℕ) → k < length (cond b (sent_places h s ++ length (journal h n) ∷ []) (sent_places h s))
          → IsSending plan (e ∷ h) s (k + 1) (get_or (cond b (sent_places h s ++ length (journal h n) ∷ []) (sent_places h s)) k 0)
      by false of k lt = older e h (k + 1) (get_or (sent_places h s) k 0) (before k lt)
      by true of k lt = elim (cases_lt k (length (sent_places h s))) [
        | inl old ↦ subst (λ (p : ℕ). IsSending plan (e ∷ h) s (k + 1) p) (sym (get_or_append_left (sent_places h s) (length (journal h n) ∷ []) 0 k old)) (older e h (k + 1) (get_or (sent_places h s) k 0) (before k old))
        | inr past ↦
            let l2 = length-append (sent_places h s) (length (journal h n) ∷ []) in
            let last : length (sent_places h s) ≡ k = omega arith in
            subst (λ (p : ℕ). IsSending plan (e ∷ h) s (k + 1) p) (sym (get_or_push (sent_places h s) (length (journal h n)) 0 k last))
            (subst (λ (i : ℕ). IsSending plan (e ∷ h) s (i + 1) (length (journal h n))) (as_many h s ∙ last) (newest h n time caller msg l (of refl)))
      ]
  by_event h n time caller event l before k lt = kept event refl k lt
    where
      kept : (event : Event) → places.sent_after event s (length (journal h n)) (sent_places h s) ≡ sent_places h s → (k : ℕ) → k < length (places.sent_after event s (length (journal h n)) (sent_places h s))
          → IsSending plan (record { node = n; entry = record { time = time; caller = caller; event = event } } ∷ h) s (k + 1) (get_or (places.sent_after event s (length (journal h n)) (sent_places h s)) k 0)
      kept event same k lt = subst (λ (p : ℕ). IsSending plan (record { node = n; entry = record { time = time; caller = caller; event = event } } ∷ h) s (k + 1) p) (ap (λ (ps : List ℕ). get_or ps k 0) (sym same))
          (older (record { node = n; entry = record { time = time; caller = caller; event = event } }) h (k + 1) (get_or (sent_places h s) k 0) (before k (subst (λ (ps : List ℕ). k < length ps) same lt)))

  pub sendings : (h : List NodeEntry) → Valid plan h → (k : ℕ) → k < length (sent_places h s) → IsSending plan h s (k + 1) (get_or (sent_places h s) k 0)
  sendings [] v k lt = absurd (omega (arith, lt))
  sendings (e ∷ h) v k lt = by_event h e.node e.entry.time e.entry.caller e.entry.event v.0 (sendings h v.1) k lt

pub have_places : (plan : Plan) (h : List NodeEntry) (s : ℕ) → Valid plan h → SentHavePlaces plan h s
have_places plan h s v = record {
  sending = sendings plan s h v;
  only = λ msg was of.
      let range = numbered plan h msg v was in
      (range.0, subst (λ (k : ℕ). msg.number ≤ k) (as_many h s) (subst (λ (t : ℕ). msg.number ≤ sent_count h t) of range.1));
}
