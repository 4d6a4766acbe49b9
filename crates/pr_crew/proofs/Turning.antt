-- The events of a flow, at the source and at the destination of its stream.
use Rattle.std.proofs.Common.{◌≡◌, ◌⊎◌, ℕ, ◌+◌, ◌-◌, ◌≤◌, List, [], ◌∷◌, ◌++◌, Contains, inl, inr, refl, sym, ap, subst, cond, filter, length, arith, append-nil}
use Rattle.std.specs.Prelude.{Bool, true, false, Option, Some, None, Ok, Err, Result}
use Rattle.pr_flow.specs.declared.flow_end.FlowEnd.{FlowEnd}
use Rattle.pr_flow.specs.declared.flow_end.FlowEnd.TheVariants as ends
use Rattle.pr_flow.specs.Flows.{is_at_destination, is_at_source}
use Rattle.pr_inval.specs.declared.msg.Msg.{Msg}
use Rattle.pr_inval.specs.declared.node_fault.NodeFault.{NodeFault}
use Rattle.pr_story.specs.declared.event.Event.{Event}
use Rattle.pr_story.specs.declared.event.Event.TheVariants.{Sent, Idle, Stale, Accepted, Gapped, Down}
use Rattle.pr_story.specs.History.{NodeEntry}
use Rattle.pr_story.specs.Merging.{New, plain}
use Rattle.pr_story.specs.Scripts.{AreTurns, FlowJob, IsFlow, Job, JobBegins, JobGives, events_of}
use Rattle.pr_story.proofs.InOrder.{is_kept, kept_is}
use Rattle.pr_story.proofs.Sorted.{contains_none, first_or_later}
use Rattle.pr_crew.specs.Jobs.{FlowGives, Gives, at_destination, at_source}

-- ---- what was given has begun

pub given_begins : (job : Job) (es : List NodeEntry) → JobGives job es → JobBegins job es
given_begins job es gives = ([], subst (λ (l : List NodeEntry). JobGives job l) (sym (append-nil es)) gives)

pub begins_if : {X E : Type 0} (job : Job) (xs : List New) (end : Result X E) → Gives job xs end → JobBegins job (plain xs)
begins_if job xs (Ok x) gives = given_begins job (plain xs) gives
begins_if job xs (Err fault) gives = gives

pub flow_begins_if : (job : Job) (xs : List New) (end : Result FlowEnd NodeFault) → FlowGives job xs end → JobBegins job (plain xs)
flow_begins_if job xs (Ok ends.Done) gives = given_begins job (plain xs) gives
flow_begins_if job xs (Ok ends.Stale) gives = given_begins job (plain xs) gives
flow_begins_if job xs (Ok (ends.Down cause)) gives = given_begins job (plain xs) gives
flow_begins_if job xs (Ok (ends.Lied number sent got)) gives = gives
flow_begins_if job xs (Err fault) gives = gives

-- ---- turns

-- the event is made at the source or at the destination
abbrev pub IsSided : Event → Type 0
IsSided event = (is_at_source event ≡ true) ⊎ (is_at_destination event ≡ true)

abbrev AreSided : List Event → Type 0
AreSided [] = Unit {0}
AreSided (event ∷ events) = IsSided event × AreSided events

abbrev sources : List Event → ℕ
sources [] = 0
sources (event ∷ events) = cond (is_at_source event) (sources events + 1) (sources events)

abbrev destinations : List Event → ℕ
destinations [] = 0
destinations (event ∷ events) = cond (is_at_destination event) (destinations events + 1) (destinations events)

-- so many more than turns may be made at the destination
abbrev extra : Option Msg → ℕ
extra None = 1
extra (Some m) = 2

record AreFew (turns more : ℕ) (events : List Event) : Type 0 where
  sided : AreSided events
  source : sources events ≤ turns
  destination : destinations events ≤ turns + more

down_few : (turns : ℕ) (s : ℕ) (cause : _) (events : List Event) → events ≡ Down s cause ∷ [] → AreFew turns 1 events
down_few turns s cause events is = subst (λ (l : List Event). AreFew turns 1 l) (sym is) (record { sided = (inr refl, tt); source = omega arith; destination = omega arith })

none_few : (turns more : ℕ) (events : List Event) → events ≡ [] → AreFew turns more events
none_few turns more events is = subst (λ (l : List Event). AreFew turns more l) (sym is) (record { sided = tt; source = omega arith; destination = omega arith })

turns_few : (s : ℕ) (under_way : Option Msg) (turns : ℕ) (events : List Event) → AreTurns s under_way turns events → AreFew turns (extra under_way) events
turns_few s None turns [] a = none_few turns 1 [] refl
turns_few s None turns (Idle t ∷ events) a =
    let f = turns_few s None (turns - 1) events a.2 in
    let le : 1 ≤ turns = a.0 in
    let source : sources events ≤ turns - 1 = f.source in
    let destination : destinations events ≤ turns - 1 + 1 = f.destination in
    record { sided = (inl refl, f.sided); source = omega arith; destination = omega arith }
turns_few s None turns (Stale t cut ∷ events) a =
    let f = none_few (turns - 1) 0 events a.2 in
    let le : 1 ≤ turns = a.0 in
    let source : sources events ≤ turns - 1 = f.source in
    let destination : destinations events ≤ turns - 1 + 0 = f.destination in
    record { sided = (inl refl, f.sided); source = omega arith; destination = omega arith }
turns_few s None turns (Sent msg ∷ events) a =
    let f = turns_few s (Some msg) (turns - 1) events a.3 in
    let le : 1 ≤ turns = a.0 in
    let source : sources events ≤ turns - 1 = f.source in
    let destination : destinations events ≤ turns - 1 + 2 = f.destination in
    record { sided = (inl refl, f.sided); source = omega arith; destination = omega arith }
turns_few s None turns (_ ∷ events) a = absurd a
turns_few s (Some m) turns [] a = absurd a
turns_few s (Some m) turns (Accepted msg at ∷ events) a =
    let f = turns_few s None turns events a.1 in
    let source : sources events ≤ turns = f.source in
    let destination : destinations events ≤ turns + 1 = f.destination in
    record { sided = (inr refl, f.sided); source = source; destination = omega arith }
turns_few s (Some m) turns (Gapped msg has ∷ events) a =
    let f = down_few turns s _ events a.1 in
    let source : sources events ≤ turns = f.source in
    let destination : destinations events ≤ turns + 1 = f.destination in
    record { sided = (inr refl, f.sided); source = source; destination = omega arith }
turns_few s (Some m) turns (Down t cause ∷ events) a =
    let f = none_few turns 1 events a.2 in
    let source : sources events ≤ turns = f.source in
    let destination : destinations events ≤ turns + 1 = f.destination in
    record { sided = (inr refl, f.sided); source = source; destination = omega arith }
turns_few s (Some m) turns (_ ∷ events) a = absurd a

flow_few : (s turns : ℕ) (events : List Event) → IsFlow s turns events → AreFew turns 1 events
flow_few s turns events is = elim is [
  | inl turned ↦ turns_few s None turns events turned
  | inr failed ↦ down_few turns s _ events failed
]

-- ---- a job's list

one_kept : (b : Bool) (x : New) (xs ys : List New) → xs ≡ ys → cond b (x ∷ xs) xs ≡ cond b (x ∷ ys) ys
one_kept true x xs ys is = ap (λ (l : List New). x ∷ l) is
one_kept false x xs ys is = is

source_kept : (xs : List New) → at_source xs ≡ filter (λ (x : New). is_at_source x.made.entry.event) xs
source_kept [] = refl
source_kept (x ∷ xs) = one_kept (is_at_source x.made.entry.event) x (at_source xs) (filter (λ (x : New). is_at_source x.made.entry.event) xs) (source_kept xs)

destination_kept : (xs : List New) → at_destination xs ≡ filter (λ (x : New). is_at_destination x.made.entry.event) xs
destination_kept [] = refl
destination_kept (x ∷ xs) = one_kept (is_at_destination x.made.entry.event) x (at_destination xs) (filter (λ (x : New). is_at_destination x.made.entry.event) xs) (destination_kept xs)

pub source_within : (xs : List New) (x : New) → Contains (at_source xs) x → Contains xs x
source_within xs x has = (kept_is (λ (y : New). is_at_source y.made.entry.event) xs x (subst (λ (l : List New). Contains l x) (source_kept xs) has)).0

pub destination_within : (xs : List New) (x : New) → Contains (at_destination xs) x → Contains xs x
destination_within xs x has = (kept_is (λ (y : New). is_at_destination y.made.entry.event) xs x (subst (λ (l : List New). Contains l x) (destination_kept xs) has)).0

counted : (b : Bool) (x : New) (l : List New) (more all : ℕ) → length l + more ≡ all → length (cond b (x ∷ l) l) + more ≡ cond b (all + 1) all
counted true x l more all is = (let e : length (x ∷ l) ≡ length l + 1 = omega arith in omega arith)
counted false x l more all is = is

source_count : (xs : List New) (rest : List NodeEntry) → length (at_source xs) + sources (events_of rest) ≡ sources (events_of (plain xs ++ rest))
source_count [] rest = omega arith
source_count (x ∷ xs) rest = counted (is_at_source x.made.entry.event) x (at_source xs) (sources (events_of rest)) (sources (events_of (plain xs ++ rest))) (source_count xs rest)

destination_count : (xs : List New) (rest : List NodeEntry) → length (at_destination xs) + destinations (events_of rest) ≡ destinations (events_of (plain xs ++ rest))
destination_count [] rest = omega arith
destination_count (x ∷ xs) rest = counted (is_at_destination x.made.entry.event) x (at_destination xs) (destinations (events_of rest)) (destinations (events_of (plain xs ++ rest))) (destination_count xs rest)

sided_in : (xs : List New) (rest : List NodeEntry) → AreSided (events_of (plain xs ++ rest)) → (x : New) → Contains xs x → IsSided x.made.entry.event
sided_in [] rest all x has = absurd (contains_none x has)
sided_in (y ∷ xs) rest all x has = elim (first_or_later y xs x has) [
  | inl is ↦ subst (λ (z : New). IsSided z.made.entry.event) is all.0
  | inr later ↦ sided_in xs rest all.1 x later
]

module _ (s turns : ℕ) (xs : List New) (begins : JobBegins (FlowJob s turns) (plain xs)) where
  flow_is : AreFew turns 1 (events_of (plain xs ++ begins.0))
  flow_is = flow_few s turns (events_of (plain xs ++ begins.0)) begins.1

  -- each of a flow's entries was made at its source or at its destination
  pub on_a_side : (x : New) → Contains xs x → Contains (at_source xs) x ⊎ Contains (at_destination xs) x
  on_a_side x has = elim (sided_in xs begins.0 flow_is.sided x has) [
    | inl source ↦ inl (subst (λ (l : List New). Contains l x) (sym (source_kept xs)) (is_kept (λ (y : New). is_at_source y.made.entry.event) xs x has source))
    | inr destination ↦ inr (subst (λ (l : List New). Contains l x) (sym (destination_kept xs)) (is_kept (λ (y : New). is_at_destination y.made.entry.event) xs x has destination))
  ]

  -- a flow makes at its source at most one entry a turn
  pub source_few : length (at_source xs) ≤ turns
  source_few =
      let e : length (at_source xs) + sources (events_of begins.0) ≡ sources (events_of (plain xs ++ begins.0)) = source_count xs begins.0 in
      let le : sources (events_of (plain xs ++ begins.0)) ≤ turns = flow_is.source in
      omega arith

  -- and at its destination one more
  pub destination_few : length (at_destination xs) ≤ turns + 1
  destination_few =
      let e : length (at_destination xs) + destinations (events_of begins.0) ≡ destinations (events_of (plain xs ++ begins.0)) = destination_count xs begins.0 in
      let le : destinations (events_of (plain xs ++ begins.0)) ≤ turns + 1 = flow_is.destination in
      omega arith
