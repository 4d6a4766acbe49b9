-- The jobs of a phase are apart: each has a client or a stream of its own.
use Rattle.std.proofs.Common.{◌≡◌, ℕ, ◌+◌, Bool, true, false, not, ◌||◌, cond, List, [], ◌∷◌, ◌++◌, length, map, Option, Some, None, refl, sym, ap, subst, ◌∙◌, inl, inr, append_assoc, arith, length-append}
use Rattle.std.specs.Prelude.{◌⊎◌, nat_eq, ◌==◌, IsTrue, filter, reverse}
use Rattle.std.specs.List.{AllByRecursion, fold, flat_map, position_or_len}
use Rattle.std.proofs.lemmas.Bool.Decides.{nat_tests}
use Rattle.std.proofs.lemmas.List.{reverse-append, reverse-reverse, append-nil}
use Rattle.pr_script.specs.declared.command.Command.{Command}
use Rattle.pr_script.specs.declared.command.Command.TheVariants as commands
use Rattle.pr_script.specs.declared.decl.Decl.{Decl}
use Rattle.pr_script.specs.Good.{IsGoodJobLine, IsGoodPhase, AreGoodSteps}
use Rattle.pr_script.specs.Known.{has_number, without_number, attached_after, is_read}
use Rattle.pr_script.specs.declared.owner.Owner.{Owner}
use Rattle.pr_script.specs.declared.owner.Owner.TheVariants as owner
use Rattle.pr_script.specs.Steps.{Numbered, Step, Alone, Phase, is_same_owner, owner_of, has_owner, with_owner, owners_of}
use Rattle.pr_script.proofs.GoodScripts.{any_more}
use Rattle.pr_story.specs.Commands as story
use Rattle.pr_story.specs.declared.event.Event.{Event}
use Rattle.pr_story.specs.declared.event.Event.TheVariants.{Attached}
use Rattle.pr_story.specs.History.{NodeEntry}
use Rattle.pr_story.specs.Phases.{AreCommandsOf, AreApartJobs}
use Rattle.pr_story.specs.Scripts as scripts
use Rattle.pr_story.specs.Scripts.{Order, LineGives, AreOfLines}
use Rattle.pr_story.specs.Turns.{Attaches, IsAttached}
use Rattle.pr_text.specs.Histories.{streams_of}
use Rattle.pr_text.specs.Laws.{PhasesAreApart, ScriptsHaveApartJobs}
use Rattle.pr_text.specs.Steps.{line_of, single_of, is_owned_by, lines_by, job_of, client_job, stream_job, step_line}

-- ---- owners

same_number : (a b : ℕ) → nat_eq a b ≡ true → a ≡ b
same_number a b h = grind (arith, nat_tests)

self_number : (a : ℕ) → nat_eq a a ≡ true
self_number a = grind (arith, nat_tests)

owner_is : (o p : Owner) → is_same_owner o p ≡ true → o ≡ p
owner_is (owner.Client a) (owner.Client b) h = ap (λ (x : ℕ). owner.Client x) (same_number a b h)
owner_is (owner.Stream a) (owner.Stream b) h = ap (λ (x : ℕ). owner.Stream x) (same_number a b h)
owner_is (owner.Client a) (owner.Stream b) h = absurd cc
owner_is (owner.Stream a) (owner.Client b) h = absurd cc

owner_self : (o : Owner) → is_same_owner o o ≡ true
owner_self (owner.Client a) = self_number a
owner_self (owner.Stream a) = self_number a

owner_back : (o p : Owner) → is_same_owner o p ≡ false → is_same_owner p o ≡ false
owner_back o p h = turned (is_same_owner p o) refl
  where
    turned : (t : Bool) → is_same_owner p o ≡ t → t ≡ false
    turned false e = refl
    turned true e = absurd (let s : is_same_owner o p ≡ true = subst (λ (x : Owner). is_same_owner x p ≡ true) (owner_is p o e) (owner_self p) in let u = sym s ∙ h in cc)

neither : (a b : Bool) → (a || b) ≡ false → (a ≡ false) × (b ≡ false)
neither false b h = (refl, h)
neither true b h = absurd cc

-- none stands twice
abbrev Differ : List Owner → Type 0
Differ [] = Unit {0}
Differ (o ∷ os) = (has_owner os o ≡ false) × Differ os

differ_more : (os : List Owner) (o : Owner) → Differ os → has_owner os o ≡ false → Differ (os ++ o ∷ [])
differ_more [] o h n = (refl, tt)
differ_more (q ∷ os) o h n =
    let p = neither (is_same_owner q o) (has_owner os o) n in
    (any_more (λ x. is_same_owner x q) os o ∙ (ap (λ (b : Bool). b || is_same_owner o q) h.0 ∙ owner_back q o p.0), differ_more os o h.1 p.1)

with_if : (t : Bool) (os : List Owner) (o : Owner) → has_owner os o ≡ t → Differ os → Differ (cond t os (os ++ o ∷ []))
with_if true os o e h = h
with_if false os o e h = differ_more os o h e

with_differ : (os : List Owner) (o : Option Owner) → Differ os → Differ (with_owner os o)
with_differ os None h = h
with_differ os (Some o) h = with_if (has_owner os o) os o refl h

all_differ : (os : List Owner) (cs : List Numbered) → Differ os → Differ (fold (λ owners (c : Numbered). with_owner owners (owner_of c.1)) os cs)
all_differ os [] h = h
all_differ os (c ∷ cs) h = all_differ (with_owner os (owner_of c.1)) cs (with_differ os (owner_of c.1) h)

-- the first of them that is this one is itself
in_middle : (front : List Owner) (os : List Owner) (o q : Owner) → has_owner (front ++ o ∷ os) q ≡ false → is_same_owner o q ≡ false
in_middle [] os o q h = (neither (is_same_owner o q) (has_owner os q) h).0
in_middle (p ∷ front) os o q h = in_middle front os o q ((neither (is_same_owner p q) (has_owner (front ++ o ∷ os) q) h).1)

place_is : (front os : List Owner) (o : Owner) → Differ (front ++ o ∷ os) → position_or_len (λ p. is_same_owner p o) (front ++ o ∷ os) ≡ length front
place_is [] os o h = ap (λ (b : Bool). cond (not b) (1 + position_or_len (λ p. is_same_owner p o) os) 0) (owner_self o)
place_is (q ∷ front) os o h =
    ap (λ (b : Bool). cond (not b) (1 + position_or_len (λ p. is_same_owner p o) (front ++ o ∷ os)) 0) (owner_back o q (in_middle front os o q h.0))
    ∙ (let p = place_is front os o h.1 in omega (arith, p))

-- ---- a stream that flows is attached

abbrev IsReadyOwner : List ℕ → Owner → Type 0
IsReadyOwner attached (owner.Client client) = Unit {0}
IsReadyOwner attached (owner.Stream stream) = IsTrue (has_number attached stream)

abbrev IsReadyIfAny : List ℕ → Option Owner → Type 0
IsReadyIfAny attached None = Unit {0}
IsReadyIfAny attached (Some o) = IsReadyOwner attached o

line_ready : (ds : List Decl) (attached : List ℕ) (c : Command) → IsGoodJobLine ds attached c → IsReadyIfAny attached (owner_of c)
line_ready ds attached (commands.Flow stream turns) h = h.1.0.1
line_ready ds attached c h = tt

ready_more : (attached : List ℕ) (os : List Owner) (o : Owner) → AllByRecursion (IsReadyOwner attached) os → IsReadyOwner attached o → AllByRecursion (IsReadyOwner attached) (os ++ o ∷ [])
ready_more attached [] o h r = (r, tt)
ready_more attached (q ∷ os) o h r = (h.0, ready_more attached os o h.1 r)

ready_if : (attached : List ℕ) (t : Bool) (os : List Owner) (o : Owner) → AllByRecursion (IsReadyOwner attached) os → IsReadyOwner attached o → AllByRecursion (IsReadyOwner attached) (cond t os (os ++ o ∷ []))
ready_if attached true os o h r = h
ready_if attached false os o h r = ready_more attached os o h r

with_ready : (attached : List ℕ) (os : List Owner) (o : Option Owner) → AllByRecursion (IsReadyOwner attached) os → IsReadyIfAny attached o → AllByRecursion (IsReadyOwner attached) (with_owner os o)
with_ready attached os None h r = h
with_ready attached os (Some o) h r = ready_if attached (has_owner os o) os o h r

all_ready : (ds : List Decl) (attached : List ℕ) (os : List Owner) (cs : List Numbered) → AllByRecursion (λ (c : Numbered). IsGoodJobLine ds attached c.1) cs → AllByRecursion (IsReadyOwner attached) os
    → AllByRecursion (IsReadyOwner attached) (fold (λ owners (c : Numbered). with_owner owners (owner_of c.1)) os cs)
all_ready ds attached os [] g h = h
all_ready ds attached os (c ∷ cs) g h = all_ready ds attached (with_owner os (owner_of c.1)) cs g.1 (with_ready attached os (owner_of c.1) h (line_ready ds attached c.1 g.0))

-- ---- a client's job is its own

commands_more : (c : ℕ) (xs ys : List story.Command) → AreCommandsOf c xs → AreCommandsOf c ys → AreCommandsOf c (xs ++ ys)
commands_more c [] ys h g = g
commands_more c (x ∷ xs) ys h g = (h.0, commands_more c xs ys h.1 g)

line_asks : (client : ℕ) (c : Command) → is_owned_by (owner.Client client) (owner_of c) ≡ true → AreCommandsOf client (single_of (line_of c))
line_asks client (commands.Write c name body) h = (same_number c client h, tt)
line_asks client (commands.Delete c name) h = (same_number c client h, tt)
line_asks client (commands.Read c name) h = (same_number c client h, tt)
line_asks client c h = absurd cc

asked_if : (client : ℕ) (t : Bool) (c : Numbered) (cs : List Numbered) → is_owned_by (owner.Client client) (owner_of c.1) ≡ t
    → AreCommandsOf client (flat_map (λ (x : Numbered). single_of (line_of x.1)) cs) → AreCommandsOf client (flat_map (λ (x : Numbered). single_of (line_of x.1)) (cond t (c ∷ cs) cs))
asked_if client true c cs e h = commands_more client (single_of (line_of c.1)) (flat_map (λ (x : Numbered). single_of (line_of x.1)) cs) (line_asks client c.1 e) h
asked_if client false c cs e h = h

all_asked : (client : ℕ) (cs : List Numbered) → AreCommandsOf client (flat_map (λ (x : Numbered). single_of (line_of x.1)) (lines_by (owner.Client client) cs))
all_asked client [] = tt
all_asked client (c ∷ cs) = asked_if client (is_owned_by (owner.Client client) (owner_of c.1)) c (lines_by (owner.Client client) cs) refl (all_asked client cs)

-- ---- job by job

jobs_apart : (attached : List ℕ) (inside : List Numbered) (h : List NodeEntry) (front os : List Owner) (k : ℕ) → owners_of inside ≡ front ++ os → k ≡ length front → Differ (owners_of inside)
    → AllByRecursion (IsReadyOwner attached) os → ((s : ℕ) → IsTrue (has_number attached s) → IsAttached h s)
    → AreApartJobs h (stream_job inside) (client_job inside) (map (job_of inside) os) k
jobs_apart attached inside h front [] k e n differ ready so = tt
jobs_apart attached inside h front (owner.Client client ∷ os) k e n differ ready so = (
  (
    client,
    all_asked client inside,
    ap (λ (x : List Owner). position_or_len (λ p. is_same_owner p (owner.Client client)) x) e ∙ (place_is front os (owner.Client client) (subst Differ e differ) ∙ sym n),
  ),
  jobs_apart attached inside h (front ++ owner.Client client ∷ []) os (k + 1) (e ∙ sym (append_assoc front (owner.Client client ∷ []) os)) (let l = length-append front (owner.Client client ∷ []) in omega (arith, l, n)) differ ready.1 so,
)
jobs_apart attached inside h front (owner.Stream stream ∷ os) k e n differ ready so = (
  (
    so stream ready.0,
    ap (λ (x : List Owner). position_or_len (λ p. is_same_owner p (owner.Stream stream)) x) e ∙ (place_is front os (owner.Stream stream) (subst Differ e differ) ∙ sym n),
  ),
  jobs_apart attached inside h (front ++ owner.Stream stream ∷ []) os (k + 1) (e ∙ sym (append_assoc front (owner.Stream stream ∷ []) os)) (let l = length-append front (owner.Stream stream ∷ []) in omega (arith, l, n)) differ ready.1 so,
)

pub phases_apart : PhasesAreApart
phases_apart ds attached inside h good so =
    jobs_apart attached inside h [] (owners_of inside) 0 refl refl (all_differ [] inside tt) (all_ready ds attached [] inside good.lines tt) so

-- ---- what is attached after steps was attached in their history

abbrev step_attached : Step → List ℕ → List ℕ
step_attached (Alone c) was = attached_after c.1 was
step_attached (Phase inside) was = was

abbrev steps_attached : List Step → List ℕ → List ℕ
steps_attached [] was = was
steps_attached (step ∷ steps) was = steps_attached steps (step_attached step was)

good_phase : (ds : List Decl) (was : List ℕ) (after_read : Bool) (front : List Step) (inside : List Numbered) (rest : List Step) → AreGoodSteps ds was after_read (front ++ Phase inside ∷ rest)
    → IsGoodPhase ds (steps_attached front was) inside
good_phase ds was after_read [] inside rest h = h.0
good_phase ds was after_read (Alone c ∷ front) inside rest h = good_phase ds (attached_after c.1 was) (is_read c.1) front inside rest h.1
good_phase ds was after_read (Phase other ∷ front) inside rest h = good_phase ds was false front inside rest h.1

still_attached : (s : ℕ) (new h : List NodeEntry) → IsAttached h s → IsAttached (new ++ h) s
still_attached s [] h a = a
still_attached s (e ∷ new) h a = inr (still_attached s new h a)

either : (a b : Bool) → (a || b) ≡ true → (a ≡ true) ⊎ (b ≡ true)
either true b h = inl refl
either false b h = inr h

with_has : (t : Bool) (was : List ℕ) (n s : ℕ) → has_number (cond t was (was ++ n ∷ [])) s ≡ true → (has_number was s ≡ true) ⊎ (n ≡ s)
with_has true was n s h = inl h
with_has false was n s h = elim (either (has_number was s) (n == s) (sym (any_more (λ m. m == s) was n) ∙ h)) [
  | inl old ↦ inl old
  | inr new ↦ inr (same_number n s new)
]

or_later : (b c d : Bool) → (c ≡ true → d ≡ true) → (b || c) ≡ true → (b || d) ≡ true
or_later true c d f h = refl
or_later false c d f h = f h

or_right : (b d : Bool) → d ≡ true → (b || d) ≡ true
or_right true d h = refl
or_right false d h = h

kept_if : (t : Bool) (m : ℕ) (was rest : List ℕ) (s : ℕ) → (has_number rest s ≡ true → has_number was s ≡ true) → has_number (cond t (m ∷ rest) rest) s ≡ true → has_number (m ∷ was) s ≡ true
kept_if true m was rest s f h = or_later (m == s) (has_number rest s) (has_number was s) f h
kept_if false m was rest s f h = or_right (m == s) (has_number was s) (f h)

kept_has : (was : List ℕ) (n s : ℕ) → has_number (without_number was n) s ≡ true → has_number was s ≡ true
kept_has [] n s h = h
kept_has (m ∷ was) n s h = kept_if (not (m == n)) m was (without_number was n) s (kept_has was n s) h

gives_attach : (t s n : ℕ) (event : Event) → story.Gives (story.ToAttach t) n event → t ≡ s → Attaches event s
gives_attach t s n (Attached stream at) g e = g ∙ e
gives_attach t s n event g e = absurd g

attached_now : (t s : ℕ) (first h : List NodeEntry) → scripts.AreOfCommands (story.ToAttach t ∷ []) first → t ≡ s → IsAttached (reverse first ++ h) s
attached_now t s [] h g e = absurd g
attached_now t s (x ∷ []) h g e = inl (gives_attach t s x.node x.entry.event g.0 e)
attached_now t s (x ∷ y ∷ first) h g e = absurd (let z = g.1 in cc)

command_attaches : (order : Order) (streams : List ℕ) (c : Command) (was : List ℕ) (first h : List NodeEntry) → ((s : ℕ) → IsTrue (has_number was s) → IsAttached h s)
    → LineGives order streams (line_of c) first → (s : ℕ) → IsTrue (has_number (attached_after c was) s) → IsAttached (reverse first ++ h) s
command_attaches order streams (commands.Attach stream) was first h so g s a = elim (with_has (has_number was stream) was stream s a) [
  | inl old ↦ still_attached s (reverse first) h (so s old)
  | inr new ↦ attached_now stream s first h g new
]
command_attaches order streams (commands.Detach stream) was first h so g s a = still_attached s (reverse first) h (so s (kept_has was stream s a))
command_attaches order streams c was first h so g s a = still_attached s (reverse first) h (so s a)

step_attaches : (order : Order) (streams : List ℕ) (step : Step) (was : List ℕ) (first h : List NodeEntry) → ((s : ℕ) → IsTrue (has_number was s) → IsAttached h s)
    → LineGives order streams (step_line step) first → (s : ℕ) → IsTrue (has_number (step_attached step was) s) → IsAttached (reverse first ++ h) s
step_attaches order streams (Alone c) was first h so g s a = command_attaches order streams c.1 was first h so g s a
step_attaches order streams (Phase inside) was first h so g s a = still_attached s (reverse first) h (so s a)

steps_attach : (order : Order) (streams : List ℕ) (attached : ℕ → Bool) (steps : List Step) (was : List ℕ) (es h : List NodeEntry) → ((s : ℕ) → IsTrue (has_number was s) → IsAttached h s)
    → AreOfLines order streams attached (map step_line steps) es → (s : ℕ) → IsTrue (has_number (steps_attached steps was) s) → IsAttached (reverse es ++ h) s
steps_attach order streams attached [] was es h so e s a = subst (λ (x : List NodeEntry). IsAttached (reverse x ++ h) s) (sym e) (so s a)
steps_attach order streams attached (step ∷ steps) was es h so (first, rest, e, gives, more) s a =
    let then = steps_attach order streams (scripts.attached_after (step_line step) attached) steps (step_attached step was) rest (reverse first ++ h) (step_attaches order (filter attached streams) step was first h so gives) more s a in
    let is : reverse rest ++ (reverse first ++ h) ≡ reverse es ++ h =
    sym (append_assoc (reverse rest) (reverse first) h) ∙ (ap (λ (x : List NodeEntry). x ++ h) (sym (reverse-append first rest)) ∙ ap (λ (x : List NodeEntry). reverse x ++ h) (sym e)) in
    subst (λ (x : List NodeEntry). IsAttached x s) is then

pub scripts_apart : ScriptsHaveApartJobs
scripts_apart order s front rest inside h good is of =
    let ds : List Decl = s.decls.list in
    let phase = good_phase s.decls.list [] false front inside rest (subst (λ (x : List Step). AreGoodSteps s.decls.list [] false x) is good.steps) in
    let same : reverse (reverse h) ++ [] ≡ h = append-nil (reverse (reverse h)) ∙ reverse-reverse h in
    phases_apart s.decls.list (steps_attached front []) inside h phase
    (λ n a. subst (λ (x : List NodeEntry). IsAttached x n) same
    (steps_attach order (streams_of s.decls.list) (λ stream. false) front [] (reverse h) [] (λ m b. absurd (let t : false ≡ true = b in cc)) of n a))
