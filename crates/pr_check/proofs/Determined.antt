-- A history without its callers' numbers is valid where the history is, is of the same script, and has one caller.
use Rattle.std.proofs.Common.{◌≡◌, ◌<◌, ℕ, Bool, true, false, cond, nat_eq, List, [], ◌∷◌, ◌++◌, map, length, get_or, reverse, filter, refl, sym, ◌∙◌, ap, subst, arith}
use Rattle.std.specs.Prelude.{All, AllPairs}
use Rattle.std.proofs.lemmas.List.{reverse-append, get_or-map, length-map}
use Rattle.pr_flow.specs.Sound.{AreSoundEvents, IsSoundEvent}
use Rattle.pr_story.specs.declared.cause.Cause.TheVariants.{Failed, Ended, Gap}
use Rattle.pr_story.specs.declared.event.Event.{Event}
use Rattle.pr_story.specs.declared.event.Event.TheVariants.{Down}
use Rattle.pr_story.specs.Commands.{Command}
use Rattle.pr_story.specs.History.{NodeEntry, Plan}
use Rattle.pr_story.specs.Lawful.{IsLawful, Valid}
use Rattle.pr_story.specs.Lines.{without_callers}
use Rattle.pr_story.specs.OneThread.{IsByNoWire, IsUndisturbed}
use Rattle.pr_story.specs.Scripts.{Job, ClientJob, FlowJob, JobEntry, JobGives, Line, Single, Expect, Detach, Flow, Settle, Phase, Order, JobAfterJob, ByTime, Precedes, EachJob, IsPhase, IsFlow, IsSettle, LineGives, AreOfCommands, AreOfLines, IsOfScript, attached_after, events_of, made_of, of_job}
use Rattle.pr_story.proofs.OneThread.{script_determines}
use Rattle.pr_check.specs.Determined.{SoundHistoriesAgree}
use Rattle.pr_check.proofs.CallersAside.{lawful_both}

-- ---- lists

abbrev bare : NodeEntry → NodeEntry
bare e = record { node = e.node; entry = record { time = e.entry.time; caller = 0; event = e.entry.event } }

pub bare_append : (a b : List NodeEntry) → without_callers (a ++ b) ≡ without_callers a ++ without_callers b
bare_append [] b = refl
bare_append (e ∷ a) b = λ i. bare e ∷ bare_append a b i

pub bare_reverse : (h : List NodeEntry) → without_callers (reverse h) ≡ reverse (without_callers h)
bare_reverse [] = refl
bare_reverse (e ∷ h) =
    ap (λ (z : List NodeEntry). without_callers z) (reverse-append (e ∷ []) h)
    ∙ bare_append (reverse h) (e ∷ [])
    ∙ ap (λ (z : List NodeEntry). z ++ (bare e ∷ [])) (bare_reverse h)
    ∙ sym (reverse-append (bare e ∷ []) (without_callers h))

bare_events : (h : List NodeEntry) → events_of (without_callers h) ≡ events_of h
bare_events [] = refl
bare_events (e ∷ h) = λ i. e.entry.event ∷ bare_events h i

-- what is said of the events is said without the callers' numbers
by_events : (P : List Event → Type 0) (es : List NodeEntry) → P (events_of es) → P (events_of (without_callers es))
by_events P es p = subst P (sym (bare_events es)) p

none_bare : (es : List NodeEntry) → es ≡ [] → without_callers es ≡ []
none_bare es e = ap (λ (z : List NodeEntry). without_callers z) e

-- ---- valid, and undisturbed

bare_valid : (plan : Plan) (h : List NodeEntry) → Valid plan h → Valid plan (without_callers h)
bare_valid plan [] v = tt
bare_valid plan (e ∷ h) v =
    let l : IsLawful plan (without_callers h) e = (lawful_both plan h e).back v.0 in
    (record { node = l.node; in_range = l.in_range; in_range_time = l.in_range_time; in_range_caller = omega arith; placed = l.placed; cause = l.cause; may_come = l.may_come; time = l.time }, bare_valid plan h v.1)

by_no_wire : (event : Event) → IsSoundEvent event → IsByNoWire event
by_no_wire (Down s Failed) sound = absurd sound
by_no_wire (Down s Ended) sound = absurd sound
by_no_wire (Down s Gap) sound = refl
by_no_wire _ sound = tt

bare_undisturbed : (h : List NodeEntry) → AreSoundEvents h → IsUndisturbed 0 (without_callers h)
bare_undisturbed [] sound = tt
bare_undisturbed (e ∷ h) sound = ((refl, by_no_wire e.entry.event sound.0), bare_undisturbed h sound.1)

-- ---- jobs

bare_commands : (commands : List Command) (es : List NodeEntry) → AreOfCommands commands es → AreOfCommands commands (without_callers es)
bare_commands [] es p = none_bare es p
bare_commands (command ∷ commands) [] p = p
bare_commands (command ∷ commands) (e ∷ es) p = (p.0, bare_commands commands es p.1)

bare_job : (job : Job) (es : List NodeEntry) → JobGives job es → JobGives job (without_callers es)
bare_job (ClientJob commands) es p = bare_commands commands es p
bare_job (FlowJob s turns) es p = by_events (IsFlow s turns) es p

-- ---- phases

abbrev bare_made : JobEntry → JobEntry
bare_made x = record { job = x.job; made = bare x.made }

made_bare : (xs : List JobEntry) → made_of (map bare_made xs) ≡ without_callers (made_of xs)
made_bare [] = refl
made_bare (x ∷ xs) = λ i. bare x.made ∷ made_bare xs i

own_by : (b : Bool) (e : NodeEntry) (es fs : List NodeEntry) → fs ≡ without_callers es → cond b (bare e ∷ fs) fs ≡ without_callers (cond b (e ∷ es) es)
own_by true e es fs same = ap (λ (z : List NodeEntry). bare e ∷ z) same
own_by false e es fs same = same

own_bare : (xs : List JobEntry) (k : ℕ) → of_job (map bare_made xs) k ≡ without_callers (of_job xs k)
own_bare [] k = refl
own_bare (x ∷ xs) k = own_by (nat_eq x.job k) x.made (of_job xs k) (of_job (map bare_made xs) k) (own_bare xs k)

at_bare : (xs : List JobEntry) (i : ℕ) (d : JobEntry) → i < length (map bare_made xs) → get_or (map bare_made xs) i d ≡ bare_made (get_or xs i d)
at_bare xs i d lt = get_or-map bare_made xs i d d (omega (arith, length-map xs bare_made))

all_below : (k : ℕ) (xs : List JobEntry) → All (λ (x : JobEntry). x.job < k) xs → All (λ (x : JobEntry). x.job < k) (map bare_made xs)
all_below k xs below i d lt =
    subst (λ (x : JobEntry). x.job < k) (sym (at_bare xs i d lt)) (below i d (omega (arith, length-map xs bare_made)))

each_bare : (jobs : List Job) (k : ℕ) (xs : List JobEntry) → EachJob JobGives jobs k xs → EachJob JobGives jobs k (map bare_made xs)
each_bare [] k xs p = all_below k xs p
each_bare (job ∷ jobs) k xs p =
    (subst (λ (es : List NodeEntry). JobGives job es) (sym (own_bare xs k)) (bare_job job (of_job xs k) p.0), each_bare jobs _ xs p.1)

precedes_bare : (order : Order) (x y : JobEntry) → Precedes order x y → Precedes order (bare_made x) (bare_made y)
precedes_bare JobAfterJob x y p = p
precedes_bare ByTime x y p = p

pairs_bare : (order : Order) (xs : List JobEntry) → AllPairs (Precedes order) xs → AllPairs (Precedes order) (map bare_made xs)
pairs_bare order xs p i j d lt within =
    let first : Precedes order (bare_made (get_or xs i d)) (bare_made (get_or xs j d)) = precedes_bare order (get_or xs i d) (get_or xs j d) (p i j d lt (omega (arith, length-map xs bare_made))) in
    let second : Precedes order (get_or (map bare_made xs) i d) (bare_made (get_or xs j d)) = subst (λ (x : JobEntry). Precedes order x (bare_made (get_or xs j d))) (sym (at_bare xs i d (omega arith))) first in
    subst (λ (y : JobEntry). Precedes order (get_or (map bare_made xs) i d) y) (sym (at_bare xs j d within)) second

bare_phase : (order : Order) (jobs : List Job) (es : List NodeEntry) → IsPhase JobGives order jobs es → IsPhase JobGives order jobs (without_callers es)
bare_phase order jobs es p =
    (map bare_made p.0, made_bare p.0 ∙ ap (λ (z : List NodeEntry). without_callers z) p.1, each_bare jobs 0 p.0 p.2, pairs_bare order p.0 p.3)

-- ---- lines and scripts

bare_line : (order : Order) (attached : List ℕ) (line : Line) (es : List NodeEntry) → LineGives order attached line es → LineGives order attached line (without_callers es)
bare_line order attached (Single command) es p = bare_commands (command ∷ []) es p
bare_line order attached Expect es p = none_bare es p
bare_line order attached (Detach s) es p = none_bare es p
bare_line order attached (Flow s turns) es p = by_events (IsFlow s turns) es p
bare_line order attached Settle es p = by_events (IsSettle attached) es p
bare_line order attached (Phase jobs) es p = bare_phase order jobs es p

bare_lines : (order : Order) (streams : List ℕ) (attached : ℕ → Bool) (lines : List Line) (es : List NodeEntry) → AreOfLines order streams attached lines es → AreOfLines order streams attached lines (without_callers es)
bare_lines order streams attached [] es p = none_bare es p
bare_lines order streams attached (line ∷ lines) es p = (
  without_callers p.0,
  without_callers p.1,
  ap (λ (z : List NodeEntry). without_callers z) p.2 ∙ bare_append p.0 p.1,
  bare_line order (filter attached streams) line p.0 p.3,
  bare_lines order streams (attached_after line attached) lines p.1 p.4,
)

bare_script : (order : Order) (streams : List ℕ) (lines : List Line) (h : List NodeEntry) → IsOfScript order streams lines h → IsOfScript order streams lines (without_callers h)
bare_script order streams lines h p =
    subst (λ (es : List NodeEntry). AreOfLines order streams (λ s. false) lines es) (bare_reverse h) (bare_lines order streams (λ s. false) lines (reverse h) p)

pub sound_histories_agree : SoundHistoriesAgree
sound_histories_agree plan streams lines h g v w a b p q =
    script_determines plan streams lines 0 (without_callers h) (without_callers g) (bare_valid plan h v) (bare_valid plan g w)
    (bare_undisturbed h a) (bare_undisturbed g b) (bare_script JobAfterJob streams lines h p) (bare_script JobAfterJob streams lines g q)
