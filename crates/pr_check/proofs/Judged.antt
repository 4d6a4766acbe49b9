-- What a judge stands for behind one line more.
use Rattle.std.specs.Prelude.{map}
use Rattle.std.proofs.Common.{◌≡◌, ◌<◌, ◌+◌, ℕ, Bool, true, false, cond, List, [], ◌∷◌, ◌++◌, length, inl, inr, Option, Some, Result, Ok, Err, refl, sym, ap, subst, ◌∙◌, arith}
use Rattle.std.specs.Prelude.{IsTrue}
use Rattle.std.proofs.lemmas.List.{append-nil, length-append}
use Rattle.pr_script.specs.declared.decl.Decl.{Decl}
use Rattle.pr_script.specs.Listed.{Declarations}
use Rattle.pr_script.specs.Good.{AreGoodDecls}
use Rattle.pr_script.specs.Printing.{decl_lines}
use Rattle.pr_script.proofs.GoodScripts.{are_good}
use Rattle.pr_script.proofs.WholeScript.{push_decl}
use Rattle.pr_sim.specs.Making.{declared_of}
use Rattle.pr_sim.specs.Running.{IsRunning}
use Rattle.pr_sim.specs.declared.engine.Engine.{Engine}
use Rattle.pr_story.specs.Counts.{Counts, HasEvent}
use Rattle.pr_story.specs.History.{NodeEntry}
use Rattle.pr_story.specs.declared.event.Event.{Event}
use Rattle.pr_story.specs.declared.event.Event.TheVariants.{Wrote, Attached, Sent, Idle, Stale, Accepted, Gapped, Missing, Down, Answered, Behind, Moved, Cut, Dropped, Conflicts, State}
use Rattle.pr_inval.specs.declared.kind.Kind.{Kind}
use Rattle.pr_inval.specs.declared.kind.Kind.TheVariants.{Precise, Imprecise, Checkpoint, Body}
use Rattle.pr_text.specs.Lines.{sentence}
use Rattle.pr_text.specs.Numbers.{counts_of}
use Rattle.pr_check.specs.Asking.{HasAllAttached, IsReplayed, IsSayable}
use Rattle.pr_check.specs.Heads.{AreAccepted, Declares, begins_head}
use Rattle.pr_check.specs.Judging.{AreBehind, BeginsOk, BeginsTranscript, IsAsHead, IsBroken, IsTranscript, end_line, told_lines}
use Rattle.pr_check.specs.Lines.{IsEventLine, Says}
use Rattle.pr_check.specs.Said.{said_of, sending_of}
use Rattle.pr_check.specs.Standing.{HasEnded, HasReplayed, IsUsable, IsVerdict, Judges, StandsAt}
use Rattle.pr_stamps.specs.declared.no_memory.NoMemory.{NoMemory}
use Rattle.pr_check.specs.declared.judge.Judge.{Judge}
use Rattle.pr_check.specs.declared.verdict.Verdict.{Verdict}
use Rattle.pr_check.specs.declared.verdict.Verdict.TheVariants as verdicts
use Rattle.pr_check.specs.declared.said.Said.{Said}
use Rattle.pr_check.specs.declared.said.Said.TheVariants as saids
use Rattle.pr_check.specs.declared.stage.Stage.{Stage}
use Rattle.pr_check.specs.declared.stage.Stage.TheVariants as stages
use Rattle.std.specs.List.{AllZip}
use Rattle.std.specs.Str.{bytes_eq}
use Rattle.std.proofs.lemmas.Slice.Zip.{AllZip-long}
use Rattle.pr_script.proofs.Positions.{bytes_differ}
use Rattle.pr_sets.specs.Sets.{rest_of}
use Rattle.pr_sets.specs.Spans.{has}
use Rattle.pr_story.specs.History.{Plan}
use Rattle.pr_story.specs.Lawful.{IsLawful}
use Rattle.pr_story.proofs.Counts.{histories_name}
use Rattle.pr_story.proofs.Steps.{entry_at}
use Rattle.pr_text.specs.Transcripts.{plan_of}
use Rattle.pr_check.specs.Heads.{IsHead}
use Rattle.pr_check.specs.Judging.{IsAlone, MayNotCome}
use Rattle.pr_check.specs.Lines.{HasSets, IsTellableAt}
use Rattle.pr_check.proofs.Begun.{not_both}
use Rattle.pr_check.proofs.Compared.{tells}
use Rattle.pr_check.proofs.Begun.{heads_told, many_told, no_head, no_head_last, no_transcript, one_more_told}

-- ---- head lines

pub fresh : (ds : List Decl) → ds ≡ [] → [] ≡ decl_lines [] ds
unfolding decl_lines
fresh ds is = ap (λ (xs : List Decl). decl_lines [] xs) (sym is)

pub one_head : (ds : List Decl) (line : List ℕ) (more : Declarations) → Declares ds line (Some more) → decl_lines [] ds ++ line ∷ [] ≡ decl_lines [] more.list
one_head ds line more (d, is, head) =
    ap (λ (l : List ℕ). decl_lines [] ds ++ l ∷ []) head.text ∙ sym (push_decl [] ds d) ∙ ap (λ (xs : List Decl). decl_lines [] xs) (sym is)

pub head_begins : (ds : List Decl) (line : List ℕ) (more : Declarations) → AreAccepted more.list → Declares ds line (Some more) → BeginsTranscript (decl_lines [] ds ++ line ∷ [])
head_begins ds line more accepted is = inl (more.list, accepted, ([], append-nil (decl_lines [] ds ++ line ∷ []) ∙ one_head ds line more is))

pub good_decls : (ds : List Decl) → AreAccepted ds → AreGoodDecls ds
good_decls ds (s, means, is) = subst AreGoodDecls is (are_good _ s means).decls

pub new_replays : (ds : List Decl) (e : Engine) (lines : List (List ℕ)) → IsRunning (declared_of ds) (λ s. false) [] e → lines ≡ decl_lines [] ds → HasReplayed ds e lines
new_replays ds e lines k is = ((λ s. false), [], k, (λ s was. absurd was), heads_told ds lines is)

-- ---- what a line says is declared

sendable : (k : Counts) (stream : ℕ) (kind : Kind) → stream < k.streams → IsSayable k (saids.Asked (sending_of stream kind))
sendable k stream (Checkpoint to target floor rows) lt = lt
sendable k stream (Precise from to write) lt = lt
sendable k stream (Imprecise from to target) lt = lt
sendable k stream (Body name stamp bytes) lt = lt

emptied : (gone : Bool) (body : List ℕ) → IsTrue gone → cond gone [] body ≡ []
emptied true body t = refl
emptied false body t = absurd (cc)

sayable : (k : Counts) (n : ℕ) (event : Event) → n < k.nodes → HasEvent k event → IsSayable k (said_of n event)
sayable k n (Wrote client write body after) lt has = (has.0, emptied write.gone body)
sayable k n (Attached stream at) lt has = has.0
sayable k n (Sent msg) lt has = sendable k msg.stream msg.kind has.0
sayable k n (Idle stream) lt has = has
sayable k n (Stale stream cut) lt has = has.0
sayable k n (Accepted msg at) lt has = has.0.0
sayable k n (Gapped msg has_it) lt has = has.0.0
sayable k n (Missing stream number) lt has = has
sayable k n (Down stream cause) lt has = has
sayable k n (Answered client name reply at) lt has = has.0
sayable k n (Behind client needs had) lt has = has.0
sayable k n (Moved client) lt has = (has, lt)
sayable k n (Cut at) lt has = lt
sayable k n (Dropped name) lt has = lt
sayable k n (Conflicts name found) lt has = lt
sayable k n (State at cut floor precise) lt has = lt

pub says_sayable : (ds : List Decl) (line : List ℕ) (said : Said) → Says ds line (Some said) → IsSayable (counts_of ds) said
says_sayable ds line said ((n, event, told), only) =
    subst (λ (s : Said). IsSayable (counts_of ds) s) (only n event told) (sayable (counts_of ds) n event told.0.0 told.0.1.declared)

-- ---- events' lines

pub event_begins : (ds : List Decl) (line : List ℕ) (lines : List (List ℕ)) (after : ℕ → Bool) (h : List NodeEntry) (made : NodeEntry) (e : Engine) → AreAccepted ds → lines ≡ told_lines ds h
    → IsRunning (declared_of ds) after (made ∷ h) e → sentence ds made.node made.entry.event ≡ line → BeginsTranscript (lines ++ line ∷ [])
event_begins ds line lines after h made e accepted is k same =
    inr (inl (ds, accepted, (made ∷ h, record { valid = k.stands.valid; declared = k.speaks }, one_more_told ds h made lines line is same)))

pub event_stands : (ds : List Decl) (line : List ℕ) (lines : List (List ℕ)) (after : ℕ → Bool) (h : List NodeEntry) (made : NodeEntry) (e : Engine) → lines ≡ told_lines ds h
    → IsRunning (declared_of ds) after (made ∷ h) e → HasAllAttached after (made ∷ h) → sentence ds made.node made.entry.event ≡ line → StandsAt ds (stages.Events e) (lines ++ line ∷ [])
event_stands ds line lines after h made e is k all same = (
  (after, made ∷ h, k, all, one_more_told ds h made lines line is same),
  λ heads. no_head_last heads.0 lines line (ap begins_head (sym same) ∙ no_head ds made.node made.entry.event) heads.2,
)

-- ---- the last line

pub end_stands : (ds : List Decl) (line : List ℕ) (lines : List (List ℕ)) (attached : ℕ → Bool) (h : List NodeEntry) (e : Engine) → lines ≡ told_lines ds h → IsRunning (declared_of ds) attached h e
    → line ≡ end_line (length ds + length h) → StandsAt ds (stages.Ended e) (lines ++ line ∷ [])
end_stands ds line lines attached h e is k same = (
  h,
  record { valid = k.stands.valid; declared = k.speaks },
  tells (declared_of ds) attached h e k,
  ap (λ (ls : List (List ℕ)). ls ++ line ∷ []) is ∙ ap (λ (l : List ℕ). told_lines ds h ++ l ∷ []) (same ∙ ap end_line (sym (many_told ds h))),
)

pub ended_whole : (ds : List Decl) (e : Engine) (lines : List (List ℕ)) → AreAccepted ds → HasEnded ds e lines → IsTranscript lines
ended_whole ds e lines accepted (h, alone, told, is) = (ds, accepted, (h, alone, is))

pub end_begins : (ds : List Decl) (e : Engine) (lines : List (List ℕ)) → AreAccepted ds → HasEnded ds e lines → BeginsTranscript lines
end_begins ds e lines accepted ended = inr (inr (ended_whole ds e lines accepted ended))

-- ---- the whole text

pub not_whole : (ds : List Decl) (stage : Stage) (lines : List (List ℕ)) → StandsAt ds stage lines → ((e : Engine) → stage ≡ stages.Ended e → ⊥) → IsTranscript lines → ⊥
not_whole ds stages.Heads lines stands other whole = no_transcript ds [] lines (heads_told ds lines stands) whole
not_whole ds (stages.Events e) lines stands other whole = no_transcript ds stands.0.1 lines stands.0.4 whole
not_whole ds (stages.Ended e) lines stands other whole = other e refl
not_whole ds stages.Spent lines stands other whole = stands

-- ---- a bad line

pub behind : (ds : List Decl) (e : Engine) (lines : List (List ℕ)) → AreAccepted ds → HasReplayed ds e lines → AreBehind ds lines
behind ds e lines accepted r = (accepted, (r.1, record { valid = r.2.stands.valid; declared = r.2.speaks }, inl r.4))

pub not_yet : (ds : List Decl) (e : Engine) (lines : List (List ℕ)) → HasReplayed ds e lines → IsTranscript lines → ⊥
not_yet ds e lines r whole = no_transcript ds r.1 lines r.4 whole

pub bad_head : (ds : List Decl) (line : List ℕ) → AreAccepted ds → IsTrue (begins_head line) → ((d : Decl) → IsHead ds line d → ⊥) → IsBroken (decl_lines [] ds) line 1
bad_head ds line accepted head none = record {
  ds = ds;
  behind = (accepted, ([], record { valid = tt; declared = tt }, inl (heads_told ds (decl_lines [] ds) refl)));
  breaks = inl (refl, (((ds, accepted, refl), head), none));
}

pub no_line : (ds : List Decl) (e : Engine) (lines : List (List ℕ)) (line : List ℕ) → AreAccepted ds → HasReplayed ds e lines → (IsAsHead lines line → ⊥) → (IsEventLine ds line → ⊥) → (BeginsOk line → ⊥) → IsBroken lines line 2
no_line ds e lines line accepted r head event ok = record {
  ds = ds;
  behind = behind ds e lines accepted r;
  breaks = inr (inl (refl, (not_yet ds e lines r, head, event, ok)));
}

pub bad_event : (ds : List Decl) (e : Engine) (lines : List (List ℕ)) (line : List ℕ) → AreAccepted ds → HasReplayed ds e lines → IsEventLine ds line → MayNotCome ds lines line → IsBroken lines line 3
bad_event ds e lines line accepted r event may_not = record {
  ds = ds;
  behind = behind ds e lines accepted r;
  breaks = inr (inr (inl (refl, (not_yet ds e lines r, event, may_not))));
}

pub bad_end : (ds : List Decl) (e : Engine) (lines : List (List ℕ)) (line : List ℕ) → AreAccepted ds → HasReplayed ds e lines → (IsEventLine ds line → ⊥) → BeginsOk line → (line ≡ end_line (length lines) → ⊥) → IsBroken lines line 4
bad_end ds e lines line accepted r event ok other = record {
  ds = ds;
  behind = behind ds e lines accepted r;
  breaks = inr (inr (inr (refl, inr (event, ok, other))));
}

pub past_end : (ds : List Decl) (e : Engine) (lines : List (List ℕ)) (line : List ℕ) → AreAccepted ds → HasEnded ds e lines → IsBroken lines line 4
past_end ds e lines line accepted (h, alone, told, is) = record {
  ds = ds;
  behind = (accepted, (h, alone, inr is));
  breaks = inr (inr (inr (refl, inl (ds, accepted, (h, alone, is)))));
}

-- ---- events that may come have their lines

has_sets : (plan : Plan) (h : List NodeEntry) (n t c : ℕ) (event : Event) → IsLawful plan h (entry_at n t c event) → HasSets event
has_sets plan h n t c (State at cut floor precise) l = λ none. some_set (map has (plan.sets n)) (rest_of (plan.sets n)) precise _ l.may_come.3 none
  where
    some_set : {A B : Type 0} (xs : List A) (x : A) (ys : List B) (R : A → B → Type 0) → AllZip R (xs ++ x ∷ []) ys → ys ≡ [] → ⊥
    some_set xs x ys R zip none =
        let l : length ys ≡ length (xs ++ x ∷ []) = AllZip-long R (xs ++ x ∷ []) ys zip in
        let m : length (xs ++ x ∷ []) ≡ length xs + 1 = length-append xs (x ∷ []) in
        let z : length ys ≡ 0 = ap (λ zs. length zs) none in
        omega arith
has_sets plan h n t c _ l = tt

pub tellable : (ds : List Decl) (h : List NodeEntry) (e : NodeEntry) → IsAlone ds (e ∷ h) → IsTellableAt ds e.node e.entry.event
tellable ds h e alone = (
  alone.declared.0.0,
  record {
    range = alone.valid.0.in_range;
    declared = (histories_name (plan_of ds) (counts_of ds) (e ∷ h) alone).1;
    sets = has_sets (plan_of ds) h e.node e.entry.time e.entry.caller e.entry.event alone.valid.0;
  },
)

pub may_not_come : (ds : List Decl) (e now : Engine) (lines : List (List ℕ)) (line : List ℕ) (found : Option Said) (said : Said) → (r : HasReplayed ds e lines) → found ≡ Some said → Says ds line found
    → IsReplayed ds said line r.0 r.1 now (Ok false) → MayNotCome ds lines line
may_not_come ds e now lines line found said r is says none = (
  r.1,
  record { valid = r.2.stands.valid; declared = r.2.speaks },
  r.4,
  λ other alone same. none r.3 other alone.valid.0
      ((subst (λ (o : Option Said). Says ds line o) is says).1 other.node other.entry.event (tellable ds r.1 other alone, ap (λ (xs : List ℕ). xs ++ 10 ∷ []) same)) same,
)

pub other_end : (ds : List Decl) (h : List NodeEntry) (lines : List (List ℕ)) (line : List ℕ) (b : Bool) → lines ≡ told_lines ds h → b ≡ bytes_eq (end_line (length ds + length h)) line → b ≡ false
    → line ≡ end_line (length lines) → ⊥
other_end ds h lines line b is says differs same =
    let many : length lines ≡ length ds + length h = ap (λ (ls : List (List ℕ)). length ls) is ∙ many_told ds h in
    not_both b (says ∙ bytes_differ (end_line (length ds + length h)) line (sym (same ∙ ap end_line many))) differs

pub event_line : (ds : List Decl) (line : List ℕ) (found : Option Said) (said : Said) → found ≡ Some said → Says ds line found → IsEventLine ds line
event_line ds line found said is says = (subst (λ (o : Option Said). Says ds line o) is says).0

-- ---- a judge

pub at_stage : (judge : Judge) (lines : List (List ℕ)) (stage : Stage) → Judges judge lines → judge.stage ≡ stage → StandsAt judge.decls.list stage lines
at_stage judge lines stage j is = subst (λ (s : Stage). StandsAt judge.decls.list s lines) is j.stands

pub judged : (judge : Judge) (stage : Stage) → IsUsable judge → judge.stage ≡ stage → (stage ≡ stages.Spent → ⊥) → (lines : List (List ℕ)) × Judges judge lines
judged judge stage (inl spent) is other = absurd (other (sym is ∙ spent))
judged judge stage (inr usable) is other = usable

pub usable_then : (lines : List (List ℕ)) (line : List ℕ) (now : Judge) (r : Result Verdict NoMemory) → IsVerdict lines line now r → IsUsable now
usable_then lines line now (Ok verdicts.Good) v = inr (lines ++ line ∷ [], v.1)
usable_then lines line now (Ok (verdicts.Bad why)) v = inl v.2
usable_then lines line now (Err fault) v = inl v

pub replayed_so : (ds : List Decl) (said : Said) (line : List ℕ) (attached : ℕ → Bool) (h : List NodeEntry) (e : Engine) (a b : Bool) → a ≡ b → IsReplayed ds said line attached h e (Ok a) → IsReplayed ds said line attached h e (Ok b)
replayed_so ds said line attached h e a b is r = subst (λ (x : Bool). IsReplayed ds said line attached h e (Ok x)) is r

pub not_ok : (b : Bool) (line : List ℕ) → b ≡ false → IsTrue b → ⊥
not_ok true line is t = absurd (cc)
not_ok false line is t = absurd (cc)
